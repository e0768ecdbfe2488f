-- Why a text is no number, no code and no place. Assumes nothing.
use Prim.Native.Nat.{ℕ, zero, suc, ◌+◌, ◌-◌, ◌≤◌, ◌<◌}
use mathlib.Core.Path.{◌≡◌, refl, sym, ap, ◌∙◌, subst}
use mathlib.Core.Bool.{Bool, true, false}
use mathlib.Core.List.{List, [], ◌∷◌, ◌++◌}
use mathlib.Core.Logic.{◌⊎◌, inl, inr, ⊎_elim}
use native.Mathlib.Nat.{add-zero}
use native.Mathlib.Omega.{arith}
use lib.IntN.{ℤ}
use lib.ListN.{length, take, drop, length-append, length-drop}
use lib.Seq.{drop-cons, drop-drop, get_or-append-add, get_or-drop}
use Rattle.ground.specs.Lists.{byte}
use Rattle.commands.specs.Numbers.{Decimal, Integer, marked}
use Rattle.commands.specs.Codes.{Plain, Hex, Unhex, Spells, none, plain, escaped, Writes}
use Rattle.commands.specs.declared.Glyph.{Glyph}
use Rattle.commands.specs.Lines.{Spaceless}

-- ---- spaces

tail : (x : ℕ) (w : List ℕ) → Spaceless (x ∷ w) → Spaceless w
tail x w s k h e = s (suc k) (omega arith) e

-- a line has one first space
pub split_one : (a c b d : List ℕ) → Spaceless a → Spaceless c → a ++ (32 ∷ b) ≡ c ++ (32 ∷ d) → (a ≡ c) × (b ≡ d)
split_one [] [] b d p q e = (refl, cc)
split_one [] (y ∷ c) b d p q e = absurd (q 0 (omega arith) (cc))
split_one (x ∷ a) [] b d p q e = absurd (p 0 (omega arith) (cc))
split_one (x ∷ a) (y ∷ c) b d p q e =
    let h : x ≡ y = cc in
    let t : a ++ (32 ∷ b) ≡ c ++ (32 ∷ d) = cc in
    let r = split_one a c b d (tail x a p) (tail y c q) t in
    let u : a ≡ c = r.0 in
    (cc, r.1)

pub no_space : (w a b : List ℕ) → Spaceless w → w ≡ a ++ (32 ∷ b) → ⊥
no_space w a b s e =
    let l : length w ≡ length a + length (32 ∷ b) = ap length e ∙ length-append a (32 ∷ b) in
    let g : byte (a ++ (32 ∷ b)) (length a) ≡ 32 = subst (λ (k : ℕ). byte (a ++ (32 ∷ b)) k ≡ 32) (add-zero (length a)) (get_or-append-add a (32 ∷ b) 0 0) in
    s (length a) (omega arith) (ap (λ (x : List ℕ). byte x (length a)) e ∙ g)

pub digits_spaceless : (n : ℕ) (d : List ℕ) → Decimal n d → Spaceless d
digits_spaceless n d i k h e = omega (arith, (i.each k h).least)

marked_spaceless : (m : Bool) (d : List ℕ) → Spaceless d → Spaceless (marked m d)
marked_spaceless false d s k h e = s k h e
marked_spaceless true d s zero h e = omega arith
marked_spaceless true d s (suc k) h e = s k (omega arith) e

pub integer_spaceless : (z : ℤ) (w : List ℕ) → Integer z w → Spaceless w
integer_spaceless z w i = subst Spaceless (sym i.text) (marked_spaceless i.minus i.digits (digits_spaceless i.size i.digits i.sized))

hex_graphic : (b h : ℕ) → Hex b h → 33 ≤ b
hex_graphic b h (inl x) = omega (arith, x.0)
hex_graphic b h (inr x) = ⊎_elim (λ e. omega arith) (λ e. omega arith) x.0

pub spells_spaceless : {w c : List ℕ} → Spells w c → Spaceless w
spells_spaceless none k h e = omega arith
spells_spaceless (plain p s) zero h e = omega (arith, p.least)
spells_spaceless (plain p s) (suc k) h e = spells_spaceless s k (omega arith) e
spells_spaceless (escaped x y s) zero h e = omega arith
spells_spaceless (escaped x y s) (suc zero) h e = omega (arith, hex_graphic _ _ x)
spells_spaceless (escaped x y s) (suc (suc zero)) h e = omega (arith, hex_graphic _ _ y)
spells_spaceless (escaped x y s) (suc (suc (suc k))) h e = spells_spaceless s k (omega arith) e

-- ---- numbers

pub marked_long : (m : Bool) (d : List ℕ) → length d ≤ length (marked m d)
marked_long false d = omega arith
marked_long true d = omega arith

-- ---- codes

-- how a code's text begins
abbrev Escape : List ℕ → Type 0
Escape v = (x : ℕ) × ((y : ℕ) × ((u : List ℕ) × ((v ≡ x ∷ (y ∷ u)) × (Unhex x → ⊥) × (Unhex y → ⊥))))

starts : {v c : List ℕ} → Spells v c → (b : ℕ) (u : List ℕ) → v ≡ b ∷ u → Plain b ⊎ ((b ≡ 37) × Escape u)
starts none b u e = absurd (let z : ◌≡◌ {A = ℕ} 0 1 = cc in omega arith)
starts (plain {b} p s) a u e = let h : b ≡ a = cc in inl (subst Plain h p)
starts (escaped {x} {y} {i} {j} {w} p q s) b u e = let f : u ≡ x ∷ (y ∷ w) = cc in inr (cc, (x, (y, (w, (f, (λ n. n i p), (λ n. n j q))))))

-- no code's text at i
module _ (w : List ℕ) (i : ℕ) (h : i < length w) where
  pub no_start : (Plain (byte w i) → ⊥) → (byte w i ≡ 37 → Escape (drop (suc i) w) → ⊥) → (c : List ℕ) → Spells (drop i w) c → ⊥
  no_start p q c s = ⊎_elim p (λ x. q x.0 x.1) (starts s (byte w i) (drop (suc i) w) (drop-cons w i 0 h))

  pub too_low : byte w i < 33 → (c : List ℕ) → Spells (drop i w) c → ⊥
  too_low l = no_start (λ p. omega (arith, p.least)) (λ e _. omega arith)

  pub too_high : 126 < byte w i → (c : List ℕ) → Spells (drop i w) c → ⊥
  too_high l = no_start (λ p. omega (arith, p.most)) (λ e _. omega arith)

  module _ (e : byte w i ≡ 37) where
    pub too_short : length w - i < 3 → (c : List ℕ) → Spells (drop i w) c → ⊥
    too_short l = no_start (λ p. p.other e) (λ _ x. omega (arith, length-drop (suc i) w, ap length x.1.1.1.0))

    from_escape : (k : ℕ) (v : List ℕ) → drop (suc i) w ≡ v → byte w (suc i + k) ≡ byte v k
    from_escape k v f = sym (get_or-drop (suc i) w k 0) ∙ ap (λ (x : List ℕ). byte x k) f

    pub first_other : Unhex (byte w (i + 1)) → (c : List ℕ) → Spells (drop i w) c → ⊥
    first_other n = no_start (λ p. p.other e) (λ _ x.
        let a : suc i + 0 ≡ i + 1 = omega arith in
        let f : byte w (i + 1) ≡ x.0 = subst (λ (k : ℕ). byte w k ≡ x.0) a (from_escape 0 _ x.1.1.1.0) in
        x.1.1.1.1 (subst Unhex f n))

    pub second_other : Unhex (byte w (i + 2)) → (c : List ℕ) → Spells (drop i w) c → ⊥
    second_other n = no_start (λ p. p.other e) (λ _ x.
        let a : suc i + 1 ≡ i + 2 = omega arith in
        let f : byte w (i + 2) ≡ x.1.0 = subst (λ (k : ℕ). byte w k ≡ x.1.0) a (from_escape 1 _ x.1.1.1.0) in
        x.1.1.1.2 (subst Unhex f n))

-- ---- a code's text, one byte further

none_taken : (s : ℕ) (v : List ℕ) → take s v ≡ [] → drop s v ≡ v
none_taken zero v e = refl
none_taken (suc s) [] e = refl
none_taken (suc s) (x ∷ v) e = absurd (let z : ◌≡◌ {A = ℕ} 0 1 = cc in omega arith)

nothing_spelled : {w c : List ℕ} → Spells w c → c ≡ [] → w ≡ []
nothing_spelled none e = refl
nothing_spelled (plain p s) e = absurd (let z : ◌≡◌ {A = ℕ} 0 1 = cc in omega arith)
nothing_spelled (escaped x y s) e = absurd (let z : ◌≡◌ {A = ℕ} 0 1 = cc in omega arith)

pub some_spelled : {w c : List ℕ} → Spells w c → 1 ≤ length w → 1 ≤ length c
some_spelled none h = h
some_spelled (plain p s) h = omega arith
some_spelled (escaped x y s) h = omega arith

-- v is the text of n bytes less one
abbrev Rest : List ℕ → ℕ → Type 0
Rest v n = (d : List ℕ) × (Spells v d × (n ≡ suc (length d)))

rest : (s : ℕ) {w c : List ℕ} → take s w ≡ [] → Spells w c → Rest (drop s w) (suc (length c))
rest s {w} {c} f x = (c, (subst (λ (u : List ℕ). Spells u c) (sym (none_taken s w f)) x, refl))

after_plain : (s b : ℕ) {v c : List ℕ} → Plain b → take s v ≡ b ∷ [] → Spells v c → Rest (drop s v) (length c)
after_plain zero b p e x = absurd (let z : ◌≡◌ {A = ℕ} 0 1 = cc in omega arith)
after_plain (suc s) b p e none = absurd (let z : ◌≡◌ {A = ℕ} 0 1 = cc in omega arith)
after_plain (suc s) b p e (plain {w} q x) = let f : take s w ≡ [] = cc in rest s f x
after_plain (suc s) b p e (escaped x y q) = absurd (p.other (cc))

after_escape : (s x y : ℕ) {v c : List ℕ} → take s v ≡ 37 ∷ (x ∷ (y ∷ [])) → Spells v c → Rest (drop s v) (length c)
after_escape zero x y e q = absurd (let z : ◌≡◌ {A = ℕ} 0 1 = cc in omega arith)
after_escape (suc s) x y e none = absurd (let z : ◌≡◌ {A = ℕ} 0 1 = cc in omega arith)
after_escape (suc s) x y e (plain q r) = absurd (q.other (cc))
after_escape (suc zero) x y e (escaped a b q) = absurd (let z : ◌≡◌ {A = ℕ} 0 1 = cc in omega arith)
after_escape (suc (suc zero)) x y e (escaped a b q) = absurd (let z : ◌≡◌ {A = ℕ} 0 1 = cc in omega arith)
after_escape (suc (suc (suc s))) x y e (escaped {w} a b q) = let f : take s w ≡ [] = cc in rest s f q

forward : (s g : ℕ) {v c t d : List ℕ} → Spells t d → t ≡ take s v → d ≡ g ∷ [] → Spells v c → Rest (drop s v) (length c)
forward s g none e f y = absurd (let z : ◌≡◌ {A = ℕ} 0 1 = cc in omega arith)
forward s g {v} (plain {b} {w} {c} p x) e f y =
    let h : c ≡ [] = cc in
    let n : w ≡ [] = nothing_spelled x h in
    let u : take s v ≡ b ∷ [] = cc in
    after_plain s b p u y
forward s g {v} (escaped {x} {y} {w} {c} a b q) e f z =
    let h : c ≡ [] = cc in
    let n : w ≡ [] = nothing_spelled q h in
    let u : take s v ≡ 37 ∷ (x ∷ (y ∷ [])) = cc in
    after_escape s x y u z

-- of each code that w is the text of, n bytes stand before i
abbrev pub Follows : List ℕ → ℕ → ℕ → Type 0
Follows w i n = (c : List ℕ) → Spells w c → (d : List ℕ) × (Spells (drop i w) d × (length c ≡ n + length d))

pub follows_none : (w : List ℕ) → Follows w 0 0
follows_none w c s = (c, (s, omega arith))

pub follows_more : (w : List ℕ) (i n : ℕ) (g : Glyph) → Follows w i n → Writes w i g → Follows w (i + g.size) (n + 1)
follows_more w i n g f o c s =
    let r = f c s in
    let q = forward g.size g.byte o.spells refl refl r.1.0 in
    (q.0, (subst (λ (v : List ℕ). Spells v q.0) (drop-drop g.size i w) q.1.0, omega (arith, r.1.1, q.1.1)))
