-- Texts that are put together piece by piece. Assumes nothing.
use Prim.Native.Nat.{ℕ, zero, suc, ◌+◌, ◌*◌, ◌-◌, ◌/◌, ◌%◌, ◌^◌, ◌≤◌, ◌<◌}
use mathlib.Core.Path.{◌≡◌, refl, sym, ap, ◌∙◌, subst}
use mathlib.Core.Bool.{Bool, true, false, cond}
use mathlib.Core.List.{List, [], ◌∷◌, ◌++◌, append_assoc, append-nil}
use mathlib.Core.Logic.{◌⊎◌, inl, inr}
use native.Mathlib.Nat.{add-zero, sub-zero, mod-lt}
use native.Mathlib.Numerals.{add-one}
use native.Mathlib.Omega.{arith}
use lib.Dec.{ltb, eqb}
use lib.ListN.{length, take, drop, set, length-append, length-drop, length-set}
use lib.Seq.{take-add, take_at, take-take, take-suc, drop-cons, drop-set-lt, get_or-set_same, length-take-le}
use borrow.Author.Tests.{lt-ltb, le-ltb, eq-eqb, ne_eqb}
use Rattle.ground.specs.Lists.{byte, part}
use Rattle.ground.proofs.Sides.{side}
use Rattle.ground.proofs.Parts.{part_is, part_same}
use Rattle.words.specs.Moves.{Copied}
use Rattle.io.specs.Digits.{last_digits, hex_digit_ascii}
use Rattle.store.specs.declared.Refusal.{Refusal}
use Rattle.store.specs.Tables.{Out, Numbered, refusal}
use Rattle.store.proofs.Demands.Meaning.{by_refusal}
use Rattle.commands.specs.Numbers.{decimal, width}
use Rattle.commands.specs.Codes.{upper, escape, glyphs, shown}
use Rattle.commands.specs.Texts.{text}
use Rattle.commands.specs.Answers.{Adds, Lines, because, numbered, shows, why}

front : (p q : List ℕ) (n : ℕ) → n ≤ length p → n ≤ length q → ((i : ℕ) → i < n → byte q i ≡ byte p i) → take n q ≡ take n p
unfolding part
front p q n hp hq e = part_same p q 0 n (omega arith) (omega arith) (λ i l h. e i (omega arith))

pub added : (p : List ℕ) (at : ℕ) (b q : List ℕ) → at + length b ≤ length p → Copied p at b q → Adds b p at q (at + length b)
unfolding part
added p at b q h c =
    let l : length q ≡ length p = c.old.len in
    let x : take (length b) (drop at q) ≡ b = part_is q at b (omega arith) c.new in
    let y : take at q ≡ take at p = front p q at (omega arith) (omega arith) (λ i k. c.old.below i k) in
    record { next = refl; said = take-add at (length b) q ∙ rw (x, y); long = l }

-- one piece after another
pub then : {v w p q s : List ℕ} {at r u : ℕ} → Adds v p at q r → Adds w q r s u → Adds (v ++ w) p at s u
then {v} {w} {p} {q} {s} {at} {r} {u} a b =
    record { next = rw length-append (omega (arith, a.next, b.next)); said = b.said ∙ rw (a.said, append_assoc); long = b.long ∙ a.long }

-- the same piece, written otherwise
pub as_text : {v w p q : List ℕ} {at r : ℕ} → v ≡ w → Adds v p at q r → Adds w p at q r
as_text {v} {w} {p} {q} {at} {r} e a = subst (λ (t : List ℕ). Adds t p at q r) e a

-- a word, a space and what follows them
pub word_then : (w : List ℕ) {v p q s : List ℕ} {at r u : ℕ} → Adds (w ++ (32 ∷ [])) p at q r → Adds v q r s u → Adds (w ++ (32 ∷ v)) p at s u
word_then w {v} a b = as_text (append_assoc w (32 ∷ []) v) (then a b)

-- the first part of what was added
pub cut : (v w : List ℕ) {p q : List ℕ} {at r : ℕ} → at ≤ length p → Adds (v ++ w) p at q r → Adds v p at q (at + length v)
cut v w {p} {q} {at} {r} h a =
    let k : at + length v ≤ r = omega (arith, a.next, length-append v w) in
    let l : length (take at p ++ v) ≡ at + length v = length-append (take at p) v ∙ ap (λ (n : ℕ). n + length v) (length-take-le at p h) in
    record {
      next = refl;
      said = sym (take-take (at + length v) r q k) ∙ ap (λ (s : List ℕ). take (at + length v) s) (a.said ∙ sym (append_assoc (take at p) v w)) ∙ take_at (take at p ++ v) w (at + length v) l;
      long = a.long;
    }

-- ---- codes

pub glyphs_low : (b : ℕ) → b < 33 → glyphs b ≡ escape b
glyphs_low b h = simp (lt-ltb b 33 h)

pub glyphs_high : (b : ℕ) → 33 ≤ b → 126 < b → glyphs b ≡ escape b
glyphs_high b l h = simp (le-ltb b 33 l, lt-ltb 126 b h)

pub glyphs_percent : (b : ℕ) → 33 ≤ b → b ≤ 126 → b ≡ 37 → glyphs b ≡ escape b
glyphs_percent b l h e = simp (le-ltb b 33 l, le-ltb 126 b h, eq-eqb b 37 e)

pub glyphs_plain : (b : ℕ) → 33 ≤ b → b ≤ 126 → (b ≡ 37 → ⊥) → glyphs b ≡ b ∷ []
glyphs_plain b l h e = simp (le-ltb b 33 l, le-ltb 126 b h, ne_eqb b 37 e)

short : (x : Bool) (s t : List ℕ) → length s ≤ 3 → length t ≤ 3 → length (cond x s t) ≤ 3
short true s t a b = a
short false s t a b = b

pub glyphs_short : (b : ℕ) → length (glyphs b) ≤ 3
glyphs_short b =
    short (ltb b 33) _ _ (omega arith)
    (short (ltb 126 b) _ _ (omega arith) (short (eqb b 37) _ _ (omega arith) (omega arith)))

shown_more : (c : List ℕ) (b : ℕ) → shown (c ++ (b ∷ [])) ≡ shown c ++ glyphs b
unfolding shown
shown_more [] b = append-nil _
shown_more (x ∷ c) b = rw (shown_more c b, append_assoc)

pub shown_next : (c : List ℕ) (i : ℕ) → i < length c → shown (take (i + 1) c) ≡ shown (take i c) ++ glyphs (byte c i)
shown_next c i h = rw (add-one, take-suc c i 0 h) (shown_more (take i c) (byte c i))

pub shown_none : (c : List ℕ) → shown (take 0 c) ≡ []
unfolding shown
shown_none c = refl

pub escape_is : (b x y : ℕ) → x ≡ upper (b / 16) → y ≡ upper (b % 16) → 37 ∷ x ∷ y ∷ [] ≡ escape b
escape_is b x y e f = rw (e, f)

-- a code, byte after byte
pub nothing : (p code : List ℕ) (at : ℕ) → Adds (shown (take 0 code)) p at p at
nothing p code at = as_text (sym (shown_none code)) (record { next = omega arith; said = sym (append-nil _); long = refl })

module _ (p q s code : List ℕ) (at r u i : ℕ) (h : i < length code) (a : Adds (shown (take i code)) p at q r) (b : Adds (glyphs (byte code i)) q r s u) where
  pub code_more : Adds (shown (take (i + 1) code)) p at s u
  code_more = as_text (sym (shown_next code i h)) (then a b)

  pub code_end : u ≤ r + 3
  code_end = omega (arith, b.next, glyphs_short (byte code i))

-- ---- numbers

fuel_step : (f g n : ℕ) → (n < 10) ⊎ (10 ≤ n) → (10 ≤ n → width f (n / 10) ≡ width g (n / 10)) → width (suc f) n ≡ width (suc g) n
unfolding width
fuel_step f g n (inl l) r = simp (lt-ltb n 10 l)
fuel_step f g n (inr l) r = simp (le-ltb n 10 l) (ap suc (r l))

width_fuel : (f g n : ℕ) → n ≤ f → n ≤ g → width f n ≡ width g n
unfolding width
width_fuel zero zero n a b = refl
width_fuel zero (suc g) n a b = let h : n < 10 = omega arith in simp (lt-ltb n 10 h)
width_fuel (suc f) zero n a b = let h : n < 10 = omega arith in simp (lt-ltb n 10 h)
width_fuel (suc f) (suc g) n a b = fuel_step f g n (side n 10) (λ l. width_fuel f g (n / 10) (omega arith) (omega arith))

pub width_small : (n : ℕ) → n < 10 → width n n ≡ 1
unfolding width
width_small zero h = refl
width_small (suc n) h = simp (lt-ltb (suc n) 10 h)

pub width_step : (n : ℕ) → 10 ≤ n → width n n ≡ suc (width (n / 10) (n / 10))
unfolding width
width_step zero h = absurd (omega arith)
width_step (suc n) h = simp (le-ltb (suc n) 10 h) (ap suc (width_fuel n (suc n / 10) (suc n / 10) (omega arith) (omega arith)))

most_step : (j n : ℕ) → (n < 10) ⊎ (10 ≤ n) → (10 ≤ n → width (n / 10) (n / 10) ≤ suc j) → width n n ≤ suc (suc j)
most_step j n (inl l) r = omega (arith, width_small n l)
most_step j n (inr l) r = omega (arith, width_step n l, r l)

pub width_most : (j n : ℕ) → n < 10 ^ suc j → width n n ≤ suc j
width_most zero n h = omega (arith, width_small n (omega arith))
width_most (suc j) n h = most_step j n (side n 10) (λ l. width_most j (n / 10) (omega arith))

pub width_two : (n : ℕ) → 10 ≤ n → n < 100 → width n n ≡ 2
width_two n a b = let e = width_step n a in let f = width_small (n / 10) (omega arith) in omega (arith, e, f)

pub width_three : (n : ℕ) → 100 ≤ n → n < 1000 → width n n ≡ 3
width_three n a b = let e = width_step n (omega arith) in let f = width_two (n / 10) (omega arith) (omega arith) in omega (arith, e, f)

ten_least : (k : ℕ) → 1 ≤ 10 ^ k
ten_least zero = omega arith
ten_least (suc k) = omega (arith, ten_least k)

pub width_is : (k n : ℕ) → 10 ^ k ≤ n → n < 10 * 10 ^ k → width n n ≡ k + 1
width_is zero n a b = width_small n (omega arith)
width_is (suc k) n a b =
    let p = ten_least k in
    let e = width_step n (omega (arith, p)) in
    let f = width_is k (n / 10) (omega arith) (omega arith) in
    omega (arith, e, f)

pub decimal_is : (n k : ℕ) → k ≡ width n n → last_digits 10 k n ≡ decimal n
unfolding decimal
decimal_is n k e = ap (λ (j : ℕ). last_digits 10 j n) e

-- ---- digits, the last one first

pub glyph_digit : (n : ℕ) → 48 + n % 10 ≡ hex_digit_ascii (n % 10)
glyph_digit n = simp (lt-ltb (n % 10) 10 (mod-lt n (omega arith)))

drop_set : (xs : List ℕ) (p v : ℕ) → p < length xs → drop p (set xs p v) ≡ v ∷ drop (suc p) xs
drop_set xs p v h = drop-cons (set xs p v) p 0 (rw length-set h) ∙ rw (get_or-set_same xs p v 0 h, drop-set-lt (suc p) xs p v (omega arith))

pub spell_start : (k n : ℕ) (xs : List ℕ) → last_digits 10 k n ≡ last_digits 10 k n ++ take (k - k) xs
spell_start k n xs = let z : k - k ≡ 0 = omega arith in rw z (sym (append-nil _))

spell_one : (k n j rest at : ℕ) (xs : List ℕ) → suc j ≤ k → at + j < length xs → last_digits 10 k n ≡ last_digits 10 (suc j) rest ++ take (k - suc j) (drop (at + suc j) xs)
    → last_digits 10 k n ≡ last_digits 10 j (rest / 10) ++ take (k - j) (drop (at + j) (set xs (at + j) (48 + rest % 10)))
spell_one k n j rest at xs h l e =
    let s : k - j ≡ suc (k - suc j) = omega arith in
    let t : at + suc j ≡ suc (at + j) = omega arith in
    let g : 48 + rest % 10 ≡ hex_digit_ascii (rest % 10) = glyph_digit rest in
    let d : drop (at + j) (set xs (at + j) (48 + rest % 10)) ≡ hex_digit_ascii (rest % 10) ∷ drop (suc (at + j)) xs = drop_set xs (at + j) (48 + rest % 10) l ∙ ap (λ (v : ℕ). v ∷ drop (suc (at + j)) xs) g in
    let u : take (k - j) (drop (at + j) (set xs (at + j) (48 + rest % 10))) ≡ hex_digit_ascii (rest % 10) ∷ take (k - suc j) (drop (suc (at + j)) xs) = rw (d, s) in
    let w : take (k - suc j) (drop (at + suc j) xs) ≡ take (k - suc j) (drop (suc (at + j)) xs) = ap (λ (m : ℕ). take (k - suc j) (drop m xs)) t in
    e ∙ append_assoc (last_digits 10 j (rest / 10)) (hex_digit_ascii (rest % 10) ∷ []) _ ∙ ap (λ (v : List ℕ). last_digits 10 j (rest / 10) ++ (hex_digit_ascii (rest % 10) ∷ v)) w ∙ ap (λ (v : List ℕ). last_digits 10 j (rest / 10) ++ v) (sym u)

pub spell_more : (k n i rest at : ℕ) (xs : List ℕ) → 0 < i → i ≤ k → at + (i - 1) < length xs → last_digits 10 k n ≡ last_digits 10 i rest ++ take (k - i) (drop (at + i) xs)
    → last_digits 10 k n ≡ last_digits 10 (i - 1) (rest / 10) ++ take (k - (i - 1)) (drop (at + (i - 1)) (set xs (at + (i - 1)) (48 + rest % 10)))
spell_more k n zero rest at xs z h l e = absurd (omega arith)
spell_more k n (suc j) rest at xs z h l e =
    let p : suc j - 1 ≡ j = omega arith in
    rw p (spell_one k n j rest at xs h (omega (arith, l)) e)

pub spelled : (k n i rest at : ℕ) (p q : List ℕ) → i ≤ 0 → at + k ≤ length p → length q ≡ length p → take at q ≡ take at p → last_digits 10 k n ≡ last_digits 10 i rest ++ take (k - i) (drop (at + i) q)
    → Adds (last_digits 10 k n) p at q (at + k)
spelled k n (suc i) rest at p q h b l f e = absurd (omega arith)
spelled k n zero rest at p q h b l f e =
    let d : last_digits 10 k n ≡ take k (drop at q) = e ∙ rw (sub-zero, add-zero) in
    let m : length (take k (drop at q)) ≡ k = length-take-le k (drop at q) (rw length-drop (omega arith)) in
    record { next = rw (d, m); said = take-add at k q ∙ rw (f, ← d); long = l }

-- a refusal shows no code
pub shows_refusal : (k : List ℕ) (at : ℕ) (f : Refusal) → shows [] at (refusal f) ≡ shows k at (refusal f)
shows_refusal k at f = by_refusal (λ x. shows [] at x ≡ shows k at x) (λ n. refl) (λ p. refl) f

-- a refusal with its page, or without
pub numbered_page : (n p : ℕ) (o : Out) → Numbered n p o → n ≡ 2 → text "refused " ++ (decimal n ++ (text " page " ++ decimal p)) ≡ numbered o
numbered_page n p o (inl h) e = absurd (h.0 e)
numbered_page n p o (inr h) e = ap numbered (sym h.1)

pub numbered_plain : (n p : ℕ) (o : Out) → Numbered n p o → (n ≡ 2 → ⊥) → text "refused " ++ decimal n ≡ numbered o
numbered_plain n p o (inl h) d = ap numbered (sym h.2)
numbered_plain n p o (inr h) d = absurd (d h.0)

pub reasoned : (at : ℕ) (f g : Refusal) → f ≡ g → because at (why (refusal g)) ≡ because at (why (refusal f))
reasoned at f g e = ap (λ x. because at (why (refusal x))) (sym e)

-- the refusal's number and its reason
pub shows_parts : (at : ℕ) (f : Refusal) → numbered (refusal f) ++ because at (why (refusal f)) ≡ shows [] at (refusal f)
shows_parts at f = by_refusal (λ x. numbered x ++ because at (why x) ≡ shows [] at x) (λ n. refl) (λ p. refl) f

-- the end of a line
pub ended : {w o a b : List ℕ} {j k : ℕ} → Adds w o 0 a j → Adds (10 ∷ []) a j b k → k ≤ length b → Lines w b k
ended x y h = record { said = y.said ∙ rw x.said; within = h }
