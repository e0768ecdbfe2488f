-- What a line asks is settled with its fields: its numbers, its place, its code and its mode. Assumes nothing.
use Rattle.std.proofs.Common.{◌≡◌, ℕ, Bool, true, false, List, [], ◌∷◌, ◌++◌, length, take, ℤ, pos, neg_ℤ, sym, refl, ap, ◌∙◌, subst, inl, inr, ⊎_elim, arith, length-take-le}
use Rattle.ground.specs.Lists.{byte}
use Rattle.page.specs.declared.Place.{Place}
use Rattle.commands.specs.Numbers.{Decimal, Integer, marked, signed}
use Rattle.commands.specs.Codes.{Hex, Spells, none, plain, escaped, Coded}
use Rattle.commands.specs.Lines.{BehindWord, Placed, PutBy, PutLine, Putting}
use Rattle.commands.proofs.Unread.{split_one, integer_spaceless, spells_spaceless}
use Rattle.commands.specs.declared.Command.TheVariants.{Put}
use Rattle.lots.proofs.OneCommand.{asks_one}

decimal_one : (n m : ℕ) (w : List ℕ) → Decimal n w → Decimal m w → n ≡ m
decimal_one n m w a b = sym a.is ∙ b.is

hex_one : (x i j : ℕ) → Hex x i → Hex x j → i ≡ j
hex_one x i j (inl a) (inl b) = omega (arith, a.0, b.0)
hex_one x i j (inl a) (inr b) = ⊎_elim (λ e. omega (arith, a.0, a.1, b.1, e)) (λ e. omega (arith, a.0, a.1, b.1, e)) b.0
hex_one x i j (inr a) (inl b) = ⊎_elim (λ e. omega (arith, b.0, b.1, a.1, e)) (λ e. omega (arith, b.0, b.1, a.1, e)) a.0
hex_one x i j (inr a) (inr b) =
    ⊎_elim (λ e. ⊎_elim (λ f. omega (arith, e, f)) (λ f. omega (arith, e, f, a.2, b.1)) b.0) (λ e. ⊎_elim (λ f. omega (arith, e, f, b.2, a.1)) (λ f. omega (arith, e, f)) b.0) a.0

spells_one : {w c d : List ℕ} → Spells w c → Spells w d → c ≡ d
spells_one none none = refl
spells_one (plain {b} p s) (plain q t) = ap (λ (v : List ℕ). b ∷ v) (spells_one s t)
spells_one (plain p s) (escaped g h t) = absurd (p.other refl)
spells_one (escaped g h s) (plain q t) = absurd (q.other refl)
spells_one (escaped {x} {y} {i} {j} g h s) (escaped {i = k} {j = l} g' h' t) =
    let a : i ≡ k = hex_one x i k g g' in
    let b : j ≡ l = hex_one y j l h h' in
    rw (a, b, spells_one s t)

-- the code that a text writes is one, whatever buffer it goes to
pub record SameCode (k : List ℕ) (n : ℕ) (j : List ℕ) (m : ℕ) : Type 0 where
  pub long : n ≡ m
  pub bytes : take n k ≡ take m j

coded_one : (w k j : List ℕ) (n m : ℕ) → Coded w k n → Coded w j m → SameCode k n j m
coded_one w k j n m a b =
    let e : take n k ≡ take m j = spells_one a.spells b.spells in
    record { long = sym (length-take-le n k a.within) ∙ ap length e ∙ length-take-le m j b.within; bytes = e }

-- a sign and digits
first : (d e w : List ℕ) (m : ℕ) → w ≡ d → w ≡ 45 ∷ e → Decimal m d → ⊥
first d e w m s t x = let f : byte d 0 ≡ 45 = ap (λ (v : List ℕ). byte v 0) (sym s ∙ t) in omega (arith, f, (x.each 0 x.some).least)

size_one : (p q : Bool) (d e w : List ℕ) (m n : ℕ) → w ≡ marked p d → w ≡ marked q e → Decimal m d → Decimal n e → signed p m ≡ signed q n
size_one false false d e w m n s t x y = ap pos (decimal_one m n e (subst (Decimal m) (sym s ∙ t) x) y)
size_one true true d e w m n s t x y =
    let f : 45 ∷ d ≡ 45 ∷ e = sym s ∙ t in
    let g : d ≡ e = cc in
    ap (λ (k : ℕ). neg_ℤ (pos k)) (decimal_one m n e (subst (Decimal m) g x) y)
size_one false true d e w m n s t x y = absurd (first d e w m s t x)
size_one true false d e w m n s t x y = absurd (first e d w n t s y)

integer_one : (y z : ℤ) (w : List ℕ) → Integer y w → Integer z w → y ≡ z
integer_one y z w a b = a.is ∙ size_one a.minus b.minus a.digits b.digits w a.size b.size a.text b.text a.sized b.sized ∙ sym b.is

-- the three parts of two places are the same
pub record SamePlace (p q : Place) : Type 0 where
  pub page : p.page ≡ q.page
  pub slot : p.slot ≡ q.slot
  pub volume : p.volume ≡ q.volume

place_one : (p q : Place) (w : List ℕ) → Placed Integer p w → Placed Integer q w → SamePlace p q
place_one p q w a b =
    let f = split_one a.page b.page _ _ (integer_spaceless _ _ a.is_page) (integer_spaceless _ _ b.is_page) (sym a.text ∙ b.text) in
    let g = split_one a.slot b.slot _ _ (integer_spaceless _ _ a.is_slot) (integer_spaceless _ _ b.is_slot) f.1 in
    record {
      page = integer_one _ _ b.page (subst (Integer p.page) f.0 a.is_page) b.is_page;
      slot = integer_one _ _ b.slot (subst (Integer p.slot) g.0 a.is_slot) b.is_slot;
      volume = integer_one _ _ b.volume (subst (Integer p.volume) g.1 a.is_volume) b.is_volume;
    }

-- what stands after a word
rest_one : (w r t : List ℕ) → w ++ (32 ∷ r) ≡ w ++ (32 ∷ t) → r ≡ t
rest_one [] r t e = cc
rest_one (x ∷ w) r t e = let f : w ++ (32 ∷ r) ≡ w ++ (32 ∷ t) = cc in rest_one w r t f

-- row and inspect: one number
pub number_one : (l w : List ℕ) (n m : ℕ) → BehindWord l w (Decimal n) → BehindWord l w (Decimal m) → n ≡ m
number_one l w n m a b = let e = rest_one w a.rest b.rest (sym a.line ∙ b.line) in decimal_one n m b.rest (subst (Decimal n) e a.says) b.says

-- lookup and remove: one code
pub code_one : (l w k j : List ℕ) (n m : ℕ) → BehindWord l w (λ v. Coded v k n) → BehindWord l w (λ v. Coded v j m) → SameCode k n j m
code_one l w k j n m a b =
    let e = rest_one w a.rest b.rest (sym a.line ∙ b.line) in
    coded_one b.rest k j n m (subst (λ v. Coded v k n) e a.says) b.says

-- a mode has one word
word_one : (w v : List ℕ) (m : ℕ) → PutBy w m → PutBy v m → w ≡ v
word_one w v m (inl (a, e)) (inl (b, f)) = e ∙ sym f
word_one w v m (inl (a, e)) (inr (inl (b, f))) = absurd (omega (arith, a, b))
word_one w v m (inl (a, e)) (inr (inr (b, f))) = absurd (omega (arith, a, b))
word_one w v m (inr (inl (a, e))) (inl (b, f)) = absurd (omega (arith, a, b))
word_one w v m (inr (inl (a, e))) (inr (inl (b, f))) = e ∙ sym f
word_one w v m (inr (inl (a, e))) (inr (inr (b, f))) = absurd (omega (arith, a, b))
word_one w v m (inr (inr (a, e))) (inl (b, f)) = absurd (omega (arith, a, b))
word_one w v m (inr (inr (a, e))) (inr (inl (b, f))) = absurd (omega (arith, a, b))
word_one w v m (inr (inr (a, e))) (inr (inr (b, f))) = e ∙ sym f

-- put, add and move: one code, one place, one mode
pub record SamePut (k : List ℕ) (n : ℕ) (p : Place) (m : ℕ) (k' : List ℕ) (n' : ℕ) (p' : Place) (m' : ℕ) : Type 0 where
  pub code : SameCode k n k' n'
  pub place : SamePlace p p'
  pub mode : m ≡ m'

pub put_one : (l k j : List ℕ) (n i : ℕ) (p q : Place) (m o : ℕ) → PutLine k n p m l → PutLine j i q o l → SamePut k n p m j i q o
put_one l k j n i p q m o a b =
    let e : m ≡ o = omega (arith, asks_one l k j (Put n p m) (Put i q o) a b) in
    let w : a.word ≡ b.word = word_one a.word b.word o (subst (PutBy a.word) e a.by) b.by in
    let r : a.line.rest ≡ b.line.rest = rest_one b.word a.line.rest b.line.rest (ap (λ (v : List ℕ). v ++ (32 ∷ a.line.rest)) (sym w) ∙ sym a.line.line ∙ b.line.line) in
    let x : Putting k n p b.line.rest = subst (Putting k n p) r a.line.says in
    let y : Putting j i q b.line.rest = b.line.says in
    let f = split_one x.code y.code _ _ (spells_spaceless x.coded.spells) (spells_spaceless y.coded.spells) (sym x.after.line ∙ y.after.line) in
    record {
      code = coded_one y.code k j n i (subst (λ (v : List ℕ). Coded v k n) f.0 x.coded) y.coded;
      place = place_one p q y.after.rest (subst (Placed Integer p) f.1 x.after.says) y.after.says;
      mode = e;
    }
