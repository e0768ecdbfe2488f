-- A line cut into words, and what the words of a sheet's line say. Assumes nothing.
use Prim.Native.Nat.{ℕ, zero, suc, ◌+◌, ◌-◌, ◌≤◌, ◌<◌}
use mathlib.Core.Path.{◌≡◌, refl, sym, ap, ◌∙◌, subst}
use mathlib.Core.Bool.{Bool, true, false, cond}
use mathlib.Core.List.{List, [], ◌∷◌, ◌++◌, append_assoc, append-nil}
use mathlib.Core.Logic.{inl, inr, ⊎_elim}
use native.Mathlib.Nat.{add-zero}
use native.Mathlib.Omega.{arith}
use lib.Dec.{eqb}
use lib.IntN.{ℤ}
use lib.ListN.{length, take, drop, length-drop}
use lib.Seq.{drop-cons, drop-length, length-take-le}
use borrow.Author.Tests.{eq-eqb, ne_eqb}
use Rattle.ground.specs.Lists.{byte}
use Rattle.ground.proofs.Sides.{side}
use Rattle.page.specs.declared.Place.{Place}
use Rattle.commands.specs.Numbers.{Integer}
use Rattle.commands.specs.SheetLines.{blank_kind, word_then, cut_from, words_of, KindRun, PassedOver, Writes, FitsRow, FourSay, LineSays}
use Rattle.commands.specs.declared.SheetLine.{SheetLine}
use Rattle.commands.specs.declared.SheetLine.TheVariants.{Passed, Amount, Other}
use Rattle.commands.proofs.Unread.{marked_long}

-- ---- kinds

one_when : (x y z : Bool) → (◌≡◌ {A = ℕ} (cond x 1 (cond y 1 (cond z 1 0))) 0 → ⊥) → ◌≡◌ {A = ℕ} (cond x 1 (cond y 1 (cond z 1 0))) 1
one_when true y z n = refl
one_when false true z n = refl
one_when false false true n = refl
one_when false false false n = absurd (n refl)

kind_one : (b : ℕ) → (blank_kind b ≡ 0 → ⊥) → blank_kind b ≡ 1
kind_one b n = one_when (eqb b 32) (eqb b 9) (eqb b 13) n

-- ---- one byte more

cut_blank : (w : List ℕ) (b : ℕ) (l : List ℕ) → blank_kind b ≡ 1 → cut_from w (b ∷ l) ≡ word_then w (cut_from [] l)
unfolding cut_from
cut_blank w b l e = ap (λ (t : Bool). cond t (word_then w (cut_from [] l)) (cut_from (w ++ (b ∷ [])) l)) (eq-eqb (blank_kind b) 1 e)

cut_other : (w : List ℕ) (b : ℕ) (l : List ℕ) → blank_kind b ≡ 0 → cut_from w (b ∷ l) ≡ cut_from (w ++ (b ∷ [])) l
unfolding cut_from
cut_other w b l e = ap (λ (t : Bool). cond t (word_then w (cut_from [] l)) (cut_from (w ++ (b ∷ [])) l)) (ne_eqb (blank_kind b) 1 (λ f. omega (arith, e, f)))

cut_none : (w : List ℕ) → cut_from w [] ≡ word_then w (cut_from [] [])
unfolding cut_from
cut_none w = refl

no_words : cut_from [] [] ≡ []
unfolding cut_from
no_words = refl

-- ---- runs

module _ (l : List ℕ) where
  gap : (n i : ℕ) → i + n ≤ length l → ((j : ℕ) → i ≤ j → j < i + n → blank_kind (byte l j) ≡ 1) → cut_from [] (drop i l) ≡ cut_from [] (drop (i + n) l)
  gap zero i h e = ap (λ (k : ℕ). cut_from [] (drop k l)) (sym (add-zero i))
  gap (suc n) i h e =
      let m : suc i + n ≡ i + suc n = omega arith in
      ap (λ (x : List ℕ). cut_from [] x) (drop-cons l i 0 (omega (arith, h)))
      ∙ cut_blank [] (byte l i) (drop (suc i) l) (e i (omega arith) (omega arith))
      ∙ gap n (suc i) (omega (arith, h)) (λ j a b. e j (omega (arith, a)) (omega (arith, b)))
      ∙ ap (λ (k : ℕ). cut_from [] (drop k l)) m

  grow : (n i : ℕ) (w : List ℕ) → i + n ≤ length l → ((j : ℕ) → i ≤ j → j < i + n → blank_kind (byte l j) ≡ 0) → cut_from w (drop i l) ≡ cut_from (w ++ take n (drop i l)) (drop (i + n) l)
  grow zero i w h e = ap (λ (v : List ℕ). cut_from v (drop i l)) (sym (append-nil w)) ∙ ap (λ (k : ℕ). cut_from (w ++ []) (drop k l)) (sym (add-zero i))
  grow (suc n) i w h e =
      let m : suc i + n ≡ i + suc n = omega arith in
      let c : drop i l ≡ byte l i ∷ drop (suc i) l = drop-cons l i 0 (omega (arith, h)) in
      let t : take (suc n) (drop i l) ≡ byte l i ∷ take n (drop (suc i) l) = ap (λ (x : List ℕ). take (suc n) x) c in
      let v : (w ++ (byte l i ∷ [])) ++ take n (drop (suc i) l) ≡ w ++ take (suc n) (drop i l) = append_assoc w (byte l i ∷ []) (take n (drop (suc i) l)) ∙ ap (λ (x : List ℕ). w ++ x) (sym t) in
      ap (λ (x : List ℕ). cut_from w x) c
      ∙ cut_other w (byte l i) (drop (suc i) l) (e i (omega arith) (omega arith))
      ∙ grow n (suc i) (w ++ (byte l i ∷ [])) (omega (arith, h)) (λ j a b. e j (omega (arith, a)) (omega (arith, b)))
      ∙ (λ k. cut_from (v k) (drop (m k) l))

  stop : (r : ℕ) (w : List ℕ) → r ≤ length l → (r < length l → blank_kind (byte l r) ≡ 1) → cut_from w (drop r l) ≡ word_then w (cut_from [] (drop r l))
  stop r w h e = ⊎_elim
      (λ (k : r < length l).
      let c : drop r l ≡ byte l r ∷ drop (suc r) l = drop-cons l r 0 k in
      let x : cut_from [] (drop r l) ≡ cut_from [] (drop (suc r) l) = ap (λ (y : List ℕ). cut_from [] y) c ∙ cut_blank [] (byte l r) (drop (suc r) l) (e k) in
      ap (λ (y : List ℕ). cut_from w y) c ∙ cut_blank w (byte l r) (drop (suc r) l) (e k) ∙ ap (λ (ws : List (List ℕ)). word_then w ws) (sym x))
      (λ (k : length l ≤ r).
      let m : r ≡ length l = omega arith in
      let d : drop r l ≡ [] = ap (λ (n : ℕ). drop n l) m ∙ drop-length l in
      ap (λ (y : List ℕ). cut_from w y) d ∙ cut_none w ∙ ap (λ (y : List ℕ). word_then w (cut_from [] y)) (sym d))
      (side r (length l))

  -- what one run of blanks and one of other bytes are
  passed : (i a : ℕ) → KindRun 1 l i a → cut_from [] (drop i l) ≡ cut_from [] (drop a l)
  passed i a r =
      let m : i + (a - i) ≡ a = omega (arith, r.from) in
      gap (a - i) i (omega (arith, m, r.within)) (λ j x y. r.each j x (omega (arith, y, m))) ∙ ap (λ (k : ℕ). cut_from [] (drop k l)) m

  pub next_word : (i a b : ℕ) → KindRun 1 l i a → KindRun 0 l a b → cut_from [] (drop i l) ≡ word_then (take (b - a) (drop a l)) (cut_from [] (drop b l))
  next_word i a b r s =
      let m : a + (b - a) ≡ b = omega (arith, s.from) in
      passed i a r
      ∙ grow (b - a) a [] (omega (arith, m, s.within)) (λ j x y. s.each j x (omega (arith, y, m)))
      ∙ ap (λ (k : ℕ). cut_from (take (b - a) (drop a l)) (drop k l)) m
      ∙ stop b (take (b - a) (drop a l)) s.within (λ h. kind_one (byte l b) (s.stops h))

  -- a word that ends before the line does is not empty
  pub filled : (i a b : ℕ) → KindRun 1 l i a → KindRun 0 l a b → b < length l → 1 ≤ length (take (b - a) (drop a l))
  filled i a b r s h =
      let k : a < b = ⊎_elim (λ (x : a < b). x)
      (λ (x : b ≤ a).
      let e : b ≡ a = omega (arith, s.from) in
      absurd (r.stops (omega arith) (subst (λ (n : ℕ). blank_kind (byte l n) ≡ 1) e (kind_one (byte l b) (s.stops h)))))
      (side a b) in
      let n : length (take (b - a) (drop a l)) ≡ b - a = length-take-le (b - a) (drop a l) (omega (arith, length-drop a l)) in
      omega arith

-- ---- the first word

abbrev Opens : ℕ → List (List ℕ) → Type 0
Opens x ws = (u : List ℕ) × ((vs : List (List ℕ)) × (ws ≡ (x ∷ u) ∷ vs))

opens_when : (t : Bool) (x : ℕ) (w : List ℕ) (ws vs : List (List ℕ)) → Opens x vs → Opens x (cond t ((x ∷ w) ∷ ws) vs)
opens_when true x w ws vs o = (w, (ws, refl))
opens_when false x w ws vs o = o

opens : (x : ℕ) (w l : List ℕ) → Opens x (cut_from (x ∷ w) l)
unfolding cut_from
opens x w [] = (w, ([], refl))
opens x w (b ∷ l) = opens_when (eqb (blank_kind b) 1) x w (cut_from [] l) (cut_from (x ∷ (w ++ (b ∷ []))) l) (opens x (w ++ (b ∷ [])) l)

zero_when : (x y z : Bool) → (◌≡◌ {A = ℕ} (cond x 1 (cond y 1 (cond z 1 0))) 1 → ⊥) → ◌≡◌ {A = ℕ} (cond x 1 (cond y 1 (cond z 1 0))) 0
zero_when true y z n = absurd (n refl)
zero_when false true z n = absurd (n refl)
zero_when false false true n = absurd (n refl)
zero_when false false false n = refl

pub opening : (l : List ℕ) (i a : ℕ) → KindRun 1 l i a → a < length l → Opens (byte l a) (cut_from [] (drop i l))
opening l i a r h = subst (Opens (byte l a)) (sym e) (opens (byte l a) [] (drop (suc a) l))
  where
    e : cut_from [] (drop i l) ≡ cut_from (byte l a ∷ []) (drop (suc a) l)
    e = passed l i a r ∙ ap (λ (x : List ℕ). cut_from [] x) (drop-cons l a 0 h) ∙ cut_other [] (byte l a) (drop (suc a) l) (zero_when (eqb (byte l a) 32) (eqb (byte l a) 9) (eqb (byte l a) 13) (r.stops h))

-- ---- words one after another

-- a word that has a byte
pub some_then : (w : List ℕ) (ws : List (List ℕ)) → 1 ≤ length w → word_then w ws ≡ w ∷ ws
some_then [] ws h = absurd (omega arith)
some_then (b ∷ w) ws h = refl

long_then : (w : List ℕ) (ws : List (List ℕ)) (n : ℕ) → length ws ≤ n → length (word_then w ws) ≤ suc n
long_then [] ws n h = omega arith
long_then (b ∷ w) ws n h = omega arith

front : (w x : List ℕ) (ws xs : List (List ℕ)) → length ws ≤ length xs → word_then w ws ≡ x ∷ xs → (w ≡ x) × (ws ≡ xs)
front [] x ws xs h e = absurd (let n : length ws ≡ suc (length xs) = ap (λ (v : List (List ℕ)). length v) e in omega arith)
front (b ∷ w) x ws xs h e = (cc, cc)

integer_some : (z : ℤ) (w : List ℕ) → Integer z w → 1 ≤ length w
integer_some z w i = omega (arith, ap length i.text, marked_long i.minus i.digits, i.sized.some)

-- ---- the line

module _ (l : List ℕ) (a : ℕ) (ra : KindRun 1 l 0 a) where
  pub nothing_said : length l ≤ a → LineSays l Passed
  nothing_said h =
      let m : a ≡ length l = omega (arith, ra.within) in
      inl (passed l 0 a ra ∙ ap (λ (n : ℕ). cut_from [] (drop n l)) m ∙ ap (λ (x : List ℕ). cut_from [] x) (drop-length l) ∙ no_words)

  pub remarked : a < length l → byte l a ≡ 35 → LineSays l Passed
  remarked h e = let o = opening l 0 a ra h in inr (record { word = byte l a ∷ o.0; rest = o.1.0; words = o.1.1; opens = e })

  module _ (h : a < length l) (n : byte l a ≡ 35 → ⊥) where
    spoken : PassedOver l → ⊥
    spoken (inl e) = let o = opening l 0 a ra h in let f : 0 ≡ suc (length o.1.0) = ap (λ (v : List (List ℕ)). length v) (sym e ∙ o.1.1) in omega arith
    spoken (inr r) = let o = opening l 0 a ra h in let f : (byte l a ∷ o.0) ∷ o.1.0 ≡ r.word ∷ r.rest = sym o.1.1 ∙ r.words in let g : byte l a ∷ o.0 ≡ r.word = cc in n (ap (λ (v : List ℕ). byte v 0) g ∙ r.opens)

    module _ (b c d e f g k j : ℕ) (rb : KindRun 0 l a b) (rc : KindRun 1 l b c) (rd : KindRun 0 l c d) (re : KindRun 1 l d e) (rf : KindRun 0 l e f) (rg : KindRun 1 l f g) (rk : KindRun 0 l g k) (rj : KindRun 1 l k j) where
      abbrev w1 : List ℕ
      w1 = take (b - a) (drop a l)

      abbrev w2 : List ℕ
      w2 = take (d - c) (drop c l)

      abbrev w3 : List ℕ
      w3 = take (f - e) (drop e l)

      abbrev w4 : List ℕ
      w4 = take (k - g) (drop g l)

      cut : words_of l ≡ word_then w1 (word_then w2 (word_then w3 (word_then w4 (cut_from [] (drop k l)))))
      cut = next_word l 0 a b ra rb
          ∙ ap (λ (ws : List (List ℕ)). word_then w1 ws) (next_word l b c d rc rd)
          ∙ ap (λ (ws : List (List ℕ)). word_then w1 (word_then w2 ws)) (next_word l d e f re rf)
          ∙ ap (λ (ws : List (List ℕ)). word_then w1 (word_then w2 (word_then w3 ws))) (next_word l f g k rg rk)

      -- four words that are not empty
      listed : (ws : List (List ℕ)) → 1 ≤ length w1 → 1 ≤ length w2 → 1 ≤ length w3 → 1 ≤ length w4 → word_then w1 (word_then w2 (word_then w3 (word_then w4 ws))) ≡ w1 ∷ w2 ∷ w3 ∷ w4 ∷ ws
      listed ws p q r s = some_then w1 _ p ∙ ap (λ (v : List (List ℕ)). w1 ∷ v) (some_then w2 _ q ∙ ap (λ (v : List (List ℕ)). w2 ∷ v) (some_then w3 _ r ∙ ap (λ (v : List (List ℕ)). w3 ∷ v) (some_then w4 ws s)))

      -- a fifth word
      pub five : j < length l → LineSays l Other
      five m =
          let o = opening l k j rj m in
          let t : k < length l = omega (arith, rj.from) in
          let u : f < length l = omega (arith, rg.from, rk.from) in
          let v : d < length l = omega (arith, re.from, rf.from) in
          let w : b < length l = omega (arith, rc.from, rd.from) in
          let q = listed (cut_from [] (drop k l)) (filled l 0 a b ra rb w) (filled l b c d rc rd v) (filled l d e f re rf u) (filled l f g k rg rk t) in
          (spoken, λ p z _ r. let y : 4 ≡ suc (suc (suc (suc (suc (length o.1.0))))) = ap (λ (x : List (List ℕ)). length x) (sym r.words ∙ cut ∙ q ∙ ap (λ (x : List (List ℕ)). w1 ∷ w2 ∷ w3 ∷ w4 ∷ x) o.1.1) in omega arith)

      -- four words at most
      module _ (m : length l ≤ j) where
        whole : words_of l ≡ word_then w1 (word_then w2 (word_then w3 (word_then w4 [])))
        whole = cut ∙ ap (λ (ws : List (List ℕ)). word_then w1 (word_then w2 (word_then w3 (word_then w4 ws))))
            (let q : j ≡ length l = omega (arith, rj.within) in passed l k j rj ∙ ap (λ (n : ℕ). cut_from [] (drop n l)) q ∙ ap (λ (x : List ℕ). cut_from [] x) (drop-length l) ∙ no_words)

        other : FourSay w1 w2 w3 w4 Other → (p : Place) (z : ℤ) (page slot volume cents : List ℕ) → FitsRow p z → words_of l ≡ page ∷ slot ∷ volume ∷ cents ∷ [] → Writes page slot volume cents p z → ⊥
        other n p z page slot volume cents t q x =
            let l4 = long_then w4 [] 0 (omega arith) in
            let l3 = long_then w3 _ 1 l4 in
            let l2 = long_then w2 _ 2 l3 in
            let r1 = front w1 page _ (slot ∷ volume ∷ cents ∷ []) l2 (sym whole ∙ q) in
            let r2 = front w2 slot _ (volume ∷ cents ∷ []) l3 r1.1 in
            let r3 = front w3 volume _ (cents ∷ []) l4 r2.1 in
            let r4 = front w4 cents [] [] (omega arith) r3.1 in
            n p z t (subst (Integer p.page) (sym r1.0) x.0, subst (Integer p.slot) (sym r2.0) x.1, subst (Integer p.volume) (sym r3.0) x.2, subst (Integer z) (sym r4.0) x.3)

        pub four : (r : SheetLine) → FourSay w1 w2 w3 w4 r → LineSays l r
        four Passed x = absurd x
        four (Amount p z) x = record { page = w1; slot = w2; volume = w3; cents = w4; words = whole ∙ listed [] (integer_some _ _ x.0) (integer_some _ _ x.1) (integer_some _ _ x.2) (integer_some _ _ x.3); writes = x }
        four Other x = (spoken, λ p z t r. other x p z r.page r.slot r.volume r.cents t r.words r.writes)
