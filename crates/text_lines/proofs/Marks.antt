-- Where the text of a line begins: behind a byte-order mark. Assumes nothing.
use Prim.Native.Nat.{ℕ, ◌≤◌, ◌<◌}
use mathlib.Core.Path.{◌≡◌, refl, sym, ap, ◌∙◌, subst}
use mathlib.Core.Bool.{Bool, true, false, true≢false, cond}
use mathlib.Core.List.{List, [], ◌∷◌, ◌++◌}
use mathlib.Core.Logic.{◌⊎◌, inl, inr, ⊎_elim}
use native.Mathlib.Omega.{arith}
use lib.Dec.{eqb}
use lib.ListN.{length, drop, length-append, get_or-append, get_or-eq_default}
use borrow.Author.Tests.{eq-eqb, ne_eqb}
use Rattle.ground.specs.Lists.{byte}
use Rattle.ground.proofs.Sides.{side}
use Rattle.commands.proofs.Cutting.{some_then}
use Rattle.commands.specs.SheetLines.{word_then}
use Rattle.text_lines.specs.LineText.{is_blank, behind_blanks, spaced, behind_mark, markless, Blankless, Worded}

-- a byte of a word that is not 0 stands in the text
inside : (w : List ℕ) (k m : ℕ) → byte w k ≡ m → 1 ≤ m → k < length w
inside w k m e h = ⊎_elim (λ (x : k < length w). x) (λ (x : length w ≤ k). absurd (let z : byte w k ≡ 0 = get_or-eq_default w 0 x in omega (arith, z, e, h))) (side k (length w))

stands : (w x : List ℕ) (k m : ℕ) → byte w k ≡ m → 1 ≤ m → byte (w ++ x) k ≡ m
stands w x k m e h = get_or-append w x 0 k (inside w k m e h) ∙ e

-- the mark is not there
abbrev NoMark : List ℕ → Type 0
NoMark t = (byte t 0 ≡ 239 → ⊥) ⊎ ((byte t 1 ≡ 187 → ⊥) ⊎ ((byte t 2 ≡ 191 → ⊥) ⊎ (length t < 3)))

as_it_is : (a b c : Bool) (u w : List ℕ) → (a ≡ false) ⊎ ((b ≡ false) ⊎ (c ≡ false)) → cond a (cond b (cond c u w) w) w ≡ w
as_it_is false b c u w h = refl
as_it_is true false c u w h = refl
as_it_is true true false u w h = refl
as_it_is true true true u w (inl e) = absurd (true≢false e)
as_it_is true true true u w (inr (inl e)) = absurd (true≢false e)
as_it_is true true true u w (inr (inr e)) = absurd (true≢false e)

unmarked : (w x : List ℕ) → NoMark (w ++ x) → behind_mark w ≡ w
unfolding behind_mark
unmarked w x h = as_it_is (eqb (byte w 0) 239) (eqb (byte w 1) 187) (eqb (byte w 2) 191) (drop 3 w) w (⊎_elim
    (λ n. inl (ne_eqb (byte w 0) 239 (λ e. n (stands w x 0 239 e (omega arith)))))
    (λ k. inr (⊎_elim
    (λ n. inl (ne_eqb (byte w 1) 187 (λ e. n (stands w x 1 187 e (omega arith)))))
    (λ j. inr (⊎_elim
    (λ n. ne_eqb (byte w 2) 191 (λ e. n (stands w x 2 191 e (omega arith))))
    (λ s. ne_eqb (byte w 2) 191 (λ e. omega (arith, s, inside w 2 191 e (omega arith), length-append w x)))
    j))
    k))
    h)

module _ (t : List ℕ) where
  pub plain_text : (ws : List (List ℕ)) → Worded ws → t ≡ spaced ws → NoMark t → t ≡ spaced (markless ws)
  unfolding spaced markless
  plain_text [] f e h = e
  plain_text (w ∷ ws) f e h =
      e ∙ ap spaced (sym (ap (λ (v : List ℕ). word_then v ws) (unmarked w (behind_blanks ws) (subst NoMark e h)) ∙ some_then w ws f.0))

  -- the mark is there
  pub record Marked : Type 0 where
    pub first : byte t 0 ≡ 239
    pub second : byte t 1 ≡ 187
    pub third : byte t 2 ≡ 191

-- what stands first behind a word
blank_first : (vs : List (List ℕ)) (m : ℕ) → byte (behind_blanks vs) 0 ≡ m → (m ≡ 0) ⊎ (m ≡ 32)
unfolding behind_blanks
blank_first [] m e = inl (sym e)
blank_first (v ∷ vs) m e = inr (sym e)

-- it is three bytes of the first word
record Opened (w u : List ℕ) : Type 0 where
  is : behind_mark w ≡ u
  whole : w ≡ 239 ∷ 187 ∷ 191 ∷ u

opened : (w : List ℕ) (vs : List (List ℕ)) → 1 ≤ length w → Marked (w ++ behind_blanks vs) → (u : List ℕ) × Opened w u
unfolding behind_mark
opened [] vs h m = absurd (omega arith)
opened (a ∷ []) vs h m = absurd (⊎_elim (λ z. omega arith) (λ z. omega arith) (blank_first vs 187 m.second))
opened (a ∷ b ∷ []) vs h m = absurd (⊎_elim (λ z. omega arith) (λ z. omega arith) (blank_first vs 191 m.third))
opened (a ∷ b ∷ c ∷ u) vs h m = (
  u,
  record {
    is = ap (λ (t : Bool). cond t (cond (eqb b 187) (cond (eqb c 191) u (a ∷ b ∷ c ∷ u)) (a ∷ b ∷ c ∷ u)) (a ∷ b ∷ c ∷ u)) (eq-eqb a 239 m.first)
        ∙ ap (λ (t : Bool). cond t (cond (eqb c 191) u (a ∷ b ∷ c ∷ u)) (a ∷ b ∷ c ∷ u)) (eq-eqb b 187 m.second)
        ∙ ap (λ (t : Bool). cond t u (a ∷ b ∷ c ∷ u)) (eq-eqb c 191 m.third);
    whole = ap (λ (x : ℕ). x ∷ b ∷ c ∷ u) m.first ∙ ap (λ (x : ℕ). 239 ∷ x ∷ c ∷ u) m.second ∙ ap (λ (x : ℕ). 239 ∷ 187 ∷ x ∷ u) m.third;
  },
)

-- the rest of it, before the other words
rest_four : (u : List ℕ) (vs : List (List ℕ)) → Blankless u → byte (u ++ behind_blanks vs) 0 ≡ 32 → drop 1 (u ++ behind_blanks vs) ≡ spaced (word_then u vs)
unfolding behind_blanks spaced
rest_four [] [] f e = absurd (omega arith)
rest_four [] (v ∷ vs) f e = refl
rest_four (x ∷ u) vs f e = absurd (true≢false (subst (λ (b : ℕ). is_blank b ≡ false) e f.0))

rest_three : (u : List ℕ) (vs : List (List ℕ)) → ((byte (u ++ behind_blanks vs) 0 ≡ 32 → ⊥) ⊎ (length (u ++ behind_blanks vs) ≤ 0)) → u ++ behind_blanks vs ≡ spaced (word_then u vs)
unfolding behind_blanks spaced
rest_three [] [] h = refl
rest_three [] (v ∷ vs) (inl n) = absurd (n refl)
rest_three [] (v ∷ vs) (inr n) = absurd (omega arith)
rest_three (x ∷ u) vs h = refl

behind_three : (w u : List ℕ) → w ≡ 239 ∷ 187 ∷ 191 ∷ u → Blankless w → Blankless u
behind_three w u e f = (subst Blankless e f).1.1.1

module _ (t : List ℕ) where
  begun : (w : List ℕ) (vs : List (List ℕ)) → Worded (w ∷ vs) → t ≡ spaced (w ∷ vs) → Marked t
      → (u : List ℕ) × ((behind_mark w ≡ u) × (t ≡ 239 ∷ 187 ∷ 191 ∷ (u ++ behind_blanks vs)) × Blankless u)
  unfolding spaced
  begun w vs f e m =
      let o = opened w vs f.0 (subst Marked e m) in
      (o.0, (o.1.is, e ∙ ap (λ (v : List ℕ). v ++ behind_blanks vs) o.1.whole, behind_three w o.0 o.1.whole f.1))

  pub four_on : (ws : List (List ℕ)) → Worded ws → t ≡ spaced ws → Marked t → byte t 3 ≡ 32 → drop 4 t ≡ spaced (markless ws)
  unfolding spaced markless
  four_on [] f e m h = absurd (let z : 0 ≡ 239 = sym (ap (λ (v : List ℕ). byte v 0) e) ∙ m.first in omega arith)
  four_on (w ∷ vs) f e m h =
      let o = begun w vs f e m in
      ap (λ (v : List ℕ). drop 4 v) o.1.1
      ∙ rest_four o.0 vs o.1.2 (sym (ap (λ (v : List ℕ). byte v 3) o.1.1) ∙ h)
      ∙ ap (λ (v : List ℕ). spaced (word_then v vs)) (sym o.1.0)

  pub three_on : (ws : List (List ℕ)) → Worded ws → t ≡ spaced ws → Marked t → ((byte t 3 ≡ 32 → ⊥) ⊎ (length t ≤ 3)) → drop 3 t ≡ spaced (markless ws)
  unfolding spaced markless
  three_on [] f e m h = absurd (let z : 0 ≡ 239 = sym (ap (λ (v : List ℕ). byte v 0) e) ∙ m.first in omega arith)
  three_on (w ∷ vs) f e m h =
      let o = begun w vs f e m in
      ap (λ (v : List ℕ). drop 3 v) o.1.1
      ∙ rest_three o.0 vs (⊎_elim (λ n. inl (λ x. n (ap (λ (v : List ℕ). byte v 3) o.1.1 ∙ x))) (λ n. inr (omega (arith, n, ap length o.1.1))) h)
      ∙ ap (λ (v : List ℕ). spaced (word_then v vs)) (sym o.1.0)
