-- Laws of the lines of bytes: of bytes behind others, of one byte more, and that the lines are the only ones. Assumes nothing.
use Prim.Native.Nat.{ℕ}
use mathlib.Core.Path.{◌≡◌, refl, sym, ap, ◌∙◌, subst}
use mathlib.Core.Bool.{Bool, true, false, cond}
use mathlib.Core.List.{List, [], ◌∷◌, ◌++◌, append_assoc, append-nil}
use mathlib.Core.Logic.{⊎_elim}
use borrow.Author.Tests.{eq-eqb, ne_eqb}
use Rattle.ground.proofs.Sides.{same}
use Rattle.text_lines.specs.Ends.{is_feed, behind_last, ended_after, unended_after, ended, unended, with_feeds, Feedless, FeedlessEach, LinesAre}

-- ---- bytes behind others

pub behind_append : (parts : ℕ → Bool) (w i j : List ℕ) → behind_last parts w (i ++ j) ≡ behind_last parts (behind_last parts w i) j
unfolding behind_last
behind_append parts w [] j = refl
behind_append parts w (b ∷ i) j = go (parts b) (behind_append parts [] i j) (behind_append parts (w ++ (b ∷ [])) i j)
  where
    go : (t : Bool) {u v : List ℕ} → u ≡ behind_last parts (behind_last parts [] i) j → v ≡ behind_last parts (behind_last parts (w ++ (b ∷ [])) i) j
        → cond t u v ≡ behind_last parts (cond t (behind_last parts [] i) (behind_last parts (w ++ (b ∷ [])) i)) j
    go true e f = e
    go false e f = f

pub ended_append : (w i j : List ℕ) → ended_after w (i ++ j) ≡ ended_after w i ++ ended_after (unended_after w i) j
unfolding ended_after behind_last
ended_append w [] j = refl
ended_append w (b ∷ i) j = go (is_feed b) (ended_append [] i j) (ended_append (w ++ (b ∷ [])) i j)
  where
    go : (t : Bool) {u v : List (List ℕ)} → u ≡ ended_after [] i ++ ended_after (unended_after [] i) j → v ≡ ended_after (w ++ (b ∷ [])) i ++ ended_after (unended_after (w ++ (b ∷ [])) i) j
        → cond t (w ∷ u) v ≡ cond t (w ∷ ended_after [] i) (ended_after (w ++ (b ∷ [])) i) ++ ended_after (cond t (unended_after [] i) (unended_after (w ++ (b ∷ [])) i)) j
    go true e f = ap (λ (ls : List (List ℕ)). w ∷ ls) e
    go false e f = f

-- ---- one byte more

-- one that parts
pub behind_parted : (parts : ℕ → Bool) (w i : List ℕ) (b : ℕ) → parts b ≡ true → behind_last parts w (i ++ (b ∷ [])) ≡ []
unfolding behind_last
behind_parted parts w i b e = behind_append parts w i (b ∷ []) ∙ ap (λ (t : Bool). cond t [] (behind_last parts w i ++ (b ∷ []))) e

-- one that does not
pub behind_more : (parts : ℕ → Bool) (w i : List ℕ) (b : ℕ) → parts b ≡ false → behind_last parts w (i ++ (b ∷ [])) ≡ behind_last parts w i ++ (b ∷ [])
unfolding behind_last
behind_more parts w i b e = behind_append parts w i (b ∷ []) ∙ ap (λ (t : Bool). cond t [] (behind_last parts w i ++ (b ∷ []))) e

-- a line feed ends a line
pub ended_feed : (w i : List ℕ) (b : ℕ) → b ≡ 10 → ended_after w (i ++ (b ∷ [])) ≡ ended_after w i ++ (unended_after w i ∷ [])
unfolding ended_after
ended_feed w i b e = ended_append w i (b ∷ []) ∙ ap (λ (t : Bool). ended_after w i ++ cond t (unended_after w i ∷ []) []) (eq-eqb b 10 e)

-- any other byte ends none
pub ended_other : (w i : List ℕ) (b : ℕ) → (b ≡ 10 → ⊥) → ended_after w (i ++ (b ∷ [])) ≡ ended_after w i
unfolding ended_after
ended_other w i b n = ended_append w i (b ∷ []) ∙ ap (λ (t : Bool). ended_after w i ++ cond t (unended_after w i ∷ []) []) (ne_eqb b 10 n) ∙ append-nil (ended_after w i)

pub unended_feed : (w i : List ℕ) (b : ℕ) → b ≡ 10 → unended_after w (i ++ (b ∷ [])) ≡ []
unended_feed w i b e = behind_parted is_feed w i b (eq-eqb b 10 e)

pub unended_other : (w i : List ℕ) (b : ℕ) → (b ≡ 10 → ⊥) → unended_after w (i ++ (b ∷ [])) ≡ unended_after w i ++ (b ∷ [])
unended_other w i b n = behind_more is_feed w i b (ne_eqb b 10 n)

-- ---- the lines are these and no others

feedless_more : (w : List ℕ) (b : ℕ) → Feedless w → (b ≡ 10 → ⊥) → Feedless (w ++ (b ∷ []))
feedless_more [] b f n = (n, tt)
feedless_more (c ∷ w) b f n = (f.0, feedless_more w b f.1 n)

lines_after : (w l : List ℕ) → Feedless w → LinesAre (w ++ l) (ended_after w l) (unended_after w l)
unfolding ended_after behind_last with_feeds
lines_after w [] f = record { whole = append-nil w; lines = tt; rest = f }
lines_after w (b ∷ l) f = ⊎_elim
    (λ (e : b ≡ 10).
    let x = lines_after [] l tt in
    subst (λ (t : Bool). LinesAre (w ++ (b ∷ l)) (cond t (w ∷ ended_after [] l) (ended_after (w ++ (b ∷ [])) l)) (cond t (unended_after [] l) (unended_after (w ++ (b ∷ [])) l))) (sym (eq-eqb b 10 e))
    (record { whole = ap (λ (c : ℕ). w ++ (c ∷ l)) e ∙ ap (λ (m : List ℕ). w ++ (10 ∷ m)) x.whole; lines = (f, x.lines); rest = x.rest }))
    (λ (n : b ≡ 10 → ⊥).
    let x = lines_after (w ++ (b ∷ [])) l (feedless_more w b f n) in
    subst (λ (t : Bool). LinesAre (w ++ (b ∷ l)) (cond t (w ∷ ended_after [] l) (ended_after (w ++ (b ∷ [])) l)) (cond t (unended_after [] l) (unended_after (w ++ (b ∷ [])) l))) (sym (ne_eqb b 10 n))
    (record { whole = sym (append_assoc w (b ∷ []) l) ∙ x.whole; lines = x.lines; rest = x.rest }))
    (same b 10)

-- bytes are parted into their lines
pub lines_are : (l : List ℕ) → LinesAre l (ended l) (unended l)
lines_are l = lines_after [] l tt

-- what has no line feed adds no line
feedless_ends : (w x j : List ℕ) → Feedless x → (ended_after w (x ++ j) ≡ ended_after (w ++ x) j) × (unended_after w (x ++ j) ≡ unended_after (w ++ x) j)
unfolding ended_after behind_last
feedless_ends w [] j f = (ap (λ (v : List ℕ). ended_after v j) (sym (append-nil w)), ap (λ (v : List ℕ). unended_after v j) (sym (append-nil w)))
feedless_ends w (b ∷ x) j f =
    let y = feedless_ends (w ++ (b ∷ [])) x j f.1 in
    let e = ne_eqb b 10 f.0 in (
      ap (λ (t : Bool). cond t (w ∷ ended_after [] (x ++ j)) (ended_after (w ++ (b ∷ [])) (x ++ j))) e ∙ y.0 ∙ ap (λ (v : List ℕ). ended_after v j) (append_assoc w (b ∷ []) x),
      ap (λ (t : Bool). cond t (unended_after [] (x ++ j)) (unended_after (w ++ (b ∷ [])) (x ++ j))) e ∙ y.1 ∙ ap (λ (v : List ℕ). unended_after v j) (append_assoc w (b ∷ []) x),
    )

with_feeds_lem : (ls : List (List ℕ)) (r : List ℕ) → FeedlessEach ls → Feedless r → (ended (with_feeds ls r) ≡ ls) × (unended (with_feeds ls r) ≡ r)
unfolding ended_after behind_last with_feeds
with_feeds_lem [] r f g =
    let x = feedless_ends [] r [] g in
    (ap ended (sym (append-nil r)) ∙ x.0, ap unended (sym (append-nil r)) ∙ x.1)
with_feeds_lem (x ∷ ls) r f g =
    let y = feedless_ends [] x (10 ∷ with_feeds ls r) f.0 in
    let z = with_feeds_lem ls r f.1 g in
    (y.0 ∙ ap (λ (v : List (List ℕ)). x ∷ v) z.0, y.1 ∙ z.1)

-- and in no other way
pub lines_are_one : (l : List ℕ) (ls : List (List ℕ)) (r : List ℕ) → LinesAre l ls r → (ended l ≡ ls) × (unended l ≡ r)
lines_are_one l ls r p = let x = with_feeds_lem ls r p.lines p.rest in (ap ended p.whole ∙ x.0, ap unended p.whole ∙ x.1)
