-- The next put on two stores of the same rows and length has the same answer. Assumes nothing.
use mathlib.Core.Path.{◌≡◌, refl, sym, ap, subst, ◌∙◌}
use mathlib.Core.List.{List, ◌∷◌}
use mathlib.Core.Logic.{inl, inr}
use mathlib.Core.Option.{Option, some, none}
use Prim.Native.Nat.{ℕ, ◌-◌, ◌/◌, ◌<◌}
use lib.ListN.{length}
use Rattle.partition.specs.Bits.{top}
use Rattle.partition.specs.declared.Shape.{Shape}
use Rattle.partition.specs.Partition.{Row, Reordered, front, chain, needs, rows_of, buckets}
use Rattle.partition.proofs.Pages.{turned as back}
use Rattle.partition.proofs.Sorted.{same_map}
use Rattle.partition.proofs.Laws.{load_reordered, reordered}
use Rattle.words.specs.Folds.{fold}
use Rattle.page.specs.declared.Place.{Place}
use Rattle.ground.specs.Ladder.{Ladder, rung, answer, refuse, Answers}
use Rattle.partition.specs.Listing.{place_of}
use Rattle.store.specs.Pages.{size, pages, rows_held}
use Rattle.store.specs.Accepted.{Accepted}
use Rattle.page.specs.Places.{place_from, stored}
use Rattle.store.specs.Tables.{Out, refused, new, replaced, Refusal3, Refusal4, Refusal14, put_table}
use Rattle.partition.specs.Listing.{Once}
use Rattle.store.specs.Demands.{Made, put, AfreshAlways, SameRefusals}
use Rattle.ground.proofs.Ladders.{one, each}
use Rattle.store.proofs.Accepted.Rules.{accepted_whole}

-- put's answer hangs on four values alone: the code's place, the need of its deepest prefix, the number of buckets and of pages
pub put_answers : Shape → List ℕ → Place → ℕ → Option (List ℕ) → ℕ → ℕ → ℕ → Ladder Out
put_answers S c p m q a b n =
    refuse (Refusal3 c) (refused 3)
    (refuse (Refusal4 p) (refused 4)
    (refuse (Refusal14 m) (refused 14)
    (refuse ((m ≡ 1) × ((old : List ℕ) × (q ≡ some old))) (refused 13)
    (refuse ((m ≡ 2) × (q ≡ none)) (refused 5)
    (rung (λ old. q ≡ some old) (λ old. answer (replaced (place_from old)))
    (refuse (S.capacity < a) (refused 6)
    (refuse (n - 2 < b) (refused 7)
    (answer new))))))))

answers_one : (S : Shape) (c : List ℕ) (p : Place) (m : ℕ) (q : Option (List ℕ)) (a b n : ℕ) (o o' : Out)
    → Answers (put_answers S c p m q a b n) o → Answers (put_answers S c p m q a b n) o' → o ≡ o'
unfolding put_answers
answers_one S c p m q a b n = one (put_answers S c p m q a b n)
    (unit, (λ _ _. same), (unit, (λ _ _. same), (unit, (λ _ _. same), (unit, (λ _ _. same), (unit, (λ _ _. same), ((λ x y e f. cc), (λ _ _. same), (unit, (λ _ _. same), (unit, (λ _ _. same), same))))))))
  where
    unit : {P : Type 0} (x y : Unit {0}) → P → P → x ≡ y
    unit x y _ _ = refl

    same : {y : Out} (x z : Out) → x ≡ y → z ≡ y → x ≡ z
    same x z e f = e ∙ sym f

module _ (S : Shape) (h : List ℕ → ℕ) (c : List ℕ) (p : Place) (m : ℕ) where
  r : Row
  r = record { code = fold c; place = stored p }

  deep : List Row → ℕ
  deep rs = needs (rows_of h (r ∷ rs) S.deepest (top S.deepest (h (fold c))))

  -- the answers that the put table gives on an accepted store
  to_answers : (s : List ℕ) → Accepted S h s → (x : Out × List ℕ) → Answers (put_table S h s c p m) x
      → Answers (put_answers S c p m (place_of (rows_held S s) (fold c)) (deep (rows_held S s)) (length (buckets S h (r ∷ rows_held S s))) (pages S s)) x.0
  unfolding put_table put_answers deep r
  to_answers s a = each _ (put_table S h s c p m) (
    (λ _ r. absurd (r a.long)),
    (λ _. (
      (λ _ r x e. inl (tt, (r, ap (λ q. q.0) e))),
      (λ n3. (
        (λ _ r x e. inr (n3, inl (tt, (r, ap (λ q. q.0) e)))),
        (λ n4. (
          (λ _ r x e. inr (n3, inr (n4, inl (tt, (r, ap (λ q. q.0) e))))),
          (λ n14. (
            (λ q b. absurd (accepted_whole S h s a q b)),
            (λ _ _. (
              (λ _ r x e. inr (n3, inr (n4, inr (n14, inl (tt, (r, ap (λ q. q.0) e)))))),
              (λ n13. (
                (λ _ r x e. inr (n3, inr (n4, inr (n14, inr (n13, inl (tt, (r, ap (λ q. q.0) e))))))),
                (λ n5. (
                  (λ old k x e. inr (n3, inr (n4, inr (n14, inr (n13, inr (n5, inl (old, (k, e.0)))))))),
                  (λ un. (
                    (λ _ r x e. inr (n3, inr (n4, inr (n14, inr (n13, inr (n5, inr (un, inl (tt, (r, ap (λ q. q.0) e))))))))),
                    (λ n6. (
                      (λ _ r x e. inr (n3, inr (n4, inr (n14, inr (n13, inr (n5, inr (un, inr (n6, inl (tt, (r, ap (λ q. q.0) e)))))))))),
                      (λ n7 x e. inr (n3, inr (n4, inr (n14, inr (n13, inr (n5, inr (un, inr (n6, inr (n7, e.0))))))))),
                    )),
                  )),
                )),
              )),
            )),
          )),
        )),
      )),
    )),
  )

  -- reordered rows and as many pages: the same answer
  pub same_put : (s t : List ℕ) → Accepted S h s → Accepted S h t → Once (rows_held S s) → Reordered (rows_held S s) (rows_held S t) → length s ≡ length t
      → (o o' : Out) (s' t' : List ℕ) → Made S h (put c p m) s o s' → Made S h (put c p m) t o' t' → o ≡ o'
  unfolding deep r
  same_put s t a b once q l o o' s' t' made made' =
      let e₁ : place_of (rows_held S s) (fold c) ≡ place_of (rows_held S t) (fold c) = (same_map q once).1 (fold c) in
      let e₂ : deep (rows_held S s) ≡ deep (rows_held S t) = load_reordered S h (front r q) S.deepest (top S.deepest (h (fold c))) in
      let e₃ : length (buckets S h (r ∷ rows_held S s)) ≡ length (buckets S h (r ∷ rows_held S t)) = ap length (reordered S h (front r q)) in
      let e₄ : pages S s ≡ pages S t = ap (λ k. k / size S) l in
      let x : Answers (put_answers S c p m (place_of (rows_held S t) (fold c)) (deep (rows_held S t)) (length (buckets S h (r ∷ rows_held S t))) (pages S t)) o
      = subst (λ k. Answers (put_answers S c p m (place_of (rows_held S t) (fold c)) (deep (rows_held S t)) (length (buckets S h (r ∷ rows_held S t))) k) o) e₄
      (subst (λ k. Answers (put_answers S c p m (place_of (rows_held S t) (fold c)) (deep (rows_held S t)) k (pages S s)) o) e₃
      (subst (λ k. Answers (put_answers S c p m (place_of (rows_held S t) (fold c)) k (length (buckets S h (r ∷ rows_held S s))) (pages S s)) o) e₂
      (subst (λ k. Answers (put_answers S c p m k (deep (rows_held S s)) (length (buckets S h (r ∷ rows_held S s))) (pages S s)) o) e₁
      (to_answers s a (o, s') made)))) in
      answers_one S c p m (place_of (rows_held S t) (fold c)) (deep (rows_held S t)) (length (buckets S h (r ∷ rows_held S t))) (pages S t) o o' x (to_answers t b (o', t') made')

-- of demand 3 the second part follows from the first
pub same_refusals : (S : Shape) (h : List ℕ → ℕ) → AfreshAlways S h → SameRefusals S h
same_refusals S h always rs qs s t a b p l c pl mode o o' s' t' m n =
    let x = always rs s a in
    let y = always qs t b in
    same_put S h c pl mode s t x.keeps y.keeps (same_map (back x.same) x.once).0 (chain x.same (chain p (back y.same))) l o o' s' t' m n
