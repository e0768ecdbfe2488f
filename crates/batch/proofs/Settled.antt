-- A batch is settled, answer by answer and byte by byte; a refused one keeps store and answers; the store is accepted again. Over any page size and hash. Assumes nothing.
use mathlib.Core.Path.{◌≡◌, refl, sym, ap, subst, ◌∙◌}
use mathlib.Core.Bool.{false, true≢false}
use mathlib.Core.List.{List, [], ◌∷◌}
use mathlib.Core.Logic.{inl, inr}
use Prim.Native.Nat.{ℕ, ◌+◌}
use native.Mathlib.Omega.{arith}
use lib.ListN.{length}
use Rattle.ground.specs.Ladder.{Answers}
use Rattle.ground.proofs.Ladders.{one, each}
use Rattle.partition.specs.declared.Shape.{Shape}
use Rattle.store.specs.Accepted.{Accepted}
use Rattle.store.specs.Demands.{Sized, ok}
use Rattle.store.specs.Tables.{Out, refused_at, accepted, check_table}
use Rattle.store.proofs.Accepted.Rules.{broken_one}
use Rattle.store.proofs.Demands.Kept.{put_again}
use Rattle.store.proofs.Demands.Said.{Said, check_said}
use Rattle.store.proofs.Demands.Settled.{same, put_settled}
use Rattle.batch.specs.Batch.{Runs, Wanted, number, OnePut, OneByOne, none_left, and_then, batch_table}

module _ (S : Shape) (h : List ℕ → ℕ) where
  pub one_settled : Sized S → (m : ℕ) (w : Wanted) (s : List ℕ) (n k : ℕ) (t u : List ℕ) → OnePut S h m w s n t → OnePut S h m w s k u → (n ≡ k) × (t ≡ u)
  one_settled z m w s n k t u p q =
      let e = put_settled S h z s w.code w.place m (p.out, t) (q.out, u) p.made q.made in
      (p.is ∙ ap (λ x. number x.0) e ∙ sym q.is, ap (λ x. x.1) e)

  -- the answers and every byte of the store
  pub puts_settled : Sized S → (m : ℕ) {l : List Wanted} {s ns ks t u : List ℕ} → OneByOne S h m l s ns t → OneByOne S h m l s ks u → (ns ≡ ks) × (t ≡ u)
  puts_settled z m none_left none_left = (refl, refl)
  puts_settled z m {ns = n ∷ ns} {ks = k ∷ ks} {u = u} (and_then {w} {l} {s} {t} p ps) (and_then {t = v} q qs) =
      let e = one_settled z m w s n k t v p q in
      let r = puts_settled z m ps (subst (λ x. OneByOne S h m l x ks u) (sym e.1) qs) in
      ((λ i. e.0 i ∷ r.0 i), r.1)
  puts_settled z m {ns = _ ∷ _} {ks = []} (and_then p ps) x = elim x [ ]

  pub batch_settled : Sized S → (s : List ℕ) (b : Runs) (m : ℕ) (x y : Out × (List ℕ × List ℕ)) → Answers (batch_table S h s b m) x → Answers (batch_table S h s b m) y → x ≡ y
  unfolding batch_table
  batch_settled z s b m = one (batch_table S h s b m) (
    (λ _ _ _ _. refl),
    (λ _ _. same),
    (
      (λ _ _ _ _. refl),
      (λ _ _. same),
      (
        (λ _ _ _ _. refl),
        (λ _ _. same),
        (broken_one S h s, (λ _ _. same), (λ _ x y p q. let r = puts_settled z m p.1 q.1 in λ i. ((p.0 ∙ sym q.0) i, (r.1 i, r.0 i)))),
      ),
    ),
  )

  -- a refused batch keeps every byte of the store, and every answer
  pub batch_keeps : (s : List ℕ) (b : Runs) (m : ℕ) (x : Out × (List ℕ × List ℕ)) → Answers (batch_table S h s b m) x → ok x.0 ≡ false → x.1 ≡ (s, b.answers)
  unfolding batch_table
  batch_keeps s b m = each (λ x. ok x.0 ≡ false → x.1 ≡ (s, b.answers)) (batch_table S h s b m) (
    (λ _ _ x e _. ap (λ y. y.1) e),
    (λ _. (
      (λ _ _ x e _. ap (λ y. y.1) e),
      (λ _. (
        (λ _ _ x e _. ap (λ y. y.1) e),
        (λ _. ((λ _ _ x e _. ap (λ y. y.1) e), (λ _ _ x e f. absurd (true≢false (sym (ap ok e.0) ∙ f))))),
      )),
    )),
  )

  -- what it may answer: 1, 12, 14, 2 with a page of the store, or that it was taken
  pub batch_said : (s : List ℕ) (b : Runs) (m : ℕ) (x : Out × (List ℕ × List ℕ)) → Answers (batch_table S h s b m) x → Said (S.entries + 2) (λ o. o ≡ accepted) x.0
  unfolding batch_table check_table
  batch_said s b m = each (λ x. Said (S.entries + 2) (λ o. o ≡ accepted) x.0) (batch_table S h s b m) (
    (λ _ _ x e. inl (inl (1, (omega arith, (λ z. omega arith), ap (λ y. y.0) e)))),
    (λ n1. (
      (λ _ _ x e. inl (inl (12, (omega arith, (λ z. omega arith), ap (λ y. y.0) e)))),
      (λ _. (
        (λ _ _ x e. inl (inl (14, (omega arith, (λ z. omega arith), ap (λ y. y.0) e)))),
        (λ _. (
          (λ p r x e. subst (Said (S.entries + 2) (λ o. o ≡ accepted)) (sym (ap (λ y. y.0) e)) (check_said S h s (refused_at 2 p) (inr (n1, inl (p, (r, refl)))))),
          (λ _ _ x e. inr e.0),
        )),
      )),
    )),
  )

  -- the store is accepted again, as long as it was
  pub puts_again : (m : ℕ) {l : List Wanted} {s ns t : List ℕ} → Accepted S h s → OneByOne S h m l s ns t → Accepted S h t × (length t ≡ length s)
  puts_again m a none_left = (a, refl)
  puts_again m a (and_then {w} {l} {s} {t} p ps) =
      let x = put_again S h s w.code w.place m a (p.out, t) p.made in
      let y = puts_again m x.0 ps in
      (y.0, y.1 ∙ x.1)

  pub batch_again : (s : List ℕ) (b : Runs) (m : ℕ) → Accepted S h s → (x : Out × (List ℕ × List ℕ)) → Answers (batch_table S h s b m) x → Accepted S h x.1.0 × (length x.1.0 ≡ length s)
  unfolding batch_table
  batch_again s b m a = each (λ x. Accepted S h x.1.0 × (length x.1.0 ≡ length s)) (batch_table S h s b m) (
    (λ _ _. kept),
    (λ _. ((λ _ _. kept), (λ _. ((λ _ _. kept), (λ _. ((λ _ _. kept), (λ _ _ x e. puts_again m a e.1))))))),
  )
    where
      kept : {o : Out} (x : Out × (List ℕ × List ℕ)) → x ≡ (o, (s, b.answers)) → Accepted S h x.1.0 × (length x.1.0 ≡ length s)
      kept x e = let q : x.1.0 ≡ s = ap (λ y. y.1.0) e in (rw q a, ap length q)
