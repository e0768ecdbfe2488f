-- Demand 3 reads a batch as its puts: the chain is those puts as a history, with the rows that survive them. Over any page size and hash. Assumes nothing.
use mathlib.Core.Path.{◌≡◌, refl, sym, ap, subst, ◌∙◌}
use mathlib.Core.Bool.{true, false, true≢false}
use mathlib.Core.List.{List}
use Prim.Native.Nat.{ℕ}
use Rattle.ground.specs.Ladder.{Answers}
use Rattle.ground.proofs.Ladders.{Each, each}
use Rattle.words.specs.Folds.{fold}
use Rattle.partition.specs.declared.Shape.{Shape}
use Rattle.partition.specs.Partition.{Row}
use Rattle.page.specs.Places.{stored}
use Rattle.store.specs.Demands.{put, ok, surviving, History, next}
use Rattle.store.specs.Tables.{Out, put_table, put_by_mode}
use Rattle.batch.specs.Batch.{Runs, Wanted, wanted, number, OnePut, OneByOne, none_left, and_then, batch_table, left_by, survivors}

module _ (S : Shape) (h : List ℕ → ℕ) (m : ℕ) where
  -- the answer number says whether the put was refused
  module _ (w : Wanted) (s : List ℕ) (rs : List Row) where
    abbrev Left : Out → Type 0
    Left o = left_by (number o) w rs ≡ surviving (put w.code w.place m) o rs

    kept : (o : Out) → Left o → (x : Out × List ℕ) → x ≡ (o, s) → Left x.0
    kept o f x e = subst (λ y. Left y.0) (sym e) f

    wrote : (o : Out) → Left o → (x : Out × List ℕ) → x.0 ≡ o → Left x.0
    wrote o f x e = subst Left (sym e) f

    by_mode : Each (λ x. Left x.0) (put_by_mode S h s m (record { code = fold w.code; place = stored w.place }))
    by_mode = (
      (λ _ _. kept _ refl),
      (λ _. (
        (λ _ _. kept _ refl),
        (λ _. ((λ old _ x e. wrote _ refl x e.0), (λ _. ((λ _ _. kept _ refl), (λ _. ((λ _ _. kept _ refl), (λ _ x e. wrote _ refl x e.0))))))),
      )),
    )

    by_answer : (x : Out × List ℕ) → Answers (put_table S h s w.code w.place m) x → Left x.0
    unfolding put_table
    by_answer = each (λ x. Left x.0) (put_table S h s w.code w.place m) (
      (λ _ _. kept _ refl),
      (λ _. ((λ _ _. kept _ refl), (λ _. ((λ _ _. kept _ refl), (λ _. ((λ _ _. kept _ refl), (λ _. ((λ _ _. kept _ refl), (λ _ _. by_mode))))))))),
    )

  pub left_by_lem : (w : Wanted) (s : List ℕ) (n : ℕ) (t : List ℕ) (p : OnePut S h m w s n t) (rs : List Row) → surviving (put w.code w.place m) p.out rs ≡ left_by n w rs
  left_by_lem w s n t p rs = sym (ap (λ k. left_by k w rs) p.is ∙ by_answer w s rs (p.out, t) p.made)

  pub puts_history : {l : List Wanted} {rs : List Row} {s ns t : List ℕ} → History S h rs s → OneByOne S h m l s ns t → History S h (survivors l ns rs) t
  puts_history H none_left = H
  puts_history {rs = rs} H (and_then {w} {l} {s} {t} {u} {n} {ns} p ps) =
      puts_history (subst (λ x. History S h x t) (left_by_lem w s n t p rs) (next (put w.code w.place m) p.out H p.made)) ps

  pub refused_not : {A : Type 0} {y : Out × (List ℕ × List ℕ)} → ok y.0 ≡ false → (x : Out × (List ℕ × List ℕ)) → x ≡ y → ok x.0 ≡ true → A
  refused_not f x e g = absurd (true≢false (sym g ∙ ap (λ y. ok y.0) e ∙ f))

  -- of the whole call: one that is taken is its puts
  pub batch_history : (rs : List Row) (s : List ℕ) (b : Runs) → History S h rs s → (x : Out × (List ℕ × List ℕ)) → Answers (batch_table S h s b m) x
      → ok x.0 ≡ true → History S h (survivors (wanted b.codes b.lengths b.places) x.1.1 rs) x.1.0
  unfolding batch_table
  batch_history rs s b H = each (λ x. ok x.0 ≡ true → History S h (survivors (wanted b.codes b.lengths b.places) x.1.1 rs) x.1.0) (batch_table S h s b m) (
    (λ _ _ x e g. refused_not refl x e g),
    (λ _. ((λ _ _ x e g. refused_not refl x e g), (λ _. ((λ _ _ x e g. refused_not refl x e g), (λ _. ((λ _ _ x e g. refused_not refl x e g), (λ _ _ x e _. puts_history H e.1))))))),
  )
