-- A batch in a history where each store says its own page size: it is its puts, at the size of its store. Over any hash. Assumes nothing.
use mathlib.Core.Path.{◌≡◌, refl, sym, subst, ◌∙◌}
use mathlib.Core.Bool.{true}
use mathlib.Core.List.{List}
use Prim.Native.Nat.{ℕ}
use Rattle.ground.specs.Ladder.{Answers}
use Rattle.ground.proofs.Ladders.{each}
use Rattle.partition.specs.declared.Shape.{Shape}
use Rattle.partition.specs.Partition.{Row}
use Rattle.partition.specs.Sizes.{shape_of}
use Rattle.store.specs.Demands.{Hash, put, ok}
use Rattle.store.specs.Tables.{Out, put_table}
use Rattle.any_size.specs.OwnSizes.{on, MadeSized, SizedHistory, goes_on}
use Rattle.any_size.proofs.Calls.{differs}
use Rattle.any_size.proofs.Histories.{same_size, afresh}
use Rattle.batch.specs.Batch.{Runs, Wanted, wanted, OneByOne, none_left, and_then, batch_table, survivors}
use Rattle.batch.proofs.Histories.{left_by_lem, refused_not}

module _ (h : List ℕ → ℕ) (hash : Hash h) (m : ℕ) where
  -- the puts of a chain at the size that its store says are calls of such a history, and leave the size
  pub puts_sized : {S : Shape} {l : List Wanted} {rs : List Row} {s ns t : List ℕ} → shape_of s ≡ S → SizedHistory h rs s → OneByOne S h m l s ns t
      → SizedHistory h (survivors l ns rs) t × (shape_of t ≡ S)
  puts_sized e H none_left = (H, e)
  puts_sized {S} {rs = rs} e H (and_then {w} {l} {s} {t} {u} {n} {ns} p ps) =
      let made : MadeSized h (on (put w.code w.place m)) s p.out t =
      (differs (put w.code w.place m) refl, subst (λ T. Answers (put_table T h s w.code w.place m) (p.out, t)) (sym e) p.made) in
      puts_sized (same_size h hash (put w.code w.place m) s p.out t (afresh h hash rs s H).keeps made ∙ e)
      (subst (λ x. SizedHistory h x t) (left_by_lem S h m w s n t p rs) (goes_on (on (put w.code w.place m)) p.out H made)) ps

  -- of the whole call: one that is taken is its puts
  pub batch_sized : (rs : List Row) (s : List ℕ) (b : Runs) → SizedHistory h rs s → (x : Out × (List ℕ × List ℕ)) → Answers (batch_table (shape_of s) h s b m) x
      → ok x.0 ≡ true → SizedHistory h (survivors (wanted b.codes b.lengths b.places) x.1.1 rs) x.1.0 × (shape_of x.1.0 ≡ shape_of s)
  unfolding batch_table
  batch_sized rs s b H = each (λ x. ok x.0 ≡ true → SizedHistory h (survivors (wanted b.codes b.lengths b.places) x.1.1 rs) x.1.0 × (shape_of x.1.0 ≡ shape_of s))
      (batch_table (shape_of s) h s b m) (
        (λ _ _ x e g. refused_not (shape_of s) h m refl x e g),
        (λ _. (
          (λ _ _ x e g. refused_not (shape_of s) h m refl x e g),
          (λ _. (
            (λ _ _ x e g. refused_not (shape_of s) h m refl x e g),
            (λ _. ((λ _ _ x e g. refused_not (shape_of s) h m refl x e g), (λ _ _ x e _. puts_sized refl H e.1))),
          )),
        )),
      )
