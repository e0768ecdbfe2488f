-- ONE LOT, TWO SPELLINGS: lookup, put and remove answer both alike and leave the same bytes; every stored and every listed code is folded. Assumes nothing.
use mathlib.Core.Path.{◌≡◌, sym, ap, subst, ◌∙◌}
use mathlib.Core.List.{List}
use mathlib.Core.Logic.{◌⊎◌}
use Prim.Native.Nat.{ℕ, ◌<◌}
use lib.ListN.{length}
use Rattle.words.specs.Folds.{fold}
use Rattle.words.proofs.Folds.{fold_length}
use Rattle.ground.specs.Ladder.{Answers, refuse}
use Rattle.page.specs.declared.Place.{Place}
use Rattle.page.specs.Places.{stored}
use Rattle.partition.specs.declared.Shape.{Shape}
use Rattle.partition.proofs.Reorders.{mem_reordered, turned}
use Rattle.store.specs.Tables.{refused, Refusal1, Refusal4, Refusal14, checked, looked_up, put_by_mode, remove_accepted, lookup_table, put_table, remove_table}
use Rattle.store.specs.Spellings.{SameLot, StoredFolded, OneLot}
use Rattle.store.proofs.Accepted.Spelled.{held_folded}
use Rattle.store.proofs.Showing.Walked.{listed_once}

-- spellings of one lot have one length
same_length : (c d : List ℕ) → fold c ≡ fold d → length c ≡ length d
same_length c d e = sym (fold_length c) ∙ ap length e ∙ fold_length d

-- a table asks a given code for its length and for its folded form
module _ (S : Shape) (h : List ℕ → ℕ) (s c d : List ℕ) (e : fold c ≡ fold d) (l : length c ≡ length d) where
  lookup_same : lookup_table S h s c ≡ lookup_table S h s d
  unfolding lookup_table
  lookup_same = λ i. refuse (Refusal1 S s) (refused 1) (refuse ((l i ≡ 0) ⊎ (64 < l i)) (refused 3) (checked S h s (λ o. o) (looked_up S s (e i))))

  put_same : (p : Place) (m : ℕ) → put_table S h s c p m ≡ put_table S h s d p m
  unfolding put_table
  put_same p m = λ i. refuse (Refusal1 S s) (refused 1, s) (refuse ((l i ≡ 0) ⊎ (64 < l i)) (refused 3, s) (refuse (Refusal4 p) (refused 4, s) (refuse (Refusal14 m) (refused 14, s)
      (checked S h s (λ o. (o, s)) (put_by_mode S h s m (record { code = e i; place = stored p }))))))

  remove_same : remove_table S h s c ≡ remove_table S h s d
  unfolding remove_table
  remove_same = λ i. refuse (Refusal1 S s) (refused 1, s) (refuse ((l i ≡ 0) ⊎ (64 < l i)) (refused 3, s) (checked S h s (λ o. (o, s)) (remove_accepted S h s (e i))))

pub one_lot : OneLot
one_lot S h sized hash = (same, stored)
  where
    same : SameLot S h
    same c d e =
        let l = same_length c d e in (
          (λ s o t. let q = lookup_same S h s c d e l in (
            (λ m. (subst (λ x. Answers x o) q m.0, m.1)),
            (λ m. (subst (λ x. Answers x o) (sym q) m.0, m.1)),
          )),
          (λ p k s o t. let q = put_same S h s c d e l p k in (subst (λ x. Answers x (o, t)) q, subst (λ x. Answers x (o, t)) (sym q))),
          (λ s o t. let q = remove_same S h s c d e l in (subst (λ x. Answers x (o, t)) q, subst (λ x. Answers x (o, t)) (sym q))),
        )

    stored : StoredFolded S h
    stored s a r = (held_folded S h sized hash s a r, λ m. held_folded S h sized hash s a r (mem_reordered (turned (listed_once S h sized hash s a).1) m))
