-- The bucket of a hash among those worked out afresh: the shallowest prefix of the hash whose rows fit, where it has rows.
-- Assumes nothing.
use mathlib.Core.Path.{◌≡◌, sym, ap, subst, ◌∙◌}
use mathlib.Core.List.{List}
use mathlib.Core.Logic.{◌⊎◌, inl, inr, ◌↔◌}
use mathlib.Core.Option.{some, none}
use Prim.Native.Nat.{ℕ, ◌^◌, ◌≤◌, ◌<◌}
use native.Mathlib.Omega.{arith}
use Rattle.ground.proofs.Sides.{side}
use Rattle.partition.specs.Bits.{top}
use Rattle.partition.specs.declared.Shape.{Shape}
use Rattle.partition.specs.Partition.{Row, Prefix, needs, rows_of, IsBucket, Fine, buckets}
use Rattle.partition.proofs.Bits.{top_step}
use Rattle.partition.proofs.Laws.{Shallowest, bucket_shallowest}
use Rattle.partition.proofs.Path.{bucket_on, fit_unique}
use Rattle.partition.proofs.Rows.{load, load_mono, to_load, of_load}
use Rattle.partition.proofs.Tree.{pfx}
use Rattle.store.specs.Moves.{bucket_of}
use Rattle.store.proofs.Showing.Shown.{bucket_found, bucket_none}

module _ (S : Shape) (h : List ℕ → ℕ) (rs : List Row) (x j : ℕ) (f : Shallowest S h rs x j) where
  pub shallowest_bucket : 0 < needs (rows_of h rs j (top j x)) → IsBucket S h rs j (top j x)
  shallowest_bucket p = of_load S h rs j (top j x) (bucket_on (λ k. top k x) (top_step x) S.capacity (load h rs) (load_mono h rs) j p f)

  -- no other prefix of the hash is a bucket
  pub shallowest_only : (k : ℕ) → IsBucket S h rs k (top k x) → (k ≡ j) × (0 < needs (rows_of h rs j (top j x)))
  shallowest_only k b =
      let e = fit_unique (λ i. top i x) (top_step x) S.capacity (load h rs) (load_mono h rs) k j (bucket_shallowest S h rs x k b) f in
      (e, subst (λ i. 0 < load h rs i (top i x)) e (to_load S h rs k (top k x) b).pos)

  module _ (small : (c : List ℕ) → h c < 2 ^ 32) (fine : Fine S h rs) where
    some_rows : 0 < needs (rows_of h rs j (top j x)) → bucket_of x (buckets S h rs) ≡ some (pfx j (top j x))
    some_rows p = bucket_found S h small rs fine x j (shallowest_bucket p)

    no_rows : needs (rows_of h rs j (top j x)) ≡ 0 → bucket_of x (buckets S h rs) ≡ none
    no_rows z = bucket_none S h small rs fine x (λ k b. omega (arith, z, (shallowest_only k b).1))

    pub bucket_of_some : (p : Prefix) → (bucket_of x (buckets S h rs) ≡ some p) ↔ ((p ≡ pfx j (top j x)) × (0 < needs (rows_of h rs j (top j x))))
    bucket_of_some p = (λ e. there e (side 0 (needs (rows_of h rs j (top j x)))), λ q. some_rows q.1 ∙ ap some (sym q.0))
      where
        there : bucket_of x (buckets S h rs) ≡ some p → (0 < needs (rows_of h rs j (top j x))) ⊎ (needs (rows_of h rs j (top j x)) ≤ 0) → (p ≡ pfx j (top j x)) × (0 < needs (rows_of h rs j (top j x)))
        there e (inl l) = (cc (some_rows l), l)
        there e (inr l) = let z : needs (rows_of h rs j (top j x)) ≡ 0 = omega arith in absurd (let n : ◌≡◌ {A = ℕ} 0 1 = cc (no_rows z) in omega arith)

    pub bucket_of_none : (bucket_of x (buckets S h rs) ≡ none) ↔ (needs (rows_of h rs j (top j x)) ≡ 0)
    bucket_of_none = (
      (λ e. let n : 0 < needs (rows_of h rs j (top j x)) → ⊥ = λ l. let c : ◌≡◌ {A = ℕ} 0 1 = cc (some_rows l) in omega arith in omega arith),
      no_rows,
    )
