-- Reordered rows have the same directory. Assumes nothing.
use mathlib.Core.Path.{◌≡◌, refl, ap, ◌∙◌}
use mathlib.Core.List.{List}
use mathlib.Core.Option.{Option, some, none}
use Prim.Native.Nat.{ℕ, ◌^◌}
use Rattle.ground.specs.Lists.{tab}
use Rattle.partition.specs.declared.Shape.{Shape}
use Rattle.partition.specs.Partition.{Row, Prefix, Reordered, buckets, depth_of, entry}
use Rattle.ground.proofs.Tables.{tab_same}
use Rattle.partition.proofs.Sorted.{bucket_same}
use Rattle.partition.proofs.Laws.{reordered}
use Rattle.partition.specs.Listing.{Once}
use Rattle.store.specs.Demands.{seen_afresh, afresh}

module _ (S : Shape) (h : List ℕ → ℕ) (rs qs : List Row) (p : Reordered rs qs) (o : Once rs) where
  seen_same : (x : Option Prefix) → seen_afresh h rs x ≡ seen_afresh h qs x
  seen_same none = refl
  seen_same (some x) = ap (λ l. some (x.bits, l)) (bucket_same h rs qs p o x.bits x.value)

  pub afresh_same : afresh S h rs ≡ afresh S h qs
  afresh_same =
      tab_same _ _ (2 ^ depth_of (buckets S h rs)) (λ i l. seen_same (entry (buckets S h rs) (depth_of (buckets S h rs)) i))
      ∙ ap (λ bs. tab (λ i. seen_afresh h qs (entry bs (depth_of bs) i)) (2 ^ depth_of bs)) (reordered S h p)
