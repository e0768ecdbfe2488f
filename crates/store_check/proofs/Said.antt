-- The page size that a store says is of the table, told apart there by its depth. Assumes nothing.
use mathlib.Core.Path.{◌≡◌, refl, sym, subst}
use mathlib.Core.Bool.{Bool, true, false}
use mathlib.Core.List.{List}
use Prim.Native.Nat.{ℕ, ◌+◌, ◌%◌}
use native.Mathlib.Omega.{arith}
use lib.Dec.{eqb}
use lib.ListN.{length-replicate, replicate}
use Rattle.words.specs.Le.{le32}
use Rattle.partition.specs.declared.Shape.{Shape}
use Rattle.partition.specs.Partition.{S1024}
use Rattle.partition.specs.Sizes.{size, Sized, S4096, S16384, either, shape_for, shape_of}
use Rattle.partition.proofs.Sizes.{sized_for, sized_of}
use Rattle.store.proofs.Paging.PageTies.{zeros}
use Rattle.store_check.specs.Begun.{Judgeable, Tables, Checkable}

pub said_sized : (s : List ℕ) (z : Shape) → z ≡ shape_of s → Sized z
said_sized s z e = subst Sized (sym e) (sized_of s)

pub record ByDepth (z : Shape) : Type 0 where
  pub eight : z.deepest ≡ 8 → z ≡ S1024
  pub ten : z.deepest ≡ 10 → z ≡ S4096
  pub other : (z.deepest ≡ 8 → ⊥) → (z.deepest ≡ 10 → ⊥) → z ≡ S16384

of_table : (a b : Bool) → ByDepth (either a S4096 (either b S16384 S1024))
of_table true b = record { eight = λ e. absurd (omega arith); ten = λ e. refl; other = λ m n. absurd (n refl) }
of_table false true = record { eight = λ e. absurd (omega arith); ten = λ e. absurd (omega arith); other = λ m n. refl }
of_table false false = record { eight = λ e. refl; ten = λ e. absurd (omega arith); other = λ m n. absurd (m refl) }

pub by_depth : (s : List ℕ) (z : Shape) → z ≡ shape_of s → ByDepth z
unfolding shape_of shape_for
by_depth s z e = subst ByDepth (sym e) (of_table (eqb (le32 s 20) 4096) (eqb (le32 s 20) 16384))

pub sized_4096 : Sized S4096
unfolding shape_for
sized_4096 = sized_for 4096

pub sized_16384 : Sized S16384
unfolding shape_for
sized_16384 = sized_for 16384

-- tables of zeros, as long as the size S asks
abbrev Blank : Shape → Shape → Type 0
Blank S z = Tables z (replicate S.entries 0) (replicate (S.entries + 2) 0) (replicate (S.entries + 2) 0) (replicate (S.entries + 1) 0) (replicate (size S) 0)

blank : (S : Shape) → Blank S S
blank S = record {
  dir_long = length-replicate {A = ℕ} S.entries 0;
  counts_long = length-replicate {A = ℕ} (S.entries + 2) 0;
  hashes_long = length-replicate {A = ℕ} (S.entries + 2) 0;
  sums_long = length-replicate {A = ℕ} (S.entries + 1) 0;
  tab_long = length-replicate {A = ℕ} (size S) 0;
  no_dir = zeros S.entries;
  no_counts = zeros (S.entries + 2);
  no_hashes = zeros (S.entries + 2);
  no_sums = zeros (S.entries + 1);
  no_tab = zeros (size S);
}

-- they are what the check of a store of that size starts with
pub fresh : (S z : Shape) (s : List ℕ) (k : ℕ) → Sized S → size S % 1024 ≡ 0 → (z ≡ S) × Judgeable z s k
    → Checkable z s k (replicate S.entries 0) (replicate (S.entries + 2) 0) (replicate (S.entries + 2) 0) (replicate (S.entries + 1) 0) (replicate (size S) 0)
fresh S z s k d b p = record { sized = subst Sized (sym p.0) d; blocks = subst (λ x. size x % 1024 ≡ 0) (sym p.0) b; judgeable = p.1; tables = subst (Blank S) (sym p.0) (blank S) }
