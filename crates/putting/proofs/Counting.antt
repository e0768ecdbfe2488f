-- The buckets below a prefix counted by their depths. Over any page size and hash. Assumes nothing.
use mathlib.Core.Path.{◌≡◌, refl, ap, ◌∙◌}
use mathlib.Core.List.{List, [], ◌∷◌, ◌++◌, map}
use mathlib.Core.Logic.{⊎_elim}
use Prim.Native.Nat.{ℕ, suc, ◌+◌, ◌*◌, ◌≤◌, ◌<◌}
use native.Mathlib.Omega.{arith}
use lib.ListN.{length, get_or, length-append, length-map, length-set}
use lib.Seq.{get_or-set_same, get_or-set_other}
use Rattle.partition.specs.declared.Shape.{Shape}
use Rattle.partition.specs.Partition.{Row, Prefix, rows_of}
use Rattle.partition.specs.Listing.{in_order}
use Rattle.partition.proofs.Tree.{pfx}
use Rattle.store.specs.Pages.{Page, bucket}
use Rattle.store.specs.Moves.{pack_from, packed}
use Rattle.store.specs.Counts.{one_at, buckets_at}
use Rattle.store.proofs.Counts.Ones.{ones}
use Rattle.store.proofs.Counts.Words.{buckets_few}
use Rattle.counts.specs.Tallies.{one_more}
use Rattle.putting.specs.Split.{below, pages_below, CountedBelow}

both : (j : ℕ) (f : Prefix → Page) (ps qs : List Prefix) → buckets_at j (map f (ps ++ qs)) ≡ buckets_at j (map f ps) + buckets_at j (map f qs)
unfolding buckets_at
both j f [] qs = omega arith
both j f (p ∷ ps) qs = omega (arith, both j f ps qs)

-- which rows they have does not count
pub same_depths : (h : List ℕ → ℕ) (j : ℕ) (rs qs : List Row) (ps : List Prefix) → buckets_at j (map (packed h rs) ps) ≡ buckets_at j (map (packed h qs) ps)
unfolding buckets_at packed
same_depths h j rs qs [] = refl
same_depths h j rs qs (p ∷ ps) = ap (λ n. one_at j (packed h qs p) + n) (same_depths h j rs qs ps)

module _ (S : Shape) (h : List ℕ → ℕ) (rs : List Row) (k v : ℕ) where
  pub counted_none : (l : List ℕ) → length l ≡ 14 → below S h rs k v ≡ [] → CountedBelow S h rs k v l l
  unfolding buckets_at
  counted_none l n e = record { long = n; each = λ j b. omega (arith, ap (λ ps. buckets_at j (map (packed h rs) ps)) e) }

  one_below : (j : ℕ) → below S h rs k v ≡ pfx k v ∷ [] → buckets_at j (pages_below S h rs k v) ≡ one_at j (bucket k (pack_from 8 (in_order (rows_of h rs k v))))
  unfolding buckets_at packed
  one_below j e = omega (arith, ap (λ ps. buckets_at j (map (packed h rs) ps)) e)

  pub counted_one : (l : List ℕ) → length l ≡ 14 → k ≤ 12 → below S h rs k v ≡ pfx k v ∷ [] → CountedBelow S h rs k v l (one_more l (1 + k))
  counted_one l n low e = record {
    long = length-set l (1 + k) _ ∙ n;
    each = λ j b. ⊎_elim
        (λ o. let q : suc j ≡ 1 + k = omega (arith, o.0) in
        omega (arith, ap (λ m. get_or (one_more l (1 + k)) m 0) q, get_or-set_same l (1 + k) (get_or l (1 + k) 0 + 1) 0 (omega (arith, n)), ap (λ m. get_or l m 0) q, one_below j e, o.1))
        (λ o. omega (arith, get_or-set_other l (1 + k) (suc j) (get_or l (1 + k) 0 + 1) 0 (λ q. o.0 (omega (arith, q))), one_below j e, o.1))
        (ones j k (pack_from 8 (in_order (rows_of h rs k v))));
  }

  -- two halves
  module _ (e : below S h rs k v ≡ below S h rs (k + 1) (2 * v) ++ below S h rs (k + 1) (2 * v + 1)) (l : List ℕ) where
    pub counted_two : (a b : List ℕ) → CountedBelow S h rs (k + 1) (2 * v) l a → CountedBelow S h rs (k + 1) (2 * v + 1) a b → CountedBelow S h rs k v l b
    counted_two a b A B = record {
      long = B.long;
      each = λ j m. omega (arith, A.each j m, B.each j m, ap (λ ps. buckets_at j (map (packed h rs) ps)) e, both j (packed h rs) (below S h rs (k + 1) (2 * v)) (below S h rs (k + 1) (2 * v + 1)));
    }

    module _ (few : (j : ℕ) → j ≤ 12 → get_or l (suc j) 0 + length (below S h rs k v) < 4294967296) where
      sum : length (below S h rs k v) ≡ length (below S h rs (k + 1) (2 * v)) + length (below S h rs (k + 1) (2 * v + 1))
      sum = ap length e ∙ length-append (below S h rs (k + 1) (2 * v)) (below S h rs (k + 1) (2 * v + 1))

      pub few_left : (j : ℕ) → j ≤ 12 → get_or l (suc j) 0 + length (below S h rs (k + 1) (2 * v)) < 4294967296
      few_left j m = omega (arith, few j m, sum)

      pub few_right : (a : List ℕ) → CountedBelow S h rs (k + 1) (2 * v) l a → (j : ℕ) → j ≤ 12 → get_or a (suc j) 0 + length (below S h rs (k + 1) (2 * v + 1)) < 4294967296
      few_right a A j m =
          omega (arith, few j m, sum, A.each j m, buckets_few j (pages_below S h rs (k + 1) (2 * v)), length-map (below S h rs (k + 1) (2 * v)) (packed h rs))
