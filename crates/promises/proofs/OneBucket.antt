-- ONE BUCKET FOR EVERYTHING IS TURNED AWAY: rows that do not fit together have a directory of more than one entry. Under any hash, after any history;
-- and under a hash that parts fourteen long codes, as one by the first byte does, a program that keeps the tables comes to such rows. Assumes nothing.
use borrow.Author.Tests.{le-leb, lt-leb}
use mathlib.Core.Path.{◌≡◌, refl, sym, ap, ap₂, subst, ◌∙◌}
use mathlib.Core.Bool.{Bool, true, false}
use mathlib.Core.List.Memᴰ
use mathlib.Core.List.{List, [], ◌∷◌, ◌++◌, Memᴰ}
use mathlib.Core.Logic.{◌⊎◌, inl, inr, ⊎_elim}
use mathlib.Core.Option.{none}
use Prim.Native.Nat.{ℕ, zero, suc, ◌*◌, ◌/◌, ◌%◌, ◌^◌, ◌≤◌, ◌<◌}
use native.Mathlib.Omega.{arith}
use lib.Dec.{leb}
use lib.ListN.{length, replicate}
use Rattle.ground.specs.Lists.{byte}
use Rattle.ground.proofs.Sides.{side}
use Rattle.partition.specs.Bits.{top}
use Rattle.words.proofs.Bytes.{small_zeros}
use Rattle.words.specs.Folds.{Folded}
use Rattle.words.proofs.Folds.{byte_kept, folded_each}
use Rattle.store.proofs.Paging.PageTies.{zeros}
use Rattle.partition.specs.Listing.{place_of}
use Rattle.partition.specs.Partition.{Row, Fine, IsBucket, Grade, fits, over, fitting, need, needs, rows_of, grade, walk, buckets, depth_of}
use Rattle.partition.specs.declared.Shape.{Shape}
use Rattle.partition.specs.Sizes.{Sized, shape_of}
use Rattle.partition.proofs.Bits.{top_lt}
use Rattle.partition.proofs.Directory.{depth_bound}
use Rattle.partition.proofs.Laws.{share_fewer}
use Rattle.partition.proofs.Maps.{missing}
use Rattle.partition.proofs.Rows.{rows_all, rows_on, rows_off, listed}
use Rattle.partition.proofs.Sizes.{sized_of}
use Rattle.partition.proofs.Store.{fine_reordered, every_row}
use Rattle.partition.proofs.Tree.{pfx}
use Rattle.store.specs.Pages.{S1024, dir_depth}
use Rattle.store.specs.Demands.{Hash, History, sized_1024}
use Rattle.store.proofs.Showing.Showing.{accepted_shows}
use Rattle.store.proofs.Result.Fitted.{prefix_needs}
use Rattle.store.proofs.Demands.Whole.{demand_3}
use Rattle.any_size.specs.OwnSizes.{SizedHistory}
use Rattle.any_size.proofs.Histories.{own_history}
use Rattle.promises.specs.Programs.{Program, Bytes, Meets, OneBucket, Parting}
use Rattle.promises.proofs.Runs.{row_of, at, in_range, natural, room, At, begun, at_first, at_next}

module _ (h : List ℕ → ℕ) (hash : Hash h) where
  -- a row's bucket at depth 0 holds all rows
  all_in_one : (S : Shape) (rs : List Row) (x k : ℕ) → x < 2 ^ 32 → k ≡ 0 → IsBucket S h rs k (top k x) → needs rs ≤ S.capacity
  all_in_one S rs x k l e b =
      let z : top k x ≡ 0 = rw e (let m = top_lt x 0 l in omega arith) in
      let f : rows_of h rs k (top k x) ≡ rs = ap (λ n. rows_of h rs n (top n x)) e ∙ ap (λ v. rows_of h rs 0 v) (sym (ap (λ n. top n x) e) ∙ z) ∙ rows_all h hash rs in
      omega (arith, b.fit, ap needs f)

  more_than_one : (S : Shape) → Sized S → (rs : List Row) (t : List ℕ) → History S h rs t → S.capacity < needs rs → 0 < dir_depth t
  unfolding needs
  more_than_one S sized [] t H l = absurd (omega arith)
  more_than_one S sized (r ∷ rs) t H l =
      let A = (demand_3 S h sized hash).0 (r ∷ rs) t H in
      let f : Fine S h (r ∷ rs) = fine_reordered S h A.same (accepted_shows S h sized hash t A.keeps).fine in
      let b = every_row S h (r ∷ rs) f r (Memᴰ.head refl) in
      let d : b.0 ≤ depth_of (buckets S h (r ∷ rs)) = depth_bound (buckets S h (r ∷ rs)) (pfx b.0 (top b.0 (h r.code))) ((listed S h hash (r ∷ rs) b.0 (top b.0 (h r.code))).1 (b.2, b.1)) in
      ⊎_elim
      (λ z. absurd (let m = all_in_one S (r ∷ rs) (h r.code) b.0 (hash r.code) (omega (arith, A.depth)) b.2 in omega arith))
      (λ z. z)
      (side (dir_depth t) 1)

  pub more_than_one_bucket : (rs : List Row) (t : List ℕ) → SizedHistory h rs t → (shape_of t).capacity < needs rs → 0 < dir_depth t
  more_than_one_bucket rs t H = more_than_one (shape_of t) (sized_of t) rs t (own_history h hash rs t H)

  -- ---- rows of the codes that the hash parts, each put after those before it

  module _ (G : Parting h) where
    abbrev row : ℕ → Row
    row n = row_of (G.code n) (at 0)

    first_rows : ℕ → List Row
    first_rows zero = []
    first_rows (suc n) = row n ∷ first_rows n

    needs_of : (n : ℕ) → n ≤ 14 → needs (first_rows n) ≡ 76 * n
    unfolding first_rows needs need
    needs_of zero l = omega arith
    needs_of (suc n) l = omega (arith, G.long n (omega arith), needs_of n (omega arith))

    from : (n : ℕ) (r : Row) → Memᴰ r (first_rows n) → (i : ℕ) × (i < n) × (r.code ≡ G.code i)
    unfolding first_rows
    from zero r m = absurd (Memᴰ.not-nil m)
    from (suc n) r m = go (Memᴰ.cases_cons m) (from n r)
      where
        go : (r ≡ row n) ⊎ Memᴰ r (first_rows n) → (Memᴰ r (first_rows n) → (i : ℕ) × (i < n) × (r.code ≡ G.code i)) → (i : ℕ) × (i < suc n) × (r.code ≡ G.code i)
        go (inl e) f = (n, omega arith, ap (λ q. q.code) e)
        go (inr x) f = let w = f x in (w.0, omega (arith, w.1), w.2)

    fresh : (n : ℕ) → n < 14 → place_of (first_rows n) (G.code n) ≡ none
    fresh n l = missing (first_rows n) (G.code n) (λ r m e. let w = from n r m in G.apart w.0 n w.1 l (sym (e ∙ w.2)))

    -- of the first thirteen all begin with 0
    all_zeros : (n : ℕ) → n ≤ 13 → rows_of h (first_rows n) 1 0 ≡ first_rows n
    unfolding first_rows rows_of
    all_zeros zero l = refl
    all_zeros (suc n) l = let z : top 1 (h (G.code n)) ≡ 0 = G.zeros n (omega arith) in
        subst (λ v. rows_of h (first_rows (suc n)) 1 v ≡ row n ∷ rows_of h (first_rows n) 1 v) z (rows_on h (row n) (first_rows n) 1) ∙ ap (λ (q : List Row). row n ∷ q) (all_zeros n (omega arith))

    -- and none has a prefix of the last
    none_one : (n k v : ℕ) → n ≤ 13 → ((i : ℕ) → i < 13 → top k (h (G.code i)) ≡ v → ⊥) → rows_of h (first_rows n) k v ≡ []
    unfolding first_rows rows_of
    none_one zero k v l f = refl
    none_one (suc n) k v l f = rows_off h (row n) (first_rows n) k v (f n (omega arith)) ∙ none_one n k v (omega arith) f

    last_on : (k v : ℕ) → top k (h (G.code 13)) ≡ v → ((i : ℕ) → i < 13 → top k (h (G.code i)) ≡ v → ⊥) → rows_of h (first_rows 14) k v ≡ row 13 ∷ []
    unfolding first_rows
    last_on k v e f =
        subst (λ w. rows_of h (first_rows 14) k w ≡ row 13 ∷ rows_of h (first_rows 13) k w) e (rows_on h (row 13) (first_rows 13) k) ∙ ap (λ (q : List Row). row 13 ∷ q) (none_one 13 k v (omega arith) f)

    apart_8 : (i : ℕ) → i < 13 → top 8 (h (G.code i)) ≡ top 8 (h (G.code 13)) → ⊥
    apart_8 i l e = omega (arith, share_fewer (h (G.code i)) (h (G.code 13)) 1 8 (omega arith) e, G.zeros i l, G.one)

    need_last : needs (row 13 ∷ []) ≡ 76
    unfolding needs need
    need_last = omega (arith, G.long 13 (omega arith))

    near_of : (n : ℕ) → n < 14 → needs (rows_of h (first_rows (suc n)) 8 (top 8 (h (G.code n)))) ≤ 1016
    near_of n l = ⊎_elim
        (λ m. omega (arith, prefix_needs h (first_rows (suc n)) 8 (top 8 (h (G.code n))), needs_of (suc n) (omega arith)))
        (λ (m : 13 ≤ n). let e : n ≡ 13 = omega arith in rw e (omega (arith, ap needs (last_on 8 (top 8 (h (G.code 13))) refl apart_8), need_last)))
        (side n 13)

    -- the fourteen have two buckets
    graded : (rs : List Row) → 0 < length rs → (b : Bool) → leb (needs rs) 1016 ≡ b → grade 1016 rs ≡ fitting b
    unfolding grade
    graded [] l b e = absurd (omega arith)
    graded (r ∷ rs) l b e = ap fitting e

    some : (n : ℕ) → 0 < length (first_rows (suc n))
    unfolding first_rows
    some n = omega arith

    others : rows_of h (first_rows 14) 1 0 ≡ first_rows 13
    unfolding first_rows
    others = rows_off h (row 13) (first_rows 13) 1 0 (λ e. omega (arith, e, G.one)) ∙ all_zeros 13 (omega arith)

    two : length (buckets S1024 h (first_rows 14)) ≤ 2
    unfolding buckets walk
    two =
        let q : ℕ → ℕ → Grade = λ k v. grade 1016 (rows_of h (first_rows 14) k v) in
        let o : grade 1016 (rows_of h (first_rows 14) 0 0) ≡ over = ap (grade 1016) (rows_all h hash (first_rows 14)) ∙ graded (first_rows 14) (some 13) false (lt-leb (needs (first_rows 14)) 1016 (omega (arith, needs_of 14 (omega arith)))) in
        let a : grade 1016 (rows_of h (first_rows 14) 1 0) ≡ fits = ap (grade 1016) others
        ∙ graded (first_rows 13) (some 12) true (le-leb (needs (first_rows 13)) 1016 (omega (arith, needs_of 13 (omega arith)))) in
        let b : grade 1016 (rows_of h (first_rows 14) 1 1) ≡ fits = ap (grade 1016) (last_on 1 1 G.one (λ i l e. omega (arith, e, G.zeros i l)))
        ∙ graded (row 13 ∷ []) (omega arith) true (le-leb (needs (row 13 ∷ [])) 1016 (omega (arith, need_last))) in
        let w : buckets S1024 h (first_rows 14) ≡ pfx 1 0 ∷ pfx 1 1 ∷ [] = ap (λ g. walk q 8 g 0 0) o
        ∙ ap₂ (λ x y. walk q 7 x 1 0 ++ walk q 7 y 1 1) a b in
        omega (arith, ap length w)

    room_of : (n : ℕ) → n < 14 → length (buckets S1024 h (first_rows (suc n))) ≤ 2
    unfolding first_rows
    room_of n l = ⊎_elim
        (λ m. omega (arith, room h hash (row n) (first_rows n) (omega (arith, needs_of (suc n) (omega arith)))))
        (λ m. let e : n ≡ 13 = omega arith in rw e two)
        (side n 13)

    module _ (P : Program) (meets : Meets h P) (f : OneBucket P) where
      -- a program that keeps the tables puts them all, and has one directory entry all the time
      put_all : (n : ℕ) → n ≤ 14 → (t : List ℕ) × At h hash P meets (first_rows n) t × (dir_depth t ≡ 0)
      unfolding first_rows buckets grade rows_of walk depth_of
      put_all zero l = (begun h hash P meets, at_first h hash P meets, ((demand_3 S1024 h sized_1024 hash).0 [] (begun h hash P meets) (at_first h hash P meets).past).depth)
      put_all (suc n) l =
          let w = put_all n (omega arith) in
          let m : n < 14 = omega arith in (
            (P.put w.0 (G.code n) (at 0) 0).1,
            at_next h hash P meets w.1 (G.code n) (at 0) (record { least = omega (arith, G.long n m); most = omega (arith, G.long n m) }) (G.small n m) (G.folded n m) (in_range 0 (omega arith)) (natural 0)
                (fresh n m) (near_of n m) (room_of n m),
            f w.0 (G.code n) (at 0) 0 w.2,
          )

      pub comes_to_two : ⊥
      comes_to_two =
          let w = put_all 14 (omega arith) in
          omega (arith, w.2, more_than_one S1024 sized_1024 (first_rows 14) w.0 w.1.past (omega (arith, needs_of 14 (omega arith))))

-- ONE BUCKET FOR EVERYTHING
pub one_bucket : (h : List ℕ → ℕ) → Hash h → (P : Program) → Meets h P → Parting h → OneBucket P → ⊥
one_bucket h hash P meets G f = comes_to_two h hash G P meets f

-- ---- a hash that has such codes: the top bit, by the first byte; codes that begin with 0 to 12, and with 13

abbrev pub by_first : List ℕ → ℕ
by_first c = byte c 0 / 13 % 2 * 2147483648

abbrev coded : ℕ → List ℕ
coded x = x ∷ replicate 63 0

coded_small : (x : ℕ) → x ≤ 255 → Bytes (coded x)
coded_small x l zero = omega arith
coded_small x l (suc k) = (small_zeros 63).at k

-- no byte of them is a capital
coded_folded : (x : ℕ) → x < 14 → Folded (coded x)
coded_folded x l = folded_each (coded x) (λ k _. (byte_kept (byte (coded x) k)).1 (inl (low k)))
  where
    low : (k : ℕ) → byte (coded x) k < 0x41
    low zero = omega arith
    low (suc k) = omega (arith, zeros 63 k)

top_bit : (n : ℕ) → top 1 (n % 2 * 2147483648) ≡ n % 2
unfolding top
top_bit n = omega arith

pub first_parts : Parting by_first
first_parts = record {
  code = coded;
  long = λ i l. refl;
  small = λ i l. coded_small i (omega arith);
  folded = coded_folded;
  apart = λ i j l m e. omega (arith, ap (λ c. byte c 0) e);
  zeros = λ i l. top_bit (i / 13) ∙ omega arith;
  one = top_bit 1;
}
