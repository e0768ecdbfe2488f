-- What the rows of a prefix need, added up over its run of directory entries, each bucket once at its first. Over any page size and hash. Assumes nothing.
use mathlib.Core.Path.{◌≡◌, sym, ap, ap₂, subst, ◌∙◌}
use mathlib.Core.List.{List, map}
use mathlib.Core.Logic.{◌⊎◌, inl, inr, ⊎_elim}
use Prim.Native.Nat.{ℕ, zero, suc, ◌+◌, ◌-◌, ◌*◌, ◌/◌, ◌^◌, ◌≤◌, ◌<◌}
use native.Mathlib.Omega.{arith}
use native.Mathlib.Nat.{le_refl, le_trans, mul_assoc, mul-le-mul_right, pow-suc}
use lib.Pow.{pow-add, shr-shr}
use lib.ListN.{length}
use Rattle.ground.specs.Lists.{byte, total}
use Rattle.ground.proofs.Sides.{side}
use Rattle.ground.proofs.Tables.{total_same}
use Rattle.words.specs.Le.{le16}
use Rattle.page.specs.Page.{depth, rows}
use Rattle.page.proofs.Sums.{total_more, total_none, total_le}
use Rattle.partition.specs.Bits.{top}
use Rattle.partition.specs.Partition.{Row, Prefix, needs, rows_of, IsBucket, first, after}
use Rattle.partition.proofs.Tree.{pfx}
use Rattle.partition.proofs.Rows.{load, listed}
use Rattle.partition.proofs.Sum.{rows_halves}
use Rattle.partition.proofs.Laws.{share_fewer}
use Rattle.partition.proofs.Order.{first_lt_after}
use Rattle.partition.proofs.Reorders.{needs_same, needs_append}
use Rattle.partition.proofs.Sorted.{in_order_reordered}
use Rattle.partition.proofs.Directory.{Holds, holds_range, entries_size}
use Rattle.partition.specs.declared.Shape.{Shape}
use Rattle.store.specs.Pages.{size, page, dir_depth, entry_at, contents, as_row, rows_held}
use Rattle.store.specs.Accepted.{Accepted}
use Rattle.store.specs.Demands.{Sized, Hash}
use Rattle.store.proofs.Accepted.Rules.{Opened, opened}
use Rattle.store.proofs.Showing.Shows.{prefix_on, OnPage, Shows}
use Rattle.store.proofs.Showing.Shown.{paged}
use Rattle.store.proofs.Showing.Showing.{under, accepted_shows}
use Rattle.store.proofs.Accepted.Unique.{page_long, within}
use Rattle.store.proofs.Showing.Within.{one_depth}
use Rattle.store.proofs.Paging.PageTies.{page_needs}
use Rattle.store.proofs.Accepted.Named.{deep_small, calls_hash, shown_bucket}
use Rattle.store.proofs.Accepted.Reading.{Naming}
use Rattle.store.proofs.Showing.Walked.{Start, behind, walk_none, walk_page}
use Rattle.joining.specs.Prefix.{Above}
use Rattle.directory.proofs.Vacancy.{set_entry}
use Rattle.store.proofs.Paging.Depths.{page_byte}

-- ---- a load on prefixes that is the sum of its halves, over all prefixes m bits longer

total_both : (f : ℕ → ℕ) (m n : ℕ) → total f (m + n) ≡ total f m + total (λ i. f (m + i)) n
total_both f m zero = let e : m + zero ≡ m = omega arith in omega (arith, ap (total f) e, total_none (λ i. f (m + i)))
total_both f m (suc n) =
    let e : m + suc n ≡ m + n + 1 = omega arith in
    let o : suc n ≡ n + 1 = omega arith in
    omega (arith, ap (total f) e, total_more f (m + n), ap (total (λ i. f (m + i))) o, total_more (λ i. f (m + i)) n, total_both f m n)

module _ (L : ℕ → ℕ → ℕ) (halves : (k v : ℕ) → L k v ≡ L (suc k) (2 * v) + L (suc k) (2 * v + 1)) where
  deeper : (m k v : ℕ) → L k v ≡ total (λ n. L (k + m) (v * 2 ^ m + n)) (2 ^ m)
  deeper zero k v =
      let a : k + 0 ≡ k = omega arith in
      let b : v * 1 + 0 ≡ v = omega arith in
      omega (arith, total_more (λ n. L (k + 0) (v * 1 + n)) 0, total_none (λ n. L (k + 0) (v * 1 + n)), ap₂ L a b)
  deeper (suc m) k v =
      halves k v ∙ ap₂ ◌+◌ (deeper m (suc k) (2 * v) ∙ low) (deeper m (suc k) (2 * v + 1) ∙ high) ∙ sym (total_both F (2 ^ m) (2 ^ m)) ∙ ap (total F) twice
    where
      F : ℕ → ℕ
      F n = L (k + suc m) (v * 2 ^ suc m + n)

      twice : 2 ^ m + 2 ^ m ≡ 2 ^ suc m
      twice = rw pow-suc (omega arith)

      same : suc k + m ≡ k + suc m
      same = omega arith

      low : total (λ n. L (suc k + m) (2 * v * 2 ^ m + n)) (2 ^ m) ≡ total F (2 ^ m)
      low = total_same _ F (2 ^ m) (λ n _. ap₂ L same (rw pow-suc (omega arith)))

      high : total (λ n. L (suc k + m) ((2 * v + 1) * 2 ^ m + n)) (2 ^ m) ≡ total (λ n. F (2 ^ m + n)) (2 ^ m)
      high = total_same _ (λ n. F (2 ^ m + n)) (2 ^ m) (λ n _. ap₂ L same (rw pow-suc (omega arith)))

-- what the rows of a prefix need is what those of its entries need
run_load : (h : List ℕ → ℕ) (rs : List Row) (d : ℕ) (p : Prefix) → p.bits ≤ d → load h rs p.bits p.value ≡ total (λ n. load h rs d (first d p + n)) (2 ^ (d - p.bits))
unfolding first
run_load h rs d p l =
    let e : p.bits + (d - p.bits) ≡ d = omega arith in
    deeper (load h rs) (λ k v. needs_same (rows_halves h rs k v) ∙ needs_append (rows_of h rs (suc k) (2 * v)) (rows_of h rs (suc k) (2 * v + 1))) (d - p.bits) p.bits p.value
    ∙ ap (λ k. total (λ n. load h rs k (p.value * 2 ^ (d - p.bits) + n)) (2 ^ (d - p.bits))) e

-- of two prefixes with one entry the run of the longer lies in that of the shorter
run_in : (d i : ℕ) (p q : Prefix) → p.bits ≤ q.bits → q.bits ≤ d → Holds d i p → Holds d i q → (first d p ≤ first d q) × (after d q ≤ after d p)
unfolding first after
run_in d i p q l m e f =
    let n : d - q.bits + (q.bits - p.bits) ≡ d - p.bits = omega arith in
    let o : q.bits - p.bits + (d - q.bits) ≡ d - p.bits = omega arith in
    let c : q.value / 2 ^ (q.bits - p.bits) ≡ p.value = ap (λ w. w / 2 ^ (q.bits - p.bits)) (sym f) ∙ shr-shr i (d - q.bits) (q.bits - p.bits) ∙ ap (λ w. i / 2 ^ w) n ∙ e in
    let r = (holds_range q.bits q.value p).0 c in
    let s : 2 ^ (q.bits - p.bits) * 2 ^ (d - q.bits) ≡ 2 ^ (d - p.bits) = sym (pow-add 2 (q.bits - p.bits) (d - q.bits)) ∙ ap (λ w. 2 ^ w) o in
    let a : p.value * 2 ^ (q.bits - p.bits) * 2 ^ (d - q.bits) ≤ q.value * 2 ^ (d - q.bits) = mul-le-mul_right (2 ^ (d - q.bits)) r.0 in
    let b : (q.value + 1) * 2 ^ (d - q.bits) ≤ (p.value + 1) * 2 ^ (q.bits - p.bits) * 2 ^ (d - q.bits) = mul-le-mul_right (2 ^ (d - q.bits)) (omega (arith, r.1)) in
    (rw (mul_assoc, s) at a, rw (mul_assoc, s) at b)

-- ---- an accepted store: the prefix of j bits of a hash that a bucket no shorter holds

-- The entries from the run's first up to i are walked: their rows need `sum`, and a bucket that has entry i begins there.
pub record Summed (S : Shape) (h : List ℕ → ℕ) (s : List ℕ) (x j i sum : ℕ) : Type 0 where
  pub from : first (dir_depth s) (pfx j (top j x)) ≤ i
  pub to : i ≤ after (dir_depth s) (pfx j (top j x))
  pub starts : Start S h s i
  pub is : sum ≡ total (λ n. load h (rows_held S s) (dir_depth s) (first (dir_depth s) (pfx j (top j x)) + n)) (i - first (dir_depth s) (pfx j (top j x)))

-- Entry i is the first of page p: the bytes that are read of the page, and the walk past its entries.
pub record Step (S : Shape) (h : List ℕ → ℕ) (s : List ℕ) (x j i sum p : ℕ) : Type 0 where
  pub inside : p * size S + size S ≤ length s
  pub deep : byte s (p * size S + 1) ≤ dir_depth s
  pub room : le16 s (p * size S + 6) ≤ S.capacity
  pub past : (w : ℕ) → w ≡ 2 ^ (dir_depth s - byte s (p * size S + 1)) → Summed S h s x j (i + w) (sum + (S.capacity - le16 s (p * size S + 6)))

module _ (S : Shape) (sized : Sized S) (h : List ℕ → ℕ) (hash : Hash h) (s : List ℕ) (x j : ℕ) (B : Above S h s x j) where
  A : Accepted S h s
  A = B.accepted

  abbrev rs : List Row
  rs = rows_held S s

  abbrev d : ℕ
  d = dir_depth s

  abbrev q : Prefix
  q = pfx j (top j x)

  abbrev a : ℕ
  a = first d q

  abbrev f : ℕ → ℕ
  f n = load h rs d (a + n)

  T : Opened S h s
  T = opened S h s A

  shows : Shows S h rs (contents S s)
  shows = accepted_shows S h sized hash s A

  shallow : d ≤ 32
  shallow = le_trans T.page0.depth (deep_small S sized)

  -- no page is deeper than the directory
  low : (k v : ℕ) → IsBucket S h rs k v → k ≤ d
  low k v b = let w = paged S h rs (contents S s) shows k v b in (under S h sized hash s T w.0 k w.1 w.2).low

  pub short : j ≤ dir_depth s
  short = omega (arith, B.low, low B.depth (top B.depth x) B.is)

  width : after d q ≡ a + 2 ^ (d - j)
  width = entries_size d q

  module _ (most : after (dir_depth s) (pfx j (top j x)) ≤ 2 ^ dir_depth s) where
    -- a bucket that has an entry of the run lies in it
    in_run : (i k v : ℕ) → a ≤ i → i < after d q → IsBucket S h rs k v → Holds d i (pfx k v) → (a ≤ first d (pfx k v)) × (after d (pfx k v) ≤ after d q)
    in_run i k v m n w e = run_in d i q (pfx k v) (go (side k j)) (low k v w) own e
      where
        below : i < 2 ^ d
        below = omega (arith, most)

        own : Holds d i q
        own = (holds_range d i q).1 (m, n)

        -- a hash whose entry is i
        y : ℕ
        y = i * 2 ^ (32 - d)

        go : (k < j) ⊎ (j ≤ k) → j ≤ k
        go (inr l) = l
        go (inl l) =
            let t : top j y ≡ top j x = calls_hash d j (top j x) i (omega (arith, shallow)) short (record { below = below; bits = own }) in
            let u : top k y ≡ v = calls_hash d k v i (omega (arith, shallow)) (low k v w) (record { below = below; bits = e }) in
            one_depth S h rs x j B.depth B.is B.low k (subst (IsBucket S h rs k) (sym u ∙ share_fewer y x k j (omega arith) t) w)

    pub summed_first : Summed S h s x j (first (dir_depth s) (pfx j (top j x))) 0
    summed_first = record {
      from = omega arith;
      to = omega (arith, first_lt_after d q);
      starts = record {
        begins = λ p m e.
            let r = (holds_range d a p).0 e in
            let w = in_run a p.bits p.value (omega arith) (first_lt_after d q) ((listed S h hash rs p.bits p.value).0 m).0 e in
            omega (arith, r.0, w.0);
      };
      is = let z : a - a ≡ 0 = omega arith in sym (ap (total f) z ∙ total_none f);
    }

    -- the sum is no more than what the rows of the prefix need, and at the run's end it is that
    pub summed_most : (i sum : ℕ) → Summed S h s x j i sum → sum ≤ needs (rows_of h (rows_held S s) j (top j x))
    summed_most i sum U = omega (arith, U.is, run_load h rs d q short, total_le f (i - a) (2 ^ (d - j)) (omega (arith, U.to, width)))

    pub summed_all : (i sum : ℕ) → after (dir_depth s) (pfx j (top j x)) ≤ i → Summed S h s x j i sum → sum ≡ needs (rows_of h (rows_held S s) j (top j x))
    summed_all i sum l U = let e : i - a ≡ 2 ^ (d - j) = omega (arith, U.to, width) in U.is ∙ ap (total f) e ∙ sym (run_load h rs d q short)

    module _ (i sum : ℕ) (l : i < after (dir_depth s) (pfx j (top j x))) (U : Summed S h s x j i sum) where
      inside : i < 2 ^ d
      inside = omega (arith, most)

      -- an entry that names nothing has no row
      pub summed_none : entry_at S s i ≡ 0 → Summed S h s x j (i + 1) sum
      summed_none z = record {
        from = omega (arith, U.from);
        to = omega arith;
        starts = (walk_none S h sized hash s A i inside z).1;
        is =
            let e : i + 1 - a ≡ i - a + 1 = omega (arith, U.from) in
            let o : a + (i - a) ≡ i = omega (arith, U.from) in
            omega (arith, U.is, ap (total f) e, total_more f (i - a), ap (load h rs d) o, bare);
      }
        where
          bare : load h rs d i ≡ 0
          bare = ⊎_elim
              (λ p.
              let w = set_entry S h sized hash s A d i (le_refl d) p in
              let n : d - d ≡ 0 = omega arith in
              let e : w.0 / 2 ^ 0 ≡ i = subst (λ m. w.0 / 2 ^ m ≡ i) n w.1.bits in
              let o : w.0 ≡ i = omega (arith, e) in
              absurd (w.2 (ap (entry_at S s) o ∙ z)))
              (λ p. omega arith)
              (side 0 (load h rs d i))

      module _ (z : entry_at S s i ≡ 0 → ⊥) where
        abbrev g : List ℕ
        g = page S s (entry_at S s i)

        step : Naming S h s i (entry_at S s i) × Start S h s (behind S s i)
        step = let w = walk_page S h sized hash s A i inside z U.starts in (w.0, w.2)

        abbrev p : Prefix
        p = pfx (depth g) (prefix_on h (depth g) (rows g))

        on : OnPage S h rs (depth g) (rows g)
        on = shows.page (entry_at S s i - 2) (depth g) (rows g) step.0.holding

        begin : first d p ≡ i
        begin = U.starts.begins p (shown_bucket S h hash rs (contents S s) shows (entry_at S s i - 2) (depth g) (rows g) step.0.holding) step.0.calls.bits

        -- a page's rows need what is not free
        taken : le16 s (entry_at S s i * size S + 6) + load h rs p.bits p.value ≡ S.capacity
        unfolding le16
        taken =
            let e : needs (map as_row (rows g)) ≡ load h rs p.bits p.value = ap needs on.ordered ∙ needs_same (in_order_reordered (rows_of h rs p.bits p.value)) in
            let t : byte s (entry_at S s i * size S + 6 + 1) ≡ byte s (entry_at S s i * size S + 7) = ap (byte s) (omega arith) in
            omega (arith, e, page_needs g step.0.bytes.rules.rules, page_long S s (entry_at S s i) step.0.to, page_byte S s (entry_at S s i) 6 (omega arith), page_byte S s (entry_at S s i) 7 (omega arith))

        pub summed_page : Step S h s x j i sum (entry_at S s i)
        summed_page = record {
          inside = within S s (entry_at S s i) step.0.to;
          deep = subst (λ m. m ≤ d) at_1 step.0.low;
          room = omega (arith, taken);
          past = λ w e.
              let n : w ≡ 2 ^ (d - depth g) = e ∙ ap (λ m. 2 ^ (d - m)) (sym at_1) in
              let c : i + w - a ≡ i - a + 2 ^ (d - depth g) = omega (arith, U.from, n) in
              record {
                from = omega (arith, U.from);
                to = omega (arith, lies.1, entries_size d p, begin, n);
                starts = subst (λ m. Start S h s (i + m)) (sym n) step.1;
                is = omega (arith, U.is, taken, ap (total f) c, total_both f (i - a) (2 ^ (d - depth g)), its_run);
              };
        }
          where
            at_1 : depth g ≡ byte s (entry_at S s i * size S + 1)
            at_1 = page_byte S s (entry_at S s i) 1 (omega arith)

            lies : (a ≤ first d p) × (after d p ≤ after d q)
            lies = in_run i p.bits p.value U.from l on.is step.0.calls.bits

            its_run : load h rs p.bits p.value ≡ total (λ m. f (i - a + m)) (2 ^ (d - depth g))
            its_run = run_load h rs d p step.0.low ∙ total_same _ (λ m. f (i - a + m)) (2 ^ (d - depth g)) (λ m _. ap (load h rs d) (omega (arith, begin, U.from)))
