-- The gathered rows, packed into the lowest-numbered page of the prefix. Over any page size. Assumes nothing.
use mathlib.Core.Path.{◌≡◌, refl, sym, ap, subst, subst₂, ◌∙◌}
use mathlib.Core.Bool.{true}
use mathlib.Core.Logic.{⊎_elim}
use mathlib.Core.List.{List, [], ◌++◌, map}
use Prim.Native.Nat.{ℕ, ◌+◌, ◌-◌, ◌*◌, ◌/◌, ◌≤◌, ◌<◌}
use native.Mathlib.Omega.{arith}
use native.Mathlib.Nat.{mul-le-mul_right}
use native.Mathlib.Decide.{ℕ_discrete}
use lib.ListN.{length, get_or, set, replicate}
use Rattle.ground.specs.Lists.{tab}
use Rattle.ground.proofs.Sides.{side}
use Rattle.page.specs.Page.{BucketPage, count, depth, row_at}
use Rattle.page.specs.Packed.{Fresh, Packed}
use Rattle.partition.specs.Bits.{top}
use Rattle.partition.specs.Partition.{Row, needs, Reordered}
use Rattle.partition.specs.Listing.{in_order}
use Rattle.partition.proofs.Reorders.{needs_same}
use Rattle.partition.proofs.Sizes.{twelve}
use Rattle.partition.proofs.Sorted.{order_same}
use Rattle.partition.specs.declared.Shape.{Shape}
use Rattle.store.specs.Pages.{size, pages, Page, free, bucket, page, read, contents, as_row, set_page}
use Rattle.store.specs.Moves.{pick, find, within, pack_from}
use Rattle.store.proofs.Accepted.Unique.{held}
use Rattle.store.proofs.Paging.PageTies.{page_needs, page_once, page_order, packed_rows, read_cleared, read_slotted}
use Rattle.store.proofs.Paging.Views.{set_long, set_same, set_other, set_below, set_contents}
use Rattle.store.proofs.Showing.Shown.{find_passes}
use Rattle.store.proofs.Showing.Showing.{pages_held}
use Rattle.counts.specs.Tallies.{BucketsCounted, one_more}
use Rattle.counts.proofs.Raises.{buckets_more, buckets_low}
use Rattle.directory.specs.Directory.{SoundPage, used}
use Rattle.joining.specs.Join.{Housed, Taking, Gathered, rows_at, others_in, is_of, Emptied, Joinable, Rejoined}
use Rattle.joining.proofs.Prefixes.{many, page_at, listed}
use Rattle.joining.proofs.Empties.{emptied_sound, emptied_holds}

no_rows : (g : List ℕ) → count g ≡ 0 → rows_at g ≡ []
unfolding tab
no_rows g e = ap (λ n. map as_row (tab (row_at g) n)) e

-- a page of no rows takes any that go on one page
pub fresh_taking : {p : List ℕ} {d : ℕ} {q : List ℕ} (rs : List Row) → Fresh p d q → Housed (length p) rs → Taking q rs
unfolding needs
fresh_taking {p} {d} {q} rs F h = record {
  tight = record {
    page = F.page;
    full = omega (arith, F.none, F.page.empty F.none, page_needs q F.page, F.page.least, ap needs (no_rows q F.none));
  };
  all = subst₂ (λ m x. Housed m (x ++ rs)) (sym F.long) (sym (no_rows q F.none)) h;
}

module _ (S : Shape) (h : List ℕ → ℕ) (s : List ℕ) (n x j : ℕ) (c : List ℕ) (J : Joinable S h s n x j c) where
  abbrev v : ℕ
  v = top j x

  abbrev gs : List Page
  gs = contents S s

  abbrev low : ℕ
  low = 2 + find (within h j v) gs

  pub low_within : low < n
  low_within = omega (arith, J.there, listed S s n J.prefix.sound)

  module _ {p q g u k : List ℕ} (l : length p ≡ size S) (F : Fresh p j q) (G : Gathered q (others_in h j v c gs) g) (E : Emptied S h s n j v u) (K : Packed g k) where
    all : Reordered (rows_at g) (others_in h j v c gs)
    all = subst (λ x. Reordered (rows_at g) (x ++ others_in h j v c gs)) (no_rows q F.none) G.all

    sorted : rows_at g ≡ in_order (others_in h j v c gs)
    sorted = sym (page_order g G.tight.page) ∙ order_same all (page_once g G.tight.page)

    some : 1 ≤ count g
    unfolding needs
    some = ⊎_elim
        (λ z. absurd (zero_needs (omega arith)))
        (λ z. z)
        (side (count g) 1)
      where
        zero_needs : count g ≡ 0 → ⊥
        zero_needs z = omega (arith, J.some, needs_same all, ap needs (no_rows g z))

    its : BucketPage k
    its = record { rules = K.page; some = omega (arith, some, K.counted) }

    deep : depth k ≡ j
    deep = K.deep ∙ G.deep ∙ F.deep

    long : length k ≡ size S
    long = K.long ∙ G.long ∙ F.long ∙ l

    there : low < pages S u
    there = subst (λ m. low < m) (sym (ap (λ m. m / size S) E.long ∙ many S s n J.prefix.sound)) low_within

    at : low - 2 ≡ find (within h j v) gs
    at = omega arith

    now_reads : read k ≡ bucket j (pack_from 8 (in_order (others_in h j v c gs)))
    now_reads = read_slotted k K.page ∙ (λ i. bucket (deep i) ((packed_rows g G.tight.page k K ∙ ap (pack_from 8) sorted) i))

    pub rejoined : Rejoined S h s n j v c low (set_page S u low k)
    rejoined = record {
      long = set_long S u low k there long ∙ E.long;
      start = λ i l. let m : 2 * size S ≤ low * size S = mul-le-mul_right (size S) (omega arith) in set_below S u low k there long i (omega (arith, m)) ∙ E.low i l;
      sound = λ y f t. go y f t (ℕ_discrete y low);
      holds = set_contents S u low k there long (omega arith) ∙ (λ i. set (emptied_holds S h s n j v J.prefix.sound u E i) (at i) (now_reads i));
      lowest = refl;
      rest = λ y f t ne. set_other S u low k there long y ne ∙ E.pages y f t;
    }
      where
        go : (x : ℕ) → 2 ≤ x → x < n → Dec (x ≡ low) → SoundPage S (page S (set_page S u low k) x)
        go x f t (yes e) = subst (SoundPage S) (sym (ap (page S (set_page S u low k)) e ∙ set_same S u low k there long)) (used its (omega (arith, deep, J.prefix.bits, J.prefix.deep)))
        go x f t (no ne) = subst (SoundPage S) (sym (set_other S u low k there long x ne)) (emptied_sound S h s n j v J.prefix.sound u E x f t)

    -- the page was cleared, and its bucket counts again
    is_low : is_of S h j v s low ≡ true
    is_low =
        ap (within h j v) (sym (page_at S s n J.prefix.sound low (omega arith) low_within) ∙ ap (λ m. get_or gs m free) at) ∙ find_passes (within h j v) gs J.there

    gone : get_or (contents S u) (low - 2) free ≡ free
    gone =
        held S u low (omega arith) there ∙ ap read (E.pages low (omega arith) low_within ∙ ap (λ b. pick b (replicate (size S) 0) (page S s low)) is_low)
        ∙ read_cleared (size S)

    low_bits : j ≤ 12
    low_bits = omega (arith, J.prefix.bits, J.prefix.deep, twelve S J.prefix.sized)

    module _ (tallies : List ℕ) (B : BucketsCounted (contents S u) tallies) where
      pub joined_more : (1 + j < length tallies) × (get_or tallies (1 + j) 0 + 1 < 4294967296)
      joined_more =
          let P = J.prefix.sound in
          let z = J.prefix.sized in (
            omega (arith, B.long, low_bits),
            omega (arith, buckets_low (contents S u) tallies B j low_bits, pages_held S u, ap (λ m. m / size S) E.long, many S s n P, P.most, z.whole, z.most),
          )

      pub joined_counted : BucketsCounted (contents S (set_page S u low k)) (one_more tallies (1 + j))
      joined_counted = subst (λ gs. BucketsCounted gs (one_more tallies (1 + j))) (sym (set_contents S u low k there long (omega arith) ∙ ap (set (contents S u) (low - 2)) now_reads))
          (buckets_more (contents S u) (low - 2) j _ tallies (omega (arith, there, pages_held S u)) gone low_bits B)
