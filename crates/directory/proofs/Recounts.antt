-- Counts written anew in page 0: they are true, and a directory stays that of the pages. Over any page size. Assumes nothing.
use mathlib.Core.Path.{◌≡◌, refl, sym, ap, subst, ◌∙◌}
use mathlib.Core.List.{List}
use Prim.Native.Nat.{ℕ, ◌+◌, ◌*◌, ◌/◌, ◌≤◌, ◌<◌}
use native.Mathlib.Omega.{arith}
use native.Mathlib.Nat.{mul-le-mul_right}
use lib.ListN.{length}
use Rattle.ground.specs.Lists.{byte}
use Rattle.words.specs.Moves.{Frame}
use Rattle.words.proofs.Bytes.{le32_same}
use Rattle.partition.specs.declared.Shape.{Shape}
use Rattle.partition.proofs.Sizes.{twelve}
use Rattle.store.specs.Pages.{size, pages, page, read, depth_on, contents, rows_in, rows_held, entry_at}
use Rattle.store.specs.Counts.{buckets_at, counted}
use Rattle.store.specs.Demands.{Sized}
use Rattle.store.proofs.Counts.Words.{word_counts}
use Rattle.store.proofs.Accepted.Unique.{read_zero, read_used}
use Rattle.store.proofs.Accepted.Accepting.{contents_kept, page_kept}
use Rattle.counts.specs.Tallies.{Tallied, BucketsCounted, CountsWritten, CountsNow}
use Rattle.directory.specs.Directory.{EntryFor, none, names, Directed, SoundPage, free, used, Settling, Recounted}
use Rattle.directory.proofs.Directories.{calls_same}

module _ (S : Shape) (sized : Sized S) (s : List ℕ) (n : ℕ) (P : Settling S s n) where
  -- no page is deeper than 12
  pub all_shallow : (p : ℕ) → 2 ≤ p → p < n → depth_on (read (page S s p)) ≤ 12
  all_shallow p a b = go (P.pages p a b)
    where
      go : SoundPage S (page S s p) → depth_on (read (page S s p)) ≤ 12
      go (free z) = omega (arith, ap depth_on (read_zero (page S s p) z))
      go (used u l) = omega (arith, ap depth_on (read_used (page S s p) u), l, twelve S sized)

  -- page 0 has room for its counts, and there are not too many pages
  pub counts_room : 80 ≤ length s
  counts_room =
      let m : 3 * size S ≤ n * size S = mul-le-mul_right (size S) P.least in
      omega (arith, m, P.long, sized.least)

  pub few_pages : n ≤ 4098
  few_pages = omega (arith, P.most, sized.whole, sized.most)

-- t is s but for its counts
module _ (S : Shape) (sized : Sized S) (s t : List ℕ) (F : Frame s 24 56 t) where
  above : (k : ℕ) → 2 * size S ≤ k → byte t k ≡ byte s k
  above k l = F.above k (omega (arith, sized.least))

  pub same_contents : contents S t ≡ contents S s
  same_contents = contents_kept S s t F.len above

  same_entry : (i : ℕ) → entry_at S t i ≡ entry_at S s i
  same_entry i = le32_same s t (size S + 4 * i) (λ j m. F.above (size S + 4 * i + j) (omega (arith, sized.least)))

  same_page : (p : ℕ) → 2 ≤ p → p < pages S s → page S t p ≡ page S s p
  same_page p a b = page_kept S s t F.len above p a (subst (λ m. p < m / size S) (sym F.len) b)

  entry_for : (h : List ℕ → ℕ) (d n i : ℕ) → n ≤ pages S s → EntryFor S h s d n i (entry_at S s i) → EntryFor S h t d n i (entry_at S s i)
  entry_for h d n i l (none z f) = none z (λ p a b x. f p a b (calls_same S h s t d i p (same_page p a (omega (arith, b, l))) x))
  entry_for h d n i l (names a b x) = names a b (calls_same S h t s d i (entry_at S s i) (sym (same_page (entry_at S s i) a (omega (arith, b, l)))) x)

  -- a directory stays that of the pages
  pub directed_then : (h : List ℕ → ℕ) (d n : ℕ) → n ≤ pages S s → Directed S h s d n s → Directed S h t d n t
  directed_then h d n l D = record {
    long = refl;
    start = λ k b. refl;
    deep = le32_same s t 16 (λ i m. F.below (16 + i) (omega arith)) ∙ D.deep;
    rest = λ k a b. refl;
    entries = λ i b. subst (EntryFor S h t d n i) (sym (same_entry i)) (entry_for h d n i l (D.entries i b));
    above = λ k b. refl;
  }

-- the counts worked out from the pages are true where they are written
pub recounted_by : (S : Shape) → Sized S → (s tallies t : List ℕ) → Tallied S s tallies → CountsWritten s tallies t → Recounted S s t
recounted_by S sized s tallies t T W = record {
  old = W.old;
  counts = word_counts S t (λ j l. W.new j l ∙ T.each j l ∙ ap (λ gs. counted gs j) (sym (same_contents S sized s t W.old)));
}

-- and so are those of buckets that an array has, with the number of rows
pub recounted_now : (S : Shape) → Sized S → (s : List ℕ) (m : ℕ) (tallies t : List ℕ) → BucketsCounted (contents S s) tallies → m ≡ length (rows_held S s) → CountsNow s m tallies t → Recounted S s t
recounted_now S sized s m tallies t B e W =
    let same : contents S t ≡ contents S s = same_contents S sized s t W.old in
    record {
      old = W.old;
      counts = record { rows = W.rows ∙ e ∙ ap (λ gs. length (rows_in gs)) (sym same); buckets = λ k l. W.buckets k l ∙ B.each k l ∙ ap (buckets_at k) (sym same) };
    }
