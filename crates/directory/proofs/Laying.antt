-- Pages that are sound, and a directory written from them, are bytes laid out for the pages. Over any page size. Assumes nothing.
use mathlib.Core.Path.{◌≡◌, sym, ap, subst, subst₂, ◌∙◌}
use mathlib.Core.List.{List}
use mathlib.Core.Logic.{inl, inr, ⊎_elim}
use Prim.Native.Nat.{ℕ, ◌+◌, ◌-◌, ◌*◌, ◌/◌, ◌%◌, ◌≤◌, ◌<◌}
use native.Mathlib.Omega.{arith}
use native.Mathlib.Nat.{mul-div_cancel, mul-le-mul_right, mul-mod_left}
use lib.ListN.{length, get_or, get_or-eq_default}
use Rattle.ground.specs.Lists.{byte}
use Rattle.ground.proofs.Sides.{side}
use Rattle.page.specs.Page.{Record, BucketPage, depth, rows}
use Rattle.partition.specs.declared.Shape.{Shape}
use Rattle.store.specs.Pages.{size, pages, page, entry_at, Page, bucket, read, contents, deepest_in}
use Rattle.store.specs.Accepted.{GoodLength, Calls}
use Rattle.store.specs.Demands.{Sized}
use Rattle.counts.specs.Tallies.{DeepestCounted}
use Rattle.counts.proofs.Deepest.{told_deepest}
use Rattle.store.proofs.Showing.Shows.{prefix_on, Holding}
use Rattle.store.proofs.Showing.Shown.{free_not}
use Rattle.store.proofs.Showing.Rooms.{bucket_one}
use Rattle.store.proofs.Accepted.Unique.{read_zero, read_used, held}
use Rattle.store.proofs.Showing.Showing.{first_code_lem, pages_held}
use Rattle.store.proofs.Accepted.Named as Named
use Rattle.store.proofs.Accepted.Named.{deepest_le, deepest_bound}
use Rattle.store.proofs.Accepted.Accepting.{Head, Whole, Laid, head_kept, contents_kept, each_kept}
use Rattle.directory.specs.Directory.{EntryFor, none, names, Directed, Directable, SoundPage, free, used, Settling, Settleable, SettleDue}

module _ (S : Shape) (s : List ℕ) (n : ℕ) (P : Settling S s n) where
  many : pages S s ≡ n
  many = ap (λ m. m / size S) P.long ∙ mul-div_cancel n (omega arith)

  good : GoodLength S s
  good = record { whole = ap (λ m. m % size S) P.long ∙ mul-mod_left n (size S); least = omega (arith, many, P.least); most = omega (arith, many, P.most) }

  -- page i + 2, where the list of pages has a bucket at i
  pub on_page : (i k : ℕ) (rs : List Record) → Holding (contents S s) i k rs → i + 2 < n → BucketPage (page S s (i + 2)) × (depth (page S s (i + 2)) ≡ k) × (rows (page S s (i + 2)) ≡ rs) × (k ≤ S.deepest)
  on_page i k rs x l = go (P.pages (i + 2) (omega arith) l)
    where
      e : read (page S s (i + 2)) ≡ bucket k rs
      e = let q : i + 2 - 2 ≡ i = omega arith in sym (held S s (i + 2) (omega arith) (omega (arith, many))) ∙ ap (λ j. get_or (contents S s) j Page.free) q ∙ x

      go : SoundPage S (page S s (i + 2)) → BucketPage (page S s (i + 2)) × (depth (page S s (i + 2)) ≡ k) × (rows (page S s (i + 2)) ≡ rs) × (k ≤ S.deepest)
      go (free z) = absurd (free_not (sym (read_zero (page S s (i + 2)) z) ∙ e))
      go (used b d) = let w = bucket_one (sym (read_used (page S s (i + 2)) b) ∙ e) in (b, w.0, w.1, omega (arith, w.0, d))

  abbrev deep : ℕ
  deep = deepest_in (contents S s)

  length_held : length (contents S s) ≡ n - 2
  length_held = pages_held S s ∙ ap (λ m. m - 2) many

  inside : (i k : ℕ) (rs : List Record) → Holding (contents S s) i k rs → i + 2 < n
  inside i k rs x = ⊎_elim (λ l. l) (λ g. absurd (free_not (sym (get_or-eq_default (contents S s) Page.free (omega (arith, length_held))) ∙ x))) (side (i + 2) n)

  holding : (p : ℕ) → 2 ≤ p → p < n → BucketPage (page S s p) → Holding (contents S s) (p - 2) (depth (page S s p)) (rows (page S s p))
  holding p a b u = held S s p a (omega (arith, many)) ∙ read_used (page S s p) u

  pub deep_most : deep ≤ S.deepest
  deep_most = deepest_le (contents S s) S.deepest (λ i k rs x. (on_page i k rs x (inside i k rs x)).3)

  is_used : (p : ℕ) → 2 ≤ p → p < n → byte (page S s p) 0 ≡ 1 → BucketPage (page S s p)
  is_used p a b e = go (P.pages p a b)
    where
      go : SoundPage S (page S s p) → BucketPage (page S s p)
      go (free z) = absurd (omega (arith, z 0))
      go (used u d) = u

  pub directable : Directable S s n deep
  directable = record {
    long = P.long;
    least = P.least;
    most = P.most;
    deep = deep_most;
    pages = λ p a b. record {
      rules = is_used p a b;
      depths = λ e. deepest_bound (contents S s) (p - 2) (depth (page S s p)) (rows (page S s p)) (holding p a b (is_used p a b e));
    };
  }

  whole_of : (p : ℕ) → 2 ≤ p → p < pages S s → Whole (page S s p)
  whole_of p a b = go (P.pages p a (omega (arith, many)))
    where
      go : SoundPage S (page S s p) → Whole (page S s p)
      go (free z) = inl z
      go (used u d) = inr u

  module _ (h : List ℕ → ℕ) (t : List ℕ) (sized : Sized S) (head : Head S s) (D : Directed S h s deep n t) where
    entry_of : (i : ℕ) → EntryFor S h s deep n i (entry_at S t i) → Named.Entry S h t (contents S s) deep (n - 2) i
    entry_of i (none z f) = Named.nothing z (λ j k rs l x c.
        let w = on_page j k rs x (inside j k rs x) in
        f (j + 2) (omega arith) (inside j k rs x) (record {
          used = w.0.rules.one;
          calls = subst (λ v. Calls deep (depth (page S s (j + 2))) v i) (first_code_lem h (page S s (j + 2)) w.0)
              (subst₂ (λ m r. Calls deep m (prefix_on h m r) i) (sym w.1) (sym w.2) c);
        }))
    entry_of i (names a b c) =
        let e = entry_at S t i in
        let u = is_used e a b c.used in
        Named.names (e - 2) (depth (page S s e)) (rows (page S s e)) (omega arith) (omega arith) (holding e a b u)
        (subst (λ v. Calls deep (depth (page S s e)) v i) (sym (first_code_lem h (page S s e) u)) c.calls)

    same_many : pages S t ≡ n
    same_many = ap (λ m. m / size S) D.long ∙ many

    pub directed_laid : Laid S h t (contents S s)
    directed_laid = record {
      long = record { whole = ap (λ m. m % size S) D.long ∙ good.whole; least = omega (arith, same_many, P.least); most = omega (arith, same_many, P.most) };
      head = head_kept S sized s t D.long D.start D.rest head;
      deep = D.deep;
      each = each_kept S s t D.long D.above whole_of;
      holds = contents_kept S s t D.long D.above;
      entry = λ e l. subst₂ (λ d m. Named.Entry S h t (contents S s) d m e) (sym D.deep) (ap (λ m. m - 2) (sym same_many)) (entry_of e (D.entries e l));
    }

-- the depth that true counts tell is the largest bucket depth
pub told_depth : (S : Shape) (h : List ℕ → ℕ) (s : List ℕ) (n d most : ℕ) → SettleDue S h s n d most → (r : ℕ) → DeepestCounted s most r → r ≡ deepest_in (contents S s)
told_depth S h s n d most P r D = sym (told_deepest S s most r P.store.counts P.limit P.low D)

-- page 0 has room for its counts
pub room_counts : (S : Shape) (s : List ℕ) (n : ℕ) → Settleable S s n → 80 ≤ length s
room_counts S s n P =
    let m : 3 * size S ≤ n * size S = mul-le-mul_right (size S) P.pages.least in
    omega (arith, m, P.pages.long, P.sized.least)
