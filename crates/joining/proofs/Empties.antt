-- The pages of a prefix cleared, and taken one after another by the entries that the prefix calls for. Over any page size. Assumes nothing.
use mathlib.Core.Path.{◌≡◌, refl, sym, ap, subst, subst₂, ◌∙◌}
use mathlib.Core.Bool.{Bool, true, false}
use mathlib.Core.List.{List, [], ◌++◌, map}
use mathlib.Core.Logic.{◌⊎◌, inl, inr, ⊎_elim}
use Prim.Native.Nat.{ℕ, ◌+◌, ◌-◌, ◌*◌, ◌/◌, ◌≤◌, ◌<◌, min}
use native.Mathlib.Omega.{arith}
use native.Mathlib.Nat.{mul-le-mul_right}
use native.Mathlib.Decide.{ℕ_discrete}
use lib.ListN.{length, get_or, set, replicate, length-replicate}
use Rattle.ground.specs.Lists.{byte, tab}
use Rattle.ground.proofs.Sides.{side}
use Rattle.ground.proofs.Tables.{tab_same, tab_map}
use Rattle.ground.proofs.Tests.{untrue}
use Rattle.page.specs.Page.{Slotted, BucketPage, depth, rows}
use Rattle.partition.specs.Bits.{top}
use Rattle.partition.specs.Partition.{Row, first, after, Reordered}
use Rattle.partition.specs.declared.Shape.{Shape}
use Rattle.partition.proofs.Directory.{holds_range}
use Rattle.partition.proofs.Maps.{cut}
use Rattle.partition.proofs.Sizes.{twelve}
use Rattle.partition.proofs.Tree.{pfx}
use Rattle.store.specs.Pages.{size, pages, Page, free, page, read, dir_depth, entry_at, contents, set_page}
use Rattle.store.specs.Accepted.{Calls}
use Rattle.store.specs.Moves.{pick, find, within}
use Rattle.store.proofs.Accepted.Unique.{held}
use Rattle.store.proofs.Paging.Depths.{kind_byte}
use Rattle.store.proofs.Paging.PageTies.{zeros, read_cleared, read_slotted}
use Rattle.store.proofs.Paging.Views.{set_long, set_same, set_other, set_below, set_contents}
use Rattle.store.proofs.Showing.Shown.{find_least, find_passes}
use Rattle.store.proofs.Showing.Showing.{pages_held}
use Rattle.counts.specs.Tallies.{BucketsCounted, one_less}
use Rattle.counts.proofs.Raises.{buckets_less}
use Rattle.directory.specs.Directory.{SoundPage, free as unused, Settling}
use Rattle.joining.specs.Join.{Taking, Gathered, PageTaking, Used, is_of, OfPrefix, Prefixed, Emptied, rows_at, others_in}
use Rattle.joining.proofs.Prefixes.{read_free, used_page, used_shallow, many, page_at, listed, page_there, page_below}
use Rattle.joining.proofs.Gathers.{Coming, coming_all, coming_none, coming_reordered, next_taking, next_coming, others_on_lem, others_on, one_out, all_out}

-- a page cleared: its bucket is no longer counted
pub page_gone : (S : Shape) (t : List ℕ) (m : ℕ) → 2 ≤ m → m < pages S t → Slotted (page S t m) → depth (page S t m) ≤ 12 → (l : List ℕ) → BucketsCounted (contents S t) l
    → (1 ≤ get_or l (1 + depth (page S t m)) 0) × BucketsCounted (contents S (set_page S t m (replicate (size S) 0))) (one_less l (1 + depth (page S t m)))
page_gone S t m a b Z d l B =
    let g : List ℕ = page S t m in
    let w = buckets_less (contents S t) (m - 2) (depth g) (rows g) l (omega (arith, a, b, pages_held S t)) (held S t m a b ∙ read_slotted g Z) d B in
    let e : contents S (set_page S t m (replicate (size S) 0)) ≡ set (contents S t) (m - 2) free =
    set_contents S t m (replicate (size S) 0) b (length-replicate {A = ℕ} (size S) 0) a ∙ ap (set (contents S t) (m - 2)) (read_cleared (size S)) in
    (w.0, subst (λ gs. BucketsCounted gs (one_less l (1 + depth g))) (sym e) w.1)

-- all pages of the prefix cleared
module _ (S : Shape) (h : List ℕ → ℕ) (s : List ℕ) (n j v : ℕ) (P : Settling S s n) where
  abbrev blank : List ℕ
  blank = replicate (size S) 0

  abbrev gs : List Page
  gs = contents S s

  module _ (t : List ℕ) (E : Emptied S h s n j v t) where
    pub emptied_sound : (p : ℕ) → 2 ≤ p → p < n → SoundPage S (page S t p)
    emptied_sound p a l = subst (SoundPage S) (sym (E.pages p a l)) (go (within h j v (read (page S s p))))
      where
        go : (x : Bool) → SoundPage S (pick x blank (page S s p))
        go true = unused (zeros (size S))
        go false = P.pages p a l

    pub emptied_holds : contents S t ≡ map (λ g. pick (within h j v g) free g) gs
    unfolding contents
    emptied_holds =
        ap (λ m. tab (λ i. read (page S t (i + 2))) (m / size S - 2)) E.long
        ∙ tab_same (λ i. read (page S t (i + 2))) (λ i. pick (within h j v (read (page S s (i + 2)))) free (read (page S s (i + 2)))) (pages S s - 2) (λ i l. ap read (E.pages (i + 2) (omega arith) (omega (arith, many S s n P))) ∙ go (within h j v (read (page S s (i + 2)))) (i + 2))
        ∙ sym (tab_map (λ g. pick (within h j v g) free g) (λ i. read (page S s (i + 2))) (pages S s - 2))
      where
        go : (x : Bool) (p : ℕ) → read (pick x blank (page S s p)) ≡ pick x free (read (page S s p))
        go true p = read_cleared (size S)
        go false p = refl

-- Of the entries that the prefix calls for those below i are walked: t is s with the pages that they name cleared, whose rows of another code than c are on q besides those of p, and low is the lowest-numbered of them, or n.
pub record Taken (S : Shape) (h : List ℕ → ℕ) (s : List ℕ) (n x j : ℕ) (c p : List ℕ) (i low : ℕ) (q t : List ℕ) : Type 0 where
  pub long : length t ≡ length s
  pub start : (k : ℕ) → k < 2 * size S → byte t k ≡ byte s k
  pub each : (m : ℕ) → 2 ≤ m → m < n → (page S t m ≡ page S s m) ⊎ ((is_of S h j (top j x) s m ≡ true) × (page S t m ≡ replicate (size S) 0))
  pub past : (e : ℕ) → Calls (dir_depth s) j (top j x) e → e < i → (entry_at S s e ≡ 0 → ⊥) → page S t (entry_at S s e) ≡ replicate (size S) 0
  pub rest : Coming p (others_in h j (top j x) c (contents S s)) (others_in h j (top j x) c (contents S t)) q
  pub least : (m : ℕ) → 2 ≤ m → m < n → is_of S h j (top j x) s m ≡ true → page S t m ≡ replicate (size S) 0 → low ≤ m
  pub one : (low ≡ n) ⊎ OfPrefix S h s n j (top j x) low

module _ (S : Shape) (h : List ℕ → ℕ) (s : List ℕ) (n x j : ℕ) (P : Prefixed S h s n x j) (c p : List ℕ) where
  abbrev v : ℕ
  v = top j x

  abbrev d : ℕ
  d = dir_depth s

  abbrev zero_page : List ℕ
  zero_page = replicate (size S) 0

  abbrev rows_in : List ℕ → List Row
  rows_in t = others_in h j v c (contents S t)

  -- a cleared page is of no prefix
  not_of : {g : List ℕ} → g ≡ zero_page → within h j v (read g) ≡ true → ⊥
  not_of e f = untrue (sym (ap (within h j v) (ap read e ∙ read_cleared (size S))) ∙ f)

  pub taken_none : (i : ℕ) → i ≡ first (dir_depth s) (pfx j (top j x)) → Taking p (others_in h j (top j x) c (contents S s)) → Taken S h s n x j c p i n p s
  taken_none i e T = record {
    long = refl;
    start = λ k l. refl;
    each = λ m a l. inl refl;
    past = λ k w l z. absurd (omega (arith, e, ((holds_range d k (pfx j v)).0 w.bits).0));
    rest = coming_all T;
    least = λ m a l f g. absurd (not_of g f);
    one = inl refl;
  }

  module _ (i low : ℕ) (q t : List ℕ) (K : Taken S h s n x j c p i low q t) (w : Calls (dir_depth s) j (top j x) i) where
    abbrev m : ℕ
    m = entry_at S s i

    of : (m ≡ 0 → ⊥) → OfPrefix S h s n j v m
    of z = P.names i w z

    in_use : (m ≡ 0 → ⊥) → BucketPage (page S s m)
    in_use z = used_page S (P.sound.pages m (of z).from (of z).to) (λ e. untrue (sym (ap (within h j v) (read_free (page S s m) e)) ∙ (of z).is))

    -- the entry's page lies in the store
    pub entry_there : entry_at S s i * size S + size S ≤ length t
    entry_there = ⊎_elim
        (λ l. let z : m ≡ 0 = omega arith in rw z (omega (arith, K.long, page_there S s n P.sound 0 (omega (arith, P.sound.least)))))
        (λ l. omega (arith, K.long, page_there S s n P.sound m (of (λ z. omega (arith, z))).to))
        (side m 1)

    pub taken_skip : (Used S t (entry_at S s i) → ⊥) → Taken S h s n x j c p (i + 1) low q t
    taken_skip f = record {
      long = K.long;
      start = K.start;
      each = K.each;
      past = λ k y l z. ⊎_elim (λ g. K.past k y g z) (λ g. let e : k ≡ i = omega arith in subst (λ k. page S t (entry_at S s k) ≡ zero_page) (sym e) (cleared (λ b. z (ap (entry_at S s) e ∙ b)))) (side k i);
      rest = K.rest;
      least = K.least;
      one = K.one;
    }
      where
        cleared : (m ≡ 0 → ⊥) → page S t m ≡ zero_page
        cleared z = ⊎_elim
            (λ e. absurd (f (record { some = z; kind = λ b. omega (arith, b, kind_byte S t m, ap (λ g. byte g 0) e, (in_use z).rules.one) })))
            (λ e. e.1)
            (K.each m (of z).from (of z).to)

    module _ (u : Used S t (entry_at S s i)) where
      its : OfPrefix S h s n j v m
      its = of u.some

      same : page S t m ≡ page S s m
      same = ⊎_elim (λ e. e) (λ e. absurd (u.kind (sym (kind_byte S t m) ∙ ap (λ g. byte g 0) e.1 ∙ zeros (size S) 0))) (K.each m its.from its.to)

      bucket_there : BucketPage (page S t m)
      bucket_there = subst BucketPage (sym same) (in_use u.some)

      below : m < pages S t
      below = page_below S t m entry_there

      zero_long : length (replicate {A = ℕ} (size S) 0) ≡ size S
      zero_long = length-replicate {A = ℕ} (size S) 0

      abbrev then : List ℕ
      then = set_page S t m zero_page

      abbrev its_rows : List Row
      its_rows = cut c (rows_at (page S t m))

      coming : Coming p (rows_in s) (its_rows ++ rows_in then) q
      coming =
          let a : contents S then ≡ set (contents S t) (m - 2) free = set_contents S t m zero_page below zero_long its.from ∙ ap (set (contents S t) (m - 2)) (read_cleared (size S)) in
          let b : others_on h j v c (get_or (contents S t) (m - 2) free) ≡ its_rows =
          ap (others_on h j v c) (held S t m its.from below) ∙ others_on_lem h j v c (page S t m) bucket_there (ap (λ g. within h j v (read g)) same ∙ its.is) in
          let l : m - 2 < length (contents S t) = omega (arith, below, its.from, pages_held S t) in
          coming_reordered (subst₂ (λ y g. Reordered (rows_in t) (y ++ others_in h j v c g)) b (sym a) (one_out h j v c (contents S t) (m - 2) l)) K.rest

      pub page_taking : Taking p (others_in h j (top j x) c (contents S s)) → PageTaking S q t (entry_at S s i) c
      page_taking T = record {
        from = its.from;
        there = entry_there;
        slots = bucket_there.rules;
        shallow = omega (arith, ap depth same, used_shallow S (P.sound.pages m its.from its.to) (in_use u.some), twelve S P.sized);
        room = next_taking its_rows (rows_in then) coming T;
      }

      pub taken_next : (r : ℕ) (q' : List ℕ) → Gathered q (cut c (rows_at (page S t (entry_at S s i)))) q' → r ≡ min low (entry_at S s i)
          → Taken S h s n x j c p (i + 1) r q' (set_page S t (entry_at S s i) (replicate (size S) 0))
      taken_next r q' G e = record {
        long = set_long S t m zero_page below zero_long ∙ K.long;
        start = λ k l. set_below S t m zero_page below zero_long k (omega (arith, mul-le-mul_right (size S) its.from)) ∙ K.start k l;
        each = λ y a l. each y a l (ℕ_discrete y m);
        past = λ k y l z. past k y l z (ℕ_discrete (entry_at S s k) m);
        rest = next_coming its_rows (rows_in then) coming G;
        least = λ y a l f g. least y a l f g (ℕ_discrete y m);
        one = ⊎_elim (λ l. let o : r ≡ low = omega arith in subst (λ r. (r ≡ n) ⊎ OfPrefix S h s n j v r) (sym o) K.one) (λ l. let o : r ≡ m = omega arith in inr (subst (OfPrefix S h s n j v) (sym o) its)) (side low m);
      }
        where
          each : (y : ℕ) → 2 ≤ y → y < n → Dec (y ≡ m) → (page S then y ≡ page S s y) ⊎ ((is_of S h j v s y ≡ true) × (page S then y ≡ zero_page))
          each y a l (yes o) = inr (ap (is_of S h j v s) o ∙ its.is, ap (page S then) o ∙ set_same S t m zero_page below zero_long)
          each y a l (no o) =
              let b : page S then y ≡ page S t y = set_other S t m zero_page below zero_long y o in
              ⊎_elim (λ f. inl (b ∙ f)) (λ f. inr (f.0, b ∙ f.1)) (K.each y a l)

          past : (k : ℕ) → Calls d j v k → k < i + 1 → (entry_at S s k ≡ 0 → ⊥) → Dec (entry_at S s k ≡ m) → page S then (entry_at S s k) ≡ zero_page
          past k y l z (yes o) = ap (page S then) o ∙ set_same S t m zero_page below zero_long
          past k y l z (no o) = set_other S t m zero_page below zero_long (entry_at S s k) o
              ∙ ⊎_elim (λ g. K.past k y g z) (λ g. let f : k ≡ i = omega arith in absurd (o (ap (entry_at S s) f))) (side k i)

          least : (y : ℕ) → 2 ≤ y → y < n → is_of S h j v s y ≡ true → page S then y ≡ zero_page → Dec (y ≡ m) → r ≤ y
          least y a l f g (yes o) = omega (arith, e, o)
          least y a l f g (no o) = omega (arith, e, K.least y a l f (sym (set_other S t m zero_page below zero_long y o) ∙ g))

  -- the run is walked to its end
  module _ (i low : ℕ) (q t : List ℕ) (K : Taken S h s n x j c p i low q t) (end : after (dir_depth s) (pfx j (top j x)) ≤ i) where
    pub taken_emptied : Emptied S h s n j (top j x) t
    taken_emptied = record { long = K.long; low = K.start; pages = λ m a l. go m a l (is_of S h j v s m) refl }
      where
        go : (m : ℕ) → 2 ≤ m → m < n → (b : Bool) → is_of S h j v s m ≡ b → page S t m ≡ pick b zero_page (page S s m)
        go m a l true e =
            let N = P.named m (record { from = a; to = l; is = e }) in
            let y = N.names in
            subst (λ y. page S t y ≡ zero_page) y (K.past N.entry N.calls (omega (arith, end, ((holds_range d N.entry (pfx j v)).0 N.calls.bits).1)) (λ z. omega (arith, y, a, z)))
        go m a l false e = ⊎_elim (λ f. f) (λ f. untrue (sym e ∙ f.0)) (K.each m a l)

    pub taken_all : Gathered p (others_in h j (top j x) c (contents S s)) q
    taken_all =
        let e : rows_in t ≡ [] = ap (others_in h j v c) (emptied_holds S h s n j v P.sound t taken_emptied) ∙ all_out h j v c (contents S s) in
        coming_none (subst (λ l. Coming p (rows_in s) l q) e K.rest)

    abbrev f : ℕ
    f = find (within h j v) (contents S s)

    pub taken_low : find (within h j (top j x)) (contents S s) < length (contents S s) → low ≡ 2 + find (within h j (top j x)) (contents S s)
    taken_low l = ⊎_elim (λ e. absurd (omega (arith, e, lowest, there))) (λ o. omega (arith, lowest, o.from, no_lower o)) K.one
      where
        there : 2 + f < n
        there = omega (arith, l, listed S s n P.sound)

        is : is_of S h j v s (2 + f) ≡ true
        is =
            let e : 2 + f - 2 ≡ f = omega arith in
            ap (within h j v) (sym (page_at S s n P.sound (2 + f) (omega arith) there) ∙ ap (λ k. get_or (contents S s) k free) e) ∙ find_passes (within h j v) (contents S s) l

        lowest : low ≤ 2 + f
        lowest = K.least (2 + f) (omega arith) there is (taken_emptied.pages (2 + f) (omega arith) there ∙ ap (λ b. pick b zero_page (page S s (2 + f))) is)

        no_lower : OfPrefix S h s n j v low → f ≤ low - 2
        no_lower o = find_least (within h j v) (contents S s) (low - 2) (omega (arith, o.from, o.to, listed S s n P.sound)) (ap (within h j v) (page_at S s n P.sound low o.from o.to) ∙ o.is)
