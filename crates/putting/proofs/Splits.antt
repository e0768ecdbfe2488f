-- Buckets written one after another down the prefixes: what each step of the recursion asks and leaves. Over any page size and hash. Assumes nothing.
use Rattle.directory.specs.Directory.{Rewritten}
use mathlib.Core.Path.{◌≡◌, refl, sym, ap, subst, ◌∙◌}
use mathlib.Core.Bool.{true≢false}
use mathlib.Core.List.{List, [], ◌∷◌, ◌++◌, map, map-append}
use mathlib.Core.Logic.{⊎_elim}
use Prim.Native.Nat.{ℕ, zero, suc, ◌+◌, ◌-◌, ◌*◌, ◌/◌, ◌%◌, ◌^◌, ◌≤◌, ◌<◌}
use native.Mathlib.Omega.{arith}
use lib.ListN.{length, get_or, set}
use lib.Pow.{pow_mono}
use Rattle.ground.specs.Lists.{byte}
use Rattle.ground.proofs.Sides.{side}
use Rattle.partition.specs.declared.Shape.{Shape}
use Rattle.partition.specs.Partition.{Row, needs, rows_of}
use Rattle.partition.proofs.Tree.{pfx}
use Rattle.store.specs.Pages.{size, pages, page, Page, free, bucket, contents, set_page}
use Rattle.store.specs.Accepted.{GoodLength}
use Rattle.store.specs.Moves.{find, is_free, packed, written, frees}
use Rattle.putting.specs.Split.{below, Bucketed, taken_next, untaken, Room, pages_below, Writable, NamedIf, BucketsWritten}
use Rattle.store.proofs.Accepted.Unique.{page_long}
use Rattle.store.proofs.Showing.Rooms.{find_free}
use Rattle.store.proofs.Paging.Depths.{kind_byte}
use Rattle.directory.proofs.Frees.{used_page}
use Rattle.directory.proofs.Renews.{prefix_holds, prefix_kept}
use Rattle.putting.proofs.Renames.{none_named, one_named, both_named}
use Rattle.directory.proofs.Settles.{rewritten_set, set_holds}
use Rattle.putting.proofs.Weighs.{below_none, below_one, below_deep, below_two, double}

-- ---- one list of pages after another

none_left : (ns : List Page) → untaken 0 ns ≡ 0
none_left [] = refl
none_left (n ∷ ns) = refl

left_append : (at : ℕ) (ms ns : List Page) → untaken at (ms ++ ns) ≡ untaken (untaken at ms) ns
left_append at [] ns = refl
left_append at (m ∷ ms) ns = sym (none_left ns)

pub first_given : (gs : List Page) (p : ℕ) → 2 ≤ p → taken_next gs p ≡ p - 2
first_given gs zero l = absurd (omega arith)
first_given gs (suc p) l = refl

-- of page at, what is untaken is all or none
left_as : (P : ℕ → Type 0) (at : ℕ) (ns : List Page) → P 0 → P at → P (untaken at ns)
left_as P at [] z a = a
left_as P at (n ∷ ns) z a = z

written_append : (gs : List Page) (at : ℕ) (ms ns : List Page)
    → written gs (taken_next gs at) (ms ++ ns) ≡ written (written gs (taken_next gs at) ms) (taken_next (written gs (taken_next gs at) ms) (untaken at ms)) ns
unfolding written
written_append gs at [] ns = refl
written_append gs at (m ∷ ms) ns =
    let fs : List Page = set gs (taken_next gs at) m in
    written_append fs 0 ms ns ∙ ap (λ j. written (written fs (find is_free fs) ms) (taken_next (written fs (find is_free fs) ms) j) ns) (none_left ms)

room_next : (gs : List Page) (at : ℕ) (n : Page) (ns : List Page) → Room gs at (n ∷ ns) → Room (set gs (taken_next gs at) n) 0 ns
unfolding written
room_next gs at n ns r m l f = r (suc m) (omega arith) (λ _. omega arith)

room_left : (gs : List Page) (at : ℕ) (ms ns : List Page) → Room gs at (ms ++ ns) → Room gs at ms
unfolding written
room_left gs at [] ns r m l f = absurd (omega arith)
room_left gs at (n ∷ ms) ns r zero l f = r 0 (omega arith) f
room_left gs at (n ∷ ms) ns r (suc m) l f = room_left (set gs (taken_next gs at) n) 0 ms ns (room_next gs at n (ms ++ ns) r) m (omega arith) (λ z. absurd (omega arith))

room_right : (gs : List Page) (at : ℕ) (ms ns : List Page) → Room gs at (ms ++ ns) → Room (written gs (taken_next gs at) ms) (untaken at ms) ns
unfolding written
room_right gs at [] ns r = r
room_right gs at (n ∷ ms) ns r =
    let fs : List Page = set gs (taken_next gs at) n in
    subst (λ j. Room (written fs (find is_free fs) ms) j ns) (none_left ms) (room_right fs 0 ms ns (room_next gs at n (ms ++ ns) r))

-- ---- stores written one after another

pub rewritten_then : (S : Shape) (s t u : List ℕ) → Rewritten S s t → Rewritten S t u → Rewritten S s u
rewritten_then S s t u A B = record {
  long = B.long ∙ A.long;
  low = λ k l. B.low k l ∙ A.low k l;
  sound = λ p a b. B.sound p a (subst (λ n. p < n / size S) (sym A.long) b);
}

pub rewritten_self : (S : Shape) (s t : List ℕ) → Rewritten S s t → Rewritten S t t
rewritten_self S s t A = record { long = refl; low = λ k l. refl; sound = λ p a b. A.sound p a (subst (λ n. p < n / size S) A.long b) }

module _ (S : Shape) (s : List ℕ) (d k v p : ℕ) (t : List ℕ) where
  named_kept : Rewritten S s s → NamedIf S s d k v p t → Rewritten S s t
  named_kept W F = ⊎_elim (λ l. subst (Rewritten S s) (sym (F.over l)) W) (λ l. prefix_kept S s t d k v p (F.low l) W) (side d k)

  named_holds : NamedIf S s d k v p t → contents S t ≡ contents S s
  named_holds F = ⊎_elim (λ l. ap (contents S) (F.over l)) (λ l. prefix_holds S s t d k v p (F.low l)) (side d k)

pub long_then : (S : Shape) (s t : List ℕ) → length t ≡ length s → GoodLength S s → GoodLength S t
long_then S s t e g = record {
  whole = ap (λ n. n % size S) e ∙ g.whole;
  least = subst (λ n. 3 ≤ n / size S) (sym e) g.least;
  most = subst (λ n. n / size S ≤ S.entries + 2) (sym e) g.most;
}

module _ (S : Shape) (h : List ℕ → ℕ) (d : ℕ) (rs : List Row) (k v : ℕ) (s : List ℕ) (at : ℕ) (low_d : d ≤ S.deepest) (W : Writable S h rs k v s at) where
  fits : 2 ^ d ≤ S.entries
  fits = let m : 2 ^ d ≤ 2 ^ S.deepest = pow_mono low_d in omega (arith, W.prefix.sized.deep)

  abbrev gs : List Page
  gs = contents S s

  abbrev load : ℕ
  load = needs (rows_of h rs k v)

  -- no bucket
  none_wrote : below S h rs k v ≡ [] → BucketsWritten S h d rs k v s at s at
  unfolding written
  none_wrote e = record {
    pages = W.sound;
    held = sym (ap (λ l. written gs (taken_next gs at) (map (packed h rs) l)) e);
    then = sym (ap (λ l. untaken at (map (packed h rs) l)) e);
    named = none_named S h s d k v at;
  }

  pub bare_wrote : load ≡ 0 → BucketsWritten S h d rs k v s at s at
  bare_wrote e = none_wrote (below_none S h rs k v e)

  pub deep_wrote : S.capacity < load → k ≡ S.deepest → BucketsWritten S h d rs k v s at s at
  deep_wrote o e = none_wrote (below_deep S h rs k v (omega arith) o)

  -- one
  module _ (p : 0 < load) (l : load ≤ S.capacity) where
    one : below S h rs k v ≡ pfx k v ∷ []
    one = below_one S h rs k v p l

    pub one_free : at ≡ 0 → 0 < frees (contents S s)
    unfolding written
    one_free z =
        let r : Room gs at (packed h rs (pfx k v) ∷ []) = subst (λ x. Room gs at (map (packed h rs) x)) one W.room in
        r 0 (omega arith) (λ b. omega arith)

    module _ (n : ℕ) (e : n ≡ 2 + taken_next (contents S s) at) (to : n < pages S s) (q : List ℕ) (Q : Bucketed h rs k v (page S s n) q) where
      long : length q ≡ size S
      long = Q.size ∙ page_long S s n to

      holds : contents S (set_page S s n q) ≡ set gs (taken_next gs at) (packed h rs (pfx k v))
      unfolding packed
      holds =
          let i : n - 2 ≡ taken_next gs at = omega arith in
          set_holds S s s W.sound n (omega arith) to q Q.page long (omega (arith, Q.deep, W.prefix.deep))
          ∙ (λ x. set gs (i x) (bucket (Q.deep x) (Q.rows_of x)))

      rewritten : Rewritten S s (set_page S s n q)
      rewritten = rewritten_set S s s W.sound n (omega arith) to q Q.page long (omega (arith, Q.deep, W.prefix.deep))

      -- page at, where one is given
      given_page : 0 < at → n ≡ at
      given_page a = let w = first_given gs at (W.from a) in omega (arith, w, W.from a)

      -- else one that is free
      not_used : byte (page S s n) 0 ≡ 1 → n ≡ at
      not_used b = ⊎_elim given_page
          (λ l.
          let z : at ≡ 0 = omega arith in
          let f : n - 2 ≡ find is_free gs = omega (arith, e, ap (taken_next gs) z) in
          absurd (true≢false (sym (ap is_free (find_free gs (one_free z)).1) ∙ ap (λ i. is_free (get_or gs i free)) (sym f) ∙ used_page S s n (omega arith) to (λ y. omega (arith, y, b, kind_byte S s n)))))
          (side 0 at)

      -- and its entries named
      module _ (t : List ℕ) (F : NamedIf S (set_page S s n q) d k v n t) where
        kept : Rewritten S (set_page S s n q) t
        kept = named_kept S (set_page S s n q) d k v n t (rewritten_self S s (set_page S s n q) rewritten) F

        pub one_wrote : BucketsWritten S h d rs k v s at t 0
        unfolding written
        one_wrote = record {
          pages = rewritten_then S s (set_page S s n q) t rewritten kept;
          held = named_holds S (set_page S s n q) d k v n t F ∙ holds ∙ sym (ap (λ x. written gs (taken_next gs at) (map (packed h rs) x)) one);
          then = sym (ap (λ x. untaken at (map (packed h rs) x)) one);
          named = one_named S W.prefix.sized h rs s d k v at n fits (omega arith) to (page S s n) q Q long not_used given_page t F;
        }

  -- two halves
  module _ (shallow : k < S.deepest) (o : S.capacity < load) where
    abbrev ls : List Page
    ls = pages_below S h rs (k + 1) (2 * v)

    abbrev us : List Page
    us = pages_below S h rs (k + 1) (2 * v + 1)

    both : pages_below S h rs k v ≡ ls ++ us
    both = ap (map (packed h rs)) (below_two S h rs k v shallow o) ∙ map-append (packed h rs) (below S h rs (k + 1) (2 * v)) (below S h rs (k + 1) (2 * v + 1))

    pub half_ready : Writable S h rs (k + 1) (2 * v) s at
    half_ready = record {
      prefix = record { sized = W.prefix.sized; deep = omega arith; bits = omega (arith, W.prefix.bits, double k) };
      long = W.long;
      sound = W.sound;
      from = W.from;
      to = W.to;
      room = room_left gs at ls us (subst (Room gs at) both W.room);
    }

    module _ (t : List ℕ) (p : ℕ) (A : BucketsWritten S h d rs (k + 1) (2 * v) s at t p) where
      given : (0 < p → 2 ≤ p) × (p < pages S t)
      given =
          let e : pages S t ≡ pages S s = ap (λ n. n / size S) A.pages.long in
          let P : ℕ → Type 0 = λ j. (0 < j → 2 ≤ j) × (j < pages S t) in
          subst P (sym A.then) (left_as P at ls ((λ b. absurd (omega arith)), omega (arith, W.long.least, e)) (W.from, omega (arith, W.to, e)))

      pub other_ready : Writable S h rs (k + 1) (2 * v + 1) t p
      other_ready = record {
        prefix = record { sized = W.prefix.sized; deep = omega arith; bits = omega (arith, W.prefix.bits, double k) };
        long = long_then S s t A.pages.long W.long;
        sound = rewritten_self S s t A.pages;
        from = given.0;
        to = given.1;
        room = subst (λ g. Room g p us) (sym A.held) (subst (λ j. Room (written gs (taken_next gs at) ls) j us) (sym A.then) (room_right gs at ls us (subst (Room gs at) both W.room)));
      }

      pub both_wrote : (u : List ℕ) (n : ℕ) → BucketsWritten S h d rs (k + 1) (2 * v + 1) t p u n → BucketsWritten S h d rs k v s at u n
      both_wrote u n B = record {
        pages = rewritten_then S s t u A.pages B.pages;
        held = B.held ∙ (λ x. written (A.held x) (taken_next (A.held x) (A.then x)) us) ∙ sym (written_append gs at ls us) ∙ sym (ap (written gs (taken_next gs at)) both);
        then = B.then ∙ ap (λ j. untaken j us) A.then ∙ sym (left_append at ls us) ∙ sym (ap (untaken at) both);
        named = both_named S h d k v fits A.pages.long W.from W.to A.named B.named;
      }
