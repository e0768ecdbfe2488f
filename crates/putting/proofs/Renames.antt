-- Entries named while buckets are written down the prefixes: what each step of the recursion leaves, and that the directory is then that of the pages. Over any page size and hash.
-- Assumes nothing.
use mathlib.Core.Path.{◌≡◌, refl, sym, ap, subst, subst₂, ◌∙◌}
use mathlib.Core.List.{List}
use mathlib.Core.Logic.{◌⊎◌, inl, inr, ⊎_elim}
use Prim.Native.Nat.{ℕ, ◌+◌, ◌-◌, ◌*◌, ◌/◌, ◌^◌, ◌≤◌, ◌<◌}
use native.Mathlib.Omega.{arith}
use native.Mathlib.Decide.{ℕ_discrete}
use lib.ListN.{length}
use lib.Pow.{shr-shr}
use Rattle.ground.specs.Lists.{byte}
use Rattle.ground.proofs.Sides.{side}
use Rattle.ground.proofs.Tables.{length_tab}
use Rattle.page.specs.Page.{depth, count, code, rows, row_at}
use Rattle.partition.specs.Bits.{top}
use Rattle.partition.specs.declared.Shape.{Shape}
use Rattle.partition.specs.Partition.{Row, rows_of}
use Rattle.partition.specs.Listing.{in_order}
use Rattle.partition.proofs.Reorders.{mem_reordered}
use Rattle.partition.proofs.Sorted.{in_order_reordered}
use Rattle.partition.proofs.Sum.{prefix_row}
use Rattle.store.specs.Pages.{size, pages, page, entry_at, set_page}
use Rattle.store.specs.Accepted.{Calls}
use Rattle.store.specs.Moves.{pack_from}
use Rattle.store.specs.Demands.{Sized}
use Rattle.store.proofs.Showing.Shows.{first_code}
use Rattle.store.proofs.Showing.Showing.{first_code_lem}
use Rattle.store.proofs.Accepted.Unique.{within}
use Rattle.store.proofs.Paging.Views.{set_long, set_same, set_other, set_entry}
use Rattle.directory.specs.Directory.{CallsFor}
use Rattle.directory.proofs.Directories.{page_above, calls_same}
use Rattle.directory.proofs.Renews.{packed_bits}
use Rattle.putting.specs.Split.{Bucketed, NewPage, NewEntry, EntriesWritten, NamedIf}

-- ---- a prefix and its halves

-- what a half calls for, the prefix calls for
calls_half : (d k w i : ℕ) → k + 1 ≤ d → Calls d (k + 1) w i → Calls d k (w / 2) i
calls_half d k w i l c = record {
  below = c.below;
  bits =
      let e : d - (k + 1) + 1 ≡ d - k = omega arith in
      sym (shr-shr i (d - (k + 1)) 1 ∙ ap (λ n. i / 2 ^ n) e) ∙ ap (λ n. n / 2) c.bits;
}

calls_within : (d k v w i : ℕ) → w / 2 ≡ v → k + 1 ≤ d → Calls d (k + 1) w i → Calls d k v i
calls_within d k v w i e l c = subst (λ n. Calls d k n i) e (calls_half d k w i l c)

module _ (S : Shape) (h : List ℕ → ℕ) (d k v w : ℕ) (half : w / 2 ≡ v) where
  page_within : {s t : List ℕ} {at q : ℕ} → NewPage S h s d (k + 1) w at t q → NewPage S h s d k v at t q
  page_within N = record {
    was = N.was;
    deep = omega (arith, N.deep);
    calls = λ l i c. calls_within d k v w i half (omega (arith, N.deep)) (N.calls l i c);
    named = N.named;
  }

  entry_within : {n : ℕ} {t : List ℕ} {i : ℕ} → NewEntry S h d (k + 1) w n t i → NewEntry S h d k v n t i
  entry_within {n} {t} {i} E = record { low = omega (arith, E.low); under = calls_within d k v w i half E.low E.under; from = E.from; to = E.to; calls = E.calls }

  written_within : {s t : List ℕ} {at p : ℕ} → EntriesWritten S h s d (k + 1) w at t p → EntriesWritten S h s d k v at t p
  written_within W = record {
    each = λ q a b. ⊎_elim inl (λ N. inr (page_within N)) (W.each q a b);
    entries = λ i l. ⊎_elim inl (λ E. inr (entry_within E)) (W.entries i l);
    at_page = λ a e. page_within (W.at_page a e);
    left = W.left;
  }

-- ---- nothing written

pub none_named : (S : Shape) (h : List ℕ → ℕ) (s : List ℕ) (d k v at : ℕ) → EntriesWritten S h s d k v at s at
none_named S h s d k v at = record {
  each = λ q a b. inl refl;
  entries = λ i l. inl refl;
  at_page = λ a e. absurd (omega arith);
  left = λ _. (refl, refl);
}

-- ---- one half after the other

module _ (S : Shape) (h : List ℕ → ℕ) (d k v : ℕ) (fits : 2 ^ d ≤ S.entries) {s t u : List ℕ} {at p n : ℕ} (long : length t ≡ length s) (from : 0 < at → 2 ≤ at) (to : at < pages S s)
    (A : EntriesWritten S h s d (k + 1) (2 * v) at t p) (B : EntriesWritten S h t d (k + 1) (2 * v + 1) p u n) where
  left_half : 2 * v / 2 ≡ v
  left_half = omega arith

  right_half : (2 * v + 1) / 2 ≡ v
  right_half = omega arith

  same_pages : pages S t ≡ pages S s
  same_pages = ap (λ m. m / size S) long

  abbrev New : ℕ → Type 0
  New q = NewPage S h s d k v at u q

  -- the first half has written: its new page stays, with the entries that name it
  stays : (q : ℕ) → NewPage S h s d (k + 1) (2 * v) at t q → page S u q ≡ page S t q → New q
  stays q N e = record {
    was = N.was;
    deep = subst (λ g. k ≤ depth g) (sym e) (omega (arith, N.deep));
    calls = λ l i c. calls_within d k v (2 * v) i left_half (omega (arith, N.deep, deep l)) (N.calls (deep l) i (before i c));
    named = λ l i c. ⊎_elim
        (λ w. w ∙ N.named (deep l) i (before i c))
        (λ E. absurd (omega (arith, (N.calls (deep l) i (before i c)).bits, E.under.bits)))
        (B.entries i (omega (arith, c.calls.below)));
  }
    where
      deep : depth (page S u q) ≤ d → depth (page S t q) ≤ d
      deep l = subst (λ g. depth g ≤ d) e l

      before : (i : ℕ) → CallsFor S h u d i q → CallsFor S h t d i q
      before i c = calls_same S h t u d i q e c

  -- a page that the second half has written
  comes : (q : ℕ) → NewPage S h t d (k + 1) (2 * v + 1) p u q → (byte (page S s q) 0 ≡ 1 → q ≡ at) → New q
  comes q N w = record {
    was = w;
    deep = omega (arith, N.deep);
    calls = λ l i c. calls_within d k v (2 * v + 1) i right_half (omega (arith, N.deep)) (N.calls l i c);
    named = N.named;
  }

  module _ (z : p ≡ 0) where
    new_then : (q : ℕ) → NewPage S h s d (k + 1) (2 * v) at t q → (page S u q ≡ page S t q) ⊎ NewPage S h t d (k + 1) (2 * v + 1) p u q → New q
    new_then q N (inl e) = stays q N e
    new_then q N (inr M) = comes q M N.was

    each : (q : ℕ) → 2 ≤ q → (page S t q ≡ page S s q) ⊎ NewPage S h s d (k + 1) (2 * v) at t q → (page S u q ≡ page S t q) ⊎ NewPage S h t d (k + 1) (2 * v + 1) p u q
        → (page S u q ≡ page S s q) ⊎ New q
    each q two (inl e) (inl f) = inl (f ∙ e)
    each q two (inl e) (inr M) = inr (comes q M (λ b. let w : q ≡ p = M.was (ap (λ g. byte g 0) e ∙ b) in absurd (omega (arith, w))))
    each q two (inr N) m = inr (new_then q N m)

    entry : (i : ℕ) → (entry_at S t i ≡ entry_at S s i) ⊎ NewEntry S h d (k + 1) (2 * v) (pages S s) t i → (entry_at S u i ≡ entry_at S t i) ⊎ NewEntry S h d (k + 1) (2 * v + 1) (pages S t) u i
        → (entry_at S u i ≡ entry_at S s i) ⊎ NewEntry S h d k v (pages S s) u i
    entry i (inl e) (inl f) = inl (f ∙ e)
    entry i (inr E) (inl f) = inr (record {
      low = omega (arith, E.low);
      under = calls_within d k v (2 * v) i left_half E.low E.under;
      from = subst (λ e. 2 ≤ e) (sym f) E.from;
      to = subst (λ e. e < pages S s) (sym f) E.to;
      calls = subst (CallsFor S h u d i) (sym f) (go (B.each (entry_at S t i) E.from (omega (arith, E.to, same_pages))));
    })
      where
        go : (page S u (entry_at S t i) ≡ page S t (entry_at S t i)) ⊎ NewPage S h t d (k + 1) (2 * v + 1) p u (entry_at S t i) → CallsFor S h u d i (entry_at S t i)
        go (inl e) = calls_same S h u t d i (entry_at S t i) (sym e) E.calls
        go (inr M) = let w : entry_at S t i ≡ p = M.was E.calls.used in absurd (omega (arith, w, E.from))
    entry i _ (inr E) = inr (subst (λ m. NewEntry S h d k v m u i) same_pages (entry_within S h d k v (2 * v + 1) right_half E))

    after : EntriesWritten S h s d k v at u n
    after = record {
      each = λ q a b. each q a (A.each q a b) (B.each q a (omega (arith, b, same_pages)));
      entries = λ i l. entry i (A.entries i l) (B.entries i l);
      at_page = λ a e. new_then at (A.at_page a z) (B.each at (from a) (omega (arith, to, same_pages)));
      left = λ a. absurd (omega (arith, (B.left a).1));
    }

  pub both_named : EntriesWritten S h s d k v at u n
  both_named = ⊎_elim
      (λ l. let e = A.left l in written_within S h d k v (2 * v + 1) right_half (subst₂ (λ x y. EntriesWritten S h x d (k + 1) (2 * v + 1) y u n) e.0 e.1 B))
      (λ l. after (omega arith))
      (side 0 p)

-- ---- one bucket

module _ (S : Shape) (sized : Sized S) (h : List ℕ → ℕ) (rs : List Row) (s : List ℕ) (d k v at n : ℕ) (fits : 2 ^ d ≤ S.entries) (two : 2 ≤ n) (to : n < pages S s) (g q : List ℕ)
    (Q : Bucketed h rs k v g q) (size_q : length q ≡ size S) (was : byte (page S s n) 0 ≡ 1 → n ≡ at) (its : 0 < at → n ≡ at) (t : List ℕ) (F : NamedIf S (set_page S s n q) d k v n t) where
  abbrev w : List ℕ
  w = set_page S s n q

  bits : top k (h (code q 0)) ≡ v
  bits =
      let l : List Row = in_order (rows_of h rs k v) in
      let some : 0 < length (pack_from 8 l) = omega (arith, ap length Q.rows_of, length_tab (row_at q) (count q), Q.page.some) in
      sym (subst (λ m. top m (h (first_code (rows q))) ≡ top m (h (code q 0))) Q.deep (first_code_lem h q Q.page))
      ∙ ap (λ x. top k (h (first_code x))) Q.rows_of ∙ packed_bits h k v l (λ r m. (prefix_row h rs k v r (mem_reordered (in_order_reordered (rows_of h rs k v)) m)).1) some

  long : length w ≡ length s
  long = set_long S s n q to size_q

  low_or : (k ≤ d) ⊎ (d < k)
  low_or = ⊎_elim inr inl (side d k)

  high : (x : ℕ) → 2 ≤ x → x < pages S s → page S t x ≡ page S w x
  high x a b = ⊎_elim
      (λ l. let N = F.low l in page_above S w t x a (omega (arith, within S s x b, long)) N.old.len (λ i m. N.old.above i (omega arith)))
      (λ l. ap (λ y. page S y x) (F.over l))
      low_or

  here : page S t n ≡ q
  here = high n two to ∙ set_same S s n q to size_q

  new_calls : (i : ℕ) → CallsFor S h t d i n → Calls d k v i
  new_calls i c =
      let a = subst (λ g. Calls d (depth g) (top (depth g) (h (code g 0))) i) here c.calls in
      subst (λ x. Calls d k x i) bits (subst (λ m. Calls d m (top m (h (code q 0))) i) Q.deep a)

  calls_new : (i : ℕ) → Calls d k v i → CallsFor S h t d i n
  calls_new i c = record {
    used = ap (λ g. byte g 0) here ∙ Q.page.rules.one;
    calls = subst (λ g. Calls d (depth g) (top (depth g) (h (code g 0))) i) (sym here)
        (subst (λ m. Calls d m (top m (h (code q 0))) i) (sym Q.deep) (subst (λ x. Calls d k x i) (sym bits) c));
  }

  deep_here : depth (page S t n) ≡ k
  deep_here = ap depth here ∙ Q.deep

  new_page : NewPage S h s d k v at t n
  new_page = record {
    was = was;
    deep = omega (arith, deep_here);
    calls = λ l i c. new_calls i c;
    named = λ l i c. ⊎_elim (λ y. y.1) (λ y. absurd (y.0 (new_calls i c))) ((F.low (omega (arith, deep_here))).entry i (omega (arith, c.calls.below)));
  }

  inside : (i : ℕ) → i < S.entries → entry_at S w i ≡ entry_at S s i
  inside i l = set_entry S s n q to size_q two i (omega (arith, sized.whole))

  pub one_named : EntriesWritten S h s d k v at t 0
  one_named = record {
    each = λ x a b. go x a b (ℕ_discrete x n);
    entries = λ i l. ⊎_elim (low_entry i l) (λ o. inl (ap (λ y. entry_at S y i) (F.over o) ∙ inside i l)) low_or;
    at_page = λ a e. let m : n ≡ at = its a in subst (NewPage S h s d k v at t) m new_page;
    left = λ a. absurd (omega arith);
  }
    where
      go : (x : ℕ) → 2 ≤ x → x < pages S s → Dec (x ≡ n) → (page S t x ≡ page S s x) ⊎ NewPage S h s d k v at t x
      go x a b (yes e) = inr (subst (NewPage S h s d k v at t) (sym e) new_page)
      go x a b (no m) = inl (high x a b ∙ set_other S s n q to size_q x m)

      low_entry : (i : ℕ) → i < S.entries → k ≤ d → (entry_at S t i ≡ entry_at S s i) ⊎ NewEntry S h d k v (pages S s) t i
      low_entry i l o = ⊎_elim
          (λ y. inr (record { low = o; under = y.0; from = omega (arith, y.1); to = omega (arith, y.1); calls = subst (CallsFor S h t d i) (sym y.1) (calls_new i y.0) }))
          (λ y. inl (y.1 ∙ inside i l))
          ((F.low o).entry i l)
