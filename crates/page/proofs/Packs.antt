-- Free and fresh pages, and rows put behind one another. Assumes nothing.
use Prim.Native.Nat.{ℕ, ◌+◌, ◌-◌, ◌≤◌, ◌<◌}
use mathlib.Core.Path.{◌≡◌, sym, ap, ◌∙◌}
use mathlib.Core.Logic.{⊎_elim}
use mathlib.Core.List.{List}
use native.Mathlib.Omega.{arith}
use lib.ListN.{length, set, length-set, replicate, length-replicate, get_or-replicate}
use lib.Seq.{ext_get_or}
use Rattle.ground.specs.Lists.{byte, tab, insert_at, total}
use Rattle.words.specs.Moves.{Cleared}
use Rattle.ground.proofs.Sides.{side}
use Rattle.words.proofs.Bytes.{byte_set, byte_other}
use Rattle.page.specs.Page.{Slotted, Record, row_at, count, frontier, free, off, len, code, place, slot_need}
use Rattle.page.specs.Steps.{Headed, Insertable, Inserted}
use Rattle.page.proofs.Slots.{Lies, lies}
use Rattle.ground.proofs.Tables.{total_same}
use Rattle.page.specs.Packed.{Fresh, PackedRow, PackedTo, Packed, Fitting, Startable, Started}
use Rattle.page.proofs.Sums.{total_more, total_none, total_le, total_need, len_of_code, slot_code, count_more, row_lo, row_at_lem}

-- a page cleared from end to end
pub blank : {p q : List ℕ} → Cleared p 0 (length p) q → q ≡ replicate (length p) 0
blank {p} {q} c =
    ext_get_or 0 q (replicate (length p) 0) (c.len ∙ sym (length-replicate (length p) 0))
    (λ k h. let m : k < length p = omega (arith, c.len) in c.new k (omega arith) m ∙ sym (get_or-replicate (length p) k 0 0 m))

pub fresh : {p q₁ q : List ℕ} {d : ℕ} → 16 ≤ length p → length p ≤ 16384 → Cleared p 0 (length p) q₁ → Headed (set (set q₁ 0 1) 1 d) 0 8 (length p - 8) q
    → ((k : ℕ) → byte q k < 256) → Fresh p d q
fresh {p} {q₁} {q} {d} lo hi a b bytes =
    let l₁ : length q₁ ≡ length p = a.len in
    let l₂ : length (set (set q₁ 0 1) 1 d) ≡ length q₁ = simp length-set in
    let l : length q ≡ length p = b.old.len ∙ l₂ ∙ l₁ in
    let l₃ : length (set q₁ 0 1) ≡ length p = length-set q₁ 0 1 ∙ l₁ in
    let zero_at : (k : ℕ) → 8 ≤ k → k < length p → byte q k ≡ 0 =
    λ k h m. b.old.above k (omega arith) ∙ byte_other (set q₁ 0 1) 1 d k (omega arith) ∙ byte_other q₁ 0 1 k (omega arith) ∙ a.new k (omega arith) m in
    record {
      page = record {
        least = omega arith;
        most = omega arith;
        bytes = bytes;
        one = b.old.below 0 (omega arith) ∙ byte_other (set q₁ 0 1) 1 d 0 (omega arith) ∙ byte_set q₁ 0 1 (omega arith);
        room = omega (arith, b.counted, b.fronted);
        kinds = λ i h. absurd (omega (arith, b.counted));
        short = λ i h. absurd (omega (arith, b.counted));
        long = λ i h. absurd (omega (arith, b.counted));
        after = λ i h. absurd (omega (arith, b.counted));
        inside = λ i h. absurd (omega (arith, b.counted));
        start = omega (arith, b.fronted);
        empty = λ h. b.fronted;
        top = λ h. absurd (omega (arith, b.counted));
        places = λ i h. absurd (omega (arith, b.counted));
        apart = λ i j k h. absurd (omega (arith, b.counted));
        ascending = λ i j h m. absurd (omega (arith, b.counted));
        unused = rw b.counted (omega (arith, b.freed, total_none (slot_need q)));
        clear = λ k h m out. zero_at k h (omega arith);
      };
      long = l;
      deep = b.old.below 1 (omega arith) ∙ byte_set (set q₁ 0 1) 1 d (omega arith);
      none = b.counted;
    }

-- a page's total need is within it
needs_fit : (p : List ℕ) (i : ℕ) → Slotted p → i < count p → total (slot_need p) i + 4 + len p i ≤ length p - 8
needs_fit p i b h = omega (arith, total_more (slot_need p) i, total_le (slot_need p) (i + 1) (count p) (omega arith), b.unused)

module _ (p : List ℕ) (i : ℕ) (q : List ℕ) (K : PackedTo p i q) where
  pub frontier_is : frontier q ≡ 8 + total (len p) i
  frontier_is = ⊎_elim
      (λ none. let e : i ≡ 0 = omega arith in rw e (K.page.empty (omega (arith, K.counted)) ∙ omega (arith, total_none (len p))))
      (λ some.
      let t : (j : ℕ) × (j < count q) × (off q j + len q j ≡ frontier q) = K.page.top (omega (arith, K.counted)) in
      let tj : t.0 < i = omega (arith, t.1, K.counted) in
      let e : i - 1 + 1 ≡ i = omega arith in
      let last : total (len p) i ≡ total (len p) (i - 1) + len p (i - 1) = rw e at (total_more (len p) (i - 1)) in
      omega (
        arith,
        t.2,
        (K.each t.0 tj).start,
        (K.each t.0 tj).sized,
        total_more (len p) t.0,
        total_le (len p) (t.0 + 1) i (omega arith),
        last,
        (K.each (i - 1) (omega arith)).start,
        (K.each (i - 1) (omega arith)).sized,
        K.page.inside (i - 1) (omega (arith, K.counted)),
      ))
      (side i 1)

  needs_are : total (slot_need q) (count q) ≡ total (slot_need p) i
  needs_are = rw K.counted (total_same (slot_need q) (slot_need p) i (λ j m. omega (arith, (K.each j m).sized)))

module _ (p : List ℕ) (i : ℕ) (q : List ℕ) (P : Slotted p) (K : PackedTo p i q) (h : i < count p) where
  pub insertable : Insertable q i (code p i) (place p i)
  insertable = let y : Lies p i = lies i P h in record {
    page = K.page;
    belongs = record {
      within = omega (arith, K.counted);
      left = λ j m. rw (K.each j m).coded (P.ascending j i m h);
      right = λ j m n. absurd (omega (arith, K.counted));
    };
    natural = P.places i h;
    good = slot_code p i P h;
    fits = omega (arith, len_of_code p i P h, needs_fit p i P h, needs_are p i q K, K.page.unused, K.long);
    room = omega (arith, len_of_code p i P h, needs_fit p i P h, frontier_is p i q K, total_need p i, K.long, K.counted, P.least);
  }

  module _ (r : List ℕ) (I : Inserted q i (code p i) (place p i) r) where
    row_old : (j : ℕ) → j < i → PackedRow p j r
    row_old j m =
        let e : row_at r j ≡ row_at q j = row_lo q i (code p i) (place p i) r I (omega (arith, K.counted)) j m in
        let cd : code r j ≡ code p j = ap (λ x. x.code) e ∙ (K.each j m).coded in
        let n : count r ≡ count q + 1 = count_more q i (code p i) (place p i) r I (omega (arith, K.counted)) in
        record {
          start = ap (λ x. x.start) e ∙ (K.each j m).start;
          placed = ap (λ x. x.place) e ∙ (K.each j m).placed;
          coded = cd;
          sized = omega (arith, len_of_code r j I.page (omega (arith, K.counted)), len_of_code p j P (omega arith), ap length cd);
        }

    row_new : PackedRow p i r
    row_new =
        let e : ◌≡◌ {A = Record} (row_at r i) (record { start = frontier q; place = place p i; code = code p i }) = row_at_lem q i (code p i) (place p i) r I (omega (arith, K.counted)) in
        let cd : code r i ≡ code p i = ap (λ x. x.code) e in
        let n : count r ≡ count q + 1 = count_more q i (code p i) (place p i) r I (omega (arith, K.counted)) in
        record {
          start = ap (λ x. x.start) e ∙ frontier_is p i q K;
          placed = ap (λ x. x.place) e;
          coded = cd;
          sized = omega (arith, len_of_code r i I.page (omega (arith, K.counted)), len_of_code p i P h, ap length cd);
        }

    pub appended : PackedTo p (i + 1) r
    appended = record {
      page = I.page;
      long = I.long ∙ K.long;
      deep = I.deep ∙ K.deep;
      counted = omega (arith, count_more q i (code p i) (place p i) r I (omega (arith, K.counted)), K.counted);
      each = λ j m. ⊎_elim (λ lt. row_old j lt) (λ ge. let e : j ≡ i = omega arith in rw e row_new) (side j i);
    }

-- a row that fits a page has room at the frontier once the page is packed
pub once_packed : {p c pl q : List ℕ} {s : ℕ} → Fitting p s c pl → Packed p q → Insertable q s c pl
once_packed {p} {c} {pl} {q} {s} F K = record {
  page = K.page;
  belongs = record {
    within = omega (arith, K.counted, F.belongs.within);
    left = λ j m. rw (K.each j (omega (arith, F.belongs.within))).coded (F.belongs.left j m);
    right = λ j m n. let l : j < count p = omega (arith, K.counted) in rw (K.each j l).coded (F.belongs.right j m l);
  };
  natural = F.natural;
  good = F.good;
  fits = omega (arith, F.fits, F.page.unused, K.page.unused, K.long, needs_are p (count p) q K);
  room = omega (arith, F.fits, F.page.unused, F.page.least, K.long, K.counted, frontier_is p (count p) q K, total_need p (count p));
}

pub first : {p c pl q : List ℕ} {d : ℕ} → Startable p c pl → Fresh p d q → Insertable q 0 c pl
first {p} {c} {pl} {q} {d} S F = record {
  page = F.page;
  belongs = record { within = omega arith; left = λ i h. absurd (omega arith); right = λ i h m. absurd (omega (arith, F.none)) };
  natural = S.natural;
  good = S.good;
  fits = let u : free q + total (slot_need q) 0 ≡ length q - 8 = rw F.none at F.page.unused in omega (arith, u, total_none (slot_need q), F.long, S.room);
  room = omega (arith, F.page.empty F.none, F.none, F.long, S.room);
}

pub started : {p c pl q r : List ℕ} {d : ℕ} → Startable p c pl → Fresh p d q → Inserted q 0 c pl r → Started p d c pl r
unfolding insert_at tab
started {p} {c} {pl} {q} {r} {d} S F I = record {
  page = record { rules = I.page; some = omega (arith, count_more q 0 c pl r I (omega arith)) };
  long = I.long ∙ F.long;
  deep = I.deep ∙ F.deep;
  rows_of = rw (F.none, F.page.empty F.none) at I.rows_of;
}
