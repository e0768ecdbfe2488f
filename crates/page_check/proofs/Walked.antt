-- What the walk over the table has shown at a byte. Assumes nothing.
use Prim.Native.Nat.{ℕ, ◌+◌, ◌/◌, ◌%◌, ◌^◌, ◌≤◌, ◌<◌}
use mathlib.Core.Path.{◌≡◌, refl, sym, subst, ◌∙◌, ap}
use mathlib.Core.Logic.{◌⊎◌, inl, inr, ⊎_elim, ◌↔◌}
use mathlib.Core.List.{List}
use native.Mathlib.Omega.{arith}
use lib.Bits.{bit_or, or_shr, or_mod}
use lib.ListN.{length, set, get_or-eq_default}
use lib.Seq.{get_or-set_same, get_or-set_other}
use Rattle.ground.specs.Lists.{byte}
use Rattle.ground.proofs.Sides.{side, same}
use Rattle.words.specs.Moves.{Span}
use Rattle.words.specs.Zeros.{Zero}
use Rattle.words.proofs.Zeros.{or_zero, zero_or}
use Rattle.page.specs.Page.{In, off, len}
use Rattle.page_check.specs.Rules.{NaturalAt, NoSign}
use Rattle.page_check.specs.Table.{entries, Distinct, Table, Inside, Laid}
use Rattle.page_check.specs.Marks.{OfPlace, Marked}
use Rattle.page_check.proofs.Table.{entries_less, entries_none, none_entries, inside_of}

-- record i was met: its entry is taken back
abbrev Met : List ℕ → ℕ → List ℕ → ℕ → Type 0
Met p n m i = (i < n) × (byte m (off p i) ≡ 0)

-- an or has no sign just where neither has one
bit_or_lem : (a b k : ℕ) → bit_or a b / 2 ^ k % 2 ≡ bit_or (a / 2 ^ k % 2) (b / 2 ^ k % 2)
bit_or_lem a b k = rw (or_shr a b k) (or_mod (a / 2 ^ k) (b / 2 ^ k) 1)

or_no_sign : (a b : ℕ) → NoSign (bit_or a b) → NoSign a × NoSign b
or_no_sign a b h =
    let x = or_zero _ _ (sym (bit_or_lem a b 31) ∙ h.page) in
    let y = or_zero _ _ (sym (bit_or_lem a b 47) ∙ h.slot) in
    let z = or_zero _ _ (sym (bit_or_lem a b 63) ∙ h.volume) in
    (record { page = x.0; slot = y.0; volume = z.0 }, record { page = x.1; slot = y.1; volume = z.1 })

no_sign_or : (a b : ℕ) → NoSign a → NoSign b → NoSign (bit_or a b)
no_sign_or a b h k = record {
  page = bit_or_lem a b 31 ∙ zero_or _ _ h.page k.page;
  slot = bit_or_lem a b 47 ∙ zero_or _ _ h.slot k.slot;
  volume = bit_or_lem a b 63 ∙ zero_or _ _ h.volume k.volume;
}

-- at byte x, of the table t the entries m are left; met records were met, the last ends at e, and acc has the bytes of none
pub record Walked (p : List ℕ) (n f : ℕ) (t m : List ℕ) (x e met acc : ℕ) : Type 0 where
  pub from : 8 ≤ x
  pub to : x ≤ f
  pub later : (k : ℕ) → x ≤ k → byte m k ≡ byte t k
  pub never : (k : ℕ) → byte t k ≡ 0 → byte m k ≡ 0
  pub left : entries m + met ≡ n
  pub apart : (i j k : ℕ) → Met p n m i → Met p n m j → In p i k → In p j k → i ≡ j
  pub done : (i : ℕ) → Met p n m i → off p i + len p i ≤ e
  pub till : e ≤ x
  pub ends : (e ≡ 8) ⊎ ((i : ℕ) × (i < n) × (off p i + len p i ≡ e))
  pub zeros : acc ≡ 0 → (k : ℕ) → 8 ≤ k → k < x → ((i : ℕ) → i < n → In p i k → ⊥) → byte p k ≡ 0
  pub early : (k : ℕ) → k < 8 → byte m k ≡ byte t k
  pub spent : Laid p n f → (k : ℕ) → k < x → byte m k ≡ 0
  pub clear : Laid p n f → acc ≡ 0

-- in the or of the places of the records met there is no sign just where no place has a negative part
pub record Signed (p : List ℕ) (n : ℕ) (m : List ℕ) (signs : ℕ) : Type 0 where
  pub so : NoSign signs → (i : ℕ) → Met p n m i → NaturalAt p (off p i)
  pub back : ((i : ℕ) → i < n → NaturalAt p (off p i)) → NoSign signs

-- u at byte x: the entries m that are left, and 255 on the places of the records met
pub record Marking (p : List ℕ) (n : ℕ) (m : List ℕ) (x : ℕ) (u : List ℕ) : Type 0 where
  pub ahead : (k : ℕ) → x ≤ k → byte u k ≡ byte m k
  pub places : (i k : ℕ) → Met p n m i → OfPlace p i k → byte u k ≡ 255
  pub only : (k : ℕ) → (byte u k ≡ byte m k) ⊎ ((i : ℕ) × (i < n) × OfPlace p i k)

-- g, where the last bytes of no record end, is x only where the last record, ending at e, does not end there
pub record Gap (g x e : ℕ) : Type 0 where
  pub to : g ≤ x
  pub met : g < x → e ≡ x
  pub none : 8 < x → g ≡ x → e < x

-- marks up to y are marks up to z
pub ends_at : (u v : List ℕ) (x y z : ℕ) → Span u x y (λ _. 255) v → y ≡ z → Span u x z (λ _. 255) v
ends_at u v x y z s e = subst (λ w. Span u x w (λ _. 255) v) e s

-- at byte x, whether or not two records start at one byte: of the table t the entries m are left, met records were met, and u is t from x on
pub record Passed (t : List ℕ) (f : ℕ) (m : List ℕ) (x met : ℕ) (u : List ℕ) : Type 0 where
  pub from : 8 ≤ x
  pub to : x ≤ f
  pub later : (k : ℕ) → x ≤ k → byte m k ≡ byte t k
  pub left : entries m + met ≡ entries t
  pub ahead : (k : ℕ) → x ≤ k → byte u k ≡ byte t k
  pub inside : Inside f u

module _ (p t : List ℕ) (n f : ℕ) (b : Table p n f t) where
  pub passed_none : 8 ≤ f → Passed t f t 8 0 t
  passed_none h = record { from = omega arith; to = h; later = λ k _. refl; left = omega arith; ahead = λ k _. refl; inside = inside_of p t n f b }

  module _ (m u : List ℕ) (x met : ℕ) (w : Passed t f m x met u) (l : x < f) where
    pub passed_hole : Passed t f m (x + 1) met u
    passed_hole = record {
      from = omega (arith, w.from);
      to = omega arith;
      later = λ k h. w.later k (omega arith);
      left = w.left;
      ahead = λ k h. w.ahead k (omega arith);
      inside = w.inside;
    }

    -- the record that starts here is 9 bytes long or more, and ends before f
    pub ends_within : 1 ≤ byte u x → (9 ≤ byte u x) × (x + byte u x ≤ f)
    ends_within s = ⊎_elim
        (λ z. absurd (omega (arith, w.ahead x (omega arith))))
        (λ r. (omega (arith, w.ahead x (omega arith), r.3, b.short r.0 r.1), omega (arith, w.ahead x (omega arith), r.2, r.3, b.inside r.0 r.1)))
        (b.only x)

    pub passed_record : (v : List ℕ) → 1 ≤ byte u x → Span u x (x + 8) (λ _. 255) v → Passed t f (set m x 0) (x + byte u x) (met + 1) v
    passed_record v s c =
        let r = ends_within s in
        record {
          from = omega (arith, w.from);
          to = r.1;
          later = λ k h. get_or-set_other m x k 0 0 (λ y. omega (arith, y, r.0)) ∙ w.later k (omega arith);
          left = omega (arith, w.left, entries_less m x (omega (arith, w.later x (omega arith), w.ahead x (omega arith))));
          ahead = λ k h. c.above k (omega (arith, r.0)) ∙ w.ahead k (omega arith);
          inside = λ k h. c.above k (omega (arith, r.0, r.1)) ∙ w.inside k h;
        }

-- a table where no two records start at one byte
pub record Exact (p : List ℕ) (n f : ℕ) (t : List ℕ) : Type 0 where
  pub table : Table p n f t
  pub all : entries t ≡ n

-- records that lie apart start at bytes of their own
pub distinct_of : (p : List ℕ) (n f : ℕ) (t : List ℕ) → Table p n f t → Laid p n f → Distinct p n
distinct_of p n f t b d i j h l e = d.apart i j (off p i) h l (record { from = omega arith; to = omega (arith, b.short i h) }) (record { from = omega (arith, e); to = omega (arith, e, b.short j l) })

module _ (p t : List ℕ) (n f : ℕ) (b : Exact p n f t) where
  fresh : (i : ℕ) → Met p n t i → ⊥
  fresh i u = omega (arith, b.table.at b.all i u.0, b.table.short i u.0, u.1)

  pub signed_none : Signed p n t 0
  signed_none = record { so = λ _ i u. absurd (fresh i u); back = λ _. record { page = refl; slot = refl; volume = refl } }

  pub marking_none : Marking p n t 8 t
  marking_none = record { ahead = λ k _. refl; places = λ i k u. absurd (fresh i u); only = λ k. inl refl }

  pub walked_none : 8 ≤ f → Walked p n f t t 8 8 0 0
  walked_none h = record {
    from = omega arith;
    to = h;
    later = λ k _. refl;
    never = λ k z. z;
    left = omega (arith, b.all);
    apart = λ i j k u. absurd (fresh i u);
    done = λ i u. absurd (fresh i u);
    till = omega arith;
    ends = inl refl;
    zeros = λ _ k l g. absurd (omega arith);
    early = λ k _. refl;
    spent = λ d k l. ⊎_elim (λ z. z) (λ u. absurd (omega (arith, u.2, d.after u.0 u.1))) (b.table.only k);
    clear = λ _. refl;
  }

  module _ (m : List ℕ) (x e met acc : ℕ) (w : Walked p n f t m x e met acc) (l : x < f) where
    -- a byte at which no record starts
    pub walked_hole : byte m x ≡ 0 → Walked p n f t m (x + 1) e met (bit_or acc (byte p x))
    walked_hole z = record {
      from = omega (arith, w.from);
      to = omega arith;
      later = λ k h. w.later k (omega arith);
      never = w.never;
      left = w.left;
      apart = w.apart;
      done = w.done;
      till = omega (arith, w.till);
      ends = w.ends;
      zeros = λ o k g h out. ⊎_elim (λ s. rw s (or_zero acc (byte p x) o).1) (λ s. w.zeros (or_zero acc (byte p x) o).0 k g (omega (arith, s)) out) (same k x);
      early = w.early;
      spent = λ a k h. ⊎_elim (λ s. rw s z) (λ s. w.spent a k (omega (arith, s))) (same k x);
      clear = λ d. zero_or acc (byte p x) (w.clear d) (d.clear x w.from l (λ i h y. ⊎_elim
          (λ s. omega (arith, y.to, w.till, w.done i (h, w.spent d (off p i) s)))
          (λ s. let o : off p i ≡ x = omega (arith, y.from) in omega (arith, w.later x (omega arith), b.table.at b.all i h, ap (byte t) o, b.table.short i h))
          (side (off p i) x)));
    }

    -- the record that starts here
    pub here : 1 ≤ byte m x → (i : ℕ) × (i < n) × (off p i ≡ x) × (byte m x ≡ len p i)
    here s = ⊎_elim
        (λ z. absurd (omega (arith, w.later x (omega arith))))
        (λ u. (u.0, u.1, u.2, w.later x (omega arith) ∙ u.3))
        (b.table.only x)

    pub marking_hole : (u : List ℕ) → Marking p n m x u → Marking p n m (x + 1) u
    marking_hole u a = record { ahead = λ k h. a.ahead k (omega arith); places = a.places; only = a.only }

    -- its entry is taken back, and its place marked
    pub marking_record : (u v : List ℕ) → 1 ≤ byte m x → Marking p n m x u → Span u x (x + 8) (λ _. 255) v → Marking p n (set m x 0) (x + byte m x) v
    marking_record u v s a c = record {
      ahead = λ k h. c.above k (omega (arith, long)) ∙ a.ahead k (omega arith) ∙ sym (kept k (λ y. omega (arith, y, long)));
      places = λ i k q y. ⊎_elim
          (λ o. c.new k (omega (arith, y.from, o)) (omega (arith, y.to, o)))
          (λ o. let old = a.places i k (q.0, sym (kept (off p i) o) ∙ q.1) y in ⊎_elim (λ h. c.below k h ∙ old) (λ h. ⊎_elim (λ g. c.new k h g) (λ g. c.above k g ∙ old) (side k (x + 8))) (side k x))
          (same (off p i) x);
      only = λ k. ⊎_elim
          (λ h. ⊎_elim (λ y. inl (c.below k h ∙ y ∙ sym (kept k (λ z. omega (arith, z, h))))) (λ z. inr z) (a.only k))
          (λ h. ⊎_elim
          (λ g. inr (r.0, r.1, record { from = omega (arith, r.2); to = omega (arith, r.2) }))
          (λ g. ⊎_elim (λ y. inl (c.above k g ∙ y ∙ sym (kept k (λ z. omega (arith, z, g))))) (λ z. inr z) (a.only k))
          (side k (x + 8)))
          (side k x);
    }
      where
        r : (i : ℕ) × (i < n) × (off p i ≡ x) × (byte m x ≡ len p i)
        r = here s

        long : 9 ≤ byte m x
        long = omega (arith, r.3, b.table.short r.0 r.1)

        kept : (k : ℕ) → (k ≡ x → ⊥) → byte (set m x 0) k ≡ byte m k
        kept k y = get_or-set_other m x k 0 0 y

    -- its place or-ed
    pub signed_record : (signs v : ℕ) → 1 ≤ byte m x → Signed p n m signs → NoSign v ↔ NaturalAt p x → Signed p n (set m x 0) (bit_or signs v)
    signed_record signs v s g e = record {
      so = λ o i u. ⊎_elim
          (λ y. rw y (e.0 (or_no_sign signs v o).1))
          (λ y. g.so (or_no_sign signs v o).0 i (u.0, sym (get_or-set_other m x (off p i) 0 0 y) ∙ u.1))
          (same (off p i) x);
      back = λ a. let r = here s in no_sign_or signs v (g.back a) (e.1 (subst (NaturalAt p) r.2 (a r.0 r.1)));
    }

    pub walked_record : (q : List ℕ) → 1 ≤ byte m x → q ≡ set m x 0 → Walked p n f t q (x + byte m x) (x + byte m x) (met + 1) acc
    walked_record q s g = record {
      from = omega (arith, w.from);
      to = omega (arith, b.table.inside i₀ r.1, r.2, r.3);
      later = λ k h. kept k (λ y. omega arith) ∙ w.later k (omega arith);
      never = λ k z. ⊎_elim (λ y. rw y gone) (λ y. kept k y ∙ w.never k z) (same k x);
      left = rw g (omega (arith, entries_less m x s, w.left));
      apart = λ i j k u v y z. ⊎_elim
          (λ a. ⊎_elim (λ c. a ∙ sym c) (λ c. absurd (past j k c z (rw a at y))) (before j v))
          (λ a. ⊎_elim (λ c. absurd (past i k a y (rw c at z))) (λ c. w.apart i j k a c y z) (before j v))
          (before i u);
      done = λ i u. ⊎_elim (λ a. rw a (omega (arith, r.2, r.3))) (λ a. omega (arith, w.done i a, w.till)) (before i u);
      till = omega arith;
      ends = inr (i₀, r.1, omega (arith, r.2, r.3));
      zeros = λ o k h c out. ⊎_elim (λ y. w.zeros o k h y out) (λ y. absurd (out i₀ r.1 (within k y c))) (side k x);
      early = λ k h. kept k (λ y. omega (arith, y, w.from)) ∙ w.early k h;
      spent = λ a k h. ⊎_elim
          (λ y. rw y gone)
          (λ y. kept k y ∙ ⊎_elim (λ c. w.spent a k c) (λ c. w.later k c ∙ ⊎_elim
          (λ z. z)
          (λ u. absurd (y (sym u.2 ∙ ap (off p) (a.apart u.0 i₀ k u.1 r.1 (record { from = omega (arith, u.2); to = omega (arith, u.2, b.table.short u.0 u.1) }) (within k c h)) ∙ r.2)))
          (b.table.only k)) (side k x))
          (same k x);
      clear = w.clear;
    }
      where
        r : (i : ℕ) × (i < n) × (off p i ≡ x) × (byte m x ≡ len p i)
        r = here s

        i₀ : ℕ
        i₀ = r.0

        gone : byte q x ≡ 0
        gone = rw g (⊎_elim (λ h. get_or-set_same m x 0 0 h) (λ h. absurd (omega (arith, get_or-eq_default m 0 h))) (side x (length m)))

        kept : (k : ℕ) → (k ≡ x → ⊥) → byte q k ≡ byte m k
        kept k y = rw g (get_or-set_other m x k 0 0 y)

        -- a record that is met is this one or was met before
        before : (i : ℕ) → Met p n q i → (i ≡ i₀) ⊎ Met p n m i
        before i u = ⊎_elim (λ y. inl (b.table.starts b.all i i₀ u.0 r.1 (y ∙ sym r.2))) (λ y. inr (u.0, sym (kept (off p i) y) ∙ u.1)) (same (off p i) x)

        past : (i k : ℕ) → Met p n m i → In p i k → In p i₀ k → ⊥
        past i k u y z = omega (arith, w.done i u, w.till, y.to, z.from, r.2, r.3)

        within : (k : ℕ) → x ≤ k → k < x + byte m x → In p i₀ k
        within k h c = record { from = omega (arith, r.2, r.3); to = omega (arith, r.2, r.3) }

  module _ (m : List ℕ) (e met acc : ℕ) (w : Walked p n f t m f e met acc) where
    inside_still : Inside f m
    inside_still k h = w.never k (inside_of p t n f b.table k h)

    -- all met
    emptied : met ≡ n → Zero m
    emptied h = none_entries m (omega (arith, w.left))

    pub marked_all : (u : List ℕ) → Marking p n m f u → met ≡ n → Marked p n u
    marked_all u a h = record {
      places = λ i k l y. a.places i k (l, emptied h (off p i)) y;
      only = λ k. ⊎_elim (λ y. inl (y ∙ emptied h k)) (λ z. inr z) (a.only k);
    }

    -- each was met, so behind the header
    behind : met ≡ n → (i : ℕ) → i < n → 8 ≤ off p i
    behind h i l = ⊎_elim
        (λ y. absurd (omega (arith, w.early (off p i) y, emptied h (off p i), b.table.at b.all i l, b.table.short i l)))
        (λ y. y)
        (side (off p i) 8)

    pub laid_of : (signs : ℕ) → Signed p n m signs → 17 ≤ f → acc ≡ 0 → met ≡ n → e ≡ f → NoSign signs → Laid p n f
    laid_of signs g l z h s o = record {
      after = behind h;
      natural = λ i u. g.so o i (u, emptied h (off p i));
      apart = λ i j k u v. w.apart i j k (u, emptied h (off p i)) (v, emptied h (off p j));
      clear = w.zeros z;
      top = ⊎_elim (λ y. absurd (omega arith)) (λ u. (u.0, u.1, u.2 ∙ s)) w.ends;
    }

    pub met_all : Laid p n f → met ≡ n
    met_all d = omega (arith, w.left, entries_none m (λ k. ⊎_elim (w.spent d k) (inside_still k) (side k f)))

    pub end_top : Laid p n f → e ≡ f
    end_top d =
        let u = d.top in
        omega (arith, w.till, u.2, w.done u.0 (u.1, none_entries m (omega (arith, w.left, met_all d)) (off p u.0)))
