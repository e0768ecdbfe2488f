-- Laws of what a reader reads, and of the table of one row. Assumes nothing.
use mathlib.Core.Path.{◌≡◌, refl, ap, subst, ◌∙◌}
use mathlib.Core.Bool.{Bool}
use mathlib.Core.List.{List, [], ◌∷◌, ◌++◌}
use mathlib.Core.Logic.{◌⊎◌, inl, inr, ⊎_elim}
use Prim.Native.Nat.{ℕ, ◌+◌, ◌-◌, ◌≤◌, ◌<◌, min}
use native.Mathlib.Omega.{arith}
use lib.ListN.{length, drop, length-append}
use Rattle.ground.specs.Says.{Says}
use Rattle.ground.proofs.Tests.{says_same, none_some}
use Rattle.ground.specs.Ladder.{Answers}
use Rattle.ground.proofs.Sides.{side}
use Rattle.words.specs.Le.{le16}
use Rattle.words.specs.Zeros.{Zero}
use Rattle.hash.specs.Fnv.{fnv}
use Rattle.page.specs.Page.{Slotted, count, row_at}
use Rattle.page.specs.Page as Page
use Rattle.page.specs.declared.Place.{Place}
use Rattle.page.specs.Places.{place_from}
use Rattle.partition.specs.declared.Shape.{Shape}
use Rattle.partition.specs.Sizes.{shape_for}
use Rattle.partition.proofs.Sizes.{sized_for}
use Rattle.store.specs.Pages.{size, read, as_row, rows_on}
use Rattle.page_check.specs.Shared.{Keeps}
use Rattle.store.specs.Tables.{Out, PageSize, refused, refused_at, row, row_of, PageKeeps, inspect_table}
use Rattle.store.proofs.Accepted.OwnSize.{is_size}
use Rattle.store.proofs.Accepted.Reading.{row_slot, row_past, row_free}
use Rattle.page_reader.specs.Read.{SoundBucket, Reads, whole, nothing, Readable, nth_table}

pub count_none : count [] ≡ 0
unfolding le16
count_none = refl

-- a page of one of the three lengths is a sound bucket where it keeps the rules up to its size's depth
pub sound_by : (g : List ℕ) (z : Shape) (r : Bool) → z ≡ shape_for (length g) → PageSize (length g) → Says r (Keeps z.deepest g) → Says r (SoundBucket g)
sound_by g z r e p s =
    says_same r (subst (λ S. Says r (Keeps S.deepest g)) e s) (λ k. record { long = is_size (length g) p; keeps = k }) (λ x. x.keeps)

-- nothing is no page
pub unsound : (q : List ℕ) → length q ≡ 0 → SoundBucket q → ⊥
unsound q e s = omega (arith, s.long, (sized_for (length q)).least)

-- where a row is read there is a page
pub at_row : (q : List ℕ) (k : ℕ) → Readable q → k < count q → SoundBucket q
at_row [] k r h = absurd (omega (arith, count_none))
at_row (x ∷ q) k r h = r.sound (omega arith)

pub slotted : (q : List ℕ) → SoundBucket q → Slotted q
slotted q s = s.keeps.rules.rules

pub row_slotted : {q : List ℕ} {k : ℕ} → Readable q → k < count q → Slotted q
row_slotted {q} {k} r h = slotted q (at_row q k r h)

pub few : (q : List ℕ) → Readable q → count q ≤ 4096
few [] r = omega (arith, count_none)
few (x ∷ q) r = let b = slotted (x ∷ q) (r.sound (omega arith)) in omega (arith, b.room, b.most)

-- a row is no refusal
unanswered : {m k : ℕ} {p : Place} → row m p ≡ refused k → ⊥
unanswered e = let z : ◌≡◌ {A = ℕ} 0 1 = cc in omega arith

unanswered' : {m k j : ℕ} {p : Place} → row m p ≡ refused_at k j → ⊥
unanswered' e = let z : ◌≡◌ {A = ℕ} 0 1 = cc in omega arith

module _ (g : List ℕ) (n : ℕ) (out : List ℕ) where
  pub nth_none : (SoundBucket g → ⊥) → Answers (nth_table g n out) (refused_at 2 0, out)
  unfolding nth_table
  nth_none h = inl (tt, (h, refl))

  pub nth_past : SoundBucket g → count g ≤ n → Answers (nth_table g n out) (refused 9, out)
  unfolding nth_table
  nth_past s h = inr ((λ _ f. f s), (s, inr ((λ r e. none_some (row_past g s.keeps.rules n h) e), refl)))

  pub nth_row : SoundBucket g → n < count g → (m : ℕ) → m ≡ length (Page.code g n) → (p : Place) → p ≡ place_from (Page.place g n) → (out' : List ℕ) → out' ≡ Page.code g n ++ drop (length (Page.code g n)) out
      → Answers (nth_table g n out) (row m p, out')
  unfolding nth_table
  nth_row s h m em p ep out' eo = inr (
    (λ _ f. f s),
    (s, inl (as_row (row_at g n), (row_slot g s.keeps.rules n h, (λ i. (row (em i) (ep i), eo i))))),
  )

  -- past the rows it is as at their end: k is n, or the end where n is past it
  pub nth_near : (z k : ℕ) → z ≡ 0 → k ≡ z + min (count g - z) n → (r : Out × List ℕ) → Answers (nth_table g k out) r → Answers (nth_table g n out) r
  unfolding nth_table
  nth_near z k e f r (inl x) = inl x
  nth_near z k e f r (inr x) = inr ((λ _ u. u x.1.0), (x.1.0, go (side n (count g)) x.1.1))
    where
      go : (n < count g) ⊎ (count g ≤ n) → Answers (row_of (rows_on (read g)) k out) r → Answers (row_of (rows_on (read g)) n out) r
      go (inl l) a = let q : k ≡ n = omega arith in rw q at a
      go (inr l) (inl y) = let b : count g ≤ k = omega arith in absurd (none_some (row_past g x.1.0.keeps.rules k b) y.1.0)
      go (inr l) (inr y) = inr ((λ s b. none_some (row_past g x.1.0.keeps.rules n l) b), y.1)

-- what is read of page g may be read, and its row n is g's
pub reads_readable : {g q : List ℕ} → Reads g q → Readable q
reads_readable (whole s e) = record { sound = λ _. rw e s }
reads_readable (nothing n e) = record { sound = λ h. absurd (let z : 1 ≤ 0 = rw e at h in omega arith) }

pub reads_nth : {g q : List ℕ} → Reads g q → (n : ℕ) (out : List ℕ) (r : Out × List ℕ) → Answers (nth_table q n out) r → Answers (nth_table g n out) r
unfolding nth_table
reads_nth (whole s e) n out r a = rw e at a
reads_nth {g} {q} (nothing u e) n out r (inl x) = inl (tt, (u, x.1.1))
reads_nth {g} {q} (nothing u e) n out r (inr x) = absurd (unsound q (ap length e) x.1.0)

-- ---- inspection

module _ (g : List ℕ) (n : ℕ) (out : List ℕ) where
  abbrev S : Shape
  S = shape_for (length g)

  pub inspect_length : (length g ≡ size S → ⊥) → Answers (inspect_table S fnv g n out) (refused 1, out)
  unfolding inspect_table
  inspect_length h = inl (tt, (h, refl))

  -- the code that is given fits the output
  pub inspect_fits : (m : ℕ) (p : Place) (out' : List ℕ) → Answers (inspect_table S fnv g n out) (row m p, out') → m ≤ length out'
  unfolding inspect_table
  inspect_fits m p out' (inl x) = absurd (unanswered (ap (λ r. r.0) x.1.1))
  inspect_fits m p out' (inr (_, inl x)) = absurd (unanswered (ap (λ r. r.0) x.1.1))
  inspect_fits m p out' (inr (_, inr (_, inl x))) = absurd (unanswered' (ap (λ r. r.0) x.1.1))
  inspect_fits m p out' (inr (_, inr (_, inr (_, (_, inr x))))) = absurd (unanswered (ap (λ r. r.0) x.1))
  inspect_fits m p out' (inr (_, inr (_, inr (_, (_, inl (r, (_, e))))))) =
      let a : row m p ≡ row (length r.code) (place_from r.place) = ap (λ r. r.0) e in
      let b : m ≡ length r.code = cc in
      let c : length out' ≡ length r.code + length (drop (length r.code) out) = ap (λ r. length r.1) e ∙ length-append r.code (drop (length r.code) out) in
      omega arith

  module _ (long : length g ≡ size S) where
    pub inspect_short : length out < 64 → Answers (inspect_table S fnv g n out) (refused 8, out)
    unfolding inspect_table
    inspect_short h = inr ((λ _ f. f long), inl (tt, (h, refl)))

    module _ (room : 64 ≤ length out) where
      -- a free page has no rows
      pub inspect_free : Zero g → Answers (inspect_table S fnv g n out) (refused 9, out)
      unfolding inspect_table
      inspect_free z = inr ((λ _ f. f long), inr ((λ _ l. omega arith), inr ((λ _ f. f (inl z)), (inl z, inr ((λ r e. none_some (row_free g z n) e), refl)))))

      -- another is read
      pub inspect_read : (Zero g → ⊥) → (r : Out × List ℕ) → Answers (nth_table g n out) r → Answers (inspect_table S fnv g n out) r
      unfolding nth_table inspect_table
      inspect_read u r (inl x) = inr ((λ _ f. f long), inr ((λ _ l. omega arith), inl (tt, (⊎_elim u (λ b. x.1.0 (record { long = long; keeps = record { rules = b.0.rules; folded = b.0.folded; deep = b.1; share = b.0.share } })), x.1.1))))
      inspect_read u r (inr x) =
          let s = x.1.0.keeps in
          let k : PageKeeps S fnv g = inr (record { rules = s.rules; folded = s.folded; share = s.share }, s.deep) in
          inr ((λ _ f. f long), inr ((λ _ l. omega arith), inr ((λ _ f. f k), (k, x.1.1))))
