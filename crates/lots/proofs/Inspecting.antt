-- What inspection says of a page's slots, as a line inspect tells them. Assumes nothing.
use Rattle.std.proofs.Common.{◌≡◌, ℕ, ◌+◌, ◌-◌, ◌*◌, ◌<◌, ◌≤◌, Bool, true, false, eqb, List, length, take, drop, sym, refl, ap, ◌∙◌, subst, inl, inr, true≢false, arith, length-drop, length-take}
use mathlib.Core.Option.{some}
use lib.ListN.{get_elem?}
use Rattle.ground.specs.Ladder.{Answers}
use Rattle.hash.specs.Fnv.{fnv}
use Rattle.words.specs.Le.{le32}
use Rattle.page.specs.Page.{count, row_at}
use Rattle.partition.specs.Partition.{Row, S1024}
use Rattle.partition.specs.Sizes.{size, either, S4096, S16384, shape_for, shape_of}
use Rattle.store.specs.Accepted.{Zero}
use Rattle.store.specs.Demands.{ok}
use Rattle.ground.specs.Lists.{part}
use Rattle.store.specs.Pages.{page, read, rows_on, as_row}
use Rattle.store.specs.Tables.{Out, refused_at, PageKeeps, inspect_table}
use Rattle.store.proofs.Accepted.Reading.{row_slot, count_used}
use Rattle.lots.specs.Obeys.{SlotAsked}
use Rattle.telling.specs.Told.{Shown}

-- the length of a store's page is that of its own shape
whole_by : (a b : Bool) → size (either a S4096 (either b S16384 S1024)) ≡ size (shape_for (size (either a S4096 (either b S16384 S1024))))
unfolding shape_for
whole_by true b = refl
whole_by false true = refl
whole_by false false = refl

pub page_whole : (s : List ℕ) → size (shape_of s) ≡ size (shape_for (size (shape_of s)))
unfolding shape_of shape_for
page_whole s = whole_by (eqb (le32 s 20) 4096) (eqb (le32 s 20) 16384)

-- page p of pages of z bytes, as it is lent
pub lent_whole : (s : List ℕ) (p z : ℕ) → p * z + z ≤ length s → z ≡ size (shape_of s)
    → length (take ((p * z + z) - p * z) (drop (p * z) s)) ≡ size (shape_for (length (take ((p * z + z) - p * z) (drop (p * z) s))))
lent_whole s p z l e =
    let k : length (take ((p * z + z) - p * z) (drop (p * z) s)) ≡ z = simp (length-take, length-drop) (omega arith) in
    subst (λ m. m ≡ size (shape_for m)) (sym (k ∙ e)) (page_whole s)

pub lent_page : (s : List ℕ) (p z : ℕ) → z ≡ size (shape_of s) → take ((p * z + z) - p * z) (drop (p * z) s) ≡ page (shape_of s) s p
unfolding page part
lent_page s p z e =
    let k : (p * z + z) - p * z ≡ z = omega arith in
    ap (λ m. take m (drop (p * z) s)) k ∙ ap (λ m. take m (drop (p * m) s)) e

-- ---- a page that is not free, by what is said of its first slot

module _ (g : List ℕ) (whole : length g ≡ size (shape_for (length g))) (used : Zero g → ⊥) where
  -- a bucket has a first row
  first : PageKeeps (shape_for (length g)) fnv g → ((r : Row) → get_elem? (rows_on (read g)) 0 ≡ some r → ⊥) → ⊥
  first (inl z) f = used z
  first (inr (b, d)) f = f (as_row (row_at g 0)) (row_slot g b.rules 0 b.rules.some)

  counts : PageKeeps (shape_for (length g)) fnv g → count g ≡ length (rows_on (read g))
  counts (inl z) = absurd (used z)
  counts (inr (b, d)) = sym (count_used g b.rules)

  -- a refusal is 2, for a rule that fails
  pub refused_two : (a : Out) (x : SlotAsked g 0 a) → ok a ≡ false → (PageKeeps (shape_for (length g)) fnv g → ⊥) × (a ≡ refused_at 2 0)
  unfolding inspect_table
  refused_two a x f = go x.answers
    where
      go : Answers (inspect_table (shape_for (length g)) fnv g 0 x.buffer) (a, x.after) → (PageKeeps (shape_for (length g)) fnv g → ⊥) × (a ≡ refused_at 2 0)
      go (inl y) = absurd (y.1.0 whole)
      go (inr (_, inl y)) = absurd (let h : length x.buffer < 64 = y.1.0 in omega (arith, h, x.long))
      go (inr (_, inr (_, inl y))) = (y.1.0, ap (λ r. r.0) y.1.1)
      go (inr (_, inr (_, inr (_, (_, inl (r, (e, q))))))) = absurd (true≢false (sym (ap (λ v. ok v.0) q) ∙ f))
      go (inr (_, inr (_, inr (_, (k, inr y))))) = absurd (first k y.0)

  -- else the page has as many rows as it says
  pub shown_all : (a : Out) (x : SlotAsked g 0 a) → ok a ≡ true → Shown g (count g)
  unfolding inspect_table
  shown_all a x t = go x.answers
    where
      go : Answers (inspect_table (shape_for (length g)) fnv g 0 x.buffer) (a, x.after) → Shown g (count g)
      go (inl y) = absurd (y.1.0 whole)
      go (inr (_, inl y)) = absurd (let h : length x.buffer < 64 = y.1.0 in omega (arith, h, x.long))
      go (inr (_, inr (_, inl y))) = absurd (true≢false (sym t ∙ ap (λ v. ok v.0) y.1.1))
      go (inr (_, inr (_, inr (_, (k, inl y))))) = record { whole = whole; keeps = k; rows = counts k }
      go (inr (_, inr (_, inr (_, (k, inr y))))) = absurd (first k y.0)
