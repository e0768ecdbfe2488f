-- Free pages, found and counted by the pages' first bytes. Over any page size. Assumes nothing.
use mathlib.Core.Path.{◌≡◌, refl, sym, ap, ◌∙◌}
use mathlib.Core.Bool.{true, false, true≢false}
use mathlib.Core.List.{List, ◌∷◌}
use mathlib.Core.Logic.{⊎_elim}
use Prim.Native.Nat.{ℕ, zero, suc, ◌+◌, ◌-◌, ◌*◌, ◌≤◌, ◌<◌}
use native.Mathlib.Omega.{arith}
use native.Mathlib.Nat.{zero-add}
use native.Mathlib.Numerals.{add-one}
use lib.ListN.{length, get_or, drop}
use lib.Seq.{drop-cons, drop-length}
use Rattle.ground.specs.Lists.{byte}
use Rattle.ground.proofs.Sides.{side}
use Rattle.partition.specs.declared.Shape.{Shape}
use Rattle.store.specs.Pages.{size, pages, page, Page, free, bucket, read, reading, contents}
use Rattle.store.specs.Moves.{find, is_free, frees}
use Rattle.store.proofs.Accepted.Unique.{held, within as page_fits}
use Rattle.store.proofs.Showing.Showing.{pages_held}
use Rattle.store.proofs.Showing.Shown.{find_least}
use Rattle.store.proofs.Showing.Rooms.{find_free}
use Rattle.store.proofs.Paging.Depths.{kind_byte}

abbrev one : Page → ℕ
one free = 1
one (bucket k rs) = 0

frees_cons : (g : Page) (gs : List Page) → frees (g ∷ gs) ≡ one g + frees gs
frees_cons free gs = omega arith
frees_cons (bucket k rs) gs = omega arith

frees_step : (gs : List Page) (i : ℕ) → i < length gs → frees (drop i gs) ≡ one (get_or gs i free) + frees (drop (i + 1) gs)
frees_step gs i l = ap frees (drop-cons gs i free l) ∙ frees_cons (get_or gs i free) (drop (suc i) gs) ∙ ap (λ n. one (get_or gs i free) + frees (drop n gs)) (sym (add-one i))

pub frees_end : (gs : List Page) (i : ℕ) → i ≡ length gs → frees (drop i gs) ≡ 0
frees_end gs i e = ap (λ n. frees (drop n gs)) e ∙ ap frees (drop-length gs)

module _ (S : Shape) (s : List ℕ) (p : ℕ) (two : 2 ≤ p) (to : p < pages S s) where
  reads : get_or (contents S s) (p - 2) free ≡ reading (byte s (p * size S)) (page S s p)
  unfolding read
  reads = held S s p two to ∙ ap (λ b. reading b (page S s p)) (kind_byte S s p)

  pub free_page : byte s (p * size S) ≡ 0 → get_or (contents S s) (p - 2) free ≡ free
  free_page e = reads ∙ ap (λ b. reading b (page S s p)) e

  pub used_page : (byte s (p * size S) ≡ 0 → ⊥) → is_free (get_or (contents S s) (p - 2) free) ≡ false
  used_page n = ap is_free reads ∙ go (byte s (p * size S)) n
    where
      go : (b : ℕ) → (b ≡ 0 → ⊥) → is_free (reading b (page S s p)) ≡ false
      go zero e = absurd (e refl)
      go (suc b) e = refl

  there : p - 2 < length (contents S s)
  there = omega (arith, pages_held S s)

  next : p - 2 + 1 ≡ p + 1 - 2
  next = omega arith

  pub free_more : byte s (p * size S) ≡ 0 → frees (drop (p - 2) (contents S s)) ≡ 1 + frees (drop (p + 1 - 2) (contents S s))
  free_more e = frees_step (contents S s) (p - 2) there ∙ (λ i. one (free_page e i) + frees (drop (next i) (contents S s)))

  pub used_more : (byte s (p * size S) ≡ 0 → ⊥) → frees (drop (p - 2) (contents S s)) ≡ frees (drop (p + 1 - 2) (contents S s))
  used_more n =
      frees_step (contents S s) (p - 2) there ∙ ap (λ k. k + frees (drop (p - 2 + 1) (contents S s))) (go (get_or (contents S s) (p - 2) free) (used_page n))
      ∙ zero-add (frees (drop (p - 2 + 1) (contents S s))) ∙ ap (λ k. frees (drop k (contents S s))) next
    where
      go : (g : Page) → is_free g ≡ false → one g ≡ 0
      go free e = let z : ◌≡◌ {A = ℕ} 0 1 = cc in absurd (omega arith)
      go (bucket k rs) e = refl

-- a search from page 2 upward for the lowest free page, where one is free
module _ (S : Shape) (s : List ℕ) (some : 0 < frees (contents S s)) where
  -- it stays among the pages
  pub found_there : 2 + find is_free (contents S s) < pages S s
  found_there = omega (arith, (find_free (contents S s) some).0, pages_held S s)

  module _ (p : ℕ) (two : 2 ≤ p) (to : p ≤ 2 + find is_free (contents S s)) where
    within : p < pages S s
    within = omega (arith, found_there)

    -- and lies in the store
    pub page_there : p * size S + size S ≤ length s
    page_there = page_fits S s p within

    -- a page in use is passed
    pub passed : (byte s (p * size S) ≡ 0 → ⊥) → p + 1 ≤ 2 + find is_free (contents S s)
    passed n = ⊎_elim (λ l. omega arith) (λ l. absurd (here (omega arith))) (side p (2 + find is_free (contents S s)))
      where
        here : p - 2 ≡ find is_free (contents S s) → ⊥
        here e = let z : true ≡ false = sym (ap is_free (find_free (contents S s) some).1) ∙ ap (λ i. is_free (get_or (contents S s) i free)) (sym e) ∙ used_page S s p two within n in true≢false z

    -- a free page is the lowest
    pub lowest : byte s (p * size S) ≡ 0 → p ≡ 2 + find is_free (contents S s)
    lowest e = omega (arith, find_least is_free (contents S s) (p - 2) (omega (arith, within, pages_held S s)) (ap is_free (free_page S s p two within e)))
