-- The pages of a prefix, as their bytes show them. Over any page size. Assumes nothing.
use mathlib.Core.Path.{◌≡◌, refl, ap, ◌∙◌}
use mathlib.Core.List.{List}
use Prim.Native.Nat.{ℕ, zero, suc, ◌+◌, ◌-◌, ◌*◌, ◌/◌, ◌≤◌, ◌<◌}
use native.Mathlib.Omega.{arith}
use native.Mathlib.Nat.{mul-div_cancel, le-div_iff_mul-le, suc-mul}
use lib.Dec.{eqb}
use lib.ListN.{length, get_or}
use Rattle.ground.specs.Lists.{byte, tab}
use Rattle.ground.proofs.Parts.{length_part}
use Rattle.page.specs.Page.{Record, BucketPage, count, code, depth, row_at}
use Rattle.partition.specs.Bits.{top}
use Rattle.partition.specs.declared.Shape.{Shape}
use Rattle.store.specs.Pages.{size, pages, page, free, bucket, read, reading, contents}
use Rattle.store.specs.Moves.{within}
use Rattle.store.proofs.Accepted.Unique.{read_used, held}
use Rattle.store.proofs.Paging.Views.{apart}
use Rattle.store.proofs.Showing.Showing.{pages_held}
use Rattle.directory.specs.Directory.{SoundPage, free as unused, used, Settling}

pub read_free : (g : List ℕ) → byte g 0 ≡ 0 → read g ≡ free
unfolding read
read_free g e = ap (λ b. reading b g) e

-- a sound page that is in use is a bucket's
pub used_page : (S : Shape) {g : List ℕ} → SoundPage S g → (byte g 0 ≡ 0 → ⊥) → BucketPage g
used_page S (unused z) n = absurd (n (z 0))
used_page S (used b d) n = b

pub used_shallow : (S : Shape) {g : List ℕ} → SoundPage S g → BucketPage g → depth g ≤ S.deepest
used_shallow S (unused z) b = absurd (omega (arith, z 0, b.rules.one))
used_shallow S (used b d) n = d

within_tab : (h : List ℕ → ℕ) (j v k : ℕ) (f : ℕ → Record) (n : ℕ) → 1 ≤ n → within h j v (bucket k (tab f n)) ≡ eqb (top j (h (f 0).code)) v
unfolding tab
within_tab h j v k f zero l = absurd (omega arith)
within_tab h j v k f (suc n) l = refl

-- a bucket page is within a prefix by its first code
pub within_used : (h : List ℕ → ℕ) (j v : ℕ) (g : List ℕ) → BucketPage g → within h j v (read g) ≡ eqb (top j (h (code g 0))) v
within_used h j v g b = ap (within h j v) (read_used g b) ∙ within_tab h j v (depth g) (row_at g) (count g) b.some

-- page p has the size's bytes
pub page_whole : (S : Shape) (s : List ℕ) (p : ℕ) → p * size S + size S ≤ length s → length (page S s p) ≡ size S
unfolding page
page_whole S s p l = length_part s (p * size S) (size S) l

-- a page that lies in the store is one of its pages
pub page_below : (S : Shape) (s : List ℕ) (p : ℕ) → p * size S + size S ≤ length s → p < pages S s
page_below S s p l = (le-div_iff_mul-le {k = size S} {x = suc p} {y = length s} (omega arith)).1 (rw suc-mul l)

-- ---- page after page

module _ (S : Shape) (s : List ℕ) (n : ℕ) (P : Settling S s n) where
  pub many : pages S s ≡ n
  many = ap (λ m. m / size S) P.long ∙ mul-div_cancel n (omega arith)

  pub page_at : (p : ℕ) → 2 ≤ p → p < n → get_or (contents S s) (p - 2) free ≡ read (page S s p)
  page_at p a b = held S s p a (omega (arith, many))

  pub listed : length (contents S s) ≡ n - 2
  listed = pages_held S s ∙ ap (λ m. m - 2) many

  pub page_there : (p : ℕ) → p < n → p * size S + size S ≤ length s
  page_there p b = omega (arith, P.long, apart (size S) p n b)
