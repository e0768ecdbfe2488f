-- A page of a store, lent and given back: that page changes and nothing else. Over any page size. Assumes nothing.
use mathlib.Core.Path.{◌≡◌, refl, sym, ap, ◌∙◌}
use mathlib.Core.List.{List, ◌++◌}
use mathlib.Core.Logic.{⊎_elim}
use Prim.Native.Nat.{ℕ, ◌+◌, ◌-◌, ◌*◌, ◌/◌, ◌≤◌, ◌<◌}
use native.Mathlib.Omega.{arith}
use native.Mathlib.Nat.{mul-le-mul_right, suc-mul, zero-add}
use lib.ListN.{length, take, drop, set}
use Rattle.ground.specs.Lists.{byte, part, splice, tab}
use Rattle.ground.proofs.Sides.{side}
use Rattle.ground.proofs.Parts.{byte_part, lent_part, lent_back, splice_length, part_splice, part_splice_before, part_splice_after}
use Rattle.ground.proofs.Tables.{tab_set}
use Rattle.words.specs.Le.{le32}
use Rattle.words.proofs.Bytes.{le32_same}
use Rattle.partition.specs.declared.Shape.{Shape}
use Rattle.store.specs.Pages.{size, pages, page, set_page, dir_depth, entry_at, read, contents}
use Rattle.store.proofs.Accepted.Unique.{within}

-- the part s[a..e] that is lent is page p, and what comes back is the store with page p set
pub lent_page : (S : Shape) (s : List ℕ) (p a e : ℕ) → a ≡ p * size S → e ≡ a + size S → take (e - a) (drop a s) ≡ page S s p
unfolding page
lent_page S s p a e f g = lent_part s a e (size S) g ∙ ap (λ k. part s k (size S)) f

-- as s[a..e] with a = p * size and e = a + size
pub page_lent : (S : Shape) (s : List ℕ) (p : ℕ) → take (p * size S + size S - p * size S) (drop (p * size S) s) ≡ page S s p
page_lent S s p = lent_page S s p (p * size S) (p * size S + size S) refl refl

pub page_back : (S : Shape) (s ys : List ℕ) (p a e : ℕ) → a ≡ p * size S → e ≡ a + size S → take a s ++ (ys ++ drop (e - a) (drop a s)) ≡ set_page S s p ys
unfolding set_page
page_back S s ys p a e f g = lent_back s ys a e (size S) g ∙ ap (λ k. splice s k (size S) ys) f

-- pages apart are bytes apart
pub apart : (z p q : ℕ) → p < q → p * z + z ≤ q * z
apart z p q h = rw (← suc-mul) (mul-le-mul_right z h)

module _ (S : Shape) (s : List ℕ) (p : ℕ) (ys : List ℕ) (there : p < pages S s) (long : length ys ≡ size S) where
  fits : p * size S + size S ≤ length s
  fits = within S s p there

  pub set_long : length (set_page S s p ys) ≡ length s
  unfolding set_page
  set_long = splice_length s (p * size S) (size S) ys fits long

  pub set_pages : pages S (set_page S s p ys) ≡ pages S s
  set_pages = ap (λ n. n / size S) set_long

  pub set_same : page S (set_page S s p ys) p ≡ ys
  unfolding page set_page
  set_same = part_splice s (p * size S) (size S) ys fits long

  pub set_other : (q : ℕ) → (q ≡ p → ⊥) → page S (set_page S s p ys) q ≡ page S s q
  unfolding page set_page
  set_other q ne = ⊎_elim
      (λ h. part_splice_before s (p * size S) (size S) ys fits long (q * size S) (size S) (apart (size S) q p h))
      (λ h. part_splice_after s (p * size S) (size S) ys fits long (q * size S) (size S) (apart (size S) p q (omega (arith, ne))))
      (side q p)

  pub set_below : (k : ℕ) → k < p * size S → byte (set_page S s p ys) k ≡ byte s k
  unfolding set_page
  set_below k h =
      let e : part (splice s (p * size S) (size S) ys) 0 (p * size S) ≡ part s 0 (p * size S) = part_splice_before s (p * size S) (size S) ys fits long 0 (p * size S) (omega arith) in
      rw zero-add at (sym (byte_part (splice s (p * size S) (size S) ys) 0 (p * size S) k h) ∙ ap (λ g. byte g k) e ∙ byte_part s 0 (p * size S) k h)

  -- page 0 and page 1 stay, where p is a bucket's
  pub set_word : (k : ℕ) → k + 4 ≤ p * size S → le32 (set_page S s p ys) k ≡ le32 s k
  set_word k h = le32_same s (set_page S s p ys) k (λ i l. set_below (k + i) (omega arith))

  pub set_depth : 2 ≤ p → 20 ≤ size S → dir_depth (set_page S s p ys) ≡ dir_depth s
  set_depth h z = set_word 16 (omega (arith, mul-le-mul_right (size S) h))

  pub set_entry : 2 ≤ p → (i : ℕ) → 4 * i + 4 ≤ size S → entry_at S (set_page S s p ys) i ≡ entry_at S s i
  set_entry h i z = set_word (size S + 4 * i) (omega (arith, mul-le-mul_right (size S) h))

  -- what the pages hold
  pub set_contents : 2 ≤ p → contents S (set_page S s p ys) ≡ set (contents S s) (p - 2) (read ys)
  unfolding contents
  set_contents h =
      let f : ℕ → List ℕ = λ i. page S s (i + 2) in
      let g : ℕ → List ℕ = λ i. page S (set_page S s p ys) (i + 2) in
      let q : p - 2 + 2 ≡ p = omega arith in
      let here : read (g (p - 2)) ≡ read ys = ap (λ i. read (page S (set_page S s p ys) i)) q ∙ ap read set_same in
      ap (λ n. tab (λ i. read (g i)) (n - 2)) set_pages
      ∙ tab_set (λ i. read (f i)) (λ i. read (g i)) (pages S s - 2) (p - 2) (omega arith) (λ i l ne. ap read (set_other (i + 2) (λ e. ne (omega (arith, e)))))
      ∙ ap (set (tab (λ i. read (f i)) (pages S s - 2)) (p - 2)) here
