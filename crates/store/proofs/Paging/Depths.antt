-- The largest depth, page after page. Assumes nothing.
use mathlib.Core.Path.{◌≡◌, refl, sym, ap, ◌∙◌}
use mathlib.Core.List.{List}
use Prim.Native.Nat.{ℕ, zero, suc, ◌+◌, ◌*◌, ◌-◌, ◌/◌, ◌≤◌, ◌<◌, max}
use native.Mathlib.Omega.{arith}
use native.Mathlib.Nat.{le_trans, le_antisymm, le-max_left, le-max_right, max-le, max_comm, add-zero, mul-div_cancel}
use lib.ListN.{length}
use Rattle.ground.specs.Lists.{byte, tab}
use Rattle.ground.proofs.Parts.{byte_part}
use Rattle.page.specs.Page.{depth}
use Rattle.partition.specs.declared.Shape.{Shape}
use Rattle.store.specs.Pages.{size, page, read, reading, Page, contents, depth_on, deepest_in}

max_assoc : (a b c : ℕ) → max a (max b c) ≡ max (max a b) c
max_assoc a b c =
    let l : ℕ = max b c in
    let r : ℕ = max a b in
    let x : max a l ≤ max r c = max-le (le_trans (le-max_left a b) (le-max_left r c)) (max-le (le_trans (le-max_right a b) (le-max_left r c)) (le-max_right r c)) in
    let y : max r c ≤ max a l = max-le (max-le (le-max_left a l) (le_trans (le-max_left b c) (le-max_right a l))) (le_trans (le-max_right b c) (le-max_right a l)) in
    le_antisymm x y

-- one page more
pub deepest_more : (f : ℕ → Page) (n : ℕ) → deepest_in (tab f (suc n)) ≡ max (deepest_in (tab f n)) (depth_on (f n))
unfolding tab deepest_in
deepest_more f zero = max_comm (depth_on (f zero)) 0
deepest_more f (suc n) = ap (max (depth_on (f zero))) (deepest_more (λ i. f (suc i)) n) ∙ (max_assoc (depth_on (f zero)) (deepest_in (tab (λ i. f (suc i)) n)) (depth_on (f (suc n))))

-- a byte of a page, in the store
pub page_byte : (S : Shape) (s : List ℕ) (p k : ℕ) → k < size S → byte (page S s p) k ≡ byte s (p * size S + k)
unfolding page
page_byte S s p k h = byte_part s (p * size S) (size S) k h

pub kind_byte : (S : Shape) (s : List ℕ) (p : ℕ) → byte (page S s p) 0 ≡ byte s (p * size S)
kind_byte S s p = page_byte S s p 0 (omega arith) ∙ ap (byte s) (add-zero (p * size S))

depth_by : (b : ℕ) (g : List ℕ) → (b ≡ 0 → depth_on (reading b g) ≡ 0) × ((b ≡ 0 → ⊥) → depth_on (reading b g) ≡ depth g)
depth_by zero g = ((λ e. refl), (λ n. absurd (n refl)))
depth_by (suc b) g = ((λ e. absurd (omega arith)), (λ n. refl))

-- a page's depth is its byte 1, unless byte 0 is zero
pub depth_free : (S : Shape) (s : List ℕ) (p : ℕ) → byte s (p * size S) ≡ 0 → depth_on (read (page S s p)) ≡ 0
unfolding read
depth_free S s p e = (depth_by (byte (page S s p) 0) (page S s p)).0 (kind_byte S s p ∙ e)

pub depth_used : (S : Shape) (s : List ℕ) (p : ℕ) → (byte s (p * size S) ≡ 0 → ⊥) → depth_on (read (page S s p)) ≡ byte s (p * size S + 1)
unfolding read
depth_used S s p n =
    (depth_by (byte (page S s p) 0) (page S s p)).1 (λ e. n (sym (kind_byte S s p) ∙ e)) ∙ page_byte S s p 1 (omega arith)

-- the pages from 2 below p
pub deepest_to : Shape → List ℕ → ℕ → ℕ
deepest_to S s p = deepest_in (tab (λ i. read (page S s (i + 2))) (p - 2))

pub deepest_none : (S : Shape) (s : List ℕ) → deepest_to S s 2 ≡ 0
unfolding deepest_to tab deepest_in
deepest_none S s = refl

-- and page p
pub deepest_next : (S : Shape) (s : List ℕ) (p : ℕ) → 2 ≤ p → deepest_to S s (p + 1) ≡ max (deepest_to S s p) (depth_on (read (page S s p)))
unfolding deepest_to
deepest_next S s p h =
    let f : ℕ → Page = λ i. read (page S s (i + 2)) in
    let e : p + 1 - 2 ≡ suc (p - 2) = omega arith in
    let g : p - 2 + 2 ≡ p = omega arith in
    ap (λ n. deepest_in (tab (λ i. read (page S s (i + 2))) n)) e ∙ deepest_more (λ i. read (page S s (i + 2))) (p - 2) ∙ ap (λ n. max (deepest_in (tab (λ i. read (page S s (i + 2))) (p - 2))) (depth_on (read (page S s n)))) g

pub deepest_all : (S : Shape) (s : List ℕ) (n : ℕ) → length s ≡ n * size S → deepest_to S s n ≡ deepest_in (contents S s)
unfolding deepest_to contents
deepest_all S s n e = let q : length s / size S ≡ n = ap (λ m. m / size S) e ∙ mul-div_cancel n (omega arith) in ap (λ m. deepest_in (tab (λ i. read (page S s (i + 2))) (m - 2))) (sym q)
