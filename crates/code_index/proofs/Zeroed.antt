-- Entries that rise step by step, zero entries and rests. Assumes nothing.
use mathlib.Core.Path.{◌≡◌, sym, ap, subst, ◌∙◌}
use mathlib.Core.Logic.{⊎_elim}
use mathlib.Core.List.{List, []}
use Prim.Native.Nat.{ℕ, ◌+◌, ◌-◌, ◌*◌, ◌/◌, ◌≤◌, ◌<◌}
use native.Mathlib.Omega.{arith}
use lib.ListN.{length, get_or-eq_default}
use lib.Seq.{ext_get_or}
use Rattle.ground.specs.Lists.{byte}
use Rattle.ground.proofs.Sides.{side}
use Rattle.words.specs.Codes.{Before}
use Rattle.words.specs.Zeros.{Zero}
use Rattle.words.specs.Moves.{Cleared}
use Rattle.code_index.specs.Entries.{code_entry, entry_start, whole_pages, entry_room, entry_in, RestsZero, Emptied}
use Rattle.code_index.specs.Sort.{RisingBy}
use Rattle.code_index.proofs.Places.{start_within}
use Rattle.code_index.proofs.Writing.{entry_byte, entry_size, entry_long, entry_pad, entry_length, entry_zeros}

-- the entry of no code is zero
pub none_zero : Zero (code_entry [])
none_zero k = ⊎_elim
    (λ (l : k < 64). entry_pad [] (omega arith) k (omega arith) l)
    (λ (l : 64 ≤ k). ⊎_elim
    (λ (m : k < 72). ⊎_elim
    (λ (n : 64 < k). entry_zeros [] (omega arith) k n m)
    (λ (n : k ≤ 64). let e : k ≡ 64 = omega arith in ap (byte (code_entry [])) e ∙ entry_length [] (omega arith))
    (side 64 k))
    (λ (m : 72 ≤ k). get_or-eq_default (code_entry []) 0 {n = k} (omega (arith, entry_long [] (omega arith))))
    (side k 72))
    (side k 64)

-- and 72 zeros are it
pub zero_none : (e : List ℕ) → length e ≡ 72 → Zero e → e ≡ code_entry []
zero_none e l z = ext_get_or 0 e (code_entry []) (l ∙ sym (entry_long [] (omega arith))) (λ k b. z k ∙ sym (none_zero k))

-- whole pages that are cleared
pub emptied : (x y : List ℕ) → Cleared x 0 (1024 * whole_pages x) y → Emptied x y
emptied x y w = record {
  ends = record { long = long; odd = λ k h. w.above k h };
  none = λ i _ h. let g : i < entry_room x = subst (λ (n : ℕ). i < 14 * (n / 1024)) long h in
      zero_none (entry_in y i) (entry_size y i h) (λ k. ⊎_elim
      (λ (l : k < 72). entry_byte y i k l ∙ zero (entry_start i + k) (omega (arith, start_within i (whole_pages x) g)))
      (λ (l : 72 ≤ k). get_or-eq_default (entry_in y i) 0 {n = k} (omega (arith, entry_size y i h)))
      (side k 72));
  rests = λ p k h a b. let g : p < whole_pages x = subst (λ (n : ℕ). p < n / 1024) long h in zero (1024 * p + k) (omega arith);
}
  where
    long : length y ≡ length x
    long = w.len

    zero : (k : ℕ) → k < 1024 * whole_pages x → byte y k ≡ 0
    zero k h = w.new k (omega arith) (omega arith)

-- ---- step by step

pub rise_more : (x : List ℕ) (i : ℕ) → 1 ≤ i → RisingBy 1 i x → Before (entry_in x (i - 1)) (entry_in x i) → RisingBy 1 (i + 1) x
rise_more x i l r b a h = ⊎_elim
    (λ (s : a + 1 < i). r a s)
    (λ (s : i ≤ a + 1). let e : i - 1 ≡ a = omega arith in let f : i ≡ a + 1 = omega arith in subst (λ (n : ℕ). Before (entry_in x a) (entry_in x n)) f (subst (λ (n : ℕ). Before (entry_in x n) (entry_in x i)) e b))
    (side (a + 1) i)

pub rise_at : (x : List ℕ) (n i : ℕ) → 1 ≤ i → i < n → RisingBy 1 n x → Before (entry_in x (i - 1)) (entry_in x i)
rise_at x n i l h r = let e : i - 1 + 1 ≡ i = omega arith in subst (λ (m : ℕ). Before (entry_in x (i - 1)) (entry_in x m)) e (r (i - 1) (omega arith))

pub none_more : (x : List ℕ) (n i : ℕ) → ((j : ℕ) → n ≤ j → j < i → entry_in x j ≡ code_entry []) → entry_in x i ≡ code_entry [] → (j : ℕ) → n ≤ j → j < i + 1 → entry_in x j ≡ code_entry []
none_more x n i f e j a b = ⊎_elim (λ (s : j < i). f j a s) (λ (s : i ≤ j). let q : i ≡ j = omega arith in subst (λ (m : ℕ). entry_in x m ≡ code_entry []) q e) (side j i)

-- the rests of the pages below p are zero
abbrev pub RestsBelow : List ℕ → ℕ → Type 0
RestsBelow x p = (q k : ℕ) → q < p → 1008 ≤ k → k < 1024 → byte x (1024 * q + k) ≡ 0

pub rests_more : (x : List ℕ) (p : ℕ) → RestsBelow x p → ((k : ℕ) → 1024 * p + 1008 ≤ k → k < 1024 * p + 1008 + 16 → byte x k ≡ 0) → RestsBelow x (p + 1)
rests_more x p f g q k l a b = ⊎_elim (λ (s : q < p). f q k s a b) (λ (s : p ≤ q). g (1024 * q + k) (omega arith) (omega arith)) (side q p)

pub rests_at : (x : List ℕ) (p : ℕ) → RestsZero x → p < whole_pages x → (k : ℕ) → 1024 * p + 1008 ≤ k → k < 1024 * p + 1008 + 16 → byte x k ≡ 0
rests_at x p f h k a b = let e : 1024 * p + (k - 1024 * p) ≡ k = omega arith in ap (byte x) (sym e) ∙ f p (k - 1024 * p) h (omega arith) (omega arith)
