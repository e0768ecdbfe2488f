-- Laws of zeros gathered by `or`. Assumes nothing.
use mathlib.Core.Path.{◌≡◌, refl, sym, ◌∙◌}
use mathlib.Core.Logic.{⊎_elim}
use mathlib.Core.List.{List}
use Prim.Native.Nat.{ℕ, ◌+◌, ◌-◌, ◌≤◌, ◌<◌}
use native.Mathlib.Omega.{arith}
use lib.Bits.{bit_or, or_add_and, and_le_l, and_le_r}
use lib.ListN.{length, take, drop, get_or-eq_default, length-take}
use lib.Seq.{get_or-take, get_or-drop}
use Rattle.ground.specs.Lists.{byte}
use Rattle.ground.proofs.Sides.{side}
use Rattle.words.specs.Zeros.{Zero, ZeroFrom}

pub or_zero : (a b : ℕ) → bit_or a b ≡ 0 → (a ≡ 0) × (b ≡ 0)
or_zero a b h = omega (arith, or_add_and a b, and_le_l a b, and_le_r a b)

pub zero_or : (a b : ℕ) → a ≡ 0 → b ≡ 0 → bit_or a b ≡ 0
zero_or a b h k = omega (arith, or_add_and a b, and_le_l a b, and_le_r a b)

-- acc is zero exactly when the bytes from a up to i are
pub record Gathered (s : List ℕ) (a i acc : ℕ) : Type 0 where
  pub so : acc ≡ 0 → ZeroFrom s a i
  pub back : ZeroFrom s a i → acc ≡ 0

-- of no byte
pub gathered_none : (s : List ℕ) (a i : ℕ) → i ≤ a → Gathered s a i 0
gathered_none s a i m = record { so = λ _ k l h. absurd (omega arith); back = λ _. refl }

-- a run of zeros, and one more behind it
pub from_more : (s : List ℕ) (a i : ℕ) → ZeroFrom s a i → byte s i ≡ 0 → ZeroFrom s a (i + 1)
from_more s a i z e k l h = ⊎_elim (λ lt. z k l lt) (λ ge. let same : k ≡ i = omega arith in rw same e) (side k i)

pub gathered_more : {s : List ℕ} {a i acc : ℕ} → a ≤ i → Gathered s a i acc → Gathered s a (i + 1) (bit_or acc (byte s i))
gathered_more {s} {a} {i} {acc} m g = record {
  so = λ e. from_more s a i (g.so (or_zero acc (byte s i) e).0) (or_zero acc (byte s i) e).1;
  back = λ all. zero_or acc (byte s i) (g.back (λ k l h. all k l (omega arith))) (all i m (omega arith));
}

-- a run of zeros, and another that goes on from it
pub from_on : (s : List ℕ) (a b c : ℕ) → ZeroFrom s a b → ZeroFrom s b c → ZeroFrom s a c
from_on s a b c y z k l h = ⊎_elim (λ lt. y k l lt) (λ ge. z k ge h) (side k b)

-- past the end there are zeros only
pub zero_all : (s : List ℕ) (i : ℕ) → length s ≤ i → ((k : ℕ) → k < i → byte s k ≡ 0) → Zero s
zero_all s i h all k = ⊎_elim (λ lt. all k lt) (λ ge. let past : length s ≤ k = omega arith in get_or-eq_default s 0 past) (side k i)

-- zeros of a part
pub part_zero : (s : List ℕ) (a b : ℕ) → Zero (take (b - a) (drop a s)) → ZeroFrom s a b
part_zero s a b z k l h =
    let e : a + (k - a) ≡ k = omega arith in
    rw e at (sym (get_or-take (b - a) (drop a s) (k - a) 0 (omega arith) ∙ get_or-drop a s (k - a) 0) ∙ z (k - a))

pub zero_part : (s : List ℕ) (a b : ℕ) → ZeroFrom s a b → Zero (take (b - a) (drop a s))
zero_part s a b z k = ⊎_elim
    (λ lt. get_or-take (b - a) (drop a s) k 0 lt ∙ get_or-drop a s k 0 ∙ z (a + k) (omega arith) (omega arith))
    (λ ge. get_or-eq_default (take (b - a) (drop a s)) 0 (omega (arith, length-take (b - a) (drop a s))))
    (side k (b - a))
