-- What a page's rules say of one slot. Assumes nothing.
use Prim.Native.Nat.{ℕ, ◌+◌, ◌*◌, ◌-◌, ◌/◌, ◌%◌, ◌≤◌, ◌<◌}
use mathlib.Core.Path.{◌≡◌, ap}
use mathlib.Core.Logic.{⊎_elim}
use mathlib.Core.List.{List}
use native.Mathlib.Nat.{add-zero}
use native.Mathlib.Omega.{arith}
use lib.ListN.{length, take, drop}
use Rattle.ground.specs.Lists.{byte, part}
use Rattle.ground.proofs.Parts.{length_part, byte_part}
use Rattle.ground.proofs.Sides.{side}
use Rattle.words.specs.Codes.{Before}
use Rattle.words.proofs.Orders.{before_trans}
use Rattle.page.specs.Page.{Slotted, Belongs, count, frontier, word, off, len, kind, code}

-- slot i of a page, in numbers
pub record Lies (p : List ℕ) (i : ℕ) : Type 0 where
  pub short : 9 ≤ len p i
  pub long : len p i ≤ 72
  pub after : 8 ≤ off p i
  pub inside : off p i + len p i ≤ frontier p
  pub room : frontier p + 4 * count p ≤ length p
  pub most : length p ≤ 16384
  pub here : i < count p

pub lies : {p : List ℕ} (i : ℕ) → Slotted p → i < count p → Lies p i
lies i b h = record {
  short = b.short i h;
  long = b.long i h;
  after = b.after i h;
  inside = b.inside i h;
  room = b.room;
  most = b.most;
  here = h;
}

-- offset and length from slot i's word, 1 above the length
pub split_word : {p : List ℕ} (i w : ℕ) → Slotted p → i < count p → w ≡ word p i → (w % 16384 ≡ off p i) × (w / 16384 ≡ 16384 + len p i)
unfolding off len kind
split_word {p} i w b h e = (ap (λ x. x % 16384) e, omega (arith, b.kinds i h, e))

-- the part of a page that holds slot i's code
pub code_part : (p : List ℕ) (i o l : ℕ) → o ≡ off p i → l ≡ len p i → 8 ≤ l → take ((o + l) - (o + 8)) (drop (o + 8) p) ≡ code p i
unfolding code part
code_part p i o l e f h = let n : (o + l) - (o + 8) ≡ len p i - 8 = omega arith in λ k. take (n k) (drop (e k + 8) p)

-- it has a byte, which stands behind the place
pub code_first : {p : List ℕ} (i : ℕ) → Slotted p → i < count p → (1 ≤ length (code p i)) × (byte (code p i) 0 ≡ byte p (off p i + 8))
unfolding code
code_first {p} i b h =
    let l = lies i b h in
    (omega (arith, l, length_part p (off p i + 8) (len p i - 8) (omega (arith, l))), rw add-zero at (byte_part p (off p i + 8) (len p i - 8) 0 (omega (arith, l))))

-- a code that comes after all before slot s and before slot s's belongs there
pub belongs : {p c : List ℕ} → Slotted p → (s : ℕ) → s ≤ count p → ((i : ℕ) → i < s → Before (code p i) c) → (s < count p → Before c (code p s)) → Belongs p s c
belongs {p} {c} b s h lo hi = record {
  within = h;
  left = lo;
  right = λ i l m. ⊎_elim
      (λ lt. before_trans (hi (omega arith)) (b.ascending s i lt m))
      (λ ge. let e : i ≡ s = omega arith in rw e (hi (omega arith)))
      (side s i);
}
