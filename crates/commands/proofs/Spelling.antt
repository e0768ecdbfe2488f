-- A code's text is read from the front, byte after byte. Assumes nothing.
use Prim.Native.Nat.{ℕ, suc, ◌+◌, ◌*◌, ◌≤◌, ◌<◌}
use mathlib.Core.Path.{◌≡◌}
use mathlib.Core.List.{List, [], ◌∷◌, ◌++◌}
use native.Mathlib.Numerals.{add-one}
use native.Mathlib.Omega.{arith}
use lib.ListN.{length, take, drop, set}
use lib.Seq.{drop-cons, take-add, take-suc-set}
use Rattle.ground.specs.Lists.{byte}
use Rattle.commands.specs.Codes.{Plain, Hex, Spells, none, plain, escaped, Writes}
use Rattle.commands.specs.declared.Glyph.{Glyph}

pub together : {w c v d : List ℕ} → Spells w c → Spells v d → Spells (w ++ v) (c ++ d)
together none t = t
together (plain p s) t = plain p (together s t)
together (escaped x y s) t = escaped x y (together s t)

-- one and three bytes from i
from : (w : List ℕ) (i j : ℕ) → i < length w → j ≡ suc i → drop i w ≡ byte w i ∷ drop j w
from w i j h e = rw e (drop-cons w i 0 h)

from_one : (w : List ℕ) (i : ℕ) → i < length w → take 1 (drop i w) ≡ byte w i ∷ []
from_one w i h = rw (drop-cons w i 0 h)

from_three : (w : List ℕ) (i : ℕ) → i + 3 ≤ length w → take 3 (drop i w) ≡ byte w i ∷ byte w (i + 1) ∷ byte w (i + 2) ∷ []
from_three w i h =
    rw (from w i (i + 1) (omega arith) (omega arith), from w (i + 1) (i + 2) (omega arith) (omega arith), from w (i + 2) (i + 3) (omega arith) (omega arith))

pub of_plain : (w : List ℕ) (i : ℕ) → i < length w → Plain (byte w i) → Writes w i (record { byte = byte w i; size = 1 })
of_plain w i h p = record { within = omega arith; some = omega arith; spells = rw (from_one w i h) (plain p none) }

pub of_escaped : (w : List ℕ) (i x y : ℕ) → i + 3 ≤ length w → byte w i ≡ 37 → Hex (byte w (i + 1)) x → Hex (byte w (i + 2)) y → Writes w i (record { byte = x * 16 + y; size = 3 })
of_escaped w i x y h e a b = record { within = h; some = omega arith; spells = rw (from_three w i h, e) (escaped a b none) }

-- one byte more
pub more : (w out : List ℕ) (i n : ℕ) (g : Glyph) → Spells (take i w) (take n out) → Writes w i g → n < length out
    → Spells (take (i + g.size) w) (take (n + 1) (set out n g.byte))
more w out i n g s o h = rw (add-one n, take-suc-set out n g.byte h, take-add i g.size w) (together s o.spells)
