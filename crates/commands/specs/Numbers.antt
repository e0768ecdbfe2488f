-- Numbers as text: plain decimal, with - for negative ones. Assumes nothing.
use Rattle.std.specs.Prelude.{ℕ, zero, suc, ◌+◌, ◌*◌, ◌-◌, ◌/◌, ◌^◌, ◌≤◌, ◌<◌, ◌≡◌, Option, Some, None, Bool, true, false, cond, List, ◌∷◌, ltb, length, ℤ, pos, neg_ℤ, nat_abs}
use Rattle.std.specs.Int.Signed.{mag, lt_z}
use Rattle.ground.specs.Lists.{byte}
use Rattle.io.specs.Digits.{last_digits as digits}

-- the number that the first k digits of w write
unfoldable pub value : List ℕ → ℕ → ℕ
value w zero = 0
value w (suc k) = value w k * 10 + (byte w k - 48)

-- b is 0 to 9
pub record Digit (b : ℕ) : Type 0 where
  pub least : 48 ≤ b
  pub most : b ≤ 57

-- what the digit b is worth, or that it is none
abbrev pub Worth : ℕ → Option ℕ → Type 0
Worth b (Some d) = (b ≡ 48 + d) × (d < 10)
Worth b None = Digit b → ⊥

-- w is n in plain decimal
pub record Decimal (n : ℕ) (w : List ℕ) : Type 0 where
  pub some : 1 ≤ length w
  pub each : (k : ℕ) → k < length w → Digit (byte w k)
  pub is : value w (length w) ≡ n

-- how many decimal digits n has, if they are at most one more than f
unfoldable pub width : ℕ → ℕ → ℕ
width zero n = 1
width (suc f) n = cond (ltb n 10) 1 (suc (width f (n / 10)))

-- n in the fewest decimal digits
unfoldable pub decimal : ℕ → List ℕ
decimal n = digits 10 (width n n) n

-- a word is read as a number of 64 bits, or it is none
abbrev pub ReadsNumber : List ℕ → Option ℕ → Type 0
ReadsNumber w (Some n) = Decimal n w
ReadsNumber w None = (n : ℕ) → n < 2 ^ 64 → Decimal n w → ⊥

-- n, or -n
abbrev pub signed : Bool → ℕ → ℤ
signed false n = pos n
signed true n = neg_ℤ (pos n)

-- digits, or - and digits
abbrev pub marked : Bool → List ℕ → List ℕ
marked false w = w
marked true w = 45 ∷ w

-- w is z in plain decimal
pub record Integer (z : ℤ) (w : List ℕ) : Type 0 where
  pub minus : Bool
  pub digits : List ℕ
  pub size : ℕ
  pub text : w ≡ marked minus digits
  pub sized : Decimal size digits
  pub is : z ≡ signed minus size

-- z in the fewest digits, with - before a negative one
abbrev pub integer : ℤ → List ℕ
integer z = marked (lt_z z (pos 0)) (decimal (nat_abs z))

-- a word is read as a number from -most - 1 to most
abbrev pub ReadsSigned : List ℕ → ℕ → Option ℤ → Type 0
ReadsSigned w most (Some z) = Integer z w × (mag z ≤ most)
ReadsSigned w most None = (z : ℤ) → mag z ≤ most → Integer z w → ⊥
