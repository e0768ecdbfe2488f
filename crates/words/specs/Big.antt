-- Bytes as one number, the first the highest. Assumes nothing.
use Rattle.std.specs.Prelude.{ℕ, zero, suc, ◌+◌, ◌*◌, List}
use Rattle.ground.specs.Lists.{byte}

-- the n bytes of s from k
unfoldable pub big : ℕ → List ℕ → ℕ → ℕ
big zero s k = zero
big (suc n) s k = 256 * big n s k + byte s (k + n)
