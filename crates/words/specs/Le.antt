-- Numbers in a list of bytes, little-endian. Assumes nothing.
use Rattle.std.specs.Prelude.{ℕ, zero, suc, ◌+◌, ◌*◌, ◌/◌, ◌%◌, List, [], ◌∷◌}
use Rattle.ground.specs.Lists.{byte}

-- the 16 bits at k
unfoldable pub le16 : List ℕ → ℕ → ℕ
le16 p k = byte p k + 256 * byte p (k + 1)

-- the 32 bits at k
unfoldable pub le32 : List ℕ → ℕ → ℕ
le32 p k = le16 p k + 65536 * le16 p (k + 2)

-- n in k bytes
unfoldable pub bytes : ℕ → ℕ → List ℕ
bytes zero n = []
bytes (suc k) n = n % 256 ∷ bytes k (n / 256)
