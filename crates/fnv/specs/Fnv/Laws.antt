-- What the proof of `hash` sees of the definition. Assumes nothing.
use Rattle.std.specs.Prelude.{ℕ, ◌*◌, ◌%◌, ◌^◌, ◌≡◌, refl, List, [], ◌∷◌}
use Rattle.std.specs.Int.Bits.{bit_xor}
use Rattle.fnv.specs.Fnv.{fnv, each}

pub starts : (c : List ℕ) → fnv c ≡ each 2166136261 c
unfolding fnv
starts c = refl

pub ends : (h : ℕ) → each h [] ≡ h
unfolding each
ends h = refl

pub goes_on : (h b : ℕ) (c : List ℕ) → each h (b ∷ c) ≡ each (bit_xor h b * 16777619 % 2 ^ 32) c
unfolding each
goes_on h b c = refl
