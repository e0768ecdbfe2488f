-- A quoted text as its bytes. Assumes nothing.
use Rattle.std.specs.Prelude.{ℕ, List, [], ◌∷◌}
use Prim.Native.Char.{code}
use Prim.Native.String.{String, [] as nothing, ◌∷◌ as ◌then◌}

-- the bytes of a text of ASCII
abbrev pub text : String → List ℕ
text nothing = []
text (c then s) = code c ∷ text s
