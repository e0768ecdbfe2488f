-- A line taken apart at its first space. Assumes nothing.
use Prim.Native.Nat.{ℕ}
use mathlib.Core.Path.{◌≡◌, sym, subst}
use mathlib.Core.List.{List}
use Rattle.commands.specs.Lines.{Means}
use Rattle.commands.specs.declared.Command.{Command}

pub of_line : (l m k : List ℕ) (r : Command) → l ≡ m → Means m k r → Means l k r
of_line l m k r e h = subst (λ (x : List ℕ). Means x k r) (sym e) h
