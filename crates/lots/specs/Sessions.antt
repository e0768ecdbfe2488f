-- What a session keeps from line to line. Assumes nothing.
use Rattle.std.specs.Prelude.{◌≡◌, ℕ, ◌*◌, ◌<◌, ◌≤◌, Bool, true, false, cond, ◌⊎◌, List, [], length, take, ◌==◌, nat_le}
use Rattle.ground.specs.Ladder.{Answers}
use Rattle.store.specs.Demands.{ok}
use Rattle.store.specs.Tables.{Out, format_sized}
use Rattle.lots.specs.declared.Outcome.{Outcome}
use Rattle.lots.specs.declared.Outcome.TheVariants.{Silent, Unknown, Told, Changed, Listed, Format, Stopped}
use Rattle.lots.specs.declared.Session.{Session}
use Rattle.text_lines.specs.Reading.{ReadSoFar}
use Rattle.lots.specs.Known.{Known}

-- the store is the first bytes of the buffer s, and what is known of it holds
pub record SessionHolds (z : Session) (s : List ℕ) : Type 0 where
  pub within : z.len ≤ length s
  pub known : Known z.known (take z.len s)

-- a session whose line that is being read has room in the buffer p, of 4,096 bytes
pub record SessionReads (z : Session) (s p : List ℕ) : Type 0 where
  pub holds : SessionHolds z s
  pub fits : z.line.fill ≤ length p
  pub room : length p ≡ 4096

-- a session before its first line
pub record SessionBegins (len : ℕ) (known : Bool) (r : Session) : Type 0 where
  pub long : r.len ≡ len
  pub knows : r.known ≡ known
  pub quit : r.quit ≡ false
  pub line : (p : List ℕ) → ReadSoFar p r.line []

-- nothing has changed, and every answer could be written
abbrev pub Quiet : Session → Type 0
Quiet z = (z.changed ≡ false) × (z.stopped ≡ false)

-- the line has changed nothing so far, and its answer could be written
abbrev pub Leaves : Outcome → Type 0
Leaves Silent = Unit {0}
Leaves Unknown = Unit {0}
Leaves (Told x) = Unit {0}
Leaves (Listed n) = Unit {0}
Leaves (Format n size) = Unit {0}
Leaves (Changed x) = ⊥
Leaves Stopped = ⊥

-- the store and what is known of it, changes and stops, are the same
pub record Alike (z r : Session) : Type 0 where
  pub len : r.len ≡ z.len
  pub known : r.known ≡ z.known
  pub changed : r.changed ≡ z.changed
  pub stopped : r.stopped ≡ z.stopped

-- what was read is the same: of the line, and whether the line quit was
pub record AsRead (z r : Session) : Type 0 where
  pub line : r.line ≡ z.line
  pub quit : r.quit ≡ z.quit

-- a line begins
pub record NextLine (z r : Session) : Type 0 where
  pub line : (p : List ℕ) → ReadSoFar p r.line []
  pub quit : r.quit ≡ z.quit

-- a line's outcome taken into the session z: a change or a stop is marked
pub record After (z : Session) (o : Outcome) (r : Session) : Type 0 where
  pub len : r.len ≡ z.len
  pub known : r.known ≡ z.known
  pub read : AsRead z r
  pub quiet : Quiet r → Quiet z
  pub leaves : Quiet r → Leaves o

-- the line has changed the store
abbrev pub Changes : Outcome → Type 0
Changes (Changed x) = Unit {0}
Changes Silent = ⊥
Changes Unknown = ⊥
Changes (Told x) = ⊥
Changes (Listed n) = ⊥
Changes (Format n size) = ⊥
Changes Stopped = ⊥

-- what a line makes known of the store: nothing, or, where it has changed it, that it is accepted
pub record Learnt (z : Session) (o : Outcome) (r : Session) : Type 0 where
  pub len : r.len ≡ z.len
  pub read : AsRead z r
  pub changed : r.changed ≡ z.changed
  pub stopped : r.stopped ≡ z.stopped
  pub known : (r.known ≡ z.known) ⊎ Changes o

-- from z with the store s to r with the store t: where r is quiet, z was, and the store is as it was
pub record Kept (z : Session) (s : List ℕ) (r : Session) (t : List ℕ) : Type 0 where
  pub quiet : Quiet r → Quiet z
  pub same : Quiet r → t ≡ s
  pub long : Quiet r → r.len ≡ z.len
  pub holds : SessionHolds r t

-- how many bytes are lent for a format of n pages of a size: none where that is no store, or the room is less
unfoldable pub lent_for : ℕ → ℕ → ℕ → ℕ
lent_for room n size = cond (nat_le n 4098) (cond (nat_le size 16384) (cond (nat_le (n * size) room) (n * size) 0) 0) 0

-- how many pages a store of a larger page size has at most
unfoldable pub most_pages : ℕ → ℕ
most_pages size = cond (size == 4096) 1026 (cond (size == 16384) 4098 0)

-- n pages of a larger size would be a store, but the room is less
abbrev pub LacksRoom : ℕ → ℕ → ℕ → Type 0
LacksRoom room n size = (n ≤ most_pages size) × (room < n * size)

-- A format of n pages of a size: the call answers on so many of the buffer's bytes, whatever they held, and these are the store then, unless it is refused.
pub record FormatAsked (n size : ℕ) (z : Session) (s : List ℕ) (r : Session) (t : List ℕ) : Type 0 where
  pub len : ℕ
  pub within : len ≤ length s
  pub long : len ≡ lent_for (length s) n size
  pub answer : Out
  pub left : List ℕ
  pub made : Answers (format_sized size (take len s)) (answer, left)
  pub refused : ok answer ≡ false → (t ≡ s) × (r.len ≡ z.len)
  pub done : ok answer ≡ true → (take len t ≡ left) × (r.len ≡ len)

-- A format is due where it would clear nothing or anew is said, and the buffer does not lack room.
abbrev pub Due : ℕ → ℕ → Bool → Session → List ℕ → Type 0
Due n size anew z s = ((z.len ≡ 0) ⊎ (anew ≡ true)) × (LacksRoom (length s) n size → ⊥)

-- A format that a line asks: the call is made, or it is not due and the store is as it was.
abbrev pub FormatTold : ℕ → ℕ → Bool → Session → List ℕ → Session → List ℕ → Type 0
FormatTold n size anew z s r t = (Due n size anew z s × FormatAsked n size z s r t) ⊎ ((Due n size anew z s → ⊥) × (t ≡ s) × (r.len ≡ z.len))
