-- What the check's passes answer. Assumes nothing.
use Rattle.std.specs.Prelude.{◌≡◌, List, [], ℕ, ◌≤◌, ◌<◌, Option, Some, None, Result, Ok, Err}
use Rattle.partition.specs.declared.Shape.{Shape}
use Rattle.store.specs.declared.Refusal.{Refusal}
use Rattle.store.specs.declared.Refusal.TheVariants.{BadPage}
use Rattle.store.specs.Pages.{pages}
use Rattle.store.specs.Demands.{Below}
use Rattle.store.specs.Accepted.{Page0From, in_turn, Every, Stops, Accepted, Broken}

-- of the pages from a on, up to n, p is the first that breaks the rule, or p is n
pub record FirstFrom (a n : ℕ) (Keeps : ℕ → Type 0) (p : ℕ) : Type 0 where
  pub within : p ≤ n
  pub start : a ≤ p
  pub before : (q : ℕ) → q < p → a ≤ q → Keeps q
  pub bad : p < n → Keeps p → ⊥

-- the first page from 2 up to n that does not keep; none where each does
abbrev pub FirstBad : ℕ → (ℕ → Type 0) → Option ℕ → Type 0
FirstBad n Keeps (Some p) = (p < n) × FirstFrom 2 n Keeps p
FirstBad n Keeps None = Below n Keeps

-- the page at which the check by the old rules stops, page 0 zero from an offset on; none of a store that keeps them
abbrev pub JudgedFrom : ℕ → Shape → (List ℕ → ℕ) → List ℕ → Option ℕ → Type 0
JudgedFrom zeros S h s (Some p) = (p < pages S s) × Stops (in_turn S h s (Page0From zeros S s) []) p
JudgedFrom zeros S h s None = Every (in_turn S h s (Page0From zeros S s) [])

-- zero from 24 on, as the old rules have it
abbrev pub JudgedBefore : Shape → (List ℕ → ℕ) → List ℕ → Option ℕ → Type 0
JudgedBefore S h s p = JudgedFrom 24 S h s p

-- the page at which the check stops; none of an accepted store
abbrev pub Judged : Shape → (List ℕ → ℕ) → List ℕ → Option ℕ → Type 0
Judged S h s (Some p) = (p < pages S s) × Broken S h s p
Judged S h s None = Accepted S h s

-- 2, with the page at which the check stops; or the store is accepted
abbrev pub CheckSays : Shape → (List ℕ → ℕ) → List ℕ → Result Unit Refusal → Type 0
CheckSays S h s (Err r) = (p : ℕ) × (r ≡ BadPage p) × Broken S h s p
CheckSays S h s (Ok u) = Accepted S h s
