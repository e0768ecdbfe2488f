-- Amounts added up by number: l i falls to the cell t i. Assumes nothing.
use Rattle.std.specs.Prelude.{◌≡◌, List, ℕ, ◌<◌, eqb, ltb, length, get_or}
use Rattle.ground.specs.Lists.{total}
use Rattle.store.specs.Moves.{pick}

module _ (t l : ℕ → ℕ) (n : ℕ) where
  -- what the first n give to cell v
  abbrev pub heap : ℕ → ℕ
  heap v = total (λ i. pick (eqb (t i) v) (l i) 0) n

  -- what the first n give to the cells below v
  abbrev pub below : ℕ → ℕ
  below v = total (λ i. pick (ltb (t i) v) (l i) 0) n

  -- m cells, each with its amount
  pub record Heaped (m : ℕ) (cells : List ℕ) : Type 0 where
    pub long : length cells ≡ m
    pub each : (v : ℕ) → v < m → get_or cells v 0 ≡ heap v
