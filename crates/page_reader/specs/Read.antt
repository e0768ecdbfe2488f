-- What a reader reads of a page, and the table of one of its rows. Assumes nothing.
use Rattle.std.specs.Prelude.{◌≡◌, List, [], ℕ, ◌+◌, ◌-◌, ◌≤◌, ◌<◌, length}
use Rattle.std.proofs.Props.{props}
use Rattle.std.proofs.Common.{arith, ap, subst}
use Rattle.ground.specs.Ladder.{Ladder, given, refuse}
use Rattle.partition.specs.Sizes.{shape_for}
use Rattle.page.specs.Page.{Slotted, count, frontier, off, len}
use Rattle.page_check.specs.Shared.{Keeps}
use Rattle.store.specs.Pages.{size, read, rows_on}
use Rattle.store.specs.Tables.{Out, refused_at, row_of}

-- a bucket page of any of the three lengths: its rules, no capital and shared hash bits included, local depth from 0 to the size's deepest
pub record SoundBucket (g : List ℕ) : Type 0 where
  pub long : length g ≡ size (shape_for (length g))
  pub keeps : Keeps (shape_for (length g)).deepest g

-- what a reader of page g reads: g if it is sound; nothing if it is free or breaks a rule
pub data Reads (g q : List ℕ) : Type 0 where
  whole : SoundBucket g → q ≡ g → Reads g q
  nothing : (SoundBucket g → ⊥) → q ≡ [] → Reads g q

-- what a reader may read
pub record Readable (q : List ℕ) : Type 0 where
  pub sound : 1 ≤ length q → SoundBucket q

-- the record that ends at the frontier is one
top-prop : (q : List ℕ) → Slotted q → IsProp ((i : ℕ) × (i < count q) × (off q i + len q i ≡ frontier q))
top-prop q s (i, h, e) (j, g, f) =
    let z : i ≡ j = s.apart i j (frontier q - 1) h g (record { from = omega (arith, e, s.short i h); to = omega (arith, e, s.short i h) }) (record { from = omega (arith, f, s.short j g); to = omega (arith, f, s.short j g) }) in
    let P : ℕ → Type 0 = λ k. (k < count q) × (off q k + len q k ≡ frontier q) in
    let one : IsProp (P i) = Prim.hlevel props in
    let same : (b : P i) → ◌≡◌ {A = (k : ℕ) × (k < count q) × (off q k + len q k ≡ frontier q)} (i, h, e) (i, b.0, b.1) = λ b. ap (λ x. (i, x.0, x.1)) (one (h, e) b) in
    subst (λ k. (b : P k) → ◌≡◌ {A = (k : ℕ) × (k < count q) × (off q k + len q k ≡ frontier q)} (i, h, e) (k, b.0, b.1)) z same (g, f)

-- so the rules of a page, and what a reader may read, have one proof at most
Slotted-prop : (q : List ℕ) → IsProp (Slotted q)
Slotted-prop q a b =
    let t = top-prop q a in
    let one : IsProp (Slotted q) = Prim.hlevel (t, props) in
    one a b

pub Readable-prop : (q : List ℕ) → IsProp (Readable q)
Readable-prop q = let s = Slotted-prop q in Prim.hlevel (s, props)

-- row n of what is read of page g, at the start of the output; 2: nothing is read; 9: n not below the number of rows
unfoldable pub nth_table : List ℕ → ℕ → List ℕ → Ladder (Out × List ℕ)
nth_table g n out =
    refuse (SoundBucket g → ⊥) (refused_at 2 0, out)
    (given (SoundBucket g)
    (row_of (rows_on (read g)) n out))
