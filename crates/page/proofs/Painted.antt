-- The three writes of an insertion, seen from the page before. Assumes nothing.
use Prim.Native.Nat.{ℕ, ◌+◌, ◌*◌, ◌-◌, ◌≤◌, ◌<◌}
use mathlib.Core.Path.{◌≡◌, ◌∙◌}
use mathlib.Core.List.{List}
use native.Mathlib.Omega.{arith}
use lib.ListN.{length}
use Rattle.ground.specs.Lists.{byte, part}
use Rattle.words.specs.Le.{le32}
use Rattle.words.proofs.Bytes.{le32_above}
use Rattle.ground.proofs.Parts.{part_same}
use Rattle.page.specs.Page.{slot_at, word, count, frontier, free}
use Rattle.page.specs.Steps.{Recorded, Opened, Headed, Insertable}

-- q against p: the header, the bytes that stay, the record at p's frontier and the slots
pub record Painted (p : List ℕ) (s : ℕ) (c pl q : List ℕ) : Type 0 where
  pub len : length q ≡ length p
  pub low : (k : ℕ) → k < 2 → byte q k ≡ byte p k
  pub counted : count q ≡ count p + 1
  pub fronted : frontier q ≡ frontier p + 8 + length c
  pub freed : free q ≡ free p - (12 + length c)
  pub kept : (k : ℕ) → 8 ≤ k → k < frontier p → byte q k ≡ byte p k
  pub gap : (k : ℕ) → frontier p + 8 + length c ≤ k → k + 4 * (count p + 1) < length p → byte q k ≡ byte p k
  pub placed : part q (frontier p) 8 ≡ pl
  pub coded : part q (frontier p + 8) (length c) ≡ c
  pub lower : (i : ℕ) → i < s → word q i ≡ word p i
  pub new : word q s ≡ frontier p + 16384 * (8 + length c) + 268435456
  pub upper : (i : ℕ) → s ≤ i → i < count p → word q (i + 1) ≡ word p i

-- slot i in a list as long, seen by its place
pub word_at : (p q : List ℕ) (i x : ℕ) → length q ≡ length p → le32 q (slot_at p i) ≡ x → word q i ≡ x
unfolding word
word_at p q i x e h = rw e h

pub painted : {p q₁ q₂ q c pl : List ℕ} {s : ℕ} → Insertable p s c pl
    → Recorded p (frontier p) pl c q₁
    → Opened q₁ (count p) s (frontier p + 16384 * (8 + length c) + 268435456) q₂
    → Headed q₂ (count p + 1) (frontier p + 8 + length c) (free p - (12 + length c)) q
    → Painted p s c pl q
unfolding word
painted {p} {q₁} {q₂} {q} {c} {pl} {s} I a b d =
    let l₁ : length q₁ ≡ length p = a.old.len in
    let l₂ : length q₂ ≡ length q₁ = b.old.len in
    let l₃ : length q ≡ length q₂ = d.old.len in
    let e : length q ≡ length p = l₃ ∙ l₂ ∙ l₁ in
    let e₂ : length q₂ ≡ length p = l₂ ∙ l₁ in
    let f8 : 8 ≤ frontier p = I.page.start in
    let room : frontier p + 8 + length c + 4 * (count p + 1) ≤ length p = I.room in
    let sn : s ≤ count p = I.belongs.within in
    record {
      len = e;
      low = λ k h. d.old.below k h ∙ b.old.below k (omega arith) ∙ a.old.below k (omega arith);
      counted = d.counted;
      fronted = d.fronted;
      freed = d.freed;
      kept = λ k h g. d.old.above k (omega arith) ∙ b.old.below k (omega arith) ∙ a.old.below k (omega arith);
      gap = λ k h g. d.old.above k (omega arith) ∙ b.old.below k (omega arith) ∙ a.old.above k (omega arith);
      placed = part_same q₁ q (frontier p) 8 (omega arith) (omega arith) (λ i g h. d.old.above i (omega arith) ∙ b.old.below i (omega arith)) ∙ a.placed;
      coded = part_same q₁ q (frontier p + 8) (length c) (omega arith) (omega arith) (λ i g h. d.old.above i (omega arith) ∙ b.old.below i (omega arith)) ∙ a.coded;
      lower = λ i h. word_at p q i (word p i) e
          (le32_above (slot_at p i) d.old (omega arith) ∙ le32_above (slot_at p i) b.old (omega arith) ∙ le32_above (slot_at p i) a.old (omega arith));
      new = word_at p q s _ e (le32_above (slot_at p s) d.old (omega arith) ∙ rw e₂ at b.new);
      upper = λ i h g. word_at p q (i + 1) (word p i) e
          (le32_above (slot_at p (i + 1)) d.old (omega arith) ∙ rw (e₂, l₁) at (b.moved i h g) ∙ le32_above (slot_at p i) a.old (omega arith));
    }
