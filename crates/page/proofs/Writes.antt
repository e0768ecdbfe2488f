-- The writes to a page, put together from those of `words`. Assumes nothing.
use Prim.Native.Nat.{ℕ, ◌+◌, ◌*◌, ◌-◌, ◌≤◌, ◌<◌}
use mathlib.Core.Path.{◌≡◌, ◌∙◌}
use mathlib.Core.List.{List}
use native.Mathlib.Omega.{arith}
use lib.ListN.{length}
use Rattle.ground.specs.Lists.{byte, part}
use Rattle.words.specs.Moves.{Put16, Put32, Copied, MovedDown, MovedUp, Cleared}
use Rattle.words.proofs.Bytes.{frame_join, le16_below, le32_below, le32_moved, copied_part}
use Rattle.ground.proofs.Parts.{part_same}
use Rattle.page.specs.Page.{slot_at, word}
use Rattle.page.specs.Steps.{Recorded, Opened, Headed, Closed}

pub recorded : {p q r pl c : List ℕ} {f : ℕ} → length pl ≡ 8 → f + 8 + length c ≤ length p → Copied p f pl q → Copied q (f + 8) c r → Recorded p f pl c r
recorded {p} {q} {r} {pl} {c} {f} e h a b =
    let lq : length q ≡ length p = a.old.len in
    let lr : length r ≡ length q = b.old.len in
    let old_place : part q f 8 ≡ pl = rw e at (copied_part pl a (omega arith)) in
    record {
      old = frame_join f (8 + length c) a.old b.old (omega arith) (omega arith) (omega arith) (omega arith);
      placed = part_same q r f 8 (omega arith) (omega arith) (λ i l m. b.old.below i (omega arith)) ∙ old_place;
      coded = copied_part c b (omega arith);
    }

-- a shifted byte, by its own index
shifted_at : {p q : List ℕ} {k n : ℕ} → MovedDown p k n q → (x y : ℕ) → k ≤ x → x < k + n → y ≡ x + 4 → byte q x ≡ byte p y
shifted_at {p} {q} {k} {n} w x y l m e =
    let ex : k + (x - k) ≡ x = omega arith in
    rw (ex, ← e) at (w.new (x - k) (omega arith))

pub opened : {p q r : List ℕ} {n s w : ℕ} → s ≤ n → 4 * (n + 1) ≤ length p → MovedDown p (slot_at p n) (4 * (n - s)) q → Put32 q (slot_at p s) w r → Opened p n s w r
unfolding word
opened {p} {q} {r} {n} {s} {w} h l a b =
    let lq : length q ≡ length p = a.old.len in
    let lr : length r ≡ length q = b.old.len in
    let e : length r ≡ length p = lr ∙ lq in
    record {
      old = frame_join (slot_at p n) (4 * (n + 1 - s)) a.old b.old (omega arith) (omega arith) (omega arith) (omega arith);
      new = rw e b.val;
      moved = λ i g k. rw e (le32_below (slot_at p (i + 1)) b.old (omega arith)
          ∙ le32_moved p q (slot_at p (i + 1)) (slot_at p i) (λ j m. shifted_at a (slot_at p (i + 1) + j) (slot_at p i + j) (omega arith) (omega arith) (omega arith)));
    }

pub headed : {p q r t : List ℕ} {n f g : ℕ} → Put16 p 2 n q → Put16 q 4 f r → Put16 r 6 g t → Headed p n f g t
headed a b c = record {
  old = frame_join 2 6 (frame_join 2 4 a.old b.old (omega arith) (omega arith) (omega arith) (omega arith)) c.old (omega arith) (omega arith) (omega arith) (omega arith);
  counted = le16_below 2 c.old (omega arith) ∙ le16_below 2 b.old (omega arith) ∙ a.val;
  fronted = le16_below 4 c.old (omega arith) ∙ b.val;
  freed = c.val;
}

pub closed : {p q r : List ℕ} {n s : ℕ} → s < n → 4 * n + 4 ≤ length p → MovedUp p (length p - 4 * (n - 1)) (length p - 4 * s) q
    → Cleared q (length p - 4 * n) (length p - 4 * (n - 1)) r → Closed p n s r
unfolding word
closed {p} {q} {r} {n} {s} h l a b =
    let e : length r ≡ length p = b.len ∙ a.len in
    record {
      old = record {
        len = e;
        below = λ i g. b.below i g ∙ a.below i (omega arith);
        above = λ i g. b.above i (omega arith) ∙ a.above i (omega arith);
      };
      moved = λ i g k. rw e (le32_moved p r (slot_at p i) (slot_at p (i + 1)) (λ j m.
          let x : slot_at p i + j - 4 ≡ slot_at p (i + 1) + j = omega arith in
          b.above (slot_at p i + j) (omega arith) ∙ rw x at (a.new (slot_at p i + j) (omega arith) (omega arith))));
      gone = λ k g m. b.new k g m;
    }
