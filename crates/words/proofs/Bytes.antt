-- Laws of single bytes and of what the writes do. Assumes nothing.
use Prim.Native.Nat.{ℕ, zero, suc, ◌+◌, ◌-◌, ◌/◌, ◌≤◌, ◌<◌}
use mathlib.Core.Path.{◌≡◌, refl, sym, ap, ◌∙◌}
use mathlib.Core.Logic.{◌⊎◌, inl, inr, ⊎_elim}
use mathlib.Core.List.{List, [], ◌∷◌, ◌++◌, append-nil}
use native.Mathlib.Omega.{arith}
use native.Mathlib.Nat.{zero-add, add-zero, add_assoc}
use lib.ListN.{length, drop, set, replicate, length-set, length-append, length-drop, drop_of_length-le, get_or-append}
use lib.Seq.{get_or-set_same, get_or-set_other, get_or-append-add, get_or-drop, ext_get_or}
use Rattle.ground.specs.Lists.{byte, part}
use Rattle.ground.proofs.Sides.{side}
use Rattle.ground.proofs.Parts.{part_is}
use Rattle.words.specs.Le.{le16, le32, bytes}
use Rattle.words.specs.Moves.{Frame, Wrote, Span}

pub byte_set : (p : List ℕ) (k v : ℕ) → k < length p → byte (set p k v) k ≡ v
byte_set p k v h = get_or-set_same p k v 0 h

pub byte_other : (p : List ℕ) (k v i : ℕ) → (i ≡ k → ⊥) → byte (set p k v) i ≡ byte p i
byte_other p k v i h = get_or-set_other p k i v 0 h

-- one byte stored
pub frame_set : (p : List ℕ) (k v : ℕ) → Frame p k 1 (set p k v)
frame_set p k v = record {
  len = length-set p k v;
  below = λ i h. byte_other p k v i (omega arith);
  above = λ i h. byte_other p k v i (omega arith);
}

-- a frame after a frame, inside a wider one
pub frame_join : {p q r : List ℕ} {k n k' n' : ℕ} (a m : ℕ) → Frame p k n q → Frame q k' n' r
    → a ≤ k → a ≤ k' → k + n ≤ a + m → k' + n' ≤ a + m → Frame p a m r
frame_join a m f g h₁ h₂ h₃ h₄ = record {
  len = g.len ∙ f.len;
  below = λ i h. g.below i (omega arith) ∙ f.below i (omega arith);
  above = λ i h. g.above i (omega arith) ∙ f.above i (omega arith);
}

pub wrote_none : (p : List ℕ) (k : ℕ) (f : ℕ → ℕ) → Wrote p k 0 f p
wrote_none p k f = record { new = λ i h. absurd (omega arith); old = record { len = refl; below = λ i h. refl; above = λ i h. refl } }

pub wrote_more : {p q : List ℕ} {k n : ℕ} {f : ℕ → ℕ} (v : ℕ) → Wrote p k n f q → k + n < length q → v ≡ f n → Wrote p k (n + 1) f (set q (k + n) v)
wrote_more {p} {q} {k} {n} {f} v w h e = record {
  new = λ i l. ⊎_elim
      (λ lt. byte_other q (k + n) v (k + i) (omega arith) ∙ w.new i lt)
      (λ ge. let same : i ≡ n = omega arith in rw same (byte_set q (k + n) v h ∙ e))
      (side i n);
  old = frame_join k (n + 1) w.old (frame_set q (k + n) v) (omega arith) (omega arith) (omega arith) (omega arith);
}

-- one more from the start
pub at_start : {p q : List ℕ} {n : ℕ} {f : ℕ → ℕ} (v : ℕ) → Wrote p 0 n f q → n < length q → v ≡ f n → Wrote p 0 (n + 1) f (set q n v)
at_start {p} {q} {n} {f} v w h e = rw (zero-add n) at (wrote_more {k = 0} v w (omega arith) e)

-- the same bytes by another name
pub wrote_as : {p q : List ℕ} {k n m : ℕ} {f g : ℕ → ℕ} → n ≡ m → ((i : ℕ) → i < m → f i ≡ g i) → Wrote p k n f q → Wrote p k m g q
wrote_as {p} {q} {k} {n} {m} e s w = record {
  new = λ i h. w.new i (omega arith) ∙ s i h;
  old = record { len = w.old.len; below = w.old.below; above = λ i h. w.old.above i (omega arith) };
}

-- a second run, which begins in the first or right behind it
pub wrote_on : {p q r : List ℕ} {n k m : ℕ} {f : ℕ → ℕ} → Wrote p 0 n f q → Wrote q k m (λ j. f (k + j)) r → k ≤ n → n ≤ k + m → Wrote p 0 (k + m) f r
wrote_on {p} {q} {r} {n} {k} {m} {f} w v h l = record {
  new = λ i x. ⊎_elim
      (λ lt. v.old.below (0 + i) (omega arith) ∙ w.new i (omega arith))
      (λ ge. let e : k + (i - k) ≡ i = omega arith in let z : 0 + i ≡ k + (i - k) = omega arith in ap (λ (j : ℕ). byte r j) z ∙ v.new (i - k) (omega arith) ∙ ap f e)
      (side i k);
  old = record {
    len = v.old.len ∙ w.old.len;
    below = λ i x. absurd (omega arith);
    above = λ i x. v.old.above i (omega arith) ∙ w.old.above i (omega arith);
  };
}

-- a run may be written again with more
pub wrote_again : {p q r : List ℕ} {n m : ℕ} {f : ℕ → ℕ} → Wrote p 0 n f q → Wrote q 0 m f r → n ≤ m → Wrote p 0 m f r
wrote_again w v h = record {
  new = v.new;
  old = record {
    len = v.old.len ∙ w.old.len;
    below = λ i x. absurd (omega arith);
    above = λ i x. v.old.above i x ∙ w.old.above i (omega arith);
  };
}

-- numbers at places where two lists agree
pub le16_same : (p q : List ℕ) (k : ℕ) → byte q k ≡ byte p k → byte q (k + 1) ≡ byte p (k + 1) → le16 q k ≡ le16 p k
unfolding le16
le16_same p q k h₀ h₁ = omega arith

pub le32_same : (p q : List ℕ) (k : ℕ) → ((i : ℕ) → i < 4 → byte q (k + i) ≡ byte p (k + i)) → le32 q k ≡ le32 p k
unfolding le32 le16
le32_same p q k h =
    let e₀ : byte q (k + 0) ≡ byte p (k + 0) = h 0 (omega arith) in
    let e₁ : byte q (k + 1) ≡ byte p (k + 1) = h 1 (omega arith) in
    let e₂ : byte q (k + 2) ≡ byte p (k + 2) = h 2 (omega arith) in
    let e₃ : byte q (k + 3) ≡ byte p (k + 3) = h 3 (omega arith) in
    let z : byte q k ≡ byte p k = rw add-zero at e₀ in
    let w : byte q (k + 2 + 1) ≡ byte p (k + 2 + 1) = rw (add_assoc k 2 1) e₃ in
    omega arith

pub le16_below : {p q : List ℕ} {k n : ℕ} (i : ℕ) → Frame p k n q → i + 2 ≤ k → le16 q i ≡ le16 p i
le16_below {p} {q} i f h = le16_same p q i (f.below i (omega arith)) (f.below (i + 1) (omega arith))

pub le16_above : {p q : List ℕ} {k n : ℕ} (i : ℕ) → Frame p k n q → k + n ≤ i → le16 q i ≡ le16 p i
le16_above {p} {q} i f h = le16_same p q i (f.above i (omega arith)) (f.above (i + 1) (omega arith))

pub le32_below : {p q : List ℕ} {k n : ℕ} (i : ℕ) → Frame p k n q → i + 4 ≤ k → le32 q i ≡ le32 p i
le32_below {p} {q} i f h = le32_same p q i (λ j l. f.below (i + j) (omega arith))

pub le32_above : {p q : List ℕ} {k n : ℕ} (i : ℕ) → Frame p k n q → k + n ≤ i → le32 q i ≡ le32 p i
le32_above {p} {q} i f h = le32_same p q i (λ j l. f.above (i + j) (omega arith))

-- a shift of a number's four bytes
pub le32_moved : (p q : List ℕ) (i k : ℕ) → ((j : ℕ) → j < 4 → byte q (i + j) ≡ byte p (k + j)) → le32 q i ≡ le32 p k
unfolding le32 le16
le32_moved p q i k h =
    let e₀ : byte q i ≡ byte p k = rw (add-zero, add-zero) at (h 0 (omega arith)) in
    let e₁ : byte q (i + 1) ≡ byte p (k + 1) = h 1 (omega arith) in
    let e₂ : byte q (i + 2) ≡ byte p (k + 2) = h 2 (omega arith) in
    let e₃ : byte q (i + 2 + 1) ≡ byte p (k + 2 + 1) = rw (add_assoc i 2 1, add_assoc k 2 1) (h 3 (omega arith)) in
    omega arith

pub span_none : (p : List ℕ) (a : ℕ) (g : ℕ → ℕ) → Span p a a g p
span_none p a g = record { len = refl; new = λ x l m. absurd (omega arith); below = λ x l. refl; above = λ x l. refl }

-- one byte more above
pub span_up : {p q : List ℕ} {a b : ℕ} {g : ℕ → ℕ} (v : ℕ) → Span p a b g q → a ≤ b → b < length q → v ≡ g b → Span p a (b + 1) g (set q b v)
span_up {p} {q} {a} {b} {g} v w o h e = record {
  len = length-set q b v ∙ w.len;
  new = λ x l m. ⊎_elim
      (λ lt. byte_other q b v x (omega arith) ∙ w.new x l lt)
      (λ ge. let s : x ≡ b = omega arith in rw s (byte_set q b v h ∙ e))
      (side x b);
  below = λ x l. byte_other q b v x (omega arith) ∙ w.below x l;
  above = λ x l. byte_other q b v x (omega arith) ∙ w.above x (omega arith);
}

pub span_frame : {p q : List ℕ} {a b : ℕ} {g : ℕ → ℕ} → Span p a b g q → a ≤ b → Frame p a (b - a) q
span_frame w h = record { len = w.len; below = w.below; above = λ x l. w.above x (omega arith) }

pub copied_part : {p q : List ℕ} {k : ℕ} (s : List ℕ) → Wrote p k (length s) (λ i. byte s i) q → k + length s ≤ length q → part q k (length s) ≡ s
copied_part {p} {q} {k} s w h = part_is q k s h w.new

-- two bytes of equal numbers
pub le16_bytes : (p q : List ℕ) (k : ℕ) → ((i : ℕ) → byte p i < 256) → ((i : ℕ) → byte q i < 256) → le16 p k ≡ le16 q k → (byte p k ≡ byte q k) × (byte p (k + 1) ≡ byte q (k + 1))
unfolding le16
le16_bytes p q k hp hq e = (omega (arith, hp k, hp (k + 1), hq k, hq (k + 1)), omega (arith, hp k, hp (k + 1), hq k, hq (k + 1)))

pub le16_lt : (p : List ℕ) (k : ℕ) → ((i : ℕ) → byte p i < 256) → le16 p k < 65536
unfolding le16
le16_lt p k h = omega (arith, h k, h (k + 1))

-- the halves of equal numbers
pub le32_halves : (p q : List ℕ) (k : ℕ) → ((i : ℕ) → byte p i < 256) → ((i : ℕ) → byte q i < 256) → le32 p k ≡ le32 q k → (le16 p k ≡ le16 q k) × (le16 p (k + 2) ≡ le16 q (k + 2))
unfolding le32
le32_halves p q k hp hq e = (omega (arith, le16_lt p k hp, le16_lt q k hq), omega (arith, le16_lt p k hp, le16_lt q k hq))

-- the byte j of equal numbers
pub le32_byte : (p q : List ℕ) (k j : ℕ) → ((i : ℕ) → byte p i < 256) → ((i : ℕ) → byte q i < 256) → le32 p k ≡ le32 q k → j < 4 → byte p (k + j) ≡ byte q (k + j)
le32_byte p q k j hp hq e h =
    let hs : (le16 p k ≡ le16 q k) × (le16 p (k + 2) ≡ le16 q (k + 2)) = le32_halves p q k hp hq e in
    let lo : (byte p k ≡ byte q k) × (byte p (k + 1) ≡ byte q (k + 1)) = le16_bytes p q k hp hq hs.0 in
    let hi : (byte p (k + 2) ≡ byte q (k + 2)) × (byte p (k + 2 + 1) ≡ byte q (k + 2 + 1)) = le16_bytes p q (k + 2) hp hq hs.1 in
    ⊎_elim (λ l. at k (omega arith) lo.0) (λ g. ⊎_elim (λ l. at (k + 1) (omega arith) lo.1) (λ g₂. ⊎_elim (λ l. at (k + 2) (omega arith) hi.0) (λ g₃. at (k + 2 + 1) (omega arith) hi.1) (side j 3)) (side j 2)) (side j 1)
  where
    at : (x : ℕ) → k + j ≡ x → byte p x ≡ byte q x → byte p (k + j) ≡ byte q (k + j)
    at x f b = rw f b

-- every number of the list is a byte
pub record Small (l : List ℕ) : Type 0 where
  pub at : (i : ℕ) → byte l i < 256

pub small_append : {l m : List ℕ} → Small l → Small m → Small (l ++ m)
small_append {l} {m} f g = record { at = go l f.at }
  where
    go : (l : List ℕ) → ((i : ℕ) → byte l i < 256) → (i : ℕ) → byte (l ++ m) i < 256
    go [] f i = g.at i
    go (x ∷ l) f zero = f zero
    go (x ∷ l) f (suc i) = go l (λ j. f (suc j)) i

pub small_bytes : (k n : ℕ) → Small (bytes k n)
unfolding bytes
small_bytes k n = record { at = go k n }
  where
    go : (k n i : ℕ) → byte (bytes k n) i < 256
    go zero n i = omega arith
    go (suc k) n zero = omega arith
    go (suc k) n (suc i) = go k (n / 256) i

pub small_zeros : (n : ℕ) → Small (replicate n 0)
small_zeros n = record { at = go n }
  where
    go : (n i : ℕ) → byte (replicate n 0) i < 256
    go zero i = omega arith
    go (suc n) zero = omega arith
    go (suc n) (suc i) = go n i

-- a list copied over the start of another, and over one as long
pub copied_front : {p q : List ℕ} (s : List ℕ) → Wrote p 0 (length s) (λ i. byte s i) q → length s ≤ length p → q ≡ s ++ drop (length s) p
copied_front {p} {q} s w h =
    ext_get_or 0 q (s ++ drop (length s) p) (w.old.len ∙ simp (length-append, length-drop) (omega arith)) (λ i m. at i (side i (length s)))
  where
    at : (i : ℕ) → (i < length s) ⊎ (length s ≤ i) → byte q i ≡ byte (s ++ drop (length s) p) i
    at i (inl l) = rw zero-add at (w.new i l) ∙ sym (get_or-append s (drop (length s) p) 0 i l)
    at i (inr g) =
        let e : length s + (i - length s) ≡ i = omega arith in
        w.old.above i (omega arith) ∙ rw e at (sym (get_or-append-add s (drop (length s) p) (i - length s) 0 ∙ get_or-drop (length s) p (i - length s) 0))

pub copied_whole : {p q s : List ℕ} → Wrote p 0 (length s) (λ i. byte s i) q → length p ≡ length s → q ≡ s
copied_whole {p} {q} {s} w h = copied_front s w (omega arith) ∙ ap (λ t. s ++ t) (drop_of_length-le p {i = length s} (omega arith)) ∙ append-nil s
