-- Laws of parts and splices. Assumes nothing.
use mathlib.Core.Path.{◌≡◌, sym, ◌∙◌}
use mathlib.Core.List.{List, ◌++◌}
use Prim.Native.Nat.{ℕ, ◌+◌, ◌-◌, ◌≤◌, ◌<◌}
use native.Mathlib.Omega.{arith}
use lib.ListN.{length, take, drop, length-append, length-take, length-drop, take-append-drop}
use lib.Seq.{get_or-take, get_or-drop, ext_get_or, take_at, take-append-le, drop_at, drop-append-le, drop-append-add, drop-drop, length-take-le}
use Rattle.ground.specs.Lists.{byte, part, splice}

pub length_part : (p : List ℕ) (k n : ℕ) → k + n ≤ length p → length (part p k n) ≡ n
unfolding part
length_part p k n h = simp (length-take, length-drop) (omega arith)

pub byte_part : (p : List ℕ) (k n i : ℕ) → i < n → byte (part p k n) i ≡ byte p (k + i)
unfolding part
byte_part p k n i h = get_or-take n (drop k p) i 0 h ∙ get_or-drop k p i 0

-- a part is known by its bytes
pub part_is : (p : List ℕ) (k : ℕ) (s : List ℕ) → k + length s ≤ length p → ((i : ℕ) → i < length s → byte p (k + i) ≡ byte s i) → part p k (length s) ≡ s
part_is p k s h e =
    let l : length (part p k (length s)) ≡ length s = length_part p k (length s) h in
    ext_get_or 0 (part p k (length s)) s l (λ i lt. let m : i < length s = omega arith in byte_part p k (length s) i m ∙ e i m)

pub part_same : (p q : List ℕ) (k n : ℕ) → k + n ≤ length p → k + n ≤ length q → ((i : ℕ) → k ≤ i → i < k + n → byte q i ≡ byte p i) → part q k n ≡ part p k n
part_same p q k n hp hq e =
    let lq : length (part q k n) ≡ n = length_part q k n hq in
    let lp : length (part p k n) ≡ n = length_part p k n hp in
    ext_get_or 0 (part q k n) (part p k n) (lq ∙ sym lp)
    (λ i lt. let m : i < n = omega arith in byte_part q k n i m ∙ e (k + i) (omega arith) (omega arith) ∙ sym (byte_part p k n i m))

-- the part s[a..e] that is lent
pub lent_part : (xs : List ℕ) (a e n : ℕ) → e ≡ a + n → take (e - a) (drop a xs) ≡ part xs a n
unfolding part
lent_part xs a e n h = let k : e - a ≡ n = omega arith in cc

-- what a slice holds once the lent part s[a..e] is back as ys
pub lent_back : (xs ys : List ℕ) (a e n : ℕ) → e ≡ a + n → take a xs ++ (ys ++ drop (e - a) (drop a xs)) ≡ splice xs a n ys
unfolding splice
lent_back xs ys a e n h = let k : e - a ≡ n = omega arith in cc

module _ (s : List ℕ) (a n : ℕ) (ys : List ℕ) (fits : a + n ≤ length s) (long : length ys ≡ n) where
  pub splice_length : length (splice s a n ys) ≡ length s
  unfolding splice
  splice_length = simp (length-append, length-take, length-drop) (omega arith)

  pub part_splice : part (splice s a n ys) a n ≡ ys
  unfolding part splice
  part_splice =
      let e : length (take a s) ≡ a = length-take-le a s (omega arith) in
      rw drop_at (take_at _ _ n long)

  -- parts away from the one that was put in
  pub part_splice_before : (b m : ℕ) → b + m ≤ a → part (splice s a n ys) b m ≡ part s b m
  unfolding part splice
  part_splice_before b m h =
      let la : length (take a s) ≡ a = length-take-le a s (omega arith) in
      let e₁ : drop b (take a s ++ (ys ++ drop n (drop a s))) ≡ drop b (take a s) ++ (ys ++ drop n (drop a s)) = drop-append-le b _ _ (omega arith) in
      let e₂ : take m (drop b (take a s) ++ (ys ++ drop n (drop a s))) ≡ take m (drop b (take a s)) = take-append-le m _ _ (simp length-drop (omega arith)) in
      let e₃ : drop b (take a s ++ drop a s) ≡ drop b (take a s) ++ drop a s = drop-append-le b _ _ (omega arith) in
      let e₄ : take m (drop b (take a s) ++ drop a s) ≡ take m (drop b (take a s)) = take-append-le m _ _ (simp length-drop (omega arith)) in
      cc (take-append-drop a s)

  pub part_splice_after : (b m : ℕ) → a + n ≤ b → part (splice s a n ys) b m ≡ part s b m
  unfolding part splice
  part_splice_after b m h =
      let k : ℕ = b - (a + n) in
      let la : length (take a s) ≡ a = length-take-le a s (omega arith) in
      let lp : length (take a s) + (n + k) ≡ b = omega arith in
      let ly : length ys + k ≡ n + k = omega arith in
      let e₁ : drop (length (take a s) + (n + k)) (take a s ++ (ys ++ drop n (drop a s))) ≡ drop (n + k) (ys ++ drop n (drop a s)) = drop-append-add (take a s) (ys ++ drop n (drop a s)) (n + k) in
      let e₂ : drop (length ys + k) (ys ++ drop n (drop a s)) ≡ drop k (drop n (drop a s)) = drop-append-add ys (drop n (drop a s)) k in
      let e₃ : drop k (drop n (drop a s)) ≡ drop (n + k) (drop a s) = drop-drop k n (drop a s) in
      let e₄ : drop (n + k) (drop a s) ≡ drop (a + (n + k)) s = drop-drop (n + k) a s in
      let e₅ : a + (n + k) ≡ b = omega arith in
      cc
