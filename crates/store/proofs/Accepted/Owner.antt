-- The page that holds a code is the one that the directory's entry of the code's hash names; so no two pages hold one code. Assumes nothing.
use mathlib.Core.Path.{◌≡◌, sym, ap, ◌∙◌}
use mathlib.Core.List.{List}
use Prim.Native.Nat.{ℕ, ◌^◌, ◌≤◌, ◌<◌}
use native.Mathlib.Omega.{arith}
use native.Mathlib.Nat.{pow-le-pow_right}
use Rattle.ground.specs.Lists.{byte}
use Rattle.page.specs.Page.{depth, count, code}
use Rattle.partition.specs.Bits.{top}
use Rattle.partition.specs.declared.Shape.{Shape}
use Rattle.partition.proofs.Bits.{top_lt}
use Rattle.partition.proofs.Directory.{holds_top}
use Rattle.store.specs.Pages.{pages, page, dir_depth, entry_at}
use Rattle.store.specs.Accepted.{Stands, unused, used}
use Rattle.store.specs.Demands.{Sized, Hash}
use Rattle.store.proofs.Accepted.Rules.{Opened}

module _ (S : Shape) (h : List ℕ → ℕ) (sized : Sized S) (hash : Hash h) (s : List ℕ) (deep : dir_depth s ≤ S.deepest) where
  -- the entry of a hash is in the directory
  pub entry_within : (x : ℕ) → x < 2 ^ 32 → top (dir_depth s) x < S.entries
  entry_within x l =
      let a : top (dir_depth s) x < 2 ^ dir_depth s = top_lt x (dir_depth s) l in
      let b : 2 ^ dir_depth s ≤ 2 ^ S.deepest = pow-le-pow_right (omega arith) deep in
      omega (arith, a, b, sized.deep)

  -- a bucket is named by the entry of each hash of its prefix
  pub called : (p : ℕ) → Stands S h s p → byte (page S s p) 0 ≡ 1 → (x : ℕ) → x < 2 ^ 32
      → top (depth (page S s p)) x ≡ top (depth (page S s p)) (h (code (page S s p) 0)) → entry_at S s (top (dir_depth s) x) ≡ p
  called p (unused z _) one x l e = absurd (omega (arith, z 0))
  called p (used k d names) one x l e =
      let v : ℕ = top (depth (page S s p)) (h (code (page S s p) 0)) in
      (names (top (dir_depth s) x) (entry_within x l)).1
      (record { below = top_lt x (dir_depth s) l; bits = (holds_top (dir_depth s) x (record { bits = depth (page S s p); value = v }) d).1 e })

  -- the hashes of its codes are of its prefix
  pub shared : (p i : ℕ) → Stands S h s p → byte (page S s p) 0 ≡ 1 → i < count (page S s p)
      → top (depth (page S s p)) (h (code (page S s p) i)) ≡ top (depth (page S s p)) (h (code (page S s p) 0))
  shared p i (unused z _) one l = absurd (omega (arith, z 0))
  shared p i (used k d names) one l = k.share i 0 l (omega (arith, k.rules.some))

module _ (S : Shape) (h : List ℕ → ℕ) (sized : Sized S) (hash : Hash h) (s : List ℕ) (T : Opened S h s) where
  pub owner : (p i : ℕ) → 2 ≤ p → p < pages S s → byte (page S s p) 0 ≡ 1 → i < count (page S s p) → entry_at S s (top (dir_depth s) (h (code (page S s p) i))) ≡ p
  owner p i a b one l =
      called S h sized hash s T.page0.depth p (T.stands p a b) one (h (code (page S s p) i)) (hash (code (page S s p) i))
      (shared S h sized hash s T.page0.depth p i (T.stands p a b) one l)

  pub one_owner : (p q i j : ℕ) → 2 ≤ p → p < pages S s → 2 ≤ q → q < pages S s → byte (page S s p) 0 ≡ 1 → byte (page S s q) 0 ≡ 1
      → i < count (page S s p) → j < count (page S s q) → code (page S s p) i ≡ code (page S s q) j → p ≡ q
  one_owner p q i j a b c d x y l m e = sym (owner p i a b x l) ∙ ap (λ k. entry_at S s (top (dir_depth s) (h k))) e ∙ owner q j c d y m
