-- What the writes do, byte by byte. Assumes nothing.
use Rattle.std.specs.Prelude.{ℕ, ◌+◌, ◌-◌, ◌≤◌, ◌<◌, ◌≡◌, List, length}
use Rattle.ground.specs.Lists.{byte}
use Rattle.words.specs.Le.{le16, le32}

-- q is p but for the n bytes from k
pub record Frame (p : List ℕ) (k n : ℕ) (q : List ℕ) : Type 0 where
  pub len : length q ≡ length p
  pub below : (i : ℕ) → i < k → byte q i ≡ byte p i
  pub above : (i : ℕ) → k + n ≤ i → byte q i ≡ byte p i

pub record Put16 (p : List ℕ) (k v : ℕ) (q : List ℕ) : Type 0 where
  pub val : le16 q k ≡ v
  pub old : Frame p k 2 q

pub record Put32 (p : List ℕ) (k v : ℕ) (q : List ℕ) : Type 0 where
  pub val : le32 q k ≡ v
  pub old : Frame p k 4 q

-- the n bytes of q from k are f 0, f 1, ..; the rest is p
pub record Wrote (p : List ℕ) (k n : ℕ) (f : ℕ → ℕ) (q : List ℕ) : Type 0 where
  pub new : (i : ℕ) → i < n → byte q (k + i) ≡ f i
  pub old : Frame p k n q

-- s at k
abbrev pub Copied : List ℕ → ℕ → List ℕ → List ℕ → Type 0
Copied p k s q = Wrote p k (length s) (λ i. byte s i) q

-- n bytes of p from k + 4, at k
abbrev pub MovedDown : List ℕ → ℕ → ℕ → List ℕ → Type 0
MovedDown p k n q = Wrote p k n (λ i. byte p (k + i + 4)) q

-- the bytes of q from a up to b are g's, by their own index; the rest is p
pub record Span (p : List ℕ) (a b : ℕ) (g : ℕ → ℕ) (q : List ℕ) : Type 0 where
  pub len : length q ≡ length p
  pub new : (x : ℕ) → a ≤ x → x < b → byte q x ≡ g x
  pub below : (x : ℕ) → x < a → byte q x ≡ byte p x
  pub above : (x : ℕ) → b ≤ x → byte q x ≡ byte p x

-- zeros from a up to b
abbrev pub Cleared : List ℕ → ℕ → ℕ → List ℕ → Type 0
Cleared p a b q = Span p a b (λ x. 0) q

-- from a up to b is in s, and four bytes are below
pub record MovableUp (s : List ℕ) (a b : ℕ) : Type 0 where
  pub below : 4 ≤ a
  pub rising : a ≤ b
  pub within : b ≤ length s

-- what stood four below, from a up to b
abbrev pub MovedUp : List ℕ → ℕ → ℕ → List ℕ → Type 0
MovedUp p a b q = Span p a b (λ x. byte p (x - 4)) q
