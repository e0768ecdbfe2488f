-- Laws of folding: twice is once, lengths stay, bytes stay bytes; and a code is folded where each of its bytes is. Assumes nothing.
use mathlib.Core.Path.{◌≡◌, refl, sym, ap, ◌∙◌}
use mathlib.Core.Bool.{Bool, true, false, true≢false}
use Rattle.std.specs.Prelude.{IsTrue, All}
use Rattle.std.proofs.lemmas.Grind.{get_or_default_zero}
use Rattle.ground.specs.Says.{Says}
use mathlib.Core.List.{List, [], ◌∷◌, map}
use mathlib.Core.Logic.{◌⊎◌, inl, inr, ⊎_elim, ◌↔◌}
use Prim.Native.Nat.{ℕ, ◌+◌, ◌-◌, ◌≤◌, ◌<◌}
use native.Mathlib.Decide.{ℕ_discrete}
use native.Mathlib.Omega.{arith}
use borrow.Author.Tests.{leb-true, leb-false}
use lib.Dec.{leb}
use lib.ListN.{length, take, drop, length-map, get_or-map}
use lib.Seq.{ext_get_or}
use Rattle.ground.specs.Lists.{byte, part}
use Rattle.ground.proofs.Parts.{lent_part, part_is}
use Rattle.words.specs.Codes.{GoodCode}
use Rattle.words.specs.Moves.{Copied}
use Rattle.words.specs.Folds.{lowered, fold_byte, fold, Folded}

-- what foldByte does to a byte
pub data FoldsTo (b : ℕ) : ℕ → Type 0 where
  capital : 0x41 ≤ b → b ≤ 0x5A → FoldsTo b (b + 0x20)
  other : (b < 0x41) ⊎ (0x5A < b) → FoldsTo b b

folds_by : (b : ℕ) (x y : Bool) → leb 0x41 b ≡ x → leb b 0x5A ≡ y → FoldsTo b (lowered x y b)
folds_by b true true e f = capital (leb-true 0x41 b e) (leb-true b 0x5A f)
folds_by b true false e f = other (inr (leb-false b 0x5A f))
folds_by b false y e f = other (inl (leb-false 0x41 b e))

pub folds : (b : ℕ) → FoldsTo b (fold_byte b)
unfolding fold_byte
folds b = folds_by b (leb 0x41 b) (leb b 0x5A) refl refl

-- a byte is folded exactly where it is no capital
pub byte_kept : (b : ℕ) → fold_byte b ≡ b ↔ ((b < 0x41) ⊎ (0x5A < b))
byte_kept b = (λ e. to (fold_byte b) (folds b) e, λ n. from (fold_byte b) (folds b) n)
  where
    to : (c : ℕ) → FoldsTo b c → c ≡ b → (b < 0x41) ⊎ (0x5A < b)
    to c (capital l m) e = absurd (omega arith)
    to c (other n) e = n

    from : (c : ℕ) → FoldsTo b c → (b < 0x41) ⊎ (0x5A < b) → c ≡ b
    from c (capital l m) n = absurd (⊎_elim (λ x. omega arith) (λ x. omega arith) n)
    from c (other n) m = refl

-- and a capital is changed
pub byte_capital : (b : ℕ) → 0x41 ≤ b → b ≤ 0x5A → fold_byte b ≡ b + 0x20
byte_capital b l m = go (fold_byte b) (folds b)
  where
    go : (c : ℕ) → FoldsTo b c → c ≡ b + 0x20
    go c (capital x y) = refl
    go c (other n) = absurd (⊎_elim (λ x. omega arith) (λ x. omega arith) n)

byte_twice : (b : ℕ) → fold_byte (fold_byte b) ≡ fold_byte b
byte_twice b = (byte_kept (fold_byte b)).1 (go (fold_byte b) (folds b))
  where
    go : (c : ℕ) → FoldsTo b c → (c < 0x41) ⊎ (0x5A < c)
    go c (capital l m) = inr (omega arith)
    go c (other n) = n

byte_small : (b : ℕ) → b < 256 → fold_byte b < 256
byte_small b l = go (fold_byte b) (folds b)
  where
    go : (c : ℕ) → FoldsTo b c → c < 256
    go c (capital x y) = omega arith
    go c (other n) = l

-- FOLDING KEEPS THE LENGTH
pub fold_length : (c : List ℕ) → length (fold c) ≡ length c
unfolding fold
fold_length c = length-map c fold_byte

pub byte_fold : (c : List ℕ) (k : ℕ) → byte (fold c) k ≡ fold_byte (byte c k)
unfolding fold fold_byte
byte_fold c k = get_or-map fold_byte c k 0

-- FOLDED TWICE IS FOLDED ONCE
pub fold_twice : (c : List ℕ) → Folded (fold c)
unfolding fold
fold_twice [] = refl
fold_twice (b ∷ c) = (λ i. byte_twice b i ∷ fold_twice c i)

pub fold_small : (c : List ℕ) → ((k : ℕ) → byte c k < 256) → (k : ℕ) → byte (fold c) k < 256
fold_small c s k = rw (byte_fold c k) (byte_small (byte c k) (s k))

pub fold_good : (c : List ℕ) → GoodCode c → GoodCode (fold c)
fold_good c g = record { least = omega (arith, fold_length c, g.least); most = omega (arith, fold_length c, g.most) }

-- a code is folded exactly where each of its bytes is
pub folded_each : (c : List ℕ) → ((k : ℕ) → k < length c → fold_byte (byte c k) ≡ byte c k) → Folded c
folded_each c e = ext_get_or 0 (fold c) c (fold_length c) (λ k l. byte_fold c k ∙ e k (omega (arith, fold_length c)))

pub each_folded : (c : List ℕ) → Folded c → (k : ℕ) → fold_byte (byte c k) ≡ byte c k
each_folded c f k = sym (byte_fold c k) ∙ ap (λ l. byte l k) f

pub folded_or_not : (c : List ℕ) → Dec (Folded c)
unfolding fold
folded_or_not [] = yes refl
folded_or_not (b ∷ c) = go (ℕ_discrete (fold_byte b) b) (folded_or_not c)
  where
    go : Dec (fold_byte b ≡ b) → Dec (Folded c) → Dec (Folded (b ∷ c))
    go (yes e) (yes f) = yes (λ i. e i ∷ f i)
    go (yes e) (no f) = no (λ w. f (let x : map fold_byte c ≡ c = cc in x))
    go (no e) _ = no (λ w. e (let x : fold_byte b ≡ b = cc in x))

-- the part that a folded code takes, where it was written to the start
pub folded_part : (p c q : List ℕ) → Copied p 0 (fold c) q → length c ≤ length q → take (length c - 0) (drop 0 q) ≡ fold c
folded_part p c q w l =
    let e : length c ≡ length (fold c) = sym (fold_length c) in
    lent_part q 0 (length c) (length c) (omega arith) ∙ ap (part q 0) e
    ∙ part_is q 0 (fold c) (omega (arith, e)) (λ i m. w.new i m)

-- what a test of each byte for capitals says of a code
pub plain_says : (s : List ℕ) (r : Bool) → IsTrue r ↔ All (λ b. (b < 0x41) ⊎ (0x5A < b)) s → Says r (Folded s)
plain_says s true h = folded_each s (λ k l. (byte_kept (byte s k)).1 (h.0 refl k 0 l))
plain_says s false h = λ f.
    let e : IsTrue false = h.1 (λ k d l. rw (get_or_default_zero s k d l) ((byte_kept (byte s k)).0 (each_folded s f k))) in
    absurd (true≢false (sym e))
