-- What the steps of a put on an accepted store ask and answer. Over any page size and hash. Assumes nothing.
use Rattle.std.specs.Prelude.{◌≡◌, List, ℕ, suc, ◌+◌, ◌/◌, ◌≤◌, ◌<◌, length}
use Rattle.words.specs.Codes.{GoodCode}
use Rattle.words.specs.Folds.{Folded}
use Rattle.page.specs.Page.{Belongs, Natural, count, free, code}
use Rattle.page.specs.Packed.{Fitting}
use Rattle.page.specs.declared.Place.{Place}
use Rattle.page.specs.Places.{Negative}
use Rattle.partition.specs.Bits.{top}
use Rattle.partition.specs.declared.Shape.{Shape}
use Rattle.partition.specs.Partition.{Row}
use Rattle.store.specs.Pages.{size, page, dir_depth, entry_at}
use Rattle.store.specs.Accepted.{Calls, Accepted}
use Rattle.store.specs.Demands.{Sized, Mode}
use Rattle.putting.specs.declared.weigh.Weight.{Weight}

-- the row of a code and a place
abbrev pub new_row : List ℕ → List ℕ → Row
new_row c pl = record { code = c; place = pl }

-- a row that can be put on the accepted store s: a code of 1 to 64 bytes without a capital, and a place of which no part is negative
pub record Puttable (S : Shape) (h : List ℕ → ℕ) (s c pl : List ℕ) : Type 0 where
  pub sized : Sized S
  pub accepted : Accepted S h s
  pub good : GoodCode c
  pub folded : Folded c
  pub natural : Natural pl

-- what makes such a row: its code not yet folded
pub record Givable (S : Shape) (h : List ℕ → ℕ) (s c pl : List ℕ) : Type 0 where
  pub sized : Sized S
  pub accepted : Accepted S h s
  pub good : GoodCode c
  pub natural : Natural pl

-- a row that can be put, its place not yet in bytes
pub record Allowed (S : Shape) (h : List ℕ → ℕ) (s c : List ℕ) (p : Place) : Type 0 where
  pub sized : Sized S
  pub accepted : Accepted S h s
  pub good : GoodCode c
  pub natural : Negative p → ⊥

-- an accepted store, and a mode that a put can have
pub record Ready (S : Shape) (h : List ℕ → ℕ) (s : List ℕ) (m : ℕ) : Type 0 where
  pub sized : Sized S
  pub accepted : Accepted S h s
  pub mode : Mode m

-- the directory entry of the hash x names page p
pub record HomeOf (S : Shape) (s : List ℕ) (x p : ℕ) : Type 0 where
  pub names : entry_at S s (top (dir_depth s) x) ≡ p
  pub some : 0 < p

-- such a row, of the hash x, which leads to no page
pub record Homeless (S : Shape) (h : List ℕ → ℕ) (s : List ℕ) (x : ℕ) (c pl : List ℕ) : Type 0 where
  pub row : Puttable S h s c pl
  pub hash : x ≡ h c
  pub none : entry_at S s (top (dir_depth s) x) ≡ 0

-- such a row, whose hash leads to page p
pub record Homed (S : Shape) (h : List ℕ → ℕ) (s : List ℕ) (p : ℕ) (c pl : List ℕ) : Type 0 where
  pub row : Puttable S h s c pl
  pub home : HomeOf S s (h c) p

-- a row whose code is in slot i of its page p
pub record KnownAt (S : Shape) (h : List ℕ → ℕ) (s : List ℕ) (p i : ℕ) (pl : List ℕ) : Type 0 where
  pub row : Homed S h s p (code (page S s p) i) pl
  pub slot : i < count (page S s p)

-- or which fits that page, its code at slot i
pub record Insertion (S : Shape) (h : List ℕ → ℕ) (s : List ℕ) (p i : ℕ) (c pl : List ℕ) : Type 0 where
  pub row : Homed S h s p c pl
  pub fits : Fitting (page S s p) i c pl

-- or which belongs at slot i there and does not fit
pub record Crowded (S : Shape) (h : List ℕ → ℕ) (s : List ℕ) (p i : ℕ) (c pl : List ℕ) : Type 0 where
  pub row : Homed S h s p c pl
  pub belongs : Belongs (page S s p) i c
  pub tight : free (page S s p) < 12 + length c

-- what a split is lent to work in: a page, and a hash and a need for each row that a page can have and for the new row
pub record Lent (S : Shape) (t : List ℕ) (ws : List Weight) : Type 0 where
  pub page : length t ≡ size S
  pub weights : S.capacity / 13 < length ws

-- of the entries that the prefix v of k bits calls for, in a directory of depth d, none names a page
abbrev pub Unset : Shape → List ℕ → ℕ → ℕ → ℕ → Type 0
Unset S s d k v = (i : ℕ) → Calls d k v i → entry_at S s i ≡ 0

-- k is the length of the shortest prefix of the hash x that no entry names a page for
pub record Vacant (S : Shape) (s : List ℕ) (d x k : ℕ) : Type 0 where
  pub low : k ≤ d
  pub unset : Unset S s d k (top k x)
  pub above : (j : ℕ) → k ≡ suc j → Unset S s d j (top j x) → ⊥
