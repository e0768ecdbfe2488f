-- NO BUCKET HOLDS THE HASH of a code: a prefix of the hash has no row exactly if no entry that it calls for names a page. Over any page size and hash.
-- Assumes nothing.
use mathlib.Core.Path.{◌≡◌, refl, sym, subst, ◌∙◌}
use mathlib.Core.List.Memᴰ
use mathlib.Core.List.{List, [], ◌∷◌, map, Memᴰ}
use mathlib.Core.Logic.{◌⊎◌, inl, inr}
use Prim.Native.Nat.{ℕ, ◌+◌, ◌-◌, ◌*◌, ◌^◌, ◌≤◌, ◌<◌}
use native.Mathlib.Omega.{arith}
use native.Mathlib.Nat.{le_trans}
use lib.ListN.{length, length-map}
use Rattle.ground.proofs.Sides.{side}
use Rattle.page.specs.Page.{Record, depth, rows}
use Rattle.partition.specs.Bits.{top}
use Rattle.partition.specs.declared.Shape.{Shape}
use Rattle.partition.specs.Partition.{Row, needs, rows_of}
use Rattle.partition.proofs.Bits.{top_lt}
use Rattle.partition.proofs.Laws.{share_fewer, held}
use Rattle.partition.proofs.Rows.{some_need}
use Rattle.partition.proofs.Sum.{prefix_row, head_of}
use Rattle.partition.proofs.Maps.{absent}
use Rattle.store.specs.Pages.{page, dir_depth, entry_at, contents, as_row, rows_held}
use Rattle.store.specs.Accepted.{Calls, Accepted}
use Rattle.store.specs.Demands.{Sized, Hash}
use Rattle.store.proofs.Accepted.Rules.{Opened, opened}
use Rattle.store.proofs.Showing.Shows.{prefix_on, Holding, Shows}
use Rattle.store.proofs.Showing.Shown.{page_row}
use Rattle.store.proofs.Accepted.Owner.{entry_within}
use Rattle.store.proofs.Showing.Showing.{calls_top, under, accepted_shows}
use Rattle.store.proofs.Accepted.Named.{deep_small, calls_hash}
use Rattle.store.proofs.Accepted.Reading.{entry_of, Naming, naming, lookup_none}

present : (r : Row) (l : List Row) → Memᴰ r l → 0 < length l
present r [] m = absurd (Memᴰ.not-nil m)
present r (q ∷ l) m = omega arith

module _ (S : Shape) (h : List ℕ → ℕ) (sized : Sized S) (hash : Hash h) (s : List ℕ) (A : Accepted S h s) where
  T : Opened S h s
  T = opened S h s A

  shows : Shows S h (rows_held S s) (contents S s)
  shows = accepted_shows S h sized hash s A

  abbrev d : ℕ
  d = dir_depth s

  d_32 : d ≤ 32
  d_32 = le_trans T.page0.depth (deep_small S sized)

  -- a row of a prefix sets an entry that the prefix calls for
  pub set_entry : (k v : ℕ) → k ≤ d → 0 < needs (rows_of h (rows_held S s) k v) → (i : ℕ) × Calls (dir_depth s) k v i × (entry_at S s i ≡ 0 → ⊥)
  set_entry k v l p =
      let r = head_of (rows_of h (rows_held S s) k v) ((some_need (rows_of h (rows_held S s) k v)).1 p) in
      let m = prefix_row h (rows_held S s) k v r.0 r.1 in
      let x : ℕ = h r.0.code in (
        top d x,
        calls_top d k v x l (subst (λ n. n < 2 ^ k) m.1 (top_lt x k (hash r.0.code))) m.1,
        λ z. absent (rows_held S s) r.0.code (lookup_none S h sized hash s A r.0.code z) r.0 m.0 refl,
      )

  module _ (c : List ℕ) (unnamed : entry_of S h s c ≡ 0) where
    -- no page holds the hash
    pub off : (i k : ℕ) (rs : List Record) → Holding (contents S s) i k rs → top k (h c) ≡ prefix_on h k rs → ⊥
    off i k rs g e =
        let u = under S h sized hash s T i k rs g in
        let n : entry_at S s (top d (h c)) ≡ i + 2 =
        (u.names (top d (h c)) (entry_within S h sized hash s T.page0.depth (h c) (hash c))).1
        (calls_top d k (prefix_on h k rs) (h c) u.low (subst (λ v. v < 2 ^ k) e (top_lt (h c) k (hash c))) e) in
        omega (arith, unnamed, n)

    -- so an entry that a prefix of the hash calls for names a page only if the prefix has a row
    pub some_row : (k i : ℕ) → k ≤ d → i < S.entries → Calls d k (top k (h c)) i → (entry_at S s i ≡ 0 → ⊥) → 0 < needs (rows_of h (rows_held S s) k (top k (h c)))
    some_row k i l b q n = go (side (depth g) k)
      where
        u : Naming S h s i (entry_at S s i)
        u = naming S h sized hash s A i b n

        g : List ℕ
        g = page S s (entry_at S s i)

        -- a hash whose entry is i
        y : ℕ
        y = i * 2 ^ (32 - d)

        of_page : top (depth g) y ≡ prefix_on h (depth g) (rows g)
        of_page = calls_hash d (depth g) (prefix_on h (depth g) (rows g)) i d_32 u.low u.calls

        of_code : top k y ≡ top k (h c)
        of_code = calls_hash d k (top k (h c)) i d_32 l q

        go : (depth g < k) ⊎ (k ≤ depth g) → 0 < needs (rows_of h (rows_held S s) k (top k (h c)))
        go (inl m) = absurd (off (entry_at S s i - 2) (depth g) (rows g) u.holding (sym (share_fewer y (h c) (depth g) k (omega arith) of_code) ∙ of_page))
        go (inr m) =
            let o = shows.page (entry_at S s i - 2) (depth g) (rows g) u.holding in
            let r = head_of (map as_row (rows g)) (omega (arith, o.some, length-map (rows g) as_row)) in
            let w = (page_row S h (rows_held S s) (depth g) (rows g) o r.0).0 r.1 in
            let e : top k (h r.0.code) ≡ top k (h c) = share_fewer (h r.0.code) y k (depth g) m (w.1 ∙ sym of_page) ∙ of_code in
            (some_need (rows_of h (rows_held S s) k (top k (h c)))).0 (present r.0 (rows_of h (rows_held S s) k (top k (h c))) (subst (λ v. Memᴰ r.0 (rows_of h (rows_held S s) k v)) e (held S h (rows_held S s) r.0 w.0 k)))
