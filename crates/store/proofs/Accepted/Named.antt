-- What a directory entry says of pages that show rows: it is the number of the page that calls for it, or 0 where no page does. So it is in an accepted store. Assumes nothing.
use mathlib.Core.Path.{◌≡◌, refl, sym, ap, subst, subst₂, ◌∙◌}
use mathlib.Core.List.{List, [], ◌∷◌, Memᴰ}
use mathlib.Core.Logic.{◌⊎◌, inl, inr, ◌↔◌}
use mathlib.Core.Option.{some, none}
use Prim.Native.Nat.{ℕ, zero, suc, ◌+◌, ◌-◌, ◌*◌, ◌/◌, ◌^◌, ◌≤◌, ◌<◌, max, zero-le}
use native.Mathlib.Omega.{arith}
use native.Mathlib.Nat.{le_antisymm, pow-le-pow_right, mul-le-mul_right}
use lib.Pow.{pow-add}
use lib.ListN.{get_or}
use Rattle.ground.proofs.Sides.{side}
use Rattle.page.specs.Page.{Record, depth, rows}
use Rattle.partition.specs.Bits.{top}
use Rattle.partition.specs.declared.Shape.{Shape}
use Rattle.partition.specs.Partition.{Row, Prefix, first, after, buckets, depth_of, entry}
use Rattle.partition.proofs.Tree.{pfx}
use Rattle.partition.proofs.Rows.{listed}
use Rattle.partition.proofs.Laws.{no_overlap}
use Rattle.partition.proofs.Store.{not_deeper}
use Rattle.partition.proofs.Directory.{Holds, holds_range, holds_top, entry_hash, entry_complete, entry_none, depth_bound, depth_least}
use Rattle.store.specs.Pages.{pages, page, dir_depth, entry_at, Page, free, bucket, contents, depth_on, deepest_in}
use Rattle.store.specs.Accepted.{Calls, Stands, unused, used}
use Rattle.store.specs.Demands.{Sized, Hash}
use Rattle.store.proofs.Showing.Shows.{prefix_on, Holding, Shows}
use Rattle.store.proofs.Showing.Shown.{free_not, paged, one_holder, whole, Any}
use Rattle.store.proofs.Accepted.Rules.{Opened}
use Rattle.store.proofs.Accepted.Unique.{read_bucket, held}
use Rattle.store.proofs.Showing.Showing.{under}

-- entry e of t is right for the first n pages of gs, in a directory of depth d
pub data Entry (S : Shape) (h : List ℕ → ℕ) (t : List ℕ) (gs : List Page) (d n e : ℕ) : Type 0 where
  nothing : entry_at S t e ≡ 0 → ((i k : ℕ) (rs : List Record) → i < n → Holding gs i k rs → Calls d k (prefix_on h k rs) e → ⊥) → Entry S h t gs d n e
  names : (i k : ℕ) (rs : List Record) → i < n → entry_at S t e ≡ i + 2 → Holding gs i k rs → Calls d k (prefix_on h k rs) e → Entry S h t gs d n e

-- ---- how a directory that is written page by page becomes right

module _ (S : Shape) (h : List ℕ → ℕ) (t : List ℕ) (gs : List Page) (d e : ℕ) where
  -- a cleared entry, before the first page
  pub entry_start : entry_at S t e ≡ 0 → Entry S h t gs d 0 e
  entry_start z = nothing z (λ i k rs l _ _. omega arith)

  -- an entry that is not written anew stays as it was
  pub entry_kept : (s : List ℕ) (n : ℕ) → entry_at S t e ≡ entry_at S s e → Entry S h s gs d n e → Entry S h t gs d n e
  entry_kept s n q (nothing z f) = nothing (q ∙ z) f
  entry_kept s n q (names i k rs l p g c) = names i k rs l (q ∙ p) g c

  module _ (n m : ℕ) (next : m ≡ n + 1) where
    -- page n does not call for the entry
    pub entry_past : ((k : ℕ) (rs : List Record) → Holding gs n k rs → Calls d k (prefix_on h k rs) e → ⊥) → Entry S h t gs d n e → Entry S h t gs d m e
    entry_past u (names i k rs l p g c) = names i k rs (omega arith) p g c
    entry_past u (nothing z f) = nothing z (λ i k rs l g c. go i k rs (side i n) l g c)
      where
        go : (i k : ℕ) (rs : List Record) → (i < n) ⊎ (n ≤ i) → i < m → Holding gs i k rs → Calls d k (prefix_on h k rs) e → ⊥
        go i k rs (inl b) l g c = f i k rs b g c
        go i k rs (inr b) l g c = let q : i ≡ n = omega arith in u k rs (subst (λ j. Holding gs j k rs) q g) c

    -- it is free
    pub entry_past_free : get_or gs n free ≡ free → Entry S h t gs d n e → Entry S h t gs d m e
    entry_past_free q = entry_past (λ k rs g _. free_not (sym q ∙ g))

    -- it is a bucket that calls for another entry
    pub entry_past_bucket : (k : ℕ) (rs : List Record) → Holding gs n k rs → (Calls d k (prefix_on h k rs) e → ⊥) → Entry S h t gs d n e → Entry S h t gs d m e
    entry_past_bucket k rs g u =
        entry_past (λ l qs x c. let y : bucket l qs ≡ bucket k rs = sym x ∙ g in
        let a : l ≡ k = cc in
        let b : qs ≡ rs = cc in
        u (subst₂ (λ j r. Calls d j (prefix_on h j r) e) a b c))

    -- it is a bucket that calls for the entry, and its number is written there
    pub entry_own : (k : ℕ) (rs : List Record) → Holding gs n k rs → Calls d k (prefix_on h k rs) e → entry_at S t e ≡ n + 2 → Entry S h t gs d m e
    entry_own k rs g c p = names n k rs (omega arith) p g c

-- a prefix calls for the entries from its first on, up to the one after its last
pub calls_range : (d k v e : ℕ) → k ≤ d → v < 2 ^ k → Calls d k v e ↔ ((v * 2 ^ (d - k) ≤ e) × (e < (v + 1) * 2 ^ (d - k)))
unfolding first after
calls_range d k v e l b = (
  (λ c. (holds_range d e (pfx k v)).0 c.bits),
  (λ r. record { below = omega (arith, all, most, r.1); bits = (holds_range d e (pfx k v)).1 r }),
)
  where
    all : 2 ^ k * 2 ^ (d - k) ≡ 2 ^ d
    all = let q : k + (d - k) ≡ d = omega arith in sym (pow-add 2 k (d - k)) ∙ ap (λ n. 2 ^ n) q

    most : (v + 1) * 2 ^ (d - k) ≤ 2 ^ k * 2 ^ (d - k)
    most = mul-le-mul_right (2 ^ (d - k)) (omega arith)

-- ---- pages that show rows

-- the deepest depth of a page size
pub deep_small : (S : Shape) → Sized S → S.deepest ≤ 32
deep_small S z = go (side S.deepest 33)
  where
    go : (S.deepest < 33) ⊎ (33 ≤ S.deepest) → S.deepest ≤ 32
    go (inl l) = omega arith
    go (inr l) =
        let m : 2 ^ 33 ≤ 2 ^ S.deepest = pow-le-pow_right (omega arith) l in
        absurd (omega (arith, m, z.deep, z.whole, z.most))

-- an entry that a prefix calls for is that of a hash with the prefix
pub calls_hash : (d k v e : ℕ) → d ≤ 32 → k ≤ d → Calls d k v e → top k (e * 2 ^ (32 - d)) ≡ v
calls_hash d k v e l m c =
    let x : ℕ = e * 2 ^ (32 - d) in
    (holds_top d x (pfx k v) m).0 (subst (λ n. n / 2 ^ (d - k) ≡ v) (sym (entry_hash d e l)) c.bits)

-- of pages that show rows only one calls for an entry
pub one_called : (S : Shape) (h : List ℕ → ℕ) (rows : List Row) (gs : List Page) → Shows S h rows gs → (d : ℕ) → d ≤ 32
    → (i j k l : ℕ) (rs qs : List Record) → k ≤ d → l ≤ d → Holding gs i k rs → Holding gs j l qs
    → (e : ℕ) → Calls d k (prefix_on h k rs) e → Calls d l (prefix_on h l qs) e → i ≡ j
one_called S h rows gs w d b i j k l rs qs kd ld x y e c f =
    one_holder S h rows Any gs (whole S h rows gs w) (e * 2 ^ (32 - d)) i j k l rs qs x y (calls_hash d k (prefix_on h k rs) e b kd c) (calls_hash d l (prefix_on h l qs) e b ld f)

-- ---- depth

pub deepest_le : (gs : List Page) (n : ℕ) → ((i k : ℕ) (rs : List Record) → Holding gs i k rs → k ≤ n) → deepest_in gs ≤ n
unfolding deepest_in
deepest_le [] n f = zero-le
deepest_le (g ∷ gs) n f = go g (f 0) (deepest_le gs n (λ i. f (suc i)))
  where
    go : (g : Page) → ((k : ℕ) (rs : List Record) → g ≡ bucket k rs → k ≤ n) → deepest_in gs ≤ n → max (depth_on g) (deepest_in gs) ≤ n
    go free f l = omega arith
    go (bucket k rs) f l = omega (arith, f k rs refl)

pub deepest_bound : (gs : List Page) (i k : ℕ) (rs : List Record) → Holding gs i k rs → k ≤ deepest_in gs
unfolding deepest_in
deepest_bound [] i k rs e = absurd (free_not e)
deepest_bound (g ∷ gs) zero k rs e = let d : depth_on g ≡ k = ap depth_on e in omega arith
deepest_bound (g ∷ gs) (suc i) k rs e = omega (arith, deepest_bound gs i k rs e)

module _ (S : Shape) (h : List ℕ → ℕ) (hash : Hash h) (rows : List Row) (gs : List Page) (w : Shows S h rows gs) where
  abbrev bs : List Prefix
  bs = buckets S h rows

  -- a page shows a bucket of the list
  pub shown_bucket : (i k : ℕ) (rs : List Record) → Holding gs i k rs → Memᴰ (pfx k (prefix_on h k rs)) bs
  shown_bucket i k rs e = let b = (w.page i k rs e).is in (listed S h hash rows k (prefix_on h k rs)).1 (b, not_deeper S h rows w.fine k (prefix_on h k rs) b)

  -- and each bucket of the list is on a page
  pub bucket_shown : (p : Prefix) → Memᴰ p bs → (i : ℕ) × (rs : List Record) × Holding gs i p.bits rs × (prefix_on h p.bits rs ≡ p.value)
  bucket_shown p m = paged S h rows gs w p.bits p.value ((listed S h hash rows p.bits p.value).0 m).0

  -- the largest depth of a page is that of a bucket
  pub shown_depth : deepest_in gs ≡ depth_of bs
  shown_depth =
      le_antisymm (deepest_le gs (depth_of bs) (λ i k rs e. depth_bound bs (pfx k (prefix_on h k rs)) (shown_bucket i k rs e)))
      (depth_least bs (deepest_in gs) (λ p m. let b = bucket_shown p m in deepest_bound gs b.0 p.bits b.1 b.2))

  pub shown_shallow : deepest_in gs ≤ S.deepest
  shown_shallow = deepest_le gs S.deepest (λ i k rs e. not_deeper S h rows w.fine k (prefix_on h k rs) (w.page i k rs e).is)

  -- ---- entries

  -- two buckets with one entry are one
  pub entry_one : (d e : ℕ) → d ≤ 32 → (p q : Prefix) → Memᴰ p bs → Memᴰ q bs → p.bits ≤ d → q.bits ≤ d → Holds d e p → Holds d e q → p ≡ q
  entry_one d e l p q m n a b x y =
      let z : ℕ = e * 2 ^ (32 - d) in
      let t : (r : Prefix) → r.bits ≤ d → Holds d e r → top r.bits z ≡ r.value = λ r c f. (holds_top d z r c).0 (subst (λ u. u / 2 ^ (d - r.bits) ≡ r.value) (sym (entry_hash d e l)) f) in
      let s = no_overlap S h rows p.bits p.value q.bits q.value z ((listed S h hash rows p.bits p.value).0 m).0 ((listed S h hash rows q.bits q.value).0 n).0 (t p a x) (t q b y) in
      λ i. pfx (s.0 i) (s.1 i)

  pub entry_page : (d e : ℕ) → d ≡ depth_of bs → d ≤ 32 → (i k : ℕ) (rs : List Record) → Holding gs i k rs → Calls d k (prefix_on h k rs) e
      → entry bs d e ≡ some (pfx k (prefix_on h k rs))
  entry_page d e q l i k rs g c =
      let deep : (p : Prefix) → Memᴰ p bs → p.bits ≤ d = λ p m. rw q (depth_bound bs p m) in
      let p : Prefix = pfx k (prefix_on h k rs) in
      let m : Memᴰ p bs = shown_bucket i k rs g in
      entry_complete bs d e p m c.bits (λ r n x. entry_one d e l r p n m (deep r n) (deep p m) x c.bits)

  pub entry_free : (d e : ℕ) → e < 2 ^ d → ((i k : ℕ) (rs : List Record) → Holding gs i k rs → Calls d k (prefix_on h k rs) e → ⊥) → entry bs d e ≡ none
  entry_free d e l f = entry_none bs d e (λ p m x. let b = bucket_shown p m in f b.0 p.bits b.1 b.2 (record { below = l; bits = x ∙ sym b.3 }))

-- ---- an accepted store's entries

module _ (S : Shape) (h : List ℕ → ℕ) (sized : Sized S) (hash : Hash h) (s : List ℕ) (T : Opened S h s) where
  pub accepted_entry : (e : ℕ) → e < S.entries → Entry S h s (contents S s) (dir_depth s) (pages S s - 2) e
  accepted_entry e l = go (T.page1.range e l)
    where
      p : ℕ
      p = entry_at S s e

      i : ℕ
      i = p - 2

      stand : 2 ≤ p → p < pages S s → Stands S h s p → Entry S h s (contents S s) (dir_depth s) (pages S s - 2) e
      stand a b (unused z f) = absurd (f e l refl)
      stand a b (used k d f) =
          let n : p ≡ i + 2 = omega arith in
          let g : Holding (contents S s) i (depth (page S s p)) (rows (page S s p)) = held S s p a b ∙ read_bucket h (page S s p) k in
          names i (depth (page S s p)) (rows (page S s p)) (omega arith) n g
          (((under S h sized hash s T i (depth (page S s p)) (rows (page S s p)) g).names e l).0 n)

      go : (p ≡ 0) ⊎ ((2 ≤ p) × (p < pages S s)) → Entry S h s (contents S s) (dir_depth s) (pages S s - 2) e
      go (inl z) = nothing z (λ i k rs _ g c. let x : p ≡ i + 2 = ((under S h sized hash s T i k rs g).names e l).1 c in omega arith)
      go (inr x) = stand x.0 x.1 (T.stands p x.0 x.1)
