-- A bucket that one row more does not fit: the buckets that come in its place are worked out from its own rows and the new one, in any order of them.
-- Assumes nothing.
use mathlib.Core.Path.{◌≡◌, sym, ap, ◌∙◌, subst}
use mathlib.Core.Logic.{◌⊎◌, inl, inr, ◌↔◌}
use mathlib.Core.List.Memᴰ
use mathlib.Core.List.{List, ◌∷◌, Memᴰ}
use Prim.Native.Nat.{ℕ, zero, suc, ◌+◌, ◌/◌, ◌^◌, ◌≤◌, ◌<◌}
use native.Mathlib.Nat.{le_refl}
use native.Mathlib.Decide.{dec_le}
use native.Mathlib.Omega.{arith}
use Rattle.partition.specs.Bits.{top}
use Rattle.partition.specs.declared.Shape.{Shape}
use Rattle.partition.specs.Partition.{Row, need, needs, rows_of, IsBucket, Reordered, front}
use Rattle.partition.specs.Listing.{in_order, Once}
use Rattle.partition.proofs.Bits.{top_step}
use Rattle.partition.proofs.Tree.{Under, half_shr}
use Rattle.partition.proofs.Path.{path_under}
use Rattle.partition.proofs.Rows.{load, load_on, same_bucket}
use Rattle.partition.proofs.Laws.{share_fewer, bucket_shallowest, load_reordered, rows_below, add_splits}
use Rattle.partition.proofs.Splice.{rows_cons}
use Rattle.partition.proofs.Sum.{prefix_row, head_of}
use Rattle.partition.proofs.Pages.{rows_every}
use Rattle.partition.proofs.Reorders.{turned, mem_reordered}
use Rattle.partition.proofs.Sorted.{some_none, some_once, bucket_same}

-- one bit longer than a prefix at or below another, which is not that one itself
under_down : (j w i v : ℕ) → Under j w (suc i) v → j ≤ i → Under j w i (v / 2)
under_down j w i v u l = go u.more u.deep u.cut
  where
    go : (m : ℕ) → suc i ≡ j + m → v / 2 ^ m ≡ w → Under j w i (v / 2)
    go zero e c = absurd (omega arith)
    go (suc m) e c = record { more = m; deep = omega arith; cut = half_shr v m ∙ c }

module _ (S : Shape) (h : List ℕ → ℕ) (small : (c : List ℕ) → h c < 2 ^ 32) (r : Row) (rs : List Row) (k : ℕ) (ts : List Row) (same : Reordered ts (rows_of h rs k (top k (h r.code)))) where
  abbrev x : ℕ
  x = h r.code

  abbrev v : ℕ
  v = top k (h r.code)

  -- at or below the prefix they are all the rows
  rows_same : (l w : ℕ) → Under k v l w → rows_of h (r ∷ rows_of h rs k v) l w ≡ rows_of h (r ∷ rs) l w
  rows_same l w u = rows_cons h r (rows_of h rs k v) rs l w (rows_below S h rs k v l w u)

  pub load_same : (l w : ℕ) → Under k v l w → load h (r ∷ ts) l w ≡ load h (r ∷ rs) l w
  load_same l w u = load_reordered S h (front r same) l w ∙ ap needs (rows_same l w u)

  pub order_below : Once (r ∷ rs) → (l w : ℕ) → Under k v l w → in_order (rows_of h (r ∷ ts) l w) ≡ in_order (rows_of h (r ∷ rs) l w)
  order_below o l w u =
      sym (bucket_same h (r ∷ rows_of h rs k v) (r ∷ ts) (turned (front r same)) (some_none h k v rs r.code o.0, some_once h k v rs o.1) l w)
      ∙ ap in_order (rows_same l w u)

  self : Under k v k v
  self = path_under (λ i. top i x) (top_step x) k k (le_refl k)

  of_page : (q : Row) → Memᴰ q (r ∷ ts) → top k (h q.code) ≡ v
  of_page q m = go (Memᴰ.cases_cons m)
    where
      go : (q ≡ r) ⊎ Memᴰ q ts → top k (h q.code) ≡ v
      go (inl e) = ap (λ y. top k (h y.code)) e
      go (inr t) = (prefix_row h rs k v q (mem_reordered same t)).1

  module _ (b : IsBucket S h rs k (top k (h r.code))) (heavy : S.capacity < need r + needs (rows_of h rs k (top k (h r.code)))) where
    -- a shorter prefix has them all, and they do not fit
    all_heavy : (l : ℕ) → l ≤ k → S.capacity < load h (r ∷ ts) l (top l x)
    all_heavy l le =
        let all : (i : ℕ) → i ≤ k → rows_of h (r ∷ ts) i (top i x) ≡ r ∷ ts = λ i j. rows_every h (r ∷ ts) i (top i x) (λ q m. share_fewer (h q.code) x i k j (of_page q m)) in
        let e : load h (r ∷ ts) l (top l x) ≡ load h (r ∷ ts) k v = ap needs (all l le ∙ sym (all k (le_refl k))) in
        omega (arith, load_same k v self, load_on h r rs k)

    deeper : (l w : ℕ) → IsBucket S h (r ∷ ts) l w → (k < l) × Under k v l w
    deeper l w c = go (dec_le l k)
      where
        q : (q : Row) × Memᴰ q (rows_of h (r ∷ ts) l w)
        q = head_of (rows_of h (r ∷ ts) l w) c.has

        at : Memᴰ q.0 (r ∷ ts) × (top l (h q.0.code) ≡ w)
        at = prefix_row h (r ∷ ts) l w q.0 q.1

        go : Dec (l ≤ k) → (k < l) × Under k v l w
        go (yes le) =
            let e : top l x ≡ w = sym (share_fewer (h q.0.code) x l k le (of_page q.0 at.0)) ∙ at.1 in
            absurd (omega (arith, subst (λ n. S.capacity < load h (r ∷ ts) l n) e (all_heavy l le), c.fit))
        go (no n) =
            let y = h q.0.code in
            let u : Under k (top k y) l (top l y) = path_under (λ i. top i y) (top_step y) k l (omega arith) in
            (omega arith, subst (λ m. Under k v l m) at.1 (subst (λ m. Under k m l (top l y)) (of_page q.0 at.0) u))

    parent : (l w : ℕ) → k < l → Under k v l w → (j : ℕ) → l ≡ suc j → Under k v j (w / 2)
    parent l w p u j e = under_down k v j w (subst (λ n. Under k v n w) e u) (omega arith)

    -- the buckets at or below the prefix, and no others
    pub below : (l w : ℕ) → IsBucket S h (r ∷ ts) l w ↔ (IsBucket S h (r ∷ rs) l w × Under k v l w)
    below l w = (
      (λ c. let d = deeper l w c in
          (same_bucket S h (r ∷ ts) (r ∷ rs) l w (load_same l w d.1) (λ j e. load_same j (w / 2) (parent l w d.0 d.1 j e)) c, d.1)),
      (λ c. let p = add_splits S h r rs k (bucket_shallowest S h rs x k b) heavy l w c.1 c.0 in
          same_bucket S h (r ∷ rs) (r ∷ ts) l w (sym (load_same l w c.1)) (λ j e. sym (load_same j (w / 2) (parent l w p c.1 j e))) c.0),
    )
