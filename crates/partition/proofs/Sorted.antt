-- Reordered rows are the same map; the rows in order: they are the rows, strictly ascending, whatever order the rows came in.
-- Assumes nothing.
use mathlib.Core.Path.{◌≡◌, refl, sym, ap, subst, ◌∙◌}
use mathlib.Core.Bool.{Bool, true, false}
use mathlib.Core.List.{List, [], ◌∷◌, ◌++◌, flat_map, Memᴰ}
use mathlib.Core.Option.{Option, some, none}
use Prim.Native.Nat.{ℕ, Ordering}
use lib.Dec.{eqb}
use Rattle.words.specs.Codes.{order, Before}
use Rattle.words.proofs.Orders.{order_refl, order_eq, irrefl}
use Rattle.partition.specs.Bits.{top}
use Rattle.partition.specs.declared.Shape.{Shape}
use Rattle.partition.specs.Partition.{Row, Prefix, Reordered, empty, front, swap, chain, keep, rows_of, buckets}
use Rattle.partition.specs.Listing.{by, insert, in_order, listing, place_of, Once, Rising}
use Rattle.partition.proofs.Laws.{reordered}
use Rattle.partition.proofs.Sum.{prefix_row}
use Rattle.partition.proofs.Reorders.{rows_same, same_order, turned, mem_reordered}
use Rattle.partition.proofs.Maps.{passed, cut, cut_same, absent, missing}
use Rattle.partition.proofs.Rising.{by_ne, Ahead, rising_ext, insert_ahead, insert_rising, without_rising}

crossed : (o p : Ordering) (m : Option (List ℕ)) (a b : List ℕ) → (o ≡ Ordering.eq → p ≡ Ordering.eq → ⊥)
    → by o (by p m (some b) m) (some a) (by p m (some b) m) ≡ by p (by o m (some a) m) (some b) (by o m (some a) m)
crossed Ordering.lt Ordering.lt m a b f = refl
crossed Ordering.lt Ordering.eq m a b f = refl
crossed Ordering.lt Ordering.gt m a b f = refl
crossed Ordering.eq Ordering.lt m a b f = refl
crossed Ordering.eq Ordering.eq m a b f = absurd (f refl refl)
crossed Ordering.eq Ordering.gt m a b f = refl
crossed Ordering.gt Ordering.lt m a b f = refl
crossed Ordering.gt Ordering.eq m a b f = refl
crossed Ordering.gt Ordering.gt m a b f = refl

pub same_map : {rs qs : List Row} → Reordered rs qs → Once rs → Once qs × ((c : List ℕ) → place_of rs c ≡ place_of qs c)
unfolding place_of
same_map empty o = (tt, (λ c. refl))
same_map (front r p) o =
    let i = same_map p o.1 in
    ((sym (i.1 r.code) ∙ o.0, i.0), (λ c. ap (λ m. by (order c r.code) m (some r.place) m) (i.1 c)))
same_map (swap {rs = rs} {qs = qs} r q p) o =
    let i = same_map p o.1.1 in
    let t = passed (order r.code q.code) (place_of rs r.code) q.place o.0 in
    let apart : (c : List ℕ) → order c r.code ≡ Ordering.eq → order c q.code ≡ Ordering.eq → ⊥
    = λ c x y. t.0 (subst (λ d. order d q.code ≡ Ordering.eq) (order_eq c r.code x) y) in (
      (
        (by_ne (order q.code r.code) (place_of qs q.code) (some r.place) (λ x. apart q.code x (order_refl q.code)) ∙ sym (i.1 q.code) ∙ o.1.0),
        (sym (i.1 r.code) ∙ t.1, i.0),
      ),
      (λ c. crossed (order c r.code) (order c q.code) (place_of rs c) r.place q.place (apart c)
          ∙ ap (λ m. by (order c q.code) (by (order c r.code) m (some r.place) m) (some q.place) (by (order c r.code) m (some r.place) m)) (i.1 c)),
    )
same_map (chain p q) o = let i = same_map p o in let j = same_map q i.0 in (j.0, (λ c. i.1 c ∙ j.1 c))

-- rows go by their codes
abbrev pub by_code : Row → List ℕ
by_code q = q.code

-- ---- the rows in order

insert_reordered : (r : Row) (l : List Row) → Reordered (insert by_code r l) (r ∷ l)
unfolding insert
insert_reordered r [] = same_order (r ∷ [])
insert_reordered r (q ∷ l) = go (order r.code q.code) (insert_reordered r l)
  where
    go : (o : Ordering) → Reordered (insert by_code r l) (r ∷ l) → Reordered (by o (r ∷ q ∷ l) (r ∷ q ∷ l) (q ∷ insert by_code r l)) (r ∷ q ∷ l)
    go Ordering.lt i = same_order (r ∷ q ∷ l)
    go Ordering.eq i = same_order (r ∷ q ∷ l)
    go Ordering.gt i = chain (front q i) (swap q r (same_order l))

-- they are the rows
pub in_order_reordered : (rs : List Row) → Reordered (in_order rs) rs
unfolding in_order
in_order_reordered [] = empty
in_order_reordered (r ∷ rs) = chain (insert_reordered r (in_order rs)) (front r (in_order_reordered rs))

-- strictly ascending
pub order_rising : (rs : List Row) → Once rs → Rising by_code (in_order rs)
unfolding in_order
order_rising [] o = tt
order_rising (r ∷ rs) o =
    insert_rising by_code r (in_order rs)
    (λ b m e. absent rs r.code o.0 b (mem_reordered (in_order_reordered rs) m) (order_eq r.code b.code e))
    (order_rising rs o.1)

-- rows that ascend have no code twice, and are their own order
pub rising_once : (rs : List Row) → Rising by_code rs → Once rs
rising_once [] u = tt
rising_once (r ∷ rs) u = (missing rs r.code (λ q m e. irrefl r.code (subst (λ c. Before r.code c) (sym e) (u.0 q m))), rising_once rs u.1)

pub order_own : (rs : List Row) → Rising by_code rs → in_order rs ≡ rs
unfolding in_order
order_own [] u = refl
order_own (r ∷ rs) u = ap (insert by_code r) (order_own rs u.1) ∙ insert_ahead by_code r rs u.0

-- the order of the rows does not matter
pub order_same : {rs qs : List Row} → Reordered rs qs → Once rs → in_order rs ≡ in_order qs
order_same {rs} {qs} p o =
    rising_ext by_code (in_order rs) (in_order qs) (order_rising rs o) (order_rising qs (same_map p o).0)
    (λ a m. mem_reordered (turned (in_order_reordered qs)) (mem_reordered p (mem_reordered (in_order_reordered rs) m)))
    (λ a m. mem_reordered (turned (in_order_reordered rs)) (mem_reordered (turned p) (mem_reordered (in_order_reordered qs) m)))

-- rows that ascend are the order of their reorderings
pub order_is : {rs qs : List Row} → Reordered rs qs → Rising by_code qs → in_order rs ≡ qs
order_is {rs} {qs} p u = order_same p (same_map (turned p) (rising_once qs u)).0 ∙ order_own qs u

-- a row more goes in at its place, a code less goes out
pub order_put : (r : Row) (rs : List Row) → in_order (r ∷ rs) ≡ insert by_code r (in_order rs)
unfolding in_order
order_put r rs = refl

pub order_cut : (c : List ℕ) (rs : List Row) → Once rs → in_order (cut c rs) ≡ cut c (in_order rs)
order_cut c rs o = order_is (cut_same c (turned (in_order_reordered rs))) (without_rising by_code c (in_order rs) (order_rising rs o))

-- ---- and of a prefix

module _ (h : List ℕ → ℕ) (k v : ℕ) where
  within : (rs : List Row) (r : Row) → Memᴰ r (rows_of h rs k v) → Memᴰ r rs
  within rs r m = (prefix_row h rs k v r m).0

  pub some_none : (rs : List Row) (c : List ℕ) → place_of rs c ≡ none → place_of (rows_of h rs k v) c ≡ none
  some_none rs c e = missing (rows_of h rs k v) c (λ r m. absent rs c e r (within rs r m))

  pub some_once : (rs : List Row) → Once rs → Once (rows_of h rs k v)
  unfolding rows_of
  some_once [] o = tt
  some_once (q ∷ rs) o = go (eqb (top k (h q.code)) v) (some_none rs q.code o.0) (some_once rs o.1)
    where
      go : (t : Bool) → place_of (rows_of h rs k v) q.code ≡ none → Once (rows_of h rs k v) → Once (keep t q (rows_of h rs k v))
      go true e i = (e, i)
      go false e i = i

  pub rising_prefix : (rs : List Row) → Rising by_code rs → Rising by_code (rows_of h rs k v)
  unfolding rows_of
  rising_prefix [] u = tt
  rising_prefix (q ∷ rs) u = go (eqb (top k (h q.code)) v) (λ r m. u.0 r (within rs r m)) (rising_prefix rs u.1)
    where
      go : (t : Bool) → Ahead by_code q (rows_of h rs k v) → Rising by_code (rows_of h rs k v) → Rising by_code (keep t q (rows_of h rs k v))
      go true a i = (a, i)
      go false a i = i

  -- ordered rows need no sort for a prefix
  pub order_prefix : (rs : List Row) → Once rs → in_order (rows_of h rs k v) ≡ rows_of h (in_order rs) k v
  order_prefix rs o = order_is (rows_same h k v (turned (in_order_reordered rs))) (rising_prefix (in_order rs) (order_rising rs o))

pub bucket_same : (h : List ℕ → ℕ) (rs qs : List Row) → Reordered rs qs → Once rs → (k v : ℕ) → in_order (rows_of h rs k v) ≡ in_order (rows_of h qs k v)
bucket_same h rs qs p o k v = order_same (rows_same h k v p) (some_once h k v rs o)

flat_same : (f g : Prefix → List Row) → ((p : Prefix) → f p ≡ g p) → (ps : List Prefix) → flat_map f ps ≡ flat_map g ps
unfolding flat_map
flat_same f g e [] = refl
flat_same f g e (p ∷ ps) = ap (λ l. l ++ flat_map f ps) (e p) ∙ ap (λ l. g p ++ l) (flat_same f g e ps)

module _ (S : Shape) (h : List ℕ → ℕ) (rs qs : List Row) (p : Reordered rs qs) (o : Once rs) where
  pub listing_same : listing S h rs ≡ listing S h qs
  unfolding listing
  listing_same =
      flat_same (λ p. in_order (rows_of h rs p.bits p.value)) (λ p. in_order (rows_of h qs p.bits p.value)) (λ x. bucket_same h rs qs p o x.bits x.value) (buckets S h rs)
      ∙ ap (flat_map (λ p. in_order (rows_of h qs p.bits p.value))) (reordered S h p)
