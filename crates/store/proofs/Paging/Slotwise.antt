-- Rows of a table: what they need, where they start when packed, how far they reach. Assumes nothing.
use mathlib.Core.Path.{◌≡◌, refl, ap, ◌∙◌}
use mathlib.Core.List.{List, [], ◌∷◌, ◌++◌, map}
use mathlib.Core.Logic.{◌⊎◌, inl, inr}
use Prim.Native.Nat.{ℕ, zero, suc, ◌+◌, ◌*◌, ◌≤◌, ◌<◌, max, suc-le-suc}
use native.Mathlib.Omega.{arith}
use native.Mathlib.Nat.{le_of_suc-le-suc, not-suc-le-zero}
use lib.ListN.{length}
use Rattle.ground.specs.Lists.{tab, total}
use Rattle.ground.proofs.Tables.{tab_same}
use Rattle.ground.proofs.Sides.{side}
use Rattle.partition.specs.Partition.{Row, need, needs}
use Rattle.page.specs.Page.{Record}
use Rattle.store.specs.Pages.{as_row}
use Rattle.store.specs.Moves.{record_at, pack_from, frontier_of}

pub needs_tab : (g : ℕ → Row) (n : ℕ) → needs (tab g n) ≡ total (λ i. need (g i)) n
unfolding tab total needs
needs_tab g zero = refl
needs_tab g (suc n) = ap (λ m. need (g zero) + m) (needs_tab (λ i. g (suc i)) n)

-- packed: each record starts where those before it end
pub pack_tab : (g : ℕ → Row) (n o : ℕ) → pack_from o (tab g n) ≡ tab (λ i. record_at (o + total (λ j. 8 + length (g j).code) i) (g i)) n
unfolding tab total pack_from
pack_tab g zero o = refl
pack_tab g (suc n) o =
    let l : ℕ → ℕ = λ j. 8 + length (g j).code in
    let e : o ≡ o + 0 = omega arith in
    let rest : pack_from (o + l zero) (tab (λ i. g (suc i)) n) ≡ tab (λ i. record_at (o + total l (suc i)) (g (suc i))) n =
    pack_tab (λ i. g (suc i)) n (o + l zero)
    ∙ tab_same (λ i. record_at (o + l zero + total (λ j. l (suc j)) i) (g (suc i))) (λ i. record_at (o + total l (suc i)) (g (suc i))) n
    (λ i h. let x : o + l zero + total (λ j. l (suc j)) i ≡ o + (l zero + total (λ j. l (suc j)) i) = omega arith in ap (λ k. record_at k (g (suc i))) x) in
    λ k. record_at (e k) (g zero) ∷ rest k

-- the largest of 8 and the records' ends
abbrev end : Record → ℕ
end r = r.start + (8 + length r.code)

pub record Highest (f : ℕ → Record) (n t : ℕ) : Type 0 where
  pub least : 8 ≤ t
  pub most : (i : ℕ) → i < n → end (f i) ≤ t
  pub reached : 8 < t → (i : ℕ) × (i < n) × (end (f i) ≡ t)

-- one record more
higher : (f : ℕ → Record) (n t : ℕ) → Highest (λ i. f (suc i)) n t → Highest f (suc n) (max (end (f zero)) t)
higher f n t H = record { least = omega (arith, H.least); most = most; reached = λ h. reached h (side (end (f zero)) t) }
  where
    most : (i : ℕ) → i < suc n → end (f i) ≤ max (end (f zero)) t
    most zero h = omega arith
    most (suc i) h = omega (arith, H.most i (le_of_suc-le-suc h))

    reached : 8 < max (end (f zero)) t → (end (f zero) < t) ⊎ (t ≤ end (f zero)) → (i : ℕ) × (i < suc n) × (end (f i) ≡ max (end (f zero)) t)
    reached h (inl l) =
        let r : (i : ℕ) × (i < n) × (end (f (suc i)) ≡ t) = H.reached (omega arith) in
        (suc r.0, suc-le-suc r.1, omega (arith, r.2))
    reached h (inr g) = (zero, omega arith, omega arith)

pub highest : (f : ℕ → Record) (n : ℕ) → Highest f n (frontier_of (tab f n))
unfolding tab frontier_of
highest f zero = record { least = omega arith; most = λ i h. absurd (not-suc-le-zero h); reached = λ h. absurd (omega arith) }
highest f (suc n) = let t : ℕ = frontier_of (tab (λ i. f (suc i)) n) in higher f n t (highest (λ i. f (suc i)) n)

-- ---- rows packed one behind another

-- the bytes of the rows' records
unfoldable pub span : List Row → ℕ
span [] = 0
span (r ∷ rs) = 8 + length r.code + span rs

pub needs_span : (rs : List Row) → needs rs ≡ span rs + 4 * length rs
unfolding needs need span
needs_span [] = refl
needs_span (r ∷ rs) = omega (arith, needs_span rs)

-- packed, and read as rows again
pub pack_rows : (rs : List Row) (o : ℕ) → map as_row (pack_from o rs) ≡ rs
unfolding pack_from
pack_rows [] o = refl
pack_rows (r ∷ rs) o = ap (λ l. r ∷ l) (pack_rows rs (o + (8 + length r.code)))

pub pack_more : (rs : List Row) (r : Row) (o : ℕ) → pack_from o (rs ++ r ∷ []) ≡ pack_from o rs ++ record_at (o + span rs) r ∷ []
unfolding pack_from span
pack_more [] r o = let e : o ≡ o + 0 = omega arith in ap (λ k. record_at k r ∷ []) e
pack_more (q ∷ rs) r o =
    let l : ℕ = 8 + length q.code in
    let e : o + l + span rs ≡ o + (l + span rs) = omega arith in
    ap (λ t. record_at o q ∷ t) (pack_more rs r (o + l) ∙ ap (λ k. pack_from (o + l) rs ++ record_at k r ∷ []) e)

-- packed records reach as far as their bytes
pub pack_top : (rs : List Row) (o : ℕ) → 8 ≤ o → max o (frontier_of (pack_from o rs)) ≡ o + span rs
unfolding pack_from span frontier_of
pack_top [] o h = omega arith
pack_top (r ∷ rs) o h =
    let l : ℕ = 8 + length r.code in
    omega (arith, pack_top rs (o + (8 + length r.code)) (omega arith))
