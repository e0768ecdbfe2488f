-- The tally after k codes. Assumes nothing.
use Prim.Native.Nat.{ℕ, zero, suc, ◌+◌, ◌*◌, ◌<◌, ◌≤◌}
use mathlib.Core.Path.{◌≡◌, refl, sym, ap, subst, ◌∙◌}
use mathlib.Core.Bool.{Bool, true, false, cond}
use mathlib.Core.List.{List, [], ◌∷◌, map}
use mathlib.Core.Option.{some, none}
use native.Mathlib.Nat.{le_of_suc-le-suc, not-suc-le-zero}
use native.Mathlib.Omega.{arith}
use lib.Dec.{ltb}
use lib.ListN.{length, get_or, set, drop, get_elem?, length-set, drop_of_length-le}
use Rattle.ground.proofs.Tests.{none_some}
use Rattle.partition.specs.Partition.{Row}
use Rattle.store.proofs.Demands.Settled.{some_one}
use Rattle.report.specs.Numbers.{rank_on, AtMost, index_of, mark_at, tallied}
use Rattle.report.proofs.Ranks.{lt_yes, lt_no}

drop_suc : (xs : List ℕ) (i : ℕ) → i < length xs → drop i xs ≡ get_or {A = ℕ} xs i 0 ∷ drop (suc i) xs
drop_suc [] i l = absurd (not-suc-le-zero l)
drop_suc (x ∷ xs) zero l = refl
drop_suc (x ∷ xs) (suc i) l = drop_suc xs i (le_of_suc-le-suc l)

pub drop_at : (xs : List ℕ) (i : ℕ) → i < length xs → drop i xs ≡ get_or {A = ℕ} xs i 0 ∷ drop (i + 1) xs
drop_at xs i l = let e : suc i ≡ i + 1 = omega arith in drop_suc xs i l ∙ ap (λ (j : ℕ). get_or {A = ℕ} xs i 0 ∷ drop j xs) e

-- the row at place k of a listing, as a number
pub listed_below : (rs : List Row) (k : ℕ) (r : Row) → get_elem? rs k ≡ some r → k < length rs
listed_below [] k r e = absurd (none_some refl e)
listed_below (q ∷ rs) zero r e = omega arith
listed_below (q ∷ rs) (suc k) r e = let l : k < length rs = listed_below rs k r e in omega (arith, l)

pub unlisted : (rs : List Row) (k : ℕ) → get_elem? rs k ≡ none → length rs ≤ k
unlisted [] k e = omega arith
unlisted (q ∷ rs) zero e = absurd (none_some e refl)
unlisted (q ∷ rs) (suc k) e = let l : length rs ≤ k = unlisted rs k e in omega (arith, l)

pub listed_rank : (rs : List Row) (k : ℕ) (r : Row) → get_elem? rs k ≡ some r → get_or {A = ℕ} (map rank_on rs) k 0 ≡ rank_on r
listed_rank [] k r e = absurd (none_some refl e)
listed_rank (q ∷ rs) zero r e = ap rank_on (some_one q r refl e)
listed_rank (q ∷ rs) (suc k) r e = listed_rank rs k r e

mark_length : (cs : List ℕ) (i : ℕ) (t : Bool) → length (cond t (set cs i (get_or cs i 0 + 1)) cs) ≡ length cs
mark_length cs i true = length-set cs i (get_or cs i 0 + 1)
mark_length cs i false = refl

pub length_mark : (cs : List ℕ) (i : ℕ) → length (mark_at cs i) ≡ length cs
length_mark cs i = mark_length cs i (ltb (get_or cs i 0) 2)

pub record Going (ps ls ws cs₀ cs : List ℕ) (k sum : ℕ) : Type 0 where
  pub k_le : k ≤ length ws
  pub sum_le : sum ≤ k * 2000000000000
  pub len : length cs ≡ length ps
  pub same : tallied ps ls (drop k ws) k sum cs ≡ tallied ps ls ws 0 0 cs₀

pub going_start : (ps ls ws cs₀ : List ℕ) → length cs₀ ≡ length ps → Going ps ls ws cs₀ cs₀ 0 0
going_start ps ls ws cs₀ e = record { k_le = omega arith; sum_le = omega arith; len = e; same = refl }

module _ {ps ls ws cs₀ cs : List ℕ} {k sum : ℕ} (g : Going ps ls ws cs₀ cs k sum) where
  abbrev w : ℕ
  w = get_or {A = ℕ} ws k 0

  one_code : k < length ws → (t : Bool) → ltb (index_of w ps) (length ps) ≡ t
      → tallied ps ls (drop k ws) k sum cs ≡ cond t (tallied ps ls (drop (k + 1) ws) (k + 1) (sum + get_or {A = ℕ} ls (index_of w ps) 0) (mark_at cs (index_of w ps))) (k, (sum, cs))
  one_code l t e = ap (λ (vs : List ℕ). tallied ps ls vs k sum cs) (drop_at ws k l)
      ∙ ap (λ (t : Bool). cond t (tallied ps ls (drop (k + 1) ws) (k + 1) (sum + get_or {A = ℕ} ls (index_of w ps) 0) (mark_at cs (index_of w ps))) (k, (sum, cs))) e

  pub going_stop : k < length ws → (i : ℕ) → i ≡ index_of w ps → length ps ≤ i → (k, (sum, cs)) ≡ tallied ps ls ws 0 0 cs₀
  going_stop l i e h = sym (one_code l false (lt_no (index_of w ps) (length ps) (subst (λ (j : ℕ). length ps ≤ j) e h))) ∙ g.same

  pub going_end : length ws ≤ k → (k, (sum, cs)) ≡ tallied ps ls ws 0 0 cs₀
  going_end h = sym (ap (λ (vs : List ℕ). tallied ps ls vs k sum cs) (drop_of_length-le ws h)) ∙ g.same

  going_next : k < length ws → AtMost 2000000000000 ls → length ls ≡ length ps → (i : ℕ) → i ≡ index_of w ps → i < length ps → (cs' : List ℕ) → cs' ≡ mark_at cs i → Going ps ls ws cs₀ cs' (k + 1) (sum + get_or {A = ℕ} ls i 0)
  going_next l a m i e h cs' f = record {
    k_le = omega (arith, l);
    sum_le = let b : get_or {A = ℕ} ls i 0 ≤ 2000000000000 = a.le i (omega (arith, h, m)) in omega (arith, g.sum_le, b);
    len = ap (λ (v : List ℕ). length v) f ∙ length_mark cs i ∙ g.len;
    same = ap (λ (v : List ℕ). tallied ps ls (drop (k + 1) ws) (k + 1) (sum + get_or {A = ℕ} ls i 0) v) f
        ∙ ap (λ (j : ℕ). tallied ps ls (drop (k + 1) ws) (k + 1) (sum + get_or {A = ℕ} ls j 0) (mark_at cs j)) e
        ∙ sym (one_code l true (lt_yes (index_of w ps) (length ps) (subst (λ (j : ℕ). j < length ps) e h))) ∙ g.same;
  }

  -- the same, of numbers that are known by equations
  pub going_to : k < length ws → AtMost 2000000000000 ls → length ls ≡ length ps → (i : ℕ) → i ≡ index_of w ps → i < length ps → (cs' : List ℕ) → cs' ≡ mark_at cs i
      → (k' s' : ℕ) → k' ≡ k + 1 → s' ≡ sum + get_or {A = ℕ} ls i 0 → Going ps ls ws cs₀ cs' k' s'
  going_to l a m i e h cs' f k' s' ek es = subst (λ (n : ℕ). Going ps ls ws cs₀ cs' n s') (sym ek) (subst (λ (n : ℕ). Going ps ls ws cs₀ cs' (k + 1) n) (sym es) (going_next l a m i e h cs' f))
