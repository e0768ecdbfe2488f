-- Pages that lie in a run of zeros. Assumes nothing.
use mathlib.Core.Path.{◌≡◌, sym, ap, subst, ◌∙◌}
use mathlib.Core.List.{List}
use mathlib.Core.Logic.{⊎_elim}
use Prim.Native.Nat.{ℕ, zero, suc, ◌+◌, ◌-◌, ◌*◌, ◌/◌, ◌%◌, ◌≤◌, ◌<◌}
use native.Mathlib.Omega.{arith}
use native.Mathlib.Nat.{zero-mul, suc-mul, mul-le-mul_right, div-mul-le_self, le-div_iff_mul-le, lt-div-mul-add}
use lib.ListN.{length, get_or, get_or-eq_default}
use Rattle.ground.specs.Lists.{byte}
use Rattle.ground.proofs.Sides.{side}
use Rattle.words.specs.Zeros.{Zero, ZeroRun}
use Rattle.partition.specs.declared.Shape.{Shape}
use Rattle.store.specs.Pages.{size, pages, page}
use Rattle.store.proofs.Accepted.Unique.{within, page_long}
use Rattle.store.proofs.Paging.Depths.{page_byte}
use Rattle.store.proofs.Paging.Views.{apart}
use Rattle.store_check.specs.First.{FirstFrom}
use Rattle.store_check.specs.Begun.{SkipAsked, FreeAndUnnamed}

-- so many pages of whole blocks are whole blocks
whole_blocks : (k m : ℕ) → m % 1024 ≡ 0 → (k * m) % 1024 ≡ 0
whole_blocks zero m h = ap (λ x. x % 1024) (zero-mul m)
whole_blocks (suc k) m h = omega (arith, suc-mul k m, whole_blocks k m h)

-- from page p on zeros up to e, as whole blocks: the pages before e's are zero, e's is not
module _ (S : Shape) (s counts : List ℕ) (p : ℕ) (K : SkipAsked S s counts p) (e : ℕ) (Z : ZeroRun s (p * size S) e) where
  abbrev last : ℕ
  last = e / size S

  pub run_from : p ≤ e / size S
  run_from = (le-div_iff_mul-le {k = size S} {x = p} {y = e} (omega arith)).1 Z.from

  under : e / size S * size S ≤ e
  under = div-mul-le_self e (size S)

  over : e < e / size S * size S + size S
  over = lt-div-mul-add {a = e} {b = size S} (omega arith)

  pub run_to : e / size S ≤ pages S s
  run_to = ⊎_elim
      (λ lt. absurd (omega (arith, apart (size S) (pages S s) (e / size S) lt, under, Z.to, lt-div-mul-add {a = length s} {b = size S} (omega arith))))
      (λ ge. ge)
      (side (pages S s) (e / size S))

  zero_page : (j : ℕ) → p ≤ j → j < e / size S → Zero (page S s j)
  zero_page j a b k = ⊎_elim
      (λ lt. page_byte S s j k lt ∙ Z.zero (j * size S + k) (omega (arith, mul-le-mul_right {m = p} {n = j} (size S) a)) (omega (arith, apart (size S) j (e / size S) b, under)))
      (λ ge. let long : length (page S s j) ≤ k = omega (arith, page_long S s j (omega (arith, run_to))) in get_or-eq_default (page S s j) 0 long)
      (side k (size S))

  ends_page : e / size S < pages S s → Zero (page S s (e / size S)) → ⊥
  ends_page l z =
      let q : ℕ = e / size S in
      let there : q * size S + size S ≤ length s = within S s q l in
      let room : e + 1024 ≤ q * size S + size S = omega (arith, Z.from, Z.blocks, K.blocks, whole_blocks q (size S) K.blocks, whole_blocks p (size S) K.blocks, under, over) in
      Z.last (omega arith) (λ k a b.
      let n : q * size S + (k - q * size S) ≡ k = omega (arith, under) in
      ap (byte s) (sym n) ∙ sym (page_byte S s q (k - q * size S) (omega (arith, under))) ∙ z (k - q * size S))

  pub skipped : {r : ℕ} → FirstFrom p (e / size S) (λ k. get_or counts k 0 ≡ 0) r → FirstFrom p (pages S s) (λ k. FreeAndUnnamed (page S s k) counts k) r
  skipped {r} F = record {
    within = omega (arith, F.within, run_to);
    start = F.start;
    before = λ k l a. record { zero = zero_page k a (omega (arith, F.within)); unnamed = F.before k l a };
    bad = λ l f. ⊎_elim
        (λ lt. F.bad lt f.unnamed)
        (λ ge. let same : r ≡ e / size S = omega (arith, F.within) in ends_page (omega arith) (subst (λ j. Zero (page S s j)) same f.zero))
        (side r (e / size S));
  }
