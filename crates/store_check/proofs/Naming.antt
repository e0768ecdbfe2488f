-- The entries that a prefix calls for are one run. Assumes nothing.
use mathlib.Core.Path.{◌≡◌, sym, subst₂, ◌∙◌}
use mathlib.Core.List.{List}
use mathlib.Core.Logic.{⊎_elim}
use Prim.Native.Nat.{ℕ, ◌-◌, ◌^◌, ◌≤◌, ◌<◌}
use native.Mathlib.Omega.{arith}
use lib.Pow.{pow_mono}
use lib.ListN.{length, get_or}
use Rattle.ground.proofs.Sides.{side}
use Rattle.partition.specs.declared.Shape.{Shape}
use Rattle.partition.specs.Sizes.{Sized}
use Rattle.partition.specs.Partition.{first, after}
use Rattle.partition.proofs.Tree.{pfx}
use Rattle.partition.proofs.Directory.{holds_range}
use Rattle.store_check.specs.Directory.{AllAre, NoneIs, NamesCounted, Named}
use Rattle.store_check.proofs.Counts.{Exactly, exactly_counted, counted_exactly}

-- a directory has no more entries than page 1 has room for
pub room : (S : Shape) → Sized S → (d : ℕ) → d ≤ S.deepest → 2 ^ d ≤ S.entries
room S z d l = let m : 2 ^ d ≤ 2 ^ S.deepest = pow_mono l in omega (arith, z.deep)

module _ (dir : List ℕ) (d p : ℕ) (some : 2 ≤ p) (beyond : AllAre dir (2 ^ d) (length dir) 0) where
  to_named : (k v : ℕ) → Exactly dir (2 ^ d) (first d (pfx k v)) (after d (pfx k v)) p → Named dir d k v p
  to_named k v e i l = (
    (λ q. ⊎_elim
        (λ lt. record { below = lt; bits = (holds_range d i (pfx k v)).1 ((e i lt).0 q) })
        (λ ge. absurd (omega (arith, beyond i ge l))) (side i (2 ^ d))),
    (λ c. (e i c.below).1 ((holds_range d i (pfx k v)).0 c.bits)),
  )

  of_named : (k v : ℕ) → 2 ^ d ≤ length dir → Named dir d k v p → Exactly dir (2 ^ d) (first d (pfx k v)) (after d (pfx k v)) p
  of_named k v m n i l = (
    (λ q. (holds_range d i (pfx k v)).0 ((n i (omega arith)).0 q).bits),
    (λ r. (n i (omega arith)).1 (record { below = l; bits = (holds_range d i (pfx k v)).1 r })),
  )

  module _ (n : ℕ) (counts : List ℕ) (C : NamesCounted dir (2 ^ d) n counts) (last : p < n) (fits : 2 ^ d ≤ length dir) where
    -- the run all p, and its length the number of entries that are p
    module _ (k v a b : ℕ) (begins : a ≡ first d (pfx k v)) (ends : b ≡ after d (pfx k v)) (up : a ≤ b) (within : b ≤ 2 ^ d) where
      pub run_named : AllAre dir a b p → get_or counts p 0 ≡ b - a → Named dir d k v p
      run_named all e = to_named k v (subst₂ (λ x y. Exactly dir (2 ^ d) x y p) begins ends (exactly_counted dir (2 ^ d) p a b up within all (sym (C.each p last) ∙ e)))

      pub named_run : Named dir d k v p → AllAre dir a b p × (get_or counts p 0 ≡ b - a)
      named_run n =
          let y = counted_exactly dir (2 ^ d) p a b up within (subst₂ (λ x y. Exactly dir (2 ^ d) x y p) (sym begins) (sym ends) (of_named k v fits n)) in
          (y.0, C.each p last ∙ y.1)

    -- a page that no entry names
    pub unnamed : get_or counts p 0 ≡ 0 → NoneIs dir 0 (length dir) p
    unnamed e i a l q = ⊎_elim
        (λ lt. let y = (exactly_counted dir (2 ^ d) p 0 0 (omega arith) (omega arith) (λ j x y. absurd (omega arith)) (sym (C.each p last) ∙ e) i lt).0 q in omega (arith, y.1))
        (λ ge. omega (arith, beyond i ge l)) (side i (2 ^ d))

    pub none_named : NoneIs dir 0 (length dir) p → get_or counts p 0 ≡ 0
    none_named n = C.each p last ∙ (counted_exactly dir (2 ^ d) p 0 0 (omega arith) (omega arith) (λ i l. ((λ q. absurd (n i (omega arith) (omega arith) q)), (λ x. absurd (omega (arith, x.1)))))).1
