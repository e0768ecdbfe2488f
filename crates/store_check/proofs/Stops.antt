-- The passes' answers, put together: where the check stops, and that a store with no bad page is accepted. Assumes nothing.
use mathlib.Core.Path.{refl}
use mathlib.Core.List.{List, [], ◌∷◌}
use mathlib.Core.Logic.{inl}
use Prim.Native.Nat.{ℕ}
use native.Mathlib.Omega.{arith}
use Rattle.partition.specs.declared.Shape.{Shape}
use Rattle.store.specs.Pages.{pages}
use Rattle.store.specs.Accepted.{GoodLength, Page0From, Page0, Page1, Stands, Parted, Deepest, rule, rules, Broken}
use Rattle.store.specs.Counts.{Counts}
use Rattle.store.specs.Demands.{Below}
use Rattle.store.proofs.Accepted.Rules.{at_first, at_second, at_depth, all_in_turn, stops_more, every_more, stops_last}
use Rattle.store_check.specs.First.{FirstFrom, FirstBad, JudgedFrom, Judged}
use Rattle.std.specs.Prelude.{Some, None}

-- those before the first bad one are not
before : (n : ℕ) (P : ℕ → Type 0) (p : ℕ) → FirstFrom 2 n P p → Below p P
before n P p f q a b = f.before q b a

module _ (zeros : ℕ) (S : Shape) (h : List ℕ → ℕ) (s : List ℕ) (long : GoodLength S s) where
  abbrev Zeroth : Type 0
  Zeroth = Page0From zeros S s

  module _ (zeroth : Zeroth) where
    module _ (first : Page1 S s) where
      pub bad_up : (p : ℕ) → FirstBad (pages S s) (Stands S h s) (Some p) → JudgedFrom zeros S h s (Some p)
      bad_up p (l, f) = (l, at_first S h s Zeroth zeroth first p f.start l (before (pages S s) (Stands S h s) p f) (f.bad l))

      module _ (stands : Below (pages S s) (Stands S h s)) where
        pub bad_again : (p : ℕ) → FirstBad (pages S s) (Parted S h s) (Some p) → JudgedFrom zeros S h s (Some p)
        bad_again p (l, f) = (l, at_second S h s Zeroth zeroth first stands p f.start l (before (pages S s) (Parted S h s) p f) (f.bad l))

        module _ (parted : Below (pages S s) (Parted S h s)) where
          pub bad_depth : (Deepest S s → ⊥) → JudgedFrom zeros S h s (Some 0)
          bad_depth n = (omega (arith, long.least), at_depth S h s Zeroth zeroth first stands parted n)

          pub all_sound : Deepest S s → JudgedFrom zeros S h s None
          all_sound d = all_in_turn S h s Zeroth zeroth first stands parted d

-- and the counts, which are judged last of all
module _ (S : Shape) (h : List ℕ → ℕ) (s : List ℕ) (long : GoodLength S s) where
  pub bad_before : (p : ℕ) → JudgedFrom 80 S h s (Some p) → Judged S h s (Some p)
  unfolding Broken rules
  bad_before p (l, j) = (l, stops_more S h s (Page0 S s) (rule 0 (Counts S s) ∷ []) p j)

  module _ (sound : JudgedFrom 80 S h s None) where
    pub bad_counts : (Counts S s → ⊥) → Judged S h s (Some 0)
    unfolding Broken rules
    bad_counts n = (omega (arith, long.least), stops_last S h s (Page0 S s) (rule 0 (Counts S s) ∷ []) 0 sound (inl (n, refl)))

    pub all_counted : Counts S s → Judged S h s None
    unfolding rules
    all_counted c = record { long = long; keeps = every_more S h s (Page0 S s) (rule 0 (Counts S s) ∷ []) sound (c, tt) }
