-- Format, check, count, lookup, row at place n and inspection have a result, whatever they are given: each condition of their tables is decided. Assumes nothing.
use mathlib.Core.Path.{◌≡◌, refl}
use mathlib.Core.List.{List}
use mathlib.Core.Logic.{inl, inr, ⊎_elim}
use mathlib.Core.Option.{Option, some, none}
use Prim.Native.Nat.{ℕ}
use native.Mathlib.Decide.{ℕ_discrete, dec_lt}
use lib.IntN.{ℤ, pos, negsuc}
use lib.Signed.{◌<ℤ◌, lt_z_yes}
use lib.ListN.{length, get_elem?}
use Rattle.ground.specs.Ladder.{Ladder, rung, answer, refuse, Answers}
use Rattle.ground.proofs.Tests.{none_some}
use Rattle.partition.specs.declared.Shape.{Shape}
use Rattle.partition.specs.Partition.{Row}
use Rattle.partition.specs.Listing.{place_of, listing}
use Rattle.words.specs.Folds.{fold}
use Rattle.page.specs.declared.Place.{Place}
use Rattle.page.specs.Places.{Negative}
use Rattle.page.proofs.Signs.{positive}
use Rattle.store.specs.Pages.{size, read, rows_on, rows_held}
use Rattle.store.specs.Accepted.{GoodLength, Accepted}
use Rattle.store.specs.Tables.{Out, refused_at, Refusal3, checked, row_of, format_table, check_table, count_table, lookup_table, row_table, inspect_table}
use Rattle.store.proofs.Accepted.Rules.{accepted_whole}
use Rattle.store.proofs.Result.Decisions.{either}
use Rattle.store.proofs.Result.Decided.{good_or_not, keeps_or_not, accepted_or_broken}

-- a result that the ladder allows
pub record Result {A : Type 0} (l : Ladder A) : Type 0 where
  pub is : A
  pub allowed : Answers l is

module _ {A : Type 0} where
  pub answered : (a : A) → Result (answer a)
  answered a = record { is = a; allowed = refl }

  pub refused_or : {P : Type 0} {a : A} {l : Ladder A} → Dec P → ((P → ⊥) → Result l) → Result (refuse P a l)
  refused_or {P} {a} {l} (yes p) f = record { is = a; allowed = inl (tt, (p, refl)) }
  refused_or {P} {a} {l} (no n) f = let w = f n in record { is = w.is; allowed = inr ((λ _. n), w.allowed) }

  -- refused where P fails
  pub unless : {P : Type 0} {a : A} {l : Ladder A} → Dec P → (P → Result l) → Result (refuse (P → ⊥) a l)
  unless {P} {a} {l} (yes p) f = let w = f p in record { is = w.is; allowed = inr ((λ _ n. n p), w.allowed) }
  unless {P} {a} {l} (no n) f = record { is = a; allowed = inl (tt, (n, refl)) }

  pub checked_or : (S : Shape) (h : List ℕ → ℕ) (s : List ℕ) (w : Out → A) {l : Ladder A} → GoodLength S s → (Accepted S h s → Result l) → Result (checked S h s w l)
  checked_or S h s w {l} g f = ⊎_elim
      (λ a. let r = f a in record { is = r.is; allowed = inr (accepted_whole S h s a, (a, r.allowed)) })
      (λ b. record { is = w (refused_at 2 b.0); allowed = inl (b.0, (b.1, refl)) })
      (accepted_or_broken S h s g)

  -- by what an option holds
  pub found_or : {X : Type 0} (o : Option X) {f : X → Ladder A} {l : Ladder A} → ((x : X) → o ≡ some x → Result (f x)) → (o ≡ none → Result l) → Result (rung (λ x. o ≡ some x) f l)
  found_or {X} none {f} {l} x y = let w = y refl in record { is = w.is; allowed = inr ((λ z e. none_some refl e), w.allowed) }
  found_or {X} (some z) {f} {l} x y = let w = x z refl in record { is = w.is; allowed = inl (z, (refl, w.allowed)) }

-- ---- the conditions of the refusals

pub three_or_not : (c : List ℕ) → Dec (Refusal3 c)
three_or_not c = either (ℕ_discrete (length c) 0) (dec_lt 64 (length c))

below_zero : (x : ℤ) → Dec (x <ℤ pos 0)
below_zero (pos n) = no (positive n)
below_zero (negsuc n) = yes (lt_z_yes tt)

pub negative_or_not : (p : Place) → Dec (Negative p)
negative_or_not p = either (below_zero p.page) (either (below_zero p.slot) (below_zero p.volume))

-- ---- the calls that read, and format

module _ (S : Shape) (h : List ℕ → ℕ) (s : List ℕ) where
  pub format_answered : Result (format_table S s)
  unfolding format_table
  format_answered = unless (good_or_not S s) (λ g. answered _)

  pub check_answered : Result (check_table S h s)
  unfolding check_table
  check_answered = unless (good_or_not S s) (λ g. checked_or S h s (λ o. o) g (λ a. answered _))

  pub count_answered : Result (count_table S h s)
  unfolding count_table
  count_answered = unless (good_or_not S s) (λ g. checked_or S h s (λ o. o) g (λ a. answered _))

  pub lookup_answered : (c : List ℕ) → Result (lookup_table S h s c)
  unfolding lookup_table
  lookup_answered c =
      unless (good_or_not S s) (λ g. refused_or (three_or_not c) (λ n. checked_or S h s (λ o. o) g (λ a. found_or (place_of (rows_held S s) (fold c)) (λ b e. answered _) (λ e. answered _))))

  row_of_answered : (rs : List Row) (n : ℕ) (out : List ℕ) → Result (row_of rs n out)
  row_of_answered rs n out = found_or (get_elem? rs n) (λ r e. answered _) (λ e. answered _)

  pub row_answered : (n : ℕ) (out : List ℕ) → Result (row_table S h s n out)
  unfolding row_table
  row_answered n out =
      unless (good_or_not S s) (λ g. refused_or (dec_lt (length out) 64) (λ l. checked_or S h s (λ o. (o, out)) g (λ a. row_of_answered (listing S h (rows_held S s)) n out)))

  -- of the page s
  pub inspect_answered : (n : ℕ) (out : List ℕ) → Result (inspect_table S h s n out)
  unfolding inspect_table
  inspect_answered n out = unless (ℕ_discrete (length s) (size S)) (λ g. refused_or (dec_lt (length out) 64) (λ l. unless (keeps_or_not s h S) (λ k.
      let w = row_of_answered (rows_on (read s)) n out in record { is = w.is; allowed = (k, w.allowed) })))
