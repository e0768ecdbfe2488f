-- The tables of the calls on an accepted store: past 1 and 2 by what is known, so 3 and 4 are left and the table of an accepted store. Assumes nothing.
use mathlib.Core.Path.{◌≡◌, refl, ap}
use mathlib.Core.List.{List}
use mathlib.Core.Logic.{inl, inr}
use Prim.Native.Nat.{ℕ, ◌≤◌}
use native.Mathlib.Omega.{arith}
use lib.ListN.{length}
use Rattle.ground.specs.Ladder.{Answers}
use Rattle.ground.specs.Says.{Says}
use Rattle.words.specs.Folds.{fold}
use Rattle.page.specs.declared.Place.{Place}
use Rattle.page.specs.Places.{Negative, stored}
use Rattle.partition.specs.declared.Shape.{Shape}
use Rattle.partition.specs.Listing.{listing}
use Rattle.store.specs.Accepted.{Accepted, Broken}
use Rattle.store.specs.Demands.{GoodCode, Mode, ok}
use Rattle.store.specs.Pages.{rows_held}
use Rattle.store.specs.Tables.{Out, refused, accepted, counted, Refusal1, check_table, count_table, lookup_table, looked_up, put_table, put_by_mode, remove_table, remove_accepted, row_table, row_of}
use Rattle.store.proofs.Accepted.Rules.{accepted_whole}
use Rattle.store.proofs.Demands.Kept.{no_three, three, no_fourteen}

-- the check's answer says whether the store is accepted
pub check_says : (S : Shape) (h : List ℕ → ℕ) (s : List ℕ) (o : Out) → Answers (check_table S h s) o → Says (ok o) (Accepted S h s)
unfolding check_table
check_says S h s o (inl x) = rw x.1.1 (λ a. x.1.0 a.long)
check_says S h s o (inr (_, inl x)) = rw x.1.1 (λ a. accepted_whole S h s a x.0 x.1.0)
check_says S h s o (inr (_, inr x)) = rw x.1.1 x.1.0

module _ (S : Shape) (h : List ℕ → ℕ) (s : List ℕ) (a : Accepted S h s) where
  -- neither 1 nor 2 holds
  long : Unit {0} → Refusal1 S s → ⊥
  long _ n = n a.long

  whole : (p : ℕ) → Broken S h s p → ⊥
  whole = accepted_whole S h s a

  pub checks : Answers (check_table S h s) accepted
  unfolding check_table
  checks = inr (long, inr (whole, (a, refl)))

  pub counts : (n : ℕ) → n ≡ length (rows_held S s) → Answers (count_table S h s) (counted n)
  unfolding count_table
  counts n e = inr (long, inr (whole, (a, ap counted e)))

  pub gives : (n : ℕ) (out : List ℕ) (r : Out × List ℕ) → 64 ≤ length out → Answers (row_of (listing S h (rows_held S s)) n out) r → Answers (row_table S h s n out) r
  unfolding row_table
  gives n out r l y = inr (long, inr ((λ _ k. omega arith), inr (whole, (a, y))))

  module _ (c : List ℕ) where
    pub finds_3 : (GoodCode c → ⊥) → Answers (lookup_table S h s c) (refused 3)
    unfolding lookup_table
    finds_3 n = inr (long, inl (tt, (three c n, refl)))

    pub finds : (o : Out) → GoodCode c → Answers (looked_up S s (fold c)) o → Answers (lookup_table S h s c) o
    unfolding lookup_table
    finds o g y = inr (long, inr ((λ _ t. no_three c g t), inr (whole, (a, y))))

    pub removes_3 : (GoodCode c → ⊥) → Answers (remove_table S h s c) (refused 3, s)
    unfolding remove_table
    removes_3 n = inr (long, inl (tt, (three c n, refl)))

    pub removes : (r : Out × List ℕ) → GoodCode c → Answers (remove_accepted S h s (fold c)) r → Answers (remove_table S h s c) r
    unfolding remove_table
    removes r g y = inr (long, inr ((λ _ t. no_three c g t), inr (whole, (a, y))))

    module _ (p : Place) (m : ℕ) where
      pub puts_3 : (GoodCode c → ⊥) → Answers (put_table S h s c p m) (refused 3, s)
      unfolding put_table
      puts_3 n = inr (long, inl (tt, (three c n, refl)))

      pub puts_4 : GoodCode c → Negative p → Answers (put_table S h s c p m) (refused 4, s)
      unfolding put_table
      puts_4 g n = inr (long, inr ((λ _ t. no_three c g t), inl (tt, (n, refl))))

      pub puts : (r : Out × List ℕ) → GoodCode c → (Negative p → ⊥) → Mode m → Answers (put_by_mode S h s m (record { code = fold c; place = stored p })) r → Answers (put_table S h s c p m) r
      unfolding put_table
      puts r g n o y = inr (long, inr ((λ _ t. no_three c g t), inr ((λ _ t. n t), inr ((λ _ t. no_fourteen m o t), inr (whole, (a, y))))))
