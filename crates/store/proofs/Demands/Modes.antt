-- What a mode lets through; and the three ways a put comes out: what holds of each holds of every put, whatever its mode. Assumes nothing.
use mathlib.Core.Path.{◌≡◌, refl, sym, subst}
use mathlib.Core.Bool.{false}
use mathlib.Core.List.{List}
use mathlib.Core.Logic.{◌↔◌, inl, inr}
use mathlib.Core.Option.{Option, some, none}
use Prim.Native.Nat.{ℕ}
use native.Mathlib.Omega.{arith}
use Rattle.ground.specs.Ladder.{Answers}
use Rattle.ground.proofs.Ladders.{Each, each}
use Rattle.ground.proofs.Tests.{none_some}
use Rattle.words.specs.Folds.{fold}
use Rattle.page.specs.declared.Place.{Place}
use Rattle.page.specs.Places.{place_from, stored}
use Rattle.partition.specs.declared.Shape.{Shape}
use Rattle.partition.specs.Partition.{Row}
use Rattle.partition.specs.Listing.{place_of}
use Rattle.store.specs.Pages.{contents, rows_held}
use Rattle.store.specs.Moves.{overwritten, put_new}
use Rattle.store.specs.Tables.{Out, refused, new, replaced, Refusal6, Refusal7, Becomes, put_accepted, put_by_mode, put_table}
use Rattle.store.specs.Demands.{ok}

pub nothing_there : (o : Option (List ℕ)) → ((b : List ℕ) → o ≡ some b → ⊥) → o ≡ none
nothing_there none f = refl
nothing_there (some b) f = absurd (f b refl)

-- ---- what a mode lets through

module _ (S : Shape) (h : List ℕ → ℕ) (s : List ℕ) (m : ℕ) (r : Row) where
  pub is_known : (old : List ℕ) → place_of (rows_held S s) r.code ≡ some old → m ≡ 1 → Answers (put_by_mode S h s m r) (refused 13, s)
  is_known old k e = inl (tt, ((e, (old, k)), refl))

  pub is_absent : place_of (rows_held S s) r.code ≡ none → m ≡ 2 → Answers (put_by_mode S h s m r) (refused 5, s)
  is_absent k e = inr ((λ _ f. none_some k f.1.1), inl (tt, ((e, k), refl)))

  -- a known code where not only a new one is expected, and a new one where not only a known one is: as if either were
  pub let_known : (old : List ℕ) → place_of (rows_held S s) r.code ≡ some old → (m ≡ 1 → ⊥) → (x : Out × List ℕ) → Answers (put_accepted S h s r) x → Answers (put_by_mode S h s m r) x
  let_known old k n x a = inr ((λ _ f. n f.0), inr ((λ _ f. none_some f.1 k), a))

  pub let_new : place_of (rows_held S s) r.code ≡ none → (m ≡ 2 → ⊥) → (x : Out × List ℕ) → Answers (put_accepted S h s r) x → Answers (put_by_mode S h s m r) x
  let_new k n x a = inr ((λ _ f. none_some k f.1.1), inr ((λ _ f. n f.0), a))

-- mode 0 lets everything through
pub mode_0 : (S : Shape) (h : List ℕ → ℕ) (s : List ℕ) (r : Row) (x : Out × List ℕ) → Answers (put_by_mode S h s 0 r) x ↔ Answers (put_accepted S h s r) x
mode_0 S h s r x = (back, λ a. inr ((λ _ f. omega (arith, f.0)), inr ((λ _ f. omega (arith, f.0)), a)))
  where
    back : Answers (put_by_mode S h s 0 r) x → Answers (put_accepted S h s r) x
    back (inl w) = absurd (omega (arith, w.1.0.0))
    back (inr (_, inl w)) = absurd (omega (arith, w.1.0.0))
    back (inr (_, inr (_, a))) = a

-- ---- the three ways

-- Q holds of a refusal that keeps the store s, of the row r in the place of an old one, and of r as a new row
pub record PutWays (S : Shape) (h : List ℕ → ℕ) (s : List ℕ) (r : Row) (Q : Out × List ℕ → Type 0) : Type 0 where
  pub kept : (o : Out) → ok o ≡ false → Q (o, s)
  pub over : (old : List ℕ) → place_of (rows_held S s) r.code ≡ some old
      → (t : List ℕ) → Becomes S h s (overwritten (contents S s) r) t → Q (replaced (place_from old), t)
  pub fresh : place_of (rows_held S s) r.code ≡ none → (Refusal6 S h (rows_held S s) r → ⊥) → (Refusal7 S h s (rows_held S s) r → ⊥)
      → (t : List ℕ) → Becomes S h s (put_new S h (contents S s) r) t → Q (new, t)

module _ (S : Shape) (h : List ℕ → ℕ) (s : List ℕ) (Q : Out × List ℕ → Type 0) where
  keep : {r : Row} → PutWays S h s r Q → (o : Out) → ok o ≡ false → (x : Out × List ℕ) → x ≡ (o, s) → Q x
  keep w o f x e = subst Q (sym e) (w.kept o f)

  ways : (r : Row) → PutWays S h s r Q → (m : ℕ) → Each Q (put_by_mode S h s m r)
  ways r w m = (
    (λ _ _. keep w _ refl),
    (λ _. (
      (λ _ _. keep w _ refl),
      (λ _. (
        (λ old k x e. subst (λ (o : Out). Q (o, x.1)) (sym e.0) (w.over old k x.1 e.1)),
        (λ un. (
          (λ _ _. keep w _ refl),
          (λ n6. (
            (λ _ _. keep w _ refl),
            (λ n7 x e. subst (λ (o : Out). Q (o, x.1)) (sym e.0) (w.fresh (nothing_there _ un) (n6 tt) (n7 tt) x.1 e.1)),
          )),
        )),
      )),
    )),
  )

  -- of a put on an accepted store
  pub mode_each : (r : Row) → PutWays S h s r Q → (m : ℕ) (x : Out × List ℕ) → Answers (put_by_mode S h s m r) x → Q x
  mode_each r w m = each Q (put_by_mode S h s m r) (ways r w m)

  -- of a put on any bytes
  pub put_each : (c : List ℕ) (p : Place) → PutWays S h s (record { code = fold c; place = stored p }) Q
      → (m : ℕ) (x : Out × List ℕ) → Answers (put_table S h s c p m) x → Q x
  unfolding put_table
  put_each c p w m = each Q (put_table S h s c p m) (
    (λ _ _. keep w _ refl),
    (λ _. (
      (λ _ _. keep w _ refl),
      (λ _. (
        (λ _ _. keep w _ refl),
        (λ _. (
          (λ _ _. keep w _ refl),
          (λ _. (
            (λ _ _. keep w _ refl),
            (λ _ _. ways (record { code = fold c; place = stored p }) w m),
          )),
        )),
      )),
    )),
  )
