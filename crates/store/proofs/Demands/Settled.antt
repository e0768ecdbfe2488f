-- Each table settles its call: two results that satisfy it are equal. Assumes nothing.
use mathlib.Core.Path.{◌≡◌, refl, sym, ◌∙◌}
use mathlib.Core.List.{List}
use mathlib.Core.Option.{Option, some}
use Prim.Native.Nat.{ℕ}
use Rattle.partition.specs.declared.Shape.{Shape}
use Rattle.partition.specs.Partition.{Row}
use Rattle.page.specs.declared.Place.{Place}
use Rattle.ground.specs.Ladder.{Answers}
use Rattle.store.specs.Pages.{Page}
use Rattle.store.specs.Tables.{Out, writes, format_table, check_table, count_table, lookup_table, put_by_mode, put_table, remove_table, row_table, inspect_table}
use Rattle.store.specs.Demands.{Sized}
use Rattle.ground.proofs.Ladders.{Sure, one}
use Rattle.store.proofs.Accepted.Rules.{broken_one}
use Rattle.store.proofs.Accepted.Unique.{becomes_one}

-- the rung of a row that carries nothing, and an answer
nothing : {P : Type 0} (x y : Unit {0}) → P → P → x ≡ y
nothing x y p q = refl

pub same : {A : Type 0} {a : A} (b c : A) → b ≡ a → c ≡ a → b ≡ c
same b c e f = e ∙ sym f

pub some_one : {A : Type 0} {o : Option A} (a b : A) → o ≡ some a → o ≡ some b → a ≡ b
some_one a b e f = cc

wrote : (S : Shape) (h : List ℕ → ℕ) (s : List ℕ) (o : Out) (gs : List Page) → Sized S → Sure (writes S h s o gs)
wrote S h s o gs z a b p q =
    let x : a.0 ≡ b.0 = p.0 ∙ sym q.0 in
    let y : a.1 ≡ b.1 = becomes_one S h s gs a.1 b.1 z p.1 q.1 in
    λ i. (x i, y i)

module _ (S : Shape) where
  pub format_settled : (s : List ℕ) (a b : Out × List ℕ) → Answers (format_table S s) a → Answers (format_table S s) b → a ≡ b
  unfolding format_table
  format_settled s = one (format_table S s)
      (nothing, (λ _ _. same), same)

  module _ (h : List ℕ → ℕ) where
    pub check_settled : (s : List ℕ) (a b : Out) → Answers (check_table S h s) a → Answers (check_table S h s) b → a ≡ b
    unfolding check_table
    check_settled s = one (check_table S h s)
        (nothing, (λ _ _. same), (broken_one S h s, (λ _ _. same), (λ _. same)))

    pub count_settled : (s : List ℕ) (a b : Out) → Answers (count_table S h s) a → Answers (count_table S h s) b → a ≡ b
    unfolding count_table
    count_settled s = one (count_table S h s)
        (nothing, (λ _ _. same), (broken_one S h s, (λ _ _. same), (λ _. same)))

    pub lookup_settled : (s c : List ℕ) (a b : Out) → Answers (lookup_table S h s c) a → Answers (lookup_table S h s c) b → a ≡ b
    unfolding lookup_table
    lookup_settled s c = one (lookup_table S h s c)
        (nothing, (λ _ _. same), (nothing, (λ _ _. same), (broken_one S h s, (λ _ _. same), (λ _. (some_one, (λ _ _. same), same)))))

    pub row_settled : (s : List ℕ) (n : ℕ) (out : List ℕ) (a b : Out × List ℕ) → Answers (row_table S h s n out) a → Answers (row_table S h s n out) b → a ≡ b
    unfolding row_table
    row_settled s n out = one (row_table S h s n out)
        (nothing, (λ _ _. same), (nothing, (λ _ _. same), (broken_one S h s, (λ _ _. same), (λ _. (some_one, (λ _ _. same), same)))))

    pub inspect_settled : (g : List ℕ) (n : ℕ) (out : List ℕ) (a b : Out × List ℕ) → Answers (inspect_table S h g n out) a → Answers (inspect_table S h g n out) b → a ≡ b
    unfolding inspect_table
    inspect_settled g n out = one (inspect_table S h g n out)
        (nothing, (λ _ _. same), (nothing, (λ _ _. same), (nothing, (λ _ _. same), (λ _. (some_one, (λ _ _. same), same)))))

    -- a put on an accepted store, and then on any bytes
    pub mode_settled : Sized S → (s : List ℕ) (m : ℕ) (r : Row) → Sure (put_by_mode S h s m r)
    mode_settled z s m r =
        (nothing, (λ _ _. same), (nothing, (λ _ _. same), (some_one, (λ _ _. wrote S h s _ _ z), (nothing, (λ _ _. same), (nothing, (λ _ _. same), wrote S h s _ _ z)))))

    pub put_settled : Sized S → (s c : List ℕ) (p : Place) (m : ℕ) (a b : Out × List ℕ) → Answers (put_table S h s c p m) a → Answers (put_table S h s c p m) b → a ≡ b
    unfolding put_table
    put_settled z s c p m = one (put_table S h s c p m)
        (nothing, (λ _ _. same), (nothing, (λ _ _. same), (nothing, (λ _ _. same), (nothing, (λ _ _. same), (broken_one S h s, (λ _ _. same), (λ _. mode_settled z s m _))))))

    pub remove_settled : Sized S → (s c : List ℕ) (a b : Out × List ℕ) → Answers (remove_table S h s c) a → Answers (remove_table S h s c) b → a ≡ b
    unfolding remove_table
    remove_settled z s c = one (remove_table S h s c)
        (nothing, (λ _ _. same), (nothing, (λ _ _. same), (broken_one S h s, (λ _ _. same), (λ _. (some_one, (λ _ _. wrote S h s _ _ z), same)))))
