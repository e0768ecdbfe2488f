-- Which refusal comes first: of every call, over all bytes, 1, 3, 4, 14, 8 and 2 are each given exactly when. Assumes nothing.
use borrow.Author.Tests.{eqb-false}
use mathlib.Core.Path.{◌≡◌, refl, sym, ap, subst, ◌∙◌}
use mathlib.Core.Bool.{Bool, true, false, ◌||◌, true≢false}
use mathlib.Core.List.{List}
use mathlib.Core.Logic.{inl, inr, ⊎_elim}
use Prim.Native.Nat.{ℕ, ◌/◌}
use native.Mathlib.Nat.{mul-div_cancel, mul-mod_left, div-add-mod'}
use native.Mathlib.Omega.{arith}
use lib.Dec.{eqb}
use lib.ListN.{length}
use Rattle.ground.specs.Ladder.{Answers}
use Rattle.ground.proofs.Ladders.{each}
use Rattle.page.specs.declared.Place.{Place}
use Rattle.page.specs.Places.{Negative}
use Rattle.partition.specs.declared.Shape.{Shape}
use Rattle.store.specs.Pages.{size, pages}
use Rattle.store.specs.Accepted.{GoodLength, Broken}
use Rattle.store.specs.Tables.{Out, refused, refused_at, formatted, accepted, new, replaced, found, counted, row, Refusal1, Refusal3, Refusal14, PageKeeps, format_table, check_table, count_table, lookup_table, put_table, remove_table, row_table, inspect_table}
use Rattle.store.specs.Demands.{format, check, count, lookup, remove, put, row_at, inspect, GoodCode, Mode, WholePages, StopsAt, NoPage, Faults, faults, ExactlyWhen, RefusedInOrder, FormatSucceeds}
use Rattle.store.proofs.Accepted.Rules.{broken_one, broken_stops, stops_broken}
use Rattle.store.proofs.Demands.Kept.{no_three, three, no_fourteen, a_mode}

-- ---- the length in the words of the rules and in its own

module _ (S : Shape) (s : List ℕ) where
  pub good_length : WholePages S s → GoodLength S s
  good_length w =
      let n : pages S s ≡ w.0 = ap (λ k. k / size S) w.1 ∙ mul-div_cancel w.0 (omega arith) in
      record { whole = rw w.1 (mul-mod_left w.0 (size S)); least = omega (arith, w.2); most = omega (arith, w.3) }

  pub whole_pages : GoodLength S s → WholePages S s
  whole_pages g = (pages S s, omega (arith, div-add-mod' (length s) (size S), g.whole), g.least, g.most)

-- ---- one fault is the first

abbrev number : Out → ℕ
number (refused n) = n
number (refused_at n p) = n
number formatted = 0
number accepted = 0
number new = 0
number (replaced p) = 0
number (found p) = 0
number (counted n) = 0
number (row n p) = 0

-- the numbers that are given before the call's own work
abbrev early : ℕ → Bool
early n = eqb n 1 || (eqb n 3 || (eqb n 4 || (eqb n 14 || (eqb n 8 || eqb n 2))))

module _ (w : Faults) (o : Out) where
  other : {A : Type 0} {x y : Out} → o ≡ x → o ≡ y → eqb (number x) (number y) ≡ false → A
  other {x = x} {y = y} e f d = absurd (eqb-false (number x) (number y) d (ap number (sym e ∙ f)))

  late : {A : Type 0} {x y : Out} → o ≡ x → early (number x) ≡ false → o ≡ y → early (number y) ≡ true → A
  late e n f y = absurd (true≢false (sym y ∙ ap (λ q. early (number q)) (sym f ∙ e) ∙ n))

  pub says_one : w.bad_length → o ≡ refused 1 → ExactlyWhen w o
  says_one b e = record {
    one = ((λ _. b), (λ _. e));
    three = ((λ f. other e f refl), (λ x. absurd (x.0 b)));
    four = ((λ f. other e f refl), (λ x. absurd (x.0 b)));
    fourteen = ((λ f. other e f refl), (λ x. absurd (x.0 b)));
    eight = ((λ f. other e f refl), (λ x. absurd (x.0 b)));
    two = λ p. ((λ f. other e f refl), (λ x. absurd (x.0 b)));
  }

  module _ (n1 : w.bad_length → ⊥) where
    says_three : w.bad_code → o ≡ refused 3 → ExactlyWhen w o
    says_three b e = record {
      one = ((λ f. other e f refl), (λ x. absurd (n1 x)));
      three = ((λ _. (n1, b)), (λ _. e));
      four = ((λ f. other e f refl), (λ x. absurd (x.1 b)));
      fourteen = ((λ f. other e f refl), (λ x. absurd (x.1 b)));
      eight = ((λ f. other e f refl), (λ x. absurd (x.1 b)));
      two = λ p. ((λ f. other e f refl), (λ x. absurd (x.1 b)));
    }

    module _ (n3 : w.bad_code → ⊥) where
      says_four : w.bad_place → o ≡ refused 4 → ExactlyWhen w o
      says_four b e = record {
        one = ((λ f. other e f refl), (λ x. absurd (n1 x)));
        three = ((λ f. other e f refl), (λ x. absurd (n3 x.1)));
        four = ((λ _. (n1, n3, b)), (λ _. e));
        fourteen = ((λ f. other e f refl), (λ x. absurd (x.2 b)));
        eight = ((λ f. other e f refl), (λ x. absurd (x.2 b)));
        two = λ p. ((λ f. other e f refl), (λ x. absurd (x.2 b)));
      }

      module _ (n4 : w.bad_place → ⊥) where
        says_fourteen : w.bad_mode → o ≡ refused 14 → ExactlyWhen w o
        says_fourteen b e = record {
          one = ((λ f. other e f refl), (λ x. absurd (n1 x)));
          three = ((λ f. other e f refl), (λ x. absurd (n3 x.1)));
          four = ((λ f. other e f refl), (λ x. absurd (n4 x.2)));
          fourteen = ((λ _. (n1, n3, n4, b)), (λ _. e));
          eight = ((λ f. other e f refl), (λ x. absurd (x.3 b)));
          two = λ p. ((λ f. other e f refl), (λ x. absurd (x.3 b)));
        }

        module _ (n14 : w.bad_mode → ⊥) where
          says_eight : w.short_output → o ≡ refused 8 → ExactlyWhen w o
          says_eight b e = record {
            one = ((λ f. other e f refl), (λ x. absurd (n1 x)));
            three = ((λ f. other e f refl), (λ x. absurd (n3 x.1)));
            four = ((λ f. other e f refl), (λ x. absurd (n4 x.2)));
            fourteen = ((λ f. other e f refl), (λ x. absurd (n14 x.3)));
            eight = ((λ _. (n1, n3, n4, n14, b)), (λ _. e));
            two = λ p. ((λ f. other e f refl), (λ x. absurd (x.4 b)));
          }

          module _ (n8 : w.short_output → ⊥) where
            says_two : (p : ℕ) → w.bad_page p → ((q : ℕ) → w.bad_page q → q ≡ p) → o ≡ refused_at 2 p → ExactlyWhen w o
            says_two p b only e = record {
              one = ((λ f. other e f refl), (λ x. absurd (n1 x)));
              three = ((λ f. other e f refl), (λ x. absurd (n3 x.1)));
              four = ((λ f. other e f refl), (λ x. absurd (n4 x.2)));
              fourteen = ((λ f. other e f refl), (λ x. absurd (n14 x.3)));
              eight = ((λ f. other e f refl), (λ x. absurd (n8 x.4)));
              two = λ q. ((λ f. (n1, n3, n4, n14, n8, there q (sym e ∙ f))), (λ x. e ∙ ap (λ r. refused_at 2 r) (sym (only q x.5))));
            }
              where
                there : (q : ℕ) → refused_at 2 p ≡ refused_at 2 q → w.bad_page q
                there q f = let g : p ≡ q = cc in subst (λ r. w.bad_page r) g b

            pub says_late : {x : Out} → ((p : ℕ) → w.bad_page p → ⊥) → o ≡ x → early (number x) ≡ false → ExactlyWhen w o
            says_late n2 e l = record {
              one = ((λ f. late e l f refl), (λ x. absurd (n1 x)));
              three = ((λ f. late e l f refl), (λ x. absurd (n3 x.1)));
              four = ((λ f. late e l f refl), (λ x. absurd (n4 x.2)));
              fourteen = ((λ f. late e l f refl), (λ x. absurd (n14 x.3)));
              eight = ((λ f. late e l f refl), (λ x. absurd (n8 x.4)));
              two = λ p. ((λ f. late e l f refl), (λ x. absurd (n2 p x.5)));
            }

-- ---- the tables

-- what a call does not look at is not wrong
no : ⊥ → ⊥
no x = x

module _ (S : Shape) (h : List ℕ → ℕ) where
  module _ (s : List ℕ) where
    -- the table's length, code and page, in the words of the demand
    bad : Refusal1 S s → WholePages S s → ⊥
    bad r w = r (good_length S s w)

    long : (Unit {0} → Refusal1 S s → ⊥) → (WholePages S s → ⊥) → ⊥
    long n b = n tt (λ g. b (whole_pages S s g))

    coded : (c : List ℕ) → (Unit {0} → Refusal3 c → ⊥) → (GoodCode c → ⊥) → ⊥
    coded c n b = n tt (three c b)

    only : (p q : ℕ) → Broken S h s p → StopsAt S h s q → q ≡ p
    only p q b x = broken_one S h s q p (stops_broken S h s x) b

    whole : ((p : ℕ) → Broken S h s p → ⊥) → (p : ℕ) → StopsAt S h s p → ⊥
    whole n p x = n p (stops_broken S h s x)

  format_order : (s : List ℕ) (x : Out × List ℕ) → Answers (format_table S s) x → ExactlyWhen (faults S h format s) x.0
  unfolding format_table
  format_order s = each (λ x. ExactlyWhen (faults S h format s) x.0) (format_table S s) (
    (λ _ r x e. says_one _ _ (bad s r) (ap (λ y. y.0) e)),
    (λ n1 x e. says_late _ _ (long s n1) no no no no (λ p. no) (ap (λ y. y.0) e) refl),
  )

  check_order : (s : List ℕ) (o : Out) → Answers (check_table S h s) o → ExactlyWhen (faults S h check s) o
  unfolding check_table
  check_order s = each (λ o. ExactlyWhen (faults S h check s) o) (check_table S h s) (
    (λ _ r o e. says_one _ _ (bad s r) e),
    (λ n1. (
      (λ p b o e. says_two _ _ (long s n1) no no no no p (broken_stops S h s p b) (λ q. only s p q b) e),
      (λ n2 _ o e. says_late _ _ (long s n1) no no no no (whole s n2) e refl),
    )),
  )

  count_order : (s : List ℕ) (o : Out) → Answers (count_table S h s) o → ExactlyWhen (faults S h count s) o
  unfolding count_table
  count_order s = each (λ o. ExactlyWhen (faults S h count s) o) (count_table S h s) (
    (λ _ r o e. says_one _ _ (bad s r) e),
    (λ n1. (
      (λ p b o e. says_two _ _ (long s n1) no no no no p (broken_stops S h s p b) (λ q. only s p q b) e),
      (λ n2 _ o e. says_late _ _ (long s n1) no no no no (whole s n2) e refl),
    )),
  )

  lookup_order : (s c : List ℕ) (o : Out) → Answers (lookup_table S h s c) o → ExactlyWhen (faults S h (lookup c) s) o
  unfolding lookup_table
  lookup_order s c = each (λ o. ExactlyWhen (faults S h (lookup c) s) o) (lookup_table S h s c) (
    (λ _ r o e. says_one _ _ (bad s r) e),
    (λ n1. (
      (λ _ r o e. says_three _ _ (long s n1) (λ g. no_three c g r) e),
      (λ n3. (
        (λ p b o e. says_two _ _ (long s n1) (coded s c n3) no no no p (broken_stops S h s p b) (λ q. only s p q b) e),
        (λ n2 _. (
          (λ b _ o e. says_late _ _ (long s n1) (coded s c n3) no no no (whole s n2) e refl),
          (λ _ o e. says_late _ _ (long s n1) (coded s c n3) no no no (whole s n2) e refl),
        )),
      )),
    )),
  )

  remove_order : (s c : List ℕ) (x : Out × List ℕ) → Answers (remove_table S h s c) x → ExactlyWhen (faults S h (remove c) s) x.0
  unfolding remove_table
  remove_order s c = each (λ x. ExactlyWhen (faults S h (remove c) s) x.0) (remove_table S h s c) (
    (λ _ r x e. says_one _ _ (bad s r) (ap (λ y. y.0) e)),
    (λ n1. (
      (λ _ r x e. says_three _ _ (long s n1) (λ g. no_three c g r) (ap (λ y. y.0) e)),
      (λ n3. (
        (λ p b x e. says_two _ _ (long s n1) (coded s c n3) no no no p (broken_stops S h s p b) (λ q. only s p q b) (ap (λ y. y.0) e)),
        (λ n2 _. (
          (λ b _ x e. says_late _ _ (long s n1) (coded s c n3) no no no (whole s n2) e.0 refl),
          (λ _ x e. says_late _ _ (long s n1) (coded s c n3) no no no (whole s n2) (ap (λ y. y.0) e) refl),
        )),
      )),
    )),
  )

  put_order : (s c : List ℕ) (p : Place) (m : ℕ) (x : Out × List ℕ) → Answers (put_table S h s c p m) x → ExactlyWhen (faults S h (put c p m) s) x.0
  unfolding put_table
  put_order s c p m = each (λ x. ExactlyWhen (faults S h (put c p m) s) x.0) (put_table S h s c p m) (
    (λ _ r x e. says_one _ _ (bad s r) (ap (λ y. y.0) e)),
    (λ n1. (
      (λ _ r x e. says_three _ _ (long s n1) (λ g. no_three c g r) (ap (λ y. y.0) e)),
      (λ n3. (
        (λ _ r x e. says_four _ _ (long s n1) (coded s c n3) r (ap (λ y. y.0) e)),
        (λ n4. (
          (λ _ r x e. says_fourteen _ _ (long s n1) (coded s c n3) (n4 tt) (λ g. no_fourteen m g r) (ap (λ y. y.0) e)),
          (λ n14. (
            (λ p b x e. says_two _ _ (long s n1) (coded s c n3) (n4 tt) (moded n14) no p (broken_stops S h s p b) (λ q. only s p q b) (ap (λ y. y.0) e)),
            (λ n2 _. (
              (λ _ _ x e. last n1 n3 n4 n14 n2 (ap (λ y. y.0) e) refl),
              (λ _. (
                (λ _ _ x e. last n1 n3 n4 n14 n2 (ap (λ y. y.0) e) refl),
                (λ _. (
                  (λ old _ x e. last n1 n3 n4 n14 n2 e.0 refl),
                  (λ _. (
                    (λ _ _ x e. last n1 n3 n4 n14 n2 (ap (λ y. y.0) e) refl),
                    (λ _. ((λ _ _ x e. last n1 n3 n4 n14 n2 (ap (λ y. y.0) e) refl), (λ _ x e. last n1 n3 n4 n14 n2 e.0 refl))),
                  )),
                )),
              )),
            )),
          )),
        )),
      )),
    )),
  )
    where
      moded : (Unit {0} → Refusal14 m → ⊥) → (Mode m → ⊥) → ⊥
      moded n b = b (a_mode m (n tt))

      -- an answer that comes after 2
      last : {o y : Out} → (Unit {0} → Refusal1 S s → ⊥) → (Unit {0} → Refusal3 c → ⊥) → (Unit {0} → Negative p → ⊥) → (Unit {0} → Refusal14 m → ⊥)
          → ((q : ℕ) → Broken S h s q → ⊥) → o ≡ y → early (number y) ≡ false → ExactlyWhen (faults S h (put c p m) s) o
      last n1 n3 n4 n14 n2 e f = says_late _ _ (long s n1) (coded s c n3) (n4 tt) (moded n14) no (whole s n2) e f

  row_order : (s : List ℕ) (n : ℕ) (out : List ℕ) (x : Out × List ℕ) → Answers (row_table S h s n out) x → ExactlyWhen (faults S h (row_at n out) s) x.0
  unfolding row_table
  row_order s n out = each (λ x. ExactlyWhen (faults S h (row_at n out) s) x.0) (row_table S h s n out) (
    (λ _ r x e. says_one _ _ (bad s r) (ap (λ y. y.0) e)),
    (λ n1. (
      (λ _ r x e. says_eight _ _ (long s n1) no no no r (ap (λ y. y.0) e)),
      (λ n8. (
        (λ p b x e. says_two _ _ (long s n1) no no no (n8 tt) p (broken_stops S h s p b) (λ q. only s p q b) (ap (λ y. y.0) e)),
        (λ n2 _. (
          (λ r _ x e. says_late _ _ (long s n1) no no no (n8 tt) (whole s n2) (ap (λ y. y.0) e) refl),
          (λ _ x e. says_late _ _ (long s n1) no no no (n8 tt) (whole s n2) (ap (λ y. y.0) e) refl),
        )),
      )),
    )),
  )

  inspect_order : (s g : List ℕ) (n : ℕ) (out : List ℕ) (x : Out × List ℕ) → Answers (inspect_table S h g n out) x → ExactlyWhen (faults S h (inspect g n out) s) x.0
  unfolding inspect_table
  inspect_order s g n out = each (λ x. ExactlyWhen (faults S h (inspect g n out) s) x.0) (inspect_table S h g n out) (
    (λ _ r x e. says_one _ _ r (ap (λ y. y.0) e)),
    (λ n1. (
      (λ _ r x e. says_eight _ _ (n1 tt) no no no r (ap (λ y. y.0) e)),
      (λ n8. (
        (λ _ k x e. says_two _ _ (n1 tt) no no no (n8 tt) 0 (refl, (λ z. k (inl z)), (λ b d. k (inr (b, d)))) (λ q y. y.0) (ap (λ y. y.0) e)),
        (λ _ k. (
          (λ r _ x e. says_late _ _ (n1 tt) no no no (n8 tt) (stands k) (ap (λ y. y.0) e) refl),
          (λ _ x e. says_late _ _ (n1 tt) no no no (n8 tt) (stands k) (ap (λ y. y.0) e) refl),
        )),
      )),
    )),
  )
    where
      stands : PageKeeps S h g → (p : ℕ) → NoPage S h g p → ⊥
      stands k p x = ⊎_elim x.1 (λ b. x.2 b.0 b.1) k

  pub refused_in_order : RefusedInOrder S h
  refused_in_order format s o t m = format_order s (o, t) m
  refused_in_order check s o t m = check_order s o m.0
  refused_in_order count s o t m = count_order s o m.0
  refused_in_order (lookup c) s o t m = lookup_order s c o m.0
  refused_in_order (remove c) s o t m = remove_order s c (o, t) m
  refused_in_order (put c p mode) s o t m = put_order s c p mode (o, t) m
  refused_in_order (row_at n out) s o t m = row_order s n out (o, m.0.0) m.0.1
  refused_in_order (inspect g n out) s o t m = inspect_order s g n out (o, m.0.0) m.0.1

  pub format_succeeds : FormatSucceeds S h
  unfolding format_table
  format_succeeds s o t m w = each (λ x. x.0 ≡ formatted) (format_table S s) ((λ _ r. absurd (r (good_length S s w))), (λ _ x e. ap (λ y. y.0) e)) (o, t) m
