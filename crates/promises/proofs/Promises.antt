-- THE THREE DEMANDS hold of the tables at FNV-1a, for each page size and where each store says its own, with nothing left to assume.
use mathlib.Core.Path.{◌≡◌, refl, ap, ◌∙◌}
use mathlib.Core.Bool.{Bool, true, false}
use mathlib.Core.List.{List}
use mathlib.Core.Logic.{inl, inr}
use mathlib.Core.Option.{some, none}
use Prim.Native.Nat.{ℕ, ◌-◌, ◌/◌, ◌≤◌, ◌<◌}
use native.Mathlib.Omega.{arith}
use lib.ListN.{length}
use Rattle.ground.proofs.Tests.{none_some}
use Rattle.ground.specs.Ladder.{Answers}
use Rattle.hash.specs.Fnv.{fnv, fnv_lt}
use Rattle.partition.specs.declared.Shape.{Shape}
use Rattle.partition.specs.Partition.{buckets}
use Rattle.partition.specs.Sizes.{Sized, size, S4096, S16384, shape_at, shape_of}
use Rattle.partition.proofs.Sizes.{sized_at, sized_of}
use Rattle.page.specs.declared.Place.{Place}
use Rattle.page.specs.Places.{place_from, Negative}
use Rattle.store.specs.Pages.{S1024}
use Rattle.store.specs.Accepted.{Accepted}
use Rattle.store.specs.Moves.{pick}
use Rattle.store.specs.Tables.{Out, refused, new, replaced, put_accepted, put_by_mode, put_table}
use Rattle.store.specs.Demands.{put, Made, ok, GoodCode, Mode, WholePages, faults, ExactlyWhen, put_answer, Refuses, rows_after, sized_1024}
use Rattle.store.proofs.Accepted.Rules.{accepted_whole}
use Rattle.store.proofs.Demands.Settled.{row_settled, inspect_settled, put_settled}
use Rattle.store.proofs.Demands.Meaning.{meaning_one}
use Rattle.store.proofs.Demands.Kept.{no_three, no_fourteen, unrefused}
use Rattle.store.proofs.Demands.Modes.{is_known, is_absent, let_new}
use Rattle.store.proofs.Demands.Order.{good_length, whole_pages}
use Rattle.store.proofs.Demands.Whole.{demand_1, demand_2, demand_3}
use Rattle.store.proofs.Demands.Choice.{put_chooses, remove_chooses}
use Rattle.store.proofs.Demands.Spellings.{one_lot}
use Rattle.store.proofs.Result.Total.{answered_always}
use Rattle.any_size.proofs.Calls.{made_settled}
use Rattle.any_size.proofs.Whole.{any_size}
use Rattle.promises.specs.Promises.{First, given, held, joining, near, Fair, PutSays, Second, Third, AtSize, Promised}

-- at each size
module _ (S : Shape) (sized : Sized S) where
  first : First S (size S) S.entries
  first =
      let d = demand_1 S fnv in
      record {
        answered = answered_always S fnv sized fnv_lt;
        settled = record { store = made_settled S fnv sized; row = row_settled S fnv; inspection = inspect_settled S fnv; enum = meaning_one };
        refused_in_order = d.0;
        format_succeeds = d.1;
        lengths = λ s. (((λ w. w), (λ w. w)), (whole_pages S s, good_length S s));
        store_kept = d.2;
        output_kept = d.3;
      }

  -- ---- put's answer, by number

  module _ (s c : List ℕ) (p : Place) (m : ℕ) (o : Out) (t : List ℕ) (a : Accepted S fnv s) (made : Made S fnv (put c p m) s o t) where
    -- the table's answer is the only one
    only : (x : Out) (y : List ℕ) → Answers (put_table S fnv s c p m) (x, y) → o ≡ x
    only x y w = ap (λ q. q.0) (put_settled S fnv sized s c p m (o, t) (x, y) made w)

    -- 3, 4 and 14 are demand 1's
    said : ExactlyWhen (faults S fnv (put c p m) s) o
    said = (demand_1 S fnv).0 (put c p m) s o t made

    long : (WholePages S s → ⊥) → ⊥
    long n = n (whole_pages S s a.long)

    says_three : (GoodCode c → ⊥) → o ≡ refused 3
    says_three n = said.three.1 (long, n)

    says_four : GoodCode c → Negative p → o ≡ refused 4
    says_four g n = said.four.1 (long, (λ b. b g), n)

    says_fourteen : GoodCode c → (Negative p → ⊥) → (Mode m → ⊥) → o ≡ refused 14
    says_fourteen g n f = said.fourteen.1 (long, (λ b. b g), n, f)

    module _ (fair : Fair c p m) where
      -- past the refusals before 13
      past : (x : Out) → Answers (put_by_mode S fnv s m (given c p)) (x, s) → o ≡ x
      unfolding put_table
      past x w = only x s (inr (
        (λ _ r. r a.long),
        inr ((λ _ r. no_three c fair.coded r), inr ((λ _ r. fair.placed r), inr ((λ _ r. no_fourteen m fair.moded r), inr (accepted_whole S fnv s a, (a, w))))),
      ))

      -- a put that is not refused answers as the map says
      answers : (Refuses S fnv s c p m → ⊥) → o ≡ put_answer (held S s c)
      answers f = go (ok o) refl
        where
          go : (b : Bool) → ok o ≡ b → o ≡ put_answer (held S s c)
          go true e = (((demand_2 S fnv sized fnv_lt).2 s c p m o t a made).0 e).0
          go false e = absurd (f (((demand_2 S fnv sized fnv_lt).4 s c p m o t a made).0 e))

      says_thirteen : m ≡ 1 → (b : List ℕ) → held S s c ≡ some b → o ≡ refused 13
      says_thirteen e b k = past (refused 13) (is_known S fnv s m (given c p) b k e)

      says_known : (m ≡ 1 → ⊥) → (b : List ℕ) → held S s c ≡ some b → o ≡ replaced (place_from b)
      says_known n b e = answers (unrefused S fnv s c p m fair.coded fair.placed fair.moded (λ x _ _. n x) (λ x. absurd (none_some x e))) ∙ ap put_answer e

      says_five : m ≡ 2 → held S s c ≡ none → o ≡ refused 5
      says_five e k = past (refused 5) (is_absent S fnv s m (given c p) k e)

      module _ (n : m ≡ 2 → ⊥) (e : held S s c ≡ none) where
        -- past the mode
        through : (x : Out) → Answers (put_accepted S fnv s (given c p)) (x, s) → o ≡ x
        through x w = past x (let_new S fnv s m (given c p) e n (x, s) w)

        says_six : size S - 8 < near S S.deepest s c p → o ≡ refused 6
        says_six l = through (refused 6) (inr ((λ b f. none_some e f), inl (tt, (omega arith, refl))))

        module _ (l : near S S.deepest s c p ≤ size S - 8) where
          says_seven : length s / size S - 2 < length (buckets S fnv (joining S s c p)) → o ≡ refused 7
          says_seven k = through (refused 7) (inr ((λ b f. none_some e f), inr ((λ _ r. omega arith), inl (tt, (k, refl)))))

          says_new : length (buckets S fnv (joining S s c p)) ≤ length s / size S - 2 → o ≡ new
          says_new k =
              answers (unrefused S fnv s c p m fair.coded fair.placed fair.moded (λ _ b x. none_some e x) (λ _. (n, (λ x. omega arith), (λ x. omega arith)))) ∙ ap put_answer e

    put_says : PutSays S (size S) S.deepest s c p m o
    put_says = record {
      three = says_three;
      four = says_four;
      fourteen = says_fourteen;
      thirteen = says_thirteen;
      known = says_known;
      five = says_five;
      six = says_six;
      seven = says_seven;
      otherwise = says_new;
    }

  second : Second S (size S) S.deepest
  second =
      let d = demand_2 S fnv sized fnv_lt in
      record {
        check = d.0;
        lookup = d.1;
        put = d.2;
        remove = d.3;
        put_refused = d.4;
        put_says = put_says;
        either_as_before = d.12;
        same_lot = (one_lot S fnv sized fnv_lt).0;
        stored_folded = (one_lot S fnv sized fnv_lt).1;
        listed_once = d.5;
        count = d.6;
        row = d.7;
        inspection = d.8;
        places = d.9;
        accepted_again = d.10;
        format_accepted = d.11;
      }

  third : Third S
  third =
      let d = demand_3 S fnv sized fnv_lt in
      record {
        since_format = λ rs. refl;
        refused_keeps = λ c o rs e. ap (λ b. pick b (rows_after c rs) rs) e;
        afresh = d.0;
        same_refusals = d.1;
        kept_pages = d.2;
        put_pages = put_chooses S fnv sized fnv_lt;
        remove_pages = remove_chooses S fnv sized fnv_lt;
      }

  at_size : AtSize S (size S) S.entries S.deepest
  at_size = record { first = first; second = second; third = third }

pub promised : Promised
unfolding shape_at
promised = record {
  small = at_size S1024 sized_1024;
  middle = at_size S4096 (sized_at 1 (omega arith));
  large = at_size S16384 (sized_at 2 (omega arith));
  own = any_size fnv fnv_lt;
  own_put_says = λ s. put_says (shape_of s) (sized_of s) s;
}
