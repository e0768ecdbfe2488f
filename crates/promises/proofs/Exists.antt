-- SOME PROGRAM KEEPS THE TABLES, for every hash of 32 bits: its answers are the results that each table has. So what turns wrong programs away turns away something.
-- Assumes nothing.
use mathlib.Core.List.{List}
use Prim.Native.Nat.{ℕ, ◌^◌, ◌<◌}
use native.Mathlib.Decide.{map_dec, dec_lt}
use native.Mathlib.Omega.{arith}
use lib.Signed.{mag}
use Rattle.ground.specs.Ladder.{Answers}
use Rattle.hash.specs.Fnv.{fnv, fnv_lt}
use Rattle.partition.specs.Sizes.{shape_of}
use Rattle.partition.proofs.Sizes.{sized_of}
use Rattle.page.specs.declared.Place.{Place}
use Rattle.page.specs.Places.{InRange}
use Rattle.store.specs.Tables.{Out, refused, put_table}
use Rattle.store.specs.Demands.{Hash}
use Rattle.store.proofs.Result.Answered.{check_answered, count_answered, lookup_answered, row_answered}
use Rattle.store.proofs.Result.Decided.{every_byte}
use Rattle.store.proofs.Result.Decisions.{both}
use Rattle.store.proofs.Result.Total.{put_answered, remove_answered}
use Rattle.any_size.specs.OwnSizes.{format_to}
use Rattle.any_size.proofs.Calls.{answered}
use Rattle.promises.specs.Programs.{Program, Bytes, Meets}

small_or_not : (c : List ℕ) → Dec (Bytes c)
small_or_not c = every_byte c (λ v. v < 256) (omega arith) (λ v. dec_lt v 256)

range_or_not : (p : Place) → Dec (InRange p)
range_or_not p = map_dec (λ t. search) (λ r. search) (both (dec_lt (mag p.page) (2 ^ 31)) (both (dec_lt (mag p.slot) (2 ^ 15)) (dec_lt (mag p.volume) (2 ^ 15))))

module _ (h : List ℕ → ℕ) (hash : Hash h) where
  -- what is no code of bytes or no place in its ranges cannot be given; the answer to it is any
  abbrev put_of : (s c : List ℕ) (p : Place) (m : ℕ) → Dec (Bytes c) → Dec (InRange p) → Out × List ℕ
  put_of s c p m (yes a) (yes b) = (put_answered (shape_of s) h (sized_of s) hash s c p m a b).is
  put_of s c p m (yes a) (no b) = (refused 1, s)
  put_of s c p m (no a) b = (refused 1, s)

  put_meets : (s c : List ℕ) (p : Place) (m : ℕ) (x : Dec (Bytes c)) (y : Dec (InRange p)) → Bytes c → InRange p → Answers (put_table (shape_of s) h s c p m) (put_of s c p m x y)
  put_meets s c p m (yes a) (yes b) small range = (put_answered (shape_of s) h (sized_of s) hash s c p m a b).allowed
  put_meets s c p m (yes a) (no b) small range = absurd (b range)
  put_meets s c p m (no a) b small range = absurd (a small)

  program : Program
  program = record {
    format = λ n s. let w = answered h hash (format_to n) s tt in (w.0, w.1);
    check = λ s. (check_answered (shape_of s) h s).is;
    count = λ s. (count_answered (shape_of s) h s).is;
    lookup = λ s c. (lookup_answered (shape_of s) h s c).is;
    put = λ s c p m. put_of s c p m (small_or_not c) (range_or_not p);
    remove = λ s c. (remove_answered (shape_of s) h (sized_of s) hash s c).is;
    row = λ s n out. (row_answered (shape_of s) h s n out).is;
  }

  pub some_program : (P : Program) × Meets h P
  unfolding program
  some_program = (
    program,
    record {
      formats = λ n s _. (answered h hash (format_to n) s tt).2;
      checks = λ s _. (check_answered (shape_of s) h s).allowed;
      counts = λ s _. (count_answered (shape_of s) h s).allowed;
      looks = λ s c _ _. (lookup_answered (shape_of s) h s c).allowed;
      puts = λ s c p m _ small range. put_meets s c p m (small_or_not c) (range_or_not p) small range;
      removes = λ s c _ _. (remove_answered (shape_of s) h (sized_of s) hash s c).allowed;
      rows = λ s n out _ _. (row_answered (shape_of s) h s n out).allowed;
    },
  )

pub fnv_program : (P : Program) × Meets fnv P
fnv_program = some_program fnv fnv_lt
