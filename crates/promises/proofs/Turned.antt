-- A program that keeps the tables is none of the wrong ones: under any hash, so under FNV-1a. Assumes nothing.
use mathlib.Core.List.{List}
use Prim.Native.Nat.{ℕ}
use Rattle.hash.specs.Fnv.{fnv, fnv_lt}
use Rattle.store.specs.Demands.{Hash}
use Rattle.promises.specs.Programs.{Program, Meets, TurnedAway}
use Rattle.promises.proofs.Programs.{refuses_every_put, replaces_silently, one_fixed_place, repeats_one_row, only_answers, stores_only_the_first, miscounts}
use Rattle.promises.proofs.OneBucket.{more_than_one_bucket, one_bucket}

pub turned_away : (h : List ℕ → ℕ) → Hash h → (P : Program) → Meets h P → TurnedAway h P
turned_away h hash P meets = record {
  refuses_every_put = refuses_every_put h hash P meets;
  replaces_silently = replaces_silently h hash P meets;
  one_fixed_place = one_fixed_place h hash P meets;
  repeats_one_row = repeats_one_row h hash P meets;
  only_answers = only_answers h hash P meets;
  stores_only_the_first = stores_only_the_first h hash P meets;
  miscounts = miscounts h hash P meets;
  one_bucket = one_bucket h hash P meets;
  more_than_one_bucket = more_than_one_bucket h hash;
}

pub turned_away_fnv : (P : Program) → Meets fnv P → TurnedAway fnv P
turned_away_fnv = turned_away fnv fnv_lt
