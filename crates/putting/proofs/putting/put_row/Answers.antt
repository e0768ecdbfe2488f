-- By the entry of the hash and the mode.
use Rattle.std.proofs.Common.{◌≡◌, ℕ, List, sym, ap, ◌∙◌, arith}
use mathlib.Core.Option.{none}
use Rattle.hash.specs.Fnv.{fnv, fnv_lt}
use Rattle.partition.specs.Bits.{top}
use Rattle.partition.specs.Listing.{place_of}
use Rattle.partition.specs.declared.Shape.{Shape}
use Rattle.query.proofs.Finds.{long_enough}
use Rattle.store.proofs.Accepted.Reading.{lookup_none}
use Rattle.store.proofs.Accepted.Rules.{opened}
use Rattle.store.proofs.Demands.Modes.{is_absent, let_new}
use Rattle.store.specs.Pages.{dir_depth, entry_at, rows_held}
use Rattle.store.specs.Tables.{meaning}
use Rattle.putting.specs.Put.{new_row, Puttable}
use Rattle.putting.proofs.putting.put_row.Goals as goal

-- the entry p of the hash x; where it is 0, the code is not there
module _ (S : Shape) (s key pl : List ℕ) (P : Puttable S fnv s key pl) (x p : ℕ) (h : x ≡ fnv key) (e : p ≡ entry_at S s (top (dir_depth s) x)) where
  entry : p ≡ entry_at S s (top (dir_depth s) (fnv key))
  entry = e ∙ ap (λ x. entry_at S s (top (dir_depth s) x)) h

  unnamed : p ≡ 0 → place_of (rows_held S s) key ≡ none
  unnamed z = lookup_none S fnv P.sized fnv_lt s P.accepted key (sym entry ∙ z)

pub entry_of-p-requires : goal.entry_of-p-requires
entry_of-p-requires c =
    let P = c.requires in
    record { sized = P.sized; long = omega (arith, long_enough c.args.z P.sized c.args.s.now P.accepted); deep = (opened c.args.z fnv c.args.s.now P.accepted).page0.depth }

pub returns-then-mode-eq2 : goal.returns-then-mode-eq2
returns-then-mode-eq2 c =
    let a = c.args in
    is_absent a.z fnv a.s.now a.mode (new_row a.key.now a.place.now) (unnamed _ _ _ _ c.requires c.hash-x.result c.entry_of-p.result c.hash-x.ensures c.entry_of-p.ensures.0 c.if-p-eq0.true) c.if-mode-eq2.true

pub returns-then-p-eq0 : goal.returns-then-p-eq0
returns-then-p-eq0 c =
    let a = c.args in
    let w = c.new_bucket in
    let_new a.z fnv a.s.now a.mode (new_row a.key.now a.place.now) (unnamed _ _ _ _ c.requires c.hash-x.result c.entry_of-p.result c.hash-x.ensures c.entry_of-p.ensures.0 c.if-p-eq0.true) c.if-mode-eq2.false (meaning w.result, w.new.s) w.ensures
