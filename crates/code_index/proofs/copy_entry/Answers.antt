use Rattle.std.proofs.Common.{rules, arith, ◌+◌, sym}
use Rattle.ground.specs.Lists.{byte}
use Rattle.words.specs.Moves.{Wrote}
use Rattle.words.proofs.Bytes.{wrote_as}
use Rattle.code_index.specs.Entries.{entry_start, entry_in}
use Rattle.code_index.proofs.Writing.{entry_byte, entry_in_lem, entry_size, written}
use Rattle.code_index.proofs.copy_entry.Goals as goal

pub overflow_add-a : goal.overflow_add-a
overflow_add-a c = omega (arith, c.entry_start-a.ensures, entry_in_lem c.args.x.now c.args.i c.requires.0)

pub copy_within-requires-clause-in_bounds : goal.copy_within-requires-clause-in_bounds
copy_within-requires-clause-in_bounds c = omega (arith, c.entry_start-a.ensures, entry_in_lem c.args.x.now c.args.i c.requires.0)

pub copy_within-requires-clause-dest_in_bounds : goal.copy_within-requires-clause-dest_in_bounds
copy_within-requires-clause-dest_in_bounds c = omega (arith, c.entry_start-b.ensures, c.entry_start-a.ensures, entry_in_lem c.args.x.now c.args.i c.requires.0, entry_in_lem c.args.x.now c.args.j c.requires.1)

pub returns : goal.returns
returns c =
    let x = c.args.x.now in
    let i = c.args.i in
    let j = c.args.j in
    let v : Wrote x c.entry_start-b.result 72 (λ k. byte x (c.entry_start-a.result + k)) c.copy_within.new.self = search rules in
    let w : Wrote x (entry_start j) 72 (λ k. byte x (entry_start i + k)) c.copy_within.new.self = rw (c.entry_start-a.ensures, c.entry_start-b.ensures) at v in
    written x j (entry_in x i) c.copy_within.new.self c.requires.1 (entry_size x i c.requires.0) (wrote_as (sym (entry_size x i c.requires.0)) (λ k h. sym (entry_byte x i k (omega (arith, entry_size x i c.requires.0)))) w)
