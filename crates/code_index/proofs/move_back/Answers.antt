use Rattle.std.proofs.Common.{arith, ◌≡◌, ◌-◌, subst, ℕ}
use Rattle.code_index.specs.Entries.{MovedBack}
use Rattle.code_index.proofs.Moving.{back_none, back_more, room_in}
use Rattle.code_index.proofs.move_back.Goals as goal

pub loop-j-init : goal.loop-j-init
loop-j-init c = back_none c.args.x.now c.args.i c.args.n

pub copy_entry-requires : goal.copy_entry-requires
copy_entry-requires c = (room_in c.loop-j.invariant.kept c.loop-j.j (omega arith), room_in c.loop-j.invariant.kept (c.loop-j.j - 1) (omega arith))

pub loop-j-preserved : goal.loop-j-preserved
loop-j-preserved c = back_more c.args.x.now c.args.i c.loop-j.j c.loop-j.x c.copy_entry.new.x (omega arith) (omega arith) c.loop-j.invariant c.copy_entry.ensures

pub returns : goal.returns
returns c =
    let e : c.loop-j.j ≡ c.args.n = omega arith in
    subst (λ (j : ℕ). MovedBack c.args.x.now c.args.i j c.loop-j.x) e c.loop-j.invariant
