use Rattle.std.proofs.Common.{◌<◌, length, take, drop, sym, refl, ap, ◌∙◌, add-one, arith, take-append-drop, take-suc, rules}
use Rattle.lots.proofs.Leaving.{beside}
use Rattle.lots.proofs.Running.{feeds_as, feeds_none, feeds_stopped, feeds_quit, feeds_then}
use Rattle.lots.proofs.input.feed.Goals as goal

pub loop-b-init : goal.loop-b-init
loop-b-init g c = (feeds_none (beside (record { len = refl; known = refl; changed = refl; stopped = refl }) c.requires.holds) refl refl refl c.requires.fits, refl, c.requires.room)

pub returns-then-y : goal.returns-then-y
returns-then-y g c = feeds_as (take-append-drop c.loop-b.b-index c.args.piece.now) (feeds_stopped c.loop-b.invariant.0 c.if-y.true (drop c.loop-b.b-index c.args.piece.now))

pub returns-then-y-2 : goal.returns-then-y-2
returns-then-y-2 g c = feeds_as (take-append-drop c.loop-b.b-index c.args.piece.now) (feeds_quit c.loop-b.invariant.0 c.if-y.false c.if-y-2.true (drop c.loop-b.b-index c.args.piece.now))

pub loop-b-preserved : goal.loop-b-preserved
loop-b-preserved g c =
    let v = c.loop-b in
    let p = c.args.piece.now in
    let h : v.b-index < length p = omega (arith, c.loop-b-test.true) in
    let f = feeds_then v.invariant.1 v.invariant.0 c.if-y.false c.if-y-2.false c.take-y.ensures in
    (feeds_as (sym (take-suc p v.b-index 0 h) ∙ ap (λ n. take n p) (sym (add-one v.b-index))) f, search rules, search rules)
