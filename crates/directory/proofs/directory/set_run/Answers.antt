-- Entry after entry.
use Rattle.std.proofs.Common.{◌≡◌, refl, ◌+◌, ◌≤◌, ◌<◌, sym, subst, ◌∙◌, arith, rules}
use Rattle.words.specs.Moves.{Put32}
use Rattle.directory.specs.Directory.{RunSet}
use Rattle.directory.proofs.Directories.{run_none, run_more}
use Rattle.directory.proofs.directory.set_run.Goals as goal

pub loop-i-init : goal.loop-i-init
loop-i-init c =
    let a = c.args in
    subst (λ r. RunSet a.z a.s.now a.run.start r.start a.p a.s.now × (a.run.start ≤ r.start) × (r.start ≤ r.end) × (r.end ≡ a.run.end)) (sym c.into_iter-i-iterator.ensures.into_iter_gives)
    (run_none a.z a.s.now a.run.start a.p, omega arith, c.requires.1.rising, refl)

pub put32-requires : goal.put32-requires
put32-requires c =
    let q = c.requires.1 in
    let at : c.in-Some.i ≡ c.loop-i.i-iterator.start = search rules in
    let more : c.loop-i.i-iterator.start < c.loop-i.i-iterator.end = search rules in
    (omega (arith, at, more, c.loop-i.invariant.3, c.requires.0.whole, q.long, q.within, c.size.ensures, c.loop-i.auto.s), q.word)

pub loop-i-preserved : goal.loop-i-preserved
loop-i-preserved c =
    let a = c.args in
    let v = c.loop-i.invariant in
    let at : c.in-Some.i ≡ c.loop-i.i-iterator.start = search rules in
    let more : c.loop-i.i-iterator.start < c.loop-i.i-iterator.end = search rules in
    let next : c.next.new.self.start ≡ c.loop-i.i-iterator.start + 1 = search rules in
    let end : c.next.new.self.end ≡ c.loop-i.i-iterator.end = search rules in (
      subst (λ n. RunSet a.z a.s.now a.run.start n a.p c.put32.new.s) (sym next)
          (run_more a.z v.0 (subst (λ n. Put32 c.loop-i.s n a.p c.put32.new.s) (omega (arith, at, c.size.ensures)) c.put32.ensures) v.1),
      omega (arith, next, v.1),
      omega (arith, next, end, more),
      end ∙ v.3,
    )

pub returns : goal.returns
returns c =
    let v = c.loop-i.invariant in
    let done : c.loop-i.i-iterator.end ≤ c.loop-i.i-iterator.start = search rules in
    let e : c.loop-i.i-iterator.start ≡ c.args.run.end = omega (arith, done, v.2, v.3) in
    subst (λ n. RunSet c.args.z c.args.s.now c.args.run.start n c.args.p c.loop-i.s) e v.0
