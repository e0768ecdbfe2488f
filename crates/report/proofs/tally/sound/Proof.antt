-- `report::tally::sound` meets its contract. Assumes nothing.
use Prim.Native.Nat.{ℕ, ◌*◌, ◌-◌, ◌<◌, ◌≤◌, ◌^◌}
use mathlib.Core.List.{List}
use native.Mathlib.Omega.{arith}
use lib.ListN.{length, get_or}
use Rattle.report.proofs.Rises.{RisingTo, rising_none, rising_start, rising_next, falls, too_high, rising_end}
use Rattle.report.proofs.tally.sound.Statement.{statement}
use Rattle.report.proofs.tally.sound.Tie as tie

abbrev invariant_loop : tie.invariant-loop-i
invariant_loop ranks raised last₀ i₀ last i = RisingTo ranks raised i last

abbrev decreases_loop : tie.decreases-loop-i
decreases_loop ranks raised last₀ i₀ last i = length ranks - i

-- the start, from the loop's head and from within its body, and its ranks
abbrev H : tie.At-loop-i invariant_loop decreases_loop → tie.Start invariant_loop decreases_loop
H c = c.before.before.before.before.before

abbrev S : tie.In-loop-i invariant_loop decreases_loop → tie.Start invariant_loop decreases_loop
S c = H c.before

abbrev P : tie.In-loop-i invariant_loop decreases_loop → List ℕ
P c = (S c).args.ranks.now

scaled : (c : tie.In-loop-i invariant_loop decreases_loop) → c.loop-i.i * 8 < 2 ^ 64
scaled c = let g : length (P c) * 8 < 2 ^ 63 = (S c).well_formed.0.1 in omega (arith, g, c.loop-i-test.true)

returns : tie.Need-returns-then-ranks-eq0 invariant_loop decreases_loop
returns c = rising_none c.args.ranks.now c.args.raised.now c.if-ranks-eq0.true c.requires

shared-slice-read-if2 : tie.Need-bounds-raised-0 invariant_loop decreases_loop
shared-slice-read-if2 c = omega (arith, c.if-ranks-eq0.false, c.requires)

returns-2 : tie.Need-returns-then-raised-gt2000000000000 invariant_loop decreases_loop
returns-2 c s =
    let q = c in
    let d : get_or {A = ℕ} q.args.raised.now 0 0 ≤ 2000000000000 = s.amounts.le 0 (omega (arith, c.if-ranks-eq0.false, q.requires)) in
    omega (arith, d, c.if-raised-gt2000000000000.true)

shared-slice-read-last : tie.Need-bounds-ranks-0 invariant_loop decreases_loop
shared-slice-read-last c = omega (arith, c.if-ranks-eq0.false)

loop-holds : tie.Need-loop-i-init invariant_loop decreases_loop
loop-holds c = let q = c in rising_start q.args.ranks.now q.args.raised.now (omega (arith, c.if-ranks-eq0.false)) c.if-raised-gt2000000000000.false

mul-p : tie.Need-offset_bounds-ranks-i invariant_loop decreases_loop
mul-p c = record { fits = scaled c }

shared-slice-read-p : tie.Need-bounds-ranks-i invariant_loop decreases_loop
shared-slice-read-p c = c.loop-i-test.true

returns-3 : tie.Need-returns-then-p-last invariant_loop decreases_loop
returns-3 c s = let i = c in falls i.loop-i.invariant i.loop-i-test.true c.if-p-last.true s

mul-if4 : tie.Need-offset_bounds-raised-i invariant_loop decreases_loop
mul-if4 c = record { fits = scaled c.before.before }

shared-slice-read-if4 : tie.Need-bounds-raised-i invariant_loop decreases_loop
shared-slice-read-if4 c = let i = c in omega (arith, i.loop-i-test.true, (S i.before.before.before).requires)

returns-4 : tie.Need-returns-then-raised-i-gt2000000000000 invariant_loop decreases_loop
returns-4 c s =
    let i = c in
    let d : get_or {A = ℕ} (S i.before.before.before.before).args.raised.now i.loop-i.i 0 ≤ 2000000000000 = s.amounts.le i.loop-i.i (omega (arith, i.loop-i-test.true, (S i.before.before.before.before).requires)) in
    omega (arith, d, c.if-raised-i-gt2000000000000.true)

add-i : tie.Need-overflow_add-i invariant_loop decreases_loop
add-i c = let i = c in let g : length (P i.before.before.before.before) < 2 ^ 64 = (S i.before.before.before.before).well_formed.0.0 in record { fits = omega (arith, i.loop-i-test.true, g) }

loop-less : tie.Need-loop-i-smaller invariant_loop decreases_loop
loop-less c = let i = c in omega (arith, i.loop-i-test.true)

loop-again : tie.Need-loop-i-preserved invariant_loop decreases_loop
loop-again c = let i = c in rising_next i.loop-i.invariant i.loop-i-test.true c.if-p-last.false c.if-raised-i-gt2000000000000.false

returns-5 : tie.Need-returns-then-last-ge9223372036854775808 invariant_loop decreases_loop
returns-5 c s = too_high c.loop-i.invariant c.if-last-ge9223372036854775808.true s

returns-6 : tie.Need-returns invariant_loop decreases_loop
returns-6 c = rising_end c.loop-i.invariant (H c.before.before).requires c.loop-i-test.false c.if-last-ge9223372036854775808.false

pub sound_spec : {M : Type 1} → statement M
sound_spec =
    tie.close
    (tie.spec
    invariant_loop
    decreases_loop
    returns
    shared-slice-read-if2
    returns-2
    shared-slice-read-last
    loop-holds
    mul-p
    shared-slice-read-p
    returns-3
    mul-if4
    shared-slice-read-if4
    returns-4
    add-i
    loop-less
    loop-again
    returns-5
    returns-6)
