-- `page_check::near_by_twos` meets its contract. Assumes nothing.
use Prim.Native.Nat.{ℕ, ◌+◌, ◌-◌, ◌<◌}
use mathlib.Core.Path.{◌≡◌, subst}
use mathlib.Core.Logic.{⊎_elim}
use mathlib.Core.List.{List}
use native.Mathlib.Omega.{arith}
use lib.Bits.{bit_xor}
use borrow.Author.Tests.{not-false}
use borrow.Author.Rules.{rules}
use Rattle.ground.proofs.Sides.{side}
use Rattle.ground.proofs.Tests.{says_true}
use Rattle.hash.specs.Fnv.{fnv}
use Rattle.page.specs.Page.{count, code}
use Rattle.page_check.specs.Shared.{NearUpTo}
use Rattle.page_check.proofs.near_by_twos.Statement.{statement}
use Rattle.page_check.proofs.near_by_twos.Tie as tie

abbrev invariant_loop : tie.invariant-loop-i
invariant_loop page first m n i₀ i = NearUpTo page first m i

abbrev decreases_loop : tie.decreases-loop-i
decreases_loop page first m n i₀ i = n - i

get16-requires : tie.Need-get16-n-requires invariant_loop decreases_loop
get16-requires c κs = omega (arith, c.requires.rules.least)

loop-holds : tie.Need-loop-i-init invariant_loop decreases_loop
loop-holds c = record { start = omega arith; within = omega (arith, c.requires.some); near = λ j h l. absurd (omega arith) }

add-loop : tie.Need-overflow_add-i invariant_loop decreases_loop
add-loop c = search rules

hash-pair-requires : tie.Need-hash_pair-requires invariant_loop decreases_loop
hash-pair-requires c κs = (c.requires, omega (arith, c.get16-n.ensures.0))

both-below-requires : tie.Need-both_below-requires invariant_loop decreases_loop
both-below-requires c κs = search rules

returns : tie.Need-returns-then-not-both_below invariant_loop decreases_loop
returns c = c.loop-i.invariant

add-i : tie.Need-overflow_add-i-in-loop-i invariant_loop decreases_loop
add-i c = search rules

loop-less : tie.Need-loop-i-smaller invariant_loop decreases_loop
loop-less c = search rules

-- the two slots that come next, where they are near too
two_more : (p : List ℕ) (x m i a b : ℕ) → NearUpTo p x m i → i + 1 < count p → a ≡ fnv (code p i) → b ≡ fnv (code p (i + 1)) → (bit_xor x a < m) × (bit_xor x b < m) → NearUpTo p x m (i + 2)
two_more p x m i a b u l e f h = record {
  start = omega arith;
  within = omega arith;
  near = λ j s lt. ⊎_elim
      (λ before. u.near j s before)
      (λ from. ⊎_elim
      (λ below. let k : j ≡ i = omega arith in rw k (subst (λ y. bit_xor x y < m) e h.0))
      (λ above. let k : j ≡ i + 1 = omega arith in rw k (subst (λ y. bit_xor x y < m) f h.1))
      (side j (i + 1)))
      (side j i);
}

loop-again : tie.Need-loop-i-preserved invariant_loop decreases_loop
loop-again c =
    let g = c in
    let q = g in
    let l = q.loop-i in
    let z = q.args in
    two_more z.page.now z.first z.m l.i q.hash_pair.result.first q.hash_pair.result.second l.invariant (omega (arith, q.get16-n.ensures.0)) q.hash_pair.ensures.0 q.hash_pair.ensures.1
    (says_true {P = (bit_xor z.first q.hash_pair.result.first < z.m) × (bit_xor z.first q.hash_pair.result.second < z.m)} g.both_below.result (not-false _ c.if-not-both_below.false-raw) g.both_below.ensures)

returns-2 : tie.Need-returns invariant_loop decreases_loop
returns-2 c = c.loop-i.invariant

pub near_by_twos_spec : {M : Type 1} → statement M
near_by_twos_spec =
    tie.close
    (tie.spec
    invariant_loop
    decreases_loop
    get16-requires
    loop-holds
    add-loop
    hash-pair-requires
    both-below-requires
    returns
    add-i
    loop-less
    loop-again
    returns-2)
