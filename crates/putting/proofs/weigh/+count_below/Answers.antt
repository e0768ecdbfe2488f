-- `putting::count_below` meets its contract, by the cases of `below`. Assumes nothing.
use Rattle.std.proofs.Common.{◌≡◌, ℕ, suc, ◌+◌, ◌*◌, ◌^◌, ◌≤◌, ◌<◌, List, [], ◌∷◌, ◌++◌, length, get_or, arith, sym, ap, subst, ◌∙◌, length-append}
use lib.Pow.{pow_mono}
use Rattle.putting.proofs.Weighs.{below_none, below_one, below_deep, below_two, below_most, double}
use Rattle.putting.proofs.Counting.{counted_none, counted_one, counted_two, few_left, few_right}
use Rattle.putting.specs.declared.weigh.Weight.{Weight}
use Rattle.putting.specs.Split.{keyed, with_new, below, PrefixIn, Countable, CountedBelow}
use Rattle.partition.specs.declared.Shape.{Shape}
use Rattle.partition.proofs.Sizes.{twelve}
use Rattle.partition.specs.Partition.{Row, needs, rows_of}
use Rattle.partition.proofs.Tree.{pfx}
use Rattle.hash.specs.Fnv.{fnv}
use Rattle.putting.proofs.weigh.+count_below.Goals as goal

-- what the rows of the prefix need
module _ (S : Shape) (page key : List ℕ) (ws : List Weight) (k v : ℕ) (tallies : List ℕ) (C : Countable S fnv page key ws k v tallies) where
  abbrev rs : List Row
  rs = with_new page (keyed key)

  low : k ≤ 12
  low = omega (arith, C.prefix.deep, twelve S C.prefix.sized)

  small : v < 4096
  small = let m : 2 ^ k ≤ 2 ^ 12 = pow_mono low in omega (arith, C.prefix.bits)

  most : 2 ^ S.deepest ≤ 2 ^ 12
  most = pow_mono (twelve S C.prefix.sized)

  -- a prefix one bit longer
  module _ (more : k ≡ S.deepest → ⊥) where
    shallow : k < S.deepest
    shallow = omega (arith, C.prefix.deep, more)

    left : PrefixIn S (k + 1) (2 * v)
    left = record { sized = C.prefix.sized; deep = omega (arith, shallow); bits = omega (arith, C.prefix.bits, double k) }

    right : PrefixIn S (k + 1) (2 * v + 1)
    right = record { sized = C.prefix.sized; deep = omega (arith, shallow); bits = omega (arith, C.prefix.bits, double k) }

    halves : S.capacity < needs (rows_of fnv rs k v) → below S fnv rs k v ≡ below S fnv rs (k + 1) (2 * v) ++ below S fnv rs (k + 1) (2 * v + 1)
    halves o = below_two S fnv rs k v shallow o

    module _ (o : S.capacity < needs (rows_of fnv rs k v)) where
      on_left : Countable S fnv page key ws (k + 1) (2 * v) tallies
      on_left = record { weighed = C.weighed; prefix = left; array = C.array; few = few_left S fnv rs k v (halves o) tallies C.few }

      on_right : (t : List ℕ) → CountedBelow S fnv rs (k + 1) (2 * v) tallies t → Countable S fnv page key ws (k + 1) (2 * v + 1) t
      on_right t A = record { weighed = C.weighed; prefix = right; array = A.long; few = few_right S fnv rs k v (halves o) tallies C.few t A }

      sum : length (below S fnv rs k v) ≡ length (below S fnv rs (k + 1) (2 * v)) + length (below S fnv rs (k + 1) (2 * v + 1))
      sum = ap length (halves o) ∙ length-append (below S fnv rs (k + 1) (2 * v)) (below S fnv rs (k + 1) (2 * v + 1))

pub load-n-requires : goal.load-n-requires
load-n-requires t c = (c.requires.weighed, low _ _ _ _ _ _ _ c.requires)

none : (t : ℕ) (c : goal.Then-n-eq0 t) → below c.args.z fnv (with_new c.args.page.now (keyed c.args.key.now)) c.args.k c.args.v ≡ []
none t c = below_none c.args.z fnv (with_new c.args.page.now (keyed c.args.key.now)) c.args.k c.args.v (sym c.load-n.ensures ∙ c.if-n-eq0.true)

pub returns-then-n-eq0-clause-many : goal.returns-then-n-eq0-clause-many
returns-then-n-eq0-clause-many t c = sym (ap length (none t c))

pub returns-then-n-eq0-clause-counted : goal.returns-then-n-eq0-clause-counted
returns-then-n-eq0-clause-counted t c =
    counted_none c.args.z fnv (with_new c.args.page.now (keyed c.args.key.now)) c.args.k c.args.v c.args.tallies.now c.requires.array (none t c)

-- the rows fit: one bucket
single : (S : Shape) (rs : List Row) (k v n : ℕ) → n ≡ needs (rows_of fnv rs k v) → (n ≡ 0 → ⊥) → n ≤ S.capacity → below S fnv rs k v ≡ pfx k v ∷ []
single S rs k v n e some fit = below_one S fnv rs k v (omega (arith, e, some)) (omega (arith, e, fit))

pub count_up-requires : goal.count_up-requires
count_up-requires t c =
    let a = c.args in
    let l = low _ _ _ _ _ _ _ c.requires in
    let e : suc a.k ≡ 1 + a.k = omega arith in
    let o = single a.z (with_new a.page.now (keyed a.key.now)) a.k a.v c.load-n.result c.load-n.ensures c.if-n-eq0.false c.if-n-z.true in
    (omega (arith, l, c.requires.array), omega (arith, ap (λ j. get_or a.tallies.now j 0) e, c.requires.few a.k l, ap length o))

pub returns-then-n-z-clause-many : goal.returns-then-n-z-clause-many
returns-then-n-z-clause-many t c =
    let a = c.args in
    sym (ap length (single a.z (with_new a.page.now (keyed a.key.now)) a.k a.v c.load-n.result c.load-n.ensures c.if-n-eq0.false c.if-n-z.true))

pub returns-then-n-z-clause-counted : goal.returns-then-n-z-clause-counted
returns-then-n-z-clause-counted t c =
    let a = c.args in
    let rs = with_new a.page.now (keyed a.key.now) in
    let o = single a.z rs a.k a.v c.load-n.result c.load-n.ensures c.if-n-eq0.false c.if-n-z.true in
    subst (CountedBelow a.z fnv rs a.k a.v a.tallies.now) (sym c.count_up.ensures)
    (counted_one a.z fnv rs a.k a.v a.tallies.now c.requires.array (low _ _ _ _ _ _ _ c.requires) o)

-- no bits are left
bare : (t : ℕ) (c : goal.Then-k-z t) → below c.args.z fnv (with_new c.args.page.now (keyed c.args.key.now)) c.args.k c.args.v ≡ []
bare t c = below_deep c.args.z fnv (with_new c.args.page.now (keyed c.args.key.now)) c.args.k c.args.v (omega (arith, c.if-k-z.true)) (omega (arith, c.if-n-z.false, c.load-n.ensures))

pub returns-then-k-z-clause-many : goal.returns-then-k-z-clause-many
returns-then-k-z-clause-many t c = sym (ap length (bare t c))

pub returns-then-k-z-clause-counted : goal.returns-then-k-z-clause-counted
returns-then-k-z-clause-counted t c =
    counted_none c.args.z fnv (with_new c.args.page.now (keyed c.args.key.now)) c.args.k c.args.v c.args.tallies.now c.requires.array (bare t c)

-- they do not fit: two halves
pub overflow_add-k-2 : goal.overflow_add-k-2
overflow_add-k-2 t c = omega (arith, low _ _ _ _ _ _ _ c.requires)

pub overflow_mul-v : goal.overflow_mul-v
overflow_mul-v t c = omega (arith, small _ _ _ _ _ _ _ c.requires)

heavy : (S : Shape) (rs : List Row) (k v n : ℕ) → n ≡ needs (rows_of fnv rs k v) → S.capacity < n → S.capacity < needs (rows_of fnv rs k v)
heavy S rs k v n e o = omega (arith, e, o)

pub count_below-left-requires : goal.count_below-left-requires
count_below-left-requires t c =
    let a = c.args in
    let o = heavy a.z (with_new a.page.now (keyed a.key.now)) a.k a.v c.load-n.result c.load-n.ensures c.if-n-z.false in
    (omega (arith, c.decreases, shallow _ _ _ _ _ _ _ c.requires c.if-k-z.false), on_left _ _ _ _ _ _ _ c.requires c.if-k-z.false o)

pub overflow_add-k-3 : goal.overflow_add-k-3
overflow_add-k-3 t c = omega (arith, low _ _ _ _ _ _ _ c.requires)

pub overflow_mul-v-2 : goal.overflow_mul-v-2
overflow_mul-v-2 t c = omega (arith, small _ _ _ _ _ _ _ c.requires)

pub overflow_add-v : goal.overflow_add-v
overflow_add-v t c = omega (arith, small _ _ _ _ _ _ _ c.requires)

pub count_below-right-requires : goal.count_below-right-requires
count_below-right-requires t c =
    let a = c.args in
    let o = heavy a.z (with_new a.page.now (keyed a.key.now)) a.k a.v c.load-n.result c.load-n.ensures c.if-n-z.false in
    (omega (arith, c.decreases, shallow _ _ _ _ _ _ _ c.requires c.if-k-z.false), on_right _ _ _ _ _ _ _ c.requires c.if-k-z.false o _ c.count_below-left.ensures.counted)

pub overflow_add-result : goal.overflow_add-result
overflow_add-result t c =
    let a = c.args in
    let rs = with_new a.page.now (keyed a.key.now) in
    omega (arith, most _ _ _ _ _ _ _ c.requires, c.count_below-left.ensures.many, c.count_below-right.ensures.many, below_most a.z fnv rs (a.k + 1) (2 * a.v), below_most a.z fnv rs (a.k + 1) (2 * a.v + 1))

pub returns-clause-many : goal.returns-clause-many
returns-clause-many t c =
    let a = c.args in
    let o = heavy a.z (with_new a.page.now (keyed a.key.now)) a.k a.v c.load-n.result c.load-n.ensures c.if-n-z.false in
    omega (arith, c.count_below-left.ensures.many, c.count_below-right.ensures.many, sum _ _ _ _ _ _ _ c.requires c.if-k-z.false o)

pub returns-clause-counted : goal.returns-clause-counted
returns-clause-counted t c =
    let a = c.args in
    let rs = with_new a.page.now (keyed a.key.now) in
    let o = heavy a.z rs a.k a.v c.load-n.result c.load-n.ensures c.if-n-z.false in
    counted_two a.z fnv rs a.k a.v (halves _ _ _ _ _ _ _ c.requires c.if-k-z.false o) a.tallies.now _ _ c.count_below-left.ensures.counted c.count_below-right.ensures.counted
