-- `page::find_code` meets its contract. The codes of the slots before lo come before the key, and the key before the code of slot hi, if there is one. Assumes nothing.
use Prim.Native.Nat.{ℕ, ◌+◌, ◌-◌, ◌/◌, ◌≤◌, ◌<◌}
use mathlib.Core.Path.{◌≡◌, sym, ◌∙◌}
use mathlib.Core.Logic.{⊎_elim}
use mathlib.Core.List.{List}
use native.Mathlib.Omega.{arith}
use borrow.Author.Rules.{rules}
use lib.ListN.{length}
use lib.Seq.{ext_get_or}
use Rattle.ground.specs.Lists.{byte}
use Rattle.ground.proofs.Sides.{side}
use Rattle.words.specs.Codes.{Before, Ordered}
use Rattle.std.specs.declared.cmp.Ordering.{Ordering}
use Rattle.words.proofs.Orders.{before_trans, by_first, empty_before}
use Rattle.page.specs.Page.{Slotted, count, code}
use Rattle.page.proofs.Slots.{code_first, belongs}
use Rattle.page.proofs.read.find_code.Statement.{statement}
use Rattle.page.proofs.read.find_code.Tie as tie

abbrev invariant_loop : tie.invariant-loop-lo
invariant_loop page key lo₀ hi₀ lo hi = (lo ≤ hi) × (hi ≤ count page) × ((k : ℕ) → k < lo → Before (code page k) key) × (hi < count page → Before key (code page hi))

abbrev decreases_loop : tie.decreases-loop-lo
decreases_loop page key lo₀ hi₀ lo hi = hi - lo

-- where slot m's code comes before c, so do the codes of all slots to m
to : {p c : List ℕ} → Slotted p → (m : ℕ) → m < count p → Before (code p m) c → (k : ℕ) → k ≤ m → Before (code p k) c
to b m h o k l =
    ⊎_elim
    (λ lt. before_trans (b.ascending k m lt h) o)
    (λ ge. let e : k ≡ m = omega arith in rw e o)
    (side k m)

-- the middle, at the loop's head
module _ (l : tie.At-loop-lo invariant_loop decreases_loop) where
  abbrev p : List ℕ
  p = l.args.page.now

  abbrev k : List ℕ
  k = l.args.key.now

  abbrev mid : ℕ
  mid = l.loop-lo.lo + (l.loop-lo.hi - l.loop-lo.lo) / 2

  ruled : Slotted p
  ruled = l.requires

  some : 1 ≤ length k
  some = omega (arith, l.if-key-lt1.false)

  module _ (t : l.loop-lo.lo < l.loop-lo.hi) where
    here : mid < count p
    here = omega (arith, l.loop-lo.invariant.1)

    -- the code of the middle comes before the key: what is left lies behind it; the other way round
    behind : Before (code p mid) k → invariant_loop p k 0 0 (mid + 1) l.loop-lo.hi
    behind o = (omega arith, l.loop-lo.invariant.1, λ i h. to ruled mid here o i (omega arith), l.loop-lo.invariant.3)

    ahead : Before k (code p mid) → invariant_loop p k 0 0 l.loop-lo.lo mid
    ahead o = (omega arith, omega (arith, here), l.loop-lo.invariant.2, λ h. o)

-- where the first bytes are the same
module _ (d : tie.After-code_at-c invariant_loop decreases_loop) where
  abbrev first : tie.After-first_byte-x invariant_loop decreases_loop
  first = d.before.before.before.before.before

  same_first : byte (code (p first.before.before) (mid first.before.before)) 0 ≡ byte (k first.before.before) 0
  same_first = omega (arith, first.first_byte-x.ensures, d.if-x-key.false, d.if-key-x.false)

-- two codes of one byte
one_byte : (s t : List ℕ) → length s ≡ 1 → length t ≡ 1 → byte s 0 ≡ byte t 0 → s ≡ t
one_byte s t a b e = ext_get_or 0 s t (a ∙ sym b) (λ i h. let z : i ≡ 0 = omega (arith, h, a) in rw z e)

-- what a comparison says of the middle's code
told : (c : tie.After-compare_alike invariant_loop decreases_loop) (r : Ordering) → c.compare_alike.result ≡ r → let l = (first c.before.before).before.before in Ordered (code (p l) (mid l)) (k l) r
told c r e = rw (c.code_at-c.ensures, e) at c.compare_alike.ensures

returns : tie.Need-returns-then-key-lt1 invariant_loop decreases_loop
returns c =
    let s = c in
    belongs s.requires 0 (omega arith) (λ i h. absurd (omega arith)) (λ h. empty_before _ _ c.if-key-lt1.true (code_first 0 s.requires h).0)

get16-requires : tie.Need-get16-hi-requires invariant_loop decreases_loop
get16-requires c κs = search rules

loop-holds : tie.Need-loop-lo-init invariant_loop decreases_loop
loop-holds c = (omega arith, omega arith, λ i h. absurd (omega arith), λ h. absurd (omega arith))

sub-mid : tie.Need-overflow_sub-mid invariant_loop decreases_loop
sub-mid c = omega arith

add-mid : tie.Need-overflow_add-mid invariant_loop decreases_loop
add-mid c = search rules

first-byte-requires : tie.Need-first_byte-x-requires invariant_loop decreases_loop
first-byte-requires c κs = (ruled c.before, here c.before c.loop-lo-test.true)

shared-slice-read-if2 : tie.Need-bounds-key-0 invariant_loop decreases_loop
shared-slice-read-if2 c = omega (arith, some c.before.before.before)

add-lo : tie.Need-overflow_add-lo invariant_loop decreases_loop
add-lo c = search rules

loop-less : tie.Need-loop-lo-smaller-then-x-key invariant_loop decreases_loop
loop-less c = omega arith

loop-again : tie.Need-loop-lo-preserved-then-x-key invariant_loop decreases_loop
loop-again c =
    let f = c in
    let l = f in
    let t = f.loop-lo-test.true in
    behind l.before.before.before.before t (by_first _ _ (code_first (mid l.before.before.before.before) (ruled l.before.before.before.before) (here l.before.before.before.before t)).0 (some l.before.before.before.before) (rw f.first_byte-x.ensures at c.if-x-key.true))

shared-slice-read-if3 : tie.Need-bounds-key-0-else-x-key invariant_loop decreases_loop
shared-slice-read-if3 c = omega (arith, some c.before.before.before.before.before)

loop-less-2 : tie.Need-loop-lo-smaller-then-key-x invariant_loop decreases_loop
loop-less-2 c = omega arith

loop-again-2 : tie.Need-loop-lo-preserved-then-key-x invariant_loop decreases_loop
loop-again-2 c =
    let f = c in
    let l = f in
    let t = f.loop-lo-test.true in
    ahead l.before.before.before.before.before.before t (by_first _ _ (some l.before.before.before.before.before.before) (code_first (mid l.before.before.before.before.before.before) (ruled l.before.before.before.before.before.before) (here l.before.before.before.before.before.before t)).0 (rw f.first_byte-x.ensures at c.if-key-x.true))

code-at-requires : tie.Need-code_at-c-requires invariant_loop decreases_loop
code-at-requires c κs = let l = c in (ruled l.before.before.before.before.before.before, here l.before.before.before.before.before.before c.loop-lo-test.true)

add-if4 : tie.Need-overflow_add-c invariant_loop decreases_loop
add-if4 c = search rules

returns-2 : tie.Need-returns-then-c-key-eq2 invariant_loop decreases_loop
returns-2 c =
    let d = c in
    let f = first d.before in
    let l = f in
    let h = here l.before.before f.loop-lo-test.true in
    let u = code_first (mid l.before.before) (ruled l.before.before) h in
    let n : length (code (p l.before.before) (mid l.before.before)) + length (k l.before.before) ≡ 2 = rw d.code_at-c.ensures at c.if-c-key-eq2.true in
    (h, one_byte (code (p l.before.before) (mid l.before.before)) (k l.before.before) (omega (arith, n, u.0, some l.before.before)) (omega (arith, n, u.0, some l.before.before)) (same_first d.before))

compare-alike-requires : tie.Need-compare_alike-requires invariant_loop decreases_loop
compare-alike-requires c κs = search rules

enum_told : tie.Need-enum_told-1 invariant_loop decreases_loop
enum_told c = c.in-Less-1.keys1

add-lo-2 : tie.Need-overflow_add-lo-in-Less invariant_loop decreases_loop
add-lo-2 c = search rules

loop-less-3 : tie.Need-loop-lo-smaller-in-Less invariant_loop decreases_loop
loop-less-3 c = omega arith

loop-again-3 : tie.Need-loop-lo-preserved-in-Less invariant_loop decreases_loop
loop-again-3 c =
    let f = first c.before.before.before in
    behind f.before.before f.loop-lo-test.true (told c.before _ c.in-Less.is)

enum-told-2 : tie.Need-enum_told-in-Equal invariant_loop decreases_loop
enum-told-2 c = c.in-Equal-1.keys2

returns-3 : tie.Need-returns-in-Equal invariant_loop decreases_loop
returns-3 c =
    let f = first c.before.before.before in
    (here f.before.before f.loop-lo-test.true, told c.before _ c.in-Equal.is)

enum-told-3 : tie.Need-enum_told-in-Greater invariant_loop decreases_loop
enum-told-3 c = c.in-Greater-1.keys3

loop-less-4 : tie.Need-loop-lo-smaller invariant_loop decreases_loop
loop-less-4 c = omega arith

loop-again-4 : tie.Need-loop-lo-preserved invariant_loop decreases_loop
loop-again-4 c =
    let f = first c.before.before.before in
    ahead f.before.before f.loop-lo-test.true (told c.before _ c.in-Greater.is)

returns-4 : tie.Need-returns invariant_loop decreases_loop
returns-4 c =
    let l = c in
    let e : l.loop-lo.hi ≡ l.loop-lo.lo = omega arith in
    belongs (ruled l.before) l.loop-lo.lo (omega arith) l.loop-lo.invariant.2 (rw e at l.loop-lo.invariant.3)

pub find_code_spec : {M : Type 1} → statement M
find_code_spec =
    tie.close
    (tie.spec
    invariant_loop
    decreases_loop
    returns
    get16-requires
    loop-holds
    sub-mid
    add-mid
    first-byte-requires
    shared-slice-read-if2
    add-lo
    loop-less
    loop-again
    shared-slice-read-if3
    loop-less-2
    loop-again-2
    code-at-requires
    add-if4
    returns-2
    compare-alike-requires
    enum_told
    add-lo-2
    loop-less-3
    loop-again-3
    enum-told-2
    returns-3
    enum-told-3
    loop-less-4
    loop-again-4
    returns-4)
