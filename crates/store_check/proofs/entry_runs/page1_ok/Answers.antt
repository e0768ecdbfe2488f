use Rattle.std.proofs.Common.{◌≡◌, ℕ, ◌+◌, ◌-◌, ◌*◌, List, take, drop, true, false, Bool, sym, subst, rules, arith}
use Rattle.ground.specs.Says.{Says}
use Rattle.ground.proofs.Tests.{says_true, says_false, says_same}
use Rattle.words.specs.Zeros.{Zero}
use Rattle.partition.specs.declared.Shape.{Shape}
use Rattle.store.specs.Pages.{size}
use Rattle.store.specs.Accepted.{Page1}
use Rattle.store_check.specs.Directory.{PageOneAsked, Entries, EntriesInRange, EntriesTo}
use Rattle.store_check.proofs.Heads.{bytes_behind, behind_bytes, entries_all, ranges_all, ranges_some, to_page1, of_page1}
use Rattle.store_check.proofs.entry_runs.page1_ok.Goals as goal

-- what is given, and the size z worked out
module _ (S : Shape) (s dir : List ℕ) (n m z : ℕ) (q : PageOneAsked S s dir n m) (e : z ≡ size S) where
  -- the bytes behind the entries in use
  abbrev Rest : ℕ → Type 0
  Rest y = Zero (take (2 * y - (y + 4 * m)) (drop (y + 4 * m) s))

  not_one : (r : Bool) → Says r (Rest z) → r ≡ false → Page1 S s → ⊥
  not_one r a f p = says_false {P = Rest z} r f a (subst Rest (sym e) (behind_bytes S s m q.room.sized q.room.few q.room.long (λ i l h. p.beyond i l (omega (arith, q.power)))))

  module _ (r : Bool) (a : Says r (Rest z)) (f : r ≡ true) (new : List ℕ) (to : EntriesTo S s new m) where
    decoded : Entries S s new
    decoded = entries_all S s m q.room.sized q.room.few q.room.long new to
        (bytes_behind S s m q.room.sized q.room.few q.room.long (subst Rest e (says_true {P = Rest z} r f a)))

    one : (t : Bool) → Says t (EntriesInRange new n m) → Says t (Page1 S s)
    one t u = says_same {P = EntriesInRange new n m} {Q = Page1 S s} t u
        (λ h. to_page1 S s new n m decoded q.number q.least q.power (ranges_all S s m q.room.sized q.room.few q.room.long new n (omega (arith, q.least)) to h))
        (λ p. ranges_some new n m (omega (arith, to.long, q.room.few)) (of_page1 S s new n m decoded q.number q.least q.power p))

pub returns-then-not-all_zero-clause-says : goal.returns-then-not-all_zero-clause-says
returns-then-not-all_zero-clause-says c =
    let a = c.args in
    not_one a.z a.s.now a.dir.now a.n a.m c.size-size.result c.requires c.size-size.ensures c.all_zero.result c.all_zero.ensures (search rules)

pub returns-clause-says : goal.returns-clause-says
returns-clause-says c =
    let a = c.args in
    one a.z a.s.now a.dir.now a.n a.m c.size-size.result c.requires c.size-size.ensures c.all_zero.result c.all_zero.ensures (search rules) c.entries.new.dir c.entries.ensures c.ranges-2.result c.ranges-2.ensures

pub returns-clause-read : goal.returns-clause-read
returns-clause-read c =
    let a = c.args in
    λ _. decoded a.z a.s.now a.dir.now a.n a.m c.size-size.result c.requires c.size-size.ensures c.all_zero.result c.all_zero.ensures (search rules) c.entries.new.dir c.entries.ensures
