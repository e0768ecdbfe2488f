use Rattle.std.proofs.Common.{◌≡◌, ℕ, ◌-◌, ◌<◌, ◌≤◌, length, get_or}
use Rattle.words.specs.Zeros.{Zero}
use Rattle.hash.specs.Fnv.{fnv}
use Rattle.store.specs.Pages.{size}
use Rattle.store.specs.Accepted.{Stands}
use Rattle.store_check.specs.Digest.{Hashed}
use Rattle.store_check.proofs.Standing.{Like}
use Rattle.store_check.proofs.pages.first_unsound.Given as goal

-- the pages before p stand
abbrev pub invariant-pages : goal.invariant-pages
invariant-pages l = record {
  tab_long : length l.tab ≡ size l.z;
  no_tab : Zero l.tab;
  some : 2 ≤ l.p;
  within : l.p ≤ l.n;
  stand : (q : ℕ) → q < l.p → 2 ≤ q → Stands l.z fnv l.s q;
  hashed : Hashed l.z l.s l.p l.hashes;
  no_more : (q : ℕ) → l.p ≤ q → get_or l.hashes q 0 ≡ 0;
}

abbrev pub decreases-pages : goal.decreases-pages
decreases-pages l = l.n - l.p

-- the hashes of the slots before i are like the first
abbrev pub invariant-slots : goal.invariant-slots
invariant-slots l = (j : ℕ) → j < l.i → Like l.pg j
