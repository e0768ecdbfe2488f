-- the same page, as many rows on as there were turns
use Rattle.std.proofs.Common.{◌+◌, ◌≡◌}
use Rattle.page_reader.proofs.Reader.skip.Given as goal

abbrev pub invariant-loop : goal.invariant-loop
invariant-loop l = (l.reader.page ≡ l.fn.self.page) × (l.reader.slot ≡ l.fn.self.slot + l.counter)
