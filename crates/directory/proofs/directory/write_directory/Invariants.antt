use Rattle.hash.specs.Fnv.{fnv}
use Rattle.directory.specs.Directory.{Directed}
use Rattle.directory.proofs.directory.write_directory.Given as goal

abbrev pub invariant-loop-p : goal.invariant-loop-p
invariant-loop-p l = Directed l.z fnv l.initial.s l.d l.p l.s
