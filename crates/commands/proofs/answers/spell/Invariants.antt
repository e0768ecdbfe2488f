use Rattle.std.proofs.Common.{◌≡◌, ◌≤◌, ◌++◌, ◌+◌, ◌-◌, length, take, drop}
use Rattle.io.specs.Digits.{last_digits}
use Rattle.commands.proofs.answers.spell.Given as goal

abbrev pub invariant-loop-i : goal.invariant-loop-i
invariant-loop-i l = record {
  within : l.i ≤ l.k;
  long : length l.out ≡ length l.fn.out;
  front : take l.at l.out ≡ take l.at l.fn.out;
  digits : last_digits 10 l.k l.n ≡ last_digits 10 l.i l.rest ++ take (l.k - l.i) (drop (l.at + l.i) l.out);
}
