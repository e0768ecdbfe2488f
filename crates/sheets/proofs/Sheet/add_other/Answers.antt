-- `sheets::Sheet::add_other`: the first line of another form is kept.
use Rattle.std.proofs.Common.{refl, rules}
use Rattle.sheets.proofs.Added.{none_is, other_first, other_again}
use Rattle.sheets.proofs.Sheet.add_other.Goals as goal

pub returns-then-is_none : goal.returns-then-is_none
returns-then-is_none c xs e L = other_first xs c.args.self.now c.args.flat.now L _ c.args.l e (none_is c.args.self.now.wrong (search rules)) refl refl refl refl

pub returns-else-is_none : goal.returns-else-is_none
returns-else-is_none c xs e L = other_again xs c.args.self.now c.args.flat.now L (search rules)
