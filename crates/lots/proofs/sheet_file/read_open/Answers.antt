use Rattle.std.proofs.Common.{[], length, ap, ◌∙◌, arith, rules}
use Rattle.sheets.proofs.Breaks.{blank_long}
use Rattle.lots.proofs.Reporting.{none_begun}
use Rattle.lots.proofs.sheet_file.read_open.Goals as goal

pub read_sheet-requires : goal.read_sheet-requires
read_sheet-requires g c =
    record {
      room = record { flat = ap length c.requires ∙ blank_long; long = search rules; fill = omega (arith, c.fresh-sheet.ensures.fill); number = omega (arith, c.fresh-sheet.ensures.number) };
      bytes = [];
      read = none_begun c.fresh-sheet.ensures c.requires;
    }
