use Rattle.std.proofs.Common.{List, ℕ, subst}
use Rattle.hash.specs.Fnv.{fnv}
use Rattle.partition.specs.Listing.{listing}
use Rattle.report.specs.Named.{TellsMark}
use Rattle.sheets.specs.Files.{sheet_rows}
use Rattle.sheets.proofs.Told.{file_row_told}
use Rattle.store.specs.Pages.{rows_held}
use Rattle.lots.proofs.bid.tell_next.Goals as goal

pub tell_row-requires : goal.tell_row-requires
tell_row-requires g c =
    let o = c.requires.0.over in
    record {
      over = o.over;
      below = c.requires.1;
      tells = file_row_told (sheet_rows o.over.sheet.said) (listing c.args.z fnv (rows_held c.args.z c.args.s.now)) c.args.i o.sums c.named_row-r.result c.args.flat.now c.args.n o.over.sheet.laid o.over.rows
          c.requires.1 o.markable.laid o.summed (subst (λ (cs : List ℕ). TellsMark c.args.flat.now cs c.args.i c.named_row-r.result) c.requires.0.are c.named_row-r.ensures);
    }
