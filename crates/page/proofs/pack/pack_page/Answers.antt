-- `page::pack_page` meets its contract. Assumes nothing.
use mathlib.Core.Path.{refl}
use Rattle.words.proofs.Bytes.{copied_whole}
use Rattle.page.proofs.pack.pack_page.Goals as goal

pub pack_into-requires : goal.pack_into-requires
pack_into-requires c = rw (copied_whole c.copy_at.ensures c.requires.1) (c.requires.0, refl)

pub returns : goal.returns
returns c =
    let e = copied_whole c.copy_at.ensures c.requires.1 in
    (rw e at c.pack_into.ensures, e)
