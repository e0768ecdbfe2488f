-- `directory::format` meets its contract: the one instance for each page size. Assumes nothing.
use borrow.Author.Tests.{not-true, not-false}
use borrow.Author.Rules.{rules}
use mathlib.Core.Path.{refl, sym, subst}
use mathlib.Core.Logic.{inl, inr}
use Rattle.ground.specs.Ladder.{Answers}
use Rattle.ground.proofs.Tests.{says_true, says_false}
use Rattle.partition.specs.Sizes.{Sized}
use Rattle.partition.proofs.Sizes.{sized_for}
use Rattle.store.specs.Tables.{PageSize, format_table, format_sized, meaning}
use Rattle.directory.proofs.format.Statement.{statement}
use Rattle.directory.proofs.format.Tie as tie

is-page-size-requires : tie.Need-is_page_size-requires
is-page-size-requires c κs = search rules

returns : tie.Need-returns-then-not-is_page_size
unfolding format_sized
returns c =
    let t = c in
    inl (tt, (says_false {P = PageSize t.args.size} t.is_page_size.result (not-true _ c.if-not-is_page_size.true-raw) t.is_page_size.ensures, refl))

shape-for-requires : tie.Need-shape_for-requires
shape-for-requires c κs = search rules

format-pages-requires : tie.Need-format_pages-requires
format-pages-requires c κs = subst Sized (sym c.shape_for.ensures) (sized_for c.args.size)

same_length : tie.Need-shape_of-s
same_length c = search rules

returns-2 : tie.Need-returns
unfolding format_sized
returns-2 c =
    let g = c in
    let e = g in
    let t = e in
    let a = t in
    let n = a.args.size in
    inr (
      (λ _ r. r (says_true {P = PageSize n} t.is_page_size.result (not-false _ e.if-not-is_page_size.false-raw) t.is_page_size.ensures)),
      subst (λ S. Answers (format_table S a.args.s.now) (meaning g.format_pages.result, g.format_pages.new.s)) g.shape_for.ensures g.format_pages.ensures,
    )

pub format_spec : {M : Type 1} → statement M
format_spec = tie.close (tie.spec is-page-size-requires returns shape-for-requires format-pages-requires same_length returns-2)
