-- The writes make the blank store.
use Rattle.std.proofs.Common.{◌≡◌, refl, ℕ, ◌*◌, ◌/◌, ◌%◌, List, length, sym, ap, subst, arith}
use mathlib.Core.Logic.{inl, inr}
use Rattle.partition.specs.declared.Shape.{Shape}
use Rattle.partition.proofs.Sizes.{number_small}
use Rattle.words.specs.Moves.{Put32}
use Rattle.store.specs.Accepted.{GoodLength}
use Rattle.store.specs.Pages.{size, pages}
use Rattle.store.specs.Tables.{format_table, formatted}
use Rattle.directory.proofs.Formats.{words_there, formatted_is}
use Rattle.directory.proofs.format_pages.Goals as goal

-- by the size that was worked out
count_is : (S : Shape) (s : List ℕ) (n : ℕ) → n ≡ size S → length s / n ≡ pages S s
count_is S s n e = ap (λ m. length s / m) e

pub returns-then-s-size-ne0 : goal.returns-then-s-size-ne0
unfolding format_table
returns-then-s-size-ne0 c = inl (tt, ((λ g. c.if-s-size-ne0.true (subst (λ m. length c.args.s.now % m ≡ 0) (sym c.size-size.ensures) g.whole)), refl))

pub returns-then-n-lt3 : goal.returns-then-n-lt3
unfolding format_table
returns-then-n-lt3 c = inl (tt, ((λ g. omega (arith, count_is c.args.z c.args.s.now c.size-size.result c.size-size.ensures, c.if-n-lt3.true, g.least)), refl))

pub returns-then-z-n : goal.returns-then-z-n
unfolding format_table
returns-then-z-n c = inl (tt, ((λ g. omega (arith, count_is c.args.z c.args.s.now c.size-size.result c.size-size.ensures, c.if-z-n.true, g.most)), refl))

pub put32-requires-5 : goal.put32-requires-5
put32-requires-5 c =
    let a = c.args in
    let n = count_is a.z a.s.now c.size-size.result c.size-size.ensures in (
      omega (arith, words_there a.z c.requires a.s.now (omega (arith, n, c.if-n-lt3.false)), c.clear.ensures.len, c.put32.ensures.old.len, c.put32-2.ensures.old.len, c.put32-3.ensures.old.len, c.put32-4.ensures.old.len),
      omega (arith, c.size_number.ensures, number_small a.z c.requires),
    )

pub returns : goal.returns
unfolding format_table
returns c =
    let a = c.args in
    let e = c.size-size.ensures in
    let n = count_is a.z a.s.now c.size-size.result e in
    let good : GoodLength a.z a.s.now = record {
      whole = subst (λ m. length a.s.now % m ≡ 0) e (omega (arith, c.if-s-size-ne0.false));
      least = omega (arith, n, c.if-n-lt3.false);
      most = omega (arith, n, c.if-z-n.false);
    } in
    inr (
      (λ _ r. r good),
      ap (λ l. (formatted, l)) (formatted_is a.z c.requires a.s.now c.clear.new.s c.put32.new.s c.put32-2.new.s c.put32-3.new.s c.put32-4.new.s c.put32-5.new.s
          good c.clear.ensures
          (subst (λ n. Put32 c.clear.new.s 0 n c.put32.new.s) n c.put32.ensures)
          (subst (λ n. Put32 c.put32.new.s 4 n c.put32-2.new.s) e c.put32-2.ensures)
          c.put32-3.ensures
          (subst (λ n. Put32 c.put32-3.new.s 12 (2 * n) c.put32-4.new.s) e c.put32-4.ensures)
          (subst (λ n. Put32 c.put32-4.new.s 20 n c.put32-5.new.s) c.size_number.ensures c.put32-5.ensures) (λ i. omega (arith, c.type_inv.s i))),
    )
