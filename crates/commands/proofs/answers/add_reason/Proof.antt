-- `commands::add_reason` meets its contract. Assumes nothing.
use native.Mathlib.Omega.{arith}
use Rattle.commands.proofs.Adding.{as_text, reasoned}
use borrow.Author.Rules.{rules}
use Rattle.commands.proofs.answers.add_reason.Statement.{statement}
use Rattle.commands.proofs.answers.add_reason.Tie as tie

enum_told : tie.Need-enum_told-1
enum_told c = search rules

add-because-requires : tie.Need-add_because-requires
add-because-requires c κs = search rules

enum-told-2 : tie.Need-enum_told-in-BadPage
enum-told-2 c = search rules

add-because-requires-2 : tie.Need-add_because-requires-in-BadPage
add-because-requires-2 c κs = search rules

enum-told-3 : tie.Need-enum_told-in-BadCode
enum-told-3 c = search rules

add-because-requires-3 : tie.Need-add_because-requires-in-BadCode
add-because-requires-3 c κs = search rules

enum-told-4 : tie.Need-enum_told-in-BadPlace
enum-told-4 c = search rules

add-because-requires-4 : tie.Need-add_because-requires-in-BadPlace
add-because-requires-4 c κs = search rules

enum-told-5 : tie.Need-enum_told-in-NoCode
enum-told-5 c = search rules

add-because-requires-5 : tie.Need-add_because-requires-in-NoCode
add-because-requires-5 c κs = search rules

enum-told-6 : tie.Need-enum_told-in-PrefixFull
enum-told-6 c = search rules

add-because-requires-6 : tie.Need-add_because-requires-in-PrefixFull
add-because-requires-6 c κs = search rules

enum-told-7 : tie.Need-enum_told-in-PagesFull
enum-told-7 c = search rules

add-because-requires-7 : tie.Need-add_because-requires-in-PagesFull
add-because-requires-7 c κs = search rules

enum-told-8 : tie.Need-enum_told-in-ShortOutput
enum-told-8 c = search rules

add-because-requires-8 : tie.Need-add_because-requires-in-ShortOutput
add-because-requires-8 c κs = search rules

enum-told-9 : tie.Need-enum_told-in-NoRow
enum-told-9 c = search rules

add-because-requires-9 : tie.Need-add_because-requires-in-NoRow
add-because-requires-9 c κs = search rules

enum-told-10 : tie.Need-enum_told-in-BadRuns
enum-told-10 c = search rules

add-because-requires-10 : tie.Need-add_because-requires-in-BadRuns
add-because-requires-10 c κs = search rules

enum-told-11 : tie.Need-enum_told-in-KnownCode
enum-told-11 c = search rules

add-because-requires-11 : tie.Need-add_because-requires-in-KnownCode
add-because-requires-11 c κs = search rules

enum-told-12 : tie.Need-enum_told-in-BadMode
enum-told-12 c = search rules

add-because-requires-12 : tie.Need-add_because-requires-in-BadMode
add-because-requires-12 c κs = search rules

same_length : tie.Need-shape_of-out-in-BadLength
same_length c = search rules

returns : tie.Need-returns-in-BadLength
returns c = let x = c in (as_text (reasoned _ _ _ x.in-BadLength.is) x.add_because.ensures.0, omega (arith, x.add_because.ensures.1))

same-length-2 : tie.Need-shape_of-out-in-BadPage
same-length-2 c = search rules

returns-2 : tie.Need-returns-in-BadPage
returns-2 c = let x = c in (as_text (reasoned _ _ _ x.in-BadPage.is) x.add_because-in-BadPage.ensures.0, omega (arith, x.add_because-in-BadPage.ensures.1))

same-length-3 : tie.Need-shape_of-out-in-BadCode
same-length-3 c = search rules

returns-3 : tie.Need-returns-in-BadCode
returns-3 c = let x = c in (as_text (reasoned _ _ _ x.in-BadCode.is) x.add_because-in-BadCode.ensures.0, omega (arith, x.add_because-in-BadCode.ensures.1))

same-length-4 : tie.Need-shape_of-out-in-BadPlace
same-length-4 c = search rules

returns-4 : tie.Need-returns-in-BadPlace
returns-4 c = let x = c in (as_text (reasoned _ _ _ x.in-BadPlace.is) x.add_because-in-BadPlace.ensures.0, omega (arith, x.add_because-in-BadPlace.ensures.1))

same-length-5 : tie.Need-shape_of-out-in-NoCode
same-length-5 c = search rules

returns-5 : tie.Need-returns-in-NoCode
returns-5 c = let x = c in (as_text (reasoned _ _ _ x.in-NoCode.is) x.add_because-in-NoCode.ensures.0, omega (arith, x.add_because-in-NoCode.ensures.1))

same-length-6 : tie.Need-shape_of-out-in-PrefixFull
same-length-6 c = search rules

returns-6 : tie.Need-returns-in-PrefixFull
returns-6 c = let x = c in (as_text (reasoned _ _ _ x.in-PrefixFull.is) x.add_because-in-PrefixFull.ensures.0, omega (arith, x.add_because-in-PrefixFull.ensures.1))

same-length-7 : tie.Need-shape_of-out-in-PagesFull
same-length-7 c = search rules

returns-7 : tie.Need-returns-in-PagesFull
returns-7 c = let x = c in (as_text (reasoned _ _ _ x.in-PagesFull.is) x.add_because-in-PagesFull.ensures.0, omega (arith, x.add_because-in-PagesFull.ensures.1))

same-length-8 : tie.Need-shape_of-out-in-ShortOutput
same-length-8 c = search rules

returns-8 : tie.Need-returns-in-ShortOutput
returns-8 c = let x = c in (as_text (reasoned _ _ _ x.in-ShortOutput.is) x.add_because-in-ShortOutput.ensures.0, omega (arith, x.add_because-in-ShortOutput.ensures.1))

same-length-9 : tie.Need-shape_of-out-in-NoRow
same-length-9 c = search rules

returns-9 : tie.Need-returns-in-NoRow
returns-9 c = let x = c in (as_text (reasoned _ _ _ x.in-NoRow.is) x.add_because-in-NoRow.ensures.0, omega (arith, x.add_because-in-NoRow.ensures.1))

same-length-10 : tie.Need-shape_of-out-in-BadRuns
same-length-10 c = search rules

returns-10 : tie.Need-returns-in-BadRuns
returns-10 c = let x = c in (as_text (reasoned _ _ _ x.in-BadRuns.is) x.add_because-in-BadRuns.ensures.0, omega (arith, x.add_because-in-BadRuns.ensures.1))

same-length-11 : tie.Need-shape_of-out-in-KnownCode
same-length-11 c = search rules

returns-11 : tie.Need-returns-in-KnownCode
returns-11 c = let x = c in (as_text (reasoned _ _ _ x.in-KnownCode.is) x.add_because-in-KnownCode.ensures.0, omega (arith, x.add_because-in-KnownCode.ensures.1))

same-length-12 : tie.Need-shape_of-out-in-BadMode
same-length-12 c = search rules

returns-12 : tie.Need-returns-in-BadMode
returns-12 c = let x = c in (as_text (reasoned _ _ _ x.in-BadMode.is) x.add_because-in-BadMode.ensures.0, omega (arith, x.add_because-in-BadMode.ensures.1))

pub add_reason_spec : {M : Type 1} → statement M
add_reason_spec =
    tie.close
    (tie.spec
    enum_told
    add-because-requires
    enum-told-2
    add-because-requires-2
    enum-told-3
    add-because-requires-3
    enum-told-4
    add-because-requires-4
    enum-told-5
    add-because-requires-5
    enum-told-6
    add-because-requires-6
    enum-told-7
    add-because-requires-7
    enum-told-8
    add-because-requires-8
    enum-told-9
    add-because-requires-9
    enum-told-10
    add-because-requires-10
    enum-told-11
    add-because-requires-11
    enum-told-12
    add-because-requires-12
    same_length
    returns
    same-length-2
    returns-2
    same-length-3
    returns-3
    same-length-4
    returns-4
    same-length-5
    returns-5
    same-length-6
    returns-6
    same-length-7
    returns-7
    same-length-8
    returns-8
    same-length-9
    returns-9
    same-length-10
    returns-10
    same-length-11
    returns-11
    same-length-12
    returns-12)
