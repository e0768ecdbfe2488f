-- `commands::fault_text` meets its contract. Assumes nothing.
use mathlib.Core.Path.{ap, sym}
use native.Mathlib.Omega.{arith}
use Rattle.commands.specs.Answers.{faulty}
use Rattle.commands.proofs.Adding.{as_text}
use borrow.Author.Rules.{rules}
use Rattle.commands.proofs.answers.fault_text.Statement.{statement}
use Rattle.commands.proofs.answers.fault_text.Tie as tie

enum_told : tie.Need-enum_told-1
enum_told c = search rules

add-fault-requires : tie.Need-add_fault-requires
add-fault-requires c κs = search rules

enum-told-2 : tie.Need-enum_told-in-Escape
enum-told-2 c = search rules

add-fault-requires-2 : tie.Need-add_fault-requires-in-Escape
add-fault-requires-2 c κs = search rules

enum-told-3 : tie.Need-enum_told-in-Range
enum-told-3 c = search rules

add-fault-requires-3 : tie.Need-add_fault-requires-in-Range
add-fault-requires-3 c κs = search rules

enum-told-4 : tie.Need-enum_told-in-Form
enum-told-4 c = search rules

add-fault-requires-4 : tie.Need-add_fault-requires-in-Form
add-fault-requires-4 c κs = search rules

enum-told-5 : tie.Need-enum_told-in-Long
enum-told-5 c = search rules

add-fault-requires-5 : tie.Need-add_fault-requires-in-Long
add-fault-requires-5 c κs = search rules

enum-told-6 : tie.Need-enum_told-in-Filled
enum-told-6 c = search rules

add-fault-requires-6 : tie.Need-add_fault-requires-in-Filled
add-fault-requires-6 c κs = search rules

enum-told-7 : tie.Need-enum_told-in-Room
enum-told-7 c = search rules

add-fault-requires-7 : tie.Need-add_fault-requires-in-Room
add-fault-requires-7 c κs = search rules

same_length : tie.Need-shape_of-out-in-Word
same_length c = search rules

returns : tie.Need-returns-in-Word
returns c = let x = c in (as_text (ap (faulty _) (sym x.in-Word.is)) x.add_fault.ensures.0, omega (arith, x.add_fault.ensures.1))

same-length-2 : tie.Need-shape_of-out-in-Escape
same-length-2 c = search rules

returns-2 : tie.Need-returns-in-Escape
returns-2 c = let x = c in (as_text (ap (faulty _) (sym x.in-Escape.is)) x.add_fault-in-Escape.ensures.0, omega (arith, x.add_fault-in-Escape.ensures.1))

same-length-3 : tie.Need-shape_of-out-in-Range
same-length-3 c = search rules

returns-3 : tie.Need-returns-in-Range
returns-3 c = let x = c in (as_text (ap (faulty _) (sym x.in-Range.is)) x.add_fault-in-Range.ensures.0, omega (arith, x.add_fault-in-Range.ensures.1))

same-length-4 : tie.Need-shape_of-out-in-Form
same-length-4 c = search rules

returns-4 : tie.Need-returns-in-Form
returns-4 c = let x = c in (as_text (ap (faulty _) (sym x.in-Form.is)) x.add_fault-in-Form.ensures.0, omega (arith, x.add_fault-in-Form.ensures.1))

same-length-5 : tie.Need-shape_of-out-in-Long
same-length-5 c = search rules

returns-5 : tie.Need-returns-in-Long
returns-5 c = let x = c in (as_text (ap (faulty _) (sym x.in-Long.is)) x.add_fault-in-Long.ensures.0, omega (arith, x.add_fault-in-Long.ensures.1))

same-length-6 : tie.Need-shape_of-out-in-Filled
same-length-6 c = search rules

returns-6 : tie.Need-returns-in-Filled
returns-6 c = let x = c in (as_text (ap (faulty _) (sym x.in-Filled.is)) x.add_fault-in-Filled.ensures.0, omega (arith, x.add_fault-in-Filled.ensures.1))

same-length-7 : tie.Need-shape_of-out-in-Room
same-length-7 c = search rules

returns-7 : tie.Need-returns-in-Room
returns-7 c = let x = c in (as_text (ap (faulty _) (sym x.in-Room.is)) x.add_fault-in-Room.ensures.0, omega (arith, x.add_fault-in-Room.ensures.1))

pub fault_text_spec : {M : Type 1} → statement M
fault_text_spec =
    tie.close
    (tie.spec
    enum_told
    add-fault-requires
    enum-told-2
    add-fault-requires-2
    enum-told-3
    add-fault-requires-3
    enum-told-4
    add-fault-requires-4
    enum-told-5
    add-fault-requires-5
    enum-told-6
    add-fault-requires-6
    enum-told-7
    add-fault-requires-7
    same_length
    returns
    same-length-2
    returns-2
    same-length-3
    returns-3
    same-length-4
    returns-4
    same-length-5
    returns-5
    same-length-6
    returns-6
    same-length-7
    returns-7)
