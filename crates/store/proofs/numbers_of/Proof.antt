-- `store::numbers_of` meets its contract, refusal by refusal. Assumes nothing.
use mathlib.Core.Path.{◌≡◌, refl, ap, ◌∙◌}
use mathlib.Core.Logic.{inl, inr}
use Prim.Native.Nat.{ℕ}
use native.Mathlib.Omega.{arith}
use borrow.Author.Rules.{rules}
use Rattle.store.specs.declared.Refusal.{Refusal}
use Rattle.store.specs.Tables.{refused, refusal, Numbered}
use Rattle.store.proofs.numbers_of.Statement.{statement}
use Rattle.store.proofs.numbers_of.Tie as tie

plain : (n : ℕ) {r q : Refusal} → (n ≡ 2 → ⊥) → r ≡ q → refusal q ≡ refused n → Numbered n 0 (refusal r)
plain n d e f = inl (d, refl, ap refusal e ∙ f)

enum_told : tie.Need-enum_told-1
enum_told c = search rules

enum-known-r : tie.Need-enum_known-r
enum-known-r c = search rules

enum-told-2 : tie.Need-enum_told-in-BadCode
enum-told-2 c = search rules

enum-told-3 : tie.Need-enum_told-in-BadPlace
enum-told-3 c = search rules

enum-told-4 : tie.Need-enum_told-in-NoCode
enum-told-4 c = search rules

enum-told-5 : tie.Need-enum_told-in-PrefixFull
enum-told-5 c = search rules

enum-told-6 : tie.Need-enum_told-in-PagesFull
enum-told-6 c = search rules

enum-told-7 : tie.Need-enum_told-in-ShortOutput
enum-told-7 c = search rules

enum-told-8 : tie.Need-enum_told-in-NoRow
enum-told-8 c = search rules

enum-told-9 : tie.Need-enum_told-in-BadRuns
enum-told-9 c = search rules

enum-told-10 : tie.Need-enum_told-in-KnownCode
enum-told-10 c = search rules

enum-told-11 : tie.Need-enum_told-in-BadMode
enum-told-11 c = search rules

returns : tie.Need-returns-in-BadLength
returns c = plain 1 (λ e. omega (arith, e)) c.in-BadLength.is refl

returns-2 : tie.Need-returns-in-BadPage
returns-2 c = inr (refl, ap refusal c.in-BadPage.is)

returns-3 : tie.Need-returns-in-BadCode
returns-3 c = plain 3 (λ e. omega (arith, e)) c.in-BadCode.is refl

returns-4 : tie.Need-returns-in-BadPlace
returns-4 c = plain 4 (λ e. omega (arith, e)) c.in-BadPlace.is refl

returns-5 : tie.Need-returns-in-NoCode
returns-5 c = plain 5 (λ e. omega (arith, e)) c.in-NoCode.is refl

returns-6 : tie.Need-returns-in-PrefixFull
returns-6 c = plain 6 (λ e. omega (arith, e)) c.in-PrefixFull.is refl

returns-7 : tie.Need-returns-in-PagesFull
returns-7 c = plain 7 (λ e. omega (arith, e)) c.in-PagesFull.is refl

returns-8 : tie.Need-returns-in-ShortOutput
returns-8 c = plain 8 (λ e. omega (arith, e)) c.in-ShortOutput.is refl

returns-9 : tie.Need-returns-in-NoRow
returns-9 c = plain 9 (λ e. omega (arith, e)) c.in-NoRow.is refl

returns-10 : tie.Need-returns-in-BadRuns
returns-10 c = plain 12 (λ e. omega (arith, e)) c.in-BadRuns.is refl

returns-11 : tie.Need-returns-in-KnownCode
returns-11 c = plain 13 (λ e. omega (arith, e)) c.in-KnownCode.is refl

returns-12 : tie.Need-returns-in-BadMode
returns-12 c = plain 14 (λ e. omega (arith, e)) c.in-BadMode.is refl

pub numbers_of_spec : {M : Type 1} → statement M
numbers_of_spec =
    tie.close
    (tie.spec
    enum_told
    enum-known-r
    enum-told-2
    enum-told-3
    enum-told-4
    enum-told-5
    enum-told-6
    enum-told-7
    enum-told-8
    enum-told-9
    enum-told-10
    enum-told-11
    returns
    returns-2
    returns-3
    returns-4
    returns-5
    returns-6
    returns-7
    returns-8
    returns-9
    returns-10
    returns-11
    returns-12)
