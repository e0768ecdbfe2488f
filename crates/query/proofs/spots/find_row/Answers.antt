-- Entry, page, slot.
use Rattle.std.proofs.Common.{◌≡◌, ap, sym, subst, ◌∙◌, arith, List, ℕ, ◌+◌, ◌*◌, ◌≤◌, length}
use Rattle.std.specs.Prelude.{Some, None, Ok, Err}
use Rattle.hash.specs.Fnv.{fnv}
use Rattle.page.specs.Page.{BucketPage, Belongs}
use Rattle.page.specs.Found.{FoundIn}
use Rattle.partition.specs.declared.Shape.{Shape}
use Rattle.partition.specs.Bits.{top}
use Rattle.store.specs.Pages.{size, page, dir_depth, entry_at}
use Rattle.store.proofs.Accepted.Reading.{entry_of}
use Rattle.query.specs.Asked.{Sought}
use Rattle.query.specs.Spots.{StandsAt}
use Rattle.query.proofs.Finds.{long_enough, shallow, not_named, inside, keeps, here, nowhere}
use Rattle.query.proofs.spots.find_row.Goals as goal

pub entry_of-p-requires : goal.entry_of-p-requires
entry_of-p-requires c =
    let r = c.requires in
    record { sized = r.sized; long = omega (arith, long_enough c.args.z r.sized c.args.s.now r.accepted); deep = shallow c.args.z r.sized c.args.s.now r.accepted }

-- the entry p is the code's
module _ (z : Shape) (s key : List ℕ) (x p : ℕ) (r : Sought z fnv s key x) (e : p ≡ entry_at z s (top (dir_depth s) x)) where
  entry : p ≡ entry_of z fnv s key
  entry = e ∙ ap (λ x. entry_at z s (top (dir_depth s) x)) r.hash

  module _ (n : p ≡ 0 → ⊥) where
    some_entry : entry_of z fnv s key ≡ 0 → ⊥
    some_entry f = n (entry ∙ f)

    on_it : p * size z + size z ≤ length s
    on_it = subst (λ p. p * size z + size z ≤ length s) (sym entry) (inside z r.sized s r.accepted key some_entry)

    bucket : BucketPage (page z s p)
    bucket = subst (λ p. BucketPage (page z s p)) (sym entry) (keeps z r.sized s r.accepted key some_entry)

    stands_at : (i : ℕ) → FoundIn (page z s p) key (Ok i) → StandsAt z s key (Some (record { page = p; slot = i }))
    stands_at i f = subst (λ p. FoundIn (page z s p) key (Ok i) → StandsAt z s key (Some (record { page = p; slot = i }))) (sym entry) (λ f. here z r.sized s r.accepted key some_entry i f.0 f.1) f

    stands_not : (i : ℕ) → FoundIn (page z s p) key (Err i) → StandsAt z s key None
    stands_not i f = nowhere z r.sized s r.accepted key some_entry i (subst (λ p. Belongs (page z s p) i key) entry f)

pub returns-then-p-eq0 : goal.returns-then-p-eq0
returns-then-p-eq0 c =
    not_named c.args.z c.requires.sized c.args.s.now c.requires.accepted c.args.key.now (sym (entry c.args.z c.args.s.now c.args.key.now c.args.x c.entry_of-p.result c.requires c.entry_of-p.ensures.0) ∙ c.if-p-eq0.true)

pub page_at-requires : goal.page_at-requires
page_at-requires c = on_it c.args.z c.args.s.now c.args.key.now c.args.x c.entry_of-p.result c.requires c.entry_of-p.ensures.0 c.if-p-eq0.false

pub find_code-requires : goal.find_code-requires
find_code-requires c = rw c.page_at.ensures (bucket c.args.z c.args.s.now c.args.key.now c.args.x c.entry_of-p.result c.requires c.entry_of-p.ensures.0 c.if-p-eq0.false).rules

pub returns-in-Ok : goal.returns-in-Ok
returns-in-Ok c = stands_at c.args.z c.args.s.now c.args.key.now c.args.x c.entry_of-p.result c.requires c.entry_of-p.ensures.0 c.if-p-eq0.false c.in-Ok.slot (rw c.page_at.ensures at c.in-Ok.ensures)

pub returns-in-Err : goal.returns-in-Err
returns-in-Err c = stands_not c.args.z c.args.s.now c.args.key.now c.args.x c.entry_of-p.result c.requires c.entry_of-p.ensures.0 c.if-p-eq0.false c.in-Err.field-0 (rw c.page_at.ensures at c.in-Err.ensures)
