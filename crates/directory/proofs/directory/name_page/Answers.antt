-- A bucket's run is set, another page's is not.
use Rattle.std.proofs.Common.{◌≡◌, ℕ, ◌+◌, ◌*◌, ◌≤◌, List, length, sym, ap, ◌∙◌, arith}
use Rattle.std.proofs.Math.Nat.{mul-le-mul_right}
use Rattle.ground.specs.Lists.{byte}
use Rattle.ground.proofs.Parts.{length_part}
use Rattle.hash.specs.Fnv.{fnv}
use Rattle.page.specs.Page.{depth, code}
use Rattle.partition.specs.declared.Shape.{Shape}
use Rattle.store.specs.Pages.{size, page}
use Rattle.directory.proofs.Directories.{named_page, unnamed_page}
use Rattle.directory.proofs.directory.name_page.Goals as goal

whole : (S : Shape) (s : List ℕ) (p : ℕ) → p * size S + size S ≤ length s → length (page S s p) ≡ size S
unfolding page
whole S s p l = length_part s (p * size S) (size S) l

pub bounds-bucket-0 : goal.bounds-bucket-0
bounds-bucket-0 c = omega (arith, ap length c.page_at-bucket.ensures, whole c.args.z c.args.s.now c.args.p c.requires.1.there, c.requires.0.least)

pub bounds-bucket-1 : goal.bounds-bucket-1
bounds-bucket-1 c = omega (arith, ap length c.page_at-bucket.ensures, whole c.args.z c.args.s.now c.args.p c.requires.1.there, c.requires.0.least)

pub hash_slot-x-requires : goal.hash_slot-x-requires
hash_slot-x-requires c =
    let b = c.requires.1.keeps.rules (sym (ap (λ g. byte g 0) c.page_at-bucket.ensures) ∙ c.if-bucket-eq1.true) in
    rw c.page_at-bucket.ensures (b, b.some)

pub name_prefix-requires : goal.name_prefix-requires
name_prefix-requires c =
    let a = c.args in
    let q = c.requires.1 in
    let g = c.page_at-bucket.ensures in
    let deep : depth (page a.z a.s.now a.p) ≡ byte c.page_at-bucket.result.now 1 = sym (ap (λ g. byte g 1) g) in (
      c.requires.0,
      record {
        long = omega (arith, mul-le-mul_right (size a.z) q.least, q.there);
        low = omega (arith, deep, q.keeps.depths (sym (ap (λ g. byte g 0) g) ∙ c.if-bucket-eq1.true));
        deep = q.deep;
        word = omega (arith, q.most, c.requires.0.whole, c.requires.0.most);
      },
    )

pub returns-then-bucket-eq1 : goal.returns-then-bucket-eq1
returns-then-bucket-eq1 c =
    let a = c.args in
    let g = c.page_at-bucket.ensures in
    let x = c.hash_slot-x.ensures ∙ ap (λ g. fnv (code g 0)) g in
    named_page a.z fnv a.s.now a.d a.p c.name_prefix.new.s (byte c.page_at-bucket.result.now 1) c.hash_slot-x.result
    (sym (ap (λ g. byte g 0) g) ∙ c.if-bucket-eq1.true) (sym (ap (λ g. byte g 1) g)) (sym x) c.name_prefix.ensures

pub returns-else-bucket-eq1 : goal.returns-else-bucket-eq1
returns-else-bucket-eq1 c =
    let a = c.args in
    unnamed_page a.z fnv a.s.now a.d a.p (λ u. c.if-bucket-eq1.false (ap (λ g. byte g 0) c.page_at-bucket.ensures ∙ u))
