use Rattle.std.proofs.Common.{◌≡◌, ◌+◌, ◌*◌, ◌/◌, ◌<◌, ◌≤◌, length, subst, ⊎_elim, arith}
use Rattle.ground.proofs.Sides.{side}
use Rattle.partition.specs.Sizes.{size, shape_of}
use Rattle.lots.specs.Obeys.{PageAsked}
use Rattle.lots.proofs.Inspecting.{lent_whole, lent_page}
use Rattle.lots.proofs.Leaving.{page_inside}
use Rattle.lots.proofs.obey.inspect.Goals as goal

pub list_page-requires : goal.list_page-requires
list_page-requires g c =
    let z = c.page_size-size in
    let inside : c.args.p * z.result + z.result ≤ length c.args.s.now = page_inside c.args.p z.result (length c.args.s.now) (omega (arith, c.if-p-s.false)) in
    let said : 24 ≤ length c.args.s.now = ⊎_elim (λ l. absurd (omega (arith, inside, z.ensures.short l))) (λ h. h) (side (length c.args.s.now) 24) in
    lent_whole c.args.s.now c.args.p z.result inside (z.ensures.own said)

pub returns : goal.returns
returns g c =
    let z = c.page_size-size in
    let inside : c.args.p * z.result + z.result ≤ length c.args.s.now = page_inside c.args.p z.result (length c.args.s.now) (omega (arith, c.if-p-s.false)) in
    let said : 24 ≤ length c.args.s.now = ⊎_elim (λ l. absurd (omega (arith, inside, z.ensures.short l))) (λ h. h) (side (length c.args.s.now) 24) in
    let own : z.result ≡ size (shape_of c.args.s.now) = z.ensures.own said in
    let b : c.args.p < length c.args.s.now / z.result = omega (arith, c.if-p-s.false) in
    record {
      there = λ _. subst (λ y. PageAsked y c.list_page.result) (lent_page c.args.s.now c.args.p z.result own) c.list_page.ensures;
      absent = λ n. absurd (n (record { said = said; within = subst (λ m. c.args.p < length c.args.s.now / m) own b }));
    }
