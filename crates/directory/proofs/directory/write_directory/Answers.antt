-- Page after page names its entries.
use Rattle.std.proofs.Common.{◌≡◌, ℕ, ◌*◌, ◌≤◌, ◌<◌, List, length, sym, subst, ◌∙◌, arith}
use Rattle.hash.specs.Fnv.{fnv}
use Rattle.words.specs.Moves.{Put32, Cleared}
use Rattle.partition.specs.declared.Shape.{Shape}
use Rattle.store.specs.Demands.{Sized}
use Rattle.store.specs.Pages.{size, page}
use Rattle.store.proofs.Paging.Views.{apart}
use Rattle.directory.specs.Directory.{Directed, Directable, Nameable}
use Rattle.directory.proofs.Directories.{page_above, directed_none, directed_from, directed_more, standing_on}
use Rattle.directory.proofs.directory.write_directory.Goals as goal

-- the directory is cleared, whose size z was worked out
module _ (S : Shape) (s t u : List ℕ) (n d z : ℕ) (Z : Sized S) (q : Directable S s n d) (set : Put32 s 16 d t) (e : z ≡ size S) (c : Cleared t z (2 * z) u) where
  cleared : Cleared t (size S) (2 * size S) u
  cleared = subst (λ m. Cleared t m (2 * m) u) e c

  long : length u ≡ n * size S
  long = cleared.len ∙ set.old.len ∙ q.long

  standing : (p : ℕ) → 2 ≤ p → p < n → {v : List ℕ} → Directed S fnv u d p v → Nameable d (page S v p)
  standing p two l {v} D =
      let same : page S u p ≡ page S s p =
      page_above S s u p two (omega (arith, q.long, apart (size S) p n l)) (cleared.len ∙ set.old.len) (λ k m. cleared.above k m ∙ set.old.above k (omega (arith, Z.least))) in
      standing_on S fnv two (omega (arith, long, apart (size S) p n l)) D (subst (Nameable d) (sym same) (q.pages p two l))

pub loop-p-init : goal.loop-p-init
loop-p-init c =
    let a = c.args in
    directed_none a.z c.requires.0 fnv c.put32.ensures (subst (λ m. Cleared c.put32.new.s m (2 * m) c.clear.new.s) c.size-size.ensures c.clear.ensures)

pub name_page-requires : goal.name_page-requires
name_page-requires c =
    let a = c.args in
    let p = c.loop-p.p in
    let q = c.requires.1 in
    let u = long a.z a.s.now c.put32.new.s c.clear.new.s a.n a.d c.size-size.result c.requires.0 q c.put32.ensures c.size-size.ensures c.clear.ensures in (
      c.requires.0,
      record {
        least = c.loop-p.auto.p;
        most = omega (arith, q.most, c.loop-p-test.true);
        there = omega (arith, u, c.loop-p.invariant.long, apart (size a.z) p a.n c.loop-p-test.true);
        deep = q.deep;
        keeps = standing a.z a.s.now c.put32.new.s c.clear.new.s a.n a.d c.size-size.result c.requires.0 q c.put32.ensures c.size-size.ensures c.clear.ensures p c.loop-p.auto.p c.loop-p-test.true c.loop-p.invariant;
      },
    )

pub loop-p-preserved : goal.loop-p-preserved
loop-p-preserved c =
    let a = c.args in
    let u = long a.z a.s.now c.put32.new.s c.clear.new.s a.n a.d c.size-size.result c.requires.0 c.requires.1 c.put32.ensures c.size-size.ensures c.clear.ensures in
    directed_more a.z c.requires.0 fnv c.loop-p.auto.p (omega (arith, u, apart (size a.z) c.loop-p.p a.n c.loop-p-test.true)) c.loop-p.invariant c.name_page.ensures

pub returns : goal.returns
returns c =
    let a = c.args in
    let e : c.loop-p.p ≡ a.n = omega (arith, c.loop-p.auto.p-end (omega (arith, c.requires.1.least)), c.loop-p-test.false) in
    directed_from a.z c.requires.0 fnv c.put32.ensures (cleared a.z a.s.now c.put32.new.s c.clear.new.s a.n a.d c.size-size.result c.requires.0 c.requires.1 c.put32.ensures c.size-size.ensures c.clear.ensures)
    (omega (arith, c.requires.1.long)) (subst (λ n. Directed a.z fnv c.clear.new.s a.d n c.loop-p.s) e c.loop-p.invariant)
