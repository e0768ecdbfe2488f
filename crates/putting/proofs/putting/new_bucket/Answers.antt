-- Refusal 7, else the row alone in the lowest free page, which its entries then name.
use Rattle.std.proofs.Common.{◌≡◌, ℕ, ◌+◌, ◌-◌, ◌*◌, ◌≤◌, ◌<◌, List, ◌++◌, length, take, drop, sym, arith}
use mathlib.Core.Path.{subst₂}
use Rattle.hash.specs.Fnv.{fnv, fnv_lt}
use Rattle.page.specs.Packed.{Started}
use Rattle.partition.proofs.Sizes.{twelve}
use Rattle.partition.specs.Bits.{top}
use Rattle.partition.specs.declared.Shape.{Shape}
use Rattle.query.proofs.Finds.{long_enough}
use Rattle.store.proofs.Accepted.Rules.{opened}
use Rattle.store.specs.Moves.{find, is_free, frees}
use Rattle.store.specs.Pages.{size, pages, page, dir_depth, contents, set_page}
use Rattle.directory.specs.Directory.{PrefixNamed, Namable, Rewritten}
use Rattle.putting.specs.Put.{Puttable, Homeless, Unset, Vacant}
use Rattle.putting.proofs.NewBuckets.{own_unset, unheld_full, wrote, row_more, bucket_more, recounted_new, unheld_new}
use Rattle.putting.proofs.Puts.{lent_by, back_by}
use Rattle.putting.proofs.putting.new_bucket.Goals as goal

module _ (S : Shape) (s : List ℕ) (x : ℕ) (key place : List ℕ) (H : Homeless S fnv s x key place) where
  P : Puttable S fnv s key place
  P = H.row

  long : 3 * size S ≤ length s
  long = long_enough S P.sized s P.accepted

  -- the directory's depth
  module _ (d : ℕ) (e : d ≡ dir_depth s) where
    low : d ≤ S.deepest
    low = omega (arith, e, (opened S fnv s P.accepted).page0.depth)

    unset : Unset S s d d (top d x)
    unset = subst₂ (λ d x. Unset S s d d (top d x)) (sym e) (sym H.hash) (own_unset S fnv fnv_lt s x key place H)

    -- a page is free, the lowest started
    module _ (some : 0 < frees (contents S s)) (p : ℕ) (is : p ≡ 2 + find is_free (contents S s)) (to : p < pages S s) (k : ℕ) (V : Vacant S s d x k) (n : ℕ) (f : n ≡ size S) (q : List ℕ)
        (G : Started (take (p * n + n - p * n) (drop (p * n) s)) k key place q) where
      vacant : Vacant S s (dir_depth s) (fnv key) k
      vacant = subst₂ (λ d x. Vacant S s d x k) e H.hash V

      started : Started (page S s p) k key place q
      started = rw (lent_by S s p n f) at G

      rewritten : Rewritten S s (set_page S s p q)
      rewritten = wrote S fnv fnv_lt s x key place H some k vacant p is to q started

      namable : Namable S (take (p * n) s ++ (q ++ drop (p * n + n - p * n) (drop (p * n) s))) d k p
      namable =
          let here : Namable S (set_page S s p q) d k p = record {
            long = omega (arith, long, rewritten.long);
            low = V.low;
            deep = low;
            word = omega (arith, to, P.accepted.long.most, P.sized.whole, P.sized.most);
          } in
          rw (back_by S s p n f q) here

      -- its entries name it
      module _ (t : List ℕ) (N : PrefixNamed S (take (p * n) s ++ (q ++ drop (p * n + n - p * n) (drop (p * n) s))) d k (top k x) p t) where
        named : PrefixNamed S (set_page S s p q) (dir_depth s) k (top k (fnv key)) p t
        named =
            let M : PrefixNamed S (set_page S s p q) d k (top k x) p t = rw (back_by S s p n f q) at N in
            subst₂ (λ d x. PrefixNamed S (set_page S s p q) d k (top k x) p t) e H.hash M

pub returns-then-free_pages-lt1 : goal.returns-then-free_pages-lt1
returns-then-free_pages-lt1 c =
    let a = c.args in
    unheld_full a.z fnv fnv_lt a.s.now a.x a.row.code.now a.row.place.now c.requires (omega (arith, c.free_pages.ensures.0, c.if-free_pages-lt1.true))

pub vacant_depth-k-requires : goal.vacant_depth-k-requires
vacant_depth-k-requires c =
    let d = c.get32-d in (
      record { sized = c.requires.row.sized; long = omega (arith, long _ _ _ _ _ c.requires); deep = low _ _ _ _ _ c.requires d.result d.ensures.0 },
      unset _ _ _ _ _ c.requires d.result d.ensures.0,
    )

pub overflow_cast-k : goal.overflow_cast-k
overflow_cast-k c = let d = c.get32-d in record { fits = omega (arith, c.vacant_depth-k.ensures.low, low _ _ _ _ _ c.requires d.result d.ensures.0, twelve c.args.z c.requires.row.sized) }

pub name_prefix-requires : goal.name_prefix-requires
name_prefix-requires c =
    let p = c.lowest_free-p in
    let some : 0 < frees (contents c.args.z c.args.s.now) = omega (arith, c.free_pages.ensures.0, c.if-free_pages-lt1.false) in
    (c.requires.row.sized, namable _ _ _ _ _ c.requires c.get32-d.result c.get32-d.ensures.0 some p.result p.ensures.0 p.ensures.1 c.vacant_depth-k.result c.vacant_depth-k.ensures c.size-size.result c.size-size.ensures c.start_page.new.page c.start_page.ensures)

pub raise-requires : goal.raise-requires
raise-requires c =
    let a = c.args in
    let d = c.get32-d in
    let p = c.lowest_free-p in
    let k = c.vacant_depth-k in
    let n = c.size-size in
    let q = c.start_page in
    let t = c.name_prefix in
    let some : 0 < frees (contents a.z a.s.now) = omega (arith, c.free_pages.ensures.0, c.if-free_pages-lt1.false) in
    row_more a.z fnv fnv_lt a.s.now a.x a.row.code.now a.row.place.now c.requires some k.result
    (vacant _ _ _ _ _ c.requires d.result d.ensures.0 some p.result p.ensures.0 p.ensures.1 k.result k.ensures n.result n.ensures q.new.page q.ensures) p.result p.ensures.0 p.ensures.1 q.new.page
    (started _ _ _ _ _ c.requires d.result d.ensures.0 some p.result p.ensures.0 p.ensures.1 k.result k.ensures n.result n.ensures q.new.page q.ensures) t.new.s
    (named _ _ _ _ _ c.requires d.result d.ensures.0 some p.result p.ensures.0 p.ensures.1 k.result k.ensures n.result n.ensures q.new.page q.ensures t.new.s t.ensures)

pub raise-requires-2 : goal.raise-requires-2
raise-requires-2 c =
    let a = c.args in
    let d = c.get32-d in
    let p = c.lowest_free-p in
    let k = c.vacant_depth-k in
    let n = c.size-size in
    let q = c.start_page in
    let t = c.name_prefix in
    let some : 0 < frees (contents a.z a.s.now) = omega (arith, c.free_pages.ensures.0, c.if-free_pages-lt1.false) in
    bucket_more a.z fnv fnv_lt a.s.now a.x a.row.code.now a.row.place.now c.requires some k.result
    (vacant _ _ _ _ _ c.requires d.result d.ensures.0 some p.result p.ensures.0 p.ensures.1 k.result k.ensures n.result n.ensures q.new.page q.ensures) p.result p.ensures.0 p.ensures.1 q.new.page
    (started _ _ _ _ _ c.requires d.result d.ensures.0 some p.result p.ensures.0 p.ensures.1 k.result k.ensures n.result n.ensures q.new.page q.ensures) t.new.s
    (named _ _ _ _ _ c.requires d.result d.ensures.0 some p.result p.ensures.0 p.ensures.1 k.result k.ensures n.result n.ensures q.new.page q.ensures t.new.s t.ensures) _ c.raise.ensures

pub returns : goal.returns
returns c =
    let a = c.args in
    let d = c.get32-d in
    let p = c.lowest_free-p in
    let k = c.vacant_depth-k in
    let n = c.size-size in
    let q = c.start_page in
    let t = c.name_prefix in
    let some : 0 < frees (contents a.z a.s.now) = omega (arith, c.free_pages.ensures.0, c.if-free_pages-lt1.false) in
    let V = vacant _ _ _ _ _ c.requires d.result d.ensures.0 some p.result p.ensures.0 p.ensures.1 k.result k.ensures n.result n.ensures q.new.page q.ensures in
    let G = started _ _ _ _ _ c.requires d.result d.ensures.0 some p.result p.ensures.0 p.ensures.1 k.result k.ensures n.result n.ensures q.new.page q.ensures in
    let N = named _ _ _ _ _ c.requires d.result d.ensures.0 some p.result p.ensures.0 p.ensures.1 k.result k.ensures n.result n.ensures q.new.page q.ensures t.new.s t.ensures in
    unheld_new a.z fnv fnv_lt a.s.now a.x a.row.code.now a.row.place.now c.requires some k.result V p.result p.ensures.0 p.ensures.1 q.new.page G t.new.s N _
    (recounted_new a.z fnv fnv_lt a.s.now a.x a.row.code.now a.row.place.now c.requires some k.result V p.result p.ensures.0 p.ensures.1 q.new.page G t.new.s N _ _ c.raise.ensures c.raise-2.ensures)
    (λ i. omega (arith, c.type_inv.s i))
