-- How far up the rows left fit decides which of three writes it is.
use Rattle.std.proofs.Common.{◌≡◌, refl, ℕ, ◌+◌, ◌-◌, ◌*◌, ◌/◌, ◌≤◌, ◌<◌, List, ◌++◌, length, take, drop, replicate, sym, ap, subst, subst₂, ◌∙◌, arith}
use native.Mathlib.Nat.{mul-le-mul_right}
use Rattle.ground.specs.Lists.{byte}
use Rattle.hash.specs.Fnv.{fnv, fnv_lt}
use Rattle.page.proofs.Sums.{len_of_code}
use Rattle.page.specs.Page.{depth, count}
use Rattle.page.specs.Steps.{Removed}
use Rattle.words.specs.Le.{le32}
use Rattle.counts.specs.Tallies.{BucketsCounted, CountLowered, CountsDue, CountsNow}
use Rattle.counts.proofs.Raises.{buckets_read}
use Rattle.partition.specs.Bits.{top}
use Rattle.partition.specs.Partition.{IsBucket}
use Rattle.partition.specs.declared.Shape.{Shape}
use Rattle.partition.proofs.Sizes.{twelve}
use Rattle.store.proofs.Accepted.Rules.{opened}
use Rattle.store.proofs.Accepted.Unique.{page_long, within}
use Rattle.store.proofs.Demands.Said.{rows_few}
use Rattle.store.proofs.Paging.Depths.{page_byte}
use Rattle.store.proofs.Paging.Views.{page_lent, page_back}
use Rattle.store.proofs.Showing.Showing.{pages_held}
use Rattle.store.specs.Demands.{Sized}
use Rattle.store.specs.Moves.{removed}
use Rattle.store.specs.Pages.{size, pages, Page, page, dir_depth, contents, deepest_in, rows_held, set_page}
use Rattle.store.specs.Tables.{Becomes}
use Rattle.directory.specs.Directory.{Namable, PrefixNamed, Directed, Recounted, Rewritten, SettleDue}
use Rattle.joining.specs.Join.{JoinCounted, Rejoined}
use Rattle.joining.specs.Prefix.{Climbed, Climbing}
use Rattle.removal.specs.Remove.{Leaving, Fits}
use Rattle.removal.proofs.Removes.{page_low, its_bucket, climbed_fits, some_rows, row_less, loses, can_settle, low_then, directed_still, settles, clear_written, clear_kept, clear_then, clear_row, clear_bucket, clear_recounted, clear_none, clear_directed, joinable, low_to, join_kept, join_then, join_directed, join_recounted, join_none}
use Rattle.removal.proofs.removal.take_out.Goals as goal

-- the store, and where the row stands
module _ (S : Shape) (s : List ℕ) (p i : ℕ) (key : List ℕ) (L : Leaving S fnv s p i key) where
  abbrev g : List ℕ
  g = page S s p

  sized : Sized S
  sized = L.sized

  inside : p * size S + size S ≤ length s
  inside = within S s p L.to

  two : 2 * size S ≤ p * size S
  two = mul-le-mul_right (size S) L.from

  short : length key ≤ 64
  short = omega (arith, ap length L.coded, len_of_code g i L.rules.rules L.slot, L.rules.rules.long i L.slot)

  abbrev then : List Page
  then = removed S fnv (contents S s) key

  -- by the size m that was worked out
  module _ (m : ℕ) (e : m ≡ size S) where
    lent : take (p * m + m - p * m) (drop (p * m) s) ≡ g
    lent = subst (λ m. take (p * m + m - p * m) (drop (p * m) s) ≡ page S s p) (sym e) (page_lent S s p)

    back : (y : List ℕ) → take (p * m) s ++ (y ++ drop (p * m + m - p * m) (drop (p * m) s)) ≡ set_page S s p y
    back y = page_back S s y p (p * m) (p * m + m) (ap (λ m. p * m) e) (ap (λ z. p * m + z) e)

    blank : (y : List ℕ) → y ≡ replicate (length (take (p * m + m - p * m) (drop (p * m) s))) 0 → take (p * m) s ++ (y ++ drop (p * m + m - p * m) (drop (p * m) s)) ≡ set_page S s p (replicate (size S) 0)
    blank y f = back y ∙ ap (set_page S s p) (f ∙ ap (λ x. replicate (length x) 0) lent ∙ ap (λ m. replicate m 0) (page_long S s p L.to))

    deep : depth g ≡ byte s (p * m + 1)
    deep = page_byte S s p 1 (omega arith) ∙ ap (λ n. byte s (p * n + 1)) (sym e)

    many : length s / m ≡ pages S s
    many = ap (λ m. length s / m) e

  -- how far up the rows left fit: the hash x, the k bits of the page
  module _ (x k : ℕ) (hx : x ≡ fnv key) (hk : depth g ≡ k) where
    climbing : Climbing S fnv s x k (12 + length key)
    climbing = record {
      accepted = L.accepted;
      is = subst₂ (λ x k. IsBucket S fnv (rows_held S s) k (top k x)) (sym hx) hk (its_bucket S sized fnv fnv_lt s p i key L);
      one = omega (arith, short);
    }

    module _ (j : ℕ) (C : Climbed S fnv (rows_held S s) x k (12 + length key) j) where
      climbed : Climbed S fnv (rows_held S s) (fnv key) (depth g) (12 + length key) j
      climbed = subst₂ (λ x k. Climbed S fnv (rows_held S s) x k (12 + length key) j) hx (sym hk) C

      fits : Fits S fnv s key j
      fits = climbed_fits S sized fnv fnv_lt s p i key L (12 + length key) j refl climbed

      less : j < k → j < depth g
      less l = omega (arith, l, hk)

      own : k ≤ j → j ≡ depth g
      own n = omega (arith, n, hk, climbed.most)

  -- the directory's depth d
  module _ (d : ℕ) (hd : d ≡ dir_depth s) where
    deep_low : d ≤ S.deepest
    deep_low = omega (arith, hd, (opened S fnv s L.accepted).page0.depth)

    module _ (x : ℕ) (hx : x ≡ fnv key) (j : ℕ) (F : Fits S fnv s key j) where
      -- what is written after either
      module _ {u w : List ℕ} (K : Rewritten S s u) (N : Recounted S u w) where
        due : deepest_in (contents S w) ≤ dir_depth s → Directed S fnv w (dir_depth s) (pages S s) w → SettleDue S fnv w (pages S s) d d
        due l D = record {
          store = can_settle S sized fnv fnv_lt s p i key L j F K N;
          limit = omega (arith, deep_low, twelve S sized);
          low = omega (arith, hd, l);
          named = λ _. subst (λ d. Directed S fnv w d (pages S s) w) (sym hd) D;
        }

      -- the rows joined
      module _ (l : j < depth g) (t : List ℕ) (low : ℕ) (R : Rejoined S fnv s (pages S s) j (top j x) key low t) where
        rejoined : Rejoined S fnv s (pages S s) j (top j (fnv key)) key low t
        rejoined = subst (λ x. Rejoined S fnv s (pages S s) j (top j x) key low t) hx R

        to : low < pages S s
        to = low_to S sized fnv fnv_lt s p i key L j F l rejoined

        namable : Namable S t d j low
        namable = record {
          long = omega (arith, rejoined.long, inside, two);
          low = omega (arith, hd, l, page_low S sized fnv fnv_lt s p i key L);
          deep = deep_low;
          word = omega (arith, to, L.accepted.long.most, sized.whole, sized.most);
        }

        module _ (u : List ℕ) (N : PrefixNamed S t d j (top j x) low u) where
          named : PrefixNamed S t (dir_depth s) j (top j (fnv key)) low u
          named = subst₂ (λ d x. PrefixNamed S t d j (top j x) low u) hd hx N

          kept : Rewritten S s u
          kept = join_kept S sized fnv fnv_lt s p i key L j F l rejoined named

          -- a row less
          module _ (r : ℕ) (hr : r ≡ le32 s 24) where
            some : 1 ≤ r
            some = omega (arith, hr, some_rows S sized fnv fnv_lt s p i key L j F)

            counts_due : (tallies : List ℕ) → length tallies ≡ 14 → CountsDue u tallies (r - 1)
            counts_due tallies long = let A = L.accepted in record {
              room = omega (arith, kept.long, inside, two, sized.least);
              fourteen = long;
              few = omega (arith, hr, (opened S fnv s A).counts.rows, rows_few S fnv sized fnv_lt s A, pages_held S s, A.long.most, sized.whole, sized.most);
            }

            module _ (tallies : List ℕ) (B : BucketsCounted (contents S t) tallies) (w : List ℕ) (Q : CountsNow u (r - 1) tallies w) where
              recounted : Recounted S u w
              recounted = join_recounted S sized fnv fnv_lt s p i key L j F l rejoined named _ _ w B (omega (arith, hr)) Q

              join_due : SettleDue S fnv w (pages S s) d d
              join_due = due kept recounted
                  (low_then S sized fnv fnv_lt s p i key L j F kept recounted (join_none S sized fnv fnv_lt s p i key L j F l rejoined named))
                  (directed_still S sized fnv fnv_lt s p i key L j F kept recounted (join_directed S sized fnv fnv_lt s p i key L j F l rejoined named))

              join_settles : (z : List ℕ) → Directed S fnv w (deepest_in (contents S w)) (pages S s) z → ((m : ℕ) → byte z m < 256) → Becomes S fnv s then z
              join_settles z D b = settles S sized fnv fnv_lt s p i key L j F kept recounted (join_then S sized fnv fnv_lt s p i key L j F l rejoined named) D b

      -- the page cleared
      module _ (o : j ≡ depth g) (one : count g ≡ 1) (k : ℕ) (hk : depth g ≡ k) (q : List ℕ) (hq : q ≡ set_page S s p (replicate (size S) 0)) where
        clear_namable : Namable S q d k 0
        clear_namable = record {
          long = omega (arith, ap length hq, (clear_written S sized fnv fnv_lt s p i key L j F o one).long, inside, two);
          low = omega (arith, hd, hk, page_low S sized fnv fnv_lt s p i key L);
          deep = deep_low;
          word = omega arith;
        }

        -- and its entries name nothing
        module _ (u : List ℕ) (N : PrefixNamed S q d k (top k x) 0 u) where
          unnamed : PrefixNamed S (set_page S s p (replicate (size S) 0)) (dir_depth s) (depth g) (top (depth g) (fnv key)) 0 u
          unnamed =
              subst (λ q. PrefixNamed S q (dir_depth s) (depth g) (top (depth g) (fnv key)) 0 u) hq
              (subst₂ (λ d x. PrefixNamed S q d (depth g) (top (depth g) x) 0 u) hd hx (subst (λ k. PrefixNamed S q d k (top k x) 0 u) (sym hk) N))

          cleared : Rewritten S s u
          cleared = clear_kept S sized fnv fnv_lt s p i key L j F o one unnamed

          one_row : (28 + 4 * 0 ≤ length u) × (1 ≤ le32 u (24 + 4 * 0))
          one_row = clear_row S sized fnv fnv_lt s p i key L j F o one unnamed

          module _ (v : List ℕ) (V : CountLowered u 0 v) where
            one_bucket : (28 + 4 * (1 + k) ≤ length v) × (1 ≤ le32 v (24 + 4 * (1 + k)))
            one_bucket = subst (λ k. (28 + 4 * (1 + k) ≤ length v) × (1 ≤ le32 v (24 + 4 * (1 + k)))) hk (clear_bucket S sized fnv fnv_lt s p i key L j F o one unnamed v V)

            module _ (w : List ℕ) (W : CountLowered v (1 + k) w) where
              lowered : Recounted S u w
              lowered = clear_recounted S sized fnv fnv_lt s p i key L j F o one unnamed v w V (subst (λ k. CountLowered v (1 + k) w) (sym hk) W)

              clear_due : SettleDue S fnv w (pages S s) d d
              clear_due = due cleared lowered
                  (low_then S sized fnv fnv_lt s p i key L j F cleared lowered (clear_none S sized fnv fnv_lt s p i key L j F o one unnamed))
                  (directed_still S sized fnv fnv_lt s p i key L j F cleared lowered (clear_directed S sized fnv fnv_lt s p i key L j F o one unnamed))

              clear_settles : (z : List ℕ) → Directed S fnv w (deepest_in (contents S w)) (pages S s) z → ((m : ℕ) → byte z m < 256) → Becomes S fnv s then z
              clear_settles z D b = settles S sized fnv fnv_lt s p i key L j F cleared lowered (clear_then S sized fnv fnv_lt s p i key L j F o one unnamed) D b

pub climb-j-requires : goal.climb-j-requires
climb-j-requires c =
    let L = c.requires.0 in
    let hk = deep _ _ _ _ _ L c.size-size.result c.size-size.ensures in
    (L.sized, climbing _ _ _ _ _ L c.args.x _ c.requires.1 hk)

pub join_lent-low-requires : goal.join_lent-low-requires
join_lent-low-requires c =
    let a = c.args in
    let L = c.requires.0 in
    let hk = deep _ _ _ _ _ L c.size-size.result c.size-size.ensures in
    let j = c.climb-j in
    let F = fits _ _ _ _ _ L a.x _ c.requires.1 hk j.result j.ensures in
    let l = less _ _ _ _ _ L a.x _ c.requires.1 hk j.result j.ensures c.if-j-k.true in
    let r = c.read_counts-tallies in
    let J : JoinCounted a.z fnv a.s.now (pages a.z a.s.now) (fnv a.key.now) j.result a.key.now r.result = record {
      joinable = joinable a.z L.sized fnv fnv_lt a.s.now a.at.page a.at.slot a.key.now L j.result F l;
      counted = buckets_read a.z a.s.now r.result (opened a.z fnv a.s.now L.accepted).counts r.ensures.0 r.ensures.1;
    } in
    subst₂ (λ n x. JoinCounted a.z fnv a.s.now n x j.result a.key.now r.result) (sym (many _ _ _ _ _ L c.size-size.result c.size-size.ensures)) (sym c.requires.1) J

pub name_prefix-requires : goal.name_prefix-requires
name_prefix-requires c =
    let a = c.args in
    let L = c.requires.0 in
    let hk = deep _ _ _ _ _ L c.size-size.result c.size-size.ensures in
    let j = c.climb-j in
    let F = fits _ _ _ _ _ L a.x _ c.requires.1 hk j.result j.ensures in
    let l = less _ _ _ _ _ L a.x _ c.requires.1 hk j.result j.ensures c.if-j-k.true in
    let w = c.join_lent-low in
    let R = subst (λ n. Rejoined a.z fnv a.s.now n j.result (top j.result a.x) a.key.now w.result w.new.s) (many _ _ _ _ _ L c.size-size.result c.size-size.ensures) w.ensures.joined in
    (L.sized, namable _ _ _ _ _ L c.get32-d.result c.get32-d.ensures.0 a.x c.requires.1 j.result F l w.new.s w.result R)

pub overflow_sub-rows : goal.overflow_sub-rows
overflow_sub-rows c =
    let a = c.args in
    let L = c.requires.0 in
    let hk = deep _ _ _ _ _ L c.size-size.result c.size-size.ensures in
    let j = c.climb-j in
    let F = fits _ _ _ _ _ L a.x _ c.requires.1 hk j.result j.ensures in
    omega (arith, c.rows_counted-rows.ensures, some_rows a.z L.sized fnv fnv_lt a.s.now a.at.page a.at.slot a.key.now L j.result F)

pub write_counted-requires : goal.write_counted-requires
write_counted-requires c =
    let a = c.args in
    let L = c.requires.0 in
    let hk = deep _ _ _ _ _ L c.size-size.result c.size-size.ensures in
    let j = c.climb-j in
    let F = fits _ _ _ _ _ L a.x _ c.requires.1 hk j.result j.ensures in
    let l = less _ _ _ _ _ L a.x _ c.requires.1 hk j.result j.ensures c.if-j-k.true in
    let w = c.join_lent-low in
    let R = subst (λ n. Rejoined a.z fnv a.s.now n j.result (top j.result a.x) a.key.now w.result w.new.s) (many _ _ _ _ _ L c.size-size.result c.size-size.ensures) w.ensures.joined in
    counts_due _ _ _ _ _ L c.get32-d.result c.get32-d.ensures.0 a.x c.requires.1 j.result F l w.new.s w.result R c.name_prefix.new.s c.name_prefix.ensures c.rows_counted-rows.result c.rows_counted-rows.ensures w.new.tallies w.ensures.counted.long

pub settle_depth-requires : goal.settle_depth-requires
settle_depth-requires c =
    let a = c.args in
    let L = c.requires.0 in
    let hk = deep _ _ _ _ _ L c.size-size.result c.size-size.ensures in
    let j = c.climb-j in
    let F = fits _ _ _ _ _ L a.x _ c.requires.1 hk j.result j.ensures in
    let l = less _ _ _ _ _ L a.x _ c.requires.1 hk j.result j.ensures c.if-j-k.true in
    let w = c.join_lent-low in
    let n = many _ _ _ _ _ L c.size-size.result c.size-size.ensures in
    let R = subst (λ n. Rejoined a.z fnv a.s.now n j.result (top j.result a.x) a.key.now w.result w.new.s) n w.ensures.joined in
    subst (λ n. SettleDue a.z fnv c.write_counted.new.s n c.get32-d.result c.get32-d.result) (sym n)
    (join_due _ _ _ _ _ L c.get32-d.result c.get32-d.ensures.0 a.x c.requires.1 j.result F l w.new.s w.result R c.name_prefix.new.s c.name_prefix.ensures c.rows_counted-rows.result c.rows_counted-rows.ensures w.new.tallies w.ensures.counted
    c.write_counted.new.s c.write_counted.ensures)

pub returns-then-j-k : goal.returns-then-j-k
returns-then-j-k c =
    let a = c.args in
    let L = c.requires.0 in
    let hk = deep _ _ _ _ _ L c.size-size.result c.size-size.ensures in
    let j = c.climb-j in
    let F = fits _ _ _ _ _ L a.x _ c.requires.1 hk j.result j.ensures in
    let l = less _ _ _ _ _ L a.x _ c.requires.1 hk j.result j.ensures c.if-j-k.true in
    let w = c.join_lent-low in
    let n = many _ _ _ _ _ L c.size-size.result c.size-size.ensures in
    let R = subst (λ n. Rejoined a.z fnv a.s.now n j.result (top j.result a.x) a.key.now w.result w.new.s) n w.ensures.joined in
    let u = c.write_counted.new.s in
    let t = c.settle_depth.new.s in
    let D = subst (λ n. Directed a.z fnv u (deepest_in (contents a.z u)) n t) n c.settle_depth.ensures in
    join_settles _ _ _ _ _ L c.get32-d.result c.get32-d.ensures.0 a.x c.requires.1 j.result F l w.new.s w.result R c.name_prefix.new.s c.name_prefix.ensures c.rows_counted-rows.result c.rows_counted-rows.ensures w.new.tallies w.ensures.counted
    u c.write_counted.ensures t D (λ m. omega (arith, c.type_inv.s m))

pub name_prefix-requires-then-get16-eq1 : goal.name_prefix-requires-then-get16-eq1
name_prefix-requires-then-get16-eq1 c =
    let a = c.args in
    let L = c.requires.0 in
    let hk = deep _ _ _ _ _ L c.size-size.result c.size-size.ensures in
    let j = c.climb-j in
    let F = fits _ _ _ _ _ L a.x _ c.requires.1 hk j.result j.ensures in
    let o = own _ _ _ _ _ L a.x _ c.requires.1 hk j.result j.ensures c.if-j-k.false in
    let one = sym (c.get16.ensures.0 ∙ ap count c.page_at.ensures) ∙ c.if-get16-eq1.true in
    let q = blank _ _ _ _ _ L c.size-size.result c.size-size.ensures c.clear_page.new.page c.clear_page.ensures in
    (L.sized, clear_namable _ _ _ _ _ L c.get32-d.result c.get32-d.ensures.0 a.x c.requires.1 j.result F o one _ hk _ q)

pub lower-requires : goal.lower-requires
lower-requires c =
    let a = c.args in
    let L = c.requires.0 in
    let hk = deep _ _ _ _ _ L c.size-size.result c.size-size.ensures in
    let j = c.climb-j in
    let F = fits _ _ _ _ _ L a.x _ c.requires.1 hk j.result j.ensures in
    let o = own _ _ _ _ _ L a.x _ c.requires.1 hk j.result j.ensures c.if-j-k.false in
    let one = sym (c.get16.ensures.0 ∙ ap count c.page_at.ensures) ∙ c.if-get16-eq1.true in
    let q = blank _ _ _ _ _ L c.size-size.result c.size-size.ensures c.clear_page.new.page c.clear_page.ensures in
    let N = c.name_prefix-then-get16-eq1 in
    one_row _ _ _ _ _ L c.get32-d.result c.get32-d.ensures.0 a.x c.requires.1 j.result F o one _ hk _ q N.new.s N.ensures

pub lower-requires-then-get16-eq1 : goal.lower-requires-then-get16-eq1
lower-requires-then-get16-eq1 c =
    let a = c.args in
    let L = c.requires.0 in
    let hk = deep _ _ _ _ _ L c.size-size.result c.size-size.ensures in
    let j = c.climb-j in
    let F = fits _ _ _ _ _ L a.x _ c.requires.1 hk j.result j.ensures in
    let o = own _ _ _ _ _ L a.x _ c.requires.1 hk j.result j.ensures c.if-j-k.false in
    let one = sym (c.get16.ensures.0 ∙ ap count c.page_at.ensures) ∙ c.if-get16-eq1.true in
    let q = blank _ _ _ _ _ L c.size-size.result c.size-size.ensures c.clear_page.new.page c.clear_page.ensures in
    let N = c.name_prefix-then-get16-eq1 in
    one_bucket _ _ _ _ _ L c.get32-d.result c.get32-d.ensures.0 a.x c.requires.1 j.result F o one _ hk _ q N.new.s N.ensures c.lower.new.s c.lower.ensures

pub settle_depth-requires-then-get16-eq1 : goal.settle_depth-requires-then-get16-eq1
settle_depth-requires-then-get16-eq1 c =
    let a = c.args in
    let L = c.requires.0 in
    let hk = deep _ _ _ _ _ L c.size-size.result c.size-size.ensures in
    let j = c.climb-j in
    let F = fits _ _ _ _ _ L a.x _ c.requires.1 hk j.result j.ensures in
    let o = own _ _ _ _ _ L a.x _ c.requires.1 hk j.result j.ensures c.if-j-k.false in
    let one = sym (c.get16.ensures.0 ∙ ap count c.page_at.ensures) ∙ c.if-get16-eq1.true in
    let q = blank _ _ _ _ _ L c.size-size.result c.size-size.ensures c.clear_page.new.page c.clear_page.ensures in
    let N = c.name_prefix-then-get16-eq1 in
    let W = c.lower-then-get16-eq1 in
    subst (λ n. SettleDue a.z fnv W.new.s n c.get32-d.result c.get32-d.result) (sym (many _ _ _ _ _ L c.size-size.result c.size-size.ensures))
    (clear_due _ _ _ _ _ L c.get32-d.result c.get32-d.ensures.0 a.x c.requires.1 j.result F o one _ hk _ q N.new.s N.ensures c.lower.new.s c.lower.ensures W.new.s W.ensures)

pub returns-then-get16-eq1 : goal.returns-then-get16-eq1
returns-then-get16-eq1 c =
    let a = c.args in
    let L = c.requires.0 in
    let hk = deep _ _ _ _ _ L c.size-size.result c.size-size.ensures in
    let j = c.climb-j in
    let F = fits _ _ _ _ _ L a.x _ c.requires.1 hk j.result j.ensures in
    let o = own _ _ _ _ _ L a.x _ c.requires.1 hk j.result j.ensures c.if-j-k.false in
    let one = sym (c.get16.ensures.0 ∙ ap count c.page_at.ensures) ∙ c.if-get16-eq1.true in
    let q = blank _ _ _ _ _ L c.size-size.result c.size-size.ensures c.clear_page.new.page c.clear_page.ensures in
    let N = c.name_prefix-then-get16-eq1 in
    let W = c.lower-then-get16-eq1 in
    let t = c.settle_depth-then-get16-eq1 in
    let D = subst (λ n. Directed a.z fnv W.new.s (deepest_in (contents a.z W.new.s)) n t.new.s) (many _ _ _ _ _ L c.size-size.result c.size-size.ensures) t.ensures in
    clear_settles _ _ _ _ _ L c.get32-d.result c.get32-d.ensures.0 a.x c.requires.1 j.result F o one _ hk _ q N.new.s N.ensures c.lower.new.s c.lower.ensures W.new.s W.ensures t.new.s D (λ m. omega (arith, c.type_inv.s m))

pub remove_slot-requires : goal.remove_slot-requires
remove_slot-requires c = let L = c.requires.0 in rw (lent _ _ _ _ _ L c.size-size.result c.size-size.ensures) (record { page = L.rules.rules; within = L.slot })

pub lower-requires-else-get16-eq1 : goal.lower-requires-else-get16-eq1
lower-requires-else-get16-eq1 c =
    let a = c.args in
    let L = c.requires.0 in
    let m = c.size-size.result in
    let e = c.size-size.ensures in
    let hk = deep _ _ _ _ _ L m e in
    let j = c.climb-j in
    let F = fits _ _ _ _ _ L a.x _ c.requires.1 hk j.result j.ensures in
    let o = own _ _ _ _ _ L a.x _ c.requires.1 hk j.result j.ensures c.if-j-k.false in
    let q = c.remove_slot.new.page in
    let out : Removed (page a.z a.s.now a.at.page) a.at.slot q = rw (lent _ _ _ _ _ L m e) at c.remove_slot.ensures in
    let rows : 2 ≤ count (page a.z a.s.now a.at.page) = omega (arith, c.get16.ensures.0, ap count c.page_at.ensures, c.if-get16-eq1.false, L.rules.some) in
    rw (back _ _ _ _ _ L m e q) (row_less a.z L.sized fnv fnv_lt a.s.now a.at.page a.at.slot a.key.now L j.result F o rows q out)

pub returns-else-get16-eq1 : goal.returns-else-get16-eq1
returns-else-get16-eq1 c =
    let a = c.args in
    let L = c.requires.0 in
    let m = c.size-size.result in
    let e = c.size-size.ensures in
    let hk = deep _ _ _ _ _ L m e in
    let j = c.climb-j in
    let F = fits _ _ _ _ _ L a.x _ c.requires.1 hk j.result j.ensures in
    let o = own _ _ _ _ _ L a.x _ c.requires.1 hk j.result j.ensures c.if-j-k.false in
    let q = c.remove_slot.new.page in
    let out : Removed (page a.z a.s.now a.at.page) a.at.slot q = rw (lent _ _ _ _ _ L m e) at c.remove_slot.ensures in
    let rows : 2 ≤ count (page a.z a.s.now a.at.page) = omega (arith, c.get16.ensures.0, ap count c.page_at.ensures, c.if-get16-eq1.false, L.rules.some) in
    let low = c.lower-else-get16-eq1 in
    loses a.z L.sized fnv fnv_lt a.s.now a.at.page a.at.slot a.key.now L j.result F o rows q out low.new.s (rw (back _ _ _ _ _ L m e q) at low.ensures) (λ m. omega (arith, c.type_inv.s m))
