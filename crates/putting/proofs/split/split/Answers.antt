-- `putting::split` meets its contract: refusals 6 and 7, else the new buckets, then the directory. Assumes nothing.
use Rattle.std.proofs.Common.{◌≡◌, ℕ, ◌+◌, ◌*◌, ◌/◌, ◌-◌, ◌^◌, ◌≤◌, ◌<◌, List, length, min, arith, sym, ap, subst, ◌∙◌}
use native.Mathlib.Nat.{mul-le-mul_right}
use Rattle.ground.specs.Ladder.{Answers}
use Rattle.ground.specs.Lists.{byte}
use Rattle.words.specs.Le.{le32}
use Rattle.words.specs.Moves.{Copied}
use Rattle.words.proofs.Bytes.{copied_whole}
use Rattle.hash.specs.Fnv.{fnv, fnv_lt}
use Rattle.page.specs.Page.{Slotted, depth, rows}
use Rattle.page.proofs.Sums.{row_room}
use Rattle.partition.specs.declared.Shape.{Shape}
use Rattle.partition.specs.Bits.{top}
use Rattle.partition.specs.Partition.{Row, needs, rows_of}
use Rattle.partition.proofs.Bits.{top_lt}
use Rattle.partition.proofs.Sizes.{twelve}
use Rattle.store.specs.Pages.{size, pages, page, dir_depth, contents, deepest_in}
use Rattle.store.specs.Tables.{new, put_accepted}
use Rattle.store.specs.Moves.{frees}
use Rattle.store.proofs.Accepted.Rules.{opened}
use Rattle.store.proofs.Accepted.Unique.{within, page_long}
use Rattle.store.proofs.Put.EveryStep.{Roomy, every_step, packed_used}
use Rattle.counts.specs.Tallies.{SameCounts, CountsNow, one_less}
use Rattle.directory.specs.Directory.{PrefixNamed, Directed, SettleDue, Recounted}
use Rattle.directory.proofs.Laying.{deep_most}
use Rattle.putting.proofs.Heavy.{home, shallow, few_counted, split_counted, split_recounted, heavy_six, heavy_seven, as_many, source, writable_then, split_settleable, split_directed_then, heavy_new}
use Rattle.putting.proofs.Weighs.{below_most}
use Rattle.putting.specs.Put.{new_row, Crowded}
use Rattle.putting.specs.Split.{keyed, with_new, below, pages_below, CountedBelow, SplitCounted, Source, Writable, BucketsWritten}
use Rattle.putting.proofs.split.split.Goals as goal

-- the page that is split, and the row
module _ (S : Shape) (s : List ℕ) (p i : ℕ) (key place : List ℕ) (C : Crowded S fnv s p i key place) where
  abbrev g : List ℕ
  g = page S s p

  -- the page's prefix
  abbrev v : ℕ
  v = top (depth g) (fnv key)

  twelve_at_most : S.deepest ≤ 12
  twelve_at_most = twelve S C.row.row.sized

  long : length g ≡ size S
  long = page_long S s p (home S fnv fnv_lt s p i key place C).to

  inside : p * size S + size S ≤ length s
  inside = within S s p (home S fnv fnv_lt s p i key place C).to

  -- its copy
  copied : {from lent t : List ℕ} → lent ≡ g → length from ≡ size S → Copied from 0 lent t → t ≡ g
  copied e L K = copied_whole K (L ∙ sym (ap length e ∙ long)) ∙ e

  module _ (from : List ℕ) (e : from ≡ g) where
    slotted : Slotted from
    slotted = subst Slotted (sym e) (home S fnv fnv_lt s p i key place C).bytes.rules.rules

    low : depth from ≤ S.deepest
    low = subst (λ g. depth g ≤ S.deepest) (sym e) (shallow S fnv fnv_lt s p i key place C)

    -- what those that share the code's first bits need
    module _ (x : ℕ) (hx : x ≡ fnv key) where
      weight : (t n : ℕ) → t ≡ top S.deepest x → n ≡ needs (rows_of fnv (with_new from (keyed key)) S.deepest t) → n ≡ needs (rows_of fnv (with_new g (keyed key)) S.deepest (top S.deepest (fnv key)))
      weight t n ht hn =
          let w = ht ∙ ap (top S.deepest) hx in
          hn ∙ (λ j. needs (rows_of fnv (with_new (e j) (keyed key)) S.deepest (w j)))

      named : (d : ℕ) → d ≡ dir_depth s → (s₁ : List ℕ) → PrefixNamed S s d (depth from) (top (depth from) x) 0 s₁ → PrefixNamed S s (dir_depth s) (depth g) v 0 s₁
      named d hd s₁ N =
          subst (λ d. PrefixNamed S s d (depth g) v 0 s₁) hd
          (subst (λ g. PrefixNamed S s d (depth g) (top (depth g) (fnv key)) 0 s₁) e (subst (λ x. PrefixNamed S s d (depth from) (top (depth from) x) 0 s₁) hx N))

      -- the page's bits
      module _ (v' : ℕ) (hv : v' ≡ top (depth from) x) where
        prefix : v' ≡ top (depth from) (fnv key)
        prefix = hv ∙ ap (top (depth from)) hx

        bits : v' < 2 ^ depth from
        bits = subst (λ v. v < 2 ^ depth from) (sym prefix) (top_lt (fnv key) (depth from) (fnv_lt key))

        -- what is said of the copy and these bits is said of the page
        here : (P : List ℕ → ℕ → Type 0) → P from v' → P g v
        here P w = subst (λ g. P g (top (depth g) (fnv key))) e (subst (P from) prefix w)

        back : (P : List ℕ → ℕ → Type 0) → P g v → P from v'
        back P w = subst (P from) (sym prefix) (subst (λ g. P g (top (depth g) (fnv key))) (sym e) w)

  abbrev rs : List Row
  rs = with_new g (new_row key place)

  abbrev Fine : Type 0
  Fine = needs (rows_of fnv (with_new g (keyed key)) S.deepest (top S.deepest (fnv key))) ≤ S.capacity

  -- THE ROOM TEST: after it a page is free at every step
  room : Fine → (m f : ℕ) → m ≡ length (below S fnv (with_new g (keyed key)) (depth g) v) → f ≡ min m (frees (contents S s)) → m ≤ f + 1 → Roomy (contents S s) (p - 2) (pages_below S fnv rs (depth g) v)
  room fine m f hm hf l =
      every_step (contents S s) (p - 2) (depth g) (rows g) (home S fnv fnv_lt s p i key place C).holding
      (pages_below S fnv rs (depth g) v) (packed_used fnv rs (below S fnv rs (depth g) v))
      (omega (arith, as_many S fnv fnv_lt s p i key place C fine, hm, hf, l))

  depth_low : (d : ℕ) → d ≡ dir_depth s → d ≤ S.deepest
  depth_low d e = omega (arith, e, (opened S fnv s C.row.row.accepted).page0.depth)

  -- the entries that the page called for name none, and then the new buckets are written
  module _ (fine : Fine) (R : Roomy (contents S s) (p - 2) (pages_below S fnv rs (depth g) v)) (s₁ : List ℕ) (N : PrefixNamed S s (dir_depth s) (depth g) v 0 s₁) (t : List ℕ) (n : ℕ) (W : BucketsWritten S fnv (dir_depth s) rs (depth g) v s₁ p t n) where
    -- and their counts
    module _ (l : List ℕ) (len : length l ≡ 14) (L : SameCounts s l) (l₁ : List ℕ) (B : CountedBelow S fnv (with_new g (keyed key)) (depth g) v l l₁) where
      due : SplitCounted t (depth g) l₁
      due = split_counted S fnv fnv_lt s p i key place C fine R s₁ N t n W l len L l₁ B

      module _ (u : List ℕ) (Q : CountsNow t (le32 t 24 + 1) (one_less l₁ (1 + depth g)) u) where
        again : Recounted S t u
        again = split_recounted S fnv fnv_lt s p i key place C fine R s₁ N t n W l len L l₁ B u Q

        settles : (d : ℕ) → d ≡ dir_depth s → SettleDue S fnv u (pages S s) d S.deepest
        settles d e =
            let B = split_settleable S fnv fnv_lt s p i key place C fine R s₁ N t n W u again in
            record {
              store = B;
              limit = twelve_at_most;
              low = deep_most S u (pages S s) B.pages;
              named = λ q. subst (λ d. Directed S fnv u d (pages S s) u) (sym e) (split_directed_then S fnv fnv_lt s p i key place C fine R s₁ N t n W u again (q ∙ e));
            }

        answered : (w : List ℕ) → Directed S fnv u (deepest_in (contents S u)) (pages S s) w → ((k : ℕ) → byte w k < 256) → Answers (put_accepted S fnv s (new_row key place)) (new, w)
        answered w D b = heavy_new S fnv fnv_lt s p i key place C fine R s₁ N t n W u again w D b

pub page_at-requires : goal.page_at-requires
page_at-requires c = inside _ _ _ _ _ _ c.requires.0

pub copy_at-requires : goal.copy_at-requires
copy_at-requires c = omega (arith, ap length c.page_at.ensures, long _ _ _ _ _ _ c.requires.0, c.requires.1.page)

pub gather-requires : goal.gather-requires
gather-requires c =
    let C = c.requires.0 in
    let t = c.copy_at.new.dst in
    let e = copied _ _ _ _ _ _ C c.page_at.ensures c.requires.1.page c.copy_at.ensures in
    let Z = slotted _ _ _ _ _ _ C t e in
    record {
      page = Z;
      good = C.row.row.good;
      room = omega (arith, row_room t Z, ap length e ∙ long _ _ _ _ _ _ C, c.requires.1.weights);
    }

pub overflow_cast-deepest : goal.overflow_cast-deepest
overflow_cast-deepest c = omega (arith, twelve_at_most _ _ _ _ _ _ c.requires.0)

pub top_bits-requires : goal.top_bits-requires
top_bits-requires c = twelve_at_most _ _ _ _ _ _ c.requires.0

pub load-requires : goal.load-requires
load-requires c = (c.gather.ensures, twelve_at_most _ _ _ _ _ _ c.requires.0)

pub returns-then-z-load : goal.returns-then-z-load
returns-then-z-load c =
    let a = c.args in
    let C = c.requires.0 in
    let e = copied _ _ _ _ _ _ C c.page_at.ensures c.requires.1.page c.copy_at.ensures in
    let w = weight _ _ _ _ _ _ C c.copy_at.new.dst e c.hash-x.result c.hash-x.ensures c.top_bits.result c.load.result c.top_bits.ensures c.load.ensures in
    heavy_six a.z fnv fnv_lt a.s.now a.at.page a.at.slot a.row.code.now a.row.place.now C (omega (arith, w, c.if-z-load.true))

pub top_bits-v-requires : goal.top_bits-v-requires
top_bits-v-requires c =
    let C = c.requires.0 in
    omega (arith, low _ _ _ _ _ _ C c.copy_at.new.dst (copied _ _ _ _ _ _ C c.page_at.ensures c.requires.1.page c.copy_at.ensures), twelve_at_most _ _ _ _ _ _ C)

pub count_below-m-requires : goal.count_below-m-requires
count_below-m-requires c =
    let a = c.args in
    let C = c.requires.0 in
    let t = c.copy_at.new.dst in
    let e = copied _ _ _ _ _ _ C c.page_at.ensures c.requires.1.page c.copy_at.ensures in
    let r = c.read_counts-tallies in
    record {
      weighed = c.gather.ensures;
      prefix = record {
        sized = C.row.row.sized;
        deep = low _ _ _ _ _ _ C t e;
        bits = bits _ _ _ _ _ _ C t e c.hash-x.result c.hash-x.ensures c.top_bits-v.result c.top_bits-v.ensures;
      };
      array = r.ensures.0;
      few = few_counted a.z fnv fnv_lt a.s.now a.at.page a.at.slot a.row.code.now a.row.place.now C r.result r.ensures.0 r.ensures.1 _ (below_most a.z fnv (with_new t (keyed a.row.code.now)) (depth t) c.top_bits-v.result);
    }

pub returns-then-free_pages-m : goal.returns-then-free_pages-m
returns-then-free_pages-m c =
    let a = c.args in
    let C = c.requires.0 in
    let t = c.copy_at.new.dst in
    let e = copied _ _ _ _ _ _ C c.page_at.ensures c.requires.1.page c.copy_at.ensures in
    let x = c.hash-x in
    let w = weight _ _ _ _ _ _ C t e x.result x.ensures c.top_bits.result c.load.result c.top_bits.ensures c.load.ensures in
    let m = here _ _ _ _ _ _ C t e x.result x.ensures c.top_bits-v.result c.top_bits-v.ensures (λ g v. c.count_below-m.result ≡ length (below a.z fnv (with_new g (keyed a.row.code.now)) (depth g) v)) c.count_below-m.ensures.many in
    heavy_seven a.z fnv fnv_lt a.s.now a.at.page a.at.slot a.row.code.now a.row.place.now C (omega (arith, w, c.if-z-load.false)) (omega (arith, m, c.free_pages.ensures.0, c.if-free_pages-m.true))

pub name_prefix-requires : goal.name_prefix-requires
name_prefix-requires c =
    let a = c.args in
    let C = c.requires.0 in
    let H = home a.z fnv fnv_lt a.s.now a.at.page a.at.slot a.row.code.now a.row.place.now C in
    let e = copied _ _ _ _ _ _ C c.page_at.ensures c.requires.1.page c.copy_at.ensures in (
      C.row.row.sized,
      record {
        long = omega (arith, inside _ _ _ _ _ _ C, mul-le-mul_right (size a.z) H.from);
        low = omega (arith, c.get32-d.ensures.0, H.low, ap depth e);
        deep = depth_low _ _ _ _ _ _ C c.get32-d.result c.get32-d.ensures.0;
        word = omega arith;
      },
    )

pub write_below-requires : goal.write_below-requires
write_below-requires c =
    let a = c.args in
    let C = c.requires.0 in
    let t = c.copy_at.new.dst in
    let e = copied _ _ _ _ _ _ C c.page_at.ensures c.requires.1.page c.copy_at.ensures in
    let x = c.hash-x in
    let d = c.get32-d in
    let w = weight _ _ _ _ _ _ C t e x.result x.ensures c.top_bits.result c.load.result c.top_bits.ensures c.load.ensures in
    let f : Fine _ _ _ _ _ _ C = omega (arith, w, c.if-z-load.false) in
    let on = here _ _ _ _ _ _ C t e x.result x.ensures c.top_bits-v.result c.top_bits-v.ensures in
    let m = on (λ g v. c.count_below-m.result ≡ length (below a.z fnv (with_new g (keyed a.row.code.now)) (depth g) v)) c.count_below-m.ensures.many in
    let R = room _ _ _ _ _ _ C f c.count_below-m.result c.free_pages.result m c.free_pages.ensures.0 c.if-free_pages-m.false in
    let s₁ = c.name_prefix.new.s in
    let N = named _ _ _ _ _ _ C t e x.result x.ensures d.result d.ensures.0 s₁ c.name_prefix.ensures in
    let S = source a.z fnv fnv_lt a.s.now a.at.page a.at.slot a.row.code.now a.row.place.now C f R in
    let V = writable_then a.z fnv fnv_lt a.s.now a.at.page a.at.slot a.row.code.now a.row.place.now C f R s₁ N in
    record {
      depth = depth_low _ _ _ _ _ _ C d.result d.ensures.0;
      source = subst (λ g. Source g a.at.slot a.row.code.now a.row.place.now) (sym e) S;
      weighed = c.gather.ensures;
      writable = back _ _ _ _ _ _ C t e x.result x.ensures c.top_bits-v.result c.top_bits-v.ensures (λ g v. Writable a.z fnv (with_new g (new_row a.row.code.now a.row.place.now)) (depth g) v s₁ a.at.page) V;
    }

-- and their counts
pub write_split-requires : goal.write_split-requires
write_split-requires c =
    let a = c.args in
    let C = c.requires.0 in
    let t = c.copy_at.new.dst in
    let e = copied _ _ _ _ _ _ C c.page_at.ensures c.requires.1.page c.copy_at.ensures in
    let x = c.hash-x in
    let d = c.get32-d in
    let w = weight _ _ _ _ _ _ C t e x.result x.ensures c.top_bits.result c.load.result c.top_bits.ensures c.load.ensures in
    let f : Fine _ _ _ _ _ _ C = omega (arith, w, c.if-z-load.false) in
    let on = here _ _ _ _ _ _ C t e x.result x.ensures c.top_bits-v.result c.top_bits-v.ensures in
    let m = on (λ g v. c.count_below-m.result ≡ length (below a.z fnv (with_new g (keyed a.row.code.now)) (depth g) v)) c.count_below-m.ensures.many in
    let R = room _ _ _ _ _ _ C f c.count_below-m.result c.free_pages.result m c.free_pages.ensures.0 c.if-free_pages-m.false in
    let s₁ = c.name_prefix.new.s in
    let N = named _ _ _ _ _ _ C t e x.result x.ensures d.result d.ensures.0 s₁ c.name_prefix.ensures in
    let W = subst (λ d. BucketsWritten a.z fnv d (with_new (page a.z a.s.now a.at.page) (new_row a.row.code.now a.row.place.now)) (depth (page a.z a.s.now a.at.page)) (top (depth (page a.z a.s.now a.at.page)) (fnv a.row.code.now)) s₁ a.at.page c.write_below.new.s c.write_below.result) d.ensures.0
    (on (λ g v. BucketsWritten a.z fnv d.result (with_new g (new_row a.row.code.now a.row.place.now)) (depth g) v s₁ a.at.page c.write_below.new.s c.write_below.result) c.write_below.ensures) in
    let l = c.read_counts-tallies in
    let l₁ = c.count_below-m.new.tallies in
    let B = on (λ g v. CountedBelow a.z fnv (with_new g (keyed a.row.code.now)) (depth g) v l.result l₁) c.count_below-m.ensures.counted in
    subst (λ g. SplitCounted c.write_below.new.s (depth g) l₁) (sym e) (due _ _ _ _ _ _ C f R s₁ N c.write_below.new.s c.write_below.result W l.result l.ensures.0 l.ensures.1 l₁ B)

pub settle_depth-requires : goal.settle_depth-requires
settle_depth-requires c =
    let a = c.args in
    let C = c.requires.0 in
    let t = c.copy_at.new.dst in
    let e = copied _ _ _ _ _ _ C c.page_at.ensures c.requires.1.page c.copy_at.ensures in
    let x = c.hash-x in
    let d = c.get32-d in
    let w = weight _ _ _ _ _ _ C t e x.result x.ensures c.top_bits.result c.load.result c.top_bits.ensures c.load.ensures in
    let f : Fine _ _ _ _ _ _ C = omega (arith, w, c.if-z-load.false) in
    let on = here _ _ _ _ _ _ C t e x.result x.ensures c.top_bits-v.result c.top_bits-v.ensures in
    let m = on (λ g v. c.count_below-m.result ≡ length (below a.z fnv (with_new g (keyed a.row.code.now)) (depth g) v)) c.count_below-m.ensures.many in
    let R = room _ _ _ _ _ _ C f c.count_below-m.result c.free_pages.result m c.free_pages.ensures.0 c.if-free_pages-m.false in
    let s₁ = c.name_prefix.new.s in
    let N = named _ _ _ _ _ _ C t e x.result x.ensures d.result d.ensures.0 s₁ c.name_prefix.ensures in
    let W = subst (λ d. BucketsWritten a.z fnv d (with_new (page a.z a.s.now a.at.page) (new_row a.row.code.now a.row.place.now)) (depth (page a.z a.s.now a.at.page)) (top (depth (page a.z a.s.now a.at.page)) (fnv a.row.code.now)) s₁ a.at.page c.write_below.new.s c.write_below.result) d.ensures.0
    (on (λ g v. BucketsWritten a.z fnv d.result (with_new g (new_row a.row.code.now a.row.place.now)) (depth g) v s₁ a.at.page c.write_below.new.s c.write_below.result) c.write_below.ensures) in
    let l = c.read_counts-tallies in
    let l₁ = c.count_below-m.new.tallies in
    let B = on (λ g v. CountedBelow a.z fnv (with_new g (keyed a.row.code.now)) (depth g) v l.result l₁) c.count_below-m.ensures.counted in
    let Q = subst (λ g. CountsNow c.write_below.new.s (le32 c.write_below.new.s 24 + 1) (one_less l₁ (1 + depth g)) c.write_split.new.s) e c.write_split.ensures in
    subst (λ m. SettleDue a.z fnv c.write_split.new.s (length a.s.now / m) d.result a.z.deepest) (sym c.size.ensures)
    (settles _ _ _ _ _ _ C f R s₁ N c.write_below.new.s c.write_below.result W l.result l.ensures.0 l.ensures.1 l₁ B c.write_split.new.s Q d.result d.ensures.0)

pub returns : goal.returns
returns c =
    let a = c.args in
    let C = c.requires.0 in
    let t = c.copy_at.new.dst in
    let e = copied _ _ _ _ _ _ C c.page_at.ensures c.requires.1.page c.copy_at.ensures in
    let x = c.hash-x in
    let d = c.get32-d in
    let w = weight _ _ _ _ _ _ C t e x.result x.ensures c.top_bits.result c.load.result c.top_bits.ensures c.load.ensures in
    let f : Fine _ _ _ _ _ _ C = omega (arith, w, c.if-z-load.false) in
    let on = here _ _ _ _ _ _ C t e x.result x.ensures c.top_bits-v.result c.top_bits-v.ensures in
    let m = on (λ g v. c.count_below-m.result ≡ length (below a.z fnv (with_new g (keyed a.row.code.now)) (depth g) v)) c.count_below-m.ensures.many in
    let R = room _ _ _ _ _ _ C f c.count_below-m.result c.free_pages.result m c.free_pages.ensures.0 c.if-free_pages-m.false in
    let s₁ = c.name_prefix.new.s in
    let N = named _ _ _ _ _ _ C t e x.result x.ensures d.result d.ensures.0 s₁ c.name_prefix.ensures in
    let W = subst (λ d. BucketsWritten a.z fnv d (with_new (page a.z a.s.now a.at.page) (new_row a.row.code.now a.row.place.now)) (depth (page a.z a.s.now a.at.page)) (top (depth (page a.z a.s.now a.at.page)) (fnv a.row.code.now)) s₁ a.at.page c.write_below.new.s c.write_below.result) d.ensures.0
    (on (λ g v. BucketsWritten a.z fnv d.result (with_new g (new_row a.row.code.now a.row.place.now)) (depth g) v s₁ a.at.page c.write_below.new.s c.write_below.result) c.write_below.ensures) in
    let l = c.read_counts-tallies in
    let l₁ = c.count_below-m.new.tallies in
    let B = on (λ g v. CountedBelow a.z fnv (with_new g (keyed a.row.code.now)) (depth g) v l.result l₁) c.count_below-m.ensures.counted in
    let Q = subst (λ g. CountsNow c.write_below.new.s (le32 c.write_below.new.s 24 + 1) (one_less l₁ (1 + depth g)) c.write_split.new.s) e c.write_split.ensures in
    answered _ _ _ _ _ _ C f R s₁ N c.write_below.new.s c.write_below.result W l.result l.ensures.0 l.ensures.1 l₁ B c.write_split.new.s Q c.settle_depth.new.s
    (subst (λ m. Directed a.z fnv c.write_split.new.s (deepest_in (contents a.z c.write_split.new.s)) (length a.s.now / m) c.settle_depth.new.s) c.size.ensures c.settle_depth.ensures) (λ k. omega (arith, c.type_inv.s k))
