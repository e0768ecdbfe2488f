-- What a turn passes, and what the end shows.
use Rattle.std.proofs.Common.{◌≡◌, refl, sym, subst, ◌∙◌, ℕ, ◌+◌, ◌≤◌, List, arith}
use mathlib.Core.Logic.{⊎_elim}
use lib.ListN.{set}
use Rattle.ground.specs.Lists.{byte}
use Rattle.ground.proofs.Tests.{says_same}
use Rattle.words.specs.Moves.{Span}
use Rattle.page_check.specs.Table.{entries, Table, Laid}
use Rattle.page_check.proofs.Walked.{ends_at, Passed, Exact, Walked, Marking, Signed, Gap, passed_none, passed_hole, passed_record, ends_within, distinct_of, walked_none, walked_hole, walked_record, signed_none, signed_record, marking_none, marking_hole, marking_record, marked_all, laid_of, met_all, end_top}
use Rattle.page_check.proofs.walk.Goals as goal

pub loop-pos-init : goal.loop-pos-init
loop-pos-init c =
    let q = c.requires in (
      refl,
      c.args.tab.now,
      passed_none _ _ _ _ q.table (omega (arith, q.start)),
      (λ e. (
        8,
        walked_none _ _ _ _ (record { table = q.table; all = e }) (omega (arith, q.start)),
        record { to = omega arith; met = λ h. absurd (omega arith); none = λ h. absurd (omega arith) },
        marking_none _ _ _ _ (record { table = q.table; all = e }),
        signed_none _ _ _ _ (record { table = q.table; all = e }),
      )),
    )

pub loop-pos-preserved-then-l-eq0 : goal.loop-pos-preserved-then-l-eq0
loop-pos-preserved-then-l-eq0 c =
    let l = c.loop-pos in
    let b = c.requires.table in (
      l.invariant.0,
      l.invariant.1,
      passed_hole _ _ _ _ b _ _ _ _ l.invariant.2 (omega arith),
      (λ e.
          let i = l.invariant.3 e in (
            i.0,
            walked_hole _ _ _ _ (record { table = b; all = e }) _ _ _ _ _ i.1 (omega arith) (omega (arith, l.invariant.2.later l.pos (omega arith), l.invariant.2.ahead l.pos (omega arith), c.if-l-eq0.true)),
            record { to = omega arith; met = λ h. absurd (omega arith); none = λ _ _. omega (arith, i.1.till) },
            marking_hole _ _ _ _ (record { table = b; all = e }) _ _ _ _ _ i.1 (omega arith) _ i.3,
            i.4,
          )),
    )

-- the record at pos, its place marked
module _ (c : goal.After-slice_known-in-loop-pos-2-1) where
  entry : byte c.loop-pos.tab c.loop-pos.pos ≡ byte c.loop-pos.invariant.1 c.loop-pos.pos
  entry = c.loop-pos.invariant.2.ahead c.loop-pos.pos (omega arith) ∙ sym (c.loop-pos.invariant.2.later c.loop-pos.pos (omega arith))

  some : 1 ≤ byte c.loop-pos.tab c.loop-pos.pos
  some = omega (arith, c.if-l-eq0.false)

  room : (9 ≤ byte c.loop-pos.tab c.loop-pos.pos) × (c.loop-pos.pos + byte c.loop-pos.tab c.loop-pos.pos ≤ c.args.f)
  room = ends_within _ _ _ _ c.requires.table _ _ _ _ c.loop-pos.invariant.2 (omega arith) some

  marks_of : Span c.loop-pos.tab c.loop-pos.pos (c.loop-pos.pos + 8) (λ _. 255) c.fill.new.s
  marks_of = ends_at _ _ _ _ _ c.fill.ensures (omega arith)

  passed : Passed c.args.tab.now c.args.f (set c.loop-pos.invariant.1 c.loop-pos.pos 0) (c.loop-pos.pos + byte c.loop-pos.tab c.loop-pos.pos) (c.loop-pos.met + 1) c.fill.new.s
  passed = passed_record _ _ _ _ c.requires.table _ _ _ _ c.loop-pos.invariant.2 (omega arith) _ some marks_of

pub overflow_add-met : goal.overflow_add-met
overflow_add-met c = record { fits = omega (arith, (passed c).left, c.requires.table.most) }

pub loop-pos-preserved : goal.loop-pos-preserved
loop-pos-preserved c =
    let l = c.loop-pos in
    let b = c.requires.table in
    let s : 1 ≤ byte c.loop-pos.invariant.1 c.loop-pos.pos = omega (arith, entry c, some c) in (
      c.fill.ensures.len ∙ l.invariant.0,
      set l.invariant.1 l.pos 0,
      passed c,
      (λ x.
          let i = l.invariant.3 x in (
            l.pos + byte l.tab l.pos,
            rw (entry c) (walked_record _ _ _ _ (record { table = b; all = x }) _ _ _ _ _ i.1 (omega arith) _ s refl),
            record { to = omega (arith, i.2.to); met = λ _. refl; none = λ _ h. absurd (omega (arith, i.2.to, room c)) },
            rw (entry c) (marking_record _ _ _ _ (record { table = b; all = x }) _ _ _ _ _ i.1 (omega arith) _ _ s i.3 (marks_of c)),
            signed_record _ _ _ _ (record { table = b; all = x }) _ _ _ _ _ i.1 (omega arith) _ _ s i.4 c.le64-signs.ensures.signs,
          )),
    )

-- at the frontier; records that lie apart have an entry each
module _ (page tab₀ left tab : List ℕ) (n f pos met acc gap signs : ℕ) (table : Table page n f tab₀) (ended : pos ≡ f)
    (shown : entries tab₀ ≡ n → (end : ℕ) × Walked page n f tab₀ left pos end met acc × Gap gap pos end × Marking page n left pos tab × Signed page n left signs) where
  all_of : Laid page n f → entries tab₀ ≡ n
  all_of d = table.full (distinct_of _ _ _ _ table d)

  module _ (e : entries tab₀ ≡ n) where
    exact : Exact page n f tab₀
    exact = record { table = table; all = e }

    over : Walked page n f tab₀ left f (shown e).0 met acc
    over = subst (λ y. Walked page n f tab₀ left y (shown e).0 met acc) ended (shown e).1

    marks : Marking page n left f tab
    marks = subst (λ y. Marking page n left y tab) ended (shown e).3

  clear : Laid page n f → acc ≡ 0
  clear d = (over (all_of d)).clear d

  met_n : Laid page n f → met ≡ n
  met_n d = met_all _ _ _ _ (exact (all_of d)) _ _ _ _ (over (all_of d)) d

  -- the last bytes of no record end there
  short : 17 ≤ f → Laid page n f → f ≤ gap → ⊥
  short s d h =
      let g = (shown (all_of d)).2 in
      omega (arith, end_top _ _ _ _ (exact (all_of d)) _ _ _ _ (over (all_of d)) d, g.none (omega (arith, s, ended)) (omega (arith, h, ended, g.to)), ended)

pub returns-then-acc-ne0-clause-says : goal.returns-then-acc-ne0-clause-says
returns-then-acc-ne0-clause-says c d =
    let l = c.loop-pos in
    let ended : l.pos ≡ c.args.f = omega (arith, l.invariant.2.to, c.loop-pos-test.false) in
    let a = clear c.args.page.now c.args.tab.now l.invariant.1 l.tab c.args.n c.args.f l.pos l.met l.acc l.gap l.signs c.requires.table ended l.invariant.3 d in
    let b = met_n c.args.page.now c.args.tab.now l.invariant.1 l.tab c.args.n c.args.f l.pos l.met l.acc l.gap l.signs c.requires.table ended l.invariant.3 d in
    let s = short c.args.page.now c.args.tab.now l.invariant.1 l.tab c.args.n c.args.f l.pos l.met l.acc l.gap l.signs c.requires.table ended l.invariant.3 c.requires.start d in
    ⊎_elim (λ x. x a) (λ x. ⊎_elim (λ y. y.1 b) (λ y. s y.2) x) c.then-acc-ne0.either

pub returns-clause-says : goal.returns-clause-says
returns-clause-says c =
    let l = c.loop-pos in
    let q = c.requires in
    let ended : l.pos ≡ c.args.f = omega (arith, l.invariant.2.to, c.loop-pos-test.false) in
    let e : entries c.args.tab.now ≡ c.args.n = omega (arith, l.invariant.2.left, c.if-met-n.false, q.table.most) in
    let w = over c.args.page.now c.args.tab.now l.invariant.1 l.tab c.args.n c.args.f l.pos l.met l.acc l.gap l.signs q.table ended l.invariant.3 e in
    let i = l.invariant.3 e in
    says_same c.no_sign.result c.no_sign.ensures
    (λ n. laid_of _ _ _ _ (record { table = q.table; all = e }) _ _ _ _ w _ i.4 q.start c.if-acc-ne0.false c.if-met-n.false (omega (arith, i.2.met (omega (arith, c.if-f-gap.false, ended)), ended)) n)
    (λ d. i.4.back d.natural)

pub returns-clause-marked : goal.returns-clause-marked
returns-clause-marked c _ =
    let l = c.loop-pos in
    let q = c.requires in
    let ended : l.pos ≡ c.args.f = omega (arith, l.invariant.2.to, c.loop-pos-test.false) in
    let e : entries c.args.tab.now ≡ c.args.n = omega (arith, l.invariant.2.left, c.if-met-n.false, q.table.most) in
    let w = over c.args.page.now c.args.tab.now l.invariant.1 l.tab c.args.n c.args.f l.pos l.met l.acc l.gap l.signs q.table ended l.invariant.3 e in
    marked_all _ _ _ _ (record { table = q.table; all = e }) _ _ _ _ w _ (marks c.args.page.now c.args.tab.now l.invariant.1 l.tab c.args.n c.args.f l.pos l.met l.acc l.gap l.signs q.table ended l.invariant.3 e) c.if-met-n.false
