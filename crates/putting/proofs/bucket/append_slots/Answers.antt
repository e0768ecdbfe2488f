-- `putting::append_slots` meets its contract: those put behind, and room for those that are left. Assumes nothing.
use Rattle.std.proofs.Common.{ℕ, ◌+◌, ◌<◌, List, [], ◌∷◌, ◌++◌, arith, refl, sym, subst, ◌∙◌}
use Rattle.hash.specs.Fnv.{fnv}
use Rattle.page.specs.Page.{count, row_at}
use Rattle.partition.specs.Partition.{Row, rows_of}
use Rattle.store.specs.Pages.{as_row}
use Rattle.putting.proofs.Appends.{behind_left, behind_next, appended_none, appended_then, slots_none, slots_more, slots_apart}
use Rattle.putting.proofs.Weighs.{slot_at}
use Rattle.putting.specs.declared.weigh.Weight.{Weight}
use Rattle.putting.specs.Split.{slots, Behind, Appended}
use Rattle.putting.proofs.bucket.append_slots.Goals as goal

-- the row of slot i, and those that are left then
abbrev one : List ℕ → ℕ → ℕ → ℕ → List Row
one from i k v = rows_of fnv (as_row (row_at from i) ∷ []) k v

abbrev rest : List ℕ → ℕ → ℕ → ℕ → ℕ → List Row
rest from i b k v = rows_of fnv (slots from (i + 1) b) k v

apart : (page from : List ℕ) (i b k v : ℕ) → i < b → i < count from → Behind page (rows_of fnv (slots from i b) k v) → Behind page (one from i k v ++ rest from i b k v)
apart page from i b k v t u B = subst (Behind page) (slots_apart from fnv i b k v t u) B

pub loop-i-init : goal.loop-i-init
unfolding rows_of
loop-i-init c =
    let B = c.requires.behind in
    let p = c.args.page.now in
    (refl, subst (λ l. Appended p (rows_of fnv l c.args.k c.args.v) p) (sym (slots_none c.args.from.now c.args.a)) (appended_none p B.page B.packed), B)

pub append_slot-requires : goal.append_slot-requires
append_slot-requires c =
    let a = c.args in
    let l = c.loop-i in
    let t = c.loop-i-test.true in
    let u : l.i < count a.from.now = omega (arith, c.requires.to, t) in
    record {
      behind = behind_left l.page (one a.from.now l.i a.k a.v) (rest a.from.now l.i a.b a.k a.v) (apart l.page a.from.now l.i a.b a.k a.v t u l.invariant.2);
      page = c.requires.page;
      slot = u;
      hash = slot_at fnv (λ (w : Weight). w.hash) a.from.now a.ws.now (record { hash = 0; need = 0 }) c.requires.hashes l.i u;
      deep = c.requires.deep;
    }

pub loop-i-preserved : goal.loop-i-preserved
loop-i-preserved c =
    let a = c.args in
    let l = c.loop-i in
    let t = c.loop-i-test.true in
    let u : l.i < count a.from.now = omega (arith, c.requires.to, t) in
    let w = c.append_slot in
    let q = w.new.page in (
      w.ensures.size ∙ l.invariant.0,
      subst (λ x. Appended a.page.now x q) (sym (slots_more a.from.now fnv a.a l.i a.k a.v l.auto.i u))
          (appended_then a.page.now (rows_of fnv (slots a.from.now a.a l.i) a.k a.v) l.page l.invariant.1 (one a.from.now l.i a.k a.v) q w.ensures),
      behind_next l.page (one a.from.now l.i a.k a.v) q w.ensures (rest a.from.now l.i a.b a.k a.v) (apart l.page a.from.now l.i a.b a.k a.v t u l.invariant.2),
    )
