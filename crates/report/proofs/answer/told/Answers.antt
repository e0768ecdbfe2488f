-- `report::answer::told`: the sums of a whole tally from clear marks.
use Rattle.std.specs.Prelude.{Result, Ok, Err, MatchResult}
use Rattle.std.proofs.Common.{◌≡◌, ℕ, ◌+◌, ◌-◌, ◌*◌, ◌<◌, ◌≤◌, ◌^◌, List, length, map, replicate, sym, ap, ◌∙◌, subst, arith, ℤ, to_z, of_z, w64}
use lib.ListN.{length-replicate}
use lib.Signed.{mag}
use mir.Val.{SFits}
use mir.Facts.{to_z-of_z}
use Rattle.hash.specs.Fnv.{fnv}
use Rattle.page.specs.declared.Place.{Place}
use Rattle.partition.specs.declared.Shape.{Shape}
use Rattle.partition.specs.Partition.{Row}
use Rattle.partition.specs.Listing.{listing}
use Rattle.store.specs.Pages.{rows_held}
use Rattle.report.specs.declared.Counted.{Counted}
use Rattle.report.specs.declared.ReportRefusal.{ReportRefusal}
use Rattle.report.specs.Numbers.{rank_on, unmarked, unmarked_sum, remarked, sum_of, Lowered, SheetReady, SumsOf, WholeTally, Ends}
use Rattle.report.proofs.Counts.{clear_unmarked, clear_sum, clear_remarked}
use Rattle.report.proofs.Few.{few}
use Rattle.report.proofs.Tells.{tallied_le, unmarked_le, unmarked_most}
use Rattle.report.proofs.answer.told.Goals as goal

-- what `map_err` left whole was whole
abbrev left_whole : Counted → Result Counted ReportRefusal
left_whole t = Ok t

whole : {ps ls cs cs' : List ℕ} {rs : List Row} (r : Result Counted Place) (t : Counted) → MatchResult r (λ x. left_whole t ≡ Ok x) (λ e. ⊥) → Ends ps ls rs cs r cs' → WholeTally ps ls rs cs t cs'
whole {ps} {ls} {cs} {cs'} {rs} (Ok x) t m w = let e : x ≡ t = cc in subst (λ (v : Counted). WholeTally ps ls rs cs v cs') e w
whole (Err p) t m w = absurd m

lowered_back : (s k : ℕ) (z : ℤ) → mag z < 2 ^ 63 → Lowered s k z → Lowered s k (to_z w64 (of_z w64 z))
lowered_back s k z f l = let g : SFits w64 z = record { sfits = f } in let e : to_z w64 (of_z w64 z) ≡ z = to_z-of_z g in subst (Lowered s k) (sym e) l

module _ {S : Shape} {s ps ls cs cs' : List ℕ} (x : Counted) (r : SheetReady S s ps ls) (clear : cs ≡ replicate (length ps) 0) (long : length cs' ≡ length cs) (w : WholeTally ps ls (listing S fnv (rows_held S s)) cs x cs') where
  sum_le : x.sum ≤ x.codes * 2000000000000
  sum_le = subst (λ (q : ℕ × (ℕ × List ℕ)). q.1.0 ≤ q.0 * 2000000000000) (sym w.all) (tallied_le ps ls r.sheet.sound.amounts r.sheet.paired (map rank_on (listing S fnv (rows_held S s))) 0 0 cs (omega arith))

  codes_le : x.codes ≤ 5200000
  codes_le = let f : length (listing S fnv (rows_held S s)) ≤ 5200000 = few S r.sized s r.accepted in omega (arith, w.codes, f)

  marked : length cs' ≡ length ls
  marked = long ∙ ap (λ (xs : List ℕ). length xs) clear ∙ length-replicate {A = ℕ} (length ps) 0 ∙ sym r.sheet.paired

  -- what is left of the sheet
  left : unmarked cs' + x.named ≡ length ps
  left = w.marks.named ∙ ap unmarked clear ∙ clear_unmarked (length ps)

  left_sum : unmarked_sum ls cs' + x.once ≡ sum_of ls
  left_sum = w.marks.once ∙ ap (unmarked_sum ls) (clear ∙ ap (λ (n : ℕ). replicate n 0) (sym r.sheet.paired)) ∙ clear_sum ls

  hidden_is : length ps - x.named ≡ unmarked cs'
  hidden_is = omega (arith, left)

  rest_is : (n : ℕ) → n ≡ sum_of ls → n - x.once ≡ unmarked_sum ls cs'
  rest_is n e = omega (arith, left_sum, e)

  doubled_is : x.doubled ≡ remarked cs'
  doubled_is = let d : remarked cs ≡ 0 = ap remarked clear ∙ clear_remarked (length ps) in omega (arith, w.marks.doubled, d)

  rest_le : (n : ℕ) → n ≡ sum_of ls → (n - x.once ≤ (length ps - x.named) * 2000000000000) × (length ps - x.named ≤ 5200000)
  rest_le n e = let l = unmarked_le ls cs' r.sheet.sound.amounts in (omega (arith, hidden_is, rest_is n e, l), omega (arith, hidden_is, unmarked_most cs', marked, r.sheet.paired, r.sheet.most))

  summed : (n : ℕ) → n ≡ sum_of ls → (y z : ℤ) → mag y < 2 ^ 63 → Lowered x.sum x.codes y → mag z < 2 ^ 63 → Lowered (n - x.once) (length ps - x.named) z
      → SumsOf ps ls (listing S fnv (rows_held S s)) cs (record { total = to_z w64 (of_z w64 y); hidden = length ps - x.named; cents = to_z w64 (of_z w64 z); doubled = x.doubled })
  summed n e y z yf yl zf zl = record {
    sum = x.sum;
    marks = cs';
    all = ap (λ (m : ℕ). (m, (x.sum, cs'))) (sym w.codes) ∙ w.all;
    total = subst (λ (m : ℕ). Lowered x.sum m (to_z w64 (of_z w64 y))) w.codes (lowered_back x.sum x.codes y yf yl);
    hidden = hidden_is;
    cents = subst (λ (m : ℕ). Lowered (unmarked_sum ls cs') m (to_z w64 (of_z w64 z))) hidden_is
        (subst (λ (m : ℕ). Lowered m (length ps - x.named) (to_z w64 (of_z w64 z))) (rest_is n e) (lowered_back (n - x.once) (length ps - x.named) z zf zl));
    doubled = doubled_is;
  }

pub overflow_sub-hidden : goal.overflow_sub-hidden
overflow_sub-hidden c = let l = left c.in_ok-t.t c.requires.0 c.requires.1 c.tally.auto.counts (whole c.tally.result c.in_ok-t.t c.in_ok-t.ensures.cases c.tally.ensures) in omega (arith, l)

pub overflow_sub-rest : goal.overflow_sub-rest
overflow_sub-rest c = let l = left_sum c.in_ok-t.t c.requires.0 c.requires.1 c.tally.auto.counts (whole c.tally.result c.in_ok-t.t c.in_ok-t.ensures.cases c.tally.ensures) in omega (arith, l, c.add_up.ensures)

pub lower-requires : goal.lower-requires
lower-requires c =
    let w : WholeTally c.args.sheet.ranks.now c.args.sheet.raised.now (listing c.args.z fnv (rows_held c.args.z c.args.s.now)) c.args.counts.now c.in_ok-t.t c.tally.new.counts = whole c.tally.result c.in_ok-t.t c.in_ok-t.ensures.cases c.tally.ensures in
    (sum_le c.in_ok-t.t c.requires.0 c.requires.1 c.tally.auto.counts w, codes_le c.in_ok-t.t c.requires.0 c.requires.1 c.tally.auto.counts w)

pub lower-requires-2 : goal.lower-requires-2
lower-requires-2 c = rest_le c.in_ok-t.t c.requires.0 c.requires.1 c.tally.auto.counts (whole c.tally.result c.in_ok-t.t c.in_ok-t.ensures.cases c.tally.ensures) c.add_up.result c.add_up.ensures

pub returns : goal.returns
returns c =
    summed c.in_ok-t.t c.requires.0 c.requires.1 c.tally.auto.counts (whole c.tally.result c.in_ok-t.t c.in_ok-t.ensures.cases c.tally.ensures) c.add_up.result c.add_up.ensures
    c.lower.result c.lower-2.result c.lower.type_inv c.lower.ensures c.lower-2.type_inv c.lower-2.ensures
