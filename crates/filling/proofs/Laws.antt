-- What the call's table comes to: settled, answered, exact; what the filled store is, and what a store with counts is answered. Over any page size. Assumes nothing.
use mathlib.Core.Path.{◌≡◌, refl, sym, ap, subst, ◌∙◌}
use mathlib.Core.Bool.{true, false, true≢false}
use mathlib.Core.List.{List, [], ◌∷◌, flat_map}
use mathlib.Core.Logic.{◌⊎◌, inl, inr, ⊎_elim, ◌↔◌}
use Prim.Native.Nat.{ℕ, zero, suc, ◌+◌, ◌-◌, ◌*◌, ◌/◌, ◌<◌}
use native.Mathlib.Omega.{arith}
use lib.ListN.{length, length-append, length-map}
use Rattle.ground.specs.Ladder.{Answers, rung, given, ends, answer}
use Rattle.ground.specs.Lists.{byte, tab}
use Rattle.ground.proofs.Ladders.{one}
use Rattle.ground.proofs.Tables.{length_tab}
use Rattle.words.specs.Le.{le16, le32}
use Rattle.words.specs.Moves.{Frame, Cleared}
use Rattle.words.proofs.Bytes.{le32_byte}
use Rattle.page.specs.Page.{count, row_at, rows}
use Rattle.partition.specs.declared.Shape.{Shape}
use Rattle.store.specs.Pages.{pages, page, Page, free, read, contents, as_row, rows_on, rows_in, rows_held}
use Rattle.store.specs.Accepted.{GoodLength, Stands, unused, used, Accepted, AcceptedBefore, BrokenBefore}
use Rattle.store.specs.Counts.{counted}
use Rattle.store.specs.Tables.{Out, refused, refused_at, formatted, accepted, new, replaced, found, counted as tally, row, Refusal1}
use Rattle.store.specs.Demands.{Sized, WholePages, ok}
use Rattle.store.proofs.Accepted.Format.{good_stable}
use Rattle.store.proofs.Accepted.Rules.{Opened, opened}
use Rattle.store.proofs.Accepted.Unique.{read_zero, read_used}
use Rattle.store.proofs.Counts.Words.{counts_word, free_none}
use Rattle.store.proofs.Demands.Order.{good_length, whole_pages}
use Rattle.store.proofs.Demands.Said.{Said}
use Rattle.store.proofs.Demands.Settled.{same}
use Rattle.store.proofs.Result.Answered.{Result, unless}
use Rattle.store.proofs.Result.Decided.{good_or_not}
use Rattle.filling.specs.Filling.{Filled, fill_table, NoCounts, SameButCounts, Fills, FillLaws, FillingShown}
use Rattle.filling.proofs.Alike.{Alike, but_counts}
use Rattle.filling.proofs.OldRules.{accepted_then, accepted_before, broken_then, broken_before, before_one, before_whole, no_counts, broken_zero, BrokenPage, before_or_broken, before_below}
use Rattle.filling.proofs.Written.{filled, is_filled, filled_one}

-- ---- the three kinds of answer

data View (S : Shape) (h : List ℕ → ℕ) (s : List ℕ) (o : Out) (t : List ℕ) : Type 0 where
  bad_length : Refusal1 S s → o ≡ refused 1 → t ≡ s → View S h s o t
  old_broken : GoodLength S s → (p : ℕ) → BrokenBefore S h s p → o ≡ refused_at 2 p → t ≡ s → View S h s o t
  meets : AcceptedBefore S h s → o ≡ formatted → Filled S s t → View S h s o t

-- which of them an answer is, and the page that it carries
abbrev kind : Out → ℕ
kind (refused n) = 0
kind (refused_at n p) = 2 + p
kind formatted = 1
kind accepted = 1
kind new = 1
kind (replaced p) = 1
kind (found p) = 1
kind (tally n) = 1
kind (row n p) = 1

module _ (S : Shape) (h : List ℕ → ℕ) (s : List ℕ) where
  view : {o : Out} {t : List ℕ} → Fills S h s o t → View S h s o t
  unfolding fill_table
  view (inl (_, (n, e))) = bad_length n (ap (λ x. x.0) e) (ap (λ x. x.1) e)
  view (inr (g, inl (p, (b, e)))) = old_broken (good_stable S s (g tt)) p b (ap (λ x. x.0) e) (ap (λ x. x.1) e)
  view (inr (g, inr (_, (a, (e, f))))) = meets a e f

  when_one : {o : Out} {t : List ℕ} → View S h s o t → (o ≡ refused 1) ↔ (WholePages S s → ⊥)
  when_one (bad_length n e _) = ((λ _ w. n (good_length S s w)), (λ _. e))
  when_one (old_broken g p b e _) = ((λ f. absurd (omega (arith, ap kind (sym e ∙ f)))), (λ n. absurd (n (whole_pages S s g))))
  when_one (meets a e _) = ((λ f. absurd (omega (arith, ap kind (sym e ∙ f)))), (λ n. absurd (n (whole_pages S s a.long))))

  when_two : {o : Out} {t : List ℕ} → View S h s o t → (p : ℕ) → (o ≡ refused_at 2 p) ↔ (WholePages S s × BrokenBefore S h s p)
  when_two (bad_length n e _) p = ((λ f. absurd (omega (arith, ap kind (sym e ∙ f)))), (λ x. absurd (n (good_length S s x.0))))
  when_two (old_broken g q b e _) p =
      ((λ f. let r : q ≡ p = omega (arith, ap kind (sym e ∙ f)) in (whole_pages S s g, subst (BrokenBefore S h s) r b)), (λ x. e ∙ ap (refused_at 2) (before_one S h s q p b x.1)))
  when_two (meets a e _) p = ((λ f. absurd (omega (arith, ap kind (sym e ∙ f)))), (λ x. absurd (before_whole S h s a p x.1)))

  when_filled : {o : Out} {t : List ℕ} → View S h s o t → (o ≡ formatted) ↔ AcceptedBefore S h s
  when_filled (bad_length n e _) = ((λ f. absurd (omega (arith, ap kind (sym e ∙ f)))), (λ a. absurd (n a.long)))
  when_filled (old_broken g q b e _) = ((λ f. absurd (omega (arith, ap kind (sym e ∙ f)))), (λ a. absurd (before_whole S h s a q b)))
  when_filled (meets a e _) = ((λ _. a), (λ _. e))

  keeps : {o : Out} {t : List ℕ} → View S h s o t → ok o ≡ false → t ≡ s
  keeps (bad_length _ _ e) f = e
  keeps (old_broken _ _ _ _ e) f = e
  keeps (meets _ e _) f = absurd (true≢false (sym (ap ok e) ∙ f))

  -- a store that meets the old rules is answered with its filled one
  fills_with : {t : List ℕ} → AcceptedBefore S h s → Filled S s t → Fills S h s formatted t
  unfolding fill_table
  fills_with a f = inr ((λ _ n. n a.long), inr (before_whole S h s a, (a, (refl, f))))

  breaks_at : (p : ℕ) → GoodLength S s → BrokenBefore S h s p → Fills S h s (refused_at 2 p) s
  unfolding fill_table
  breaks_at p g b = inr ((λ _ n. n g), inl (p, (b, refl)))

-- ---- no rows, no counts

-- rows that are none are none on each page
none_in : (f : ℕ → Page) (n : ℕ) → length (rows_in (tab f n)) ≡ 0 → (i : ℕ) → i < n → length (rows_on (f i)) ≡ 0
unfolding tab rows_in flat_map
none_in f zero e i l = absurd (omega arith)
none_in f (suc n) e zero l = omega (arith, e, length-append (rows_on (f zero)) (rows_in (tab (λ i. f (suc i)) n)))
none_in f (suc n) e (suc i) l = none_in (λ i. f (suc i)) n (omega (arith, e, length-append (rows_on (f zero)) (rows_in (tab (λ i. f (suc i)) n)))) i (omega arith)

empty : {A : Type 0} (l : List A) → length l ≡ 0 → l ≡ []
empty [] e = refl
empty (x ∷ l) e = absurd (omega arith)

zero_word : (a : ℕ) → le32 [] a ≡ 0
unfolding le32 le16
zero_word a = omega arith

first_zero : (s : List ℕ) → NoCounts s → le32 s 24 ≡ 0
unfolding le32 le16
first_zero s z = omega (arith, z 24 (omega arith) (omega arith), z 25 (omega arith) (omega arith), z 26 (omega arith) (omega arith), z 27 (omega arith) (omega arith))

module _ (S : Shape) (h : List ℕ → ℕ) (s : List ℕ) (a : Accepted S h s) where
  T : Opened S h s
  T = opened S h s a

  module _ (none : length (rows_held S s) ≡ 0) where
    free_page : (i : ℕ) → i < pages S s - 2 → read (page S s (i + 2)) ≡ free
    unfolding contents
    free_page i l = go (T.stands (i + 2) (omega arith) (omega arith))
      where
        go : Stands S h s (i + 2) → read (page S s (i + 2)) ≡ free
        go (unused z _) = read_zero (page S s (i + 2)) z
        go (used b _ _) = absurd (omega (
          arith,
          none_in (λ i. read (page S s (i + 2))) (pages S s - 2) none i l,
          ap (λ x. length (rows_on x)) (read_used (page S s (i + 2)) b.rules),
          length-map (rows (page S s (i + 2))) as_row,
          length_tab (row_at (page S s (i + 2))) (count (page S s (i + 2))),
          b.rules.some,
        ))

    no_count : (j : ℕ) → counted (contents S s) j ≡ 0
    unfolding contents
    no_count zero = none
    no_count (suc k) = free_none k (λ i. read (page S s (i + 2))) (pages S s - 2) free_page

    without : ((k : ℕ) → byte s k < 256) → NoCounts s
    without small k l m =
        let j : ℕ = (k - 24) / 4 in
        let q : 24 + 4 * j + (k - (24 + 4 * j)) ≡ k = omega arith in
        rw q at (le32_byte s [] (24 + 4 * j) (k - (24 + 4 * j)) small (λ i. omega arith) (counts_word S s T.counts j (omega arith) ∙ no_count j ∙ sym (zero_word (24 + 4 * j))) (omega arith))

  rowless : NoCounts s → rows_held S s ≡ []
  rowless z = empty (rows_held S s) (sym T.counts.rows ∙ first_zero s z)

-- ---- the laws

module _ (S : Shape) (h : List ℕ → ℕ) (sized : Sized S) where
  pub fill_settled : (s : List ℕ) (a b : Out × List ℕ) → Answers (fill_table S h s) a → Answers (fill_table S h s) b → a ≡ b
  unfolding fill_table
  fill_settled s = one (fill_table S h s) (
    (λ _ _ _ _. refl),
    (λ _ _. same),
    (before_one S h s, (λ _ _. same), (λ _ a b p q. let y : a.1 ≡ b.1 = filled_one S sized s a.1 b.1 p.1 q.1 in λ i. ((p.0 ∙ sym q.0) i, y i))),
  )

  pub fill_answered : (s : List ℕ) → ((k : ℕ) → byte s k < 256) → Result (fill_table S h s)
  unfolding fill_table
  fill_answered s small = unless (good_or_not S s) (λ g. go g (before_or_broken S h s sized g))
    where
      go : GoodLength S s → AcceptedBefore S h s ⊎ BrokenPage S h s
          → Result {A = Out × List ℕ} (rung (BrokenBefore S h s) (λ p. answer (refused_at 2 p, s)) (given (AcceptedBefore S h s) (ends (λ r. (r.0 ≡ formatted) × Filled S s r.1))))
      go g (inl a) = record { is = (formatted, filled S sized s g small); allowed = inr (before_whole S h s a, (a, (refl, is_filled S sized s g small))) }
      go g (inr b) = record { is = (refused_at 2 b.0, s); allowed = inl (b.0, (b.1.1, refl)) }

  -- what the call may answer
  pub fill_said : (s : List ℕ) (x : Out × List ℕ) → Answers (fill_table S h s) x → Said (S.entries + 2) (λ o. o ≡ formatted) x.0
  fill_said s x m = go (view S h s m)
    where
      go : View S h s x.0 x.1 → Said (S.entries + 2) (λ o. o ≡ formatted) x.0
      go (bad_length _ e _) = inl (inl (1, (omega arith, (λ z. omega arith), e)))
      go (old_broken g p b e _) = inl (inr (p, (omega (arith, before_below S h s sized g p b, g.most), e)))
      go (meets _ e _) = inr e

  -- THE FILLED STORE IS ACCEPTED, HAS THE SAME ROWS, PAGES AND DIRECTORY, AND DIFFERS IN THE COUNTS ONLY
  pub same_but_counts : (s t : List ℕ) → AcceptedBefore S h s → Filled S s t → SameButCounts S h s t
  same_but_counts s t a f =
      let E : Alike S s t = but_counts S sized s t f.old in
      record {
        again = accepted_then S h sized s t f.old (no_counts S h s sized a) f.counts a;
        long = f.old.len;
        rows = ap rows_in E.held;
        paged = E.paged;
        depth = E.deep;
        entries = E.entry;
        bytes = λ k. ⊎_elim (f.old.below k) (f.old.above k);
      }

  done_same : (s : List ℕ) (o : Out) (t : List ℕ) → View S h s o t → ok o ≡ true → SameButCounts S h s t
  done_same s o t (bad_length _ e _) f = absurd (true≢false (sym f ∙ ap ok e))
  done_same s o t (old_broken _ p _ e _) f = absurd (true≢false (sym f ∙ ap ok e))
  done_same s o t (meets a _ f) _ = same_but_counts s t a f

  -- where the call is not refused, the store is that one
  pub fill_done : (s : List ℕ) (o : Out) (t : List ℕ) → Fills S h s o t → ok o ≡ true → SameButCounts S h s t
  fill_done s o t m = done_same s o t (view S h s m)

  -- A STORE COMES BACK FROM THE SAME WITHOUT ITS COUNTS
  pub comes_back : (s t : List ℕ) → ((k : ℕ) → byte t k < 256) → Accepted S h t → Cleared t 24 80 s → Fills S h s formatted t
  comes_back s t small a c =
      let F : Frame s 24 56 t = record { len = sym c.len; below = λ i l. sym (c.below i l); above = λ i l. sym (c.above i l) } in
      fills_with S h s (accepted_before S h sized s t F c.new (opened S h t a).counts a) (record { byte_size = small; old = F; counts = (opened S h t a).counts })

  filled_already : (s : List ℕ) → ((k : ℕ) → byte s k < 256) → Accepted S h s
      → (rows_held S s ≡ [] → Fills S h s formatted s) × ((rows_held S s ≡ [] → ⊥) → Fills S h s (refused_at 2 0) s)
  filled_already s small a = (
    (λ e. comes_back s s small a (record { len = refl; new = without S h s a (ap length e) small; below = λ x l. refl; above = λ x l. refl })),
    (λ n. breaks_at S h s 0 a.long (broken_zero S h s sized (λ z. n (rowless S h s a z)))),
  )

  pub fill_laws : FillLaws S h
  fill_laws = record {
    answered = λ s small. let r = fill_answered s small in (r.is.0, (r.is.1, r.allowed));
    settled = fill_settled;
    one = λ s o t m. when_one S h s (view S h s m);
    two = λ s o t m. when_two S h s (view S h s m);
    filled = λ s o t m. when_filled S h s (view S h s m);
    kept = λ s o t m. keeps S h s (view S h s m);
    same = λ s t m. fill_done s formatted t m refl;
    as_checked = λ s t z f. (
      (accepted_then S h sized s t f.old z f.counts, accepted_before S h sized s t f.old z f.counts),
      (λ p. (broken_then S h sized s t f.old z f.counts p, broken_before S h sized s t f.old z f.counts p)),
    );
    counted = λ s. broken_zero S h s sized;
    back = comes_back;
    already = filled_already;
  }

-- FOR EVERY PAGE SIZE AND EVERY HASH
pub filling_shown : FillingShown
filling_shown S h sized = fill_laws S h sized
