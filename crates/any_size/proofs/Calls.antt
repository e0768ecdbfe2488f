-- Demand 1 where each store says its own page size: what is shown at a size, at the size that a call goes by. Assumes nothing.
use mathlib.Core.Path.{◌≡◌, refl, sym, ap, subst, ◌∙◌}
use mathlib.Core.Bool.{Bool, true, false, true≢false}
use mathlib.Core.List.{List}
use mathlib.Core.Logic.{◌⊎◌, inl, inr, ⊎_elim}
use Prim.Native.Nat.{ℕ}
use lib.ListN.{length}
use Rattle.ground.specs.Ladder.{Answers}
use Rattle.partition.specs.declared.Shape.{Shape}
use Rattle.partition.specs.Sizes.{Sized, shape_for, shape_of}
use Rattle.partition.proofs.Sizes.{sized_for, sized_of}
use Rattle.words.specs.Le.{le32}
use Rattle.store.specs.Pages.{S1024}
use Rattle.store.specs.Accepted.{Page0}
use Rattle.store.specs.Tables.{Out, refused, refused_at, formatted, PageSize, format_table, format_sized}
use Rattle.store.specs.Demands.{Hash, Call, format, check, count, lookup, remove, put, row_at, inspect, Made, ok, WholePages, page_0, ExactlyWhen}
use Rattle.store.proofs.Accepted.Format.{good_stable}
use Rattle.store.proofs.Accepted.OwnSize.{short, size_is, is_size}
use Rattle.store.proofs.Demands.Order.{good_length, whole_pages, says_one, says_late}
use Rattle.store.proofs.Demands.Settled.{format_settled, check_settled, count_settled, lookup_settled, row_settled, inspect_settled, put_settled, remove_settled}
use Rattle.store.proofs.Demands.Whole.{demand_1}
use Rattle.store.proofs.Result.Answered.{unless, format_answered}
use Rattle.store.proofs.Result.Total.{answered_always}
use Rattle.any_size.specs.OwnSizes.{SizedCall, format_to, on, goes_by, MadeSized, faults_sized, GivenSized, SizeNumber, OwnFirst}
use Rattle.any_size.proofs.Rows.{number_at, size_or_not, bad_number}

pub sized_by : (c : Call) (s : List ℕ) → Sized (goes_by c s)
sized_by format s = sized_of s
sized_by check s = sized_of s
sized_by count s = sized_of s
sized_by (lookup c) s = sized_of s
sized_by (remove c) s = sized_of s
sized_by (put c p m) s = sized_of s
sized_by (row_at n out) s = sized_of s
sized_by (inspect g n out) s = sized_for (length g)

abbrev pub is_format : Call → Bool
is_format format = true
is_format check = false
is_format count = false
is_format (lookup c) = false
is_format (remove c) = false
is_format (put c p m) = false
is_format (row_at n out) = false
is_format (inspect g n out) = false

pub differs : (c : Call) → is_format c ≡ false → c ≡ format → ⊥
differs c f e = true≢false (sym (ap is_format e) ∙ f)

-- ---- a format, by the size that it is given

-- it succeeds as at that size, or is refused
abbrev pub Formats : ℕ → List ℕ → Out → List ℕ → Type 0
Formats n s o t = ((PageSize n × WholePages (shape_for n) s) × (o ≡ formatted) × Answers (format_table (shape_for n) s) (o, t))
    ⊎ ((PageSize n × WholePages (shape_for n) s → ⊥) × (o ≡ refused 1) × (t ≡ s))

by_length : (n : ℕ) (s : List ℕ) (o : Out) (t : List ℕ) → PageSize n → Answers (format_table (shape_for n) s) (o, t) → Formats n s o t
unfolding format_table
by_length n s o t y (inl p) = inr ((λ w. p.1.0 (good_length (shape_for n) s w.1)), ap (λ q. q.0) p.1.1, ap (λ q. q.1) p.1.1)
by_length n s o t y (inr p) = inl ((y, whole_pages (shape_for n) s (good_stable (shape_for n) s (p.0 tt))), ap (λ q. q.0) p.1, inr p)

pub formats : (n : ℕ) (s : List ℕ) (o : Out) (t : List ℕ) → Answers (format_sized n s) (o, t) → Formats n s o t
unfolding format_sized
formats n s o t m = go (size_or_not n) m
  where
    go : Dec (PageSize n) → Answers (format_sized n s) (o, t) → Formats n s o t
    go (no b) (inl p) = inr ((λ w. b w.0), ap (λ q. q.0) p.1.1, ap (λ q. q.1) p.1.1)
    go (no b) (inr p) = absurd (p.0 tt b)
    go (yes y) (inl p) = absurd (p.1.0 y)
    go (yes y) (inr p) = by_length n s o t y p.1

format_has : (h : List ℕ → ℕ) (n : ℕ) (s : List ℕ) → (o : Out) × (t : List ℕ) × Answers (format_sized n s) (o, t)
unfolding format_sized
format_has h n s = let w = unless {a = (refused 1, s)} (size_or_not n) (λ _. format_answered (shape_for n) h s) in (w.is.0, w.is.1, w.allowed)

-- ---- at any one size

pair : {A B : Type 0} (x y : A × B) → x ≡ y → (x.0 ≡ y.0) × (x.1 ≡ y.1)
pair x y e = (ap (λ q. q.0) e, ap (λ q. q.1) e)

pub made_settled : (S : Shape) (h : List ℕ → ℕ) → Sized S → (c : Call) (s : List ℕ) (o o' : Out) (t t' : List ℕ) → Made S h c s o t → Made S h c s o' t' → (o ≡ o') × (t ≡ t')
made_settled S h z format s o o' t t' m n = pair (o, t) (o', t') (format_settled S s (o, t) (o', t') m n)
made_settled S h z check s o o' t t' m n = (check_settled S h s o o' m.0 n.0, m.1 ∙ sym n.1)
made_settled S h z count s o o' t t' m n = (count_settled S h s o o' m.0 n.0, m.1 ∙ sym n.1)
made_settled S h z (lookup c) s o o' t t' m n = (lookup_settled S h s c o o' m.0 n.0, m.1 ∙ sym n.1)
made_settled S h z (remove c) s o o' t t' m n = pair (o, t) (o', t') (remove_settled S h z s c (o, t) (o', t') m n)
made_settled S h z (put c p k) s o o' t t' m n = pair (o, t) (o', t') (put_settled S h z s c p k (o, t) (o', t') m n)
made_settled S h z (row_at i out) s o o' t t' m n = ((pair _ _ (row_settled S h s i out (o, m.0.0) (o', n.0.0) m.0.1 n.0.1)).0, m.1 ∙ sym n.1)
made_settled S h z (inspect g i out) s o o' t t' m n = ((pair _ _ (inspect_settled S h g i out (o, m.0.0) (o', n.0.0) m.0.1 n.0.1)).0, m.1 ∙ sym n.1)

-- ---- demand 1

module _ (h : List ℕ → ℕ) (hash : Hash h) where
  pub answered : (c : SizedCall) (s : List ℕ) → GivenSized c → (o : Out) × (t : List ℕ) × MadeSized h c s o t
  answered (format_to n) s g = format_has h n s
  answered (on c) s g = let w = answered_always (goes_by c s) h (sized_by c s) hash c s g.1 in (w.0, w.1, (g.0, w.2))

  settled : (c : SizedCall) (s : List ℕ) (o o' : Out) (t t' : List ℕ) → MadeSized h c s o t → MadeSized h c s o' t' → (o ≡ o') × (t ≡ t')
  settled (format_to n) s o o' t t' x y = go (formats n s o t x) (formats n s o' t' y)
    where
      go : Formats n s o t → Formats n s o' t' → (o ≡ o') × (t ≡ t')
      go (inl v) (inl w) = made_settled (shape_for n) h (sized_for n) format s o o' t t' v.2 w.2
      go (inl v) (inr w) = absurd (w.0 v.0)
      go (inr v) (inl w) = absurd (v.0 w.0)
      go (inr v) (inr w) = (v.1 ∙ sym w.1, v.2 ∙ sym w.2)
  settled (on c) s o o' t t' x y = made_settled (goes_by c s) h (sized_by c s) c s o o' t t' x.1 y.1

  in_order : (c : SizedCall) (s : List ℕ) (o : Out) (t : List ℕ) → MadeSized h c s o t → ExactlyWhen (faults_sized h c s) o
  in_order (format_to n) s o t m = ⊎_elim
      (λ v. says_late _ _ (λ b. b v.0) (λ x. x) (λ x. x) (λ x. x) (λ x. x) (λ p x. x) v.1 refl)
      (λ v. says_one _ _ v.0 v.1)
      (formats n s o t m)
  in_order (on c) s o t m = (demand_1 (goes_by c s) h).0 c s o t m.1

  kept : (c : SizedCall) (s : List ℕ) (o : Out) (t : List ℕ) → MadeSized h c s o t → ok o ≡ false → t ≡ s
  kept (format_to n) s o t m f = ⊎_elim (λ v. absurd (true≢false (sym (ap ok v.1) ∙ f))) (λ v. v.2) (formats n s o t m)
  kept (on c) s o t m f = (demand_1 (goes_by c s) h).2 c s o t m.1 f

  pub succeeds : (n : ℕ) (s : List ℕ) (o : Out) (t : List ℕ) → MadeSized h (format_to n) s o t → PageSize n → WholePages (shape_for n) s → o ≡ formatted
  succeeds n s o t m y w = ⊎_elim (λ v. v.1) (λ v. absurd (v.0 (y, w))) (formats n s o t m)

  bad_number_told : (s : List ℕ) (o : Out) (t : List ℕ) → (SizeNumber (le32 s 20) → ⊥) → WholePages S1024 s → MadeSized h (on check) s o t → o ≡ refused_at 2 0
  bad_number_told s o t b w m =
      let small = bad_number s b in
      let broken : Page0 (shape_of s) s → ⊥ = subst (λ S. Page0 S s → ⊥) (sym (number_at s)) (small.1 (le32 s 20)) in
      ((in_order (on check) s o t m).two 0).1 ((λ x. x (subst (λ S. WholePages S s) (sym small.0) w)), (λ x. x), (λ x. x), (λ x. x), (λ x. x), page_0 broken)

  pub own_first : OwnFirst h
  own_first = record {
    answered = answered;
    settled = settled;
    row_output = λ s. row_settled (shape_of s) h s;
    inspection_output = λ g. inspect_settled (shape_for (length g)) h g;
    refused_in_order = in_order;
    format_succeeds = succeeds;
    store_kept = kept;
    output_kept = λ s n out o out' m f. ⊎_elim
        (λ r. (demand_1 (shape_of s) h).3 s n out o out' (inl r) f)
        (λ i. (demand_1 (shape_for (length s)) h).3 s n out o out' (inr i) f)
        m;
    short_is_one = short;
    bad_number = bad_number;
    bad_number_told = bad_number_told;
    three_lengths = λ g. (size_is (length g), is_size (length g));
  }
