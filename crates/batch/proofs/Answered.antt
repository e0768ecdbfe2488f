-- Every batch has a result, whatever the store, the runs and the mode. Over any page size and hash. Assumes nothing.
use mathlib.Core.Path.{◌≡◌, refl}
use mathlib.Core.List.{List, [], ◌∷◌}
use mathlib.Core.Logic.{⊎_elim}
use Prim.Native.Nat.{ℕ, ◌+◌, ◌<◌}
use native.Mathlib.Omega.{arith}
use native.Mathlib.Decide.{dec_lt}
use lib.ListN.{length, take, drop, length-take, get_or-eq_default}
use lib.Seq.{get_or-take, get_or-drop}
use Rattle.ground.proofs.Sides.{side, same}
use Rattle.ground.specs.Lists.{byte}
use Rattle.partition.specs.declared.Shape.{Shape}
use Rattle.store.specs.Demands.{Sized, Hash}
use Rattle.store.specs.Tables.{accepted}
use Rattle.store.proofs.Result.Answered.{Result, refused_or, unless, checked_or}
use Rattle.store.proofs.Result.Decided.{good_or_not}
use Rattle.store.proofs.Result.Total.{put_answered}
use Rattle.batch.specs.PlaceWords.{word_place}
use Rattle.batch.specs.Batch.{Runs, GoodRuns, sum, wanted, number, OneByOne, none_left, and_then, batch_table}
use Rattle.batch.proofs.Signs.{word_ranged}

-- the runs fit or not
same_or_not : (a b : ℕ) → Dec (a ≡ b)
same_or_not a b = ⊎_elim (λ e. yes e) (λ n. no n) (same a b)

fit_or_not : (b : Runs) → Dec (GoodRuns b)
fit_or_not b = go (same_or_not (length b.places) (length b.lengths)) (same_or_not (length b.answers) (length b.lengths)) (same_or_not (sum b.lengths) (length b.codes))
  where
    go : Dec (length b.places ≡ length b.lengths) → Dec (length b.answers ≡ length b.lengths) → Dec (sum b.lengths ≡ length b.codes) → Dec (GoodRuns b)
    go (yes p) (yes a) (yes c) = yes (record { places = p; answers = a; codes = c })
    go (no p) _ _ = no (λ g. p g.places)
    go (yes p) (no a) _ = no (λ g. a g.answers)
    go (yes p) (yes a) (no c) = no (λ g. c g.codes)

-- a part of bytes is bytes
taken : (n : ℕ) (l : List ℕ) → ((k : ℕ) → byte l k < 256) → (k : ℕ) → byte (take n l) k < 256
taken n l b k = ⊎_elim
    (λ i. rw (get_or-take n l k 0 i) (b k))
    (λ i. let e : byte (take n l) k ≡ 0 = get_or-eq_default (take n l) 0 (omega (arith, length-take n l)) in omega (arith, e))
    (side k n)

left : (n : ℕ) (l : List ℕ) → ((k : ℕ) → byte l k < 256) → (k : ℕ) → byte (drop n l) k < 256
left n l b k = rw (get_or-drop n l k 0) (b (n + k))

module _ (S : Shape) (h : List ℕ → ℕ) (sized : Sized S) (hash : Hash h) (m : ℕ) where
  pub puts_answered : (codes ns words s : List ℕ) → ((k : ℕ) → byte codes k < 256) → (ks : List ℕ) × (t : List ℕ) × OneByOne S h m (wanted codes ns words) s ks t
  unfolding wanted
  puts_answered codes [] words s b = ([], s, none_left)
  puts_answered codes (n ∷ ns) [] s b = ([], s, none_left)
  puts_answered codes (n ∷ ns) (w ∷ words) s b =
      let r = put_answered S h sized hash s (take n codes) (word_place w) m (taken n codes b) (word_ranged w) in
      let q = puts_answered (drop n codes) ns words r.is.1 (left n codes b) in
      (number r.is.0 ∷ q.0, q.1, and_then (record { out = r.is.0; made = r.allowed; is = refl }) q.2)

  pub batch_answered : (s : List ℕ) (b : Runs) → ((k : ℕ) → byte b.codes k < 256) → Result (batch_table S h s b m)
  unfolding batch_table
  batch_answered s b small =
      unless (good_or_not S s) (λ g. unless (fit_or_not b) (λ _. refused_or (dec_lt 2 m) (λ _. checked_or S h s (λ o. (o, (s, b.answers))) g (λ _.
      let q = puts_answered b.codes b.lengths b.places s small in
      record { is = (accepted, (q.1, q.0)); allowed = (refl, q.2) }))))
