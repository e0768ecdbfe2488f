-- The puts of a batch: the first of those that are left, the chain of those that were made, and what it settles. Over any page size and hash. Assumes nothing.
use mathlib.Core.Path.{◌≡◌, sym, ap, subst, ◌∙◌}
use mathlib.Core.List.{List, [], ◌∷◌, ◌++◌, append-nil}
use Prim.Native.Nat.{ℕ, suc, ◌+◌, ◌≤◌, ◌<◌}
use native.Mathlib.Numerals.{add-one}
use lib.ListN.{length, get_or, take, drop, set, drop_of_length-le}
use lib.Seq.{drop-cons, drop-drop, take-suc-set, take_all, append_snoc}
use Rattle.partition.specs.declared.Shape.{Shape}
use Rattle.store.specs.Accepted.{Accepted}
use Rattle.store.proofs.Demands.Kept.{put_again}
use Rattle.batch.specs.PlaceWords.{word_place}
use Rattle.batch.specs.Batch.{Wanted, wanted, OnePut, OneByOne, none_left, and_then}

-- the puts that are left from put i on, whose code begins at byte a
abbrev pub left_from : List ℕ → List ℕ → List ℕ → ℕ → ℕ → List Wanted
left_from codes lengths words a i = wanted (drop a codes) (drop i lengths) (drop i words)

-- put i
abbrev pub nth : List ℕ → List ℕ → List ℕ → ℕ → ℕ → Wanted
nth codes lengths words a i = record { code = take (get_or lengths i 0) (drop a codes); place = word_place (get_or words i 0) }

module _ (codes lengths words : List ℕ) (a i : ℕ) where
  pub first_left : i < length lengths → i < length words
      → left_from codes lengths words a i ≡ nth codes lengths words a i ∷ left_from codes lengths words (a + get_or lengths i 0) (i + 1)
  unfolding wanted
  first_left b c =
      ap (λ l. wanted (drop a codes) l (drop i words)) (drop-cons lengths i 0 b)
      ∙ ap (wanted (drop a codes) (get_or lengths i 0 ∷ drop (suc i) lengths)) (drop-cons words i 0 c)
      ∙ ap (λ r. nth codes lengths words a i ∷ wanted r (drop (suc i) lengths) (drop (suc i) words)) (drop-drop (get_or lengths i 0) a codes)
      ∙ ap (λ k. nth codes lengths words a i ∷ left_from codes lengths words (a + get_or lengths i 0) k) (sym (add-one i))

  pub nothing_left : length lengths ≤ i → left_from codes lengths words a i ≡ []
  unfolding wanted
  nothing_left b = ap (λ l. wanted (drop a codes) l (drop i words)) (drop_of_length-le lengths b)

-- with the puts that are left the chain is whole: those before i are made, from s on to t, with the first i of the answers
abbrev pub Made_to : Shape → (List ℕ → ℕ) → ℕ → List Wanted → List ℕ → List Wanted → ℕ → List ℕ → List ℕ → Type 0
Made_to S h m all s rest i answers t = (ns u : List ℕ) → OneByOne S h m rest t ns u → OneByOne S h m all s (take i answers ++ ns) u

module _ (S : Shape) (h : List ℕ → ℕ) (m : ℕ) (all : List Wanted) (s : List ℕ) where
  -- one more
  pub made_more : (w : Wanted) (rest : List Wanted) (i : ℕ) (answers t : List ℕ) → Made_to S h m all s (w ∷ rest) i answers t → i < length answers
      → (n : ℕ) (v : List ℕ) → OnePut S h m w t n v → Made_to S h m all s rest (i + 1) (set answers i n) v
  made_more w rest i answers t made b n v one ns u chain =
      subst (λ l. OneByOne S h m all s l u)
      (sym (append_snoc (take i answers) n ns) ∙ ap (λ l. l ++ ns) (sym (take-suc-set answers i n b)) ∙ ap (λ k. take k (set answers i n) ++ ns) (sym (add-one i)))
      (made (n ∷ ns) u (and_then one chain))

  -- all of them
  pub made_all : (rest : List Wanted) (i : ℕ) (answers t : List ℕ) → Made_to S h m all s rest i answers t → rest ≡ [] → length answers ≤ i → OneByOne S h m all s answers t
  made_all rest i answers t made e b =
      subst (λ l. OneByOne S h m all s l t) (append-nil (take i answers) ∙ take_all i answers b)
      (made [] t (subst (λ l. OneByOne S h m l t [] t) (sym e) none_left))

  -- a put leaves an accepted store as long as it was
  pub one_again : (w : Wanted) (t : List ℕ) (n : ℕ) (v : List ℕ) → Accepted S h t → OnePut S h m w t n v → Accepted S h v × (length v ≡ length t)
  one_again w t n v a one = put_again S h t w.code w.place m a (one.out, v) one.made
