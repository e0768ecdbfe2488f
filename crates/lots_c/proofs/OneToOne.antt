-- One word tells one answer: of each call the answer is read off its word (of a row, with the code's length), whatever the call was given.
-- Assumes nothing.
use mathlib.Core.Path.{◌≡◌, refl, sym, ap, subst, ◌∙◌}
use mathlib.Core.Bool.{cond}
use mathlib.Core.List.{List}
use mathlib.Core.Logic.{inl, inr, ⊎_elim}
use Prim.Native.Nat.{ℕ, ◌+◌, ◌*◌, ◌/◌, ◌%◌, ◌^◌, ◌≤◌, ◌<◌}
use native.Mathlib.Omega.{arith}
use borrow.Author.Tests.{lt-ltb, le-ltb, ne_eqb}
use lib.Dec.{ltb, eqb}
use lib.IntN.{pos}
use lib.ListN.{length}
use Rattle.hash.specs.Fnv.{fnv, fnv_lt}
use Rattle.page.specs.Places.{place_from, InRange}
use Rattle.page.specs.declared.Place.{Place}
use Rattle.ground.specs.Ladder.{Answers}
use Rattle.partition.specs.Sizes.{shape_for, shape_of}
use Rattle.partition.proofs.Sizes.{sized_of}
use Rattle.store.specs.Tables.{Out, refused, refused_at, formatted, accepted, new, replaced, found, counted, row, format_sized, check_table, count_table, lookup_table, put_table, remove_table, row_table, inspect_table}
use Rattle.store.proofs.Demands.Said.{RefusedBelow, Placed, Rowed, Counted, Kept, Said, format_said, check_said, count_said, lookup_said, put_said, remove_said, row_said, inspect_said}
use Rattle.batch.specs.Batch.{Runs, batch_table}
use Rattle.batch.proofs.Settled.{batch_said}
use Rattle.filling.specs.Filling.{fill_table}
use Rattle.filling.proofs.Laws.{fill_said}
use Rattle.lots_c.specs.Words.{plain, place_word, refusal_word, answer_word, length_after, Tells, TellsAnd, TellsAll, TellsRow}

-- ---- what a caller reads off a word

abbrev place_in : ℕ → Place
place_in w = record { page = pos (w % 2 ^ 32); slot = pos (w / 2 ^ 32 % 2 ^ 16); volume = pos (w / 2 ^ 48) }

abbrev refusal_in : ℕ → Out
refusal_in w = cond (eqb (w % 256) 2) (refused_at 2 (w / 256 % 2 ^ 32)) (refused (w % 256))

abbrev put_in : ℕ → Out
put_in w = cond (eqb w (2 ^ 31)) new (replaced (place_in w))

-- bit 63 says whether it is a refusal
abbrev read_off : (ℕ → Out) → ℕ → Out
read_off value w = cond (ltb w (2 ^ 63)) (value w) (refusal_in w)

-- ---- it is the answer

large : (value : ℕ → Out) (w : ℕ) → 2 ^ 63 ≤ w → read_off value w ≡ refusal_in w
large value w h = rw (le-ltb w (2 ^ 63) h) refl

low : (value : ℕ → Out) (w : ℕ) → w < 2 ^ 63 → read_off value w ≡ value w
low value w h = rw (lt-ltb w (2 ^ 63) h) refl

numbered : (w n : ℕ) → w % 256 ≡ n → (n ≡ 2 → ⊥) → refusal_in w ≡ refused n
numbered w n e d = rw (e, ne_eqb n 2 d) refl

paged : (w p : ℕ) → w % 256 ≡ 2 → w / 256 % 2 ^ 32 ≡ p → refusal_in w ≡ refused_at 2 p
paged w p e f = rw (e, f) refl

refusal_off : (value : ℕ → Out) (o : Out) {most : ℕ} → most ≤ 2 ^ 32 → RefusedBelow most o → read_off value (answer_word o) ≡ o
refusal_off value o m (inl (n, (l, d, e))) =
    subst (λ x. read_off value (answer_word x) ≡ x) (sym e) (large value (refusal_word n 0) (omega arith) ∙ numbered (refusal_word n 0) n (omega arith) d)
refusal_off value o m (inr (p, (l, e))) =
    subst (λ x. read_off value (answer_word x) ≡ x) (sym e) (large value (refusal_word 2 p) (omega arith) ∙ paged (refusal_word 2 p) p (omega arith) (omega arith))

-- three numbers and their word
module _ (x y z : ℕ) (hx : x < 2 ^ 31) (hy : y < 2 ^ 15) (hz : z < 2 ^ 15) where
  pub page_of : (x + 4294967296 * y + 281474976710656 * z) % 4294967296 ≡ x
  page_of = omega arith

  pub slot_of : (x + 4294967296 * y + 281474976710656 * z) / 4294967296 % 65536 ≡ y
  slot_of = omega arith

  pub volume_of : (x + 4294967296 * y + 281474976710656 * z) / 281474976710656 ≡ z
  volume_of = omega arith

-- a place and its word
module _ (b : List ℕ) (r : InRange (place_from b)) where
  small : place_word (place_from b) < 2 ^ 63
  small = omega (arith, r.page, r.slot, r.volume)

  back : place_in (place_word (place_from b)) ≡ place_from b
  back =
      let x : ℕ = plain (place_from b).page in
      let y : ℕ = plain (place_from b).slot in
      let z : ℕ = plain (place_from b).volume in
      λ i. record {
        page = pos (page_of x y z r.page r.slot r.volume i);
        slot = pos (slot_of x y z r.page r.slot r.volume i);
        volume = pos (volume_of x y z r.page r.slot r.volume i);
      }

  not_new : place_word (place_from b) ≡ 2 ^ 31 → ⊥
  not_new e = omega (arith, r.page, r.slot, r.volume)

place_off : (value : Place → Out) → ((p : Place) → answer_word (value p) ≡ place_word p) → (o : Out) → Placed value o → read_off (λ w. value (place_in w)) (answer_word o) ≡ o
place_off value is o (b, (r, e)) =
    let w : answer_word o ≡ place_word (place_from b) = ap answer_word e ∙ is (place_from b) in
    rw w (low (λ w. value (place_in w)) (place_word (place_from b)) (small b r) ∙ ap value (back b r) ∙ sym e)

put_off : (o : Out) → Kept o → read_off put_in (answer_word o) ≡ o
put_off o (inl e) = subst (λ x. read_off put_in (answer_word x) ≡ x) (sym e) refl
put_off o (inr (b, (r, e))) =
    let w : answer_word o ≡ place_word (place_from b) = ap answer_word e in
    let v : put_in (place_word (place_from b)) ≡ replaced (place_from b) = rw (ne_eqb (place_word (place_from b)) (2 ^ 31) (not_new b r)) (ap replaced (back b r)) in
    rw w (low put_in (place_word (place_from b)) (small b r) ∙ v ∙ sym e)

count_off : (o : Out) {most : ℕ} → most < 2 ^ 63 → Counted most o → read_off counted (answer_word o) ≡ o
count_off o m (n, (l, e)) = subst (λ x. read_off counted (answer_word x) ≡ x) (sym e) (low counted n (omega arith))

-- ---- one word, one answer

-- where every answer of a call is read off its word, the word tells one
same : (value : ℕ → Out) {a b : Out} {r : ℕ} → r ≡ answer_word a → r ≡ answer_word b → read_off value (answer_word a) ≡ a → read_off value (answer_word b) ≡ b → a ≡ b
same value e f x y = sym x ∙ ap (read_off value) (sym e ∙ f) ∙ y

module _ (value : ℕ → Out) (Values : Out → Type 0) (off : (o : Out) → Values o → read_off value (answer_word o) ≡ o) where
  one : {a b : Out} {r i j : ℕ} → i ≤ 2 ^ 32 → j ≤ 2 ^ 32 → r ≡ answer_word a → r ≡ answer_word b → Said i Values a → Said j Values b → a ≡ b
  one {a} {b} k l e f s t = same value e f (read a k s) (read b l t)
    where
      read : (o : Out) {most : ℕ} → most ≤ 2 ^ 32 → Said most Values o → read_off value (answer_word o) ≡ o
      read o m s = ⊎_elim (refusal_off value o m) (off o) s

-- a store of any of the sizes has fewer pages than a word has room for
few : (s : List ℕ) → (shape_of s).entries + 2 ≤ 2 ^ 32
few s = omega (arith, (sized_of s).whole, (sized_of s).most)

module _ (s : List ℕ) where
  -- what format may answer, whatever size it is given
  format_sized_lem : (n : ℕ) (x : Out × List ℕ) → Answers (format_sized n s) x → Said 0 (λ o. o ≡ formatted) x.0
  unfolding format_sized
  format_sized_lem n x (inl (_, (_, e))) = inl (inl (1, (omega arith, (λ z. omega arith), ap (λ y. y.0) e)))
  format_sized_lem n x (inr (_, a)) = format_said (shape_for n) fnv s x a

  -- the number of rows is below a bound that no size has to do with
  widely : (o : Out) → Said ((shape_of s).entries + 2) (Counted (16384 * (shape_of s).entries)) o → Said ((shape_of s).entries + 2) (Counted (2 ^ 62)) o
  widely o (inl n) = inl n
  widely o (inr (n, (l, e))) = inr (n, (omega (arith, l, few s), e))

pub format_one : (s t u v : List ℕ) (m n r : ℕ) (a : TellsAnd (format_sized m s) u r) (b : TellsAnd (format_sized n t) v r) → a.out ≡ b.out
format_one s t u v m n r a b = one (λ _. formatted) (λ o. o ≡ formatted) (λ o e. subst (λ x. read_off (λ _. formatted) (answer_word x) ≡ x) (sym e) refl) (omega arith) (omega arith) a.is b.is
    (format_sized_lem s m (a.out, u) a.allowed) (format_sized_lem t n (b.out, v) b.allowed)

pub fill_one : (s t u v : List ℕ) (r : ℕ) (a : TellsAnd (fill_table (shape_of s) fnv s) u r) (b : TellsAnd (fill_table (shape_of t) fnv t) v r) → a.out ≡ b.out
fill_one s t u v r a b = one (λ _. formatted) (λ o. o ≡ formatted) (λ o e. subst (λ x. read_off (λ _. formatted) (answer_word x) ≡ x) (sym e) refl) (few s) (few t) a.is b.is
    (fill_said (shape_of s) fnv (sized_of s) s (a.out, u) a.allowed) (fill_said (shape_of t) fnv (sized_of t) t (b.out, v) b.allowed)

pub check_one : (s t : List ℕ) (r : ℕ) (a : Tells (check_table (shape_of s) fnv s) r) (b : Tells (check_table (shape_of t) fnv t) r) → a.out ≡ b.out
check_one s t r a b = one (λ _. accepted) (λ o. o ≡ accepted) (λ o e. subst (λ x. read_off (λ _. accepted) (answer_word x) ≡ x) (sym e) refl) (few s) (few t) a.is b.is
    (check_said (shape_of s) fnv s a.out a.allowed) (check_said (shape_of t) fnv t b.out b.allowed)

pub count_one : (s t : List ℕ) (r : ℕ) (a : Tells (count_table (shape_of s) fnv s) r) (b : Tells (count_table (shape_of t) fnv t) r) → a.out ≡ b.out
count_one s t r a b = one counted (Counted (2 ^ 62)) (λ o. count_off o (omega arith)) (few s) (few t) a.is b.is
    (widely s a.out (count_said (shape_of s) fnv (sized_of s) fnv_lt s a.out a.allowed)) (widely t b.out (count_said (shape_of t) fnv (sized_of t) fnv_lt t b.out b.allowed))

pub lookup_one : (s t c d : List ℕ) (r : ℕ) (a : Tells (lookup_table (shape_of s) fnv s c) r) (b : Tells (lookup_table (shape_of t) fnv t d) r) → a.out ≡ b.out
lookup_one s t c d r a b = one (λ w. found (place_in w)) (Placed found) (place_off found (λ p. refl)) (few s) (few t) a.is b.is
    (lookup_said (shape_of s) fnv (sized_of s) fnv_lt s c a.out a.allowed) (lookup_said (shape_of t) fnv (sized_of t) fnv_lt t d b.out b.allowed)

pub remove_one : (s t c d u v : List ℕ) (r : ℕ) (a : TellsAnd (remove_table (shape_of s) fnv s c) u r) (b : TellsAnd (remove_table (shape_of t) fnv t d) v r) → a.out ≡ b.out
remove_one s t c d u v r a b = one (λ w. found (place_in w)) (Placed found) (place_off found (λ p. refl)) (few s) (few t) a.is b.is
    (remove_said (shape_of s) fnv (sized_of s) fnv_lt s c (a.out, u) a.allowed) (remove_said (shape_of t) fnv (sized_of t) fnv_lt t d (b.out, v) b.allowed)

pub put_one : (s t c d u v : List ℕ) (p q : Place) (m n r : ℕ) (a : TellsAnd (put_table (shape_of s) fnv s c p m) u r) (b : TellsAnd (put_table (shape_of t) fnv t d q n) v r) → a.out ≡ b.out
put_one s t c d u v p q m n r a b = one put_in Kept put_off (few s) (few t) a.is b.is
    (put_said (shape_of s) fnv (sized_of s) fnv_lt s c p m (a.out, u) a.allowed) (put_said (shape_of t) fnv (sized_of t) fnv_lt t d q n (b.out, v) b.allowed)

pub all_one : (s t u v ns ks : List ℕ) (d e : Runs) (m n r : ℕ) (a : TellsAll (batch_table (shape_of s) fnv s d m) u ns r) (b : TellsAll (batch_table (shape_of t) fnv t e n) v ks r) → a.out ≡ b.out
all_one s t u v ns ks d e m n r a b = one (λ _. accepted) (λ o. o ≡ accepted) (λ o e. subst (λ x. read_off (λ _. accepted) (answer_word x) ≡ x) (sym e) refl) (few s) (few t) a.is b.is
    (batch_said (shape_of s) fnv s d m (a.out, (u, ns)) a.allowed) (batch_said (shape_of t) fnv t e n (b.out, (v, ks)) b.allowed)

-- a row, with the code's length
abbrev Sized : ℕ → Out → Type 0
Sized len o = (old : ℕ) × ((len ≡ length_after o old) × Rowed o)

row_off : (len : ℕ) (o : Out) → Sized len o → read_off (λ w. row len (place_in w)) (answer_word o) ≡ o
row_off len o (old, (z, (l, (h, (b, (r, e)))))) =
    let n : len ≡ l = z ∙ ap (λ x. length_after x old) e ∙ omega arith in
    place_off (row len) (λ p. refl) o (b, (r, e ∙ ap (λ k. row k (place_from b)) (sym n)))

sized : (len old : ℕ) {most : ℕ} (o : Out) → len ≡ length_after o old → Said most Rowed o → Said most (Sized len) o
sized len old o z s = ⊎_elim inl (λ r. inr (old, (z, r))) s

pub row_one : (s t u v out out' : List ℕ) (m n old old' len r : ℕ) (a : TellsRow (row_table (shape_of s) fnv s m out) u old len r) (b : TellsRow (row_table (shape_of t) fnv t n out') v old' len r)
    → a.out ≡ b.out
row_one s t u v out out' m n old old' len r a b = one (λ w. row len (place_in w)) (Sized len) (row_off len) (few s) (few t) a.is b.is
    (sized len old a.out a.size (row_said (shape_of s) fnv (sized_of s) fnv_lt s m out (a.out, u) a.allowed))
    (sized len old' b.out b.size (row_said (shape_of t) fnv (sized_of t) fnv_lt t n out' (b.out, v) b.allowed))

pub inspect_one : (g k u v out out' : List ℕ) (m n old old' len r : ℕ) (a : TellsRow (inspect_table (shape_for (length g)) fnv g m out) u old len r)
    (b : TellsRow (inspect_table (shape_for (length k)) fnv k n out') v old' len r) → a.out ≡ b.out
inspect_one g k u v out out' m n old old' len r a b = one (λ w. row len (place_in w)) (Sized len) (row_off len) (omega arith) (omega arith) a.is b.is
    (sized len old a.out a.size (inspect_said (shape_for (length g)) fnv g m out (a.out, u) a.allowed))
    (sized len old' b.out b.size (inspect_said (shape_for (length k)) fnv k n out' (b.out, v) b.allowed))
