-- An accepted store is settled by its length and by what its pages from 2 on hold. Assumes nothing.
use mathlib.Core.Path.{◌≡◌, refl, sym, ap, subst, ◌∙◌}
use mathlib.Core.List.{List}
use mathlib.Core.Logic.{◌⊎◌, inl, inr, ⊎_elim}
use Prim.Native.Nat.{ℕ, suc, ◌+◌, ◌-◌, ◌*◌, ◌/◌, ◌≤◌, ◌<◌}
use native.Mathlib.Omega.{arith}
use native.Mathlib.Nat.{suc-mul, mul-le-mul_right, div-mul-le_self, div-add-mod', le-div_iff_mul-le, div-lt_iff_lt-mul, lt-div-mul-add}
use Rattle.partition.specs.Bits.{top}
use lib.ListN.{length, get_or}
use lib.Seq.{ext_get_or}
use Rattle.ground.specs.Lists.{byte}
use Rattle.words.specs.Le.{le32}
use Rattle.ground.proofs.Sides.{side}
use Rattle.ground.proofs.Parts.{byte_part, length_part}
use Rattle.page.specs.Page.{BucketPage, depth, rows, code}
use Rattle.ground.proofs.Tables.{get_d_tab}
use Rattle.page.proofs.Unique.{unique}
use Rattle.words.proofs.Bytes.{le32_byte}
use Rattle.partition.specs.declared.Shape.{Shape}
use Rattle.store.specs.Pages.{size, pages, page, dir_depth, entry_at, Page, free, bucket, read, reading, contents, deepest_in}
use Rattle.store.specs.Accepted.{Bucket, Zero, Calls, Stands, unused, used}
use Rattle.store.specs.Tables.{Becomes}
use Rattle.store.specs.Demands.{Sized}
use Rattle.store.specs.Counts.{counted}
use Rattle.store.proofs.Counts.Words.{counts_word}
use Rattle.store.proofs.Accepted.Rules.{Opened, opened}
use Rattle.store.proofs.Showing.Shown.{free_not}

pub read_zero : (g : List ℕ) → Zero g → read g ≡ free
unfolding read
read_zero g z = ap (λ b. reading b g) (z 0)

pub read_used : (g : List ℕ) → BucketPage g → read g ≡ bucket (depth g) (rows g)
unfolding read
read_used g b = ap (λ b. reading b g) b.rules.one

pub read_bucket : (h : List ℕ → ℕ) (g : List ℕ) → Bucket h g → read g ≡ bucket (depth g) (rows g)
read_bucket h g b = read_used g b.rules

zero_not_one : (g : List ℕ) → Zero g → byte g 0 ≡ 1 → ⊥
zero_not_one g z e = omega (arith, z 0)

-- page p of a store lies within it
pub within : (S : Shape) (s : List ℕ) (p : ℕ) → p < pages S s → p * size S + size S ≤ length s
within S s p b =
    let m : suc p * size S ≤ pages S s * size S = mul-le-mul_right (size S) b in
    omega (arith, m, suc-mul p (size S), div-mul-le_self (length s) (size S))

pub page_long : (S : Shape) (s : List ℕ) (p : ℕ) → p < pages S s → length (page S s p) ≡ size S
unfolding page
page_long S s p b = length_part s (p * size S) (size S) (within S s p b)

-- what page p holds, in the list of what the pages hold
pub held : (S : Shape) (s : List ℕ) (p : ℕ) → 2 ≤ p → p < pages S s → get_or (contents S s) (p - 2) free ≡ read (page S s p)
unfolding contents
held S s p a b =
    let q : p - 2 + 2 ≡ p = omega arith in
    get_d_tab (λ i. read (page S s (i + 2))) (pages S s - 2) (p - 2) free (omega arith) ∙ ap (λ i. read (page S s i)) q

-- an entry that names a page still names it, where page and depth are the same
named_same : (S : Shape) (h : List ℕ → ℕ) (t u : List ℕ) (p i : ℕ) → Stands S h t p → Stands S h u p → page S t p ≡ page S u p → dir_depth t ≡ dir_depth u
    → i < S.entries → entry_at S t i ≡ p → entry_at S u i ≡ p
named_same S h t u p i (unused x f) b e d l m = absurd (f i l m)
named_same S h t u p i (used x _ f) (unused y _) e d l m = absurd (zero_not_one (page S u p) y (rw e at x.rules.rules.one))
named_same S h t u p i (used x _ f) (used y _ g) e d l m =
    (g i l).1 (subst (λ k. Calls k (depth (page S u p)) (top (depth (page S u p)) (h (code (page S u p) 0))) i) d
    (subst (λ w. Calls (dir_depth t) (depth w) (top (depth w) (h (code w 0))) i) e ((f i l).0 m)))

module _ (S : Shape) (h : List ℕ → ℕ) (t u : List ℕ) (sized : Sized S) (bt : (k : ℕ) → byte t k < 256) (bu : (k : ℕ) → byte u k < 256)
    (T : Opened S h t) (U : Opened S h u) (l : length t ≡ length u) (e : contents S t ≡ contents S u) where
  n_same : pages S t ≡ pages S u
  n_same = ap (λ m. m / size S) l

  reads : (p : ℕ) → 2 ≤ p → p < pages S t → read (page S t p) ≡ read (page S u p)
  reads p a b = sym (held S t p a b) ∙ ap (λ gs. get_or gs (p - 2) free) e ∙ held S u p a (rw n_same at b)

  same_page : (p : ℕ) → 2 ≤ p → p < pages S t → page S t p ≡ page S u p
  same_page p a b = go (T.stands p a b) (U.stands p a (rw n_same at b))
    where
      lens : length (page S t p) ≡ length (page S u p)
      lens = page_long S t p b ∙ sym (page_long S u p (rw n_same at b))

      go : Stands S h t p → Stands S h u p → page S t p ≡ page S u p
      go (unused x _) (unused y _) = ext_get_or 0 (page S t p) (page S u p) lens (λ k i. x k ∙ sym (y k))
      go (unused x _) (used y _ _) = absurd (free_not (sym (read_zero (page S t p) x) ∙ reads p a b ∙ read_bucket h (page S u p) y))
      go (used x _ _) (unused y _) = absurd (free_not (sym (read_zero (page S u p) y) ∙ sym (reads p a b) ∙ read_bucket h (page S t p) x))
      go (used x _ _) (used y _ _) =
          let q : bucket (depth (page S t p)) (rows (page S t p)) ≡ bucket (depth (page S u p)) (rows (page S u p)) = sym (read_bucket h (page S t p) x) ∙ reads p a b ∙ read_bucket h (page S u p) y in
          unique (page S t p) (page S u p) x.rules.rules y.rules.rules lens (cc) (cc)

  same_depth : dir_depth t ≡ dir_depth u
  same_depth = T.deepest ∙ ap deepest_in e ∙ sym U.deepest

  same_entry : (i : ℕ) → i < S.entries → entry_at S t i ≡ entry_at S u i
  same_entry i b = go (T.page1.range i b) (U.page1.range i b)
    where
      both : (p : ℕ) → 2 ≤ p → p < pages S t → (Stands S h t p × Stands S h u p) × (page S t p ≡ page S u p)
      both p x y = ((T.stands p x y, U.stands p x (rw n_same at y)), same_page p x y)

      Range : List ℕ → Type 0
      Range s = (entry_at S s i ≡ 0) ⊎ ((2 ≤ entry_at S s i) × (entry_at S s i < pages S s))

      go : Range t → Range u → entry_at S t i ≡ entry_at S u i
      go (inr x) y = let s = both (entry_at S t i) x.0 x.1 in sym (named_same S h t u (entry_at S t i) i s.0.0 s.0.1 s.1 same_depth b refl)
      go (inl x) (inl y) = x ∙ sym y
      go (inl x) (inr y) = let s = both (entry_at S u i) y.0 (rw n_same y.1) in named_same S h u t (entry_at S u i) i s.0.1 s.0.0 (sym s.1) (sym same_depth) b refl

  in_word : (a k : ℕ) → a ≤ k → k < a + 4 → le32 t a ≡ le32 u a → byte t k ≡ byte u k
  in_word a k x y w = let q : a + (k - a) ≡ k = omega arith in rw q at (le32_byte t u a (k - a) bt bu w (omega arith))

  same_count : (j : ℕ) → j < 14 → le32 t (24 + 4 * j) ≡ le32 u (24 + 4 * j)
  same_count j m = counts_word S t T.counts j m ∙ ap (λ gs. counted gs j) e ∙ sym (counts_word S u U.counts j m)

  in_first : (k : ℕ) → k < size S → byte t k ≡ byte u k
  in_first k b =
      let P = T.page0 in
      let Q = U.page0 in
      ⊎_elim (λ x. in_word 0 k (omega arith) (omega arith) (P.number ∙ n_same ∙ sym Q.number))
      (λ x. ⊎_elim (λ y. in_word 4 k x (omega arith) (P.directory ∙ sym Q.directory))
      (λ y. ⊎_elim (λ v. in_word 8 k y (omega arith) (P.entries ∙ sym Q.entries))
      (λ v. ⊎_elim (λ w. in_word 12 k v (omega arith) (P.first ∙ sym Q.first))
      (λ w. ⊎_elim (λ r. in_word 16 k w (omega arith) same_depth)
      (λ r. ⊎_elim (λ q. in_word 20 k r (omega arith) (P.size_number ∙ sym Q.size_number))
      (λ q. ⊎_elim (λ o. in_word (24 + 4 * ((k - 24) / 4)) k (omega arith) (omega arith) (same_count ((k - 24) / 4) (omega arith)))
      (λ o. P.rest k o b ∙ sym (Q.rest k o b))
      (side k 80)) (side k 24)) (side k 20)) (side k 16)) (side k 12)) (side k 8)) (side k 4)

  in_second : (k : ℕ) → size S ≤ k → k < 2 * size S → byte t k ≡ byte u k
  in_second k a b =
      let w = sized.whole in
      in_word (size S + 4 * ((k - size S) / 4)) k (omega arith) (omega arith) (same_entry ((k - size S) / 4) (omega arith))

  in_page : (k : ℕ) → 2 * size S ≤ k → k < length t → byte t k ≡ byte u k
  unfolding page
  in_page k a b =
      let zp : 0 < size S = omega arith in
      let j : ℕ = k - k / size S * size S in
      let x : 2 ≤ k / size S = (le-div_iff_mul-le {k = size S} {x = 2} {y = k} zp).1 a in
      let y : k / size S < pages S t = (div-lt_iff_lt-mul {k = size S} {x = k} {y = pages S t} zp).1 (omega (arith, div-add-mod' (length t) (size S), T.long.whole)) in
      let lo : k / size S * size S ≤ k = div-mul-le_self k (size S) in
      let hi : k < k / size S * size S + size S = lt-div-mul-add {a = k} {b = size S} zp in
      let q : k / size S * size S + (k - k / size S * size S) ≡ k = omega arith in
      rw q at (sym (byte_part t (k / size S * size S) (size S) j (omega arith)) ∙ ap (λ g. byte g j) (same_page (k / size S) x y) ∙ byte_part u (k / size S * size S) (size S) j (omega arith))

  pub same_store : t ≡ u
  same_store = ext_get_or 0 t u l (λ k b. ⊎_elim (λ x. in_first k x) (λ x. ⊎_elim (λ y. in_second k x y) (λ y. in_page k y b) (side k (2 * size S))) (side k (size S)))

-- two stores that a write may leave are one
pub becomes_one : (S : Shape) (h : List ℕ → ℕ) (s : List ℕ) (gs : List Page) (t u : List ℕ) → Sized S → Becomes S h s gs t → Becomes S h s gs u → t ≡ u
becomes_one S h s gs t u sized a b =
    same_store S h t u sized a.byte_size b.byte_size (opened S h t a.again) (opened S h u b.again) (a.long ∙ sym b.long) (a.held ∙ sym b.held)
