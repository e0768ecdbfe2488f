-- The promises settle every byte: two results of one promise are equal. Assumes nothing.
use Prim.Native.Nat.{ℕ, ◌+◌, ◌*◌, ◌<◌}
use mathlib.Core.Path.{◌≡◌, refl, sym, ap, ◌∙◌}
use mathlib.Core.List.{List}
use native.Mathlib.Omega.{arith}
use Rattle.ground.specs.Lists.{tab}
use Rattle.page.specs.Page.{Slotted, Belongs, row_at, count, frontier, off, len, code}
use Rattle.page.specs.Found.{FoundIn}
use Rattle.std.specs.Prelude.{Result, Ok, Err}
use Rattle.words.proofs.Orders.{irrefl, before_trans}
use lib.ListN.{length}
use mathlib.Core.Logic.{⊎_elim}
use Rattle.ground.proofs.Sides.{side}
use Rattle.page.specs.Steps.{Inserted, Removed, Overwritten, Top}
use Rattle.ground.proofs.Tables.{tab_same}
use Rattle.page.proofs.Unique.{unique}
use Rattle.page.specs.Packed.{Fresh, PackedTo, Added, Started}

pub inserted_one : {p c pl q r : List ℕ} {s : ℕ} → Inserted p s c pl q → Inserted p s c pl r → q ≡ r
inserted_one {p} {c} {pl} {q} {r} a b =
    unique q r a.page b.page (a.long ∙ sym b.long) (a.deep ∙ sym b.deep) (a.rows_of ∙ sym b.rows_of)

pub removed_one : {p q r : List ℕ} {s : ℕ} → Removed p s q → Removed p s r → q ≡ r
removed_one {p} {q} {r} a b =
    unique q r a.page b.page (a.long ∙ sym b.long) (a.deep ∙ sym b.deep) (a.rows_of ∙ sym b.rows_of)

pub packed_one : {p q r : List ℕ} {n : ℕ} → PackedTo p n q → PackedTo p n r → q ≡ r
packed_one {p} {q} {r} {n} a b =
    let e : tab (row_at q) n ≡ tab (row_at r) n = tab_same (row_at q) (row_at r) n (λ i h. λ k. record {
      start = ((a.each i h).start ∙ sym (b.each i h).start) k;
      place = ((a.each i h).placed ∙ sym (b.each i h).placed) k;
      code = ((a.each i h).coded ∙ sym (b.each i h).coded) k;
    }) in
    unique q r a.page b.page (a.long ∙ sym b.long) (a.deep ∙ sym b.deep) (rw (a.counted, b.counted) e)

pub overwritten_one : {p pl q r : List ℕ} {s : ℕ} → Overwritten p s pl q → Overwritten p s pl r → q ≡ r
overwritten_one {p} {pl} {q} {r} a b =
    unique q r a.page b.page (a.long ∙ sym b.long) (a.deep ∙ sym b.deep) (a.rows_of ∙ sym b.rows_of)

pub added_one : {p c pl t q t₁ r t₂ : List ℕ} {s : ℕ} → Added p s c pl t q t₁ → Added p s c pl t r t₂ → (q ≡ r) × (t₁ ≡ t₂)
added_one {p} {c} {pl} {t} {q} {t₁} {r} {t₂} {s} a b = ⊎_elim
    (λ l.
    let x = a.tight l in
    let y = b.tight l in
    let e : x.0.0 ≡ y.0.0 = packed_one x.0.1 y.0.1 in
    (inserted_one x.0.2 (rw e y.0.2), x.1 ∙ sym y.1))
    (λ g. let x = a.roomy g in let y = b.roomy g in (inserted_one x.0 y.0, x.1 ∙ sym y.1))
    (side (length p) (frontier p + 4 * count p + (12 + length c)))

pub fresh_one : {p q r : List ℕ} {d : ℕ} → Fresh p d q → Fresh p d r → q ≡ r
unfolding tab
fresh_one {p} {q} {r} {d} a b =
    unique q r a.page b.page (a.long ∙ sym b.long) (a.deep ∙ sym b.deep) (rw (a.none, b.none) refl)

pub started_one : {p c pl q r : List ℕ} {d : ℕ} → Started p d c pl q → Started p d c pl r → q ≡ r
started_one {p} {c} {pl} {q} {r} {d} a b =
    unique q r a.page.rules b.page.rules (a.long ∙ sym b.long) (a.deep ∙ sym b.deep) (a.rows_of ∙ sym b.rows_of)

-- a code that stands at two slots, stands at one and belongs at another, or belongs at two
module _ (p c : List ℕ) (P : Slotted p) where
  not_later : (i j : ℕ) → j < count p → code p i ≡ c → code p j ≡ c → i < j → ⊥
  not_later i j h e f l = irrefl c (rw (e, f) at (P.ascending i j l h))

  not_both : (i j : ℕ) → i < count p → code p i ≡ c → Belongs p j c → ⊥
  not_both i j h e b = ⊎_elim (λ l. irrefl c (rw e at (b.left i l))) (λ g. irrefl c (rw e at (b.right i g h))) (side i j)

  not_after : (i j : ℕ) → Belongs p i c → Belongs p j c → i < j → ⊥
  not_after i j a b l = irrefl c (before_trans (a.right i (omega arith) (omega (arith, b.within))) (b.left i l))

  one_slot : (i j : ℕ) → (i < j → ⊥) → (j < i → ⊥) → i ≡ j
  one_slot i j a b = ⊎_elim (λ l. absurd (a l)) (λ g. ⊎_elim (λ l. absurd (b l)) (λ g₂. omega arith) (side j i)) (side i j)

  pub found_one : (a b : Result ℕ ℕ) → FoundIn p c a → FoundIn p c b → a ≡ b
  found_one (Ok i) (Ok j) x y = ap Ok (one_slot i j (not_later i j y.0 x.1 y.1) (not_later j i x.0 y.1 x.1))
  found_one (Ok i) (Err j) x y = absurd (not_both i j x.0 x.1 y)
  found_one (Err i) (Ok j) x y = absurd (not_both j i y.0 y.1 x)
  found_one (Err i) (Err j) x y = ap Err (one_slot i j (not_after i j x y) (not_after j i y x))

-- the largest record end
pub top_one : {p : List ℕ} {n r t : ℕ} → Top p n r → Top p n t → r ≡ t
top_one {p} {n} {r} {t} a b = ⊎_elim (λ l. absurd (lower b a l)) (λ g. ⊎_elim (λ l. absurd (lower a b l)) (λ h. omega arith) (side t r)) (side r t)
  where
    lower : {x y : ℕ} → Top p n x → Top p n y → y < x → ⊥
    lower {x} {y} u v l =
        let i : (i : ℕ) × (i < n) × (off p i + len p i ≡ x) = u.reached (omega (arith, v.least)) in
        omega (arith, i.2, v.most i.0 i.1)
