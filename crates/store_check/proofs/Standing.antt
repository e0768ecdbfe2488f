-- Whether a page stands, from the tests of pass 1. Assumes nothing.
use mathlib.Core.Path.{◌≡◌, sym, subst, ◌∙◌}
use mathlib.Core.List.{List}
use mathlib.Core.Logic.{◌↔◌}
use Prim.Native.Nat.{ℕ, ◌+◌, ◌^◌, ◌≤◌, ◌<◌}
use native.Mathlib.Omega.{arith}
use lib.ListN.{length}
use Rattle.ground.specs.Lists.{byte}
use Rattle.hash.specs.Fnv.{fnv}
use Rattle.page.specs.Page.{depth, count, code}
use Rattle.partition.specs.Bits.{top}
use Rattle.partition.specs.declared.Shape.{Shape}
use Rattle.store.specs.Pages.{page, dir_depth, entry_at}
use Rattle.store.specs.Accepted.{Bucket, Calls, Stands, unused, used}
use Rattle.store_check.specs.Directory.{NamesCounted, Named}
use Rattle.words.specs.Zeros.{Zero}
use Rattle.std.specs.Prelude.{Some}
use Rattle.store_check.specs.First.{FirstBad}
use Rattle.store_check.specs.Begun.{Begun, FreeAndUnnamed, Own}
use Rattle.store_check.proofs.Naming.{room, unnamed, none_named}

-- the prefix of a bucket, by its first code
abbrev pub prefix_of : List ℕ → ℕ
prefix_of g = top (depth g) (fnv (code g 0))

-- slot i has the prefix of slot 0
abbrev pub Like : List ℕ → ℕ → Type 0
Like g i = top (depth g) (fnv (code g 0)) ≡ top (depth g) (fnv (code g i))

module _ (S : Shape) (s dir counts : List ℕ) (n d p : ℕ) (B : Begun S s dir n d) (C : NamesCounted dir (2 ^ d) (S.entries + 2) counts) (from : 2 ≤ p) (to : p < n) where
  low : (i : ℕ) → i < length dir → i < S.entries
  low i l = subst (λ m. i < m) B.entries.long l

  high : (i : ℕ) → i < S.entries → i < length dir
  high i l = subst (λ m. i < m) (sym B.entries.long) l

  last : p < S.entries + 2
  last = omega (arith, B.most)

  fits : 2 ^ d ≤ length dir
  fits = omega (arith, room S B.sized d B.deep, B.entries.long)

  free_of : byte (page S s p) 0 ≡ 0 → Stands S fnv s p → FreeAndUnnamed (page S s p) counts p
  free_of z (unused a u) = record { zero = a; unnamed = none_named dir d p from B.beyond (S.entries + 2) counts C last fits (λ i _ l e. u i (low i l) (sym (B.entries.entry i (low i l)) ∙ e)) }
  free_of z (used b _ _) = absurd (omega (arith, b.rules.rules.one))

  module _ (nz : byte (page S s p) 0 ≡ 0 → ⊥) where
    own_of : Stands S fnv s p → Own (page S s p) d
    own_of (unused a u) = absurd (nz (a 0))
    own_of (used b k _) = record { rules = b.rules; folded = b.folded; deep = omega (arith, k, B.depth) }

    like_of : Stands S fnv s p → (i : ℕ) → i < count (page S s p) → Like (page S s p) i
    like_of (unused a u) i l = absurd (nz (a 0))
    like_of (used b k _) i l = b.share 0 i b.rules.some l

    named_of : Stands S fnv s p → Named dir d (depth (page S s p)) (prefix_of (page S s p)) p
    named_of (unused a u) i l = absurd (nz (a 0))
    named_of (used b k names) i l =
        let y = names i (low i l) in (
          (λ e. subst (λ k. Calls k (depth (page S s p)) (prefix_of (page S s p)) i) (sym B.depth) (y.0 (sym (B.entries.entry i (low i l)) ∙ e))),
          (λ c. B.entries.entry i (low i l) ∙ y.1 (subst (λ k. Calls k (depth (page S s p)) (prefix_of (page S s p)) i) B.depth c)),
        )

  -- g is page p, as it was lent
  module _ (g : List ℕ) (e : g ≡ page S s p) where
    pub free_stands : FreeAndUnnamed g counts p → Stands S fnv s p
    free_stands f = unused (subst Zero e f.zero)
        (λ i l q. unnamed dir d p from B.beyond (S.entries + 2) counts C last fits f.unnamed i (omega arith) (high i l) (B.entries.entry i l ∙ q))

    pub used_stands : Own g d → ((i : ℕ) → i < count g → Like g i) → Named dir d (depth g) (prefix_of g) p → Stands S fnv s p
    used_stands o like names = used
        (subst (Bucket fnv) e (record { rules = o.rules; folded = o.folded; share = λ i j l m. sym (like i l) ∙ like j m }))
        (subst (λ x. depth x ≤ dir_depth s) e (omega (arith, o.deep, B.depth)))
        (λ i l. subst (λ x. (entry_at S s i ≡ p) ↔ Calls (dir_depth s) (depth x) (prefix_of x) i) e (
          (λ q. subst (λ k. Calls k (depth g) (prefix_of g) i) B.depth ((names i (high i l)).0 (B.entries.entry i l ∙ q))),
          (λ c. sym (B.entries.entry i l) ∙ (names i (high i l)).1 (subst (λ k. Calls k (depth g) (prefix_of g) i) (sym B.depth) c)),
        ))

    -- a page that stands and whose byte 0 is 0 is free, any other a bucket
    pub stands_free : byte g 0 ≡ 0 → Stands S fnv s p → FreeAndUnnamed g counts p
    stands_free z st = subst (λ x. FreeAndUnnamed x counts p) (sym e) (free_of (subst (λ x. byte x 0 ≡ 0) e z) st)

    module _ (nz : byte g 0 ≡ 0 → ⊥) where
      pub stands_own : Stands S fnv s p → Own g d
      stands_own st = subst (λ x. Own x d) (sym e) (own_of (subst (λ x. byte x 0 ≡ 0 → ⊥) e nz) st)

      pub stands_like : Stands S fnv s p → (i : ℕ) → i < count g → Like g i
      stands_like st = subst (λ x. (i : ℕ) → i < count x → Like x i) (sym e) (like_of (subst (λ x. byte x 0 ≡ 0 → ⊥) e nz) st)

      pub stands_named : Stands S fnv s p → Named dir d (depth g) (prefix_of g) p
      stands_named st = subst (λ x. Named dir d (depth x) (prefix_of x) p) (sym e) (named_of (subst (λ x. byte x 0 ≡ 0 → ⊥) e nz) st)

-- the first bad page, where page p is the first not passed
module _ (n : ℕ) (P : ℕ → Type 0) where
  pub ends_bad : (p : ℕ) → 2 ≤ p → p < n → ((q : ℕ) → q < p → 2 ≤ q → P q) → (P p → ⊥) → FirstBad n P (Some p)
  ends_bad p a b before bad = (b, record { within = omega arith; start = a; before = before; bad = λ _. bad })
