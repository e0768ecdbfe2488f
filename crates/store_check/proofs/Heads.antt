-- Pages 0 and 1: what their tests say of their rules. Assumes nothing.
use mathlib.Core.Path.{◌≡◌, refl, sym, ap, subst, ◌∙◌}
use mathlib.Core.List.{List}
use mathlib.Core.Logic.{inl, inr, ⊎_elim}
use Prim.Native.Nat.{ℕ, ◌+◌, ◌-◌, ◌*◌, ◌/◌, ◌^◌, ◌≤◌, ◌<◌}
use native.Mathlib.Omega.{arith}
use native.Mathlib.Nat.{div-add-mod'}
use lib.ListN.{length, get_or, take, drop}
use Rattle.ground.specs.Lists.{byte}
use Rattle.ground.proofs.Sides.{side, same}
use Rattle.words.specs.Le.{le16, le32}
use Rattle.words.specs.Zeros.{Zero}
use Rattle.page_check.proofs.Lent.{lent_zero, zero_lent}
use Rattle.partition.specs.declared.Shape.{Shape}
use Rattle.store.specs.Demands.{Sized}
use Rattle.store.specs.Pages.{size, pages, dir_depth, entry_at}
use Rattle.hash.specs.Fnv.{fnv}
use Rattle.store.specs.Accepted.{GoodLength, Page0From, Page1, Stands}
use Rattle.store_check.specs.Directory.{Entries, EntriesTo, AllAre, AllBelow, EntriesInRange, Ranges}
use Rattle.store_check.specs.Begun.{Begun, AllStand}

-- a number of four bytes is 0 exactly where they are
four_zeros : (s : List ℕ) (a : ℕ) → le32 s a ≡ 0 → (k : ℕ) → a ≤ k → k < a + 4 → byte s k ≡ 0
unfolding le32 le16
four_zeros s a z k lo hi =
    ⊎_elim (λ e. let q : byte s k ≡ byte s a = ap (byte s) e in omega arith)
    (λ n. ⊎_elim (λ e. let q : byte s k ≡ byte s (a + 1) = ap (byte s) e in omega arith)
    (λ m. ⊎_elim (λ e. let q : byte s k ≡ byte s (a + 2) = ap (byte s) e in omega arith)
    (λ l. let e : k ≡ a + 2 + 1 = omega (arith, n, m, l) in let q : byte s k ≡ byte s (a + 2 + 1) = ap (byte s) e in omega arith)
    (same k (a + 2))) (same k (a + 1))) (same k a)

zeros_four : (s : List ℕ) (a : ℕ) → ((k : ℕ) → a ≤ k → k < a + 4 → byte s k ≡ 0) → le32 s a ≡ 0
unfolding le32 le16
zeros_four s a z = omega (arith, z a (omega arith) (omega arith), z (a + 1) (omega arith) (omega arith), z (a + 2) (omega arith) (omega arith), z (a + 2 + 1) (omega arith) (omega arith))

-- the entries behind the first m are zero exactly where their bytes are
module _ (S : Shape) (s : List ℕ) (m : ℕ) (sized : Sized S) (few : m ≤ S.entries) (long : 2 * size S ≤ length s) where
  abbrev Behind : Type 0
  Behind = (i : ℕ) → i < S.entries → m ≤ i → entry_at S s i ≡ 0

  pub bytes_behind : Zero (take (2 * size S - (size S + 4 * m)) (drop (size S + 4 * m) s)) → Behind
  bytes_behind z i l h = zeros_four s (size S + 4 * i) (λ k lo hi. lent_zero s (size S + 4 * m) (2 * size S) (omega (arith, sized.whole)) long z k (omega arith) (omega (arith, sized.whole)))

  pub behind_bytes : Behind → Zero (take (2 * size S - (size S + 4 * m)) (drop (size S + 4 * m) s))
  behind_bytes z = zero_lent s (size S + 4 * m) (2 * size S) (omega (arith, sized.whole)) long (λ k lo hi.
      let i : ℕ = (k - size S) / 4 in
      four_zeros s (size S + 4 * i) (z i (omega (arith, sized.whole)) (omega arith)) k (omega arith) (omega arith))

  pub entries_all : (dir : List ℕ) → EntriesTo S s dir m → Behind → Entries S s dir
  entries_all dir e z = record { long = e.long; entry = λ i l. ⊎_elim (λ lt. e.entry i lt) (λ ge. e.beyond i ge ∙ sym (z i l ge)) (side i m) }

  pub ranges_all : (dir : List ℕ) (n : ℕ) → 1 ≤ n → EntriesTo S s dir m → EntriesInRange dir n m → Ranges dir n m
  ranges_all dir n l e r = record {
    not_one = λ i a b q. ⊎_elim (λ lt. r.not_one i a lt q) (λ ge. omega (arith, e.beyond i ge, q)) (side i m);
    below = λ i a b. ⊎_elim (λ lt. r.below i a lt) (λ ge. omega (arith, e.beyond i ge)) (side i m);
    beyond = λ i a b. e.beyond i a;
  }

pub ranges_some : (dir : List ℕ) (n m : ℕ) → m ≤ length dir → Ranges dir n m → EntriesInRange dir n m
ranges_some dir n m l r = record { not_one = λ i a b. r.not_one i a (omega arith); below = λ i a b. r.below i a (omega arith) }

-- page 1, by its entries
module _ (S : Shape) (s dir : List ℕ) (n m : ℕ) (decoded : Entries S s dir) (number : n ≡ pages S s) (more : 3 ≤ n) (power : m ≡ 2 ^ dir_depth s) where
  low : (i : ℕ) → i < length dir → i < S.entries
  low i l = subst (λ m. i < m) decoded.long l

  high : (i : ℕ) → i < S.entries → i < length dir
  high i l = subst (λ m. i < m) (sym decoded.long) l

  pub to_page1 : Ranges dir n m → Page1 S s
  to_page1 r = record {
    range = λ i l.
        let e : get_or dir i 0 ≡ entry_at S s i = decoded.entry i l in
        ⊎_elim (λ z. inl z) (λ nz. inr (omega (arith, nz, r.not_one i (omega arith) (high i l), r.below i (omega arith) (high i l)), omega (arith, r.below i (omega arith) (high i l))))
        (same (entry_at S s i) 0);
    beyond = λ i l h. sym (decoded.entry i l) ∙ r.beyond i (omega arith) (high i l);
  }

  pub of_page1 : Page1 S s → Ranges dir n m
  of_page1 r = record {
    not_one = λ i _ l q. ⊎_elim (λ z. omega (arith, decoded.entry i (low i l))) (λ b. omega (arith, decoded.entry i (low i l), b.0)) (r.range i (low i l));
    below = λ i _ l. ⊎_elim (λ z. omega (arith, decoded.entry i (low i l))) (λ b. omega (arith, decoded.entry i (low i l), b.1)) (r.range i (low i l));
    beyond = λ i h l. decoded.entry i (low i l) ∙ r.beyond i (low i l) (omega arith);
  }

-- what the passes over the pages start from
module _ (zeros : ℕ) (S : Shape) (sized : Sized S) (s : List ℕ) (good : GoodLength S s) (zeroth : Page0From zeros S s) where
  pub whole_long : length s ≡ pages S s * size S
  whole_long = omega (arith, div-add-mod' (length s) (size S), good.whole)

  pub begun : (dir : List ℕ) (d : ℕ) → d ≡ dir_depth s → Entries S s dir → AllBelow dir 0 (length dir) (pages S s) → AllAre dir (2 ^ d) (length dir) 0 → Begun S s dir (pages S s) d
  begun dir d e decoded b z = record {
    sized = sized;
    long = whole_long;
    number = refl;
    least = good.least;
    most = good.most;
    depth = e;
    deep = omega (arith, zeroth.depth);
    entries = decoded;
    below = b;
    beyond = z;
  }

  pub standing : ((p : ℕ) → 2 ≤ p → p < pages S s → Stands S fnv s p) → AllStand S s (pages S s)
  standing f = record { sized = sized; long = whole_long; number = refl; least = good.least; most = good.most; deep = zeroth.depth; each = f }
