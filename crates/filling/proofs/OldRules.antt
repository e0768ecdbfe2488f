-- The old rules of a store without counts are the rules of the same store with true ones; any bytes meet them or break them at a page. Over any page size. Assumes nothing.
use mathlib.Core.Path.{◌≡◌, sym, ap, subst, ◌∙◌}
use mathlib.Core.List.{List, [], ◌∷◌}
use mathlib.Core.Logic.{◌⊎◌, inl, inr, ⊎_elim}
use Prim.Native.Nat.{ℕ, ◌+◌, ◌/◌, ◌%◌, ◌≤◌, ◌<◌}
use native.Mathlib.Decide.{map_dec, ℕ_discrete, dec_le}
use native.Mathlib.Nat.{le_trans, div-add-mod'}
use native.Mathlib.Omega.{arith}
use lib.ListN.{length}
use Rattle.ground.specs.Lists.{byte}
use Rattle.ground.proofs.Sides.{side}
use Rattle.words.specs.Le.{le32}
use Rattle.words.specs.Moves.{Frame}
use Rattle.words.proofs.Bytes.{le32_below}
use Rattle.partition.specs.declared.Shape.{Shape}
use Rattle.store.specs.Pages.{size, pages, page}
use Rattle.store.specs.Accepted.{GoodLength, Page0From, Page0, Stands, unused, used, rule, rules, rules_before, Accepted, Broken, AcceptedBefore, BrokenBefore}
use Rattle.store.specs.Counts.{Counts}
use Rattle.store.specs.Demands.{Sized, StopsAt, page_0, page_1, first_pass, second_pass, depth_0, counts}
use Rattle.store.proofs.Accepted.Rules.{stops_one, stops_not, opened, broken_stops, at_0, at_1, at_first, at_second, at_depth, all_in_turn, all_stand}
use Rattle.store.proofs.Result.Decided.{accepted_or_broken}
use Rattle.store.proofs.Result.Decisions.{all, implies}
use Rattle.directory.specs.Directory.{SoundPage, free, used as sound, Settling}
use Rattle.filling.specs.Filling.{NoCounts}
use Rattle.filling.proofs.Alike.{Like, Alike, but_counts, stops_to, stops_from, every_to, every_from, turn_like}

-- a good length stays one
pub long_still : (S : Shape) (s t : List ℕ) → length t ≡ length s → GoodLength S s → GoodLength S t
long_still S s t e g = record {
  whole = ap (λ n. n % size S) e ∙ g.whole;
  least = subst (λ n. 3 ≤ n / size S) (sym e) g.least;
  most = subst (λ n. n / size S ≤ S.entries + 2) (sym e) g.most;
}

-- ---- a store s without counts, and t with true ones

module _ (S : Shape) (h : List ℕ → ℕ) (sized : Sized S) (s t : List ℕ) (F : Frame s 24 56 t) (zeros : NoCounts s) (C : Counts S t) where
  E : Alike S s t
  E = but_counts S sized s t F

  word : (k : ℕ) → k + 4 ≤ 24 → le32 t k ≡ le32 s k
  word k l = le32_below k F l

  page0_to : Page0From 24 S s → Page0 S t
  page0_to P = record {
    number = word 0 (omega arith) ∙ P.number ∙ sym E.many;
    directory = word 4 (omega arith) ∙ P.directory;
    entries = word 8 (omega arith) ∙ P.entries;
    first = word 12 (omega arith) ∙ P.first;
    depth = subst (λ d. d ≤ S.deepest) (sym E.deep) P.depth;
    size_number = word 20 (omega arith) ∙ P.size_number;
    rest = λ k a b. F.above k a ∙ P.rest k (omega arith) b;
  }

  page0_from : Page0 S t → Page0From 24 S s
  page0_from P = record {
    number = sym (word 0 (omega arith)) ∙ P.number ∙ E.many;
    directory = sym (word 4 (omega arith)) ∙ P.directory;
    entries = sym (word 8 (omega arith)) ∙ P.entries;
    first = sym (word 12 (omega arith)) ∙ P.first;
    depth = subst (λ d. d ≤ S.deepest) E.deep P.depth;
    size_number = sym (word 20 (omega arith)) ∙ P.size_number;
    rest = λ k a b. ⊎_elim (λ l. zeros k a l) (λ g. sym (F.above k g) ∙ P.rest k g b) (side k 80);
  }

  like : Like (rules_before S h s) (rules S h t)
  unfolding rules_before rules
  like = turn_like S h s t E (Page0From 24 S s) (Page0 S t) page0_to page0_from (rule 0 (Counts S t) ∷ []) (C, tt)

  pub accepted_then : AcceptedBefore S h s → Accepted S h t
  accepted_then a = record { long = long_still S s t F.len a.long; keeps = every_to (rules_before S h s) (rules S h t) like a.keeps }

  pub accepted_before : Accepted S h t → AcceptedBefore S h s
  accepted_before a = record { long = long_still S t s (sym F.len) a.long; keeps = every_from (rules_before S h s) (rules S h t) like a.keeps }

  pub broken_then : (p : ℕ) → BrokenBefore S h s p → Broken S h t p
  unfolding Broken BrokenBefore
  broken_then p b = stops_to (rules_before S h s) (rules S h t) p like b

  pub broken_before : (p : ℕ) → Broken S h t p → BrokenBefore S h s p
  unfolding Broken BrokenBefore
  broken_before p b = stops_from (rules_before S h s) (rules S h t) p like b

-- ---- the page that the old rules name: one, or none

-- a page of the store that breaks them first
abbrev pub BrokenPage : Shape → (List ℕ → ℕ) → List ℕ → Type 0
BrokenPage S h s = (p : ℕ) × ((p < pages S s) × BrokenBefore S h s p)

module _ (S : Shape) (h : List ℕ → ℕ) (s : List ℕ) where
  pub before_one : (p q : ℕ) → BrokenBefore S h s p → BrokenBefore S h s q → p ≡ q
  unfolding BrokenBefore
  before_one p q a b = stops_one (rules_before S h s) p q a b

  pub before_whole : AcceptedBefore S h s → (p : ℕ) → BrokenBefore S h s p → ⊥
  unfolding BrokenBefore
  before_whole a p b = stops_not (rules_before S h s) p a.keeps b

  -- a store that meets the old rules has no counts
  pub no_counts : Sized S → AcceptedBefore S h s → NoCounts s
  unfolding rules_before
  no_counts sized a k l m = a.keeps.0.rest k l (omega (arith, sized.least))

  -- counts break them on page 0
  pub broken_zero : Sized S → (NoCounts s → ⊥) → BrokenBefore S h s 0
  unfolding BrokenBefore rules_before
  broken_zero sized n = at_0 S h s (Page0From 24 S s) (λ P. n (λ k l m. P.rest k l (omega (arith, sized.least))))

  counts_or_not : Dec (NoCounts s)
  counts_or_not = map_dec (λ f k l m. f k m l) (λ f k m l. f k l m) (all 80 (λ k. 24 ≤ k → byte s k ≡ 0) (λ k m. implies (dec_le 24 k) (ℕ_discrete (byte s k) 0)))

  module _ (sized : Sized S) (zeros : NoCounts s) (good : GoodLength S s) where
    abbrev P : Type 0
    P = Page0From 24 S s

    low : Page0 S s → P
    low z = record {
      number = z.number;
      directory = z.directory;
      entries = z.entries;
      first = z.first;
      depth = z.depth;
      size_number = z.size_number;
      rest = λ k a b. ⊎_elim (λ l. zeros k a l) (λ g. z.rest k g b) (side k 80);
    }

    high : P → Page0 S s
    high z = record {
      number = z.number;
      directory = z.directory;
      entries = z.entries;
      first = z.first;
      depth = z.depth;
      size_number = z.size_number;
      rest = λ k a b. z.rest k (omega arith) b;
    }

    -- where the check stops at its counts, the old rules hold
    stopped : {p : ℕ} → StopsAt S h s p → AcceptedBefore S h s ⊎ BrokenPage S h s
    unfolding BrokenBefore rules_before
    stopped (page_0 n) = inr (0, (omega (arith, good.least), at_0 S h s P (λ z. n (high z))))
    stopped (page_1 z n) = inr (1, (omega (arith, good.least), at_1 S h s P (low z) n))
    stopped (first_pass z f p a b g n) = inr (p, (b, at_first S h s P (low z) f p a b g n))
    stopped (second_pass z f e p a b g n) = inr (p, (b, at_second S h s P (low z) f e p a b g n))
    stopped (depth_0 z f e g n) = inr (0, (omega (arith, good.least), at_depth S h s P (low z) f e g n))
    stopped (counts z f e g d n) = inl (record { long = good; keeps = all_in_turn S h s P (low z) f e g d })

    whole : Accepted S h s → AcceptedBefore S h s
    unfolding rules_before
    whole a = let o = opened S h s a in record { long = good; keeps = all_in_turn S h s P (low o.page0) o.page1 o.stands o.parted o.deepest }

  -- ANY BYTES OF A GOOD LENGTH MEET THE OLD RULES OR BREAK THEM AT A PAGE
  pub before_or_broken : Sized S → GoodLength S s → AcceptedBefore S h s ⊎ BrokenPage S h s
  before_or_broken sized good = go counts_or_not
    where
      go : Dec (NoCounts s) → AcceptedBefore S h s ⊎ BrokenPage S h s
      go (no n) = inr (0, (omega (arith, good.least), broken_zero sized n))
      go (yes z) = ⊎_elim (λ a. inl (whole sized z good a)) (λ b. stopped sized z good (broken_stops S h s b.0 b.1)) (accepted_or_broken S h s good)

-- the page that they name is one of the store
pub before_below : (S : Shape) (h : List ℕ → ℕ) (s : List ℕ) → Sized S → GoodLength S s → (p : ℕ) → BrokenBefore S h s p → p < pages S s
before_below S h s sized good p b = ⊎_elim (λ a. absurd (before_whole S h s a p b)) (λ w. omega (arith, before_one S h s p w.0 b w.1.1, w.1.0)) (before_or_broken S h s sized good)

-- each page of a store that meets the old rules is sound
pub before_settling : (S : Shape) (h : List ℕ → ℕ) (s : List ℕ) → AcceptedBefore S h s → Settling S s (pages S s)
unfolding rules_before
before_settling S h s a = record {
  long = omega (arith, div-add-mod' (length s) (size S), a.long.whole);
  least = a.long.least;
  most = a.long.most;
  pages = λ p x y. go p (all_stand S h s (Page0From 24 S s) a.keeps p x y);
}
  where
    go : (p : ℕ) → Stands S h s p → SoundPage S (page S s p)
    go p (unused z _) = free z
    go p (used b l _) = sound b.rules (le_trans l a.keeps.0.depth)
