-- What the pass over the slots has shown of the first of them. Assumes nothing.
use Prim.Native.Nat.{ℕ, ◌+◌, ◌*◌, ◌-◌, ◌/◌, ◌%◌, ◌≤◌, ◌<◌}
use Rattle.std.specs.Prelude.{Option, Some, None}
use mathlib.Core.Path.{◌≡◌, refl, sym, ap, ◌∙◌}
use mathlib.Core.List.{List, [], ◌∷◌}
use native.Mathlib.Omega.{arith}
use native.Mathlib.Numerals.{add-one}
use borrow.Author.Count.{below_more}
use lib.ListN.{length, set}
use Rattle.ground.specs.Lists.{part, total}
use Rattle.ground.proofs.Parts.{length_part}
use Rattle.words.specs.Codes.{Before, order}
use Rattle.words.specs.Le.{le32}
use Rattle.words.specs.Zeros.{Zero}
use Rattle.page.proofs.Sums.{total_more}
use Rattle.page.specs.Page.{off, len, word, code, count, frontier, free, slot_need, slot_at}
use Rattle.page_check.specs.Rules.{WordOk, SlotsOk, Preceded, Codes, prior, off_of, len_of, slot_of}
use Rattle.page_check.specs.Leads.{Led}
use Rattle.page_check.specs.Table.{Table, NextOk, NextTold}
use Rattle.page_check.proofs.Table.{table_none, table_more}

-- a code comes after no code
pub after_none : (c : List ℕ) → 1 ≤ length c → Before [] c
unfolding order
after_none [] h = absurd (omega arith)
after_none (x ∷ c) h = record { less = refl }

-- of the first n slots each keeps its rules, they are in code order, and the table is theirs
pub record Swept (p : List ℕ) (n f : ℕ) (t : List ℕ) : Type 0 where
  pub words : (i : ℕ) → i < n → WordOk f (word p i)
  pub ascending : (i : ℕ) → i < n → Before (prior p i) (code p i)
  pub table : Table p n f t

pub swept_none : (p t : List ℕ) (f : ℕ) → Zero t → Swept p 0 f t
swept_none p t f z = record { words = λ i h. absurd (omega arith); ascending = λ i h. absurd (omega arith); table = table_none p t f z }

-- the word of slot i
pub word_is : (p : List ℕ) (i w : ℕ) → w ≡ le32 p (slot_at p i) → w ≡ word p i
unfolding word
word_is p i w e = e

module _ (p t : List ℕ) (f j : ℕ) (s : Swept p j f t) where
  pub swept_more : (q : List ℕ) → f ≤ length t → NextOk p f j (word p j) → q ≡ set t (off_of (word p j)) (len_of (word p j)) → Swept p (j + 1) f q
  unfolding off len code
  swept_more q h n e = record {
    words = below_more (λ i. WordOk f (word p i)) j s.words n.sound;
    ascending = below_more (λ i. Before (prior p i) (code p i)) j s.ascending n.rises;
    table = table_more p t j f s.table q n.sound.short n.sound.inside h e;
  }

  -- where the slots keep their rules, so does the next
  pub next_of : f ≡ frontier p → j < count p → SlotsOk p → NextOk p f j (word p j)
  unfolding off len code
  next_of e h l = record {
    sound = rw e (l.words j h);
    rises = l.ascending j h;
  }

  -- the records before slot j lie in the page
  pub preceded : (k : ℕ) → 8 ≤ k → k + 4 * (j + 1) ≡ length p → f ≤ length p → Preceded p k
  unfolding off len
  preceded k g e h =
      let n : slot_of p k ≡ j = omega arith in
      record {
        start = g;
        at = omega arith;
        long = λ i l. omega (arith, (s.words i (omega arith)).short);
        inside = λ i l. omega (arith, (s.words i (omega arith)).inside);
      }

-- the code that the next slot's comes after, and what tells of it
pub led_more : (p : List ℕ) (j w lead : ℕ) → w ≡ word p j → Led p (part p (off_of w + 8) (len_of w - 8)) lead → Led p (prior p (j + 1)) lead
unfolding off len code
led_more p j w lead e l x y s h o = rw (add-one, ap (λ v. part p (off_of v + 8) (len_of v - 8)) (sym e)) (l x y s h o)

-- before the first there is none, which comes before every code
pub led_none : (p : List ℕ) → Led p (prior p 0) 0
led_none p x y s h o = after_none (part p x (y - x)) (omega (arith, length_part p x (y - x) (omega (arith, s)), h))

-- a slot's word that keeps its rules in the whole page keeps them before the frontier, where its record ends there
pub told_within : (p : List ℕ) (f i w : ℕ) → f ≤ length p → w % 16384 + w / 16384 ≤ f + 16384 → (r : Option ℕ) → NextTold p (length p) i w r → NextTold p f i w r
told_within p f i w a b None t = λ n. t (record { sound = record { kind_one = n.sound.kind_one; short = n.sound.short; long = n.sound.long; inside = omega (arith, n.sound.inside, a) }; rises = n.rises })
told_within p f i w a b (Some r) t = (record { sound = record { kind_one = t.0.sound.kind_one; short = t.0.sound.short; long = t.0.sound.long; inside = omega (arith, b, t.0.sound.kind_one) }; rises = t.0.rises }, t.1)

-- the code before the slot at k
pub before_none : (p : List ℕ) (k : ℕ) → Preceded p k → length p ≤ k + 4 → Codes p 131072 (prior p (slot_of p k))
unfolding part
before_none p k s h =
    let e : slot_of p k ≡ 0 = omega (arith, s.at) in
    record { long = omega arith; inside = omega (arith, s.start, s.at); is = rw e refl }

pub before_some : (p : List ℕ) (k w : ℕ) → Preceded p k → k + 4 < length p → w ≡ le32 p (k + 4) → Codes p w (prior p (slot_of p k))
unfolding word off len code
before_some p k w s h e =
    let j = slot_of p k - 1 in
    let a : k + 4 ≡ slot_at p j = omega (arith, s.at) in
    let g : slot_of p k ≡ j + 1 = omega (arith, s.at) in
    let x : w ≡ word p j = e ∙ ap (le32 p) a in
    record {
      long = rw x (s.long j (omega arith));
      inside = rw x (s.inside j (omega arith));
      is = rw (g, add-one, x) refl;
    }

-- the needs of one slot more
pub needs_more : (p : List ℕ) (j w : ℕ) → w ≡ word p j → total (slot_need p) (j + 1) ≡ total (slot_need p) j + 4 + len_of w
unfolding len
needs_more p j w e = rw e (omega (arith, total_more (slot_need p) j))

pub slots_all : (p t : List ℕ) (f : ℕ) → f ≡ frontier p → Swept p (count p) f t → free p + total (slot_need p) (count p) ≡ length p - 8 → SlotsOk p
slots_all p t f e s u = record { words = rw e at s.words; ascending = s.ascending; unused = u }
