-- The tests together are the rules. Assumes nothing.
use Prim.Native.Nat.{ℕ, zero, suc, ◌+◌, ◌*◌, ◌-◌, ◌≤◌, ◌<◌}
use mathlib.Core.Path.{◌≡◌, refl}
use mathlib.Core.Logic.{⊎_elim, ◌↔◌}
use mathlib.Core.List.{List}
use native.Mathlib.Omega.{arith}
use lib.Bits.{bit_or}
use lib.ListN.{length}
use Rattle.ground.specs.Lists.{byte}
use Rattle.ground.proofs.Sides.{side}
use Rattle.ground.proofs.Parts.{byte_part, length_part}
use Rattle.words.specs.Codes.{Before}
use Rattle.words.proofs.Orders.{before_trans}
use Rattle.words.specs.Zeros.{ZeroFrom}
use Rattle.words.proofs.Zeros.{or_zero, zero_or}
use Rattle.page.proofs.Sums.{len_of_code}
use Rattle.page.specs.Page.{BucketPage, Natural, off, len, kind, word, place, code, count, frontier}
use Rattle.page_check.specs.Rules.{HeadOk, NaturalAt, WordOk, SlotsOk, prior}
use Rattle.page_check.specs.Table.{Laid}
use Rattle.page_check.proofs.Sweep.{after_none}

natural_to : (p : List ℕ) (i : ℕ) → off p i + 8 ≤ length p → NaturalAt p (off p i) → Natural (place p i)
unfolding place
natural_to p i h a = record {
  long = length_part p (off p i) 8 h;
  page = rw (byte_part p (off p i) 8 3 (omega arith)) a.page;
  slot = rw (byte_part p (off p i) 8 5 (omega arith)) a.slot;
  volume = rw (byte_part p (off p i) 8 7 (omega arith)) a.volume;
}

natural_from : (p : List ℕ) (i : ℕ) → Natural (place p i) → NaturalAt p (off p i)
unfolding place
natural_from p i a = record {
  page = rw (byte_part p (off p i) 8 3 (omega arith)) at a.page;
  slot = rw (byte_part p (off p i) 8 5 (omega arith)) at a.slot;
  volume = rw (byte_part p (off p i) 8 7 (omega arith)) at a.volume;
}

-- slot i in the page's terms
record Slot (p : List ℕ) (i : ℕ) : Type 0 where
  pub kind_one : kind p i ≡ 1
  pub short : 9 ≤ len p i
  pub long : len p i ≤ 72
  pub inside : off p i + len p i ≤ frontier p

slot_of : (p : List ℕ) (i : ℕ) → WordOk (frontier p) (word p i) → Slot p i
unfolding off len kind
slot_of p i w = record { kind_one = w.kind_one; short = w.short; long = w.long; inside = w.inside }

word_of : (p : List ℕ) (i : ℕ) → Slot p i → WordOk (frontier p) (word p i)
unfolding off len kind
word_of p i w = record { kind_one = w.kind_one; short = w.short; long = w.long; inside = w.inside }

-- steps up add up
ascending_of : (p : List ℕ) (n : ℕ) → ((i : ℕ) → i < n → Before (prior p i) (code p i)) → (i j : ℕ) → i < j → j < n → Before (code p i) (code p j)
ascending_of p n up i j l m = let e : i + suc (j - suc i) ≡ j = omega arith in rw e at (go (j - suc i) (omega arith))
  where
    go : (d : ℕ) → i + suc d < n → Before (code p i) (code p (i + suc d))
    go zero h = let e : i + suc zero ≡ suc i = omega arith in rw e (up (suc i) (omega arith))
    go (suc d) h = let e : i + suc (suc d) ≡ suc (i + suc d) = omega arith in rw e (before_trans (go d (omega arith)) (up (suc (i + suc d)) (omega arith)))

-- what the rules ask of the header and of the slots
pub head_of : (p : List ℕ) → BucketPage p → HeadOk p
head_of p b = record {
  least = b.rules.least;
  most = b.rules.most;
  one = b.rules.one;
  some = b.some;
  start = omega (arith, b.rules.after 0 b.some, b.rules.short 0 b.some, b.rules.inside 0 b.some);
  room = b.rules.room;
}

pub slots_of : (p : List ℕ) → BucketPage p → SlotsOk p
slots_of p b = record {
  words = λ i h. word_of p i (slot i h);
  ascending = climbs;
  unused = b.rules.unused;
}
  where
    slot : (i : ℕ) → i < count p → Slot p i
    slot i h = record {
      kind_one = b.rules.kinds i h;
      short = b.rules.short i h;
      long = b.rules.long i h;
      inside = b.rules.inside i h;
    }

    climbs : (i : ℕ) → i < count p → Before (prior p i) (code p i)
    climbs zero h = after_none (code p 0) (omega (arith, len_of_code p 0 b.rules h, b.rules.short 0 h))
    climbs (suc i) h = b.rules.ascending i (suc i) (omega arith) h

-- acc is zero exactly when the i bytes from a on and those from b on are
pub record BothGathered (p : List ℕ) (a b i acc : ℕ) : Type 0 where
  pub so : acc ≡ 0 → ZeroFrom p a (a + i) × ZeroFrom p b (b + i)
  pub back : ZeroFrom p a (a + i) → ZeroFrom p b (b + i) → acc ≡ 0

pub both_none : (p : List ℕ) (a b : ℕ) → BothGathered p a b 0 0
both_none p a b = record { so = λ _. ((λ k l h. absurd (omega arith)), (λ k l h. absurd (omega arith))); back = λ _ _. refl }

-- n bytes more in each, which x and y tell
pub both_more : (p : List ℕ) (a b i n acc x y : ℕ) → BothGathered p a b i acc → (x ≡ 0) ↔ ZeroFrom p (a + i) (a + i + n) → (y ≡ 0) ↔ ZeroFrom p (b + i) (b + i + n) → BothGathered p a b (i + n) (bit_or (bit_or acc x) y)
both_more p a b i n acc x y g u v = record {
  so = λ e.
      let q = or_zero (bit_or acc x) y e in
      let r = or_zero acc x q.0 in
      let z = g.so r.0 in
      (more a z.0 (u.0 r.1), more b z.1 (v.0 q.1));
  back = λ f o. zero_or (bit_or acc x) y
      (zero_or acc x (g.back (λ k l h. f k l (omega arith)) (λ k l h. o k l (omega arith))) (u.1 (λ k l h. f k (omega arith) (omega arith))))
      (v.1 (λ k l h. o k (omega arith) (omega arith)));
}
  where
    more : (x : ℕ) → ZeroFrom p x (x + i) → ZeroFrom p (x + i) (x + i + n) → ZeroFrom p x (x + (i + n))
    more x z e k l h = ⊎_elim (λ lt. z k l lt) (λ ge. e k ge (omega arith)) (side k (x + i))

-- what is known of a page p once its header and its slots are: n its rows, f its frontier
pub record Known (p : List ℕ) (n f : ℕ) : Type 0 where
  pub head : HeadOk p
  pub bytes : (k : ℕ) → byte p k < 256
  pub rows : n ≡ count p
  pub front : f ≡ frontier p
  pub slots : SlotsOk p

module _ (p : List ℕ) (n f : ℕ) (k : Known p n f) where
  pub laid_from : BucketPage p → Laid p n f
  laid_from b = rw (k.rows, k.front) (record {
    after = b.rules.after;
    natural = λ i h. natural_from p i (b.rules.places i h);
    apart = b.rules.apart;
    clear = λ x h l out. b.rules.clear x h (omega (arith, b.rules.room)) out;
    top = b.rules.top b.some;
  })

  pub zeros_of : BucketPage p → ZeroFrom p f (length p - 4 * n)
  zeros_of b = rw (k.front, k.rows) (λ x h l. b.rules.clear x (omega (arith, b.rules.start)) (omega arith) (λ i h₂ y. omega (arith, y.to, b.rules.inside i h₂)))

  pub whole : Laid p n f → ZeroFrom p f (length p - 4 * n) → BucketPage p
  whole l o = record {
    some = k.head.some;
    rules = record {
      least = k.head.least;
      most = k.head.most;
      bytes = k.bytes;
      one = k.head.one;
      room = k.head.room;
      kinds = λ i h. (slot i h).kind_one;
      short = λ i h. (slot i h).short;
      long = λ i h. (slot i h).long;
      after = laid.after;
      inside = λ i h. (slot i h).inside;
      start = omega (arith, k.head.start);
      empty = λ h. absurd (omega (arith, k.head.some));
      top = λ h. laid.top;
      places = λ i h. natural_to p i (omega (arith, (slot i h).inside, (slot i h).short, k.head.room)) (laid.natural i h);
      apart = laid.apart;
      ascending = ascending_of p (count p) k.slots.ascending;
      unused = k.slots.unused;
      clear = λ x h l out. ⊎_elim
          (λ lt. laid.clear x h lt out)
          (λ ge. high x ge (omega arith))
          (side x (frontier p));
    };
  }
    where
      slot : (i : ℕ) → i < count p → Slot p i
      slot i h = slot_of p i (k.slots.words i h)

      laid : Laid p (count p) (frontier p)
      laid = rw (k.rows, k.front) at l

      high : ZeroFrom p (frontier p) (length p - 4 * count p)
      high = rw (k.front, k.rows) at o
