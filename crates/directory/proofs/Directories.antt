-- Laws of the directory as it is written, entry by entry and page by page. Over any page size. Assumes nothing.
use mathlib.Core.Path.{◌≡◌, refl, sym, subst, ◌∙◌}
use mathlib.Core.List.{List}
use mathlib.Core.Logic.{◌⊎◌, inl, inr, ⊎_elim}
use Prim.Native.Nat.{ℕ, ◌+◌, ◌*◌, ◌-◌, ◌^◌, ◌≤◌, ◌<◌}
use native.Mathlib.Omega.{arith}
use lib.ListN.{length}
use native.Mathlib.Nat.{mul-le-mul_right}
use lib.Pow.{pow_mono}
use Rattle.ground.specs.Lists.{byte}
use Rattle.ground.proofs.Sides.{side}
use Rattle.ground.proofs.Parts.{part_same}
use Rattle.words.specs.Le.{le16, le32}
use Rattle.words.specs.Moves.{Put32, Cleared}
use Rattle.words.proofs.Bytes.{frame_join, span_frame, le32_below, le32_above}
use Rattle.page.specs.Page.{depth, code}
use Rattle.partition.specs.Bits.{top}
use Rattle.partition.specs.Partition.{Prefix, first, after}
use Rattle.partition.proofs.Directory.{holds_range}
use Rattle.partition.specs.declared.Shape.{Shape}
use Rattle.store.specs.Pages.{size, page, entry_at}
use Rattle.store.specs.Demands.{Sized}
use Rattle.store.specs.Accepted.{Calls}
use Rattle.store.proofs.Paging.Views.{apart}
use Rattle.directory.specs.Directory.{CallsFor, EntryFor, none, names, Directed, RunSet, PrefixNamed, PageNamed, Nameable}

pub run_none : (S : Shape) (s : List ℕ) (a p : ℕ) → RunSet S s a a p s
run_none S s a p = record { new = λ i f l. absurd (omega arith); old = record { len = refl; below = λ i l. refl; above = λ i l. refl } }

pub run_more : (S : Shape) {s t u : List ℕ} {a i p : ℕ} → RunSet S s a i p t → Put32 t (size S + 4 * i) p u → a ≤ i → RunSet S s a (i + 1) p u
run_more S {s} {t} {u} {a} {i} {p} r w h = record {
  new = λ j f l. ⊎_elim
      (λ lt. le32_below (size S + 4 * j) w.old (omega arith) ∙ r.new j f lt)
      (λ ge. let e : j ≡ i = omega arith in rw e w.val)
      (side j i);
  old = frame_join (size S + 4 * a) (4 * (i + 1 - a)) r.old w.old (omega arith) (omega arith) (omega arith) (omega arith);
}

-- a page that lies above what was written
pub page_above : (S : Shape) (s t : List ℕ) (p : ℕ) → 2 ≤ p → p * size S + size S ≤ length s → length t ≡ length s → ((k : ℕ) → 2 * size S ≤ k → byte t k ≡ byte s k) → page S t p ≡ page S s p
unfolding page
page_above S s t p h l e f =
    let low : 2 * size S ≤ p * size S = mul-le-mul_right (size S) h in
    part_same s t (p * size S) (size S) l (omega arith) (λ i a b. f i (omega (arith, low)))

-- the run of a prefix is the entries that it calls for
module _ (S : Shape) (sized : Sized S) (s : List ℕ) (d k v p : ℕ) (deep : d ≤ S.deepest) where
  abbrev prefix : Prefix
  prefix = record { bits = k; value = v }

  pub prefix_named : (t : List ℕ) (a b : ℕ) → a ≡ first d prefix → b ≡ after d prefix → a ≤ b → b ≤ 2 ^ d → RunSet S s a b p t → PrefixNamed S s d k v p t
  prefix_named t a b ea eb le end r =
      let small : b ≤ S.entries = let m : 2 ^ d ≤ 2 ^ S.deepest = pow_mono deep in omega (arith, sized.deep) in
      let whole : 4 * S.entries ≡ size S = sized.whole in
      record {
        entry = λ i l. ⊎_elim
            (λ lt. inr (
              (λ c. let w : (first d prefix ≤ i) × (i < after d prefix) = (holds_range d i prefix).0 c.bits in omega (arith, w.0)),
              le32_below (size S + 4 * i) r.old (omega arith),
            ))
            (λ ge. ⊎_elim
            (λ lt. inl (record { below = omega arith; bits = (holds_range d i prefix).1 (omega arith, omega arith) }, r.new i ge lt))
            (λ ge₂. inr (
              (λ c. let w : (first d prefix ≤ i) × (i < after d prefix) = (holds_range d i prefix).0 c.bits in omega (arith, w.1)),
              le32_above (size S + 4 * i) r.old (omega arith),
            ))
            (side i b))
            (side i a);
        old = record { len = r.old.len; below = λ i l. r.old.below i (omega arith); above = λ i l. r.old.above i (omega arith) };
      }

module _ (S : Shape) (h : List ℕ → ℕ) (s : List ℕ) (d p : ℕ) where
  abbrev g : List ℕ
  g = page S s p

  pub unnamed_page : (byte g 0 ≡ 1 → ⊥) → PageNamed S h s d p s
  unnamed_page no_use = record {
    entry = λ i l. inr ((λ c. no_use c.used), refl);
    old = record { len = refl; below = λ i l. refl; above = λ i l. refl };
  }

  pub named_page : (t : List ℕ) (k x : ℕ) → byte g 0 ≡ 1 → depth g ≡ k → h (code g 0) ≡ x → PrefixNamed S s d k (top k x) p t → PageNamed S h s d p t
  named_page t k x used ek ex N =
      let e : (i : ℕ) → Calls d (depth g) (top (depth g) (h (code g 0))) i ≡ Calls d k (top k x) i = λ i. λ j. Calls d (ek j) (top (ek j) (ex j)) i in
      record {
        entry = λ i l. ⊎_elim
            (λ y. inl (record { used = used; calls = rw (e i) y.0 }, y.1))
            (λ n. inr ((λ c. n.0 (rw (← e i) c.calls)), n.1))
            (N.entry i l);
        old = N.old;
      }

-- a page calls for the same entries in two stores in which it is the same
pub calls_same : (S : Shape) (h : List ℕ → ℕ) (s t : List ℕ) (d i p : ℕ) → page S t p ≡ page S s p → CallsFor S h t d i p → CallsFor S h s d i p
calls_same S h s t d i p e c = record {
  used = rw (← e) c.used;
  calls = subst (λ g. Calls d (depth g) (top (depth g) (h (code g 0))) i) e c.calls;
}

-- depth set and directory cleared, no page has named its entries yet
pub directed_none : (S : Shape) → Sized S → (h : List ℕ → ℕ) {s t u : List ℕ} {d : ℕ} → Put32 s 16 d t → Cleared t (size S) (2 * size S) u → Directed S h u d 2 u
unfolding le32 le16
directed_none S sized h {s} {t} {u} {d} w c = record {
  long = refl;
  start = λ k l. refl;
  deep = le32_below 16 (span_frame c (omega arith)) (omega (arith, sized.least)) ∙ w.val;
  rest = λ k f l. refl;
  entries = λ i l. none
      (let inside : 4 * i + 4 ≤ size S = omega (arith, sized.whole) in
      omega (arith, c.new (size S + 4 * i) (omega arith) (omega arith), c.new (size S + 4 * i + 1) (omega arith) (omega arith), c.new (size S + 4 * i + 2) (omega arith) (omega arith), c.new (size S + 4 * i + 2 + 1) (omega arith) (omega arith)))
      (λ p f g x. absurd (omega arith));
  above = λ k l. refl;
}

-- and so the whole, from the store before
module _ (S : Shape) (sized : Sized S) (h : List ℕ → ℕ) {s t u v : List ℕ} {d n : ℕ} (w : Put32 s 16 d t) (c : Cleared t (size S) (2 * size S) u) (long : n * size S ≤ length s) (D : Directed S h u d n v) where
  kept_above : (k : ℕ) → 2 * size S ≤ k → byte u k ≡ byte s k
  kept_above k l = c.above k l ∙ w.old.above k (omega (arith, sized.least))

  kept_page : (p : ℕ) → 2 ≤ p → p < n → page S u p ≡ page S s p
  kept_page p a b = page_above S s u p a (omega (arith, long, apart (size S) p n b)) (c.len ∙ w.old.len) kept_above

  entry_from : (i e : ℕ) → EntryFor S h u d n i e → EntryFor S h s d n i e
  entry_from i e (none z f) = none z (λ p a b x. f p a b (calls_same S h u s d i p (sym (kept_page p a b)) x))
  entry_from i e (names a b x) = names a b (calls_same S h s u d i e (kept_page e a b) x)

  pub directed_from : Directed S h s d n v
  directed_from = record {
    long = D.long ∙ c.len ∙ w.old.len;
    start = λ k l. D.start k l ∙ c.below k (omega (arith, sized.least)) ∙ w.old.below k l;
    deep = D.deep;
    rest = λ k f l. D.rest k f l ∙ c.below k l ∙ w.old.above k f;
    entries = λ i l. entry_from i (entry_at S v i) (D.entries i l);
    above = λ k l. D.above k l ∙ kept_above k l;
  }

-- page p has named its entries
module _ (S : Shape) (sized : Sized S) (h : List ℕ → ℕ) {s t u : List ℕ} {d p : ℕ} (two : 2 ≤ p) (within : p * size S + size S ≤ length s) (D : Directed S h s d p t) (N : PageNamed S h t d p u) where
  same_page : page S t p ≡ page S s p
  same_page = page_above S s t p two within D.long D.above

  entry_more : (i : ℕ) → EntryFor S h s d p i (entry_at S t i)
      → (CallsFor S h t d i p × (entry_at S u i ≡ p)) ⊎ ((CallsFor S h t d i p → ⊥) × (entry_at S u i ≡ entry_at S t i)) → EntryFor S h s d (p + 1) i (entry_at S u i)
  entry_more i old (inl y) = rw y.1 (names two (omega arith) (calls_same S h s t d i p same_page y.0))
  entry_more i (none z f) (inr n) = none (n.1 ∙ z) (λ q a b c. ⊎_elim (λ lt. f q a lt c) (λ ge. let e : q ≡ p = omega arith in n.0 (calls_same S h t s d i p (sym same_page) (subst (λ x. CallsFor S h s d i x) e c))) (side q p))
  entry_more i (names a b c) (inr n) = rw n.1 (names a (omega arith) c)

  pub directed_more : Directed S h s d (p + 1) u
  directed_more = record {
    long = N.old.len ∙ D.long;
    start = λ k l. N.old.below k (omega (arith, sized.least)) ∙ D.start k l;
    deep = le32_below 16 N.old (omega (arith, sized.least)) ∙ D.deep;
    rest = λ k f l. N.old.below k l ∙ D.rest k f l;
    entries = λ i l. entry_more i (D.entries i l) (N.entry i l);
    above = λ k l. N.old.above k (omega arith) ∙ D.above k l;
  }

-- a page of the store keeps its standing while the directory is written
pub standing_on : (S : Shape) (h : List ℕ → ℕ) {s t : List ℕ} {d e p : ℕ} → 2 ≤ p → p * size S + size S ≤ length s → Directed S h s d p t → Nameable e (page S s p) → Nameable e (page S t p)
standing_on S h {s} {t} {d} {e} {p} two within D st = subst (Nameable e) (sym (page_above S s t p two within D.long D.above)) st
