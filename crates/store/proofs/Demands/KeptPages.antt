-- In each call but format a bucket whose rows and depth come out the same keeps its page and all its bytes.
-- Assumes nothing.
use mathlib.Core.Path.{◌≡◌, refl, sym, ap, subst, ◌∙◌}
use mathlib.Core.List.{List, map}
use Prim.Native.Nat.{ℕ, ◌-◌, ◌≤◌, ◌<◌}
use native.Mathlib.Omega.{arith}
use Rattle.ground.specs.Ladder.{Answers}
use Rattle.ground.proofs.Ladders.{each}
use Rattle.page.specs.Page.{Record}
use Rattle.page.specs.Places.{place_from, stored}
use Rattle.words.specs.Folds.{fold}
use Rattle.page.specs.declared.Place.{Place}
use Rattle.page.proofs.Unique.{unique}
use Rattle.partition.specs.declared.Shape.{Shape}
use Rattle.partition.specs.Partition.{Row}
use Rattle.store.specs.Pages.{pages, page, Page, bucket, read, contents, as_row, rows_held}
use Rattle.store.specs.Accepted.{Stands, unused, used, Accepted}
use Rattle.store.specs.Tables.{Out, new, replaced, Becomes, put_table, remove_table}
use Rattle.store.specs.Demands.{Sized, Hash, Call, format, check, count, lookup, remove, put, row_at, inspect, Made, KeptPages}
use Rattle.store.proofs.Accepted.Rules.{opened}
use Rattle.store.proofs.Showing.Shows.{Shows}
use Rattle.store.proofs.Showing.Shown.{free_not}
use Rattle.store.proofs.Showing.Rooms.{bucket_one}
use Rattle.store.proofs.Accepted.Unique.{read_zero, read_bucket, page_long, held}
use Rattle.store.proofs.Demands.Modes.{put_each}
use Rattle.store.proofs.Accepted.Format.{accepted_always}
use Rattle.store.proofs.Showing.Showing.{accepted_shows, pages_held}
use Rattle.store.proofs.Put.PutKept.{Kept, put_kept}
use Rattle.store.proofs.Put.OverKept.{same_kept, over_kept}
use Rattle.store.proofs.Remove.RemoveShows.{remove_kept}

-- pages that read the same bucket are the same bytes
same_bytes : (S : Shape) (h : List ℕ → ℕ) (s t : List ℕ) (p q k : ℕ) (rs : List Record) → Stands S h s p → Stands S h t q → p < pages S s → q < pages S t
    → read (page S s p) ≡ bucket k rs → read (page S t q) ≡ bucket k rs → page S s p ≡ page S t q
same_bytes S h s t p q k rs (unused x _) b l m e f = absurd (free_not (sym (read_zero (page S s p) x) ∙ e))
same_bytes S h s t p q k rs (used x _ _) (unused y _) l m e f = absurd (free_not (sym (read_zero (page S t q) y) ∙ f))
same_bytes S h s t p q k rs (used x _ _) (used y _ _) l m e f =
    let a = bucket_one (sym (read_bucket h (page S s p) x) ∙ e) in
    let b = bucket_one (sym (read_bucket h (page S t q) y) ∙ f) in
    unique (page S s p) (page S t q) x.rules.rules y.rules.rules (page_long S s p l ∙ sym (page_long S t q m)) (a.0 ∙ sym b.0) (a.1 ∙ sym b.1)

module _ (S : Shape) (h : List ℕ → ℕ) (s t : List ℕ) (a : Accepted S h s) (b : Accepted S h t) (kept : Kept (contents S s) (contents S t)) where
  -- from pages to bytes
  pub kept_bytes : (p q k : ℕ) (rs qs : List Record) → 2 ≤ p → p < pages S s → 2 ≤ q → q < pages S t
      → read (page S s p) ≡ bucket k rs → read (page S t q) ≡ bucket k qs → map as_row rs ≡ map as_row qs → (p ≡ q) × (page S s p ≡ page S t q)
  kept_bytes p q k rs qs lp mp lq mq e f g =
      let w = kept (p - 2) (q - 2) k rs qs (held S s p lp mp ∙ e) (held S t q lq mq ∙ f) g in
      (omega (arith, w.0), same_bytes S h s t p q k rs ((opened S h s a).stands p lp mp) ((opened S h t b).stands q lq mq) mp mq e (f ∙ ap (bucket k) (sym w.1)))

module _ (S : Shape) (h : List ℕ → ℕ) (sized : Sized S) (hash : Hash h) where
  shown : (s : List ℕ) → Accepted S h s → Shows S h (rows_held S s) (contents S s)
  shown = accepted_shows S h sized hash

  abbrev Keeps : List ℕ → Out × List ℕ → Type 0
  Keeps s x = Kept (contents S s) (contents S x.1)

  unchanged : (s : List ℕ) → Accepted S h s → (x : Out × List ℕ) (o : Out) → x ≡ (o, s) → Keeps s x
  unchanged s a x o e = subst (λ (y : Out × List ℕ). Keeps s y) (sym e) (same_kept S h (rows_held S s) (contents S s) (shown s a))

  written : (s : List ℕ) (x : Out × List ℕ) (gs : List Page) → Becomes S h s gs x.1 → Kept (contents S s) gs → Keeps s x
  written s x gs b k = subst (Kept (contents S s)) (sym b.held) k

  put_keeps : (s c : List ℕ) (p : Place) (m : ℕ) → Accepted S h s → (x : Out × List ℕ) → Answers (put_table S h s c p m) x → Keeps s x
  put_keeps s c p m a = put_each S h s (Keeps s) c p record {
    kept = λ o _. same_kept S h (rows_held S s) (contents S s) (shown s a);
    over = λ old k t b. written s (replaced (place_from old), t) _ b (over_kept S h (rows_held S s) (contents S s) (shown s a) r);
    fresh = λ un n6 n7 t b. written s (new, t) _ b (put_kept S h hash (rows_held S s) r (contents S s) (shown s a) un (omega arith) (omega (arith, pages_held S s)));
  } m
    where
      r : Row
      r = record { code = fold c; place = stored p }

  remove_keeps : (s c : List ℕ) → Accepted S h s → (x : Out × List ℕ) → Answers (remove_table S h s c) x → Keeps s x
  unfolding remove_table
  remove_keeps s c a = each (Keeps s) (remove_table S h s c) (
    (λ _ _ x e. unchanged s a x _ e),
    (λ _. (
      (λ _ _ x e. unchanged s a x _ e),
      (λ _. (
        (λ _ _ x e. unchanged s a x _ e),
        (λ _ _. (
          (λ old k x e. written s x _ e.1 (remove_kept S h hash (rows_held S s) (contents S s) (fold c) old (shown s a) k)),
          (λ _ x e. unchanged s a x _ e),
        )),
      )),
    )),
  )

  kept : (c : Call) (s : List ℕ) (o : Out) (t : List ℕ) → (c ≡ format → ⊥) → Accepted S h s → Made S h c s o t → Kept (contents S s) (contents S t)
  kept format s o t n a m = absurd (n refl)
  kept check s o t n a m = unchanged s a (o, t) o (ap (λ y. (o, y)) m.1)
  kept count s o t n a m = unchanged s a (o, t) o (ap (λ y. (o, y)) m.1)
  kept (lookup c) s o t n a m = unchanged s a (o, t) o (ap (λ y. (o, y)) m.1)
  kept (remove c) s o t n a m = remove_keeps s c a (o, t) m
  kept (put c p mode) s o t n a m = put_keeps s c p mode a (o, t) m
  kept (row_at i out) s o t n a m = unchanged s a (o, t) o (ap (λ y. (o, y)) m.1)
  kept (inspect g i out) s o t n a m = unchanged s a (o, t) o (ap (λ y. (o, y)) m.1)

  pub kept_pages : KeptPages S h
  kept_pages c s o t n a m = kept_bytes S h s t a (accepted_always S h sized c s o t a m).0 (kept c s o t n a m)
