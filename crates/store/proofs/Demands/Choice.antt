-- Which pages a put and a remove use: the laws of specs/Choice.antt hold of the tables. Assumes nothing.
use mathlib.Core.Path.{◌≡◌, refl, sym, ap, subst, ◌∙◌}
use mathlib.Core.Bool.{true, false, true≢false}
use mathlib.Core.List.{List, [], ◌∷◌}
use mathlib.Core.Option.{some}
use Prim.Native.Nat.{ℕ, ◌+◌, ◌-◌, ◌/◌, ◌≤◌, ◌<◌}
use native.Mathlib.Omega.{arith}
use lib.ListN.{length, get_or}
use Rattle.ground.proofs.Ladders.{each}
use Rattle.ground.proofs.Tests.{none_some}
use Rattle.page.specs.Page.{Record}
use Rattle.words.specs.Folds.{fold}
use Rattle.page.specs.Places.{stored}
use Rattle.partition.specs.declared.Shape.{Shape}
use Rattle.partition.specs.Partition.{Prefix}
use Rattle.partition.proofs.Tree.{pfx}
use Rattle.store.specs.Pages.{size, pages, page, Page, free, bucket, read, contents, rows_held}
use Rattle.store.specs.Accepted.{Accepted}
use Rattle.store.specs.Tables.{Out, new, found, Becomes, remove_table}
use Rattle.store.specs.Demands.{Sized, Hash, ok}
use Rattle.store.specs.Choice.{prefix_of, Free, On, PutPages, RemovePages, PutChooses, RemoveChooses}
use Rattle.store.proofs.Showing.Shows.{prefix_on, Shows}
use Rattle.store.proofs.Showing.Shown.{within_pages}
use Rattle.store.proofs.Accepted.Unique.{held}
use Rattle.store.proofs.Demands.Modes.{put_each}
use Rattle.store.proofs.Showing.Showing.{accepted_shows, pages_held}
use Rattle.store.proofs.Put.Chosen.{Has, Chosen, chosen}
use Rattle.store.proofs.Remove.Rejoined.{Rejoined, rejoined}

-- ---- from a list of pages to a store

module _ (S : Shape) (h : List ℕ → ℕ) (s : List ℕ) where
  has : (p : ℕ) (x : Prefix) → On S h s p x → Has h (contents S s) (p - 2) x
  has p x o = go (read (page S s p)) (held S s p o.least o.below) o.is
    where
      go : (g : Page) → get_or (contents S s) (p - 2) free ≡ g → prefix_of h g ≡ some x → Has h (contents S s) (p - 2) x
      go free e q = absurd (none_some refl q)
      go (bucket k []) e q = absurd (none_some refl q)
      go (bucket k (r ∷ rs)) e q =
          let y : pfx k (prefix_on h k (r ∷ rs)) ≡ x = cc in
          let b : k ≡ x.bits = ap (λ p. p.bits) y in
          (r ∷ rs, e ∙ ap (λ n. bucket n (r ∷ rs)) b, ap (λ n. prefix_on h n (r ∷ rs)) (sym b) ∙ ap (λ p. p.value) y)

  free_page : (p : ℕ) → Free S s p → get_or (contents S s) (p - 2) free ≡ free
  free_page p f = held S s p f.least f.below ∙ f.is

  page_free : (p : ℕ) → 2 ≤ p → p < pages S s → get_or (contents S s) (p - 2) free ≡ free → Free S s p
  page_free p a b e = record { least = a; below = b; is = sym (held S s p a b) ∙ e }

  module _ (w : Shows S h (rows_held S s) (contents S s)) where
    on : (p : ℕ) (x : Prefix) → 2 ≤ p → p < pages S s → Has h (contents S s) (p - 2) x → On S h s p x
    on p x a b (rs, e, v) = record { least = a; below = b; is = ap (prefix_of h) (sym (held S s p a b) ∙ e) ∙ some_row rs (w.page (p - 2) x.bits rs e).some v }
      where
        some_row : (rs : List Record) → 0 < length rs → prefix_on h x.bits rs ≡ x.value → prefix_of h (bucket x.bits rs) ≡ some x
        some_row [] l v = absurd (omega arith)
        some_row (r ∷ rs) l v = ap (λ n. some (pfx x.bits n)) v

    at : (i : ℕ) (x : Prefix) → Has h (contents S s) i x → On S h s (i + 2) x
    at i x u =
        let q : i + 2 - 2 ≡ i = omega arith in
        on (i + 2) x (omega arith) (omega (arith, within_pages (contents S s) i x.bits u.0 u.1, pages_held S s)) (subst (λ n. Has h (contents S s) n x) (sym q) u)

    bucket_or : (p : ℕ) → 2 ≤ p → p < pages S s → (get_or (contents S s) (p - 2) free ≡ free → ⊥) → (x : Prefix) × On S h s p x
    bucket_or p a b n = go (get_or (contents S s) (p - 2) free) refl
      where
        go : (g : Page) → get_or (contents S s) (p - 2) free ≡ g → (x : Prefix) × On S h s p x
        go free e = absurd (n e)
        go (bucket k rs) e = (pfx k (prefix_on h k rs), on p (pfx k (prefix_on h k rs)) a b (rs, e, refl))

-- ---- the laws

module _ (S : Shape) (h : List ℕ → ℕ) (sized : Sized S) (hash : Hash h) (s : List ℕ) (a : Accepted S h s) where
  before : Shows S h (rows_held S s) (contents S s)
  before = accepted_shows S h sized hash s a

  module _ (t : List ℕ) (gs : List Page) (b : Becomes S h s gs t) where
    after : Shows S h (rows_held S t) (contents S t)
    after = accepted_shows S h sized hash t b.again

    many : pages S t ≡ pages S s
    many = ap (λ n. n / size S) b.long

    put_pages : (c : List ℕ) → Chosen S h c (contents S s) gs → PutPages S h s c t
    put_pages c k = record {
      lowest = λ no_one p x o u. let l = m.lowest (λ i y v. no_one (i + 2) y (at S h s before i y v)) (p - 2) x (has S h t p x o) u in
          let e : p < pages S s = omega (arith, o.below, many) in (
            page_free S h s p o.least e l.0,
            λ q f g. bucket_or S h s before q f (omega arith) (l.1 (q - 2) (omega arith)),
          );
      old = λ p x o u. let w = m.old (p - 2) x (has S h s p x o) u in
          (w.0, on S h t after p w.0 o.least (omega (arith, o.below, many)) w.1, λ q z f v. omega (arith, w.2 (q - 2) z (free_page S h s q f) (has S h t q z v)));
      next = λ p q x f o g l. let w = m.next (p - 2) (q - 2) x (free_page S h s p f) (has S h t p x o) (free_page S h s q g) (omega (arith, g.least)) in
          (w.0, on S h t after q w.0 g.least (omega (arith, g.below, many)) w.1, omega (arith, w.2));
    }
      where
        m : Chosen S h c (contents S s) (contents S t)
        m = subst (Chosen S h c (contents S s)) (sym b.held) k

    remove_pages : (c : List ℕ) → Rejoined h c (contents S s) gs → RemovePages S h s c t
    remove_pages c k = record {
      joined = λ p x o u. let w = m.joined (p - 2) x (has S h t p x o) u in (
        (w.0.0, on S h s before p w.0.0 o.least (omega (arith, o.below, many)) w.0.1, w.0.2),
        λ q y v e. let z = w.1 (q - 2) y (has S h s q y v) e in
            (omega (arith, z.0, v.least), λ n. page_free S h t q v.least (omega (arith, v.below, many)) (z.1 (λ d. n (omega (arith, d, v.least, o.least))))),
      );
      cleared = λ no_one p x o u. page_free S h t p o.least (omega (arith, o.below, many)) (m.emptied (λ i y v. no_one (i + 2) y (at S h t after i y v)) (p - 2) x (has S h s p x o) u);
    }
      where
        m : Rejoined h c (contents S s) (contents S t)
        m = subst (Rejoined h c (contents S s)) (sym b.held) k

-- a refusal is neither new nor found
refused_not : (x : Out × List ℕ) (o o' : Out) (t : List ℕ) → x ≡ (o, t) → ok o ≡ false → x.0 ≡ o' → ok o' ≡ true → ⊥
refused_not x o o' t e f g k = true≢false (sym k ∙ ap ok (sym g ∙ ap (λ y. y.0) e) ∙ f)

module _ (S : Shape) (h : List ℕ → ℕ) (sized : Sized S) (hash : Hash h) where
  pub put_chooses : PutChooses S h
  put_chooses s c p m t a made = put_each S h s (λ x. x.0 ≡ new → PutPages S h s (fold c) x.1) c p record {
    kept = λ o f e. absurd (true≢false (sym (ap ok e) ∙ f));
    over = λ old k t b e. absurd (let z : ◌≡◌ {A = ℕ} 0 1 = cc e in omega arith);
    fresh = λ un n6 n7 t b e. put_pages S h sized hash s a t _ b (fold c)
        (chosen S h hash (rows_held S s) (record { code = fold c; place = stored p }) (contents S s) (before S h sized hash s a) un (omega arith) (omega (arith, pages_held S s)));
  } m (new, t) made refl

  pub remove_chooses : RemoveChooses S h
  unfolding remove_table
  remove_chooses s c p t a m = each (λ x. x.0 ≡ found p → RemovePages S h s (fold c) x.1) (remove_table S h s c) (
    (λ _ _ x e f. absurd (refused_not x _ (found p) _ e refl f refl)),
    (λ _. (
      (λ _ _ x e f. absurd (refused_not x _ (found p) _ e refl f refl)),
      (λ _. (
        (λ _ _ x e f. absurd (refused_not x _ (found p) _ e refl f refl)),
        (λ _ _. (
          (λ old k x e f. remove_pages S h sized hash s a x.1 _ e.1 (fold c) (rejoined S h hash (rows_held S s) (contents S s) (fold c) old (before S h sized hash s a) k)),
          (λ _ x e f.
              absurd (refused_not x _ (found p) _ e refl f refl)),
        )),
      )),
    )),
  ) (found p, t) m refl
