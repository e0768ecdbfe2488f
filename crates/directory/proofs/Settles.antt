-- An accepted store whose pages are written anew and that is settled then. Over any page size. Assumes nothing.
use mathlib.Core.Path.{◌≡◌, refl, sym, ap, subst, ◌∙◌}
use mathlib.Core.List.{List}
use Prim.Native.Nat.{ℕ, ◌-◌, ◌*◌, ◌/◌, ◌≤◌, ◌<◌}
use native.Mathlib.Omega.{arith}
use native.Mathlib.Nat.{le_trans, mul-le-mul_right, div-add-mod'}
use native.Mathlib.Decide.{ℕ_discrete}
use lib.ListN.{length, set}
use Rattle.ground.specs.Lists.{byte}
use Rattle.words.specs.Moves.{Frame}
use Rattle.page.specs.Page.{BucketPage, depth, rows}
use Rattle.partition.specs.Partition.{Row}
use Rattle.partition.specs.declared.Shape.{Shape}
use Rattle.store.specs.Pages.{size, pages, page, bucket, contents, deepest_in, set_page}
use Rattle.store.specs.Accepted.{Stands, unused, used as in_use, Accepted}
use Rattle.store.specs.Counts.{Counts}
use Rattle.store.specs.Tables.{Becomes}
use Rattle.store.proofs.Counts.Words.{counts_kept}
use Rattle.store.specs.Demands.{Sized, Hash}
use Rattle.store.proofs.Accepted.Rules.{opened}
use Rattle.store.proofs.Showing.Shows.{Shows}
use Rattle.store.proofs.Accepted.Unique.{read_used}
use Rattle.store.proofs.Accepted.Spelled.{AllFolded}
use Rattle.store.proofs.Accepted.Accepting.{accepted_laid, contents_kept, head_around, laid_becomes, page_kept}
use Rattle.store.proofs.Paging.Views.{set_long, set_same, set_other, set_below, set_contents}
use Rattle.directory.specs.Directory.{Directed, SoundPage, free, used, Settling, Settleable, Rewritten}
use Rattle.directory.proofs.Laying.{directed_laid}

-- one page more
module _ (S : Shape) (s t : List ℕ) (W : Rewritten S s t) (p : ℕ) (two : 2 ≤ p) (to : p < pages S s) (q : List ℕ) (Q : BucketPage q) (long : length q ≡ size S) (deep : depth q ≤ S.deepest) where
  there : p < pages S t
  there = subst (λ n. p < n / size S) (sym W.long) to

  pub rewritten_set : Rewritten S s (set_page S t p q)
  rewritten_set = record {
    long = set_long S t p q there long ∙ W.long;
    low = λ k l. set_below S t p q there long k (omega (arith, mul-le-mul_right (size S) two)) ∙ W.low k l;
    sound = λ x a b. go x a b (ℕ_discrete x p);
  }
    where
      go : (x : ℕ) → 2 ≤ x → x < pages S s → Dec (x ≡ p) → SoundPage S (page S (set_page S t p q) x)
      go x a b (yes e) = subst (SoundPage S) (sym (ap (page S (set_page S t p q)) e ∙ set_same S t p q there long)) (used Q deep)
      go x a b (no n) = subst (SoundPage S) (sym (set_other S t p q there long x n)) (W.sound x a b)

  pub set_holds : contents S (set_page S t p q) ≡ set (contents S t) (p - 2) (bucket (depth q) (rows q))
  set_holds = set_contents S t p q there long two ∙ ap (set (contents S t) (p - 2)) (read_used q Q)

module _ (S : Shape) (sized : Sized S) (h : List ℕ → ℕ) (hash : Hash h) (s : List ℕ) (A : Accepted S h s) where
  pub unwritten : Rewritten S s s
  unwritten = record { long = refl; low = λ k l. refl; sound = λ p a b. go p ((opened S h s A).stands p a b) }
    where
      go : (p : ℕ) → Stands S h s p → SoundPage S (page S s p)
      go p (unused z _) = free z
      go p (in_use b l _) = used b.rules (le_trans l (opened S h s A).page0.depth)

  -- a store is whole pages
  pub long_pages : length s ≡ pages S s * size S
  long_pages = omega (arith, div-add-mod' (length s) (size S), A.long.whole)

  module _ (t : List ℕ) (W : Rewritten S s t) where
    pub settling : Settling S t (pages S s)
    settling =
        let g = A.long in
        record {
          long = W.long ∙ long_pages;
          least = g.least;
          most = g.most;
          pages = W.sound;
        }

    -- t with true counts
    module _ (t' : List ℕ) (F : Frame t 24 56 t') (C : Counts S t') where
      same_above : (k : ℕ) → 2 * size S ≤ k → byte t' k ≡ byte t k
      same_above k l = F.above k (omega (arith, sized.least))

      pub settleable : Settleable S t' (pages S s)
      settleable = record {
        sized = sized;
        pages = record {
          long = F.len ∙ settling.long;
          least = settling.least;
          most = settling.most;
          pages = λ p a b. subst (SoundPage S) (sym (page_kept S t t' F.len same_above p a (subst (λ n. p < n / size S) (sym (F.len ∙ W.long)) b))) (W.sound p a b);
        };
        counts = C;
      }

      pub settled : (u : List ℕ) → Directed S h t' (deepest_in (contents S t')) (pages S s) u → (rs : List Row) → Shows S h rs (contents S t) → AllFolded rs → ((k : ℕ) → byte u k < 256)
          → Becomes S h s (contents S t) u
      settled u D rs w spelled small =
          let e : contents S t' ≡ contents S t = contents_kept S t t' F.len same_above in
          subst (λ gs. Becomes S h s gs u) e
          (laid_becomes S h sized hash u rs (contents S t')
          (directed_laid S t' (pages S s) settleable.pages h u sized
          (head_around S sized s t' (F.len ∙ W.long) (λ k l. F.below k (omega arith) ∙ W.low k (omega (arith, sized.least))) (λ k a l. F.below k l ∙ W.low k (omega (arith, sized.least))) (λ k a l. F.above k (omega arith) ∙ W.low k l)
          (accepted_laid S h sized hash s A).head) D)
          (subst (Shows S h rs) (sym e) w) spelled s (D.long ∙ F.len ∙ W.long) small
          (counts_kept S t' u (λ k a b. D.rest k (omega arith) (omega (arith, sized.least))) (contents_kept S t' u D.long D.above) C))
