-- Demand 3's first part, for every history, from four statements on single stores (proved in Afresh, MoveRows and PutRows). Assumes nothing.
use mathlib.Core.Path.{◌≡◌, refl, sym, ap, subst, ◌∙◌}
use mathlib.Core.Bool.{Bool, true, false, true≢false}
use mathlib.Core.List.{List, [], ◌∷◌}
use mathlib.Core.Option.{Option, some, none}
use Prim.Native.Nat.{ℕ}
use Rattle.partition.specs.declared.Shape.{Shape}
use Rattle.partition.specs.Partition.{Row, Reordered, empty, front, chain, buckets, depth_of}
use Rattle.partition.proofs.Laws.{reordered}
use Rattle.words.specs.Folds.{fold}
use Rattle.page.specs.declared.Place.{Place}
use Rattle.ground.specs.Ladder.{Answers}
use Rattle.partition.specs.Listing.{without, place_of}
use Rattle.store.specs.Pages.{Page, contents, rows_in, rows_held, dir_depth}
use Rattle.store.specs.Accepted.{Accepted}
use Rattle.store.specs.Moves.{pick, overwritten, put_new, removed}
use Rattle.page.specs.Places.{place_from, stored}
use Rattle.store.specs.Tables.{Out, new, replaced, Refusal6, Refusal7, Becomes, put_table, remove_table, format_table}
use Rattle.partition.specs.Listing.{Once}
use Rattle.store.specs.Demands.{Sized, Call, format, check, count, lookup, remove, put, row_at, inspect, Made, ok, rows_after, surviving, directory, afresh, History, begin, next, AfreshAlways, GoodCode, map_of, update, answer_of, put_answer, PutIsMap, RemoveIsMap}
use Rattle.ground.proofs.Ladders.{each}
use Rattle.partition.proofs.Sorted.{same_map}
use Rattle.partition.proofs.Reorders.{same_order}
use Rattle.partition.proofs.Maps.{cut, cut_none, cut_same, map_remove, map_put}
use Rattle.partition.proofs.Sorted.{listing_same}
use Rattle.store.proofs.Showing.Sorted.{afresh_same}
use Rattle.store.proofs.Accepted.Rules.{accepted_whole}
use Rattle.store.proofs.Demands.Modes.{nothing_there, put_each}
use Rattle.store.proofs.Demands.Kept.{no_three, refusal_keeps}
use Rattle.store.proofs.Accepted.Format.{format_accepted, accepted_always, no_rows}

module _ (S : Shape) (h : List ℕ → ℕ) where
  -- an accepted store is what is worked out afresh from its own rows
  abbrev pub AcceptedIsAfresh : Type 0
  AcceptedIsAfresh = (s : List ℕ) → Accepted S h s
      → Once (rows_held S s) × (dir_depth s ≡ depth_of (buckets S h (rows_held S s))) × (directory S s ≡ afresh S h (rows_held S s))

  -- the rows after each of the three moves
  abbrev pub PutRows : Type 0
  PutRows = (s : List ℕ) (r : Row) → Accepted S h s → place_of (rows_held S s) r.code ≡ none
      → (Refusal6 S h (rows_held S s) r → ⊥) → (Refusal7 S h s (rows_held S s) r → ⊥) → Reordered (rows_in (put_new S h (contents S s) r)) (r ∷ rows_held S s)

  abbrev pub OverRows : Type 0
  OverRows = (s : List ℕ) (r : Row) (old : List ℕ) → Accepted S h s → place_of (rows_held S s) r.code ≡ some old
      → Reordered (rows_in (overwritten (contents S s) r)) (r ∷ without (λ q. q.code) r.code (rows_held S s))

  abbrev pub RemoveRows : Type 0
  RemoveRows = (s c old : List ℕ) → Accepted S h s → place_of (rows_held S s) c ≡ some old
      → Reordered (rows_in (removed S h (contents S s) c)) (without (λ q. q.code) c (rows_held S s))

-- ---- the rows that a call leaves

after_same : (c : Call) {rs qs : List Row} → Reordered rs qs → Reordered (rows_after c rs) (rows_after c qs)
after_same format p = empty
after_same check p = p
after_same count p = p
after_same (lookup c) p = p
after_same (remove c) p = cut_same (fold c) p
after_same (put c pl m) p = front _ (cut_same (fold c) p)
after_same (row_at n out) p = p
after_same (inspect g n out) p = p

picked : (b : Bool) (c : Call) {rs qs : List Row} → Reordered rs qs → Reordered (pick b (rows_after c rs) rs) (pick b (rows_after c qs) qs)
picked true c p = after_same c p
picked false c p = p

survives : (c : Call) (o : Out) {rs qs : List Row} → Reordered rs qs → Reordered (surviving c o rs) (surviving c o qs)
survives c o p = picked (ok o) c p

to_cut : (c : List ℕ) (rs : List Row) (r : Row) (gs : List Row) → place_of rs c ≡ none → Reordered gs (r ∷ rs) → Reordered gs (r ∷ without (λ q. q.code) c rs)
to_cut c rs r gs e p = subst (λ l. Reordered gs (r ∷ l)) (sym (cut_none c rs e)) p

module _ (S : Shape) (h : List ℕ → ℕ) where
  Left : Call → List ℕ → Out × List ℕ → Type 0
  Left c s x = Reordered (rows_held S x.1) (surviving c x.0 (rows_held S s))

  kept : (c : Call) (s : List ℕ) (x : Out × List ℕ) (o : Out) → x ≡ (o, s) → ok o ≡ false → Left c s x
  unfolding Left
  kept c s x o e f = subst (λ (y : Out × List ℕ). Left c s y) (sym e) (subst (λ b. Reordered (rows_held S s) (pick b (rows_after c (rows_held S s)) (rows_held S s))) (sym f) (same_order (rows_held S s)))

  moved : (c : Call) (s : List ℕ) (x : Out × List ℕ) (o : Out) (gs : List Page) → x.0 ≡ o → ok o ≡ true → Becomes S h s gs x.1
      → Reordered (rows_in gs) (rows_after c (rows_held S s)) → Left c s x
  unfolding Left
  moved c s x o gs e f b p =
      subst (λ k. Reordered (rows_held S x.1) (pick k (rows_after c (rows_held S s)) (rows_held S s))) (sym (ap ok e ∙ f))
      (subst (λ l. Reordered (rows_in l) (rows_after c (rows_held S s))) (sym b.held) p)

  module _ (sized : Sized S) (puts : PutRows S h) (over : OverRows S h) (removes : RemoveRows S h) where
    put_left : (s c : List ℕ) (p : Place) (m : ℕ) → Accepted S h s → (x : Out × List ℕ) → Answers (put_table S h s c p m) x → Left (put c p m) s x
    put_left s c p m a = put_each S h s (Left (put c p m) s) c p record {
      kept = λ o f. kept (put c p m) s (o, s) o refl f;
      over = λ old k t b. moved (put c p m) s (replaced (place_from old), t) _ _ refl refl b (over s r old a k);
      fresh = λ un n6 n7 t b. moved (put c p m) s (new, t) _ _ refl refl b (to_cut (fold c) (rows_held S s) _ _ un (puts s r a un n6 n7));
    } m
      where
        r : Row
        r = record { code = fold c; place = stored p }

    remove_left : (s c : List ℕ) → Accepted S h s → (x : Out × List ℕ) → Answers (remove_table S h s c) x → Left (remove c) s x
    unfolding remove_table
    remove_left s c a = each (Left (remove c) s) (remove_table S h s c) (
      (λ _ _ x e. kept (remove c) s x _ e refl),
      (λ _. (
        (λ _ _ x e. kept (remove c) s x _ e refl),
        (λ _. (
          (λ _ _ x e. kept (remove c) s x _ e refl),
          (λ _ _. (
            (λ old k x e. moved (remove c) s x _ _ e.0 refl e.1 (removes s (fold c) old a k)),
            (λ _ x e.
                kept (remove c) s x _ e refl),
          )),
        )),
      )),
    )

    format_left : (s : List ℕ) → Accepted S h s → (x : Out × List ℕ) → Answers (format_table S s) x → Left format s x
    unfolding format_table Left
    format_left s a = each (Left format s) (format_table S s) (
      (λ _ _ x e. kept format s x _ e refl),
      (λ _ x e. subst (λ (y : Out × List ℕ). Left format s y) (sym e) (subst (λ l. Reordered l []) (sym (no_rows S s sized a.long)) empty)),
    )

    reads_left : (s t : List ℕ) (b : Bool) → t ≡ s → Reordered (rows_held S t) (pick b (rows_held S s) (rows_held S s))
    reads_left s t true e = subst (λ x. Reordered (rows_held S x) (rows_held S s)) (sym e) (same_order (rows_held S s))
    reads_left s t false e = subst (λ x. Reordered (rows_held S x) (rows_held S s)) (sym e) (same_order (rows_held S s))

    left : (c : Call) (s : List ℕ) (o : Out) (t : List ℕ) → Accepted S h s → Made S h c s o t → Reordered (rows_held S t) (surviving c o (rows_held S s))
    unfolding Left
    left format s o t a m = format_left s a (o, t) m
    left check s o t a m = reads_left s t (ok o) m.1
    left count s o t a m = reads_left s t (ok o) m.1
    left (lookup c) s o t a m = reads_left s t (ok o) m.1
    left (remove c) s o t a m = remove_left s c a (o, t) m
    left (put c p mode) s o t a m = put_left s c p mode a (o, t) m
    left (row_at n out) s o t a m = reads_left s t (ok o) m.1
    left (inspect g n out) s o t a m = reads_left s t (ok o) m.1

    -- what holds along a history
    run : (rs : List Row) (s : List ℕ) → History S h rs s → Accepted S h s × Reordered (rows_held S s) rs
    run rs t (begin s m) = let f = format_accepted S h sized s t m in (f.0, subst (λ l. Reordered l []) (sym f.1) empty)
    run _ t (next {rs = rs} {s = s} c o H m) =
        let i = run rs s H in
        ((accepted_always S h sized c s o t i.0 m).0, chain (left c s o t i.0 m) (survives c o i.1))

    pub afresh_always : AcceptedIsAfresh S h → AfreshAlways S h
    afresh_always fresh rs s H =
        let i = run rs s H in
        let f = fresh s i.0 in
        record {
          keeps = i.0;
          same = i.1;
          once = (same_map i.1 f.0).0;
          depth = f.1 ∙ ap depth_of (reordered S h i.1);
          buckets_and_entries = f.2 ∙ afresh_same S h (rows_held S s) rs i.1 f.0;
          listed = listing_same S h (rows_held S s) rs i.1 f.0;
        }

-- ---- demand 2's map, from the same statements

update_cut : (c x : List ℕ) (rs : List Row) → place_of (cut c rs) x ≡ update (place_of rs) c none x
unfolding update
update_cut c x rs = map_remove c x rs

update_put : (r : Row) (x : List ℕ) (rs : List Row) → place_of (r ∷ cut r.code rs) x ≡ update (place_of rs) r.code (some r.place) x
unfolding update
update_put r x rs = map_put r x rs

module _ (S : Shape) (h : List ℕ → ℕ) (sized : Sized S) (fresh : AcceptedIsAfresh S h) (puts : PutRows S h) (over : OverRows S h) (removes : RemoveRows S h) where
  put_answer_lem : (s c : List ℕ) (p : Place) (m : ℕ) (x : Out × List ℕ) → Answers (put_table S h s c p m) x → ok x.0 ≡ true → x.0 ≡ put_answer (map_of S s (fold c))
  put_answer_lem s c p m = put_each S h s (λ x. ok x.0 ≡ true → x.0 ≡ put_answer (map_of S s (fold c))) c p
      (record { kept = λ o f g. absurd (true≢false (sym g ∙ f)); over = λ old k t b f. ap put_answer (sym k); fresh = λ un n6 n7 t b f. ap put_answer (sym un) }) m

  remove_answer : (s c : List ℕ) → Accepted S h s → (x : Out × List ℕ) → Answers (remove_table S h s c) x
      → GoodCode c → x.0 ≡ answer_of (map_of S s (fold c))
  unfolding remove_table
  remove_answer s c a = each (λ x. GoodCode c → x.0 ≡ answer_of (map_of S s (fold c))) (remove_table S h s c) (
    (λ _ r. absurd (r a.long)),
    (λ _. (
      (λ _ r x e g. absurd (no_three c g r)),
      (λ _. (
        (λ p b. absurd (accepted_whole S h s a p b)),
        (λ _ _. ((λ old k x e g. e.0 ∙ ap answer_of (sym k)), (λ un x e g. ap (λ q. q.0) e ∙ ap answer_of (sym (nothing_there _ un))))),
      )),
    )),
  )

  -- the map after a call that is not refused
  map_after : (c : Call) (s : List ℕ) (o : Out) (t : List ℕ) → Accepted S h s → Made S h c s o t → ok o ≡ true → (x : List ℕ) → map_of S t x ≡ place_of (rows_after c (rows_held S s)) x
  map_after c s o t a m f x =
      let b : Accepted S h t = (accepted_always S h sized c s o t a m).0 in
      (same_map (left S h sized puts over removes c s o t a m) (fresh t b).0).1 x ∙ ap (λ k. place_of (pick k (rows_after c (rows_held S s)) (rows_held S s)) x) f

  pub put_is_map : PutIsMap S h
  put_is_map s c p m o t a made = (
    (λ f. (put_answer_lem s c p m (o, t) made f, (λ x. map_after (put c p m) s o t a made f x ∙ update_put (record { code = fold c; place = stored p }) x (rows_held S s)))),
    refusal_keeps S h (put c p m) s o t made,
  )

  remove_map : (s c : List ℕ) (o : Out) (t : List ℕ) → Accepted S h s → Made S h (remove c) s o t
      → (b : Option (List ℕ)) → map_of S s (fold c) ≡ b → o ≡ answer_of b → (x : List ℕ) → map_of S t x ≡ update (map_of S s) (fold c) none x
  remove_map s c o t a m none e f x =
      ap (λ y. map_of S y x) (refusal_keeps S h (remove c) s o t m (ap ok f))
      ∙ sym (ap (λ l. place_of l x) (cut_none (fold c) (rows_held S s) e)) ∙ update_cut (fold c) x (rows_held S s)
  remove_map s c o t a m (some b) e f x = map_after (remove c) s o t a m (ap ok f) x ∙ update_cut (fold c) x (rows_held S s)

  pub remove_is_map : RemoveIsMap S h
  remove_is_map s c o t a m g = let w = remove_answer s c a (o, t) m g in (w, remove_map s c o t a m (map_of S s (fold c)) refl w)
