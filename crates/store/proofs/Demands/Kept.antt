-- A refused call keeps every byte, and those of demand 2's statements that the tables alone give. Assumes nothing.
use mathlib.Core.Path.{◌≡◌, refl, sym, ap, ◌∙◌}
use mathlib.Core.Bool.{true, false, true≢false}
use mathlib.Core.List.{List}
use mathlib.Core.Logic.{◌⊎◌, inl, inr, ◌↔◌}
use mathlib.Core.Option.{some, none}
use Prim.Native.Nat.{ℕ, ◌≤◌, ◌<◌}
use native.Mathlib.Omega.{arith}
use lib.ListN.{length}
use Rattle.ground.proofs.Tests.{none_some}
use Rattle.partition.specs.declared.Shape.{Shape}
use Rattle.words.specs.Folds.{fold}
use Rattle.page.specs.declared.Place.{Place}
use Rattle.ground.specs.Ladder.{Answers}
use Rattle.store.specs.Pages.{Page, rows_held}
use Rattle.store.specs.Accepted.{Accepted}
use Rattle.page.specs.Places.{stored, Negative}
use Rattle.store.specs.Tables.{Out, refused, accepted, Becomes, format_table, check_table, lookup_table, put_table, put_before, remove_table, row_table, inspect_table, Refusal3, Refusal6, Refusal7, Refusal14}
use Rattle.store.specs.Demands.{format, check, count, lookup, remove, put, row_at, inspect, Made, ok, RefusalKeeps, OutputKept, GoodCode, Mode, CheckExact, LookupIsMap, Refuses, no_code, negative, no_mode, known, absent, prefix_full, pages_full, PutRefused, EitherAsBefore, AcceptedAgain, map_of, answer_of}
use Rattle.ground.proofs.Sides.{side}
use Rattle.ground.proofs.Ladders.{each}
use Rattle.store.proofs.Accepted.Rules.{accepted_whole}
use Rattle.store.proofs.Demands.Modes.{nothing_there, mode_0, put_each}

-- the result, if it is refused, keeps x
abbrev Keeps : List ℕ → Out × List ℕ → Type 0
Keeps x r = ok r.0 ≡ false → r.1 ≡ x

-- a refusal's row keeps it, and an answer that is no refusal needs to keep nothing
row_keeps : {x : List ℕ} {o : Out} (r : Out × List ℕ) → r ≡ (o, x) → Keeps x r
row_keeps r e f = ap (λ q. q.1) e

free : {x : List ℕ} (o : Out) (r : Out × List ℕ) → ok o ≡ true → r.0 ≡ o → Keeps x r
free o r y e f = absurd (true≢false (sym y ∙ ap ok (sym e) ∙ f))

module _ (S : Shape) (h : List ℕ → ℕ) where
  format_keeps : (s : List ℕ) (r : Out × List ℕ) → Answers (format_table S s) r → Keeps s r
  unfolding format_table
  format_keeps s = each (Keeps s) (format_table S s) ((λ _ _. row_keeps), (λ _ r e. free _ r refl (ap (λ q. q.0) e)))

  remove_keeps : (s c : List ℕ) (r : Out × List ℕ) → Answers (remove_table S h s c) r → Keeps s r
  unfolding remove_table
  remove_keeps s c = each (Keeps s) (remove_table S h s c)
      ((λ _ _. row_keeps), (λ _. ((λ _ _. row_keeps), (λ _. ((λ _ _. row_keeps), (λ _ _. ((λ old _ r e. free _ r refl e.0), (λ _. row_keeps))))))))

  put_keeps : (s c : List ℕ) (p : Place) (m : ℕ) (r : Out × List ℕ) → Answers (put_table S h s c p m) r → Keeps s r
  put_keeps s c p m = put_each S h s (Keeps s) c p (record { kept = λ o _ _. refl; over = λ old k t b f. absurd (true≢false f); fresh = λ un n6 n7 t b f. absurd (true≢false f) }) m

  row_keeps_out : (s : List ℕ) (n : ℕ) (out : List ℕ) (r : Out × List ℕ) → Answers (row_table S h s n out) r → Keeps out r
  unfolding row_table
  row_keeps_out s n out = each (Keeps out) (row_table S h s n out)
      ((λ _ _. row_keeps), (λ _. ((λ _ _. row_keeps), (λ _. ((λ _ _. row_keeps), (λ _ _. ((λ x _ r e. free _ r refl (ap (λ q. q.0) e)), (λ _. row_keeps))))))))

  inspect_keeps_out : (g : List ℕ) (n : ℕ) (out : List ℕ) (r : Out × List ℕ) → Answers (inspect_table S h g n out) r → Keeps out r
  unfolding inspect_table
  inspect_keeps_out g n out = each (Keeps out) (inspect_table S h g n out)
      ((λ _ _. row_keeps), (λ _. ((λ _ _. row_keeps), (λ _. ((λ _ _. row_keeps), (λ _ _. ((λ x _ r e. free _ r refl (ap (λ q. q.0) e)), (λ _. row_keeps))))))))

  pub refusal_keeps : RefusalKeeps S h
  refusal_keeps format s o t m = format_keeps s (o, t) m
  refusal_keeps check s o t m = λ _. m.1
  refusal_keeps count s o t m = λ _. m.1
  refusal_keeps (lookup c) s o t m = λ _. m.1
  refusal_keeps (remove c) s o t m = remove_keeps s c (o, t) m
  refusal_keeps (put c p mode) s o t m = put_keeps s c p mode (o, t) m
  refusal_keeps (row_at n out) s o t m = λ _. m.1
  refusal_keeps (inspect g n out) s o t m = λ _. m.1

  pub output_kept : OutputKept S h
  output_kept s n out o out' (inl m) = row_keeps_out s n out (o, out') m
  output_kept s n out o out' (inr m) = inspect_keeps_out s n out (o, out') m

-- ---- demand 2

-- a code is refused by its length exactly when it is no code
pub no_three : (c : List ℕ) → GoodCode c → Refusal3 c → ⊥
no_three c g (inl e) = omega (arith, g.least)
no_three c g (inr l) = omega (arith, g.most)

pub three : (c : List ℕ) → (GoodCode c → ⊥) → Refusal3 c
three c n = go (side (length c) 1) (side 64 (length c))
  where
    go : (length c < 1) ⊎ (1 ≤ length c) → (64 < length c) ⊎ (length c ≤ 64) → Refusal3 c
    go (inl a) _ = inl (omega arith)
    go (inr a) (inl b) = inr b
    go (inr a) (inr b) = absurd (n (record { least = a; most = b }))

-- a mode is refused exactly when it is none
pub no_fourteen : (m : ℕ) → Mode m → Refusal14 m → ⊥
no_fourteen m (inl e) l = omega arith
no_fourteen m (inr (inl e)) l = omega arith
no_fourteen m (inr (inr e)) l = omega arith

pub a_mode : (m : ℕ) → (Refusal14 m → ⊥) → Mode m
a_mode m n = go (side m 1) (side m 2) (side 2 m)
  where
    go : (m < 1) ⊎ (1 ≤ m) → (m < 2) ⊎ (2 ≤ m) → (2 < m) ⊎ (m ≤ 2) → Mode m
    go (inl a) _ _ = inl (omega arith)
    go (inr a) (inl b) _ = inr (inl (omega arith))
    go (inr a) (inr b) (inl l) = absurd (n (omega arith))
    go (inr a) (inr b) (inr l) = inr (inr (omega arith))

pub good_code : (c : List ℕ) → (Refusal3 c → ⊥) → GoodCode c
good_code c n = go (side (length c) 1) (side 64 (length c))
  where
    go : (length c < 1) ⊎ (1 ≤ length c) → (64 < length c) ⊎ (length c ≤ 64) → GoodCode c
    go (inl a) _ = absurd (n (inl (omega arith)))
    go (inr a) (inl b) = absurd (n (inr b))
    go (inr a) (inr b) = record { least = a; most = b }

module _ (S : Shape) (h : List ℕ → ℕ) where
  pub check_exact : CheckExact S h
  unfolding check_table
  check_exact s = (
    (λ m. each (λ o. ok o ≡ true → Accepted S h s) (check_table S h s)
        ((λ _ _ o e f. absurd (true≢false (sym f ∙ ap ok e))), (λ _. ((λ p _ o e f. absurd (true≢false (sym f ∙ ap ok e))), (λ _ a o e f. a)))) accepted m.0 refl),
    (λ a. (inr ((λ _ r. r a.long), inr (accepted_whole S h s a, (a, refl))), refl)),
  )

  pub lookup_is_map : LookupIsMap S h
  unfolding lookup_table
  lookup_is_map s c o t a m g = each (λ o. o ≡ answer_of (map_of S s (fold c))) (lookup_table S h s c) (
    (λ _ r. absurd (r a.long)),
    (λ _. (
      (λ _ r. absurd (no_three c g r)),
      (λ _. (
        (λ p b. absurd (accepted_whole S h s a p b)),
        (λ _ _. ((λ b e o f. f ∙ ap answer_of (sym e)), (λ n o f. f ∙ ap answer_of (sym (nothing_there (map_of S s (fold c)) n))))),
      )),
    )),
  ) o m.0

  -- none of the ways to refuse a put: for a known code only the mode counts, for a new one the mode, 6 and 7
  pub unrefused : (s c : List ℕ) (p : Place) (m : ℕ) → GoodCode c → (Negative p → ⊥) → Mode m → (m ≡ 1 → (old : List ℕ) → map_of S s (fold c) ≡ some old → ⊥)
      → (map_of S s (fold c) ≡ none → (m ≡ 2 → ⊥) × (Refusal6 S h (rows_held S s) (record { code = fold c; place = stored p }) → ⊥) × (Refusal7 S h s (rows_held S s) (record { code = fold c; place = stored p }) → ⊥))
      → Refuses S h s c p m → ⊥
  unrefused s c p m g n q k u (no_code x) = x g
  unrefused s c p m g n q k u (negative x) = n x
  unrefused s c p m g n q k u (no_mode x) = x q
  unrefused s c p m g n q k u (known e old x) = k e old x
  unrefused s c p m g n q k u (absent e x) = (u x).0 e
  unrefused s c p m g n q k u (prefix_full x f) = (u x).1 f
  unrefused s c p m g n q k u (pages_full x f) = (u x).2 f

  pub put_refused : PutRefused S h
  unfolding put_table
  put_refused s c p m o t a made = each (λ r. (ok r.0 ≡ false) ↔ Refuses S h s c p m) (put_table S h s c p m) (
    (λ _ r. absurd (r a.long)),
    (λ _. (
      (λ _ r. by (no_code (λ g. no_three c g r))),
      (λ n3. (
        (λ _ r. by (negative r)),
        (λ n4. (
          (λ _ r. by (no_mode (λ g. no_fourteen m g r))),
          (λ n14. (
            (λ q b. absurd (accepted_whole S h s a q b)),
            (λ _ _. (
              (λ _ r. by (known r.0 r.1.0 r.1.1)),
              (λ n13. (
                (λ _ r. by (absent r.0 r.1)),
                (λ n5. (
                  (λ old k x e. stays x.0 (ap ok e.0) (unrefused s c p m (good_code c (n3 tt)) (n4 tt) (a_mode m (n14 tt)) (λ f old q. n13 tt (f, (old, q))) (λ z. absurd (none_some z k)))),
                  (λ un. (
                    (λ _ r. by (prefix_full (nothing_there _ un) r)),
                    (λ n6. (
                      (λ _ r. by (pages_full (nothing_there _ un) r)),
                      (λ n7 x e. stays x.0 (ap ok e.0) (unrefused s c p m (good_code c (n3 tt)) (n4 tt) (a_mode m (n14 tt)) (λ f old q. n13 tt (f, (old, q))) (λ z. ((λ f. n5 tt (f, z)), n6 tt, n7 tt)))),
                    )),
                  )),
                )),
              )),
            )),
          )),
        )),
      )),
    )),
  ) (o, t) made
    where
      by : {n : ℕ} {u : List ℕ} → Refuses S h s c p m → (x : Out × List ℕ) → x ≡ (refused n, u) → (ok x.0 ≡ false) ↔ Refuses S h s c p m
      by d x e = ((λ _. d), (λ _. ap (λ q. ok q.0) e))

      stays : (o : Out) → ok o ≡ true → (Refuses S h s c p m → ⊥) → (ok o ≡ false) ↔ Refuses S h s c p m
      stays o f n = ((λ g. absurd (true≢false (sym f ∙ g))), (λ d. absurd (n d)))

  -- the store is accepted again, format's apart
  abbrev Again : List ℕ → Out × List ℕ → Type 0
  Again s r = Accepted S h r.1 × (length r.1 ≡ length s)

  same_again : (s : List ℕ) {o : Out} → Accepted S h s → (r : Out × List ℕ) → r ≡ (o, s) → Again s r
  same_again s a r e = let q : r.1 ≡ s = ap (λ q. q.1) e in (rw q a, ap length q)

  wrote_again : (s : List ℕ) (o : Out) (gs : List Page) (r : Out × List ℕ) → (r.0 ≡ o) × Becomes S h s gs r.1 → Again s r
  wrote_again s o gs r e = (e.1.again, e.1.long)

  pub put_again : (s c : List ℕ) (p : Place) (m : ℕ) → Accepted S h s → (r : Out × List ℕ) → Answers (put_table S h s c p m) r → Again s r
  put_again s c p m a = put_each S h s (Again s) c p (record { kept = λ o _. (a, refl); over = λ old k t b. (b.again, b.long); fresh = λ un n6 n7 t b. (b.again, b.long) }) m

  -- MODE 0 ANSWERS AS BEFORE
  to_before : (s c : List ℕ) (p : Place) (x : Out × List ℕ) → Answers (put_table S h s c p 0) x → Answers (put_before S h s c p) x
  unfolding put_table put_before
  to_before s c p x (inl w) = inl w
  to_before s c p x (inr (n1, inl w)) = inr (n1, inl w)
  to_before s c p x (inr (n1, inr (n3, inl w))) = inr (n1, inr (n3, inl w))
  to_before s c p x (inr (n1, inr (n3, inr (n4, inl w)))) = absurd (omega (arith, w.1.0))
  to_before s c p x (inr (n1, inr (n3, inr (n4, inr (n14, inl w))))) = inr (n1, inr (n3, inr (n4, inl w)))
  to_before s c p x (inr (n1, inr (n3, inr (n4, inr (n14, inr (n2, (a, w))))))) = inr (n1, inr (n3, inr (n4, inr (n2, (a, (mode_0 S h s _ x).0 w)))))

  from_before : (s c : List ℕ) (p : Place) (x : Out × List ℕ) → Answers (put_before S h s c p) x → Answers (put_table S h s c p 0) x
  unfolding put_table put_before
  from_before s c p x (inl w) = inl w
  from_before s c p x (inr (n1, inl w)) = inr (n1, inl w)
  from_before s c p x (inr (n1, inr (n3, inl w))) = inr (n1, inr (n3, inl w))
  from_before s c p x (inr (n1, inr (n3, inr (n4, inl w)))) = inr (n1, inr (n3, inr (n4, inr ((λ _ l. omega arith), inl w))))
  from_before s c p x (inr (n1, inr (n3, inr (n4, inr (n2, (a, w)))))) =
      inr (n1, inr (n3, inr (n4, inr ((λ _ l. omega arith), inr (n2, (a, (mode_0 S h s _ x).1 w))))))

  pub either_as_before : EitherAsBefore S h
  either_as_before s c p x = (to_before s c p x, from_before s c p x)

  pub remove_again : (s c : List ℕ) → Accepted S h s → (r : Out × List ℕ) → Answers (remove_table S h s c) r → Again s r
  unfolding remove_table
  remove_again s c a = each (Again s) (remove_table S h s c)
      ((λ _ _. same_again s a), (λ _. ((λ _ _. same_again s a), (λ _. ((λ _ _. same_again s a), (λ _ _. ((λ old _. wrote_again s _ _), (λ _. same_again s a))))))))

  kept_again : (s t : List ℕ) → Accepted S h s → t ≡ s → Accepted S h t × (length t ≡ length s)
  kept_again s t a e = (rw e a, ap length e)

  pub accepted_again : ((s t : List ℕ) → Accepted S h s → (o : Out) → Made S h format s o t → Accepted S h t × (length t ≡ length s)) → AcceptedAgain S h
  accepted_again f format s o t a m = f s t a o m
  accepted_again f check s o t a m = kept_again s t a m.1
  accepted_again f count s o t a m = kept_again s t a m.1
  accepted_again f (lookup c) s o t a m = kept_again s t a m.1
  accepted_again f (remove c) s o t a m = remove_again s c a (o, t) m
  accepted_again f (put c p mode) s o t a m = put_again s c p mode a (o, t) m
  accepted_again f (row_at n out) s o t a m = kept_again s t a m.1
  accepted_again f (inspect g n out) s o t a m = kept_again s t a m.1
