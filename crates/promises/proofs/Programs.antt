-- THE WRONG PROGRAMS ARE TURNED AWAY: none of them keeps the tables. Assumes nothing.
use mathlib.Core.Path.{◌≡◌, refl, sym, ap, subst, ◌∙◌}
use mathlib.Core.Bool.{true, false, true≢false}
use mathlib.Core.List.{List, [], ◌∷◌}
use mathlib.Core.Logic.{◌↔◌, inl, ⊎_elim}
use mathlib.Core.Option.{some, none}
use Prim.Native.Nat.{ℕ, zero, suc, ◌≤◌, ◌<◌}
use native.Mathlib.Omega.{arith}
use lib.Signed.{mag}
use lib.ListN.{length, replicate, get_elem?}
use lib.Seq.{ext_get_or}
use Rattle.ground.proofs.Tests.{none_some}
use Rattle.ground.specs.Ladder.{Answers}
use Rattle.ground.proofs.Sides.{side}
use Rattle.words.specs.Codes.{order}
use Rattle.words.specs.Folds.{fold_byte, fold, Folded}
use Rattle.words.proofs.Bytes.{small_zeros}
use Rattle.partition.specs.Bits.{top}
use Rattle.partition.specs.Partition.{Row, need, needs}
use Rattle.partition.specs.Listing.{place_of, listing, Once}
use Rattle.partition.specs.Sizes.{shape_of}
use Rattle.partition.proofs.Sizes.{sized_of}
use Rattle.partition.proofs.Maps.{absent}
use Rattle.partition.proofs.Reorders.{length_same}
use Rattle.page.specs.declared.Place.{Place}
use Rattle.page.specs.Places.{place_from, stored}
use Rattle.store.specs.Pages.{S1024, rows_held}
use Rattle.store.specs.Accepted.{Accepted}
use Rattle.store.specs.Tables.{Out, row, new, found, row_table}
use Rattle.store.specs.Demands.{Hash, ok, GoodCode, AtStart, Nth, map_of, update, answer_of, Refuses, known, sized_1024}
use Rattle.store.proofs.Demands.Given.{member}
use Rattle.store.proofs.Demands.Kept.{unrefused}
use Rattle.store.proofs.Result.Fitted.{prefix_needs}
use Rattle.store.proofs.Demands.Whole.{demand_2}
use Rattle.promises.specs.Programs.{Program, Bytes, Meets, RefusesEveryPut, ReplacesSilently, OneFixedPlace, RepeatsOneRow, OnlyAnswers, StoresOnlyTheFirst, Miscounts}
use Rattle.promises.proofs.Runs.{row_of, at, in_range, natural, room, At, accepted_at, same_at, map_at, looks_at, puts_at, removes_at, rows_at, held_at, begun, at_first, says_new, at_next}

-- ---- what is put: the codes "a" and "b", at the places (n, 0, 0)

abbrev a : List ℕ
a = 97 ∷ []

abbrev b : List ℕ
b = 98 ∷ []

one_good : (x : ℕ) → GoodCode (x ∷ [])
one_good x = record { least = omega arith; most = omega arith }

low_a : Folded a
unfolding fold fold_byte
low_a = refl

low_b : Folded b
unfolding fold fold_byte
low_b = refl

one_small : (x : ℕ) → x < 256 → Bytes (x ∷ [])
one_small x l zero = l
one_small x l (suc k) = omega arith

-- ---- each row is listed once

here : (l : List Row) (n : ℕ) → n < length l → (r : Row) × (get_elem? l n ≡ some r)
here [] n m = absurd (omega arith)
here (x ∷ l) zero m = (x, refl)
here (x ∷ l) (suc n) m = here l n (omega arith)

-- where no code is twice, one code has one index
once_index : (l : List Row) → Once l → (n m : ℕ) (r q : Row) → get_elem? l n ≡ some r → get_elem? l m ≡ some q → r.code ≡ q.code → n ≡ m
once_index [] o n m r q e f g = absurd (none_some refl e)
once_index (x ∷ l) o zero zero r q e f g = refl
once_index (x ∷ l) o zero (suc m) r q e f g =
    let x_r : x ≡ r = cc in
    absurd (absent l x.code o.0 q (member l m q f) (ap (λ t. t.code) x_r ∙ g))
once_index (x ∷ l) o (suc n) zero r q e f g =
    let x_q : x ≡ q = cc in
    absurd (absent l x.code o.0 r (member l n r e) (ap (λ t. t.code) x_q ∙ sym g))
once_index (x ∷ l) o (suc n) (suc m) r q e f g = ap suc (once_index l o.1 n m r q e f g)

-- a row that is given is in the list
row_there : (l : List Row) (n : ℕ) (out : List ℕ) (o : Out) (out' : List ℕ) → Nth l n out o out' → ok o ≡ true
    → (r : Row) × (get_elem? l n ≡ some r) × (o ≡ row (length r.code) (place_from r.place)) × AtStart r.code out out'
row_there l n out o out' w t = ⊎_elim
    (λ m. let r = here l n m in let x = w.is r.0 r.1 in (r.0, r.1, x.0, x.1))
    (λ m. absurd (true≢false (sym t ∙ ap ok (w.past m).0)))
    (side n (length l))

-- one output, one code
same_code : (c d out out' : List ℕ) → length c ≡ length d → AtStart c out out' → AtStart d out out' → c ≡ d
same_code c d out out' e u v = ext_get_or 0 c d e (λ i l. sym (u.start i l) ∙ v.start i (omega arith))

module _ (h : List ℕ → ℕ) (hash : Hash h) where
  -- two places of the listing never give the same
  pub rows_apart : (s : List ℕ) → Accepted S1024 h s → (n m : ℕ) (out : List ℕ) → 64 ≤ length out → (x y : Out × List ℕ)
      → Answers (row_table S1024 h s n out) x → Answers (row_table S1024 h s m out) y → ok x.0 ≡ true → ok y.0 ≡ true → x ≡ y → n ≡ m
  rows_apart s a n m out long x y p q t u e =
      let d = demand_2 S1024 h sized_1024 hash in
      let l : List Row = listing S1024 h (rows_held S1024 s) in
      let v = row_there l n out x.0 x.1 (d.7 s n out x.0 x.1 a long p) t in
      let w = row_there l m out y.0 y.1 (d.7 s m out y.0 y.1 a long q) u in
      let k : length v.0.code ≡ length w.0.code = size (sym v.2 ∙ ap (λ z. z.0) e ∙ w.2) in
      once_index l (d.5 s a).0 n m v.0 w.0 v.1 w.1
      (same_code v.0.code w.0.code out y.1 k (subst (λ z. AtStart v.0.code out z) (ap (λ z. z.1) e) v.3) w.3)
    where
      size : {i j : ℕ} {f g : Place} → row i f ≡ row j g → i ≡ j
      size r = cc

module _ (h : List ℕ → ℕ) (hash : Hash h) where
  module _ (P : Program) (meets : Meets h P) where
    -- "a" is put into a new store
    abbrev one : ℕ → List ℕ
    one n = (P.put (begun h hash P meets) a (at n) 0).1

    abbrev row_a : ℕ → Row
    row_a n = row_of a (at n)

    needs_a : (n : ℕ) → needs (row_a n ∷ []) ≡ 13
    unfolding needs need
    needs_a n = refl

    -- it is said to be new, and is there
    module _ (n : ℕ) (l : n < 2) where
      said_a : (P.put (begun h hash P meets) a (at n) 0).0 ≡ new
      unfolding place_of
      said_a = says_new h hash P meets (at_first h hash P meets) a (at n) (one_good 97) (one_small 97 (omega arith)) low_a (in_range n l) (natural n) refl
          (omega (arith, prefix_needs h (row_a n ∷ []) 8 (top 8 (h a)), needs_a n)) (omega (arith, room h hash (row_a n) [] (omega (arith, needs_a n))))

      with_a : At h hash P meets (row_a n ∷ []) (one n)
      unfolding place_of
      with_a = at_next h hash P meets (at_first h hash P meets) a (at n) (one_good 97) (one_small 97 (omega arith)) low_a (in_range n l) (natural n) refl
          (omega (arith, prefix_needs h (row_a n ∷ []) 8 (top 8 (h a)), needs_a n)) (omega (arith, room h hash (row_a n) [] (omega (arith, needs_a n))))

      holds_a : map_of S1024 (one n) a ≡ some (stored (at n))
      unfolding place_of order
      holds_a = map_at h hash P meets with_a a

      -- also as it is given
      given_a : map_of S1024 (one n) (fold a) ≡ some (stored (at n))
      given_a = ap (map_of S1024 (one n)) low_a ∙ holds_a

    -- ONE THAT REFUSES EVERY PUT
    pub refuses_every_put : RefusesEveryPut P → ⊥
    refuses_every_put f = true≢false (sym (ap ok (said_a 0 (omega arith))) ∙ f (begun h hash P meets) a (at 0) 0)

    -- ONE THAT REPLACES SILENTLY: "a" is there, so mode 1 is refused and mode 0 is not
    again : (m : ℕ) → (ok (P.put (one 0) a (at 1) m).0 ≡ false) ↔ Refuses S1024 h (one 0) a (at 1) m
    again m =
        let w = with_a 0 (omega arith) in
        (demand_2 S1024 h sized_1024 hash).4 (one 0) a (at 1) m (P.put (one 0) a (at 1) m).0 (P.put (one 0) a (at 1) m).1 (accepted_at h hash P meets w)
        (puts_at h hash P meets w a (at 1) m (one_small 97 (omega arith)) (in_range 1 (omega arith)))

    pub replaces_silently : ReplacesSilently P → ⊥
    replaces_silently f = replaces ((again 0).0 (ap (λ x. ok x.0) (sym (f (one 0) a (at 1))) ∙ (again 1).1 (known refl (stored (at 0)) (given_a 0 (omega arith)))))
      where
        replaces : Refuses S1024 h (one 0) a (at 1) 0 → ⊥
        replaces = unrefused S1024 h (one 0) a (at 1) 0 (one_good 97) (natural 1) (inl refl) (λ x _ _. omega (arith, x)) (λ x. absurd (none_some x (given_a 0 (omega arith))))

    -- LOOKUP WITH ONE FIXED PLACE
    looks_up : (n : ℕ) (l : n < 2) → P.lookup (one n) a ≡ found (at n)
    looks_up n l =
        let w = with_a n l in
        let d = demand_2 S1024 h sized_1024 hash in
        d.1 (one n) a (P.lookup (one n) a) (one n) (accepted_at h hash P meets w) (looks_at h hash P meets w a (one_small 97 (omega arith)), refl) (one_good 97)
        ∙ ap answer_of (given_a n l) ∙ ap found (d.9.0 (at n) (in_range n l) (natural n))

    pub one_fixed_place : OneFixedPlace P → ⊥
    one_fixed_place f =
        let e : at 0 ≡ at 1 = f.1 (one 0) a (at 0) (looks_up 0 (omega arith)) ∙ sym (f.1 (one 1) a (at 1) (looks_up 1 (omega arith))) in
        let z : ◌≡◌ {A = ℕ} 0 1 = ap (λ p. mag p.page) e in
        omega arith

    -- A REMOVE THAT ONLY ANSWERS
    pub only_answers : OnlyAnswers P → ⊥
    unfolding update order
    only_answers f =
        let w = with_a 0 (omega arith) in
        let t : List ℕ = one 0 in
        let m : map_of S1024 (P.remove t a).1 a ≡ update (map_of S1024 t) a none a =
        subst (λ x. map_of S1024 (P.remove t a).1 a ≡ update (map_of S1024 t) x none a) low_a
        (((demand_2 S1024 h sized_1024 hash).3 t a (P.remove t a).0 (P.remove t a).1 (accepted_at h hash P meets w) (removes_at h hash P meets w a (one_small 97 (omega arith))) (one_good 97)).1 a) in
        none_some (ap (λ s. map_of S1024 s a) (sym (f t a)) ∙ m) (holds_a 0 (omega arith))

    -- A COUNT THAT IS NOT THE MAP'S SIZE
    pub miscounts : Miscounts h P → ⊥
    miscounts f = f.3 ((demand_2 (shape_of f.0) h (sized_of f.0) hash).6 f.0 (P.count f.0) f.0 f.2 (meets.counts f.0 f.1, refl))

    -- then "b" is put
    abbrev two : List ℕ
    two = (P.put (one 0) b (at 1) 0).1

    abbrev row_b : Row
    row_b = row_of b (at 1)

    needs_b : needs (row_b ∷ row_a 0 ∷ []) ≡ 26
    unfolding needs need
    needs_b = refl

    said_b : (P.put (one 0) b (at 1) 0).0 ≡ new
    unfolding place_of order
    said_b = says_new h hash P meets (with_a 0 (omega arith)) b (at 1) (one_good 98) (one_small 98 (omega arith)) low_b (in_range 1 (omega arith)) (natural 1) refl
        (omega (arith, prefix_needs h (row_b ∷ row_a 0 ∷ []) 8 (top 8 (h b)), needs_b)) (omega (arith, room h hash row_b (row_a 0 ∷ []) (omega (arith, needs_b))))

    with_b : At h hash P meets (row_b ∷ row_a 0 ∷ []) two
    unfolding place_of order
    with_b = at_next h hash P meets (with_a 0 (omega arith)) b (at 1) (one_good 98) (one_small 98 (omega arith)) low_b (in_range 1 (omega arith)) (natural 1) refl
        (omega (arith, prefix_needs h (row_b ∷ row_a 0 ∷ []) 8 (top 8 (h b)), needs_b)) (omega (arith, room h hash row_b (row_a 0 ∷ []) (omega (arith, needs_b))))

    -- A PUT THAT STORES THE FIRST ROW AND THEN ONLY SAYS "NEW"
    pub stores_only_the_first : StoresOnlyTheFirst P → ⊥
    unfolding place_of order
    stores_only_the_first f =
        let some_row : rows_held (shape_of (one 0)) (one 0) ≡ [] → ⊥ = λ e. none_some (ap (λ rs. place_of rs a) (sym (held_at h hash P meets (with_a 0 (omega arith))) ∙ e)) (holds_a 0 (omega arith)) in
        let e : two ≡ one 0 = f (one 0) b (at 1) 0 some_row said_b in
        none_some (map_at h hash P meets (with_a 0 (omega arith)) b) (ap (λ s. map_of S1024 s b) (sym e) ∙ map_at h hash P meets with_b b)

    -- A LISTING THAT REPEATS ONE ROW
    pub repeats_one_row : RepeatsOneRow P → ⊥
    repeats_one_row f =
        let w = accepted_at h hash P meets with_b in
        let out : List ℕ = replicate 64 0 in
        let n : ◌≡◌ {A = ℕ} 0 1 = rows_apart h hash two w 0 1 out (omega arith) (P.row two 0 out) (P.row two 1 out) (asks 0) (asks 1) (gives 0 (omega arith)) (gives 1 (omega arith))
        (f two 0 1 out (gives 0 (omega arith)) (gives 1 (omega arith))) in
        omega arith
      where
        asks : (n : ℕ) → Answers (row_table S1024 h two n (replicate 64 0)) (P.row two n (replicate 64 0))
        asks n = rows_at h hash P meets with_b n (replicate 64 0) (small_zeros 64).at

        gives : (n : ℕ) → n < 2 → ok (P.row two n (replicate 64 0)).0 ≡ true
        gives n l =
            let d = demand_2 S1024 h sized_1024 hash in
            let w = accepted_at h hash P meets with_b in
            let k = length_same (d.5 two w).1 in
            let k' = length_same (same_at h hash P meets with_b) in
            let r = here (listing S1024 h (rows_held S1024 two)) n (omega arith) in
            ap ok ((d.7 two n (replicate 64 0) (P.row two n (replicate 64 0)).0 (P.row two n (replicate 64 0)).1 w (omega arith) (asks n)).is r.0 r.1).0
