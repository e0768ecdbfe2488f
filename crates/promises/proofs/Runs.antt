-- A program that keeps the tables, run from a format of four pages of 1,024 bytes: what it has stored so far, and that a put that need not be refused is not. Assumes nothing.
use borrow.Author.Tests.{le-leb}
use mathlib.Core.Path.{◌≡◌, refl, sym, ap, subst, ◌∙◌}
use mathlib.Core.Bool.{Bool, true, false}
use mathlib.Core.List.{List, [], ◌∷◌}
use mathlib.Core.Logic.{inl, inr, ⊎_elim}
use mathlib.Core.Option.{none}
use Prim.Native.Nat.{ℕ, ◌-◌, ◌/◌, ◌≤◌, ◌<◌}
use native.Mathlib.Omega.{arith}
use lib.IntN.{pos}
use lib.ListN.{length, replicate, length-replicate}
use Rattle.ground.specs.Ladder.{Answers}
use Rattle.ground.proofs.Ladders.{each}
use Rattle.words.proofs.Bytes.{small_append, small_bytes, small_zeros}
use Rattle.words.specs.Folds.{fold, Folded}
use Rattle.partition.specs.Bits.{top}
use Rattle.partition.specs.Partition.{Row, Reordered, front, needs, rows_of, grade, fitting, walk, buckets}
use Rattle.partition.specs.Sizes.{shape_at, shape_for, number_of_size, shape_of}
use Rattle.partition.specs.Listing.{without, place_of}
use Rattle.partition.proofs.Laws.{load_reordered, reordered}
use Rattle.partition.proofs.Maps.{cut_none}
use Rattle.partition.proofs.Reorders.{turned}
use Rattle.partition.proofs.Rows.{rows_all}
use Rattle.partition.proofs.Sorted.{same_map}
use Rattle.partition.proofs.Splice.{walk_fits}
use Rattle.page.specs.declared.Place.{Place}
use Rattle.page.specs.Places.{stored, Negative, InRange}
use Rattle.page.proofs.Signs.{positive}
use Rattle.store.specs.Pages.{S1024, pages, rows_held}
use Rattle.store.specs.Accepted.{GoodLength, Accepted}
use Rattle.store.specs.Moves.{pick}
use Rattle.store.specs.Tables.{Out, formatted, new, blank, format_table, format_sized, lookup_table, put_table, remove_table, row_table}
use Rattle.store.specs.Demands.{Hash, format, put, Made, ok, GoodCode, map_of, put_answer, Refuses, History, begin, next, rows_after, sized_1024}
use Rattle.store.proofs.Accepted.OwnSize.{size_is_said}
use Rattle.store.proofs.Demands.Kept.{unrefused}
use Rattle.store.proofs.Demands.Modes.{put_each}
use Rattle.store.proofs.Demands.Whole.{demand_2, demand_3}
use Rattle.promises.specs.Programs.{Program, Bytes, Meets}

abbrev pub row_of : List ℕ → Place → Row
row_of c p = record { code = c; place = stored p }

-- the place (n, 0, 0)
abbrev pub at : ℕ → Place
at n = record { page = pos n; slot = pos 0; volume = pos 0 }

pub in_range : (n : ℕ) → n < 2 → InRange (at n)
in_range n l = record { page = omega arith; slot = omega arith; volume = omega arith }

pub natural : (n : ℕ) → Negative (at n) → ⊥
natural n x = ⊎_elim (positive n) (λ y. ⊎_elim (positive 0) (positive 0) y) x

-- a put leaves bytes
put_bytes : (h : List ℕ → ℕ) (s c : List ℕ) (p : Place) (m : ℕ) → Bytes s → (x : Out × List ℕ) → Answers (put_table S1024 h s c p m) x → Bytes x.1
put_bytes h s c p m b = put_each S1024 h s (λ x. Bytes x.1) c p (record { kept = λ _ _. b; over = λ _ _ t e. e.byte_size; fresh = λ _ _ _ t e. e.byte_size }) m

-- rows that fit together have one bucket, whatever the hash
module _ (h : List ℕ → ℕ) (hash : Hash h) where
  pub room : (q : Row) (qs : List Row) → needs (q ∷ qs) ≤ 1016 → length (buckets S1024 h (q ∷ qs)) ≤ 1
  unfolding buckets grade
  room q qs l =
      let e : buckets S1024 h (q ∷ qs) ≡ walk (λ k v. grade 1016 (rows_of h (q ∷ qs) k v)) 8 (grade 1016 (q ∷ qs)) 0 0
      = ap (λ rs. walk (λ k v. grade 1016 (rows_of h (q ∷ qs) k v)) 8 (grade 1016 rs) 0 0) (rows_all h hash (q ∷ qs)) in
      let f = walk_fits (λ k v. grade 1016 (rows_of h (q ∷ qs) k v)) 8 0 0 in
      let g : grade 1016 (q ∷ qs) ≡ fitting true = ap fitting (le-leb (needs (q ∷ qs)) 1016 l) in
      omega (arith, ap length (e ∙ ap (λ g. walk (λ k v. grade 1016 (rows_of h (q ∷ qs) k v)) 8 g 0 0) g ∙ f))

-- four pages of zeros
unfoldable pub zeros : List ℕ
zeros = replicate 4096 0

zeros_long : length zeros ≡ 4096
unfolding zeros
zeros_long = length-replicate {A = ℕ} 4096 0

zeros_small : Bytes zeros
unfolding zeros
zeros_small = (small_zeros 4096).at

module _ (h : List ℕ → ℕ) (hash : Hash h) (P : Program) (meets : Meets h P) where
  -- where the program has come: its rows, its store of four pages
  pub record At (rs : List Row) (t : List ℕ) : Type 0 where
    pub past : History S1024 h rs t
    pub long : length t ≡ 4096
    pub small : Bytes t

  -- where it has come is what is worked out afresh
  pub accepted_at : {rs : List Row} {t : List ℕ} → At rs t → Accepted S1024 h t
  accepted_at {rs} {t} w = ((demand_3 S1024 h sized_1024 hash).0 rs t w.past).keeps

  pub same_at : {rs : List Row} {t : List ℕ} → At rs t → Reordered (rows_held S1024 t) rs
  same_at {rs} {t} w = ((demand_3 S1024 h sized_1024 hash).0 rs t w.past).same

  pub map_at : {rs : List Row} {t : List ℕ} → At rs t → (c : List ℕ) → map_of S1024 t c ≡ place_of rs c
  map_at {rs} {t} w c = sym ((same_map (turned (same_at w)) ((demand_3 S1024 h sized_1024 hash).0 rs t w.past).once).1 c)

  -- its store says 1,024, so each of its answers is one at that size
  own_at : {rs : List Row} {t : List ℕ} → At rs t → shape_of t ≡ S1024
  unfolding shape_at
  own_at {rs} {t} w = size_is_said 0 (omega arith) h t (accepted_at w)

  module _ {rs : List Row} {t : List ℕ} (w : At rs t) where
    pub looks_at : (c : List ℕ) → Bytes c → Answers (lookup_table S1024 h t c) (P.lookup t c)
    looks_at c b = subst (λ S. Answers (lookup_table S h t c) (P.lookup t c)) (own_at w) (meets.looks t c w.small b)

    pub puts_at : (c : List ℕ) (p : Place) (m : ℕ) → Bytes c → InRange p → Answers (put_table S1024 h t c p m) (P.put t c p m)
    puts_at c p m b r = subst (λ S. Answers (put_table S h t c p m) (P.put t c p m)) (own_at w) (meets.puts t c p m w.small b r)

    pub removes_at : (c : List ℕ) → Bytes c → Answers (remove_table S1024 h t c) (P.remove t c)
    removes_at c b = subst (λ S. Answers (remove_table S h t c) (P.remove t c)) (own_at w) (meets.removes t c w.small b)

    pub rows_at : (n : ℕ) (out : List ℕ) → Bytes out → Answers (row_table S1024 h t n out) (P.row t n out)
    rows_at n out b = subst (λ S. Answers (row_table S h t n out) (P.row t n out)) (own_at w) (meets.rows t n out w.small b)

    pub held_at : rows_held (shape_of t) t ≡ rows_held S1024 t
    held_at = ap (λ S. rows_held S t) (own_at w)

  zeros_good : GoodLength S1024 zeros
  zeros_good = record { whole = rw zeros_long refl; least = rw zeros_long (omega arith); most = rw zeros_long (omega arith) }

  abbrev pub begun : List ℕ
  begun = (P.format 1024 zeros).1

  formats_it : (x : Out × List ℕ) → Answers (format_sized 1024 zeros) x → x ≡ (formatted, blank S1024 zeros)
  unfolding format_sized format_table shape_for
  formats_it x m = each (λ x. x ≡ (formatted, blank S1024 zeros)) (format_sized 1024 zeros) ((λ _ b. absurd (b (inl refl))), (λ _. ((λ _ r. absurd (r zeros_good)), (λ _ x e. e)))) x m

  blank_small : Bytes (blank S1024 zeros)
  unfolding blank
  blank_small = (small_append (small_bytes 4 (pages S1024 zeros)) (small_append (small_bytes 4 1024) (small_append (small_bytes 4 256) (small_append (small_bytes 4 2048) (small_append (small_bytes 4 0) (small_append (small_bytes 4 (number_of_size S1024)) (small_zeros (length zeros - 24)))))))).at

  -- a format, and no rows
  pub at_first : At [] begun
  unfolding format_table
  at_first =
      let e : P.format 1024 zeros ≡ (formatted, blank S1024 zeros) = formats_it (P.format 1024 zeros) (meets.formats 1024 zeros zeros_small) in
      let f : Made S1024 h format zeros formatted begun = inr ((λ _ r. r zeros_good), ap (λ (q : Out × List ℕ). (formatted, q.1)) e) in
      record {
        past = begin zeros f;
        long = ((demand_2 S1024 h sized_1024 hash).11 zeros begun f).2 ∙ zeros_long;
        small = rw (ap (λ q. q.1) e) blank_small;
      }

  -- a put of a new code, of mode 0, that neither 6 nor 7 refuses is stored
  module _ {rs : List Row} {t : List ℕ} (w : At rs t) (c : List ℕ) (p : Place) (good : GoodCode c) (small : Bytes c) (low : Folded c) (range : InRange p) (natural : Negative p → ⊥)
      (fresh : place_of rs c ≡ none) (near : needs (rows_of h (row_of c p ∷ rs) 8 (top 8 (h c))) ≤ 1016) (room : length (buckets S1024 h (row_of c p ∷ rs)) ≤ 2) where
    -- the row as it is stored
    abbrev r : Row
    r = row_of (fold c) p

    same_row : r ≡ row_of c p
    same_row = ap (λ x. row_of x p) low

    abbrev o : Out
    o = (P.put t c p 0).0

    abbrev pub then : List ℕ
    then = (P.put t c p 0).1

    made : Made S1024 h (put c p 0) t o then
    made = puts_at w c p 0 small range

    near_now : needs (rows_of h (r ∷ rs) 8 (top 8 (h (fold c)))) ≤ 1016
    near_now = subst (λ x. needs (rows_of h (row_of x p ∷ rs) 8 (top 8 (h x))) ≤ 1016) (sym low) near

    room_now : length (buckets S1024 h (r ∷ rs)) ≤ 2
    room_now = subst (λ x. length (buckets S1024 h (row_of x p ∷ rs)) ≤ 2) (sym low) room

    refuses : Refuses S1024 h t c p 0 → ⊥
    refuses = unrefused S1024 h t c p 0 good natural (inl refl) (λ x _ _. omega (arith, x)) (λ _. (
      (λ x. omega (arith, x)),
      (λ x. omega (arith, near_now, load_reordered S1024 h (front r (same_at w)) 8 (top 8 (h (fold c))))),
      (λ x. let e : length t / 1024 ≡ 4 = rw w.long refl in omega (arith, room_now, ap length (reordered S1024 h (front r (same_at w))))),
    ))

    sure : (b : Bool) → ok o ≡ b → ok o ≡ true
    sure true e = e
    sure false e = absurd (refuses (((demand_2 S1024 h sized_1024 hash).4 t c p 0 o then (accepted_at w) made).0 e))

    pub says_new : o ≡ new
    says_new = (((demand_2 S1024 h sized_1024 hash).2 t c p 0 o then (accepted_at w) made).0 (sure (ok o) refl)).0 ∙ ap put_answer (map_at w (fold c) ∙ ap (place_of rs) low ∙ fresh)

    pub at_next : At (row_of c p ∷ rs) then
    at_next = record {
      past = subst (λ (q : List Row). History S1024 h q then) (ap (λ (b : Bool). pick b (rows_after (put c p 0) rs) rs) (ap ok says_new) ∙ ap (λ x. row_of x p ∷ without (λ q. q.code) x rs) low ∙ ap (λ q. row_of c p ∷ q) (cut_none c rs fresh)) (next (put c p 0) o w.past made);
      long = ((demand_2 S1024 h sized_1024 hash).10 (put c p 0) t o then (accepted_at w) made).1 ∙ w.long;
      small = put_bytes h t c p 0 w.small (o, then) made;
    }
