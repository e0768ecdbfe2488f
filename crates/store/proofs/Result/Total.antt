-- EVERY TABLE HAS A RESULT: each call's table allows an answer with its bytes, whatever the store; put and remove come to a store that is accepted again. For every page
-- size and every hash of 32 bits. Assumes nothing.
use mathlib.Core.Path.{◌≡◌, refl}
use mathlib.Core.List.{List, ◌∷◌}
use mathlib.Core.Option.{Option, some, none}
use Prim.Native.Nat.{ℕ, ◌-◌, ◌<◌}
use native.Mathlib.Decide.{ℕ_discrete, dec_lt}
use native.Mathlib.Omega.{arith}
use lib.ListN.{length}
use lib.Signed.{mag}
use Rattle.ground.specs.Lists.{byte}
use Rattle.ground.proofs.Tests.{none_some}
use Rattle.words.specs.Folds.{fold, Folded}
use Rattle.words.proofs.Bytes.{small_append, small_bytes}
use Rattle.words.proofs.Folds.{fold_twice, fold_small, fold_good}
use Rattle.partition.specs.Bits.{top}
use Rattle.partition.specs.declared.Shape.{Shape}
use Rattle.partition.specs.Partition.{Row, needs, rows_of, buckets}
use Rattle.partition.specs.Listing.{place_of}
use Rattle.page.specs.declared.Place.{Place}
use Rattle.page.specs.Places.{place_from, stored, Negative, InRange}
use Rattle.page.proofs.Stored.{stored_natural}
use Rattle.store.specs.Pages.{pages, Page, contents, rows_held}
use Rattle.store.specs.Accepted.{Accepted}
use Rattle.store.specs.Moves.{overwritten, put_new, removed}
use Rattle.store.specs.Tables.{Out, new, replaced, found, Refusal3, Becomes, writes, put_accepted, put_by_mode, put_table, remove_table}
use Rattle.store.specs.Demands.{Sized, Hash, format, check, count, lookup, remove, put, row_at, inspect, Answered}
use Rattle.store.proofs.Result.Answered.{Result, answered, refused_or, unless, checked_or, found_or, three_or_not, negative_or_not, format_answered, check_answered, count_answered, lookup_answered, row_answered, inspect_answered}
use Rattle.store.proofs.Accepted.Spelled.{held_folded, one_more, one_less}
use Rattle.store.proofs.Result.Assembled.{store_of}
use Rattle.store.proofs.Result.Decided.{good_or_not}
use Rattle.store.proofs.Result.Decisions.{both}
use Rattle.store.proofs.Result.Fitted.{accepted_fits, over_fits, put_fits, remove_fits}
use Rattle.store.proofs.Result.Together.{Stores}
use Rattle.store.proofs.Demands.Kept.{good_code}
use Rattle.store.proofs.Remove.MoveRows.{over_shown, remove_shown}
use Rattle.store.proofs.Put.PutRows.{put_shown}

-- a code of bytes and a place in its ranges may be stored
stores : (c : List ℕ) (p : Place) → ((k : ℕ) → byte c k < 256) → InRange p → (Refusal3 c → ⊥) → (Negative p → ⊥) → Stores (record { code = fold c; place = stored p })
stores c p small range three natural =
    let g = fold_good c (good_code c three) in
    record {
      natural = stored_natural p natural range;
      some = g.least;
      most = g.most;
      placed = small_append (small_append (small_bytes 4 (mag p.page)) (small_bytes 2 (mag p.slot))) (small_bytes 2 (mag p.volume));
      coded = record { at = fold_small c small };
    }

-- whether a code is there
there_or_not : (o : Option (List ℕ)) → Dec ((b : List ℕ) × (o ≡ some b))
there_or_not none = no (λ x. none_some refl x.1)
there_or_not (some b) = yes (b, refl)

absent_or_not : (o : Option (List ℕ)) → Dec (o ≡ none)
absent_or_not none = yes refl
absent_or_not (some b) = no (λ e. none_some e refl)

module _ (S : Shape) (h : List ℕ → ℕ) (sized : Sized S) (hash : Hash h) (s : List ℕ) where
  written : (o : Out) (gs : List Page) → (t : List ℕ) × Becomes S h s gs t → Result (writes S h s o gs)
  written o gs w = record { is = (o, w.0); allowed = (refl, w.1) }

  module _ (a : Accepted S h s) where
    put_accepted_lem : (r : Row) → Stores r → Folded r.code → Result (put_accepted S h s r)
    put_accepted_lem r st f = found_or (place_of (rows_held S s) r.code)
        (λ old e. written (replaced (place_from old)) (overwritten (contents S s) r)
        (store_of S h sized hash s a.long _ (overwritten (contents S s) r) (over_shown S h sized hash s r old a e) (over_fits S h hash (pages S s - 2) (contents S s) (accepted_fits S h s a) r st)
        (one_more r _ f (one_less r.code (rows_held S s) (held_folded S h sized hash s a)))))
        (λ e. refused_or (dec_lt S.capacity (needs (rows_of h (r ∷ rows_held S s) S.deepest (top S.deepest (h r.code))))) (λ six.
        refused_or (dec_lt (pages S s - 2) (length (buckets S h (r ∷ rows_held S s)))) (λ seven. written new (put_new S h (contents S s) r)
        (store_of S h sized hash s a.long _ (put_new S h (contents S s) r) (put_shown S h sized hash s r a e six seven)
        (put_fits S h hash (pages S s - 2) (contents S s) (accepted_fits S h s a) r st sized) (one_more r _ f (held_folded S h sized hash s a))))))

    pub mode_answered : (m : ℕ) (r : Row) → Stores r → Folded r.code → Result (put_by_mode S h s m r)
    mode_answered m r st f =
        refused_or (both (ℕ_discrete m 1) (there_or_not (place_of (rows_held S s) r.code))) (λ _.
        refused_or (both (ℕ_discrete m 2) (absent_or_not (place_of (rows_held S s) r.code))) (λ _. put_accepted_lem r st f))

  pub put_answered : (c : List ℕ) (p : Place) (m : ℕ) → ((k : ℕ) → byte c k < 256) → InRange p → Result (put_table S h s c p m)
  unfolding put_table
  put_answered c p m small range =
      unless (good_or_not S s) (λ g. refused_or (three_or_not c) (λ three. refused_or (negative_or_not p) (λ natural. refused_or (dec_lt 2 m) (λ _.
      checked_or S h s (λ o. (o, s)) g (λ a. mode_answered a m (record { code = fold c; place = stored p }) (stores c p small range three natural) (fold_twice c))))))

  pub remove_answered : (c : List ℕ) → Result (remove_table S h s c)
  unfolding remove_table
  remove_answered c =
      unless (good_or_not S s) (λ g. refused_or (three_or_not c) (λ three. checked_or S h s (λ o. (o, s)) g (λ a. found_or (place_of (rows_held S s) (fold c))
      (λ old e. written (found (place_from old)) (removed S h (contents S s) (fold c))
      (store_of S h sized hash s a.long _ (removed S h (contents S s) (fold c)) (remove_shown S h sized hash s (fold c) old a e) (remove_fits S h hash (pages S s - 2) (contents S s) (accepted_fits S h s a) (fold c))
      (one_less (fold c) (rows_held S s) (held_folded S h sized hash s a))))
      (λ e. answered _))))

pub answered_always : (S : Shape) (h : List ℕ → ℕ) → Sized S → Hash h → Answered S h
answered_always S h sized hash = made
  where
    made : Answered S h
    made format s _ = let w = format_answered S h s in (w.is.0, w.is.1, w.allowed)
    made check s _ = let w = check_answered S h s in (w.is, s, (w.allowed, refl))
    made count s _ = let w = count_answered S h s in (w.is, s, (w.allowed, refl))
    made (lookup c) s _ = let w = lookup_answered S h s c in (w.is, s, (w.allowed, refl))
    made (remove c) s _ = let w = remove_answered S h sized hash s c in (w.is.0, w.is.1, w.allowed)
    made (put c p m) s g = let w = put_answered S h sized hash s c p m (λ k. omega (arith, g.0 k)) g.1 in (w.is.0, w.is.1, w.allowed)
    made (row_at n out) s _ = let w = row_answered S h s n out in (w.is.0, s, ((w.is.1, w.allowed), refl))
    made (inspect g n out) s _ = let w = inspect_answered S h g n out in (w.is.0, s, ((w.is.1, w.allowed), refl))
