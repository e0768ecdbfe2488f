-- What a line, and a quiet session, leave of the store. Assumes nothing.
use Rattle.std.proofs.Common.{◌≡◌, ℕ, suc, ◌+◌, ◌-◌, ◌*◌, ◌/◌, ◌<◌, ◌≤◌, Bool, true, false, List, ◌++◌, length, take, drop, sym, refl, ap, ◌∙◌, subst, ⊎_elim, true≢false, mul-le-mul_right, suc-mul, div-mul-le_self, arith, take-append-drop, length-take-le, take_at}
use native.Mathlib.Nat.{sub-zero}
use Rattle.commands.specs.declared.Command.{Command}
use Rattle.commands.specs.declared.Command.TheVariants.{Nothing, Unknown, Format, Put, Lookup, Remove, Count, Row, Listing, Check, Counts, Inspect, Report}
use Rattle.ground.specs.Ladder.{Answers}
use Rattle.ground.proofs.Ladders.{each}
use Rattle.ground.specs.Says.{Says}
use Rattle.ground.proofs.Sides.{side}
use Rattle.ground.proofs.Tests.{says_true}
use Rattle.hash.specs.Fnv.{fnv, fnv_lt}
use Rattle.partition.specs.declared.Shape.{Shape}
use Rattle.partition.specs.Sizes.{size, shape_of}
use Rattle.partition.proofs.Sizes.{sized_of}
use Rattle.any_size.proofs.Rows.{said_of, short}
use Rattle.any_size.proofs.Calls.{formats}
use Rattle.any_size.proofs.Histories.{own_second}
use Rattle.store.specs.Accepted.{Accepted}
use Rattle.page.specs.declared.Place.{Place}
use Rattle.store.specs.Demands.{Call, Made, put, remove, ok}
use Rattle.store.specs.Tables.{Out, refused, refused_at, check_table, format_sized, put_table, remove_table}
use Rattle.store.proofs.Accepted.Format.{accepted_always}
use Rattle.store.proofs.Demands.Kept.{refusal_keeps}
use Rattle.lots.specs.declared.Outcome.{Outcome}
use Rattle.lots.specs.declared.Outcome.TheVariants.{Silent, Unknown as NotKnown, Told, Changed, Listed, Format as Formats, Stopped}
use Rattle.lots.specs.declared.Session.{Session}
use Rattle.lots.specs.Known.{Known}
use Rattle.filling.specs.Filling.{fill_table}
use Rattle.filling.proofs.Laws.{fill_laws, fill_done}
use Rattle.lots.specs.Obeys.{Outcomes, Passes, TellsOnly, TellsNumber, Untouched, ListAsked, PageAsked, InspectAsked, Does, Obeys}
use Rattle.store.proofs.Demands.Unchecked.{check_says}
use Rattle.lots.specs.Sessions.{Leaves, After, Alike, AsRead, Changes, Learnt, SessionHolds, Kept}

-- a check that is no refusal accepts
pub checked_accepted : (s : List ℕ) (o : Out) → Answers (check_table (shape_of s) fnv s) o → ok o ≡ true → Accepted (shape_of s) fnv s
checked_accepted s o m e = says_true (ok o) e (check_says (shape_of s) fnv s o m)

-- an accepted store has the number at 20
pub numbered : (s : List ℕ) → Accepted (shape_of s) fnv s → 24 ≤ length s
numbered s a = ⊎_elim (λ l. absurd (short s l a.long)) (λ g. g) (side (length s) 24)

-- page p of pages of z bytes lies within n bytes
pub page_inside : (p z n : ℕ) → p < n / z → p * z + z ≤ n
page_inside p z n b =
    let m : suc p * z ≤ n / z * z = mul-le-mul_right z b in
    omega (arith, m, suc-mul p z, div-mul-le_self n z)

-- page 0 of an accepted store has room for the number of rows
pub counts_room : (s : List ℕ) → Accepted (shape_of s) fnv s → 28 ≤ length s
counts_room s a = omega (arith, page_inside 0 (size (shape_of s)) (length s) (omega (arith, a.long.least)), (sized_of s).least)

-- a call whose refusal is told leaves every byte, where a refusal keeps them
told_leaves : (a : Out) (o : Outcome) (s t : List ℕ) → (ok a ≡ false → t ≡ s) → Outcomes a o → Leaves o → t ≡ s
told_leaves a (Told x) s t f r l = f r.1
told_leaves a (Formats n size) s t f r l = absurd r
told_leaves a Silent s t f r l = absurd r
told_leaves a NotKnown s t f r l = absurd r
told_leaves a (Listed n) s t f r l = absurd r
told_leaves a (Changed x) s t f r l = absurd l
told_leaves a Stopped s t f r l = absurd l

made_leaves : (c : Call) (s : List ℕ) (a : Out) (o : Outcome) (t : List ℕ) → Made (shape_of s) fnv c s a t → Outcomes a o → Leaves o → t ≡ s
made_leaves c s a o t m = told_leaves a o s t (refusal_keeps (shape_of s) fnv c s a t m)

does_leaves : (k : List ℕ) (c : Command) (s : List ℕ) (o : Outcome) (t : List ℕ) → Does k c s o t → Leaves o → t ≡ s
does_leaves k (Put n p m) s o t d l = made_leaves (put (take n k) p m) s d.answer o t d.made d.told l
does_leaves k (Remove n) s o t d l = made_leaves (remove (take n k)) s d.answer o t d.made d.told l
does_leaves k (Format n size) s o t d l = d.1
does_leaves k Nothing s o t d l = d.1
does_leaves k Unknown s o t d l = d.1
does_leaves k (Lookup n) s o t d l = d.1
does_leaves k Count s o t d l = d.1
does_leaves k (Row n) s o t d l = d.1
does_leaves k Listing s o t d l = d.1
does_leaves k Check s o t d l = d.1
does_leaves k Counts s o t d l = told_leaves d.answer o s t ((fill_laws (shape_of s) fnv (sized_of s)).kept s d.answer t d.made) d.told l
does_leaves k (Inspect n) s o t d l = d.1
does_leaves k Report s o t d l = d.1

-- a line that changed nothing left every byte
pub leaves : {line s t : List ℕ} {o : Outcome} → Obeys line s o t → Leaves o → t ≡ s
leaves {line} {s} {t} {o} x = does_leaves x.code x.command s o t x.does

-- an unknown line leaves the store
pub passes_untouched : (o : Outcome) → Passes o → Untouched o
passes_untouched NotKnown p = tt
passes_untouched Stopped p = tt
passes_untouched Silent p = tt
passes_untouched (Told x) p = tt
passes_untouched (Listed n) p = tt
passes_untouched (Changed x) p = p
passes_untouched (Formats n size) p = p

-- the store that a call leaves of one that is known to be accepted: accepted again, and as long
pub record Still (s t : List ℕ) : Type 0 where
  pub again : Accepted (shape_of t) fnv t
  pub long : length t ≡ length s

still_same : (s t : List ℕ) → Accepted (shape_of s) fnv s → t ≡ s → Still s t
still_same s t a e = record { again = rw e a; long = ap length e }

still_made : (c : Call) (s : List ℕ) (o : Out) (t : List ℕ) → Accepted (shape_of s) fnv s → Made (shape_of s) fnv c s o t → Still s t
still_made c s o t a m =
    let x = accepted_always (shape_of s) fnv (sized_of s) c s o t a m in
    record { again = subst (λ S. Accepted S fnv t) (sym (said_of fnv s t x.0)) x.0; long = x.1 }

-- so it is of a store whose counts are filled in
still_done : (s : List ℕ) (o : Out) (t : List ℕ) → Answers (fill_table (shape_of s) fnv s) (o, t) → ok o ≡ true → Still s t
still_done s o t m e =
    let x = fill_done (shape_of s) fnv (sized_of s) s o t m e in
    record { again = subst (λ S. Accepted S fnv t) (sym (said_of fnv s t x.again)) x.again; long = x.long }

still_filled : (s : List ℕ) (o : Out) (t : List ℕ) → Accepted (shape_of s) fnv s → Answers (fill_table (shape_of s) fnv s) (o, t) → Still s t
still_filled s o t a m = go (ok o) refl
  where
    go : (b : Bool) → ok o ≡ b → Still s t
    go true e = still_done s o t m e
    go false e = still_same s t a ((fill_laws (shape_of s) fnv (sized_of s)).kept s o t m e)

does_still : (k : List ℕ) (c : Command) (s : List ℕ) (o : Outcome) (t : List ℕ) → Does k c s o t → Accepted (shape_of s) fnv s → Still s t
does_still k (Put n p m) s o t d a = still_made (put (take n k) p m) s d.answer t a d.made
does_still k (Remove n) s o t d a = still_made (remove (take n k)) s d.answer t a d.made
does_still k (Format n size) s o t d a = still_same s t a d.1
does_still k Nothing s o t d a = still_same s t a d.1
does_still k Unknown s o t d a = still_same s t a d.1
does_still k (Lookup n) s o t d a = still_same s t a d.1
does_still k Count s o t d a = still_same s t a d.1
does_still k (Row n) s o t d a = still_same s t a d.1
does_still k Listing s o t d a = still_same s t a d.1
does_still k Check s o t d a = still_same s t a d.1
does_still k Counts s o t d a = still_filled s d.answer t a d.made
does_still k (Inspect n) s o t d a = still_same s t a d.1
does_still k Report s o t d a = still_same s t a d.1

-- ---- what a change makes known

told_done : (a : Out) (o : Outcome) → Outcomes a o → Changes o → ok a ≡ true
told_done a (Changed x) r c = r.1
told_done a (Told x) r c = absurd c
told_done a (Formats n size) r c = absurd c
told_done a Silent r c = absurd c
told_done a NotKnown r c = absurd c
told_done a (Listed n) r c = absurd c
told_done a Stopped r c = absurd c

unchanged : (o : Outcome) → Untouched o → Changes o → ⊥
unchanged (Changed x) u c = u
unchanged (Told x) u c = c
unchanged (Formats n size) u c = c
unchanged Silent u c = c
unchanged NotKnown u c = c
unchanged (Listed n) u c = c
unchanged Stopped u c = c

-- a put or a remove that is no refusal was made on an accepted store
module _ (S : Shape) (s : List ℕ) where
  refused_not : {A : Type 0} {n : ℕ} {t : List ℕ} (x : Out × List ℕ) → x ≡ (refused n, t) → ok x.0 ≡ true → A
  refused_not x e f = absurd (true≢false (sym f ∙ ap (λ y. ok y.0) e))

  broken_not : {A : Type 0} {p : ℕ} {t : List ℕ} (x : Out × List ℕ) → x ≡ (refused_at 2 p, t) → ok x.0 ≡ true → A
  broken_not x e f = absurd (true≢false (sym f ∙ ap (λ y. ok y.0) e))

  put_on : (c : List ℕ) (p : Place) (m : ℕ) (x : Out × List ℕ) → Answers (put_table S fnv s c p m) x → ok x.0 ≡ true → Accepted S fnv s
  unfolding put_table
  put_on c p m = each (λ x. ok x.0 ≡ true → Accepted S fnv s) (put_table S fnv s c p m)
      ((λ _ _. refused_not), (λ _. ((λ _ _. refused_not), (λ _. ((λ _ _. refused_not), (λ _. ((λ _ _. refused_not), (λ _. ((λ _ _. broken_not), (λ _ a. ((λ _ _ _ _ _. a), (λ _. ((λ _ _ _ _ _. a), (λ _. ((λ _ _ _ _ _. a), (λ _. ((λ _ _ _ _ _. a), (λ _. ((λ _ _ _ _ _. a), (λ _ _ _ _. a))))))))))))))))))))

  remove_on : (c : List ℕ) (x : Out × List ℕ) → Answers (remove_table S fnv s c) x → ok x.0 ≡ true → Accepted S fnv s
  unfolding remove_table
  remove_on c = each (λ x. ok x.0 ≡ true → Accepted S fnv s) (remove_table S fnv s c)
      ((λ _ _. refused_not), (λ _. ((λ _ _. refused_not), (λ _. ((λ _ _. broken_not), (λ _ a. ((λ _ _ _ _ _. a), (λ _ _ _ _. a))))))))

reads_untouched : (a : Out) (o : Outcome) → TellsOnly a o → Untouched o
reads_untouched a NotKnown p = tt
reads_untouched a Stopped p = tt
reads_untouched a Silent p = tt
reads_untouched a (Told x) p = tt
reads_untouched a (Listed n) p = tt
reads_untouched a (Changed x) p = p
reads_untouched a (Formats n size) p = p

pub numbers_untouched : (n : ℕ) (o : Outcome) → TellsNumber n o → Untouched o
numbers_untouched n NotKnown p = tt
numbers_untouched n Stopped p = tt
numbers_untouched n Silent p = tt
numbers_untouched n (Told x) p = tt
numbers_untouched n (Listed m) p = tt
numbers_untouched n (Changed x) p = p
numbers_untouched n (Formats m size) p = p

-- inspect changes nothing, whichever of its ways it goes
page_unchanged : {g : List ℕ} (o : Outcome) → PageAsked g o → Changes o → ⊥
page_unchanged o d w = unchanged o (reads_untouched _ o (d.refused (λ k. unchanged o (numbers_untouched _ o (d.rows k)) w))) w

inspect_unchanged : (n : ℕ) (s : List ℕ) (o : Outcome) → InspectAsked n s o → Changes o → ⊥
inspect_unchanged n s o d w = unchanged o (passes_untouched o (d.absent (λ h. page_unchanged o (d.there h) w))) w

pub listed_untouched : {s : List ℕ} {o : Outcome} → ListAsked s o → Untouched o
listed_untouched {s} {o} d = go (ok d.answer) refl
  where
    go : (b : Bool) → ok d.answer ≡ b → Untouched o
    go true e = numbers_untouched _ o (d.rows e)
    go false e = reads_untouched d.answer o (d.refused e)

-- a line that has changed the store leaves an accepted one, whatever was known of it
does_changed : (k : List ℕ) (c : Command) (s : List ℕ) (o : Outcome) (t : List ℕ) → Does k c s o t → Changes o → Still s t
does_changed k (Put n p m) s o t d w =
    still_made (put (take n k) p m) s d.answer t (put_on (shape_of s) s (take n k) p m (d.answer, t) d.made (told_done d.answer o d.told w)) d.made
does_changed k (Remove n) s o t d w =
    still_made (remove (take n k)) s d.answer t (remove_on (shape_of s) s (take n k) (d.answer, t) d.made (told_done d.answer o d.told w)) d.made
does_changed k Counts s o t d w = still_done s d.answer t d.made (told_done d.answer o d.told w)
does_changed k (Format n size) s o t d w = absurd (subst Changes d.0 w)
does_changed k Nothing s o t d w = absurd (subst Changes d.0 w)
does_changed k Unknown s o t d w = absurd (unchanged o (passes_untouched o d.0) w)
does_changed k (Lookup n) s o t d w = absurd (unchanged o (reads_untouched d.0.answer o d.0.told) w)
does_changed k Count s o t d w = absurd (unchanged o (reads_untouched d.0.answer o d.0.told) w)
does_changed k (Row n) s o t d w = absurd (unchanged o (reads_untouched d.0.asked.answer o d.0.asked.told) w)
does_changed k Listing s o t d w = absurd (unchanged o (listed_untouched d.0) w)
does_changed k Check s o t d w = absurd (unchanged o (reads_untouched d.0.answer o d.0.told) w)
does_changed k (Inspect n) s o t d w = absurd (inspect_unchanged n s o d.0 w)
does_changed k Report s o t d w = absurd (unchanged o d.0.reads w)

-- the first n bytes, lent and back as ys
pub front_back : (xs ys : List ℕ) (n : ℕ) → length ys ≡ n → take n (take 0 xs ++ (ys ++ drop (n - 0) (drop 0 xs))) ≡ ys
front_back xs ys n e = take_at ys (drop (n - 0) (drop 0 xs)) n e

-- which they are, if the call left as many
pub still_back : (xs ys : List ℕ) (n : ℕ) → n ≤ length xs → Still (take (n - 0) (drop 0 xs)) ys → take n (take 0 xs ++ (ys ++ drop (n - 0) (drop 0 xs))) ≡ ys
still_back xs ys n l y = front_back xs ys n (y.long ∙ simp sub-zero (length-take-le n xs l))

-- then what stands there is accepted, if the call left it so
pub still_front : (xs ys : List ℕ) (n : ℕ) → n ≤ length xs → Still (take (n - 0) (drop 0 xs)) ys → Known true (take n (take 0 xs ++ (ys ++ drop (n - 0) (drop 0 xs))))
still_front xs ys n l y _ = subst (λ u. Accepted (shape_of u) fnv u) (sym (still_back xs ys n l y)) y.again

-- what is known is known of the part that is lent
pub lent_known : {z : Session} {xs : List ℕ} → SessionHolds z xs → Known z.known (take (z.len - 0) (drop 0 xs))
lent_known {z} {xs} h e = simp sub-zero (h.known e)

-- a line is obeyed on the first bytes of the buffer xs: what was known of them is known
pub still_holds : {z : Session} {line xs ys : List ℕ} {o : Outcome} → SessionHolds z xs → Obeys line (take (z.len - 0) (drop 0 xs)) o ys
    → z.len ≤ length (take 0 xs ++ (ys ++ drop (z.len - 0) (drop 0 xs))) → SessionHolds z (take 0 xs ++ (ys ++ drop (z.len - 0) (drop 0 xs)))
still_holds {z} {line} {xs} {ys} {o} h x l = record {
  within = l;
  known = λ e. still_front xs ys z.len h.within (does_still x.code x.command _ o ys x.does (lent_known {z = z} {xs = xs} h e)) refl;
}

-- and where the line has changed them, they are accepted
pub learnt_holds : {z y : Session} {line xs ys : List ℕ} {o : Outcome} → Learnt z o y → SessionHolds z xs → Obeys line (take (z.len - 0) (drop 0 xs)) o ys
    → z.len ≤ length (take 0 xs ++ (ys ++ drop (z.len - 0) (drop 0 xs))) → SessionHolds y (take 0 xs ++ (ys ++ drop (z.len - 0) (drop 0 xs)))
learnt_holds {z} {y} {line} {xs} {ys} {o} L h x l = record {
  within = omega (arith, L.len, l);
  known = λ e. subst (λ n. Accepted (shape_of (take n back)) fnv (take n back)) (sym L.len) (⊎_elim
      (λ f. (still_holds {z = z} {line = line} {xs = xs} {ys = ys} {o = o} h x l).known (sym f ∙ e))
      (λ w. still_front xs ys z.len h.within (does_changed x.code x.command _ o ys x.does w) refl)
      L.known);
}
  where
    back : List ℕ
    back = take 0 xs ++ (ys ++ drop (z.len - 0) (drop 0 xs))

-- a session that begins with what the check says
pub begun : {z : Session} {xs : List ℕ} (n : ℕ) (b : Bool) → z.len ≡ n → z.known ≡ b → Says b (Accepted (shape_of (take (n - 0) (drop 0 xs))) fnv (take (n - 0) (drop 0 xs))) → n ≤ length xs → SessionHolds z xs
begun {z} {xs} n b e f s l = record {
  within = omega arith;
  known = λ k. subst (λ m. Accepted (shape_of (take m xs)) fnv (take m xs)) (sym e) (simp sub-zero at (says_true b (sym f ∙ k) s));
}

-- a format that is not refused: accepted, and as long as what was lent
pub formatted_still : (n : ℕ) (s : List ℕ) (o : Out) (t : List ℕ) → Answers (format_sized n s) (o, t) → ok o ≡ true → Still s t
formatted_still n s o t m e = ⊎_elim
    (λ f. let y = (own_second fnv fnv_lt).format_accepted n s t (subst (λ a. Answers (format_sized n s) (a, t)) f.1 m) in record { again = y.2; long = y.4 })
    (λ r. absurd (true≢false (sym e ∙ ap ok r.1)))
    (formats n s o t m)

-- a format that is refused leaves every byte
pub unformatted : (n : ℕ) (s : List ℕ) (o : Out) (t : List ℕ) → Answers (format_sized n s) (o, t) → ok o ≡ false → t ≡ s
unformatted n s o t m e = ⊎_elim (λ f. absurd (true≢false (sym (ap ok f.1) ∙ e))) (λ r. r.2) (formats n s o t m)

-- an answer that is no refusal, once it is told, is a change
pub done_loud : (a : Out) (o : Outcome) → Outcomes a o → Leaves o → ok a ≡ true → ⊥
done_loud a (Told x) r l e = true≢false (sym e ∙ r.1)
done_loud a (Formats n size) r l e = r
done_loud a Silent r l e = r
done_loud a NotKnown r l e = r
done_loud a (Listed n) r l e = r
done_loud a (Changed x) r l e = l
done_loud a Stopped r l e = l

-- a lent part that comes back as it was
pub part_back : (xs ys : List ℕ) (a n : ℕ) → ys ≡ take n (drop a xs) → take a xs ++ (ys ++ drop n (drop a xs)) ≡ xs
part_back xs ys a n e = ap (λ l. take a xs ++ (l ++ drop n (drop a xs))) e ∙ ap (λ l. take a xs ++ l) (take-append-drop n (drop a xs)) ∙ take-append-drop a xs

-- one step after another
pub then : {z y r : Session} {s t u : List ℕ} → Kept z s y t → Kept y t r u → Kept z s r u
then a b = record {
  quiet = λ q. a.quiet (b.quiet q);
  same = λ q. b.same q ∙ a.same (b.quiet q);
  long = λ q. b.long q ∙ a.long (b.quiet q);
  holds = b.holds;
}

-- what is held, by another session of the same length that knows the same
pub holds_as : {z y : Session} {s : List ℕ} → y.len ≡ z.len → y.known ≡ z.known → SessionHolds z s → SessionHolds y s
holds_as {z} {y} {s} e f h = record {
  within = omega (arith, e, h.within);
  known = subst (λ b. Known b (take y.len s)) (sym f) (subst (λ n. Known z.known (take n s)) (sym e) h.known);
}

-- a step that is not about the store
pub beside : {z y : Session} {s : List ℕ} → Alike z y → SessionHolds z s → Kept z s y s
beside a h = record {
  quiet = λ q. (sym a.changed ∙ q.0, sym a.stopped ∙ q.1);
  same = λ q. refl;
  long = λ q. a.len;
  holds = holds_as a.len a.known h;
}

-- what was read is the same twice
pub as_read : {z y r : Session} → AsRead z y → AsRead y r → AsRead z r
as_read a b = record { line = b.line ∙ a.line; quit = b.quit ∙ a.quit }

-- the line is counted first
pub after_counted : {z y r : Session} {o : Outcome} → Alike z y → AsRead z y → After y o r → After z o r
after_counted k f a = record {
  len = a.len ∙ k.len;
  known = a.known ∙ k.known;
  read = as_read f a.read;
  quiet = λ q. let p = a.quiet q in (sym k.changed ∙ p.0, sym k.stopped ∙ p.1);
  leaves = a.leaves;
}

-- a line's outcome is taken into the session
pub taken_in : {z r : Session} {o : Outcome} {s t : List ℕ} → After z o r → (Leaves o → t ≡ s) → SessionHolds z t → Kept z s r t
taken_in a f h = record {
  quiet = a.quiet;
  same = λ q. f (a.leaves q);
  long = λ q. a.len;
  holds = holds_as a.len a.known h;
}

-- with what it makes known
pub learnt_in : {z y r : Session} {o : Outcome} {s t : List ℕ} → Learnt z o y → After y o r → (Leaves o → t ≡ s) → SessionHolds y t → Kept z s r t
learnt_in L a f h =
    let k = taken_in a f h in
    record {
      quiet = λ q. let p = k.quiet q in (sym L.changed ∙ p.0, sym L.stopped ∙ p.1);
      same = k.same;
      long = λ q. k.long q ∙ L.len;
      holds = k.holds;
    }
