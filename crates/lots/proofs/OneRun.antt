-- A line makes one store of a store, and so does a run of its input. Assumes nothing.
use Rattle.std.proofs.Common.{◌≡◌, ℕ, ◌+◌, Bool, true, false, ◌⊎◌, List, ◌++◌, length, take, sym, refl, ap, ◌∙◌, subst, inl, inr, ⊎_elim, true≢false, append-nil, arith, length-append, take_at}
use Rattle.ground.specs.Ladder.{Answers}
use Rattle.hash.specs.Fnv.{fnv}
use Rattle.page.specs.declared.Place.{Place}
use Rattle.partition.specs.declared.Shape.{Shape}
use Rattle.partition.specs.Sizes.{shape_for, shape_of}
use Rattle.partition.proofs.Sizes.{sized_of}
use Rattle.any_size.proofs.Calls.{Formats as FormatsTo, formats as formats_to}
use Rattle.commands.specs.declared.Command.{Command}
use Rattle.commands.specs.declared.Command.TheVariants.{Nothing, Unknown, Format, Put, Lookup, Remove, Count, Row, Listing, Check, Counts, Inspect, Report}
use Rattle.commands.specs.Lines.{Means, remove_word}
use Rattle.commands.specs.Texts.{text}
use Rattle.filling.proofs.Laws.{fill_settled}
use Rattle.store.specs.Demands.{ok}
use Rattle.store.specs.Tables.{Out, formatted, refused, blank, format_table, format_sized, put_table, remove_table}
use Rattle.store.proofs.Demands.Settled.{put_settled, remove_settled}
use Rattle.text_lines.specs.Ends.{input_lines}
use Rattle.lots.specs.declared.Outcome.{Outcome}
use Rattle.lots.specs.declared.Outcome.TheVariants.{Silent, Format as Formats}
use Rattle.lots.specs.declared.Session.{Session}
use Rattle.lots.specs.Obeys.{PageAsked, Does, Obeys}
use Rattle.lots.specs.Runs.{Anew, Without, Done, FormatCall, DueOn, Commanded, obeyed, formats, held, Did, aside, asked, LineDid, passed, spoken, Chain, none, last, next, Ran}
use Rattle.lots.proofs.Fields.{SamePlace, code_one, put_one}
use Rattle.lots.proofs.Leaving.{listed_untouched}
use Rattle.lots.proofs.OneCommand.{kind, format_one, obeys_one}

-- ---- commands of one kind

is_put : (d : Command) (m : ℕ) → kind d ≡ 20 + m → (n : ℕ) × ((p : Place) × ((o : ℕ) × (d ≡ Put n p o)))
is_put (Put n p o) m e = (n, (p, (o, refl)))
is_put Nothing m e = absurd (omega (arith, e))
is_put (Format n size) m e = absurd (omega (arith, e))
is_put (Lookup n) m e = absurd (omega (arith, e))
is_put (Remove n) m e = absurd (omega (arith, e))
is_put Count m e = absurd (omega (arith, e))
is_put (Row n) m e = absurd (omega (arith, e))
is_put Listing m e = absurd (omega (arith, e))
is_put Check m e = absurd (omega (arith, e))
is_put Counts m e = absurd (omega (arith, e))
is_put (Inspect n) m e = absurd (omega (arith, e))
is_put Report m e = absurd (omega (arith, e))
is_put Unknown m e = absurd (omega (arith, e))

is_remove : (d : Command) → kind d ≡ 4 → (n : ℕ) × (d ≡ Remove n)
is_remove (Remove n) e = (n, refl)
is_remove (Put n p o) e = absurd (omega (arith, e))
is_remove Nothing e = absurd (omega (arith, e))
is_remove (Format n size) e = absurd (omega (arith, e))
is_remove (Lookup n) e = absurd (omega (arith, e))
is_remove Count e = absurd (omega (arith, e))
is_remove (Row n) e = absurd (omega (arith, e))
is_remove Listing e = absurd (omega (arith, e))
is_remove Check e = absurd (omega (arith, e))
is_remove Counts e = absurd (omega (arith, e))
is_remove (Inspect n) e = absurd (omega (arith, e))
is_remove Report e = absurd (omega (arith, e))
is_remove Unknown e = absurd (omega (arith, e))

is_counts : (d : Command) → kind d ≡ 12 → d ≡ Counts
is_counts Counts e = refl
is_counts (Put n p o) e = absurd (omega (arith, e))
is_counts (Remove n) e = absurd (omega (arith, e))
is_counts Nothing e = absurd (omega (arith, e))
is_counts (Format n size) e = absurd (omega (arith, e))
is_counts (Lookup n) e = absurd (omega (arith, e))
is_counts Count e = absurd (omega (arith, e))
is_counts (Row n) e = absurd (omega (arith, e))
is_counts Listing e = absurd (omega (arith, e))
is_counts Check e = absurd (omega (arith, e))
is_counts (Inspect n) e = absurd (omega (arith, e))
is_counts Report e = absurd (omega (arith, e))
is_counts Unknown e = absurd (omega (arith, e))

-- ---- the store that a call leaves

place_is : (p q : Place) → SamePlace p q → p ≡ q
place_is p q s = λ i. record { page = s.page i; slot = s.slot i; volume = s.volume i }

module _ (l s : List ℕ) where
  put_left : (t u k j : List ℕ) (o o' : Outcome) (n n' : ℕ) (p p' : Place) (m m' : ℕ) → Means l k (Put n p m) → Means l j (Put n' p' m') → Does k (Put n p m) s o t → Does j (Put n' p' m') s o' u → t ≡ u
  put_left t u k j o o' n n' p p' m m' a b x y =
      let e = put_one l k j n n' p p' m m' a b in
      let f = place_is p p' e.place in
      let z = subst (λ v. Answers (put_table (shape_of s) fnv s (take n' j) p' v) (x.answer, t)) e.mode
      (subst (λ v. Answers (put_table (shape_of s) fnv s (take n' j) v m) (x.answer, t)) f
      (subst (λ v. Answers (put_table (shape_of s) fnv s v p m) (x.answer, t)) e.code.bytes x.made)) in
      ap (λ r. r.1) (put_settled (shape_of s) fnv (sized_of s) s (take n' j) p' m' (x.answer, t) (y.answer, u) z y.made)

  remove_left : (t u k j : List ℕ) (o o' : Outcome) (n n' : ℕ) → Means l k (Remove n) → Means l j (Remove n') → Does k (Remove n) s o t → Does j (Remove n') s o' u → t ≡ u
  remove_left t u k j o o' n n' a b x y =
      let e = code_one l remove_word k j n n' a b in
      let z = subst (λ v. Answers (remove_table (shape_of s) fnv s v) (x.answer, t)) e.bytes x.made in
      ap (λ r. r.1) (remove_settled (shape_of s) fnv (sized_of s) s (take n' j) (x.answer, t) (y.answer, u) z y.made)

  counts_left : (t u k j : List ℕ) (o o' : Outcome) → Does k Counts s o t → Does j Counts s o' u → t ≡ u
  counts_left t u k j o o' x y = ap (λ r. r.1) (fill_settled (shape_of s) fnv (sized_of s) s (x.answer, t) (y.answer, u) x.made y.made)

  -- the commands that may write
  abbrev MayWrite : Command → Type 0
  MayWrite (Put n p m) = Unit {0}
  MayWrite (Remove n) = Unit {0}
  MayWrite Counts = Unit {0}
  MayWrite Nothing = ⊥
  MayWrite (Format n size) = ⊥
  MayWrite (Lookup n) = ⊥
  MayWrite Count = ⊥
  MayWrite (Row n) = ⊥
  MayWrite Listing = ⊥
  MayWrite Check = ⊥
  MayWrite (Inspect n) = ⊥
  MayWrite Report = ⊥
  MayWrite Unknown = ⊥

  leaves_or_writes : (k : List ℕ) (c : Command) (o : Outcome) (t : List ℕ) → Does k c s o t → (t ≡ s) ⊎ MayWrite c
  leaves_or_writes k (Put n p m) o t x = inr tt
  leaves_or_writes k (Remove n) o t x = inr tt
  leaves_or_writes k Counts o t x = inr tt
  leaves_or_writes k Nothing o t x = inl x.1
  leaves_or_writes k (Format n size) o t x = inl x.1
  leaves_or_writes k (Lookup n) o t x = inl x.1
  leaves_or_writes k Count o t x = inl x.1
  leaves_or_writes k (Row n) o t x = inl x.1
  leaves_or_writes k Listing o t x = inl x.1
  leaves_or_writes k Check o t x = inl x.1
  leaves_or_writes k (Inspect n) o t x = inl x.1
  leaves_or_writes k Report o t x = inl x.1
  leaves_or_writes k Unknown o t x = inl x.1

  written : (t u k j : List ℕ) (o o' : Outcome) (c d : Command) → MayWrite c → kind c ≡ kind d → Means l k c → Means l j d → Does k c s o t → Does j d s o' u → t ≡ u
  written t u k j o o' (Put n p m) d w e a b x y =
      let f = is_put d m (sym e) in
      let g = f.1.1.1 in
      put_left t u k j o o' n f.0 p f.1.0 m f.1.1.0 a (subst (Means l j) g b) x (subst (λ v. Does j v s o' u) g y)
  written t u k j o o' (Remove n) d w e a b x y =
      let f = is_remove d (sym e) in
      remove_left t u k j o o' n f.0 a (subst (Means l j) f.1 b) x (subst (λ v. Does j v s o' u) f.1 y)
  written t u k j o o' Counts d w e a b x y = counts_left t u k j o o' x (subst (λ v. Does j v s o' u) (is_counts d (sym e)) y)
  written t u k j o o' Nothing d w e a b x y = absurd w
  written t u k j o o' (Format n size) d w e a b x y = absurd w
  written t u k j o o' (Lookup n) d w e a b x y = absurd w
  written t u k j o o' Count d w e a b x y = absurd w
  written t u k j o o' (Row n) d w e a b x y = absurd w
  written t u k j o o' Listing d w e a b x y = absurd w
  written t u k j o o' Check d w e a b x y = absurd w
  written t u k j o o' (Inspect n) d w e a b x y = absurd w
  written t u k j o o' Report d w e a b x y = absurd w
  written t u k j o o' Unknown d w e a b x y = absurd w

  -- a command leaves one store
  pub store_one : {t u : List ℕ} {o o' : Outcome} → Obeys l s o t → Obeys l s o' u → t ≡ u
  store_one {t} {u} {o} {o'} x y =
      let e = obeys_one x y in
      ⊎_elim
      (λ p. ⊎_elim
      (λ q. p ∙ sym q)
      (λ w. sym (written u t y.code x.code o' o y.command x.command w (sym e) y.means x.means y.does x.does))
      (leaves_or_writes y.code y.command o' u y.does))
      (λ w. written t u x.code y.code o o' x.command y.command w e x.means y.means x.does y.does)
      (leaves_or_writes x.code x.command o t x.does)

-- ---- formats

-- only a format is left to the session
no_page : {g : List ℕ} {n size : ℕ} → PageAsked g (Formats n size) → ⊥
no_page d = d.refused (λ k. d.rows k)

is_format : (k : List ℕ) (c : Command) (s t : List ℕ) (n size : ℕ) → Does k c s (Formats n size) t → c ≡ Format n size
is_format k (Format m other) s t n size d = let e : Formats n size ≡ Formats m other = d.0 in cc
is_format k (Put m p v) s t n size d = absurd d.told
is_format k (Remove m) s t n size d = absurd d.told
is_format k Counts s t n size d = absurd d.told
is_format k Nothing s t n size d = absurd (let e : Formats n size ≡ Silent = d.0 in let z : ◌≡◌ {A = ℕ} 0 1 = cc in omega (arith, z))
is_format k Unknown s t n size d = absurd d.0
is_format k (Lookup m) s t n size d = absurd d.0.told
is_format k Count s t n size d = absurd d.0.told
is_format k (Row m) s t n size d = absurd d.0.asked.told
is_format k Listing s t n size d = absurd (listed_untouched d.0)
is_format k Check s t n size d = absurd d.0.told
is_format k (Inspect m) s t n size d = absurd (d.0.absent (λ h. no_page (d.0.there h)))
is_format k Report s t n size d = absurd d.0.reads

-- a format is not done by its call
format_left : (k : List ℕ) (c : Command) (a : List ℕ) (o : Outcome) (b : List ℕ) → kind c ≡ 1 → Does k c a o b → Done o → ⊥
format_left k (Format m other) a o b e y d = subst Done y.0 d
format_left k (Put m p v) a o b e y d = omega (arith, e)
format_left k (Remove m) a o b e y d = omega (arith, e)
format_left k Counts a o b e y d = omega (arith, e)
format_left k Nothing a o b e y d = omega (arith, e)
format_left k Unknown a o b e y d = omega (arith, e)
format_left k (Lookup m) a o b e y d = omega (arith, e)
format_left k Count a o b e y d = omega (arith, e)
format_left k (Row m) a o b e y d = omega (arith, e)
format_left k Listing a o b e y d = omega (arith, e)
format_left k Check a o b e y d = omega (arith, e)
format_left k (Inspect m) a o b e y d = omega (arith, e)
format_left k Report a o b e y d = omega (arith, e)

module _ {w a : List ℕ} {n size : ℕ} (x : Obeys w a (Formats n size) a) where
  the_format : x.command ≡ Format n size
  the_format = is_format x.code x.command a a n size x.does

  -- such a command is not done otherwise
  not_done : {o : Outcome} {b : List ℕ} → Obeys w a o b → Done o → ⊥
  not_done {o} {b} y d = format_left y.code y.command a o b (obeys_one y x ∙ ap kind the_format) y.does d

  sizes_one : {m other : ℕ} → Obeys w a (Formats m other) a → (n ≡ m) × (size ≡ other)
  sizes_one {m} {other} y =
      format_one w x.code y.code n size m other (subst (Means w x.code) the_format x.means) (subst (Means w y.code) (is_format y.code y.command a a m other y.does) y.means)

blank_is : (S : Shape) (s : List ℕ) (o : Out) (t : List ℕ) → o ≡ formatted → Answers (format_table S s) (o, t) → t ≡ blank S s
unfolding format_table
blank_is S s o t e (inl p) = absurd (let f : o ≡ refused 1 = ap (λ q. q.0) p.1.1 in let z : ◌≡◌ {A = ℕ} 0 1 = cc in omega (arith, z))
blank_is S s o t e (inr p) = ap (λ q. q.1) p.1

blank_same : (S : Shape) (s t : List ℕ) → length s ≡ length t → blank S s ≡ blank S t
unfolding blank
blank_same S s t e = rw e

-- what a format answers and leaves goes by the length that it is lent
by_length : (size : ℕ) (s t : List ℕ) (o o' : Out) (x y : List ℕ) → length s ≡ length t → Answers (format_sized size s) (o, x) → Answers (format_sized size t) (o', y) → (ok o ≡ ok o') × (ok o ≡ true → x ≡ y)
by_length size s t o o' x y e m k = go (formats_to size s o x m) (formats_to size t o' y k)
  where
    go : FormatsTo size s o x → FormatsTo size t o' y → (ok o ≡ ok o') × (ok o ≡ true → x ≡ y)
    go (inl p) (inl q) = (ap ok (p.1 ∙ sym q.1), λ _. blank_is (shape_for size) s o x p.1 p.2 ∙ blank_same (shape_for size) s t e ∙ sym (blank_is (shape_for size) t o' y q.1 q.2))
    go (inl p) (inr q) = absurd (q.0 (p.0.0, (p.0.1.0, sym e ∙ p.0.1.1, p.0.1.2, p.0.1.3)))
    go (inr p) (inl q) = absurd (p.0 (q.0.0, (q.0.1.0, e ∙ q.0.1.1, q.0.1.2, q.0.1.3)))
    go (inr p) (inr q) = (ap ok (p.1 ∙ sym q.1), λ f. absurd (true≢false (sym f ∙ ap ok p.1)))

call_one : (room n size : ℕ) (a b c : List ℕ) → FormatCall room n size a b → FormatCall room n size a c → b ≡ c
call_one room n size a b c x y = go (ok x.answer) refl
  where
    both : (ok x.answer ≡ ok y.answer) × (ok x.answer ≡ true → x.left ≡ y.left)
    both = by_length size x.lent y.lent x.answer y.answer x.left y.left (x.long ∙ sym y.long) x.made y.made

    go : (t : Bool) → ok x.answer ≡ t → b ≡ c
    go true e = x.done e ∙ both.1 e ∙ sym (y.done (sym both.0 ∙ e))
    go false e = x.refused e ∙ sym (y.refused (sym both.0 ∙ e))

-- ---- a line

module _ {room : ℕ} {w a b c : List ℕ} {anew : Bool} where
  pub commanded_one : Commanded room w anew a b → Commanded room w anew a c → b ≡ c
  commanded_one (obeyed o x d) (obeyed o' y d') = store_one w a x y
  commanded_one (obeyed o x d) (formats n size y v g) = absurd (not_done y x d)
  commanded_one (obeyed o x d) (held n size y v g) = absurd (not_done y x d)
  commanded_one (formats n size y v g) (obeyed o x d) = absurd (not_done y x d)
  commanded_one (held n size y v g) (obeyed o x d) = absurd (not_done y x d)
  commanded_one (held n size y v g) (held m other z v' g') = g ∙ sym g'
  commanded_one (formats n size y v g) (formats m other z v' g') =
      let e = sizes_one y z in
      call_one room m other a b c (subst (λ k. FormatCall room k other a b) e.0 (subst (λ k. FormatCall room n k a b) e.1 g)) g'
  commanded_one (formats n size y v g) (held m other z v' g') =
      let e = sizes_one y z in absurd (v' (subst (λ k. DueOn room k other anew a) e.0 (subst (λ k. DueOn room n k anew a) e.1 v)))
  commanded_one (held m other z v' g') (formats n size y v g) =
      let e = sizes_one y z in absurd (v' (subst (λ k. DueOn room k other anew a) e.0 (subst (λ k. DueOn room n k anew a) e.1 v)))

-- what stands before " anew" is one
anew_one : (l w v : List ℕ) → Anew l w → Anew l v → w ≡ v
anew_one l w v x y =
    let e : length w ≡ length v = let p = ap length x.ends ∙ length-append w (text " anew") in let q = ap length y.ends ∙ length-append v (text " anew") in omega (arith, p, q) in
    sym (take_at w (text " anew") (length w) refl) ∙ ap (take (length w)) (sym x.ends ∙ y.ends) ∙ take_at v (text " anew") (length w) (sym e)

without_one : (l w v : List ℕ) (p q : Bool) → Without l w p → Without l v q → (w ≡ v) × (p ≡ q)
without_one l w v true true x y = (anew_one l w v x y, refl)
without_one l w v false false x y = (x.0 ∙ sym y.0, refl)
without_one l w v true false x y = absurd (y.1 w x)
without_one l w v false true x y = absurd (x.1 v y)

-- A TEXT MAKES ONE STORE OF A STORE
pub did_one : {room : ℕ} {l a b c : List ℕ} → Did room l a b → Did room l a c → b ≡ c
did_one (aside x e) (aside y f) = e ∙ sym f
did_one (aside x e) (asked n w p u k) = absurd (n x)
did_one (asked n w p u k) (aside x e) = absurd (n x)
did_one {room} {l} {a} {b} {c} (asked n w p u k) (asked m v q s j) =
    let e = without_one l w v p q u s in
    commanded_one (subst (λ t. Commanded room v t a b) e.1 (subst (λ t. Commanded room t p a b) e.0 k)) j

-- SO DOES A LINE
pub line_did_one : {room : ℕ} {l a b c : List ℕ} → LineDid room l a b → LineDid room l a c → b ≡ c
line_did_one (passed x e) (passed y f) = e ∙ sym f
line_did_one (passed x e) (spoken n d) = absurd (n x)
line_did_one (spoken n d) (passed x e) = absurd (n x)
line_did_one (spoken n d) (spoken m k) = did_one d k

-- AND SO DO LINES ONE AFTER THE OTHER, which are all read or up to quit
pub chain_one : {room : ℕ} {ls : List (List ℕ)} {a b c : List ℕ} {p q : Bool} → Chain room p ls a b → Chain room q ls a c → (p ≡ q) × (b ≡ c)
chain_one none none = (refl, refl)
chain_one (last k d) (last j e) = (refl, line_did_one d e)
chain_one (last k d) (next n e x) = absurd (n k)
chain_one (next n e x) (last k d) = absurd (n k)
chain_one {room} {c = c} {q = q} (next {ls = ls} n d x) (next m e y) = chain_one x (subst (λ v. Chain room q ls v c) (sym (line_did_one d e)) y)

-- WHAT A RUN MAKES OF A STORE IS ONE, BY THE BYTES OF ITS INPUT, where it was not stopped
pub ran_one : {len : ℕ} {s t u : List ℕ} {r z : Session} (x : Ran len s r t) (y : Ran len s z u) → x.input ≡ y.input → r.stopped ≡ false → z.stopped ≡ false
    → (r.quit ≡ z.quit) × (take r.len t ≡ take z.len u)
ran_one {len} {s} {t} {u} {r} {z} x y e f g =
    let p : x.done ≡ input_lines x.input = sym (x.lines ∙ ap (λ ls. x.done ++ ls) (x.whole f) ∙ append-nil x.done) in
    let q : input_lines y.input ≡ y.done = y.lines ∙ ap (λ ls. y.done ++ ls) (y.whole g) ∙ append-nil y.done in
    chain_one (subst (λ ls. Chain (length s) r.quit ls (take len s) (take r.len t)) (p ∙ ap input_lines e ∙ q) x.chain) y.chain
