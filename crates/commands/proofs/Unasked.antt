-- Why a line asks nothing. Assumes nothing.
use Prim.Native.Nat.{ℕ, zero, suc, ◌^◌, ◌≤◌, ◌<◌}
use mathlib.Core.Path.{◌≡◌, refl, sym, ap, ◌∙◌, subst}
use mathlib.Core.Bool.{Bool, true, false, cond, ◌||◌, true≢false}
use mathlib.Core.List.{List, [], ◌∷◌, ◌++◌}
use mathlib.Core.Logic.{◌⊎◌, inl, inr, ⊎_elim}
use native.Mathlib.Omega.{arith}
use lib.Dec.{eqb}
use lib.ListN.{length, take}
use lib.Seq.{length-take-le}
use borrow.Author.Tests.{eqb-false}
use Rattle.ground.specs.Lists.{byte}
use Rattle.ground.proofs.Tests.{untrue}
use Rattle.page.specs.declared.Place.{Place}
use Rattle.page.specs.Places.{InRange}
use Rattle.std.specs.Prelude.{None}
use Rattle.commands.specs.declared.Command.{Command}
use Rattle.commands.specs.declared.Command.TheVariants.{Nothing, Unknown, Format, Put, Lookup, Remove, Count, Row, Listing, Check, Counts, Inspect, Report}
use Rattle.commands.specs.Numbers.{Decimal, Integer, ReadsNumber, ReadsSigned}
use Rattle.commands.specs.Codes.{Spells, Coded}
use Rattle.commands.specs.Lines.{Spaceless, Parted, BehindWord, Placed, Places, Putting, Paged, Asks, WithinLimits, AsksNothing, Spoken, Uncoded, format_word, put_word, add_word, move_word, PutBy, lookup_word, remove_word, count_word, row_word, list_word, check_word, counts_word, inspect_word, report_word}
use Rattle.commands.proofs.Unread.{split_one, no_space, digits_spaceless, integer_spaceless, spells_spaceless}

-- ---- places

module _ (a s v : List ℕ) (f : Spaceless a) (g : Spaceless s) (p : Place) (x : Placed Integer p (a ++ (32 ∷ (s ++ (32 ∷ v))))) where
  outer : (a ≡ x.page) × (s ++ (32 ∷ v) ≡ x.slot ++ (32 ∷ x.volume))
  outer = split_one a x.page _ _ f (integer_spaceless _ _ x.is_page) x.text

  inner : (s ≡ x.slot) × (v ≡ x.volume)
  inner = split_one s x.slot _ _ g (integer_spaceless _ _ x.is_slot) outer.1

  the_page : Integer p.page a
  the_page = subst (Integer p.page) (sym outer.0) x.is_page

  the_slot : Integer p.slot s
  the_slot = subst (Integer p.slot) (sym inner.0) x.is_slot

  the_volume : Integer p.volume v
  the_volume = subst (Integer p.volume) (sym inner.1) x.is_volume

-- a place's part that is no number
module _ (w a b s v : List ℕ) (f : Parted w a b) (g : Parted b s v) where
  parts : (p : Place) → Placed Integer p w → Placed Integer p (a ++ (32 ∷ (s ++ (32 ∷ v))))
  parts p x = subst (Placed Integer p) (f.line ∙ ap (λ (t : List ℕ). a ++ (32 ∷ t)) g.line) x

  pub no_page : ReadsSigned a 2147483647 None → Places w None
  no_page n p r x = n p.page (omega (arith, r.page)) (the_page a s v f.first g.first p (parts p x))

  pub no_slot : ReadsSigned s 32767 None → Places w None
  no_slot n p r x = n p.slot (omega (arith, r.slot)) (the_slot a s v f.first g.first p (parts p x))

  pub no_volume : ReadsSigned v 32767 None → Places w None
  no_volume n p r x = n p.volume (omega (arith, r.volume)) (the_volume a s v f.first g.first p (parts p x))

pub one_word : (w : List ℕ) → Spaceless w → Places w None
one_word w s p r x = no_space w x.page (x.slot ++ (32 ∷ x.volume)) s x.text

pub two_words : (w a b : List ℕ) → w ≡ a ++ (32 ∷ b) → Spaceless a → Spaceless b → Places w None
two_words w a b e f g p r x = no_space b x.slot x.volume g (split_one a x.page b (x.slot ++ (32 ∷ x.volume)) f (integer_spaceless _ _ x.is_page) (sym e ∙ x.text)).1

-- ---- words

abbrev clear : List ℕ → Bool
clear [] = true
clear (x ∷ w) = cond (eqb x 32) false (clear w)

of_clear : (w : List ℕ) → clear w ≡ true → Spaceless w
of_clear [] e = λ k h f. omega arith
of_clear (x ∷ w) e = go (eqb x 32) refl e (of_clear w)
  where
    go : (t : Bool) → eqb x 32 ≡ t → cond t false (clear w) ≡ true → (clear w ≡ true → Spaceless w) → Spaceless (x ∷ w)
    go true q n s k h f = untrue n
    go false q n s zero h f = eqb-false x 32 q f
    go false q n s (suc k) h f = s n k (omega arith) f

-- two words that differ at k
apart : (k : ℕ) (u v w : List ℕ) → w ≡ u → w ≡ v → (byte u k ≡ byte v k → ⊥) → ⊥
apart k u v w e f n = n (sym (ap (λ (x : List ℕ). byte x k) e) ∙ ap (λ (x : List ℕ). byte x k) f)

-- ---- the words of a put

abbrev first_letter : ℕ → Bool
first_letter b = eqb b 112 || (eqb b 97 || eqb b 109)

put_letter : (w : List ℕ) (m : ℕ) → PutBy w m → first_letter (byte w 0) ≡ true
put_letter w m (inl (_, e)) = rw e refl
put_letter w m (inr (inl (_, e))) = rw e refl
put_letter w m (inr (inr (_, e))) = rw e refl

put_clear : (w : List ℕ) (m : ℕ) → PutBy w m → clear w ≡ true
put_clear w m (inl (_, e)) = rw e refl
put_clear w m (inr (inl (_, e))) = rw e refl
put_clear w m (inr (inr (_, e))) = rw e refl

-- a word that begins otherwise is none
put_not : (v : List ℕ) → first_letter (byte v 0) ≡ false → (w : List ℕ) (m : ℕ) → PutBy w m → w ≡ v → ⊥
put_not v n w m q e = true≢false (sym (put_letter w m q) ∙ ap (λ (x : List ℕ). first_letter (byte x 0)) e ∙ n)

put_spoken : (w : List ℕ) (m : ℕ) → PutBy w m → (r : List ℕ) → Spoken (w ++ (32 ∷ r))
put_spoken w m (inl (_, e)) r = rw e (record { some = λ x. omega arith; said = λ x. omega arith })
put_spoken w m (inr (inl (_, e))) r = rw e (record { some = λ x. omega arith; said = λ x. omega arith })
put_spoken w m (inr (inr (_, e))) r = rw e (record { some = λ x. omega arith; said = λ x. omega arith })

-- one word, one mode
pub put_by_one : (w : List ℕ) (m n : ℕ) → PutBy w m → PutBy w n → m ≡ n
put_by_one w m n (inl (a, e)) (inl (b, f)) = a ∙ sym b
put_by_one w m n (inl (a, e)) (inr (inl (b, f))) = absurd (apart 0 put_word add_word w e f (λ x. omega arith))
put_by_one w m n (inl (a, e)) (inr (inr (b, f))) = absurd (apart 0 put_word move_word w e f (λ x. omega arith))
put_by_one w m n (inr (inl (a, e))) (inl (b, f)) = absurd (apart 0 add_word put_word w e f (λ x. omega arith))
put_by_one w m n (inr (inl (a, e))) (inr (inl (b, f))) = a ∙ sym b
put_by_one w m n (inr (inl (a, e))) (inr (inr (b, f))) = absurd (apart 0 add_word move_word w e f (λ x. omega arith))
put_by_one w m n (inr (inr (a, e))) (inl (b, f)) = absurd (apart 0 move_word put_word w e f (λ x. omega arith))
put_by_one w m n (inr (inr (a, e))) (inr (inl (b, f))) = absurd (apart 0 move_word add_word w e f (λ x. omega arith))
put_by_one w m n (inr (inr (a, e))) (inr (inr (b, f))) = a ∙ sym b

-- what a word and a rest ask
abbrev pub On : List ℕ → List ℕ → List ℕ → Command → Type 0
On w r j Nothing = ⊥
On w r j (Format n size) = (w ≡ format_word) × Paged n size r
On w r j (Put n p m) = PutBy w m × Putting j n p r
On w r j (Lookup n) = (w ≡ lookup_word) × Coded r j n
On w r j (Remove n) = (w ≡ remove_word) × Coded r j n
On w r j Count = ⊥
On w r j (Row n) = (w ≡ row_word) × Decimal n r
On w r j Listing = ⊥
On w r j Check = ⊥
On w r j Counts = ⊥
On w r j (Inspect n) = (w ≡ inspect_word) × Decimal n r
On w r j Report = (w ≡ report_word) × Unit {0}
On w r j Unknown = ⊥

module _ (w r : List ℕ) (f : Spaceless w) (s : Spoken (w ++ (32 ∷ r))) where
  word_is : (v : List ℕ) (P : List ℕ → Type 0) → clear v ≡ true → BehindWord (w ++ (32 ∷ r)) v P → (w ≡ v) × P r
  word_is v P c a = let e = split_one w v r a.rest f (of_clear v c) a.line in (e.0, subst P (sym e.1) a.says)

  on : (j : List ℕ) (c : Command) → Asks (w ++ (32 ∷ r)) j c → On w r j c
  on j Nothing a = ⊎_elim s.some s.said a
  on j (Format n size) a = word_is format_word (Paged n size) refl a
  on j (Put n p m) a = let e = word_is a.word (Putting j n p) (put_clear a.word m a.by) a.line in (subst (λ (v : List ℕ). PutBy v m) (sym e.0) a.by, e.1)
  on j (Lookup n) a = word_is lookup_word (λ t. Coded t j n) refl a
  on j (Remove n) a = word_is remove_word (λ t. Coded t j n) refl a
  on j Count a = no_space count_word w r (of_clear count_word refl) (sym a)
  on j (Row n) a = word_is row_word (Decimal n) refl a
  on j Listing a = no_space list_word w r (of_clear list_word refl) (sym a)
  on j Check a = no_space check_word w r (of_clear check_word refl) (sym a)
  on j Counts a = no_space counts_word w r (of_clear counts_word refl) (sym a)
  on j (Inspect n) a = word_is inspect_word (Decimal n) refl a
  on j Report a = word_is report_word (λ t. Unit {0}) refl a
  on j Unknown a = a

  -- a word and a number
  module _ (u : Uncoded w) (unformat : w ≡ format_word → ⊥) (no : (n : ℕ) → n < 2 ^ 64 → Decimal n r → (w ≡ row_word) ⊎ (w ≡ inspect_word) → ⊥) where
    numbers : (j : List ℕ) (c : Command) → WithinLimits c → On w r j c → ⊥
    numbers j Nothing h o = o
    numbers j (Format n size) h o = unformat o.0
    numbers j (Put n p m) h o = u.put m o.0
    numbers j (Lookup n) h o = u.lookup o.0
    numbers j (Remove n) h o = u.remove o.0
    numbers j Count h o = o
    numbers j (Row n) h o = no n h o.1 (inl o.0)
    numbers j Listing h o = o
    numbers j Check h o = o
    numbers j Counts h o = o
    numbers j (Inspect n) h o = no n h o.1 (inr o.0)
    numbers j Report h o = u.report o.0
    numbers j Unknown h o = o

    pub no_number : (k : List ℕ) → AsksNothing (w ++ (32 ∷ r)) k
    no_number k j c l h a = numbers j c h (on j c a)

  -- row and inspect, with no number behind them
  row_uncoded : w ≡ row_word → Uncoded w
  row_uncoded e = record {
    put = λ m q. put_not row_word refl w m q e;
    lookup = λ o. apart 0 lookup_word row_word w o e (λ x. omega arith);
    remove = λ o. apart 1 remove_word row_word w o e (λ x. omega arith);
    report = λ o. apart 2 report_word row_word w o e (λ x. omega arith);
  }

  inspect_uncoded : w ≡ inspect_word → Uncoded w
  inspect_uncoded e = record {
    put = λ m q. put_not inspect_word refl w m q e;
    lookup = λ o. apart 0 lookup_word inspect_word w o e (λ x. omega arith);
    remove = λ o. apart 0 remove_word inspect_word w o e (λ x. omega arith);
    report = λ o. apart 0 report_word inspect_word w o e (λ x. omega arith);
  }

  pub no_row : w ≡ row_word → ReadsNumber r None → (k : List ℕ) → AsksNothing (w ++ (32 ∷ r)) k
  no_row e q k = no_number (row_uncoded e) (λ o. apart 0 format_word row_word w o e (λ x. omega arith)) (λ n h d _. q n h d) k

  pub no_inspect : w ≡ inspect_word → ReadsNumber r None → (k : List ℕ) → AsksNothing (w ++ (32 ∷ r)) k
  no_inspect e q k = no_number (inspect_uncoded e) (λ o. apart 0 format_word inspect_word w o e (λ x. omega arith)) (λ n h d _. q n h d) k

  -- a word and a code
  module _ (k : List ℕ) (no : (c : List ℕ) → length c ≤ length k → Spells r c → ⊥) where
    uncoded : (j : List ℕ) (n : ℕ) → length j ≡ length k → Coded r j n → ⊥
    uncoded j n l c = no (take n j) (omega (arith, length-take-le n j c.within, c.within)) c.spells

    lookups : w ≡ lookup_word → (j : List ℕ) (c : Command) → length j ≡ length k → On w r j c → ⊥
    lookups e j Nothing l o = o
    lookups e j (Format n size) l o = apart 0 format_word lookup_word w o.0 e (λ x. omega arith)
    lookups e j (Put n p m) l o = put_not lookup_word refl w m o.0 e
    lookups e j (Lookup n) l o = uncoded j n l o.1
    lookups e j (Remove n) l o = apart 0 remove_word lookup_word w o.0 e (λ x. omega arith)
    lookups e j Count l o = o
    lookups e j (Row n) l o = apart 0 row_word lookup_word w o.0 e (λ x. omega arith)
    lookups e j Listing l o = o
    lookups e j Check l o = o
    lookups e j Counts l o = o
    lookups e j (Inspect n) l o = apart 0 inspect_word lookup_word w o.0 e (λ x. omega arith)
    lookups e j Report l o = apart 0 report_word lookup_word w o.0 e (λ x. omega arith)
    lookups e j Unknown l o = o

    removes : w ≡ remove_word → (j : List ℕ) (c : Command) → length j ≡ length k → On w r j c → ⊥
    removes e j Nothing l o = o
    removes e j (Format n size) l o = apart 0 format_word remove_word w o.0 e (λ x. omega arith)
    removes e j (Put n p m) l o = put_not remove_word refl w m o.0 e
    removes e j (Lookup n) l o = apart 0 lookup_word remove_word w o.0 e (λ x. omega arith)
    removes e j (Remove n) l o = uncoded j n l o.1
    removes e j Count l o = o
    removes e j (Row n) l o = apart 1 row_word remove_word w o.0 e (λ x. omega arith)
    removes e j Listing l o = o
    removes e j Check l o = o
    removes e j Counts l o = o
    removes e j (Inspect n) l o = apart 0 inspect_word remove_word w o.0 e (λ x. omega arith)
    removes e j Report l o = apart 2 report_word remove_word w o.0 e (λ x. omega arith)
    removes e j Unknown l o = o

    pub no_lookup : w ≡ lookup_word → AsksNothing (w ++ (32 ∷ r)) k
    no_lookup e j c l h a = lookups e j c l (on j c a)

    pub no_remove : w ≡ remove_word → AsksNothing (w ++ (32 ∷ r)) k
    no_remove e j c l h a = removes e j c l (on j c a)

-- what stands after the word of a put
module _ (w : List ℕ) (m : ℕ) (q : PutBy w m) (r k : List ℕ) where
  module _ (no : (j : List ℕ) (n : ℕ) (p : Place) → length j ≡ length k → InRange p → Putting j n p r → ⊥) where
    puts : (j : List ℕ) (c : Command) → length j ≡ length k → WithinLimits c → On w r j c → ⊥
    puts j Nothing l h o = o
    puts j (Format n size) l h o = put_not format_word refl w m q o.0
    puts j (Put n p _) l h o = no j n p l h o.1
    puts j (Lookup n) l h o = put_not lookup_word refl w m q o.0
    puts j (Remove n) l h o = put_not remove_word refl w m q o.0
    puts j Count l h o = o
    puts j (Row n) l h o = put_not row_word refl w m q o.0
    puts j Listing l h o = o
    puts j Check l h o = o
    puts j Counts l h o = o
    puts j (Inspect n) l h o = put_not inspect_word refl w m q o.0
    puts j Report l h o = put_not report_word refl w m q o.0
    puts j Unknown l h o = o

    pub no_put : AsksNothing (w ++ (32 ∷ r)) k
    no_put j c l h a = puts j c l h (on w r (of_clear w (put_clear w m q)) (put_spoken w m q r) j c a)

  pub put_alone : Spaceless r → AsksNothing (w ++ (32 ∷ r)) k
  put_alone s = no_put (λ j n p l h x. no_space r x.code x.after.rest s x.after.line)

  -- r's first space
  module _ (a b : List ℕ) (e : r ≡ a ++ (32 ∷ b)) (f : Spaceless a) where
    halves : {j : List ℕ} {n : ℕ} {p : Place} (x : Putting j n p r) → (a ≡ x.code) × (b ≡ x.after.rest)
    halves x = split_one a x.code b x.after.rest f (spells_spaceless x.coded.spells) (sym e ∙ x.after.line)

    pub put_nowhere : Places b None → AsksNothing (w ++ (32 ∷ r)) k
    put_nowhere q = no_put (λ j n p l h x. q p h (subst (Placed Integer p) (sym (halves x).1) x.after.says))

    pub put_wrong : ((c : List ℕ) → length c ≤ length k → Spells a c → ⊥) → AsksNothing (w ++ (32 ∷ r)) k
    put_wrong q = no_put (λ j n p l h x.
        q (take n j) (omega (arith, length-take-le n j x.coded.within, x.coded.within)) (subst (λ (t : List ℕ). Spells t (take n j)) (sym (halves x).0) x.coded.spells))

-- what stands after the word format
module _ (r k : List ℕ) where
  module _ (no : (n size : ℕ) → n < 2 ^ 64 → size < 2 ^ 64 → Paged n size r → ⊥) where
    formats : (j : List ℕ) (c : Command) → WithinLimits c → On format_word r j c → ⊥
    formats j Nothing h o = o
    formats j (Format n size) h o = no n size h.0 h.1 o.1
    formats j (Put n p m) h o = put_not format_word refl format_word m o.0 refl
    formats j (Lookup n) h o = apart 0 lookup_word format_word format_word o.0 refl (λ x. omega arith)
    formats j (Remove n) h o = apart 0 remove_word format_word format_word o.0 refl (λ x. omega arith)
    formats j Count h o = o
    formats j (Row n) h o = apart 0 row_word format_word format_word o.0 refl (λ x. omega arith)
    formats j Listing h o = o
    formats j Check h o = o
    formats j Counts h o = o
    formats j (Inspect n) h o = apart 0 inspect_word format_word format_word o.0 refl (λ x. omega arith)
    formats j Report h o = apart 0 report_word format_word format_word o.0 refl (λ x. omega arith)
    formats j Unknown h o = o

    pub no_format : AsksNothing (format_word ++ (32 ∷ r)) k
    no_format j c l h a = formats j c h (on format_word r (of_clear format_word refl) (record { some = λ x. omega arith; said = λ x. omega arith }) j c a)

  -- one word, which is no number
  pub format_alone : Spaceless r → ReadsNumber r None → AsksNothing (format_word ++ (32 ∷ r)) k
  format_alone s q = no_format (λ n size h i. ⊎_elim (λ d. q n h d.0) (λ x. no_space r x.pages x.after.rest s x.after.line))

  -- r's first space
  module _ (a b : List ℕ) (e : r ≡ a ++ (32 ∷ b)) (f : Spaceless a) where
    paged : (n size : ℕ) → Paged n size r → Decimal n a × Decimal size b
    paged n size (inl d) = absurd (no_space r a b (digits_spaceless n r d.0) e)
    paged n size (inr x) =
        let p = split_one a x.pages b x.after.rest f (digits_spaceless n x.pages x.are) (sym e ∙ x.after.line) in
        (subst (Decimal n) (sym p.0) x.are, subst (Decimal size) (sym p.1) x.after.says)

    pub format_unpaged : ReadsNumber a None → AsksNothing (format_word ++ (32 ∷ r)) k
    format_unpaged q = no_format (λ n size h i x. q n h (paged n size x).0)

    pub format_unsized : ReadsNumber b None → AsksNothing (format_word ++ (32 ∷ r)) k
    format_unsized q = no_format (λ n size h i x. q size i (paged n size x).1)

-- a line of one word
module _ (l : List ℕ) (f : Spaceless l) (s : Spoken l) (x : l ≡ count_word → ⊥) (y : l ≡ list_word → ⊥) (z : l ≡ check_word → ⊥) (u : l ≡ counts_word → ⊥) where
  pub no_word : (k : List ℕ) → AsksNothing l k
  no_word k j Nothing m h a = ⊎_elim s.some s.said a
  no_word k j (Format n size) m h a = no_space l format_word a.rest f a.line
  no_word k j (Put n p _) m h a = no_space l a.word a.line.rest f a.line.line
  no_word k j (Lookup n) m h a = no_space l lookup_word a.rest f a.line
  no_word k j (Remove n) m h a = no_space l remove_word a.rest f a.line
  no_word k j Count m h a = x a
  no_word k j (Row n) m h a = no_space l row_word a.rest f a.line
  no_word k j Listing m h a = y a
  no_word k j Check m h a = z a
  no_word k j Counts m h a = u a
  no_word k j (Inspect n) m h a = no_space l inspect_word a.rest f a.line
  no_word k j Report m h a = no_space l report_word a.rest f a.line
  no_word k j Unknown m h a = a
