-- A line asks one command only: its first three bytes and its sixth say which. Assumes nothing.
use Rattle.std.proofs.Common.{◌≡◌, ℕ, ◌+◌, eqb, ◌⊎◌, List, [], ◌∷◌, ◌++◌, length, sym, refl, ap, ◌∙◌, subst, inl, inr, arith}
use Rattle.ground.specs.Lists.{byte}
use Rattle.commands.specs.declared.Command.{Command}
use Rattle.commands.specs.declared.Command.TheVariants.{Nothing, Unknown, Format, Put, Lookup, Remove, Count, Row, Listing, Check, Counts, Inspect, Report}
use Rattle.commands.specs.Lines.{Paged, format_word, put_word, add_word, move_word, PutBy, Asks, AsksNothing, Means, WithinLimits}
use Rattle.commands.specs.Numbers.{Decimal}
use Rattle.commands.proofs.Unread.{split_one, no_space, digits_spaceless}
use Rattle.store.specs.Moves.{pick}
use Rattle.lots.specs.declared.Outcome.{Outcome}
use Rattle.lots.specs.Obeys.{Obeys}

-- which of the commands it is; a put by its mode
abbrev pub kind : Command → ℕ
kind Nothing = 0
kind (Format n size) = 1
kind (Put n p m) = 20 + m
kind (Lookup n) = 3
kind (Remove n) = 4
kind Count = 5
kind (Row n) = 6
kind Listing = 7
kind Check = 8
kind Counts = 12
kind (Inspect n) = 9
kind Report = 11
kind Unknown = 10

-- the command that the first three bytes begin, with the sixth, which only counts has of those that begin as count does
sort : ℕ → ℕ → ℕ → ℕ → ℕ
sort a b c d =
    pick (eqb a 102) 1 (pick (eqb a 112) 20 (pick (eqb a 97) 21 (pick (eqb a 109) 22 (pick (eqb a 105) 9
    (pick (eqb a 108) (pick (eqb b 111) 3 7) (pick (eqb a 114) (pick (eqb b 101) (pick (eqb c 112) 11 4) 6) (pick (eqb a 99) (pick (eqb b 111) (pick (eqb d 115) 12 5) 8) 0)))))))

abbrev sort_of : List ℕ → ℕ
sort_of l = sort (byte l 0) (byte l 1) (byte l 2) (byte l 5)

sorted_as : (l : List ℕ) (n : ℕ) (t : List ℕ) → l ≡ t → sort_of t ≡ n → sort_of l ≡ n
sorted_as l n t e h = subst (λ x. sort_of x ≡ n) (sym e) h

empty : (l : List ℕ) → length l ≡ 0 → l ≡ []
empty [] e = refl
empty (x ∷ l) e = absurd (omega arith)

comment : (a b c d : ℕ) → a ≡ 35 → sort a b c d ≡ 0
unfolding sort
comment a b c d e = rw e refl

put_kind : (l w t : List ℕ) (m : ℕ) → l ≡ w ++ t → PutBy w m → sort_of l ≡ 20 + m
unfolding sort
put_kind l w t m e (inl x) = sorted_as l 20 (put_word ++ t) (e ∙ ap (λ v. v ++ t) x.1) refl ∙ ap (λ n. 20 + n) (sym x.0)
put_kind l w t m e (inr (inl x)) = sorted_as l 21 (add_word ++ t) (e ∙ ap (λ v. v ++ t) x.1) refl ∙ ap (λ n. 20 + n) (sym x.0)
put_kind l w t m e (inr (inr x)) = sorted_as l 22 (move_word ++ t) (e ∙ ap (λ v. v ++ t) x.1) refl ∙ ap (λ n. 20 + n) (sym x.0)

asked_kind : (l k : List ℕ) (c : Command) → Asks l k c → sort_of l ≡ kind c
unfolding sort
asked_kind l k Nothing (inl e) = sorted_as l 0 [] (empty l e) refl
asked_kind l k Nothing (inr e) = comment (byte l 0) (byte l 1) (byte l 2) (byte l 5) e
asked_kind l k (Format n size) x = sorted_as l 1 _ x.line refl
asked_kind l k (Put n p m) x = put_kind l x.word _ m x.line.line x.by
asked_kind l k (Lookup n) x = sorted_as l 3 _ x.line refl
asked_kind l k (Remove n) x = sorted_as l 4 _ x.line refl
asked_kind l k Count x = sorted_as l 5 _ x refl
asked_kind l k (Row n) x = sorted_as l 6 _ x.line refl
asked_kind l k Listing x = sorted_as l 7 _ x refl
asked_kind l k Check x = sorted_as l 8 _ x refl
asked_kind l k Counts x = sorted_as l 12 _ x refl
asked_kind l k (Inspect n) x = sorted_as l 9 _ x.line refl
asked_kind l k Report x = sorted_as l 11 _ x.line refl
asked_kind l k Unknown x = absurd x

pub asks_one : (l k j : List ℕ) (c d : Command) → Asks l k c → Asks l j d → kind c ≡ kind d
asks_one l k j c d x y = sym (asked_kind l k c x) ∙ asked_kind l j d y

-- a text writes one number of pages, of one size
paged_one : (w : List ℕ) (n size m other : ℕ) → Paged n size w → Paged m other w → (n ≡ m) × (size ≡ other)
paged_one w n size m other (inl d) (inl e) = (sym d.0.is ∙ e.0.is, d.1 ∙ sym e.1)
paged_one w n size m other (inl d) (inr y) = absurd (no_space w y.pages y.after.rest (digits_spaceless n w d.0) y.after.line)
paged_one w n size m other (inr x) (inl e) = absurd (no_space w x.pages x.after.rest (digits_spaceless m w e.0) x.after.line)
paged_one w n size m other (inr x) (inr y) =
    let p = split_one x.pages y.pages x.after.rest y.after.rest (digits_spaceless n x.pages x.are) (digits_spaceless m y.pages y.are) (sym x.after.line ∙ y.after.line) in
    (sym (subst (Decimal n) p.0 x.are).is ∙ y.are.is, sym (subst (Decimal size) p.1 x.after.says).is ∙ y.after.says.is)

-- the pages and the page size that a line asks of a format are one
pub format_one : (l k j : List ℕ) (n size m other : ℕ) → Asks l k (Format n size) → Asks l j (Format m other) → (n ≡ m) × (size ≡ other)
format_one l k j n size m other x y =
    let q : format_word ++ (32 ∷ x.rest) ≡ format_word ++ (32 ∷ y.rest) = sym x.line ∙ y.line in
    let e : x.rest ≡ y.rest = cc in
    paged_one y.rest n size m other (subst (Paged n size) e x.says) y.says

-- it asks the command, or it is unknown and asks none
taken : (l k : List ℕ) (c : Command) → Means l k c → ((kind c ≡ 10) × AsksNothing l k) ⊎ Asks l k c
taken l k Nothing m = inr m
taken l k (Format n size) m = inr m
taken l k (Put n p o) m = inr m
taken l k (Lookup n) m = inr m
taken l k (Remove n) m = inr m
taken l k Count m = inr m
taken l k (Row n) m = inr m
taken l k Listing m = inr m
taken l k Check m = inr m
taken l k Counts m = inr m
taken l k (Inspect n) m = inr m
taken l k Report m = inr m
taken l k Unknown m = inl (refl, m)

-- what a line is taken for is one command, whatever buffer of that length its code goes to
pub means_one : (l k j : List ℕ) (c d : Command) → length j ≡ length k → WithinLimits c → WithinLimits d → Means l k c → Means l j d → kind c ≡ kind d
means_one l k j c d e w v m n = go (taken l k c m) (taken l j d n)
  where
    go : ((kind c ≡ 10) × AsksNothing l k) ⊎ Asks l k c → ((kind d ≡ 10) × AsksNothing l j) ⊎ Asks l j d → kind c ≡ kind d
    go (inl x) (inl y) = x.0 ∙ sym y.0
    go (inl x) (inr y) = absurd (x.1 j d e v y)
    go (inr x) (inl y) = absurd (y.1 k c (sym e) w x)
    go (inr x) (inr y) = asks_one l k j c d x y

-- and so is the command that a line is obeyed as, whatever its store
pub obeys_one : {l s t s' t' : List ℕ} {o o' : Outcome} (x : Obeys l s o t) (y : Obeys l s' o' t') → kind x.command ≡ kind y.command
obeys_one {l} x y = means_one l x.code y.code x.command y.command (y.long ∙ sym x.long) x.fits y.fits x.means y.means
