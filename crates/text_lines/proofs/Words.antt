-- The words of a line with one byte more, and their text. Assumes nothing.
use Prim.Native.Nat.{ℕ, zero, suc, ◌+◌, ◌-◌, ◌≤◌, ◌<◌}
use mathlib.Core.Path.{◌≡◌, refl, sym, ap, ◌∙◌}
use mathlib.Core.Bool.{Bool, true, false, cond}
use mathlib.Core.List.{List, [], ◌∷◌, ◌++◌, append_assoc, append-nil}
use mathlib.Core.Logic.{⊎_elim}
use native.Mathlib.Numerals.{add-one}
use native.Mathlib.Omega.{arith}
use lib.Dec.{eqb}
use lib.ListN.{length, take, drop, set, replicate, length-append, length-set}
use lib.Seq.{take-suc-set, take-set-le}
use borrow.Author.Tests.{ne_eqb}
use Rattle.ground.specs.Lists.{byte}
use Rattle.ground.specs.Says.{Says}
use Rattle.ground.proofs.Sides.{side}
use Rattle.commands.proofs.Cutting.{some_then}
use Rattle.commands.specs.SheetLines.{word_then, cut_from, words_of}
use Rattle.text_lines.specs.Ends.{behind_last}
use Rattle.text_lines.specs.LineText.{is_blank, behind_blanks, spaced, behind_mark, markless, text_of, Blankless, Worded}
use Rattle.text_lines.specs.Reading.{last_word, gap_before}
use Rattle.text_lines.proofs.Ending.{behind_parted, behind_more}

-- ---- words that a blank has ended, and the one that none has

unfoldable done : List ℕ → List ℕ → List (List ℕ)
done w [] = []
done w (b ∷ l) = cond (is_blank b) (word_then w (done [] l)) (done (w ++ (b ∷ [])) l)

word_then_append : (w : List ℕ) (xs ys : List (List ℕ)) → word_then w (xs ++ ys) ≡ word_then w xs ++ ys
word_then_append [] xs ys = refl
word_then_append (b ∷ w) xs ys = refl

cut_is : (w l : List ℕ) → cut_from w l ≡ done w l ++ word_then (behind_last is_blank w l) []
unfolding cut_from done behind_last
cut_is w [] = refl
cut_is w (b ∷ l) = go (is_blank b) (cut_is [] l) (cut_is (w ++ (b ∷ [])) l)
  where
    go : (t : Bool) {u v : List (List ℕ)} → u ≡ done [] l ++ word_then (behind_last is_blank [] l) [] → v ≡ done (w ++ (b ∷ [])) l ++ word_then (behind_last is_blank (w ++ (b ∷ [])) l) []
        → cond t (word_then w u) v ≡ cond t (word_then w (done [] l)) (done (w ++ (b ∷ [])) l) ++ word_then (cond t (behind_last is_blank [] l) (behind_last is_blank (w ++ (b ∷ [])) l)) []
    go true e f = ap (λ (x : List (List ℕ)). word_then w x) e ∙ word_then_append w (done [] l) (word_then (behind_last is_blank [] l) [])
    go false e f = f

done_append : (w i j : List ℕ) → done w (i ++ j) ≡ done w i ++ done (behind_last is_blank w i) j
unfolding done behind_last
done_append w [] j = refl
done_append w (b ∷ i) j = go (is_blank b) (done_append [] i j) (done_append (w ++ (b ∷ [])) i j)
  where
    go : (t : Bool) {u v : List (List ℕ)} → u ≡ done [] i ++ done (behind_last is_blank [] i) j → v ≡ done (w ++ (b ∷ [])) i ++ done (behind_last is_blank (w ++ (b ∷ [])) i) j
        → cond t (word_then w u) v ≡ cond t (word_then w (done [] i)) (done (w ++ (b ∷ [])) i) ++ done (cond t (behind_last is_blank [] i) (behind_last is_blank (w ++ (b ∷ [])) i)) j
    go true e f = ap (λ (x : List (List ℕ)). word_then w x) e ∙ word_then_append w (done [] i) (done (behind_last is_blank [] i) j)
    go false e f = f

-- ---- one byte more

-- a blank adds no word
pub words_blank : (l : List ℕ) (b : ℕ) → is_blank b ≡ true → words_of (l ++ (b ∷ [])) ≡ words_of l
unfolding done
words_blank l b e =
    cut_is [] (l ++ (b ∷ []))
    ∙ ap (λ (w : List ℕ). done [] (l ++ (b ∷ [])) ++ word_then w []) (behind_parted is_blank [] l b e)
    ∙ append-nil (done [] (l ++ (b ∷ [])))
    ∙ done_append [] l (b ∷ [])
    ∙ ap (λ (t : Bool). done [] l ++ cond t (word_then (last_word l) []) []) e
    ∙ sym (cut_is [] l)

some_word : (w : List ℕ) (b : ℕ) → word_then (w ++ (b ∷ [])) [] ≡ (w ++ (b ∷ [])) ∷ []
some_word [] b = refl
some_word (c ∷ w) b = refl

-- any other byte goes to the last word
words_other : (l : List ℕ) (b : ℕ) → is_blank b ≡ false → words_of (l ++ (b ∷ [])) ≡ done [] l ++ ((last_word l ++ (b ∷ [])) ∷ [])
unfolding done
words_other l b e =
    cut_is [] (l ++ (b ∷ []))
    ∙ ap (λ (w : List ℕ). done [] (l ++ (b ∷ [])) ++ word_then w []) (behind_more is_blank [] l b e)
    ∙ ap (λ (ws : List (List ℕ)). done [] (l ++ (b ∷ [])) ++ ws) (some_word (last_word l) b)
    ∙ ap (λ (ws : List (List ℕ)). ws ++ ((last_word l ++ (b ∷ [])) ∷ []))
    (done_append [] l (b ∷ []) ∙ ap (λ (t : Bool). done [] l ++ cond t (word_then (last_word l) []) []) e ∙ append-nil (done [] l))

-- ---- each word has a byte and no blank

blankless_more : (w : List ℕ) (b : ℕ) → Blankless w → is_blank b ≡ false → Blankless (w ++ (b ∷ []))
blankless_more [] b f n = (n, tt)
blankless_more (c ∷ w) b f n = (f.0, blankless_more w b f.1 n)

worded_then : (w : List ℕ) (ws : List (List ℕ)) → Blankless w → Worded ws → Worded (word_then w ws)
worded_then [] ws f g = g
worded_then (b ∷ w) ws f g = (omega arith, f, g)

cut_worded : (w l : List ℕ) → Blankless w → Worded (cut_from w l)
unfolding cut_from
cut_worded w [] f = worded_then w [] f tt
cut_worded w (b ∷ l) f = go (is_blank b) refl (cut_worded [] l tt) (λ n. cut_worded (w ++ (b ∷ [])) l (blankless_more w b f n))
  where
    go : (t : Bool) → is_blank b ≡ t → Worded (cut_from [] l) → (is_blank b ≡ false → Worded (cut_from (w ++ (b ∷ [])) l)) → Worded (cond t (word_then w (cut_from [] l)) (cut_from (w ++ (b ∷ [])) l))
    go true e g h = worded_then w (cut_from [] l) f g
    go false e g h = h e

pub words_worded : (l : List ℕ) → Worded (words_of l)
words_worded l = cut_worded [] l tt

-- ---- words with one blank between

blanks_append : (ws vs : List (List ℕ)) → behind_blanks (ws ++ vs) ≡ behind_blanks ws ++ behind_blanks vs
unfolding behind_blanks
blanks_append [] vs = refl
blanks_append (w ∷ ws) vs = ap (λ (x : List ℕ). 32 ∷ x) (ap (λ (x : List ℕ). w ++ x) (blanks_append ws vs) ∙ sym (append_assoc w (behind_blanks ws) (behind_blanks vs)))

-- the last word longer
last_longer : (ds : List (List ℕ)) (w : List ℕ) (b : ℕ) → spaced (ds ++ ((w ++ (b ∷ [])) ∷ [])) ≡ spaced (ds ++ (w ∷ [])) ++ (b ∷ [])
unfolding spaced behind_blanks
last_longer [] w b = append-nil (w ++ (b ∷ [])) ∙ ap (λ (x : List ℕ). x ++ (b ∷ [])) (sym (append-nil w))
last_longer (d ∷ ds) w b =
    ap (λ (x : List ℕ). d ++ x)
    (blanks_append ds ((w ++ (b ∷ [])) ∷ [])
    ∙ ap (λ (x : List ℕ). behind_blanks ds ++ (32 ∷ x)) (append-nil (w ++ (b ∷ [])) ∙ ap (λ (x : List ℕ). x ++ (b ∷ [])) (sym (append-nil w)))
    ∙ sym (append_assoc (behind_blanks ds) (32 ∷ (w ++ [])) (b ∷ []))
    ∙ ap (λ (x : List ℕ). x ++ (b ∷ [])) (sym (blanks_append ds (w ∷ []))))
    ∙ sym (append_assoc d (behind_blanks (ds ++ (w ∷ []))) (b ∷ []))

-- one word more, of one byte
word_added : (ws : List (List ℕ)) (b : ℕ) → Worded ws → spaced (ws ++ ((b ∷ []) ∷ [])) ≡ spaced ws ++ (replicate (gap_before true (length (spaced ws))) 32 ++ (b ∷ []))
unfolding spaced behind_blanks
word_added [] b f = refl
word_added (w ∷ ws) b f =
    ap (λ (x : List ℕ). w ++ x) (blanks_append ws ((b ∷ []) ∷ []))
    ∙ sym (append_assoc w (behind_blanks ws) (32 ∷ b ∷ []))
    ∙ ap (λ (t : Bool). (w ++ behind_blanks ws) ++ (replicate (cond t 0 1) 32 ++ (b ∷ []))) (sym (ne_eqb (length (w ++ behind_blanks ws)) 0 (λ e. omega (arith, e, length-append w (behind_blanks ws), f.0))))

-- the text of a line with a byte more that is no blank
pub text_more : (l : List ℕ) (b : ℕ) → is_blank b ≡ false → (t : Bool) → Says t (last_word l ≡ [])
    → spaced (words_of (l ++ (b ∷ []))) ≡ spaced (words_of l) ++ (replicate (gap_before t (length (spaced (words_of l)))) 32 ++ (b ∷ []))
text_more l b e true s =
    let d : words_of l ≡ done [] l = cut_is [] l ∙ ap (λ (w : List ℕ). done [] l ++ word_then w []) s ∙ append-nil (done [] l) in
    ap spaced (words_other l b e ∙ ap (λ (w : List ℕ). done [] l ++ ((w ++ (b ∷ [])) ∷ [])) s ∙ ap (λ (ws : List (List ℕ)). ws ++ ((b ∷ []) ∷ [])) (sym d))
    ∙ word_added (words_of l) b (words_worded l)
text_more l b e false s =
    ap spaced (words_other l b e)
    ∙ last_longer (done [] l) (last_word l) b
    ∙ ap (λ (x : List ℕ). x ++ (b ∷ [])) (ap spaced (sym (cut_is [] l ∙ ap (λ (ws : List (List ℕ)). done [] l ++ ws) (held (last_word l) s))))
  where
    held : (w : List ℕ) → (w ≡ [] → ⊥) → word_then w [] ≡ w ∷ []
    held [] n = absurd (n refl)
    held (c ∷ w) n = refl

-- ---- in the buffer

-- a blank or none, and then b
pub pushed : (p : List ℕ) (fill at b : ℕ) → fill ≤ at → at ≤ fill + 1 → at < length p → take (at + 1) (set (set p fill 32) at b) ≡ take fill p ++ (replicate (at - fill) 32 ++ (b ∷ []))
pushed p fill at b h k f = ⊎_elim
    (λ (x : at < fill + 1).
    let m : at ≡ fill = omega arith in
    let z : at - fill ≡ 0 = omega arith in
    first ∙ ap (λ (n : ℕ). take n (set p fill 32) ++ (b ∷ [])) m ∙ ap (λ (v : List ℕ). v ++ (b ∷ [])) (take-set-le fill p fill 32 (omega arith)) ∙ ap (λ (n : ℕ). take fill p ++ (replicate n 32 ++ (b ∷ []))) (sym z))
    (λ (x : fill + 1 ≤ at).
    let m : at ≡ suc fill = omega arith in
    let z : at - fill ≡ 1 = omega arith in
    first
    ∙ ap (λ (n : ℕ). take n (set p fill 32) ++ (b ∷ [])) m
    ∙ ap (λ (v : List ℕ). v ++ (b ∷ [])) (take-suc-set p fill 32 (omega arith))
    ∙ append_assoc (take fill p) (32 ∷ []) (b ∷ [])
    ∙ ap (λ (n : ℕ). take fill p ++ (replicate n 32 ++ (b ∷ []))) (sym z))
    (side at (fill + 1))
  where
    first : take (at + 1) (set (set p fill 32) at b) ≡ take at (set p fill 32) ++ (b ∷ [])
    first = ap (λ (n : ℕ). take n (set (set p fill 32) at b)) (add-one at) ∙ take-suc-set (set p fill 32) at b (omega (arith, length-set p fill 32))

-- ---- the words of words with one blank between

cut_word : (v w x : List ℕ) → Blankless w → cut_from v (w ++ x) ≡ cut_from (v ++ w) x
unfolding cut_from
cut_word v [] x f = ap (λ (u : List ℕ). cut_from u x) (sym (append-nil v))
cut_word v (b ∷ w) x f =
    ap (λ (t : Bool). cond t (word_then v (cut_from [] (w ++ x))) (cut_from (v ++ (b ∷ [])) (w ++ x))) f.0
    ∙ cut_word (v ++ (b ∷ [])) w x f.1
    ∙ ap (λ (u : List ℕ). cut_from u x) (append_assoc v (b ∷ []) w)

cut_blanks : (w : List ℕ) (ws : List (List ℕ)) → 1 ≤ length w → Worded ws → cut_from w (behind_blanks ws) ≡ w ∷ ws
unfolding cut_from behind_blanks
cut_blanks w [] h f = some_then w [] h
cut_blanks w (u ∷ us) h f =
    ap (λ (ws : List (List ℕ)). word_then w ws) (cut_word [] u (behind_blanks us) f.1 ∙ cut_blanks u us f.0 f.2)
    ∙ some_then w (u ∷ us) h

-- THEY ARE THE WORDS
pub words_spaced : (ws : List (List ℕ)) → Worded ws → words_of (spaced ws) ≡ ws
unfolding cut_from spaced
words_spaced [] f = refl
words_spaced (w ∷ ws) f = cut_word [] w (behind_blanks ws) f.1 ∙ cut_blanks w ws f.0 f.2

blankless_drop : (n : ℕ) (w : List ℕ) → Blankless w → Blankless (drop n w)
blankless_drop zero w f = f
blankless_drop (suc n) [] f = tt
blankless_drop (suc n) (b ∷ w) f = blankless_drop n w f.1

unmarked_when : (a b c : Bool) (u w : List ℕ) → Blankless u → Blankless w → Blankless (cond a (cond b (cond c u w) w) w)
unmarked_when false b c u w f g = g
unmarked_when true false c u w f g = g
unmarked_when true true false u w f g = g
unmarked_when true true true u w f g = f

markless_worded : (ws : List (List ℕ)) → Worded ws → Worded (markless ws)
unfolding markless behind_mark
markless_worded [] f = tt
markless_worded (w ∷ ws) f = worded_then (behind_mark w) ws (unmarked_when (eqb (byte w 0) 239) (eqb (byte w 1) 187) (eqb (byte w 2) 191) (drop 3 w) w (blankless_drop 3 w f.1) f.1) f.2

-- SO THE WORDS OF A LINE'S TEXT ARE THE LINE'S, without a byte-order mark
pub text_words : (l : List ℕ) → words_of (text_of l) ≡ markless (words_of l)
text_words l = words_spaced (markless (words_of l)) (markless_worded (words_of l) (words_worded l))

-- and its words with one blank between are the text again
pub text_again : (l : List ℕ) → spaced (words_of (text_of l)) ≡ text_of l
text_again l = ap spaced (text_words l)
