-- A line read byte by byte into a buffer. Assumes nothing.
use Prim.Native.Nat.{ℕ, suc, ◌+◌, ◌-◌, ◌≤◌, ◌<◌}
use mathlib.Core.Path.{◌≡◌, refl, sym, ap, ◌∙◌, subst}
use mathlib.Core.Bool.{Bool, true, false, true≢false, cond}
use mathlib.Core.List.{List, [], ◌∷◌, ◌++◌}
use native.Mathlib.Omega.{arith}
use lib.Dec.{eqb}
use lib.ListN.{length, take, set, replicate, length-append, length-set, length-replicate}
use lib.Seq.{length-take-le}
use Rattle.ground.specs.Says.{Says}
use Rattle.ground.proofs.Tests.{says_one}
use Rattle.commands.specs.SheetLines.{words_of}
use Rattle.text_lines.specs.LineText.{is_blank, spaced, markless, text_of, TooLong}
use Rattle.text_lines.specs.Reading.{last_word, gap_before, ReadSoFar}
use Rattle.text_lines.specs.declared.LineRead.{LineRead}
use Rattle.text_lines.proofs.Ending.{behind_parted, behind_more}
use Rattle.text_lines.proofs.Words.{words_blank, words_worded, words_spaced, text_more, pushed}

gap_by : (t : Bool) → cond t 0 1 ≤ 1
gap_by true = omega arith
gap_by false = omega arith

pub gap_most : (t : Bool) (n : ℕ) → gap_before t n ≤ 1
gap_most false n = omega arith
gap_most true n = gap_by (eqb n 0)

is_none : (w : List ℕ) → (t : Bool) × Says t (w ≡ [])
is_none [] = (true, refl)
is_none (b ∷ w) = (false, λ e. let z : suc (length w) ≡ 0 = ap length e in omega arith)

-- how long the text is with a byte more
word_long : (l : List ℕ) (b : ℕ) → is_blank b ≡ false → (t : Bool) → Says t (last_word l ≡ [])
    → length (spaced (words_of (l ++ (b ∷ [])))) ≡ length (spaced (words_of l)) + gap_before t (length (spaced (words_of l))) + 1
word_long l b e t s =
    ap length (text_more l b e t s)
    ∙ length-append (spaced (words_of l)) (replicate (gap_before t (length (spaced (words_of l)))) 32 ++ (b ∷ []))
    ∙ (let n = length-append (replicate (gap_before t (length (spaced (words_of l)))) 32) (b ∷ []) in
    let m = length-replicate {A = ℕ} (gap_before t (length (spaced (words_of l)))) 32 in
    omega (arith, n, m))

longer : (l : List ℕ) (b : ℕ) → length (spaced (words_of l)) ≤ length (spaced (words_of (l ++ (b ∷ []))))
longer l b = go (is_blank b) refl
  where
    go : (t : Bool) → is_blank b ≡ t → length (spaced (words_of l)) ≤ length (spaced (words_of (l ++ (b ∷ []))))
    go true e = omega (arith, ap (λ (ws : List (List ℕ)). length (spaced ws)) (words_blank l b e))
    go false e = let d = is_none (last_word l) in omega (arith, word_long l b e d.0 d.1)

module _ {p : List ℕ} {g : LineRead} {l : List ℕ} (h : ReadSoFar p g l) where
  -- too long already
  pub over_more : (b : ℕ) → g.over ≡ true → ReadSoFar p g (l ++ (b ∷ []))
  over_more b e = record {
    within = h.within;
    words = λ f. absurd (true≢false (sym e ∙ f));
    blank = λ f. absurd (true≢false (sym e ∙ f));
    long = λ f. let x = h.long e in omega (arith, x, longer l b);
  }

  -- a blank
  pub blank_more : (b : ℕ) (r : LineRead) → g.over ≡ false → is_blank b ≡ true → r.fill ≡ g.fill → r.over ≡ false → r.blank ≡ true → ReadSoFar p r (l ++ (b ∷ []))
  blank_more b r o e f v k = record {
    within = omega (arith, f, h.within);
    words = λ _. ap (λ (n : ℕ). take n p) f ∙ h.words o ∙ ap spaced (sym (words_blank l b e));
    blank = λ _. subst (λ (t : Bool). Says t (last_word (l ++ (b ∷ [])) ≡ [])) (sym k) (behind_parted is_blank [] l b e);
    long = λ w. absurd (true≢false (sym w ∙ v));
  }

  module _ (b at : ℕ) (r : LineRead) (o : g.over ≡ false) (e : is_blank b ≡ false) (a : at ≡ g.fill + gap_before g.blank g.fill) where
    text_long : length (spaced (words_of l)) ≡ g.fill
    text_long = ap length (sym (h.words o)) ∙ length-take-le g.fill p h.within

    -- a byte of a word, for which there is room
    pub word_more : at < length p → r.fill ≡ at + 1 → r.over ≡ false → r.blank ≡ false → ReadSoFar (set (set p g.fill 32) at b) r (l ++ (b ∷ []))
    word_more k f v n = record {
      within = omega (arith, f, k, length-set (set p g.fill 32) at b, length-set p g.fill 32);
      words = λ _. ap (λ (m : ℕ). take m (set (set p g.fill 32) at b)) f
          ∙ pushed p g.fill at b (omega (arith, a)) (omega (arith, a, gap_most g.blank g.fill)) k
          ∙ ap (λ (x : List ℕ). x ++ (replicate (at - g.fill) 32 ++ (b ∷ []))) (h.words o)
          ∙ ap (λ (m : ℕ). spaced (words_of l) ++ (replicate m 32 ++ (b ∷ []))) (let z : at - g.fill ≡ gap_before g.blank g.fill = omega (arith, a) in z ∙ ap (gap_before g.blank) (sym text_long))
          ∙ sym (text_more l b e g.blank (h.blank o));
      blank = λ _. subst (λ (t : Bool). Says t (last_word (l ++ (b ∷ [])) ≡ [])) (sym n) (λ w. let y : length (last_word l ++ (b ∷ [])) ≡ 0 = ap length (sym (behind_more is_blank [] l b e) ∙ w) in omega (arith, y, length-append (last_word l) (b ∷ [])));
      long = λ w. absurd (true≢false (sym w ∙ v));
    }

    -- or none
    pub word_over : length p ≤ at → r.fill ≡ g.fill → r.over ≡ true → ReadSoFar p r (l ++ (b ∷ []))
    word_over k f v = record {
      within = omega (arith, f, h.within);
      words = λ w. absurd (true≢false (sym v ∙ w));
      blank = λ w. absurd (true≢false (sym v ∙ w));
      long = λ _. omega (arith, k, a, text_long, word_long l b e g.blank (h.blank o), ap (gap_before g.blank) text_long);
    }

-- ---- what was read is settled by the line

-- it is too long exactly where there was no room
pub over_says : {p : List ℕ} {g : LineRead} {l : List ℕ} → ReadSoFar p g l → Says g.over (TooLong (length p) l)
over_says {p} {g} {l} h = go g.over refl
  where
    go : (t : Bool) → g.over ≡ t → Says t (TooLong (length p) l)
    go true e = h.long e
    go false e = λ w. let n : length (spaced (words_of l)) ≡ g.fill = ap length (sym (h.words e)) ∙ length-take-le g.fill p h.within in omega (arith, w, n, h.within)

module _ {p : List ℕ} {g : LineRead} {l : List ℕ} (h : ReadSoFar p g l) where
  pub read_settled : {q : List ℕ} {k : LineRead} → length q ≡ length p → ReadSoFar q k l → (g.over ≡ k.over) × (g.over ≡ false → take g.fill p ≡ take k.fill q)
  read_settled {q} {k} e r =
      let s : Says k.over (TooLong (length p) l) = subst (λ (n : ℕ). Says k.over (TooLong n l)) e (over_says r) in
      let o : g.over ≡ k.over = says_one (TooLong (length p) l) g.over k.over (over_says h) s in
      (o, λ f. h.words f ∙ sym (r.words (sym o ∙ f)))

  -- and lines that are read alike have one text
  pub text_settled : {m : List ℕ} → g.over ≡ false → ReadSoFar p g m → text_of l ≡ text_of m
  text_settled {m} o r =
      let e : spaced (words_of l) ≡ spaced (words_of m) = sym (h.words o) ∙ r.words o in
      ap (λ (ws : List (List ℕ)). spaced (markless ws)) (sym (words_spaced (words_of l) (words_worded l)) ∙ ap words_of e ∙ words_spaced (words_of m) (words_worded m))
