-- A line or a byte more of a sheet is read; and what the lines of a file say is one. Assumes nothing.
use Prim.Native.Nat.{ℕ, suc, ◌+◌, ◌≤◌, ◌<◌}
use mathlib.Core.Path.{◌≡◌, refl, sym, ap, subst, ◌∙◌}
use mathlib.Core.Bool.{Bool, true, false}
use mathlib.Core.List.{List, [], ◌∷◌, ◌++◌, append_assoc, append-nil}
use mathlib.Core.Logic.{⊎_elim}
use native.Mathlib.Numerals.{add-one}
use native.Mathlib.Omega.{arith}
use lib.ListN.{length, get_or, take, set, length-append}
use lib.Seq.{length-take-le, take-suc, take-suc-set, take_all}
use Rattle.std.specs.Prelude.{None}
use Rattle.ground.proofs.Sides.{side}
use Rattle.ground.proofs.Tests.{untrue}
use Rattle.commands.specs.declared.SheetLine.{SheetLine}
use Rattle.commands.specs.declared.SheetLine.TheVariants.{Passed, Amount, Other}
use Rattle.commands.specs.SheetLines.{LineSays}
use Rattle.commands.proofs.OneRow.{FitsLine, line_one}
use Rattle.text_lines.specs.Ends.{behind_last, ended_after, ended, unended}
use Rattle.text_lines.proofs.Ending.{ended_feed, ended_other, unended_feed, unended_other}
use Rattle.sheets.specs.declared.Sheet.{Sheet}
use Rattle.sheets.specs.Files.{LineIs, LinesSay, sheet_rows, other_line}
use Rattle.sheets.specs.Laying.{blank_sheet, WrongAt, BadAt, LaidOut, LaidBehind, FitsFields, LinesRead, LineHeld, HeldSays, LineTaken, BytesRead, BytesTaken}

-- ---- what a line is

fitting : (l : List ℕ) (x : SheetLine) → LineSays l x → FitsFields x → length l ≤ 4096 → LineIs l x
fitting l Passed s f h = (h, s)
fitting l (Amount p z) s f h = (h, (s, f))
fitting l Other s f h = λ _. s

pub held_is : (over : Bool) (held l : List ℕ) (x : SheetLine) → length held ≤ 4096 → LineHeld over held l → HeldSays over held x → FitsFields x → LineIs l x
held_is false held l x h w s f = subst (λ (v : List ℕ). LineIs v x) (w.is refl) (fitting held x s f h)
held_is true held l x h w s f = subst (LineIs l) (sym s) (λ m. absurd (omega (arith, m, w.long refl)))

says_short : (l : List ℕ) (x : SheetLine) → length l ≤ 4096 → LineIs l x → LineSays l x × FitsFields x
says_short l Passed h s = (s.1, tt)
says_short l (Amount p z) h s = (s.1.0, s.1.1)
says_short l Other h s = (s h, tt)

is_other : (l : List ℕ) (x : SheetLine) → 4096 < length l → LineIs l x → x ≡ Other
is_other l Passed h s = absurd (omega (arith, h, s.0))
is_other l (Amount p z) h s = absurd (omega (arith, h, s.0))
is_other l Other h s = refl

fits_line : (x : SheetLine) → FitsFields x → FitsLine x
fits_line Passed f = tt
fits_line (Amount p z) f = f
fits_line Other f = tt

-- WHAT A LINE IS IS ONE THING
line_is_one : (l : List ℕ) (x y : SheetLine) → LineIs l x → LineIs l y → x ≡ y
line_is_one l x y a b = ⊎_elim
    (λ (h : 4096 < length l). is_other l x h a ∙ sym (is_other l y h b))
    (λ (h : length l ≤ 4096). let u = says_short l x h a in let v = says_short l y h b in line_one l x y (fits_line x u.1) (fits_line y v.1) u.0 v.0) (side 4096 (length l))

-- WHAT THE LINES OF A FILE SAY IS ONE THING, and with it the rows and the numbers of lines
pub says_one : (ls : List (List ℕ)) (xs ys : List SheetLine) → LinesSay ls xs → LinesSay ls ys → xs ≡ ys
says_one [] [] [] a b = refl
says_one [] [] (y ∷ ys) a b = absurd b
says_one [] (x ∷ xs) ys a b = absurd a
says_one (l ∷ ls) [] ys a b = absurd a
says_one (l ∷ ls) (x ∷ xs) [] a b = absurd b
says_one (l ∷ ls) (x ∷ xs) (y ∷ ys) a b = λ i. line_is_one l x y a.0 b.0 i ∷ says_one ls xs ys a.1 b.1 i

-- ---- a line more

says_more : (ls : List (List ℕ)) (xs : List SheetLine) (l : List ℕ) (x : SheetLine) → LinesSay ls xs → LineIs l x → LinesSay (ls ++ (l ∷ [])) (xs ++ (x ∷ []))
says_more [] [] l x s i = (i, tt)
says_more [] (y ∷ ys) l x s i = absurd s
says_more (k ∷ ls) [] l x s i = absurd s
says_more (k ∷ ls) (y ∷ ys) l x s i = (s.0, says_more ls ys l x s.1 i)

-- what is laid out does not hang on the line that is being read
pub record SameSheet (z z' : Sheet) : Type 0 where
  pub wrong : z'.wrong ≡ z.wrong
  pub rows : z'.rows ≡ z.rows
  pub bad : z'.bad ≡ z.bad
  pub low : z'.low ≡ z.low

same_laid : (xs : List SheetLine) (z z' : Sheet) (fl : List ℕ) → SameSheet z z' → LaidOut xs z fl → LaidOut xs z' fl
same_laid xs z z' fl e L = record {
  wrong = subst (WrongAt xs) (sym e.wrong) L.wrong;
  laid = L.laid;
  few = λ l. e.rows ∙ L.few l;
  many = λ l. e.rows ∙ L.many l;
  bad = subst (BadAt xs) (sym e.bad) L.bad;
  low = λ h. e.low ∙ L.low (sym e.bad ∙ h);
}

pub same_read : (ls : List (List ℕ)) (z z' : Sheet) (fl : List ℕ) → SameSheet z z' → z'.number ≡ z.number → LinesRead ls z fl → LinesRead ls z' fl
same_read ls z z' fl e n R = record { said = R.said; says = R.says; number = n ∙ R.number; laid = same_laid R.said z z' fl e R.laid }

-- nor on whether the file is at its end
pub same_bytes : (bs : List ℕ) (z z' : Sheet) (line fl : List ℕ) → SameSheet z z' → z'.number ≡ z.number → z'.fill ≡ z.fill → z'.over ≡ z.over → BytesRead bs z line fl → BytesRead bs z' line fl
same_bytes bs z z' line fl e n f o R = record {
  lines = same_read (ended bs) z z' fl e n R.lines;
  held = record { is = λ h. ap (λ (k : ℕ). take k line) f ∙ R.held.is (sym o ∙ h); long = λ h. R.held.long (sym o ∙ h) };
}

pub line_read : (z y z' : Sheet) (held fl fl' : List ℕ) (x : SheetLine) → length held ≤ 4096 → HeldSays z.over held x → FitsFields x → LaidBehind x (z.number + 1) z fl y fl' → SameSheet y z' → z'.number ≡ z.number + 1
    → (ls : List (List ℕ)) (l : List ℕ) → LineHeld z.over held l → LinesRead ls z fl → LinesRead (ls ++ (l ∷ [])) z' fl'
line_read z y z' held fl fl' x h s f b e n ls l w R =
    let m : length (R.said ++ (x ∷ [])) ≡ length R.said + 1 = length-append R.said (x ∷ []) in
    record {
      said = R.said ++ (x ∷ []);
      says = says_more ls R.said l x R.says (held_is z.over held l x h w s f);
      number = omega (arith, n, R.number, m);
      laid = same_laid (R.said ++ (x ∷ [])) y z' fl' e (b R.said (ap (λ (k : ℕ). k + 1) R.number) R.laid);
    }

-- ---- a byte more

module _ (z : Sheet) (line fl : List ℕ) (b : ℕ) where
  -- a line feed
  pub feed_taken : (z' : Sheet) (fl' : List ℕ) → b ≡ 10 → LineTaken z (take z.fill line) fl z' fl' → BytesTaken (b ∷ []) z line fl z' line fl'
  feed_taken z' fl' e t = record {
    fill = omega (arith, t.fill);
    number = omega (arith, t.number);
    read = λ bs R. record {
      lines = subst (λ (ls : List (List ℕ)). LinesRead ls z' fl') (sym (ended_feed [] bs b e)) (t.read (ended bs) (unended bs) R.held R.lines);
      held = record { is = λ _. ap (λ (n : ℕ). take n line) t.fill ∙ sym (unended_feed [] bs b e); long = λ o. untrue (sym t.over ∙ o) };
    };
  }

  module _ (other : b ≡ 10 → ⊥) (z' : Sheet) (same : SameSheet z z') (n : z'.number ≡ z.number) where
    lines_stay : (bs : List ℕ) → BytesRead bs z line fl → LinesRead (ended (bs ++ (b ∷ []))) z' fl
    lines_stay bs R = subst (λ (ls : List (List ℕ)). LinesRead ls z' fl) (sym (ended_other [] bs b other)) (same_read (ended bs) z z' fl same n R.lines)

    longer : (bs : List ℕ) → length (unended (bs ++ (b ∷ []))) ≡ length (unended bs) + 1
    longer bs = ap (λ (l : List ℕ). length l) (unended_other [] bs b other) ∙ length-append (unended bs) (b ∷ [])

    -- one that there is room for
    pub byte_held : z.fill < length line → length line ≡ 4096 → z'.fill ≡ z.fill + 1 → z'.over ≡ z.over → BytesTaken (b ∷ []) z line fl z' (set line z.fill b) fl
    byte_held l k f o = record {
      fill = omega (arith, f, l, k);
      number = omega (arith, n);
      read = λ bs R. record {
        lines = lines_stay bs R;
        held = record {
          is = λ h. let g : z'.fill ≡ suc z.fill = omega (arith, f) in
              ap (λ (m : ℕ). take m (set line z.fill b)) g ∙ take-suc-set line z.fill b l ∙ ap (λ (w : List ℕ). w ++ (b ∷ [])) (R.held.is (sym o ∙ h)) ∙ sym (unended_other [] bs b other);
          long = λ h. omega (arith, longer bs, R.held.long (sym o ∙ h));
        };
      };
    }

    -- one too many
    pub byte_over : length line ≤ z.fill → length line ≡ 4096 → z.fill ≤ 4096 → z'.fill ≡ z.fill → z'.over ≡ true → BytesTaken (b ∷ []) z line fl z' line fl
    byte_over l k m f o = record {
      fill = omega (arith, f, m);
      number = omega (arith, n);
      read = λ bs R. record {
        lines = lines_stay bs R;
        held = record { is = λ h. untrue (sym h ∙ o); long = λ _. omega (arith, longer bs, enough bs R) };
      };
    }
      where
        by_over : (t : Bool) (bs : List ℕ) → LineHeld t (take z.fill line) (unended bs) → 4096 ≤ length (unended bs)
        by_over false bs h = omega (arith, ap (λ (w : List ℕ). length w) (h.is refl), length-take-le z.fill line (omega (arith, k, m)), l, k)
        by_over true bs h = omega (arith, h.long refl)

        enough : (bs : List ℕ) → BytesRead bs z line fl → 4096 ≤ length (unended bs)
        enough bs R = by_over z.over bs R.held

-- ---- bytes behind bytes

pub none_taken : (z : Sheet) (line fl : List ℕ) → z.fill ≤ 4096 → BytesTaken [] z line fl z line fl
none_taken z line fl h = record { fill = h; number = omega arith; read = λ bs R. subst (λ (cs : List ℕ). BytesRead cs z line fl) (sym (append-nil bs)) R }

pub taken_then : (cs ds : List ℕ) (z : Sheet) (line fl : List ℕ) (y : Sheet) (line' fl' : List ℕ) (x : Sheet) (line'' fl'' : List ℕ)
    → BytesTaken cs z line fl y line' fl' → BytesTaken ds y line' fl' x line'' fl'' → BytesTaken (cs ++ ds) z line fl x line'' fl''
taken_then cs ds z line fl y line' fl' x line'' fl'' a b = record {
  fill = b.fill;
  number = omega (arith, a.number, b.number, length-append cs ds);
  read = λ bs R. subst (λ (w : List ℕ). BytesRead w x line'' fl'') (append_assoc bs cs ds) (b.read (bs ++ cs) (a.read bs R));
}

pub piece_more : (piece : List ℕ) (i : ℕ) {z : Sheet} {line fl : List ℕ} {y : Sheet} {line' fl' : List ℕ} {x : Sheet} {line'' fl'' : List ℕ} → i < length piece
    → BytesTaken (take i piece) z line fl y line' fl' → BytesTaken (get_or piece i 0 ∷ []) y line' fl' x line'' fl'' → BytesTaken (take (i + 1) piece) z line fl x line'' fl''
piece_more piece i {z} {line} {fl} {y} {line'} {fl'} {x} {line''} {fl''} l a b =
    subst (λ (cs : List ℕ). BytesTaken cs z line fl x line'' fl'') (sym (ap (λ (k : ℕ). take k piece) (add-one i) ∙ take-suc piece i 0 l)) (taken_then (take i piece) (get_or piece i 0 ∷ []) z line fl y line' fl' x line'' fl'' a b)

pub piece_whole : (piece : List ℕ) (i : ℕ) {z : Sheet} {line fl : List ℕ} {y : Sheet} {line' fl' : List ℕ} → length piece ≤ i → BytesTaken (take i piece) z line fl y line' fl' → BytesTaken piece z line fl y line' fl'
piece_whole piece i {z} {line} {fl} {y} {line'} {fl'} l a = subst (λ (cs : List ℕ). BytesTaken cs z line fl y line' fl') (take_all i piece l) a

-- ---- before the first byte

pub nothing_read : (z : Sheet) → z.wrong ≡ None → z.rows ≡ 0 → z.bad ≡ None → z.low ≡ 0 → z.number ≡ 0 → z.fill ≡ 0 → z.over ≡ false → (line : List ℕ) → BytesRead [] z line blank_sheet
unfolding ended_after behind_last sheet_rows other_line
nothing_read z w r b o n f v line = record {
  lines = record {
    said = [];
    says = tt;
    number = n;
    laid = record {
      wrong = subst (WrongAt []) (sym w) refl;
      laid = refl;
      few = λ _. r;
      many = λ l. absurd (omega (arith, l));
      bad = subst (BadAt []) (sym b) (record { keep = λ i l. absurd (omega (arith, l)) });
      low = λ _. o;
    };
  };
  held = record { is = λ _. ap (λ (k : ℕ). take k line) f; long = λ e. untrue (sym v ∙ e) };
}
