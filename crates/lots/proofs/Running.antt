-- A run as the chain of its lines: what each step of a session adds to it. Assumes nothing.
use Rattle.std.proofs.Common.{◌≡◌, ℕ, ◌+◌, ◌-◌, ◌<◌, ◌≤◌, Bool, true, false, ltb, List, [], ◌∷◌, ◌++◌, length, take, drop, sym, refl, ap, ◌∙◌, subst, inl, inr, ⊎_elim, true≢false, append_assoc, append-nil, arith, length-append, length-drop, take-append-drop, length-take, length-take-le, take_all, drop_at}
use native.Mathlib.Nat.{sub-zero}
use lib.Seq.{take-append-le}
use Rattle.commands.specs.SheetLines.{words_of}
use Rattle.commands.specs.Texts.{text}
use Rattle.ground.specs.Says.{Says}
use Rattle.ground.proofs.Sides.{side}
use Rattle.ground.proofs.Tests.{says_ltb, says_same}
use Rattle.text_lines.specs.Ends.{is_feed, behind_last, ended_after, unended_after, unended, input_lines}
use Rattle.text_lines.specs.LineText.{spaced, text_of, TooLong}
use Rattle.text_lines.specs.Reading.{ReadSoFar, ByteRead}
use Rattle.text_lines.specs.declared.LineRead.{LineRead}
use Rattle.text_lines.proofs.Ending.{behind_append, ended_append, ended_feed, ended_other, unended_feed, unended_other}
use Rattle.lots.specs.declared.Outcome.{Outcome}
use Rattle.lots.specs.declared.Outcome.TheVariants.{Format as Formats}
use Rattle.lots.specs.declared.Session.{Session}
use Rattle.lots.specs.Obeys.{Obeys}
use Rattle.lots.specs.Runs.{Anew, BeforeAnew, Without, Done, FormatCall, Commanded, formats, held, obeyed, Did, LineDid, passed, spoken, Quits, Chain, none, last, next, WordsTurned, LineTurned, Fed, Feeds, Brought, Ran}
use Rattle.lots.specs.Sessions.{Leaves, Alike, NextLine, SessionBegins, SessionHolds, SessionReads, Kept, FormatAsked, FormatTold}
use Rattle.lots.proofs.Leaving.{leaves, part_back, front_back, beside, then}

-- a part that is lent to the end
pub to_end : (l : List ℕ) (k : ℕ) → take (length l - k) (drop k l) ≡ drop k l
to_end l k = take_all (length l - k) (drop k l) (simp length-drop (omega arith))

-- ---- " anew"

-- where it stands at the end
pub anew_cut : (l : List ℕ) → 5 ≤ length l → take (length l - (length l - 5)) (drop (length l - 5) l) ≡ text " anew" → l ≡ take (length l - 5) l ++ text " anew"
anew_cut l h e = sym (take-append-drop (length l - 5) l) ∙ ap (λ v. take (length l - 5) l ++ v) (sym (to_end l (length l - 5)) ∙ e)

without_by : (l : List ℕ) (r : ℕ) → BeforeAnew l r → (b : Bool) → Says b (r < length l) → Without l (take r l) b
without_by l r x true p = x.cut p
without_by l r x false n =
    let h : length l ≤ r = ⊎_elim (λ (p : r < length l). absurd (n p)) (λ (q : length l ≤ r). q) (side r (length l)) in
    (take_all r l h, x.uncut (omega (arith, h, x.within)))

pub without : (l : List ℕ) (r : ℕ) → BeforeAnew l r → Without l (take r l) (ltb r (length l))
without l r x = without_by l r x (ltb r (length l)) (says_ltb r (length l) (λ p. p) (λ p. p))

-- ---- one line

-- the store that a session has
store_long : {z : Session} {s : List ℕ} → SessionHolds z s → length (take z.len s) ≡ z.len
store_long {z} {s} h = length-take-le z.len s h.within

-- the format's call, over the buffer and over the store
called : {z r : Session} {s t : List ℕ} {n size : ℕ} → FormatAsked n size z s r t → FormatCall (length s) n size (take z.len s) (take r.len t)
called {z} {r} {s} {t} x = record {
  lent = take x.len s;
  long = length-take-le x.len s x.within ∙ x.long;
  answer = x.answer;
  left = x.left;
  made = x.made;
  refused = λ e. ap (λ m. take m t) (x.refused e).1 ∙ ap (λ u. take z.len u) (x.refused e).0;
  done = λ e. ap (λ m. take m t) (x.done e).1 ∙ (x.done e).0;
}

told : {z r : Session} {s t : List ℕ} {n size : ℕ} (w : List ℕ) (anew : Bool) → SessionHolds z s
    → Obeys w (take z.len s) (Formats n size) (take z.len s) → FormatTold n size anew z s r t → Commanded (length s) w anew (take z.len s) (take r.len t)
told {z} {r} {s} {t} {n} {size} w anew h y (inl (d, f)) = formats n size y (⊎_elim (λ q. inl (store_long h ∙ q)) (λ q. inr q) d.0, d.1) (called f)
told {z} {r} {s} {t} {n} {size} w anew h y (inr (f, e, m)) =
    held n size y (λ d. f (⊎_elim (λ q. inl (sym (store_long h) ∙ q)) (λ q. inr q) d.0, d.1)) (ap (λ k. take k t) m ∙ ap (λ u. take z.len u) e)

-- a line whose command is a format
pub formats_did : {z r : Session} {xs ys t : List ℕ} {o : Outcome} {n size : ℕ} (w : List ℕ) (anew : Bool) → SessionHolds z xs
    → Obeys w (take (z.len - 0) (drop 0 xs)) o ys → o ≡ Formats n size → FormatTold n size anew z (take 0 xs ++ (ys ++ drop (z.len - 0) (drop 0 xs))) r t
    → Commanded (length xs) w anew (take z.len xs) (take r.len t)
formats_did {z} {r} {xs} {ys} {t} {o} {n} {size} w anew h y e f =
    let g : ys ≡ take (z.len - 0) (drop 0 xs) = leaves y (subst Leaves (sym e) tt) in
    let b : take 0 xs ++ (ys ++ drop (z.len - 0) (drop 0 xs)) ≡ xs = part_back xs ys 0 (z.len - 0) g in
    let v : Obeys w (take (z.len - 0) (drop 0 xs)) (Formats n size) (take (z.len - 0) (drop 0 xs)) =
    subst (λ u. Obeys w (take (z.len - 0) (drop 0 xs)) u (take (z.len - 0) (drop 0 xs))) e (subst (λ u. Obeys w (take (z.len - 0) (drop 0 xs)) o u) g y) in
    told w anew h (simp sub-zero at v) (subst (λ u. FormatTold n size anew z u r t) b f)

-- the same text
pub did_as : {room : ℕ} {l m a b : List ℕ} → l ≡ m → Did room l a b → Did room m a b
did_as {room} {l} {m} {a} {b} e d = subst (λ x. Did room x a b) e d

-- any other
pub obeyed_did : {z : Session} {xs ys : List ℕ} {o : Outcome} (w : List ℕ) (anew : Bool) (m : ℕ) → SessionHolds z xs → length ys ≡ length (take (z.len - 0) (drop 0 xs))
    → Obeys w (take (z.len - 0) (drop 0 xs)) o ys → Done o → m ≡ z.len
    → Commanded (length xs) w anew (take z.len xs) (take m (take 0 xs ++ (ys ++ drop (z.len - 0) (drop 0 xs))))
obeyed_did {z} {xs} {ys} {o} w anew m h k y d e =
    let b : take z.len (take 0 xs ++ (ys ++ drop (z.len - 0) (drop 0 xs))) ≡ ys = front_back xs ys z.len (k ∙ simp sub-zero (length-take-le z.len xs h.within)) in
    let c : take m (take 0 xs ++ (ys ++ drop (z.len - 0) (drop 0 xs))) ≡ ys = ap (λ n. take n (take 0 xs ++ (ys ++ drop (z.len - 0) (drop 0 xs)))) e ∙ b in
    obeyed o (subst (λ u. Obeys w (take z.len xs) o u) (sym c) (simp sub-zero at y)) d

-- the line in the buffer, from its words
module _ {z y r : Session} {s t p : List ℕ} (h : SessionReads z s p) (a : Alike z y) (n : NextLine z y) (x : WordsTurned z.line.over (take z.line.fill p) y s r t) where
  long_line : {l : List ℕ} → ReadSoFar p z.line l → z.line.over ≡ true → TooLong 4096 l
  long_line {l} g e = subst (λ m. TooLong m l) h.room (g.long e)

  short_line : {l : List ℕ} → ReadSoFar p z.line l → z.line.over ≡ false → TooLong 4096 l → ⊥
  short_line {l} g e w = let m : length (spaced (words_of l)) ≡ z.line.fill = ap length (sym (g.words e)) ∙ length-take-le z.line.fill p h.fits in omega (arith, w, m, h.fits, h.room)

  line_quits : (b : Bool) → z.line.over ≡ b → z.quit ≡ false → (l : List ℕ) → ReadSoFar p z.line l → Says r.quit (Quits l)
  line_quits true o e l g = subst (λ q. Says q (Quits l)) (sym ((x.passed o).0 ∙ n.quit ∙ e)) (λ q. q.0 (long_line g o))
  line_quits false o e l g = says_same r.quit (x.quit o (n.quit ∙ e) l (g.words o)) (λ q. (short_line g o, q)) (λ q. q.1)

  line_did : (b : Bool) → z.line.over ≡ b → (l : List ℕ) → ReadSoFar p z.line l → LineDid (length s) l (take z.len s) (take r.len t)
  line_did true o l g = passed (long_line g o) ((x.passed o).1 ∙ ap (λ m. take m s) a.len)
  line_did false o l g = spoken (short_line g o) (subst (λ m. Did (length s) (text_of l) (take m s) (take r.len t)) a.len (x.did o l (g.words o)))

  pub line_turned : LineTurned p z s r t
  line_turned = record {
    kept = then (beside a h.holds) x.kept;
    line = λ q. subst (λ g. ReadSoFar q g []) (sym x.line) (n.line q);
    quit = line_quits z.line.over refl;
    did = line_did z.line.over refl;
  }

-- ---- lines one after the other

chained : {room : ℕ} {p q : Bool} {ls ms : List (List ℕ)} {a b c : List ℕ} → p ≡ false → Chain room p ls a b → Chain room q ms b c → Chain room q (ls ++ ms) a c
chained e none y = y
chained e (last k d) y = absurd (true≢false e)
chained e (next k d x) y = next k d (chained e x y)

-- behind quit none is read
unread : {room : ℕ} {p : Bool} {ls : List (List ℕ)} {a b : List ℕ} → p ≡ true → Chain room p ls a b → (ms : List (List ℕ)) → Chain room p (ls ++ ms) a b
unread e none ms = absurd (true≢false (sym e))
unread e (last k d) ms = last k d
unread e (next k d x) ms = next k d (unread e x ms)

one_line : {room : ℕ} {l a b : List ℕ} (q : Bool) → Says q (Quits l) → LineDid room l a b → Chain room q (l ∷ []) a b
one_line true k d = last k d
one_line false k d = next k d none

-- ---- bytes of the input

no_line : {room : ℕ} {a b : List ℕ} (q : Bool) → q ≡ false → b ≡ a → Chain room q [] a b
no_line {room} {a} q e f = subst (λ u. Chain room q [] a u) (sym f) (subst (λ k. Chain room k [] a a) (sym e) none)

-- none
pub feeds_none : {z r : Session} {s p : List ℕ} → Kept z s r s → r.line ≡ z.line → r.quit ≡ z.quit → r.len ≡ z.len → z.line.fill ≤ length p → Feeds [] z s p r s p
unfolding ended_after behind_last
feeds_none {z} {r} {s} {p} k e q f h = record {
  kept = k;
  fits = subst (λ g. g.fill ≤ length p) (sym e) h;
  fed = λ u w g. record {
    done = [];
    left = [];
    lines = refl;
    whole = λ _. refl;
    chain = no_line r.quit (q ∙ u) (ap (λ m. take m s) f);
    begun = λ _ _. subst (λ x. ReadSoFar p x w) (sym e) g;
  };
}

none_ended : (w : List ℕ) → ended_after w [] ≡ []
unfolding ended_after
none_ended w = refl

all_unended : (w : List ℕ) → unended_after w [] ≡ w
unfolding behind_last
all_unended w = refl

-- one that ends a line
pub feeds_line : {z r : Session} {s t p q : List ℕ} {b : ℕ} → b ≡ 10 → LineTurned p z s r t → Feeds (b ∷ []) z s p r t q
feeds_line {z} {r} {s} {t} {p} {q} {b} e x = record {
  kept = x.kept;
  fits = (x.line q).within;
  fed = λ u w g. record {
    done = w ∷ [];
    left = [];
    lines = ended_feed w [] b e ∙ ap (λ ls. ls ++ (unended_after w [] ∷ [])) (none_ended w) ∙ ap (λ v. v ∷ []) (all_unended w);
    whole = λ _. refl;
    chain = one_line r.quit (x.quit u w g) (x.did w g);
    begun = λ _ _. subst (ReadSoFar q r.line) (sym (unended_feed w [] b e)) (x.line q);
  };
}

-- any other
pub feeds_byte : {z r : Session} {s p q : List ℕ} {b : ℕ} {g : LineRead} → (b ≡ 10 → ⊥) → Kept z s r s → ByteRead p z.line b q g → r.line ≡ g → r.quit ≡ z.quit → r.len ≡ z.len → Feeds (b ∷ []) z s p r s q
feeds_byte {z} {r} {s} {p} {q} {b} {g} n k x e y f = record {
  kept = k;
  fits = subst (λ l. l.fill ≤ length q) (sym e) x.fits;
  fed = λ u w h. record {
    done = [];
    left = [];
    lines = ended_other w [] b n ∙ none_ended w;
    whole = λ _. refl;
    chain = no_line r.quit (y ∙ u) (ap (λ m. take m s) f);
    begun = λ _ _. subst (λ l. ReadSoFar q l (unended_after w (b ∷ []))) (sym e) (subst (ReadSoFar q g) (sym (unended_other w [] b n ∙ ap (λ v. v ++ (b ∷ [])) (all_unended w))) (x.more w h));
  };
}

-- the same bytes
pub feeds_as : {z r : Session} {s t p q i j : List ℕ} → i ≡ j → Feeds i z s p r t q → Feeds j z s p r t q
feeds_as {z} {r} {s} {t} {p} {q} e a = subst (λ x. Feeds x z s p r t q) e a

-- and then others
pub feeds_then : {z y r : Session} {s t u p q v i j : List ℕ} → length t ≡ length s → Feeds i z s p y t q → y.stopped ≡ false → y.quit ≡ false → Feeds j y t q r u v → Feeds (i ++ j) z s p r u v
feeds_then {z} {y} {r} {s} {t} {u} {p} {q} {v} {i} {j} e a f k b = record {
  kept = then a.kept b.kept;
  fits = b.fits;
  fed = λ o w g.
      let x = a.fed o w g in
      let d = b.fed k (unended_after w i) (x.begun f k) in
      record {
        done = x.done ++ d.done;
        left = d.left;
        lines = ended_append w i j
            ∙ ap (λ ls. ls ++ ended_after (unended_after w i) j) (x.lines ∙ ap (λ ls. x.done ++ ls) (x.whole f) ∙ append-nil x.done)
            ∙ ap (λ ls. x.done ++ ls) d.lines
            ∙ sym (append_assoc x.done d.done d.left);
        whole = d.whole;
        chain = chained k x.chain (subst (λ m. Chain m r.quit d.done (take y.len t) (take r.len u)) e d.chain);
        begun = λ c m. subst (ReadSoFar v r.line) (sym (behind_append is_feed w i j)) (d.begun c m);
      };
}

-- after a stop, and after quit, those behind are not read
pub feeds_stopped : {z y : Session} {s t p q i : List ℕ} → Feeds i z s p y t q → y.stopped ≡ true → (j : List ℕ) → Feeds (i ++ j) z s p y t q
feeds_stopped {z} {y} {s} {t} {p} {q} {i} a f j = record {
  kept = a.kept;
  fits = a.fits;
  fed = λ o w g.
      let x = a.fed o w g in
      record {
        done = x.done;
        left = x.left ++ ended_after (unended_after w i) j;
        lines = ended_append w i j ∙ ap (λ ls. ls ++ ended_after (unended_after w i) j) x.lines ∙ append_assoc x.done x.left (ended_after (unended_after w i) j);
        whole = λ e. absurd (true≢false (sym f ∙ e));
        chain = x.chain;
        begun = λ e _. absurd (true≢false (sym f ∙ e));
      };
}

pub feeds_quit : {z y : Session} {s t p q i : List ℕ} → Feeds i z s p y t q → y.stopped ≡ false → y.quit ≡ true → (j : List ℕ) → Feeds (i ++ j) z s p y t q
feeds_quit {z} {y} {s} {t} {p} {q} {i} a f k j = record {
  kept = a.kept;
  fits = a.fits;
  fed = λ o w g.
      let x = a.fed o w g in
      record {
        done = x.done ++ ended_after (unended_after w i) j;
        left = [];
        lines = ended_append w i j ∙ ap (λ ls. ls ++ ended_after (unended_after w i) j) (x.lines ∙ ap (λ ls. x.done ++ ls) (x.whole f) ∙ append-nil x.done) ∙ sym (append-nil (x.done ++ ended_after (unended_after w i) j));
        whole = λ _. refl;
        chain = unread k x.chain (ended_after (unended_after w i) j);
        begun = λ _ e. absurd (true≢false (sym k ∙ e));
      };
}

-- ---- the whole input

pub brought_then : {z y r : Session} {s t u p q v : List ℕ} → length t ≡ length s → Brought z s p y t q → y.stopped ≡ false → y.quit ≡ false → Brought y t q r u v → Brought z s p r u v
brought_then e a f k b = record { bytes = a.bytes ++ b.bytes; feeds = feeds_then e a.feeds f k b.feeds }

module _ {len : ℕ} {known : Bool} {z y : Session} {s t p q : List ℕ} (o : SessionBegins len known z) (b : Brought z s p y t q) where
  fed : Fed [] b.bytes z s y t q
  fed = b.feeds.fed o.quit [] (o.line p)

  from_start : {u : List ℕ} {k : Bool} {ls : List (List ℕ)} → Chain (length s) k ls (take z.len s) u → Chain (length s) k ls (take len s) u
  from_start {u} {k} {ls} c = subst (λ m. Chain (length s) k ls (take m s) u) o.long c

  -- it was stopped
  pub ran_stopped : y.stopped ≡ true → Ran len s y t
  ran_stopped f = record {
    same = b.feeds.kept.same;
    long = λ e. b.feeds.kept.long e ∙ o.long;
    holds = b.feeds.kept.holds;
    input = b.bytes;
    done = fed.done;
    left = fed.left ++ (unended b.bytes ∷ []);
    lines = ap (λ ls. ls ++ (unended b.bytes ∷ [])) fed.lines ∙ append_assoc fed.done fed.left (unended b.bytes ∷ []);
    whole = λ e. absurd (true≢false (sym f ∙ e));
    chain = from_start fed.chain;
  }

  all_lines : y.stopped ≡ false → input_lines b.bytes ≡ (fed.done ++ (unended b.bytes ∷ [])) ++ []
  all_lines f =
      ap (λ ls. ls ++ (unended b.bytes ∷ [])) (fed.lines ∙ ap (λ ls. fed.done ++ ls) (fed.whole f) ∙ append-nil fed.done)
      ∙ sym (append-nil (fed.done ++ (unended b.bytes ∷ [])))

  -- the line quit was read
  pub ran_quit : y.stopped ≡ false → y.quit ≡ true → Ran len s y t
  ran_quit f k = record {
    same = b.feeds.kept.same;
    long = λ e. b.feeds.kept.long e ∙ o.long;
    holds = b.feeds.kept.holds;
    input = b.bytes;
    done = fed.done ++ (unended b.bytes ∷ []);
    left = [];
    lines = all_lines f;
    whole = λ _. refl;
    chain = from_start (unread k fed.chain (unended b.bytes ∷ []));
  }

  -- it was read to its end
  pub ran_ended : {r : Session} {u : List ℕ} → length t ≡ length s → y.stopped ≡ false → y.quit ≡ false → LineTurned q y t r u → Ran len s r u
  ran_ended {r} {u} e f k x =
      let a = then b.feeds.kept x.kept in
      let g = fed.begun f k in
      record {
        same = a.same;
        long = λ c. a.long c ∙ o.long;
        holds = a.holds;
        input = b.bytes;
        done = fed.done ++ (unended b.bytes ∷ []);
        left = [];
        lines = all_lines f;
        whole = λ _. refl;
        chain = from_start (chained k fed.chain (subst (λ m. Chain m r.quit (unended b.bytes ∷ []) (take y.len t) (take r.len u)) e (one_line r.quit (x.quit k (unended b.bytes) g) (x.did (unended b.bytes) g))));
      }
