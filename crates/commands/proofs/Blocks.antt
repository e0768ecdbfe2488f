-- Codes that are shown eight bytes at a time. Assumes nothing.
use Prim.Native.Nat.{ℕ, zero, suc, ◌+◌, ◌-◌, ◌≤◌, ◌<◌}
use mathlib.Core.Path.{◌≡◌, refl, sym, ap, ◌∙◌, subst}
use mathlib.Core.List.{List, [], ◌∷◌, ◌++◌, append_assoc, append-nil}
use mathlib.Core.Logic.{⊎_elim}
use native.Mathlib.Nat.{add-zero}
use native.Mathlib.Numerals.{add-one}
use native.Mathlib.Omega.{arith}
use lib.ListN.{length, take, drop, length-drop}
use lib.Seq.{take-add, take-suc, take-length, take_all, length-take-le}
use Rattle.ground.specs.Lists.{byte, part}
use Rattle.ground.proofs.Sides.{side}
use Rattle.ground.proofs.Parts.{part_is}
use Rattle.commands.specs.Codes.{shown, Plain, PlainFrom}
use Rattle.commands.specs.Answers.{Adds}
use Rattle.commands.proofs.Adding.{cut, then, as_text, glyphs_plain, shown_next, shown_none}

shown_both : (a b : List ℕ) → shown (a ++ b) ≡ shown a ++ shown b
unfolding shown
shown_both [] b = refl
shown_both (x ∷ a) b = rw (shown_both a b, append_assoc)

plain_next : (c : List ℕ) (k : ℕ) → k < length c → Plain (byte c k) → shown (take k c) ≡ take k c → shown (take (k + 1) c) ≡ take (k + 1) c
plain_next c k h p e =
    let t : take (k + 1) c ≡ take k c ++ (byte c k ∷ []) = rw add-one (take-suc c k 0 h) in
    shown_next c k h ∙ ap (λ (g : List ℕ). shown (take k c) ++ g) (glyphs_plain (byte c k) p.least p.most p.other) ∙ ap (λ (l : List ℕ). l ++ (byte c k ∷ [])) e ∙ sym t

-- bytes that stand for themselves are shown as they are
pub plain_shown : (c : List ℕ) (k : ℕ) → k ≤ length c → PlainFrom c 0 k → shown (take k c) ≡ take k c
plain_shown c zero h p = shown_none c
plain_shown c (suc k) h p =
    let n : k + 1 ≡ suc k = omega arith in
    let e : shown (take k c) ≡ take k c = plain_shown c k (omega arith) (λ j l m. p j l (omega arith)) in
    ap (λ (m : ℕ). shown (take m c)) (sym n) ∙ plain_next c k (omega arith) (p k (omega arith) (omega arith)) e ∙ ap (λ (m : ℕ). take m c) n

-- one run of such bytes, and another that begins in it or behind it
pub plain_on : (c : List ℕ) (a b d e : ℕ) → d ≤ b → PlainFrom c a b → PlainFrom c d e → PlainFrom c a e
plain_on c a b d e h x y k l m = ⊎_elim (λ lt. x k l lt) (λ ge. y k (omega arith) m) (side k b)

-- the rest is shown after the first i bytes
pub rest_shown : (c : List ℕ) (i n : ℕ) → n ≡ length c → i ≤ n → PlainFrom c 0 i → take i c ++ shown (take (n - i) (drop i c)) ≡ shown c
rest_shown c i n e h p =
    let s : i + (n - i) ≡ length c = omega arith in
    let w : take i c ++ take (n - i) (drop i c) ≡ c = sym (take-add i (n - i) c) ∙ ap (λ (m : ℕ). take m c) s ∙ take-length c in
    ap (λ (l : List ℕ). l ++ shown (take (n - i) (drop i c))) (sym (plain_shown c i (omega arith) p)) ∙ sym (shown_both (take i c) (take (n - i) (drop i c))) ∙ ap shown w

-- and is as long as it says
pub rest_long : (c : List ℕ) (i n : ℕ) → n ≡ length c → i ≤ n → length (take (n - i) (drop i c)) ≡ n - i
rest_long c i n e h = length-take-le (n - i) (drop i c) (rw length-drop (omega arith))

-- nothing, before the first byte
pub none_yet : (p c : List ℕ) (at : ℕ) → Adds (take 0 c) p at p (at + 0)
none_yet p c at = rw add-zero (record { next = omega arith; said = sym (append-nil _); long = refl })

pub eight_long : (c : List ℕ) (i : ℕ) → i + 8 ≤ length c → length (take 8 (drop i c)) ≡ 8
eight_long c i h = length-take-le 8 (drop i c) (rw length-drop (omega arith))

-- eight bytes more
pub eight_more : (c : List ℕ) (i : ℕ) (at : ℕ) {p q s : List ℕ} {r : ℕ} → i + 8 ≤ length c → Adds (take i c) p at q (at + i) → Adds (take 8 (drop i c)) q (at + i) s r → Adds (take (i + 8) c) p at s (at + (i + 8))
eight_more c i at {p} {q} {s} {r} h a b =
    let m : length (take 8 (drop i c)) ≡ 8 = eight_long c i h in
    let e : r ≡ at + (i + 8) = omega (arith, b.next, m) in
    subst (λ (u : ℕ). Adds (take (i + 8) c) p at s u) e (as_text (sym (take-add i 8 c)) (then a b))

-- the last eight, which may begin among those before
pub last_eight : (c : List ℕ) (i last at : ℕ) {p q s : List ℕ} {r : ℕ} → length c ≡ last + 8 → last ≤ i → i ≤ length c → at ≤ length p → PlainFrom c 0 i → PlainFrom c last (last + 8)
    → Adds (take i c) p at q (at + i) → Adds (take 8 (drop last c)) q (at + last) s r → Adds (shown c) p at s r
last_eight c i last at {p} {q} {s} {r} n l h k x y a b =
    let m : i ≡ last + (i - last) = omega arith in
    let f : take i c ≡ take last c ++ take (i - last) (drop last c) = ap (λ (j : ℕ). take j c) m ∙ take-add last (i - last) c in
    let t : length (take last c) ≡ last = length-take-le last c (omega arith) in
    let d : Adds (take last c) p at q (at + last) = subst (λ (j : ℕ). Adds (take last c) p at q (at + j)) t (cut (take last c) (take (i - last) (drop last c)) k (as_text f a)) in
    let w : take last c ++ take 8 (drop last c) ≡ shown c = sym (take-add last 8 c) ∙ sym (plain_shown c (last + 8) (omega arith) (plain_on c 0 i last (last + 8) l x y)) ∙ ap shown (take_all (last + 8) c (omega arith)) in
    as_text w (then d b)

at_eight : (c : List ℕ) (i j : ℕ) → j < 8 → byte c (i + j) ≡ byte (byte c i ∷ byte c (i + 1) ∷ byte c (i + 2) ∷ byte c (i + 3) ∷ byte c (i + 4) ∷ byte c (i + 5) ∷ byte c (i + 6) ∷ byte c (i + 7) ∷ []) j
at_eight c i zero h = ap (λ (n : ℕ). byte c n) (add-zero i)
at_eight c i (suc zero) h = refl
at_eight c i (suc (suc zero)) h = refl
at_eight c i (suc (suc (suc zero))) h = refl
at_eight c i (suc (suc (suc (suc zero)))) h = refl
at_eight c i (suc (suc (suc (suc (suc zero))))) h = refl
at_eight c i (suc (suc (suc (suc (suc (suc zero)))))) h = refl
at_eight c i (suc (suc (suc (suc (suc (suc (suc zero))))))) h = refl
at_eight c i (suc (suc (suc (suc (suc (suc (suc (suc j)))))))) h = absurd (omega arith)

-- eight bytes, one by one
pub eight : (c : List ℕ) (i : ℕ) → i + 8 ≤ length c → byte c i ∷ byte c (i + 1) ∷ byte c (i + 2) ∷ byte c (i + 3) ∷ byte c (i + 4) ∷ byte c (i + 5) ∷ byte c (i + 6) ∷ byte c (i + 7) ∷ [] ≡ take 8 (drop i c)
unfolding part
eight c i h = sym (part_is c i (byte c i ∷ byte c (i + 1) ∷ byte c (i + 2) ∷ byte c (i + 3) ∷ byte c (i + 4) ∷ byte c (i + 5) ∷ byte c (i + 6) ∷ byte c (i + 7) ∷ []) h (at_eight c i))

-- a run of bytes that stand for themselves, and one more
pub plain_one : (c : List ℕ) (a i : ℕ) → PlainFrom c a (a + i) → Plain (byte c (a + i)) → PlainFrom c a (a + (i + 1))
plain_one c a i x y k l h = ⊎_elim (λ lt. x k l lt) (λ ge. let same : k ≡ a + i = omega arith in subst (λ (n : ℕ). Plain (byte c n)) (sym same) y) (side k (a + i))
