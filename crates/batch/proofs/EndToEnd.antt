-- The puts that good runs ask for, in other words: their codes end to end are the code bytes, their lengths and places are the runs. Assumes nothing.
use mathlib.Core.Path.{◌≡◌, refl, sym, ap, ◌∙◌}
use mathlib.Core.List.{List, [], ◌∷◌, ◌++◌, map}
use Prim.Native.Nat.{ℕ, ◌+◌, ◌≤◌}
use native.Mathlib.Omega.{arith}
use lib.ListN.{length, take, drop, take-append-drop, length-drop}
use lib.Seq.{length-take-le}
use Rattle.batch.specs.PlaceWords.{word_place}
use Rattle.batch.specs.Batch.{Wanted, sum, wanted}

-- the codes end to end
abbrev pub joined : List Wanted → List ℕ
joined [] = []
joined (w ∷ l) = w.code ++ joined l

-- nothing is left of no bytes
none_long : (l : List ℕ) → length l ≡ 0 → l ≡ []
none_long [] e = refl
none_long (x ∷ l) e = absurd (omega (arith, e))

rest_long : (codes : List ℕ) (n : ℕ) (ns : List ℕ) → n + sum ns ≡ length codes → sum ns ≡ length (drop n codes)
rest_long codes n ns e = omega (arith, length-drop n codes)

pub end_to_end : (codes ns words : List ℕ) → length words ≡ length ns → sum ns ≡ length codes → joined (wanted codes ns words) ≡ codes
unfolding wanted
end_to_end codes [] words e f = sym (none_long codes (sym f))
end_to_end codes (n ∷ ns) [] e f = absurd (omega (arith, e))
end_to_end codes (n ∷ ns) (w ∷ words) e f = ap (λ l. take n codes ++ l) (end_to_end (drop n codes) ns words (omega (arith, e)) (rest_long codes n ns f)) ∙ take-append-drop n codes

pub lengths_are : (codes ns words : List ℕ) → length words ≡ length ns → sum ns ≡ length codes → map (λ w. length w.code) (wanted codes ns words) ≡ ns
unfolding wanted
lengths_are codes [] words e f = refl
lengths_are codes (n ∷ ns) [] e f = absurd (omega (arith, e))
lengths_are codes (n ∷ ns) (w ∷ words) e f =
    let b : n ≤ length codes = omega (arith, f) in
    let x = length-take-le n codes b in
    let y = lengths_are (drop n codes) ns words (omega (arith, e)) (rest_long codes n ns f) in
    λ i. x i ∷ y i

pub places_are : (codes ns words : List ℕ) → length words ≡ length ns → map (λ w. w.place) (wanted codes ns words) ≡ map word_place words
unfolding wanted
places_are codes [] [] e = refl
places_are codes [] (w ∷ words) e = absurd (omega (arith, e))
places_are codes (n ∷ ns) [] e = refl
places_are codes (n ∷ ns) (w ∷ words) e = ap (λ l. word_place w ∷ l) (places_are (drop n codes) ns words (omega (arith, e)))
