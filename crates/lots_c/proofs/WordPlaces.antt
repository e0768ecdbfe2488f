-- A place that a call answers, handed to a batch as its word, is that place. Assumes nothing.
use mathlib.Core.Path.{◌≡◌, refl, ap, ◌∙◌}
use mathlib.Core.List.{List}
use Prim.Native.Nat.{ℕ, ◌<◌, ◌%◌, ◌^◌}
use native.Mathlib.Omega.{arith}
use borrow.Author.Tests.{lt-ltb}
use lib.IntN.{pos}
use Rattle.page.specs.Places.{place_from, InRange}
use Rattle.batch.specs.PlaceWords.{signed_bits, word_place}
use Rattle.lots_c.specs.Words.{plain, place_word}
use Rattle.lots_c.proofs.OneToOne.{page_of, slot_of, volume_of}

low : (k x : ℕ) → x < 2 ^ k → signed_bits k x ≡ pos x
low k x h = rw (lt-ltb x (2 ^ k) h) refl

pub word_back : (b : List ℕ) → InRange (place_from b) → word_place (place_word (place_from b)) ≡ place_from b
word_back b r =
    let x : ℕ = plain (place_from b).page in
    let y : ℕ = plain (place_from b).slot in
    let z : ℕ = plain (place_from b).volume in
    let e : z % 65536 ≡ z = omega (arith, r.volume) in
    λ i. record {
      page = (ap (signed_bits 31) (page_of x y z r.page r.slot r.volume) ∙ low 31 x r.page) i;
      slot = (ap (signed_bits 15) (slot_of x y z r.page r.slot r.volume) ∙ low 15 y r.slot) i;
      volume = (ap (λ v. signed_bits 15 (v % 65536)) (volume_of x y z r.page r.slot r.volume) ∙ ap (signed_bits 15) e ∙ low 15 z r.volume) i;
    }
