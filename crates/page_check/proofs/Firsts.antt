-- Of two stretches of bytes the smaller as a number comes before the other. Assumes nothing.
use Prim.Native.Nat.{ℕ, ◌+◌, ◌-◌, ◌≤◌, ◌<◌}
use mathlib.Core.Path.{◌≡◌, sym, ◌∙◌}
use mathlib.Core.List.{List}
use native.Mathlib.Omega.{arith}
use lib.ListN.{length}
use Rattle.ground.specs.Lists.{byte, part}
use Rattle.ground.proofs.Parts.{byte_part, length_part}
use Rattle.words.specs.Codes.{Before}
use Rattle.words.proofs.Orders.{differ_before}
use Rattle.words.specs.Big.{big}
use Rattle.words.proofs.Firsts.{first_of}
use Rattle.page_check.specs.Leads.{Stretch, Led}

module _ (p : List ℕ) (bytes : (k : ℕ) → byte p k < 256) where
  pub leads_before : (n a l x m : ℕ) → n ≤ l → n ≤ m → a + l ≤ length p → x + m ≤ length p → big n p a < big n p x → Before (part p a l) (part p x m)
  leads_before n a l x m h k al xm d =
      let f = first_of p p bytes bytes n a x d in
      let e : length (part p a l) ≡ l = length_part p a l al in
      let g : length (part p x m) ≡ m = length_part p x m xm in
      differ_before (part p a l) (part p x m) (record {
        at = f.at;
        in_s = omega (arith, f.within);
        in_t = omega (arith, f.within);
        agree = λ i o. byte_part p a l i (omega (arith, f.within)) ∙ f.agree i o ∙ sym (byte_part p x m i (omega (arith, f.within)));
        less = λ _. rw (byte_part p a l f.at (omega (arith, f.within)), byte_part p x m f.at (omega (arith, f.within))) f.less;
      })

  -- a code of eight bytes or more is told of by these as one number, any code by the greatest
  pub led_of : (a b : ℕ) → Stretch p a b → a + 8 ≤ b → Led p (part p a (b - a)) (big 8 p a)
  led_of a b s h x y t l d = leads_before 8 a (b - a) x (y - x) (omega (arith, h)) (omega (arith, l)) (omega (arith, s, h)) (omega (arith, t, l)) d

  pub led_top : (c : List ℕ) → Led p c 18446744073709551615
  unfolding big
  led_top c x y t l d = absurd (omega (arith, d, bytes (x + 0), bytes (x + 1), bytes (x + 2), bytes (x + 3), bytes (x + 4), bytes (x + 5), bytes (x + 6), bytes (x + 7)))
