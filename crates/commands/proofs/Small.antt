-- Numbers below 10,000: their digits as the bytes of a word. Assumes nothing.
use Prim.Native.Nat.{ℕ, ◌+◌, ◌*◌, ◌-◌, ◌/◌, ◌%◌, ◌≤◌, ◌<◌}
use mathlib.Core.Path.{◌≡◌, refl, sym, ap, ◌∙◌}
use mathlib.Core.List.{List, [], ◌∷◌, ◌++◌}
use native.Mathlib.Omega.{arith}
use lib.ListN.{length, drop}
use Rattle.io.specs.Digits.{last_digits, hex_digit_ascii}
use Rattle.words.specs.Le.{bytes}
use Rattle.commands.specs.Numbers.{decimal, width}
use Rattle.commands.proofs.Adding.{decimal_is, glyph_digit, width_small, width_step, width_three}

list_four : (a b c d x y z t : ℕ) → a ≡ x → b ≡ y → c ≡ z → d ≡ t → ◌≡◌ {A = List ℕ} (a ∷ b ∷ c ∷ d ∷ []) (x ∷ y ∷ z ∷ t ∷ [])
list_four a b c d x y z t e f g h = rw (e, f, g, h)

tenth : (h : ℕ) → h < 100 → h * 103 / 1024 ≡ h / 10
tenth h l = omega arith

product : (h m b x : ℕ) → b ≡ h + 65536 * m → x ≡ b * 103 / 1024 → x ≡ h * 103 / 1024 + 6592 * m
product h m b x e f = omega arith

lane_low : (a m x : ℕ) → a < 10 → x ≡ a + 6592 * m → x % 16 ≡ a
lane_low a m x l e = omega arith

lane_high : (a m x : ℕ) → a < 10 → x ≡ a + 6592 * m → x / 65536 ≡ m * 103 / 1024
lane_high a m x l e = omega arith

total : (h m b t r : ℕ) → b ≡ h + 65536 * m → t ≡ h / 10 + m / 10 * 65536 → r ≡ 808464432 + 256 * b - 2559 * t
    → r ≡ (48 + h / 10) + 256 * ((48 + h % 10) + 256 * ((48 + m / 10) + 256 * (48 + m % 10)))
total h m b t r e f g = omega arith

tens : (m : ℕ) → m < 100 → m / 10 < 10
tens m l = omega arith

below_sixteen : (a : ℕ) → a < 10 → a % 16 ≡ a
below_sixteen a l = omega arith

-- two digits and two, at once
word : (h m b x t r : ℕ) → h < 100 → m < 100 → b ≡ h + 65536 * m → x ≡ b * 103 / 1024 → t ≡ x % 16 + x / 65536 % 16 * 65536 → r ≡ 808464432 + 256 * b - 2559 * t
    → r ≡ (48 + h / 10) + 256 * ((48 + h % 10) + 256 * ((48 + m / 10) + 256 * (48 + m % 10)))
word h m b x t r lh lm eb ex et er =
    let y : x ≡ h / 10 + 6592 * m = product h m b x eb ex ∙ ap (λ (a : ℕ). a + 6592 * m) (tenth h lh) in
    let u : x % 16 ≡ h / 10 = lane_low (h / 10) m x (tens h lh) y in
    let v : x / 65536 ≡ m / 10 = lane_high (h / 10) m x (tens h lh) y ∙ tenth m lm in
    let w : x / 65536 % 16 ≡ m / 10 = ap (λ (a : ℕ). a % 16) v ∙ below_sixteen (m / 10) (tens m lm) in
    total h m b t r eb (et ∙ rw (u, w)) er

low : (a q : ℕ) → a < 256 → (a + 256 * q) % 256 ≡ a
low a q l = omega arith

rest : (a q : ℕ) → a < 256 → (a + 256 * q) / 256 ≡ q
rest a q l = omega arith

alone : (a : ℕ) → a < 256 → a % 256 ≡ a
alone a l = omega arith

-- a word's bytes
split : (a b c d r : ℕ) → a < 256 → b < 256 → c < 256 → d < 256 → r ≡ a + 256 * (b + 256 * (c + 256 * d)) → bytes 4 r ≡ a ∷ b ∷ c ∷ d ∷ []
unfolding bytes
split a b c d r la lb lc ld e =
    let p : r / 256 ≡ b + 256 * (c + 256 * d) = ap (λ (n : ℕ). n / 256) e ∙ rest a (b + 256 * (c + 256 * d)) la in
    let q : r / 256 / 256 ≡ c + 256 * d = ap (λ (n : ℕ). n / 256) p ∙ rest b (c + 256 * d) lb in
    let s : r / 256 / 256 / 256 ≡ d = ap (λ (n : ℕ). n / 256) q ∙ rest c d lc in
    let x : r % 256 ≡ a = ap (λ (n : ℕ). n % 256) e ∙ low a (b + 256 * (c + 256 * d)) la in
    let y : r / 256 % 256 ≡ b = ap (λ (n : ℕ). n % 256) p ∙ low b (c + 256 * d) lb in
    let z : r / 256 / 256 % 256 ≡ c = ap (λ (n : ℕ). n % 256) q ∙ low c d lc in
    let t : r / 256 / 256 / 256 % 256 ≡ d = ap (λ (n : ℕ). n % 256) s ∙ alone d ld in
    list_four _ _ _ _ a b c d x y z t

digits_four : (n : ℕ) → n < 10000 → (48 + n / 100 / 10) ∷ (48 + n / 100 % 10) ∷ (48 + n % 100 / 10) ∷ (48 + n % 100 % 10) ∷ [] ≡ last_digits 10 4 n
digits_four n l =
    let a : n / 100 / 10 ≡ n / 10 / 10 / 10 % 10 = omega arith in
    let b : n / 100 % 10 ≡ n / 10 / 10 % 10 = omega arith in
    let c : n % 100 / 10 ≡ n / 10 % 10 = omega arith in
    let d : n % 100 % 10 ≡ n % 10 = omega arith in
    let plus : ℕ → ℕ = λ k. 48 + k in
    list_four _ _ _ _ _ _ _ _ (ap plus a ∙ glyph_digit (n / 10 / 10 / 10)) (ap plus b ∙ glyph_digit (n / 10 / 10)) (ap plus c ∙ glyph_digit (n / 10)) (ap plus d ∙ glyph_digit n)

-- the word that `four_digits` makes
pub four : (n b x t r : ℕ) → n < 10000 → b ≡ 65536 * n - 6553599 * (n / 100) → x ≡ b * 103 / 1024 → t ≡ x % 16 + x / 65536 % 16 * 65536 → r ≡ 808464432 + 256 * b - 2559 * t → bytes 4 r ≡ last_digits 10 4 n
four n b x t r l eb ex et er =
    let h : b ≡ n / 100 + 65536 * (n % 100) = omega (arith, eb) in
    let lh : n / 100 < 100 = omega arith in
    let lm : n % 100 < 100 = omega arith in
    let x0 : 48 + n / 100 / 10 < 256 = omega (arith, tens (n / 100) lh) in
    let x1 : 48 + n / 100 % 10 < 256 = omega arith in
    let x2 : 48 + n % 100 / 10 < 256 = omega (arith, tens (n % 100) lm) in
    let x3 : 48 + n % 100 % 10 < 256 = omega arith in
    split (48 + n / 100 / 10) (48 + n / 100 % 10) (48 + n % 100 / 10) (48 + n % 100 % 10) r x0 x1 x2 x3 (word (n / 100) (n % 100) b x t r lh lm h ex et er) ∙ digits_four n l

-- the word without its first byte, and without its first two
pub three : (n d : ℕ) → bytes 4 d ≡ last_digits 10 4 n → bytes 4 (d / 256) ≡ last_digits 10 3 n ++ (d / 256 / 256 / 256 / 256 % 256 ∷ [])
unfolding bytes
three n d e = ap (λ (l : List ℕ). drop 1 l ++ (d / 256 / 256 / 256 / 256 % 256 ∷ [])) e

pub two : (n d : ℕ) → bytes 4 d ≡ last_digits 10 4 n → bytes 4 (d / 256 / 256) ≡ last_digits 10 2 n ++ (d / 256 / 256 / 256 / 256 % 256 ∷ d / 256 / 256 / 256 / 256 / 256 % 256 ∷ [])
unfolding bytes
two n d e = ap (λ (l : List ℕ). drop 2 l ++ (d / 256 / 256 / 256 / 256 % 256 ∷ d / 256 / 256 / 256 / 256 / 256 % 256 ∷ [])) e

pub width_four : (n : ℕ) → 1000 ≤ n → n < 10000 → width n n ≡ 4
width_four n a b = let e = width_step n (omega arith) in let f = width_three (n / 10) (omega arith) (omega arith) in omega (arith, e, f)

-- the bytes of a word, one by one
pub word_bytes : (d : ℕ) → d % 256 ∷ d / 256 % 256 ∷ d / 256 / 256 % 256 ∷ d / 256 / 256 / 256 % 256 ∷ [] ≡ bytes 4 d
unfolding bytes
word_bytes d = refl

pub word_long : (d : ℕ) → length (bytes 4 d) ≡ 4
unfolding bytes
word_long d = refl

-- a number below 10
pub digit_text : (n : ℕ) → n < 10 → (48 + n) ∷ [] ≡ decimal n
digit_text n l =
    let e : n ≡ n % 10 = omega arith in
    let g : 48 + n ≡ hex_digit_ascii (n % 10) = ap (λ (k : ℕ). 48 + k) e ∙ glyph_digit n in
    ap (λ (k : ℕ). k ∷ []) g ∙ decimal_is n 1 (sym (width_small n l))
