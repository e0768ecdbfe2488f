-- What the writes of format make is the blank store. Over any page size. Assumes nothing.
use mathlib.Core.Path.{◌≡◌, sym, ◌∙◌}
use mathlib.Core.List.{List}
use mathlib.Core.Logic.{⊎_elim}
use Prim.Native.Nat.{ℕ, ◌+◌, ◌-◌, ◌*◌, ◌≤◌, ◌<◌}
use native.Mathlib.Omega.{arith}
use lib.ListN.{length}
use lib.Seq.{ext_get_or}
use Rattle.ground.specs.Lists.{byte}
use Rattle.words.specs.Le.{le16, le32}
use Rattle.words.specs.Moves.{Cleared, Put32}
use Rattle.ground.proofs.Sides.{side}
use Rattle.words.proofs.Bytes.{le32_byte, le32_below, Small, small_append, small_bytes, small_zeros}
use Rattle.partition.specs.declared.Shape.{Shape}
use Rattle.partition.specs.Sizes.{number_of_size}
use Rattle.store.specs.Pages.{size, pages}
use Rattle.store.specs.Accepted.{GoodLength}
use Rattle.store.specs.Tables.{blank}
use Rattle.store.specs.Demands.{Sized}
use Rattle.store.proofs.Accepted.Unique.{within}
use Rattle.store.proofs.Accepted.Format.{blank_long, blank_zero, word_0, word_4, word_8, word_12, word_16, word_20}

-- every byte of the blank store is a byte
blank_bytes : (S : Shape) (s : List ℕ) → Small (blank S s)
unfolding blank
blank_bytes S s =
    small_append (small_bytes 4 (pages S s)) (small_append (small_bytes 4 (size S)) (small_append (small_bytes 4 S.entries) (small_append (small_bytes 4 (2 * size S)) (small_append (small_bytes 4 0) (small_append (small_bytes 4 (number_of_size S)) (small_zeros (length s - 24)))))))

-- a store of three pages has room for page 0's words
pub words_there : (S : Shape) → Sized S → (s : List ℕ) → 3 ≤ pages S s → 24 ≤ length s
words_there S sized s l = omega (arith, sized.least, within S s 2 l)

module _ (S : Shape) (sized : Sized S) (s a b c d e t : List ℕ) (good : GoodLength S s) (clear : Cleared s 0 (length s) a) (p0 : Put32 a 0 (pages S s) b) (p4 : Put32 b 4 (size S) c)
    (p8 : Put32 c 8 S.entries d) (p12 : Put32 d 12 (2 * size S) e) (p20 : Put32 e 20 (number_of_size S) t) (bt : (k : ℕ) → byte t k < 256) where
  at_word : (x k : ℕ) → x ≤ k → k < x + 4 → le32 t x ≡ le32 (blank S s) x → byte t k ≡ byte (blank S s) k
  at_word x k f g e = let q : x + (k - x) ≡ k = omega arith in rw q at (le32_byte t (blank S s) x (k - x) bt (blank_bytes S s).at e (omega arith))

  t_0 : le32 t 0 ≡ pages S s
  t_0 = le32_below 0 p20.old (omega arith) ∙ le32_below 0 p12.old (omega arith) ∙ le32_below 0 p8.old (omega arith) ∙ le32_below 0 p4.old (omega arith) ∙ p0.val

  t_4 : le32 t 4 ≡ size S
  t_4 = le32_below 4 p20.old (omega arith) ∙ le32_below 4 p12.old (omega arith) ∙ le32_below 4 p8.old (omega arith) ∙ p4.val

  t_8 : le32 t 8 ≡ S.entries
  t_8 = le32_below 8 p20.old (omega arith) ∙ le32_below 8 p12.old (omega arith) ∙ p8.val

  t_12 : le32 t 12 ≡ 2 * size S
  t_12 = le32_below 12 p20.old (omega arith) ∙ p12.val

  -- bytes that only the last write can have changed
  cleared : (k : ℕ) → 16 ≤ k → k < length s → byte e k ≡ 0
  cleared k g l = p12.old.above k g ∙ p8.old.above k (omega arith) ∙ p4.old.above k (omega arith) ∙ p0.old.above k (omega arith) ∙ clear.new k (omega arith) l

  t_16 : le32 t 16 ≡ 0
  unfolding le32 le16
  t_16 =
      let m = words_there S sized s good.least in
      let zero : (k : ℕ) → 16 ≤ k → k < 20 → byte t k ≡ 0 = λ k a b. p20.old.below k b ∙ cleared k a (omega arith) in
      omega (arith, zero 16 (omega arith) (omega arith), zero 17 (omega arith) (omega arith), zero 18 (omega arith) (omega arith), zero 19 (omega arith) (omega arith))

  rest : (k : ℕ) → 24 ≤ k → k < length s → byte t k ≡ 0
  rest k g l = p20.old.above k g ∙ cleared k (omega arith) l

  long : length t ≡ length s
  long = p20.old.len ∙ p12.old.len ∙ p8.old.len ∙ p4.old.len ∙ p0.old.len ∙ clear.len

  pub formatted_is : t ≡ blank S s
  formatted_is = ext_get_or 0 t (blank S s) (long ∙ sym (blank_long S s sized good))
      (λ k l. ⊎_elim (λ x. at_word 0 k (omega arith) (omega arith) (t_0 ∙ sym (word_0 S s sized good)))
      (λ x. ⊎_elim (λ y. at_word 4 k x (omega arith) (t_4 ∙ sym (word_4 S s sized good)))
      (λ y. ⊎_elim (λ z. at_word 8 k y (omega arith) (t_8 ∙ sym (word_8 S s sized good)))
      (λ z. ⊎_elim (λ v. at_word 12 k z (omega arith) (t_12 ∙ sym (word_12 S s sized good)))
      (λ v. ⊎_elim (λ u. at_word 16 k v (omega arith) (t_16 ∙ sym (word_16 S s sized good)))
      (λ u. ⊎_elim (λ w. at_word 20 k u (omega arith) (p20.val ∙ sym (word_20 S s sized good)))
      (λ w. rest k w (omega (arith, long)) ∙ sym (blank_zero S s sized good k w))
      (side k 24)) (side k 20)) (side k 16)) (side k 12)) (side k 8)) (side k 4))
