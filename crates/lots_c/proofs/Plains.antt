-- The word of a refusal's numbers. Assumes nothing.
use mathlib.Core.Path.{◌≡◌, sym, ap, ◌∙◌}
use mathlib.Core.Logic.{inl, inr}
use Prim.Native.Nat.{ℕ}
use Rattle.store.specs.Tables.{Out, Numbered}
use Rattle.lots_c.specs.Words.{refusal_word, answer_word}

pub numbered_word : (n p : ℕ) (o : Out) → Numbered n p o → refusal_word n p ≡ answer_word o
numbered_word n p o (inl h) = ap (refusal_word n) h.1 ∙ sym (ap answer_word h.2)
numbered_word n p o (inr h) = sym (ap answer_word h.1)
