-- Bytes taken in one stretch after the other. Assumes nothing.
use Prim.Native.Nat.{ℕ, ◌+◌, ◌*◌, ◌%◌, ◌^◌, ◌<◌}
use mathlib.Core.Path.{◌≡◌, refl, sym, ap, ◌∙◌}
use mathlib.Core.List.{List, [], ◌∷◌, ◌++◌}
use lib.Bits.{bit_xor}
use lib.ListN.{length, get_or, take, drop}
use lib.Seq.{drop-cons, drop-drop, take-add}
use Rattle.fnv.specs.Fnv.{each}
use Rattle.fnv.specs.Fnv.Laws.{ends, goes_on}

-- one list after the other
each_append : (h : ℕ) (xs ys : List ℕ) → each h (xs ++ ys) ≡ each (each h xs) ys
each_append h [] ys = ap (λ x. each x ys) (sym (ends h))
each_append h (b ∷ c) ys = goes_on h b (c ++ ys) ∙ each_append (bit_xor h b * 16777619 % 2 ^ 32) c ys ∙ ap (λ x. each x ys) (sym (goes_on h b c))

-- no byte
pub none : (s : List ℕ) (h i n : ℕ) → n ≡ 0 → h ≡ each h (take n (drop i s))
none s h i n e = rw e (sym (ends h))

-- one byte
pub taken : (s : List ℕ) (h i r n : ℕ) → i < length s → r ≡ bit_xor h (get_or s i 0) * 16777619 % 2 ^ 32 → n ≡ 1 → r ≡ each h (take n (drop i s))
taken s h i r n l e f = rw (f, drop-cons s i 0 l) (e ∙ sym (ends _) ∙ sym (goes_on h (get_or s i 0) []))

-- n bytes from i on, and m more
pub joined : (s : List ℕ) (h a r i j n m k : ℕ) → a ≡ each h (take n (drop i s)) → r ≡ each a (take m (drop j s)) → j ≡ i + n → k ≡ n + m → r ≡ each h (take k (drop i s))
joined s h a r i j n m k p q e f = rw (f, take-add n m (drop i s), drop-drop n i s) (q ∙ rw (e, p) refl ∙ sym (each_append h (take n (drop i s)) (take m (drop (i + n) s))))

-- as many bytes by another count
pub counted : (s : List ℕ) (h r i n k : ℕ) → r ≡ each h (take n (drop i s)) → k ≡ n → r ≡ each h (take k (drop i s))
counted s h r i n k p e = rw e p
