-- A code that is shown is read back. Assumes nothing.
use Prim.Native.Nat.{ℕ, suc, ◌/◌, ◌%◌, ◌≤◌, ◌<◌}
use mathlib.Core.Path.{◌≡◌, sym, subst}
use mathlib.Core.List.{List, [], ◌∷◌}
use mathlib.Core.Logic.{◌⊎◌, inl, inr}
use native.Mathlib.Nat.{div-add-mod', mod-lt}
use native.Mathlib.Omega.{arith}
use borrow.Author.Tests.{lt-ltb, le-ltb}
use Rattle.ground.specs.Lists.{byte}
use Rattle.ground.proofs.Sides.{side}
use Rattle.commands.specs.Codes.{Hex, Spells, none, plain, escaped, upper, escape, glyphs, shown}
use Rattle.commands.proofs.Adding.{glyphs_low, glyphs_high, glyphs_percent, glyphs_plain}
use Rattle.commands.proofs.Spelling.{together}

upper_hex : (d : ℕ) → d < 16 → Hex (upper d) d
upper_hex d h = go (side d 10)
  where
    go : (d < 10) ⊎ (10 ≤ d) → Hex (upper d) d
    go (inl l) = inl (simp (lt-ltb d 10 l), l)
    go (inr l) = inr (inl (simp (le-ltb d 10 l)), l, h)

escape_spells : (b : ℕ) → b < 256 → Spells (escape b) (b ∷ [])
escape_spells b h = subst (λ n. Spells (escape b) (n ∷ [])) (div-add-mod' b 16)
    (escaped (upper_hex (b / 16) (omega (arith, div-add-mod' b 16))) (upper_hex (b % 16) (mod-lt b (omega arith))) none)

byte_spells : (b : ℕ) → b < 256 → Spells (glyphs b) (b ∷ [])
byte_spells b h = go (side b 33) (side 126 b) (side b 37) (side 37 b)
  where
    escapes : glyphs b ≡ escape b → Spells (glyphs b) (b ∷ [])
    escapes e = subst (λ w. Spells w (b ∷ [])) (sym e) (escape_spells b h)

    itself : 33 ≤ b → b ≤ 126 → (b ≡ 37 → ⊥) → Spells (glyphs b) (b ∷ [])
    itself l m n = subst (λ w. Spells w (b ∷ [])) (sym (glyphs_plain b l m n)) (plain (record { least = l; most = m; other = n }) none)

    go : (b < 33) ⊎ (33 ≤ b) → (126 < b) ⊎ (b ≤ 126) → (b < 37) ⊎ (37 ≤ b) → (37 < b) ⊎ (b ≤ 37) → Spells (glyphs b) (b ∷ [])
    go (inl l) _ _ _ = escapes (glyphs_low b l)
    go (inr l) (inl m) _ _ = escapes (glyphs_high b l m)
    go (inr l) (inr m) (inl x) _ = itself l m (λ e. omega arith)
    go (inr l) (inr m) (inr x) (inl y) = itself l m (λ e. omega arith)
    go (inr l) (inr m) (inr x) (inr y) = escapes (glyphs_percent b l m (omega arith))

pub shown_spells : (c : List ℕ) → ((k : ℕ) → byte c k < 256) → Spells (shown c) c
unfolding shown
shown_spells [] h = none
shown_spells (b ∷ c) h = together (byte_spells b (h 0)) (shown_spells c (λ k. h (suc k)))
