-- Lists in a strict order, each before all that follow: settled by their members. Assumes nothing.
use mathlib.Core.Path.{◌≡◌, refl, sym, ap₂, subst, ◌∙◌}
use mathlib.Core.Logic.{◌⊎◌, inl, inr}
use mathlib.Core.List.Memᴰ
use mathlib.Core.List.{List, [], ◌∷◌, Memᴰ}
use Rattle.partition.specs.Listing.{Strict}

module _ {A : Type 0} (lt : A → A → Type 0) where
  module _ (one_way : (a b : A) → lt a b → lt b a → ⊥) where
    pub strict_ext : (s t : List A) → Strict lt s → Strict lt t → ((a : A) → Memᴰ a s → Memᴰ a t) → ((a : A) → Memᴰ a t → Memᴰ a s) → s ≡ t
    strict_ext [] [] u v f g = refl
    strict_ext [] (q ∷ t) u v f g = absurd (Memᴰ.not-nil (g q (Memᴰ.head refl)))
    strict_ext (p ∷ s) [] u v f g = absurd (Memᴰ.not-nil (f p (Memᴰ.head refl)))
    strict_ext (p ∷ s) (q ∷ t) u v f g =
        ap₂ (λ (x : A) (l : List A). x ∷ l) heads
        (strict_ext s t u.1 v.1
        (λ a m. rest p s q t (sym heads) u.0 a m (Memᴰ.cases_cons (f a (Memᴰ.tail m))))
        (λ a m. rest q t p s heads v.0 a m (Memᴰ.cases_cons (g a (Memᴰ.tail m)))))
      where
        heads : p ≡ q
        heads = go (Memᴰ.cases_cons (f p (Memᴰ.head refl))) (Memᴰ.cases_cons (g q (Memᴰ.head refl)))
          where
            go : (p ≡ q) ⊎ Memᴰ p t → (q ≡ p) ⊎ Memᴰ q s → p ≡ q
            go (inl e) y = e
            go (inr m) (inl e) = sym e
            go (inr m) (inr n) = absurd (one_way p q (u.0 q n) (v.0 p m))

        rest : (p : A) (s : List A) (q : A) (t : List A) → q ≡ p → ((b : A) → Memᴰ b s → lt p b) → (a : A) → Memᴰ a s → (a ≡ q) ⊎ Memᴰ a t → Memᴰ a t
        rest p s q t e u a m (inl y) = let l : lt p p = subst (λ z. lt p z) (y ∙ e) (u a m) in absurd (one_way p p l l)
        rest p s q t e u a m (inr y) = y
