-- Laws of a lent list that is filled from its front, that no proof of its crate calls. Assumes nothing.
use Rattle.std.specs.Prelude.{◌≡◌, refl, List, [], ◌∷◌, ◌++◌, ℕ, zero, suc, ◌+◌, ◌<◌, length, drop, replicate, set}
use Rattle.std.proofs.Common.{sym, ap, ◌∙◌, add-one, not-suc-le-zero, le_of_suc-le-suc}
use Rattle.std.proofs.Math.Seq.{drop-length}
use mathlib.Core.List.{append-nil}

module _ {A : Type 0} where
  -- a lent list whose first n elements are v
  pub filled : List A → A → ℕ → List A
  filled l v n = replicate n v ++ drop n l

  pub filled_none : (l : List A) (v : A) → l ≡ filled l v 0
  unfolding filled
  filled_none l v = refl

  filled-suc : (n : ℕ) (v : A) (l : List A) → n < length l → set (replicate n v ++ drop n l) n v ≡ replicate (suc n) v ++ drop (suc n) l
  filled-suc n v [] h = absurd (not-suc-le-zero h)
  filled-suc zero v (x ∷ l) h = refl
  filled-suc (suc n) v (x ∷ l) h = ap (λ (t : List A). v ∷ t) (filled-suc n v l (le_of_suc-le-suc h))

  pub filled_more : (l : List A) (v : A) (n : ℕ) → n < length l → set (filled l v n) n v ≡ filled l v (n + 1)
  unfolding filled
  filled_more l v n h = filled-suc n v l h ∙ ap (λ (k : ℕ). replicate k v ++ drop k l) (sym (add-one n))

  pub filled-all : (l : List A) (v : A) → filled l v (length l) ≡ replicate (length l) v
  unfolding filled
  filled-all l v = ap (λ (r : List A). replicate (length l) v ++ r) (drop-length l) ∙ append-nil (replicate (length l) v)
