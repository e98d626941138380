-- Laws of a run of rows copied to the front of a ledger, one row after the other, that no proof of its crate calls. Assumes nothing.
use Rattle.std.specs.Prelude.{◌≡◌, List, ℕ, ◌+◌, ◌<◌, ◌≤◌, length, get_or, set, take, drop}
use Rattle.std.proofs.Math.Path.{refl}
use Rattle.std.proofs.Common.{sym, ◌∙◌, arith, length-append, length-drop}
use Rattle.slices.specs.Lists.{over, copy_more, sets_over}
use Rattle.recipes.specs.RecipeLaws.{take-few}

module _ {A : Type 0} where
  -- the first n of made, written over the front of old
  pub copied : List A → List A → ℕ → List A
  copied made old n = over (take n made) old

  pub copied_is : (made old : List A) (n : ℕ) → copied made old n ≡ over (take n made) old
  unfolding copied
  copied_is made old n = refl

  pub copied_none : (made old : List A) → old ≡ copied made old 0
  unfolding copied
  copied_none made old = refl

  pub length_over : (new old : List A) → length new ≤ length old → length (over new old) ≡ length old
  length_over new old h = omega (arith, length-append new (drop (length new) old), length-drop (length new) old)

  pub length-copied : (made old : List A) (n : ℕ) → n ≤ length old → length (copied made old n) ≡ length old
  unfolding copied
  length-copied made old n h = length_over (take n made) old (omega (arith, take-few n made))

  pub copied_more : (made old : List A) (n : ℕ) (d : A) → n < length made → n < length old → set (copied made old n) n (get_or made n d) ≡ copied made old (n + 1)
  unfolding copied
  copied_more made old n d h k =
      copy_more made old d n (over (take n made) old) (get_or made n d) h (sym (sets_over old (take n made) (omega (arith, take-few n made)))) refl
      ∙ sets_over old (take (n + 1) made) (omega (arith, take-few (n + 1) made))
