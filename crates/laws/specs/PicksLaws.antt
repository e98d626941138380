-- Laws of picked faces, from their parts, that no proof of picks calls. Assumes nothing.
use Rattle.std.specs.Prelude.{◌≡◌, Bool, true, false, List, ℕ, ◌-◌, ltb, length, take, drop, Float}
use Rattle.std.proofs.Math.Path.{sym, ap₂}
use Rattle.std.proofs.Common.{◌∙◌, ap}
use Rattle.std.proofs.Math.Bool.{cond}
use Rattle.slices.specs.First.{first, is_at}
use Rattle.faces.specs.Regular.{regular_of}
use Rattle.mesh.specs.Mesh.{start, end, arity}
use Rattle.picks.specs.Picks.{allows, picked}
use Rattle.picks.specs.declared.Mask.{Mask}

pub allows-given : (g : Bool) (l : List ℕ) (n j : ℕ) → g ≡ true → j ≡ first (is_at l n) (length l) → ltb j (length l) ≡ allows g l n
unfolding allows
allows-given g l n j e h = rw (e, h)

pub allows-absent : (g : Bool) (l : List ℕ) (n : ℕ) → g ≡ false → true ≡ allows g l n
unfolding allows
allows-absent g l n e = rw e

-- each mask asked in turn: the first that does not allow the face decides
module _ (m : Mask) (a b o k : List ℕ) (x : List Float) (f : ℕ) where
  by-arity : (i j n : ℕ) (t : Bool) → i ≡ start o f → j ≡ end o f → n ≡ j - i → t ≡ allows m.arities a n → t ≡ allows m.arities a (arity o f)
  by-arity i j n t d e h p = p ∙ ap (allows m.arities a) (h ∙ ap₂ (λ (v w : ℕ). w - v) d e)

  by_number : (n : ℕ) (u : Bool) → n ≡ f → u ≡ allows m.numbers b n → u ≡ allows m.numbers b f
  by_number n u h p = p ∙ ap (allows m.numbers b) h

  pub off-arity : (i j n : ℕ) (t : Bool) → i ≡ start o f → j ≡ end o f → n ≡ j - i → t ≡ allows m.arities a n → t ≡ false → false ≡ picked m a b o k x f
  unfolding picked
  off-arity i j n t d e h p q = rw (sym (by-arity i j n t d e h p) ∙ q)

  pub off-number : (i j n r : ℕ) (t u : Bool) → i ≡ start o f → j ≡ end o f → n ≡ j - i → t ≡ allows m.arities a n → t ≡ true
      → r ≡ f → u ≡ allows m.numbers b r → u ≡ false → false ≡ picked m a b o k x f
  unfolding picked
  off-number i j n r t u d e h p q w v z = rw (sym (by-arity i j n t d e h p) ∙ q, sym (by_number r u w v) ∙ z)

  pub by_shape : (i j n r : ℕ) (t u s : Bool) → i ≡ start o f → j ≡ end o f → n ≡ j - i → t ≡ allows m.arities a n → t ≡ true
      → r ≡ f → u ≡ allows m.numbers b r → u ≡ true → s ≡ cond m.regular (regular_of x (take (j - i) (drop i k))) true → s ≡ picked m a b o k x f
  unfolding picked
  by_shape i j n r t u s d e h p q w v z y =
      rw (sym (by-arity i j n t d e h p) ∙ q, sym (by_number r u w v) ∙ z)
      (y ∙ ap₂ (λ (c l : ℕ). cond m.regular (regular_of x (take (l - c) (drop c k))) true) d e)
