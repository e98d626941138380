-- Laws of windows and of a test's answer from what is compared, that no proof of their crate calls. Assumes nothing.
use Rattle.std.specs.Prelude.{ℕ, ◌-◌, ◌≤◌, ◌<◌, ◌≡◌, true, false, List, length, get_or, take, drop, ltb}
use Rattle.std.proofs.Common.{◌∙◌, ap, ap₂}
use borrow.Author.Tests.{ne_eqb, le-leb, lt-leb}
use Rattle.mesh.specs.Mesh.{faces, start, end, next_in, pair_of, window, window_is}
use Rattle.mesh.specs.Tests.{short, outside}
use Rattle.mesh.specs.Shape.{Shaped, In, next-at, length_run}

module _ (o : List ℕ) (n : ℕ) (s : Shaped o n) where
  pub window-at : (k : List ℕ) (f c : ℕ) → In o f c → pair_of (get_or k c 0) (get_or k (next_in o f c) 0) ≡ window o k c
  unfolding window
  window-at k f c i = rw (next-at o n s f c i)

-- a window that starts elsewhere
pub starts-elsewhere : (o k e : List ℕ) (c a : ℕ) → a ≡ get_or k c 0 → (a ≡ get_or e 0 0 → ⊥) → false ≡ window_is o k e c
unfolding window
starts-elsewhere o k e c a q h = rw (← q, ne_eqb _ _ h)

-- ---- a test's answer from what the code compares
pub short-run : (o k : List ℕ) → Shaped o (length k) → (f a b r : ℕ) → f < faces o → a ≡ start o f → b ≡ end o f → r ≡ length (take (b - a) (drop a k)) → ltb r 3 ≡ short o f
short-run o k s f a b r h p q e = ap (λ (n : ℕ). ltb n 3) (e ∙ ap₂ (λ (i j : ℕ). length (take (j - i) (drop i k))) p q ∙ length_run o k s f h)

pub outside-yes : (k : List ℕ) (v c n : ℕ) → n ≡ get_or k c 0 → v ≤ n → outside k v c ≡ true
outside-yes k v c n e h = rw (← e) (le-leb v n h)

pub outside-no : (k : List ℕ) (v c n : ℕ) → n ≡ get_or k c 0 → n < v → outside k v c ≡ false
outside-no k v c n e h = rw (← e) (lt-leb v n h)
