-- Laws of ascending windows, of ranks, and of the corners next to one of a known face, that no proof of their crate calls.
-- Assumes nothing.
use Rattle.std.specs.Prelude.{ℕ, ◌≤◌, ◌<◌, ◌≡◌, true, false, List, length, get_or}
use Rattle.std.proofs.Common.{◌∙◌, ap, lt-ltb, le-ltb}
use Rattle.slices.specs.First.{count}
use Rattle.mesh.specs.Mesh.{face_of, next, next_in, prev, prev_in, mate}
use Rattle.mesh.specs.Shape.{Shaped, In, next-at}
use Rattle.mesh.specs.Edges.{Faced, up, rank}

pub up-yes : (o k : List ℕ) (n f c d a b : ℕ) → Shaped o n → In o f c → d ≡ next_in o f c → a ≡ get_or k c 0 → b ≡ get_or k d 0 → a < b → true ≡ up o k c
unfolding up
up-yes o k n f c d a b s i e p q h = rw (next-at o n s f c i, ← e, ← p, ← q, lt-ltb a b h)

pub up-no : (o k : List ℕ) (n f c d a b : ℕ) → Shaped o n → In o f c → d ≡ next_in o f c → a ≡ get_or k c 0 → b ≡ get_or k d 0 → b ≤ a → false ≡ up o k c
unfolding up
up-no o k n f c d a b s i e p q h = rw (next-at o n s f c i, ← e, ← p, ← q, le-ltb a b h)

pub rank_up : (o k : List ℕ) (c r : ℕ) → up o k c ≡ true → r ≡ count (up o k) c → r ≡ rank o k c
unfolding rank
rank_up o k c r e h = rw e h

pub rank_down : (o k : List ℕ) (c r m : ℕ) → up o k c ≡ false → m ≡ mate o k c → r ≡ count (up o k) m → r ≡ rank o k c
unfolding rank
rank_down o k c r m e p h = rw (e, ← p) h

module _ (o k : List ℕ) (s : Faced o k) where
  pub next-own : (c f r : ℕ) → c < length k → f ≡ face_of o c → r ≡ next_in o f c → r ≡ next o c
  unfolding next
  next-own c f r h e q = q ∙ ap (λ (g : ℕ). next_in o g c) e

  pub prev-own : (c f r : ℕ) → c < length k → f ≡ face_of o c → r ≡ prev_in o f c → r ≡ prev o c
  unfolding prev
  prev-own c f r h e q = q ∙ ap (λ (g : ℕ). prev_in o g c) e
