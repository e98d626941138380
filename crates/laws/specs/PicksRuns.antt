-- Laws of the run of a face, cut out between two bounds, that no proof of picks calls. Assumes nothing.
use Rattle.std.specs.Prelude.{◌≡◌, List, ℕ, ◌-◌, ◌<◌, ◌≤◌, length, take, drop, Float}
use Rattle.faces.specs.Face.{InReach}
use Rattle.mesh.specs.Mesh.{start, end}
use Rattle.picks.specs.Runs.{Run}

-- the bounds of the run as the code reads them
pub cut-ends : (o k : List ℕ) (x : List Float) (f a b : ℕ) → a ≡ start o f → b ≡ end o f → Run o k x f → (a ≤ b) × (b ≤ length k)
cut-ends o k x f a b e g r = rw (e, g) (r.rising, r.within)

-- and the run between them
pub cut-run : (o k : List ℕ) (x : List Float) (f a b : ℕ) → a ≡ start o f → b ≡ end o f → Run o k x f
    → ((0 < length (take (b - a) (drop a k))) × (length (take (b - a) (drop a k)) ≤ 60000)) × InReach x (take (b - a) (drop a k))
cut-run o k x f a b e g r = rw (e, g) ((r.some, r.few), r.reach)
