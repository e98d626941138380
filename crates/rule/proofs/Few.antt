-- How many edges and faces a mesh has at most, as a number's type asks.
use Rattle.std.proofs.Common.{List, ℕ, ◌<◌, ◌≤◌, length}
use Rattle.mesh.specs.Mesh.{face_of}
use Rattle.mesh.specs.Edges.{Sound, sound-faced, rank, rank-few, face-below}

pub rank_few : (o k : List ℕ) (c : ℕ) → Sound o k → c < length k → rank o k c ≤ 60000
rank_few o k c s h = rank-few o k s c h

pub face_few : (o k : List ℕ) (c : ℕ) → Sound o k → c < length k → face_of o c < 60000
face_few o k c s h = face-below o k (sound-faced s) c h
