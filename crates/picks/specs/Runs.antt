-- The run of a face, as a helper on one face needs it. Assumes nothing.
use Rattle.std.specs.Prelude.{◌≡◌, List, ℕ, ◌+◌, ◌*◌, ◌<◌, ◌≤◌, length, get_or, Float}
use Rattle.std.proofs.Common.{arith}
use Rattle.faces.specs.Face.{InReach}
use Rattle.faces.specs.FaceLaws.{length_part, part-reach}
use Rattle.mesh.specs.Mesh.{faces, start, end, arity, run}
use Rattle.mesh.specs.Shape.{end-le}
use Rattle.mesh.specs.Edges.{Faced}

pub record Run (o k : List ℕ) (x : List Float) (f : ℕ) : Type 0 where
  pub rising : start o f ≤ end o f
  pub within : end o f ≤ length k
  pub long : length (run o k f) ≡ arity o f
  pub some : 0 < length (run o k f)
  pub few : length (run o k f) ≤ 60000
  pub reach : InReach x (run o k f)

pub run_of : (o k : List ℕ) (x : List Float) (f : ℕ) → Faced o k → InReach x k → f < faces o → Run o k x f
run_of o k x f s r h =
    let a : start o f ≤ end o f = s.shaped.rises f h in
    let b : end o f ≤ length k = end-le o (length k) s.shaped f h in
    let e : length (run o k f) ≡ arity o f = length_part k (start o f) (arity o f) (omega arith) in
    record {
      rising = a;
      within = b;
      long = e;
      some = omega (arith, e, s.full f h);
      few = omega (arith, e, s.few);
      reach = part-reach x k (start o f) (arity o f) (omega arith) r;
    }

-- the parts of it that the code needs by themselves
pub run_within : (o k : List ℕ) (f : ℕ) → Faced o k → f < faces o → end o f ≤ length k
run_within o k f s h = end-le o (length k) s.shaped f h

pub run_long : (o k : List ℕ) (f : ℕ) → Faced o k → f < faces o → length (run o k f) ≡ arity o f
run_long o k f s h = let a = s.shaped.rises f h in let b = run_within o k f s h in length_part k (start o f) (arity o f) (omega arith)

pub run_reach : (o k : List ℕ) (x : List Float) (f i : ℕ) → Faced o k → InReach x k → f < faces o → i < length (run o k f) → get_or (run o k f) i 0 * 3 + 3 ≤ length x
run_reach o k x f i s r h l = let a = s.shaped.rises f h in let b = run_within o k f s h in part-reach x k (start o f) (arity o f) (omega arith) r i l
