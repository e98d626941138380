use Rattle.std.proofs.Common.{arith}
use Rattle.mesh.specs.Shape.{in-lt, next-lt}
use Rattle.mesh.proofs.surface.Faces.window_in.Goals as goal

pub offset_bounds-self-c : goal.offset_bounds-self-c
offset_bounds-self-c c = let h = in-lt _ _ c.args.self.shaped _ _ c.requires in omega arith

pub bounds-self-c : goal.bounds-self-c
bounds-self-c c = in-lt _ _ c.args.self.shaped _ _ c.requires

pub offset_bounds-self-n : goal.offset_bounds-self-n
offset_bounds-self-n c = let h = next-lt _ _ c.args.self.shaped _ _ c.requires in omega (arith, c.next_in-n.ensures)

pub bounds-self-n : goal.bounds-self-n
bounds-self-n c = rw c.next_in-n.ensures (next-lt _ _ c.args.self.shaped _ _ c.requires)
