use Rattle.mesh.specs.Shape.{end-le}
use Rattle.mesh.proofs.surface.Faces.run.Goals as goal

pub slice_bounds-result-end : goal.slice_bounds-result-end
slice_bounds-result-end c = end-le _ _ c.args.self.shaped _ c.requires
