-- The limits of the further words of a header.
use Rattle.std.specs.Prelude.{◌≤◌}
use Rattle.cases.specs.Header as header
use Rattle.runs.specs.declared.more.More.{More}

-- each lent slice, the steps and the file fit the program's memory
pub record Fits (m : More) : Type 0 where
  pub a : header.Fits m.a
  pub b : header.Fits m.b
  pub rows : m.rows ≤ 64
  pub steps : m.steps ≤ 32
  pub bytes : m.bytes ≤ 16384
