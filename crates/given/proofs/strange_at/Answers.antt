use Rattle.std.proofs.Common.{refl, arith}
use Rattle.slices.specs.First.{found_at}
use Rattle.given.specs.GivenLaws.{strange-none, strange-some}
use Rattle.given.proofs.strange_at.Goals as goal

pub returns-in_err-i : goal.returns-in_err-i
returns-in_err-i c = rw c.from_residual.ensures (strange-none _ (omega arith) c.in_err-i.ensures)

pub overflow_mul-result : goal.overflow_mul-result
overflow_mul-result c = let n = found_at c.in_ok-i.ensures refl in omega (arith, n.within)

pub overflow_cast-result : goal.overflow_cast-result
overflow_cast-result c = let n = found_at c.in_ok-i.ensures refl in omega (arith, n.within)

pub returns : goal.returns
returns c = strange-some _ _ (omega arith) c.in_ok-i.ensures
