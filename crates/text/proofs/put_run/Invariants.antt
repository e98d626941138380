use lib.ListN.{take}
use Rattle.text.specs.Text.{Put}
use Rattle.text.proofs.put_run.Given as goal

abbrev pub invariant-loop-b : goal.invariant-loop-b
invariant-loop-b l = Put (take l.b-index l.run) l.at l.initial.text l.to l.text
