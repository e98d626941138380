use Rattle.std.proofs.Common.{arith, rules}
use Rattle.root.proofs.Laws.{low_bits, is_root}
use Rattle.root.proofs.root_bits.Goals as goal

pub returns-in-1-to-8388607-clause-root : goal.returns-in-1-to-8388607-clause-root
returns-in-1-to-8388607-clause-root c =
    is_root _ _ (low_bits c.args.b _ (search rules) (omega arith) c.root_of.ensures.value)
