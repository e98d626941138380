use Rattle.spelling.specs.Words.{verdict_words}
use mathlib.Core.Path.{ap, ◌∙◌}
use Rattle.exports.proofs.cg_check.Goals as goal

pub returns : goal.returns
returns c = c.spell_verdict.ensures ∙ ap verdict_words c.check.ensures
