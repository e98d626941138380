use Rattle.spelling.specs.Words.{listing_words}
use mathlib.Core.Path.{ap, ◌∙◌}
use Rattle.exports.proofs.cg_edges.Goals as goal

pub returns : goal.returns
returns c = record { words = c.spell_listing.ensures ∙ ap listing_words c.to_edges.ensures.value; list = c.to_edges.ensures.out_after }
