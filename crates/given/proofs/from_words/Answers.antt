use Rattle.given.specs.Given.{from_words}
use borrow.Author.Rules.{rules}
use Rattle.given.proofs.from_words.Goals as goal

pub returns : goal.returns
unfolding from_words
returns c = search rules
