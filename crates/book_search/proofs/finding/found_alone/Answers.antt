use Rattle.std.proofs.Common.{◌∙◌}
use Rattle.book_search.proofs.Delivered.{found_alone}
use Rattle.book_search.proofs.finding.found_alone.Goals as goal

pub returns-clause-finds : goal.returns-clause-finds
returns-clause-finds c problem lemmas cube found = found_alone problem lemmas cube c.new-2.result c.args.schedule c.new-2.ensures.seen (c.new-2.ensures.lemmas ∙ c.new.ensures.items) found
