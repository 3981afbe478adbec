use Rattle.book_search.proofs.Delivered.{found_instead}
use Rattle.book_search.proofs.finding.found_instead.Goals as goal

pub returns-clause-finds : goal.returns-clause-finds
returns-clause-finds c problem lemmas cube before found = found_instead problem lemmas cube c.args.finding.batch c.args.finding.outcome c.args.schedule before found
