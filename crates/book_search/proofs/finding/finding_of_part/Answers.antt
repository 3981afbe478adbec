use Rattle.book_search.proofs.Delivered.{ended_delivers, paused_delivers}
use Rattle.book_search.proofs.finding.finding_of_part.Goals as goal

pub returns-in_ok-finding-in-Ended : goal.returns-in_ok-finding-in-Ended
returns-in_ok-finding-in-Ended c = ended_delivers c.in-Ended.slice c.args.part c.in_ok-finding-in-Ended.finding.batch c.in_ok-finding-in-Ended.finding.outcome c.in-Ended.is c.in_ok-finding-in-Ended.ensures.delivers

pub returns-in-Paused : goal.returns-in-Paused
returns-in-Paused c = paused_delivers c.args.part c.in-Paused.batch c.in-Paused.is
