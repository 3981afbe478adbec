use Rattle.lemma_shelf.proofs.Steps.{begins_itself, begins_same}
use Rattle.lemma_shelf.proofs.table.Table.push.Goals as goal

pub returns-in_err-push-clause-front : goal.returns-in_err-push-clause-front
returns-in_err-push-clause-front c = record {
  book = begins_itself c.args.self.now.book;
  lemmas = begins_same c.args.self.now.lemmas.items c.push.new.self.items c.in_err-push.ensures.items;
  points = begins_same c.args.self.now.points.items c.reserve.new.self.items c.reserve.ensures.items;
}
