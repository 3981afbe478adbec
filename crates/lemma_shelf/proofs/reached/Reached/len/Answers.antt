use Rattle.lemma_shelf.proofs.Few.{few}
use Rattle.lemma_shelf.proofs.reached.Reached.len.Goals as goal

pub returns-clause-few : goal.returns-clause-few
returns-clause-few c = λ bound all. few c.self.inside.set.keys c.args.self.now bound c.len.result c.self.view_is c.len.ensures.len c.len.ensures.unique all
