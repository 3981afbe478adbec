use Rattle.branch_search.proofs.Answered.{answered_model, answered_refuted, answered_split}
use Rattle.branch_search.proofs.state.State.deliver.Goals as goal

pub returns-in-Model : goal.returns-in-Model
returns-in-Model g c = record {
  answer = answered_model c.args.task.now
      c.args.self.now.own.items c.count-seen.result c.excluding.result c.in_ok-left.left c.in_ok-left.ensures.left
      c.count-seen.ensures.count c.args.division c.in-Model.schedule c.in-Model.is c.requires.division;
  kind = tt;
}

pub returns-in-Excluded : goal.returns-in-Excluded
returns-in-Excluded g c = record {
  answer = answered_refuted c.args.task.now
      c.args.self.now.own.items c.count-seen.result c.excluding.result c.in_ok-left.left c.in_ok-left.ensures.left
      c.count-seen.ensures.count c.args.division c.in-Excluded.j _ c.in-Excluded.is c.excluding.ensures c.place-place.ensures
      c.requires.division;
  kind = tt;
}

pub returns : goal.returns
returns g c = record {
  answer = answered_split c.args.task.now
      c.args.self.now.own.items c.count-seen.result c.excluding.result c.in_ok-left.left c.in_ok-left.ensures.left
      c.count-seen.ensures.count c.args.division c.in-Split.literal c.in-Split.is c.requires.division;
  kind = c.in-Split.is;
}
