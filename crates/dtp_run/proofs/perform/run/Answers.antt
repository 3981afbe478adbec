use Rattle.dtp_run.proofs.Lines.{has_fault, not_on_plain}
use Rattle.dtp_run.specs.Outcomes.{texts}
use Rattle.dtp_run.proofs.perform.run.Goals as goal

pub returns : goal.returns
returns g c = record {
  headline = record {
    status = c.perform.result;
    code_is = c.code.ensures;
    outcome = c.perform.ensures.outcome;
    fault = has_fault (texts c.args.words.now) _ _ c.perform.result c.perform.ensures.outcome;
    plain = not_on_plain (texts c.args.words.now) _ _ c.perform.result c.perform.ensures.outcome;
    read_later = c.perform.ensures.read_later;
    write_later = c.perform.ensures.write_later;
  };
}
