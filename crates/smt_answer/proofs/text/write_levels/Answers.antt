use Rattle.std.proofs.Common.{ap, ◌∙◌, ℕ, List, ◌++◌}
use Rattle.smt_answer.proofs.Pieces.{three}
use Rattle.smt_answer.proofs.text.write_levels.Goals as goal

pub returns-clause-ok : goal.returns-clause-ok
returns-clause-ok c = three _ _ _ _ _ _ _ c.in_ok-push_str.ensures.ok (c.in_ok-push_str-2.ensures.ok ∙ ap (λ (t : List ℕ). c.push_str.new.self.items ++ t) (c.as_bytes.ensures.value ∙ c.format.ensures.text)) c.in_ok-push_str-3.ensures.ok
