use Rattle.std.proofs.Common.{ap, ◌∙◌, ℕ, List, [], ◌++◌, map}
use Rattle.idl_linear.specs.Linear.{LinearValue, negative_of, sum_of}
use Rattle.idl_linear.proofs.SumLaws.{over_linear}
use Rattle.idl_cases.proofs.Gathering.{seen, points_one, sum_one}
use Rattle.idl_cases.proofs.case_parts.CaseParts.begin_with.Goals as goal

pub invariant_of-self-2 : goal.invariant_of-self-2
invariant_of-self-2 c =
    points_one c.clear-2.new.self.items c.push.new.self.items c.clear-3.new.self.items c.args.linear c.clear-2.ensures.items c.in_ok-push.ensures.items c.clear-3.ensures.items (over_linear c.args.linear.now c.constant.ensures.linear)

pub returns : goal.returns
returns c =
    ap (λ (gs : List ℕ). record { guards = gs; linear = sum_of (seen c.push.new.self.items ++ map negative_of (seen c.clear-3.new.self.items)) }) c.clear.ensures.items
    ∙ ap (λ (l : LinearValue). record { guards = []; linear = l }) (sum_one c.clear-2.new.self.items c.push.new.self.items c.clear-3.new.self.items c.args.linear c.clear-2.ensures.items c.in_ok-push.ensures.items c.clear-3.ensures.items (over_linear c.args.linear.now c.constant.ensures.linear))
