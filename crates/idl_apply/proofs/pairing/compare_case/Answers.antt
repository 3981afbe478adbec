use Rattle.std.proofs.Common.{[]}
use Rattle.std.proofs.lemmas.Result.{err_from_is_err_and}
use Rattle.idl_apply.proofs.CasesRelated.{guards_fail, pair_fails, pair_made}
use Rattle.idl_apply.proofs.pairing.compare_case.Goals as goal

pub returns-in_err-deny_all-clause-makes : goal.returns-in_err-deny_all-clause-makes
returns-in_err-deny_all-clause-makes c =
    let q = err_from_is_err_and c.from_residual-in_err-deny_all.result c.from_residual-in_err-deny_all.ensures.1 in
    let case = c.args.case.now in
    rw (q.1, q.2) (guards_fail c.args.relation case c.args.nodes.now c.deny_all.new.nodes c.in_ok-members.members.items c.deny_all.new.members.items c.guards-guards.result.now c.in_ok-members.ensures.items c.guards-guards.ensures c.deny_all.new.nodes c.in_err-deny_all.field-0.0
    (c.in_err-deny_all.ensures.goes c.args.relation [] case.linear))

pub returns-in_err-compare_difference-clause-makes : goal.returns-in_err-compare_difference-clause-makes
returns-in_err-compare_difference-clause-makes c =
    let q = err_from_is_err_and c.from_residual-in_err-compare_difference.result c.from_residual-in_err-compare_difference.ensures.1 in
    let case = c.args.case.now in
    rw (q.1, q.2) (pair_fails c.args.relation case c.args.nodes.now c.deny_all.new.nodes c.in_ok-members.members.items c.deny_all.new.members.items c.guards-guards.result.now c.in_ok-members.ensures.items c.guards-guards.ensures
    (c.in_ok-deny_all.ensures.goes c.args.relation [] case.linear) c.compare_difference.new.nodes c.in_err-compare_difference.field-0.0 c.in_err-compare_difference.ensures.makes)

pub returns-clause-makes : goal.returns-clause-makes
returns-clause-makes c =
    let case = c.args.case.now in
    pair_made c.args.relation case c.args.nodes.now c.deny_all.new.nodes c.in_ok-members.members.items c.deny_all.new.members.items c.guards-guards.result.now c.in_ok-members.ensures.items c.guards-guards.ensures
    (c.in_ok-deny_all.ensures.goes c.args.relation [] case.linear) c.compare_difference.new.nodes c.disjoin.new.nodes c.in_ok-compare_difference.field-0 c.push.new.self.items c.disjoin.result c.in_ok-compare_difference.ensures.makes c.in_ok-push.ensures.items c.disjoin.ensures.makes
