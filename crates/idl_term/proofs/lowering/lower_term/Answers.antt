use Rattle.std.proofs.Common.{◌≡◌, ap, subst, Option}
use Rattle.std.specs.Prelude.{Ok, Err}
use Rattle.idl_scope.specs.Scopes.{Scope}
use Rattle.idl_scope.specs.code.LocalNames.{scope_in}
use Rattle.idl_scope.specs.declared.lowered.Lowered.{Lowered}
use Rattle.idl_term.specs.Lowered.{lowered}
use Rattle.idl_term.specs.code.Flat.{MayLower}
use Rattle.idl_term.specs.code.Trees.{tree_of}
use Rattle.idl_term.proofs.FlatTerms.{lowers_refuse}
use Rattle.idl_term.proofs.FrameSteps.{lowers_started}
use Rattle.idl_term.proofs.lowering.lower_term.Goals as goal

pub returns-in_err-made-clause-makes : goal.returns-in_err-made-clause-makes
returns-in_err-made-clause-makes c =
    let old = c.args.nodes.now in
    let now = c.lower_flat.new.nodes in
    let x = tree_of c.args.sexprs.now c.args.id in
    let e = c.in_err-made.field-0.0 in
    let scope : scope_in c.new-locals.result ≡ c.args.scope.now = ap scope_in c.new-locals.ensures in
    lowers_refuse old now now (lowered c.args.scope.now old x) c.from_residual.result e c.from_residual.ensures (subst (λ (s : Scope). MayLower old now (lowered s old x) (Err e)) scope c.in_err-made.ensures.makes)

pub returns-clause-makes : goal.returns-clause-makes
returns-clause-makes c =
    let old = c.args.nodes.now in
    let now = c.lower_flat.new.nodes in
    let x = tree_of c.args.sexprs.now c.args.id in
    let same : c.lower_flat.new.nodes ≡ c.args.nodes.now = subst (λ (o : Option Lowered). MayLower old now (lowered (scope_in c.new-locals.result) old x) (Ok o)) c.in_default.is c.in_ok-made.ensures.makes in
    lowers_started c.args.sexprs.now c.args.id c.new-machine.result c.args.scope.now old now c.run.new.nodes c.run.result c.new-machine.ensures same c.run.ensures.lowers
