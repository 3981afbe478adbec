use Rattle.std.proofs.Common.{sym, ap, subst, arith, ◌∙◌, ◌≡◌, ◌<◌, ◌≤◌, List, length, true, false}
use Rattle.std.proofs.lemmas.Result.{err_from_is_err_and}
use Rattle.idl_term.specs.Limits.{names_limit}
use Rattle.idl_apply.specs.Operators.{is_reserved}
use Rattle.idl_term.specs.Scopes.{Declaration, is_known}
use Rattle.smt_script.specs.code.Kept.{Kept, StandsFor}
use Rattle.smt_script.specs.States.{sort_of}
use Rattle.smt_script.proofs.Keeping.{kept_declared}
use Rattle.smt_script.proofs.Stepping.{declaration_refused, declaration_taken, declaration_when_full, declaration_steps, declares_known, declares_new, known_taken, neither_taken, reserved_taken}
use Rattle.smt_script.proofs.state.State.declare.Goals as goal

pub returns-in_err-sort-clause-agrees : goal.returns-in_err-sort-clause-agrees
returns-in_err-sort-clause-agrees c = λ s parameters x stands signature.
    let q = err_from_is_err_and c.from_residual.result c.from_residual.ensures.1 in
    rw (q.1, q.2) (declaration_refused s c.args.signature.name.now parameters (sort_of x) c.in_err-sort.field-0.0 (c.in_err-sort.ensures parameters x signature))

pub returns-then-len-clause-agrees : goal.returns-then-len-clause-agrees
returns-then-len-clause-agrees c = λ s parameters x stands signature.
    let h = subst (λ (k : Kept). StandsFor k s) (sym c.self.view_is) stands in
    let count : c.len.result ≡ length c.self.inside.scope.declared = c.len.ensures ∙ ap (λ (ds : List Declaration). length ds) c.names.ensures in
    let full : names_limit ≤ length c.self.inside.scope.declared = omega (arith, count) in
    declaration_when_full _ s h c.args.signature.name.now parameters (sort_of x) c.in_ok-sort.sort (c.in_ok-sort.ensures parameters x signature) _ c.refusal_when_full.ensures full

pub returns-then-is_reserved-clause-agrees : goal.returns-then-is_reserved-clause-agrees
returns-then-is_reserved-clause-agrees c = λ s parameters x stands signature.
    let h = subst (λ (k : Kept). StandsFor k s) (sym c.self.view_is) stands in
    declaration_taken _ s h c.args.signature.name.now parameters (sort_of x) c.in_ok-sort.sort (c.in_ok-sort.ensures parameters x signature)
    (reserved_taken (is_reserved c.args.signature.name.now) (is_known c.self.inside.scope c.args.signature.name.now) c.if-is_reserved.ensures)

pub returns-then-not-new-clause-agrees : goal.returns-then-not-new-clause-agrees
returns-then-not-new-clause-agrees c = λ s parameters x stands signature.
    let h = subst (λ (k : Kept). StandsFor k s) (sym c.self.view_is) stands in
    let was : c.in_ok-new.new ≡ false = grind arith in
    let known = declares_known c.self.inside.scope c.declare.new.self c.args.signature.name.now c.in_ok-sort.sort c.in_ok-new.new c.in_ok-new.ensures.ok was in
    declaration_taken _ s h c.args.signature.name.now parameters (sort_of x) c.in_ok-sort.sort (c.in_ok-sort.ensures parameters x signature)
    (known_taken (is_reserved c.args.signature.name.now) (is_known c.self.inside.scope c.args.signature.name.now) known)

pub invariant_of-self-2 : goal.invariant_of-self-2
invariant_of-self-2 c =
    let count : c.len.result ≡ length c.self.inside.scope.declared = c.len.ensures ∙ ap (λ (ds : List Declaration). length ds) c.names.ensures in
    let few : length c.self.inside.scope.declared < names_limit = omega (arith, count) in
    let is_new : c.in_ok-new.new ≡ true = grind arith in
    let done = declares_new c.self.inside.scope c.declare.new.self c.args.signature.name.now c.in_ok-sort.sort c.in_ok-new.new c.in_ok-new.ensures.ok is_new in
    rw done.1 (kept_declared _ c.args.signature.name.now c.in_ok-sort.sort c.self.invariant few)

pub returns-clause-agrees : goal.returns-clause-agrees
returns-clause-agrees c = λ s parameters x stands signature.
    let h = subst (λ (k : Kept). StandsFor k s) (sym c.self.view_is) stands in
    let count : c.len.result ≡ length c.self.inside.scope.declared = c.len.ensures ∙ ap (λ (ds : List Declaration). length ds) c.names.ensures in
    let few : length c.self.inside.scope.declared < names_limit = omega (arith, count) in
    let is_new : c.in_ok-new.new ≡ true = grind arith in
    let done = declares_new c.self.inside.scope c.declare.new.self c.args.signature.name.now c.in_ok-sort.sort c.in_ok-new.new c.in_ok-new.ensures.ok is_new in
    rw done.1
    (declaration_steps _ s h c.args.signature.name.now parameters (sort_of x) c.in_ok-sort.sort (c.in_ok-sort.ensures parameters x signature)
    (neither_taken (is_reserved c.args.signature.name.now) (is_known c.self.inside.scope c.args.signature.name.now) c.if-is_reserved.ensures done.0) few)
