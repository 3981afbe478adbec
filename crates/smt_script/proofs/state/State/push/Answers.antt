use Rattle.std.proofs.Common.{sym, ap, subst, arith, ◌∙◌, ◌≡◌, ◌<◌, ◌≤◌, ◌+◌, ℕ, List, length, Option}
use Rattle.std.specs.Vec.{vec_len}
use Rattle.idl_term.specs.Scopes.{Declaration}
use Rattle.smt_script.specs.code.Kept.{Kept, StandsFor}
use Rattle.smt_script.specs.code.Shapes.{CountIs}
use Rattle.smt_script.proofs.Keeping.{level_is, pushed_is, kept_pushed}
use Rattle.smt_script.proofs.Stepping.{push_refused, push_steps}
use Rattle.smt_script.proofs.state.State.push.Goals as goal

pub returns-then-depth-gt-LEVELS_LIMIT-clause-agrees : goal.returns-then-depth-gt-LEVELS_LIMIT-clause-agrees
returns-then-depth-gt-LEVELS_LIMIT-clause-agrees c = λ s n stands is.
    let h = subst (λ (k : Kept). StandsFor k s) (sym c.self.view_is) stands in
    let count : n ≡ c.in-Some.count = subst (λ (o : Option ℕ). CountIs o n) c.in-Some.is is in
    let many : 65536 < length c.self.inside.levels.items + n = omega (arith, count, c.len.ensures, c.saturating_add-depth.ensures) in
    push_refused _ s h n many

pub invariant_of-self-2 : goal.invariant_of-self-2
invariant_of-self-2 c =
    let depth : c.saturating_add-depth.result ≡ length c.self.inside.levels.items + c.in-Some.count = omega (arith, c.len.ensures, c.saturating_add-depth.ensures) in
    let roots : c.len-4.result ≡ length c.self.inside.roots.items = omega (arith, c.len-4.ensures) in
    let level = level_is c.self.inside.scope c.self.inside.nodes c.self.inside.roots.items c.len-2.result c.defined.result c.len-3.result c.len-4.result (c.len-2.ensures ∙ ap (λ (ds : List Declaration). length ds) c.names.ensures) c.defined.ensures c.len-3.ensures.count roots in
    rw (c.in_ok-resize.ensures.items, pushed_is c.self.inside.levels.items (vec_len c.self.inside.levels) c.in-Some.count c.saturating_add-depth.result _ _ (omega arith) depth level) (kept_pushed _ c.in-Some.count c.self.invariant)

pub returns-clause-agrees : goal.returns-clause-agrees
returns-clause-agrees c = λ s n stands is.
    let h = subst (λ (k : Kept). StandsFor k s) (sym c.self.view_is) stands in
    let count : n ≡ c.in-Some.count = subst (λ (o : Option ℕ). CountIs o n) c.in-Some.is is in
    let depth : c.saturating_add-depth.result ≡ length c.self.inside.levels.items + n = omega (arith, count, c.len.ensures, c.saturating_add-depth.ensures) in
    let few : length c.self.inside.levels.items + n ≤ 65536 = omega (arith, depth) in
    let roots : c.len-4.result ≡ length c.self.inside.roots.items = omega (arith, c.len-4.ensures) in
    let level = level_is c.self.inside.scope c.self.inside.nodes c.self.inside.roots.items c.len-2.result c.defined.result c.len-3.result c.len-4.result (c.len-2.ensures ∙ ap (λ (ds : List Declaration). length ds) c.names.ensures) c.defined.ensures c.len-3.ensures.count roots in
    rw (c.in_ok-resize.ensures.items, pushed_is c.self.inside.levels.items (vec_len c.self.inside.levels) n c.saturating_add-depth.result _ _ (omega arith) depth level) (push_steps _ s h n c.self.invariant few)
