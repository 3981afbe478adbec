use Rattle.std.proofs.Common.{sym, ap, subst, arith, ◌∙◌, ◌≡◌, ◌≤◌, ◌-◌, ◌^◌, ℕ, length, get_or, Option, Ok}
use Rattle.std.proofs.lemmas.Option.{slice_get-get_or}
use Rattle.std.proofs.lemmas.Bool.Decides.{nat_tests}
use Rattle.smt_script.specs.code.Kept.{Kept, StandsFor, IsKept}
use Rattle.smt_script.specs.code.Shapes.{CountIs, Agrees}
use Rattle.smt_script.specs.States.{after_pop}
use Rattle.smt_script.specs.declared.state.Level.{Level}
use Rattle.smt_script.specs.declared.state.Effect.TheVariants.{Tell}
use Rattle.smt_script.specs.declared.state.Notice.TheVariants.{Success}
use Rattle.smt_script.proofs.Stepping.{pop_refused, pop_stays, pop_steps}
use Rattle.smt_script.proofs.state.State.pop.Goals as goal

pub returns-in-Some-eq0-clause-agrees : goal.returns-in-Some-eq0-clause-agrees
returns-in-Some-eq0-clause-agrees c = λ s n stands is.
    let h = subst (λ (k : Kept). StandsFor k s) (sym c.self.view_is) stands in
    let count : n ≡ c.in-Some-eq0.field-0 = subst (λ (o : Option ℕ). CountIs o n) c.in-Some-eq0.is is in
    let zero : n ≡ 0 = omega (arith, count, c.in-Some-eq0.field-0-test) in
    pop_stays _ s h n c.self.invariant zero

pub returns-in-Some-clause-agrees : goal.returns-in-Some-clause-agrees
returns-in-Some-clause-agrees c = λ s n stands is.
    let count : n ≡ c.in-Some.count = subst (λ (o : Option ℕ). CountIs o n) c.in-Some.is is in
    let inside : c.len-depth.result ≡ length c.self.inside.levels.items = omega (arith, c.len-depth.ensures) in
    let depth : c.len-depth.result ≡ length c.args.self.now.levels = inside ∙ ap (λ (k : Kept). length k.levels) c.self.view_is in
    let few : n ≤ length c.args.self.now.levels = omega (arith, count, depth) in
    let i : ℕ = c.len-depth.result - c.in-Some.count in
    let place : i ≡ length c.args.self.now.levels - n = omega (arith, count, depth) in
    let nothing : Level = record { names = 0; defined = 0; nodes = 0; roots = 0 } in
    let level = get_or c.args.self.now.levels i nothing in
    let at = slice_get-get_or c.args.self.now.levels i nothing (grind (arith, nat_tests, count, depth, c.in-Some.count-test)) in
    let sound = subst (λ (k : Kept). IsKept k) c.self.view_is c.self.invariant in
    subst (λ (k : Kept). Agrees (after_pop s n) k (Ok (Tell Success))) (sym (c.cut.ensures level at)) (pop_steps c.args.self.now s stands n i level sound few place at)

pub returns-in_default-clause-agrees : goal.returns-in_default-clause-agrees
returns-in_default-clause-agrees c = λ s n stands is.
    let count : n ≡ c.in-Some.count = subst (λ (o : Option ℕ). CountIs o n) c.in-Some.is is in
    let inside : c.len-depth.result ≡ length c.self.inside.levels.items = omega (arith, c.len-depth.ensures) in
    let depth : c.len-depth.result ≡ length c.args.self.now.levels = inside ∙ ap (λ (k : Kept). length k.levels) c.self.view_is in
    pop_refused c.args.self.now s stands n (omega (arith, count, depth))

pub returns-in_default-2-clause-agrees : goal.returns-in_default-2-clause-agrees
returns-in_default-2-clause-agrees c = λ s n stands is.
    let big : 2 ^ 64 ≤ n = subst (λ (o : Option ℕ). CountIs o n) c.in_default.is is in
    let inside : c.len-depth.result ≡ length c.self.inside.levels.items = omega (arith, c.len-depth.ensures) in
    let depth : c.len-depth.result ≡ length c.args.self.now.levels = inside ∙ ap (λ (k : Kept). length k.levels) c.self.view_is in
    pop_refused c.args.self.now s stands n (omega (arith, big, depth))
