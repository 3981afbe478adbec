use Rattle.std.proofs.Common.{ℕ, List, subst}
use Rattle.conflict_analysis.specs.declared.entry.Role.{Role}
use Rattle.conflict_analysis.specs.code.Places.{KeepsWaiting}
use Rattle.conflict_analysis.proofs.marking.turn.Goals as goal

pub returns-in_ok-resolve-clause-waiting : goal.returns-in_ok-resolve-clause-waiting
returns-in_ok-resolve-clause-waiting g c =
    let chosen = c.is_to_resolve.ensures in
    let new = c.resolve.new.marks in
    let P : List Role → Type 0 =
    λ rs. KeepsWaiting rs c.is_to_resolve.new.marks.waiting new.roles.items new.waiting in
    let Q : List ℕ → Type 0 =
    λ ws. KeepsWaiting c.args.marks.now.roles.items ws new.roles.items new.waiting in
    subst Q chosen.waiting (subst P chosen.roles c.in_ok-resolve.ensures.waiting)
