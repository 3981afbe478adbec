use Rattle.std.proofs.Common.{subst, List, ℤ, Option}
use Rattle.std.specs.Prelude.{IfSome}
use Rattle.stn_core.specs.Solution.{IsSolution}
use Rattle.book_core.specs.Shared.{lemmas_of}
use Rattle.book_search.proofs.tools.Tools.search.Goals as goal

pub returns-in-Some-clause-justified : goal.returns-in-Some-clause-justified
returns-in-Some-clause-justified c =
    let found : IsSolution c.args.problem.now c.in-Some.schedule = subst (λ (o : Option (List ℤ)). IfSome o (IsSolution c.args.problem.now)) c.in-Some.is c.in_ok-schedule.ensures.found in
    c.found_alone.ensures.finds c.args.problem.now (lemmas_of c.args.lemmas.now) c.args.cube.now found

pub returns-in-Some-2-clause-justified : goal.returns-in-Some-2-clause-justified
returns-in-Some-2-clause-justified c =
    let found : IsSolution c.args.problem.now c.in-Some-2.schedule = subst (λ (o : Option (List ℤ)). IfSome o (IsSolution c.args.problem.now)) c.in-Some-2.is c.in_ok-schedule-2.ensures.found in
    c.found_instead.ensures.finds c.args.problem.now (lemmas_of c.args.lemmas.now) c.args.cube.now c.in_ok-finding.ensures.justified found
