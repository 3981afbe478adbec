use Rattle.std.proofs.Common.{sym, subst}
use Rattle.smt_script.specs.code.Kept.{Kept, StandsFor}
use Rattle.smt_script.proofs.Settling.{stands_without, some_of}
use Rattle.smt_script.proofs.state.State.ask.Goals as goal

pub returns-then-is_some-clause-state : goal.returns-then-is_some-clause-state
returns-then-is_some-clause-state c = λ s stands.
    let h = subst (λ (k : Kept). StandsFor k s) (sym c.self.view_is) stands in
    let n = some_of c.self.inside.last.assumed c.if-is_some.ensures in
    stands_without _ s h n.0 n.1
