-- What is active goes on coming about by declarations, definitions and assertions.
use Rattle.smt_sexpr.specs.Tree.{Sexpr}
use Rattle.smt_script.specs.declared.state.Effect.{Effect}
use Rattle.smt_script.specs.code.Kept.{Kept, Steps}
use Rattle.smt_script.specs.Laws.{StepMade}
use Rattle.smt_script.specs.States.{State, IsMadeState}
use Rattle.script_walk.specs.code.Standing.{Stands}

pub stands_after : StepMade → (s : State) (x : Sexpr) (effect : Effect) (kept : Kept) (h : Steps s x effect kept) → IsMadeState s → Stands kept h.state
stands_after law s x effect kept h made = record { stands = h.stands; made = law s x (record { state = h.state; effect = effect }) made h.leads }
