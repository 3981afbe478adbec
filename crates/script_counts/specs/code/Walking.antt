-- Of the code and not of the meaning: where a walk without answers is between two events, and where it leads.
use Rattle.std.specs.Prelude.{◌≡◌, ℕ, List, [], Some}
use Rattle.smt_script.specs.declared.state.Satisfiability.{Satisfiability}
use Rattle.smt_script.specs.States.{State}
use Rattle.script_walk.specs.Course.{Place, Turn, IsCourseOf}
use Rattle.script_walk.specs.code.Events.{IsReady}
use Rattle.script_walk.specs.code.Standing.{Stands}
use Rattle.script_walk.specs.declared.walk.Walk.{Walk}
use Rattle.script_counts.specs.Counting.{IsLast, last_state}

-- what the course from here on ends in is what the script ends in
pub record IsSoFar (script : List ℕ) (w : Walk) : Type 0 where
  pub here : Place Satisfiability
  pub none : here.left ≡ []
  pub stands : Stands w.state here.state
  pub leads : (turns : List (Turn Satisfiability)) → IsCourseOf (λ verdict. verdict) w.lexer.bytes w.lexer.place here turns
      → (last : State) → last_state turns ≡ Some last → IsLast script last

-- between two events of the walk that began as the first one
pub record IsBetween (first now : Walk) : Type 0 where
  pub ready : IsReady now
  pub bytes : now.lexer.bytes ≡ first.lexer.bytes
  pub so_far : IsSoFar first.lexer.bytes now

-- the walk stands in the script's last state
pub record Leads (script : List ℕ) (w : Walk) : Type 0 where
  pub last : State
  pub stands : Stands w.state last
  pub is : IsLast script last
