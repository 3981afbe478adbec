-- How much a script has declared and asserted before its first question (SMT-LIB 2.6, section 4.2.5).
use Rattle.std.specs.Prelude.{◌≡◌, ℕ, List, [], Option, Some, length, option_map}
use Rattle.smt_script.specs.declared.state.Satisfiability.{Satisfiability}
use Rattle.smt_script.specs.States.{State}
use Rattle.script_walk.specs.Course.{start_with, Turn, IsCourseOf, last_of}
use Rattle.dtp_entry.specs.Entries.{problem_of}
use Rattle.script_counts.specs.declared.counting.ScriptCounts.{ScriptCounts}

-- the state behind the last of these turns, where it ends them
abbrev pub last_state : List (Turn Satisfiability) → Option State
last_state turns = option_map (λ (t : Turn Satisfiability). t.state) (last_of turns)

-- Without answers the course of a script ends at its first question, or where the script ends before it: the state there.
pub record IsLast (script : List ℕ) (last : State) : Type 0 where
  pub turns : List (Turn Satisfiability)
  pub are : IsCourseOf (λ verdict. verdict) script 0 (start_with []) turns
  pub is_last : last_state turns ≡ Some last

-- the names that are active there, and the clauses of the assertions' problem
pub record AreCounts (script : List ℕ) (counts : ScriptCounts) : Type 0 where
  pub last : State
  pub leads : IsLast script last
  pub names : counts.names ≡ length last.context.declared
  pub clauses : counts.clauses ≡ length (problem_of last.context)
