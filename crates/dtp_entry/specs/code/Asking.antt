-- What is known of a question that a command asks. These are words of the code's contracts, and no part of the meaning.
use Rattle.std.specs.Prelude.{◌≡◌, Some}
use Rattle.smt_sexpr.specs.Tree.{Sexpr}
use Rattle.idl_term.specs.Contexts.{Context}
use Rattle.smt_script.specs.declared.state.Question.{Question}
use Rattle.smt_script.specs.declared.state.Question.TheVariants.{CheckSat, Minimize}
use Rattle.smt_script.specs.Commands.{minimized}
use Rattle.smt_script.specs.Objectives.{IsObjectiveOf}

-- the term that command x minimizes is worth the question's objective
abbrev pub IsAskedBy : Question → Sexpr → Context → Type 0
IsAskedBy CheckSat x c = Unit {0}
IsAskedBy (Minimize o) x c = (t : Sexpr) × (minimized x ≡ Some t) × IsObjectiveOf c t o
