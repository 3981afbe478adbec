-- Scripts of commands that are told of, one question, and `(exit)`, an s-expression to a line.
use Rattle.std.specs.Prelude.{◌≡◌, ℕ, ◌+◌, List, [], ◌∷◌, ◌++◌, drop, length, Some, None, Ok}
use Rattle.smt_sexpr.specs.Tree.{Sexpr}
use Rattle.smt_sexpr.specs.Commands.{Commands, ended}
use Rattle.smt_sexpr.specs.Printing.{IsWritable, EndsSexpr}
use Rattle.smt_script.specs.declared.state.Effect.{Effect}
use Rattle.smt_script.specs.declared.state.Effect.TheVariants.{Ask}
use Rattle.smt_script.specs.declared.state.Question.{Question}
use Rattle.smt_script.specs.declared.state.Satisfiability.{Satisfiability}
use Rattle.smt_script.specs.States.{State, Step, start_state, after}
use Rattle.script_walk.specs.Course.{Place, ends, turn, course, last_of}
use Rattle.script_walk.specs.Questions.{refusal_of}
use Rattle.job_shop.specs.Scripts.{lines_of, exit}

-- ---- lines

-- an s-expression that can be written, and ends where its text does
abbrev pub IsLine : Sexpr → Type 0
IsLine x = IsWritable x × ((rest : List ℕ) → EndsSexpr x rest)

abbrev pub AreLines : List Sexpr → Type 0
AreLines [] = Unit {0}
AreLines (x ∷ xs) = IsLine x × AreLines xs

-- the commands are read from the place on, and a line feed is left
pub record IsRead (bytes : List ℕ) (place : ℕ) (xs : List Sexpr) : Type 0 where
  pub here : ℕ
  pub reads : Commands bytes place xs here
  pub left : drop here bytes ≡ 10 ∷ []

-- ---- commands

abbrev pub step_of : State → Effect → Step
step_of next effect = record { state = next; effect = effect }

-- before the first of some commands, where no answers are left
abbrev pub before_all : State → Place Satisfiability
before_all s = record { number = 1; state = s; held = None; left = [] }

-- The commands are told of, one after the other, and lead from a state to another: their course from the one ends with their text in the other, and its last
-- turn stands behind as many others as there are commands. So none of them is refused, asks or exits.
pub record Tells (s : State) (xs : List Sexpr) (t : State) : Type 0 where
  pub last : Place Satisfiability
  pub is_last : last_of (course (λ verdict. verdict) (before_all s) xs ended) ≡ Some (turn last t ends)
  pub count : last.number ≡ length xs + 1

-- the script has these commands, which are told of and lead to a state, one that asks a question there, and `(exit)`
pub record AsksOnce (script : List ℕ) (done : List Sexpr) (ask : Sexpr) (question : Question) (t : State) : Type 0 where
  pub text : script ≡ lines_of (done ++ (ask ∷ exit ∷ []))
  pub lines : AreLines (done ++ (ask ∷ exit ∷ []))
  pub tells : Tells start_state done t
  pub asks : after t ask ≡ Ok (step_of t (Ask question))
  pub taken : refusal_of question t ask ≡ None
