-- What is minimized, and why a minimized term is refused. SMT-LIB has no `minimize`: its form is that of the optimizing solvers
-- (Bjørner, Phan, Fleckenstein 2015: νZ), and the answer is this project's own.
use Rattle.std.specs.Prelude.{◌≡◌, ◌+◌, ◌<◌, List, length, Option, Some, None, Result, Ok, Err, ℤ, pos, neg_ℤ, ◌+ℤ◌, ◌-ℤ◌, ◌≤ℤ◌}
use Rattle.smt_sexpr.specs.Tree.{Sexpr}
use Rattle.stn_core.specs.Literal.{value_at}
use Rattle.stn_core.specs.declared.named.NamedValue.{NamedValue}
use Rattle.idl_linear.specs.Differences.{difference_of}
use Rattle.idl_linear.specs.Limits.{number_limit}
use Rattle.idl_linear.specs.Linear.{LinearValue, number_alone}
use Rattle.idl_linear.specs.declared.difference.Difference.{Difference}
use Rattle.idl_linear.specs.declared.error.DifferenceRefusal.{DifferenceRefusal}
use Rattle.idl_node.specs.Sorts.{IsIntPoint}
use Rattle.idl_node.specs.Truth.{point_values}
use Rattle.idl_cases.specs.Guarded.{plain_linear}
use Rattle.idl_apply.specs.Applied.{Made}
use Rattle.idl_apply.specs.Comparing.{refusal_of}
use Rattle.idl_term.specs.Contexts.{Context, IsScheduleFor, environment}
use Rattle.idl_term.specs.Scopes.{LoweredTerm, formula, numeric, sorts_of}
use Rattle.idl_term.specs.Values.{whole, value}
use Rattle.idl_apply.specs.declared.error.TermRefusal.{TermRefusal}
use Rattle.idl_apply.specs.declared.error.TermRefusal.TheVariants.{WrongSort}
use Rattle.smt_script.specs.declared.error.LeftOutCommand.TheVariants.{Ite}
use Rattle.smt_script.specs.declared.error.Refusal.{Refusal}
use Rattle.smt_script.specs.declared.error.Refusal.TheVariants.{LeftOut, Term}
use Rattle.smt_script.specs.declared.objective.Objective.{Objective}

-- a term that is compared with 0 as x - y is compared with n has the value x - y - n
abbrev pub objective : Difference → Objective
objective d = record { x = d.x; y = d.y; k = neg_ℤ d.n }

abbrev pub objective_by : Result Difference DifferenceRefusal → Result Objective Refusal
objective_by (Ok d) = Ok (objective d)
objective_by (Err why) = Err (Term (refusal_of why))

-- a term without conditions is refused where its comparison with 0 is
abbrev pub objective_of_linear : Option LinearValue → Result Objective Refusal
objective_of_linear None = Err (LeftOut Ite)
objective_of_linear (Some l) = objective_by (difference_of l (number_alone (pos 0)))

abbrev pub objective_of : LoweredTerm → Result Objective Refusal
objective_of (formula k) = Err (Term WrongSort)
objective_of (numeric cases) = objective_of_linear (plain_linear cases)

-- what is minimized, by what the term is made into
abbrev pub minimized_by : Result Made TermRefusal → Result Objective Refusal
minimized_by (Err why) = Err (Term why)
minimized_by (Ok made) = objective_of made.is

-- ---- what an objective is worth

-- x - y + k, where the time points have these values
abbrev pub objective_value : List ℤ → Objective → ℤ
objective_value values o = (value_at values o.x -ℤ value_at values o.y) +ℤ o.k

-- the term's value is the objective's on every schedule; its points are the zero point or Int names' points, and its number is
-- within its limit
pub record IsObjectiveOf (c : Context) (t : Sexpr) (o : Objective) : Type 0 where
  pub x_in : IsIntPoint (sorts_of c.declared) o.x
  pub y_in : IsIntPoint (sorts_of c.declared) o.y
  pub x_below : o.x < length c.declared + 1
  pub y_below : o.y < length c.declared + 1
  pub low : neg_ℤ (pos number_limit) ≤ℤ o.k
  pub high : o.k ≤ℤ pos number_limit
  pub worth : (schedule : List NamedValue) → IsScheduleFor c schedule
      → value (environment c schedule) t ≡ whole (objective_value (point_values schedule) o)
