-- The best value of a term over the schedules that satisfy the assertions: the least one. Values are whole numbers of any size.
-- Source: `minimize` is a command of νZ (Bjørner, Phan, Fleckenstein: νZ - An Optimizing SMT Solver, TACAS 2015), and not of
-- SMT-LIB; here a script has one objective at a time, which stands for nothing but the question itself.
use Rattle.std.specs.Prelude.{◌≡◌, List, Option, Some, None, ℤ, ◌≤ℤ◌}
use Rattle.std.specs.List.{AllByRecursion}
use Rattle.smt_sexpr.specs.Tree.{Sexpr}
use Rattle.stn_core.specs.declared.named.NamedValue.{NamedValue}
use Rattle.idl_term.specs.Contexts.{Context, IsScheduleFor, IsTrueOn, IsSatisfiable, environment}
use Rattle.idl_term.specs.Values.{whole, value}

-- a schedule that gives every assertion the value true
abbrev pub Satisfies : Context → List NamedValue → Type 0
Satisfies c schedule = IsScheduleFor c schedule × AllByRecursion (IsTrueOn c schedule) c.assertions

-- the term has this value on the schedule
abbrev pub HasValue : Context → List NamedValue → Option Sexpr → ℤ → Type 0
HasValue c schedule (Some t) m = value (environment c schedule) t ≡ whole m
HasValue c schedule None m = ⊥

-- some schedule that satisfies the assertions gives the term this value, and none that does gives it less
pub record IsBestFor (c : Context) (t : Option Sexpr) (m : ℤ) : Type 0 where
  pub schedule : List NamedValue
  pub satisfies : Satisfies c schedule
  pub attained : HasValue c schedule t m
  pub least : (other : List NamedValue) (n : ℤ) → Satisfies c other → HasValue c other t n → m ≤ℤ n

-- some schedule satisfies the assertions, and no value is best: each has one below it
pub record HasNoBest (c : Context) (t : Option Sexpr) : Type 0 where
  pub satisfiable : IsSatisfiable c
  pub none_best : (m : ℤ) → ¬ IsBestFor c t m
