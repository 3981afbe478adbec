-- What cases of an Int term are worth, by the table and the values of the time points.
use Rattle.std.specs.Prelude.{◌≡◌, ◌<◌, ℕ, suc, List, [], ◌∷◌, length, Bool, if◌then◌else◌, ℤ, pos}
use Rattle.std.specs.List.{AllByRecursion, list_all}
use Rattle.idl_linear.specs.declared.summand.Summand.{Summand}
use Rattle.idl_linear.specs.Forms.{IsLinear}
use Rattle.idl_linear.specs.Linear.{LinearValue}
use Rattle.idl_linear.specs.Values.{linear_value}
use Rattle.idl_node.specs.declared.sort.Sort.{Sort}
use Rattle.idl_node.specs.Nodes.{NodeValue}
use Rattle.idl_node.specs.Sorts.{IsIntPoint}
use Rattle.idl_node.specs.Truth as node
use Rattle.idl_cases.specs.Guarded.{CaseValue}
use Rattle.idl_scope.specs.Scopes.{LoweredTerm, formula, numeric}

-- the guards of a case are true
abbrev pub holds : List NodeValue → List ℤ → CaseValue → Bool
holds nodes values case = list_all (node.truth nodes values) case.guards

-- how many cases there are whose guards are true
abbrev pub holding : List NodeValue → List ℤ → List CaseValue → ℕ
holding nodes values [] = 0
holding nodes values (case ∷ cases) = if holds nodes values case then suc (holding nodes values cases) else holding nodes values cases

-- the value of an Int term is that of the case whose guards are true
abbrev pub cases_value : List NodeValue → List ℤ → List CaseValue → ℤ
cases_value nodes values [] = pos 0
cases_value nodes values (case ∷ cases) = if holds nodes values case then linear_value values case.linear else cases_value nodes values cases

-- a linear term over Int names' time points, within the limits
pub record IsLinearFor (sorts : List Sort) (l : LinearValue) : Type 0 where
  pub linear : IsLinear l
  pub points : AllByRecursion (λ (s : Summand). IsIntPoint sorts s.point) l.summands

-- its guards are in the table
pub record IsCaseIn (sorts : List Sort) (nodes : List NodeValue) (case : CaseValue) : Type 0 where
  pub guards : AllByRecursion (λ g. g < length nodes) case.guards
  pub linear : IsLinearFor sorts case.linear

-- cases of which, on any values of the time points, the guards of exactly one are true
pub record AreCasesIn (sorts : List Sort) (nodes : List NodeValue) (cases : List CaseValue) : Type 0 where
  pub each : AllByRecursion (IsCaseIn sorts nodes) cases
  pub one : (values : List ℤ) → holding nodes values cases ≡ 1

-- a node of the table, or cases over it and the Int names
abbrev pub IsTermIn : List Sort → List NodeValue → LoweredTerm → Type 0
IsTermIn sorts nodes (formula k) = k < length nodes
IsTermIn sorts nodes (numeric cases) = AreCasesIn sorts nodes cases
