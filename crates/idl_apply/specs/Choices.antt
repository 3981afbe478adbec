-- One case of each of several Int terms: what they are worth together, where the guards of all of these cases are true.
use Rattle.std.specs.Prelude.{ℕ, ◌*◌, List, [], ◌∷◌, ◌++◌, map, length, Bool, nat_le, if◌then◌else◌, Result, Err}
use Rattle.idl_linear.specs.Linear.{LinearValue}
use Rattle.idl_cases.specs.Guarded.{CaseValue}
use Rattle.idl_cases.specs.Limits.{cases_limit}
use Rattle.idl_apply.specs.declared.error.TermRefusal.{TermRefusal}
use Rattle.idl_apply.specs.declared.error.TermRefusal.TheVariants.{TooManyCases}

pub record Choice : Type 0 where
  pub guards : List ℕ
  -- of each term, in order
  pub linears : List LinearValue

abbrev pub no_choice : Choice
no_choice = record { guards = []; linears = [] }

-- a case of one more term, behind those of the terms before it
abbrev pub with_case : Choice → CaseValue → Choice
with_case choice case = record { guards = choice.guards ++ case.guards; linears = choice.linears ++ case.linear ∷ [] }

-- the choices so far outside, the cases of one more term inside
abbrev pub with_term : List Choice → List CaseValue → List Choice
with_term [] cases = []
with_term (choice ∷ rest) cases = map (with_case choice) cases ++ with_term rest cases

abbrev pub choices_from : List Choice → List (List CaseValue) → List Choice
choices_from so_far [] = so_far
choices_from so_far (cases ∷ rest) = choices_from (with_term so_far cases) rest

-- from left to right
abbrev pub choices : List (List CaseValue) → List Choice
choices terms = choices_from (no_choice ∷ []) terms

-- how many choices there are: so many for each of these so far
abbrev pub count_from : ℕ → List (List CaseValue) → ℕ
count_from so_far [] = so_far
count_from so_far (cases ∷ rest) = count_from (so_far * length cases) rest

abbrev pub are_few : ℕ → Bool
are_few count = nat_le count cases_limit

-- what is made of so many cases, where they aren't too many
abbrev pub where_few : {A : Type 0} → ℕ → Result A TermRefusal → Result A TermRefusal
where_few count made = if are_few count then made else Err TooManyCases

-- a choice of linear terms alone
abbrev pub only_choice : List LinearValue → List Choice
only_choice ls = record { guards = []; linears = ls } ∷ []
