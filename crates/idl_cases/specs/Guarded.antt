-- An Int term as a list of cases (SMT-LIB 2.6, theories Core and Ints: `ite` over Int).
use Rattle.std.specs.Prelude.{ℕ, List, [], ◌∷◌, ◌++◌, map, Option, Some, None}
use Rattle.idl_linear.specs.Linear.{LinearValue}

-- what a term is worth where the nodes of the guards are true
pub record CaseValue : Type 0 where
  pub guards : List ℕ
  pub linear : LinearValue

-- the cases of a term without conditions
abbrev pub plain : LinearValue → List CaseValue
plain l = record { guards = []; linear = l } ∷ []

abbrev pub unguarded : List ℕ → LinearValue → Option LinearValue
unguarded [] l = Some l
unguarded (g ∷ gs) l = None

-- the linear term of a term without conditions
abbrev pub plain_linear : List CaseValue → Option LinearValue
plain_linear (case ∷ []) = unguarded case.guards case.linear
plain_linear _ = None

-- one more guard, before a case's own
abbrev pub guarded : ℕ → CaseValue → CaseValue
guarded g case = record { guards = g ∷ case.guards; linear = case.linear }

-- `ite`: the cases of the first term where the condition's node is true, and then those of the second where the denial's is
abbrev pub branched : ℕ → ℕ → List CaseValue → List CaseValue → List CaseValue
branched condition denial a b = map (guarded condition) a ++ map (guarded denial) b
