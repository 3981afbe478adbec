-- A pair of Int terms by its difference, case by case. These are words of the code, and no part of the meaning.
use Rattle.std.specs.Prelude.{ℕ, List, [], ◌∷◌, ◌++◌, Result}
use Rattle.idl_linear.specs.Differences.{difference_in}
use Rattle.idl_linear.specs.Linear.{LinearValue}
use Rattle.idl_node.specs.Making.{denied, conjoined, disjoined}
use Rattle.idl_node.specs.Nodes.{NodeValue, Placed}
use Rattle.idl_cases.specs.Guarded.{CaseValue}
use Rattle.idl_apply.specs.Comparing.{follows, or_too_large, related_by}
use Rattle.idl_apply.specs.declared.comparing.Relation.{Relation}
use Rattle.idl_apply.specs.declared.error.TermRefusal.{TermRefusal}

-- the pair in a case of its difference: an `or` of the denials of these guards, and of the pair, where these are the members so far
abbrev pub case_related : Relation → List NodeValue → List ℕ → List ℕ → LinearValue → Result Placed TermRefusal
case_related relation nodes members [] l = follows (related_by relation nodes (difference_in l)) (λ p. or_too_large (disjoined p.nodes (members ++ p.number ∷ [])))
case_related relation nodes members (g ∷ guards) l = follows (or_too_large (denied nodes g)) (λ p. case_related relation p.nodes (members ++ p.number ∷ []) guards l)

-- `and` of what is made in each case, in order, where these are the members so far
abbrev pub each_related : Relation → List NodeValue → List ℕ → List CaseValue → Result Placed TermRefusal
each_related relation nodes members [] = or_too_large (conjoined nodes members)
each_related relation nodes members (c ∷ rest) = follows (case_related relation nodes [] c.guards c.linear) (λ q. each_related relation q.nodes (members ++ q.number ∷ []) rest)
