-- The nodes of comparisons of whole numbers (SMT-LIB 2.6, theory Ints), as bounds on differences of time points
-- (Dechter, Meiri, Pearl 1991, section 3).
use Rattle.std.specs.Prelude.{ℕ, ◌*◌, List, [], ◌∷◌, ◌++◌, map, length, Option, Some, None, Result, Ok, Err, pos, neg_ℤ, ◌-ℤ◌}
use Rattle.stn_core.specs.declared.literal.Literal.{Literal}
use Rattle.idl_linear.specs.declared.difference.Difference.{Difference}
use Rattle.idl_linear.specs.declared.error.DifferenceRefusal.{DifferenceRefusal}
use Rattle.idl_linear.specs.declared.error.DifferenceRefusal.TheVariants as difference
use Rattle.idl_linear.specs.Differences.{difference_of}
use Rattle.idl_linear.specs.Linear.{LinearValue}
use Rattle.idl_node.specs.Making.{then, denied, conjoined, disjoined, neighbours, pairs}
use Rattle.idl_node.specs.Nodes.{NodeValue, atom, conjunction, disjunction, Placed, placed}
use Rattle.idl_cases.specs.Guarded.{CaseValue}
use Rattle.idl_apply.specs.Choices.{where_few}
use Rattle.idl_apply.specs.declared.comparing.Relation.{Relation}
use Rattle.idl_apply.specs.declared.comparing.Relation.TheVariants.{AtMost, Less, AtLeast, Greater, Equal, Distinct}
use Rattle.idl_apply.specs.declared.error.TermRefusal.{TermRefusal}
use Rattle.idl_apply.specs.declared.error.TermRefusal.TheVariants.{TooLarge, NotADifference, BoundTooLarge}

-- one result, and what follows from it; the first refusal counts
abbrev pub follows : {A B : Type 0} → Result A TermRefusal → (A → Result B TermRefusal) → Result B TermRefusal
follows (Ok a) next = next a
follows (Err why) next = Err why

-- there is no room in the table
abbrev pub or_too_large : Option Placed → Result Placed TermRefusal
or_too_large (Some p) = Ok p
or_too_large None = Err TooLarge

-- x - y is at most n, or at least n; both also strictly
abbrev pub at_most : Difference → Literal
at_most d = record { x = d.x; y = d.y; c = d.n }

abbrev pub below : Difference → Literal
below d = record { x = d.x; y = d.y; c = d.n -ℤ pos 1 }

abbrev pub at_least : Difference → Literal
at_least d = record { x = d.y; y = d.x; c = neg_ℤ d.n }

abbrev pub above : Difference → Literal
above d = record { x = d.y; y = d.x; c = neg_ℤ d.n -ℤ pos 1 }

-- the difference d.x - d.y stands in the relation to the number d.n
abbrev pub related : List NodeValue → Relation → Difference → Option Placed
related nodes AtMost d = placed nodes (atom (at_most d))
related nodes Less d = placed nodes (atom (below d))
related nodes AtLeast d = placed nodes (atom (at_least d))
related nodes Greater d = placed nodes (atom (above d))
related nodes Equal d = then (placed nodes (atom (at_most d))) (λ p. then (placed p.nodes (atom (at_least d))) (λ q. placed q.nodes (conjunction (p.number ∷ q.number ∷ []))))
related nodes Distinct d = then (placed nodes (atom (below d))) (λ p. then (placed p.nodes (atom (above d))) (λ q. placed q.nodes (disjunction (p.number ∷ q.number ∷ []))))

abbrev pub refusal_of : DifferenceRefusal → TermRefusal
refusal_of difference.NotADifference = NotADifference
refusal_of difference.BoundTooLarge = BoundTooLarge

abbrev pub related_by : Relation → List NodeValue → Result Difference DifferenceRefusal → Result Placed TermRefusal
related_by relation nodes (Ok d) = or_too_large (related nodes relation d)
related_by relation nodes (Err why) = Err (refusal_of why)

-- a pair of linear terms
abbrev pub compared : Relation → List NodeValue → LinearValue → LinearValue → Result Placed TermRefusal
compared relation nodes a b = related_by relation nodes (difference_of a b)

-- the pair in a case of each of its terms, where the guards of both cases are true: an `or` of the denials of these guards, and
-- of the pair, where these are the members so far
abbrev pub case_compared : Relation → List NodeValue → List ℕ → List ℕ → LinearValue → LinearValue → Result Placed TermRefusal
case_compared relation nodes members [] a b = follows (compared relation nodes a b) (λ p. or_too_large (disjoined p.nodes (members ++ p.number ∷ [])))
case_compared relation nodes members (g ∷ guards) a b = follows (or_too_large (denied nodes g)) (λ p. case_compared relation p.nodes (members ++ p.number ∷ []) guards a b)

abbrev pub both_cases : Relation → List NodeValue → CaseValue × CaseValue → Result Placed TermRefusal
both_cases relation nodes p = case_compared relation nodes [] (p.0.guards ++ p.1.guards) p.0.linear p.1.linear

-- the cases of the first term outside, those of the second inside
abbrev pub case_pairs : List CaseValue → List CaseValue → List (CaseValue × CaseValue)
case_pairs [] seconds = []
case_pairs (a ∷ rest) seconds = map (λ b. (a, b)) seconds ++ case_pairs rest seconds

-- `and` of what is made of each, in order, where these are the members so far
abbrev pub each_case_compared : Relation → List NodeValue → List ℕ → List (CaseValue × CaseValue) → Result Placed TermRefusal
each_case_compared relation nodes members [] = or_too_large (conjoined nodes members)
each_case_compared relation nodes members (p ∷ rest) = follows (both_cases relation nodes p) (λ q. each_case_compared relation q.nodes (members ++ q.number ∷ []) rest)

-- A pair of Int terms. Of two terms without conditions it is the pair of their linear terms: an `and` and an `or` of one
-- member are that member.
abbrev pub cases_compared : Relation → List NodeValue → List CaseValue → List CaseValue → Result Placed TermRefusal
cases_compared relation nodes a b = where_few (length a * length b) (each_case_compared relation nodes [] (case_pairs a b))

-- `and` of what is made of each pair, in order, where these are the members so far
abbrev pub each_compared : Relation → List NodeValue → List ℕ → List (List CaseValue × List CaseValue) → Result Placed TermRefusal
each_compared relation nodes members [] = or_too_large (conjoined nodes members)
each_compared relation nodes members (p ∷ rest) = follows (cases_compared relation nodes p.0 p.1) (λ q. each_compared relation q.nodes (members ++ q.number ∷ []) rest)

-- `distinct` compares all pairs, the others compare neighbours
abbrev pub compared_pairs : Relation → List (List CaseValue) → List (List CaseValue × List CaseValue)
compared_pairs AtMost terms = neighbours terms
compared_pairs Less terms = neighbours terms
compared_pairs AtLeast terms = neighbours terms
compared_pairs Greater terms = neighbours terms
compared_pairs Equal terms = neighbours terms
compared_pairs Distinct terms = pairs terms

abbrev pub all_compared : Relation → List NodeValue → List (List CaseValue) → Result Placed TermRefusal
all_compared relation nodes terms = each_compared relation nodes [] (compared_pairs relation terms)
