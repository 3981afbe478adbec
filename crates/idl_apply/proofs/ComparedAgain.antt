-- What is made of a pair of Int terms once is found again in each longer table.
use Rattle.std.proofs.Common.{refl, ap, ◌∙◌, ◌≡◌, ◌*◌, ◌<◌, ℕ, List, [], ◌∷◌, ◌++◌, length, map, Bool, true, false, Option, Some, None}
use Rattle.std.specs.Prelude.{Result, Ok, Err}
use Rattle.std.specs.List.{AllByRecursion}
use Rattle.idl_linear.specs.declared.difference.Difference.{Difference}
use Rattle.idl_linear.specs.declared.error.DifferenceRefusal.{DifferenceRefusal}
use Rattle.idl_linear.specs.Differences.{difference_of}
use Rattle.idl_linear.specs.Linear.{LinearValue}
use Rattle.idl_node.specs.Making.{then, denied, conjoined, disjoined}
use Rattle.idl_node.specs.Nodes.{NodeValue, atom, conjunction, disjunction, Placed, placed}
use Rattle.idl_node.specs.code.Repeats.{IsFront}
use Rattle.idl_node.proofs.Settling.{Repeats, placed_repeats, then_repeats, denied_repeats, conjoined_repeats, disjoined_repeats}
use Rattle.idl_node.proofs.Steps.{front_on}
use Rattle.idl_cases.specs.Guarded.{CaseValue}
use Rattle.idl_cases.specs.code.GuardBounds.{AreGuardsBelow}
use Rattle.idl_apply.specs.Choices.{are_few, where_few}
use Rattle.idl_apply.specs.Comparing.{at_most, below, at_least, above, follows, or_too_large, related, related_by, compared, case_compared, both_cases, case_pairs, each_case_compared, cases_compared}
use Rattle.idl_apply.specs.declared.comparing.Relation.{Relation}
use Rattle.idl_apply.specs.declared.comparing.Relation.TheVariants.{AtMost, Less, AtLeast, Greater, Equal, Distinct}
use Rattle.idl_apply.specs.declared.error.TermRefusal.{TermRefusal}

-- a making with a refusal, which gives the same again, from a table that begins with the base on
abbrev pub GivesAgain : List NodeValue → (List NodeValue → Result Placed TermRefusal) → Type 0
GivesAgain base make = (nodes : List NodeValue) (p : Placed) → IsFront base nodes → make nodes ≡ Ok p
    → IsFront nodes p.nodes × ((later : List NodeValue) → IsFront p.nodes later → make later ≡ Ok (record { nodes = later; number = p.number }))

module _ (base : List NodeValue) where
  placed_by_call : (made : Option Placed) (p : Placed) → or_too_large made ≡ Ok p → made ≡ Some p
  placed_by_call (Some q) p e = cc
  placed_by_call None p e = absurd cc

  node_again : (make : List NodeValue → Option Placed) → Repeats base make → GivesAgain base (λ (nodes : List NodeValue). or_too_large (make nodes))
  node_again make repeats nodes p f e =
      let found = repeats nodes p f (placed_by_call (make nodes) p e) in
      (found.0, λ later g. ap or_too_large (found.1 later g))

  -- the result on the way
  record IsFollowed (first : Result Placed TermRefusal) (next : Placed → Result Placed TermRefusal) (q : Placed) : Type 0 where
    middle : Placed
    begins : first ≡ Ok middle
    goes_on : next middle ≡ Ok q

  followed : (first : Result Placed TermRefusal) (next : Placed → Result Placed TermRefusal) (q : Placed) → follows first next ≡ Ok q → IsFollowed first next q
  followed (Ok p) next q e = record { middle = p; begins = refl; goes_on = e }
  followed (Err why) next q e = absurd cc

  follows_again : (first : List NodeValue → Result Placed TermRefusal) (next : Placed → Result Placed TermRefusal) → GivesAgain base first
      → ((k : ℕ) → GivesAgain base (λ (nodes : List NodeValue). next (record { nodes = nodes; number = k }))) → GivesAgain base (λ (nodes : List NodeValue). follows (first nodes) next)
  follows_again first next one two nodes q f e =
      let t = followed (first nodes) next q e in
      let p : Placed = t.middle in
      let before = one nodes p f t.begins in
      let behind = two p.number p.nodes q (front_on base nodes p.nodes f before.0) t.goes_on in (
        front_on nodes p.nodes q.nodes before.0 behind.0,
        λ later g. ap (λ (o : Result Placed TermRefusal). follows o next) (before.1 later (front_on p.nodes q.nodes later behind.0 g)) ∙ behind.1 later g,
      )

  -- ---- linear terms

  related_repeats : (relation : Relation) (d : Difference) → Repeats base (λ (nodes : List NodeValue). related nodes relation d)
  related_repeats AtMost d = placed_repeats base (atom (at_most d))
  related_repeats Less d = placed_repeats base (atom (below d))
  related_repeats AtLeast d = placed_repeats base (atom (at_least d))
  related_repeats Greater d = placed_repeats base (atom (above d))
  related_repeats Equal d =
      then_repeats base (λ (nodes : List NodeValue). placed nodes (atom (at_most d))) (λ (p : Placed). (then) (placed p.nodes (atom (at_least d))) (λ (q : Placed). placed q.nodes (conjunction (p.number ∷ q.number ∷ []))))
      (placed_repeats base (atom (at_most d)))
      (λ k. then_repeats base (λ (nodes : List NodeValue). placed nodes (atom (at_least d))) (λ (q : Placed). placed q.nodes (conjunction (k ∷ q.number ∷ []))) (placed_repeats base (atom (at_least d))) (λ m. placed_repeats base (conjunction (k ∷ m ∷ []))))
  related_repeats Distinct d =
      then_repeats base (λ (nodes : List NodeValue). placed nodes (atom (below d))) (λ (p : Placed). (then) (placed p.nodes (atom (above d))) (λ (q : Placed). placed q.nodes (disjunction (p.number ∷ q.number ∷ []))))
      (placed_repeats base (atom (below d)))
      (λ k. then_repeats base (λ (nodes : List NodeValue). placed nodes (atom (above d))) (λ (q : Placed). placed q.nodes (disjunction (k ∷ q.number ∷ []))) (placed_repeats base (atom (above d))) (λ m. placed_repeats base (disjunction (k ∷ m ∷ []))))

  related_again : (relation : Relation) (d : Result Difference DifferenceRefusal) → GivesAgain base (λ (nodes : List NodeValue). related_by relation nodes d)
  related_again relation (Ok d) = node_again (λ (nodes : List NodeValue). related nodes relation d) (related_repeats relation d)
  related_again relation (Err why) = λ nodes p f e. absurd cc

  linears_again : (relation : Relation) (a b : LinearValue) → GivesAgain base (λ (nodes : List NodeValue). compared relation nodes a b)
  linears_again relation a b = related_again relation (difference_of a b)

  -- ---- cases

  case_again : (relation : Relation) (guards members : List ℕ) (a b : LinearValue) → AllByRecursion (λ g. g < length base) guards → GivesAgain base (λ (nodes : List NodeValue). case_compared relation nodes members guards a b)
  case_again relation [] members a b h =
      follows_again (λ (nodes : List NodeValue). compared relation nodes a b) (λ (p : Placed). or_too_large (disjoined p.nodes (members ++ p.number ∷ []))) (linears_again relation a b)
      (λ k. node_again (λ (nodes : List NodeValue). disjoined nodes (members ++ k ∷ [])) (disjoined_repeats base (members ++ k ∷ [])))
  case_again relation (g ∷ guards) members a b h =
      follows_again (λ (nodes : List NodeValue). or_too_large (denied nodes g)) (λ (p : Placed). case_compared relation p.nodes (members ++ p.number ∷ []) guards a b)
      (node_again (λ (nodes : List NodeValue). denied nodes g) (denied_repeats base g h.0)) (λ k. case_again relation guards (members ++ k ∷ []) a b h.1)

  -- the guards of a pair
  abbrev Guards : CaseValue × CaseValue → Type 0
  Guards p = AllByRecursion (λ g. g < length base) (p.0.guards ++ p.1.guards)

  both_lists : (gs hs : List ℕ) → AllByRecursion (λ g. g < length base) gs → AllByRecursion (λ g. g < length base) hs → AllByRecursion (λ g. g < length base) (gs ++ hs)
  both_lists [] hs h i = i
  both_lists (g ∷ gs) hs h i = (h.0, both_lists gs hs h.1 i)

  with_one : (a : CaseValue) (seconds : List CaseValue) (rest : List (CaseValue × CaseValue)) → AllByRecursion (λ g. g < length base) a.guards → AreGuardsBelow (length base) seconds → AllByRecursion Guards rest
      → AllByRecursion Guards (map (λ (b : CaseValue). (a, b)) seconds ++ rest)
  with_one a [] rest h i j = j
  with_one a (b ∷ seconds) rest h i j = (both_lists a.guards b.guards h i.0, with_one a seconds rest h i.1 j)

  all_pairs : (a b : List CaseValue) → AreGuardsBelow (length base) a → AreGuardsBelow (length base) b → AllByRecursion Guards (case_pairs a b)
  all_pairs [] b h i = tt
  all_pairs (c ∷ a) b h i = with_one c b (case_pairs a b) h.0 i (all_pairs a b h.1 i)

  each_again : (relation : Relation) (ps : List (CaseValue × CaseValue)) (members : List ℕ) → AllByRecursion Guards ps → GivesAgain base (λ (nodes : List NodeValue). each_case_compared relation nodes members ps)
  each_again relation [] members h = node_again (λ (nodes : List NodeValue). conjoined nodes members) (conjoined_repeats base members)
  each_again relation (p ∷ rest) members h =
      follows_again (λ (nodes : List NodeValue). both_cases relation nodes p) (λ (q : Placed). each_case_compared relation q.nodes (members ++ q.number ∷ []) rest)
      (case_again relation (p.0.guards ++ p.1.guards) [] p.0.linear p.1.linear h.0) (λ k. each_again relation rest (members ++ k ∷ []) h.1)

  few_again : (count : ℕ) (few : Bool) (make : List NodeValue → Result Placed TermRefusal) → are_few count ≡ few → GivesAgain base make → GivesAgain base (λ (nodes : List NodeValue). where_few count (make nodes))
  few_again count true make t again = rw t again
  few_again count false make t again = rw t (λ nodes p f e. absurd cc)

  -- a pair of terms whose guards are in the base
  pub compared_again : (relation : Relation) (a b : List CaseValue) → AreGuardsBelow (length base) a → AreGuardsBelow (length base) b → GivesAgain base (λ (nodes : List NodeValue). cases_compared relation nodes a b)
  compared_again relation a b h i =
      few_again (length a * length b) (are_few (length a * length b)) (λ (nodes : List NodeValue). each_case_compared relation nodes [] (case_pairs a b)) refl (each_again relation (case_pairs a b) [] (all_pairs a b h i))
