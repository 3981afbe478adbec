-- Of the code and not of the meaning: how clauses are found by hash, which lemmas are carried by computing, and their steps by two
-- tables of numbers.
use Rattle.std.specs.Prelude.{◌≡◌, ◌+◌, ℕ, Bool, true, ◌&&◌, nat_lt, is_some, List, [], ◌∷◌, ◌++◌, map, Option, Some, None, unwrap_or, slice_get, slice_index_or}
use Rattle.std.specs.List.{list_all}
use Rattle.std.specs.HashMap.{HashMap, get}
use denote.Ref.{Bor}
use lib.Pointwise.{pointwise}
use Rattle.stn_core.specs.declared.literal.Literal.{Literal}
use Rattle.stn_core.specs.Literal.{same_literal}
use Rattle.refute_tree.specs.declared.step.Step.{Step}
use Rattle.refute_tree.specs.declared.step.Step.TheVariants.{Cycle, Input, Lemma as Earlier, Clash, Either}
use Rattle.refute_tree.specs.declared.lemma.Lemma.{Lemma}
use Rattle.refute_tree.specs.Batches.{LemmaRefersBelow}
use Rattle.carried_lemmas.specs.Carried.{IsEqualAt}

abbrev pub same_clause : Bor (List Literal) → Bor (List Literal) → Bool
same_clause a b = pointwise same_literal a.now b.now

-- the map has of each clause the number of the first that equals it
abbrev pub HasFirsts : {S : Type 0} → List (List Literal) → HashMap (Bor (List Literal)) ℕ S → Type 0
HasFirsts clauses firsts = (clause : Bor (List Literal)) → IsEqualAt clauses clause.now (get same_clause firsts clause)

abbrev pub is_on : ℕ → Literal → Bool
is_on points l = nat_lt l.x points && nat_lt l.y points

-- what the step rests on is there, and the points that it names; of a clause or a lemma that there isn't nothing is asked
abbrev pub step_stays : ℕ → List (Option ℕ) → List Bool → Step → Bool
step_stays points numbers kept (Cycle cycle) = true
step_stays points numbers kept (Input i) = is_some (slice_index_or numbers i (Some i))
step_stays points numbers kept (Earlier j) = slice_index_or kept j true
step_stays points numbers kept (Clash i) = is_some (slice_index_or numbers i (Some i))
step_stays points numbers kept (Either l) = is_on points l

abbrev pub lemma_stays : ℕ → List (Option ℕ) → List Bool → Lemma → Bool
lemma_stays points numbers kept lemma = list_all (is_on points) lemma.clause && list_all (step_stays points numbers kept) lemma.steps

-- whether each of these stays, behind those of which it is known
abbrev pub flags_from : ℕ → List (Option ℕ) → List Bool → List Lemma → List Bool
flags_from points numbers kept [] = kept
flags_from points numbers kept (lemma ∷ lemmas) = flags_from points numbers (kept ++ lemma_stays points numbers kept lemma ∷ []) lemmas

-- the step by the numbers of two tables
abbrev pub step_by : List (Option ℕ) → List ℕ → Step → Step
step_by numbers places (Cycle cycle) = Cycle cycle
step_by numbers places (Input i) = Input (unwrap_or (slice_index_or numbers i None) i)
step_by numbers places (Earlier j) = Earlier (slice_index_or places j 0)
step_by numbers places (Clash i) = Clash (unwrap_or (slice_index_or numbers i None) i)
step_by numbers places (Either l) = Either l

abbrev pub lemma_by : List (Option ℕ) → List ℕ → Lemma → Lemma
lemma_by numbers places lemma = record { clause = lemma.clause; steps = map (step_by numbers places) lemma.steps }

-- no lemma refers to one behind it
abbrev pub ReferBack : List Lemma → Type 0
ReferBack lemmas = (k : ℕ) (lemma : Lemma) → slice_get lemmas k ≡ Some lemma → LemmaRefersBelow (k + 1) lemma
