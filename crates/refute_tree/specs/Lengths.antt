-- Clashes written out as cases, and the reverse.
use Rattle.std.specs.Prelude.{◌≡◌, ℕ, zero, suc, ◌&&◌, Bool, true, false, if◌then◌else◌, List, [], ◌∷◌, ◌++◌, length, map, Option, Some, None, slice_get}
use Rattle.stn_core.specs.declared.literal.Literal.{Literal}
use Rattle.stn_core.specs.Literal.{negation_of, same_literal}
use Rattle.refute_tree.specs.declared.step.Step.{Step}
use Rattle.refute_tree.specs.declared.step.Step.TheVariants.{Cycle, Input, Clash}
use Rattle.refute_tree.specs.declared.lemma.Lemma.{Lemma}
use Rattle.refute_tree.specs.Pairs.{pair_of}
use Rattle.refute_tree.specs.Trees.{IsRefuted}

-- the leaf of a literal and its negation
abbrev pub pair_step : Literal → Step
pair_step l = Cycle (pair_of l)

-- a clash with a clause as its cases, each of which is closed by its literal and the negation
abbrev pub written_out : ℕ → Option (List Literal) → List Step
written_out i None = Clash i ∷ []
written_out i (Some clause) = Input i ∷ map pair_step clause

abbrev pub lengthened_step : List (List Literal) → Step → List Step
lengthened_step clauses (Clash i) = written_out i (slice_get clauses i)
lengthened_step clauses step = step ∷ []

-- each clash is written out
abbrev pub lengthened : List (List Literal) → List Step → List Step
lengthened clauses [] = []
lengthened clauses (step ∷ steps) = lengthened_step clauses step ++ lengthened clauses steps

-- the leaf is that of the literal and its negation, in this order
abbrev pub is_pair_of : Literal → Step → Bool
is_pair_of l (Cycle (a ∷ b ∷ [])) = same_literal a l && same_literal b (negation_of l)
is_pair_of l step = false

-- the steps begin with such a leaf for each literal, in order
abbrev pub begin_with_pairs : List Literal → List Step → Bool
begin_with_pairs [] steps = true
begin_with_pairs (l ∷ literals) [] = false
begin_with_pairs (l ∷ literals) (step ∷ steps) = is_pair_of l step && begin_with_pairs literals steps

-- so does what follows the input step of the clause
abbrev pub closes : Option (List Literal) → List Step → Bool
closes None steps = false
closes (Some clause) steps = begin_with_pairs clause steps

-- how many cases there are
abbrev pub cases_count : Option (List Literal) → ℕ
cases_count None = 0
cases_count (Some clause) = length clause

-- each input step whose cases are all closed by their literal and its negation becomes a clash; the first so many steps,
-- which are such cases, are left out
abbrev pub shortened_behind : List (List Literal) → ℕ → List Step → List Step
shortened_behind clauses skip [] = []
shortened_behind clauses (suc skip) (step ∷ steps) = shortened_behind clauses skip steps
shortened_behind clauses zero (Input i ∷ steps) =
    if closes (slice_get clauses i) steps
    then Clash i ∷ shortened_behind clauses (cases_count (slice_get clauses i)) steps
    else Input i ∷ shortened_behind clauses 0 steps
shortened_behind clauses zero (step ∷ steps) = step ∷ shortened_behind clauses 0 steps

abbrev pub shortened : List (List Literal) → List Step → List Step
shortened clauses steps = shortened_behind clauses 0 steps

abbrev pub lengthened_lemma : List (List Literal) → Lemma → Lemma
lengthened_lemma clauses lemma = record lemma { steps = lengthened clauses lemma.steps }

abbrev pub shortened_lemma : List (List Literal) → Lemma → Lemma
shortened_lemma clauses lemma = record lemma { steps = shortened clauses lemma.steps }

-- what refuted the one lemma refutes the other
abbrev pub StaysRefuted : List (List Literal) → Lemma → Lemma → Type 0
StaysRefuted clauses lemma other =
    (points : ℕ) (earlier : List (List Literal))
    → IsRefuted points clauses earlier lemma → IsRefuted points clauses earlier other

-- how many cases of the clause are closed, if all are
abbrev pub ClosedCases : Option (List Literal) → List Step → Option ℕ → Type 0
ClosedCases clause steps None = closes clause steps ≡ false
ClosedCases clause steps (Some count) = (closes clause steps ≡ true) × (count ≡ cases_count clause)

-- what was added is how the step is shortened, when so many steps behind it are left out
abbrev pub IsShorter : List (List Literal) → Step → List Step → List Step → List Step → ℕ → Type 0
IsShorter clauses step left before after skip =
    after ++ shortened_behind clauses skip left ≡ before ++ shortened_behind clauses 0 (step ∷ left)

abbrev pub IsNoClash : Step → Type 0
IsNoClash (Clash i) = ⊥
IsNoClash step = Unit {0}
