-- Which clauses of its problem a refutation rests on: those that its last lemma names, by an input step or a clash, or a lemma
-- that this one cites, directly or through others.
use Rattle.std.specs.Prelude.{◌≡◌, ◌<◌, ◌↔◌, ◌||◌, ℕ, suc, Bool, true, false, nat_eq, List, [], ◌∷◌, length, Contains, slice_index}
use Rattle.std.specs.List.{list_any}
use Rattle.refute_tree.specs.declared.step.Step.{Step}
use Rattle.refute_tree.specs.declared.step.Step.TheVariants.{Input, Clash, Lemma as Earlier}
use Rattle.refute_tree.specs.declared.lemma.Lemma.{Lemma}

-- the step names the clause of this number
abbrev pub names_clause : ℕ → Step → Bool
names_clause i (Input k) = nat_eq i k
names_clause i (Clash k) = nat_eq i k
names_clause i step = false

-- the step cites the lemma of this number
abbrev pub cites_lemma : ℕ → Step → Bool
cites_lemma j (Earlier k) = nat_eq j k
cites_lemma j step = false

-- one of the marked lemmas has such a step
abbrev pub some_marked : (Step → Bool) → List Bool → List Lemma → Bool
some_marked test (true ∷ marks) (lemma ∷ lemmas) = list_any test lemma.steps || some_marked test marks lemmas
some_marked test (false ∷ marks) (lemma ∷ lemmas) = some_marked test marks lemmas
some_marked test marks lemmas = false

-- lemma j, before lemmas of which these are needed: the last of all is needed, and one that a needed one cites
abbrev pub is_needed : ℕ → List Lemma → List Bool → Bool
is_needed j [] needed = true
is_needed j (lemma ∷ lemmas) needed = some_marked (cites_lemma j) needed (lemma ∷ lemmas)

-- for each lemma whether it is needed, where the first one has this number
abbrev pub needed_from : ℕ → List Lemma → List Bool
needed_from j [] = []
needed_from j (lemma ∷ lemmas) = is_needed j lemmas (needed_from (suc j) lemmas) ∷ needed_from (suc j) lemmas

-- a needed lemma names the clause of this number
abbrev pub cites_clause : List Lemma → ℕ → Bool
cites_clause lemmas i = some_marked (names_clause i) (needed_from 0 lemmas) lemmas

-- the numbers ascend, each once
abbrev pub Ascend : List ℕ → Type 0
Ascend numbers = (a b : ℕ) → a < b → b < length numbers → slice_index numbers a < slice_index numbers b

-- the numbers of the cited clauses
pub record AreCited (lemmas : List Lemma) (numbers : List ℕ) : Type 0 where
  pub ascend : Ascend numbers
  pub right : (i : ℕ) → Contains numbers i ↔ (cites_clause lemmas i ≡ true)
