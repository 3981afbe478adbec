-- The steps that a conflict gives: what the resolved literals follow from, one inside the other, and the
-- conflict within.
use Rattle.std.specs.Prelude.{◌≡◌, ℕ, suc, ◌<◌, List, [], ◌∷◌, ◌++◌, length, map, drop, All, Contains, Bool, false}
use Rattle.stn_core.specs.declared.literal.Literal.{Literal}
use Rattle.stn_core.specs.Literal.{negation_of}
use Rattle.refute_tree.specs.declared.step.Step.{Step}
use Rattle.refute_tree.specs.declared.step.Step.TheVariants.{Cycle, Input, Lemma as Earlier, Either}
use Rattle.refute_tree.specs.Trees.{Tree, Forest, literals_named}
use Rattle.conflict_analysis.specs.declared.entry.Source.{Source}
use Rattle.conflict_analysis.specs.declared.entry.Source.TheVariants.{Input as OfInput, Lemma as OfLemma}
use Rattle.conflict_analysis.specs.declared.entry.Reason.{Reason}
use Rattle.conflict_analysis.specs.declared.entry.Reason.TheVariants.{Given, Decision, Clause as ByClause}
use Rattle.conflict_analysis.specs.declared.entry.Reason.TheVariants.{Pair as ByPair, Cycle as ByCycle}
use Rattle.conflict_analysis.specs.declared.entry.Entry.{Entry}
use Rattle.conflict_analysis.specs.declared.entry.Role.{Role}
use Rattle.conflict_analysis.specs.declared.entry.Role.TheVariants.{Resolved}
use Rattle.conflict_analysis.specs.code.Graphs.{Graph}
use Rattle.conflict_analysis.specs.code.Trails.{source_clause, entry_at, on_trail, role_at, pair_cycle, KeepsAll}
use Rattle.conflict_analysis.specs.code.Leaves.{at_leaves, StandsAssumed}

-- the step that opens the cases of the named clause
abbrev pub step_of : Source → Step
step_of (OfInput i) = Input i
step_of (OfLemma j) = Earlier j

-- the steps grow by some that are so
abbrev pub Grows : List Step → List Step → (List Step → Type 0) → Type 0
Grows old new So = (added : List Step) × (new ≡ old ++ added) × So added

-- the step names no literal itself
abbrev pub NamesNone : Step → Type 0
NamesNone step = literals_named step ≡ []

-- the assumptions have what is assumed below a place
abbrev pub Assumes : List Entry → List Role → List Bool → ℕ → List Literal → Type 0
Assumes trail roles leaves below assumed =
    (l : Literal) → StandsAssumed trail roles leaves below l → Contains assumed l

-- some assumptions, and more
abbrev pub AreMore : List Literal → List Literal → Type 0
AreMore assumed many = (l : Literal) → Contains assumed l → Contains many l

-- a step closes the case in which the literal is assumed too
pub record IsShut (inputs lemmas : List (List Literal)) (Has : List Literal → Type 0) (l : Literal)
    (added : List Step) : Type 0 where
  pub names : All NamesNone added
  pub tree : (assumed : List Literal) (rest : List Step) → Has assumed
      → Tree inputs lemmas (assumed ++ l ∷ []) (added ++ rest) rest

-- the steps close the cases of a clause from one place up to another, which isn't among them
pub record AreShut (inputs lemmas : List (List Literal)) (Has : List Literal → Type 0) (clause : List Literal)
    (low high : ℕ) (added : List Step) : Type 0 where
  pub names : All NamesNone added
  pub forest : (assumed : List Literal) (tail rest : List Step) → Has assumed
      → ((many : List Literal) → AreMore assumed many → Forest inputs lemmas many (drop high clause) tail rest)
      → Forest inputs lemmas assumed (drop low clause) (added ++ tail) rest

-- the steps before the case in which the literal is assumed
abbrev pub IsOpening : List (List Literal) → List (List Literal) → (List Literal → Type 0) → Literal → Reason → List Step → Type 0
IsOpening inputs lemmas Has l Given added = added ≡ []
IsOpening inputs lemmas Has l Decision added = added ≡ []
IsOpening inputs lemmas Has l (ByClause source place) added =
    Grows (step_of source ∷ []) added (AreShut inputs lemmas Has (source_clause inputs lemmas source) 0 place)
IsOpening inputs lemmas Has l (ByPair tighter) added = added ≡ Either l ∷ []
IsOpening inputs lemmas Has l (ByCycle cycle) added = added ≡ Either l ∷ []

-- and those after it
abbrev pub IsClosing : List (List Literal) → List (List Literal) → (List Literal → Type 0) → Literal → Reason → List Step → Type 0
IsClosing inputs lemmas Has l Given added = added ≡ []
IsClosing inputs lemmas Has l Decision added = added ≡ []
IsClosing inputs lemmas Has l (ByClause source place) added =
    AreShut inputs lemmas Has (source_clause inputs lemmas source) (suc place) (length (source_clause inputs lemmas source)) added
IsClosing inputs lemmas Has l (ByPair tighter) added = added ≡ Cycle (pair_cycle tighter l) ∷ []
IsClosing inputs lemmas Has l (ByCycle cycle) added = added ≡ Cycle cycle ∷ []

-- the steps are a tree under such assumptions
pub record Closes (inputs lemmas : List (List Literal)) (Has : List Literal → Type 0) (added : List Step) : Type 0 where
  pub names : All NamesNone added
  pub tree : (assumed : List Literal) (rest : List Step) → Has assumed → Tree inputs lemmas assumed (added ++ rest) rest

-- they are one where all of the trail's literals are assumed that don't stand at leaves
abbrev pub ClosesAll : Graph → List Role → List Bool → List Step → Type 0
ClosesAll graph roles leaves added =
    Closes graph.inputs graph.lemmas (Assumes graph.trail roles leaves (length graph.trail)) added

-- a resolved literal that doesn't stand at leaves has its reason in the steps
abbrev pub IsOpen : List Role → List Bool → ℕ → Type 0
IsOpen roles leaves k = (role_at roles k ≡ Resolved) × (at_leaves leaves k ≡ false)

-- what is written before, and after, what stands behind the place: nothing where it isn't open
pub record IsOpeningAt (inputs lemmas : List (List Literal)) (trail : List Entry) (roles : List Role) (leaves : List Bool)
    (k : ℕ) (added : List Step) : Type 0 where
  pub none : (IsOpen roles leaves k → ⊥) → added ≡ []
  pub some : IsOpen roles leaves k
      → IsOpening inputs lemmas (Assumes trail roles leaves k) (on_trail trail k) (entry_at trail k).reason added

pub record IsClosingAt (inputs lemmas : List (List Literal)) (trail : List Entry) (roles : List Role) (leaves : List Bool)
    (k : ℕ) (added : List Step) : Type 0 where
  pub none : (IsOpen roles leaves k → ⊥) → added ≡ []
  pub some : IsOpen roles leaves k
      → IsClosing inputs lemmas (Assumes trail roles leaves k) (on_trail trail k) (entry_at trail k).reason added

-- the openings of these places, the last of them first
abbrev pub AreOpened : List (List Literal) → List (List Literal) → List Entry → List Role → List Bool → List ℕ → List Step → Type 0
AreOpened inputs lemmas trail roles leaves [] steps = steps ≡ []
AreOpened inputs lemmas trail roles leaves (k ∷ places) steps =
    (before : List Step) × AreOpened inputs lemmas trail roles leaves places before
    × Grows before steps (IsOpeningAt inputs lemmas trail roles leaves k)

-- literals that steps name stand on the trail
abbrev pub NamesTrail : List Entry → Step → Type 0
NamesTrail trail step = All (λ (l : Literal). (k : ℕ) × (k < length trail) × (on_trail trail k ≡ l)) (literals_named step)

-- the steps refute the denial of a clause that has the negations of all kept literals
pub record Refutes (inputs lemmas : List (List Literal)) (trail : List Entry) (roles : List Role) (steps : List Step) : Type 0 where
  pub names : All (NamesTrail trail) steps
  pub tree : (clause : List Literal) → KeepsAll trail roles (length trail) clause
      → Tree inputs lemmas (map negation_of clause) steps []
