-- Items in the place of a found entry's lemmas, by version: in the first there are none, and nothing is kept.
-- These are words of the code's inner contracts, and no part of the meaning.
use Rattle.std.specs.Prelude.{◌≡◌, ◌≤◌, ◌-◌, ◌⊎◌, ℕ, List, [], ◌∷◌, ◌++◌, length, All, Option, Some, None, IfSome}
use Rattle.std.specs.List.{AllZip}
use Rattle.stn_core.specs.declared.literal.Literal.{Literal}
use Rattle.refute_tree.specs.declared.lemma.Lemma.{Lemma}
use Rattle.refute_tree.specs.Trees.{IsRefutation}
use Rattle.kept_lemmas.specs.declared.item.Kept.{Kept}
use Rattle.kept_lemmas.specs.declared.item.Item.{Item}
use Rattle.kept_lemmas.specs.declared.item.Item.TheVariants.{Own, Keep}
use Rattle.kept_lemmas.specs.Entries.{AreRight}
use Rattle.kept_lemmas.specs.Facts.{Shelf, facts_of}
use Rattle.lemma_shelf.specs.InPlace.{StandsInPlace}
use Rattle.cert_text.specs.declared.entry.Version.{Version}
use Rattle.cert_text.specs.declared.entry.Version.TheVariants.{One, Two}
use Rattle.cert_text.specs.declared.entry.Entry.{Entry}
use Rattle.cert_text.specs.Form.{lemmas_in, file_entry_sexpr, line_of, shown_by}
use Rattle.cert_text.specs.Limits.{limit}
use Rattle.idl_term.specs.Contexts.{Context}
use Rattle.smt_script.specs.declared.state.Question.{Question}
use Rattle.dtp_entry.specs.declared.report.Report.{Report}
use Rattle.dtp_entry.specs.declared.report.Report.TheVariants.{Verdicts, Certificate}
use Rattle.dtp_entry.specs.Entries.{points_of, OfRefuted}
use Rattle.dtp_entry.specs.Keeping.{IsShownBy}
use Rattle.dtp_entry.specs.Transcripts.{decision_line}

-- the format can name the place, and what an item keeps
abbrev pub IsNamed : Kept → Type 0
IsNamed kept = (kept.entry ≤ limit) × (kept.item ≤ limit)

abbrev pub IsItemNamed : Item → Type 0
IsItemNamed (Own lemma) = Unit {0}
IsItemNamed (Keep kept) = IsNamed kept

-- the lemmas of the entry refute the problem
abbrev pub RefutesBy : ℕ → List (List Literal) → Entry → Type 0
RefutesBy points clauses entry = IfSome (lemmas_in entry) (λ lemmas. IsRefutation points clauses lemmas)

-- an entry that keeps one item
pub record IsOneKept (shelf : Shelf) (points : ℕ) (clauses : List (List Literal)) (items : List Item) (now : Shelf) : Type 0 where
  pub place : Kept
  pub alone : items ≡ Keep place ∷ []
  pub named : IsNamed place
  pub right : AreRight shelf points clauses items
  pub states : now ≡ shelf ++ facts_of shelf clauses items ∷ []

-- an item for each lemma, and what is stated behind them
pub record AreForEach (shelf : Shelf) (points : ℕ) (clauses : List (List Literal)) (lemmas : List Lemma) (items : List Item) (now : Shelf) : Type 0 where
  pub right : AreRight shelf points clauses items
  pub stand : AllZip (StandsInPlace shelf) lemmas items
  pub named : All IsItemNamed items
  pub states : now ≡ shelf ++ facts_of shelf clauses items ∷ []

abbrev pub AreEntered : Shelf → ℕ → List (List Literal) → List Lemma → List Item → Shelf → Type 0
AreEntered shelf points clauses lemmas items now = AreForEach shelf points clauses lemmas items now ⊎ IsOneKept shelf points clauses items now

-- in the second version, by the entry's lemmas
abbrev pub IsEnteredAnew : Shelf → ℕ → List (List Literal) → Option (List Lemma) → List Item → Shelf → Type 0
IsEnteredAnew shelf points clauses None items now = now ≡ shelf ++ [] ∷ []
IsEnteredAnew shelf points clauses (Some lemmas) items now = AreEntered shelf points clauses lemmas items now

abbrev pub IsEntered : Version → Shelf → ℕ → List (List Literal) → Entry → List Item → Shelf → Type 0
IsEntered One shelf points clauses entry items now = now ≡ shelf
IsEntered Two shelf points clauses entry items now = IsEnteredAnew shelf points clauses (lemmas_in entry) items now

abbrev pub IsAgain : Shelf → ℕ → List (List Literal) → Shelf → Option (List Item) → Type 0
IsAgain shelf points clauses now None = now ≡ shelf
IsAgain shelf points clauses now (Some items) = IsOneKept shelf points clauses items now

-- the place is that of the last of these items, where they stand in the last entry, in the second version
abbrev pub IsLastOf : Version → Shelf → List Item → Option Kept → Type 0
IsLastOf version now items None = Unit {0}
IsLastOf version now items (Some place) = (version ≡ Two) × (place.entry ≡ length now) × (place.item ≡ length items - 1)

-- ---- in the words of the assertions

-- the problem that the entry's lemmas refute
abbrev pub IsProblemFor : Question → Context → ℕ → List (List Literal) → Entry → Type 0
IsProblemFor question c points clauses entry =
    OfRefuted question c entry (λ refuted lemmas. (points ≡ points_of c) × (clauses ≡ refuted))

-- the entry with the items where the version has them
abbrev pub IsShownIn : Version → Shelf → Question → Context → Entry → List Item → Shelf → Type 0
IsShownIn One shelf question c entry items now = now ≡ shelf
IsShownIn Two shelf question c entry items now = IsShownBy shelf question c entry items now

-- behind an entry of a check-sat that has no lemmas
abbrev pub passed : Version → Shelf → Shelf
passed One shelf = shelf
passed Two shelf = shelf ++ [] ∷ []

-- the line of a question
abbrev pub line_shown : Report → Entry → List Item → List ℕ
line_shown Verdicts entry items = decision_line Verdicts entry
line_shown (Certificate One) entry items = decision_line (Certificate One) entry
line_shown (Certificate Two) entry items = line_of (file_entry_sexpr (shown_by entry items))
