-- How an item in the form in which it is written is read straight from the bytes.
-- These are words of the code's inner contracts, and no part of the meaning.
use Rattle.std.specs.Prelude.{◌≡◌, ℕ, ◌^◌, List, [], ◌∷◌, ◌++◌, map, All, Option, Some, None}
use Rattle.smt_sexpr.specs.Tree.{Sexpr, list, Items}
use Rattle.smt_sexpr.specs.Shapes.{items_of}
use Rattle.smt_sexpr.specs.Printing.{text_of, text_behind, IsWritable}
use Rattle.smt_sexpr.specs.Reading.{Spells, SpellsEach}
use Rattle.stn_core.specs.declared.literal.Literal.{Literal}
use Rattle.refute_tree.specs.declared.step.Step.{Step}
use Rattle.kept_lemmas.specs.declared.item.Item.{Item}
use Rattle.cert_text.specs.declared.entry.Version.{Version}
use Rattle.cert_text.specs.Limits.{LiteralWithin, StepWithin, ItemWithin}
use Rattle.cert_text.specs.Form.{numeral, number_of_value, literal_sexpr, clause_sexpr, step_sexpr, item_sexpr}
use Rattle.cert_read.specs.Parts.{each_of}

-- what may be read: its numbers are within the limits
abbrev pub LiteralFits : Literal → Type 0
LiteralFits l = LiteralWithin (2 ^ 32) l

abbrev pub StepFits : Version → Step → Type 0
StepFits version s = StepWithin version (2 ^ 32) s

-- what stands in a literal's list behind the parenthesis
abbrev pub bound_text : Literal → List ℕ
bound_text l = text_of (numeral l.x) ++ text_behind (items_of (numeral l.y ∷ number_of_value l.c ∷ []))

-- the bytes begin with the text, and the rest is behind it
abbrev pub ReadsBound : List ℕ → Literal → List ℕ → Type 0
ReadsBound bytes l rest = (bytes ≡ bound_text l ++ rest) × LiteralFits l

abbrev pub ReadsLiteral : List ℕ → Literal → List ℕ → Type 0
ReadsLiteral bytes l rest = (bytes ≡ text_of (literal_sexpr l) ++ rest) × LiteralFits l

-- the same behind a parenthesis
abbrev pub ReadsFirst : List ℕ → Literal → List ℕ → Type 0
ReadsFirst bytes l rest = (bytes ≡ 40 ∷ (text_of (literal_sexpr l) ++ rest)) × LiteralFits l

-- and behind a space
abbrev pub ReadsNext : List ℕ → Literal → List ℕ → Type 0
ReadsNext bytes l rest = (bytes ≡ 32 ∷ (text_of (literal_sexpr l) ++ rest)) × LiteralFits l

abbrev pub ReadsClause : List ℕ → List Literal → List ℕ → Type 0
ReadsClause bytes literals rest = (bytes ≡ text_of (clause_sexpr literals) ++ rest) × All LiteralFits literals

abbrev pub ReadsItem : Version → List ℕ → Item → List ℕ → Type 0
ReadsItem version bytes item rest = (bytes ≡ text_of (item_sexpr item) ++ rest) × ItemWithin version (2 ^ 32) item

-- some parts, each behind a space, are read and added
abbrev pub Adds : {A : Type 0} → (A → Sexpr) → (A → Type 0) → List A → List A → List ℕ → List ℕ → Type 0
Adds {A} f Fits old new bytes rest = (added : List A) × (new ≡ old ++ added) × All Fits added
    × ((more : List A) (behind : List ℕ) → rest ≡ text_behind (items_of (map f more)) ++ behind
    → bytes ≡ text_behind (items_of (map f (added ++ more))) ++ behind)

-- the same up to the parenthesis that closes the list
abbrev pub AddsAll : {A : Type 0} → (A → Sexpr) → (A → Type 0) → List A → List A → List ℕ → List ℕ → Type 0
AddsAll {A} f Fits old new bytes rest = (added : List A) × (new ≡ old ++ added) × All Fits added
    × (bytes ≡ text_behind (items_of (map f added)) ++ rest)

-- one step is read and added, or none
abbrev pub AddsStep : Version → List Step → List Step → List ℕ → Option (List ℕ) → Type 0
AddsStep version old new bytes None = new ≡ old
AddsStep version old new bytes (Some rest) =
    (s : Step) × (new ≡ old ++ s ∷ []) × StepFits version s × (bytes ≡ text_of (step_sexpr s) ++ rest)

-- the same behind a space
abbrev pub AddsNext : Version → List Step → List Step → List ℕ → Option (List ℕ) → Type 0
AddsNext version old new bytes None = new ≡ old
AddsNext version old new bytes (Some rest) =
    (s : Step) × (new ≡ old ++ s ∷ []) × StepFits version s × (bytes ≡ 32 ∷ (text_of (step_sexpr s) ++ rest))

-- behind a space stands what means this
abbrev pub IsQuick : {A : Type 0} → (Sexpr → Option A) → List ℕ → A → List ℕ → Type 0
IsQuick meant bytes part rest =
    (xs : Items) × IsWritable (list xs) × (bytes ≡ 32 ∷ (text_of (list xs) ++ rest)) × (meant (list xs) ≡ Some part)

-- the items from the place up to here stand for these
abbrev pub ReadsTo : {A : Type 0} → (Sexpr → Option A) → List ℕ → ℕ → List A → ℕ → Type 0
ReadsTo f bytes place parts here = (xs : Items) × SpellsEach bytes place xs here × (each_of f xs ≡ Some parts)

-- the item at the place stands for this
abbrev pub ReadsOne : {A : Type 0} → (Sexpr → Option A) → List ℕ → ℕ → A → ℕ → Type 0
ReadsOne f bytes place part after = (x : Sexpr) × Spells bytes place x after × (f x ≡ Some part)
