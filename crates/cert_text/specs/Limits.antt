-- The numbers that a certificate of a version may have: its points are below a number, values are within a limit of their own,
-- and all other numbers within the limit both ways.
use Rattle.std.specs.Prelude.{ℕ, ◌<◌, ◌≤◌, ◌^◌, ◌-◌, ℤ, List, All, unsigned_abs}
use Rattle.std.specs.List.Sorted.{IsStrictlyIncreasing}
use Rattle.stn_core.specs.declared.literal.Literal.{Literal}
use Rattle.stn_core.specs.declared.named.NamedValue.{NamedValue}
use Rattle.stn_core.specs.declared.named.NamedValue.TheVariants.{Int}
use Rattle.stn_core.specs.Named.{IsWithinLimit}
use Rattle.refute_tree.specs.declared.step.Step.{Step}
use Rattle.refute_tree.specs.declared.step.Step.TheVariants.{Cycle, Input, Lemma as Earlier, Clash, Either}
use Rattle.refute_tree.specs.declared.lemma.Lemma.{Lemma}
use Rattle.kept_lemmas.specs.declared.item.Item.{Item}
use Rattle.kept_lemmas.specs.declared.item.Item.TheVariants.{Own, Keep}
use Rattle.cert_text.specs.declared.entry.Version.{Version}
use Rattle.cert_text.specs.declared.entry.Version.TheVariants.{One, Two}
use Rattle.cert_text.specs.declared.entry.Entry.{Entry}
use Rattle.cert_text.specs.declared.entry.FileEntry.{FileEntry}
use Rattle.cert_text.specs.declared.entry.FileEntry.TheVariants as file
use Rattle.cert_text.specs.declared.entry.Entry.TheVariants.{Sat, Unsat, Best, Unbounded}

-- 2 to the 61
abbrev pub limit : ℕ
limit = 2305843009213693952

abbrev pub NumberFits : ℤ → Type 0
NumberFits n = unsigned_abs n ≤ limit

pub record LiteralWithin (points : ℕ) (l : Literal) : Type 0 where
  pub x : l.x < points
  pub y : l.y < points
  pub c : NumberFits l.c

-- what only version 2 has
abbrev pub OnlyInTwo : Version → Type 0 → Type 0
OnlyInTwo One holds = ⊥
OnlyInTwo Two holds = holds

abbrev pub StepWithin : Version → ℕ → Step → Type 0
StepWithin version points (Cycle literals) = All (LiteralWithin points) literals
StepWithin version points (Input i) = i ≤ limit
StepWithin version points (Earlier j) = j ≤ limit
StepWithin version points (Clash i) = OnlyInTwo version (i ≤ limit)
StepWithin version points (Either l) = LiteralWithin points l

pub record LemmaWithin (version : Version) (points : ℕ) (lemma : Lemma) : Type 0 where
  pub clause : All (LiteralWithin points) lemma.clause
  pub steps : All (StepWithin version points) lemma.steps

abbrev pub ItemWithin : Version → ℕ → Item → Type 0
ItemWithin version points (Own lemma) = LemmaWithin version points lemma
ItemWithin version points (Keep kept) = OnlyInTwo version ((kept.entry ≤ limit) × (kept.item ≤ limit))

abbrev pub ValueFits : NamedValue → Type 0
ValueFits value = IsWithinLimit value

-- the same of a whole number alone
abbrev pub WholeFits : ℤ → Type 0
WholeFits n = ValueFits (Int n)

-- one value for each time point, and points that ascend
pub record UnboundedWithin (points : ℕ) (values : List ℤ) (set : List ℕ) : Type 0 where
  pub all_fit : All WholeFits values
  pub below : All (λ (p : ℕ). p < points) set
  pub ascending : IsStrictlyIncreasing set

-- ---- what decides a question

abbrev pub EntryWithin : Version → ℕ → Entry → Type 0
EntryWithin version points (Sat values) = All ValueFits values
EntryWithin version points (Unsat lemmas) = All (LemmaWithin version points) lemmas
EntryWithin version points (Best m values lemmas) = WholeFits m × All ValueFits values × All (LemmaWithin version points) lemmas
EntryWithin version points (Unbounded values set) = UnboundedWithin points values set

-- what is written is read again
abbrev pub EntryFits : Version → Entry → Type 0
EntryFits version e = EntryWithin version (2 ^ 32) e

-- the greatest point, as which all greater ones are read, isn't in it
abbrev pub IsPlain : Version → Entry → Type 0
IsPlain version e = EntryWithin version (2 ^ 32 - 1) e

-- ---- the same of an entry of a certificate

abbrev pub FileEntryWithin : Version → ℕ → FileEntry → Type 0
FileEntryWithin version points (file.Sat values) = All ValueFits values
FileEntryWithin version points (file.Unsat items) = All (ItemWithin version points) items
FileEntryWithin version points (file.Best m values items) = WholeFits m × All ValueFits values × All (ItemWithin version points) items
FileEntryWithin version points (file.Unbounded values set) = UnboundedWithin points values set

abbrev pub FileEntryFits : Version → FileEntry → Type 0
FileEntryFits version e = FileEntryWithin version (2 ^ 32) e

abbrev pub IsPlainFileEntry : Version → FileEntry → Type 0
IsPlainFileEntry version e = FileEntryWithin version (2 ^ 32 - 1) e
