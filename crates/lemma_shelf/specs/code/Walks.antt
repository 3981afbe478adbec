-- Of the code and not of the meaning: the table and the walk over it, as the code has them.
use Rattle.std.specs.Prelude.{◌≡◌, ℕ, ◌<◌, ◌+◌, ◌&&◌, List, [], ◌∷◌, ◌++◌, length, flat_map, All, Option, Some, nat_eq}
use Rattle.std.specs.List.{list_all}
use Rattle.indexmap.specs.IndexMap.{get}
use Rattle.stn_core.specs.declared.literal.Literal.{Literal}
use Rattle.cert_check.specs.declared.flaw.FlawKind.{FlawKind}
use Rattle.cert_check.specs.declared.flaw.Flaw.{Flaw}
use Rattle.cert_check.specs.declared.flaw.CheckError.{CheckError}
use Rattle.cert_check.specs.declared.flaw.CheckError.TheVariants.{OutOfMemory, Refused}
use Rattle.refute_tree.specs.declared.lemma.Lemma.{Lemma}
use Rattle.cert_check.specs.Tests.{is_on_points}
use Rattle.kept_lemmas.specs.Facts.{Facts, Shelf, own_fact}
use Rattle.lemma_shelf.specs.declared.check.KeptError.{KeptError}
use Rattle.lemma_shelf.specs.declared.check.KeptError.TheVariants.{OutOfMemory as NoMemory, Refused as Kept}
use Rattle.lemma_shelf.specs.declared.present.Present.{Present}
use Rattle.lemma_shelf.specs.declared.table.Table.{Table}
use Rattle.lemma_shelf.specs.declared.trees.Trees.{Trees}
use Rattle.lemma_shelf.specs.declared.trees.Trees.TheVariants.{Held, LetGo}
use Rattle.lemma_shelf.specs.declared.walk.Walk.{Walk}
use Rattle.lemma_shelf.specs.code.Tables.{table_facts, fact_at, facts_at, shelf_by, BeginsAs, NeedsOf, step_fits, CountsTo, IsTable, HaveTrees, IsPresent, AreClosed}

abbrev pub facts_in : Table → Facts
facts_in table = table_facts table.book table.lemmas.items

abbrev pub shelf_in : Table → List (List ℕ) → Shelf
shelf_in table entries = shelf_by table.book table.lemmas.items entries

-- the numbers of all entries are of lemmas of the table
abbrev pub AreWithin : Table → List (List ℕ) → Type 0
AreWithin table entries = All (λ numbers. All (λ n. n < length table.lemmas.items) numbers) entries

-- each lemma of the table came by an item of an entry, in the order of their numbers
abbrev pub AreCounted : Table → List (List ℕ) → Type 0
AreCounted table entries = CountsTo 0 (flat_map (λ (numbers : List ℕ). numbers) entries) (length table.lemmas.items)

abbrev pub IsWhole : Table → Type 0
IsWhole table = IsTable table.book table.lemmas.items table.points.items

abbrev pub places : Present → ℕ → Option ℕ
places present = get nat_eq present.map

-- each lemma of the table has its tree
abbrev pub TreesIn : Table → Type 0
TreesIn table = HaveTrees table.book table.lemmas.items

-- where trees are held, those that were there and those that came are
abbrev pub KeepsTrees : Trees → Table → Table → Type 0
KeepsTrees Held before now = TreesIn before → TreesIn now
KeepsTrees LetGo before now = Unit {0}

-- the table of numbers is of the clauses that it has
abbrev pub IsOf : Table → Present → Type 0
IsOf table present = IsPresent table.book present.clauses.now present.clauses.now (places present)

-- the walk is over the table, in the problem with these clauses, and has closed all that it has reached
pub record Knows (table : Table) (clauses : List (List Literal)) (walk : Walk) : Type 0 where
  pub of : walk.present.clauses.now ≡ clauses
  pub present : IsOf table walk.present
  pub closed : AreClosed table.lemmas.items (places walk.present) walk.reached

-- the error tells what is wrong, or that there was no memory
abbrev pub IsFaultOf : Option FlawKind → KeptError → Type 0
IsFaultOf flaw NoMemory = Unit {0}
IsFaultOf flaw (Kept kind) = flaw ≡ Some kind

abbrev pub IsFlawOf : Option Flaw → CheckError → Type 0
IsFlawOf flaw OutOfMemory = Unit {0}
IsFlawOf flaw (Refused f) = flaw ≡ Some f

-- each list of the table begins as before
pub record BeginsTable (before now : Table) : Type 0 where
  pub book : BeginsAs before.book now.book
  pub lemmas : BeginsAs before.lemmas.items now.lemmas.items
  pub points : BeginsAs before.points.items now.points.items

-- the lemma stands behind the others, with the least count of time points that it needs
pub record Pushes (before : Table) (lemma : Lemma) (now : Table) : Type 0 where
  pub book : now.book ≡ before.book
  pub lemmas : now.lemmas.items ≡ before.lemmas.items ++ lemma ∷ []
  pub needs : ℕ
  pub points : now.points.items ≡ before.points.items ++ needs ∷ []
  pub least : NeedsOf needs (λ count. list_all (is_on_points count) lemma.clause && list_all (step_fits before.points.items count) lemma.steps)

-- the lemma stands behind the others, and states there what it states over these clauses and the lemmas with these numbers
pub record HasLemma (before : Table) (clauses : List (List Literal)) (numbers : List ℕ) (lemma : Lemma) (now : Table) : Type 0 where
  pub whole : IsWhole now
  pub one_more : length now.lemmas.items ≡ length before.lemmas.items + 1
  pub fact : fact_at (facts_in now) (length before.lemmas.items) ≡ own_fact clauses (facts_at (facts_in before) numbers) lemma
  pub kept : (n : ℕ) → n < length before.lemmas.items → fact_at (facts_in now) n ≡ fact_at (facts_in before) n
