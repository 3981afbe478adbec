-- What the items of an entry state, and what they rest on, so that a later entry may keep them. An entry of a certificate
-- of version 2 is a list of items: a lemma of its own, or one that an earlier entry has, named by the entry (from 1) and
-- the item in it (from 0). The format is this project's own; that a learned clause stays usable as long as the clauses that
-- it was derived from are asserted is how incremental solvers keep lemmas (Een, Soerensson 2003, Temporal induction by
-- incremental SAT solving).
use Rattle.std.specs.Prelude.{◌≡◌, ℕ, zero, suc, List, [], ◌∷◌, ◌++◌, length, map, flat_map, Option, Some, None, option_and_then, slice_get}
use Rattle.stn_core.specs.declared.literal.Literal.{Literal}
use Rattle.refute_tree.specs.declared.step.Step.{Step}
use Rattle.refute_tree.specs.declared.step.Step.TheVariants.{Cycle, Input, Lemma as Earlier, Clash, Either}
use Rattle.refute_tree.specs.declared.lemma.Lemma.{Lemma}
use Rattle.refute_tree.specs.Trees.{literals_named}
use Rattle.kept_lemmas.specs.declared.item.Kept.{Kept}
use Rattle.kept_lemmas.specs.declared.item.Item.{Item}
use Rattle.kept_lemmas.specs.declared.item.Item.TheVariants.{Own, Keep}

-- what an item states: its clause; its support, the clauses of problems that it was derived from; and the literals whose
-- time points it names
pub record Fact : Type 0 where
  pub clause : List Literal
  pub support : List (List Literal)
  pub named : List Literal

abbrev pub stated_by : Fact → List Literal
stated_by fact = fact.clause

-- the facts of an entry's items, and those of all earlier entries, entry after entry (none for an entry without items)
abbrev pub Facts : Type 0
Facts = List Fact

abbrev pub Shelf : Type 0
Shelf = List Facts

abbrev pub support_of_clause : Option (List Literal) → List (List Literal)
support_of_clause None = []
support_of_clause (Some clause) = clause ∷ []

abbrev pub support_of_fact : Option Fact → List (List Literal)
support_of_fact None = []
support_of_fact (Some fact) = fact.support

abbrev pub named_by_fact : Option Fact → List Literal
named_by_fact None = []
named_by_fact (Some fact) = fact.named

-- the clauses that a step rests on: one of the problem, or those of the item that it cites
abbrev pub step_support : List (List Literal) → Facts → Step → List (List Literal)
step_support clauses facts (Input i) = support_of_clause (slice_get clauses i)
step_support clauses facts (Clash i) = support_of_clause (slice_get clauses i)
step_support clauses facts (Earlier j) = support_of_fact (slice_get facts j)
step_support clauses facts (Cycle cycle) = []
step_support clauses facts (Either l) = []

-- the literals whose time points a step names itself, or by the item that it cites
abbrev pub step_named : Facts → Step → List Literal
step_named facts (Earlier j) = named_by_fact (slice_get facts j)
step_named facts step = literals_named step

-- what an entry's own lemma states, over the clauses of its problem and the items before it
abbrev pub own_fact : List (List Literal) → Facts → Lemma → Fact
own_fact clauses facts lemma = record {
  clause = lemma.clause;
  support = flat_map (step_support clauses facts) lemma.steps;
  named = lemma.clause ++ flat_map (step_named facts) lemma.steps;
}

-- the entry with this number, from 1
abbrev pub entry_numbered : Shelf → ℕ → Option Facts
entry_numbered shelf zero = None
entry_numbered shelf (suc k) = slice_get shelf k

-- what the earlier item states, where there is one
abbrev pub kept_fact : Shelf → Kept → Option Fact
kept_fact shelf kept = option_and_then (λ facts. slice_get facts kept.item) (entry_numbered shelf kept.entry)

abbrev pub no_fact : Fact
no_fact = record { clause = []; support = []; named = [] }

abbrev pub fact_or_none : Option Fact → Fact
fact_or_none None = no_fact
fact_or_none (Some fact) = fact

abbrev pub item_fact : Shelf → List (List Literal) → Facts → Item → Fact
item_fact shelf clauses facts (Own lemma) = own_fact clauses facts lemma
item_fact shelf clauses facts (Keep kept) = fact_or_none (kept_fact shelf kept)

-- the facts of items behind these
abbrev pub facts_from : Shelf → List (List Literal) → Facts → List Item → Facts
facts_from shelf clauses facts [] = facts
facts_from shelf clauses facts (item ∷ items) = facts_from shelf clauses (facts ++ item_fact shelf clauses facts item ∷ []) items

abbrev pub facts_of : Shelf → List (List Literal) → List Item → Facts
facts_of shelf clauses items = facts_from shelf clauses [] items
