-- The first flaw of items that are to refute a problem over earlier entries. Item goes after item; a lemma's flaws are those
-- that it has over the clauses of the items before it, and a kept item's stand at step 0, in the order: there is no such
-- item; a point that it names isn't the problem's; a clause of its support isn't active.
use Rattle.std.specs.Prelude.{ℕ, List, [], ◌∷◌, ◌++◌, Option, Some, None, if◌then◌else◌}
use Rattle.std.specs.List.{list_all}
use Rattle.stn_core.specs.declared.literal.Literal.{Literal}
use Rattle.cert_check.specs.declared.flaw.FlawKind.{FlawKind}
use Rattle.cert_check.specs.declared.flaw.FlawKind.TheVariants.{NoSuchPoint, NoSuchKeptLemma, NotActive, LastLemmaNotEmpty}
use Rattle.cert_check.specs.declared.flaw.Flaw.{Flaw}
use Rattle.cert_check.specs.Tests.{is_on_points}
use Rattle.cert_check.specs.Flaws.{lemma_flaw, flaw_at, first_of, ends_empty}
use Rattle.kept_lemmas.specs.declared.item.Item.{Item}
use Rattle.kept_lemmas.specs.declared.item.Item.TheVariants.{Own, Keep}
use Rattle.kept_lemmas.specs.Facts.{Fact, Shelf, kept_fact, fact_or_none}
use Rattle.lemma_shelf.specs.Clauses.{is_clause_of}

-- what is wrong with a kept item that states this, if it is there
abbrev pub fact_flaw : ℕ → List (List Literal) → Fact → Option FlawKind
fact_flaw points clauses fact =
    if list_all (is_on_points points) fact.named
    then (if list_all (is_clause_of clauses) fact.support then None else Some NotActive)
    else Some NoSuchPoint

abbrev pub kept_flaw : ℕ → List (List Literal) → Option Fact → Option FlawKind
kept_flaw points clauses None = Some NoSuchKeptLemma
kept_flaw points clauses (Some fact) = fact_flaw points clauses fact

abbrev pub flaw_there : List (List Literal) → Option FlawKind → Option Flaw
flaw_there earlier None = None
flaw_there earlier (Some kind) = flaw_at earlier 0 kind

-- the clause that an item states
abbrev pub item_clause : Shelf → Item → List Literal
item_clause shelf (Own lemma) = lemma.clause
item_clause shelf (Keep kept) = (fact_or_none (kept_fact shelf kept)).clause

-- the first flaw of the item behind those that state the earlier clauses
abbrev pub item_flaw : Shelf → ℕ → List (List Literal) → List (List Literal) → Item → Option Flaw
item_flaw shelf points clauses earlier (Own lemma) = lemma_flaw points clauses earlier lemma
item_flaw shelf points clauses earlier (Keep kept) = flaw_there earlier (kept_flaw points clauses (kept_fact shelf kept))

-- all items are right, and the last states the clause without literals
abbrev pub end_flaw : List (List Literal) → Option Flaw
end_flaw earlier = if ends_empty earlier then None else flaw_at earlier 0 LastLemmaNotEmpty

abbrev pub items_flaw_from : Shelf → ℕ → List (List Literal) → List (List Literal) → List Item → Option Flaw
items_flaw_from shelf points clauses earlier [] = end_flaw earlier
items_flaw_from shelf points clauses earlier (item ∷ items) =
    first_of (item_flaw shelf points clauses earlier item) (items_flaw_from shelf points clauses (earlier ++ item_clause shelf item ∷ []) items)

-- the first flaw of an entry's items, over the earlier entries
abbrev pub items_flaw : Shelf → ℕ → List (List Literal) → List Item → Option Flaw
items_flaw shelf points clauses items = items_flaw_from shelf points clauses [] items
