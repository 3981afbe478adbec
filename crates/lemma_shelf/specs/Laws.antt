-- The laws of the first flaw of items.
use Rattle.std.specs.Prelude.{◌≡◌, ◌↔◌, ℕ, List, map, None, IsTrue, Contains}
use Rattle.stn_core.specs.declared.literal.Literal.{Literal}
use Rattle.refute_tree.specs.declared.lemma.Lemma.{Lemma}
use Rattle.cert_check.specs.Flaws.{refutation_flaw}
use Rattle.kept_lemmas.specs.declared.item.Item.{Item}
use Rattle.kept_lemmas.specs.declared.item.Item.TheVariants.{Own}
use Rattle.kept_lemmas.specs.Facts.{Shelf}
use Rattle.kept_lemmas.specs.Entries.{AreRight}
use Rattle.lemma_shelf.specs.Clauses.{is_clause_of}
use Rattle.lemma_shelf.specs.ItemFlaws.{items_flaw}

-- the test answers whether the clause is one of the problem, literal for literal
abbrev pub ClauseTestLaw : Type 0
ClauseTestLaw = (clauses : List (List Literal)) (clause : List Literal) → IsTrue (is_clause_of clauses clause) ↔ Contains clauses clause

-- items have no flaw exactly where they are right
abbrev pub ItemsFlawLaw : Type 0
ItemsFlawLaw =
    (shelf : Shelf) (points : ℕ) (clauses : List (List Literal)) (items : List Item)
    → (items_flaw shelf points clauses items ≡ None) ↔ AreRight shelf points clauses items

-- own lemmas have the first flaw that they have as a refutation, whatever the earlier entries are
abbrev pub OwnFlawLaw : Type 0
OwnFlawLaw =
    (shelf : Shelf) (points : ℕ) (clauses : List (List Literal)) (lemmas : List Lemma)
    → items_flaw shelf points clauses (map (λ (lemma : Lemma). Own lemma) lemmas) ≡ refutation_flaw points clauses lemmas
