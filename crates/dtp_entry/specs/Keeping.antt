-- How an entry stands in a certificate of the second version: with items in the place of its lemmas. They refute the problem that the
-- lemmas refute, over the entries before, and may keep lemmas of these; which are kept is free. The format is that of cert_text.
use Rattle.std.specs.Prelude.{◌≡◌, ℕ, List, [], ◌∷◌, ◌++◌, All, Option, Some, None}
use Rattle.stn_core.specs.declared.literal.Literal.{Literal}
use Rattle.kept_lemmas.specs.declared.item.Item.{Item}
use Rattle.kept_lemmas.specs.declared.item.Item.TheVariants.{Own, Keep}
use Rattle.kept_lemmas.specs.Entries.{AreRight}
use Rattle.kept_lemmas.specs.Facts.{Facts, Shelf, facts_of}
use Rattle.cert_text.specs.declared.entry.Version.TheVariants.{Two}
use Rattle.cert_text.specs.declared.entry.Entry.{Entry}
use Rattle.cert_text.specs.Form.{shown_by}
use Rattle.cert_text.specs.Limits.{FileEntryFits}
use Rattle.idl_term.specs.Contexts.{Context}
use Rattle.smt_script.specs.declared.state.Question.{Question}
use Rattle.dtp_entry.specs.Entries.{points_of, OfRefuted, refuted_clauses, IsShort}

-- a lemma of the entry's own is short
abbrev pub IsShortItem : List (List Literal) → Item → Type 0
IsShortItem clauses (Own lemma) = IsShort clauses lemma
IsShortItem clauses (Keep kept) = Unit {0}

-- the items refute the problem over what the entries before state, by short lemmas
pub record AreInPlace (shelf : Shelf) (points : ℕ) (clauses : List (List Literal)) (items : List Item) : Type 0 where
  pub right : AreRight shelf points clauses items
  pub short : All (IsShortItem clauses) items

-- they may stand in the place of the entry's lemmas
abbrev pub StandIn : Shelf → Question → Context → Entry → List Item → Type 0
StandIn shelf question c entry items = OfRefuted question c entry (λ clauses lemmas. AreInPlace shelf (points_of c) clauses items)

-- of clauses, where there are any
abbrev pub facts_by : Option (List (List Literal)) → (List (List Literal) → Facts) → Facts
facts_by None facts = []
facts_by (Some clauses) facts = facts clauses

-- what the items state, for later entries to keep
abbrev pub facts_shown : Shelf → Question → Context → Entry → List Item → Facts
facts_shown shelf question c entry items = facts_by (refuted_clauses question c entry) (λ clauses. facts_of shelf clauses items)

-- The entry of a question with these items, behind entries that state what is on the first shelf. On the second stands what is
-- stated behind it.
pub record IsShownBy (shelf : Shelf) (question : Question) (c : Context) (entry : Entry) (items : List Item) (now : Shelf) : Type 0 where
  pub stand : StandIn shelf question c entry items
  pub fits : FileEntryFits Two (shown_by entry items)
  pub states : now ≡ shelf ++ facts_shown shelf question c entry items ∷ []
