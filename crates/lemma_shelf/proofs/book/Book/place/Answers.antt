use Rattle.std.proofs.Common.{◌≡◌, ℕ, List, Contains, Some, subst}
use Rattle.std.specs.Prelude.{slice_get, MatchOption}
use Rattle.stn_core.specs.declared.literal.Literal.{Literal}
use Rattle.lemma_shelf.proofs.Books.{place_found, place_once}
use Rattle.lemma_shelf.proofs.book.Book.place.Goals as goal

pub returns-clause-found : goal.returns-clause-found
returns-clause-found c =
    subst (λ (book : List (List Literal)). MatchOption c.get_index_of.result (Contains book c.args.clause.now → ⊥) (λ n. slice_get book n ≡ Some c.args.clause.now)) c.self.view_is
    (place_found (λ k. k.items) c.args.clause.now c.self.inside.set.keys c.get_index_of.result c.get_index_of.ensures.index c.get_index_of.ensures.found)

pub returns-clause-once : goal.returns-clause-once
returns-clause-once c =
    subst (λ (book : List (List Literal)). (n : ℕ) → slice_get book n ≡ Some c.args.clause.now → c.get_index_of.result ≡ Some n) c.self.view_is
    (place_once (λ k. k.items) c.args.clause.now c.self.inside.set.keys c.get_index_of.result c.len-count.ensures.unique c.get_index_of.ensures.index c.get_index_of.ensures.found)
