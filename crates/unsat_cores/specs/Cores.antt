-- Which of the asserted formulas a refutation of their clause form rests on: an unsatisfiable core (SMT-LIB 2.6, section 4.2.7).
use Rattle.std.specs.Prelude.{ℕ, suc, ◌||◌, ◌&&◌, Bool, false, nat_eq, List, [], ◌∷◌, Option, Some, None}
use Rattle.refute_tree.specs.declared.lemma.Lemma.{Lemma}
use Rattle.idl_node.specs.Nodes.{NodeValue}
use Rattle.clause_form.specs.Sources.{sources_of}
use Rattle.unsat_cores.specs.Cited.{cites_clause}

-- one of these clauses, of which the first has number i, is cited and comes from root r
abbrev pub some_source : (ℕ → Bool) → ℕ → ℕ → List (Option ℕ) → Bool
some_source cited r i [] = false
some_source cited r i (Some k ∷ sources) = (nat_eq r k && cited i) || some_source cited r (suc i) sources
some_source cited r i (None ∷ sources) = some_source cited r (suc i) sources

-- a clause that the refutation cites comes from root r
unfoldable pub is_cited_root : List NodeValue → List ℕ → List Lemma → ℕ → Bool
is_cited_root nodes roots lemmas r = some_source (cites_clause lemmas) r 0 (sources_of nodes roots)
