-- Which assertions a refutation of their clause form rests on: an unsatisfiable core (SMT-LIB 2.6, section 4.2.7).
use Rattle.std.specs.Prelude.{◌≡◌, ℕ, List, Bool, true, Some, slice_get}
use Rattle.smt_sexpr.specs.Tree.{Sexpr}
use Rattle.stn_core.specs.declared.named.NamedValue.{NamedValue}
use Rattle.refute_tree.specs.declared.lemma.Lemma.{Lemma}
use Rattle.unsat_cores.specs.Cores.{is_cited_root}
use Rattle.idl_term.specs.Contexts.{Context, IsScheduleFor, IsTrueOn}

-- the refutation cites a clause that comes from the assertion of this number
abbrev pub cites_assertion : Context → List Lemma → ℕ → Bool
cites_assertion c lemmas r = is_cited_root c.nodes c.roots lemmas r

-- all of these are true on the schedule
abbrev pub AreCitedTrue : Context → List Lemma → List NamedValue → Type 0
AreCitedTrue c lemmas schedule =
    (r : ℕ) (t : Sexpr) → cites_assertion c lemmas r ≡ true → slice_get c.assertions r ≡ Some t → IsTrueOn c schedule t

-- no schedule makes them true together
abbrev pub NoneTogether : Context → List Lemma → Type 0
NoneTogether c lemmas = (schedule : List NamedValue) → IsScheduleFor c schedule → AreCitedTrue c lemmas schedule → ⊥
