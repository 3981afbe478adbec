-- Assertions and their nodes are true together.
use Rattle.std.proofs.Common.{arith, refl, sym, ap, ◌∙◌, ◌≡◌, ◌<◌, ℕ, zero, suc, List, [], ◌∷◌, length, Bool, true, Some, slice_get}
use Rattle.std.specs.Prelude.{slice_index}
use Rattle.std.specs.List.{AllByRecursion}
use Rattle.smt_sexpr.specs.Tree.{Sexpr}
use Rattle.stn_core.specs.declared.named.NamedValue.{NamedValue}
use Rattle.idl_node.specs.Truth as node
use Rattle.idl_term.specs.Contexts.{Context, IsTrueOn}
use Rattle.idl_term.specs.Meanings.{AreRoots}
use Rattle.idl_term.specs.Values.{truth}

same_truth : (a b : Bool) → truth a ≡ truth b → a ≡ b
same_truth a b e = cc

-- the node is true on the schedule
abbrev pub IsRootTrue : Context → List NamedValue → ℕ → Type 0
IsRootTrue c schedule k = node.truth c.nodes (node.point_values schedule) k ≡ true

module _ (c : Context) (schedule : List NamedValue) where
  pub roots_true : (ts : List Sexpr) (ks : List ℕ) → AreRoots c schedule ts ks → AllByRecursion (IsTrueOn c schedule) ts → AllByRecursion (IsRootTrue c schedule) ks
  roots_true [] [] h all = tt
  roots_true [] (k ∷ ks) h all = absurd h
  roots_true (t ∷ ts) [] h all = absurd h
  roots_true (t ∷ ts) (k ∷ ks) h all = (same_truth _ true (sym h.0 ∙ all.0), roots_true ts ks h.1 all.1)

  -- the root of a number and its assertion
  pub root_asserted : (ts : List Sexpr) (ks : List ℕ) (r : ℕ) → AreRoots c schedule ts ks → r < length ks
      → ((t : Sexpr) → slice_get ts r ≡ Some t → IsTrueOn c schedule t) → IsRootTrue c schedule (slice_index ks r)
  root_asserted [] [] r h lt all = absurd (omega arith)
  root_asserted [] (k ∷ ks) r h lt all = absurd h
  root_asserted (t ∷ ts) [] r h lt all = absurd h
  root_asserted (t ∷ ts) (k ∷ ks) zero h lt all = same_truth _ true (sym h.0 ∙ all t refl)
  root_asserted (t ∷ ts) (k ∷ ks) (suc r) h lt all = root_asserted ts ks r h.1 (omega arith) all

  pub assertions_true : (ts : List Sexpr) (ks : List ℕ) → AreRoots c schedule ts ks → AllByRecursion (IsRootTrue c schedule) ks → AllByRecursion (IsTrueOn c schedule) ts
  assertions_true [] [] h all = tt
  assertions_true [] (k ∷ ks) h all = absurd h
  assertions_true (t ∷ ts) [] h all = absurd h
  assertions_true (t ∷ ts) (k ∷ ks) h all = (h.0 ∙ ap truth all.0, assertions_true ts ks h.1 all.1)
