-- A schedule of before that was tested.
use Rattle.std.proofs.Common.{subst, ◌∙◌, ◌≡◌, ℕ, List, true, Option, Some, None, Result, Ok, Err}
use Rattle.std.specs.Prelude.{IfOk, IfSome}
use Rattle.std.specs.List.{AllByRecursion}
use Rattle.stn_core.specs.declared.named.NamedValue.{NamedValue}
use Rattle.stn_core.specs.Named.{AreWithinLimit}
use Rattle.idl_node.specs.declared.sort.Sort.{Sort}
use Rattle.idl_node.specs.Nodes.{NodeValue}
use Rattle.idl_node.specs.Sorts.{AreOfSorts}
use Rattle.idl_node.specs.Truth.{truth, point_values}
use Rattle.idl_term.specs.Contexts.{IsScheduleFor}
use Rattle.idl_term.specs.Laws.{RootsAreExact}
use Rattle.idl_term.specs.Scopes.{sorts_of}
use Rattle.kept_schedule.specs.Satisfying.{IsScheduleOf}
use Rattle.smt_script.specs.code.Kept.{Kept}
use Rattle.smt_script.specs.States.{State}
use Rattle.script_walk.specs.code.Standing.{Stands}
use Rattle.dtp_entry.specs.Bests.{Satisfies}
use Rattle.dtp_entry.proofs.Roots.{IsRootTrue, assertions_true}

-- where the roots are true, so are the assertions
pub schedule_satisfies : RootsAreExact → (kept : Kept) (s : State) → Stands kept s → (nodes : List NodeValue) (roots : List ℕ) (sorts : List Sort) → nodes ≡ kept.nodes → roots ≡ kept.roots → sorts ≡ sorts_of s.context.declared
    → (values : List NamedValue) → IsScheduleOf nodes roots sorts values → Satisfies s.context values × AreWithinLimit values
schedule_satisfies exact kept s stands nodes roots sorts same_nodes same_roots same_sorts values h =
    let fits : IsScheduleFor s.context values = subst (λ (ss : List Sort). AreOfSorts ss values) same_sorts h.of_sorts in
    let of_nodes : AllByRecursion (IsRootTrue s.context values) roots =
    subst (λ (ns : List NodeValue). AllByRecursion (λ r. truth ns (point_values values) r ≡ true) roots) (same_nodes ∙ stands.stands.nodes) h.true_all in
    let all : AllByRecursion (IsRootTrue s.context values) s.context.roots = subst (λ (ks : List ℕ). AllByRecursion (IsRootTrue s.context values) ks) (same_roots ∙ stands.stands.roots) of_nodes in
    ((fits, assertions_true s.context values s.context.assertions s.context.roots (exact s.context values stands.made.context fits) all), h.within)

pub found_weaker : {A E : Type 0} (P Q : A → Type 0) (r : Result (Option A) E) → ((v : A) → P v → Q v) → IfOk r (λ found. IfSome found P) → IfOk r (λ found. IfSome found Q)
found_weaker P Q (Ok None) f h = h
found_weaker P Q (Ok (Some v)) f h = f v h
found_weaker P Q (Err e) f h = h
