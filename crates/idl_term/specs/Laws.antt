-- The laws of the definitions, each said once: its function ensures it, and who stands on it names it.
use Rattle.std.specs.Prelude.{◌≡◌, ◌<◌, ◌*◌, List, length, Ok}
use Rattle.std.specs.List.{AllByRecursion}
use Rattle.smt_sexpr.specs.Tree.{Sexpr}
use Rattle.stn_core.specs.declared.named.NamedValue.{NamedValue}
use Rattle.idl_node.specs.Nodes.{NodeValue}
use Rattle.idl_node.specs.Sorts.{AreOfSorts}
use Rattle.idl_apply.specs.Applied.{Made}
use Rattle.idl_term.specs.Contexts.{Context, IsContext, IsScheduleFor, environment, scope_of}
use Rattle.idl_term.specs.Lowered.{lowered}
use Rattle.idl_term.specs.Meanings.{IsScopeOver, IsMadeIn, Agrees, AreRoots, lowered_value}
use Rattle.idl_cases.specs.Guarded.{CaseValue}
use Rattle.idl_scope.specs.Scopes.{Scope, sorts_of}
use Rattle.idl_apply.specs.Choices.{choices, count_from}
use Rattle.idl_apply.specs.Comparing.{case_pairs}
use Rattle.idl_term.specs.Values.{Named, value}

abbrev pub LoweredIsMade : Type 0
LoweredIsMade =
    (scope : Scope) (nodes : List NodeValue) (t : Sexpr) (made : Made) → IsScopeOver scope nodes
    → lowered scope nodes t ≡ Ok made → IsMadeIn scope nodes made

abbrev pub LoweredIsWorth : Type 0
LoweredIsWorth =
    (scope : Scope) (nodes : List NodeValue) (t : Sexpr) (made : Made) (schedule : List NamedValue) (env : List Named)
    → IsScopeOver scope nodes → AreOfSorts (sorts_of scope.declared) schedule
    → Agrees scope nodes schedule env → lowered scope nodes t ≡ Ok made
    → value env t ≡ lowered_value made.nodes schedule made.is

abbrev pub ContextsHaveScopes : Type 0
ContextsHaveScopes =
    (c : Context) → IsContext c → IsScopeOver (scope_of c) c.nodes

abbrev pub RootsAreNodes : Type 0
RootsAreNodes =
    (c : Context) → IsContext c → AllByRecursion (λ k. k < length c.nodes) c.roots

abbrev pub RootsAreExact : Type 0
RootsAreExact =
    (c : Context) (schedule : List NamedValue) → IsContext c → IsScheduleFor c schedule
    → AreRoots c schedule c.assertions c.roots

abbrev pub NamesAgree : Type 0
NamesAgree =
    (c : Context) (schedule : List NamedValue) → IsContext c → IsScheduleFor c schedule
    → Agrees (scope_of c) c.nodes schedule (environment c schedule)

-- choices, and pairs of cases, are as many as the products say by which they are counted
abbrev pub ChoicesAreCounted : Type 0
ChoicesAreCounted =
    (terms : List (List CaseValue)) → length (choices terms) ≡ count_from 1 terms

abbrev pub PairsAreCounted : Type 0
PairsAreCounted =
    (a b : List CaseValue) → length (case_pairs a b) ≡ length a * length b
