-- What the code keeps of a state, which has no terms. These are words of the code's contracts, and no part of the meaning.
use Rattle.std.specs.Prelude.{◌≡◌, ℕ, ◌≤◌, List, [], ◌∷◌, ◌++◌, length, map, take, Bool, true, false, Option, None, Some, codes, Ok}
use Rattle.smt_sexpr.specs.Tree.{Sexpr}
use Rattle.smt_sexpr.specs.Shapes.{symbol, form, items_of}
use Rattle.idl_node.specs.Nodes.{NodeValue}
use Rattle.idl_term.specs.Contexts.{Context, scope_of}
use Rattle.idl_term.specs.Limits.{names_limit}
use Rattle.idl_term.specs.Scopes.{Scope}
use Rattle.smt_script.specs.declared.state.Effect.{Effect}
use Rattle.smt_script.specs.declared.state.Level.{Level}
use Rattle.smt_script.specs.declared.state.Mode.{Mode}
use Rattle.smt_script.specs.declared.state.Mode.TheVariants as mode
use Rattle.smt_script.specs.declared.state.Active.{Active}
use Rattle.smt_script.specs.States.{State, Assumed, after}

-- an assumption, as it is written
abbrev pub literal_sexpr : List ℕ → Bool → Sexpr
literal_sexpr name true = form (codes "not") (symbol name ∷ [])
literal_sexpr name false = symbol name

abbrev pub sexpr_of : List ℕ × Bool → Sexpr
sexpr_of p = literal_sexpr p.0 p.1

pub record Kept : Type 0 where
  pub scope : Scope
  pub nodes : List NodeValue
  -- the numbers of the assertions' nodes
  pub roots : List ℕ
  -- for each assertion its name, where it has one
  pub labels : List (Option (List ℕ))
  -- how much there was of each at each push, the first push first
  pub levels : List Level
  pub mode : Mode
  -- the assumptions of the last question, and how much is active without them, where it had any
  pub literals : List (List ℕ × Bool)
  pub assumed : Option Active
  pub print_success : Bool

-- nothing yet
abbrev pub nothing_kept : Kept
nothing_kept = record {
  scope = record { declared = []; bound = [] };
  nodes = [];
  roots = [];
  labels = [];
  levels = [];
  mode = mode.Nothing;
  literals = [];
  assumed = None;
  print_success = false;
}

-- the names that there were at a push
abbrev pub scope_at : Kept → Level → Scope
scope_at kept level = record {
  declared = take level.names kept.scope.declared;
  bound = take level.defined kept.scope.bound;
}

-- what there was at a push is a front of what there is now
pub record IsLevelOf (kept : Kept) (level : Level) (c : Context) : Type 0 where
  pub names : level.names ≤ length kept.scope.declared
  pub defined : level.defined ≤ length kept.scope.bound
  pub table : level.nodes ≤ length kept.nodes
  pub asserted : level.roots ≤ length kept.roots
  pub scope : scope_of c ≡ scope_at kept level
  pub nodes : c.nodes ≡ take level.nodes kept.nodes
  pub roots : c.roots ≡ take level.roots kept.roots

abbrev pub AreLevels : Kept → List Level → List Context → Type 0
AreLevels kept [] [] = Unit {0}
AreLevels kept (level ∷ levels) (c ∷ below) = IsLevelOf kept level c × AreLevels kept levels below
AreLevels kept _ _ = ⊥

-- no less at a later push
pub record IsNoLess (first second : Level) : Type 0 where
  pub names : first.names ≤ second.names
  pub defined : first.defined ≤ second.defined
  pub nodes : first.nodes ≤ second.nodes
  pub roots : first.roots ≤ second.roots

abbrev pub Ascend : List Level → Type 0
Ascend [] = Unit {0}
Ascend (a ∷ []) = Unit {0}
Ascend (a ∷ b ∷ rest) = IsNoLess a b × Ascend (b ∷ rest)

-- how much there is now
abbrev pub amount_of : Kept → Level
amount_of kept = record {
  names = length kept.scope.declared;
  defined = length kept.scope.bound;
  nodes = length kept.nodes;
  roots = length kept.roots;
}

-- how much is active without the assumptions
abbrev pub amount_without : Kept → Active → Level
amount_without kept a = record {
  names = length kept.scope.declared;
  defined = length kept.scope.bound;
  nodes = a.nodes;
  roots = a.roots;
}

abbrev pub AscendWithout : Kept → Option Active → Type 0
AscendWithout kept None = Unit {0}
AscendWithout kept (Some a) = Ascend (kept.levels ++ amount_without kept a ∷ []) × IsNoLess (amount_without kept a) (amount_of kept)

-- what holds of what is kept whatever the commands were: there is no less now than at the last push
pub record IsKept (kept : Kept) : Type 0 where
  pub few : length kept.scope.declared ≤ names_limit
  pub labelled : length kept.labels ≡ length kept.roots
  pub ascend : Ascend (kept.levels ++ amount_of kept ∷ [])
  pub without : AscendWithout kept kept.assumed

-- back to what there was at a push, with so many levels left
abbrev pub cut_to : Kept → ℕ → Level → Kept
cut_to kept left level = record {
  scope = scope_at kept level;
  nodes = take level.nodes kept.nodes;
  roots = take level.roots kept.roots;
  labels = take level.roots kept.labels;
  levels = take left kept.levels;
  mode = mode.Nothing;
  literals = kept.literals;
  assumed = None;
  print_success = kept.print_success;
}

-- back to what is active without the assumptions
abbrev pub cut_off : Kept → Option Active → Kept
cut_off kept None = kept
cut_off kept (Some a) = record kept {
  nodes = take a.nodes kept.nodes;
  roots = take a.roots kept.roots;
  labels = take a.roots kept.labels;
}

-- what is active without the assumptions is a front of what there is
pub record IsAssumed (kept : Kept) (a : Active) (assumed : Assumed) : Type 0 where
  pub literals : items_of (map sexpr_of kept.literals) ≡ assumed.literals
  pub scope : kept.scope ≡ scope_of assumed.active
  pub nodes : assumed.active.nodes ≡ take a.nodes kept.nodes
  pub roots : assumed.active.roots ≡ take a.roots kept.roots

abbrev pub AssumedStands : Kept → Option Active → Option Assumed → Type 0
AssumedStands kept None None = Unit {0}
AssumedStands kept (Some a) (Some assumed) = IsAssumed kept a assumed
AssumedStands kept _ _ = ⊥

-- what is kept stands for the state
pub record StandsFor (kept : Kept) (s : State) : Type 0 where
  pub scope : kept.scope ≡ scope_of s.context
  pub nodes : kept.nodes ≡ s.context.nodes
  pub roots : kept.roots ≡ s.context.roots
  pub labels : kept.labels ≡ s.labels
  pub levels : AreLevels kept kept.levels s.below
  pub ascend : Ascend kept.levels
  pub mode : kept.mode ≡ s.mode
  pub assumed : AssumedStands kept kept.assumed s.assumed
  pub print_success : kept.print_success ≡ s.print_success

-- the command leads from the state to one that the new one stands for
pub record Steps (s : State) (x : Sexpr) (effect : Effect) (kept : Kept) : Type 0 where
  pub state : State
  pub leads : after s x ≡ Ok (record { state = state; effect = effect })
  pub stands : StandsFor kept state
