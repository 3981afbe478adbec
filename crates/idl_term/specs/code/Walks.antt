-- What the machine that lowers a term still does, and how far it is from its end. These are words of the code, and no part
-- of the meaning.
use Rattle.std.specs.Prelude.{◌≡◌, ℕ, ◌+◌, ◌-◌, ◌<◌, ◌≤◌, List, [], ◌∷◌, ◌++◌, length, take, drop, true, if◌then◌else◌, Some, Result, Ok, Err}
use Rattle.smt_sexpr.specs.Table.{Table}
use Rattle.smt_lex.specs.declared.token.TokenKind.TheVariants.{Symbol}
use Rattle.smt_sexpr.specs.Tree.{Items, symbol_of}
use Rattle.idl_node.specs.Nodes.{NodeValue}
use Rattle.idl_apply.specs.Applied.{Made, applied}
use Rattle.idl_apply.specs.Comparing.{follows}
use Rattle.idl_scope.specs.Limits.{names_limit}
use Rattle.idl_scope.specs.code.LocalNames.{Inner, scope_in, without}
use Rattle.idl_term.specs.Lowered.{lowered, lowered_leaf, lowered_each, lowered_bound, lowered_let, is_let, with_bound, variables_in, are_bindings, count_of}
use Rattle.idl_apply.specs.Operators.{takes_count}
use Rattle.idl_scope.specs.Scopes.{LoweredTerm, bindings_of, Scope, shown_term}
use Rattle.idl_scope.specs.declared.lowered.Lowered.{Lowered}
use Rattle.idl_term.specs.code.Trees.{tree_of, trees_of, IsTree, AreTrees, size_of, sizes_of}
use Rattle.idl_apply.specs.declared.error.TermError.{TermError}
use Rattle.idl_apply.specs.declared.error.TermError.TheVariants.{OutOfMemory, Refused}
use Rattle.idl_apply.specs.declared.error.TermRefusal.{TermRefusal}
use Rattle.idl_apply.specs.declared.error.TermRefusal.TheVariants.{IllFormedTerm, WrongCount}
use Rattle.idl_apply.specs.declared.operator.Operator.{Operator}
use Rattle.idl_term.specs.declared.machine.Frame.{Frame}
use Rattle.idl_term.specs.declared.machine.Frame.TheVariants.{Apply, Bind, Unbind}

-- the machine at rest
pub record Walk : Type 0 where
  pub table : Table
  pub inner : Inner
  -- the innermost first
  pub frames : List Frame
  -- what was made, the last one last
  pub values : List LoweredTerm

-- before its first step
abbrev pub at_start : Table → Scope → Walk
at_start t scope = record { table = t; inner = record { outer = scope; variables = [] }; frames = []; values = [] }

abbrev pub scope_at : Walk → Scope
scope_at w = scope_in w.inner

-- the values from base on become one
abbrev pub gathered : ℕ → List LoweredTerm → LoweredTerm → List LoweredTerm
gathered base values t = take base values ++ t ∷ []

abbrev pub ended : List NodeValue → List LoweredTerm → Result Made TermRefusal
ended nodes (t ∷ []) = Ok (record { nodes = nodes; is = t })
ended nodes _ = Err IllFormedTerm

-- what the frames make of the values
unfoldable pub finished : Table → Inner → List Frame → List NodeValue → List LoweredTerm → Result Made TermRefusal
finished t inner [] nodes values = ended nodes values
finished t inner (Apply o rest base ∷ frames) nodes values =
    follows (lowered_each (scope_in inner) nodes (trees_of t rest.now)) (λ each.
    follows (applied o each.nodes (drop base values ++ each.are)) (λ made.
    finished t inner frames made.nodes (gathered base values made.is)))
finished t inner (Bind all rest body base ∷ frames) nodes values =
    follows (lowered_bound (scope_in inner) nodes (trees_of t rest.now)) (λ each.
    follows (lowered (with_bound (scope_in inner) (variables_in (trees_of t all.now)) (drop base values ++ each.are)) each.nodes (tree_of t body)) (λ made.
    finished t inner frames made.nodes (gathered base values made.is)))
finished t inner (Unbind count ∷ frames) nodes values = finished t (without count inner) frames nodes values

abbrev pub outcome : Walk → List NodeValue → Result Made TermRefusal
outcome w nodes = finished w.table w.inner w.frames nodes w.values

-- what comes out where this is made first
abbrev pub outcome_behind : Walk → Result Made TermRefusal → Result Made TermRefusal
outcome_behind w first = follows first (λ made. finished w.table w.inner w.frames made.nodes (w.values ++ made.is ∷ []))

-- what comes out where the term of an id is made first
abbrev pub outcome_from : Walk → List NodeValue → ℕ → Result Made TermRefusal
outcome_from w nodes id = outcome_behind w (lowered (scope_at w) nodes (tree_of w.table id))

-- what comes out where the terms of these two names are made first
abbrev pub outcome_behind_names : Walk → List NodeValue → List ℕ → List ℕ → Result Made TermRefusal
outcome_behind_names w nodes first second =
    follows (lowered_leaf (scope_at w) nodes Symbol first) (λ m. outcome_behind (record w { values = w.values ++ m.is ∷ [] }) (lowered_leaf (scope_at w) m.nodes Symbol second))

-- the terms of two names, made one after the other; want of memory says nothing
abbrev pub LowersNames : Scope → List NodeValue → List NodeValue → List ℕ → List ℕ → Result (Lowered × Lowered) TermError → Type 0
LowersNames scope old new first second (Ok terms) =
    (mid : List NodeValue) × (lowered_leaf scope old Symbol first ≡ Ok (record { nodes = mid; is = shown_term terms.0 })) × (lowered_leaf scope mid Symbol second ≡ Ok (record { nodes = new; is = shown_term terms.1 }))
LowersNames scope old new first second (Err (Refused why)) = follows (lowered_leaf scope old Symbol first) (λ m. lowered_leaf scope m.nodes Symbol second) ≡ Err why
LowersNames scope old new first second (Err OutOfMemory) = Unit {0}

-- the ids are those of two symbols of these names, and then the rest
pub record AreNamesBefore (t : Table) (ids first second rest : List ℕ) : Type 0 where
  pub one : ℕ
  pub other : ℕ
  pub all : ids ≡ one ∷ other ∷ rest
  pub one_is : symbol_of (tree_of t one) ≡ Some first
  pub other_is : symbol_of (tree_of t other) ≡ Some second

-- the frames fit so many variables, and so many values when they go on
abbrev pub AreFrames : Table → ℕ → ℕ → List Frame → Type 0
AreFrames t variables values [] = values ≡ 1
AreFrames t variables values (Apply o rest base ∷ frames) =
    AreTrees t rest.now × (base ≤ values) × (takes_count o ((values - base) + length rest.now) ≡ true) × AreFrames t variables (base + 1) frames
AreFrames t variables values (Bind all rest body base ∷ frames) =
    AreTrees t all.now × AreTrees t rest.now × IsTree t body × (are_bindings (trees_of t all.now) ≡ true) × (are_bindings (trees_of t rest.now) ≡ true)
    × (base ≤ values) × ((values - base) + length rest.now ≡ length all.now) × AreFrames t variables (base + 1) frames
AreFrames t variables values (Unbind count ∷ frames) = (count ≤ variables) × AreFrames t (variables - count) values frames

abbrev pub IsReadyWith : ℕ → Walk → Type 0
IsReadyWith values w = AreFrames w.table (length w.inner.variables) values w.frames × (length w.inner.outer.declared ≤ names_limit)

-- the machine can go on, or can go on when one more term is made
abbrev pub IsReady : Walk → Type 0
IsReady w = IsReadyWith (length w.values) w

abbrev pub IsWaiting : Walk → Type 0
IsWaiting w = IsReadyWith (length w.values + 1) w

-- how much is left to do
abbrev pub frame_weight : Table → Frame → ℕ
frame_weight t (Apply o rest base) = 1 + sizes_of (trees_of t rest.now)
frame_weight t (Bind all rest body base) = 2 + (sizes_of (trees_of t rest.now) + size_of (tree_of t body))
frame_weight t (Unbind count) = 1

abbrev pub weight : Table → List Frame → ℕ
weight t [] = 0
weight t (f ∷ frames) = frame_weight t f + weight t frames

-- a step of the machine, behind which there are so many more values and which weighs less
pub record Goes (outcome_before : Result Made TermRefusal) (limit : ℕ) (old new : Walk) (nodes : List NodeValue) : Type 0 where
  pub same : outcome new nodes ≡ outcome_before
  pub ready : IsReady new
  pub less : weight new.table new.frames < limit
  pub table : new.table ≡ old.table
  pub outer : new.inner.outer ≡ old.inner.outer

-- what a step gives
abbrev pub Steps : Result Made TermRefusal → ℕ → Walk → Walk → List NodeValue → Result (Unit {0}) TermError → Type 0
Steps before limit old new nodes (Ok _) = Goes before limit old new nodes
Steps before limit old new nodes (Err (Refused why)) = before ≡ Err why
Steps before limit old new nodes (Err OutOfMemory) = Unit {0}

abbrev pub with_frame : Frame → Walk → Walk
with_frame f w = record w { frames = f ∷ w.frames }

-- a `let`, and an application of an operator, where what is behind their heads is these items
abbrev pub let_made : Scope → List NodeValue → Items → Result Made TermRefusal
let_made scope nodes arguments = if is_let arguments then lowered_let scope nodes arguments else Err IllFormedTerm

abbrev pub application_made : Operator → Scope → List NodeValue → Items → Result Made TermRefusal
application_made o scope nodes arguments = if takes_count o (count_of arguments) then follows (lowered_each scope nodes arguments) (λ made. applied o made.nodes made.are) else Err WrongCount

-- the variables of these bindings stand for the last values, and no value is left of them
abbrev pub bound_to : Items → ℕ → Walk → Walk
bound_to bindings base w = record w { inner = record w.inner { variables = bindings_of (variables_in bindings) (drop base w.values) ++ w.inner.variables }; values = take base w.values }

-- what the operator makes of the values from base on, and the frames of that
abbrev pub outcome_of : Operator → ℕ → Walk → List NodeValue → Result Made TermRefusal
outcome_of o base w nodes = follows (applied o nodes (drop base w.values)) (λ made. finished w.table w.inner w.frames made.nodes (gathered base w.values made.is))
