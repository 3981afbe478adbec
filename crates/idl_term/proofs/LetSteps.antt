-- The steps of a `let`.
use Rattle.std.proofs.Common.{◌≡◌, ℕ, zero, suc, ◌+◌, ◌-◌, ◌≤◌, List, [], ◌∷◌, ◌++◌, length, take, drop, Bool, true, false, Bor, Some, refl, sym, ap, subst, ◌∙◌, arith}
use Rattle.std.specs.Prelude.{Result, ◌&&◌}
use Rattle.std.proofs.lemmas.List.{append_assoc, append-nil, length-append, length-take, length-drop}
use Rattle.smt_sexpr.specs.Tree.{Sexpr, Items, leaf, list, none, more, symbol_of, item_of}
use Rattle.smt_sexpr.specs.Table.{Table, Means, HasItem}
use Rattle.idl_node.specs.Nodes.{NodeValue}
use Rattle.idl_apply.specs.Applied.{Made}
use Rattle.idl_apply.specs.Comparing.{follows}
use Rattle.idl_term.specs.code.Heads.{AreParts}
use Rattle.idl_term.specs.Lowered.{lowered, lowered_let, lowered_first, lowered_bindings, lowered_bound, lowered_binding, lowered_second, is_let, is_binding, are_bindings, are_different, may_be_bound, variables_in, with_bound}
use Rattle.idl_scope.specs.Scopes.{LoweredTerm, Scope, Binding, bindings_of}
use Rattle.idl_term.specs.code.Trees.{tree_of, trees_of, IsTree, size_of, sizes_of}
use Rattle.idl_scope.specs.code.LocalNames.{Inner, without}
use Rattle.idl_term.specs.code.Walks.{Walk, scope_at, gathered, finished, outcome, outcome_behind, outcome_from, AreFrames, IsReady, IsWaiting, weight, Goes, with_frame, let_made, bound_to}
use Rattle.idl_apply.specs.declared.error.TermRefusal.{TermRefusal}
use Rattle.idl_term.specs.declared.machine.Frame.{Frame}
use Rattle.idl_term.specs.declared.machine.Frame.TheVariants.{Bind, Unbind}
use Rattle.idl_term.proofs.FirstRefusals.{follows_same, first_then, starts}
use Rattle.idl_term.proofs.TreesOfIds.{tree_is}
use Rattle.idl_term.proofs.BindingNames.{variables_count}
use Rattle.idl_term.proofs.MachineSteps.{subst_first}

-- ---- it is opened

pub both : (a b : Bool) → (a && b) ≡ true → a ≡ true
both true b e = refl
both false b e = absurd cc

pub both_right : (a b : Bool) → (a && b) ≡ true → b ≡ true
both_right true b e = e
both_right false b e = absurd cc

let_binds : (bs : Items) (body : Sexpr) → is_let (more (list bs) (more body none)) ≡ true → are_bindings bs ≡ true
unfolding is_let
let_binds none body e = refl
let_binds (more b bs) body e = both (is_binding b && are_bindings bs) (are_different (variables_in (more b bs))) e

let_starts : (w : Walk) (nodes : List NodeValue) (items : List ℕ) (ids : Bor (List ℕ)) (body base : ℕ) → AreParts w.table items ids.now body → base ≡ length w.values
    → outcome (with_frame (Bind ids ids body base) w) nodes ≡ outcome_behind w (let_made (scope_at w) nodes (trees_of w.table items))
unfolding finished lowered_let lowered_bindings lowered_first
let_starts w nodes items ids body base parts e =
    rw (parts.is, parts.shape) (starts (lowered_bound (scope_at w) nodes (trees_of w.table ids.now)) (λ ns ts. lowered (with_bound (scope_at w) (variables_in (trees_of w.table ids.now)) ts) ns (tree_of w.table body)) (λ ns ts. finished w.table w.inner w.frames ns ts) w.values base e)

pub opens_let : (w new : Walk) (nodes : List NodeValue) (items : List ℕ) (ids : Bor (List ℕ)) (body base : ℕ) → IsWaiting w → AreParts w.table items ids.now body → base ≡ length w.values → new ≡ with_frame (Bind ids ids body base) w
    → Goes (outcome_behind w (let_made (scope_at w) nodes (trees_of w.table items))) (weight w.table w.frames + (3 + sizes_of (trees_of w.table items))) w new nodes
opens_let w new nodes items ids body base ready parts e is =
    let before = outcome_behind w (let_made (scope_at w) nodes (trees_of w.table items)) in
    let limit = weight w.table w.frames + (3 + sizes_of (trees_of w.table items)) in
    let so_many : (length w.values - base) + length ids.now ≡ length ids.now = omega (arith, e) in
    let next : length w.values + 1 ≡ base + 1 = omega (arith, e) in
    let binds : are_bindings (trees_of w.table ids.now) ≡ true = let_binds (trees_of w.table ids.now) (tree_of w.table body) (sym (ap is_let parts.shape) ∙ parts.is) in
    let size : sizes_of (trees_of w.table items) ≡ (3 + sizes_of (trees_of w.table ids.now)) + (1 + (size_of (tree_of w.table body) + (1 + 0))) = ap sizes_of parts.shape in
    subst (λ (n : Walk). Goes before limit w n nodes) (sym is) (
    record {
      same = let_starts w nodes items ids body base parts e;
      ready = ((parts.bindings, parts.bindings, parts.tree, binds, binds, omega (arith, e), so_many, subst (λ (n : ℕ). AreFrames w.table (length w.inner.variables) n w.frames) next ready.0), ready.1);
      less = omega (arith, size);
      table = refl;
      outer = refl;
    }
    )

-- ---- bindings

-- a binding's variable and its term
pub record IsBindingOf (x v y : Sexpr) : Type 0 where
  pub is : x ≡ list (more v (more y none))
  pub may : may_be_bound (symbol_of v) ≡ true

pub binding_parts : (x : Sexpr) → is_binding x ≡ true → (v : Sexpr) × (y : Sexpr) × IsBindingOf x v y
binding_parts (leaf kind text) e = absurd cc
binding_parts (list none) e = absurd cc
binding_parts (list (more v none)) e = absurd cc
binding_parts (list (more v (more y none))) e = (v, y, record { is = refl; may = e })
binding_parts (list (more v (more y (more z zs)))) e = absurd cc

pub binding_has : (t : Table) (id : ℕ) → IsTree t id → is_binding (tree_of t id) ≡ true → HasItem t id 0 × HasItem t id 1
binding_has t id h e =
    let parts = binding_parts (tree_of t id) e in
    ((tree_of t id, parts.0, h, ap (λ (x : Sexpr). item_of x 0) parts.2.is), (tree_of t id, parts.1, h, ap (λ (x : Sexpr). item_of x 1) parts.2.is))

-- item gave the binding's term
pub record IsTermOf (t : Table) (id term : ℕ) : Type 0 where
  pub tree : IsTree t term
  pub lowers : (scope : Scope) (nodes : List NodeValue) → lowered_binding scope nodes (tree_of t id) ≡ lowered scope nodes (tree_of t term)
  pub size : size_of (tree_of t term) ≤ size_of (tree_of t id)

lowers_binding : (scope : Scope) (nodes : List NodeValue) (v y : Sexpr) → lowered_binding scope nodes (list (more v (more y none))) ≡ lowered scope nodes y
unfolding lowered_binding lowered_second lowered_first
lowers_binding scope nodes v y = refl

pub term_from : (t : Table) (id term : ℕ) → IsTree t id → is_binding (tree_of t id) ≡ true → ((x y : Sexpr) → Means t id x → item_of x 1 ≡ Some y → Means t term y) → IsTermOf t id term
term_from t id term h e f =
    let parts = binding_parts (tree_of t id) e in
    let v = parts.0 in
    let y = parts.1 in
    let is : tree_of t id ≡ list (more v (more y none)) = parts.2.is in
    let means : Means t term y = f (tree_of t id) y h (ap (λ (x : Sexpr). item_of x 1) is) in
    let found : tree_of t term ≡ y = tree_is t term y means in
    let sizes : size_of (tree_of t id) ≡ 3 + (size_of v + (1 + (size_of y + (1 + 0)))) = ap size_of is in
    let same : size_of (tree_of t term) ≡ size_of y = ap size_of found in
    record {
      tree = subst (λ (x : Sexpr). Means t term x) (sym found) means;
      lowers = λ scope nodes. ap (lowered_binding scope nodes) is ∙ lowers_binding scope nodes v y ∙ ap (lowered scope nodes) (sym found);
      size = omega (arith, sizes, same);
    }

-- the next binding's term
pub next_binding : (w : Walk) (nodes : List NodeValue) (all some rest : Bor (List ℕ)) (b term body base : ℕ) → some.now ≡ b ∷ rest.now → base ≤ length w.values → IsTermOf w.table b term
    → outcome_from (with_frame (Bind all rest body base) w) nodes term ≡ outcome (with_frame (Bind all some body base) w) nodes
unfolding finished lowered_bound
next_binding w nodes all some rest b term body base e le is =
    rw (e, is.lowers (scope_at w) nodes) (sym (first_then (lowered (scope_at w) nodes (tree_of w.table term)) (λ ns. lowered_bound (scope_at w) ns (trees_of w.table rest.now)) base w.values
    (λ ns ts front. follows (lowered (with_bound (scope_at w) (variables_in (trees_of w.table all.now)) ts) ns (tree_of w.table body)) (λ made. finished w.table w.inner w.frames made.nodes (front ++ made.is ∷ []))) le))

first_binding : (t : Table) (ids : List ℕ) (b : ℕ) (rest : List ℕ) → ids ≡ b ∷ rest → are_bindings (trees_of t ids) ≡ true → (is_binding (tree_of t b) ≡ true) × (are_bindings (trees_of t rest) ≡ true)
first_binding t ids b rest e h =
    let all : (is_binding (tree_of t b) && are_bindings (trees_of t rest)) ≡ true = sym (ap (λ (is : List ℕ). are_bindings (trees_of t is)) e) ∙ h in
    (both (is_binding (tree_of t b)) (are_bindings (trees_of t rest)) all, both_right (is_binding (tree_of t b)) (are_bindings (trees_of t rest)) all)

pub record IsNext (w : Walk) (all rest : Bor (List ℕ)) (b body base : ℕ) : Type 0 where
  pub tree : IsTree w.table b
  pub binding : is_binding (tree_of w.table b) ≡ true
  pub waits : IsWaiting (with_frame (Bind all rest body base) w)
  pub within : base ≤ length w.values

pub binding_waits : (w : Walk) (all some rest : Bor (List ℕ)) (b body base : ℕ) → some.now ≡ b ∷ rest.now → IsReady (with_frame (Bind all some body base) w) → IsNext w all rest b body base
binding_waits w all some rest b body base e ready =
    let f = ready.0 in
    let trees = subst_first w.table some.now b rest.now e f.1 in
    let binds = first_binding w.table some.now b rest.now e f.4 in
    let le : base ≤ length w.values = f.5 in
    let same : ((length w.values + 1) - base) + length rest.now ≡ (length w.values - base) + length some.now = omega (arith, ap length e) in
    record { tree = trees.0; binding = binds.0; waits = ((f.0, trees.1, f.2, f.3, binds.1, omega (arith, le), same ∙ f.6, f.7), ready.1); within = le }

-- ---- the variables are bound

bound_count : (xs : Items) (ts : List LoweredTerm) → length ts ≡ length (variables_in xs) → length (bindings_of (variables_in xs) ts) ≡ length ts
bound_count none [] e = refl
bound_count none (t ∷ ts) e = absurd (omega (arith, e))
bound_count (more x xs) [] e = absurd (omega (arith, e))
bound_count (more x xs) (t ∷ ts) e = ap suc (bound_count xs ts (omega (arith, e)))

drop_front : {X : Type 0} (xs ys : List X) (n : ℕ) → n ≡ length xs → drop n (xs ++ ys) ≡ ys
drop_front [] ys n e = rw e refl
drop_front (x ∷ xs) ys zero e = absurd (omega arith)
drop_front (x ∷ xs) ys (suc n) e = drop_front xs ys n (omega arith)

unbound : (t : Table) (inner : Inner) (bound : List Binding) (count : ℕ) (frames : List Frame) (nodes : List NodeValue) (values : List LoweredTerm) → count ≡ length bound
    → finished t (record inner { variables = bound ++ inner.variables }) (Unbind count ∷ frames) nodes values ≡ finished t inner frames nodes values
unfolding finished
unbound t inner bound count frames nodes values e = ap (λ (vs : List Binding). finished t (record inner { variables = vs }) frames nodes values) (drop_front bound inner.variables count e)

pub record IsBody (w new : Walk) (nodes : List NodeValue) (all some : Bor (List ℕ)) (body base : ℕ) : Type 0 where
  pub tree : IsTree w.table body
  pub waits : IsWaiting new
  pub same : outcome_from new nodes body ≡ outcome (with_frame (Bind all some body base) w) nodes
  pub weighs : weight new.table new.frames + size_of (tree_of new.table body) ≤ weight w.table (Bind all some body base ∷ w.frames)
  pub table : new.table ≡ w.table
  pub outer : new.inner.outer ≡ w.inner.outer

body_starts : (w : Walk) (nodes : List NodeValue) (all some : Bor (List ℕ)) (body base count : ℕ) → some.now ≡ [] → count ≡ length all.now → length (drop base w.values) ≡ length all.now
    → outcome_from (with_frame (Unbind count) (bound_to (trees_of w.table all.now) base w)) nodes body ≡ outcome (with_frame (Bind all some body base) w) nodes
unfolding finished lowered_bound
body_starts w nodes all some body base count e number long =
    let names = variables_in (trees_of w.table all.now) in
    let bound_terms = drop base w.values in
    let bound = bindings_of names bound_terms in
    let counted : count ≡ length bound = omega (arith, number, long, bound_count (trees_of w.table all.now) (drop base w.values) (omega (arith, long, variables_count w.table all.now))) in
    let inner : Inner = record w.inner { variables = bound ++ w.inner.variables } in
    let later : Made → Result Made TermRefusal = λ made. finished w.table inner (Unbind count ∷ w.frames) made.nodes (gathered base w.values made.is) in
    let last : Made → Result Made TermRefusal = λ made. finished w.table w.inner w.frames made.nodes (gathered base w.values made.is) in
    let scope : Scope = with_bound (scope_at w) names bound_terms in
    rw (e, append-nil bound_terms) (
    ap (λ (bs : List Binding). follows (lowered (record { declared = w.inner.outer.declared; bound = bs }) nodes (tree_of w.table body)) later) (append_assoc bound w.inner.variables w.inner.outer.bound)
    ∙ follows_same (lowered scope nodes (tree_of w.table body)) later last (λ made. unbound w.table w.inner bound count w.frames made.nodes (gathered base w.values made.is) counted)
    )

pub body_waits : (w bound new : Walk) (nodes : List NodeValue) (all some : Bor (List ℕ)) (body base count : ℕ) → some.now ≡ [] → count ≡ length all.now → IsReady (with_frame (Bind all some body base) w) → bound ≡ bound_to (trees_of w.table all.now) base w → new ≡ with_frame (Unbind count) bound
    → IsBody w new nodes all some body base
body_waits w bound new nodes all some body base count e number ready is pushed =
    let f = ready.0 in
    let le : base ≤ length w.values = f.5 in
    let dropped : length (drop base w.values) ≡ length w.values - base = length-drop base w.values in
    let long : length (drop base w.values) ≡ length all.now = omega (arith, f.6, ap length e, dropped) in
    let names = variables_in (trees_of w.table all.now) in
    let bound_now = bindings_of names (drop base w.values) in
    let counted : length bound_now ≡ length all.now = omega (arith, long, bound_count (trees_of w.table all.now) (drop base w.values) (omega (arith, long, variables_count w.table all.now))) in
    let variables : length (bound_now ++ w.inner.variables) - count ≡ length w.inner.variables = omega (arith, length-append bound_now w.inner.variables, counted, number) in
    let values : length (take base w.values) + 1 ≡ base + 1 = omega (arith, length-take base w.values, le) in
    let frames : AreFrames w.table (length (bound_now ++ w.inner.variables) - count) (length (take base w.values) + 1) w.frames =
    subst (λ (n : ℕ). AreFrames w.table n (length (take base w.values) + 1) w.frames) (sym variables) (subst (λ (n : ℕ). AreFrames w.table (length w.inner.variables) n w.frames) (sym values) f.7) in
    subst (λ (n : Walk). IsBody w n nodes all some body base) (sym (pushed ∙ ap (with_frame (Unbind count)) is)) (
    record {
      tree = f.2;
      waits = ((omega (arith, length-append bound_now w.inner.variables, counted, number), frames), ready.1);
      same = body_starts w nodes all some body base count e number long;
      weighs = omega arith;
      table = refl;
      outer = refl;
    }
    )

-- ---- they go out of scope

pub unbinds : (w new : Walk) (nodes : List NodeValue) (count : ℕ) → IsReady (with_frame (Unbind count) w) → new ≡ record w { inner = without count w.inner } → Goes (outcome (with_frame (Unbind count) w) nodes) (weight w.table (Unbind count ∷ w.frames)) w new nodes
unfolding finished
unbinds w new nodes count ready is =
    subst (λ (n : Walk). Goes (outcome (with_frame (Unbind count) w) nodes) (weight w.table (Unbind count ∷ w.frames)) w n nodes) (sym is) (
    record {
      same = refl;
      ready = (subst (λ (n : ℕ). AreFrames w.table n (length w.values) w.frames) (sym (length-drop count w.inner.variables)) ready.0.1, ready.1);
      less = omega arith;
      table = refl;
      outer = refl;
    }
    )
