-- How frames go on, and the whole run.
use Rattle.std.proofs.Common.{◌≡◌, ℕ, ◌+◌, ◌-◌, ◌<◌, ◌≤◌, List, [], ◌∷◌, ◌++◌, length, take, drop, true, Bor, refl, sym, ap, subst, ◌∙◌, arith}
use Rattle.std.specs.Prelude.{Result, Ok, Err, IsErr, IsErrAnd, ◌&&◌, reverse}
use Rattle.std.proofs.lemmas.List.{append_assoc, length-append, length-take, length-drop, map-append, nil_from_length, take-append-drop}
use Rattle.smt_sexpr.specs.Table.{Table}
use Rattle.smt_sexpr.specs.Tree.{none, more}
use Rattle.idl_node.specs.Nodes.{NodeValue}
use Rattle.idl_apply.specs.Applied.{Made}
use Rattle.idl_apply.specs.Comparing.{follows}
use Rattle.idl_term.specs.Lowered.{lowered, is_binding, are_bindings, variable_in}
use Rattle.idl_scope.specs.Scopes.{LoweredTerm, Scope, Binding, bindings_of, shown_term, shown_terms}
use Rattle.idl_apply.specs.code.Shapes.{Lowers}
use Rattle.idl_term.specs.code.Trees.{tree_of, trees_of, IsTree, AreTrees, size_of, sizes_of}
use Rattle.idl_scope.specs.code.LocalNames.{Inner, without}
use Rattle.idl_term.specs.code.Walks.{Walk, scope_at, ended, finished, outcome, outcome_from, outcome_of, AreFrames, IsReady, weight, Goes, Steps, with_frame, bound_to}
use Rattle.idl_apply.specs.declared.error.TermError.{TermError}
use Rattle.idl_apply.specs.declared.error.TermError.TheVariants.{Refused, OutOfMemory}
use Rattle.idl_apply.specs.declared.error.TermRefusal.{TermRefusal}
use Rattle.idl_scope.specs.declared.lowered.Lowered.{Lowered}
use Rattle.idl_apply.specs.declared.operator.Operator.{Operator}
use Rattle.idl_term.specs.declared.machine.Frame.{Frame}
use Rattle.idl_term.specs.declared.machine.Frame.TheVariants.{Apply, Bind, Unbind}
use Rattle.idl_term.proofs.FirstRefusals.{drop_within, take_within}
use Rattle.idl_term.proofs.MachineSteps.{error_is, steps_from, seen, next_argument, last_argument}
use Rattle.idl_term.proofs.LetSteps.{both, both_right, IsTermOf, next_binding, IsBody, unbinds}
use Rattle.idl_term.proofs.BindingNames.{variables, all_bind, variables_count, variables_append, bind_append}

-- ---- applications

pub argument_steps : (w mid new : Walk) (before nodes : List NodeValue) (o : Operator) (all rest : Bor (List ℕ)) (x base : ℕ) (r : Result (Unit {0}) TermError) → all.now ≡ x ∷ rest.now → IsReady (with_frame (Apply o all base) w) → mid ≡ with_frame (Apply o rest base) w
    → Steps (outcome_from mid before x) (weight mid.table mid.frames + size_of (tree_of mid.table x)) mid new nodes r → Steps (outcome (with_frame (Apply o all base) w) before) (weight w.table (Apply o all base ∷ w.frames)) w new nodes r
argument_steps w mid new before nodes o all rest x base r e ready is s =
    let le : base ≤ length w.values = ready.0.1 in
    let size : sizes_of (trees_of w.table all.now) ≡ size_of (tree_of w.table x) + (1 + sizes_of (trees_of w.table rest.now)) = ap (λ (is : List ℕ). sizes_of (trees_of w.table is)) e in
    let start : Walk = with_frame (Apply o rest base) w in
    let here : Steps (outcome_from start before x) (weight w.table start.frames + size_of (tree_of w.table x)) start new nodes r = subst (λ (m : Walk). Steps (outcome_from m before x) (weight m.table m.frames + size_of (tree_of m.table x)) m new nodes r) is s in
    steps_from _ _ _ _ start w new nodes r (next_argument w before o all rest x base e le) (omega (arith, size)) refl refl here

pub last_steps : (w new : Walk) (before nodes : List NodeValue) (o : Operator) (all : Bor (List ℕ)) (base : ℕ) (r : Result (Unit {0}) TermError) → all.now ≡ [] → Steps (outcome_of o base w before) (weight w.table w.frames + 1) w new nodes r
    → Steps (outcome (with_frame (Apply o all base) w) before) (weight w.table (Apply o all base ∷ w.frames)) w new nodes r
last_steps w new before nodes o all base r e s = steps_from _ _ _ _ w w new nodes r (last_argument w before o all base e) (omega arith) refl refl s

-- ---- bindings

pub binding_steps : (w mid new : Walk) (before nodes : List NodeValue) (all some rest : Bor (List ℕ)) (b term body base : ℕ) (r : Result (Unit {0}) TermError) → some.now ≡ b ∷ rest.now → base ≤ length w.values → IsTermOf w.table b term → mid ≡ with_frame (Bind all rest body base) w
    → Steps (outcome_from mid before term) (weight mid.table mid.frames + size_of (tree_of mid.table term)) mid new nodes r → Steps (outcome (with_frame (Bind all some body base) w) before) (weight w.table (Bind all some body base ∷ w.frames)) w new nodes r
binding_steps w mid new before nodes all some rest b term body base r e le of is s =
    let size : sizes_of (trees_of w.table some.now) ≡ size_of (tree_of w.table b) + (1 + sizes_of (trees_of w.table rest.now)) = ap (λ (is : List ℕ). sizes_of (trees_of w.table is)) e in
    let smaller : size_of (tree_of w.table term) ≤ size_of (tree_of w.table b) = of.size in
    let start : Walk = with_frame (Bind all rest body base) w in
    let here : Steps (outcome_from start before term) (weight w.table start.frames + size_of (tree_of w.table term)) start new nodes r = subst (λ (m : Walk). Steps (outcome_from m before term) (weight m.table m.frames + size_of (tree_of m.table term)) m new nodes r) is s in
    steps_from _ _ _ _ start w new nodes r (next_binding w before all some rest b term body base e le of) (omega (arith, size, smaller)) refl refl here

pub body_steps : (w mid new : Walk) (before nodes : List NodeValue) (all some : Bor (List ℕ)) (body base : ℕ) (r : Result (Unit {0}) TermError) → IsBody w mid before all some body base → Steps (outcome_from mid before body) (weight mid.table mid.frames + size_of (tree_of mid.table body)) mid new nodes r
    → Steps (outcome (with_frame (Bind all some body base) w) before) (weight w.table (Bind all some body base ∷ w.frames)) w new nodes r
body_steps w mid new before nodes all some body base r is s = steps_from _ _ _ _ mid w new nodes r is.same is.weighs is.table is.outer s

-- ---- variables are bound from the last on

bindings_append : (ns ms : List (List ℕ)) (ts us : List LoweredTerm) → length ns ≡ length ts → bindings_of (ns ++ ms) (ts ++ us) ≡ bindings_of ns ts ++ bindings_of ms us
bindings_append [] ms [] us e = refl
bindings_append [] ms (t ∷ ts) us e = absurd (omega (arith, e))
bindings_append (n ∷ ns) ms [] us e = absurd (omega (arith, e))
bindings_append (n ∷ ns) ms (t ∷ ts) us e = ap (λ (bs : List Binding). record { name = n; stands = t } ∷ bs) (bindings_append ns ms ts us (omega (arith, e)))

pub trees_apart : (t : Table) (xs : List ℕ) (x : ℕ) → AreTrees t (xs ++ x ∷ []) → AreTrees t xs × IsTree t x
trees_apart t [] x h = (tt, h.0)
trees_apart t (y ∷ xs) x h = let r = trees_apart t xs x h.1 in ((h.0, r.0), r.1)

bound_together : (t : Table) (others : List ℕ) (b k base : ℕ) (values : List LoweredTerm) → base + length others ≡ k → k ≤ length values
    → bindings_of (variables t (others ++ b ∷ [])) (drop base values) ≡ bindings_of (variables t others) (drop base (take k values)) ++ bindings_of (variable_in (tree_of t b) ∷ []) (drop k values)
bound_together t others b k base values e le =
    let taken : length (take k values) ≡ k = omega (arith, length-take k values, le) in
    let parted : drop base values ≡ drop base (take k values) ++ drop k values = ap (drop base) (sym (take-append-drop k values)) ∙ drop_within base (take k values) (drop k values) (omega (arith, taken, e)) in
    let even : length (variables t others) ≡ length (drop base (take k values)) = omega (arith, variables_count t others, length-drop base (take k values), taken, e) in
    ap (λ (ts : List LoweredTerm). bindings_of (variables t (others ++ b ∷ [])) ts) parted
    ∙ ap (λ (ns : List (List ℕ)). bindings_of ns (drop base (take k values) ++ drop k values)) (variables_append t others (b ∷ []))
    ∙ bindings_append (variables t others) (variable_in (tree_of t b) ∷ []) (drop base (take k values)) (drop k values) even

taken_twice : (k base : ℕ) (values : List LoweredTerm) → base ≤ k → k ≤ length values → take base (take k values) ≡ take base values
taken_twice k base values h le =
    let taken : length (take k values) ≡ k = omega (arith, length-take k values, le) in
    sym (ap (take base) (sym (take-append-drop k values)) ∙ take_within base (take k values) (drop k values) (omega (arith, taken, h)))

pub bound_once_more : (t : Table) (w : Walk) (others : List ℕ) (b base : ℕ) → base + length (others ++ b ∷ []) ≡ length w.values
    → bound_to (trees_of t others) base (bound_to (more (tree_of t b) none) (length w.values - 1) w) ≡ bound_to (trees_of t (others ++ b ∷ [])) base w
bound_once_more t w others b base e =
    let k : ℕ = length w.values - 1 in
    let count : length (others ++ b ∷ []) ≡ length others + 1 = omega (arith, length-append others (b ∷ [])) in
    let even : base + length others ≡ length w.values - 1 = omega (arith, e, count) in
    let one : List Binding = bindings_of (variable_in (tree_of t b) ∷ []) (drop (length w.values - 1) w.values) in
    let together : bindings_of (variables t others) (drop base (take (length w.values - 1) w.values)) ++ (one ++ w.inner.variables) ≡ bindings_of (variables t (others ++ b ∷ [])) (drop base w.values) ++ w.inner.variables =
    sym (append_assoc (bindings_of (variables t others) (drop base (take (length w.values - 1) w.values))) one w.inner.variables)
    ∙ ap (λ (bs : List Binding). bs ++ w.inner.variables) (sym (bound_together t others b (length w.values - 1) base w.values even (omega arith))) in
    ap (λ (vs : List Binding). record w { inner = record w.inner { variables = vs }; values = take base (take (length w.values - 1) w.values) }) together
    ∙ ap (λ (ts : List LoweredTerm). record w { inner = record w.inner { variables = bindings_of (variables t (others ++ b ∷ [])) (drop base w.values) ++ w.inner.variables }; values = ts }) (taken_twice (length w.values - 1) base w.values (omega (arith, even)) (omega arith))

-- what holds while they are bound
pub record IsBinding (t : Table) (rest : List ℕ) (base : ℕ) (now target : Walk) : Type 0 where
  pub table : now.table ≡ t
  pub trees : AreTrees t rest
  pub bindings : are_bindings (trees_of t rest) ≡ true
  pub values : base + length rest ≡ length now.values
  pub same : bound_to (trees_of t rest) base now ≡ target

-- the last of some bindings
pub record IsLast (w : Walk) (b : ℕ) : Type 0 where
  pub tree : IsTree w.table b
  pub binding : is_binding (tree_of w.table b) ≡ true
  pub some : 0 < length w.values

pub binding_last : (t : Table) (rest others : List ℕ) (b base : ℕ) (now target : Walk) → IsBinding t rest base now target → rest ≡ others ++ b ∷ [] → IsLast now b
binding_last t rest others b base now target is e =
    let trees = trees_apart t others b (subst (AreTrees t) e is.trees) in
    let binds : (all_bind t others && all_bind t (b ∷ [])) ≡ true = sym (bind_append t others (b ∷ [])) ∙ ap (all_bind t) (sym e) ∙ is.bindings in
    let last : (is_binding (tree_of t b) && true) ≡ true = both_right (all_bind t others) (all_bind t (b ∷ [])) binds in
    record {
      tree = subst (λ (s : Table). IsTree s b) (sym is.table) trees.1;
      binding = subst (λ (s : Table). is_binding (tree_of s b) ≡ true) (sym is.table) (both (is_binding (tree_of t b)) true last);
      some = omega (arith, is.values, ap length e, length-append others (b ∷ []));
    }

pub binding_more : (t : Table) (rest others : List ℕ) (b base : ℕ) (now new target : Walk) → IsBinding t rest base now target → rest ≡ others ++ b ∷ [] → new ≡ bound_to (more (tree_of now.table b) none) (length now.values - 1) now → IsBinding t others base new target
binding_more t rest others b base now new target is e step =
    let trees = trees_apart t others b (subst (AreTrees t) e is.trees) in
    let binds : (all_bind t others && all_bind t (b ∷ [])) ≡ true = sym (bind_append t others (b ∷ [])) ∙ ap (all_bind t) (sym e) ∙ is.bindings in
    let count : length rest ≡ length others + 1 = omega (arith, ap length e, length-append others (b ∷ [])) in
    let here : new ≡ bound_to (more (tree_of t b) none) (length now.values - 1) now = step ∙ ap (λ (s : Table). bound_to (more (tree_of s b) none) (length now.values - 1) now) is.table in
    let values : length new.values ≡ length now.values - 1 = ap (λ (x : Walk). length x.values) here ∙ length-take (length now.values - 1) now.values ∙ omega arith in
    record {
      table = ap (λ (x : Walk). x.table) here ∙ is.table;
      trees = trees.0;
      bindings = both (all_bind t others) (all_bind t (b ∷ [])) binds;
      values = omega (arith, values, is.values, count);
      same = ap (bound_to (trees_of t others) base) here ∙ bound_once_more t now others b base (ap (λ (is : List ℕ). base + length is) (sym e) ∙ is.values) ∙ ap (λ (is : List ℕ). bound_to (trees_of t is) base now) (sym e) ∙ is.same;
    }

-- ---- variables go out of scope

pub unbind_steps : (w : Walk) (t : Table) (inner less : Inner) (frames : List Frame) (values : List Lowered) (nodes : List NodeValue) (frame : Frame) (count : ℕ) → frame ≡ Unbind count → IsReady (with_frame frame w) → seen t inner frames values ≡ w → less ≡ without count inner
    → Goes (outcome (with_frame frame w) nodes) (weight w.table (frame ∷ w.frames)) w (seen t less frames values) nodes
unbind_steps w t inner less frames values nodes frame count e ready is step =
    let new : seen t less frames values ≡ record w { inner = without count w.inner } =
    ap (λ (i : Inner). seen t i frames values) step ∙ ap (λ (x : Walk). record x { inner = without count x.inner }) is in
    let here : IsReady (with_frame (Unbind count) w) = subst (λ (f : Frame). IsReady (with_frame f w)) e ready in
    subst (λ (f : Frame). Goes (outcome (with_frame f w) nodes) (weight w.table (f ∷ w.frames)) w (seen t less frames values) nodes) (sym e) (unbinds w (seen t less frames values) nodes count here new)

-- ---- the whole run

-- what holds while the machine runs
pub record IsRunning (now : Walk) (nodes start : List NodeValue) (target : Result Made TermRefusal) : Type 0 where
  pub ready : IsReady now
  pub same : outcome now nodes ≡ target
  pub front : take (length start) nodes ≡ start

made_alone : (w : Walk) (first : Result Made TermRefusal) → follows first (λ made. ended made.nodes ([] ++ made.is ∷ [])) ≡ first
made_alone w (Ok made) = refl
made_alone w (Err why) = refl

pub starts_outcome : (w : Walk) (nodes : List NodeValue) (id : ℕ) → w.frames ≡ [] → w.values ≡ [] → outcome_from w nodes id ≡ lowered (scope_at w) nodes (tree_of w.table id)
unfolding finished
starts_outcome w nodes id none_open none_made =
    ap (λ (fs : List Frame). follows (lowered (scope_at w) nodes (tree_of w.table id)) (λ made. finished w.table w.inner fs made.nodes (w.values ++ made.is ∷ []))) none_open
    ∙ ap (λ (ts : List LoweredTerm). follows (lowered (scope_at w) nodes (tree_of w.table id)) (λ made. ended made.nodes (ts ++ made.is ∷ []))) none_made
    ∙ made_alone w (lowered (scope_at w) nodes (tree_of w.table id))

last_value : (nodes : List NodeValue) (values : List LoweredTerm) (others : List LoweredTerm) (v : LoweredTerm) → length values ≡ 1 → values ≡ others ++ v ∷ [] → ended nodes values ≡ Ok (record { nodes = nodes; is = v })
last_value nodes values [] v one e = rw e refl
last_value nodes values (x ∷ others) v one e = absurd (omega (arith, one, ap length e, length-append others (v ∷ [])))

lowers_refused : (before target : Result Made TermRefusal) (limit : ℕ) (old new : Walk) (now nodes : List NodeValue) (e : TermError) → before ≡ target → Steps before limit old new nodes (Err e) → Lowers now target (Err e)
lowers_refused before target limit old new now nodes (Refused why) same s = sym same ∙ s
lowers_refused before target limit old new now nodes OutOfMemory same s = tt

pub lowers_error : (before target : Result Made TermRefusal) (limit : ℕ) (old new : Walk) (now nodes : List NodeValue) (r : Result Lowered TermError) (e : TermError) → IsErr r × IsErrAnd r (λ x. x ≡ e) → before ≡ target → Steps before limit old new nodes (Err e) → Lowers now target r
lowers_error before target limit old new now nodes r e is same s =
    subst (λ (x : Result Lowered TermError). Lowers now target x) (sym (error_is r e is)) (lowers_refused before target limit old new now nodes e same s)

pub running : (before target : Result Made TermRefusal) (limit : ℕ) (old new : Walk) (start nodes : List NodeValue) → before ≡ target → Goes before limit old new nodes → take (length start) nodes ≡ start → IsRunning new nodes start target
running before target limit old new start nodes e g front = record { ready = g.ready; same = g.same ∙ e; front = front }

pub value_lowers : (now : Walk) (nodes start : List NodeValue) (target : Result Made TermRefusal) (frames : List Frame) (values rest : List Lowered) (v : Lowered) → IsRunning now nodes start target → reverse frames ≡ now.frames → shown_terms values ≡ now.values → length frames ≡ 0 → values ≡ rest ++ v ∷ []
    → target ≡ Ok (record { nodes = nodes; is = shown_term v })
unfolding finished
value_lowers now nodes start target frames values rest v is opened made none_open last =
    let open_none : now.frames ≡ [] = sym opened ∙ ap reverse (nil_from_length frames none_open) in
    let one : length now.values ≡ 1 = subst (λ (fs : List Frame). AreFrames now.table (length now.inner.variables) (length now.values) fs) open_none is.ready.0 in
    let shown : now.values ≡ shown_terms rest ++ shown_term v ∷ [] = sym made ∙ ap shown_terms last ∙ map-append shown_term rest (v ∷ []) in
    sym is.same ∙ ap (λ (fs : List Frame). finished now.table now.inner fs nodes now.values) open_none ∙ last_value nodes now.values (shown_terms rest) (shown_term v) one shown

-- a refusal says nothing of the table that is left
pub refused_anyway : (made : Result Made TermRefusal) (now later : List NodeValue) (e : TermError) → Lowers now made (Err e) → Lowers later made (Err e)
refused_anyway made now later (Refused why) h = h
refused_anyway made now later OutOfMemory h = tt

-- the whole run from the start
pub lowers_started : (table : Table) (id : ℕ) (start : Walk) (scope : Scope) (before nodes now : List NodeValue) (r : Result Lowered TermError) → start ≡ record { table = table; inner = record { outer = scope; variables = [] }; frames = []; values = [] } → nodes ≡ before
    → Lowers now (lowered (scope_at start) nodes (tree_of start.table id)) r → Lowers now (lowered scope before (tree_of table id)) r
lowers_started table id start scope before nodes now r is same h =
    let here : Lowers now (lowered scope nodes (tree_of table id)) r = subst (λ (w : Walk). Lowers now (lowered (scope_at w) nodes (tree_of w.table id)) r) is h in
    subst (λ (ns : List NodeValue). Lowers now (lowered scope ns (tree_of table id)) r) same here
