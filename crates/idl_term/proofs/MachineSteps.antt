-- The steps of the machine that lowers a term.
use Rattle.std.proofs.Common.{◌≡◌, ℕ, ◌+◌, ◌-◌, ◌<◌, ◌≤◌, List, [], ◌∷◌, ◌++◌, length, take, drop, true, false, Bor, refl, sym, ap, subst, ◌∙◌, arith}
use Rattle.std.specs.Prelude.{Result, Ok, Err, IsErr, IsErrAnd, reverse}
use Rattle.std.proofs.lemmas.List.{append-nil, length-append, reverse-append, length-take, map-append, take-map, drop-map, take_rest}
use Rattle.smt_sexpr.specs.Table.{Table}
use Rattle.idl_node.specs.Nodes.{NodeValue}
use Rattle.idl_apply.specs.Applied.{Made, applied}
use Rattle.idl_apply.specs.Comparing.{follows}
use Rattle.idl_term.specs.Lowered.{lowered, lowered_each}
use Rattle.idl_apply.specs.Operators.{takes_count}
use Rattle.idl_scope.specs.Scopes.{LoweredTerm, shown_term, shown_terms}
use Rattle.idl_apply.specs.code.Shapes.{Lowers}
use Rattle.idl_term.specs.code.Trees.{tree_of, trees_of, IsTree, AreTrees, sizes_of}
use Rattle.idl_scope.specs.code.LocalNames.{Inner}
use Rattle.idl_term.specs.code.Walks.{Walk, scope_at, gathered, finished, outcome, outcome_behind, outcome_from, outcome_of, AreFrames, IsReadyWith, IsWaiting, weight, Goes, Steps, with_frame, application_made}
use Rattle.idl_apply.specs.declared.error.TermError.{TermError}
use Rattle.idl_apply.specs.declared.error.TermError.TheVariants.{OutOfMemory, Refused}
use Rattle.idl_apply.specs.declared.error.TermRefusal.{TermRefusal}
use Rattle.idl_apply.specs.declared.error.TermRefusal.TheVariants.{WrongCount}
use Rattle.idl_scope.specs.declared.lowered.Lowered.{Lowered}
use Rattle.idl_apply.specs.declared.operator.Operator.{Operator}
use Rattle.idl_term.specs.declared.machine.Frame.{Frame}
use Rattle.idl_term.specs.declared.machine.Frame.TheVariants.{Apply}
use Rattle.idl_term.proofs.FirstRefusals.{follows_err, follows_ok, first_then, starts}
use Rattle.idl_term.proofs.TreesOfIds.{counted}

-- ---- what the code keeps

abbrev pub seen : Table → Inner → List Frame → List Lowered → Walk
seen t inner frames values = record { table = t; inner = inner; frames = reverse frames; values = shown_terms values }

pub with_pushed : (w : Walk) (t : Table) (inner : Inner) (frames pushed : List Frame) (values : List Lowered) (f : Frame) → seen t inner frames values ≡ w → pushed ≡ frames ++ f ∷ [] → seen t inner pushed values ≡ with_frame f w
with_pushed w t inner frames pushed values f e p = ap (λ (fs : List Frame). seen t inner fs values) p ∙ ap (λ (fs : List Frame). record (seen t inner [] values) { frames = fs }) (reverse-append frames (f ∷ [])) ∙ ap (with_frame f) e

abbrev pub with_value : LoweredTerm → Walk → Walk
with_value v w = record w { values = w.values ++ v ∷ [] }

-- ---- steps

pub steps_from : (before later : Result Made TermRefusal) (limit bound : ℕ) (old start new : Walk) (nodes : List NodeValue) (result : Result (Unit {0}) TermError) → before ≡ later → limit ≤ bound → old.table ≡ start.table → old.inner.outer ≡ start.inner.outer
    → Steps before limit old new nodes result → Steps later bound start new nodes result
steps_from before later limit bound old start new nodes (Ok x) e le same_table same_outer g =
    record { same = g.same ∙ e; ready = g.ready; less = let l : weight new.table new.frames < limit = g.less in omega arith; table = g.table ∙ same_table; outer = g.outer ∙ same_outer }
steps_from before later limit bound old start new nodes (Err (Refused why)) e le same_table same_outer g = sym e ∙ g
steps_from before later limit bound old start new nodes (Err OutOfMemory) e le same_table same_outer g = tt

-- ---- an application

application_starts : (w : Walk) (nodes : List NodeValue) (o : Operator) (arguments : Bor (List ℕ)) (base : ℕ) → takes_count o (length arguments.now) ≡ true → base ≡ length w.values
    → outcome (with_frame (Apply o arguments base) w) nodes ≡ outcome_behind w (application_made o (scope_at w) nodes (trees_of w.table arguments.now))
unfolding finished
application_starts w nodes o arguments base count e =
    rw (counted w.table arguments.now, count) (starts (lowered_each (scope_at w) nodes (trees_of w.table arguments.now)) (λ ns ts. applied o ns ts) (λ ns ts. finished w.table w.inner w.frames ns ts) w.values base e)

pub opens_application : (w new : Walk) (nodes : List NodeValue) (o : Operator) (arguments : Bor (List ℕ)) (base : ℕ) → IsWaiting w → AreTrees w.table arguments.now → takes_count o (length arguments.now) ≡ true → base ≡ length w.values → new ≡ with_frame (Apply o arguments base) w
    → Goes (outcome_behind w (application_made o (scope_at w) nodes (trees_of w.table arguments.now))) (weight w.table w.frames + (3 + sizes_of (trees_of w.table arguments.now))) w new nodes
opens_application w new nodes o arguments base ready trees count e is =
    let before = outcome_behind w (application_made o (scope_at w) nodes (trees_of w.table arguments.now)) in
    let limit = weight w.table w.frames + (3 + sizes_of (trees_of w.table arguments.now)) in
    let so_many : (length w.values - base) + length arguments.now ≡ length arguments.now = omega (arith, e) in
    let next : length w.values + 1 ≡ base + 1 = omega (arith, e) in
    subst (λ (n : Walk). Goes before limit w n nodes) (sym is) (
    record {
      same = application_starts w nodes o arguments base count e;
      ready = ((trees, omega (arith, e), ap (takes_count o) so_many ∙ count, subst (λ (n : ℕ). AreFrames w.table (length w.inner.variables) n w.frames) next ready.0), ready.1);
      less = omega arith;
      table = refl;
      outer = refl;
    }
    )

pub refuses_count : (w : Walk) (nodes : List NodeValue) (o : Operator) (arguments : List ℕ) → takes_count o (length arguments) ≡ false → outcome_behind w (application_made o (scope_at w) nodes (trees_of w.table arguments)) ≡ Err WrongCount
refuses_count w nodes o arguments count = rw (counted w.table arguments, count) refl

-- the next argument
pub next_argument : (w : Walk) (nodes : List NodeValue) (o : Operator) (all rest : Bor (List ℕ)) (x base : ℕ) → all.now ≡ x ∷ rest.now → base ≤ length w.values
    → outcome_from (with_frame (Apply o rest base) w) nodes x ≡ outcome (with_frame (Apply o all base) w) nodes
unfolding finished lowered_each
next_argument w nodes o all rest x base e le =
    rw e (sym (first_then (lowered (scope_at w) nodes (tree_of w.table x)) (λ ns. lowered_each (scope_at w) ns (trees_of w.table rest.now)) base w.values
    (λ ns ts front. follows (applied o ns ts) (λ made. finished w.table w.inner w.frames made.nodes (front ++ made.is ∷ []))) le))

pub subst_first : (t : Table) (ids : List ℕ) (x : ℕ) (rest : List ℕ) → ids ≡ x ∷ rest → AreTrees t ids → IsTree t x × AreTrees t rest
subst_first t [] x rest e h = absurd cc
subst_first t (id ∷ ids) x rest e h =
    let first : id ≡ x = cc in
    let others : ids ≡ rest = cc in
    (subst (λ (i : ℕ). IsTree t i) first h.0, subst (λ (is : List ℕ). AreTrees t is) others h.1)

-- the last argument is made
pub application_ends : (w new : Walk) (before nodes : List NodeValue) (o : Operator) (base : ℕ) (v : LoweredTerm) → IsReadyWith (base + 1) w → base ≤ length w.values → applied o before (drop base w.values) ≡ Ok (record { nodes = nodes; is = v }) → new ≡ record w { values = gathered base w.values v }
    → Goes (outcome_of o base w before) (weight w.table w.frames + 1) w new nodes
application_ends w new before nodes o base v ready le made is =
    let count : length (take base w.values ++ v ∷ []) ≡ base + 1 = omega (arith, length-append (take base w.values) (v ∷ []), length-take base w.values) in
    subst (λ (n : Walk). Goes (outcome_of o base w before) (weight w.table w.frames + 1) w n nodes) (sym is) (
    record {
      same = sym (follows_ok (applied o before (drop base w.values)) (λ m. finished w.table w.inner w.frames m.nodes (gathered base w.values m.is)) (record { nodes = nodes; is = v }) made);
      ready = (subst (λ (n : ℕ). AreFrames w.table (length w.inner.variables) n w.frames) (sym count) ready.0, ready.1);
      less = omega arith;
      table = refl;
      outer = refl;
    }
    )

pub last_argument : (w : Walk) (nodes : List NodeValue) (o : Operator) (all : Bor (List ℕ)) (base : ℕ) → all.now ≡ [] → outcome_of o base w nodes ≡ outcome (with_frame (Apply o all base) w) nodes
unfolding finished lowered_each
last_argument w nodes o all base e = rw (e, append-nil (drop base w.values)) refl

-- ---- refusals

pub steps_refused : (first : Result Made TermRefusal) (next : Made → Result Made TermRefusal) (limit : ℕ) (old new : Walk) (now nodes : List NodeValue) (e : TermError) → Lowers now first (Err e) → Steps (follows first next) limit old new nodes (Err e)
steps_refused first next limit old new now nodes (Refused why) h = follows_err first next why h
steps_refused first next limit old new now nodes OutOfMemory h = tt

-- what `?` gives back
pub error_is : {A : Type 0} (r : Result A TermError) (e : TermError) → IsErr r × IsErrAnd r (λ x. x ≡ e) → r ≡ Err e
error_is (Ok a) e h = absurd h.1
error_is (Err x) e h = ap Err h.1

pub steps_error : (first : Result Made TermRefusal) (next : Made → Result Made TermRefusal) (limit : ℕ) (old new : Walk) (now nodes : List NodeValue) (r : Result (Unit {0}) TermError) (e : TermError) → IsErr r × IsErrAnd r (λ x. x ≡ e) → Lowers now first (Err e) → Steps (follows first next) limit old new nodes r
steps_error first next limit old new now nodes r e is h =
    subst (λ (s : Result (Unit {0}) TermError). Steps (follows first next) limit old new nodes s) (sym (error_is r e is)) (steps_refused first next limit old new now nodes e h)

-- ---- values

pub with_gathered : (w : Walk) (t : Table) (inner : Inner) (frames : List Frame) (values taken pushed : List Lowered) (v : Lowered) (base : ℕ) → seen t inner frames values ≡ w → taken ≡ take base values → pushed ≡ taken ++ v ∷ []
    → seen t inner frames pushed ≡ record w { values = gathered base w.values (shown_term v) }
with_gathered w t inner frames values taken pushed v base e cut p =
    let shown : shown_terms pushed ≡ gathered base (shown_terms values) (shown_term v) =
    ap shown_terms p ∙ map-append shown_term taken (v ∷ []) ∙ ap (λ (ts : List LoweredTerm). ts ++ shown_term v ∷ []) (ap shown_terms cut ∙ sym (take-map shown_term base values)) in
    ap (λ (vs : List LoweredTerm). record (seen t inner frames values) { values = vs }) shown ∙ ap (λ (x : Walk). record x { values = gathered base x.values (shown_term v) }) e

pub arguments_are : (w : Walk) (t : Table) (inner : Inner) (frames : List Frame) (values slice : List Lowered) (base : ℕ) → seen t inner frames values ≡ w → slice ≡ values → shown_terms (take (length slice - base) (drop base slice)) ≡ drop base w.values
arguments_are w t inner frames values slice base e is =
    ap shown_terms (take_rest slice base) ∙ sym (drop-map shown_term base slice) ∙ ap (λ (vs : List Lowered). drop base (shown_terms vs)) is ∙ ap (λ (x : Walk). drop base x.values) e
