-- Two names among the arguments of an application.
use Rattle.std.proofs.Common.{◌≡◌, ℕ, ◌+◌, ◌≤◌, List, [], ◌∷◌, ◌++◌, length, Bor, Some, refl, sym, ap, subst, ◌∙◌, arith}
use Rattle.std.specs.Prelude.{Result, Ok, Err, IsErr, IsErrAnd}
use Rattle.std.proofs.lemmas.List.{length-append}
use Rattle.smt_lex.specs.declared.token.TokenKind.TheVariants.{Symbol}
use Rattle.smt_sexpr.specs.Tree.{Sexpr, leaf, list, symbol_of}
use Rattle.idl_node.specs.Nodes.{NodeValue}
use Rattle.idl_apply.specs.Applied.{Made}
use Rattle.idl_term.specs.Lowered.{lowered, lowered_leaf}
use Rattle.idl_scope.specs.Scopes.{LoweredTerm, Scope}
use Rattle.idl_scope.specs.declared.lowered.Lowered.{Lowered}
use Rattle.idl_apply.specs.code.Shapes.{Lowers}
use Rattle.idl_term.specs.code.Trees.{tree_of, trees_of, size_of, sizes_of}
use Rattle.idl_term.specs.code.Walks.{Walk, AreNamesBefore, LowersNames, scope_at, finished, outcome, outcome_behind, outcome_behind_names, IsReady, weight, Steps, with_frame}
use Rattle.idl_apply.specs.declared.error.TermError.{TermError}
use Rattle.idl_apply.specs.declared.error.TermError.TheVariants.{Refused, OutOfMemory}
use Rattle.idl_apply.specs.declared.operator.Operator.{Operator}
use Rattle.idl_term.specs.declared.machine.Frame.TheVariants.{Apply}
use Rattle.idl_term.proofs.FirstRefusals.{follows_err, follows_ok, follows_same}
use Rattle.idl_term.proofs.MachineSteps.{error_is, next_argument, steps_from, with_value}

-- ---- the terms of names

lowered_symbol : (scope : Scope) (nodes : List NodeValue) (x : Sexpr) (name : List ℕ) → symbol_of x ≡ Some name → lowered_leaf scope nodes Symbol name ≡ lowered scope nodes x
unfolding lowered
lowered_symbol scope nodes (leaf Symbol text) name e =
    let same : text ≡ name = cc in
    ap (λ (n : List ℕ). lowered_leaf scope nodes Symbol n) (sym same)
lowered_symbol scope nodes (leaf kind text) name e = absurd cc
lowered_symbol scope nodes (list items) name e = absurd cc

size_symbol : (x : Sexpr) (name : List ℕ) → symbol_of x ≡ Some name → size_of x ≡ 1
size_symbol (leaf kind text) name e = refl
size_symbol (list items) name e = absurd cc

-- ---- two arguments

module _ (w : Walk) (before : List NodeValue) (o : Operator) (all others : Bor (List ℕ)) (first second : List ℕ) (base : ℕ) (names : AreNamesBefore w.table all.now first second others.now) (ready : IsReady (with_frame (Apply o all base) w)) where
  -- what is behind the first of them
  abbrev rest : Bor (List ℕ)
  rest = record others { now = names.other ∷ others.now }

  sizes : sizes_of (trees_of w.table all.now) ≡ 2 + (2 + sizes_of (trees_of w.table others.now))
  sizes =
      let whole : sizes_of (trees_of w.table all.now) ≡ size_of (tree_of w.table names.one) + (1 + (size_of (tree_of w.table names.other) + (1 + sizes_of (trees_of w.table others.now)))) = ap (λ (is : List ℕ). sizes_of (trees_of w.table is)) names.all in
      omega (arith, whole, size_symbol _ _ names.one_is, size_symbol _ _ names.other_is)

  -- both are made, one after the other
  both_made : outcome_behind_names (with_frame (Apply o others base) w) before first second ≡ outcome (with_frame (Apply o all base) w) before
  both_made =
      let scope = scope_at w in
      let next : (m : Made) → outcome_behind (with_frame (Apply o others base) (with_value m.is w)) (lowered_leaf scope m.nodes Symbol second) ≡ finished w.table w.inner (Apply o rest base ∷ w.frames) m.nodes (w.values ++ m.is ∷ []) =
      λ (m : Made).
      let le : base ≤ length (w.values ++ m.is ∷ []) = omega (arith, ready.0.1, length-append w.values (m.is ∷ [])) in
      ap (outcome_behind (with_frame (Apply o others base) (with_value m.is w))) (lowered_symbol scope m.nodes _ second names.other_is)
      ∙ next_argument (with_value m.is w) m.nodes o rest others names.other base refl le in
      follows_same (lowered_leaf scope before Symbol first) _ (λ m. finished w.table w.inner (Apply o rest base ∷ w.frames) m.nodes (w.values ++ m.is ∷ [])) next
      ∙ ap (outcome_behind (with_frame (Apply o rest base) w)) (lowered_symbol scope before _ first names.one_is)
      ∙ next_argument w before o all rest names.one base names.all ready.0.1

  pub names_steps : (mid new : Walk) (nodes : List NodeValue) (r : Result (Unit {0}) TermError) → mid ≡ with_frame (Apply o others base) w
      → Steps (outcome_behind_names mid before first second) (weight mid.table mid.frames + 1) mid new nodes r → Steps (outcome (with_frame (Apply o all base) w) before) (weight w.table (Apply o all base ∷ w.frames)) w new nodes r
  names_steps mid new nodes r is s =
      let start : Walk = with_frame (Apply o others base) w in
      let here : Steps (outcome_behind_names start before first second) (weight start.table start.frames + 1) start new nodes r = subst (λ (m : Walk). Steps (outcome_behind_names m before first second) (weight m.table m.frames + 1) m new nodes r) is s in
      steps_from _ _ _ _ start w new nodes r both_made (omega (arith, sizes)) refl refl here

-- ---- the terms of both

refused_first : (scope : Scope) (old new : List NodeValue) (first second : List ℕ) (e : TermError) → Lowers new (lowered_leaf scope old Symbol first) (Err e) → LowersNames scope old new first second (Err e)
refused_first scope old new first second (Refused why) h = follows_err (lowered_leaf scope old Symbol first) (λ m. lowered_leaf scope m.nodes Symbol second) why h
refused_first scope old new first second OutOfMemory h = tt

refused_second : (scope : Scope) (old mid new : List NodeValue) (first second : List ℕ) (v : LoweredTerm) (e : TermError) → lowered_leaf scope old Symbol first ≡ Ok (record { nodes = mid; is = v }) → Lowers new (lowered_leaf scope mid Symbol second) (Err e) → LowersNames scope old new first second (Err e)
refused_second scope old mid new first second v (Refused why) one h = follows_ok (lowered_leaf scope old Symbol first) (λ m. lowered_leaf scope m.nodes Symbol second) (record { nodes = mid; is = v }) one ∙ h
refused_second scope old mid new first second v OutOfMemory one h = tt

pub first_refused : (scope : Scope) (old new : List NodeValue) (first second : List ℕ) (r : Result (Lowered × Lowered) TermError) (e : TermError) → IsErr r × IsErrAnd r (λ x. x ≡ e) → Lowers new (lowered_leaf scope old Symbol first) (Err e) → LowersNames scope old new first second r
first_refused scope old new first second r e is h = subst (LowersNames scope old new first second) (sym (error_is r e is)) (refused_first scope old new first second e h)

pub second_refused : (scope : Scope) (old mid new : List NodeValue) (first second : List ℕ) (v : LoweredTerm) (r : Result (Lowered × Lowered) TermError) (e : TermError) → IsErr r × IsErrAnd r (λ x. x ≡ e) → lowered_leaf scope old Symbol first ≡ Ok (record { nodes = mid; is = v })
    → Lowers new (lowered_leaf scope mid Symbol second) (Err e) → LowersNames scope old new first second r
second_refused scope old mid new first second v r e is one h = subst (LowersNames scope old new first second) (sym (error_is r e is)) (refused_second scope old mid new first second v e one h)
