-- Terms that are tested one after the other.
use Rattle.std.proofs.Common.{refl, sym, ap, subst, ◌∙◌, arith, ◌≡◌, ◌<◌, ◌≤◌, ◌+◌, ◌++◌, ℕ, ℤ, List, [], length, take, drop, get_or, get_or-take, Bool, false, Option, Some, None, Result, Ok, Err}
use Rattle.std.specs.Prelude.{option_map}
use Rattle.std.proofs.lemmas.List.{length-take, take-append-drop}
use Rattle.smt_sexpr.specs.Tree.{Sexpr, Items, more}
use Rattle.smt_sexpr.specs.Table.{Table, Means, MeansEach}
use Rattle.smt_sexpr.proofs.Shapes.{next_of, none_of}
use Rattle.idl_node.specs.Laws.{TruthStays}
use Rattle.idl_node.specs.Nodes.{NodeValue}
use Rattle.idl_node.specs.Tables.{IsTableOver}
use Rattle.idl_node.specs.Truth.{truth, AreTruths}
use Rattle.idl_apply.specs.Applied.{Made}
use Rattle.idl_term.specs.Lowered.{lowered}
use Rattle.idl_term.specs.Scopes.{Scope}
use Rattle.idl_apply.specs.declared.error.TermRefusal.{TermRefusal}
use Rattle.idl_apply.specs.code.Shapes.{Lowers}
use Rattle.idl_apply.specs.declared.error.TermError.{TermError}
use Rattle.idl_apply.specs.declared.error.TermError.TheVariants.{OutOfMemory, Refused}
use Rattle.smt_script.specs.code.Shapes.{Agrees, IsTested, error_of_term}
use Rattle.smt_script.specs.declared.error.ScriptError.{ScriptError}
use Rattle.smt_script.specs.declared.error.ScriptError.TheVariants as script
use Rattle.smt_script.specs.declared.state.Effect.TheVariants.{Tell}
use Rattle.smt_script.specs.declared.state.Mode.{Mode}
use Rattle.smt_script.specs.declared.state.Mode.TheVariants as mode
use Rattle.smt_script.specs.declared.state.Notice.TheVariants.{Values}
use Rattle.idl_term.specs.Contexts.{scope_of}
use Rattle.smt_script.specs.code.Kept.{Kept, StandsFor}
use Rattle.smt_script.specs.States.{State, first_refusal, terms_refusal, with_model, valued_by, after_values}
use Rattle.smt_script.specs.declared.error.Refusal.{Refusal}
use Rattle.smt_script.specs.declared.error.Refusal.TheVariants.{Term}

module _ (t : Table) (ids : List ℕ) (scope : Scope) (nodes : List NodeValue) where
  -- the first i terms are accepted: what is refused of all is what is refused of the others
  abbrev pub IsTestedTo : ℕ → Type 0
  IsTestedTo i = (ts : Items) → MeansEach t ids ts → (rest : Items) × MeansEach t (drop i ids) rest × (terms_refusal scope nodes ts ≡ terms_refusal scope nodes rest)

  pub tested_none : IsTestedTo 0
  tested_none ts h = (ts, h, refl)

  accepted_first : (x : Sexpr) (others : Items) (made : Made) → lowered scope nodes x ≡ Ok made → terms_refusal scope nodes (more x others) ≡ terms_refusal scope nodes others
  accepted_first x others made e = ap (λ (found : Result Made TermRefusal). first_refusal found (terms_refusal scope nodes others)) e

  refused_first : (x : Sexpr) (others : Items) (why : TermRefusal) → lowered scope nodes x ≡ Err why → terms_refusal scope nodes (more x others) ≡ Some why
  refused_first x others why e = ap (λ (found : Result Made TermRefusal). first_refusal found (terms_refusal scope nodes others)) e

  module _ (i : ℕ) (h : IsTestedTo i) (within : i < length ids) where
    pub tested_more : ((x : Sexpr) → Means t (get_or ids i 0) x → (made : Made) × (lowered scope nodes x ≡ Ok made)) → IsTestedTo (i + 1)
    tested_more accepted ts means =
        let so_far = h ts means in
        let n = next_of t ids i so_far.0 within so_far.1 in
        let made = accepted n.first n.first_means in
        (n.others, n.means, so_far.2 ∙ ap (terms_refusal scope nodes) n.is ∙ accepted_first n.first n.others made.0 made.1)

    pub tested_refused : (why : TermRefusal) → ((x : Sexpr) → Means t (get_or ids i 0) x → lowered scope nodes x ≡ Err why) → (ts : Items) → MeansEach t ids ts → terms_refusal scope nodes ts ≡ Some why
    tested_refused why refused ts means =
        let so_far = h ts means in
        let n = next_of t ids i so_far.0 within so_far.1 in
        so_far.2 ∙ ap (terms_refusal scope nodes) n.is ∙ refused_first n.first n.others why (refused n.first n.first_means)

    -- the test ends with the error of the term
    pub tested_error : (now : List NodeValue) (error : TermError) (e : ScriptError) → e ≡ error_of_term error → ((x : Sexpr) → Means t (get_or ids i 0) x → Lowers now (lowered scope nodes x) (Err error)) → (ts : Items) → MeansEach t ids ts → IsTested (terms_refusal scope nodes ts) (Err e)
    tested_error now OutOfMemory e from lowers ts means = subst (λ (w : ScriptError). IsTested (terms_refusal scope nodes ts) (Err w)) (sym from) tt
    tested_error now (Refused why) e from lowers ts means =
        subst (λ (w : ScriptError). IsTested (terms_refusal scope nodes ts) (Err w)) (sym from) (ap (option_map Term) (tested_refused why lowers ts means))

  pub tested_all : (i : ℕ) → IsTestedTo i → drop i ids ≡ [] → (ts : Items) → MeansEach t ids ts → terms_refusal scope nodes ts ≡ None
  tested_all i h end ts means =
      let so_far = h ts means in
      so_far.2 ∙ ap (terms_refusal scope nodes) (none_of t ids i so_far.0 end so_far.1)

-- ---- `get-value`

module _ (kept : Kept) (s : State) (h : StandsFor kept s) where
  mode_as : (m : Mode) → kept.mode ≡ m → s.mode ≡ m
  mode_as m e = sym h.mode ∙ e

  same_terms : (ts : Items) → terms_refusal (scope_of s.context) s.context.nodes ts ≡ terms_refusal kept.scope kept.nodes ts
  same_terms ts = ap (λ (nodes : List NodeValue). terms_refusal (scope_of s.context) nodes ts) (sym h.nodes) ∙ ap (λ (scope : Scope). terms_refusal scope kept.nodes ts) (sym h.scope)

  valued : (ts : Items) → kept.mode ≡ mode.Sat → after_values s ts ≡ valued_by s (terms_refusal kept.scope kept.nodes ts)
  valued ts e =
      ap (λ (m : Mode). with_model m (valued_by s (terms_refusal (scope_of s.context) s.context.nodes ts))) (mode_as mode.Sat e)
      ∙ ap (valued_by s) (same_terms ts)

  pub values_told : (ts : Items) → kept.mode ≡ mode.Sat → terms_refusal kept.scope kept.nodes ts ≡ None → Agrees (after_values s ts) kept (Ok (Tell Values))
  values_told ts e free = (s, valued ts e ∙ ap (valued_by s) free, h)

  refusal_by : (found : Option TermRefusal) (why : Refusal) → option_map Term found ≡ Some why → valued_by s found ≡ Err why
  refusal_by None why e = absurd cc
  refusal_by (Some w) why e = let same : Term w ≡ why = cc in ap Err same

  pub values_refused : (ts : Items) (error : ScriptError) → kept.mode ≡ mode.Sat → IsTested (terms_refusal kept.scope kept.nodes ts) (Err error) → Agrees (after_values s ts) kept (Err error)
  values_refused ts script.OutOfMemory e tested = tt
  values_refused ts (script.Refused why) e tested = valued ts e ∙ refusal_by (terms_refusal kept.scope kept.nodes ts) why tested

-- ---- marks

-- marks of a longer table, cut to those of the shorter one's nodes
module _ (longer : TruthStays) (points : ℕ) (nodes now : List NodeValue) (values : List ℤ) (over : IsTableOver points nodes) (front : take (length nodes) now ≡ nodes) where
  stays : (k : ℕ) → k < length nodes → truth now values k ≡ truth nodes values k
  stays k b =
      let whole : now ≡ nodes ++ drop (length nodes) now = sym (take-append-drop (length nodes) now) ∙ ap (λ (ns : List NodeValue). ns ++ drop (length nodes) now) front in
      ap (λ (ns : List NodeValue). truth ns values k) whole ∙ longer points nodes values over (drop (length nodes) now) k b

  within_front : length nodes ≤ length now
  within_front = let counted = ap length front in omega (arith, counted, length-take (length nodes) now)

  pub truths_grown : (marks : List Bool) → AreTruths nodes values marks → AreTruths now values marks
  truths_grown marks h = record {
    within = let a = h.within in let b = within_front in omega (arith, a, b);
    each = λ k b. (let room = h.within in let few : k < length nodes = omega (arith, b, room) in h.each k b ∙ sym (stays k few));
  }

  pub truths_cut : (marks cut : List Bool) → AreTruths now values marks → cut ≡ take (length nodes) marks → AreTruths nodes values cut
  truths_cut marks cut h e = record {
    within = let few = length-take (length nodes) marks in let counted = ap length e in omega (arith, few, counted);
    each = λ k b. (
        let few = length-take (length nodes) marks in
        let counted = ap length e in
        let in_nodes : k < length nodes = omega (arith, few, counted, b) in
        let in_marks : k < length marks = omega (arith, few, counted, b) in
        ap (λ (ms : List Bool). get_or ms k false) e ∙ get_or-take (length nodes) marks k false in_nodes ∙ h.each k in_marks ∙ stays k in_nodes
        );
  }
