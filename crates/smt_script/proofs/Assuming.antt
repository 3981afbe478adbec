-- Assumptions made into assertions, one after the other.
use Rattle.std.proofs.Common.{refl, sym, ap, ◌∙◌, arith, ◌≡◌, ◌<◌, ◌++◌, ◌+◌, ℕ, zero, suc, List, [], ◌∷◌, length, drop, get_or, Result, Ok, Err}
use Rattle.smt_sexpr.specs.Tree.{Sexpr, Items, none, more}
use Rattle.smt_sexpr.specs.Table.{Table, Means, MeansEach}
use Rattle.smt_sexpr.proofs.Shapes.{next_of, none_of}
use Rattle.idl_node.specs.Nodes.{NodeValue}
use Rattle.idl_apply.specs.Applied.{Made}
use Rattle.idl_term.specs.Contexts.{Context, scope_of, with_assertion}
use Rattle.idl_term.specs.Lowered.{lowered}
use Rattle.idl_term.specs.Scopes.{LoweredTerm, formula, numeric, Scope}
use Rattle.idl_apply.specs.declared.error.TermRefusal.{TermRefusal}
use Rattle.idl_apply.specs.declared.error.TermRefusal.TheVariants.{WrongSort}
use Rattle.smt_script.specs.States.{assumed_by, with_assumptions}
use Rattle.smt_script.specs.code.Shapes.{only_formula, IsAsked, AreAssumed, IsAssumedOne}
use Rattle.smt_script.specs.declared.error.Refusal.{Refusal}
use Rattle.smt_script.specs.declared.error.Refusal.TheVariants.{Term}
use Rattle.smt_script.specs.declared.error.ScriptError.{ScriptError}
use Rattle.smt_script.specs.declared.error.ScriptError.TheVariants.{OutOfMemory, Refused}
use Rattle.smt_script.proofs.Stepping.{made_formula}

refused_as : (c : Context) (t : Sexpr) (rest : Context → Result Context Refusal) (nodes : List NodeValue) (is : LoweredTerm) (why : Refusal) → only_formula (Ok (record { nodes = nodes; is = is })) ≡ Err why
    → assumed_by c t (Ok (record { nodes = nodes; is = is })) rest ≡ Err why
refused_as c t rest nodes (formula root) why e = absurd cc
refused_as c t rest nodes (numeric cases) why e = let same : Term WrongSort ≡ why = cc in ap Err same

refused_by : (c : Context) (t : Sexpr) (made : Result Made TermRefusal) (rest : Context → Result Context Refusal) (why : Refusal) → only_formula made ≡ Err why → assumed_by c t made rest ≡ Err why
refused_by c t (Err w) rest why e = let same : Term w ≡ why = cc in ap Err same
refused_by c t (Ok n) rest why e = refused_as c t rest n.nodes n.is why e

drop_next : (t : Table) (ids : List ℕ) (i : ℕ) (xs : Items) → i < length ids → MeansEach t ids xs → (x : Sexpr) × Means t (get_or ids i 0) x
drop_next t [] i xs lt h = absurd (omega arith)
drop_next t (id ∷ ids) i none lt h = absurd h
drop_next t (id ∷ ids) zero (more x xs) lt h = (x, h.0)
drop_next t (id ∷ ids) (suc i) (more x xs) lt h = drop_next t ids i xs (omega arith) h.1

-- each of the ids has its meaning
pub next_assumed : (t : Table) (ids : List ℕ) (i : ℕ) → i < length ids → (xs : Items) → MeansEach t ids xs → (x : Sexpr) × Means t (get_or ids i 0) x
next_assumed t ids i lt xs h = drop_next t ids i xs lt h

module _ (t : Table) (ids : List ℕ) (scope : Scope) (first_nodes : List NodeValue) (first_roots : List ℕ) where
  -- the first i are assertions of a context, behind which the others are to be
  abbrev pub IsAssumedTo : List NodeValue → List ℕ → ℕ → Type 0
  IsAssumedTo nodes roots i =
      (c : Context) (ts : Items) → IsAsked scope first_nodes first_roots c → MeansEach t ids ts
      → (now : Context) × (rest : Items) × MeansEach t (drop i ids) rest × (with_assumptions c ts ≡ with_assumptions now rest) × IsAsked scope nodes roots now

  pub assumed_none : IsAssumedTo first_nodes first_roots 0
  assumed_none c ts asked h = (c, ts, h, refl, asked)

  -- what a term is made into over what there is
  lowered_same : (nodes : List NodeValue) (roots : List ℕ) (c : Context) (x : Sexpr) → IsAsked scope nodes roots c → lowered (scope_of c) c.nodes x ≡ lowered scope nodes x
  lowered_same nodes roots c x h = ap (λ (ns : List NodeValue). lowered (scope_of c) ns x) h.nodes_are ∙ ap (λ (sc : Scope). lowered sc nodes x) h.scope_is

  module _ (nodes : List NodeValue) (roots : List ℕ) (i : ℕ) (h : IsAssumedTo nodes roots i) (within : i < length ids) where
    pub assumed_more : (now : List NodeValue) (after : List ℕ) → ((x : Sexpr) → Means t (get_or ids i 0) x → IsAssumedOne (only_formula (lowered scope nodes x)) now roots after (Ok tt)) → IsAssumedTo now after (i + 1)
    assumed_more now after one c ts asked means =
        let so_far = h c ts asked means in
        let here : Context = so_far.0 in
        let n = next_of t ids i so_far.1 within so_far.2 in
        let made = one n.first n.first_means in
        let is = lowered_same nodes roots here n.first so_far.4 ∙ made_formula (lowered scope nodes n.first) (record { nodes = now; is = formula made.0 }) made.1 in
        let next : with_assumptions here (more n.first n.others) ≡ with_assumptions (with_assertion here n.first now made.0) n.others =
        ap (λ (found : Result Made TermRefusal). assumed_by here n.first found (λ (k : Context). with_assumptions k n.others)) is in (
          with_assertion here n.first now made.0,
          n.others,
          n.means,
          so_far.3 ∙ ap (with_assumptions here) n.is ∙ next,
          record { scope_is = so_far.4.scope_is; nodes_are = refl; roots_are = ap (λ (rs : List ℕ). rs ++ made.0 ∷ []) so_far.4.roots_are ∙ sym made.2 },
        )

    assumed_refused : (why : Refusal) → ((x : Sexpr) → Means t (get_or ids i 0) x → only_formula (lowered scope nodes x) ≡ Err why) → (c : Context) (ts : Items) → IsAsked scope first_nodes first_roots c → MeansEach t ids ts → with_assumptions c ts ≡ Err why
    assumed_refused why refused c ts asked means =
        let so_far = h c ts asked means in
        let n = next_of t ids i so_far.1 within so_far.2 in
        so_far.3 ∙ ap (with_assumptions so_far.0) n.is
        ∙ refused_by so_far.0 n.first (lowered (scope_of so_far.0) so_far.0.nodes n.first) (λ (k : Context). with_assumptions k n.others) why
        (ap only_formula (lowered_same nodes roots so_far.0 n.first so_far.4) ∙ refused n.first n.first_means)

    pub assumed_error : (now last : List NodeValue) (after roots_last : List ℕ) (error : ScriptError) → ((x : Sexpr) → Means t (get_or ids i 0) x → IsAssumedOne (only_formula (lowered scope nodes x)) now roots after (Err error))
        → (c : Context) (ts : Items) → IsAsked scope first_nodes first_roots c → MeansEach t ids ts → AreAssumed scope last roots_last (with_assumptions c ts) (Err error)
    assumed_error now last after roots_last OutOfMemory one c ts asked means = tt
    assumed_error now last after roots_last (Refused why) one c ts asked means = assumed_refused why one c ts asked means

  pub assumed_all : (nodes : List NodeValue) (roots : List ℕ) (i : ℕ) → IsAssumedTo nodes roots i → drop i ids ≡ [] → (c : Context) (ts : Items) → IsAsked scope first_nodes first_roots c → MeansEach t ids ts
      → AreAssumed scope nodes roots (with_assumptions c ts) (Ok tt)
  assumed_all nodes roots i h end c ts asked means =
      let so_far = h c ts asked means in
      let empty : so_far.1 ≡ none = none_of t ids i so_far.1 end so_far.2 in
      (so_far.0, so_far.3 ∙ ap (with_assumptions so_far.0) empty, so_far.4)
