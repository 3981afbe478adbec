use Rattle.std.proofs.Common.{rules, sym, ap, subst, arith, ◌∙◌, ◌≡◌, ◌<◌, ◌+◌, ◌++◌, ◌∷◌, [], List, Bor, ℕ, length}
use Rattle.std.proofs.lemmas.List.{length-map, length_push}
use Rattle.std.proofs.lemmas.Result.{err_from_is_err_and}
use Rattle.idl_node.specs.code.Repeats.{AreRows, HasRepeats}
use Rattle.idl_node.proofs.Steps.{front_on, front_within}
use Rattle.idl_cases.specs.Guarded.{CaseValue}
use Rattle.idl_apply.specs.code.Repeats.{AreCompared}
use Rattle.idl_apply.proofs.Arguments.{seen}
use Rattle.idl_apply.proofs.PairsCompared.{pairs_refused, pairs_step, refused_behind}
use Rattle.idl_apply.proofs.RepeatedTerms.{guarded_longer}
use Rattle.idl_apply.proofs.comparing.compare_pairs.Goals as goal

pub compare_next-requires-clause-guarded : goal.compare_next-requires-clause-guarded
compare_next-requires-clause-guarded c =
    let longer = front_within c.args.nodes.now c.loop-i.nodes c.loop-i.invariant.front in
    λ repeats. guarded_longer c.len.result (length c.loop-i.nodes) (omega (arith, c.len.ensures.count, longer)) (seen c.args.terms.now) (c.in_ok-earlier.ensures.guarded (subst (λ (es : List ℕ). HasRepeats es) c.deref.ensures.value repeats))

pub returns-in_err-compare_next-clause-makes : goal.returns-in_err-compare_next-clause-makes
returns-in_err-compare_next-clause-makes c =
    let q = err_from_is_err_and c.from_residual-in_err-compare_next.result c.from_residual-in_err-compare_next.ensures.1 in
    let at : length c.deref-in-loop-i.result.now ≡ c.loop-i._i = ap length c.deref-in-loop-i.ensures.value ∙ c.loop-i.invariant.count in
    let within : c.loop-i._i < length (seen c.args.terms.now) = omega (arith, c.loop-i-test.true, length-map c.args.terms.now (λ (b : Bor (List CaseValue)). b.now)) in
    rw (q.1, q.2) (refused_behind c.compare_next.new.nodes _ _ c.in_err-compare_next.field-0.0 c.loop-i.invariant.rest
    (pairs_refused c.args.relation c.loop-i.nodes c.compare_next.new.nodes (seen c.args.terms.now) c.loop-i.parts.items c.loop-i._i (length c.deref-in-loop-i.result.now) within at c.in_err-compare_next.field-0.0 c.in_err-compare_next.ensures.refused))

pub loop-i-preserved : goal.loop-i-preserved
loop-i-preserved c =
    let at : length c.deref-in-loop-i.result.now ≡ c.loop-i._i = ap length c.deref-in-loop-i.ensures.value ∙ c.loop-i.invariant.count in
    let within : c.loop-i._i < length (seen c.args.terms.now) = omega (arith, c.loop-i-test.true, length-map c.args.terms.now (λ (b : Bor (List CaseValue)). b.now)) in
    let start : length c.loop-i.parts.items ≡ c.len-start.result = search rules in
    let places : c.deref-in-loop-i.result.now ++ length c.loop-i.parts.items ∷ [] ≡ c.push.new.self.items =
    ap (λ (ss : List ℕ). ss ++ length c.loop-i.parts.items ∷ []) c.deref-in-loop-i.ensures.value
    ∙ ap (λ (n : ℕ). c.loop-i.starts.items ++ n ∷ []) start
    ∙ sym c.in_ok-push.ensures.items in
    record {
      rest = c.loop-i.invariant.rest ∙ pairs_step c.args.relation c.loop-i.nodes c.compare_next.new.nodes (seen c.args.terms.now) c.loop-i.parts.items c.loop-i._i (length c.deref-in-loop-i.result.now) within at c.compare_next.new.parts.items c.in_ok-compare_next.ensures.made;
      front = front_on c.args.nodes.now c.loop-i.nodes c.compare_next.new.nodes c.loop-i.invariant.front c.in_ok-compare_next.ensures.front;
      count = ap length c.in_ok-push.ensures.items ∙ length_push c.loop-i.starts.items _ ∙ ap (λ (n : ℕ). n + 1) c.loop-i.invariant.count;
      rows = subst (λ (ss : List ℕ). AreRows (HasRepeats c.deref.result.now) (AreCompared c.args.relation c.compare_next.new.nodes) (seen c.args.terms.now) ss c.compare_next.new.parts.items) places c.in_ok-compare_next.ensures.rows;
    }
