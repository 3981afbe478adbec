use Rattle.std.proofs.Common.{arith, ◌≡◌, ◌+◌, ◌++◌, take, drop, ◌≤◌, ◌^◌, List, length, All, sym, ap, subst, ◌∙◌, map}
use Rattle.std.proofs.lemmas.List.{length-map, take_at}
use Rattle.refute_tree.specs.declared.lemma.Lemma.{Lemma}
use Rattle.reduced_problem.specs.code.Restating.{LemmaFits, restated_lemma}
use Rattle.reduced_problem.proofs.Steps.{each_fits}
use Rattle.reduced_problem.proofs.restating.restate_behind.Goals as goal

pub restate_each-requires : goal.restate_each-requires
restate_each-requires c =
    let given : c.deref_mut.result.now ≡ c.args.refutation = c.deref_mut.ensures.value ∙ c.into_vec-others.ensures in
    let few : c.len-2.result + length c.args.refutation ≤ 2 ^ 64 =
    omega (arith, c.in_ok-reserve.ensures.ok, c.reserve.new.self.small, c.reserve.new.self.ok.0, c.len-2.ensures, c.len.ensures, ap length c.into_vec-others.ensures) in
    subst (All (LemmaFits c.len-2.result)) (sym given) (each_fits c.len-2.result (length c.args.refutation) c.args.refutation few c.requires)

pub returns : goal.returns
returns c =
    let made = c.restate_each.new.lemmas in
    let count : c.len-2.result ≡ length c.args.lemmas.items = omega (arith, c.len-2.ensures, c.in_ok-reserve.ensures.len, c.args.lemmas.ok.0) in
    let given : c.deref_mut.result.now ≡ c.args.refutation = c.deref_mut.ensures.value ∙ c.into_vec-others.ensures in
    let same : length c.restate_each.new.lemmas ≡ c.into_vec-others.result.len =
    ap length c.in_ok-restate_each.ensures ∙ length-map c.deref_mut.result.now (restated_lemma c.args.origins.now c.args.clauses.now c.len-2.result)
    ∙ ap length c.deref_mut.ensures.value ∙ sym c.into_vec-others.result.ok.0 in
    let written : List Lemma = c.restate_each.new.lemmas ++ drop (length c.restate_each.new.lemmas) c.into_vec-others.result.items in
    c.new.ensures ∙ c.in_ok-append.ensures.items
    ∙ ap (λ (ls : List Lemma). ls ++ take c.into_vec-others.result.len written) c.in_ok-reserve.ensures.items
    ∙ ap (λ (ls : List Lemma). c.args.lemmas.items ++ ls)
    (take_at c.restate_each.new.lemmas (drop (length c.restate_each.new.lemmas) c.into_vec-others.result.items) c.into_vec-others.result.len same
    ∙ c.in_ok-restate_each.ensures
    ∙ ap (λ (ls : List Lemma). map (restated_lemma c.args.origins.now c.args.clauses.now c.len-2.result) ls) given
    ∙ ap (λ n. map (restated_lemma c.args.origins.now c.args.clauses.now n) c.args.refutation) count)
