use Rattle.std.proofs.Common.{ap, sym, subst, ◌∙◌, ◌≡◌, ◌+ℤ◌, ◌++◌, ◌-◌, ◌≤◌, length, drop, take, List, Bool}
use Rattle.std.proofs.lemmas.List.{take_rest}
use Rattle.std.proofs.lemmas.Result.{err_from_is_err_and}
use Rattle.idl_linear.specs.declared.summand.Summand.{Summand}
use Rattle.idl_linear.specs.Limits.{coefficient_limit}
use Rattle.idl_linear.specs.Linear.{is_within, are_limited, collected, with_summand, put_before}
use Rattle.idl_linear.specs.code.FirstRuns.{IsFirstRun, signed_run}
use Rattle.idl_linear.specs.code.Steps.{Refuses}
use Rattle.idl_linear.specs.code.Trees.{TreeValue, coefficient_at, signed}
use Rattle.idl_linear.proofs.Putting.{put_step, put_stops, putting_ends, put_refused}
use Rattle.idl_linear.proofs.runs.put_runs.Goals as goal

pub returns-in_err-tree-clause-refused : goal.returns-in_err-tree-clause-refused
returns-in_err-tree-clause-refused c =
    let xs = c.args.summands.now in
    let now = c.loop-start.tree.value.summands in
    let start = c.loop-start.start in
    let run = c.first_run-run.result in
    let negated = c.args.is_negated in
    let seen : take (length xs - start) (drop start xs) ≡ drop start xs = take_rest xs start in
    let list = ap (λ (v : TreeValue). v.summands) c.deref.ensures in
    let len : run.len ≤ length (drop start xs) = subst (λ (l : List Summand). run.len ≤ length l) seen c.first_run-run.ensures.len in
    let first : IsFirstRun (drop start xs) run = subst (λ (l : List Summand). IsFirstRun l run) seen c.first_run-run.ensures.run in
    let sum : collected (drop start xs) ≡ put_before (record { point = run.point; coefficient = run.sum }) (collected (drop run.len (drop start xs))) =
    subst (λ (l : List Summand). collected l ≡ put_before (record { point = run.point; coefficient = run.sum }) (collected (drop run.len l))) seen c.first_run-run.ensures.sum in
    let total : is_within coefficient_limit (coefficient_at run.point c.deref.result.now.summands +ℤ (signed_run negated run).coefficient) ≡ is_within coefficient_limit (coefficient_at run.point now +ℤ (signed_run negated run).coefficient) =
    ap (λ (l : List Summand). is_within coefficient_limit (coefficient_at run.point l +ℤ (signed_run negated run).coefficient)) list in
    let why = c.in_err-tree.field-0.0 in
    let here : Refuses why (is_within coefficient_limit (coefficient_at run.point now +ℤ (signed_run negated run).coefficient)) = subst (λ (b : Bool). Refuses why b) total c.in_err-tree.ensures.refused in
    let refused : Refuses why (are_limited (collected (signed negated xs ++ c.args.tree.value.summands))) =
    put_refused why _ _ (put_stops negated xs c.args.tree.value.summands now start c.loop-start.invariant run c.first_run-run.ensures.some len first sum) here in
    let p = err_from_is_err_and c.from_residual.result c.from_residual.ensures.1 in
    rw (p.1, p.2) refused

pub loop-start-preserved : goal.loop-start-preserved
loop-start-preserved c =
    let xs = c.args.summands.now in
    let now = c.loop-start.tree.value.summands in
    let start = c.loop-start.start in
    let run = c.first_run-run.result in
    let negated = c.args.is_negated in
    let seen : take (length xs - start) (drop start xs) ≡ drop start xs = take_rest xs start in
    let list = ap (λ (v : TreeValue). v.summands) c.deref.ensures in
    let len : run.len ≤ length (drop start xs) = subst (λ (l : List Summand). run.len ≤ length l) seen c.first_run-run.ensures.len in
    let first : IsFirstRun (drop start xs) run = subst (λ (l : List Summand). IsFirstRun l run) seen c.first_run-run.ensures.run in
    let sum : collected (drop start xs) ≡ put_before (record { point = run.point; coefficient = run.sum }) (collected (drop run.len (drop start xs))) =
    subst (λ (l : List Summand). collected l ≡ put_before (record { point = run.point; coefficient = run.sum }) (collected (drop run.len l))) seen c.first_run-run.ensures.sum in
    let total : is_within coefficient_limit (coefficient_at run.point c.deref.result.now.summands +ℤ (signed_run negated run).coefficient) ≡ is_within coefficient_limit (coefficient_at run.point now +ℤ (signed_run negated run).coefficient) =
    ap (λ (l : List Summand). is_within coefficient_limit (coefficient_at run.point l +ℤ (signed_run negated run).coefficient)) list in
    put_step negated xs c.args.tree.value.summands now start c.loop-start.invariant run c.first_run-run.ensures.some len first sum
    (sym total ∙ c.in_ok-tree.ensures.limited) c.in_ok-tree.tree.value.summands (c.in_ok-tree.ensures.ok ∙ ap (with_summand (signed_run negated run)) list)

pub returns-clause-ok : goal.returns-clause-ok
returns-clause-ok c = putting_ends c.args.is_negated c.args.summands.now c.args.tree.value.summands c.loop-start.tree.value.summands c.loop-start.start c.loop-start.invariant c.loop-start-test.false
