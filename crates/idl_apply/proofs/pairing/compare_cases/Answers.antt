use Rattle.std.proofs.Common.{arith, ap, ◌∙◌, ◌≡◌, ◌≤◌, ◌*◌, ◌-◌, ◌^◌, ℕ, min, length}
use Rattle.idl_cases.specs.Limits.{cases_limit}
use Rattle.idl_cases.specs.code.CaseSums.{summed_cases}
use Rattle.idl_apply.proofs.CasesRelated.{difference_is, whole_few, whole_related}
use Rattle.idl_apply.proofs.pairing.compare_cases.Goals as goal

pub compare_each-requires : goal.compare_each-requires
compare_each-requires c =
    let a = c.args.a.now in
    let b = c.args.b.now in
    let is = difference_is c.new-difference.result c.add.new.self c.add-2.new.self a b c.new-difference.ensures c.in_ok-add.ensures c.in_ok-add-2.ensures in
    let count : c.saturating_mul.result ≡ min (length a * length b) (2 ^ 64 - 1) =
    c.saturating_mul.ensures ∙ ap (λ (n : ℕ). min (n * c.len-2.result) (2 ^ 64 - 1)) c.len.ensures.count ∙ ap (λ (n : ℕ). min (length a * n) (2 ^ 64 - 1)) c.len-2.ensures.count in
    let few : c.saturating_mul.result ≤ cases_limit = omega (arith, c.if-saturating_mul-gt-CASES_LIMIT.false) in
    whole_few c.args.relation c.args.nodes.now a b (summed_cases c.add-2.new.self) is c.saturating_mul.result count few

pub returns-clause-makes : goal.returns-clause-makes
returns-clause-makes c =
    let a = c.args.a.now in
    let b = c.args.b.now in
    let is = difference_is c.new-difference.result c.add.new.self c.add-2.new.self a b c.new-difference.ensures c.in_ok-add.ensures c.in_ok-add-2.ensures in
    let count : c.saturating_mul.result ≡ min (length a * length b) (2 ^ 64 - 1) =
    c.saturating_mul.ensures ∙ ap (λ (n : ℕ). min (n * c.len-2.result) (2 ^ 64 - 1)) c.len.ensures.count ∙ ap (λ (n : ℕ). min (length a * n) (2 ^ 64 - 1)) c.len-2.ensures.count in
    let few : c.saturating_mul.result ≤ cases_limit = omega (arith, c.if-saturating_mul-gt-CASES_LIMIT.false) in
    whole_related c.args.relation c.args.nodes.now a b (summed_cases c.add-2.new.self) is c.saturating_mul.result count few c.compare_each.new.nodes c.compare_each.result c.compare_each.ensures.makes
