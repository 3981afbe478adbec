use Rattle.std.proofs.Common.{ap, subst, ◌∙◌, ◌≡◌, ◌++◌, List, map, Bor}
use Rattle.std.specs.Prelude.{Result, IfOk}
use Rattle.idl_linear.specs.Differences.{difference_in}
use Rattle.idl_linear.specs.Linear.{LinearValue, negative_of}
use Rattle.idl_linear.proofs.Totals.{total_less}
use Rattle.idl_linear.proofs.difference.compare_less.Goals as goal

pub returns : goal.returns
returns c =
    let seen : Bor LinearValue → LinearValue = λ l. l.now in
    let terms = map seen c.args.terms.now in
    let taken = map negative_of (map seen c.args.taken.now) in
    subst (λ (l : LinearValue). IfOk c.difference.result (λ made. made ≡ difference_in l)) (total_less terms taken _ _ _ c.new-sum.ensures c.in_ok-add_all.ensures c.in_ok-subtract_all.ensures) c.difference.ensures
