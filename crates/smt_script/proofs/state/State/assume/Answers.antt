use Rattle.std.proofs.Common.{arith, sym, subst, ◌≡◌, ◌+◌, length, None}
use Rattle.std.specs.Vec.{vec_len}
use Rattle.smt_script.specs.code.Kept.{Kept, StandsFor}
use Rattle.smt_script.specs.code.Shapes.{shown_name}
use Rattle.smt_script.proofs.AssumedStates.{count_is, labels_are, sum_is, behind_kept, behind_stands, asked_same}
use Rattle.smt_script.proofs.state.State.assume.Goals as goal

pub invariant_of-self-2 : goal.invariant_of-self-2
invariant_of-self-2 c =
    let terms = c.items_of-terms.result.now in
    let roots : c.len-2.result ≡ length c.self.inside.roots.items = omega (arith, c.len-2.ensures) in
    let sum : c.in-Some.count ≡ length c.self.inside.labels.items + length terms = sum_is shown_name c.self.inside.labels.items c.in-Some.count (length terms) c.len-2.result (length c.self.inside.roots.items) c.self.invariant.labelled roots (omega (arith, c.in-Some.ensures.1)) in
    let labels = labels_are shown_name None c.self.inside.labels.items c.resize.new.self.items c.in-Some.count (length terms) (vec_len c.self.inside.labels) (omega arith) c.in_ok-resize.ensures.items sum in
    rw labels (behind_kept _ c.self.invariant (length terms) c.assume_each.new.nodes c.assume_each.new.roots.items c.in_ok-literals.literals.items _ c.assume_each.ensures.table c.assume_each.ensures.front c.len.ensures.count roots
    c.in_default-assume_each.ensures.count)

pub returns-clause-agrees : goal.returns-clause-agrees
returns-clause-agrees c = λ s ts stands means all.
    let h = subst (λ (k : Kept). StandsFor k s) (sym c.self.view_is) stands in
    let terms = c.items_of-terms.result.now in
    let means_each = c.items_of-terms.ensures ts means in
    let roots : c.len-2.result ≡ length c.self.inside.roots.items = omega (arith, c.len-2.ensures) in
    let sum : c.in-Some.count ≡ length c.self.inside.labels.items + length terms = sum_is shown_name c.self.inside.labels.items c.in-Some.count (length terms) c.len-2.result (length c.self.inside.roots.items) c.self.invariant.labelled roots (omega (arith, c.in-Some.ensures.1)) in
    let labels = labels_are shown_name None c.self.inside.labels.items c.resize.new.self.items c.in-Some.count (length terms) (vec_len c.self.inside.labels) (omega arith) c.in_ok-resize.ensures.items sum in
    rw labels (behind_stands _ c.self.invariant (length terms) c.assume_each.new.nodes c.assume_each.new.roots.items c.in_ok-literals.literals.items _ c.assume_each.ensures.table c.assume_each.ensures.front c.len.ensures.count roots
    s h ts (count_is c.args.sexprs.now terms ts means_each) (c.in_default-assume_each.ensures.assumed s.context ts (asked_same _ s h) means_each) (c.in_ok-literals.ensures ts means_each all))
