use Rattle.std.proofs.Common.{◌∙◌, ◌≡◌, ◌<◌, ◌+◌, sym, ap, subst, ℕ, List, length, Bool, false, None}
use Rattle.std.specs.Prelude.{option_map, slice_index_or}
use Rattle.std.specs.List.{AllByRecursion}
use Rattle.idl_node.specs.Nodes.{NodeValue}
use Rattle.idl_node.specs.Tables.{IsTableOver}
use Rattle.idl_node.specs.Truth.{truth, point_values}
use Rattle.dtp_check.specs.declared.judgement.EntryFlaw.TheVariants.{FalseAssertion}
use Rattle.dtp_check.specs.code.Roots.{first_unmarked}
use Rattle.dtp_check.proofs.Judging.{counted_by, sorts_by, kept_table_over, roots_within, sorts_judged, values_judged}
use Rattle.dtp_check.proofs.sat_entry.values_flaw.Goals as goal

pub returns-in-Some : goal.returns-in-Some
returns-in-Some c = λ s stands.
    let count = counted_by _ _ _ _ _ c.as_slice-given.ensures c.if-given-len.false c.len.ensures c.names-names.ensures.names in
    sym (sorts_judged c.args.state.now s stands c.args.values.now c.in-Some.k count (sorts_by _ _ _ _ _ _ _ c.as_slice-given.ensures c.sorts.ensures c.names-names.ensures.names c.wrong_sort.ensures c.in-Some.is))

pub truths-requires : goal.truths-requires
truths-requires c =
    let r = c.requires in
    let count = counted_by _ _ _ _ _ c.as_slice-given.ensures c.if-given-len.false c.len.ensures c.names-names.ensures.names in
    subst (λ (nodes : List NodeValue). IsTableOver (length c.args.values.now + 1) nodes) (sym c.nodes.ensures) (kept_table_over c.args.state.now r.0 r.1 c.args.values.now c.context_law.ensures.scope count)

pub first_unmarked-requires : goal.first_unmarked-requires
first_unmarked-requires c =
    let r = c.requires in
    let count : length c.deref.result.now ≡ length c.args.state.now.nodes = ap (λ (marks : List Bool). length marks) c.deref.ensures.value ∙ c.in_ok-marks.ensures.room ∙ ap (λ (nodes : List NodeValue). length nodes) c.nodes.ensures in
    subst (λ (roots : List ℕ). AllByRecursion (λ r. r < length c.deref.result.now) roots) (sym c.roots.ensures)
    (subst (λ (n : ℕ). AllByRecursion (λ r. r < n) c.args.state.now.roots) (sym count) (roots_within c.args.state.now r.0 r.1 c.args.values.now c.context_law.ensures.roots))

pub returns-in-Some-first_unmarked : goal.returns-in-Some-first_unmarked
returns-in-Some-first_unmarked c = λ s stands.
    let count = counted_by _ _ _ _ _ c.as_slice-given.ensures c.if-given-len.false c.len.ensures c.names-names.ensures.names in
    let sorts = sorts_by _ _ _ _ _ _ None c.as_slice-given.ensures c.sorts.ensures c.names-names.ensures.names c.wrong_sort.ensures c.in-None.is in
    let marked = subst (λ (nodes : List NodeValue). (k : ℕ) → k < length nodes → slice_index_or c.in_ok-marks.marks.items k false ≡ truth nodes (point_values c.args.values.now) k) c.nodes.ensures c.in_ok-marks.ensures.each in
    let found : c.first_unmarked.result ≡ first_unmarked c.in_ok-marks.marks.items 1 c.args.state.now.roots =
    c.first_unmarked.ensures ∙ ap (λ (marks : List Bool). first_unmarked marks 1 c.roots.result.now) c.deref.ensures.value ∙ ap (first_unmarked c.in_ok-marks.marks.items 1) c.roots.ensures in
    sym (values_judged c.args.state.now s stands c.args.values.now c.context_law.ensures.roots c.context_law.ensures.exact c.in_ok-marks.marks.items c.first_unmarked.result count sorts marked found ∙ ap (option_map FalseAssertion) c.in-Some-first_unmarked.is)

pub returns : goal.returns
returns c = λ s stands.
    let count = counted_by _ _ _ _ _ c.as_slice-given.ensures c.if-given-len.false c.len.ensures c.names-names.ensures.names in
    let sorts = sorts_by _ _ _ _ _ _ None c.as_slice-given.ensures c.sorts.ensures c.names-names.ensures.names c.wrong_sort.ensures c.in-None.is in
    let marked = subst (λ (nodes : List NodeValue). (k : ℕ) → k < length nodes → slice_index_or c.in_ok-marks.marks.items k false ≡ truth nodes (point_values c.args.values.now) k) c.nodes.ensures c.in_ok-marks.ensures.each in
    let found : c.first_unmarked.result ≡ first_unmarked c.in_ok-marks.marks.items 1 c.args.state.now.roots =
    c.first_unmarked.ensures ∙ ap (λ (marks : List Bool). first_unmarked marks 1 c.roots.result.now) c.deref.ensures.value ∙ ap (first_unmarked c.in_ok-marks.marks.items 1) c.roots.ensures in
    sym (values_judged c.args.state.now s stands c.args.values.now c.context_law.ensures.roots c.context_law.ensures.exact c.in_ok-marks.marks.items c.first_unmarked.result count sorts marked found ∙ ap (option_map FalseAssertion) c.in-None-first_unmarked.is)
