use Rattle.std.proofs.Common.{refl, ap, sym, subst, arith, ◌∙◌, ◌<◌, ◌++◌, List, Bor, ℕ, length}
use Rattle.std.proofs.lemmas.List.{length-map}
use Rattle.std.proofs.lemmas.Result.{err_from_is_err_and}
use Rattle.idl_node.specs.code.Repeats.{HasRepeats, IsRow}
use Rattle.idl_cases.specs.Guarded.{CaseValue}
use Rattle.idl_apply.specs.code.Repeats.{AreCompared}
use Rattle.idl_apply.proofs.Arguments.{seen}
use Rattle.idl_apply.proofs.PairsCompared.{copied_made, copied_rows, made_rows}
use Rattle.idl_apply.proofs.rows.compare_next.Goals as goal

pub returns-then-before-i-clause-made : goal.returns-then-before-i-clause-made
returns-then-before-i-clause-made c =
    let many = length-map c.args.all.terms.now (λ (b : Bor (List CaseValue)). b.now) in
    let within : length c.args.starts.now < length (seen c.args.all.terms.now) = omega (arith, c.requires.within, many) in
    copied_made c.args.all.relation c.args.nodes.now (seen c.args.all.terms.now) c.args.all.earlier.now c.args.starts.now c.args.parts.now.items within c.requires.rows c.requires.leads c.place_before-before.result _ _ c.extend_from_within.new.self.items c.place_before-before.ensures
    c.if-before-i.true refl (omega (arith, many)) c.in_ok-extend_from_within.ensures.items

pub returns-then-before-i-clause-rows : goal.returns-then-before-i-clause-rows
returns-then-before-i-clause-rows c =
    let many = length-map c.args.all.terms.now (λ (b : Bor (List CaseValue)). b.now) in
    let within : length c.args.starts.now < length (seen c.args.all.terms.now) = omega (arith, c.requires.within, many) in
    copied_rows c.args.all.relation c.args.nodes.now (seen c.args.all.terms.now) c.args.all.earlier.now c.args.starts.now c.args.parts.now.items within c.requires.rows c.requires.leads c.place_before-before.result _ _ c.extend_from_within.new.self.items c.place_before-before.ensures
    c.if-before-i.true refl (omega (arith, many)) c.in_ok-extend_from_within.ensures.items

pub returns-in_err-row-clause-refused : goal.returns-in_err-row-clause-refused
returns-in_err-row-clause-refused c =
    let q = err_from_is_err_and c.from_residual-in_err-row.result c.from_residual-in_err-row.ensures.1 in
    rw (q.1, q.2) (λ rest. c.in_err-row.ensures.refused c.args.parts.now.items rest)

pub returns-clause-rows : goal.returns-clause-rows
returns-clause-rows c =
    let many = length-map c.args.all.terms.now (λ (b : Bor (List CaseValue)). b.now) in
    let within : length c.args.starts.now < length (seen c.args.all.terms.now) = omega (arith, c.requires.within, many) in
    made_rows c.args.all.relation c.args.nodes.now (seen c.args.all.terms.now) c.args.all.earlier.now c.args.starts.now c.args.parts.now.items within c.requires.rows c.compare_others.new.nodes c.in_ok-row.row.items c.extend_from_slice.new.self.items c.in_ok-row.ensures.front
    (omega (arith, c.in_ok-row.ensures.count, many)) (c.in_ok-extend_from_slice.ensures.items ∙ ap (λ (ks : List ℕ). c.args.parts.now.items ++ ks) c.deref.ensures.value)
    (subst (λ (n : ℕ). HasRepeats c.args.all.earlier.now → IsRow (AreCompared c.args.all.relation c.compare_others.new.nodes) (seen c.args.all.terms.now) (length c.args.starts.now) n c.in_ok-row.row.items) (sym many) c.in_ok-row.ensures.row)
