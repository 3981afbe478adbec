use Rattle.std.proofs.Common.{arith, ◌≡◌, ◌+◌, ◌-◌, ℕ, List, length, Some, refl, sym, ap, subst, ◌∙◌}
use Rattle.std.specs.Prelude.{slice_get}
use Rattle.std.proofs.lemmas.Option.{slice_get_read}
use Rattle.stn_core.specs.declared.literal.Literal.{Literal}
use Rattle.carried_lemmas.proofs.Firsts.{HasFirstsFrom, more_firsts, all_firsts}
use Rattle.carried_lemmas.proofs.numbers.first_numbers.Goals as goal

pub back-preserved : goal.back-preserved
back-preserved c =
    let clauses = c.args.clauses.now in
    let i = c.back.number - 1 in
    let within = c.back.invariant.within in
    let below : i + 1 ≡ c.back.number = omega (arith, c.back-test.true) in
    let here : slice_get clauses i ≡ Some c.as_slice.result.now =
    slice_get_read clauses (length clauses) i c.index-clauses-number.result refl (omega (arith, within, below)) c.index-clauses-number.is ∙ ap (λ (z : List Literal). Some z) (sym c.as_slice.ensures) in
    record {
      within = omega (arith, within);
      firsts = more_firsts clauses i c.as_slice.result c.back.firsts c.insert.new.self here (subst (λ (n : ℕ). HasFirstsFrom n clauses c.back.firsts) (sym below) c.back.invariant.firsts) c.in_ok-insert.ensures.updates.0;
    }

pub returns : goal.returns
returns c = all_firsts c.args.clauses.now c.back.number c.back.firsts (omega (arith, c.back-test.false)) c.back.invariant.firsts
