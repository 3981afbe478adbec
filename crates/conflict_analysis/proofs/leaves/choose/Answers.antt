use Rattle.std.proofs.Common.{◌≢◌, ◌<◌, ℕ, List, Bool, length, refl, ◌∙◌, ap, subst, sym, [], ◌∷◌}
use Rattle.std.specs.Prelude.{slice_index}
use Rattle.stn_core.specs.declared.literal.Literal.{Literal}
use Rattle.stn_core.specs.Literal.{negation_of, literal_at}
use Rattle.conflict_analysis.specs.declared.entry.Source.{Source}
use Rattle.conflict_analysis.specs.declared.entry.Reason.TheVariants.{Clause as ByClause}
use Rattle.conflict_analysis.specs.code.Trails.{source_clause}
use Rattle.conflict_analysis.specs.code.Leaves.{StandsAssumed}
use Rattle.conflict_analysis.proofs.Chosen.{chosen_clause, chosen_pair, chosen_cycle}
use Rattle.conflict_analysis.proofs.leaves.choose.Goals as goal

pub returns-in-Pair : goal.returns-in-Pair
returns-in-Pair g c =
    record {
      chosen = chosen_pair c.args.graph.now.trail c.args.roles.now c.args.graph.now.inputs c.args.graph.now.lemmas c.args.passed.now c.args.i c.in-Pair.tighter c.as_slice-others.result.now _ c.args.leaves.now.items c.assume_others.new.leaves.items c.requires.closed c.requires.resolved c.requires.chosen c.assume_others.ensures.fewer
          (sym c.reason.ensures ∙ c.in-Pair.is)
          (c.as_slice-others.ensures ∙ ap (λ (m : Literal). c.in-Pair.tighter ∷ m ∷ []) c.negate.ensures)
          c.literal-literal.ensures
          c.assume_others.ensures.assumed;
    }

pub returns-in-Cycle : goal.returns-in-Cycle
returns-in-Cycle g c =
    record {
      chosen = chosen_cycle c.args.graph.now.trail c.args.roles.now c.args.graph.now.inputs c.args.graph.now.lemmas c.args.passed.now c.args.i c.in-Cycle.cycle c.as_slice-others-in-Cycle.result.now _ c.args.leaves.now.items c.assume_others-in-Cycle.new.leaves.items c.requires.closed c.requires.resolved c.requires.chosen c.assume_others-in-Cycle.ensures.fewer
          (sym c.reason.ensures ∙ c.in-Cycle.is)
          c.as_slice-others-in-Cycle.ensures
          c.literal-literal.ensures
          c.assume_others-in-Cycle.ensures.assumed;
    }

pub returns-then-are_denied : goal.returns-then-are_denied
returns-then-are_denied g c =
    let inputs = c.args.graph.now.inputs in
    let lemmas = c.args.graph.now.lemmas in
    let place = c.in-Clause.place in
    let D : List Bool → Type 0 = λ ls. (q : ℕ) → q < length c.clause-clause.result.now → q ≢ place → StandsAssumed c.args.graph.now.trail c.args.roles.now ls (slice_index c.args.passed.now c.args.i) (negation_of (literal_at c.clause-clause.result.now q)) in
    record {
      chosen = chosen_clause c.args.graph.now.trail c.args.roles.now inputs lemmas c.args.passed.now _ c.args.i c.in-Input.field-0 place c.clause-clause.result.now c.args.leaves.now.items _ c.requires.passed c.requires.index refl c.requires.closed c.requires.resolved c.requires.chosen
          (sym c.reason.ensures ∙ c.in-Clause.is ∙ ap (λ (s : Source). ByClause s place) c.in-Input.is)
          (c.clause-clause.ensures ∙ ap (λ (s : Source). source_clause inputs lemmas s) c.in-Input.is)
          (subst D c.as_slice-chosen.ensures.value (c.are_denied.ensures c.if-are_denied.true)) refl;
    }
