use Rattle.std.proofs.Common.{arith, subst, sym, inl, inr, ℕ}
use Rattle.std.proofs.lemmas.Bool.{cases_eq}
use Rattle.stn_core.specs.Literal.{Holds, literal_at}
use Rattle.stn_core.proofs.lowering.all_hold.Goals as goal

pub literals-preserved : goal.literals-preserved
literals-preserved c =
    let here : Holds c.args.values.now (literal_at c.args.literals.now c.literals.literal-index) = c.holds.ensures.0 c.if-not-holds.false in
    λ k lt. elim (cases_eq k c.literals.literal-index) [
      | inl e ↦ subst (λ (j : ℕ). Holds c.args.values.now (literal_at c.args.literals.now j)) (sym e) here
      | inr ne ↦ c.literals.invariant k (omega arith)
    ]

pub returns : goal.returns
returns c = λ t k lt. c.literals.invariant k (omega arith)
