use Rattle.std.proofs.Common.{arith, ap, ◌∙◌, ◌<◌, ◌++◌, ◌∷◌, [], ℕ, length, below_more}
use Rattle.stn_core.specs.declared.literal.Literal.{Literal}
use Rattle.stn_core.specs.Literal.{negation_of, literal_at}
use Rattle.stn_core.specs.Net.{IsConsistent}
use Rattle.prune_rules.specs.Fates.{IsFate}
use Rattle.prune_rules.proofs.Implied.{implied, not_implied, dead_cycle, live_consistent}
use Rattle.prune_rules.proofs.rules.is_subsumed.Goals as goal

pub returns-in-Dead-clause-first : goal.returns-in-Dead-clause-first
returns-in-Dead-clause-first g c =
    let net = g.N.Net in
    let l = literal_at c.args.clause.now c.literals.place in
    let fate : IsFate (net.points_of c.args.net.now) (net.literals_of c.args.net.now) (negation_of l) c.in_ok-cycle.field-0 =
    rw (c.literals.invariant.points, c.literals.invariant.kept, c.negate.ensures, c.as_slice-literals.ensures) at c.in_ok-cycle.ensures.fate in
    let cycle = dead_cycle (net.points_of c.args.net.now) (net.literals_of c.args.net.now) (negation_of l) c.in_ok-cycle.field-0 c.in-Dead.cycle fate c.in-Dead.is in
    record {
      within = omega (arith, ap (length {A = Literal}) c.as_slice-literals.ensures);
      implied = implied (net.points_of c.args.net.now) (net.literals_of c.args.net.now) l c.in-Dead.cycle cycle;
      cycle = cycle;
      first = λ k lt. not_implied (net.points_of c.args.net.now) (net.literals_of c.args.net.now) (literal_at c.args.clause.now k) (c.literals.invariant.consistent k lt);
    }

pub literals-preserved : goal.literals-preserved
literals-preserved g c =
    let net = g.N.Net in
    let l = literal_at c.args.clause.now c.literals.place in
    let fate : IsFate (net.points_of c.args.net.now) (net.literals_of c.args.net.now) (negation_of l) c.in_ok-cycle.field-0 =
    rw (c.literals.invariant.points, c.literals.invariant.kept, c.negate.ensures, c.as_slice-literals.ensures) at c.in_ok-cycle.ensures.fate in
    let here = live_consistent (net.points_of c.args.net.now) (net.literals_of c.args.net.now) (negation_of l) c.in_ok-cycle.field-0 fate c.in_default.not-Dead in
    record {
      kept = c.in_ok-cycle.ensures.kept ∙ c.literals.invariant.kept;
      points = c.in_ok-cycle.ensures.points ∙ c.literals.invariant.points;
      consistent = below_more (λ k. IsConsistent (net.points_of c.args.net.now) (net.literals_of c.args.net.now ++ negation_of (literal_at c.args.clause.now k) ∷ [])) c.literals.place c.literals.invariant.consistent here;
    }

pub returns-clause-first : goal.returns-clause-first
returns-clause-first g c =
    let net = g.N.Net in
    let all : (k : ℕ) → k < length c.args.clause.now → IsConsistent (net.points_of c.args.net.now) (net.literals_of c.args.net.now ++ negation_of (literal_at c.args.clause.now k) ∷ []) =
    λ k lt. c.literals.invariant.consistent k (omega (arith, ap (length {A = Literal}) c.as_slice-literals.ensures)) in
    record {
      consistent = all;
      not_implied = λ k lt. not_implied (net.points_of c.args.net.now) (net.literals_of c.args.net.now) (literal_at c.args.clause.now k) (all k lt);
    }
