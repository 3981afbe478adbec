use Rattle.std.proofs.Common.{arith, ap, ◌∙◌, ◌≤◌, ℕ, List, [], ◌∷◌, length, take}
use Rattle.std.proofs.lemmas.List.{drop_all, length-append}
use Rattle.smt_script.proofs.Assuming.{next_assumed, assumed_more, assumed_error, assumed_all}
use Rattle.smt_script.proofs.Levels.{front_length, take_front, take_added}
use Rattle.smt_script.proofs.lowering.assume_each.Goals as goal

pub assume_one-requires-clause-meaning : goal.assume_one-requires-clause-meaning
assume_one-requires-clause-meaning c =
    next_assumed c.args.sexprs.now c.args.terms.now c.loop-term.term-index (omega arith) c.requires.meaning.0 c.requires.meaning.1

pub returns-in-Err-clause-assumed : goal.returns-in-Err-clause-assumed
returns-in-Err-clause-assumed c = λ k ts asked means.
    assumed_error c.args.sexprs.now c.args.terms.now c.args.scope.now c.args.nodes.now c.args.roots.now.items c.loop-term.nodes c.loop-term.roots.items c.loop-term.term-index c.loop-term.invariant.assumed (omega arith)
    c.assume_one.new.nodes c.cut.new.self c.assume_one.new.roots.items c.truncate.new.self.items c.in-Err.error c.in-Err.ensures.assumed k ts asked means

pub loop-term-preserved : goal.loop-term-preserved
loop-term-preserved c =
    let one = c.in_default.ensures.assumed in
    let x = next_assumed c.args.sexprs.now c.args.terms.now c.loop-term.term-index (omega arith) c.requires.meaning.0 c.requires.meaning.1 in
    let pushed = (one x.0 x.1).2 in
    let more = length-append c.loop-term.roots.items ((one x.0 x.1).0 ∷ []) in
    let roots_count = c.loop-term.invariant.count in
    let long = front_length c.args.nodes.now c.loop-term.nodes c.loop-term.invariant.table in
    let roots_long : length c.args.roots.now.items ≤ length c.loop-term.roots.items = omega (arith, roots_count) in
    record {
      assumed = assumed_more c.args.sexprs.now c.args.terms.now c.args.scope.now c.args.nodes.now c.args.roots.now.items c.loop-term.nodes c.loop-term.roots.items c.loop-term.term-index c.loop-term.invariant.assumed (omega arith)
          c.assume_one.new.nodes c.assume_one.new.roots.items (λ y means. one y means);
      table = take_front (length c.args.nodes.now) c.loop-term.nodes c.assume_one.new.nodes c.in_default.ensures.front long ∙ c.loop-term.invariant.table;
      front = take_front (length c.args.roots.now.items) c.loop-term.roots.items c.assume_one.new.roots.items (ap (take (length c.loop-term.roots.items)) pushed ∙ take_added c.loop-term.roots.items ((one x.0 x.1).0 ∷ [])) roots_long
          ∙ c.loop-term.invariant.front;
      count = ap (λ (rs : List ℕ). length rs) pushed ∙ more ∙ omega (arith, roots_count);
    }

pub returns-clause-assumed : goal.returns-clause-assumed
returns-clause-assumed c = λ k ts asked means.
    assumed_all c.args.sexprs.now c.args.terms.now c.args.scope.now c.args.nodes.now c.args.roots.now.items c.loop-term.nodes c.loop-term.roots.items c.loop-term.term-index c.loop-term.invariant.assumed
    (drop_all c.loop-term.term-index c.args.terms.now (omega arith)) k ts asked means
