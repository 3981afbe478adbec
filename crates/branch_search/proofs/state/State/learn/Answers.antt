use Rattle.std.proofs.Common.{ap, ◌∙◌, length}
use Rattle.conflict_analysis.specs.declared.entry.Level.{Level}
use Rattle.branch_search.proofs.Learned.{learned_search}
use Rattle.branch_search.proofs.state.State.learn.Goals as goal

pub returns-clause-learned : goal.returns-clause-learned
returns-clause-learned g c =
    learned_search c.args.task.now c.args.self.now.own.items _ _ c.in_ok-lemma.lemma c.args.self.now.entries.items _ c.args.self.now.levels.items _
    (g.N.Net.literals_of c.args.net.now) c.is_root-whole.result
    c.in_ok-lemma.ensures.own c.in_ok-lemma.ensures.entries c.in_ok-lemma.ensures.levels c.in_ok-push.ensures.items
    c.in_ok-lemma.ensures.taught c.requires.stuck.state
    (λ none. c.is_root-whole.ensures.1 (ap (length {A = Level}) c.deref.ensures.value ∙ none))
