use Rattle.std.proofs.Common.{◌≡◌, ◌∙◌, ap, set, List}
use Rattle.stn_core.specs.declared.literal.Literal.{Literal}
use Rattle.conflict_analysis.specs.declared.entry.Entry.{Entry}
use Rattle.conflict_analysis.specs.declared.entry.Reason.TheVariants.{Clause as ByClause}
use Rattle.conflict_analysis.specs.code.Trails.{on_trail}
use Rattle.branch_search.proofs.Restated.{rested}
use Rattle.branch_search.proofs.state.State.rest_on.Goals as goal

pub returns-clause-state : goal.returns-clause-state
returns-clause-state g c =
    let q = c.args.task.now in
    let es = c.args.self.now.entries.items in
    let k = c.args.k in
    let own = c.args.self.now.own.items in
    let source = c.args.source in
    let place = c.place_in-place.result in
    let number = c.index.result.now.number in
    let here : c.literal_on-literal.result ≡ on_trail es k =
    c.literal_on-literal.ensures ∙ ap (λ (fs : List Entry). on_trail fs k) c.deref.ensures.value in
    rested q own es _ k number (ByClause source place) c.requires.within
    (ap (λ (m : Literal). set es k (record { literal = m; number = number; reason = ByClause source place })) here)
    c.args.self.now.levels.items (g.N.Net.literals_of c.args.net.now) (λ chosen. absurd cc) tt c.requires.state
