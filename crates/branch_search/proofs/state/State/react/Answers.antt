use Rattle.std.proofs.Common.{◌≡◌, ◌∙◌, ap, sym, subst, ◌<◌, length, List, true, false}
use Rattle.conflict_analysis.specs.declared.entry.Level.{Level}
use Rattle.branch_search.proofs.Learned.{cut_back, cut_within, settled, found_excluding, found_failing}
use Rattle.branch_search.proofs.state.State.react.Goals as goal

pub cut-requires-clause-within : goal.cut-requires-clause-within
cut-requires-clause-within g c =
    cut_within c.args.task.now
    c.cite_all.new.self.own.items c.cite_all.new.self.entries.items c.cite_all.new.self.levels.items _
    (g.N.Net.literals_of c.args.net.now) c.in_ok-level.level
    (subst (λ (vs : List Level). c.in_ok-level.level < length vs) (sym c.in_ok-level.ensures.levels)
    c.in_ok-level.ensures.within)
    c.in_ok-cite_all.ensures.state c.in_ok-level.ensures.levels

pub take_learned-requires : goal.take_learned-requires
take_learned-requires g c =
    record {
      state = cut_back c.args.task.now
          c.cite_all.new.self.own.items _ _ c.cite_all.new.self.entries.items _ _ c.cite_all.new.self.levels.items _ _
          (g.N.Net.literals_of c.args.net.now) _ c.in_ok-level.level
          (subst (λ (vs : List Level). c.in_ok-level.level < length vs) (sym c.in_ok-level.ensures.levels)
          c.in_ok-level.ensures.within)
          c.in_ok-cite_all.ensures.state c.in_ok-level.ensures.entries c.in_ok-level.ensures.levels c.in_ok-level.ensures.own
          c.cut.ensures.entries c.cut.ensures.levels c.cut.ensures.literals c.cut.ensures.own;
    }

pub returns-clause-settled : goal.returns-clause-settled
returns-clause-settled g c =
    settled c.args.task.now
    c.take_learned.new.self.own.items c.take_learned.new.self.entries.items c.args.self.now.levels.items _
    c.cut.new.self.levels.items c.take_learned.new.self.levels.items (g.N.Net.literals_of c.cut.new.net) c.in_ok-level.level
    (subst (λ (vs : List Level). c.in_ok-level.level < length vs) (sym c.in_ok-level.ensures.levels)
    c.in_ok-level.ensures.within)
    (c.in_ok-level.ensures.levels ∙ c.in_ok-cite_all.ensures.levels ∙ c.in_ok-learn.ensures.levels)
    c.cut.ensures.levels c.in_ok-take_learned.ensures.levels c.in_ok-take_learned.ensures.state

pub returns-then-excludes-clause-settled : goal.returns-then-excludes-clause-settled
returns-then-excludes-clause-settled g c =
    found_excluding c.args.task.now _ c.learn.new.self.own.items _ _ c.learn.new.self.entries.items c.learn.new.self.levels.items _ _ _
    c.cube.ensures c.as_slice.ensures.value (c.excludes.ensures.sound c.if-excludes.true) c.in_ok-learn.ensures.learned

pub returns-then-is_root-clause-reasons : goal.returns-then-is_root-clause-reasons
returns-then-is_root-clause-reasons g c =
    let none : length c.learn.new.self.levels.items ≡ 0 = ap (length {A = Level}) (sym c.deref.ensures.value) ∙ c.is_root.ensures.0 c.if-is_root.true in
    found_failing c.args.task.now _ c.learn.new.self.own.items _ _ c.learn.new.self.entries.items c.args.self.now.entries.items
    c.learn.new.self.levels.items _ _ _ c.cube.ensures c.as_slice.ensures.value c.in_ok-learn.ensures.entries
    (c.len-j.ensures ∙ c.args.self.now.own.ok.0) none
    (λ there. let no : true ≡ false = sym (c.excludes.ensures.all there) ∙ c.if-excludes.false in absurd cc) c.in_ok-learn.ensures.learned
