use Rattle.std.proofs.Common.{arith, map, sym, ◌∙◌}
use Rattle.lemma_shelf.proofs.Keeping.{within, not_on_points, not_active, usable, at_most, above}
use Rattle.lemma_shelf.proofs.check.check_kept.Goals as goal

pub returns-then-index-from-clause-fault : goal.returns-then-index-from-clause-fault
returns-then-index-from-clause-fault c =
    not_on_points c.args.table.now.book c.args.table.now.lemmas.items c.args.table.now.points.items c.requires.table (map (λ n. n.items) c.args.entries.now)
    c.args.problem.now.points c.args.problem.now.clauses c.args.kept c.in-Some.number (sym (c.find.ensures) ∙ c.in-Some.is) c.requires.entries (above c.args.table.now.points.items c.in-Some.number c.index.result.now c.args.problem.now.points c.index.ensures (omega (
      arith,
      c.requires.table.one_each,
      within c.args.table.now.book c.args.table.now.lemmas.items c.args.table.now.points.items c.requires.table (map (λ n. n.items) c.args.entries.now)
          c.args.problem.now.points c.args.problem.now.clauses c.args.kept c.in-Some.number (sym (c.find.ensures) ∙ c.in-Some.is) c.requires.entries,
    )) (omega (arith, c.from.ensures, c.if-index-from.true)))

pub is_active-requires-clause-number : goal.is_active-requires-clause-number
is_active-requires-clause-number c =
    within c.args.table.now.book c.args.table.now.lemmas.items c.args.table.now.points.items c.requires.table (map (λ n. n.items) c.args.entries.now)
    c.args.problem.now.points c.args.problem.now.clauses c.args.kept c.in-Some.number (sym (c.find.ensures) ∙ c.in-Some.is) c.requires.entries

pub returns-then-not-branch-clause-fault : goal.returns-then-not-branch-clause-fault
returns-then-not-branch-clause-fault c =
    not_active c.args.table.now.book c.args.table.now.lemmas.items c.args.table.now.points.items c.requires.table (map (λ n. n.items) c.args.entries.now)
    c.args.problem.now.points c.args.problem.now.clauses c.args.kept c.in-Some.number (sym (c.find.ensures) ∙ c.in-Some.is) c.requires.entries (at_most c.args.table.now.points.items c.in-Some.number c.index.result.now c.args.problem.now.points c.index.ensures (omega (
      arith,
      c.requires.table.one_each,
      within c.args.table.now.book c.args.table.now.lemmas.items c.args.table.now.points.items c.requires.table (map (λ n. n.items) c.args.entries.now)
          c.args.problem.now.points c.args.problem.now.clauses c.args.kept c.in-Some.number (sym (c.find.ensures) ∙ c.in-Some.is) c.requires.entries,
    )) (omega (arith, c.from.ensures, c.if-index-from.false))) (sym c.in_ok-is_active.ensures.active ∙ c.if-not-branch.true)

pub returns-clause-ok : goal.returns-clause-ok
returns-clause-ok c = (
  sym (c.find.ensures) ∙ c.in-Some.is,
  usable c.args.table.now.book c.args.table.now.lemmas.items c.args.table.now.points.items c.requires.table (map (λ n. n.items) c.args.entries.now)
      c.args.problem.now.points c.args.problem.now.clauses c.args.kept c.in-Some.number (sym (c.find.ensures) ∙ c.in-Some.is) c.requires.entries (at_most c.args.table.now.points.items c.in-Some.number c.index.result.now c.args.problem.now.points c.index.ensures (omega (
        arith,
        c.requires.table.one_each,
        within c.args.table.now.book c.args.table.now.lemmas.items c.args.table.now.points.items c.requires.table (map (λ n. n.items) c.args.entries.now)
            c.args.problem.now.points c.args.problem.now.clauses c.args.kept c.in-Some.number (sym (c.find.ensures) ∙ c.in-Some.is) c.requires.entries,
      )) (omega (arith, c.from.ensures, c.if-index-from.false))) (sym c.in_ok-is_active.ensures.active ∙ c.if-not-branch.false),
)
