use Rattle.std.proofs.Common.{rules, arith, ◌≡◌, ◌<◌, ◌+◌, ℕ, List, Bool, true, length, drop, sym, subst}
use Rattle.std.proofs.lemmas.List.{take_at}
use Rattle.net_batch.specs.Batches.{IsPart, IsMarkedRisen, is_marked}
use Rattle.net_batch.proofs.Parts.{longer-none, part-none, part-all, risen-none, risen-all}
use Rattle.net_batch.proofs.add.add_in_order.Goals as goal

pub returns-in_err-marks-clause-longer : goal.returns-in_err-marks-clause-longer
returns-in_err-marks-clause-longer g c = longer-none _ _

pub first-init : goal.first-init
first-init g c = record {
  points = search rules;
  counts = search rules;
  risen = risen-none (g.N.Net.literals_of c.args.net.now) c.args.literals.now (g.N.Net.adds_of c.args.net.now) c.in_ok-marks.marks.items (search rules);
  part = part-none (g.N.Net.literals_of c.args.net.now) c.args.literals.now c.in_ok-marks.marks.items (search rules);
}

pub returns-clause-tried : goal.returns-clause-tried
returns-clause-tried g c = part-all (g.N.Net.literals_of c.args.net.now) c.args.literals.now c.others.marks.items (g.N.Net.literals_of c.others.net) c.others.invariant.part (search (rules, c.others.invariant.marked))

pub returns-clause-risen : goal.returns-clause-risen
returns-clause-risen g c = risen-all (g.N.Net.literals_of c.args.net.now) c.args.literals.now (g.N.Net.adds_of c.args.net.now) c.others.marks.items (g.N.Net.literals_of c.others.net) (g.N.Net.adds_of c.others.net) c.others.invariant.part.count (search (rules, c.others.invariant.marked)) c.others.invariant.risen

pub others-preserved : goal.others-preserved
others-preserved g c =
    let old = g.N.Net.literals_of c.args.net.now in
    let batch = c.args.literals.now in
    let before = g.N.Net.adds_of c.args.net.now in
    let marks : List Bool = c.add_at-in-others.new.marks in
    let new = g.N.Net.literals_of c.add_at-in-others.new.net in
    let after = g.N.Net.adds_of c.add_at-in-others.new.net in
    let v = c.others.invariant in
    let part : IsPart old batch marks new = search rules in
    let risen : IsMarkedRisen old batch before marks new after = search rules in
    let marked : (j : ℕ) → j < c.others.place + 1 → is_marked marks j ≡ true = search rules in
    let same : length marks ≡ c.others.marks.len = omega (arith, part.count, v.part.count) in
    let is = take_at marks (drop (length marks) c.others.marks.items) c.others.marks.len same in
    record {
      points = search rules;
      counts = search rules;
      risen = subst (λ (ms : List Bool). IsMarkedRisen old batch before ms new after) (sym is) risen;
      part = subst (λ (ms : List Bool). IsPart old batch ms new) (sym is) part;
      marked = subst (λ (ms : List Bool). (j : ℕ) → j < c.others.place + 1 → is_marked ms j ≡ true) (sym is) marked;
    }
