use Rattle.std.proofs.Common.{arith, refl, sym, subst, ◌∙◌, ◌≡◌, ◌<◌, ◌-◌, ℕ, List, ℤ, length}
use Rattle.inc_paths.specs.declared.labels.Lowering.{Lowering}
use Rattle.inc_paths.specs.code.Graphs.{IsNewest}
use Rattle.stn_core.specs.Literal.{literal_at}
use Rattle.inc_paths.specs.code.Trails.{entry_at}
use Rattle.inc_paths.specs.code.Work.{IsLowering, IsScanning}
use Rattle.inc_paths.proofs.Scans.{taken_scanning, narrowed, all_scanned, first_on, kept_on, kept_at}
use Rattle.inc_paths.proofs.relax.scan.Goals as goal

pub literals-init : goal.literals-init
literals-init c =
    let ls = c.args.arcs.now.literals in
    let labels = c.args.labels.now in
    let newest : IsNewest ls (entry_at labels.trail c.args.place).literal.x (length ls) c.newest-number.result =
    subst (λ (d : Lowering). IsNewest ls d.literal.x (length ls) c.newest-number.result) c.entry.ensures.entry c.newest-number.ensures in
    record {
      start = refl;
      kept = kept_at labels c.requires.within;
      lowering = c.requires.lowering;
      place = record { low = c.requires.low; high = c.requires.high; now_is = sym (c.is_current.ensures.0 c.if-not-is_current.false) };
      entry = refl;
      scanning = narrowed ls labels (entry_at labels.trail c.args.place).literal.x (length ls) c.newest-number.result (taken_scanning ls labels c.args.place c.requires.taken) newest;
      within = newest.before;
      here = newest.here;
      room = omega arith;
    }

pub look-requires-clause-scanning : goal.look-requires-clause-scanning
look-requires-clause-scanning c =
    subst (λ (d : Lowering). IsScanning c.args.arcs.now.literals c.literals.labels d.literal.x c.literals.number) (sym c.literals.invariant.entry) c.literals.invariant.scanning

pub literals-preserved : goal.literals-preserved
literals-preserved c =
    let ls = c.args.arcs.now.literals in
    let begin = c.args.labels.now in
    let mid = c.literals.labels in
    let next = c.look.new.labels in
    let inv = c.literals.invariant in
    let x : ℕ = (entry_at begin.trail c.args.place).literal.x in
    let ne = c.literals-test.true in
    let some : 0 < c.literals.number = omega arith in
    let here : (literal_at ls (c.literals.number - 1)).y ≡ x = inv.here some in
    let within = inv.within in
    let scanning : IsScanning ls next x (c.literals.number - 1) = subst (λ (d : Lowering). IsScanning ls next d.literal.x (c.literals.number - 1)) inv.entry (c.in_ok-look.ensures.scanning c.if-branch.false) in
    let newest : IsNewest ls x (c.literals.number - 1) c.older-number.result = subst (λ (p : ℕ). IsNewest ls p (c.literals.number - 1) c.older-number.result) here c.older-number.ensures in
    let before = newest.before in
    let less = c.in_ok-look.ensures.room in
    let was = inv.room in
    record {
      start = c.look.ensures.start ∙ inv.start;
      kept = kept_on begin mid next inv.start inv.kept c.look.ensures.kept;
      lowering = subst (λ (vs : List ℤ). IsLowering c.args.arcs.now.points ls c.args.new vs next) (first_on begin mid inv.start inv.kept) c.in_ok-look.ensures.lowering;
      place = c.in_ok-look.ensures.place;
      entry = c.in_ok-look.ensures.entry ∙ inv.entry;
      scanning = narrowed ls next x (c.literals.number - 1) c.older-number.result scanning newest;
      within = omega arith;
      here = newest.here;
      room = omega arith;
    }

pub returns-clause-none : goal.returns-clause-none
returns-clause-none c =
    let end : c.literals.number ≡ 0 = c.literals-test.false in
    all_scanned c.args.arcs.now.literals c.literals.labels (entry_at c.args.labels.now.trail c.args.place).literal.x (subst (IsScanning c.args.arcs.now.literals c.literals.labels (entry_at c.args.labels.now.trail c.args.place).literal.x) end c.literals.invariant.scanning)
