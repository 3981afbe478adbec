use Rattle.std.proofs.Common.{[]}
use Rattle.std.proofs.Math.Facts.{to_z-of_z}
use Rattle.dtp_check.proofs.Founds.{best_wrong, within, best_items, best_held}
use Rattle.dtp_check.proofs.best_entry.best_flaw.Goals as goal

pub least_items_flaw-requires-clause-within : goal.least_items_flaw-requires-clause-within
least_items_flaw-requires-clause-within c =
    let q = c.requires.asked in
    within [] q.1 c.args.objective q.0.context c.args.m _ (to_z-of_z c.ranges.m) c.args.values.now c.args.items.now c.in_ok-flaw.field-0 (c.in_ok-flaw.ensures q.0 q.1 q.2) c.in-Ok.difference c.in-Ok.is

pub returns-in-Err-clause-flaw : goal.returns-in-Err-clause-flaw
returns-in-Err-clause-flaw c = λ s x before asked held.
    best_wrong before x c.args.objective s.context c.args.m _ (to_z-of_z c.ranges.m) c.args.values.now c.args.items.now c.in_ok-flaw.field-0 (c.in_ok-flaw.ensures s x asked) c.in-Err.flaw c.in-Err.is

pub returns-in_ok-flaw-in-Ok-clause-flaw : goal.returns-in_ok-flaw-in-Ok-clause-flaw
returns-in_ok-flaw-in-Ok-clause-flaw c = λ s x before asked held.
    best_items before x c.args.objective s.context c.args.m _ (to_z-of_z c.ranges.m) c.args.values.now c.args.items.now c.in_ok-flaw.field-0 (c.in_ok-flaw.ensures s x asked) c.in-Ok.difference c.in-Ok.is c.in_ok-flaw-in-Ok.flaw
    (c.in_ok-flaw-in-Ok.ensures.flaw s x before asked held)

pub returns-in_ok-flaw-in-Ok-clause-held : goal.returns-in_ok-flaw-in-Ok-clause-held
returns-in_ok-flaw-in-Ok-clause-held c = λ none s x before asked held.
    best_held before x c.args.objective s.context c.args.m _ (to_z-of_z c.ranges.m) c.args.values.now c.args.items.now c.in_ok-flaw.field-0 (c.in_ok-flaw.ensures s x asked) c.in-Ok.difference c.in-Ok.is c.least_items_flaw.new.earlier
    (c.in_ok-flaw-in-Ok.ensures.held none s x before asked held)
