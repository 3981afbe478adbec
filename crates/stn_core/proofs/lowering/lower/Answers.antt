use Rattle.std.proofs.Common.{rules, length, set, FitsSigned, ◌≡◌, neg_ℤ, pos, ◌<ℤ◌, ◌≤ℤ◌}
use Rattle.std.specs.Int.{w128}
use Rattle.std.proofs.lemmas.Int.{to_z-of_z}
use Rattle.stn_core.specs.Limits.{value_limit}
use Rattle.stn_core.specs.Literal.{value_at, literal_at}
use Rattle.stn_core.proofs.Uppers.{upper_next}
use Rattle.stn_core.proofs.lowering.lower.Goals as goal

pub returns-then-falls : goal.returns-then-falls
returns-then-falls c =
    let fit : FitsSigned w128 c.allowed-now.result = search rules in
    let e : c.put.new.values ≡ set c.args.values.now (literal_at c.args.literals.now c.args.place).x c.allowed-now.result = simp to_z-of_z at c.put.ensures in
    let bad : c.allowed-now.result <ℤ value_at c.args.values.now (literal_at c.args.literals.now c.args.place).x = simp to_z-of_z at (c.falls.ensures.bad c.if-falls.true) in
    let low : neg_ℤ (pos (value_limit)) ≤ℤ c.allowed-now.result = simp to_z-of_z at (c.falls.ensures.low c.if-falls.true) in
    record { upper = rw e (upper_next (length c.args.values.now) c.args.literals.now c.args.values.now c.args.place c.allowed-now.result c.requires.place c.requires.over c.requires.upper c.allowed-now.ensures bad low) }
