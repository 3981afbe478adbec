use Rattle.std.proofs.Common.{rules, arith, ◌≡◌, ◌∙◌}
use Rattle.dtp_io.specs.Faults.{TookWithin}
use Rattle.dtp_io.proofs.Moves.{took_more, took_within}
use Rattle.dtp_io.proofs.all.read_all.Goals as goal

pub returns-then-count-limit-clause-stops : goal.returns-then-count-limit-clause-stops
returns-then-count-limit-clause-stops g c = (
  took_more _ _ _ c.reads.all.items c.read.new.buf c.in_ok-count.count c.args.limit c.reads.invariant.consumed c.in_ok-count.ensures.bytes.0 (omega (arith, c.in_ok-count.ensures.bound)) (omega (arith, c.if-count-limit.true, c.len.ensures)),
  c.in_ok-count.ensures.cause.quiet ∙ c.reads.invariant.quiet,
)

pub returns-in_err-extend_from_slice-clause-stops : goal.returns-in_err-extend_from_slice-clause-stops
returns-in_err-extend_from_slice-clause-stops g c =
    let within : TookWithin (g.S.Source.left c.args.source.now) (g.S.Source.left c.read.new.self) c.args.limit =
    took_within _ _ _ c.reads.all.items c.read.new.buf c.in_ok-count.count c.args.limit c.reads.invariant.consumed c.in_ok-count.ensures.bytes.0 (omega (arith, c.in_ok-count.ensures.bound)) (omega (arith, c.if-count-limit.false, c.len.ensures, c.reads.invariant.within)) in
    let quiet : g.S.Source.faults c.read.new.self ≡ g.S.Source.faults c.args.source.now = c.in_ok-count.ensures.cause.quiet ∙ c.reads.invariant.quiet in
    search (rules, within, quiet)
