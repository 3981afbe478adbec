use Rattle.std.proofs.Common.{arith, refl, sym, ap, inr, subst, ◌∙◌}
use Rattle.smt_script.specs.code.Kept.{Kept}
use Rattle.script_walk.specs.code.Standing.{Stands}
use Rattle.dtp_check.specs.declared.script_part.PartEnd.TheVariants as part
use Rattle.dtp_check.specs.declared.script_part.Next.TheVariants.{Ended}
use Rattle.dtp_check.proofs.Visiting.{command_event, part_command}
use Rattle.dtp_check.proofs.Walking.{end_read}
use Rattle.dtp_check.proofs.judge.JudgingVisitor.next.Goals as goal

pub carry_out-requires-clause-stands : goal.carry_out-requires-clause-stands
carry_out-requires-clause-stands g c =
    let j = c.requires.3.judging in
    (j.place.state, subst (λ (k : Kept). Stands k j.place.state) (sym c.in_ok-id.ensures.state) j.there.stands)

pub carry_out-requires-clause-few : goal.carry_out-requires-clause-few
carry_out-requires-clause-few g c =
    let h = c.requires.3 in
    let counted = h.counted in
    let within = h.within in
    let few = h.few in
    let number = c.in_ok-id.ensures.number in
    omega (arith, counted, within, few, number)

pub returns-in_ok-event-in-Command-clause-comes : goal.returns-in_ok-event-in-Command-clause-comes
returns-in_ok-event-in-Command-clause-comes g c =
    let v = c.args.self.now.walk in
    let read = c.read_on.new.walk in
    let w = c.carry_out.new.self in
    let e = c.in_ok-id.ensures in (
      command_event v w c.in_ok-event-in-Command.event
          (part_command v read w _ c.in-Command.id c.in-Command.is e.next c.in_ok-event-in-Command.event e.number e.state c.carry_out.ensures.lexer c.carry_out.ensures.sexprs
          c.in_ok-event-in-Command.ensures.carries e.fresh e.forward e.within e.lexer_bytes e.table_bytes),
      refl,
    )

pub returns-in-Ended-Unread-clause-comes : goal.returns-in-Ended-Unread-clause-comes
returns-in-Ended-Unread-clause-comes g c =
    let v = c.args.self.now.walk in
    let read = c.read_on.new.walk in (
      inr (read.lexer.place, end_read v.lexer.bytes v.lexer.place read.sexprs read.lexer.place _ (part.Unread c.in-Ended-Unread.kind) (c.in-Ended-Unread.is ∙ ap Ended c.in-Ended-Unread.field-0-is) c.in_ok-id.ensures.next),
      refl,
    )

pub returns-in-Ended-clause-comes : goal.returns-in-Ended-clause-comes
returns-in-Ended-clause-comes g c =
    let v = c.args.self.now.walk in
    let read = c.read_on.new.walk in (
      inr (c.in-Ended.field-0, (read.lexer.place, end_read v.lexer.bytes v.lexer.place read.sexprs read.lexer.place _ c.in-Ended.field-0 c.in-Ended.is c.in_ok-id.ensures.next)),
      refl,
    )
