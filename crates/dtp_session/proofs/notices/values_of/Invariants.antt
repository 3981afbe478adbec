use Rattle.std.proofs.Common.{◌≡◌, length}
use Rattle.smt_script.specs.States.{State}
use Rattle.idl_term.specs.Contexts.{IsScheduleFor, environment, scope_of}
use Rattle.idl_term.specs.Values.{value}
use Rattle.idl_node.specs.Truth.{point_values, AreTruths}
use Rattle.script_walk.specs.code.Standing.{Stands}
use Rattle.dtp_session.proofs.Saying.{AreTestedFrom, AreAnsweredTo}
use Rattle.dtp_session.proofs.notices.values_of.Given as goal

abbrev pub invariant-loop-term : goal.invariant-loop-term
invariant-loop-term l = record {
  same : l.state ≡ l.fn.state;
  marks : AreTruths l.state.nodes (point_values l.values) l.marks.items;
  counted : length l.answers.items ≡ l.term-index;
  tested : (s : State) × Stands l.state s × IsScheduleFor s.context l.values × AreTestedFrom l.sexprs l.terms (scope_of s.context) s.context.nodes l.term-index;
  answered : (s : State) → Stands l.state s → IsScheduleFor s.context l.values → AreAnsweredTo l.sexprs l.terms (value (environment s.context l.values)) l.answers.items l.term-index;
}
