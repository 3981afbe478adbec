-- Where the commands of a plan's script lead before its check-sat.
use Rattle.std.proofs.Common.{◌≡◌, ◌∙◌, refl, sym, ap, [], length, Option, Some, None}
use Rattle.std.specs.Prelude.{option_map}
use Rattle.smt_sexpr.specs.Laws.{OneOutcome, SexprReadsBack}
use Rattle.smt_script.specs.declared.state.Question.TheVariants.{CheckSat}
use Rattle.smt_script.specs.declared.state.Satisfiability.{Satisfiability}
use Rattle.smt_script.specs.States.{State}
use Rattle.script_walk.specs.Course.{start_with, Turn, last_of}
use Rattle.dtp_gen.specs.Scripts.{script}
use Rattle.script_law.proofs.Ending.{ends_asked}
use Rattle.script_law.proofs.Reading.{script_back}
use Rattle.script_law.proofs.Starts.{starts_many}
use Rattle.script_law.proofs.States.{ints_length}
use Rattle.bench_law.specs.Laws.{NamesAreOperations}
use Rattle.bench_law.proofs.Commands.{names, check, told}
use Rattle.bench_law.proofs.Asking.{ready, asks_once}

abbrev says : Satisfiability → Satisfiability
says verdict = verdict

-- a course with a last state is over
over_by : (last : Option (Turn Satisfiability)) (s : State) → option_map (λ (t : Turn Satisfiability). t.state) last ≡ Some s → (t : Turn Satisfiability) × (last ≡ Some t)
over_by None s e = absurd cc
over_by (Some t) s e = (t, refl)

state_of : (last : Option (Turn Satisfiability)) (t : Turn Satisfiability) (s : State) → option_map (λ (t : Turn Satisfiability). t.state) last ≡ Some s → last ≡ Some t → s ≡ t.state
state_of None t s e f = absurd cc
state_of (Some u) t s e f =
    let same : u ≡ t = cc in
    let is : u.state ≡ s = cc in
    sym is ∙ ap (λ (v : Turn Satisfiability). v.state) same

pub counted : SexprReadsBack → OneOutcome → NamesAreOperations
counted back one p jobs some machines deadline counts h =
    let path = ready p jobs some machines deadline in
    let once = asks_once p jobs some machines deadline in
    let mine = script_back back (script p) (told p) check once.text once.lines in
    let w = h.leads in
    let over = over_by (last_of w.turns) h.last w.is_last in
    let e = ends_asked says check CheckSat path.t once.asks once.taken one (script p) (told p) mine.here (start_with []) path.tells mine.reads w.turns w.are over refl in
    let same : h.last ≡ path.t = state_of (last_of w.turns) e.0 h.last w.is_last e.1 ∙ e.2 in
    h.names ∙ ap (λ (s : State). length s.context.declared) same ∙ ap length path.holds.declared ∙ ints_length (names p) ∙ starts_many p.jobs p.machines
