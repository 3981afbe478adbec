-- A judge where an event comes: what it goes on to, and what the script comes to there.
use Rattle.std.proofs.Common.{arith, refl, sym, ap, subst, inl, inr, ◌∙◌, ◌≡◌, ◌≤◌, ◌<◌, ◌-◌, ◌+◌, ◌^◌, ℕ, Bool, List, [], length, Option, None}
use Rattle.smt_lex.specs.code.Lexing.{Lexing}
use Rattle.smt_sexpr.specs.Tree.{Sexpr}
use Rattle.smt_sexpr.specs.Laws.{OneOutcome}
use Rattle.smt_sexpr.specs.Reading.{Spells}
use Rattle.smt_sexpr.specs.Table.{Table, Means}
use Rattle.stn_core.specs.declared.problem.Problem.{Problem}
use Rattle.cert_read.specs.code.Entries.{EntriesFrom}
use Rattle.smt_answer.specs.declared.kind.Kind.{Kind}
use Rattle.smt_script.specs.declared.state.Effect.TheVariants.{Ask, Tell}
use Rattle.smt_script.specs.declared.state.Notice.{Notice}
use Rattle.smt_script.specs.declared.state.Question.{Question}
use Rattle.smt_script.specs.Laws.{ModeIsKept, OnlyExitEnds}
use Rattle.smt_script.specs.code.Kept.{Kept}
use Rattle.smt_script.specs.States.{State}
use Rattle.script_walk.specs.code.Events.{IsStart, Carries}
use Rattle.script_walk.specs.code.Standing.{Stands}
use Rattle.script_walk.specs.declared.walk.Event.{Event}
use Rattle.script_walk.specs.declared.walk.Event.TheVariants.{Told, Asked, Ended, Failed}
use Rattle.script_walk.specs.declared.walk.Walk.{Walk}
use Rattle.kept_lemmas.specs.Entries.{Placed}
use Rattle.dtp_check.specs.declared.earlier.Earlier.{Earlier}
use Rattle.dtp_check.specs.declared.judge.Progress.{Progress}
use Rattle.dtp_check.specs.declared.judge.Progress.TheVariants.{Going, Judged}
use Rattle.dtp_check.specs.declared.judgement.Judgement.{Judgement}
use Rattle.dtp_check.specs.declared.judgement.Judgement.TheVariants.{Script}
use Rattle.dtp_check.specs.declared.script_part.PartEnd.TheVariants as part
use Rattle.dtp_check.specs.declared.script_part.Next.{Next}
use Rattle.dtp_check.specs.declared.script_part.Next.TheVariants.{Command}
use Rattle.dtp_check.specs.Judged.{EndsPart, surplus_of}
use Rattle.dtp_check.specs.code.Asked.{IsAsked}
use Rattle.dtp_check.specs.code.Earlier.{Holds, HoldsTrees, SufficesFrom}
use Rattle.dtp_check.specs.code.Judging.{IsPartCommand, IsPartEvent, IsJudging, IsJudgingSoFar}
use Rattle.dtp_check.specs.code.Made.{IsMadeStill}
use Rattle.dtp_check.specs.code.Parts.{IsNext, GoesOn}
use Rattle.dtp_check.specs.code.Turns.{Leads, IsSoOfAll, StandsAt, GoesTo, IsQuestionTurn, IsJudgedTurn, ScriptComesTo}
use Rattle.dtp_check.proofs.Judging.{notice_judged, question_judged, exit_judged, refused_judged}
use Rattle.dtp_check.proofs.Making.{nothing_made, made_after}
use Rattle.dtp_check.proofs.Reading.{judging_starts, stands_as, goes_to, judging_goes_on, judged_here, judged_over, judged_unread}
use Rattle.dtp_check.proofs.Walking.{command_read}

-- ---- what comes next

pub command_event : (v w : Walk) (event : Event) → IsPartCommand v w event → IsPartEvent v w event
command_event v w (Told id notice) h = h
command_event v w (Asked id question) h = h
command_event v w Ended h = inl h
command_event v w (Failed kind) h = inl h

-- a command was read, up to the second walk, and carried out, up to the third
module _ (v read w : Walk) (next : Next) (id : ℕ) (is : next ≡ Command id) (h : IsNext v.lexer.bytes v.lexer.place read.sexprs read.lexer.place next) where
  pub part_command : (event : Event) → read.number ≡ v.number → read.state ≡ v.state → w.lexer ≡ read.lexer → w.sexprs ≡ read.sexprs
      → ((s : State) (x : Sexpr) → Stands read.state s → Means read.sexprs id x → Carries read w s x event)
      → (GoesOn next → read.lexer.failed ≡ None) → (GoesOn next → v.lexer.place < read.lexer.place) → (GoesOn next → read.lexer.place ≤ length read.lexer.bytes)
      → read.lexer.bytes ≡ v.lexer.bytes → read.sexprs.bytes ≡ v.sexprs.bytes → IsPartCommand v w event
  part_command event number state lexer sexprs carries fresh forward within lexer_bytes table_bytes =
      let command = command_read v.lexer.bytes v.lexer.place read.sexprs read.lexer.place next id is h in
      let goes : GoesOn next = subst GoesOn (sym is) tt in
      record {
        x = command.x;
        spells = subst (λ (l : Lexing). Spells v.lexer.bytes v.lexer.place command.x l.place) (sym lexer) command.spells;
        apart = command.apart;
        read = read;
        number = number;
        state = state;
        carries = λ s stands. carries s command.x stands command.means;
        fresh = subst (λ (l : Lexing). l.failed ≡ None) (sym lexer) (fresh goes);
        forward = subst (λ (l : Lexing). v.lexer.place < l.place) (sym lexer) (forward goes);
        within = subst (λ (l : Lexing). l.place ≤ length l.bytes) (sym lexer) (within goes);
        lexer_bytes = subst (λ (l : Lexing). l.bytes ≡ v.lexer.bytes) (sym lexer) lexer_bytes;
        table_bytes = subst (λ (t : Table). t.bytes ≡ v.sexprs.bytes) (sym sexprs) table_bytes;
      }

-- ---- between two events

module _ {K : Type 0} (leads : Leads K) (wanted : Bool) (first : K) where
  pub judging_begins : (w : Walk) (made : Option Problem) (earlier : Earlier) (entries : EntriesFrom) → IsStart w → made ≡ None → entries.count ≡ 0 → Holds earlier [] → SufficesFrom earlier entries → HoldsTrees wanted earlier
      → IsJudgingSoFar leads wanted w.lexer.bytes entries first w made earlier entries first
  judging_begins w made earlier entries start none count holds suffices trees =
      let place = start.place in
      let number = start.number in
      record {
        fresh = start.fresh;
        lexer_bytes = refl;
        table_bytes = start.same;
        within = omega (arith, place);
        counted = omega (arith, place, number);
        few = start.few;
        suffices = suffices;
        trees = trees;
        made_still = nothing_made w.state made none;
        judging = judging_starts leads w.lexer.bytes entries first w earlier count holds start;
      }

module _ {K : Type 0} (leads : Leads K) (wanted : Bool) (one : OneOutcome) (bytes : List ℕ) (start : EntriesFrom) (first : K) (v : Walk) (made : Option Problem) (earlier : Earlier) (here : EntriesFrom) (now : K)
    (h : IsJudgingSoFar leads wanted bytes start first v made earlier here now) where
  module _ (w : Walk) (event : Event) (c : IsPartCommand v w event) where
    at_command : StandsAt c.read.number here.count c.read.state earlier h.judging.place h.judging.before
    at_command = stands_as here.count earlier h.judging.place h.judging.before v c.read c.number c.state h.judging.there

    spells_here : Spells bytes v.lexer.place c.x w.lexer.place
    spells_here = subst (λ (b : List ℕ). Spells b v.lexer.place c.x w.lexer.place) h.lexer_bytes c.spells

    pub less_read : (u : Walk) → u.lexer ≡ w.lexer → length u.lexer.bytes - u.lexer.place < length v.lexer.bytes - v.lexer.place
    less_read u same =
        let forward = c.forward in
        let within = c.within in
        let longer : length w.lexer.bytes ≡ length v.lexer.bytes = ap (λ (b : List ℕ). length b) c.lexer_bytes in
        subst (λ (l : Lexing). length l.bytes - l.place < length v.lexer.bytes - v.lexer.place) (sym same) (omega (arith, forward, within, longer))

    -- behind the command the script goes on
    goes_further : (u : Walk) (remade : Option Problem) (later : Earlier) (there : EntriesFrom) (next : K) → u.lexer ≡ w.lexer → u.sexprs ≡ w.sexprs
        → GoesTo leads now next h.judging.place h.judging.before here there c.x u.number u.state later → SufficesFrom later there → HoldsTrees wanted later → IsMadeStill u.state remade
        → IsJudgingSoFar leads wanted bytes start first u remade later there next
    goes_further u remade later there next lexer sexprs turn suffices trees still =
        let forward = c.forward in
        let counted = h.counted in
        let few = h.few in
        let within = c.within in
        let more = turn.counted ∙ ap (λ (n : ℕ). n + 1) h.judging.there.numbered in
        let place : u.lexer.place ≡ w.lexer.place = ap (λ (l : Lexing). l.place) lexer in
        let longer : length w.lexer.bytes ≡ length bytes = ap (λ (b : List ℕ). length b) (c.lexer_bytes ∙ h.lexer_bytes) in
        record {
          fresh = subst (λ (l : Lexing). l.failed ≡ None) (sym lexer) c.fresh;
          lexer_bytes = ap (λ (l : Lexing). l.bytes) lexer ∙ c.lexer_bytes ∙ h.lexer_bytes;
          table_bytes = ap (λ (t : Table). t.bytes) sexprs ∙ c.table_bytes ∙ h.table_bytes;
          within = omega (arith, within, longer, place);
          counted = omega (arith, forward, counted, more, place);
          few = few;
          suffices = suffices;
          trees = trees;
          made_still = still;
          judging = subst (λ (at : ℕ). IsJudging leads bytes start first at u.number there u.state later next) (sym place)
              (judging_goes_on one leads bytes start first v.lexer.place v.number here v.state earlier now h.judging w.lexer.place c.x u.number there u.state later next spells_here c.apart turn);
        }

  -- ---- something is told

  module _ (w : Walk) (id : ℕ) (notice : Notice) (c : IsPartCommand v w (Told id notice)) where
    told_carries : Carries c.read w h.judging.place.state c.x (Told id notice)
    told_carries = c.carries h.judging.place.state (at_command w (Told id notice) c).stands

    pub told_further : OnlyExitEnds → ModeIsKept → IsJudgingSoFar leads wanted bytes start first w made earlier here now
    told_further only kept =
        goes_further w (Told id notice) c w made earlier here now refl refl
        (notice_judged leads h.judging.before now here c.read.number c.read.state earlier h.judging.place (at_command w (Told id notice) c) w c.x only notice told_carries.1 told_carries.2)
        h.suffices h.trees
        (made_after kept c.read w h.judging.place.state c.x (Tell notice) made (at_command w (Told id notice) c).stands told_carries.1 (subst (λ (k : Kept). IsMadeStill k made) (sym c.state) h.made_still))

  -- ---- a question

  module _ (w : Walk) (id : ℕ) (question : Question) (c : IsPartCommand v w (Asked id question)) where
    asked_carries : Carries c.read w h.judging.place.state c.x (Asked id question)
    asked_carries = c.carries h.judging.place.state (at_command w (Asked id question) c).stands

    is_asked : IsAsked w.state question c.x asked_carries.1.next
    is_asked = record { stands = asked_carries.1.stands; before = h.judging.place.state; made = (at_command w (Asked id question) c).stands.made; asks = asked_carries.1.leads }

    pub asked_so : (s : State) × (x : Sexpr) × IsAsked w.state question x s
    asked_so = (asked_carries.1.next, c.x, is_asked)

    pub asked_few : w.number < 2 ^ 64 - 1
    asked_few =
        let read = asked_carries.2 in
        let number = c.number in
        let counted = h.counted in
        let within = h.within in
        let few = h.few in
        omega (arith, read, number, counted, within, few)

    pub asked_made : ModeIsKept → IsMadeStill w.state made
    asked_made kept =
        made_after kept c.read w h.judging.place.state c.x (Ask question) made (at_command w (Asked id question) c).stands asked_carries.1 (subst (λ (k : Kept). IsMadeStill k made) (sym c.state) h.made_still)

    module _ (only : OnlyExitEnds) (u : Walk) (later : Earlier) (there : EntriesFrom) (next : K) (progress : Progress)
        (turn : (s : State) (x : Sexpr) (before : List Placed) → IsAsked w.state question x s → Holds earlier before → IsQuestionTurn leads now next question x s w.number before here there u.number u.state later progress) where
      judged_turn : IsJudgedTurn leads now next h.judging.place h.judging.before here there c.x u.number u.state later progress
      judged_turn =
          question_judged leads h.judging.before now here c.read.number c.read.state earlier h.judging.place (at_command w (Asked id question) c) w c.x only question u.number u.state later next there asked_carries.1 asked_carries.2 progress
          (turn asked_carries.1.next c.x h.judging.before is_asked (at_command w (Asked id question) c).held)

      pub asked_further : (remade : Option Problem) → progress ≡ Going → u.lexer ≡ w.lexer → u.sexprs ≡ w.sexprs → SufficesFrom later there → HoldsTrees wanted later → IsMadeStill u.state remade → IsJudgingSoFar leads wanted bytes start first u remade later there next
      asked_further remade is lexer sexprs suffices trees still =
          goes_further w (Asked id question) c u remade later there next lexer sexprs
          (goes_to leads now next h.judging.place h.judging.before here there c.x u.number u.state later progress is judged_turn) suffices trees still

      pub asked_over : (judgement : Judgement) → progress ≡ Judged judgement → IsSoOfAll start there (ScriptComesTo leads first next bytes judgement)
      asked_over judgement is =
          judged_here one leads bytes start first v.lexer.place v.number here v.state earlier now h.judging there judgement next w.lexer.place c.x u.number u.state later progress
          (spells_here w (Asked id question) c) c.apart is judged_turn

  -- ---- the end

  pub ended_over : (w : Walk) (there : EntriesFrom) (judgement : Judgement) → IsPartEvent v w Ended → IsSoOfAll here there (λ all. judgement ≡ surplus_of (here.count + 1) all)
      → IsSoOfAll start there (ScriptComesTo leads first now bytes judgement)
  ended_over w there judgement (inl c) so =
      let at = at_command w Ended c in
      let carries = c.carries h.judging.place.state at.stands in
      judged_here one leads bytes start first v.lexer.place v.number here v.state earlier now h.judging there judgement now w.lexer.place c.x w.number w.state earlier (Judged judgement)
      (spells_here w Ended c) c.apart refl
      (exit_judged leads h.judging.before now here c.read.number c.read.state earlier h.judging.place at w c.x judgement there carries.0 so)
  ended_over w there judgement (inr (found, (behind, ends))) so =
      judged_over one leads bytes start first v.lexer.place v.number here v.state earlier now h.judging there behind found judgement
      (subst (λ (b : List ℕ). EndsPart b v.lexer.place found behind) h.lexer_bytes ends) so

  pub failed_over : (w : Walk) (kind : Kind) → IsPartEvent v w (Failed kind) → IsSoOfAll start here (ScriptComesTo leads first now bytes (Script w.number kind))
  failed_over w kind (inl c) =
      let at = at_command w (Failed kind) c in
      let carries = c.carries h.judging.place.state at.stands in
      judged_here one leads bytes start first v.lexer.place v.number here v.state earlier now h.judging here (Script w.number kind) now w.lexer.place c.x w.number w.state earlier (Judged (Script w.number kind))
      (spells_here w (Failed kind) c) c.apart refl
      (refused_judged leads h.judging.before now here c.read.number c.read.state earlier h.judging.place at w c.x c.read kind now carries.0 carries.1)
  failed_over w kind (inr (behind, ends)) =
      judged_unread one leads bytes start first v.lexer.place v.number here v.state earlier now h.judging behind kind (Script w.number kind)
      (subst (λ (b : List ℕ). EndsPart b v.lexer.place (part.Unread kind) behind) h.lexer_bytes ends)
