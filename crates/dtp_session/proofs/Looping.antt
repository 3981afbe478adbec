-- The loop over the commands of a script.
use Rattle.std.proofs.Common.{arith, refl, sym, ap, subst, inl, inr, ◌∙◌, ◌≡◌, ℕ, List, [], ◌++◌, Option, None, Ok}
use Rattle.std.specs.Io.KnownBytes.{Appends}
use Rattle.std.proofs.KnownBytes.{Appends-trans}
use Rattle.std.proofs.lemmas.List.{append_assoc}
use Rattle.cert_text.specs.declared.entry.Entry.{Entry}
use Rattle.smt_answer.specs.declared.kind.Kind.{Kind}
use Rattle.smt_script.specs.States.{start_state}
use Rattle.script_walk.specs.Course.{Place, Turn, start_with, IsCourseOf}
use Rattle.script_walk.specs.code.Events.{IsReady as IsWalkReady}
use Rattle.script_walk.proofs.Turns.{stopped_from}
use Rattle.dtp_entry.specs.declared.report.Report.{Report}
use Rattle.dtp_entry.specs.Entries.{verdict_of}
use Rattle.kept_lemmas.specs.Facts.{Shelf}
use Rattle.dtp_entry.specs.Transcripts.{opening, Output, IsWritten, IsOutput, IsReport, IsReportPart}
use Rattle.dtp_entry.specs.Written.{Writes, IsFront, IsPartOf, HasFault}
use Rattle.dtp_entry.proofs.Written.{appends_nothing}
use Rattle.dtp_session.specs.declared.piece.Piece.{Piece}
use Rattle.dtp_session.specs.declared.piece.Piece.TheVariants.{Opening, Decision, Proof, Told, Closing, Error}
use Rattle.dtp_session.specs.declared.session.Session.{Session}
use Rattle.dtp_session.specs.code.Answering.{IsSoFar}
use Rattle.dtp_session.specs.code.Sessions.{IsText, IsStart, place_of, behind, IsGoing, Ends, GoesOn, Leads, IsNext}
use Rattle.dtp_session.proofs.Transcribing.{nothing_yet, front_more, front_of, front_behind, nothing_front, same_place}

-- ---- the start

module _ (p : Session) (start : IsStart p) where
  pub start_are : (left : List Entry) (turns : List (Turn Entry)) → IsCourseOf verdict_of p.walk.lexer.bytes p.walk.lexer.place (place_of p start_state left) turns
      → IsCourseOf verdict_of p.walk.lexer.bytes 0 (start_with left) turns
  start_are left turns h =
      let at_start = subst (λ (o : Place Entry). IsCourseOf verdict_of p.walk.lexer.bytes p.walk.lexer.place o turns) (same_place p start_state None left 1 start.walk.number start.held) h in
      subst (λ (n : ℕ). IsCourseOf verdict_of p.walk.lexer.bytes n (start_with left) turns) start.walk.place at_start

  -- nothing is stated yet
  start_writes : (turns : List (Turn Entry)) (text : List ℕ) → IsWritten p.report p.earlier turns text → IsWritten p.report [] turns text
  start_writes turns text h = subst (λ (shelf : Shelf). IsWritten p.report shelf turns text) start.earlier h

  so_far_by : (before now : Option (List ℕ)) (text : List ℕ) → Appends before now text → text ≡ opening p.report → IsSoFar p.report p.walk.lexer.bytes p before now
  so_far_by before now text adds is = record {
    s = start_state;
    stands = start.stands;
    written = text;
    found = [];
    adds = adds;
    whole = λ rest from. record {
      turns = from.turns;
      are = record { are = start_are rest.found from.turns from.runs.are; legal = from.runs.legal };
      over = from.runs.over;
      used = from.runs.used;
      written = rest.text;
      writes = start_writes from.turns rest.text from.writes;
      text = ap (λ (t : List ℕ). t ++ rest.text) is;
    };
    part = λ rest from. record {
      found = from.found;
      turns = from.turns;
      are = record { are = start_are from.found from.turns from.are; legal = from.legal };
      written = from.written;
      writes = start_writes from.turns from.written from.writes;
      front = subst (λ (t : List ℕ). IsFront (t ++ rest) (opening p.report ++ from.written)) (sym is) (front_behind (opening p.report) rest from.written from.front);
    };
  }

  pub so_far_starts : (before now : Option (List ℕ)) → Writes before now (IsText p Opening) → IsSoFar p.report p.walk.lexer.bytes p before now
  so_far_starts before now (text, adds, is) = so_far_by before now text adds is

  opening_front : (added : List ℕ) → IsFront added (opening p.report ++ []) → IsReportPart p.report p.walk.lexer.bytes added
  opening_front added front = record {
    found = [];
    turns = [];
    are = record { are = stopped_from verdict_of p.walk.lexer.bytes 0 (start_with []); legal = tt };
    written = [];
    writes = refl;
    front = front;
  }

  opening_part : (added : List ℕ) → IsPartOf (IsText p Opening) added → IsReportPart p.report p.walk.lexer.bytes added
  opening_part added (inl e) = opening_front added (nothing_front added (opening p.report ++ []) e)
  opening_part added (inr (text, is, front)) = opening_front added (front_more added (opening p.report) [] (front_of added text (opening p.report) is front))

  pub opening_cut : (before now : Option (List ℕ)) → Writes before now (IsPartOf (IsText p Opening)) → Writes before now (IsReportPart p.report p.walk.lexer.bytes)
  opening_cut before now (added, adds, part) = (added, adds, opening_part added part)

-- a session before the first command is ready
pub start_ready : (p : Session) → IsStart p → IsWalkReady p.walk
start_ready p start =
    let place = start.walk.place in
    let number = start.walk.number in
    record {
      fresh = start.walk.fresh;
      same = start.walk.same;
      within = omega (arith, place);
      counted = omega (arith, place, number);
      few = start.walk.few;
      stands = (start_state, start.walk.stands);
    }

-- ---- a turn

behind_behind : (a b : List ℕ) (es fs : List Entry) (rest : Output) → behind a es (behind b fs rest) ≡ behind (a ++ b) (es ++ fs) rest
behind_behind a b es fs rest =
    let texts : a ++ (b ++ rest.text) ≡ (a ++ b) ++ rest.text = sym (append_assoc a b rest.text) in
    let found : es ++ (fs ++ rest.found) ≡ (es ++ fs) ++ rest.found = sym (append_assoc es fs rest.found) in
    let of_text : Output → List ℕ → Output = λ o t. record { text = t; found = es ++ (fs ++ rest.found); status = rest.status } in
    ap (λ (t : List ℕ). of_text rest t) texts ∙ ap (λ (f : List Entry). behind (a ++ b) [] (record { text = rest.text; found = f; status = rest.status })) found

module _ (report : Report) (script : List ℕ) (p q : Session) (before now after : Option (List ℕ)) (h : IsSoFar report script p before now) where
  pub goes_on : (piece : Piece) → GoesOn p q h.s piece → Writes now after (IsText q piece) → IsSoFar report script q before after
  goes_on piece g (text, adds, is) = record {
    s = g.next;
    stands = g.stands;
    written = h.written ++ text;
    found = h.found ++ g.found;
    adds = Appends-trans before now after h.written text h.adds adds;
    whole = λ rest from. subst (λ (o : Output). IsOutput report script o) (behind_behind h.written text h.found g.found rest)
        (h.whole (behind text g.found rest) (g.whole text is rest from));
    part = λ rest from. subst (λ (t : List ℕ). IsReportPart report script t) (sym (append_assoc h.written text rest))
        (h.part (text ++ rest) (g.part text rest is from));
  }

  pub next_going : (piece : Piece) → IsGoing piece → Leads p q h.s piece → GoesOn p q h.s piece
  next_going Opening going g = g
  next_going Decision going g = g
  next_going Proof going g = g
  next_going Told going g = g
  next_going Closing going g = absurd going
  next_going (Error kind) going g = absurd going

  pub ends : (piece : Piece) (status : ℕ) → Ends p q h.s piece status → Writes now after (IsText q piece) → Writes before after (λ added. IsReport report script added status)
  ends piece status end (text, adds, is) = (
    h.written ++ text,
    Appends-trans before now after h.written text h.adds adds,
    (h.found ++ [], h.whole (record { text = text; found = []; status = status }) (end text is)),
  )

  part_by : (piece : Piece) → IsNext p q h.s piece → (added : List ℕ) → IsPartOf (IsText q piece) added → IsReportPart report script (h.written ++ added)
  part_by piece next added (inl e) = h.part added (nothing_yet p h.s added e)
  part_by piece next added (inr (text, is, front)) = h.part added (next.cut text added is front)

  pub cut : (piece : Piece) → IsNext p q h.s piece → Writes now after (IsPartOf (IsText q piece)) → Writes before after (IsReportPart report script)
  cut piece next (added, adds, part) = (h.written ++ added, Appends-trans before now after h.written added h.adds adds, part_by piece next added part)

  pub closes : (piece : Piece) → piece ≡ Closing → IsNext p q h.s piece → Writes now after (IsText q piece) → Writes before after (λ added. IsReport report script added 0)
  closes piece e next w =
      let last : IsNext p q h.s Closing = subst (λ (z : Piece). IsNext p q h.s z) e next in
      ends Closing 0 last.leads (subst (λ (z : Piece). Writes now after (IsText q z)) e w)

  pub stops : (piece : Piece) (kind : Kind) → piece ≡ Error kind → IsNext p q h.s piece → Writes now after (IsText q piece) → Writes before after (λ added. IsReport report script added 1)
  stops piece kind e next w =
      let last : IsNext p q h.s (Error kind) = subst (λ (z : Piece). IsNext p q h.s z) e next in
      ends (Error kind) 1 last.leads (subst (λ (z : Piece). Writes now after (IsText q z)) e w)

pub nothing_more : (report : Report) (script : List ℕ) (p : Session) (before now : Option (List ℕ)) → IsSoFar report script p before now → Writes before now (IsReportPart report script)
nothing_more report script p before now h =
    (h.written ++ [], Appends-trans before now now h.written [] h.adds (appends_nothing now), h.part [] (nothing_yet p h.s [] refl))

-- ---- faults

pub ok_quiet : (before now : ℕ) (x : Unit {0}) → HasFault {A = Unit {0}} before now (Ok x) → now ≡ before
ok_quiet before now x h = h.quiet (λ e. absurd cc)
