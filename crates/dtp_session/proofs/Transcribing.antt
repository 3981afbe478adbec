-- From a turn to what is written of the script.
use Rattle.std.proofs.Common.{refl, sym, ap, subst, ◌∙◌, ◌≡◌, ℕ, ◌+◌, List, [], ◌∷◌, ◌++◌, Some, None}
use Rattle.std.specs.List.{AllByRecursion}
use Rattle.std.proofs.lemmas.List.{append_assoc, append-nil}
use Rattle.cert_text.specs.declared.entry.Entry.{Entry}
use Rattle.smt_lex.specs.code.Lexing.{Lexing}
use Rattle.smt_answer.specs.declared.kind.Kind.{Kind}
use Rattle.smt_answer.specs.Texts.{error_line}
use Rattle.smt_script.specs.declared.state.Notice.{Notice}
use Rattle.smt_script.specs.declared.state.Question.{Question}
use Rattle.smt_script.specs.States.{State, settled}
use Rattle.script_walk.specs.Questions.{refusal_of}
use Rattle.script_walk.specs.Course.{Place, Turn, Outcome, tells, answers, ends, fails, turn, IsCourseOf, status_of, answers_of}
use Rattle.script_walk.specs.code.Events.{IsEvent}
use Rattle.script_walk.specs.declared.walk.Event.TheVariants.{Told as ToldOf, Asked}
use Rattle.script_walk.specs.declared.walk.Walk.{Walk}
use Rattle.script_walk.proofs.Turns.{IsLast, stopped_from, told_from, answered_from, barred_from}
use Rattle.dtp_entry.specs.declared.report.Report.{Report}
use Rattle.dtp_entry.specs.Entries.{verdict_of}
use Rattle.dtp_entry.specs.Reports.{version_of}
use Rattle.kept_lemmas.specs.Facts.{Shelf}
use Rattle.dtp_entry.specs.Transcripts.{Held, closing, told, Decides, IsPiece, IsWritten, IsLegal}
use Rattle.dtp_entry.specs.Written.{IsFront}
use Rattle.dtp_session.specs.declared.piece.Piece.{Piece}
use Rattle.dtp_session.specs.declared.piece.Piece.TheVariants.{Opening, Decision, Proof, Told, Closing, Error}
use Rattle.dtp_session.specs.declared.session.Session.{Session}
use Rattle.dtp_session.specs.code.Keeping.{IsShownIn, line_shown}
use Rattle.dtp_session.specs.code.Leading.{LeadsOn, EndsHere}
use Rattle.dtp_session.specs.code.Sessions.{IsText, Holds, place_of, Runs, PartFrom, KeepsReading, KeepsPlace, Tells, IsChecked, IsGoing, GoesOn, Leads, IsNext}
use Rattle.dtp_session.proofs.Keeping.{line_legal}

-- ---- fronts

pub front_more : (added piece others : List ℕ) → IsFront added piece → IsFront added (piece ++ others)
front_more added piece others (rest, e) = (rest ++ others, ap (λ (t : List ℕ). t ++ others) e ∙ append_assoc added rest others)

pub front_behind : (text added whole : List ℕ) → IsFront added whole → IsFront (text ++ added) (text ++ whole)
front_behind text added whole (rest, e) = (rest, ap (λ (t : List ℕ). text ++ t) e ∙ sym (append_assoc text added rest))

pub front_of : (added text whole : List ℕ) → text ≡ whole → IsFront added text → IsFront added whole
front_of added text whole e front = subst (IsFront added) e front

pub nothing_front : (added whole : List ℕ) → added ≡ [] → IsFront added whole
nothing_front added whole e = (whole, ap (λ (t : List ℕ). t ++ whole) (sym e))

-- nothing is a front of whatever is written
pub nothing_yet : (p : Session) (s : State) (added : List ℕ) → added ≡ [] → PartFrom p s added
nothing_yet p s added e = record {
  found = [];
  turns = [];
  are = stopped_from verdict_of p.walk.lexer.bytes p.walk.lexer.place (place_of p s []);
  legal = tt;
  written = [];
  writes = refl;
  front = nothing_front added [] e;
}

-- ---- the last turn

module _ (p q : Session) (s : State) (report : q.report ≡ p.report) where
  pub closing_next : IsLast verdict_of p.walk q.walk (place_of p s []) ends → IsNext p q s Closing
  closing_next end =
      let t : Turn Entry = turn (place_of p s []) end.last ends in record {
        cut = λ text added is front. record {
          found = [];
          turns = t ∷ [];
          are = end.is;
          legal = (tt, tt);
          written = closing p.report ++ [];
          writes = (closing p.report, [], p.earlier, refl, (refl, refl), refl);
          front = front_more added (closing p.report) [] (front_of added text (closing p.report) (is ∙ ap closing report) front);
        };
        leads = λ text is. record {
          turns = t ∷ [];
          runs = record { are = end.is; legal = (tt, tt); over = refl; used = refl };
          writes = (text, [], p.earlier, sym (append-nil text), (is ∙ ap closing report, refl), refl);
        };
      }

  pub error_next : (kind : Kind) → q.walk.number ≡ p.walk.number → (last : State) → IsCourseOf verdict_of p.walk.lexer.bytes p.walk.lexer.place (place_of p s []) (turn (place_of p s []) last (fails kind) ∷ [])
      → IsNext p q s (Error kind)
  error_next kind number last is_last =
      let t : Turn Entry = turn (place_of p s []) last (fails kind) in
      let line : error_line q.walk.number kind ≡ error_line p.walk.number kind = ap (λ (k : ℕ). error_line k kind) number in
      record {
        cut = λ text added is front. record {
          found = [];
          turns = t ∷ [];
          are = is_last;
          legal = (tt, tt);
          written = error_line p.walk.number kind ++ [];
          writes = (error_line p.walk.number kind, [], p.earlier, refl, (refl, refl), refl);
          front = front_more added (error_line p.walk.number kind) [] (front_of added text (error_line p.walk.number kind) (is ∙ line) front);
        };
        leads = λ text is. record {
          turns = t ∷ [];
          runs = record { are = is_last; legal = (tt, tt); over = refl; used = refl };
          writes = (text, [], p.earlier, sym (append-nil text), (is ∙ line, refl), refl);
        };
      }

-- the last turn, whatever is written of it
module _ (p : Session) (s : State) where
  pub ends_here : (w : Walk) → IsLast verdict_of p.walk w (place_of p s []) ends → EndsHere p s 0
  ends_here w end = record {
    turns = turn (place_of p s []) end.last ends ∷ [];
    runs = record { are = end.is; legal = (tt, tt); over = refl; used = refl };
    same = λ last. refl;
  }

  pub fails_here : (kind : Kind) (last : State) → IsCourseOf verdict_of p.walk.lexer.bytes p.walk.lexer.place (place_of p s []) (turn (place_of p s []) last (fails kind) ∷ [])
      → EndsHere p s 1
  fails_here kind last is_last = record {
    turns = turn (place_of p s []) last (fails kind) ∷ [];
    runs = record { are = is_last; legal = (tt, tt); over = refl; used = refl };
    same = λ last. refl;
  }

-- ---- a turn behind which the script goes on

abbrev pub next_place : Session → State → Held → List Entry → Place Entry
next_place p next held left = record { number = p.walk.number + 1; state = next; held = held; left = left }

-- a first turn from here, which comes to this, with these entries used and this line written, and a state and a shelf behind it
pub record IsStep (p : Session) (s : State) (mid : ℕ) (next : State) (held : Held) (found : List Entry) (line : List ℕ) (now : Shelf) (outcome : Outcome Entry) : Type 0 where
  pub first : List Entry → Turn Entry
  pub comes : (left : List Entry) → (first left).outcome ≡ outcome
  pub are : (left : List Entry) (turns : List (Turn Entry)) → IsCourseOf verdict_of p.walk.lexer.bytes mid (next_place p next held left) turns
      → IsCourseOf verdict_of p.walk.lexer.bytes p.walk.lexer.place (place_of p s (found ++ left)) (first left ∷ turns)
  pub legal : (left : List Entry) → IsLegal p.report (first left)
  pub used : (left : List Entry) (turns : List (Turn Entry)) → answers_of (first left ∷ turns) ≡ found ++ answers_of turns
  pub status : (left : List Entry) (turns : List (Turn Entry)) → status_of (first left ∷ turns) ≡ status_of turns
  pub writes : (left : List Entry) → IsPiece p.report p.earlier (first left) (first left).outcome line now

going_leads : (p q : Session) (s : State) (piece : Piece) → IsGoing piece → GoesOn p q s piece → Leads p q s piece
going_leads p q s Opening going h = h
going_leads p q s Decision going h = h
going_leads p q s Proof going h = h
going_leads p q s Told going h = h
going_leads p q s Closing going h = absurd going
going_leads p q s (Error kind) going h = absurd going

-- the same place in the words of the session before
pub same_place : (q : Session) (next : State) (held : Held) (left : List Entry) (k : ℕ) → q.walk.number ≡ k → q.held ≡ held
    → place_of q next left ≡ record { number = k; state = next; held = held; left = left }
same_place q next held left k e f =
    let of_all : ℕ → Held → Place Entry = λ n h. record { number = n; state = next; held = h; left = left } in
    ap (λ (n : ℕ). of_all n q.held) e ∙ ap (λ (h : Held). of_all k h) f

-- the session behind the turn
pub record IsBehind (p q : Session) (mid : ℕ) (held : Held) (now : Shelf) : Type 0 where
  pub place : q.walk.lexer.place ≡ mid
  pub bytes : q.walk.lexer.bytes ≡ p.walk.lexer.bytes
  pub number : q.walk.number ≡ p.walk.number + 1
  pub shows : q.held ≡ held
  pub report : q.report ≡ p.report
  pub earlier : q.earlier ≡ now

module _ (p q : Session) (s : State) (mid : ℕ) (next : State) (held : Held) (found : List Entry) (line : List ℕ) (now : Shelf) (outcome : Outcome Entry)
    (step : IsStep p s mid next held found line now outcome) (there : IsBehind p q mid held now) where
  are_there : (left : List Entry) (turns : List (Turn Entry)) → IsCourseOf verdict_of q.walk.lexer.bytes q.walk.lexer.place (place_of q next left) turns
      → IsCourseOf verdict_of p.walk.lexer.bytes mid (next_place p next held left) turns
  are_there left turns h =
      let at_place = subst (λ (o : Place Entry). IsCourseOf verdict_of q.walk.lexer.bytes q.walk.lexer.place o turns) (same_place q next held left (p.walk.number + 1) there.number there.shows) h in
      let at_mid = subst (λ (n : ℕ). IsCourseOf verdict_of q.walk.lexer.bytes n (next_place p next held left) turns) there.place at_place in
      subst (λ (b : List ℕ). IsCourseOf verdict_of b mid (next_place p next held left) turns) there.bytes at_mid

  legal_there : (turns : List (Turn Entry)) → AllByRecursion (IsLegal q.report) turns → AllByRecursion (IsLegal p.report) turns
  legal_there turns h = subst (λ (r : Report). AllByRecursion (IsLegal r) turns) there.report h

  writes_there : (turns : List (Turn Entry)) (text : List ℕ) → IsWritten q.report q.earlier turns text → IsWritten p.report now turns text
  writes_there turns text h = subst (λ (r : Report). IsWritten r now turns text) there.report (subst (λ (shelf : Shelf). IsWritten q.report shelf turns text) there.earlier h)

  runs_on : (rest : List Entry) (status : ℕ) (turns : List (Turn Entry)) → Runs q next rest status turns → Runs p s (found ++ rest) status (step.first rest ∷ turns)
  runs_on rest status turns h = record {
    are = step.are rest turns (are_there rest turns h.are);
    legal = (step.legal rest, legal_there turns h.legal);
    over = step.status rest turns ∙ h.over;
    used = step.used rest turns ∙ ap (λ (es : List Entry). found ++ es) h.used;
  }

  -- the turn, whatever is written of it
  pub leads_on : Holds q next → LeadsOn p q s outcome
  leads_on holds = record {
    next = next;
    stands = holds;
    found = found;
    goes = λ rest status turns h. (step.first rest, step.comes rest, runs_on rest status turns h);
  }

  going_on : (piece : Piece) → ((text : List ℕ) → IsText q piece text → text ≡ line) → Holds q next → GoesOn p q s piece
  going_on piece is_line holds = record {
    next = next;
    found = found;
    stands = holds;
    whole = λ text is rest from. record {
      turns = step.first rest.found ∷ from.turns;
      runs = runs_on rest.found rest.status from.turns from.runs;
      writes = (line, rest.text, now, ap (λ (t : List ℕ). t ++ rest.text) (is_line text is), step.writes rest.found, writes_there from.turns rest.text from.writes);
    };
    part = λ text rest is from. record {
      found = found ++ from.found;
      turns = step.first from.found ∷ from.turns;
      are = step.are from.found from.turns (are_there from.found from.turns from.are);
      legal = (step.legal from.found, legal_there from.turns from.legal);
      written = line ++ from.written;
      writes = (line, from.written, now, refl, step.writes from.found, writes_there from.turns from.written from.writes);
      front = subst (λ (t : List ℕ). IsFront (t ++ rest) (line ++ from.written)) (sym (is_line text is)) (front_behind line rest from.written from.front);
    };
  }

  pub going_next : (piece : Piece) → IsGoing piece → ((text : List ℕ) → IsText q piece text → text ≡ line) → Holds q next → IsNext p q s piece
  going_next piece going is_line holds = record {
    cut = λ text added is front. record {
      found = found ++ [];
      turns = step.first [] ∷ [];
      are = step.are [] [] (stopped_from verdict_of p.walk.lexer.bytes mid (next_place p next held []));
      legal = (step.legal [], tt);
      written = line ++ [];
      writes = (line, [], now, refl, step.writes [], refl);
      front = front_more added line [] (front_of added text line (is_line text is) front);
    };
    leads = going_leads p q s piece going (going_on piece is_line holds);
  }

-- ---- what a command comes to

module _ (p q : Session) (w : Walk) (s : State) (bytes : w.lexer.bytes ≡ p.walk.lexer.bytes) (keeps : KeepsReading (record p { walk = w }) q) where
  is_behind : (held : Held) → w.number ≡ p.walk.number + 1 → q.held ≡ held → IsBehind p q w.lexer.place held p.earlier
  is_behind held number h = record {
    place = ap (λ (l : Lexing). l.place) keeps.lexer;
    bytes = ap (λ (l : Lexing). l.bytes) keeps.lexer ∙ bytes;
    number = keeps.number ∙ number;
    shows = h;
    report = keeps.report;
    earlier = keeps.earlier;
  }

  told_is : (id : ℕ) (n : Notice) → (event : IsEvent p.walk w s (ToldOf id n)) →
      IsStep p s w.lexer.place event.carries.1.next p.held [] (told p.report p.held event.carries.1.next event.x n) p.earlier (tells event.x n)
  told_is id n event =
      let to = event.carries.1 in
      record {
        first = λ left. turn (place_of p s left) to.next (tells event.x n);
        comes = λ left. refl;
        are = λ left turns h. told_from verdict_of p.walk.lexer.bytes p.walk.lexer.place w.lexer.place (place_of p s left) event.x event.spells to.next n to.leads turns h;
        legal = λ left. tt;
        used = λ left turns. refl;
        status = λ left turns. refl;
        writes = λ left. (refl, refl);
      }

  pub told_next : (id : ℕ) (n : Notice) (piece : Piece) → (event : IsEvent p.walk w s (ToldOf id n)) → Tells (record p { walk = w }) q event.carries.1.next event.x n piece → IsNext p q s piece
  told_next id n piece event told_so =
      let to = event.carries.1 in
      going_next p q s w.lexer.place to.next p.held [] (told p.report p.held to.next event.x n) p.earlier (tells event.x n) (told_is id n event) (is_behind p.held event.carries.2 told_so.held) piece told_so.going told_so.text told_so.stands

  pub told_leads : (id : ℕ) (n : Notice) (piece : Piece) → (event : IsEvent p.walk w s (ToldOf id n)) → Tells (record p { walk = w }) q event.carries.1.next event.x n piece → LeadsOn p q s (tells event.x n)
  told_leads id n piece event told_so =
      let to = event.carries.1 in
      leads_on p q s w.lexer.place to.next p.held [] (told p.report p.held to.next event.x n) p.earlier (tells event.x n) (told_is id n event) (is_behind p.held event.carries.2 told_so.held) told_so.stands

module _ (p q : Session) (w : Walk) (s : State) (bytes : w.lexer.bytes ≡ p.walk.lexer.bytes) (keeps : KeepsPlace (record p { walk = w }) q) where
  module _ (id : ℕ) (question : Question) (event : IsEvent p.walk w s (Asked id question)) (free : refusal_of question event.carries.1.next event.x ≡ None)
      (h : IsChecked question event.x (record p { walk = w }) q event.carries.1.next) where
    checked_is : IsStep p s w.lexer.place (settled (verdict_of h.entry) event.carries.1.next) (Some h.entry) (h.entry ∷ []) (line_shown p.report h.entry q.items) q.earlier (answers question event.x h.entry)
    checked_is =
        let to = event.carries.1 in
        let decides : Decides (version_of p.report) question event.x to.next.context h.entry = subst (λ (r : Report). Decides (version_of r) question event.x to.next.context h.entry) keeps.report h.decides in
        let shows : IsShownIn (version_of p.report) p.earlier question to.next.context h.entry q.items q.earlier =
        subst (λ (r : Report). IsShownIn (version_of r) p.earlier question to.next.context h.entry q.items q.earlier) keeps.report h.shows in
        record {
          first = λ left. turn (place_of p s (h.entry ∷ left)) to.next (answers question event.x h.entry);
          comes = λ left. refl;
          are = λ left turns k. answered_from verdict_of p.walk.lexer.bytes p.walk.lexer.place w.lexer.place (place_of p s (h.entry ∷ left)) event.x event.spells to.next question h.entry left to.leads free refl turns k;
          legal = λ left. decides;
          used = λ left turns. refl;
          status = λ left turns. refl;
          writes = λ left. line_legal p.report p.earlier q.earlier question to.next.context h.entry q.items shows;
        }

    checked_there : IsBehind p q w.lexer.place (Some h.entry) q.earlier
    checked_there = record {
      place = ap (λ (l : Lexing). l.place) keeps.lexer;
      bytes = ap (λ (l : Lexing). l.bytes) keeps.lexer ∙ bytes;
      number = h.number ∙ ap (λ (n : ℕ). n + 1) event.carries.2;
      shows = h.held;
      report = keeps.report;
      earlier = refl;
    }

    pub checked_next : IsNext p q s Decision
    checked_next =
        going_next p q s w.lexer.place (settled (verdict_of h.entry) event.carries.1.next) (Some h.entry) (h.entry ∷ []) (line_shown p.report h.entry q.items) q.earlier (answers question event.x h.entry) checked_is checked_there Decision tt
        (λ text is. is h.entry h.held ∙ ap (λ (r : Report). line_shown r h.entry q.items) keeps.report) h.stands

    pub checked_leads : LeadsOn p q s (answers question event.x h.entry)
    checked_leads =
        leads_on p q s w.lexer.place (settled (verdict_of h.entry) event.carries.1.next) (Some h.entry) (h.entry ∷ []) (line_shown p.report h.entry q.items) q.earlier (answers question event.x h.entry) checked_is checked_there h.stands

  -- a question that is refused ends the script
  pub barred_next : (id : ℕ) (question : Question) (kind : Kind) → (event : IsEvent p.walk w s (Asked id question)) → refusal_of question event.carries.1.next event.x ≡ Some kind
      → q.walk.number ≡ w.number → IsNext p q s (Error kind)
  barred_next id question kind event barred number =
      let to = event.carries.1 in
      error_next p q s keeps.report kind (number ∙ event.carries.2) to.next
      (barred_from verdict_of p.walk.lexer.bytes p.walk.lexer.place w.lexer.place (place_of p s []) event.x event.spells to.next question kind to.leads barred)
