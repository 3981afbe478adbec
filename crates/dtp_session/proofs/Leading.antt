-- The loop over the commands of a script whose answers aren't written.
use Rattle.std.proofs.Common.{refl, sym, ap, subst, ◌∙◌, ◌≡◌, ℕ, List, [], ◌∷◌, ◌++◌, Option, None}
use Rattle.std.specs.List.{AllByRecursion}
use Rattle.std.proofs.lemmas.List.{append_assoc}
use Rattle.cert_text.specs.declared.entry.Entry.{Entry}
use Rattle.smt_script.specs.States.{start_state}
use Rattle.script_walk.specs.Course.{Outcome}
use Rattle.dtp_entry.specs.declared.report.Report.{Report}
use Rattle.dtp_entry.specs.declared.report.Report.TheVariants.{Verdicts}
use Rattle.dtp_entry.specs.Transcripts.{opening, pieces, IsLegal}
use Rattle.dtp_entry.proofs.Pieces.{are_pieces}
use Rattle.dtp_session.specs.Leasts.{minimum_by, last_minimum, IsLeastOf}
use Rattle.dtp_session.specs.declared.least.Minimum.{Minimum}
use Rattle.dtp_session.specs.declared.session.Session.{Session}
use Rattle.dtp_session.specs.code.Sessions.{IsStart}
use Rattle.dtp_session.specs.code.Leading.{LeadsOn, EndsHere, IsRunOf, IsLeastSoFar}
use Rattle.dtp_session.proofs.Looping.{start_are}

pub least_starts : (p : Session) → IsStart p → p.report ≡ Verdicts → IsLeastSoFar p.walk.lexer.bytes p None
least_starts p start report = record {
  s = start_state;
  stands = start.stands;
  found = [];
  whole = λ rest status turns h. (
    turns,
    record {
      are = record { are = start_are p start rest turns h.are; legal = subst (λ (r : Report). AllByRecursion (IsLegal r) turns) report h.legal };
      over = h.over;
      used = h.used;
    },
    refl,
  );
}

module _ (script : List ℕ) (p : Session) (before : Option Minimum) (h : IsLeastSoFar script p before) where
  pub least_goes : (q : Session) (now : Option Minimum) → (outcome : Outcome Entry) × LeadsOn p q h.s outcome × (now ≡ minimum_by before outcome) → IsLeastSoFar script q now
  least_goes q now (outcome, leads, is) = record {
    s = leads.next;
    stands = leads.stands;
    found = h.found ++ leads.found;
    whole = λ rest status turns runs.
        let first = leads.goes rest status turns runs in
        let all = h.whole (leads.found ++ rest) status (first.0 ∷ turns) first.2 in (
          all.0,
          subst (λ (es : List Entry). IsRunOf script es status all.0) (sym (append_assoc h.found leads.found rest)) all.1,
          all.2 ∙ ap (λ (o : Outcome Entry). last_minimum (minimum_by before o) turns) first.1 ∙ sym (ap (λ (m : Option Minimum). last_minimum m turns) is),
        );
  }

  -- the script has ended without an error
  pub least_ends : EndsHere p h.s 0 → IsLeastOf script before
  least_ends end =
      let all = h.whole [] 0 end.turns end.runs in (
        record { text = opening Verdicts ++ pieces Verdicts all.0; found = h.found ++ []; status = 0 },
        record {
          turns = all.0;
          are = all.1.are;
          over = all.1.over;
          used = all.1.used;
          written = pieces Verdicts all.0;
          writes = are_pieces Verdicts tt [] all.0;
          text = refl;
        },
        sym (all.2 ∙ end.same before),
      )

  -- at an error
  pub least_stops : EndsHere p h.s 1 → IsLeastOf script None
  least_stops end =
      let all = h.whole [] 1 end.turns end.runs in (
        record { text = opening Verdicts ++ pieces Verdicts all.0; found = h.found ++ []; status = 1 },
        record {
          turns = all.0;
          are = all.1.are;
          over = all.1.over;
          used = all.1.used;
          written = pieces Verdicts all.0;
          writes = are_pieces Verdicts tt [] all.0;
          text = refl;
        },
        refl,
      )
