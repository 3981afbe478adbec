-- The lines that are made of what is held.
use Rattle.std.proofs.Common.{arith, inl, inr, refl, sym, ap, subst, ◌∙◌, ◌≡◌, ℕ, List, [], Option, Some, None, Result, Ok}
use Rattle.std.proofs.lemmas.Result.{on_ok_weaker, on_err_weaker}
use Rattle.kept_lemmas.specs.declared.item.Item.{Item}
use Rattle.cert_text.specs.declared.entry.Entry.{Entry}
use Rattle.cert_text.specs.Form.{entry_sexpr, line_of}
use Rattle.dtp_entry.specs.declared.error.SessionError.{SessionError}
use Rattle.dtp_entry.specs.Written.{Writes, IsPartOf, WritesOne}
use Rattle.dtp_entry.proofs.Written.{appends_nothing}
use Rattle.dtp_session.specs.declared.piece.Piece.{Piece}
use Rattle.dtp_session.specs.declared.piece.Piece.TheVariants.{Decision, Proof}
use Rattle.dtp_session.specs.declared.session.Session.{Session}
use Rattle.dtp_session.specs.code.Keeping.{line_shown}
use Rattle.dtp_session.specs.code.Sessions.{IsText}

-- what is legal for one reason is legal for another
module _ (P Q : List ℕ → Type 0) (f : (text : List ℕ) → P text → Q text) where
  part_too : (added : List ℕ) → IsPartOf P added → IsPartOf Q added
  part_too added (inl e) = inl e
  part_too added (inr (whole, legal, front)) = inr (whole, f whole legal, front)

  pub writes_too : (before now : Option (List ℕ)) (faults_before faults_now : ℕ) (r : Result (Unit {0}) SessionError) → WritesOne P before now faults_before faults_now r → WritesOne Q before now faults_before faults_now r
  writes_too before now faults_before faults_now r h = record {
    whole = on_ok_weaker r (λ (w : Writes before now P). (w.0, w.1, f w.0 w.2)) h.whole;
    part = on_err_weaker r (λ (w : Writes before now (IsPartOf P)). (w.0, w.1, part_too w.0 w.2)) h.part;
    fault = h.fault;
  }

pub decision_told : (p : Session) (entry : Entry) (items : List Item) (before now : Option (List ℕ)) (faults_before faults_now : ℕ) (r : Result (Unit {0}) SessionError) → items ≡ p.items → p.held ≡ Some entry
    → WritesOne (λ text. text ≡ line_shown p.report entry items) before now faults_before faults_now r → WritesOne (IsText p Decision) before now faults_before faults_now r
decision_told p entry items before now faults_before faults_now r shown held h =
    writes_too (λ text. text ≡ line_shown p.report entry items) (IsText p Decision)
    (λ text is other e. (let same : entry ≡ other = (let both : Some entry ≡ Some other = sym held ∙ e in cc) in
    is ∙ ap (λ (found : Entry). line_shown p.report found items) same ∙ ap (λ (made : List Item). line_shown p.report other made) shown))
    before now faults_before faults_now r h

pub proof_told : (p : Session) (entry : Entry) (before now : Option (List ℕ)) (faults_before faults_now : ℕ) (r : Result (Unit {0}) SessionError) → p.held ≡ Some entry
    → WritesOne (λ text. text ≡ line_of (entry_sexpr entry)) before now faults_before faults_now r → WritesOne (IsText p Proof) before now faults_before faults_now r
proof_told p entry before now faults_before faults_now r held h =
    writes_too (λ text. text ≡ line_of (entry_sexpr entry)) (IsText p Proof)
    (λ text is other e. (let same : entry ≡ other = (let both : Some entry ≡ Some other = sym held ∙ e in cc) in is ∙ ap (λ (found : Entry). line_of (entry_sexpr found)) same))
    before now faults_before faults_now r h

nothing_held : (p : Session) (entry : Entry) → p.held ≡ None → p.held ≡ Some entry → ⊥
nothing_held p entry none e = let both : None ≡ Some entry = sym none ∙ e in cc

pub nothing_told : (p : Session) (piece : Piece) (now : Option (List ℕ)) (faults : ℕ) → IsText p piece [] → WritesOne (IsText p piece) now now faults faults (Ok tt)
nothing_told p piece now faults says = record {
  whole = ([], appends_nothing now, says);
  part = tt;
  fault = record { rose = λ e. absurd (cc); quiet = λ ne. refl; later = omega arith };
}

pub no_decision : (p : Session) → p.held ≡ None → IsText p Decision []
no_decision p none = λ entry e. absurd (nothing_held p entry none e)

pub no_proof : (p : Session) → p.held ≡ None → IsText p Proof []
no_proof p none = λ entry e. absurd (nothing_held p entry none e)

pub piece_as : (p : Session) (piece other : Piece) (before now : Option (List ℕ)) (faults_before faults_now : ℕ) (r : Result (Unit {0}) SessionError) → piece ≡ other
    → WritesOne (IsText p other) before now faults_before faults_now r → WritesOne (IsText p piece) before now faults_before faults_now r
piece_as p piece other before now faults_before faults_now r e h = subst (λ (z : Piece). WritesOne (IsText p z) before now faults_before faults_now r) (sym e) h
