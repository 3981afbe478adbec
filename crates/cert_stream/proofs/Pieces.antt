-- Pieces of a text, one behind the other.
use Rattle.std.proofs.Common.{arith, inr, ◌≡◌, ◌≤◌, ℕ, List, [], ◌++◌, Option, Result, Ok, Err, refl, sym, ap, ◌∙◌, subst, append_assoc, append-nil}
use Rattle.std.specs.Io.KnownBytes.{Appends}
use Rattle.std.proofs.KnownBytes.{Appends-trans}
use Rattle.dtp_io.specs.Faults.{Rose}
use Rattle.dtp_entry.specs.declared.error.SessionError.{SessionError}
use Rattle.dtp_entry.specs.declared.error.SessionError.TheVariants.{OutOfMemory, WriteFault}
use Rattle.dtp_entry.specs.Written.{Writes, WritesOne, IsFront}
use Rattle.dtp_entry.proofs.Written.{appends_nothing}
use Rattle.cert_stream.specs.code.Streams.{Streams}

-- of a text, behind what waited before, all but the rest went out or waits now
pub record Goes (text rest waited waits : List ℕ) (before now : Option (List ℕ)) (faults_before faults_now : ℕ) : Type 0 where
  pub written : List ℕ
  pub adds : Appends before now written
  pub same : written ++ (waits ++ rest) ≡ waited ++ text
  pub quiet : faults_now ≡ faults_before

pub goes_start : (text waited : List ℕ) (held : Option (List ℕ)) (faults : ℕ) → Goes text text waited waited held held faults faults
goes_start text waited held faults = record { written = []; adds = appends_nothing held; same = refl; quiet = refl }

-- in the words of the result
pub streams_as : {text waited waits : List ℕ} {before now : Option (List ℕ)} {faults_before faults_now : ℕ} (r s : Result (Unit {0}) SessionError) → r ≡ s
    → Streams text waited waits before now faults_before faults_now s → Streams text waited waits before now faults_before faults_now r
streams_as {text} {waited} {waits} {before} {now} {faults_before} {faults_now} r s e h =
    subst (λ (t : Result (Unit {0}) SessionError). Streams text waited waits before now faults_before faults_now t) (sym e) h

module _ {text waited : List ℕ} {before now : Option (List ℕ)} {faults_before faults_now : ℕ} where
  -- a piece is put behind what waits
  pub goes_pushed : {waits : List ℕ} (piece rest more : List ℕ) → Goes text rest waited waits before now faults_before faults_now → rest ≡ piece ++ more → (longer : List ℕ) → longer ≡ waits ++ piece
      → Goes text more waited longer before now faults_before faults_now
  goes_pushed {waits} piece rest more h e longer is = record {
    written = h.written;
    adds = h.adds;
    same = ap (λ (l : List ℕ). h.written ++ (l ++ more)) is ∙ ap (λ (l : List ℕ). h.written ++ l) (append_assoc waits piece more ∙ ap (λ (l : List ℕ). waits ++ l) (sym e)) ∙ h.same;
    quiet = h.quiet;
  }

  -- all is put behind it
  pub goes_end : {waits : List ℕ} (rest : List ℕ) → Goes text rest waited waits before now faults_before faults_now → (longer : List ℕ) → longer ≡ waits ++ rest
      → Streams text waited longer before now faults_before faults_now (Ok tt)
  goes_end rest h longer is = record {
    whole = (h.written, h.adds, ap (λ (l : List ℕ). h.written ++ l) is ∙ h.same);
    part = tt;
    fault = record { rose = λ e. absurd (cc); quiet = λ ne. h.quiet; later = omega (arith, h.quiet) };
  }

  -- there is no memory for more
  pub goes_memory : {waits : List ℕ} (rest left : List ℕ) (why : SessionError) → Goes text rest waited waits before now faults_before faults_now → why ≡ OutOfMemory
      → Streams text waited left before now faults_before faults_now (Err why)
  goes_memory {waits} rest left why h e = record {
    whole = tt;
    part = (h.written, h.adds, (waits ++ rest, sym h.same));
    fault = record { rose = λ f. absurd (cc); quiet = λ ne. h.quiet; later = omega (arith, h.quiet) };
  }

module _ {text waited : List ℕ} {before now after : Option (List ℕ)} {faults_before faults_now faults_after : ℕ} where
  -- a call puts a piece behind it, and writes what it writes
  pub goes_called : {waits left : List ℕ} (piece rest more : List ℕ) → Goes text rest waited waits before now faults_before faults_now → rest ≡ piece ++ more
      → Streams piece waits left now after faults_now faults_after (Ok tt) → Goes text more waited left before after faults_before faults_after
  goes_called {waits} {left} piece rest more h e s =
      let w = s.whole in
      record {
        written = h.written ++ w.0;
        adds = Appends-trans before now after h.written w.0 h.adds w.1;
        same = append_assoc h.written w.0 (left ++ more) ∙ ap (λ (l : List ℕ). h.written ++ l) (sym (append_assoc w.0 left more) ∙ ap (λ (l : List ℕ). l ++ more) w.2 ∙ append_assoc waits piece more ∙ ap (λ (l : List ℕ). waits ++ l) (sym e)) ∙ h.same;
        quiet = s.fault.quiet (λ e. absurd (cc)) ∙ h.quiet;
      }

  -- a call writes a front
  pub goes_fails : {waits left : List ℕ} (piece rest more : List ℕ) (why : SessionError) → Goes text rest waited waits before now faults_before faults_now → rest ≡ piece ++ more
      → Streams piece waits left now after faults_now faults_after (Err why) → Streams text waited left before after faults_before faults_after (Err why)
  goes_fails {waits} {left} piece rest more why h e s =
      let p = s.part in
      let front : waits ++ piece ≡ p.0 ++ p.2.0 = p.2.1 in
      let whole : waited ++ text ≡ (h.written ++ p.0) ++ (p.2.0 ++ more) =
      sym h.same
      ∙ ap (λ (l : List ℕ). h.written ++ l) (ap (λ (l : List ℕ). waits ++ l) e ∙ sym (append_assoc waits piece more) ∙ ap (λ (l : List ℕ). l ++ more) front ∙ append_assoc p.0 p.2.0 more)
      ∙ sym (append_assoc h.written p.0 (p.2.0 ++ more)) in
      record {
        whole = tt;
        part = (h.written ++ p.0, Appends-trans before now after h.written p.0 h.adds p.1, (p.2.0 ++ more, whole));
        fault = record {
          rose = λ f. subst (λ (n : ℕ). Rose n faults_after) h.quiet (s.fault.rose f);
          quiet = λ ne. s.fault.quiet ne ∙ h.quiet;
          later = omega (arith, h.quiet, s.fault.later);
        };
      }

module _ {text waited : List ℕ} {before now after : Option (List ℕ)} {faults_before faults_now faults_after : ℕ} where
  -- a call puts all the rest behind it
  pub goes_last : {waits left : List ℕ} (piece rest : List ℕ) (r : Result (Unit {0}) SessionError) → Goes text rest waited waits before now faults_before faults_now → rest ≡ piece
      → Streams piece waits left now after faults_now faults_after r → Streams text waited left before after faults_before faults_after r
  goes_last {waits} {left} piece rest (Ok u) h e s = goes_end [] (goes_called piece rest [] h (e ∙ sym (append-nil piece)) s) left (sym (append-nil left))
  goes_last {waits} {left} piece rest (Err why) h e s = goes_fails piece rest [] why h (e ∙ sym (append-nil piece)) s

-- in the words of the text
pub streams_text : {text other waited waits : List ℕ} {before now : Option (List ℕ)} {faults_before faults_now : ℕ} {r : Result (Unit {0}) SessionError} → text ≡ other
    → Streams text waited waits before now faults_before faults_now r → Streams other waited waits before now faults_before faults_now r
streams_text {waited = waited} {waits} {before} {now} {faults_before} {faults_now} {r} e h =
    subst (λ (t : List ℕ). Streams t waited waits before now faults_before faults_now r) e h

-- what waits at the end isn't written whole
pub line_part : {waited waits : List ℕ} {before now after : Option (List ℕ)} {faults_before faults_now faults_after : ℕ} (line : List ℕ) (why : SessionError) (r : Result (Unit {0}) SessionError)
    → waited ≡ [] → Streams line waited waits before now faults_before faults_now (Ok tt) → Writes now after (λ added. IsFront added waits)
    → why ≡ WriteFault → Rose faults_now faults_after → faults_now ≤ faults_after → r ≡ Err why → WritesOne (λ text. text ≡ line) before after faults_before faults_after r
line_part {waited} {waits} {before} {now} {after} {faults_before} {faults_now} {faults_after} line why r none s w e rose later is =
    let first = s.whole in
    let whole : line ≡ (first.0 ++ w.0) ++ w.2.0 =
    ap (λ (l : List ℕ). l ++ line) (sym none) ∙ sym first.2 ∙ ap (λ (l : List ℕ). first.0 ++ l) w.2.1 ∙ sym (append_assoc first.0 w.0 w.2.0) in
    let quiet : faults_now ≡ faults_before = s.fault.quiet (λ f. absurd (cc)) in
    let given : WritesOne (λ text. text ≡ line) before after faults_before faults_after (Err why) = record {
      whole = tt;
      part = (first.0 ++ w.0, Appends-trans before now after first.0 w.0 first.1 w.1, inr (line, refl, (w.2.0, whole)));
      fault = record {
        rose = λ f. subst (λ (n : ℕ). Rose n faults_after) quiet rose;
        quiet = λ ne. absurd (ne (ap Err e));
        later = omega (arith, quiet, later);
      };
    } in
    subst (λ (t : Result (Unit {0}) SessionError). WritesOne (λ text. text ≡ line) before after faults_before faults_after t) (sym is) given
