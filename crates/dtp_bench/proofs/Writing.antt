-- Texts that are written one behind the other.
use Rattle.std.proofs.Common.{arith, inr, ◌≡◌, ◌≤◌, ℕ, List, [], ◌++◌, Option, Result, Ok, Err, refl, sym, ap, ◌∙◌, subst, append_assoc}
use Rattle.std.specs.Prelude.{OnOk, OnErr, IfErr}
use Rattle.std.proofs.lemmas.List.{append-nil}
use Rattle.std.specs.Io.KnownBytes.{Appends}
use Rattle.std.proofs.KnownBytes.{Appends-trans}
use Rattle.dtp_io.specs.Faults.{Rose}
use Rattle.dtp_entry.specs.declared.error.SessionError.{SessionError}
use Rattle.dtp_entry.specs.declared.error.SessionError.TheVariants.{WriteFault}
use Rattle.dtp_entry.specs.Written.{Writes, WritesOne, IsFront}
use Rattle.dtp_entry.proofs.Written.{appends_nothing}

-- all of a text but the rest was written
pub record Wrote (text rest : List ℕ) (before now : Option (List ℕ)) (faults_before faults_now : ℕ) : Type 0 where
  pub written : List ℕ
  pub adds : Appends before now written
  pub same : written ++ rest ≡ text
  pub quiet : faults_now ≡ faults_before

pub wrote_nothing : (text : List ℕ) (held : Option (List ℕ)) (faults : ℕ) → Wrote text text held held faults faults
wrote_nothing text held faults = record { written = []; adds = appends_nothing held; same = refl; quiet = refl }

module _ (text : List ℕ) (before now after : Option (List ℕ)) (faults_before faults_now faults_after : ℕ) where
  pub wrote_more : (piece more out : List ℕ) → Wrote text (piece ++ more) before now faults_before faults_now → out ≡ piece → Appends now after out
      → faults_after ≡ faults_now → Wrote text more before after faults_before faults_after
  wrote_more piece more out h is adds quiet = record {
    written = h.written ++ piece;
    adds = Appends-trans before now after h.written piece h.adds (subst (λ (l : List ℕ). Appends now after l) is adds);
    same = append_assoc h.written piece more ∙ h.same;
    quiet = quiet ∙ h.quiet;
  }

  pub wrote_part : (piece more out : List ℕ) (why : SessionError) (r : Result (Unit {0}) SessionError) → Wrote text (piece ++ more) before now faults_before faults_now
      → out ≡ piece → Writes now after (λ added. IsFront added out) → why ≡ WriteFault → Rose faults_now faults_after → faults_now ≤ faults_after → r ≡ Err why
      → WritesOne (λ t. t ≡ text) before after faults_before faults_after r
  wrote_part piece more out why r h is w e rose later failed =
      let front : piece ≡ w.0 ++ w.2.0 = sym is ∙ w.2.1 in
      let whole : text ≡ (h.written ++ w.0) ++ (w.2.0 ++ more) =
      sym h.same ∙ ap (λ (l : List ℕ). h.written ++ (l ++ more)) front ∙ ap (λ (l : List ℕ). h.written ++ l) (append_assoc w.0 w.2.0 more) ∙ sym (append_assoc h.written w.0 (w.2.0 ++ more)) in
      let given : WritesOne (λ t. t ≡ text) before after faults_before faults_after (Err why) = record {
        whole = tt;
        part = (h.written ++ w.0, Appends-trans before now after h.written w.0 h.adds w.1, inr (text, refl, (w.2.0 ++ more, whole)));
        fault = record {
          rose = λ f. subst (λ (n : ℕ). Rose n faults_after) h.quiet rose;
          quiet = λ ne. absurd (ne (ap Err e));
          later = omega (arith, h.quiet, later);
        };
      } in
      subst (λ (t : Result (Unit {0}) SessionError). WritesOne (λ t. t ≡ text) before after faults_before faults_after t) (sym failed) given

  -- the last piece, by how its writing ended
  pub wrote_last : (piece out : List ℕ) (r : Result (Unit {0}) SessionError) → Wrote text piece before now faults_before faults_now → out ≡ piece
      → OnOk r (Appends now after out) → OnErr r (Writes now after (λ added. IsFront added out)) → IfErr r (λ why. why ≡ WriteFault)
      → OnErr r (Rose faults_now faults_after) → OnOk r (faults_after ≡ faults_now) → faults_now ≤ faults_after
      → WritesOne (λ t. t ≡ text) before after faults_before faults_after r
  wrote_last piece out (Ok done) h is adds front cause rose quiet later = record {
    whole = (h.written ++ piece, Appends-trans before now after h.written piece h.adds (subst (λ (l : List ℕ). Appends now after l) is adds), h.same);
    part = tt;
    fault = record { rose = λ e. absurd (cc); quiet = λ ne. quiet ∙ h.quiet; later = omega (arith, quiet, h.quiet) };
  }
  wrote_last piece out (Err why) h is adds front cause rose quiet later =
      wrote_part piece [] out why (Err why)
      (record { written = h.written; adds = h.adds; same = ap (λ (l : List ℕ). h.written ++ l) (append-nil piece) ∙ h.same; quiet = h.quiet })
      is front cause rose later refl
