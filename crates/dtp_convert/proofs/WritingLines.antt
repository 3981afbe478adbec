-- Lines that are written one behind the other, with nothing that waits.
use Rattle.std.proofs.Common.{refl, sym, ap, inl, inr, ◌∙◌, ◌≡◌, ℕ, List, [], ◌++◌, Option, Result, append-nil}
use Rattle.std.proofs.lemmas.Result.{on_ok_weaker, on_err_weaker}
use Rattle.dtp_entry.specs.declared.error.SessionError.{SessionError}
use Rattle.dtp_entry.specs.Written.{Writes, WritesOne, IsFront, IsPartOf}
use Rattle.cert_stream.specs.code.Streams.{Streams}

front_of_line : (line added : List ℕ) → IsPartOf (λ text. text ≡ line) added → IsFront added line
front_of_line line added (inl none) = (line, ap (λ (l : List ℕ). l ++ line) (sym none))
front_of_line line added (inr (whole, is, front)) = (front.0, sym is ∙ front.1)

module _ (line : List ℕ) (before now : Option (List ℕ)) (faults_before faults_now : ℕ) (r : Result (Unit {0}) SessionError) where
  -- one line goes out
  pub streams_of : WritesOne (λ text. text ≡ line) before now faults_before faults_now r → Streams line [] [] before now faults_before faults_now r
  streams_of h = record {
    whole = on_ok_weaker r (λ (w : Writes before now (λ text. text ≡ line)). (w.0, w.1, append-nil w.0 ∙ w.2)) h.whole;
    part = on_err_weaker r (λ (w : Writes before now (IsPartOf (λ text. text ≡ line))). (w.0, w.1, front_of_line line w.0 w.2)) h.part;
    fault = h.fault;
  }

  -- lines that went out are one text
  pub one_of : Streams line [] [] before now faults_before faults_now r → WritesOne (λ text. text ≡ line) before now faults_before faults_now r
  one_of h = record {
    whole = on_ok_weaker r (λ (w : Writes before now (λ added. added ++ [] ≡ line)). (w.0, w.1, sym (append-nil w.0) ∙ w.2)) h.whole;
    part = on_err_weaker r (λ (w : Writes before now (λ added. IsFront added line)). (w.0, w.1, inr (line, refl, w.2))) h.part;
    fault = h.fault;
  }
