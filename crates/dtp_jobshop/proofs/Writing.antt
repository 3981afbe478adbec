-- A text that is written whole, or a front of it.
use Rattle.std.proofs.Common.{ap, subst, ◌≡◌, ◌≤◌, ℕ, List, Option, Result, Ok, Err, arith}
use Rattle.std.specs.Prelude.{OnOk, OnErr, IfErr}
use Rattle.std.specs.Io.KnownBytes.{Appends}
use Rattle.dtp_io.specs.Faults.{Rose}
use Rattle.cert_text.specs.declared.entry.Version.TheVariants.{One}
use Rattle.dtp_entry.specs.declared.error.SessionError.{SessionError}
use Rattle.dtp_entry.specs.declared.error.SessionError.TheVariants.{WriteFault}
use Rattle.dtp_entry.specs.declared.report.Report.TheVariants.{Certificate}
use Rattle.dtp_entry.specs.Transcripts.{IsReport}
use Rattle.dtp_entry.specs.Written.{IsFront, Writes, WritesOne}
use Rattle.dtp_entry.proofs.Written.{part_of}
use Rattle.dtp_session.specs.declared.session.Solved.{Solved}
use Rattle.dtp_session.specs.declared.session.Solved.TheVariants.{ScriptStopped}
use Rattle.dtp_session.specs.Ends.{status_of}
use Rattle.job_shop.specs.Shops.{Shop, IsShop}
use Rattle.job_shop.specs.Scripts.{script}
use Rattle.shop_law.specs.Laws.{ShopIsAnswered}

module _ (Legal : List ℕ → Type 0) (line : List ℕ) (legal : Legal line) (before now : Option (List ℕ)) (faults_before faults_now : ℕ) where
  pub wrote_one : (r : Result (Unit {0}) SessionError) → OnOk r (Appends before now line) → OnErr r (Writes before now (λ added. IsFront added line)) → IfErr r (λ why. why ≡ WriteFault)
      → OnErr r (Rose faults_before faults_now) → OnOk r (faults_now ≡ faults_before) → faults_before ≤ faults_now → WritesOne Legal before now faults_before faults_now r
  wrote_one (Ok done) adds front cause rose quiet later = record {
    whole = (line, adds, legal);
    part = tt;
    fault = record { rose = λ e. absurd (cc); quiet = λ apart. quiet; later = later };
  }
  wrote_one (Err why) adds front cause rose quiet later = record {
    whole = tt;
    part = (front.0, front.1, part_of Legal line front.0 legal front.2);
    fault = record { rose = λ e. rose; quiet = λ apart. absurd (apart (ap Err cause)); later = later };
  }

-- the script isn't stopped
pub never_stopped : ShopIsAnswered → (s : Shop) → IsShop s → (bytes text : List ℕ) → bytes ≡ script s → (end : Solved) → end ≡ ScriptStopped → IsReport (Certificate One) bytes text (status_of end) → ⊥
never_stopped answered s is bytes text of_shop end stopped report =
    let there = subst (λ (b : List ℕ). IsReport (Certificate One) b text (status_of end)) of_shop report in
    let a = answered s is (Certificate One) (record { text = text; found = there.0; status = status_of end }) there.1 in
    let well : status_of end ≡ 0 = a.status in
    let badly : status_of end ≡ 1 = ap status_of stopped in
    omega (arith, well, badly)
