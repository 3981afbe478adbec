-- What a call wrote to a sink, by the bytes that the sink holds before and after the call, where they are known.
-- A sink whose bytes aren't known holds `None`: of it the word says only that there is such a text.
use Rattle.std.specs.Prelude.{◌≡◌, ◌≢◌, ◌≤◌, ◌⊎◌, ℕ, List, [], ◌++◌, Option, Result, Err, OnOk, OnErr}
use Rattle.std.specs.Io.KnownBytes.{Appends}
use Rattle.dtp_io.specs.Faults.{Rose}
use Rattle.dtp_entry.specs.declared.error.SessionError.{SessionError}
use Rattle.dtp_entry.specs.declared.error.SessionError.TheVariants.{WriteFault}

-- a text was written, and no byte beside it, of which this is true
abbrev pub Writes : Option (List ℕ) → Option (List ℕ) → (List ℕ → Type 0) → Type 0
Writes before now Says = (added : List ℕ) × Appends before now added × Says added

-- ---- what a call that is cut short has written

abbrev pub IsFront : List ℕ → List ℕ → Type 0
IsFront front whole = (rest : List ℕ) × (whole ≡ front ++ rest)

-- nothing, or a front of a legal text
abbrev pub IsPartOf : (List ℕ → Type 0) → List ℕ → Type 0
IsPartOf IsLegal out = (out ≡ []) ⊎ ((whole : List ℕ) × IsLegal whole × IsFront out whole)

-- The count of the sink's faults, before and now, by how a call ended: it rises where the sink failed, and only there.
pub record HasFault {A : Type 0} (before now : ℕ) (result : Result A SessionError) : Type 0 where
  pub rose : result ≡ Err WriteFault → Rose before now
  pub quiet : result ≢ Err WriteFault → now ≡ before
  pub later : before ≤ now

-- A legal text was written whole, or, where the call says that it wasn't, nothing or a front of one.
pub record WritesOne (IsLegal : List ℕ → Type 0) (before now : Option (List ℕ))
    (faults_before faults_now : ℕ) (result : Result (Unit {0}) SessionError) : Type 0 where
  pub whole : OnOk result (Writes before now IsLegal)
  pub part : OnErr result (Writes before now (IsPartOf IsLegal))
  pub fault : HasFault faults_before faults_now result
