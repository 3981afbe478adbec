-- Of the code and not of the meaning: text that is written, or waits to be.
use Rattle.std.specs.Prelude.{◌≡◌, ℕ, List, [], ◌∷◌, ◌++◌, Option, Result, OnOk, OnErr}
use Rattle.cert_text.specs.declared.entry.Version.{Version}
use Rattle.cert_text.specs.declared.entry.Entry.{Entry}
use Rattle.cert_text.specs.Form.{header_sexpr, entry_sexpr, end_sexpr, line_of}
use Rattle.dtp_entry.specs.declared.error.SessionError.{SessionError}
use Rattle.dtp_entry.specs.Written.{Writes, IsFront, HasFault}

-- Behind what waited before, the text was added: a front of both went out, and the rest waits now. Where the call says
-- that it wasn't so, a front of both went out.
pub record Streams (text waited waits : List ℕ) (before now : Option (List ℕ))
    (faults_before faults_now : ℕ) (result : Result (Unit {0}) SessionError) : Type 0 where
  pub whole : OnOk result (Writes before now (λ added. added ++ waits ≡ waited ++ text))
  pub part : OnErr result (Writes before now (λ added. IsFront added (waited ++ text)))
  pub fault : HasFault faults_before faults_now result

-- the lines of entries, one behind the other
abbrev pub entry_lines : List Entry → List ℕ
entry_lines [] = []
entry_lines (entry ∷ entries) = line_of (entry_sexpr entry) ++ entry_lines entries

-- a whole certificate of a version
abbrev pub whole_text : Version → List Entry → List ℕ
whole_text version entries = line_of (header_sexpr version) ++ (entry_lines entries ++ line_of end_sexpr)
