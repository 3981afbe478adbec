-- How the code sees the parts of an entry in the table, by the ids of a list's items.
-- These are words of the code's inner contracts, and no part of the meaning.
use Rattle.std.specs.Prelude.{◌≡◌, ◌≢◌, ℕ, ℤ, pos, neg_ℤ, ◌≤ℤ◌, Bool, false, if◌then◌else◌, List, codes, Option, Some, None}
use Rattle.std.specs.Option.{option_map_or}
use Rattle.std.specs.Str.{bytes_eq}
use Rattle.smt_sexpr.specs.declared.error.SexprError.{SexprError}
use Rattle.smt_sexpr.specs.declared.error.SexprError.TheVariants as sexpr
use Rattle.smt_sexpr.specs.Tree.{Sexpr, numeral_of}
use Rattle.cert_text.specs.declared.entry.Version.{Version}
use Rattle.cert_text.specs.declared.entry.Version.TheVariants.{One, Two}
use Rattle.cert_text.specs.Form.{header_sexpr}
use Rattle.cert_read.specs.declared.error.CertReadError.{CertReadError}
use Rattle.cert_read.specs.declared.error.CertReadError.TheVariants as read
use Rattle.cert_read.specs.declared.error.CertificateRefusal.{CertificateRefusal}
use Rattle.cert_read.specs.declared.error.PartError.{PartError}
use Rattle.cert_read.specs.declared.error.PartError.TheVariants.{OutOfMemory, IllFormed}

-- whether the s-expression is this numeral
abbrev pub is_numeral : List ℕ → Sexpr → Bool
is_numeral digits x = option_map_or (λ text. bytes_eq text digits) (numeral_of x) false

-- the version with this number
abbrev pub version_of : Sexpr → Option Version
version_of x = if is_numeral (codes "1") x then Some One else (if is_numeral (codes "2") x then Some Two else None)

-- the header of this version, or of none
abbrev pub IsHeaderOf : Sexpr → Option Version → Type 0
IsHeaderOf x (Some version) = x ≡ header_sexpr version
IsHeaderOf x None = (version : Version) → x ≢ header_sexpr version

-- the number's absolute value is at most so much
abbrev pub IsBetween : ℕ → ℤ → Type 0
IsBetween most n = (neg_ℤ (pos most) ≤ℤ n) × (n ≤ℤ pos most)

-- an ill-formed part stands for nothing; want of memory says nothing
abbrev pub Lacks : {A : Type 0} → Option A → PartError → Type 0
Lacks meant IllFormed = meant ≡ None
Lacks meant OutOfMemory = Unit {0}

-- what can't be read is refused for this
abbrev pub told_as : CertificateRefusal → SexprError → CertReadError
told_as why (sexpr.Refused _) = read.Refused why
told_as why sexpr.OutOfMemory = read.OutOfMemory
