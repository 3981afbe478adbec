-- The text of a certificate, line by line.
use Rattle.std.proofs.Common.{◌≡◌, ◌≢◌, refl, subst, ℕ, List, [], Option, Some, None, Result, Ok, Err}
use Rattle.smt_lex.specs.Grammar.{Reads}
use Rattle.smt_sexpr.specs.declared.error.SexprError.{SexprError}
use Rattle.smt_sexpr.specs.declared.error.SexprError.TheVariants as sexpr
use Rattle.smt_sexpr.specs.declared.error.SexprRefusal.{SexprRefusal}
use Rattle.smt_sexpr.specs.Tree.{Sexpr}
use Rattle.smt_sexpr.specs.Table.{Table, Means}
use Rattle.smt_sexpr.specs.Reading.{Spells, Outcome, expression, finished, refused, Outcomes, Explains, Finds}
use Rattle.cert_text.specs.declared.entry.Version.{Version}
use Rattle.cert_text.specs.Form.{header_sexpr, end_sexpr}
use Rattle.cert_read.specs.declared.error.CertificateRefusal.TheVariants.{NoHeader}
use Rattle.cert_read.specs.Certificates.{certificate, no_certificate, ReadsEntries, LacksHeader, ReadsCertificate, ErrorSays}
use Rattle.cert_read.specs.declared.line.Line.{Line}
use Rattle.cert_read.specs.declared.line.Line.TheVariants.{End}
use Rattle.cert_read.specs.code.Lines.{LineIs}
use Rattle.cert_read.specs.code.Shapes.{told_as}

-- ---- what a call of the reader of s-expressions finds

module _ (t : Table) (bytes : List ℕ) (same : t.bytes ≡ bytes) (place after : ℕ) where
  found : (o : Outcome) → Outcomes t.bytes place o after → Outcomes bytes place o after
  found o h = subst (λ (text : List ℕ). Outcomes text place o after) same h

  pub finds_end : (result : Result (Option ℕ) SexprError) → result ≡ Ok None → Finds t place result after → Outcomes bytes place finished after
  finds_end (Ok None) e h = found finished h
  finds_end (Ok (Some id)) e h = absurd cc
  finds_end (Err error) e h = absurd cc

  pub finds_one : (result : Result (Option ℕ) SexprError) (id : ℕ) → result ≡ Ok (Some id) → Finds t place result after → (x : Sexpr) × Means t id x × Spells bytes place x after
  finds_one (Ok None) id e h = absurd cc
  finds_one (Ok (Some found_id)) id e h =
      let same_id : found_id ≡ id = cc in
      (h.0, subst (λ (k : ℕ). Means t k h.0) same_id h.1, found (expression h.0) h.2)
  finds_one (Err error) id e h = absurd cc

  -- what is found is an error
  pub finds_error : (result : Result (Option ℕ) SexprError) (error : SexprError) → result ≡ Err error → Finds t place result after → Explains bytes place error after
  finds_error (Ok None) error e h = absurd cc
  finds_error (Ok (Some id)) error e h = absurd cc
  finds_error (Err other) error e h =
      let same_error : other ≡ error = cc in
      subst (λ (text : List ℕ). Explains text place error after) same (subst (λ (k : SexprError). Explains t.bytes place k after) same_error h)

-- ---- refusals

no_header_in : (bytes : List ℕ) (place after : ℕ) (why : SexprRefusal) → Outcomes bytes place (refused why) after → LacksHeader bytes place
no_header_in bytes place after why h = (refused why, after, h, λ version r. absurd cc)

pub no_header_error : (bytes : List ℕ) (place after : ℕ) (error : SexprError) → Explains bytes place error after → ErrorSays (λ why. ReadsCertificate bytes place (no_certificate why)) (told_as NoHeader error)
no_header_error bytes place after (sexpr.Refused why) h = no_header_in bytes place after why h
no_header_error bytes place after sexpr.OutOfMemory h = tt

pub no_header_at_end : (bytes : List ℕ) (place after : ℕ) → Outcomes bytes place finished after → LacksHeader bytes place
no_header_at_end bytes place after h = (finished, after, h, λ version r. absurd cc)

expression_same : (x y : Sexpr) → ◌≡◌ {A = Outcome} (expression x) (expression y) → x ≡ y
expression_same x y e = cc

pub another_first : (bytes : List ℕ) (place after : ℕ) (x : Sexpr) → Spells bytes place x after → ((version : Version) → x ≢ header_sexpr version) → LacksHeader bytes place
another_first bytes place after x h other = (expression x, after, h, λ version e. other version (expression_same x (header_sexpr version) e))

-- ---- the end

module _ (version : Version) (text : List ℕ) (place mid : ℕ) (line : Line) (is : LineIs version text place line mid) where
  ended : line ≡ End → Spells text place end_sexpr mid
  ended e = subst (λ (l : Line). LineIs version text place l mid) e is

  pub ends_here : line ≡ End → (later : List ℕ) (after : ℕ) → later ≡ text → Reads later mid (Ok None) after → ReadsEntries version text place (certificate version [])
  ends_here e later after same rest = (refl, place, mid, after, refl, ended e, subst (λ (b : List ℕ). Reads b mid (Ok None) after) same rest)
