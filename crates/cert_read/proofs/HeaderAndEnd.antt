-- The header and the end among the s-expressions.
use Rattle.std.proofs.Common.{◌≡◌, ◌≢◌, ◌∙◌, refl, sym, ap, subst, ◌⊎◌, inl, inr, ℕ, List, Bool, true, false, true≢false, Option, Some, None}
use Rattle.std.specs.Prelude.{codes, if◌then◌else◌}
use Rattle.std.proofs.lemmas.Slice.Eq.{bytes_eq-Decides}
use Rattle.smt_lex.specs.declared.token.TokenKind.TheVariants.{Numeral, Symbol}
use Rattle.smt_sexpr.specs.Tree.{Sexpr, Items, leaf, list, none, more}
use Rattle.cert_text.specs.Form.{numeral_text, header_sexpr, end_sexpr}
use Rattle.smt_sexpr.specs.Shapes.{symbol, is_symbol}
use Rattle.cert_text.specs.declared.entry.Version.{Version}
use Rattle.cert_text.specs.declared.entry.Version.TheVariants.{One, Two}
use Rattle.cert_read.specs.code.Shapes.{is_numeral, version_of, IsHeaderOf}
use Rattle.cert_text.proofs.OneEntry.{parts, first, others}

pub symbol_is : (text : List ℕ) (x : Sexpr) → is_symbol text x ≡ true → x ≡ symbol text
symbol_is text (leaf Symbol name) e = ap symbol ((bytes_eq-Decides name text).0 e)
symbol_is text (leaf other name) e = absurd (true≢false (sym e))
symbol_is text (list xs) e = absurd (true≢false (sym e))

is_itself : (text : List ℕ) → is_symbol text (symbol text) ≡ true
is_itself text = (bytes_eq-Decides text text).1 refl

numeral_is : (text : List ℕ) (x : Sexpr) → is_numeral text x ≡ true → x ≡ leaf Numeral text
numeral_is text (leaf Numeral digits) e = ap (leaf Numeral) ((bytes_eq-Decides digits text).0 e)
numeral_is text (leaf other name) e = absurd (true≢false (sym e))
numeral_is text (list xs) e = absurd (true≢false (sym e))

-- ---- the end

pub is_end_line : (x : Sexpr) → is_symbol (codes "end") x ≡ true → list (more x none) ≡ end_sexpr
is_end_line x e = ap (λ (y : Sexpr). list (more y none)) (symbol_is (codes "end") x e)

pub end_alone : (x : Sexpr) (xs : Items) → list (more x xs) ≡ end_sexpr → xs ≡ none
end_alone x xs e = ap (λ (y : Sexpr). others (parts y)) e

-- ---- the headers

-- the digits of a version's number
abbrev digits : Version → List ℕ
digits One = codes "1"
digits Two = codes "2"

is_header_line : (version : Version) (x y : Sexpr) → is_symbol (codes "dtp-certificate") x ≡ true → is_numeral (digits version) y ≡ true → list (more x (more y none)) ≡ header_sexpr version
unfolding numeral_text
is_header_line One x y e f = λ i. list (more (symbol_is (codes "dtp-certificate") x e i) (more (numeral_is (codes "1") y f i) none))
is_header_line Two x y e f = λ i. list (more (symbol_is (codes "dtp-certificate") x e i) (more (numeral_is (codes "2") y f i) none))

header_begins : (version : Version) (x y : Sexpr) → list (more x (more y none)) ≡ header_sexpr version → is_symbol (codes "dtp-certificate") x ≡ true
header_begins version x y e = ap (λ (z : Sexpr). is_symbol (codes "dtp-certificate") (first (parts z))) e ∙ is_itself (codes "dtp-certificate")

number_is : (version : Version) (x y : Sexpr) → list (more x (more y none)) ≡ header_sexpr version → is_numeral (digits version) y ≡ true
unfolding numeral_text
number_is One x y e = ap (λ (z : Sexpr). is_numeral (codes "1") (first (others (parts z)))) e
number_is Two x y e = ap (λ (z : Sexpr). is_numeral (codes "2") (first (others (parts z)))) e

-- what two tests find
version_by : (a b : Bool) → ((if a then Some One else (if b then Some Two else None)) ≡ Some One) × (a ≡ true)
    ⊎ (((if a then Some One else (if b then Some Two else None)) ≡ Some Two) × (b ≡ true)
    ⊎ (((if a then Some One else (if b then Some Two else None)) ≡ None) × (a ≡ false) × (b ≡ false)))
version_by true b = inl (refl, refl)
version_by false true = inr (inl (refl, refl))
version_by false false = inr (inr (refl, refl, refl))

no_version : (x y : Sexpr) → is_numeral (codes "1") y ≡ false → is_numeral (codes "2") y ≡ false → IsHeaderOf (list (more x (more y none))) None
no_version x y one two One e = true≢false (sym (number_is One x y e) ∙ one)
no_version x y one two Two e = true≢false (sym (number_is Two x y e) ∙ two)

header_by : (x y : Sexpr) → is_symbol (codes "dtp-certificate") x ≡ true → IsHeaderOf (list (more x (more y none))) (version_of y)
header_by x y name = elim (version_by (is_numeral (codes "1") y) (is_numeral (codes "2") y)) [
  | inl one ↦ subst (IsHeaderOf (list (more x (more y none)))) (sym one.0) (is_header_line One x y name one.1)
  | inr rest ↦ elim rest [
    | inl two ↦ subst (IsHeaderOf (list (more x (more y none)))) (sym two.0) (is_header_line Two x y name two.1)
    | inr neither ↦ subst (IsHeaderOf (list (more x (more y none)))) (sym neither.0) (no_version x y neither.1 neither.2)
  ]
]

pub header_of : (x y z : Sexpr) (version : Option Version) → x ≡ list (more y (more z none)) → is_symbol (codes "dtp-certificate") y ≡ true → version ≡ version_of z → IsHeaderOf x version
header_of x y z version is name number =
    subst (λ (w : Sexpr). IsHeaderOf w version) (sym is) (subst (IsHeaderOf (list (more y (more z none)))) (sym number) (header_by y z name))

pub header_missing : (x : Sexpr) (o : Option Version) → o ≡ None → IsHeaderOf x o → (version : Version) → x ≢ header_sexpr version
header_missing x None e h = h
header_missing x (Some found) e h = absurd cc

pub header_named : (x y z : Sexpr) → x ≡ list (more y (more z none)) → is_symbol (codes "dtp-certificate") y ≡ false → IsHeaderOf x None
header_named x y z is other version e = true≢false (sym (header_begins version y z (sym is ∙ e)) ∙ other)
