-- What a script with its certificate comes to: accepted, or the first reason against it. The order of the reasons is this
-- project's own. Sources: SMT-LIB 2.6, section 4.1 (a script), section 4.2.5 (check-sat); `minimize` is this project's choice.
use Rattle.std.specs.Prelude.{◌≡◌, ◌≢◌, ℕ, ◌+◌, List, [], ◌∷◌, ◌++◌, length, ◌==◌, Bool, true, false, if◌then◌else◌, Option, Some, None, option_map, ℤ}
use Rattle.smt_sexpr.specs.Tree.{Sexpr}
use Rattle.smt_sexpr.specs.Commands.{ended}
use Rattle.smt_sexpr.specs.declared.error.SexprRefusal.{SexprRefusal}
use Rattle.smt_sexpr.specs.Reading.{Spells, Outcomes, finished, refused}
use Rattle.stn_core.specs.declared.literal.Literal.{Literal}
use Rattle.stn_core.specs.declared.named.NamedValue.{NamedValue}
use Rattle.stn_core.specs.declared.named.NamedValue.TheVariants.{Int, Truth}
use Rattle.cert_text.specs.declared.entry.Version.{Version}
use Rattle.cert_text.specs.declared.entry.FileEntry.{FileEntry}
use Rattle.cert_text.specs.declared.entry.FileEntry.TheVariants.{Sat, Unsat, Best, Unbounded}
use Rattle.cert_text.specs.Form.{header_sexpr}
use Rattle.cert_read.specs.declared.error.CertificateRefusal.TheVariants.{NoHeader}
use Rattle.cert_read.specs.Certificates.{CertificateOutcome, certificate, no_certificate, ReadsEntries, ReadsCertificate}
use Rattle.kept_lemmas.specs.declared.item.Item.{Item}
use Rattle.kept_lemmas.specs.Entries.{Placed, without_items, shelf_of}
use Rattle.lemma_shelf.specs.ItemFlaws.{items_flaw}
use Rattle.idl_node.specs.declared.sort.Sort.{Sort}
use Rattle.idl_node.specs.declared.sort.Sort.TheVariants as sorts
use Rattle.idl_term.specs.Contexts.{Context, environment}
use Rattle.idl_term.specs.Scopes.{sorts_of}
use Rattle.idl_term.specs.Values.{Value, truth, Named, value}
use Rattle.smt_script.specs.Commands.{is_exit, minimized}
use Rattle.smt_script.specs.declared.objective.Objective.{Objective}
use Rattle.smt_script.specs.declared.state.Question.{Question}
use Rattle.smt_script.specs.declared.state.Question.TheVariants.{CheckSat, Minimize}
use Rattle.smt_script.specs.declared.state.Satisfiability.{Satisfiability}
use Rattle.smt_script.specs.declared.state.Satisfiability.TheVariants as verdict
use Rattle.smt_answer.specs.Kinds.{kind_of_unreadable}
use Rattle.script_walk.specs.Course.{start_with, Turn, Outcome, tells, answers, asks, ends, fails, course}
use Rattle.dtp_entry.specs.Entries.{points_of, problem_of, difference_at, problem_below, AtMinimize}
use Rattle.dtp_check.specs.declared.judgement.EntryFlaw.{EntryFlaw}
use Rattle.dtp_check.specs.declared.judgement.EntryFlaw.TheVariants.{WrongKind, WrongCount, WrongSort, FalseAssertion, Flawed}
use Rattle.dtp_check.specs.declared.judgement.Judgement.{Judgement}
use Rattle.dtp_check.specs.declared.judgement.Judgement.TheVariants.{Accepted, Script, Certificate, Missing, Entry as BadEntry, Surplus}
use Rattle.dtp_check.specs.declared.script_part.PartEnd.{PartEnd}
use Rattle.dtp_check.specs.declared.script_part.PartEnd.TheVariants as part
use Rattle.dtp_check.specs.MinimizeFlaws.{attained_flaw, range_flaw, unbounded_flaw}

-- ---- the script's part of the source

-- what ends the script at the place, and the place behind it; an `(exit)` is the script's own last command
abbrev pub EndsPart : List ℕ → ℕ → PartEnd → ℕ → Type 0
EndsPart bytes place part.Exit behind = ⊥
EndsPart bytes place (part.Header version) behind = Spells bytes place (header_sexpr version) behind
EndsPart bytes place part.End behind = Outcomes bytes place finished behind
EndsPart bytes place (part.Unread kind) behind =
    (why : SexprRefusal) × Outcomes bytes place (refused why) behind × (kind_of_unreadable why ≡ kind)

-- no header of any version
abbrev pub IsApart : Sexpr → Type 0
IsApart x = (version : Version) → x ≢ header_sexpr version

-- behind an `(exit)` nothing of the script follows
abbrev pub ExitEnds : ℕ → List Sexpr → PartEnd → ℕ → Type 0
ExitEnds mid xs end behind = (xs ≡ []) × (end ≡ part.Exit) × (mid ≡ behind)

abbrev pub FollowsExit : Bool → Type 0 → Type 0 → Type 0
FollowsExit true A B = A
FollowsExit false A B = B

-- the commands of the script's part from the place on: up to the first `(exit)`, which is the last of them, or to the first
-- header, or to the end of the source, or to what can't be read
unfoldable pub ScriptPart : List ℕ → ℕ → List Sexpr → PartEnd → ℕ → Type 0
ScriptPart bytes place [] end behind = EndsPart bytes place end behind
ScriptPart bytes place (x ∷ xs) end behind =
    (mid : ℕ) × Spells bytes place x mid × IsApart x
    × FollowsExit (is_exit x) (ExitEnds mid xs end behind) (ScriptPart bytes mid xs end behind)

-- what stands behind the script, as a certificate: the text behind an `(exit)`, or that from a header on
abbrev pub CertificateBehind : List ℕ → PartEnd → ℕ → CertificateOutcome → Type 0
CertificateBehind bytes part.Exit behind outcome = ReadsCertificate bytes behind outcome
CertificateBehind bytes (part.Header version) behind outcome = ReadsEntries version bytes behind outcome
CertificateBehind bytes part.End behind outcome = outcome ≡ no_certificate NoHeader
CertificateBehind bytes (part.Unread kind) behind outcome = ⊥

-- ---- an entry

abbrev pub is_of_sort : Sort → NamedValue → Bool
is_of_sort sorts.Int (Int n) = true
is_of_sort sorts.Bool (Truth b) = true
is_of_sort _ _ = false

-- the first value of another sort than its name's; the values are numbered from k on
abbrev pub first_of_wrong_sort : ℕ → List Sort → List NamedValue → Option ℕ
first_of_wrong_sort k (s ∷ names) (v ∷ values) =
    if is_of_sort s v then first_of_wrong_sort (k + 1) names values else Some k
first_of_wrong_sort k _ _ = None

abbrev pub is_true : Value → Bool
is_true (truth b) = b
is_true _ = false

-- the first assertion that isn't true where the names stand for these values; the assertions are numbered from k on
abbrev pub first_false : List Named → ℕ → List Sexpr → Option ℕ
first_false env k [] = None
first_false env k (t ∷ assertions) =
    if is_true (value env t) then first_false env (k + 1) assertions else Some k

abbrev pub first_of_two : Option EntryFlaw → Option EntryFlaw → Option EntryFlaw
first_of_two (Some flaw) other = Some flaw
first_of_two None other = other

-- the values are no schedule that makes the assertions true
abbrev pub values_flaw : Context → List NamedValue → Option EntryFlaw
values_flaw c values =
    if length values == length c.declared
    then first_of_two
    (option_map WrongSort (first_of_wrong_sort 1 (sorts_of c.declared) values))
    (option_map FalseAssertion (first_false (environment c values) 1 c.assertions))
    else Some WrongCount

-- the items are no refutation of this problem over the entries before
abbrev pub refutation_flaw : List Placed → Context → List (List Literal) → List Item → Option EntryFlaw
refutation_flaw before c clauses items = option_map Flawed (items_flaw (shelf_of before) (points_of c) clauses items)

-- the values don't make the assertions true, or don't give the objective of command x the value m, or m isn't within the limits
abbrev pub least_flaw : Sexpr → Objective → Context → ℤ → List NamedValue → Option EntryFlaw
least_flaw x o c m values =
    first_of_two (values_flaw c values)
    (first_of_two (attained_flaw (environment c values) (minimized x) m) (range_flaw (difference_at o m)))

-- an entry of a check-sat alone, and one of a minimize alone
abbrev pub at_check_sat : Question → Option EntryFlaw → Option EntryFlaw
at_check_sat CheckSat flaw = flaw
at_check_sat (Minimize o) flaw = Some WrongKind

abbrev pub at_minimize : Question → (Objective → Option EntryFlaw) → Option EntryFlaw
at_minimize CheckSat flaw = Some WrongKind
at_minimize (Minimize o) flaw = flaw o

-- what is wrong with the entry of the question of command x where these assertions are active, behind these entries
abbrev pub entry_flaw : List Placed → Question → Sexpr → Context → FileEntry → Option EntryFlaw
entry_flaw before question x c (Sat values) = at_check_sat question (values_flaw c values)
entry_flaw before question x c (Unsat items) = refutation_flaw before c (problem_of c) items
entry_flaw before question x c (Best m values items) =
    at_minimize question (λ o. first_of_two (least_flaw x o c m values) (refutation_flaw before c (problem_below c o m) items))
entry_flaw before question x c (Unbounded values set) =
    at_minimize question (λ o. unbounded_flaw o (points_of c) (problem_of c) values set)

-- items where they stand, as later entries may keep their lemmas
abbrev pub placed_items : Context → List (List Literal) → List Item → Placed
placed_items c clauses items = record { points = points_of c; clauses = clauses; items = items }

abbrev pub placed_at_minimize : Question → (Objective → Placed) → Placed
placed_at_minimize CheckSat Stands = without_items
placed_at_minimize (Minimize o) Stands = Stands o

abbrev pub placed : Question → Context → FileEntry → Placed
placed question c (Sat values) = without_items
placed question c (Unsat items) = placed_items c (problem_of c) items
placed question c (Best m values items) = placed_at_minimize question (λ o. placed_items c (problem_below c o m) items)
placed question c (Unbounded values set) = without_items

-- what is so of that, where the entry has items
abbrev pub OfPlaced : Question → Context → FileEntry → (Placed → Type 0) → Type 0
OfPlaced question c (Sat values) Holds = Unit {0}
OfPlaced question c (Unsat items) Holds = Holds (placed_items c (problem_of c) items)
OfPlaced question c (Best m values items) Holds = AtMinimize question (λ o. Holds (placed_items c (problem_below c o m) items))
OfPlaced question c (Unbounded values set) Holds = Unit {0}

-- what an entry says of the assertions
abbrev pub told_by : FileEntry → Satisfiability
told_by (Sat values) = verdict.Sat
told_by (Unsat items) = verdict.Unsat
told_by (Best m values items) = verdict.Sat
told_by (Unbounded values set) = verdict.Sat

-- ---- the whole

abbrev pub surplus_of : ℕ → List FileEntry → Judgement
surplus_of n [] = Accepted
surplus_of n (entry ∷ entries) = Surplus n

-- what is wrong with an entry, or else what follows
abbrev pub judged_entry : ℕ → Option EntryFlaw → Judgement → Judgement
judged_entry n None others = others
judged_entry n (Some flaw) others = BadEntry n flaw

-- The first reason against a turn, else what the turns behind it come to, over the entries before it. The entries are
-- numbered from 1.
abbrev pub judged_by : List Placed → Turn FileEntry → Outcome FileEntry → (List Placed → Judgement) → Judgement
judged_by before t (tells x notice) rest = rest before
judged_by before t (answers question x entry) rest =
    judged_entry (length before + 1) (entry_flaw before question x t.state.context entry) (rest (before ++ placed question t.state.context entry ∷ []))
judged_by before t (asks question x) rest = Missing (length before + 1)
judged_by before t ends rest = surplus_of (length before + 1) t.before.left
judged_by before t (fails kind) rest = Script t.before.number kind

-- where the turns don't end the script, nothing is against them
abbrev pub judged_turns : List Placed → List (Turn FileEntry) → Judgement
judged_turns before [] = Accepted
judged_turns before (t ∷ ts) = judged_by before t t.outcome (λ now. judged_turns now ts)

-- the turns of a script's part, with the entries of the certificate
abbrev pub turns_with : List FileEntry → List Sexpr → List (Turn FileEntry)
turns_with entries xs = course told_by (start_with entries) xs ended

abbrev pub judged_script : List Sexpr → List FileEntry → Judgement
judged_script xs entries = judged_turns [] (turns_with entries xs)

-- the commands with what stands behind them
abbrev pub judged_with : List Sexpr → CertificateOutcome → Judgement
judged_with xs (certificate version entries) = judged_script xs entries
judged_with xs (no_certificate why) = Certificate why

abbrev pub JudgedPart : List ℕ → List Sexpr → PartEnd → ℕ → Judgement → Type 0
JudgedPart bytes xs (part.Unread kind) behind judgement = judgement ≡ Script (length xs + 1) kind
JudgedPart bytes xs end behind judgement =
    (outcome : CertificateOutcome) × CertificateBehind bytes end behind outcome
    × (judgement ≡ judged_with xs outcome)

-- what a source comes to, which is a script and then a certificate
pub record IsJudged (bytes : List ℕ) (judgement : Judgement) : Type 0 where
  pub commands : List Sexpr
  pub end : PartEnd
  pub behind : ℕ
  pub script : ScriptPart bytes 0 commands end behind
  pub judged_part : JudgedPart bytes commands end behind judgement
