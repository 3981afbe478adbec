-- Entries and their lemmas as a version of certificates shows them.
use Rattle.std.specs.Prelude.{◌≡◌, ℕ, List, Option, Some, None}
use Rattle.stn_core.specs.declared.literal.Literal.{Literal}
use Rattle.refute_tree.specs.declared.lemma.Lemma.{Lemma}
use Rattle.refute_tree.specs.Lengths.{lengthened_lemma, shortened_lemma}
use Rattle.stn_core.specs.declared.named.NamedValue.{NamedValue}
use Rattle.idl_node.specs.Nodes.{NodeValue}
use Rattle.unsat_cores.specs.Cores.{is_cited_root}
use Rattle.stn_core.specs.declared.problem.Problem.{Problem}
use Rattle.cert_text.specs.declared.entry.Entry.{Entry}
use Rattle.cert_text.specs.declared.entry.Version.{Version}
use Rattle.cert_text.specs.Form.{with_each, values_by}
use Rattle.cert_text.specs.declared.entry.Version.TheVariants.{One, Two}
use Rattle.dtp_session.specs.declared.wanted.Wanted.{Wanted}
use Rattle.dtp_session.specs.declared.wanted.Wanted.TheVariants as wanted

-- with each clash written out, or with each case that can be a clash as one
abbrev pub formed : Version → List (List Literal) → Lemma → Lemma
formed One = lengthened_lemma
formed Two = shortened_lemma

-- the version in whose form an entry is: a proof that is asked for in a transcript is printed as in the first
abbrev pub version_wanted : Wanted → Version
version_wanted wanted.Verdict = One
version_wanted (wanted.Entry version) = version

-- an entry in a version's form, where its lemmas refute a problem with these clauses
abbrev pub shown_in : Version → List (List Literal) → Entry → Entry
shown_in version clauses entry = with_each (formed version clauses) entry

-- an entry whose lemmas are to be put in the first version's form, as the problem's; else it is as it is
abbrev pub shown_as : Option Problem → Entry → Entry
shown_as (Some problem) entry = shown_in One problem.clauses entry
shown_as None entry = entry

-- the schedule that the code has: an entry's own, or the one that goes with its values of the time points
abbrev pub schedule_shown : Option (List NamedValue) → Entry → Option (List NamedValue)
schedule_shown given entry = values_by (λ values. given) entry

-- the same roots of any are cited
abbrev pub CiteSame : List Lemma → List Lemma → Type 0
CiteSame lemmas others =
    (nodes : List NodeValue) (roots : List ℕ) (r : ℕ) → is_cited_root nodes roots lemmas r ≡ is_cited_root nodes roots others r
