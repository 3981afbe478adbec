-- What clap finds in the words is what the line is made of, and where it refuses them there is none.
use Rattle.std.proofs.Common.{◌≡◌, ◌∙◌, true, List, [], ◌∷◌, Option, None, refl, ap, sym, subst, inl, inr}
use Rattle.clap.specs.Words.{App, HasKind, HasMatchesOf, Kinds, Row, Text, fault_of, is_simple, is_simple_and_free, kind_of, subcommand_of, subcommand_rows_of}
use Rattle.clap.specs.Walk.{texts}
use Rattle.clap.specs.declared.error.Error.{Error}
use Rattle.clap.specs.declared.error.kind.ErrorKind.TheVariants.{OutOfMemory}
use Rattle.clap.specs.declared.parser.matches.ArgMatches.{ArgMatches}
use Rattle.clap.proofs.OnLiterals.{clap_on_literals}
use Rattle.command_line.specs.Apps.{dtp_app, dtp_with, emit_texts, emit_words}
use Rattle.command_line.specs.Lines.{asked, line_of}
use Rattle.command_line.proofs.Places.{Words, fault_same, subcommand_same}

is_free : (p : Words) → is_simple_and_free (dtp_with p) ≡ true
unfolding clap_on_literals
is_free p = refl

is_plain : (p : Words) → is_simple (dtp_with p) ≡ true
unfolding clap_on_literals
is_plain p = refl

not_asked : (kinds : Kinds) (found : Option (Text × List Row)) (e : Error) → HasKind kinds e → (kind_of e ≡ OutOfMemory → ⊥) → asked kinds found ≡ None
not_asked [] found e (inl memory) other = absurd (other memory)
not_asked [] found e (inr none) other = elim none [ ]
not_asked (k ∷ ks) found e h other = refl

module _ (app : App) (p : Words) (words : List Text) (is : app ≡ dtp_with p) (same : texts p.now ≡ emit_texts) where
  pub no_line : (e : Error) → (is_simple_and_free app ≡ true → HasKind (fault_of app words) e) → (kind_of e ≡ OutOfMemory → ⊥) → line_of words ≡ None
  no_line e fails other =
      let fault : HasKind (fault_of (dtp_with p) words) e = subst (λ (a : App). is_simple_and_free a ≡ true → HasKind (fault_of a words) e) is fails (is_free p) in
      not_asked (fault_of dtp_app words) (subcommand_of dtp_app words) e
      (subst (λ (kinds : Kinds). HasKind kinds e) (fault_same p emit_words same words) fault) other

  pub line_found : (m : ArgMatches) → (is_simple_and_free app ≡ true → fault_of app words ≡ []) → HasMatchesOf app words m → asked [] (subcommand_rows_of m) ≡ line_of words
  line_found m well has =
      let fault : fault_of (dtp_with p) words ≡ [] = subst (λ (a : App). is_simple_and_free a ≡ true → fault_of a words ≡ []) is well (is_free p) in
      let none : fault_of dtp_app words ≡ [] = sym (fault_same p emit_words same words) ∙ fault in
      let found : subcommand_rows_of m ≡ subcommand_of (dtp_with p) words = (subst (λ (a : App). HasMatchesOf a words m) is has (is_plain p)).1 in
      ap (asked []) (found ∙ subcommand_same p emit_words words) ∙ sym (ap (λ (kinds : Kinds). asked kinds (subcommand_of dtp_app words)) none)
