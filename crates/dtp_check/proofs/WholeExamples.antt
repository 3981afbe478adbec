-- The worked examples of whole scripts.
use Rattle.std.proofs.Common.{refl, sym, subst, ◌≡◌, ℕ, List, [], ◌∷◌, ◌++◌, drop, Bool, true, false}
use Rattle.std.specs.Prelude.{codes}
use Rattle.smt_lex.specs.Bytes.{is_space, is_line_end, is_symbol_byte, is_quoted_byte}
use Rattle.smt_lex.specs.Grammar.{is_gap}
use Rattle.smt_sexpr.specs.Tree.{Sexpr}
use Rattle.smt_sexpr.specs.Reading.{Spells, expression}
use Rattle.cert_read.specs.Written.{IsClosedGap}
use Rattle.smt_script.specs.Commands.{naming_command, changing_command, asking_command, command_of, is_exit}
use Rattle.dtp_check.specs.Judged.{FollowsExit}
use Rattle.dtp_check.specs.Whole.{IsWholeFrom, IsWhole}
use Rattle.dtp_check.specs.WholeExamples.{exit_sexpr, ends_at_exit, ends_with_line, ends_in_comment}
use Rattle.smt_sexpr.specs.Laws.{OneOutcome, SexprReadsBack}

exits : is_exit exit_sexpr ≡ true
unfolding naming_command changing_command asking_command command_of
exits = refl

module _ (back : SexprReadsBack) where
  exit_spelled : (after : List ℕ) → Spells (codes "(exit)" ++ after) 0 exit_sexpr 6
  unfolding is_symbol_byte is_quoted_byte
  exit_spelled after = back exit_sexpr [] after (refl, tt) tt

  exit_followed : (script : List ℕ) (xs : List Sexpr) → xs ≡ [] → IsClosedGap (drop 6 script) → FollowsExit (is_exit exit_sexpr) ((xs ≡ []) × IsClosedGap (drop 6 script)) (IsWholeFrom script 6 xs)
  exit_followed script xs none closed = subst (λ (b : Bool). FollowsExit b ((xs ≡ []) × IsClosedGap (drop 6 script)) (IsWholeFrom script 6 xs)) (sym exits) (none, closed)

  pub exit_is_whole : IsWhole ends_at_exit
  exit_is_whole = (exit_sexpr ∷ [], (6, exit_spelled [], exit_followed ends_at_exit [] refl (λ rest. refl)))

  done_closed : IsClosedGap (codes " ; done\n")
  unfolding is_gap is_space is_line_end
  done_closed rest = refl

  pub line_is_whole : IsWhole ends_with_line
  line_is_whole = (exit_sexpr ∷ [], (6, exit_spelled (codes " ; done\n"), exit_followed ends_with_line [] refl done_closed))

  done_open : IsClosedGap (codes " ; done") → ⊥
  unfolding is_gap is_space is_line_end
  done_open closed = let e : true ≡ false = closed (97 ∷ []) in cc

  not_empty : IsClosedGap ends_in_comment → ⊥
  unfolding is_gap is_space
  not_empty closed = let e : false ≡ true = closed [] in cc

  pub comment_is_not : OneOutcome → IsWhole ends_in_comment → ⊥
  comment_is_not one ([], closed) = not_empty closed
  comment_is_not one (x ∷ xs, (mid, spells, follows)) =
      let w = one ends_in_comment 0 (expression x) (expression exit_sexpr) mid 6 spells (exit_spelled (codes " ; done")) in
      let first = w.0 in
      let same : x ≡ exit_sexpr = cc in
      let there : FollowsExit (is_exit exit_sexpr) ((xs ≡ []) × IsClosedGap (drop 6 ends_in_comment)) (IsWholeFrom ends_in_comment 6 xs) =
      subst (λ (m : ℕ). FollowsExit (is_exit exit_sexpr) ((xs ≡ []) × IsClosedGap (drop m ends_in_comment)) (IsWholeFrom ends_in_comment m xs)) w.1
      (subst (λ (z : Sexpr). FollowsExit (is_exit z) ((xs ≡ []) × IsClosedGap (drop mid ends_in_comment)) (IsWholeFrom ends_in_comment mid xs)) same follows) in
      let last : (xs ≡ []) × IsClosedGap (codes " ; done") = subst (λ (b : Bool). FollowsExit b ((xs ≡ []) × IsClosedGap (codes " ; done")) (IsWholeFrom ends_in_comment 6 xs)) exits there in
      done_open last.1
