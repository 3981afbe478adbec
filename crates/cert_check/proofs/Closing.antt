-- Cases that are closed at once, by the leaf of their literal and its negation.
use Rattle.std.proofs.Common.{arith, ◌≡◌, ◌≤◌, ◌+◌, ◌-◌, ℕ, zero, suc, List, [], ◌∷◌, ◌++◌, length, drop, Bool, true, false, refl, sym, ap, ◌∙◌, subst}
use Rattle.std.specs.Prelude.{Ok}
use Rattle.std.proofs.lemmas.Bool.{or_left}
use Rattle.std.proofs.lemmas.List.Folds.{list_any-append}
use Rattle.std.proofs.lemmas.List.Elements.{Contains-push, Contains-append_left}
use Rattle.stn_core.specs.declared.literal.Literal.{Literal}
use Rattle.stn_core.specs.Literal.{negation_of, same_literal}
use Rattle.refute_tree.specs.declared.step.Step.{Step}
use Rattle.refute_tree.specs.declared.step.Step.TheVariants.{Cycle}
use Rattle.refute_tree.specs.Pairs.{pair_of}
use Rattle.refute_tree.proofs.Lengthened.{pair_cycle}
use Rattle.cert_check.specs.Tests.{is_assumed}
use Rattle.cert_check.specs.Flaws.{cases_of, opened, after_step, steps_flaw}
use Rattle.cert_check.specs.code.Walks.{IsAlike, AreAlike, GoesOn, AreAmong, ClosesCase, ClosesCases}
use Rattle.cert_check.proofs.Decided.{is_assumed_decides}
use Rattle.cert_check.proofs.Reading.{leaf_is_opened}
use Rattle.cert_check.proofs.Alike.{assumed_again, AreAlike-itself, AreAlike-append, cases_alike, same_flaw}

-- what is ahead of the same cases and steps
pub goes_itself : (cases : List (List Literal)) (steps : List Step) → GoesOn cases steps cases steps
goes_itself cases steps = record {
  shorter = omega arith;
  same = λ points clauses earlier number.
      let n : number ≡ number + (length steps - length steps) = omega arith in
      ap (λ (k : ℕ). steps_flaw points clauses earlier cases k steps) n;
}

-- one after the other
pub goes_then : (a b c : List (List Literal)) (s t u : List Step) → GoesOn a s b t → GoesOn b t c u → GoesOn a s c u
goes_then a b c s t u g h = record {
  shorter = omega (arith, g.shorter, h.shorter);
  same = λ points clauses earlier number.
      let n : number + (length s - length t) + (length t - length u) ≡ number + (length s - length u) = omega (arith, g.shorter, h.shorter) in
      g.same points clauses earlier number
      ∙ h.same points clauses earlier (number + (length s - length t))
      ∙ ap (λ (k : ℕ). steps_flaw points clauses earlier c k u) n;
}

-- to cases that are alike
pub goes_alike : (a b c : List (List Literal)) (s t : List Step) → GoesOn a s b t → AreAlike c b → GoesOn a s c t
goes_alike a b c s t g h = record {
  shorter = g.shorter;
  same = λ points clauses earlier number.
      g.same points clauses earlier number ∙ sym (same_flaw points clauses earlier t (number + (length s - length t)) c b h);
}

pub among_more : (few more : List Literal) → AreAmong few (few ++ more)
among_more few more l e = list_any-append (same_literal l) few more ∙ or_left (is_assumed few l) (is_assumed more l) e

-- a case whose literal's negation is assumed
case_closed : (more : List Literal) (l : Literal) (clause : List Literal) (others : List (List Literal)) (steps rest : List Step) → steps ≡ Cycle (pair_of l) ∷ rest → is_assumed more (negation_of l) ≡ true
    → GoesOn (cases_of more (l ∷ clause) ++ others) steps (cases_of more clause ++ others) rest
case_closed more l clause others steps rest here denied =
    let left : List (List Literal) = cases_of (more ++ negation_of l ∷ []) clause ++ others in
    let again : IsAlike (more ++ negation_of l ∷ []) more = λ k. sym (assumed_again more (negation_of l) denied k) in
    let alike : AreAlike left (cases_of more clause ++ others) =
    AreAlike-append (cases_of (more ++ negation_of l ∷ []) clause) (cases_of more clause) others others (cases_alike (more ++ negation_of l ∷ []) more clause again) (AreAlike-itself others) in
    let len : length steps ≡ suc (length rest) = ap length here in
    record {
      shorter = omega (arith, len);
      same = λ points clauses earlier number.
          let n : suc number ≡ number + (length steps - length rest) = omega (arith, len) in
          let leaf : opened points clauses earlier (more ++ l ∷ []) (Cycle (pair_of l)) ≡ Ok [] =
          leaf_is_opened points clauses earlier (more ++ l ∷ []) (pair_of l)
          (pair_cycle (more ++ l ∷ []) l (Contains-push more l) (Contains-append_left more (l ∷ []) (negation_of l) ((is_assumed_decides more (negation_of l)).0 denied))) in
          ap (steps_flaw points clauses earlier ((more ++ l ∷ []) ∷ left) number) here
          ∙ ap (after_step earlier number (λ opening. steps_flaw points clauses earlier (opening ++ left) (suc number) rest)) leaf
          ∙ same_flaw points clauses earlier rest (suc number) left (cases_of more clause ++ others) alike
          ∙ ap (λ (k : ℕ). steps_flaw points clauses earlier (cases_of more clause ++ others) k rest) n;
    }

pub none_behind : (clause : List Literal) (next : ℕ) → length clause ≤ next → drop next clause ≡ []
none_behind [] zero le = refl
none_behind [] (suc next) le = refl
none_behind (l ∷ clause) zero le = absurd (omega arith)
none_behind (l ∷ clause) (suc next) le = none_behind clause next (omega arith)

module _ (assumed clause : List Literal) (low : ℕ) where
  pub none_closed : (steps : List Step) → ClosesCases assumed clause low low steps steps
  none_closed steps more others among = goes_itself (cases_of more (drop low clause) ++ others) steps

  -- one case more
  pub next_closed : (next : ℕ) (l : Literal) (steps left rest : List Step) → drop next clause ≡ l ∷ drop (next + 1) clause → ClosesCases assumed clause low next steps left → ClosesCase assumed l left rest true → ClosesCases assumed clause low (next + 1) steps rest
  next_closed next l steps left rest at before now more others among =
      let one = case_closed more l (drop (next + 1) clause) others left rest now.0 (among (negation_of l) now.1) in
      goes_then _ _ _ steps left rest (before more others among)
      (subst (λ (c : List Literal). GoesOn (cases_of more c ++ others) left (cases_of more (drop (next + 1) clause) ++ others) rest) (sym at) one)

  -- the next case isn't closed at once
  pub stays_closed : (next : ℕ) (l : Literal) (steps left rest : List Step) → ClosesCases assumed clause low next steps left → (b : Bool) → ClosesCase assumed l left rest b → b ≡ false → ClosesCases assumed clause low next steps rest
  stays_closed next l steps left rest before true now e = absurd (cc)
  stays_closed next l steps left rest before false now e = subst (ClosesCases assumed clause low next steps) (sym now) before

-- a step that opens the cases of a clause, and those behind it
module _ (assumed clause : List Literal) (next : ℕ) (others now : List (List Literal)) (steps left : List Step) (closed : ClosesCases assumed clause 0 next steps left) where
  closes_up_to : GoesOn (cases_of assumed clause ++ others) steps (cases_of assumed (drop next clause) ++ others) left
  closes_up_to = closed assumed others (λ l e. e)

  pub closed_and_on : (rest : List Step) → length clause ≤ next → GoesOn others left now rest → GoesOn (cases_of assumed clause ++ others) steps now rest
  closed_and_on rest all h =
      goes_then _ _ _ steps left rest (subst (λ (c : List Literal). GoesOn (cases_of assumed clause ++ others) steps (cases_of assumed c ++ others) left) (none_behind clause next all) closes_up_to) h

  pub closed_and_open : AreAlike now (cases_of assumed (drop next clause) ++ others) → GoesOn (cases_of assumed clause ++ others) steps now left
  closed_and_open h = goes_alike _ _ now steps left closes_up_to h
