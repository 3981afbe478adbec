use Rattle.std.proofs.Common.{List, subst}
use Rattle.refute_tree.specs.declared.lemma.Lemma.{Lemma}
use Rattle.trim_lemmas.specs.Trimming.{AreNeeded, IsLast, IsTrimmed}
use Rattle.trim_lemmas.proofs.Shorter.{as_trimmed, trimmed_refutes, trimmed_over, trimmed_last}
use Rattle.trim_lemmas.proofs.trimming.trimmed.Goals as goal

facts : (c : goal.After-drop-needed-2) → IsTrimmed c.args.refutation c.new.result
facts c =
    let needed = c.in_ok-needed.needed.items in
    let are = subst (λ (ls : List Lemma). AreNeeded (IsLast ls) 0 ls needed) c.as_slice.ensures.value c.in_ok-needed.ensures in
    as_trimmed c.args.refutation c.into_vec-lemmas.result.items c.in_ok-shorter.shorter.items c.new.result needed _ c.into_vec-lemmas.ensures are
    c.as_slice-2.ensures.value c.in_ok-shorter.ensures c.new.ensures

pub returns-clause-trimmed : goal.returns-clause-trimmed
returns-clause-trimmed c = facts c

pub returns-clause-refutes : goal.returns-clause-refutes
returns-clause-refutes c = trimmed_refutes _ _ (facts c)

pub returns-clause-over : goal.returns-clause-over
returns-clause-over c = trimmed_over _ _ (facts c)

pub returns-clause-last : goal.returns-clause-last
returns-clause-last c = trimmed_last _ _ (facts c)
