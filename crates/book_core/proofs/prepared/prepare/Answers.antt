use Rattle.std.proofs.Common.{arith, ◌≡◌, ◌+◌, ◌≤◌, ◌∙◌, ap, sym, subst, ℕ, List, length}
use Rattle.refute_tree.specs.declared.lemma.Lemma.{Lemma as Stated}
use Rattle.refute_tree.specs.Limits.{lemmas_limit}
use Rattle.refute_tree.specs.Batches.{LemmaBatch, moved}
use Rattle.book_core.specs.Shared.{lemmas_of}
use Rattle.book_core.specs.code.Handed.{handed_in, IsMovable}
use Rattle.book_core.proofs.MovedBack.{movable, moved_back}
use Rattle.book_core.proofs.prepared.prepare.Goals as goal

pub new-handed-requires : goal.new-handed-requires
new-handed-requires c =
    let published : lemmas_of c.in_ok-share_again.field-0.items ≡ (moved c.args.base c.args.batch).lemmas =
    c.in_ok-share_again.ensures ∙ (ap lemmas_of c.as_slice.ensures.value ∙ (c.in_ok-shared.ensures ∙ (c.into_lemmas.ensures ∙ ap (λ (b : LemmaBatch). b.lemmas) c.move_to.ensures))) in
    subst (λ (n : ℕ). IsMovable n c.args.base (lemmas_of c.in_ok-share_again.field-0.items)) (sym c.seen-seen.ensures)
    (movable c.args.batch c.args.base (lemmas_of c.in_ok-share_again.field-0.items) c.requires.seen c.requires.below c.requires.fits published)

pub returns-clause-handed : goal.returns-clause-handed
returns-clause-handed c =
    let published : lemmas_of c.in_ok-share_again.field-0.items ≡ (moved c.args.base c.args.batch).lemmas =
    c.in_ok-share_again.ensures ∙ (ap lemmas_of c.as_slice.ensures.value ∙ (c.in_ok-shared.ensures ∙ (c.into_lemmas.ensures ∙ ap (λ (b : LemmaBatch). b.lemmas) c.move_to.ensures))) in
    c.new-handed.ensures ∙ (ap (λ (n : ℕ). handed_in n c.args.base (lemmas_of c.in_ok-share_again.field-0.items)) c.seen-seen.ensures
    ∙ moved_back c.args.batch c.args.base (lemmas_of c.in_ok-share_again.field-0.items) c.requires.seen published)
