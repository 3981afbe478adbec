use Rattle.std.proofs.Common.{◌≡◌, ◌∙◌, IsTrue, Contains, true, false, inl, inr, refl, subst, sym}
use Rattle.stn_core.specs.Solution.{IsAtom}
use Rattle.book_judge.proofs.Judged.{is_in, is_out}
use Rattle.book_judge.proofs.outcomes.is_open.Goals as goal

pub returns-then-contains : goal.returns-then-contains
returns-then-contains c = (
  λ (t : IsTrue false). absurd (cc t),
  λ h. absurd (h.1.0 (is_in c.args.cube.now c.args.literal _ c.contains.ensures c.if-contains.true)),
)

pub returns-then-contains-2 : goal.returns-then-contains-2
returns-then-contains-2 c = (
  λ (t : IsTrue false). absurd (cc t),
  λ h. absurd (h.1.1 (subst (Contains c.args.cube.now) c.negate.ensures (is_in c.args.cube.now _ _ c.contains-2.ensures c.if-contains-2.true))),
)

pub returns-then-is_atom : goal.returns-then-is_atom
returns-then-is_atom c = (
  λ t. (
    inl (c.is_atom.ensures.0 c.if-is_atom.true),
    (
      is_out c.args.cube.now c.args.literal _ c.contains.ensures c.if-contains.false,
      λ x. is_out c.args.cube.now _ _ c.contains-2.ensures c.if-contains-2.false (subst (Contains c.args.cube.now) (sym c.negate.ensures) x),
    ),
  ),
  λ h. refl,
)

pub returns : goal.returns
returns c = (
  λ t. (
    inr (subst (IsAtom c.args.problem.now) c.negate-2.ensures (c.is_atom-2.ensures.0 t)),
    (
      is_out c.args.cube.now c.args.literal _ c.contains.ensures c.if-contains.false,
      λ x. is_out c.args.cube.now _ _ c.contains-2.ensures c.if-contains-2.false (subst (Contains c.args.cube.now) (sym c.negate.ensures) x),
    ),
  ),
  λ h. elim h.0 [
    | inl a ↦ (let t : true ≡ false = sym (c.is_atom.ensures.1 a) ∙ c.if-is_atom.false in absurd (cc t))
    | inr b ↦ c.is_atom-2.ensures.1 (subst (IsAtom c.args.problem.now) (sym c.negate-2.ensures) b)
  ],
)
