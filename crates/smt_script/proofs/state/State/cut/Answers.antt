use Rattle.std.proofs.Common.{refl, sym, ap, subst, ◌∙◌, ◌≡◌, ◌<◌, Some, slice_get, length}
use Rattle.std.proofs.lemmas.List.{take-map}
use Rattle.smt_script.specs.code.Kept.{Kept}
use Rattle.smt_script.specs.code.Shapes.{shown_name}
use Rattle.smt_script.proofs.Levels.{level_within}
use Rattle.smt_script.proofs.Keeping.{level_got, kept_cut}
use Rattle.smt_script.proofs.state.State.cut.Goals as goal

pub cut-requires-clause-names : goal.cut-requires-clause-names
cut-requires-clause-names c =
    let lt = subst (λ (k : Kept). c.args.left < length k.levels) (sym c.self.view_is) c.requires in
    let at = level_got c.self.inside.levels.items c.args.left c.index-level.result.now lt c.index-level.ensures in
    (level_within c.self.inside.levels.items c.args.left c.index-level.result.now _ at c.self.invariant.ascend).names

pub cut-requires-clause-defined : goal.cut-requires-clause-defined
cut-requires-clause-defined c =
    let lt = subst (λ (k : Kept). c.args.left < length k.levels) (sym c.self.view_is) c.requires in
    let at = level_got c.self.inside.levels.items c.args.left c.index-level.result.now lt c.index-level.ensures in
    (level_within c.self.inside.levels.items c.args.left c.index-level.result.now _ at c.self.invariant.ascend).defined

pub cut-requires-2 : goal.cut-requires-2
cut-requires-2 c =
    let lt = subst (λ (k : Kept). c.args.left < length k.levels) (sym c.self.view_is) c.requires in
    let at = level_got c.self.inside.levels.items c.args.left c.index-level.result.now lt c.index-level.ensures in
    (level_within c.self.inside.levels.items c.args.left c.index-level.result.now _ at c.self.invariant.ascend).nodes

pub invariant_of-self : goal.invariant_of-self
invariant_of-self c =
    let lt = subst (λ (k : Kept). c.args.left < length k.levels) (sym c.self.view_is) c.requires in
    let at = level_got c.self.inside.levels.items c.args.left c.index-level.result.now lt c.index-level.ensures in
    rw (c.cut.ensures, c.cut-2.ensures, c.truncate.ensures.items, c.truncate-2.ensures.items, ← take-map shown_name c.index-level.result.now.roots c.self.inside.labels.items, c.truncate-3.ensures.items) (kept_cut _ c.args.left c.index-level.result.now c.self.invariant at)

pub returns : goal.returns
returns c = λ level at.
    let lt = subst (λ (k : Kept). c.args.left < length k.levels) (sym c.self.view_is) c.requires in
    let here : slice_get c.self.inside.levels.items c.args.left ≡ Some level = ap (λ (k : Kept). slice_get k.levels c.args.left) c.self.view_is ∙ at in
    let there : slice_get c.self.inside.levels.items c.args.left ≡ Some c.index-level.result.now = level_got c.self.inside.levels.items c.args.left c.index-level.result.now lt c.index-level.ensures in
    let same : level ≡ c.index-level.result.now = cc in
    rw (same, ← c.self.view_is, c.cut.ensures, c.cut-2.ensures, c.truncate.ensures.items, c.truncate-2.ensures.items, ← take-map shown_name c.index-level.result.now.roots c.self.inside.labels.items, c.truncate-3.ensures.items) refl
