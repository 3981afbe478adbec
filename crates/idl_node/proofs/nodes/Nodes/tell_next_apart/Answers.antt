use Rattle.std.proofs.Common.{refl, ap, ◌∙◌, ◌++◌, List, ℕ}
use Rattle.std.proofs.lemmas.Result.{err_from_is_err_and}
use Rattle.idl_node.proofs.ToldApart.{copied_made, copied_rows, made_rows}
use Rattle.idl_node.proofs.nodes.Nodes.tell_next_apart.Goals as goal

pub returns-then-before-i-clause-made : goal.returns-then-before-i-clause-made
returns-then-before-i-clause-made c =
    copied_made c.args.self.now c.args.members.now c.args.earlier.now c.args.starts.now c.args.parts.now.items c.requires.within c.requires.rows c.requires.leads c.place_before-before.result _ _ c.extend_from_within.new.self.items c.place_before-before.ensures
    c.if-before-i.true refl refl c.in_ok-extend_from_within.ensures.items

pub returns-then-before-i-clause-rows : goal.returns-then-before-i-clause-rows
returns-then-before-i-clause-rows c =
    copied_rows c.args.self.now c.args.members.now c.args.earlier.now c.args.starts.now c.args.parts.now.items c.requires.within c.requires.rows c.requires.leads c.place_before-before.result _ _ c.extend_from_within.new.self.items c.place_before-before.ensures
    c.if-before-i.true refl refl c.in_ok-extend_from_within.ensures.items

pub returns-in_err-row-clause-refused : goal.returns-in_err-row-clause-refused
returns-in_err-row-clause-refused c =
    let q = err_from_is_err_and c.from_residual-in_err-row.result c.from_residual-in_err-row.ensures.1 in
    rw (q.1, q.2) (λ rest. c.in_err-row.ensures.refused c.args.parts.now.items rest)

pub returns-clause-rows : goal.returns-clause-rows
returns-clause-rows c =
    made_rows c.args.self.now c.args.members.now c.args.earlier.now c.args.starts.now c.args.parts.now.items c.requires.within c.requires.rows c.tell_others_apart.new.self c.in_ok-row.row.items c.extend_from_slice.new.self.items c.in_ok-row.ensures.front c.in_ok-row.ensures.count
    (c.in_ok-extend_from_slice.ensures.items ∙ ap (λ (ks : List ℕ). c.args.parts.now.items ++ ks) c.deref.ensures.value) c.in_ok-row.ensures.row
