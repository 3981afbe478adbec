use Rattle.std.proofs.Common.{rules, sym, ap, ◌∙◌, ◌≡◌, ◌++◌, ◌+◌, ◌∷◌, [], List, ℕ, length}
use Rattle.std.proofs.lemmas.List.{length_push}
use Rattle.std.proofs.lemmas.Result.{err_from_is_err_and}
use Rattle.idl_node.specs.code.Repeats.{AreToldApart}
use Rattle.idl_node.proofs.Steps.{front_on}
use Rattle.idl_node.proofs.ToldApart.{pairs_refused, pairs_step, refused_behind, rows_named}
use Rattle.idl_node.proofs.nodes.Nodes.add_difference.Goals as goal

pub tell_next_apart-requires-clause-rows : goal.tell_next_apart-requires-clause-rows
tell_next_apart-requires-clause-rows c =
    rows_named (AreToldApart c.loop-i.self) c.args.members.now c.in_ok-earlier.earlier.items c.deref.result.now c.loop-i.starts.items c.deref-in-loop-i.result.now c.loop-i.parts.items (sym c.deref.ensures.value) (sym c.deref-in-loop-i.ensures.value) c.loop-i.invariant.rows

pub returns-in_err-tell_next_apart-clause-makes : goal.returns-in_err-tell_next_apart-clause-makes
returns-in_err-tell_next_apart-clause-makes c =
    let q = err_from_is_err_and c.from_residual-in_err-tell_next_apart.result c.from_residual-in_err-tell_next_apart.ensures.1 in
    let at : length c.deref-in-loop-i.result.now ≡ c.loop-i._i = ap length c.deref-in-loop-i.ensures.value ∙ c.loop-i.invariant.count in
    rw (q.1, q.2) (refused_behind c.tell_next_apart.new.self _ _ c.in_err-tell_next_apart.field-0.0 c.loop-i.invariant.rest
    (pairs_refused c.loop-i.self c.tell_next_apart.new.self c.args.members.now c.loop-i.parts.items c.loop-i._i (length c.deref-in-loop-i.result.now) c.loop-i-test.true at c.in_err-tell_next_apart.field-0.0 c.in_err-tell_next_apart.ensures.refused))

pub loop-i-preserved : goal.loop-i-preserved
loop-i-preserved c =
    let at : length c.deref-in-loop-i.result.now ≡ c.loop-i._i = ap length c.deref-in-loop-i.ensures.value ∙ c.loop-i.invariant.count in
    let start : length c.loop-i.parts.items ≡ c.len-start.result = search rules in
    let places : c.deref-in-loop-i.result.now ++ length c.loop-i.parts.items ∷ [] ≡ c.push.new.self.items =
    ap (λ (ss : List ℕ). ss ++ length c.loop-i.parts.items ∷ []) c.deref-in-loop-i.ensures.value
    ∙ ap (λ (n : ℕ). c.loop-i.starts.items ++ n ∷ []) start
    ∙ sym c.in_ok-push.ensures.items in
    record {
      rest = c.loop-i.invariant.rest ∙ pairs_step c.loop-i.self c.tell_next_apart.new.self c.args.members.now c.loop-i.parts.items c.loop-i._i (length c.deref-in-loop-i.result.now) c.loop-i-test.true at c.tell_next_apart.new.parts.items c.in_ok-tell_next_apart.ensures.made;
      front = front_on c.args.self.now c.loop-i.self c.tell_next_apart.new.self c.loop-i.invariant.front c.in_ok-tell_next_apart.ensures.front;
      count = ap length c.in_ok-push.ensures.items ∙ length_push c.loop-i.starts.items _ ∙ ap (λ (n : ℕ). n + 1) c.loop-i.invariant.count;
      rows = rows_named (AreToldApart c.tell_next_apart.new.self) c.args.members.now c.deref.result.now c.in_ok-earlier.earlier.items (c.deref-in-loop-i.result.now ++ length c.loop-i.parts.items ∷ []) c.push.new.self.items c.tell_next_apart.new.parts.items c.deref.ensures.value places
          c.in_ok-tell_next_apart.ensures.rows;
    }
