use Rattle.std.proofs.Common.{List, Ok, Err, Some, None, refl, sym, ap, ◌∙◌, arith}
use Rattle.smt_sexpr.specs.Table.{table_of}
use Rattle.smt_sexpr.proofs.ReadingLoop.{answered, Found, reading_starts, reading_opens, found_leaf, found_list, frame_within, found_alone, found_forward, found_inside, reading_alone, reading_open, reading_within, read_here}
use Rattle.std.proofs.lemmas.List.{nil_from_length as empty_list}
use Rattle.std.proofs.lemmas.Bool.{eqb-true, eqb-false}
use Rattle.std.specs.Prelude.{slice_get}
use Rattle.smt_sexpr.specs.declared.reader.Frame.{Frame}
use Rattle.smt_sexpr.proofs.TableGrowth.{get_none, get_some}
use Rattle.smt_sexpr.proofs.reader.read.Goals as goal
use Rattle.smt_sexpr.proofs.reader.read.Goals.{Joined-token, in-Right+in-Some-pop+in_ok-id-in-Some-pop, in_default+in_ok-push-in_default}

pub tokens-init : goal.tokens-init
tokens-init c = reading_starts c.args.lexer.now c.args.nodes.now.items c.args.items.now.items c.args.stack.now.items c.args.pending.now.items c.requires.fresh c.requires.stack c.requires.pending

pub returns-in-Err-clause-finds : goal.returns-in-Err-clause-finds
returns-in-Err-clause-finds c =
    let a = answered c.tokens.lexer c.next.new.self c.next.result (Err c.in-Err.error) c.next.ensures.bytes c.next.ensures.reads c.next.ensures.failed c.tokens.invariant.fresh (cc) in
    (c.tokens.lexer.place, reading_within _ _ _ _ _ _ _ c.tokens.invariant, read_here c.args.lexer.now c.tokens.lexer c.next.new.self (Err c.in-Err.error) c.tokens.invariant.bytes a)

pub returns-in-None-clause-finds : goal.returns-in-None-clause-finds
returns-in-None-clause-finds c =
    let a = answered c.tokens.lexer c.next.new.self c.next.result (Ok None) c.next.ensures.bytes c.next.ensures.reads c.next.ensures.failed c.tokens.invariant.fresh (cc) in
    let here = read_here c.args.lexer.now c.tokens.lexer c.next.new.self (Ok None) c.tokens.invariant.bytes a in
    rw (reading_alone _ _ _ _ _ _ _ c.tokens.invariant (get_none c.tokens.stack.items (ap (λ (xs : List Frame). slice_get xs 0) (sym c.deref.ensures.value) ∙ sym c.in-None.ensures.value))) here

pub returns-in-Some-clause-finds : goal.returns-in-Some-clause-finds
returns-in-Some-clause-finds c =
    let a = answered c.tokens.lexer c.next.new.self c.next.result (Ok None) c.next.ensures.bytes c.next.ensures.reads c.next.ensures.failed c.tokens.invariant.fresh (cc) in
    let here = read_here c.args.lexer.now c.tokens.lexer c.next.new.self (Ok None) c.tokens.invariant.bytes a in
    (c.tokens.lexer.place, reading_open _ _ _ _ _ _ _ _ _ c.tokens.invariant (get_some c.tokens.stack.items _ (ap (λ (xs : List Frame). slice_get xs 0) (sym c.deref.ensures.value) ∙ sym c.in-Some.ensures.value)), here)

pub tokens-preserved-in-Left : goal.tokens-preserved-in-Left
tokens-preserved-in-Left c =
    let a = answered c.tokens.lexer c.next.new.self c.next.result (Ok (Some c.in-Ok-Some.token)) c.next.ensures.bytes c.next.ensures.reads c.next.ensures.failed c.tokens.invariant.fresh (cc) in
    reading_opens c.args.lexer.now (table_of c.args.lexer.now.bytes c.args.nodes.now.items c.args.items.now.items) c.tokens.lexer c.next.new.self c.tokens.nodes.items c.tokens.items.items c.tokens.stack.items c.push.new.self.items c.tokens.pending.items
    c.in-Ok-Some.token _ c.tokens.invariant a c.in-Left.is refl (omega (arith, c.len-first.ensures)) c.in_ok-push-in-Left.ensures.items

pub returns-in-None-pop-clause-finds : goal.returns-in-None-pop-clause-finds
returns-in-None-pop-clause-finds c =
    let a = answered c.tokens.lexer c.next.new.self c.next.result (Ok (Some c.in-Ok-Some.token)) c.next.ensures.bytes c.next.ensures.reads c.next.ensures.failed c.tokens.invariant.fresh (cc) in
    let here = read_here c.args.lexer.now c.tokens.lexer c.next.new.self (Ok (Some c.in-Ok-Some.token)) c.tokens.invariant.bytes a in
    (c.in-Ok-Some.token, rw (reading_alone _ _ _ _ _ _ _ c.tokens.invariant (empty_list _ (omega (arith, c.in-None-pop.ensures.cases.0)))) here, c.in-Right.is, refl)

pub close_list-requires : goal.close_list-requires
close_list-requires c =
    let a = answered c.tokens.lexer c.next.new.self c.next.result (Ok (Some c.in-Ok-Some.token)) c.next.ensures.bytes c.next.ensures.reads c.next.ensures.failed c.tokens.invariant.fresh (cc) in
    frame_within c.args.lexer.now _ c.tokens.lexer c.next.new.self c.tokens.nodes.items c.tokens.items.items c.tokens.stack.items c.pop.new.self.items c.tokens.pending.items c.in-Ok-Some.token c.in-Some-pop.frame c.tokens.invariant a c.in-Right.is c.in-Some-pop.ensures.items

found : (c : Joined-token) → Found c.args.lexer.now (table_of c.args.lexer.now.bytes c.args.nodes.now.items c.args.items.now.items) c.next.new.self c.match-token.nodes.items c.match-token.items.items c.match-token.stack.items c.match-token.pending.items c.match-token.id
found c =
    let a = answered c.tokens.lexer c.next.new.self c.next.result (Ok (Some c.in-Ok-Some.token)) c.next.ensures.bytes c.next.ensures.reads c.next.ensures.failed c.tokens.invariant.fresh (cc) in
    elim c.match-token.branch [
      | in-Right+in-Some-pop+in_ok-id-in-Some-pop w ↦
          rw (w.nodes-is, w.items-is, w.stack-is, w.pending-is, w.id-is)
          (found_list c.args.lexer.now (table_of c.args.lexer.now.bytes c.args.nodes.now.items c.args.items.now.items) c.tokens.lexer c.next.new.self c.tokens.nodes.items _ c.tokens.items.items _ c.tokens.stack.items w.pop.new.self.items c.tokens.pending.items _ c.in-Ok-Some.token w.in-Some-pop.frame _
          c.tokens.invariant a w.in-Right.is w.in-Some-pop.ensures.items w.in_ok-id-in-Some-pop.ensures.nodes w.in_ok-id-in-Some-pop.ensures.items w.in_ok-id-in-Some-pop.ensures.pending w.in_ok-id-in-Some-pop.ensures.id)
      | in_default+in_ok-push-in_default w ↦
          rw (w.nodes-is, w.items-is, w.stack-is, w.pending-is, w.id-is)
          (found_leaf c.args.lexer.now (table_of c.args.lexer.now.bytes c.args.nodes.now.items c.args.items.now.items) c.tokens.lexer c.next.new.self c.tokens.nodes.items _ c.tokens.items.items c.tokens.stack.items c.tokens.pending.items c.in-Ok-Some.token _
          c.tokens.invariant a w.in_default.not-Left w.in_default.not-Right w.in_ok-push-in_default.ensures.items (omega (arith, w.len-leaf.ensures)))
    ]

pub returns-then-is_empty-clause-finds : goal.returns-then-is_empty-clause-finds
returns-then-is_empty-clause-finds c = found_alone _ _ _ _ _ _ _ _ (found (goal.at.returns-then-is_empty-clause-finds c).Joined-token) (let z = eqb-true _ _ (sym c.is_empty.ensures ∙ c.if-is_empty.true) in omega arith)

pub returns-then-is_empty-clause-forward : goal.returns-then-is_empty-clause-forward
returns-then-is_empty-clause-forward c = λ id e. found_forward _ _ _ _ _ _ _ _ (found (goal.at.returns-then-is_empty-clause-forward c).Joined-token) (let z = eqb-true _ _ (sym c.is_empty.ensures ∙ c.if-is_empty.true) in omega arith)

pub returns-then-is_empty-clause-grows : goal.returns-then-is_empty-clause-grows
returns-then-is_empty-clause-grows c = rw (found (goal.at.returns-then-is_empty-clause-grows c).Joined-token).bytes ((found (goal.at.returns-then-is_empty-clause-grows c).Joined-token).grows)

pub tokens-preserved : goal.tokens-preserved
tokens-preserved c = found_inside _ _ _ _ _ _ _ _ _ (found (goal.at.tokens-preserved c).Joined-token) (let z = eqb-false _ _ (sym c.is_empty.ensures ∙ c.if-is_empty.false) in omega arith) c.in_ok-push.ensures.items

pub returns-in_err-push-clause-grows : goal.returns-in_err-push-clause-grows
returns-in_err-push-clause-grows c = rw (found (goal.at.returns-in_err-push-clause-grows c).Joined-token).bytes ((found (goal.at.returns-in_err-push-clause-grows c).Joined-token).grows)
