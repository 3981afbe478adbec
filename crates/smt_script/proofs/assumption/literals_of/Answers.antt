use Rattle.std.proofs.Common.{arith, ap, sym, subst, ◌∙◌, ◌≡◌, ◌+◌, map, List, [], ◌∷◌, true, false}
use Rattle.std.proofs.lemmas.List.{drop_all, map-append}
use Rattle.smt_sexpr.specs.Tree.{Sexpr}
use Rattle.smt_script.specs.code.Shapes.{shown_literal}
use Rattle.smt_script.specs.declared.assumption.AssumedLiteral.{AssumedLiteral}
use Rattle.smt_script.proofs.Literals.{AreReadTo, next_literal, read_more, read_all}
use Rattle.smt_script.proofs.assumption.literals_of.Goals as goal

pub literal_of-requires : goal.literal_of-requires
literal_of-requires c =
    let n = next_literal c.args.sexprs.now c.args.ids.now (map shown_literal c.loop-id.literals.items) c.loop-id.id-index c.loop-id.invariant.read (omega arith) c.requires.0 c.requires.1 c.requires.2 in
    (n.0, n.1)

pub unreachable-requires : goal.unreachable-requires
unreachable-requires c =
    let n = next_literal c.args.sexprs.now c.args.ids.now (map shown_literal c.loop-id.literals.items) c.loop-id.id-index c.loop-id.invariant.read (omega arith) c.requires.0 c.requires.1 c.requires.2 in
    let both : true ≡ false = sym n.2 ∙ c.in-None.ensures n.0 n.1 in
    cc

pub loop-id-preserved : goal.loop-id-preserved
loop-id-preserved c =
    let read : List Sexpr = map shown_literal c.loop-id.literals.items in
    let more = read_more c.args.sexprs.now c.args.ids.now read c.loop-id.id-index c.loop-id.invariant.read (omega arith) (shown_literal c.in-Some.literal) (λ x means. (c.in-Some.ensures x means).1) in
    let same = ap (λ (ls : List AssumedLiteral). map shown_literal ls) c.in_ok-push-in-Some.ensures.items ∙ map-append shown_literal c.loop-id.literals.items (c.in-Some.literal ∷ []) in
    record { read = subst (λ (ls : List Sexpr). AreReadTo c.args.sexprs.now c.args.ids.now ls (c.loop-id.id-index + 1)) (sym same) more }

pub returns : goal.returns
returns c = λ xs means all. read_all c.args.sexprs.now c.args.ids.now (map shown_literal c.loop-id.literals.items) c.loop-id.id-index c.loop-id.invariant.read (drop_all c.loop-id.id-index c.args.ids.now (omega arith)) xs means all
