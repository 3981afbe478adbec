use Rattle.std.proofs.Common.{rules, ◌≡◌, ◌<◌, ◌+◌, ◌∙◌, arith, sym, ap, subst, ◌∷◌, List, drop, length, ◌^◌}
use Rattle.std.specs.Prelude.{All}
use Rattle.std.proofs.lemmas.List.{drop_more}
use Rattle.std.proofs.lemmas.List.Elements.{All-cons}
use Rattle.std.proofs.lemmas.Option.{get_or_from_slice_get}
use Rattle.stn_core.specs.declared.literal.Literal.{Literal}
use Rattle.refute_tree.specs.code.Views.{literals_of}
use Rattle.cert_text.specs.Limits.{LiteralWithin}
use Rattle.dtp_convert.proofs.fitting.is_cycle_within.Goals as goal

pub loop-place-preserved : goal.loop-place-preserved
loop-place-preserved c =
    let literals = literals_of c.args.cycle in
    let place = c.loop-place.place in
    let within : place < length literals = omega (arith, c.len-place-end.ensures, c.loop-place-test.true) in
    let left : drop place literals ≡ c.at.result ∷ drop (place + 1) literals =
    drop_more literals place c.at.result within ∙ ap (λ (l : Literal). l ∷ drop (place + 1) literals) (get_or_from_slice_get literals place c.at.result c.at.result c.at.ensures) in
    λ rest. c.loop-place.invariant (subst (λ (ls : List Literal). All (LiteralWithin (2 ^ 32)) ls) (sym left)
    (All-cons (LiteralWithin (2 ^ 32)) c.at.result (drop (place + 1) literals) (c.is_within.ensures (search rules)) rest))
