use Rattle.std.proofs.Common.{rules, sym, subst, ◌-◌, ◌++◌, length, take, drop, List}
use Rattle.std.proofs.lemmas.List.{take-append-drop, take_rest}
use Rattle.idl_linear.specs.declared.summand.Summand.{Summand}
use Rattle.idl_linear.specs.Forms.{AscendAbove}
use Rattle.idl_linear.proofs.Parts.{ascend-front, ascend-back}
use Rattle.idl_linear.proofs.tree.+build.Goals as goal

pub build-requires : goal.build-requires
build-requires t c =
    let items = c.args.items.now in
    let k = c.count_below-count.result in
    let whole : AscendAbove 0 (take k items ++ drop k items) = subst (λ (l : List Summand). AscendAbove 0 l) (sym (take-append-drop k items)) c.requires in
    let front : AscendAbove 0 (take k items) = ascend-front 0 (take k items) (drop k items) whole in
    search rules

pub build-requires-2 : goal.build-requires-2
build-requires-2 t c =
    let items = c.args.items.now in
    let k = c.count_below-count.result in
    let whole : AscendAbove 0 (take k items ++ drop k items) = subst (λ (l : List Summand). AscendAbove 0 l) (sym (take-append-drop k items)) c.requires in
    let back : AscendAbove 0 (take (length items - k) (drop k items)) = subst (λ (l : List Summand). AscendAbove 0 l) (sym (take_rest items k)) (ascend-back 0 (take k items) (drop k items) whole) in
    search rules
