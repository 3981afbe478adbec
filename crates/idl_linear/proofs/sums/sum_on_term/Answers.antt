use Rattle.std.proofs.Common.{ap, ◌∙◌, ◌≡◌, ◌+◌, ◌++◌, List, map, take, drop, Bor}
use Rattle.std.proofs.lemmas.List.{take_rest}
use Rattle.idl_linear.specs.Linear.{LinearValue, sum_of, negative_of}
use Rattle.idl_linear.specs.Forms.{with_terms}
use Rattle.idl_linear.proofs.Totals.{total_on_term}
use Rattle.idl_linear.proofs.Finishing.{parted, same_ok, same_limited, same_refused}
use Rattle.idl_linear.proofs.sums.sum_on_term.Goals as goal

pub returns-clause-ok : goal.returns-clause-ok
returns-clause-ok c =
    let seen : Bor LinearValue → LinearValue = λ l. l.now in
    let before = map seen (take c.args.place c.args.terms.now) in
    let behind = map seen (drop (c.args.place + 1) c.args.terms.now) in
    let others = map negative_of (map seen c.args.taken.now) in
    let second : c.add_all-2.new.self ≡ with_terms c.add_all.new.self behind = rw take_rest at c.in_ok-add_all-2.ensures in
    let whole = parted seen c.args.terms.now c.args.place c.index-terms-place.result c.requires.place c.index-terms-place.is in
    same_ok c.finish_on.result _ _ (total_on_term before behind c.index-terms-place.result.now others _ _ _ _ c.new-sum.ensures c.in_ok-add_all.ensures second c.in_ok-subtract_all.ensures c.finish_on.ensures.each c.finish_on.ensures.linear ∙ ap (λ (ls : List LinearValue). sum_of (ls ++ others)) whole) c.finish_on.ensures.ok

pub returns-clause-limited : goal.returns-clause-limited
returns-clause-limited c =
    let seen : Bor LinearValue → LinearValue = λ l. l.now in
    let before = map seen (take c.args.place c.args.terms.now) in
    let behind = map seen (drop (c.args.place + 1) c.args.terms.now) in
    let others = map negative_of (map seen c.args.taken.now) in
    let second : c.add_all-2.new.self ≡ with_terms c.add_all.new.self behind = rw take_rest at c.in_ok-add_all-2.ensures in
    let whole = parted seen c.args.terms.now c.args.place c.index-terms-place.result c.requires.place c.index-terms-place.is in
    same_limited c.finish_on.result _ _ (total_on_term before behind c.index-terms-place.result.now others _ _ _ _ c.new-sum.ensures c.in_ok-add_all.ensures second c.in_ok-subtract_all.ensures c.finish_on.ensures.each c.finish_on.ensures.linear ∙ ap (λ (ls : List LinearValue). sum_of (ls ++ others)) whole) c.finish_on.ensures.limited

pub returns-clause-refused : goal.returns-clause-refused
returns-clause-refused c =
    let seen : Bor LinearValue → LinearValue = λ l. l.now in
    let before = map seen (take c.args.place c.args.terms.now) in
    let behind = map seen (drop (c.args.place + 1) c.args.terms.now) in
    let others = map negative_of (map seen c.args.taken.now) in
    let second : c.add_all-2.new.self ≡ with_terms c.add_all.new.self behind = rw take_rest at c.in_ok-add_all-2.ensures in
    let whole = parted seen c.args.terms.now c.args.place c.index-terms-place.result c.requires.place c.index-terms-place.is in
    same_refused c.finish_on.result _ _ (total_on_term before behind c.index-terms-place.result.now others _ _ _ _ c.new-sum.ensures c.in_ok-add_all.ensures second c.in_ok-subtract_all.ensures c.finish_on.ensures.each c.finish_on.ensures.linear ∙ ap (λ (ls : List LinearValue). sum_of (ls ++ others)) whole) c.finish_on.ensures.refused
