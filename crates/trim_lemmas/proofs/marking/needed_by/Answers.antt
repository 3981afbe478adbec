use Rattle.std.proofs.Common.{◌≡◌, Bool, true, All, List, length, subst, sym, ap, ◌∙◌}
use Rattle.std.proofs.lemmas.List.{with_items_is}
use Rattle.trim_lemmas.specs.Trimming.{AreNeeded, IsWanted}
use Rattle.trim_lemmas.specs.code.Marks.{swept}
use Rattle.trim_lemmas.proofs.Marked.{swept_right, length_first, all_needed}
use Rattle.trim_lemmas.proofs.marking.needed_by.Goals as goal

pub returns : goal.returns
returns c =
    let lemmas = c.args.lemmas.now in
    let seen = c.args.seen in
    let marks = c.args.marks.items in
    let made : c.mark_back.new.needed ≡ swept seen (length lemmas) lemmas marks =
    c.mark_back.ensures ∙ ap (λ (bs : List Bool). swept seen (length lemmas) lemmas bs) c.as_mut_slice.ensures.value in
    let long : length c.mark_back.new.needed ≡ c.args.marks.len =
    ap length made ∙ length_first seen lemmas marks c.requires ∙ sym c.requires ∙ sym c.args.marks.ok.0 in
    subst (AreNeeded (IsWanted marks) seen lemmas) (sym (with_items_is c.args.marks c.mark_back.new.needed long ∙ made)) (swept_right seen lemmas marks c.requires)

pub returns-then-are_all : goal.returns-then-are_all
returns-then-are_all c =
    let all : All (λ (b : Bool). b ≡ true) c.args.marks.items =
    subst (All (λ (b : Bool). b ≡ true)) c.as_slice.ensures.value (c.are_all.ensures c.if-are_all.true) in
    all_needed c.args.seen c.args.lemmas.now c.args.marks.items c.requires all
