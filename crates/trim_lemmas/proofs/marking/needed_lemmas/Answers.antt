use Rattle.std.proofs.Common.{◌≡◌, Bool, false, List, length, replicate, subst, sym, ap, ◌∙◌}
use Rattle.std.proofs.lemmas.List.{with_items_is}
use Rattle.trim_lemmas.specs.Trimming.{AreNeeded, IsWanted}
use Rattle.trim_lemmas.specs.code.Marks.{with_last}
use Rattle.trim_lemmas.proofs.Marked.{first_marks, first_long, needed_of_last}
use Rattle.trim_lemmas.proofs.marking.needed_lemmas.Goals as goal

pub returns : goal.returns
returns c =
    let lemmas = c.args.lemmas.now in
    let items : c.in_ok-marks.marks.items ≡ replicate (length lemmas) false = c.in_ok-marks.ensures.items_if_clones_equal (λ y h. h) in
    let made : c.mark_last.new.needed ≡ first_marks lemmas = c.mark_last.ensures ∙ ap with_last (c.as_mut_slice.ensures.value ∙ items) in
    let long : length c.mark_last.new.needed ≡ c.in_ok-marks.marks.len = ap length made ∙ first_long lemmas ∙ sym c.in_ok-marks.ensures.len in
    needed_of_last lemmas c.needed_by.result.items
    (subst (λ (bs : List Bool). AreNeeded (IsWanted bs) 0 lemmas c.needed_by.result.items) (with_items_is c.in_ok-marks.marks c.mark_last.new.needed long ∙ made) c.needed_by.ensures)
