use Rattle.std.proofs.Common.{arith, true, false, sym, ◌∙◌}
use Rattle.std.proofs.lemmas.List.{get_or_default}
use Rattle.trim_lemmas.proofs.Counted.{place_zero, place_within, place_more}
use Rattle.trim_lemmas.proofs.trimming.TrimmedBatch.place.Goals as goal
use Rattle.trim_lemmas.proofs.trimming.TrimmedBatch.place.Goals.{then-index, else-index}

pub loop-k-init : goal.loop-k-init
loop-k-init c = record { counted = sym (place_zero c.args.self.now.needed.items) }

pub overflow_add-count : goal.overflow_add-count
overflow_add-count c =
    let within = place_within c.args.self.now.needed.items c.loop-k.k in
    omega (arith, c.loop-k.invariant.counted, within, c.loop-k-test.true, c.ranges.j.fits)

pub loop-k-preserved : goal.loop-k-preserved
loop-k-preserved c =
    let needed = c.args.self.now.needed.items in
    let k = c.loop-k.k in
    let here = get_or_default needed k false c.index.result.now (omega (arith, c.loop-k-test.true, c.requires)) ∙ sym c.index.ensures in
    record {
      counted = elim c.if-index.branch [
        | then-index w ↦ omega (arith, w.count-is, c.loop-k.invariant.counted, place_more needed k true (here ∙ w.if-index.true))
        | else-index w ↦ omega (arith, w.count-is, c.loop-k.invariant.counted, place_more needed k false (here ∙ w.if-index.false))
      ];
    }
