use Rattle.std.proofs.Common.{arith, List, [], ◌∷◌, ◌++◌, subst, ◌≡◌, ◌+◌, ◌<◌, ℕ, true, false, length, get_or, sym, ap, ◌∙◌, refl}
use Rattle.trim_lemmas.specs.Trimming.{place}
use Rattle.trim_lemmas.proofs.Counted.{place_zero, place_within, place_more, get_pushed, are_places}
use Rattle.trim_lemmas.proofs.places.Places.new.Goals.{then-is_needed, else-is_needed}
use Rattle.trim_lemmas.proofs.places.Places.new.Goals as goal

pub loop-is_needed-init : goal.loop-is_needed-init
loop-is_needed-init c = record { long = c.in_ok-numbers.ensures.len; each = λ j lt. absurd (omega arith); all = omega (arith, place_zero c.args.needed.now) }

pub overflow_add-end : goal.overflow_add-end
overflow_add-end c =
    let all = c.loop-is_needed.invariant.all in
    let within = place_within c.args.needed.now c.loop-is_needed.is_needed-index in
    omega (arith, all, within, c.requires, c.loop-is_needed-test.true)

pub loop-is_needed-preserved : goal.loop-is_needed-preserved
loop-is_needed-preserved c =
    let needed = c.args.needed.now in
    let seen = c.args.seen in
    let at = c.loop-is_needed in
    let i = c.loop-is_needed.is_needed-index in
    let long : length at.numbers.items ≡ i = omega (arith, at.invariant.long) in
    let pushed : (j : ℕ) → j < i + 1 → get_or (at.numbers.items ++ at.end ∷ []) j 0 ≡ seen + place needed j = get_pushed seen needed at.numbers.items i at.end long at.invariant.all at.invariant.each in
    record {
      long = omega (arith, c.in_ok-push.ensures.len, at.invariant.long);
      each = subst (λ (xs : List ℕ). (j : ℕ) → j < i + 1 → get_or xs j 0 ≡ seen + place needed j) (sym c.in_ok-push.ensures.items) pushed;
      all = elim c.if-is_needed.branch [
        | then-is_needed w ↦ omega (arith, w.end-is, at.invariant.all, place_more needed i true w.if-is_needed.true)
        | else-is_needed w ↦ omega (arith, w.end-is, at.invariant.all, place_more needed i false w.if-is_needed.false)
      ];
    }

pub returns : goal.returns
returns c =
    let needed = c.args.needed.now in
    let seen = c.args.seen in
    let at = c.loop-is_needed in
    let all : at.is_needed-index ≡ length needed = omega (arith, c.loop-is_needed-test.false, at.auto.is_needed-index-end) in
    let long : length at.numbers.items ≡ length needed = omega (arith, at.invariant.long, all) in
    let each : (j : ℕ) → j < length needed → get_or at.numbers.items j 0 ≡ seen + place needed j = λ j lt. at.invariant.each j (omega (arith, lt, all)) in
    (refl, are_places seen needed at.numbers.items at.end long each (at.invariant.all ∙ ap (λ n. seen + place needed n) all))
