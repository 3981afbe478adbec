use Rattle.std.proofs.Common.{arith, ◌≡◌, ◌<◌, ◌+◌, ◌∷◌, [], ◌++◌, ℕ, List, length, refl, sym, ap, subst, ◌∙◌}
use Rattle.std.specs.Arc.{arc_value}
use Rattle.std.proofs.lemmas.List.{length-map, length_push}
use Rattle.std.proofs.lemmas.Option.{get_or_from_slice_get}
use Rattle.refute_tree.specs.declared.lemma.Lemma.{Lemma as Stated}
use Rattle.carried_lemmas.specs.Shared.{lemmas_of}
use Rattle.carried_lemmas.specs.code.Carrying.{lemma_by}
use Rattle.carried_lemmas.proofs.Placed.{AreMade, none_made, made_not, made_one, shared_at, shared_below}
use Rattle.carried_lemmas.proofs.carrying.carried.Goals.{then-kept-k+in_ok-push_lemma, else-kept-k}
use Rattle.carried_lemmas.proofs.carrying.carried.Goals as goal

pub loop-k-init : goal.loop-k-init
loop-k-init c = none_made c.args.numbers.now c.args.kept.now (lemmas_of c.args.lemmas.now) c.in_ok-places.places.items c.new-all.result.items (ap length c.in_ok-places.ensures.items) c.new-all.ensures.items

pub push_lemma-requires : goal.push_lemma-requires
push_lemma-requires c =
    shared_below (λ a. arc_value {X = Stated} a) c.args.lemmas.now c.loop-k.k c.index-lemmas-k.result c.loop-k-test.true c.index-lemmas-k.is c.deref.result.now c.deref.ensures c.as_slice.result.now c.requires.back
    (ap length (c.as_slice.ensures.value ∙ c.in_ok-push.ensures.items) ∙ length_push c.loop-k.places.items c.len.result ∙ ap (λ (n : ℕ). n + 1) c.loop-k.invariant.long)

pub loop-k-preserved : goal.loop-k-preserved
loop-k-preserved c =
    let numbers = c.args.numbers.now in
    let kept = c.args.kept.now in
    let shared = c.args.lemmas.now in
    let lemmas = lemmas_of shared in
    let k = c.loop-k.k in
    let count : length lemmas ≡ length shared = length-map shared (λ a. arc_value {X = Stated} a) in
    let within : k < length lemmas = omega (arith, count, c.loop-k-test.true) in
    let same : length kept ≡ length lemmas = omega (arith, count, c.requires.each) in
    let made : ℕ = length c.loop-k.all.items in
    let number : c.len.result ≡ made = omega (arith, c.len.ensures) in
    let pushed : c.push.new.self.items ≡ c.loop-k.places.items ++ made ∷ [] = c.in_ok-push.ensures.items ∙ ap (λ (n : ℕ). c.loop-k.places.items ++ n ∷ []) number in
    elim c.if-kept-k.branch [
      | then-kept-k+in_ok-push_lemma w ↦
          let lemma = w.deref.result.now in
          let at = shared_at (λ a. arc_value {X = Stated} a) shared k c.index-lemmas-k.result c.loop-k-test.true c.index-lemmas-k.is lemma w.deref.ensures in
          made_one numbers kept lemmas c.loop-k.places.items c.loop-k.all.items k c.loop-k.invariant within same c.push.new.self.items pushed lemma w.if-kept-k.true
          (get_or_from_slice_get lemmas k lemma lemma at) (c.requires.back k lemma at) c.if-kept-k.all.items
          (ap (λ v. v.items) w.all-is ∙ w.in_ok-push_lemma.ensures ∙ ap (λ (ws : List ℕ). c.loop-k.all.items ++ lemma_by numbers ws lemma ∷ []) w.as_slice.ensures.value)
      | else-kept-k w ↦
          let lemma = arc_value {X = Stated} c.index-lemmas-k.result in
          let at = shared_at (λ a. arc_value {X = Stated} a) shared k c.index-lemmas-k.result c.loop-k-test.true c.index-lemmas-k.is lemma refl in
          subst (λ (ls : List Stated). AreMade numbers kept lemmas c.push.new.self.items ls (k + 1)) (sym (ap (λ v. v.items) w.all-is))
          (made_not numbers kept lemmas c.loop-k.places.items c.loop-k.all.items k c.loop-k.invariant within same c.push.new.self.items pushed lemma w.if-kept-k.false (get_or_from_slice_get lemmas k lemma lemma at))
    ]
