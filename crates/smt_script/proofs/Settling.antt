-- What is kept behind a check-sat-assuming, and behind an answer.
use Rattle.std.proofs.Common.{refl, sym, ap, subst, ◌∙◌, arith, ◌≡◌, ℕ, List, length, take, true, Option, Some, None}
use Rattle.std.specs.Option.{is_some}
use Rattle.smt_script.specs.States.{State, Assumed, unassumed, without_assumptions, released}
use Rattle.smt_script.specs.code.Kept.{Kept, IsKept, IsNoLess, AscendWithout, amount_of, amount_without, cut_off, IsAssumed, AssumedStands, StandsFor}
use Rattle.smt_script.specs.declared.state.Active.{Active}
use Rattle.smt_script.specs.declared.state.Mode.{Mode}
use Rattle.smt_script.specs.declared.state.Mode.TheVariants as mode
use Rattle.smt_script.proofs.Levels.{take_length, take_take, ascend_grown, levels_off}
use Rattle.smt_script.proofs.Keeping.{stands_mode, stands_forgotten}

-- ---- an answer

module _ (kept : Kept) (sound : IsKept kept) (m : Mode) where
  settled_by : (n : Option Active) → kept.assumed ≡ n → AscendWithout kept n → IsKept (record (cut_off kept n) { mode = m })
  settled_by None e w = record { few = sound.few; labelled = sound.labelled; ascend = sound.ascend; without = subst (AscendWithout (record kept { mode = m })) (sym e) tt }
  settled_by (Some n) e w =
      let names = w.1.names in let defined = w.1.defined in let nodes = w.1.nodes in let roots = w.1.roots in
      let new : Kept = record (cut_off kept (Some n)) { mode = m } in
      let t = take_length n.nodes kept.nodes nodes in
      let r = take_length n.roots kept.roots roots in
      let l = take_length n.roots kept.labels (let same = sound.labelled in omega arith) in
      let less : IsNoLess (amount_without kept n) (amount_of new) = record { names = names; defined = defined; nodes = omega (arith, t); roots = omega (arith, r) } in
      record {
        few = sound.few;
        labelled = l ∙ sym r;
        ascend = ascend_grown kept.levels (amount_without kept n) (amount_of new) w.0 less;
        without = subst (AscendWithout new) (sym e) (w.0, less);
      }

  pub kept_settled : IsKept (record (cut_off kept kept.assumed) { mode = m })
  kept_settled = settled_by kept.assumed refl sound.without

  module _ (s : State) (h : StandsFor kept s) where
    released_by : (n : Option Active) (a : Option Assumed) → kept.assumed ≡ n → s.assumed ≡ a → AscendWithout kept n → AssumedStands kept n a → StandsFor (record (cut_off kept n) { mode = m }) (record (released s a) { mode = m })
    released_by None None e f w is = stands_mode kept s m h
    released_by None (Some a) e f w is = absurd is
    released_by (Some n) None e f w is = absurd is
    released_by (Some n) (Some a) e f w is =
        let new : Kept = record (cut_off kept (Some n)) { mode = m } in
        let nodes = w.1.nodes in
        let roots = w.1.roots in
        let count : length a.active.roots ≡ n.roots = ap (λ (ks : List ℕ). length ks) is.roots ∙ take_length n.roots kept.roots roots in
        let assumed : IsAssumed new n a = record {
          literals = is.literals;
          scope = is.scope;
          nodes = is.nodes ∙ sym (take_take n.nodes n.nodes kept.nodes (omega arith));
          roots = is.roots ∙ sym (take_take n.roots n.roots kept.roots (omega arith));
        } in
        record {
          scope = is.scope;
          nodes = sym is.nodes;
          roots = sym is.roots;
          labels = ap (take n.roots) h.labels ∙ ap (λ (k : ℕ). take k s.labels) (sym count);
          levels = levels_off kept new n refl refl refl w.1 kept.levels s.below w.0 h.levels;
          ascend = h.ascend;
          mode = refl;
          assumed = subst (λ (k : Option Active). AssumedStands new k s.assumed) (sym e) (subst (λ (k : Option Assumed). AssumedStands new (Some n) k) (sym f) assumed);
          print_success = h.print_success;
        }

    pub stands_released : StandsFor (record (cut_off kept kept.assumed) { mode = m }) (record (released s s.assumed) { mode = m })
    stands_released = released_by kept.assumed s.assumed refl refl sound.without h.assumed

-- ---- a question of its own

module _ (kept : Kept) (s : State) (h : StandsFor kept s) where
  unassumed_none : (a : Option Assumed) → s.assumed ≡ a → AssumedStands kept None a → StandsFor kept (without_assumptions s a)
  unassumed_none None e is = h
  unassumed_none (Some a) e is = absurd is

  unassumed_some : (n : Active) (a : Option Assumed) → AssumedStands kept (Some n) a → StandsFor (record kept { mode = mode.Nothing; assumed = None }) (without_assumptions s a)
  unassumed_some n None is = absurd is
  unassumed_some n (Some a) is = stands_forgotten kept s h

  pub stands_unassumed : kept.assumed ≡ None → StandsFor kept (unassumed s)
  stands_unassumed e = unassumed_none s.assumed refl (subst (λ (k : Option Active). AssumedStands kept k s.assumed) e h.assumed)

  pub stands_without : (n : Active) → kept.assumed ≡ Some n → StandsFor (record kept { mode = mode.Nothing; assumed = None }) (unassumed s)
  stands_without n e = unassumed_some n s.assumed (subst (λ (k : Option Active). AssumedStands kept k s.assumed) e h.assumed)

pub some_of : (n : Option Active) → true ≡ is_some n → (a : Active) × (n ≡ Some a)
some_of None e = absurd cc
some_of (Some a) e = (a, refl)

-- ---- what is cut off

pub released_is : (v now new : Kept) (n : Active) → v ≡ now → v.assumed ≡ Some n → new ≡ cut_off v (Some n) → new ≡ cut_off now now.assumed
released_is v now new n e f g = g ∙ ap (cut_off v) (sym f) ∙ ap (λ (k : Kept). cut_off k k.assumed) e

none_by : (v : Kept) (a : Option Active) → v.assumed ≡ a → ((n : Active) → v.assumed ≡ Some n → ⊥) → v ≡ cut_off v a
none_by v None e none = refl
none_by v (Some n) e none = absurd (none n e)

pub none_released : (v now : Kept) → v ≡ now → ((n : Active) → v.assumed ≡ Some n → ⊥) → v ≡ cut_off now now.assumed
none_released v now e none = none_by v v.assumed refl none ∙ ap (λ (k : Kept). cut_off k k.assumed) e

pub stands_cut : (v now new : Kept) → v ≡ now → IsKept v → new ≡ cut_off now now.assumed → (s : State) (m : Mode) → StandsFor now s → StandsFor (record new { mode = m }) (record (released s s.assumed) { mode = m })
stands_cut v now new e sound is s m stands =
    subst (λ (k : Kept). StandsFor (record k { mode = m }) (record (released s s.assumed) { mode = m })) (sym is) (stands_released now (subst IsKept e sound) m s stands)
