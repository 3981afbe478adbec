use Rattle.std.proofs.Common.{arith, rules, subst, sym, ◌∙◌, ◌≡◌, ◌<◌, ℕ, length, List, ℤ, replicate, pos}
use Rattle.std.proofs.lemmas.List.{take-append-le, take_all}
use Rattle.stn_core.specs.Literal.{Holds, literal_at}
use Rattle.stn_core.specs.code.Uppers.{IsUpper}
use Rattle.stn_core.proofs.Uppers.{upper_first, best}
use Rattle.stn_core.proofs.solve.greatest.Goals as goal

pub returns-then-all_hold : goal.returns-then-all_hold
returns-then-all_hold c =
    let same : length c.settle.new.values ≡ c.in_ok-values.values.len = let a = c.settle.ensures.upper.count in let b = c.deref_mut.ensures.len in omega (arith, a, b) in
    let full : c.new.result ≡ c.settle.new.values = c.new.ensures ∙ take-append-le _ _ _ (omega (arith, same)) ∙ take_all _ _ (omega (arith, same)) in
    let seen : c.deref.result.now ≡ c.new.result = c.deref.ensures.value ∙ sym c.new.ensures in
    let holds : (k : ℕ) → k < length c.args.literals.now → Holds c.new.result (literal_at c.args.literals.now k) =
    subst (λ (vs : List ℤ). (k : ℕ) → k < length c.args.literals.now → Holds vs (literal_at c.args.literals.now k)) seen (c.all_hold.ensures c.if-all_hold.true) in
    let upper : IsUpper c.args.points c.args.literals.now c.new.result =
    let a = c.deref_mut.ensures.len in
    let b = c.in_ok-values.ensures.len in
    let n : length c.deref_mut.result.now ≡ c.args.points = omega (arith, a, b) in
    subst (λ (vs : List ℤ). IsUpper c.args.points c.args.literals.now vs) (sym full) (subst (λ (m : ℕ). IsUpper m c.args.literals.now c.settle.new.values) n c.settle.ensures.upper) in
    best c.args.points c.args.literals.now c.new.result c.requires.few c.requires.over upper holds

pub settle-requires-clause-upper : goal.settle-requires-clause-upper
settle-requires-clause-upper c =
    let a = c.deref_mut.ensures.len in
    let b = c.in_ok-values.ensures.len in
    let n : c.args.points ≡ length c.deref_mut.result.now = omega (arith, a, b) in
    let is : c.deref_mut.result.now ≡ replicate c.args.points (pos 0) = c.deref_mut.ensures.value ∙ search rules in
    subst (λ (m : ℕ). IsUpper m c.args.literals.now c.deref_mut.result.now) n (subst (λ (vs : List ℤ). IsUpper c.args.points c.args.literals.now vs) (sym is) (upper_first c.args.points c.args.literals.now))
