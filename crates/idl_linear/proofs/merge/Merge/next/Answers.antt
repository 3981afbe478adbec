use Rattle.std.proofs.Common.{ap, sym, subst, ◌∙◌, arith, ◌≡◌, List, [], ◌∷◌, ℤ, drop, Option, MatchOption}
use Rattle.idl_linear.specs.declared.summand.Summand.{Summand}
use Rattle.idl_linear.specs.Linear.{put_before}
use Rattle.idl_linear.specs.code.Steps.{less}
use Rattle.idl_linear.proofs.Coefficients.{summand}
use Rattle.idl_linear.proofs.Merging.{difference_is, rest_of, above_none, above_first, next_left, next_right, next_both, each_first}
use Rattle.idl_linear.proofs.merge.Merge.next.Goals as goal

pub returns-then-s-t-clause-left : goal.returns-then-s-t-clause-left
returns-then-s-t-clause-left c =
    let e : c.args.self.now.left ≡ c.in-Some-Some.s ∷ c.next-then-s-t.new.self = c.in-Some-Some.ensures.next ∙ ap (λ (l : List Summand). c.in-Some-Some.s ∷ l) (sym c.next-then-s-t.ensures.rest) in
    rest_of c.args.self.now.left _ c.next-then-s-t.new.self e c.requires.left

pub returns-then-s-t-clause-next : goal.returns-then-s-t-clause-next
returns-then-s-t-clause-next c =
    let e : c.args.self.now.left ≡ c.in-Some-Some.s ∷ c.next-then-s-t.new.self = c.in-Some-Some.ensures.next ∙ ap (λ (l : List Summand). c.in-Some-Some.s ∷ l) (sym c.next-then-s-t.ensures.rest) in
    next_left c.args.self.now.left c.args.self.now.right _ c.next-then-s-t.new.self e c.requires.left (above_first _ c.args.self.now.right _ _ c.in-Some-Some.ensures'.next c.requires.right c.if-s-t.true)

pub returns-then-t-s-clause-right : goal.returns-then-t-s-clause-right
returns-then-t-s-clause-right c =
    let e : c.args.self.now.right ≡ c.in-Some-Some.t ∷ c.next-then-t-s.new.self = c.in-Some-Some.ensures'.next ∙ ap (λ (l : List Summand). c.in-Some-Some.t ∷ l) (sym c.next-then-t-s.ensures.rest) in
    rest_of c.args.self.now.right _ c.next-then-t-s.new.self e c.requires.right

pub returns-then-t-s-clause-next : goal.returns-then-t-s-clause-next
returns-then-t-s-clause-next c =
    let e : c.args.self.now.right ≡ c.in-Some-Some.t ∷ c.next-then-t-s.new.self = c.in-Some-Some.ensures'.next ∙ ap (λ (l : List Summand). c.in-Some-Some.t ∷ l) (sym c.next-then-t-s.ensures.rest) in
    rw c.negative-then-t-s.ensures (next_right c.args.self.now.left c.args.self.now.right _ c.next-then-t-s.new.self e c.requires.right (above_first _ c.args.self.now.left _ _ c.in-Some-Some.ensures.next c.requires.left c.if-t-s.true))

pub returns-in-None-Some-clause-right : goal.returns-in-None-Some-clause-right
returns-in-None-Some-clause-right c =
    let e : c.args.self.now.right ≡ c.in-None-Some.t ∷ c.next.new.self = c.in-None-Some.ensures.next ∙ ap (λ (l : List Summand). c.in-None-Some.t ∷ l) (sym c.next.ensures.rest) in
    rest_of c.args.self.now.right _ c.next.new.self e c.requires.right

pub returns-in-None-Some-clause-next : goal.returns-in-None-Some-clause-next
returns-in-None-Some-clause-next c =
    let e : c.args.self.now.right ≡ c.in-None-Some.t ∷ c.next.new.self = c.in-None-Some.ensures.next ∙ ap (λ (l : List Summand). c.in-None-Some.t ∷ l) (sym c.next.ensures.rest) in
    let none : c.args.self.now.left ≡ [] = subst (λ (o : Option Summand). MatchOption o (c.args.self.now.left ≡ []) (λ s. c.args.self.now.left ≡ s ∷ drop 1 c.args.self.now.left)) c.in-None-Some.is-0 c.peek.ensures.next in
    rw c.negative.ensures (next_right c.args.self.now.left c.args.self.now.right _ c.next.new.self e c.requires.right (above_none _ c.args.self.now.left none))

pub returns-in-Some-None-clause-left : goal.returns-in-Some-None-clause-left
returns-in-Some-None-clause-left c =
    let e : c.args.self.now.left ≡ c.in-Some-None.s ∷ c.next-in-Some-None.new.self = c.in-Some-None.ensures.next ∙ ap (λ (l : List Summand). c.in-Some-None.s ∷ l) (sym c.next-in-Some-None.ensures.rest) in
    rest_of c.args.self.now.left _ c.next-in-Some-None.new.self e c.requires.left

pub returns-in-Some-None-clause-next : goal.returns-in-Some-None-clause-next
returns-in-Some-None-clause-next c =
    let e : c.args.self.now.left ≡ c.in-Some-None.s ∷ c.next-in-Some-None.new.self = c.in-Some-None.ensures.next ∙ ap (λ (l : List Summand). c.in-Some-None.s ∷ l) (sym c.next-in-Some-None.ensures.rest) in
    next_left c.args.self.now.left c.args.self.now.right _ c.next-in-Some-None.new.self e c.requires.left (above_none _ c.args.self.now.right c.in-Some-None.ensures'.next)

pub returns-else-t-s-clause-left : goal.returns-else-t-s-clause-left
returns-else-t-s-clause-left c =
    let e : c.args.self.now.left ≡ c.in-Some-Some.s ∷ c.next-in-Some-Some.new.self = c.in-Some-Some.ensures.next ∙ ap (λ (l : List Summand). c.in-Some-Some.s ∷ l) (sym c.next-in-Some-Some.ensures.rest) in
    rest_of c.args.self.now.left _ c.next-in-Some-Some.new.self e c.requires.left

pub returns-else-t-s-clause-right : goal.returns-else-t-s-clause-right
returns-else-t-s-clause-right c =
    let e : c.args.self.now.right ≡ c.in-Some-Some.t ∷ c.next-in-Some-Some-2.new.self = c.in-Some-Some.ensures'.next ∙ ap (λ (l : List Summand). c.in-Some-Some.t ∷ l) (sym c.next-in-Some-Some-2.ensures.rest) in
    rest_of c.args.self.now.right _ c.next-in-Some-Some-2.new.self e c.requires.right

pub returns-else-t-s-clause-next : goal.returns-else-t-s-clause-next
returns-else-t-s-clause-next c =
    let e : c.args.self.now.left ≡ c.in-Some-Some.s ∷ c.next-in-Some-Some.new.self = c.in-Some-Some.ensures.next ∙ ap (λ (l : List Summand). c.in-Some-Some.s ∷ l) (sym c.next-in-Some-Some.ensures.rest) in
    let f : c.args.self.now.right ≡ c.in-Some-Some.t ∷ c.next-in-Some-Some-2.new.self = c.in-Some-Some.ensures'.next ∙ ap (λ (l : List Summand). c.in-Some-Some.t ∷ l) (sym c.next-in-Some-Some-2.ensures.rest) in
    let s = each_first c.args.self.now.left c.in-Some-Some.s c.next-in-Some-Some.new.self e c.requires.left in
    let t = each_first c.args.self.now.right c.in-Some-Some.t c.next-in-Some-Some-2.new.self f c.requires.right in
    let same : c.in-Some-Some.t.point ≡ c.in-Some-Some.s.point = omega (arith, c.if-s-t.false, c.if-t-s.false) in
    next_both c.args.self.now.left c.args.self.now.right c.in-Some-Some.s c.in-Some-Some.t c.next-in-Some-Some.new.self c.next-in-Some-Some-2.new.self e f c.requires.left c.requires.right same
    ∙ ap (λ (z : ℤ). put_before (summand c.in-Some-Some.s.point z) (less c.next-in-Some-Some.new.self c.next-in-Some-Some-2.new.self)) (sym (difference_is c.in-Some-Some.s c.in-Some-Some.t s t))
