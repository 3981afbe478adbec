use Rattle.std.proofs.Common.{ap, sym, subst, ◌∙◌, ◌≡◌, ◌++◌, ◌∷◌, [], ℕ, length, Option}
use Rattle.std.specs.Option.{IfNone}
use Rattle.stn_core.specs.declared.literal.Literals.{Literals}
use Rattle.stn_core.specs.Answer.{IsBest}
use Rattle.stn_core.specs.Literal.{IsOver}
use Rattle.stn_core.specs.RoundsNet.{Shown}
use Rattle.inc_paths.proofs.Networks.{whole, kept_more}
use Rattle.inc_paths.proofs.network.NetworkNet.add.Goals as goal

pub extend-requires-clause-extending : goal.extend-requires-clause-extending
extend-requires-clause-extending c =
    let points : c.push-2.new.self.points ≡ c.self.inside.points = c.push-2.ensures.points ∙ c.self.invariant.same in
    (c.self.inside.arcs.literals, c.in_default.ensures.ok, rw points (whole c.self.inside.points c.self.inside.arcs.points c.self.inside.arcs.literals c.self.inside.labels.values c.self.inside.labels.trail c.self.inside.ends.items c.self.invariant))

pub invariant_of-self-in-Ok-None : goal.invariant_of-self-in-Ok-None
invariant_of-self-in-Ok-None c =
    let points : c.push-2.new.self.points ≡ c.self.inside.arcs.points = c.push-2.ensures.points in
    let literals : c.push-2.new.self.literals ≡ c.self.inside.arcs.literals ++ c.args.literal ∷ [] = c.in_default.ensures.ok in
    let ends : c.push.new.self.items ≡ c.self.inside.ends.items ++ length c.self.inside.labels.trail ∷ [] = c.in_ok-push.ensures.items ∙ ap (λ (n : ℕ). c.self.inside.ends.items ++ n ∷ []) c.trail_len.ensures in
    let over : IsOver c.self.inside.points c.args.literal = subst (λ (s : Shown). IsOver s.points c.args.literal) (sym c.self.view_is) c.requires in
    let found : IsBest c.push-2.new.self.points c.push-2.new.self.literals c.extend.new.labels.values = subst (λ (r : Option Literals). IfNone r (IsBest c.push-2.new.self.points c.push-2.new.self.literals c.extend.new.labels.values)) c.in-Ok-None.field-0-is c.in-Ok-None.ensures.none in
    let best : IsBest c.self.inside.points (c.self.inside.arcs.literals ++ c.args.literal ∷ []) c.extend.new.labels.values = rw (points ∙ c.self.invariant.same, literals) at found in
    rw (points, literals, ends) (kept_more c.self.inside.points c.self.inside.arcs.points c.self.inside.arcs.literals c.self.inside.labels.values c.self.inside.labels.trail c.self.inside.ends.items c.self.invariant c.args.literal c.extend.new.labels.values c.extend.new.labels.trail over c.extend.ensures.kept best)
