use Rattle.std.proofs.Common.{rules, refl, sym, ap, ◌∙◌, length, List}
use Rattle.idl_term.specs.Scopes.{Declaration}
use Rattle.dtp_session.proofs.Saying.{values_shown, values_counted}
use Rattle.dtp_session.proofs.session.Session.tell_model.Goals as goal

pub model_text-requires : goal.model_text-requires
model_text-requires c =
    let s = c.requires.may.0 in
    let holds = c.requires.may.2 in
    let values = c.in-Some-schedule.values.now in
    let shown = values_shown c.args.self.now s c.in-Some.found values holds (c.requires.may.3.model refl) c.in-Some.is (search rules) in
    values_counted c.args.self.now.walk.state s values holds.stands shown.fits ∙ sym (ap (λ (ds : List Declaration). length ds) c.names.ensures.names)
