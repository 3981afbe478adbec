use Rattle.shop_law.proofs.Answered.{shop_is_accepted}
use Rattle.shop_law.proofs.laws.shop_is_accepted.Goals as goal

pub returns : goal.returns
returns c = shop_is_accepted c.certificate_is_accepted.ensures
