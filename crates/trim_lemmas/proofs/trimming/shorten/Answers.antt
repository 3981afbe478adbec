use Rattle.trim_lemmas.proofs.Counted.{none_grows}
use Rattle.trim_lemmas.proofs.trimming.shorten.Goals as goal

pub renumber-requires : goal.renumber-requires
renumber-requires c = none_grows c.args.seen c.args.needed.now c.in_ok-places.places c.in_ok-places.ensures
