use Rattle.std.specs.Prelude.{◌^◌, ◌-◌}
use Rattle.cert_text.proofs.EntryKinds.{own_text, own_within}
use Rattle.cert_text.proofs.laws.own_lemmas_alone.Goals as goal

pub returns : goal.returns
returns c = record { text = own_text; fits = λ version. own_within version (2 ^ 32); plain = λ version. own_within version (2 ^ 32 - 1) }
