use Rattle.std.proofs.Common.{Bor, List, ℕ}
use Rattle.kept_lemmas.specs.declared.item.Item.{Item}
use Rattle.cert_read.specs.Parts.{item_of}
use Rattle.cert_read.specs.code.Quick.{ReadsItem, IsQuick}
use Rattle.cert_read.proofs.QuickTexts.{if_some_more, quick_is}
use Rattle.cert_read.proofs.quick.ItemQuick.quick.Goals as goal

pub returns : goal.returns
returns c = if_some_more
    (λ (r : Item × Bor (List ℕ)). ReadsItem c.args.version c.in-Some.rest.now r.0 r.1.now)
    (λ (r : Item × Bor (List ℕ)). IsQuick (item_of c.args.version) c.args.bytes.now r.0 r.1.now)
    (λ r h. quick_is c.args.version r.0 c.args.bytes.now c.in-Some.rest.now r.1.now c.in-Some.ensures h)
    c.in_ok-read.read c.in_ok-read.ensures
