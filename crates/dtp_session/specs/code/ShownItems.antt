-- Items that an entry shows, as they are held: words of the code's inner contracts, and no part of the meaning.
use Rattle.std.specs.Prelude.{List, [], Option, Some, None}
use Rattle.std.specs.Arc.{arc_value}
use Rattle.std.specs.declared.sync.Arc.{Arc}
use Rattle.kept_lemmas.specs.declared.item.Item.{Item}
use Rattle.kept_lemmas.specs.declared.item.Items.{Items}

module _ {Z : Type 0} where
  abbrev pub items_held : Option (Arc Items Z) → List Item
  items_held None = []
  items_held (Some items) = arc_value items
