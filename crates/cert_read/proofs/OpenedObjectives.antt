-- Entries of a minimize, read behind their heads.
use Rattle.std.proofs.Common.{◌≡◌, ◌≢◌, ℕ, ℤ, List, None}
use Rattle.smt_sexpr.specs.Tree.{Items, none, more}
use Rattle.stn_core.specs.declared.named.NamedValue.{NamedValue}
use Rattle.kept_lemmas.specs.declared.item.Item.{Item}
use Rattle.cert_text.specs.declared.entry.Version.{Version}
use Rattle.cert_text.specs.declared.entry.FileEntry.TheVariants.{Best, Unbounded}
use Rattle.cert_read.specs.declared.error.PartError.{PartError}
use Rattle.cert_read.specs.Parts.{each_of, item_of, whole_of, values_of, schedule_of, points_of, best_from, unbounded_from}
use Rattle.cert_read.specs.code.Quick.{ReadsOne}
use Rattle.cert_read.specs.code.Lines.{IfIllFormed, Closed, AreLeft, LacksAll, IsListOf, LacksList, HasNoFirst, LacksFirst, HasItems}
use Rattle.cert_read.proofs.FirstParts.{broken_as, broken_more}
use Rattle.cert_read.proofs.ItemByItem.{closed_more}
use Rattle.cert_read.proofs.ObjectiveEntries.{best_is, best_no_value, best_no_values, best_no_items, unbounded_is, unbounded_no_values, unbounded_no_points, unbounded_more}

module _ (bytes : List ℕ) (version : Version) where
  abbrev NoBest : Items → Type 0
  NoBest xs = best_from version xs ≡ None

  pub best_left : (place mid last after : ℕ) (m : ℤ) (values : List NamedValue) (items : List Item) → ReadsOne whole_of bytes place m mid → ReadsOne values_of bytes mid values last → IsListOf (item_of version) bytes last items after
      → AreLeft (best_from version) bytes place (Best m values items) after
  best_left place mid last after m values items (x, s, is) (y, t, are) (xs, closed, each) = (
    more x (more y xs),
    closed_more bytes place mid after x (more y xs) s (closed_more bytes mid last after y xs t closed),
    best_is version x y xs m values items is are each,
  )

  pub best_lacks_value : (place : ℕ) (error : PartError) → IfIllFormed (LacksFirst whole_of bytes place) error → IfIllFormed (LacksAll (best_from version) bytes place) error
  best_lacks_value place error h = broken_as bytes (HasNoFirst whole_of) NoBest (best_no_value version) place error h

  pub best_lacks_values : (place mid : ℕ) (m : ℤ) (error : PartError) → ReadsOne whole_of bytes place m mid → IfIllFormed (LacksFirst values_of bytes mid) error → IfIllFormed (LacksAll (best_from version) bytes place) error
  best_lacks_values place mid m error (x, s, is) h = broken_more bytes (HasNoFirst values_of) NoBest x (best_no_values version x) place mid s error h

  pub best_lacks_items : (place mid last : ℕ) (m : ℤ) (values : List NamedValue) (error : PartError) → ReadsOne whole_of bytes place m mid → ReadsOne values_of bytes mid values last → IfIllFormed (LacksList (item_of version) bytes last) error
      → IfIllFormed (LacksAll (best_from version) bytes place) error
  best_lacks_items place mid last m values error (x, s, is) (y, t, are) h =
      broken_more bytes (λ xs. NoBest (more x xs)) NoBest x (λ xs no. no) place mid s error
      (broken_more bytes (λ xs. each_of (item_of version) xs ≡ None) (λ xs. NoBest (more x xs)) y (best_no_items version x y) mid last t error h)

module _ (bytes : List ℕ) where
  abbrev NoneUnbounded : Items → Type 0
  NoneUnbounded xs = unbounded_from xs ≡ None

  pub unbounded_left : (place mid last after : ℕ) (values : List ℤ) (points : List ℕ) → ReadsOne schedule_of bytes place values mid → ReadsOne points_of bytes mid points last → Closed bytes last none after
      → AreLeft unbounded_from bytes place (Unbounded values points) after
  unbounded_left place mid last after values points (x, s, is) (y, t, are) closed = (
    more x (more y none),
    closed_more bytes place mid after x (more y none) s (closed_more bytes mid last after y none t closed),
    unbounded_is x y values points is are,
  )

  pub unbounded_lacks_values : (place : ℕ) (error : PartError) → IfIllFormed (LacksFirst schedule_of bytes place) error → IfIllFormed (LacksAll unbounded_from bytes place) error
  unbounded_lacks_values place error h = broken_as bytes (HasNoFirst schedule_of) NoneUnbounded unbounded_no_values place error h

  pub unbounded_lacks_points : (place mid : ℕ) (values : List ℤ) (error : PartError) → ReadsOne schedule_of bytes place values mid → IfIllFormed (LacksFirst points_of bytes mid) error → IfIllFormed (LacksAll unbounded_from bytes place) error
  unbounded_lacks_points place mid values error (x, s, is) h = broken_more bytes (HasNoFirst points_of) NoneUnbounded x (unbounded_no_points x) place mid s error h

  pub unbounded_has_more : (place mid last : ℕ) (values : List ℤ) (points : List ℕ) (error : PartError) → ReadsOne schedule_of bytes place values mid → ReadsOne points_of bytes mid points last → IfIllFormed (HasItems bytes last) error
      → IfIllFormed (LacksAll unbounded_from bytes place) error
  unbounded_has_more place mid last values points error (x, s, is) (y, t, are) h =
      broken_more bytes (λ xs. NoneUnbounded (more x xs)) NoneUnbounded x (λ xs no. no) place mid s error
      (broken_more bytes (λ xs. xs ≢ none) (λ xs. NoneUnbounded (more x xs)) y (unbounded_more x y) mid last t error h)
