-- The first items of an open list, read one by one.
use Rattle.std.proofs.Common.{◌≡◌, inl, inr, ℕ, List, Option, None}
use Rattle.smt_sexpr.specs.Tree.{Sexpr, Items, none, more}
use Rattle.smt_sexpr.specs.Reading.{Spells}
use Rattle.cert_read.specs.declared.error.PartError.{PartError}
use Rattle.cert_read.specs.declared.error.PartError.TheVariants.{OutOfMemory, IllFormed}
use Rattle.cert_read.specs.code.Lines.{IfIllFormed, IsClosing, Closed, NeverCloses, IsBrokenOr, LacksFirst}
use Rattle.cert_read.proofs.ItemByItem.{closed_none, closed_more, never_more}

module _ (bytes : List ℕ) where
  module _ {A : Type 0} (f : Sexpr → Option A) where
    pub first_missing : (place after : ℕ) → IsClosing bytes place after → LacksFirst f bytes place
    first_missing place after h = inr (none, after, closed_none bytes place after h, tt)

    pub first_breaks : (place : ℕ) (error : PartError) → IfIllFormed (NeverCloses bytes place) error → IfIllFormed (LacksFirst f bytes place) error
    first_breaks place IllFormed h = inl h
    first_breaks place OutOfMemory h = tt

    pub first_breaks_behind : (place mid : ℕ) (x : Sexpr) (error : PartError) → Spells bytes place x mid → IfIllFormed (NeverCloses bytes mid) error → IfIllFormed (LacksFirst f bytes place) error
    first_breaks_behind place mid x IllFormed s h = inl (never_more bytes place mid x s h)
    first_breaks_behind place mid x OutOfMemory s h = tt

    pub first_lacks : (place mid after : ℕ) (x : Sexpr) → Spells bytes place x mid → f x ≡ None → ((ys : Items) × Closed bytes mid ys after) → LacksFirst f bytes place
    first_lacks place mid after x s lacks (ys, closed) = inr (more x ys, after, closed_more bytes place mid after x ys s closed, lacks)

  -- what is said of the items that are left, in other words
  pub broken_as : (Are Be : Items → Type 0) → ((xs : Items) → Are xs → Be xs) → (place : ℕ) (error : PartError) → IfIllFormed (IsBrokenOr Are bytes place) error → IfIllFormed (IsBrokenOr Be bytes place) error
  broken_as Are Be by place IllFormed (inl never) = inl never
  broken_as Are Be by place IllFormed (inr (xs, after, closed, are)) = inr (xs, after, closed, by xs are)
  broken_as Are Be by place OutOfMemory h = tt

  -- and of those with one before them
  pub broken_more : (Are Be : Items → Type 0) (x : Sexpr) → ((xs : Items) → Are xs → Be (more x xs)) → (place mid : ℕ) → Spells bytes place x mid → (error : PartError) → IfIllFormed (IsBrokenOr Are bytes mid) error → IfIllFormed (IsBrokenOr Be bytes place) error
  broken_more Are Be x by place mid s IllFormed (inl never) = inl (never_more bytes place mid x s never)
  broken_more Are Be x by place mid s IllFormed (inr (xs, after, closed, are)) = inr (more x xs, after, closed_more bytes place mid after x xs s closed, by xs are)
  broken_more Are Be x by place mid s OutOfMemory h = tt
