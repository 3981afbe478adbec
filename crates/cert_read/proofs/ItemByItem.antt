-- An open list, read item by item.
use Rattle.std.proofs.Common.{◌≡◌, ◌≢◌, ◌∙◌, inl, inr, refl, sym, ap, subst, arith, ℕ, ◌<◌, List, [], ◌∷◌, ◌++◌, Option, Some, None}
use Rattle.smt_lex.specs.declared.token.LexError.{LexError}
use Rattle.smt_sexpr.specs.declared.error.SexprRefusal.TheVariants.{Lex, UnclosedList}
use Rattle.smt_sexpr.specs.Table.{Table, Means}
use Rattle.smt_sexpr.specs.Tree.{Sexpr, Items, none, more}
use Rattle.smt_sexpr.specs.Reading.{Spells, SpellsEach, Outcomes, finished, refused, IsOpen, IsInside, reached, behind, deeper}
use Rattle.smt_sexpr.proofs.LeafTexts.{token_forward}
use Rattle.smt_sexpr.proofs.ReadingLoop.{each_forward}
use Rattle.cert_read.specs.declared.error.PartError.{PartError}
use Rattle.cert_read.specs.declared.error.PartError.TheVariants.{OutOfMemory, IllFormed}
use Rattle.cert_read.specs.Parts.{put, each_of}
use Rattle.cert_read.specs.code.Shapes.{Lacks}
use Rattle.cert_read.specs.code.Lines.{IfIllFormed, IsNext, IsClosing, Closed, NeverCloses, LacksList, HasItems}

-- ---- two lists of items

abbrev join : Items → Items → Items
join none ys = ys
join (more x xs) ys = more x (join xs ys)

abbrev both : {A : Type 0} → Option (List A) → Option (List A) → Option (List A)
both (Some xs) (Some ys) = Some (xs ++ ys)
both _ _ = None

nothing_first : {A : Type 0} (o : Option (List A)) → o ≡ both (Some []) o
nothing_first None = refl
nothing_first (Some xs) = refl

put_both : {A : Type 0} (a : Option A) (o p : Option (List A)) → put a (both o p) ≡ both (put a o) p
put_both None None p = refl
put_both None (Some xs) p = refl
put_both (Some x) None p = refl
put_both (Some x) (Some xs) None = refl
put_both (Some x) (Some xs) (Some ys) = refl

none_behind : {A : Type 0} (o : Option (List A)) → both o None ≡ None
none_behind None = refl
none_behind (Some xs) = refl

each_join : {A : Type 0} (f : Sexpr → Option A) (xs ys : Items) → each_of f (join xs ys) ≡ both (each_of f xs) (each_of f ys)
each_join f none ys = nothing_first (each_of f ys)
each_join f (more x xs) ys = ap (put (f x)) (each_join f xs ys) ∙ put_both (f x) (each_of f xs) (each_of f ys)

-- ---- what a call found

pub lacks_any : {A : Type 0} (meant : Option A) (error : PartError) → error ≡ IllFormed → Lacks meant error → meant ≡ None
lacks_any meant IllFormed e h = h
lacks_any meant OutOfMemory e h = absurd cc

module _ (t : Table) (bytes : List ℕ) (place after : ℕ) where
  pub next_some : (next : Option ℕ) (id : ℕ) → next ≡ Some id → IsNext t bytes place next after → (x : Sexpr) × Means t id x × Spells bytes place x after
  next_some None id e h = absurd cc
  next_some (Some found) id e h =
      let same : found ≡ id = cc in
      subst (λ (k : ℕ). (x : Sexpr) × Means t k x × Spells bytes place x after) same h

  pub next_none : (next : Option ℕ) → next ≡ None → IsNext t bytes place next after → IsClosing bytes place after
  next_none None e h = h
  next_none (Some found) e h = absurd cc

-- ---- the list closes, or doesn't

module _ (bytes : List ℕ) where
  pub closed_none : (place after : ℕ) → IsClosing bytes place after → Closed bytes place none after
  unfolding Spells
  closed_none place after h = (place, refl, h)

  pub closed_more : (place mid after : ℕ) (x : Sexpr) (xs : Items) → Spells bytes place x mid → Closed bytes mid xs after → Closed bytes place (more x xs) after
  unfolding Spells
  closed_more place mid after x xs s (last, each, closing) = (last, (mid, s, each), closing)

  pub closed_forward : (place after : ℕ) (xs : Items) → Closed bytes place xs after → place < after
  closed_forward place after xs (last, each, (closing, reads, right)) =
      let a = each_forward bytes xs place last each in
      let b = token_forward bytes last closing after reads in
      omega arith

  spells_join : (place here after : ℕ) (xs ys : Items) → SpellsEach bytes place xs here → SpellsEach bytes here ys after → SpellsEach bytes place (join xs ys) after
  unfolding Spells
  spells_join place here after none ys e h = subst (λ (p : ℕ). SpellsEach bytes p ys after) (sym e) h
  spells_join place here after (more x xs) ys (mid, s, rest) h = (mid, s, spells_join mid here after xs ys rest h)

  spells_one : (here mid : ℕ) (x : Sexpr) → Spells bytes here x mid → SpellsEach bytes here (more x none) mid
  unfolding Spells
  spells_one here mid x s = (mid, s, refl)

  pub never_more : (place mid : ℕ) (x : Sexpr) → Spells bytes place x mid → NeverCloses bytes mid → NeverCloses bytes place
  never_more place mid x s (here, after, inside, why) = (here, after, behind place x mid s inside, why)

  never_each : (place here : ℕ) (xs : Items) → SpellsEach bytes place xs here → NeverCloses bytes here → NeverCloses bytes place
  unfolding Spells
  never_each place here none e h = subst (NeverCloses bytes) (sym e) h
  never_each place here (more x xs) (mid, s, rest) h = never_more place mid x s (never_each mid here xs rest h)

  -- ---- what one call of the reader finds in an open list

  pub never_finished : (place after : ℕ) → Outcomes bytes place finished after → NeverCloses bytes place
  never_finished place after h = (place, after, reached place refl, inl h)

  inside_open : (place outer here : ℕ) → IsOpen bytes place outer here → IsInside bytes here place
  inside_open place outer here (opening, mid, reads, left, at, inside) = deeper place opening mid reads left inside

  pub never_lexed : (place after : ℕ) (error : LexError) → Outcomes bytes place (refused (Lex error)) after → NeverCloses bytes place
  never_lexed place after error (here, inl same, reads) = (here, after, reached place same, inr (error, reads))
  never_lexed place after error (here, inr (outer, is_open), reads) = (here, after, inside_open place outer here is_open, inr (error, reads))

  pub never_unclosed : (place after outer : ℕ) → Outcomes bytes place (refused (UnclosedList outer)) after → NeverCloses bytes place
  never_unclosed place after outer (here, is_open, reads) = (here, after, inside_open place outer here is_open, inl reads)

  -- ---- items that are passed over

  abbrev pub Passed : ℕ → ℕ → Type 0
  Passed place here = (xs : Items) × SpellsEach bytes place xs here

  pub passed_starts : (place : ℕ) → Passed place place
  unfolding Spells
  passed_starts place = (none, refl)

  pub passed_more : (place here mid : ℕ) (x : Sexpr) → Passed place here → Spells bytes here x mid → Passed place mid
  passed_more place here mid x (xs, each) s = (join xs (more x none), spells_join place here mid xs (more x none) each (spells_one here mid x s))

  pub passed_breaks : (place here : ℕ) (error : PartError) → Passed place here → IfIllFormed (NeverCloses bytes here) error → IfIllFormed (NeverCloses bytes place) error
  passed_breaks place here IllFormed (xs, each) h = never_each place here xs each h
  passed_breaks place here OutOfMemory passed h = tt

  -- ---- items that are read

  module _ {A : Type 0} (f : Sexpr → Option A) where
    abbrev pub ReadTo : ℕ → List A → ℕ → Type 0
    ReadTo place parts here = (xs : Items) × SpellsEach bytes place xs here × (each_of f xs ≡ Some parts)

    pub read_starts : (place : ℕ) → ReadTo place [] place
    unfolding Spells
    read_starts place = (none, refl, refl)

    pub read_more : (place here mid : ℕ) (parts : List A) (part : A) (x : Sexpr) → ReadTo place parts here → Spells bytes here x mid → f x ≡ Some part → ReadTo place (parts ++ part ∷ []) mid
    read_more place here mid parts part x (xs, each, are) s is = (
      join xs (more x none),
      spells_join place here mid xs (more x none) each (spells_one here mid x s),
      each_join f xs (more x none) ∙ ap (λ (o : Option (List A)). both o (each_of f (more x none))) are ∙ ap (λ (o : Option A). both (Some parts) (put o (Some []))) is,
    )

    pub read_breaks : (place here : ℕ) (parts : List A) (error : PartError) → ReadTo place parts here → IfIllFormed (NeverCloses bytes here) error → IfIllFormed (LacksList f bytes place) error
    read_breaks place here parts IllFormed (xs, each, are) h = inl (never_each place here xs each h)
    read_breaks place here parts OutOfMemory read h = tt

    pub read_breaks_behind : (place here mid : ℕ) (parts : List A) (x : Sexpr) (error : PartError) → ReadTo place parts here → Spells bytes here x mid → IfIllFormed (NeverCloses bytes mid) error → IfIllFormed (LacksList f bytes place) error
    read_breaks_behind place here mid parts x IllFormed read s h = read_breaks place here parts IllFormed read (never_more here mid x s h)
    read_breaks_behind place here mid parts x OutOfMemory read s h = tt

    -- an item that stands for nothing, and then the others
    pub read_lacks : (place here mid after : ℕ) (parts : List A) (x : Sexpr) → ReadTo place parts here → Spells bytes here x mid → f x ≡ None → ((ys : Items) × Closed bytes mid ys after) → LacksList f bytes place
    read_lacks place here mid after parts x (xs, each, are) s lacks (ys, closed) =
        let rest = closed_more here mid after x ys s closed in
        let nothing : each_of f (more x ys) ≡ None = ap (λ (o : Option A). put o (each_of f ys)) lacks in
        inr (
          join xs (more x ys),
          after,
          (rest.0, spells_join place here rest.0 xs (more x ys) each rest.1, rest.2),
          each_join f xs (more x ys) ∙ ap (both (each_of f xs)) nothing ∙ none_behind (each_of f xs),
        )

  -- ---- items where none may stand

  pub breaks_behind : (place mid : ℕ) (x : Sexpr) (error : PartError) → Spells bytes place x mid → IfIllFormed (NeverCloses bytes mid) error → IfIllFormed (HasItems bytes place) error
  breaks_behind place mid x IllFormed s h = inl (never_more place mid x s h)
  breaks_behind place mid x OutOfMemory s h = tt

  more_not_none : (x : Sexpr) (xs : Items) → more x xs ≢ none
  more_not_none x xs e = absurd cc

  pub has_more : (place mid after : ℕ) (x : Sexpr) → Spells bytes place x mid → ((xs : Items) × Closed bytes mid xs after) → HasItems bytes place
  has_more place mid after x s (xs, closed) = inr (more x xs, after, closed_more place mid after x xs s closed, more_not_none x xs)
