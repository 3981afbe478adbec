-- What stands in place of an entry: a parenthesis, items, and a parenthesis.
use Rattle.std.proofs.Common.{◌≡◌, ◌≢◌, ◌∙◌, inl, inr, refl, sym, ap, subst, arith, ℕ, ◌<◌, ◌+◌, Bool, true, false, List, Option, Some, None, Err}
use Rattle.std.specs.Prelude.{codes, slice_range, option_map, option_and_then}
use Rattle.std.specs.Option.{option_map_or}
use Rattle.std.specs.Str.{bytes_eq}
use Rattle.smt_lex.specs.declared.token.TokenKind.{TokenKind}
use Rattle.smt_lex.specs.declared.token.TokenKind.TheVariants.{Left, Right}
use Rattle.smt_lex.specs.declared.token.Token.{Token}
use Rattle.smt_lex.specs.declared.token.LexError.{LexError}
use Rattle.smt_lex.specs.Grammar.{Reads}
use Rattle.smt_sexpr.specs.declared.error.SexprRefusal.{SexprRefusal}
use Rattle.smt_sexpr.specs.declared.error.SexprRefusal.TheVariants.{Lex, UnclosedList, StrayClose}
use Rattle.smt_sexpr.specs.Shapes.{is_symbol}
use Rattle.smt_sexpr.specs.Tree.{Sexpr, Items, leaf, list, none, more, leaf_text, symbol_of}
use Rattle.smt_sexpr.specs.Reading.{ReadsToken, Spells, Outcomes, expression, refused}
use Rattle.smt_sexpr.proofs.LeafTexts.{token_forward}
use Rattle.cert_text.proofs.OneEntry.{parts, first}
use Rattle.cert_text.specs.declared.entry.Version.{Version}
use Rattle.cert_text.specs.declared.entry.FileEntry.{FileEntry}
use Rattle.cert_text.specs.Form.{end_sexpr}
use Rattle.cert_read.specs.Parts.{each_of, entry_named, entry_of}
use Rattle.cert_read.specs.Certificates.{RefusesBehind}
use Rattle.cert_read.specs.declared.error.CertificateRefusal.TheVariants.{IllFormed as NoEntry}
use Rattle.cert_read.specs.declared.line.Line.{Line}
use Rattle.cert_read.specs.declared.line.Line.TheVariants.{Shown, End}
use Rattle.cert_read.specs.declared.line.Head.{Head}
use Rattle.cert_read.specs.declared.line.Head.TheVariants as head
use Rattle.cert_read.specs.declared.error.PartError.{PartError}
use Rattle.cert_read.specs.declared.error.PartError.TheVariants.{OutOfMemory, IllFormed}
use Rattle.cert_read.specs.code.Lines.{IfIllFormed, LineIs, IsClosing, Closed, NeverCloses, AreLeft, LacksAll, IsListOf, LacksList, HasItems, head_of, IsLineOf, IsNoLine}
use Rattle.cert_read.proofs.EntryKinds.{entry_by, head_by, by_tests, head_tests}
use Rattle.cert_read.proofs.HeaderAndEnd.{is_end_line, end_alone}
use Rattle.cert_read.proofs.ItemByItem.{closed_none, closed_more, closed_forward, never_more}

-- ---- what a list stands for, by its head

abbrev is_named : Option (List ℕ) → List ℕ → Bool
is_named o text = option_map_or (λ (name : List ℕ). bytes_eq name text) o false

by_symbol : (version : Version) (xs : Items) (o : Option (List ℕ)) → option_and_then (λ (p : List ℕ × Items). entry_named version p.0 p.1) (option_map (λ (name : List ℕ). (name, xs)) o) ≡ entry_by version (head_by (is_named o (codes "sat")) (is_named o (codes "unsat")) (is_named o (codes "best")) (is_named o (codes "unbounded")) (is_named o (codes "end"))) xs
by_symbol version xs None = refl
by_symbol version xs (Some name) = by_tests version xs (bytes_eq name (codes "sat")) (bytes_eq name (codes "unsat")) (bytes_eq name (codes "best")) (bytes_eq name (codes "unbounded")) (bytes_eq name (codes "end"))

entry_is : (version : Version) (x : Sexpr) (xs : Items) → entry_of version (list (more x xs)) ≡ entry_by version (head_of x) xs
entry_is version x xs = by_symbol version xs (symbol_of x)

end_head : (x : Sexpr) (xs : Items) → list (more x xs) ≡ end_sexpr → head_of x ≡ head.End
end_head x xs e = ap (λ (y : Sexpr). head_of (first (parts y))) e

end_named : (x : Sexpr) → head_of x ≡ head.End → is_symbol (codes "end") x ≡ true
end_named x e = head_tests (is_symbol (codes "sat") x) (is_symbol (codes "unsat") x) (is_symbol (codes "best") x) (is_symbol (codes "unbounded") x) (is_symbol (codes "end") x) e

-- ---- the list behind its parenthesis

module _ (version : Version) (bytes : List ℕ) (place mid : ℕ) (x : Sexpr) (s : Spells bytes place x mid) where
  -- items of the kind that a head stands for
  pub opened : {A : Type 0} (f : Sexpr → Option A) (make : List A → FileEntry) (k : Head) → ((xs : Items) → entry_by version k xs ≡ option_map make (each_of f xs)) → (parts : List A) (after : ℕ) → head_of x ≡ k → IsListOf f bytes mid parts after → IsLineOf version bytes place (Shown (make parts)) after
  opened f make k by parts after h (xs, closed, are) =
      (more x xs, closed_more bytes place mid after x xs s closed, entry_is version x xs ∙ ap (λ (l : Head). entry_by version l xs) h ∙ by xs ∙ ap (option_map make) are)

  -- an entry that the items stand for together
  pub opened_as : (f : Items → Option FileEntry) (k : Head) → ((xs : Items) → entry_by version k xs ≡ f xs) → (entry : FileEntry) (after : ℕ) → head_of x ≡ k → AreLeft f bytes mid entry after → IsLineOf version bytes place (Shown entry) after
  opened_as f k by entry after h (xs, closed, is) =
      (more x xs, closed_more bytes place mid after x xs s closed, entry_is version x xs ∙ ap (λ (l : Head). entry_by version l xs) h ∙ by xs ∙ is)

  pub opened_end : (after : ℕ) → head_of x ≡ head.End → Closed bytes mid none after → IsLineOf version bytes place End after
  opened_end after h closed = (more x none, closed_more bytes place mid after x none s closed, is_end_line x (end_named x h))

  not_end : (k : Head) (xs : Items) → head_of x ≡ k → k ≢ head.End → list (more x xs) ≢ end_sexpr
  not_end k xs h other e = other (sym h ∙ end_head x xs e)

  no_line : (k : Head) (xs : Items) (after : ℕ) → head_of x ≡ k → k ≢ head.End → Closed bytes mid xs after → entry_by version k xs ≡ None → IsNoLine version bytes place
  no_line k xs after h other closed none_there =
      inr (more x xs, after, closed_more bytes place mid after x xs s closed, (entry_is version x xs ∙ ap (λ (l : Head). entry_by version l xs) h ∙ none_there, not_end k xs h other))

  pub lacking : {A : Type 0} (f : Sexpr → Option A) (make : List A → FileEntry) (k : Head) → ((xs : Items) → entry_by version k xs ≡ option_map make (each_of f xs)) → k ≢ head.End → (error : PartError) → head_of x ≡ k → IfIllFormed (LacksList f bytes mid) error → IfIllFormed (IsNoLine version bytes place) error
  lacking f make k by other IllFormed h (inl never) = inl (never_more bytes place mid x s never)
  lacking f make k by other IllFormed h (inr (xs, after, closed, lacks)) = no_line k xs after h other closed (by xs ∙ ap (option_map make) lacks)
  lacking f make k by other OutOfMemory h lacks = tt

  pub lacking_as : (f : Items → Option FileEntry) (k : Head) → ((xs : Items) → entry_by version k xs ≡ f xs) → k ≢ head.End → (error : PartError) → head_of x ≡ k → IfIllFormed (LacksAll f bytes mid) error → IfIllFormed (IsNoLine version bytes place) error
  lacking_as f k by other IllFormed h (inl never) = inl (never_more bytes place mid x s never)
  lacking_as f k by other IllFormed h (inr (xs, after, closed, lacks)) = no_line k xs after h other closed (by xs ∙ lacks)
  lacking_as f k by other OutOfMemory h lacks = tt

  pub not_alone : (error : PartError) → head_of x ≡ head.End → IfIllFormed (HasItems bytes mid) error → IfIllFormed (IsNoLine version bytes place) error
  not_alone IllFormed h (inl never) = inl (never_more bytes place mid x s never)
  not_alone IllFormed h (inr (xs, after, closed, some)) =
      inr (more x xs, after, closed_more bytes place mid after x xs s closed, (entry_is version x xs ∙ ap (λ (l : Head). entry_by version l xs) h, λ e. some (end_alone x xs e)))
  not_alone OutOfMemory h lacks = tt

  pub other_head : (after : ℕ) → head_of x ≡ head.Other → ((xs : Items) × Closed bytes mid xs after) → IsNoLine version bytes place
  other_head after h (xs, closed) = no_line head.Other xs after h (λ e. absurd cc) closed refl

  pub no_line_behind : (error : PartError) → IfIllFormed (NeverCloses bytes mid) error → IfIllFormed (IsNoLine version bytes place) error
  no_line_behind IllFormed h = inl (never_more bytes place mid x s h)
  no_line_behind OutOfMemory h = tt

nothing_not_end : list none ≢ end_sexpr
nothing_not_end e = absurd cc

-- ()
pub empty_list : (version : Version) (bytes : List ℕ) (place after : ℕ) → IsClosing bytes place after → IsNoLine version bytes place
empty_list version bytes place after h = inr (none, after, closed_none bytes place after h, (refl, nothing_not_end))

pub ill_formed : (says : Type 0) (error : PartError) → error ≡ IllFormed → IfIllFormed says error → says
ill_formed says IllFormed e h = h
ill_formed says OutOfMemory e h = absurd cc

-- ---- with the parenthesis before it

module _ (bytes : List ℕ) (place mid : ℕ) (opening : Token) (reads : ReadsToken bytes place opening mid) (left : opening.kind ≡ Left) where
  spells_list : (xs : Items) (after : ℕ) → Closed bytes mid xs after → Spells bytes place (list xs) after
  unfolding Spells
  spells_list xs after (last, each, (closing, reads_closing, right)) = (opening, mid, last, closing, reads, left, each, reads_closing, right)

  pub line_is : (version : Version) (line : Line) (after : ℕ) → IsLineOf version bytes mid line after → LineIs version bytes place line after
  line_is version (Shown e) after (xs, closed, is) = (list xs, spells_list xs after closed, is)
  line_is version End after (xs, closed, is) = subst (λ (y : Sexpr). Spells bytes place y after) is (spells_list xs after closed)

  pub line_forward : (version : Version) (line : Line) (after : ℕ) → IsLineOf version bytes mid line after → place < after
  line_forward version line after (xs, closed, is) =
      let a = token_forward bytes place opening mid reads in
      let b = closed_forward bytes mid after xs closed in
      omega arith

  never_refused : NeverCloses bytes mid → (why : SexprRefusal) × (after : ℕ) × Outcomes bytes place (refused why) after
  never_refused (here, after, inside, inl ends) = (UnclosedList opening.start, after, (here, (opening, mid, reads, left, refl, inside), ends))
  never_refused (here, after, inside, inr (error, fails)) = (Lex error, after, (here, inr (opening.start, (opening, mid, reads, left, refl, inside)), fails))

  pub line_refused : (version : Version) (count : ℕ) → IsNoLine version bytes mid → RefusesBehind version bytes count place (NoEntry (count + 1))
  line_refused version count (inl never) =
      let r = never_refused never in
      (refused r.0, r.1, r.2, tt, refl)
  line_refused version count (inr (xs, after, closed, strange)) = (expression (list xs), after, spells_list xs after closed, strange, refl)

-- ---- something else before it

module _ (version : Version) (bytes : List ℕ) (place after count : ℕ) where
  leaf_not_end : (kind : TokenKind) (text : List ℕ) → leaf kind text ≢ end_sexpr
  leaf_not_end kind text e = absurd cc

  spells_leaf : (token : Token) → ReadsToken bytes place token after → token.kind ≢ Left → token.kind ≢ Right → Spells bytes place (leaf token.kind (leaf_text token.kind (slice_range bytes token.start token.end))) after
  unfolding Spells
  spells_leaf token reads left right = (token, reads, refl, left, right, refl)

  leaf_refused : (token : Token) → ReadsToken bytes place token after → token.kind ≢ Left → token.kind ≢ Right → RefusesBehind version bytes count place (NoEntry (count + 1))
  leaf_refused token reads left right =
      let text = leaf_text token.kind (slice_range bytes token.start token.end) in
      (expression (leaf token.kind text), after, spells_leaf token reads left right, (refl, leaf_not_end token.kind text), refl)

  by_kind : (token : Token) (kind : TokenKind) → token.kind ≡ kind → ReadsToken bytes place token after → token.kind ≢ Left → RefusesBehind version bytes count place (NoEntry (count + 1))
  by_kind token Right e reads left = (refused (StrayClose token.start), after, (token, reads, e, refl), tt, refl)
  by_kind token other e reads left = leaf_refused token reads left (λ right. absurd (let same : other ≡ Right = sym e ∙ right in cc))

  pub token_refused : (token : Token) → ReadsToken bytes place token after → token.kind ≢ Left → RefusesBehind version bytes count place (NoEntry (count + 1))
  token_refused token reads left = by_kind token token.kind refl reads left

  pub error_refused : (error : LexError) → Reads bytes place (Err error) after → RefusesBehind version bytes count place (NoEntry (count + 1))
  error_refused error fails = (refused (Lex error), after, (place, inl refl, fails), tt, refl)
