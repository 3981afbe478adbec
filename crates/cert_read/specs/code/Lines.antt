-- How the code reads what stands in place of an entry, item by item.
-- These are words of the code's inner contracts, and no part of the meaning.
use Rattle.std.specs.Prelude.{◌≡◌, ◌≢◌, ℕ, ◌⊎◌, if◌then◌else◌, List, codes, Option, Some, None, Ok, Err}
use Rattle.smt_lex.specs.declared.token.TokenKind.TheVariants.{Right}
use Rattle.smt_lex.specs.declared.token.Token.{Token}
use Rattle.smt_lex.specs.declared.token.LexError.{LexError}
use Rattle.smt_lex.specs.Grammar.{Reads}
use Rattle.smt_sexpr.specs.Shapes.{is_symbol}
use Rattle.smt_sexpr.specs.Table.{Table, Means}
use Rattle.smt_sexpr.specs.Tree.{Sexpr, Items, list, none, more}
use Rattle.smt_sexpr.specs.Reading.{ReadsToken, Spells, SpellsEach, IsInside}
use Rattle.cert_text.specs.declared.entry.Version.{Version}
use Rattle.cert_text.specs.Form.{end_sexpr}
use Rattle.cert_read.specs.Parts.{each_of, entry_of}
use Rattle.cert_read.specs.declared.line.Line.{Line}
use Rattle.cert_read.specs.declared.line.Line.TheVariants.{Shown, End}
use Rattle.cert_read.specs.declared.line.Head.{Head}
use Rattle.cert_read.specs.declared.line.Head.TheVariants as head
use Rattle.cert_read.specs.declared.error.PartError.{PartError}
use Rattle.cert_read.specs.declared.error.PartError.TheVariants.{OutOfMemory, IllFormed}

-- what an ill-formed part says; want of memory says nothing
abbrev pub IfIllFormed : Type 0 → PartError → Type 0
IfIllFormed says IllFormed = says
IfIllFormed says OutOfMemory = Unit {0}

-- an entry or the end stands at the place, and after is the place behind it
abbrev pub LineIs : Version → List ℕ → ℕ → Line → ℕ → Type 0
LineIs version bytes place (Shown e) after = (x : Sexpr) × Spells bytes place x after × (entry_of version x ≡ Some e)
LineIs version bytes place End after = Spells bytes place end_sexpr after

-- ---- an open list, from a place in it on

abbrev pub IsClosing : List ℕ → ℕ → ℕ → Type 0
IsClosing bytes place after = (closing : Token) × ReadsToken bytes place closing after × (closing.kind ≡ Right)

-- these items, and the parenthesis that closes the list
abbrev pub Closed : List ℕ → ℕ → Items → ℕ → Type 0
Closed bytes place xs after = (last : ℕ) × SpellsEach bytes place xs last × IsClosing bytes last after

-- the text ends in the list, or something in it can't be read
abbrev pub NeverCloses : List ℕ → ℕ → Type 0
NeverCloses bytes place = (here : ℕ) × (after : ℕ) × IsInside bytes here place
    × (Reads bytes here (Ok None) after ⊎ ((error : LexError) × Reads bytes here (Err error) after))

-- what is next: an item, which the id stands for, or the closing parenthesis
abbrev pub IsNext : Table → List ℕ → ℕ → Option ℕ → ℕ → Type 0
IsNext t bytes place (Some id) after = (x : Sexpr) × Means t id x × Spells bytes place x after
IsNext t bytes place None after = IsClosing bytes place after

-- the items that are left stand for this together
abbrev pub AreLeft : {A : Type 0} → (Items → Option A) → List ℕ → ℕ → A → ℕ → Type 0
AreLeft f bytes place whole after = (xs : Items) × Closed bytes place xs after × (f xs ≡ Some whole)

-- the items that are left stand for these
abbrev pub IsListOf : {A : Type 0} → (Sexpr → Option A) → List ℕ → ℕ → List A → ℕ → Type 0
IsListOf f bytes place parts after = AreLeft (each_of f) bytes place parts after

-- the list has no end, or its items, read to the end, are so
abbrev pub IsBrokenOr : (Items → Type 0) → List ℕ → ℕ → Type 0
IsBrokenOr Are bytes place = NeverCloses bytes place ⊎ ((xs : Items) × (after : ℕ) × Closed bytes place xs after × Are xs)

-- the items that are left stand for nothing together
abbrev pub LacksAll : {A : Type 0} → (Items → Option A) → List ℕ → ℕ → Type 0
LacksAll f bytes place = IsBrokenOr (λ xs. f xs ≡ None) bytes place

-- one of the items that are left stands for nothing
abbrev pub LacksList : {A : Type 0} → (Sexpr → Option A) → List ℕ → ℕ → Type 0
LacksList f bytes place = LacksAll (each_of f) bytes place

-- no item is left, or the first one stands for nothing
abbrev pub HasNoFirst : {A : Type 0} → (Sexpr → Option A) → Items → Type 0
HasNoFirst f none = Unit {0}
HasNoFirst f (more x xs) = f x ≡ None

abbrev pub LacksFirst : {A : Type 0} → (Sexpr → Option A) → List ℕ → ℕ → Type 0
LacksFirst f bytes place = IsBrokenOr (HasNoFirst f) bytes place

-- there are items left
abbrev pub HasItems : List ℕ → ℕ → Type 0
HasItems bytes place = IsBrokenOr (λ xs. xs ≢ none) bytes place

-- ---- behind the parenthesis that stands in place of an entry

-- what a list is by its first item
abbrev pub head_of : Sexpr → Head
head_of x =
    if is_symbol (codes "sat") x then head.Sat
    else (if is_symbol (codes "unsat") x then head.Unsat
    else (if is_symbol (codes "best") x then head.Best
    else (if is_symbol (codes "unbounded") x then head.Unbounded
    else (if is_symbol (codes "end") x then head.End
    else head.Other))))

abbrev pub StandsFor : Version → Items → Line → Type 0
StandsFor version xs (Shown e) = entry_of version (list xs) ≡ Some e
StandsFor version xs End = list xs ≡ end_sexpr

abbrev pub IsLineOf : Version → List ℕ → ℕ → Line → ℕ → Type 0
IsLineOf version bytes place line after = (xs : Items) × Closed bytes place xs after × StandsFor version xs line

abbrev pub IsNoLine : Version → List ℕ → ℕ → Type 0
IsNoLine version bytes place = IsBrokenOr (λ xs. (entry_of version (list xs) ≡ None) × (list xs ≢ end_sexpr)) bytes place
