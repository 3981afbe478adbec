-- Numbers of a store that name lemmas, which are moved as the steps' references are.
use Rattle.std.specs.Prelude.{◌≡◌, ℕ, Bool, true, false, List, [], ◌∷◌, ◌++◌, take, drop}
use Rattle.refute_tree.specs.declared.kind.Kind.{Kind}
use Rattle.refute_tree.specs.declared.kind.Kind.TheVariants.{Lemma as LemmaKind, LargeLemma as LargeLemmaKind}
use Rattle.refute_tree.specs.Moves.{NumberMovesWithin}
use Rattle.refute_tree.specs.code.Store.{first_number}

-- the kinds that name a lemma by a small number, and by a large one
abbrev pub is_lemma : Kind → Bool
is_lemma LemmaKind = true
is_lemma kind = false

abbrev pub is_large_lemma : Kind → Bool
is_large_lemma LargeLemmaKind = true
is_large_lemma kind = false

-- of one of the lists of numbers: a kind has `by kind` of them, and the first is a lemma's where `names kind` says so
abbrev pub named_part : (ℕ → ℕ) → ℕ → Bool → List ℕ → List ℕ
named_part number count true numbers = number (first_number numbers) ∷ []
named_part number count false numbers = take count numbers

abbrev pub named_numbers : (Kind → ℕ) → (Kind → Bool) → (ℕ → ℕ) → List Kind → List ℕ → List ℕ
named_numbers by names number [] numbers = numbers
named_numbers by names number (kind ∷ kinds) numbers =
    named_part number (by kind) (names kind) numbers
    ++ named_numbers by names number kinds (drop (by kind) numbers)

abbrev pub PartMovesWithin : ℕ → ℕ → Bool → List ℕ → Type 0
PartMovesWithin seen base true numbers = NumberMovesWithin seen base (first_number numbers)
PartMovesWithin seen base false numbers = Unit {0}

abbrev pub NumbersMoveWithin : (Kind → ℕ) → (Kind → Bool) → ℕ → ℕ → List Kind → List ℕ → Type 0
NumbersMoveWithin by names seen base [] numbers = Unit {0}
NumbersMoveWithin by names seen base (kind ∷ kinds) numbers =
    PartMovesWithin seen base (names kind) numbers
    × NumbersMoveWithin by names seen base kinds (drop (by kind) numbers)

-- the part of so many numbers that begins at the place has the lemma's other number
abbrev pub HasNamedPart : (ℕ → ℕ) → ℕ → Bool → ℕ → List ℕ → List ℕ → Type 0
HasNamedPart number count named at before after =
    after
    ≡ take at before ++ (named_part number count named (drop at before) ++ drop count (drop at before))
