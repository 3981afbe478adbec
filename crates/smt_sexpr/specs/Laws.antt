-- What the laws of s-expressions say.
use Rattle.std.specs.Prelude.{◌≡◌, ℕ, ◌+◌, ◌≤◌, List, ◌++◌, length}
use Rattle.smt_sexpr.specs.Printing.{EndsSexpr, IsWritable, text_of}
use Rattle.smt_sexpr.specs.Reading.{Outcome, Outcomes, Spells}
use Rattle.smt_sexpr.specs.Table.{Grows, Means, Table}
use Rattle.smt_sexpr.specs.Tree.{Items, Sexpr, list}

-- at each place the bytes spell one s-expression at most
abbrev pub OneValue : Type 0
OneValue = (bytes : List ℕ) (place : ℕ) (x y : Sexpr) (m n : ℕ) → Spells bytes place x m → Spells bytes place y n → (x ≡ y) × (m ≡ n)

-- at each place there is one outcome at most
abbrev pub OneOutcome : Type 0
OneOutcome = (bytes : List ℕ) (place : ℕ) (o p : Outcome) (m n : ℕ)
    → Outcomes bytes place o m → Outcomes bytes place p n → (o ≡ p) × (m ≡ n)

-- an id stands for one s-expression at most
abbrev pub OneMeaning : Type 0
OneMeaning = (t : Table) (id : ℕ) (x y : Sexpr) → Means t id x → Means t id y → x ≡ y

-- what an id stands for stays as the table grows
abbrev pub MeaningStays : Type 0
MeaningStays = (old new : Table) (id : ℕ) (x : Sexpr) → Grows old new → Means old id x → Means new id x

-- what an id stands for can be written
abbrev pub MeaningIsWritable : Type 0
MeaningIsWritable = (t : Table) (id : ℕ) (x : Sexpr) → Means t id x → IsWritable x

-- what is read can be written
abbrev pub ReadIsWritable : Type 0
ReadIsWritable = (bytes : List ℕ) (place : ℕ) (x : Sexpr) (after : ℕ) → Spells bytes place x after → IsWritable x

-- what is written is read again, whatever follows a list, and leaves what follows
abbrev pub SexprReadsBack : Type 0
SexprReadsBack = (x : Sexpr) (before after : List ℕ) → IsWritable x → EndsSexpr x after
    → Spells (before ++ (text_of x ++ after)) (length before) x (length before + length (text_of x))

-- a list is read the same whatever follows it
abbrev pub ListReadsOn : Type 0
ListReadsOn = (bytes more : List ℕ) (place after : ℕ) (xs : Items)
    → Spells bytes place (list xs) after → Spells (bytes ++ more) place (list xs) after

-- a list doesn't go beyond the text
abbrev pub ListIsWithin : Type 0
ListIsWithin = (bytes : List ℕ) (place after : ℕ) (xs : Items) → Spells bytes place (list xs) after → after ≤ length bytes
