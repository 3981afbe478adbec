-- The sorts of arguments, read one after another.
use Rattle.std.proofs.Common.{List, ◌++◌, map, Bor, Option}
use Rattle.std.specs.Prelude.{option_map}

-- what was found, behind what was found before
abbrev pub behind : {A : Type 0} → List A → Option (List A) → Option (List A)
behind found more = option_map (λ xs. found ++ xs) more

-- the terms that references lead to
abbrev pub seen : {A : Type 0} → List (Bor A) → List A
seen {A = A} terms = map (λ (t : Bor A). t.now) terms
