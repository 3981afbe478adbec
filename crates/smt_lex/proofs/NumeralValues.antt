-- The number that digits stand for.
use Rattle.std.proofs.Common.{◌≡◌, ℕ, ◌+◌, ◌-◌, ◌*◌, ◌<◌, ◌≤◌, true, not, ◌&&◌, eqb, get_or, List, [], ◌∷◌, length, drop, refl, arith}
use Rattle.std.specs.Char.{is_ascii_digit}
use Rattle.std.specs.List.{list_all}
use Rattle.std.proofs.lemmas.Bool.{and_parts}
use Rattle.std.proofs.lemmas.List.{at_drop_more, at_drop_all}
use Rattle.smt_lex.specs.Grammar.{is_numeral}
use Rattle.smt_lex.specs.Numbers.{value_from}

pub value_from_least : (acc : ℕ) (ds : List ℕ) → acc ≤ value_from acc ds
unfolding value_from
value_from_least acc [] = omega arith
value_from_least acc (d ∷ ds) = let rest = value_from_least (acc * 10 + (d - 48)) ds in omega (arith, rest)

pub value_from_step : (acc i : ℕ) (ds : List ℕ) → i < length ds → value_from acc (drop i ds) ≡ value_from (acc * 10 + (get_or ds i 0 - 48)) (drop (i + 1) ds)
unfolding value_from
value_from_step acc i ds lt = at_drop_more (value_from acc) ds i 0 lt

pub digits_of_numeral : (text : List ℕ) → is_numeral text ≡ true → list_all is_ascii_digit text ≡ true
digits_of_numeral [] h = refl
digits_of_numeral (b ∷ []) h = rw h refl
digits_of_numeral (b ∷ c ∷ bs) h =
    let parts = and_parts (not (eqb b 48) && is_ascii_digit b) (list_all is_ascii_digit (c ∷ bs)) h in
    rw ((and_parts (not (eqb b 48)) (is_ascii_digit b) parts.0).1) parts.1

pub value_from_end : (acc i : ℕ) (ds : List ℕ) → length ds ≤ i → value_from acc (drop i ds) ≡ acc
unfolding value_from
value_from_end acc i ds le = at_drop_all (value_from acc) ds i le

-- the value is at least what one more digit makes of it
pub value_at_most : (acc i : ℕ) (ds : List ℕ) → i < length ds → value_from acc (drop i ds) ≡ value_from 0 ds → acc * 10 + (get_or ds i 0 - 48) ≤ value_from 0 ds
value_at_most acc i ds lt same =
    let least = value_from_least (acc * 10 + (get_or ds i 0 - 48)) (drop (i + 1) ds) in
    omega (arith, least, value_from_step acc i ds lt, same)
