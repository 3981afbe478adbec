-- Laws of sums of cases: how many they are, which stand where, and in which order they may be added.
use Rattle.std.proofs.Common.{refl, ap, sym, arith, ◌∙◌, ◌≡◌, ◌<◌, ◌≤◌, ◌+◌, ◌*◌, ℕ, zero, suc, List, [], ◌∷◌, ◌++◌, length, map, Bool, true, false, append-nil, append_assoc, pos}
use Rattle.std.proofs.Math.Nat.{suc-mul}
use Rattle.std.proofs.lemmas.List.{length-append, length-map, map-append}
use Rattle.std.specs.List.{AllByRecursion}
use mathlib.Core.Bool.{not, beq}
use Rattle.idl_linear.specs.Linear.{LinearValue, negative_of, number_alone, sum_of}
use Rattle.idl_linear.specs.code.Bounded.{IsOver}
use Rattle.idl_linear.proofs.SumLaws.{over_negative, pair_assoc, pair_swapped, pair_zero, negative_pair, negative_twice}
use Rattle.idl_cases.specs.Guarded.{CaseValue, guarded, branched, plain}
use Rattle.idl_cases.specs.code.Bounded.{AreOver}
use Rattle.idl_cases.specs.code.CaseSums.{added, added_each, added_all, case_at, moved, negated_case, pair_sum, signed_cases, signed_linear, AreChoices}
use Rattle.idl_cases.specs.code.CasePlaces.{IsOpened}
use Rattle.idl_cases.specs.declared.places.Behind.{Behind}
use Rattle.idl_cases.specs.declared.places.Behind.TheVariants.{Nothing, One, Two}
use Rattle.idl_cases.proofs.CaseBounds.{over_added}

abbrev case : List ℕ → LinearValue → CaseValue
case guards l = record { guards = guards; linear = l }

-- ---- how many there are

pub length-added : (xs ys : List CaseValue) → length (added_each xs ys) ≡ length xs * length ys
length-added [] ys = omega arith
length-added (x ∷ xs) ys =
    length-append (map (added x) ys) (added_each xs ys)
    ∙ ap (λ (n : ℕ). n + length (added_each xs ys)) (length-map ys (added x))
    ∙ ap (λ (n : ℕ). length ys + n) (length-added xs ys)
    ∙ omega (arith, suc-mul (length xs) (length ys))

pub length-branched : (c d : ℕ) (xs ys : List CaseValue) → length (branched c d xs ys) ≡ length xs + length ys
length-branched c d xs ys =
    let joined = length-append (map (guarded c) xs) (map (guarded d) ys) in
    let first = length-map xs (guarded c) in
    let second = length-map ys (guarded d) in
    omega (arith, joined, first, second)

fewer_by : (i n : ℕ) → 1 < n → suc (suc i) + n ≤ suc (suc i) * n
fewer_by zero n h = omega (arith, suc-mul 1 n, suc-mul 0 n, h)
fewer_by (suc i) n h =
    let rest = fewer_by i n h in
    omega (arith, rest, suc-mul (suc (suc i)) n, h)

pub fewer_product : (m n : ℕ) → 1 < m → 1 < n → m + n ≤ m * n
fewer_product zero n h k = absurd (omega arith)
fewer_product (suc zero) n h k = absurd (omega arith)
fewer_product (suc (suc i)) n h k = fewer_by i n k

pub times_some : (n m : ℕ) → 0 < m → n ≤ n * m
times_some zero m h = omega arith
times_some (suc n) m h =
    let rest = times_some n m h in
    omega (arith, rest, suc-mul n m, h)

-- more terms don't make them fewer
pub fewer_before : (choices : List (List CaseValue)) (xs : List CaseValue) → AllByRecursion AreChoices choices → length xs ≤ length (added_all xs choices)
fewer_before [] xs h = omega arith
fewer_before (ys ∷ choices) xs h =
    let rest = fewer_before choices (added_each xs ys) h.1 in
    let here = length-added xs ys in
    let some = h.0.0 in
    let more = times_some (length xs) (length ys) (omega (arith, some)) in
    omega (arith, rest, here, more)

-- ---- negatives

twice_each : (xs : List CaseValue) → map negated_case (map negated_case xs) ≡ xs
twice_each [] = refl
twice_each (x ∷ xs) =
    ap (λ (l : LinearValue). case x.guards l ∷ map negated_case (map negated_case xs)) (negative_twice x.linear) ∙ ap (λ (cs : List CaseValue). x ∷ cs) (twice_each xs)

pub signed_twice : (s n : Bool) (xs : List CaseValue) → signed_cases s (signed_cases n xs) ≡ signed_cases (not (beq s n)) xs
signed_twice true true xs = twice_each xs
signed_twice true false xs = refl
signed_twice false true xs = refl
signed_twice false false xs = refl

pub signed_other : (s n : Bool) (xs : List CaseValue) → signed_cases n (signed_cases s xs) ≡ signed_cases (not (beq s n)) xs
signed_other true true xs = twice_each xs
signed_other true false xs = refl
signed_other false true xs = refl
signed_other false false xs = refl

negated_guarded : (g : ℕ) (xs : List CaseValue) → map negated_case (map (guarded g) xs) ≡ map (guarded g) (map negated_case xs)
negated_guarded g [] = refl
negated_guarded g (x ∷ xs) = ap (λ (cs : List CaseValue). guarded g (negated_case x) ∷ cs) (negated_guarded g xs)

pub signed_branched : (s : Bool) (c d : ℕ) (xs ys : List CaseValue) → signed_cases s (branched c d xs ys) ≡ branched c d (signed_cases s xs) (signed_cases s ys)
signed_branched true c d xs ys =
    map-append negated_case (map (guarded c) xs) (map (guarded d) ys)
    ∙ ap (λ (cs : List CaseValue). cs ++ map negated_case (map (guarded d) ys)) (negated_guarded c xs)
    ∙ ap (λ (cs : List CaseValue). map (guarded c) (map negated_case xs) ++ cs) (negated_guarded d ys)
signed_branched false c d xs ys = refl

negated_one : (x : CaseValue) (ys : List CaseValue) → IsOver x.linear → AreOver ys → map negated_case (map (added x) ys) ≡ map (added (negated_case x)) (map negated_case ys)
negated_one x [] h k = refl
negated_one x (y ∷ ys) h k =
    ap (λ (l : LinearValue). case (x.guards ++ y.guards) l ∷ map negated_case (map (added x) ys)) (negative_pair x.linear y.linear h k.0)
    ∙ ap (λ (cs : List CaseValue). added (negated_case x) (negated_case y) ∷ cs) (negated_one x ys h k.1)

negated_added : (xs ys : List CaseValue) → AreOver xs → AreOver ys → map negated_case (added_each xs ys) ≡ added_each (map negated_case xs) (map negated_case ys)
negated_added [] ys h k = refl
negated_added (x ∷ xs) ys h k =
    map-append negated_case (map (added x) ys) (added_each xs ys)
    ∙ ap (λ (cs : List CaseValue). cs ++ map negated_case (added_each xs ys)) (negated_one x ys h.0 k)
    ∙ ap (λ (cs : List CaseValue). map (added (negated_case x)) (map negated_case ys) ++ cs) (negated_added xs ys h.1 k)

pub signed_added : (s : Bool) (xs ys : List CaseValue) → AreOver xs → AreOver ys → signed_cases s (added_each xs ys) ≡ added_each (signed_cases s xs) (signed_cases s ys)
signed_added true xs ys h k = negated_added xs ys h k
signed_added false xs ys h k = refl

negated_moved : (by : LinearValue) (xs : List CaseValue) → IsOver by → AreOver xs → map negated_case (map (moved by) xs) ≡ map (moved (negative_of by)) (map negated_case xs)
negated_moved by [] h k = refl
negated_moved by (x ∷ xs) h k =
    ap (λ (l : LinearValue). case x.guards l ∷ map negated_case (map (moved by) xs)) (negative_pair by x.linear h k.0)
    ∙ ap (λ (cs : List CaseValue). moved (negative_of by) (negated_case x) ∷ cs) (negated_moved by xs h k.1)

pub signed_moved : (s : Bool) (by : LinearValue) (xs : List CaseValue) → IsOver by → AreOver xs → signed_cases s (map (moved by) xs) ≡ map (moved (signed_linear s by)) (signed_cases s xs)
signed_moved true by xs h k = negated_moved by xs h k
signed_moved false by xs h k = refl

pub over_signed_linear : (s : Bool) (l : LinearValue) → IsOver l → IsOver (signed_linear s l)
over_signed_linear true l h = over_negative l h
over_signed_linear false l h = h

-- ---- which stand where

abbrev nothing : CaseValue
nothing = record { guards = []; linear = number_alone (pos 0) }

pub at-map : (f : CaseValue → CaseValue) (xs : List CaseValue) (k : ℕ) → k < length xs → case_at (map f xs) k ≡ f (case_at xs k)
at-map f [] k lt = absurd (omega arith)
at-map f (x ∷ xs) zero lt = refl
at-map f (x ∷ xs) (suc k) lt = at-map f xs k (omega arith)

at-front : (xs ys : List CaseValue) (k : ℕ) → k < length xs → case_at (xs ++ ys) k ≡ case_at xs k
at-front [] ys k lt = absurd (omega arith)
at-front (x ∷ xs) ys zero lt = refl
at-front (x ∷ xs) ys (suc k) lt = at-front xs ys k (omega arith)

at-back : (xs ys : List CaseValue) (k n : ℕ) → n ≡ length xs + k → case_at (xs ++ ys) n ≡ case_at ys k
at-back [] ys k n e = ap (case_at ys) (omega (arith, e))
at-back (x ∷ xs) ys k zero e = absurd (omega (arith, e))
at-back (x ∷ xs) ys k (suc n) e = at-back xs ys k n (omega (arith, e))

pub at-first : (c d : ℕ) (xs ys : List CaseValue) (k : ℕ) → k < length xs → case_at (branched c d xs ys) k ≡ guarded c (case_at xs k)
at-first c d xs ys k lt =
    let long = length-map xs (guarded c) in
    at-front (map (guarded c) xs) (map (guarded d) ys) k (omega (arith, long)) ∙ at-map (guarded c) xs k lt

pub at-second : (c d : ℕ) (xs ys : List CaseValue) (k n : ℕ) → n ≡ length xs + k → k < length ys → case_at (branched c d xs ys) n ≡ guarded d (case_at ys k)
at-second c d xs ys k n e lt =
    let long = length-map xs (guarded c) in
    at-back (map (guarded c) xs) (map (guarded d) ys) k n (omega (arith, long, e)) ∙ at-map (guarded d) ys k lt

pub at-added : (xs ys : List CaseValue) (q r n : ℕ) → q < length xs → r < length ys → n ≡ q * length ys + r → case_at (added_each xs ys) n ≡ added (case_at xs q) (case_at ys r)
at-added [] ys q r n some lt e = absurd (omega arith)
at-added (x ∷ xs) ys zero r n some lt e =
    let same : n ≡ r = omega (arith, e) in
    let long = length-map ys (added x) in
    at-front (map (added x) ys) (added_each xs ys) n (omega (arith, long, lt, same)) ∙ at-map (added x) ys n (omega (arith, lt, same)) ∙ ap (λ (k : ℕ). added x (case_at ys k)) same
at-added (x ∷ xs) ys (suc q) r n some lt e =
    let long = length-map ys (added x) in
    at-back (map (added x) ys) (added_each xs ys) (q * length ys + r) n (omega (arith, e, long, suc-mul q (length ys))) ∙ at-added xs ys q r (q * length ys + r) (omega arith) lt refl

pub at-signed : (s : Bool) (xs : List CaseValue) (k : ℕ) → k < length xs → case_at (signed_cases s xs) k ≡ record { guards = (case_at xs k).guards; linear = signed_linear s (case_at xs k).linear }
at-signed true xs k lt = at-map negated_case xs k lt
at-signed false xs k lt = refl

pub at-over : (xs : List CaseValue) (k : ℕ) → AreOver xs → k < length xs → IsOver (case_at xs k).linear
at-over [] k h lt = absurd (omega arith)
at-over (x ∷ xs) zero h lt = h.0
at-over (x ∷ xs) (suc k) h lt = at-over xs k h.1 (omega arith)

-- ---- in which order they may be added

pub added_assoc : (a b c : CaseValue) → IsOver a.linear → IsOver b.linear → IsOver c.linear → added (added a b) c ≡ added a (added b c)
added_assoc a b c f g h =
    ap (λ (gs : List ℕ). case gs (pair_sum (pair_sum a.linear b.linear) c.linear)) (append_assoc a.guards b.guards c.guards)
    ∙ ap (λ (l : LinearValue). case (a.guards ++ (b.guards ++ c.guards)) l) (pair_assoc a.linear b.linear c.linear f g h)

-- one more guard
pub added_guarded : (a b : CaseValue) (g : ℕ) → added (record { guards = a.guards ++ g ∷ []; linear = a.linear }) b ≡ added a (guarded g b)
added_guarded a b g = ap (λ (gs : List ℕ). case gs (pair_sum a.linear b.linear)) (append_assoc a.guards (g ∷ []) b.guards)

-- one more linear term
pub added_moved : (a b : CaseValue) (by : LinearValue) → IsOver a.linear → IsOver by → IsOver b.linear → added (record { guards = a.guards; linear = pair_sum a.linear by }) b ≡ added a (moved by b)
added_moved a b by f g h = ap (λ (l : LinearValue). case (a.guards ++ b.guards) l) (pair_assoc a.linear by b.linear f g h)

abbrev later : LinearValue → CaseValue → CaseValue
later l x = record { guards = x.guards; linear = pair_sum x.linear l }

later_one : (l : LinearValue) (x : CaseValue) (ys : List CaseValue) → IsOver l → IsOver x.linear → AreOver ys → map (added (later l x)) ys ≡ map (later l) (map (added x) ys)
later_one l x [] f g h = refl
later_one l x (y ∷ ys) f g h =
    ap (λ (m : LinearValue). case (x.guards ++ y.guards) m ∷ map (added (later l x)) ys) (pair_swapped x.linear l y.linear g f h.0)
    ∙ ap (λ (cs : List CaseValue). later l (added x y) ∷ cs) (later_one l x ys f g h.1)

later_added : (l : LinearValue) (xs ys : List CaseValue) → IsOver l → AreOver xs → AreOver ys → added_each (map (later l) xs) ys ≡ map (later l) (added_each xs ys)
later_added l [] ys f g h = refl
later_added l (x ∷ xs) ys f g h =
    ap (λ (cs : List CaseValue). cs ++ added_each (map (later l) xs) ys) (later_one l x ys f g.0 h)
    ∙ ap (λ (cs : List CaseValue). map (later l) (map (added x) ys) ++ cs) (later_added l xs ys f g.1 h)
    ∙ sym (map-append (later l) (map (added x) ys) (added_each xs ys))

later_all : (l : LinearValue) (choices : List (List CaseValue)) (xs : List CaseValue) → IsOver l → AreOver xs → AllByRecursion AreChoices choices → added_all (map (later l) xs) choices ≡ map (later l) (added_all xs choices)
later_all l [] xs f g h = refl
later_all l (ys ∷ choices) xs f g h =
    ap (λ (cs : List CaseValue). added_all cs choices) (later_added l xs ys f g h.0.1) ∙ later_all l choices (added_each xs ys) f (over_added xs ys g h.0.1) h.1

plain_one : (l : LinearValue) (xs : List CaseValue) → added_each xs (plain l) ≡ map (later l) xs
plain_one l [] = refl
plain_one l (x ∷ xs) = ap (λ (gs : List ℕ). case gs (pair_sum x.linear l) ∷ added_each xs (plain l)) (append-nil x.guards) ∙ ap (λ (cs : List CaseValue). later l x ∷ cs) (plain_one l xs)

-- a linear term more at the start, or at the end
pub plain_later : (l : LinearValue) (choices : List (List CaseValue)) (x : CaseValue) → IsOver l → IsOver x.linear → AllByRecursion AreChoices choices
    → added_all (record { guards = x.guards; linear = pair_sum x.linear l } ∷ []) choices ≡ added_each (added_all (x ∷ []) choices) (plain l)
plain_later l choices x f g h = later_all l choices (x ∷ []) f (g, tt) h ∙ sym (plain_one l (added_all (x ∷ []) choices))

moved_later_one : (l : LinearValue) (x : CaseValue) (ys : List CaseValue) → IsOver l → IsOver x.linear → AreOver ys → map (added (later l x)) ys ≡ map (added x) (map (moved l) ys)
moved_later_one l x [] f g h = refl
moved_later_one l x (y ∷ ys) f g h =
    ap (λ (m : LinearValue). case (x.guards ++ y.guards) m ∷ map (added (later l x)) ys) (pair_assoc x.linear l y.linear g f h.0)
    ∙ ap (λ (cs : List CaseValue). added x (moved l y) ∷ cs) (moved_later_one l x ys f g h.1)

moved_later : (l : LinearValue) (xs ys : List CaseValue) → IsOver l → AreOver xs → AreOver ys → added_each (map (later l) xs) ys ≡ added_each xs (map (moved l) ys)
moved_later l [] ys f g h = refl
moved_later l (x ∷ xs) ys f g h =
    ap (λ (cs : List CaseValue). cs ++ added_each (map (later l) xs) ys) (moved_later_one l x ys f g.0 h)
    ∙ ap (λ (cs : List CaseValue). map (added x) (map (moved l) ys) ++ cs) (moved_later l xs ys f g.1 h)

pub over_all : (choices : List (List CaseValue)) (xs : List CaseValue) → AreOver xs → AllByRecursion AreChoices choices → AreOver (added_all xs choices)
over_all [] xs f h = f
over_all (ys ∷ choices) xs f h = over_all choices (added_each xs ys) (over_added xs ys f h.0.1) h.1

pub all-push : (choices : List (List CaseValue)) (xs ys : List CaseValue) → added_all xs (choices ++ ys ∷ []) ≡ added_each (added_all xs choices) ys
all-push [] xs ys = refl
all-push (zs ∷ choices) xs ys = all-push choices (added_each xs zs) ys

-- choices with a linear term more
pub moved_more : (l : LinearValue) (choices : List (List CaseValue)) (x : CaseValue) (ys : List CaseValue) → IsOver l → IsOver x.linear → AllByRecursion AreChoices choices → AreOver ys
    → added_each (added_all (record { guards = x.guards; linear = pair_sum x.linear l } ∷ []) choices) ys ≡ added_each (added_all (x ∷ []) choices) (map (moved l) ys)
moved_more l choices x ys f g h k =
    ap (λ (cs : List CaseValue). added_each cs ys) (later_all l choices (x ∷ []) f (g, tt) h)
    ∙ moved_later l (added_all (x ∷ []) choices) ys f (over_all choices (x ∷ []) (g, tt) h) k

-- ---- a linear term before others

before_one : (by : LinearValue) (x : CaseValue) (ys : List CaseValue) → IsOver by → IsOver x.linear → AreOver ys → map (added (moved by x)) ys ≡ map (moved by) (map (added x) ys)
before_one by x [] f g h = refl
before_one by x (y ∷ ys) f g h =
    ap (λ (m : LinearValue). case (x.guards ++ y.guards) m ∷ map (added (moved by x)) ys) (pair_assoc by x.linear y.linear f g h.0)
    ∙ ap (λ (cs : List CaseValue). moved by (added x y) ∷ cs) (before_one by x ys f g h.1)

before_added : (by : LinearValue) (xs ys : List CaseValue) → IsOver by → AreOver xs → AreOver ys → added_each (map (moved by) xs) ys ≡ map (moved by) (added_each xs ys)
before_added by [] ys f g h = refl
before_added by (x ∷ xs) ys f g h =
    ap (λ (cs : List CaseValue). cs ++ added_each (map (moved by) xs) ys) (before_one by x ys f g.0 h)
    ∙ ap (λ (cs : List CaseValue). map (moved by) (map (added x) ys) ++ cs) (before_added by xs ys f g.1 h)
    ∙ sym (map-append (moved by) (map (added x) ys) (added_each xs ys))

pub before_all : (by : LinearValue) (choices : List (List CaseValue)) (xs : List CaseValue) → IsOver by → AreOver xs → AllByRecursion AreChoices choices → added_all (map (moved by) xs) choices ≡ map (moved by) (added_all xs choices)
before_all by [] xs f g h = refl
before_all by (ys ∷ choices) xs f g h =
    ap (λ (cs : List CaseValue). added_all cs choices) (before_added by xs ys f g h.0.1) ∙ before_all by choices (added_each xs ys) f (over_added xs ys g h.0.1) h.1

-- the first of some choices behind a linear term
pub start_moved : (by : LinearValue) (first : List CaseValue) (choices : List (List CaseValue)) → IsOver by → AreOver first → AllByRecursion AreChoices choices
    → added_all (record { guards = []; linear = by } ∷ []) (first ∷ choices) ≡ map (moved by) (added_all first choices)
start_moved by first choices f g h = ap (λ (cs : List CaseValue). added_all cs choices) (append-nil (map (moved by) first)) ∙ before_all by choices first f g h

-- ---- from nothing

from_nothing : (xs : List CaseValue) → AreOver xs → map (added (record { guards = []; linear = sum_of [] })) xs ≡ xs
from_nothing [] h = refl
from_nothing (x ∷ xs) h = ap (λ (l : LinearValue). case x.guards l ∷ map (added (case [] (sum_of []))) xs) (pair_zero x.linear h.0) ∙ ap (λ (cs : List CaseValue). x ∷ cs) (from_nothing xs h.1)

-- ---- what is opened

pub opened_wider : (m n : ℕ) (w v new : CaseValue) (b : Behind) → m ≤ n → w ≡ v → IsOpened m w new b → IsOpened n v new b
opened_wider m n w v new Nothing le e h = h ∙ e
opened_wider m n w v new (One p) le e h = (record { within = h.0.within; fewer = omega (arith, le, h.0.fewer) }, h.1 ∙ e)
opened_wider m n w v new (Two p q) le e h = (record { within = h.0.within; fewer = omega (arith, le, h.0.fewer) }, record { within = h.1.within; fewer = omega (arith, le, h.1.fewer) }, h.2 ∙ e)

-- ---- one more term of a sum

pub chosen_more : (choices : List (List CaseValue)) (x : CaseValue) (ys : List CaseValue) → added_all (x ∷ []) (choices ++ ys ∷ []) ≡ added_each (added_all (x ∷ []) choices) ys
chosen_more choices x ys = all-push choices (x ∷ []) ys

pub each_more : (choices : List (List CaseValue)) (ys : List CaseValue) → AllByRecursion AreChoices choices → AreChoices ys → AllByRecursion AreChoices (choices ++ ys ∷ [])
each_more [] ys h k = (k, tt)
each_more (xs ∷ choices) ys h k = (h.0, each_more choices ys h.1 k)
