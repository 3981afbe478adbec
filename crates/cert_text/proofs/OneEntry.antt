-- No two parts of an entry have the same s-expression, and no two headers.
use Rattle.std.proofs.Common.{◌≡◌, ℕ, suc, ◌+◌, ◌-◌, ◌*◌, true, false, ℤ, pos, negsuc, List, [], ◌∷◌, ◌++◌, length, map, get_or, refl, sym, ap, subst, ◌∙◌, arith, eq-zero-or-pos, inl, inr}
use Rattle.std.proofs.lemmas.Bool.{ne_eqb}
use Rattle.std.proofs.lemmas.Int.Digits.{number_digits_of}
use Rattle.std.specs.Int.Digits.{digits_of, number_from_digits_after}
use Rattle.smt_lex.specs.Numbers.{value_from, value_of}
use Rattle.smt_sexpr.specs.Laws.{OneValue}
use Rattle.smt_sexpr.specs.Tree.{Sexpr, Items, leaf, list, none, more}
use Rattle.smt_sexpr.specs.Reading.{Spells}
use Rattle.smt_sexpr.specs.Printing.{text_of}
use Rattle.stn_core.specs.declared.literal.Literal.{Literal}
use Rattle.stn_core.specs.declared.named.NamedValue.{NamedValue}
use Rattle.stn_core.specs.declared.named.NamedValue.TheVariants.{Int, Truth}
use Rattle.refute_tree.specs.declared.step.Step.{Step}
use Rattle.refute_tree.specs.declared.step.Step.TheVariants.{Cycle, Input, Lemma as Earlier, Clash, Either}
use Rattle.refute_tree.specs.declared.lemma.Lemma.{Lemma}
use Rattle.kept_lemmas.specs.declared.item.Kept.{Kept}
use Rattle.kept_lemmas.specs.declared.item.Item.{Item}
use Rattle.kept_lemmas.specs.declared.item.Item.TheVariants.{Own, Keep}
use Rattle.cert_text.specs.declared.entry.Version.TheVariants.{One, Two}
use Rattle.cert_text.specs.Form.{numeral_text, numeral, bound_sexprs, number_of_value, literal_sexpr, step_sexpr, lemma_sexpr, kept_sexpr, item_sexpr, value_sexpr, line_of}
use Rattle.smt_sexpr.specs.Shapes.{items_of}
use Rattle.cert_text.specs.Laws.{LineReadsBack, OneHeader}

-- ---- the value of a numeral

value_after : (acc : ℕ) (ds : List ℕ) → value_from acc (map (λ d. 48 + d) ds) ≡ number_from_digits_after 10 acc ds
unfolding value_from
value_after acc [] = refl
value_after acc (d ∷ ds) =
    let digit : 48 + d - 48 ≡ d = omega arith in
    ap (λ k. value_from (acc * 10 + k) (map (λ x. 48 + x) ds)) digit ∙ value_after (acc * 10 + d) ds

pub numeral_value : (n : ℕ) → value_of (numeral_text n) ≡ n
unfolding numeral_text value_from
numeral_value n =
    elim (eq-zero-or-pos n) [
      | inl least ↦ rw least refl
      | inr some ↦ rw (ne_eqb n 0 (λ z. absurd (omega arith))) (value_after 0 (digits_of 10 n) ∙ number_digits_of 10 n (omega arith))
    ]

-- ---- parts

-- the text of a leaf, and of a list nothing
abbrev pub leaf_bytes : Sexpr → List ℕ
leaf_bytes (leaf kind text) = text
leaf_bytes (list xs) = []

abbrev pub parts : Sexpr → Items
parts (leaf kind text) = none
parts (list xs) = xs

abbrev pub first : Items → Sexpr
first none = list none
first (more x xs) = x

abbrev pub others : Items → Items
others none = none
others (more x xs) = xs

-- the first byte of a list's first item
abbrev pub first_byte : Sexpr → ℕ
first_byte x = get_or (leaf_bytes (first (parts x))) 0 0

abbrev second_byte : Sexpr → ℕ
second_byte x = get_or (leaf_bytes (first (parts x))) 1 0

abbrev pub third_byte : Sexpr → ℕ
third_byte x = get_or (leaf_bytes (first (parts x))) 2 0

pub numeral_one : (m n : ℕ) → numeral m ≡ numeral n → m ≡ n
numeral_one m n e = sym (numeral_value m) ∙ ap (λ x. value_of (leaf_bytes x)) e ∙ numeral_value n

abbrev count : Items → ℕ
count none = 0
count (more x xs) = suc (count xs)

pub number_one : (m n : ℤ) → number_of_value m ≡ number_of_value n → m ≡ n
number_one (pos m) (pos n) e = ap pos (numeral_one m n e)
number_one (pos m) (negsuc n) e = absurd (omega (arith, ap (λ x. count (parts x)) e))
number_one (negsuc m) (pos n) e = absurd (omega (arith, ap (λ x. count (parts x)) e))
number_one (negsuc m) (negsuc n) e = ap negsuc (omega (arith, numeral_one (suc m) (suc n) (ap (λ x. first (others (parts x))) e)))

pub each_one : {A : Type 0} (f : A → Sexpr) → ((x y : A) → f x ≡ f y → x ≡ y) → (xs ys : List A) → items_of (map f xs) ≡ items_of (map f ys) → xs ≡ ys
each_one f one [] [] e = refl
each_one f one [] (y ∷ ys) e = absurd (omega (arith, ap count e))
each_one f one (x ∷ xs) [] e = absurd (omega (arith, ap count e))
each_one f one (x ∷ xs) (y ∷ ys) e = λ i. one x y (ap first e) i ∷ each_one f one xs ys (ap others e) i

-- ---- entries

bound_one : (l k : Literal) → items_of (bound_sexprs l) ≡ items_of (bound_sexprs k) → l ≡ k
bound_one l k e =
    let x = numeral_one l.x k.x (ap first e) in
    let y = numeral_one l.y k.y (ap (λ xs. first (others xs)) e) in
    let c = number_one l.c k.c (ap (λ xs. first (others (others xs))) e) in
    λ i. record { x = x i; y = y i; c = c i }

literal_one : (l k : Literal) → literal_sexpr l ≡ literal_sexpr k → l ≡ k
literal_one l k e = bound_one l k (ap parts e)

literals_one : (ls ks : List Literal) → items_of (map literal_sexpr ls) ≡ items_of (map literal_sexpr ks) → ls ≡ ks
literals_one = each_one literal_sexpr literal_one

step_one : (s t : Step) → step_sexpr s ≡ step_sexpr t → s ≡ t
step_one (Cycle ls) (Cycle ks) e = ap Cycle (literals_one ls ks (ap (λ x. others (parts x)) e))
step_one (Input i) (Input j) e = ap Input (numeral_one i j (ap (λ x. first (others (parts x))) e))
step_one (Earlier i) (Earlier j) e = ap Earlier (numeral_one i j (ap (λ x. first (others (parts x))) e))
step_one (Clash i) (Clash j) e = ap Clash (numeral_one i j (ap (λ x. first (others (parts x))) e))
step_one (Cycle ls) (Clash i) e = absurd (omega (arith, ap second_byte e))
step_one (Clash i) (Cycle ls) e = absurd (omega (arith, ap second_byte e))
step_one (Either l) (Either k) e = ap Either (bound_one l k (ap (λ x. others (parts x)) e))
step_one s t e = absurd (omega (arith, ap first_byte e))

lemma_one : (l k : Lemma) → lemma_sexpr l ≡ lemma_sexpr k → l ≡ k
lemma_one l k e =
    let clause = literals_one l.clause k.clause (ap (λ x. parts (first (others (parts x)))) e) in
    let steps = each_one step_sexpr step_one l.steps k.steps (ap (λ x. others (others (parts x))) e) in
    λ i. record { clause = clause i; steps = steps i }

kept_one : (l k : Kept) → kept_sexpr l ≡ kept_sexpr k → l ≡ k
kept_one l k e =
    let entry = numeral_one l.entry k.entry (ap (λ x. first (others (parts x))) e) in
    let item = numeral_one l.item k.item (ap (λ x. first (others (others (parts x)))) e) in
    λ i. record { entry = entry i; item = item i }

pub item_one : (l k : Item) → item_sexpr l ≡ item_sexpr k → l ≡ k
item_one (Own l) (Own k) e = ap Own (lemma_one l k e)
item_one (Keep l) (Keep k) e = ap Keep (kept_one l k e)
item_one (Own l) (Keep k) e = absurd (omega (arith, ap first_byte e))
item_one (Keep l) (Own k) e = absurd (omega (arith, ap first_byte e))

-- a number is a numeral or a list, a truth value a symbol that begins with no digit
pub value_one : (v w : NamedValue) → value_sexpr v ≡ value_sexpr w → v ≡ w
value_one (Int m) (Int n) e = ap Int (number_one m n e)
value_one (Truth true) (Truth true) e = refl
value_one (Truth false) (Truth false) e = refl
value_one (Truth true) (Truth false) e = absurd (omega (arith, ap (λ x. length (leaf_bytes x)) e))
value_one (Truth false) (Truth true) e = absurd (omega (arith, ap (λ x. length (leaf_bytes x)) e))
value_one (Int (pos m)) (Truth true) e = absurd cc
value_one (Int (pos m)) (Truth false) e = absurd cc
value_one (Int (negsuc m)) (Truth true) e = absurd cc
value_one (Int (negsuc m)) (Truth false) e = absurd cc
value_one (Truth true) (Int (pos m)) e = absurd cc
value_one (Truth false) (Int (pos m)) e = absurd cc
value_one (Truth true) (Int (negsuc m)) e = absurd cc
value_one (Truth false) (Int (negsuc m)) e = absurd cc

pub header_one : OneHeader
header_one One One e = refl
header_one Two Two e = refl
header_one One Two e = absurd (omega (arith, numeral_one 1 2 (ap (λ x. first (others (parts x))) e)))
header_one Two One e = absurd (omega (arith, numeral_one 2 1 (ap (λ x. first (others (parts x))) e)))

-- ---- lines

pub same_line : OneValue → (x y : Sexpr) → LineReadsBack x → LineReadsBack y → line_of x ≡ line_of y → x ≡ y
same_line one x y back_x back_y same =
    let m = length (text_of x) in
    let n = length (text_of y) in
    let here : Spells (line_of x ++ []) 0 x (0 + m) = back_x [] [] in
    let there : Spells (line_of y ++ []) 0 y (0 + n) = back_y [] [] in
    let moved : Spells (line_of x ++ []) 0 y (0 + n) = subst (λ bytes. Spells (bytes ++ []) 0 y (0 + n)) (sym same) there in
    (one (line_of x ++ []) 0 x y (0 + m) (0 + n) here moved).0
