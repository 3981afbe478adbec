-- What is read as a part of an entry has the part's own form.
use Rattle.std.proofs.Common.{◌≡◌, ◌⊎◌, inl, inr, ◌∙◌, refl, sym, ap, subst, arith, ℕ, zero, suc, ◌-◌, ◌<◌, ◌≤◌, ◌^◌, ℤ, pos, negsuc, Bool, true, false, List, [], ◌∷◌, map, Option, Some, None}
use Rattle.std.proofs.lemmas.Int.{ints}
use Rattle.stn_core.specs.Limits.{named_value_limit}
use Rattle.cert_read.specs.code.Shapes.{IsBetween}
use Rattle.std.specs.Prelude.{All, min, unsigned_abs, codes, option_map, option_and_then, if◌then◌else◌, nat_le}
use Rattle.std.specs.Option.{option_or}
use Rattle.std.specs.Str.{bytes_eq}
use Rattle.std.specs.List.{AllByRecursion}
use Rattle.std.proofs.lemmas.Bool.{leb-true}
use Rattle.std.proofs.lemmas.Slice.Eq.{bytes_eq-Decides}
use Rattle.std.proofs.lemmas.List.Elements.{recursion_from_All, All-from_recursion}
use Rattle.smt_lex.specs.declared.token.TokenKind.TheVariants.{Numeral, Symbol}
use Rattle.smt_lex.specs.Numbers.{value_of}
use Rattle.smt_sexpr.specs.Tree.{Sexpr, Items, leaf, list, none, more, symbol_of}
use Rattle.smt_sexpr.specs.Printing.{IsWritable, AreWritable}
use Rattle.stn_core.specs.declared.literal.Literal.{Literal}
use Rattle.stn_core.specs.declared.named.NamedValue.{NamedValue}
use Rattle.stn_core.specs.declared.named.NamedValue.TheVariants.{Int, Truth}
use Rattle.refute_tree.specs.declared.step.Step.{Step}
use Rattle.refute_tree.specs.declared.step.Step.TheVariants.{Cycle, Input, Lemma as Earlier, Clash, Either}
use Rattle.refute_tree.specs.declared.lemma.Lemma.{Lemma}
use Rattle.kept_lemmas.specs.declared.item.Kept.{Kept}
use Rattle.kept_lemmas.specs.declared.item.Item.{Item}
use Rattle.kept_lemmas.specs.declared.item.Item.TheVariants.{Own, Keep}
use Rattle.cert_text.specs.declared.entry.Version.{Version}
use Rattle.cert_text.specs.declared.entry.Version.TheVariants.{One, Two}
use Rattle.cert_text.specs.Form.{numeral_text, numeral, bound_sexprs, number_of_value, literal_sexpr, clause_sexpr, step_sexpr, item_sexpr, value_sexpr}
use Rattle.smt_sexpr.specs.Shapes.{symbol, items_of, is_symbol, headed_of}
use Rattle.cert_read.specs.Parts.{limit, numeral_within, index_of, point_of, negative, negative_within, number_within, number_of, whole_of, put, each_of, literal_with, bound_of, literal_of, clause_of, single_of, only_in_two, step_named, step_of, lemma_with, lemma_from, kept_with, kept_from, item_named, item_of, truth_named, named_value_of}
use Rattle.cert_read.specs.Written.{NumberFits, LiteralWithin, StepWithin, LemmaWithin, ItemWithin, ValueFits}
use Rattle.cert_read.proofs.HeaderAndEnd.{symbol_is}
use Rattle.cert_read.proofs.NumeralTexts.{text_of_value}

-- ---- options

pub some_same : {A : Type 0} (x y : A) → ◌≡◌ {A = Option A} (Some x) (Some y) → x ≡ y
some_same x y e = cc

pub none_some : {A : Type 0} (x : A) → ◌≡◌ {A = Option A} None (Some x) → ⊥
none_some x e = cc

pub mapped : {A B : Type 0} (f : A → B) (o : Option A) (y : B) → option_map f o ≡ Some y → (x : A) × (o ≡ Some x) × (f x ≡ y)
mapped f None y e = absurd (none_some y e)
mapped f (Some x) y e = (x, refl, some_same (f x) y e)

pub chained : {A B : Type 0} (f : A → Option B) (o : Option A) (y : B) → option_and_then f o ≡ Some y → (x : A) × (o ≡ Some x) × (f x ≡ Some y)
chained f None y e = absurd (none_some y e)
chained f (Some x) y e = (x, refl, e)

pub branch : {A : Type 0} (b : Bool) (o p : Option A) (y : A) → (if b then o else p) ≡ Some y → ((b ≡ true) × (o ≡ Some y)) ⊎ (p ≡ Some y)
branch true o p y e = inl (refl, e)
branch false o p y e = inr e

-- a test, or nothing
pub tested : {A : Type 0} (b : Bool) (o : Option A) (y : A) → (if b then o else None) ≡ Some y → (b ≡ true) × (o ≡ Some y)
tested true o y e = (refl, e)
tested false o y e = absurd (none_some y e)

-- ---- numbers

numeral_only : (most : ℕ) (x : Sexpr) (n : ℕ) → IsWritable x → numeral_within most x ≡ Some n → (n ≤ most) × (x ≡ numeral n)
numeral_only most (leaf Numeral text) n w e =
    let t = tested (nat_le (value_of text) most) (Some (value_of text)) n e in
    let value = some_same (value_of text) n t.1 in
    let low : value_of text ≤ most = leb-true (value_of text) most t.0 in
    (omega (arith, low, value), ap (leaf Numeral) (sym (text_of_value text w) ∙ ap numeral_text value))
numeral_only most (leaf other text) n w e = absurd (none_some n e)
numeral_only most (list xs) n w e = absurd (none_some n e)

pub index_only : (x : Sexpr) (n : ℕ) → IsWritable x → index_of x ≡ Some n → (n ≤ limit) × (x ≡ numeral n)
index_only x n w e = numeral_only limit x n w e

point_only : (x : Sexpr) (n : ℕ) → IsWritable x → point_of x ≡ Some n → (n < 2 ^ 32) × (n < 2 ^ 32 - 1 → x ≡ numeral n)
point_only x n w e =
    let p = mapped (λ (m : ℕ). min m 4294967295) (index_of x) n e in
    let least : min p.0 4294967295 ≡ n = p.2 in
    let index = index_only x p.0 w p.1 in
    (omega (arith, least), λ plain. index.1 ∙ ap numeral (omega (arith, least, plain)))

negative_only : (n : ℕ) (z : ℤ) → negative n ≡ Some z → (k : ℕ) × (n ≡ suc k) × (negsuc k ≡ z)
negative_only zero z e = absurd (none_some z e)
negative_only (suc k) z e = (k, refl, some_same (negsuc k) z e)

-- the number that an option's index is, or else
number_from : (o : Option ℕ) (p : Option ℤ) (z : ℤ) → option_or (option_map pos o) p ≡ Some z → ((n : ℕ) × (o ≡ Some n) × (pos n ≡ z)) ⊎ (p ≡ Some z)
number_from None p z e = inr e
number_from (Some n) p z e = inl (n, refl, some_same (pos n) z e)

-- the number's absolute value is at most so much
abbrev SizeFits : ℕ → ℤ → Type 0
SizeFits most z = unsigned_abs z ≤ most

minus_only : (most : ℕ) (head x : Sexpr) (z : ℤ) → IsWritable x → negative_within most (list (more head (more x none))) ≡ Some z → SizeFits most z × (list (more head (more x none)) ≡ number_of_value z)
minus_only most head x z w e =
    let t = tested (is_symbol (codes "-") head) (option_and_then negative (numeral_within most x)) z e in
    let c = chained negative (numeral_within most x) z t.1 in
    let n = negative_only c.0 z c.2 in
    let index = numeral_only most x c.0 w c.1 in
    let same : list (more head (more x none)) ≡ number_of_value (negsuc n.0) = λ i. list (more (symbol_is (codes "-") head t.0 i) (more ((index.1 ∙ ap numeral n.1) i) none)) in
    let fits : SizeFits most (negsuc n.0) = omega (arith, index.0, n.1) in
    (subst (SizeFits most) n.2 fits, same ∙ ap number_of_value n.2)

negative_form : (most : ℕ) (x : Sexpr) (z : ℤ) → IsWritable x → negative_within most x ≡ Some z → SizeFits most z × (x ≡ number_of_value z)
negative_form most (leaf kind text) z w e = absurd (none_some z e)
negative_form most (list none) z w e = absurd (none_some z e)
negative_form most (list (more head none)) z w e = absurd (none_some z e)
negative_form most (list (more head (more x none))) z w e = minus_only most head x z w.1.0 e
negative_form most (list (more head (more x (more y ys)))) z w e = absurd (none_some z e)

pub within_only : (most : ℕ) (x : Sexpr) (z : ℤ) → IsWritable x → number_within most x ≡ Some z → SizeFits most z × (x ≡ number_of_value z)
within_only most x z w e = elim (number_from (numeral_within most x) (negative_within most x) z e) [
  | inl h ↦ (let index = numeral_only most x h.0 w h.1 in (subst (SizeFits most) h.2 index.0, index.1 ∙ ap number_of_value h.2))
  | inr h ↦ negative_form most x z w h
]

number_only : (x : Sexpr) (z : ℤ) → IsWritable x → number_of x ≡ Some z → NumberFits z × (x ≡ number_of_value z)
number_only x z w e = within_only limit x z w e

pub between : (most : ℕ) (z : ℤ) → SizeFits most z → IsBetween most z
between most (pos n) h = (omega (arith, ints, h), omega (arith, ints, h))
between most (negsuc n) h = (omega (arith, ints, h), omega (arith, ints, h))

-- ---- lists

-- what is read is within the limits, and has its own form where it is plain
abbrev pub Only : {A : Type 0} → (Sexpr → Option A) → (A → Sexpr) → (A → Type 0) → (A → Type 0) → Type 0
Only {A} f g Fits Plain = (x : Sexpr) (a : A) → IsWritable x → f x ≡ Some a → Fits a × (Plain a → x ≡ g a)

pub put_parts : {A : Type 0} (o : Option A) (p : Option (List A)) (ys : List A) → put o p ≡ Some ys → (z : A) × (zs : List A) × (o ≡ Some z) × (p ≡ Some zs) × (z ∷ zs ≡ ys)
put_parts None p ys e = absurd (none_some ys e)
put_parts (Some z) None ys e = absurd (none_some ys e)
put_parts (Some z) (Some zs) ys e = (z, zs, refl, refl, some_same (z ∷ zs) ys e)

abbrev pub EachOnly : {A : Type 0} → (A → Sexpr) → (A → Type 0) → (A → Type 0) → Items → List A → Type 0
EachOnly g Fits Plain xs ys = AllByRecursion Fits ys × (AllByRecursion Plain ys → xs ≡ items_of (map g ys))

pub more_same : (x y : Sexpr) (xs ys : Items) → x ≡ y → xs ≡ ys → more x xs ≡ more y ys
more_same x y xs ys e f = λ i. more (e i) (f i)

each_from : {A : Type 0} (f : Sexpr → Option A) (g : A → Sexpr) (Fits Plain : A → Type 0) → Only f g Fits Plain → (xs : Items) (ys : List A) → AreWritable xs → each_of f xs ≡ Some ys → EachOnly g Fits Plain xs ys
each_from {A} f g Fits Plain only none ys w e =
    subst (λ (zs : List A). EachOnly g Fits Plain none zs) (some_same [] ys e) (tt, λ plain. refl)
each_from {A} f g Fits Plain only (more x xs) ys w e =
    let p = put_parts (f x) (each_of f xs) ys e in
    let first = only x p.0 w.0 p.2 in
    let rest = each_from f g Fits Plain only xs p.1 w.1 p.3 in
    subst (λ (zs : List A). EachOnly g Fits Plain (more x xs) zs) p.4 ((first.0, rest.0), λ plain. more_same x (g p.0) xs (items_of (map g p.1)) (first.1 plain.0) (rest.1 plain.1))

pub each_only : {A : Type 0} (f : Sexpr → Option A) (g : A → Sexpr) (Fits Plain : A → Type 0) → Only f g Fits Plain → (xs : Items) (ys : List A) → AreWritable xs → each_of f xs ≡ Some ys → All Fits ys × (All Plain ys → xs ≡ items_of (map g ys))
each_only f g Fits Plain only xs ys w e =
    let h = each_from f g Fits Plain only xs ys w e in
    (All-from_recursion Fits ys h.0, λ plain. h.1 (recursion_from_All Plain ys plain))

-- ---- literals and clauses

abbrev Bound : ℕ → Literal → Type 0
Bound points l = LiteralWithin points l

literal_parts : (o p : Option ℕ) (q : Option ℤ) (l : Literal) → literal_with o p q ≡ Some l → (o ≡ Some l.x) × (p ≡ Some l.y) × (q ≡ Some l.c)
literal_parts None p q l e = absurd (none_some l e)
literal_parts (Some x) None q l e = absurd (none_some l e)
literal_parts (Some x) (Some y) None l e = absurd (none_some l e)
literal_parts (Some x) (Some y) (Some c) l e =
    let same = some_same (record { x = x; y = y; c = c }) l e in
    (ap (λ (k : Literal). Some k.x) same, ap (λ (k : Literal). Some k.y) same, ap (λ (k : Literal). Some k.c) same)

three_only : (x y c : Sexpr) (l : Literal) → IsWritable x → IsWritable y → IsWritable c → literal_with (point_of x) (point_of y) (number_of c) ≡ Some l → Bound (2 ^ 32) l × (Bound (2 ^ 32 - 1) l → more x (more y (more c none)) ≡ items_of (bound_sexprs l))
three_only x y c l wx wy wc e =
    let parts = literal_parts (point_of x) (point_of y) (number_of c) l e in
    let px = point_only x l.x wx parts.0 in
    let py = point_only y l.y wy parts.1 in
    let pc = number_only c l.c wc parts.2 in
    (record { x = px.0; y = py.0; c = pc.0 }, λ plain. λ i. more (px.1 plain.x i) (more (py.1 plain.y i) (more (pc.1 i) none)))

bound_only : (xs : Items) (l : Literal) → AreWritable xs → bound_of xs ≡ Some l → Bound (2 ^ 32) l × (Bound (2 ^ 32 - 1) l → xs ≡ items_of (bound_sexprs l))
bound_only none l w e = absurd (none_some l e)
bound_only (more x none) l w e = absurd (none_some l e)
bound_only (more x (more y none)) l w e = absurd (none_some l e)
bound_only (more x (more y (more c none))) l w e = three_only x y c l w.0 w.1.0 w.1.1.0 e
bound_only (more x (more y (more c (more z zs)))) l w e = absurd (none_some l e)

literal_only : Only literal_of literal_sexpr (Bound (2 ^ 32)) (Bound (2 ^ 32 - 1))
literal_only (leaf kind text) l w e = absurd (none_some l e)
literal_only (list xs) l w e = let h = bound_only xs l w e in (h.0, λ plain. ap list (h.1 plain))

literals_only : (xs : Items) (ls : List Literal) → AreWritable xs → each_of literal_of xs ≡ Some ls → All (Bound (2 ^ 32)) ls × (All (Bound (2 ^ 32 - 1)) ls → xs ≡ items_of (map literal_sexpr ls))
literals_only = each_only literal_of literal_sexpr (Bound (2 ^ 32)) (Bound (2 ^ 32 - 1)) literal_only

clause_only : (x : Sexpr) (ls : List Literal) → IsWritable x → clause_of x ≡ Some ls → All (Bound (2 ^ 32)) ls × (All (Bound (2 ^ 32 - 1)) ls → x ≡ clause_sexpr ls)
clause_only (leaf kind text) ls w e = absurd (none_some ls e)
clause_only (list xs) ls w e = let h = literals_only xs ls w e in (h.0, λ plain. ap list (h.1 plain))

-- ---- heads

symbol_only : (x : Sexpr) (name : List ℕ) → symbol_of x ≡ Some name → x ≡ symbol name
symbol_only (leaf Symbol text) name e = ap symbol (some_same text name e)
symbol_only (leaf other text) name e = absurd (none_some name e)
symbol_only (list xs) name e = absurd (none_some name e)

pub headed_only : (x : Sexpr) (name : List ℕ) (xs : Items) → IsWritable x → headed_of x ≡ Some (name, xs) → (x ≡ list (more (symbol name) xs)) × AreWritable xs
headed_only (leaf kind text) name xs w e = absurd (none_some (name, xs) e)
headed_only (list none) name xs w e = absurd (none_some (name, xs) e)
headed_only (list (more head rest)) name xs w e =
    let m = mapped (λ (text : List ℕ). (text, rest)) (symbol_of head) (name, xs) e in
    let text : m.0 ≡ name = ap (λ (p : List ℕ × Items). p.0) m.2 in
    let items : rest ≡ xs = ap (λ (p : List ℕ × Items). p.1) m.2 in
    let first : head ≡ symbol name = symbol_only head m.0 m.1 ∙ ap symbol text in
    ((λ i. list (more (first i) (items i))), subst AreWritable items w.1)

-- a list whose head has this name
pub named : (x : Sexpr) (name text : List ℕ) (xs ys : Items) → x ≡ list (more (symbol name) xs) → bytes_eq name text ≡ true → xs ≡ ys → x ≡ list (more (symbol text) ys)
named x name text xs ys e test same = e ∙ (λ i. list (more (symbol ((bytes_eq-Decides name text).0 test i)) (same i)))

-- ---- steps

single_only : (xs : Items) (n : ℕ) → AreWritable xs → single_of xs ≡ Some n → (n ≤ limit) × (xs ≡ items_of (numeral n ∷ []))
single_only none n w e = absurd (none_some n e)
single_only (more x none) n w e = let h = index_only x n w.0 e in (h.0, ap (λ (y : Sexpr). more y none) h.1)
single_only (more x (more y ys)) n w e = absurd (none_some n e)

abbrev StepOnly : Version → Sexpr → Step → Type 0
StepOnly version x s = StepWithin version (2 ^ 32) s × (StepWithin version (2 ^ 32 - 1) s → x ≡ step_sexpr s)

-- what is read as only version 2 has it
two_only : {A : Type 0} (version : Version) (o : Option A) (y : A) → only_in_two version o ≡ Some y → (version ≡ Two) × (o ≡ Some y)
two_only One o y e = absurd (none_some y e)
two_only Two o y e = (refl, e)

module _ (version : Version) (x : Sexpr) (name : List ℕ) (xs : Items) (is : x ≡ list (more (symbol name) xs)) (w : AreWritable xs) where
  cycle_only : (s : Step) → bytes_eq name (codes "cycle") ≡ true → option_map Cycle (each_of literal_of xs) ≡ Some s → StepOnly version x s
  cycle_only s test e =
      let m = mapped Cycle (each_of literal_of xs) s e in
      let h = literals_only xs m.0 w m.1 in
      subst (StepOnly version x) m.2 (h.0, λ plain. named x name (codes "cycle") xs (items_of (map literal_sexpr m.0)) is test (h.1 plain))

  input_only : (s : Step) → bytes_eq name (codes "input") ≡ true → option_map Input (single_of xs) ≡ Some s → StepOnly version x s
  input_only s test e =
      let m = mapped Input (single_of xs) s e in
      let h = single_only xs m.0 w m.1 in
      subst (StepOnly version x) m.2 (h.0, λ plain. named x name (codes "input") xs (items_of (numeral m.0 ∷ [])) is test h.1)

  earlier_only : (s : Step) → bytes_eq name (codes "lemma") ≡ true → option_map Earlier (single_of xs) ≡ Some s → StepOnly version x s
  earlier_only s test e =
      let m = mapped Earlier (single_of xs) s e in
      let h = single_only xs m.0 w m.1 in
      subst (StepOnly version x) m.2 (h.0, λ plain. named x name (codes "lemma") xs (items_of (numeral m.0 ∷ [])) is test h.1)

  clash_by : (s : Step) (i : ℕ) → bytes_eq name (codes "clash") ≡ true → (i ≤ limit) × (xs ≡ items_of (numeral i ∷ [])) → version ≡ Two → Clash i ≡ s → StepOnly version x s
  clash_by s i test h two is_step =
      subst (λ (v : Version). StepOnly v x s) (sym two) (subst (StepOnly Two x) is_step (h.0, λ plain. named x name (codes "clash") xs (items_of (numeral i ∷ [])) is test h.1))

  clash_only : (s : Step) → bytes_eq name (codes "clash") ≡ true → option_map Clash (only_in_two version (single_of xs)) ≡ Some s → StepOnly version x s
  clash_only s test e =
      let m = mapped Clash (only_in_two version (single_of xs)) s e in
      let two = two_only version (single_of xs) m.0 m.1 in
      clash_by s m.0 test (single_only xs m.0 w two.1) two.0 m.2

  either_only : (s : Step) → bytes_eq name (codes "either") ≡ true → option_map Either (bound_of xs) ≡ Some s → StepOnly version x s
  either_only s test e =
      let m = mapped Either (bound_of xs) s e in
      let h = bound_only xs m.0 w m.1 in
      subst (StepOnly version x) m.2 (h.0, λ plain. named x name (codes "either") xs (items_of (bound_sexprs m.0)) is test (h.1 plain))

  step_cases : (s : Step) → step_named version name xs ≡ Some s → StepOnly version x s
  step_cases s e =
      let fifth = if bytes_eq name (codes "either") then option_map Either (bound_of xs) else None in
      let fourth = if bytes_eq name (codes "clash") then option_map Clash (only_in_two version (single_of xs)) else fifth in
      let third = if bytes_eq name (codes "lemma") then option_map Earlier (single_of xs) else fourth in
      let second = if bytes_eq name (codes "input") then option_map Input (single_of xs) else third in
      elim (branch (bytes_eq name (codes "cycle")) (option_map Cycle (each_of literal_of xs)) second s e) [
        | inl h ↦ cycle_only s h.0 h.1
        | inr e2 ↦ elim (branch (bytes_eq name (codes "input")) (option_map Input (single_of xs)) third s e2) [
          | inl h ↦ input_only s h.0 h.1
          | inr e3 ↦ elim (branch (bytes_eq name (codes "lemma")) (option_map Earlier (single_of xs)) fourth s e3) [
            | inl h ↦ earlier_only s h.0 h.1
            | inr e4 ↦ elim (branch (bytes_eq name (codes "clash")) (option_map Clash (only_in_two version (single_of xs))) fifth s e4) [
              | inl h ↦ clash_only s h.0 h.1
              | inr e5 ↦ (let h = tested (bytes_eq name (codes "either")) (option_map Either (bound_of xs)) s e5 in either_only s h.0 h.1)
            ]
          ]
        ]
      ]

step_only : (version : Version) → Only (step_of version) step_sexpr (StepWithin version (2 ^ 32)) (StepWithin version (2 ^ 32 - 1))
step_only version x s w e =
    let c = chained (λ (p : List ℕ × Items). step_named version p.0 p.1) (headed_of x) s e in
    let h = headed_only x c.0.0 c.0.1 w c.1 in
    step_cases version x c.0.0 c.0.1 h.0 h.1 s c.2

-- ---- items

lemma_parts : (o : Option (List Literal)) (p : Option (List Step)) (l : Lemma) → lemma_with o p ≡ Some l → (o ≡ Some l.clause) × (p ≡ Some l.steps)
lemma_parts None p l e = absurd (none_some l e)
lemma_parts (Some clause) None l e = absurd (none_some l e)
lemma_parts (Some clause) (Some steps) l e =
    let same = some_same (record { clause = clause; steps = steps }) l e in
    (ap (λ (k : Lemma). Some k.clause) same, ap (λ (k : Lemma). Some k.steps) same)

abbrev lemma_items : Lemma → Items
lemma_items l = more (clause_sexpr l.clause) (items_of (map step_sexpr l.steps))

lemma_only : (version : Version) (xs : Items) (l : Lemma) → AreWritable xs → lemma_from version xs ≡ Some l → LemmaWithin version (2 ^ 32) l × (LemmaWithin version (2 ^ 32 - 1) l → xs ≡ lemma_items l)
lemma_only version none l w e = absurd (none_some l e)
lemma_only version (more clause steps) l w e =
    let parts = lemma_parts (clause_of clause) (each_of (step_of version) steps) l e in
    let c = clause_only clause l.clause w.0 parts.0 in
    let s = each_only (step_of version) step_sexpr (StepWithin version (2 ^ 32)) (StepWithin version (2 ^ 32 - 1)) (step_only version) steps l.steps w.1 parts.1 in (
      record { clause = c.0; steps = s.0 },
      λ plain. more_same clause (clause_sexpr l.clause) steps (items_of (map step_sexpr l.steps)) (c.1 plain.clause) (s.1 plain.steps),
    )

kept_parts : (o p : Option ℕ) (k : Kept) → kept_with o p ≡ Some k → (o ≡ Some k.entry) × (p ≡ Some k.item)
kept_parts None p k e = absurd (none_some k e)
kept_parts (Some entry) None k e = absurd (none_some k e)
kept_parts (Some entry) (Some item) k e =
    let same = some_same (record { entry = entry; item = item }) k e in
    (ap (λ (l : Kept). Some l.entry) same, ap (λ (l : Kept). Some l.item) same)

abbrev kept_items : Kept → Items
kept_items k = items_of (numeral k.entry ∷ numeral k.item ∷ [])

kept_only : (xs : Items) (k : Kept) → AreWritable xs → kept_from xs ≡ Some k → ((k.entry ≤ limit) × (k.item ≤ limit)) × (xs ≡ kept_items k)
kept_only none k w e = absurd (none_some k e)
kept_only (more x none) k w e = absurd (none_some k e)
kept_only (more x (more y none)) k w e =
    let parts = kept_parts (index_of x) (index_of y) k e in
    let entry = index_only x k.entry w.0 parts.0 in
    let item = index_only y k.item w.1.0 parts.1 in
    ((entry.0, item.0), λ i. more (entry.1 i) (more (item.1 i) none))
kept_only (more x (more y (more z zs))) k w e = absurd (none_some k e)

abbrev ItemOnly : Version → Sexpr → Item → Type 0
ItemOnly version x item = ItemWithin version (2 ^ 32) item × (ItemWithin version (2 ^ 32 - 1) item → x ≡ item_sexpr item)

module _ (version : Version) (x : Sexpr) (name : List ℕ) (xs : Items) (is : x ≡ list (more (symbol name) xs)) (w : AreWritable xs) where
  own_only : (item : Item) → bytes_eq name (codes "lemma") ≡ true → option_map Own (lemma_from version xs) ≡ Some item → ItemOnly version x item
  own_only item test e =
      let m = mapped Own (lemma_from version xs) item e in
      let h = lemma_only version xs m.0 w m.1 in
      subst (ItemOnly version x) m.2 (h.0, λ plain. named x name (codes "lemma") xs (lemma_items m.0) is test (h.1 plain))

  keep_by : (item : Item) (k : Kept) → bytes_eq name (codes "keep") ≡ true → ((k.entry ≤ limit) × (k.item ≤ limit)) × (xs ≡ kept_items k) → version ≡ Two → Keep k ≡ item → ItemOnly version x item
  keep_by item k test h two is_item =
      subst (λ (v : Version). ItemOnly v x item) (sym two) (subst (ItemOnly Two x) is_item (h.0, λ plain. named x name (codes "keep") xs (kept_items k) is test h.1))

  keep_only : (item : Item) → bytes_eq name (codes "keep") ≡ true → option_map Keep (only_in_two version (kept_from xs)) ≡ Some item → ItemOnly version x item
  keep_only item test e =
      let m = mapped Keep (only_in_two version (kept_from xs)) item e in
      let two = two_only version (kept_from xs) m.0 m.1 in
      keep_by item m.0 test (kept_only xs m.0 w two.1) two.0 m.2

  item_cases : (item : Item) → item_named version name xs ≡ Some item → ItemOnly version x item
  item_cases item e =
      let second = if bytes_eq name (codes "keep") then option_map Keep (only_in_two version (kept_from xs)) else None in
      elim (branch (bytes_eq name (codes "lemma")) (option_map Own (lemma_from version xs)) second item e) [
        | inl h ↦ own_only item h.0 h.1
        | inr e2 ↦ (let h = tested (bytes_eq name (codes "keep")) (option_map Keep (only_in_two version (kept_from xs))) item e2 in keep_only item h.0 h.1)
      ]

pub item_only : (version : Version) → Only (item_of version) item_sexpr (ItemWithin version (2 ^ 32)) (ItemWithin version (2 ^ 32 - 1))
item_only version x item w e =
    let c = chained (λ (p : List ℕ × Items). item_named version p.0 p.1) (headed_of x) item e in
    let h = headed_only x c.0.0 c.0.1 w c.1 in
    item_cases version x c.0.0 c.0.1 h.0 h.1 item c.2

-- ---- values

abbrev ValueOnly : Sexpr → NamedValue → Type 0
ValueOnly x v = ValueFits v × (ValueFits v → x ≡ value_sexpr v)

truth_cases : (x : Sexpr) (name : List ℕ) (v : NamedValue) → x ≡ symbol name → truth_named name ≡ Some v → ValueOnly x v
truth_cases x name v is e = elim (branch (bytes_eq name (codes "true")) (Some (Truth true)) (if bytes_eq name (codes "false") then Some (Truth false) else None) v e) [
  | inl h ↦ subst (ValueOnly x) (some_same (Truth true) v h.1) (tt, λ fits. is ∙ ap symbol ((bytes_eq-Decides name (codes "true")).0 h.0))
  | inr e2 ↦ (let h = tested (bytes_eq name (codes "false")) (Some (Truth false)) v e2 in
      subst (ValueOnly x) (some_same (Truth false) v h.1) (tt, λ fits. is ∙ ap symbol ((bytes_eq-Decides name (codes "false")).0 h.0)))
]

value_from : (o : Option ℤ) (p : Option NamedValue) (v : NamedValue) → option_or (option_map Int o) p ≡ Some v → ((n : ℤ) × (o ≡ Some n) × (Int n ≡ v)) ⊎ (p ≡ Some v)
value_from None p v e = inr e
value_from (Some n) p v e = inl (n, refl, some_same (Int n) v e)

pub value_only : Only named_value_of value_sexpr ValueFits ValueFits
value_only x v w e = elim (value_from (whole_of x) (option_and_then truth_named (symbol_of x)) v e) [
  | inl h ↦ (let n = within_only named_value_limit x h.0 w h.1 in subst (ValueOnly x) h.2 (between named_value_limit h.0 n.0, λ fits. n.1))
  | inr e2 ↦ (let c = chained truth_named (symbol_of x) v e2 in truth_cases x c.0 v (symbol_only x c.0 c.1) c.2)
]
