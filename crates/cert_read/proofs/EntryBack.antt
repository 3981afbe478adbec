-- The s-expression of a part within the limits stands for this part.
use Rattle.std.proofs.Common.{◌≡◌, ◌∙◌, refl, ap, arith, ℕ, suc, ◌<◌, ◌≤◌, ◌^◌, ℤ, pos, negsuc, true, false, List, [], ◌∷◌, map, Option, Some, None}
use Rattle.std.specs.Prelude.{All, min, nat_le, unsigned_abs}
use Rattle.std.proofs.lemmas.Int.{ints}
use Rattle.stn_core.specs.Limits.{named_value_limit}
use Rattle.cert_read.specs.code.Shapes.{IsBetween}
use Rattle.std.proofs.lemmas.Bool.{le-leb, leb-true, false_from_ne_true}
use Rattle.std.proofs.lemmas.List.Elements.{recursion_from_All}
use Rattle.std.specs.List.{AllByRecursion}
use Rattle.smt_sexpr.specs.Tree.{Sexpr}
use Rattle.stn_core.specs.declared.literal.Literal.{Literal}
use Rattle.stn_core.specs.declared.named.NamedValue.{NamedValue}
use Rattle.stn_core.specs.declared.named.NamedValue.TheVariants.{Int, Truth}
use Rattle.refute_tree.specs.declared.step.Step.{Step}
use Rattle.refute_tree.specs.declared.step.Step.TheVariants.{Cycle, Input, Lemma as Earlier, Clash, Either}
use Rattle.kept_lemmas.specs.declared.item.Item.{Item}
use Rattle.kept_lemmas.specs.declared.item.Item.TheVariants.{Own, Keep}
use Rattle.cert_text.specs.declared.entry.Version.{Version}
use Rattle.cert_text.specs.declared.entry.Version.TheVariants.{One, Two}
use Rattle.cert_text.specs.Form.{numeral, bound_sexprs, number_of_value, literal_sexpr, step_sexpr, item_sexpr, value_sexpr}
use Rattle.smt_sexpr.specs.Shapes.{items_of}
use Rattle.cert_text.proofs.OneEntry.{numeral_value}
use Rattle.cert_read.specs.Parts.{limit, limited, numeral_within, index_of, point_of, number_within, number_of, whole_of, each_of, bound_of, literal_of, step_of, item_of, named_value_of}
use Rattle.cert_text.specs.Limits.{WholeFits}
use Rattle.cert_read.specs.Written.{NumberFits, LiteralWithin, StepWithin, ItemWithin, ValueFits}

-- ---- numbers

pub limited_is : (most n : ℕ) → n ≤ most → limited most n ≡ Some n
limited_is most n h = rw (le-leb n most h) refl

pub limited_past : (most n : ℕ) → most < n → limited most n ≡ None
limited_past most n h =
    let above : nat_le n most ≡ false = false_from_ne_true (nat_le n most) (λ e. absurd (let low : n ≤ most = leb-true n most e in omega (arith, h, low))) in
    rw above refl

numeral_back : (most n : ℕ) → n ≤ most → numeral_within most (numeral n) ≡ Some n
numeral_back most n h = ap (limited most) (numeral_value n) ∙ limited_is most n h

pub index_back : (n : ℕ) → n ≤ limit → index_of (numeral n) ≡ Some n
index_back n h = numeral_back limit n h

least_is : (n : ℕ) → n < 2 ^ 32 → min n 4294967295 ≡ n
least_is n h = omega arith

point_back : (n : ℕ) → n < 2 ^ 32 → point_of (numeral n) ≡ Some n
point_back n h = rw (index_back n (omega arith)) (ap Some (least_is n h))

within_back : (most : ℕ) (n : ℤ) → unsigned_abs n ≤ most → number_within most (number_of_value n) ≡ Some n
within_back most (pos n) h = rw (numeral_back most n h) refl
within_back most (negsuc n) h = rw (numeral_back most (suc n) h) refl

number_back : (n : ℤ) → NumberFits n → number_of (number_of_value n) ≡ Some n
number_back n h = within_back limit n h

least_size : (most : ℕ) (n : ℤ) → IsBetween most n → unsigned_abs n ≤ most
least_size most (pos n) h = omega (arith, ints, h.0, h.1)
least_size most (negsuc n) h = omega (arith, ints, h.0, h.1)

pub whole_back : (n : ℤ) → WholeFits n → whole_of (number_of_value n) ≡ Some n
whole_back n h = within_back named_value_limit n (least_size named_value_limit n h)

-- ---- parts

abbrev LiteralFits : Literal → Type 0
LiteralFits l = LiteralWithin (2 ^ 32) l

abbrev StepFits : Version → Step → Type 0
StepFits version s = StepWithin version (2 ^ 32) s

abbrev pub ItemFits : Version → Item → Type 0
ItemFits version item = ItemWithin version (2 ^ 32) item

each_from : {A : Type 0} (f : Sexpr → Option A) (g : A → Sexpr) (P : A → Type 0) → ((x : A) → P x → f (g x) ≡ Some x) → (xs : List A) → AllByRecursion P xs → each_of f (items_of (map g xs)) ≡ Some xs
each_from f g P back [] h = refl
each_from f g P back (x ∷ xs) h = rw (back x h.0, each_from f g P back xs h.1) refl

pub each_back : {A : Type 0} (f : Sexpr → Option A) (g : A → Sexpr) (P : A → Type 0) → ((x : A) → P x → f (g x) ≡ Some x) → (xs : List A) → All P xs → each_of f (items_of (map g xs)) ≡ Some xs
each_back f g P back xs h = each_from f g P back xs (recursion_from_All P xs h)

bound_back : (l : Literal) → LiteralFits l → bound_of (items_of (bound_sexprs l)) ≡ Some l
bound_back l h = rw (point_back l.x h.x, point_back l.y h.y, number_back l.c h.c) refl

literals_back : (ls : List Literal) → All LiteralFits ls → each_of literal_of (items_of (map literal_sexpr ls)) ≡ Some ls
literals_back ls h = each_back literal_of literal_sexpr LiteralFits bound_back ls h

step_back : (version : Version) (s : Step) → StepFits version s → step_of version (step_sexpr s) ≡ Some s
step_back version (Cycle ls) h = rw (literals_back ls h) refl
step_back version (Input i) h = rw (index_back i h) refl
step_back version (Earlier j) h = rw (index_back j h) refl
step_back One (Clash i) h = absurd h
step_back Two (Clash i) h = rw (index_back i h) refl
step_back version (Either l) h = rw (bound_back l h) refl

pub item_back : (version : Version) (item : Item) → ItemFits version item → item_of version (item_sexpr item) ≡ Some item
item_back version (Own l) h = rw (literals_back l.clause h.clause, each_back (step_of version) step_sexpr (StepFits version) (step_back version) l.steps h.steps) refl
item_back One (Keep k) h = absurd h
item_back Two (Keep k) h = rw (index_back k.entry h.0, index_back k.item h.1) refl

pub value_back : (v : NamedValue) → ValueFits v → named_value_of (value_sexpr v) ≡ Some v
value_back (Int n) h = rw (within_back named_value_limit n (least_size named_value_limit n h)) refl
value_back (Truth true) h = refl
value_back (Truth false) h = refl
