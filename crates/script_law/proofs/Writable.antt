-- The commands and terms of scripts can be written.
use Rattle.std.proofs.Common.{refl, arith, ℕ, ◌<◌, ◌^◌, ◌==◌, Bool, true, false, List, [], ◌∷◌}
use Rattle.std.specs.Prelude.{codes, if◌then◌else◌}
use Rattle.std.specs.List.{AllByRecursion}
use Rattle.smt_lex.specs.Bytes.{is_quoted_byte}
use Rattle.smt_sexpr.specs.Tree.{Sexpr}
use Rattle.smt_sexpr.specs.Printing.{IsWritable}
use Rattle.smt_sexpr.specs.Shapes.{symbol, form}
use Rattle.job_shop.specs.Scripts.{each, numeral, less, point, difference, begins, declares, asserts, all_assert, all_declare, one_name, logic}
use Rattle.job_shop.proofs.Numerals.{numeral_is}
use Rattle.job_shop.proofs.Names.{name_writable}
use Rattle.script_law.specs.Told.{IsLine, AreLines}
use Rattle.script_law.proofs.Lists.{all_each}
use Rattle.script_law.proofs.Starts.{starts_of}

pub two : (op : List ℕ) (x y : Sexpr) → IsWritable (symbol op) → IsWritable x → IsWritable y → IsWritable (form op (x ∷ y ∷ []))
two op x y o h k = (o, (h, (k, tt)))

one : (op : List ℕ) (x : Sexpr) → IsWritable (symbol op) → IsWritable x → IsWritable (form op (x ∷ []))
one op x o h = (o, (h, tt))

-- ---- operators

pub minus : IsWritable (symbol (codes "-"))
unfolding is_quoted_byte
minus = refl

pub at_most : IsWritable (symbol (codes "<="))
unfolding is_quoted_byte
at_most = refl

at_least : IsWritable (symbol (codes ">="))
unfolding is_quoted_byte
at_least = refl

either : IsWritable (symbol (codes "or"))
unfolding is_quoted_byte
either = refl

-- ---- numbers and points

pub numeral_writable : (n : ℕ) → n < 2 ^ 64 → IsWritable (numeral n)
numeral_writable n small = numeral_is n small

less_by : (n : ℕ) (b : Bool) → n < 2 ^ 64 → IsWritable (if b then numeral 0 else form (codes "-") (numeral n ∷ []))
less_by n true small = numeral_writable 0 (omega arith)
less_by n false small = one (codes "-") (numeral n) minus (numeral_writable n small)

pub less_writable : (n : ℕ) → n < 2 ^ 64 → IsWritable (less n)
unfolding less
less_writable n small = less_by n (n == 0) small

pub point_writable : (j k : ℕ) → j < 2 ^ 64 → k < 2 ^ 64 → IsWritable (point j k)
unfolding point
point_writable j k small low = name_writable j k small low

-- ---- terms

pub begins_writable : (j : ℕ) → IsWritable (point j 0) → IsWritable (begins j)
unfolding begins
begins_writable j h = two (codes ">=") (point j 0) (numeral 0) at_least h (numeral_writable 0 (omega arith))

difference_writable : (a i b j : ℕ) → IsWritable (point a i) → IsWritable (point b j) → IsWritable (difference a i b j)
unfolding difference
difference_writable a i b j h k = two (codes "-") (point a i) (point b j) minus h k

pub later_writable : (a i b j n : ℕ) → IsWritable (point a i) → IsWritable (point b j) → n < 2 ^ 64 → IsWritable (form (codes ">=") (difference a i b j ∷ numeral n ∷ []))
later_writable a i b j n h k small = two (codes ">=") (difference a i b j) (numeral n) at_least (difference_writable a i b j h k) (numeral_writable n small)

before_writable : (a i b j n : ℕ) → IsWritable (point a i) → IsWritable (point b j) → n < 2 ^ 64 → IsWritable (form (codes "<=") (difference a i b j ∷ less n ∷ []))
before_writable a i b j n h k small = two (codes "<=") (difference a i b j) (less n) at_most (difference_writable a i b j h k) (less_writable n small)

pub apart_writable : (a i b j m n : ℕ) → IsWritable (point a i) → IsWritable (point b j) → m < 2 ^ 64 → n < 2 ^ 64
    → IsWritable (form (codes "or") (form (codes "<=") (difference a i b j ∷ less m ∷ []) ∷ form (codes "<=") (difference b j a i ∷ less n ∷ []) ∷ []))
apart_writable a i b j m n h k low small =
    two (codes "or") (form (codes "<=") (difference a i b j ∷ less m ∷ [])) (form (codes "<=") (difference b j a i ∷ less n ∷ [])) either (before_writable a i b j m h k low) (before_writable b j a i n k h small)

-- ---- commands

asserted : (t : Sexpr) → IsWritable t → IsLine (asserts t)
unfolding is_quoted_byte
asserted t h = ((refl, (h, tt)), λ rest. tt)

declared : (x : List ℕ) → IsWritable (symbol x) → IsLine (declares x)
unfolding is_quoted_byte
declared x h = ((refl, (h, (refl, tt))), λ rest. tt)

pub all_asserted : (ts : List Sexpr) → AllByRecursion IsWritable ts → AreLines (all_assert ts)
all_asserted [] h = tt
all_asserted (t ∷ ts) h = (asserted t h.0, all_asserted ts h.1)

abbrev pub IsWord : List ℕ → Type 0
IsWord x = IsWritable (symbol x)

pub all_declared : (xs : List (List ℕ)) → AllByRecursion IsWord xs → AreLines (all_declare xs)
all_declared [] h = tt
all_declared (x ∷ xs) h = (declared x h.0, all_declared xs h.1)

pub starts_writable : (jobs machines : ℕ) → jobs < 2 ^ 64 → machines < 2 ^ 64 → AllByRecursion IsWord (each jobs (starts_of machines))
starts_writable jobs machines few short =
    all_each IsWord jobs (starts_of machines) (λ j h. all_each IsWord machines (one_name j) (λ k l. (name_writable j k (omega (arith, few, h)) (omega (arith, short, l)), tt)))

pub logic_line : IsLine logic
unfolding is_quoted_byte
logic_line = ((refl, (refl, tt)), λ rest. tt)
