-- Plain lines: a command, its numbers, then its options in any order, each at most once and as two words, with numerals in range or
-- one of the words of `--emit`.
use Rattle.std.specs.Prelude.{◌≡◌, ◌≢◌, ◌≤◌, ℕ, List, [], ◌∷◌, codes}
use Rattle.std.specs.List.{AllByRecursion}
use Rattle.std.specs.Str.Parse.{IsNumeral, digits_value}
use Rattle.clap.specs.Words.{Text}
use Rattle.command_line.specs.declared.line.Line.{Line}
use Rattle.command_line.specs.declared.line.Line.TheVariants.{Solve, Certify, Check, Convert, Bench, Jobshop}
use Rattle.command_line.specs.declared.line.Emit.{Emit}
use Rattle.command_line.specs.declared.line.Emit.TheVariants.{Plan, Script, Certificate}
use Rattle.command_line.specs.declared.line.Format.{Format}
use Rattle.command_line.specs.declared.line.Format.TheVariants.{One, Two}
use Rattle.command_line.specs.declared.line.Search.{Search}
use Rattle.command_line.specs.declared.line.Shop.{Shop}

-- the text is a numeral of n, which is from the least to the most
pub record IsNumeralOf (least most : ℕ) (text : Text) (n : ℕ) : Type 0 where
  pub numeral : IsNumeral 10 text
  pub value : digits_value 10 text ≡ n
  pub first : least ≤ n
  pub last : n ≤ most

-- the four numbers of a job shop, in this order
pub record AreNumbersOf (jobs machines start deadline : Text) (shop : Shop) : Type 0 where
  pub jobs_is : IsNumeralOf 1 40 jobs shop.jobs
  pub machines_is : IsNumeralOf 1 40 machines shop.machines
  pub start_is : IsNumeralOf 0 4294967295 start shop.start
  pub deadline_is : IsNumeralOf 0 1000000 deadline shop.deadline

-- an option that is given
pub data Given : Type 0 where
  workers : (n : ℕ) → Given
  slice : (n : ℕ) → Given
  format : (version : Format) → Given
  emit : (what : Emit) → Given

abbrev pub name_of : Given → Text
name_of (workers n) = codes "--workers"
name_of (slice n) = codes "--slice"
name_of (format version) = codes "--format"
name_of (emit what) = codes "--emit"

abbrev pub number_of_format : Format → ℕ
number_of_format One = 1
number_of_format Two = 2

abbrev pub word_of : Emit → Text
word_of Plan = codes "plan"
word_of Script = codes "script"
word_of Certificate = codes "certificate"

abbrev pub IsValueOf : Given → Text → Type 0
IsValueOf (workers n) text = IsNumeralOf 1 64 text n
IsValueOf (slice n) text = IsNumeralOf 1 1000000 text n
IsValueOf (format version) text = IsNumeralOf 1 2 text (number_of_format version)
IsValueOf (emit what) text = text ≡ word_of what

-- the words are options that a command takes, each as its name and its value, and no two of the same name
pub data AreOptions (Takes : Given → Type 0) : List Text → List Given → Type 0 where
  none : AreOptions Takes [] []
  more : {g : Given} {value : Text} {words : List Text} {given : List Given} → Takes g → IsValueOf g value
      → AllByRecursion (λ other. name_of other ≢ name_of g) given → AreOptions Takes words given
      → AreOptions Takes (name_of g ∷ value ∷ words) (g ∷ given)

-- the options of `solve`, of `certify`, of `bench` and of `jobshop`
abbrev pub OfSolve : Given → Type 0
OfSolve (workers n) = Unit {0}
OfSolve (slice n) = Unit {0}
OfSolve _ = ⊥

abbrev pub OfCertify : Given → Type 0
OfCertify (workers n) = Unit {0}
OfCertify (slice n) = Unit {0}
OfCertify (format version) = Unit {0}
OfCertify _ = ⊥

abbrev pub OfBench : Given → Type 0
OfBench (workers n) = Unit {0}
OfBench _ = ⊥

abbrev pub OfJobshop : Given → Type 0
OfJobshop (workers n) = Unit {0}
OfJobshop (slice n) = Unit {0}
OfJobshop (emit what) = Unit {0}
OfJobshop _ = ⊥

-- what they say; 4 workers, slices of 1,000, the first version and the plan where they don't say it
abbrev pub workers_in : List Given → ℕ
workers_in [] = 4
workers_in (workers n ∷ given) = n
workers_in (_ ∷ given) = workers_in given

abbrev pub slice_in : List Given → ℕ
slice_in [] = 1000
slice_in (slice n ∷ given) = n
slice_in (_ ∷ given) = slice_in given

abbrev pub format_in : List Given → Format
format_in [] = One
format_in (format version ∷ given) = version
format_in (_ ∷ given) = format_in given

abbrev pub emit_in : List Given → Emit
emit_in [] = Plan
emit_in (emit what ∷ given) = what
emit_in (_ ∷ given) = emit_in given

abbrev pub search_in : List Given → Search
search_in given = record { workers = workers_in given; slice = slice_in given }

pub data IsPlainLine : List Text → Line → Type 0 where
  solve : {words : List Text} {given : List Given} → AreOptions OfSolve words given → IsPlainLine (codes "solve" ∷ words) (Solve (search_in given))
  certify : {words : List Text} {given : List Given} → AreOptions OfCertify words given → IsPlainLine (codes "certify" ∷ words) (Certify (search_in given) (format_in given))
  check : IsPlainLine (codes "check" ∷ []) Check
  convert : IsPlainLine (codes "convert" ∷ []) Convert
  bench : {a b c d : Text} {shop : Shop} {words : List Text} {given : List Given} → AreNumbersOf a b c d shop → AreOptions OfBench words given
      → IsPlainLine (codes "bench" ∷ a ∷ b ∷ c ∷ d ∷ words) (Bench shop (workers_in given))
  jobshop : {words : List Text} {given : List Given} → AreOptions OfJobshop words given
      → IsPlainLine (codes "jobshop" ∷ words) (Jobshop (search_in given) (emit_in given))
