-- Which texts are instances of the job shop, and why others aren't: words of digits, split at white space, as collections of
-- instances have them (OR-Library: Beasley 1990), without their heading lines. The first is the number of jobs, the second that of
-- machines; then for each job come the pairs of machine and duration of its operations. The first word that has a fault is told, by
-- its number from 1. The limits and the faults are this project's own.
use Rattle.std.specs.Prelude.{◌≡◌, ℕ, zero, suc, ◌+◌, ◌-◌, Bool, true, false, if◌then◌else◌, List, [], ◌∷◌, ◌++◌, codes, decimal, Result, Ok, Err}
use Rattle.job_shop.specs.declared.fault.JobFault.{JobFault}
use Rattle.job_shop.specs.declared.fault.JobFault.TheVariants.{NotANumber, OutOfRange, MachineTwice, TooFewNumbers, TooManyNumbers}
use Rattle.job_shop.specs.declared.fault.JobRefusal.{JobRefusal}
use Rattle.job_shop.specs.declared.fault.JobError.{JobError}
use Rattle.job_shop.specs.declared.fault.JobError.TheVariants.{Refused, OutOfMemory}
use Rattle.job_shop.specs.declared.shop.Operation.{Operation}
use Rattle.job_shop.specs.Shops.{Shop, has_machine}
use Rattle.job_shop.specs.Words.{words, number_in}

-- the words that are left, and the number of the first of them
pub record Rest : Type 0 where
  pub left : List (List ℕ)
  pub number : ℕ

-- one result, and what follows from it; the first refusal counts
abbrev pub follows : {A B : Type 0} → Result A JobRefusal → (A → Result B JobRefusal) → Result B JobRefusal
follows (Ok a) on = on a
follows (Err why) on = Err why

abbrev pub refused : {A : Type 0} → ℕ → JobFault → Result A JobRefusal
refused number fault = Err (record { number = number; fault = fault })

-- ---- numbers

-- the number that a word is, or its fault
abbrev pub number_by : ℕ → List (List ℕ) → Result ℕ JobFault → Result (ℕ × Rest) JobRefusal
number_by number left (Ok n) = Ok (n, record { left = left; number = number + 1 })
number_by number left (Err fault) = refused number fault

-- by the words that are left
abbrev pub number_from : ℕ → ℕ → ℕ → List (List ℕ) → Result (ℕ × Rest) JobRefusal
number_from low high number [] = refused number TooFewNumbers
number_from low high number (word ∷ left) = number_by number left (number_in low high word)

-- the next word as a number in this range
unfoldable pub next_number : ℕ → ℕ → Rest → Result (ℕ × Rest) JobRefusal
next_number low high rest = number_from low high rest.number rest.left

-- no word is left
abbrev pub is_over : Rest → Bool
is_over rest = elim rest.left [
  | [] ↦ true
  | word ∷ left ↦ false
]

-- ---- operations

-- a duration
abbrev pub duration_behind : ℕ → Rest → Result (Operation × Rest) JobRefusal
duration_behind machine rest =
    follows (next_number 0 1000000 rest) (λ found. Ok (record { machine = machine; duration = found.0 }, found.1))

-- a machine that the operations before don't have, and a duration
unfoldable pub next_operation : ℕ → List Operation → Rest → Result (Operation × Rest) JobRefusal
next_operation machines before rest =
    follows (next_number 0 (machines - 1) rest) (λ found. if has_machine found.0 before then refused rest.number MachineTwice else duration_behind found.0 found.1)

-- so many more, behind these
abbrev pub operations : ℕ → ℕ → List Operation → Rest → Result (List Operation × Rest) JobRefusal
operations zero machines before rest = Ok (before, rest)
operations (suc more) machines before rest =
    follows (next_operation machines before rest) (λ found. operations more machines (before ++ found.0 ∷ []) found.1)

-- ---- jobs

-- as many operations as there are machines
unfoldable pub next_job : ℕ → Rest → Result (List Operation × Rest) JobRefusal
next_job machines rest = operations machines machines [] rest

-- so many more, behind these
abbrev pub jobs : ℕ → ℕ → List (List Operation) → Rest → Result (List (List Operation) × Rest) JobRefusal
jobs zero machines before rest = Ok (before, rest)
jobs (suc more) machines before rest =
    follows (next_job machines rest) (λ found. jobs more machines (before ++ found.0 ∷ []) found.1)

-- ---- the whole

-- behind the last job no word may stand
abbrev pub shop_behind : ℕ → List (List Operation) → Rest → Result Shop JobRefusal
shop_behind machines found rest =
    if is_over rest then Ok (record { machines = machines; jobs = found }) else refused rest.number TooManyNumbers

-- the number of jobs, that of machines, and the jobs
abbrev pub shop_of : Rest → Result Shop JobRefusal
shop_of rest =
    follows (next_number 1 40 rest)
    (λ count. follows (next_number 1 40 count.1)
    (λ machines. follows (jobs count.0 machines.0 [] machines.1)
    (λ found. shop_behind machines.0 found.0 found.1)))

-- the instance that the bytes are, or why they are none
unfoldable pub shop_in : List ℕ → Result Shop JobRefusal
shop_in bytes = shop_of (record { left = words bytes; number = 1 })

-- what an error says of a text: why it is no instance; want of memory says nothing
abbrev pub ExplainsText : Result Shop JobRefusal → JobError → Type 0
ExplainsText found (Refused why) = found ≡ Err why
ExplainsText found OutOfMemory = Unit {0}

-- ---- how a refusal is told

abbrev pub text_of_fault : JobFault → List ℕ
text_of_fault NotANumber = codes "not a number"
text_of_fault OutOfRange = codes "out of range"
text_of_fault MachineTwice = codes "machine twice"
text_of_fault TooFewNumbers = codes "too few numbers"
text_of_fault TooManyNumbers = codes "too many numbers"

abbrev pub refusal_line : JobRefusal → List ℕ
refusal_line why =
    codes "(error \"number " ++ (decimal why.number ++ (codes ": " ++ (text_of_fault why.fault ++ codes "\")\n")))
