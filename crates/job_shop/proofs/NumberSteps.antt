-- Numbers, operations, jobs: what is read next, and why it is refused.
use Rattle.std.proofs.Common.{◌≡◌, ◌∙◌, refl, sym, ap, subst, arith, ℕ, suc, ◌+◌, ◌-◌, ◌<◌, Bool, true, false, List, [], ◌∷◌, ◌++◌, length, drop, Result, Ok, Err}
use Rattle.std.specs.Prelude.{if◌then◌else◌, slice_range}
use Rattle.job_shop.specs.declared.fault.JobFault.{JobFault}
use Rattle.job_shop.specs.declared.fault.JobFault.TheVariants.{MachineTwice, TooFewNumbers}
use Rattle.job_shop.specs.declared.fault.JobRefusal.{JobRefusal}
use Rattle.job_shop.specs.declared.fault.JobError.{JobError}
use Rattle.job_shop.specs.declared.fault.JobError.TheVariants.{Refused, OutOfMemory}
use Rattle.job_shop.specs.declared.shop.Operation.{Operation}
use Rattle.job_shop.specs.Shops.{Shop, has_machine}
use Rattle.job_shop.specs.Words.{words, number_in}
use Rattle.job_shop.specs.Instances.{Rest, follows, refused, number_by, number_from, next_number, is_over, duration_behind, next_operation, operations, next_job, jobs, shop_behind, shop_in, ExplainsText}
use Rattle.job_shop.specs.code.Reading.{rest_of, ExplainsJob}
use Rattle.job_shop.proofs.WordSteps.{no_word}

-- ---- numbers

module _ (bytes : List ℕ) (low high number place start : ℕ) (skipped : words (drop place bytes) ≡ words (drop start bytes)) where
  pub number_missing : start ≡ length bytes → next_number low high (rest_of bytes place number) ≡ Err (record { number = number; fault = TooFewNumbers })
  unfolding next_number
  number_missing e = ap (number_from low high number) (skipped ∙ no_word bytes start (omega (arith, e)))

  pub over : start ≡ length bytes → is_over (rest_of bytes place number) ≡ true
  over e = ap (λ (ws : List (List ℕ)). is_over (record { left = ws; number = number })) (skipped ∙ no_word bytes start (omega (arith, e)))

  module _ (end : ℕ) (word : words (drop start bytes) ≡ slice_range bytes start end ∷ words (drop end bytes)) where
    pub number_found : (n : ℕ) → number_in low high (slice_range bytes start end) ≡ Ok n → next_number low high (rest_of bytes place number) ≡ Ok (n, rest_of bytes end (number + 1))
    unfolding next_number
    number_found n e = ap (number_from low high number) (skipped ∙ word) ∙ ap (number_by number (words (drop end bytes))) e

    pub number_faulty : (fault : JobFault) → number_in low high (slice_range bytes start end) ≡ Err fault → next_number low high (rest_of bytes place number) ≡ Err (record { number = number; fault = fault })
    unfolding next_number
    number_faulty fault e = ap (number_from low high number) (skipped ∙ word) ∙ ap (number_by number (words (drop end bytes))) e

-- ---- operations

abbrev machine_then : List Operation → ℕ → ℕ × Rest → Result (Operation × Rest) JobRefusal
machine_then before number found = if has_machine found.0 before then refused number MachineTwice else duration_behind found.0 found.1

abbrev duration_then : ℕ → ℕ × Rest → Result (Operation × Rest) JobRefusal
duration_then machine found = Ok (record { machine = machine; duration = found.0 }, found.1)

module _ (machines : ℕ) (before : List Operation) (rest : Rest) where
  pub no_machine : (why : JobRefusal) → next_number 0 (machines - 1) rest ≡ Err why → next_operation machines before rest ≡ Err why
  unfolding next_operation
  no_machine why e = ap (λ (r : Result (ℕ × Rest) JobRefusal). follows r (machine_then before rest.number)) e

  module _ (machine : ℕ) (later : Rest) (read : next_number 0 (machines - 1) rest ≡ Ok (machine, later)) where
    pub machine_twice : has_machine machine before ≡ true → next_operation machines before rest ≡ Err (record { number = rest.number; fault = MachineTwice })
    unfolding next_operation
    machine_twice e =
        ap (λ (r : Result (ℕ × Rest) JobRefusal). follows r (machine_then before rest.number)) read
        ∙ ap (λ (b : Bool). if b then refused rest.number MachineTwice else duration_behind machine later) e

    module _ (new : has_machine machine before ≡ false) where
      machine_once : next_operation machines before rest ≡ follows (next_number 0 1000000 later) (duration_then machine)
      unfolding next_operation
      machine_once =
          ap (λ (r : Result (ℕ × Rest) JobRefusal). follows r (machine_then before rest.number)) read
          ∙ ap (λ (b : Bool). if b then refused rest.number MachineTwice else duration_behind machine later) new

      pub no_duration : (why : JobRefusal) → next_number 0 1000000 later ≡ Err why → next_operation machines before rest ≡ Err why
      no_duration why e = machine_once ∙ ap (λ (r : Result (ℕ × Rest) JobRefusal). follows r (duration_then machine)) e

      pub operation_found : (duration : ℕ) (last : Rest) → next_number 0 1000000 later ≡ Ok (duration, last) → next_operation machines before rest ≡ Ok (record { machine = machine; duration = duration }, last)
      operation_found duration last e = machine_once ∙ ap (λ (r : Result (ℕ × Rest) JobRefusal). follows r (duration_then machine)) e

-- ---- jobs

abbrev operation_then : ℕ → ℕ → List Operation → Operation × Rest → Result (List Operation × Rest) JobRefusal
operation_then more machines before found = operations more machines (before ++ found.0 ∷ []) found.1

module _ (machines i : ℕ) (below : i < machines) (before : List Operation) (rest : Rest) where
  one_more : machines - i ≡ suc (machines - (i + 1))
  one_more = omega (arith, below)

  next_of : operations (machines - i) machines before rest ≡ follows (next_operation machines before rest) (operation_then (machines - (i + 1)) machines before)
  next_of = ap (λ (n : ℕ). operations n machines before rest) one_more

  pub operations_on : (o : Operation) (later : Rest) → next_operation machines before rest ≡ Ok (o, later)
      → operations (machines - i) machines before rest ≡ operations (machines - (i + 1)) machines (before ++ o ∷ []) later
  operations_on o later e = next_of ∙ ap (λ (r : Result (Operation × Rest) JobRefusal). follows r (operation_then (machines - (i + 1)) machines before)) e

  pub operations_stop : (why : JobRefusal) → next_operation machines before rest ≡ Err why → operations (machines - i) machines before rest ≡ Err why
  operations_stop why e = next_of ∙ ap (λ (r : Result (Operation × Rest) JobRefusal). follows r (operation_then (machines - (i + 1)) machines before)) e

pub job_begins : (machines : ℕ) (rest : Rest) → next_job machines rest ≡ operations (machines - 0) machines [] rest
unfolding next_job
job_begins machines rest = let same : machines ≡ machines - 0 = omega arith in ap (λ (n : ℕ). operations n machines [] rest) same

abbrev job_then : ℕ → ℕ → List (List Operation) → List Operation × Rest → Result (List (List Operation) × Rest) JobRefusal
job_then more machines before found = jobs more machines (before ++ found.0 ∷ []) found.1

-- what comes of the jobs
abbrev pub whole : ℕ → Result (List (List Operation) × Rest) JobRefusal → Result Shop JobRefusal
whole machines found = follows found (λ p. shop_behind machines p.0 p.1)

module _ (count machines i : ℕ) (below : i < count) (before : List (List Operation)) (rest : Rest) where
  more_jobs : count - i ≡ suc (count - (i + 1))
  more_jobs = omega (arith, below)

  next_jobs : jobs (count - i) machines before rest ≡ follows (next_job machines rest) (job_then (count - (i + 1)) machines before)
  next_jobs = ap (λ (n : ℕ). jobs n machines before rest) more_jobs

  pub jobs_on : (job : List Operation) (later : Rest) → next_job machines rest ≡ Ok (job, later)
      → whole machines (jobs (count - i) machines before rest) ≡ whole machines (jobs (count - (i + 1)) machines (before ++ job ∷ []) later)
  jobs_on job later e = ap (whole machines) (next_jobs ∙ ap (λ (r : Result (List Operation × Rest) JobRefusal). follows r (job_then (count - (i + 1)) machines before)) e)

  pub jobs_stop : (why : JobRefusal) → next_job machines rest ≡ Err why → whole machines (jobs (count - i) machines before rest) ≡ Err why
  jobs_stop why e = ap (whole machines) (next_jobs ∙ ap (λ (r : Result (List Operation × Rest) JobRefusal). follows r (job_then (count - (i + 1)) machines before)) e)

abbrev count_then : ℕ × Rest → Result Shop JobRefusal
count_then count = follows (next_number 1 40 count.1) (λ machines. whole machines.0 (jobs count.0 machines.0 [] machines.1))

module _ (bytes : List ℕ) where
  start : Rest
  start = record { left = words bytes; number = 1 }

  begins : shop_in bytes ≡ follows (next_number 1 40 (rest_of bytes 0 1)) count_then
  unfolding shop_in
  begins = refl

  pub no_count : (why : JobRefusal) → next_number 1 40 (rest_of bytes 0 1) ≡ Err why → shop_in bytes ≡ Err why
  no_count why e = begins ∙ ap (λ (r : Result (ℕ × Rest) JobRefusal). follows r count_then) e

  module _ (count : ℕ) (later : Rest) (read : next_number 1 40 (rest_of bytes 0 1) ≡ Ok (count, later)) where
    pub no_machines : (why : JobRefusal) → next_number 1 40 later ≡ Err why → shop_in bytes ≡ Err why
    no_machines why e =
        begins ∙ ap (λ (r : Result (ℕ × Rest) JobRefusal). follows r count_then) read
        ∙ ap (λ (r : Result (ℕ × Rest) JobRefusal). follows r (λ machines. whole machines.0 (jobs count machines.0 [] machines.1))) e

    pub shop_begins : (machines : ℕ) (last : Rest) → next_number 1 40 later ≡ Ok (machines, last) → shop_in bytes ≡ whole machines (jobs (count - 0) machines [] last)
    shop_begins machines last e =
        let same : count ≡ count - 0 = omega arith in
        begins ∙ ap (λ (r : Result (ℕ × Rest) JobRefusal). follows r count_then) read
        ∙ ap (λ (r : Result (ℕ × Rest) JobRefusal). follows r (λ m. whole m.0 (jobs count m.0 [] m.1))) e
        ∙ ap (λ (n : ℕ). whole machines (jobs n machines [] last)) same

-- ---- as the loops have it

pub operations_next : (bytes b : List ℕ) (machines i : ℕ) → i < machines → (job longer : List Operation) (o : Operation) (place number later behind : ℕ) (all : Result (List Operation × Rest) JobRefusal)
    → all ≡ operations (machines - i) machines job (rest_of bytes place number) → b ≡ bytes → next_operation machines job (rest_of b place number) ≡ Ok (o, rest_of b later behind) → longer ≡ job ++ o ∷ []
    → all ≡ operations (machines - (i + 1)) machines longer (rest_of bytes later behind)
operations_next bytes b machines i below job longer o place number later behind all h same read pushed =
    let here : next_operation machines job (rest_of bytes place number) ≡ Ok (o, rest_of bytes later behind) =
    subst (λ (t : List ℕ). next_operation machines job (rest_of t place number) ≡ Ok (o, rest_of t later behind)) same read in
    h ∙ operations_on machines i below job (rest_of bytes place number) o (rest_of bytes later behind) here
    ∙ ap (λ (l : List Operation). operations (machines - (i + 1)) machines l (rest_of bytes later behind)) (sym pushed)

first_rest : (bytes b : List ℕ) (p n : ℕ) → b ≡ bytes → p ≡ 0 → n ≡ 1 → rest_of b p n ≡ rest_of bytes 0 1
first_rest bytes b p n e f g = ap (λ (t : List ℕ). rest_of t p n) e ∙ ap (λ (k : ℕ). rest_of bytes k n) f ∙ ap (λ (k : ℕ). rest_of bytes 0 k) g

module _ (bytes b : List ℕ) (p n : ℕ) (e : b ≡ bytes) (f : p ≡ 0) (g : n ≡ 1) where
  pub count_fault : (why : JobRefusal) → next_number 1 40 (rest_of b p n) ≡ Err why → shop_in bytes ≡ Err why
  count_fault why h = no_count bytes why (ap (next_number 1 40) (sym (first_rest bytes b p n e f g)) ∙ h)

  module _ (count later behind : ℕ) (read : next_number 1 40 (rest_of b p n) ≡ Ok (count, rest_of b later behind)) (t : List ℕ) (same : t ≡ b) where
    counted : next_number 1 40 (rest_of bytes 0 1) ≡ Ok (count, rest_of bytes later behind)
    counted =
        ap (next_number 1 40) (sym (first_rest bytes b p n e f g)) ∙ read ∙ ap (λ (u : List ℕ). Ok (count, rest_of u later behind)) e

    there : rest_of t later behind ≡ rest_of bytes later behind
    there = ap (λ (u : List ℕ). rest_of u later behind) (same ∙ e)

    pub machines_fault : (why : JobRefusal) → next_number 1 40 (rest_of t later behind) ≡ Err why → shop_in bytes ≡ Err why
    machines_fault why h = no_machines bytes count (rest_of bytes later behind) counted why (ap (next_number 1 40) (sym there) ∙ h)

    pub shop_opens : (machines last far : ℕ) (items : List (List Operation)) → next_number 1 40 (rest_of t later behind) ≡ Ok (machines, rest_of t last far) → items ≡ []
        → shop_in bytes ≡ whole machines (jobs (count - 0) machines items (rest_of bytes last far))
    shop_opens machines last far items h none =
        shop_begins bytes count (rest_of bytes later behind) counted machines (rest_of bytes last far)
        (ap (next_number 1 40) (sym there) ∙ h ∙ ap (λ (u : List ℕ). Ok (machines, rest_of u last far)) (same ∙ e))
        ∙ ap (λ (l : List (List Operation)). whole machines (jobs (count - 0) machines l (rest_of bytes last far))) (sym none)

module _ (bytes b : List ℕ) (machines count i : ℕ) (below : i < count) (done : List (List Operation)) (place number : ℕ) (h : shop_in bytes ≡ whole machines (jobs (count - i) machines done (rest_of bytes place number))) (same : b ≡ bytes) where
  pub job_fault : (error : JobError) → ExplainsJob (next_job machines (rest_of b place number)) error → ExplainsText (shop_in bytes) error
  job_fault (Refused why) found =
      h ∙ jobs_stop count machines i below done (rest_of bytes place number) why (ap (λ (t : List ℕ). next_job machines (rest_of t place number)) (sym same) ∙ found)
  job_fault OutOfMemory found = tt

  pub jobs_next : (job : List Operation) (longer : List (List Operation)) (later behind : ℕ) → next_job machines (rest_of b place number) ≡ Ok (job, rest_of b later behind) → longer ≡ done ++ job ∷ []
      → shop_in bytes ≡ whole machines (jobs (count - (i + 1)) machines longer (rest_of bytes later behind))
  jobs_next job longer later behind read pushed =
      let here : next_job machines (rest_of bytes place number) ≡ Ok (job, rest_of bytes later behind) =
      subst (λ (t : List ℕ). next_job machines (rest_of t place number) ≡ Ok (job, rest_of t later behind)) same read in
      h ∙ jobs_on count machines i below done (rest_of bytes place number) job (rest_of bytes later behind) here
      ∙ ap (λ (l : List (List Operation)). whole machines (jobs (count - (i + 1)) machines l (rest_of bytes later behind))) (sym pushed)
