-- Plain lines are lines. What a new command adds is its facts and a case of `plain_line`.
use Rattle.std.proofs.Common.{◌≡◌, ◌∙◌, ◌++◌, ℕ, List, [], ◌∷◌, Some, None, refl, ap, arith, codes}
use Rattle.std.specs.Prelude.{◌==◌, if◌then◌else◌}
use Rattle.clap.specs.Words.{Text, one_of}
use Rattle.clap.proofs.OnLiterals.{clap_on_literals}
use Rattle.command_line.specs.Lines.{command_of, emit_named, emit_of, format_of, line_of, number_of, search_of, workers_of}
use Rattle.command_line.specs.Plain.{AreNumbersOf, AreOptions, Given, IsPlainLine, OfBench, OfCertify, OfJobshop, OfSolve, bench, certify, check, convert, emit, emit_in, format, format_in, jobshop, more, none, number_of_format, search_in, slice, slice_in, solve, word_of, workers, workers_in}
use Rattle.command_line.specs.declared.line.Emit.{Emit}
use Rattle.command_line.specs.declared.line.Emit.TheVariants.{Plan, Script, Certificate}
use Rattle.command_line.specs.declared.line.Format.{Format}
use Rattle.command_line.specs.declared.line.Format.TheVariants.{One, Two}
use Rattle.command_line.specs.declared.line.Line.{Line}
use Rattle.command_line.specs.declared.line.Line.TheVariants.{Solve, Certify, Check, Convert, Bench, Jobshop}
use Rattle.command_line.specs.declared.line.Search.{Search}
use Rattle.command_line.specs.declared.line.Shop.{Shop}
use Rattle.command_line.proofs.BenchLines.{AreValues, benching, behind_four, four_ready, rows_3, rows_4, walk_4}
use Rattle.command_line.proofs.Commands.{IsCommand, line_from, sub}
use Rattle.clap.specs.Words.{Shape}
use Rattle.command_line.specs.Apps.{certifying_app, emit_words, jobshop_app, plain_app, searching_app}
use Rattle.command_line.proofs.Options.{AreFresh, Ends, Has, none_right, over_options, rows_in}
use Rattle.command_line.proofs.Values.{read_as_number, value_by}

-- ---- what the rows of options say

workers_said : {Takes : Given → Type 0} {words : List Text} {given : List Given} → AreOptions Takes words given → workers_of (rows_in words given) ≡ workers_in given
workers_said none = refl
workers_said (more {g = workers n} {value} taken is apart rest) = read_as_number 1 64 4 n value (omega arith) is
workers_said (more {g = slice n} taken is apart rest) = workers_said rest
workers_said (more {g = format version} taken is apart rest) = workers_said rest
workers_said (more {g = emit what} taken is apart rest) = workers_said rest

slice_said : {Takes : Given → Type 0} {words : List Text} {given : List Given} → AreOptions Takes words given
    → number_of (one_of (codes "slice") (rows_in words given)) 1 1000000 1000 ≡ slice_in given
slice_said none = refl
slice_said (more {g = workers n} taken is apart rest) = slice_said rest
slice_said (more {g = slice n} {value} taken is apart rest) = read_as_number 1 1000000 1000 n value (omega arith) is
slice_said (more {g = format version} taken is apart rest) = slice_said rest
slice_said (more {g = emit what} taken is apart rest) = slice_said rest

format_by : (format : Format) (n : ℕ) → n ≡ number_of_format format → (if n == 2 then Two else One) ≡ format
format_by One n e = rw e refl
format_by Two n e = rw e refl

format_said : {Takes : Given → Type 0} {words : List Text} {given : List Given} → AreOptions Takes words given → format_of (rows_in words given) ≡ format_in given
format_said none = refl
format_said (more {g = workers n} taken is apart rest) = format_said rest
format_said (more {g = slice n} taken is apart rest) = format_said rest
format_said (more {g = format version} {value} taken is apart rest) = format_by version _ (read_as_number 1 2 1 (number_of_format version) value (omega arith) is)
format_said (more {g = emit what} taken is apart rest) = format_said rest

named_is : (what : Emit) → emit_named (word_of what) ≡ what
named_is Plan = refl
named_is Script = refl
named_is Certificate = refl

emit_said : {Takes : Given → Type 0} {words : List Text} {given : List Given} → AreOptions Takes words given → emit_of (rows_in words given) ≡ emit_in given
emit_said none = refl
emit_said (more {g = workers n} taken is apart rest) = emit_said rest
emit_said (more {g = slice n} taken is apart rest) = emit_said rest
emit_said (more {g = format version} taken is apart rest) = emit_said rest
emit_said (more {g = emit what} taken is apart rest) = ap emit_named is ∙ named_is what

search_said : {Takes : Given → Type 0} {words : List Text} {given : List Given} → AreOptions Takes words given → search_of (rows_in words given) ≡ search_in given
search_said {words = words} {given = given} o =
    ap (λ (k : ℕ). record { workers = k; slice = number_of (one_of (codes "slice") (rows_in words given)) 1 1000000 1000 }) (workers_said o)
    ∙ ap (λ (k : ℕ). record { workers = workers_in given; slice = k }) (slice_said o)

-- ---- the commands

all_fresh : (given : List Given) → AreFresh [] given
all_fresh [] = tt
all_fresh (g ∷ given) = (refl, all_fresh given)

abbrev solving : Shape
solving = sub (searching_app (codes "solve"))

solve_is : IsCommand (codes "solve") solving
unfolding clap_on_literals
solve_is = record { first = refl; right = refl; found = refl; named = refl; plain = (refl, (refl, tt)); top_right = refl }

solve_has : (g : Given) → OfSolve g → Has solving g
unfolding clap_on_literals
solve_has (workers n) taken = record { by_long = refl; by_id = refl }
solve_has (slice n) taken = record { by_long = refl; by_id = refl }
solve_has (format version) taken = absurd taken
solve_has (emit what) taken = absurd taken

abbrev certifying : Shape
certifying = sub certifying_app

certify_is : IsCommand (codes "certify") certifying
unfolding clap_on_literals
certify_is = record { first = refl; right = refl; found = refl; named = refl; plain = (refl, (refl, (refl, tt))); top_right = refl }

certify_has : (g : Given) → OfCertify g → Has certifying g
unfolding clap_on_literals
certify_has (workers n) taken = record { by_long = refl; by_id = refl }
certify_has (slice n) taken = record { by_long = refl; by_id = refl }
certify_has (format version) taken = record { by_long = refl; by_id = refl }
certify_has (emit what) taken = absurd taken

abbrev checking : Shape
checking = sub (plain_app (codes "check"))

check_is : IsCommand (codes "check") checking
unfolding clap_on_literals
check_is = record { first = refl; right = refl; found = refl; named = refl; plain = tt; top_right = refl }

abbrev converting : Shape
converting = sub (plain_app (codes "convert"))

convert_is : IsCommand (codes "convert") converting
unfolding clap_on_literals
convert_is = record { first = refl; right = refl; found = refl; named = refl; plain = tt; top_right = refl }

bench_is : IsCommand (codes "bench") benching
unfolding clap_on_literals
bench_is = record { first = refl; right = refl; found = refl; named = refl; plain = (refl, (refl, (refl, (refl, (refl, tt))))); top_right = refl }

bench_has : (g : Given) → OfBench g → Has benching g
unfolding clap_on_literals
bench_has (workers n) taken = record { by_long = refl; by_id = refl }
bench_has (slice n) taken = absurd taken
bench_has (format version) taken = absurd taken
bench_has (emit what) taken = absurd taken

abbrev shopping : Shape
shopping = sub (jobshop_app emit_words)

jobshop_is : IsCommand (codes "jobshop") shopping
unfolding clap_on_literals
jobshop_is = record { first = refl; right = refl; found = refl; named = refl; plain = (refl, (refl, (refl, tt))); top_right = refl }

jobshop_has : (g : Given) → OfJobshop g → Has shopping g
unfolding clap_on_literals
jobshop_has (workers n) taken = record { by_long = refl; by_id = refl }
jobshop_has (slice n) taken = record { by_long = refl; by_id = refl }
jobshop_has (format version) taken = absurd taken
jobshop_has (emit what) taken = record { by_long = refl; by_id = refl }

-- ---- the lines

solve_line : (words : List Text) (given : List Given) → AreOptions OfSolve words given → line_of (codes "solve" ∷ words) ≡ Some (Solve (search_in given))
solve_line words given o =
    line_from (codes "solve") solving solve_is words 1 (rows_in words given) (Solve (search_in given))
    (over_options solving 1 OfSolve solve_has o [] None refl (all_fresh given)) refl (ap (λ (s : Search). Some (Solve s)) (search_said o))

certify_line : (words : List Text) (given : List Given) → AreOptions OfCertify words given
    → line_of (codes "certify" ∷ words) ≡ Some (Certify (search_in given) (format_in given))
certify_line words given o =
    line_from (codes "certify") certifying certify_is words 1 (rows_in words given) (Certify (search_in given) (format_in given))
    (over_options certifying 1 OfCertify certify_has o [] None refl (all_fresh given)) refl
    (ap (λ (s : Search). Some (Certify s (format_of (rows_in words given)))) (search_said o)
    ∙ ap (λ (f : Format). Some (Certify (search_in given) f)) (format_said o))

check_line : line_of (codes "check" ∷ []) ≡ Some Check
check_line =
    line_from (codes "check") checking check_is [] 1 [] Check
    (record { rows = []; pending = None; walks = refl; right = none_right checking _; ready = refl; all_is = refl }) refl refl

convert_line : line_of (codes "convert" ∷ []) ≡ Some Convert
convert_line =
    line_from (codes "convert") converting convert_is [] 1 [] Convert
    (record { rows = []; pending = None; walks = refl; right = none_right converting _; ready = refl; all_is = refl }) refl refl

shop_values : (a b c d : Text) (shop : Shop) → AreNumbersOf a b c d shop → AreValues a b c d
shop_values a b c d shop h = record {
  jobs = value_by 1 40 shop.jobs a (omega arith) h.jobs_is;
  machines = value_by 1 40 shop.machines b (omega arith) h.machines_is;
  start = value_by 0 4294967295 shop.start c (omega arith) h.start_is;
  deadline = value_by 0 1000000 shop.deadline d (omega arith) h.deadline_is;
}

fresh_behind_four : (a b c d : Text) (given : List Given) → AreFresh (rows_4 a b c d) given
fresh_behind_four a b c d [] = tt
fresh_behind_four a b c d (workers n ∷ given) = (refl, fresh_behind_four a b c d given)
fresh_behind_four a b c d (slice n ∷ given) = (refl, fresh_behind_four a b c d given)
fresh_behind_four a b c d (format version ∷ given) = (refl, fresh_behind_four a b c d given)
fresh_behind_four a b c d (emit what ∷ given) = (refl, fresh_behind_four a b c d given)

at_shop : (j m s d w a b c e n : ℕ) → j ≡ a → m ≡ b → s ≡ c → d ≡ e → w ≡ n
    → Some (Bench (record { jobs = j; machines = m; start = s; deadline = d }) w) ≡ Some (Bench (record { jobs = a; machines = b; start = c; deadline = e }) n)
at_shop j m s d w a b c e n p q r t u =
    ap (λ (x : ℕ). Some (Bench (record { jobs = x; machines = m; start = s; deadline = d }) w)) p
    ∙ ap (λ (x : ℕ). Some (Bench (record { jobs = a; machines = x; start = s; deadline = d }) w)) q
    ∙ ap (λ (x : ℕ). Some (Bench (record { jobs = a; machines = b; start = x; deadline = d }) w)) r
    ∙ ap (λ (x : ℕ). Some (Bench (record { jobs = a; machines = b; start = c; deadline = x }) w)) t
    ∙ ap (λ (x : ℕ). Some (Bench (record { jobs = a; machines = b; start = c; deadline = e }) x)) u

bench_said : (a b c d : Text) (shop : Shop) (words : List Text) (given : List Given) → AreNumbersOf a b c d shop → AreOptions OfBench words given
    → command_of (codes "bench") (rows_4 a b c d ++ rows_in words given) ≡ Some (Bench shop (workers_in given))
unfolding clap_on_literals
bench_said a b c d shop words given h o =
    at_shop (number_of (Some a) 1 40 1) (number_of (Some b) 1 40 1) (number_of (Some c) 0 4294967295 0) (number_of (Some d) 0 1000000 0)
    (workers_of (rows_in words given)) shop.jobs shop.machines shop.start shop.deadline (workers_in given)
    (read_as_number 1 40 1 shop.jobs a (omega arith) h.jobs_is) (read_as_number 1 40 1 shop.machines b (omega arith) h.machines_is)
    (read_as_number 0 4294967295 0 shop.start c (omega arith) h.start_is) (read_as_number 0 1000000 0 shop.deadline d (omega arith) h.deadline_is)
    (workers_said o)

bench_line : (a b c d : Text) (shop : Shop) (words : List Text) (given : List Given) → AreNumbersOf a b c d shop → AreOptions OfBench words given
    → line_of (codes "bench" ∷ a ∷ b ∷ c ∷ d ∷ words) ≡ Some (Bench shop (workers_in given))
bench_line a b c d shop words given h o =
    let v = shop_values a b c d shop h in
    let behind : Ends benching 5 (walk_4 a b c d) words (rows_4 a b c d ++ rows_in words given) =
    over_options benching 5 OfBench bench_has o (rows_3 a b c) (Some (codes "deadline", d ∷ [])) (four_ready a b c d v.deadline) (fresh_behind_four a b c d given) in
    line_from (codes "bench") benching bench_is (a ∷ b ∷ c ∷ d ∷ words) 5 (rows_4 a b c d ++ rows_in words given) (Bench shop (workers_in given))
    (behind_four a b c d words _ v behind) refl (bench_said a b c d shop words given h o)

jobshop_line : (words : List Text) (given : List Given) → AreOptions OfJobshop words given
    → line_of (codes "jobshop" ∷ words) ≡ Some (Jobshop (search_in given) (emit_in given))
jobshop_line words given o =
    line_from (codes "jobshop") shopping jobshop_is words 1 (rows_in words given) (Jobshop (search_in given) (emit_in given))
    (over_options shopping 1 OfJobshop jobshop_has o [] None refl (all_fresh given)) refl
    (ap (λ (s : Search). Some (Jobshop s (emit_of (rows_in words given)))) (search_said o)
    ∙ ap (λ (e : Emit). Some (Jobshop (search_in given) e)) (emit_said o))

pub plain_line : (words : List Text) (line : Line) → IsPlainLine words line → line_of words ≡ Some line
plain_line _ _ (solve {words} {given} o) = solve_line words given o
plain_line _ _ (certify {words} {given} o) = certify_line words given o
plain_line _ _ check = check_line
plain_line _ _ convert = convert_line
plain_line _ _ (bench {a} {b} {c} {d} {shop} {words} {given} h o) = bench_line a b c d shop words given h o
plain_line _ _ (jobshop {words} {given} o) = jobshop_line words given o
