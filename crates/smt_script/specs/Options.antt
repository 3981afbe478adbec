-- What `set-option` does (SMT-LIB 2.6, section 4.1.7). Which options there are is this project's own choice.
use Rattle.std.specs.Prelude.{ℕ, List, codes, Bool, true, false, ◌||◌, if◌then◌else◌, Option, None, Some}
use Rattle.std.specs.Str.{bytes_eq}
use Rattle.smt_sexpr.specs.Tree.{Sexpr, symbol_of}

pub data OptionEffect : Type 0 where
  -- `success` is to be printed, or not
  printing_success : (on : Bool) → OptionEffect
  no_effect : OptionEffect
  -- the answer is `unsupported`
  not_supported : OptionEffect
  -- the value isn't one that the option takes
  ill_formed_value : OptionEffect

abbrev pub truth_named : Option (List ℕ) → Option Bool
truth_named None = None
truth_named (Some text) =
    if bytes_eq text (codes "true") then Some true
    else (if bytes_eq text (codes "false") then Some false else None)

-- the symbol `true` or `false`
abbrev pub truth_given : Option Sexpr → Option Bool
truth_given None = None
truth_given (Some v) = truth_named (symbol_of v)

-- the options that take a truth value and have no effect: models and proofs may be asked for without them
unfoldable pub is_production : List ℕ → Bool
is_production keyword =
    bytes_eq keyword (codes ":produce-models")
    || (bytes_eq keyword (codes ":produce-proofs")
    || (bytes_eq keyword (codes ":produce-unsat-cores")
    || (bytes_eq keyword (codes ":produce-unsat-assumptions")
    || (bytes_eq keyword (codes ":produce-assertions")
    || bytes_eq keyword (codes ":produce-assignments")))))

abbrev pub printing_by : Option Bool → OptionEffect
printing_by (Some on) = printing_success on
printing_by None = ill_formed_value

abbrev pub production_by : Option Bool → OptionEffect
production_by (Some on) = no_effect
production_by None = ill_formed_value

unfoldable pub option_effect : List ℕ → Option Sexpr → OptionEffect
option_effect keyword v =
    if bytes_eq keyword (codes ":print-success") then printing_by (truth_given v)
    else (if is_production keyword then production_by (truth_given v)
    else not_supported)
