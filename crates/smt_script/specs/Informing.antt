-- What `get-info` is asked for (SMT-LIB 2.6, section 4.1.8).
use Rattle.std.specs.Prelude.{ℕ, List, codes, if◌then◌else◌, Option, None, Some}
use Rattle.std.specs.Str.{bytes_eq}
use Rattle.smt_script.specs.declared.information.Information.{Information}
use Rattle.smt_script.specs.declared.information.Information.TheVariants.{Name, Version, Authors, ErrorBehavior, AssertionStackLevels}

-- what a keyword names, of all that can be told
unfoldable pub information_of : List ℕ → Option Information
information_of keyword =
    if bytes_eq keyword (codes ":name") then Some Name
    else (if bytes_eq keyword (codes ":version") then Some Version
    else (if bytes_eq keyword (codes ":authors") then Some Authors
    else (if bytes_eq keyword (codes ":error-behavior") then Some ErrorBehavior
    else (if bytes_eq keyword (codes ":assertion-stack-levels") then Some AssertionStackLevels
    else None))))
