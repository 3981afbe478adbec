-- The walk over a command's options, by one induction: an option is opened by its name, gets its value, and is used when the next
-- word comes. What a new option adds is a case in each of the lemmas up to the rows.
use Rattle.std.proofs.Common.{◌≡◌, ◌≢◌, ◌∙◌, ◌++◌, ℕ, Bool, true, false, List, [], ◌∷◌, Option, Some, None, refl, ap, sym, subst, arith, codes, append-nil, append_assoc}
use Rattle.std.specs.Prelude.{fold, ◌||◌}
use Rattle.std.specs.List.{AllByRecursion}
use Rattle.std.specs.Str.{bytes_eq}
use Rattle.std.proofs.lemmas.Slice.Eq.{bytes_eq-Decides}
use Rattle.clap.specs.Words.{Kinds, Row, Rule, Shape, Text}
use Rattle.clap.specs.Faults.{settle_fault, turn_fault, walk_fault}
use Rattle.clap.specs.Kinds.{or_else}
use Rattle.clap.specs.Simple.{filled}
use Rattle.clap.specs.Walk.{Walk, arg_by_id, arg_by_long, at_row, has_row, idle, more_values, option, reading_by, settled_rows, used, used_by_id, walked, with_values, without}
use Rattle.clap.specs.declared.parser.matches.ValueSource.TheVariants.{CommandLine}
use Rattle.clap.specs.declared.builder.value_parser.Reading.{Reading}
use Rattle.clap.proofs.OnLiterals.{clap_on_literals}
use Rattle.command_line.specs.Apps.{emit_rule, emit_words, format_rule, slice_rule, workers_rule}
use Rattle.command_line.specs.Plain.{AreOptions, Given, IsValueOf, emit, format, more, name_of, none, number_of_format, slice, workers}
use Rattle.command_line.proofs.Values.{IsValue, IsWord, value_by, word_by}

-- ---- an option

abbrev pub id_of : Given → Text
id_of (workers n) = codes "workers"
id_of (slice n) = codes "slice"
id_of (format version) = codes "format"
id_of (emit what) = codes "emit"

name_is : (g : Given) → name_of g ≡ 45 ∷ 45 ∷ id_of g
name_is (workers n) = refl
name_is (slice n) = refl
name_is (format version) = refl
name_is (emit what) = refl

-- clap's rule, as it is built
abbrev pub rule_of : Given → Rule
rule_of (workers n) = filled workers_rule
rule_of (slice n) = filled slice_rule
rule_of (format version) = filled format_rule
rule_of (emit what) = filled (emit_rule emit_words)

-- the text is a value that the option's parser takes
abbrev Fits : Given → Text → Type 0
Fits (workers n) t = IsValue 1 64 t
Fits (slice n) t = IsValue 1 1000000 t
Fits (format version) t = IsValue 1 2 t
Fits (emit what) t = IsWord t

value_of : (g : Given) (t : Text) → IsValueOf g t → Fits g t
value_of (workers n) t h = value_by 1 64 n t (omega arith) h
value_of (slice n) t h = value_by 1 1000000 n t (omega arith) h
value_of (format version) t h = value_by 1 2 (number_of_format version) t (omega arith) h
value_of (emit what) t h = word_by what t h

-- the command has it
pub record Has (s : Shape) (g : Given) : Type 0 where
  pub by_long : arg_by_long s.rules (id_of g) ≡ Some (rule_of g)
  pub by_id : arg_by_id s.rules (id_of g) ≡ Some (rule_of g)

-- no option waits for its value; the one that is pending is used when the next word comes
abbrev pub at_rest : ℕ → List Row → Option (Text × List Text) → Walk
at_rest position rows pending = record {
  held = record { rows = rows; pending = pending; skip = 0 };
  waiting = idle;
  position = position;
  is_trailing = false;
  stopped = None;
}

-- an option waits for its value
abbrev opened : ℕ → List Row → Text → Walk
opened position rows id = record {
  held = record { rows = rows; pending = Some (id, []); skip = 0 };
  waiting = option id;
  position = position;
  is_trailing = false;
  stopped = None;
}

abbrev pub IsReady : Shape → ℕ → List Row → Option (Text × List Text) → Type 0
IsReady s position rows pending = settle_fault s.rules s.args_override_self (at_rest position rows pending).held ≡ []

opens : (s : Shape) (g : Given) → Has s g → (position : ℕ) (rows : List Row) (pending : Option (Text × List Text))
    → walked s.rules [] (at_rest position rows pending) (name_of g) ≡ opened position (settled_rows s.rules pending rows) (id_of g)
unfolding clap_on_literals
opens s (workers n) has position rows pending = rw (has.by_long) refl
opens s (slice n) has position rows pending = rw (has.by_long) refl
opens s (format version) has position rows pending = rw (has.by_long) refl
opens s (emit what) has position rows pending = rw (has.by_long) refl

opens_right : (s : Shape) (g : Given) → Has s g → (position : ℕ) (rows : List Row) (pending : Option (Text × List Text))
    → IsReady s position rows pending → turn_fault s [] (at_rest position rows pending) (name_of g) ≡ []
unfolding clap_on_literals
opens_right s (workers n) has position rows pending ready = rw (has.by_long, ready) refl
opens_right s (slice n) has position rows pending ready = rw (has.by_long, ready) refl
opens_right s (format version) has position rows pending ready = rw (has.by_long, ready) refl
opens_right s (emit what) has position rows pending ready = rw (has.by_long, ready) refl

takes : (s : Shape) (g : Given) → Has s g → (position : ℕ) (rows : List Row) (t : Text) → IsValueOf g t
    → walked s.rules [] (opened position rows (id_of g)) t ≡ at_rest position rows (Some (id_of g, t ∷ []))
unfolding clap_on_literals
takes s (workers n) has position rows t h = let v = value_of (workers n) t h in rw (v.no_dashes, v.bare, v.bare, has.by_id) refl
takes s (slice n) has position rows t h = let v = value_of (slice n) t h in rw (v.no_dashes, v.bare, v.bare, has.by_id) refl
takes s (format version) has position rows t h = let v = value_of (format version) t h in rw (v.no_dashes, v.bare, v.bare, has.by_id) refl
takes s (emit what) has position rows t h = let v = value_of (emit what) t h in rw (v.no_dashes, v.bare, v.bare, has.by_id) refl

takes_right : (s : Shape) (g : Given) → Has s g → (position : ℕ) (rows : List Row) (t : Text) → IsValueOf g t
    → turn_fault s [] (opened position rows (id_of g)) t ≡ []
unfolding clap_on_literals
takes_right s (workers n) has position rows t h = let v = value_of (workers n) t h in rw (v.no_dashes, v.bare, v.bare) refl
takes_right s (slice n) has position rows t h = let v = value_of (slice n) t h in rw (v.no_dashes, v.bare, v.bare) refl
takes_right s (format version) has position rows t h = let v = value_of (format version) t h in rw (v.no_dashes, v.bare, v.bare) refl
takes_right s (emit what) has position rows t h = let v = value_of (emit what) t h in rw (v.no_dashes, v.bare, v.bare) refl

settles : (s : Shape) (g : Given) → Has s g → (position : ℕ) (rows : List Row) (t : Text) → has_row (id_of g) rows ≡ false → IsValueOf g t
    → IsReady s position rows (Some (id_of g, t ∷ []))
unfolding clap_on_literals
settles s (workers n) has position rows t fresh h = let v = value_of (workers n) t h in rw (has.by_id, fresh, v.fits) refl
settles s (slice n) has position rows t fresh h = let v = value_of (slice n) t h in rw (has.by_id, fresh, v.fits) refl
settles s (format version) has position rows t fresh h = let v = value_of (format version) t h in rw (has.by_id, fresh, v.fits) refl
settles s (emit what) has position rows t fresh h = let v = value_of (emit what) t h in rw (has.by_id, fresh, v.fits) refl

use_is : (g : Given) (t : Text) (rows : List Row)
    → used (rule_of g) (t ∷ []) rows ≡ with_values (id_of g) (reading_by (rule_of g)) CommandLine (t ∷ []) (without (id_of g) rows)
use_is (workers n) t rows = refl
use_is (slice n) t rows = refl
use_is (format version) t rows = refl
use_is (emit what) t rows = refl

-- ---- the rows

abbrev row_with : Text → Reading → Text → Row
row_with id how t = record { id = id; values = t ∷ []; count = None; source = Some CommandLine; reading = how }

abbrev pub made : Given → Text → Row
made g t = row_with (id_of g) (reading_by (rule_of g)) t

-- one row an option, in the order of the words
abbrev pub rows_in : List Text → List Given → List Row
rows_in (name ∷ value ∷ words) (g ∷ given) = made g value ∷ rows_in words given
rows_in _ _ = []

or_left : (a b : Bool) → (a || b) ≡ false → a ≡ false
or_left false b e = refl
or_left true b e = cc

or_right : (a b : Bool) → (a || b) ≡ false → b ≡ false
or_right false b e = e
or_right true b e = cc

at_no_row : (id : Text) (change : Row → List Row) (missing rows : List Row) → has_row id rows ≡ false → at_row id change missing rows ≡ rows ++ missing
at_no_row id change missing [] e = refl
at_no_row id change missing (r ∷ rs) e =
    let here : bytes_eq r.id id ≡ false = or_left (bytes_eq r.id id) (has_row id rs) e in
    rw here (ap (λ xs. r ∷ xs) (at_no_row id change missing rs (or_right (bytes_eq r.id id) (has_row id rs) e)))

used_once : (g : Given) (t : Text) (rows : List Row) → has_row (id_of g) rows ≡ false → used (rule_of g) (t ∷ []) rows ≡ rows ++ made g t ∷ []
used_once g t rows e =
    let id = id_of g in
    let gone : without id rows ≡ rows = at_no_row id (λ _. []) [] rows e ∙ append-nil rows in
    use_is g t rows
    ∙ ap (λ (xs : List Row). with_values id (reading_by (rule_of g)) CommandLine (t ∷ []) xs) gone
    ∙ at_no_row id (more_values CommandLine (t ∷ [])) (made g t ∷ []) rows e

settled_once : (s : Shape) (g : Given) → Has s g → (t : Text) (rows : List Row) → has_row (id_of g) rows ≡ false
    → settled_rows s.rules (Some (id_of g, t ∷ [])) rows ≡ rows ++ made g t ∷ []
settled_once s g has t rows e = ap (λ (a : Option Rule). used_by_id a (t ∷ []) rows) has.by_id ∙ used_once g t rows e

no_row_behind : (id : Text) (rows : List Row) (r : Row) → has_row id rows ≡ false → bytes_eq r.id id ≡ false → has_row id (rows ++ r ∷ []) ≡ false
no_row_behind id [] r e apart = rw apart refl
no_row_behind id (x ∷ xs) r e apart =
    let here : bytes_eq x.id id ≡ false = or_left (bytes_eq x.id id) (has_row id xs) e in
    rw here (no_row_behind id xs r (or_right (bytes_eq x.id id) (has_row id xs) e) apart)

not_equal : (b : Bool) (x y : Text) → (b ≡ true → x ≡ y) → x ≢ y → b ≡ false
not_equal false x y same apart = refl
not_equal true x y same apart = absurd (apart (same refl))

ids_apart : (g other : Given) → name_of other ≢ name_of g → bytes_eq (id_of g) (id_of other) ≡ false
ids_apart g other apart =
    not_equal _ (id_of g) (id_of other) (bytes_eq-Decides (id_of g) (id_of other)).0
    (λ same. apart (name_is other ∙ ap (λ (t : Text). 45 ∷ 45 ∷ t) (sym same) ∙ sym (name_is g)))

-- none of these options was used
abbrev pub AreFresh : List Row → List Given → Type 0
AreFresh rows given = AllByRecursion (λ g. has_row (id_of g) rows ≡ false) given

still_fresh : (g : Given) (t : Text) (rows : List Row) (given : List Given) → AllByRecursion (λ other. name_of other ≢ name_of g) given
    → AreFresh rows given → AreFresh (rows ++ made g t ∷ []) given
still_fresh g t rows [] apart fresh = tt
still_fresh g t rows (other ∷ given) apart fresh =
    (no_row_behind (id_of other) rows (made g t) fresh.0 (ids_apart g other apart.0), still_fresh g t rows given apart.1 fresh.1)

-- ---- all options

pub either_fault : (x y : Kinds) → x ≡ [] → y ≡ [] → or_else x y ≡ []
either_fault x y e f = rw (e, f) refl

pub more_right : (s : Shape) (w next : Walk) (word : Text) (rest : List Text) → turn_fault s [] w word ≡ [] → walked s.rules [] w word ≡ next
    → walk_fault s [] next rest ≡ [] → walk_fault s [] w (word ∷ rest) ≡ []
unfolding walk_fault
more_right s w next word rest turn step behind =
    either_fault (turn_fault s [] w word) (walk_fault s [] (walked s.rules [] w word) rest) turn
    (ap (λ (x : Walk). walk_fault s [] x rest) step ∙ behind)

pub none_right : (s : Shape) (w : Walk) → walk_fault s [] w [] ≡ []
unfolding walk_fault
none_right s w = refl

-- from this walk the words come to an end where nothing is wrong, with these rows
pub record Ends (s : Shape) (position : ℕ) (w : Walk) (words : List Text) (all : List Row) : Type 0 where
  pub rows : List Row
  pub pending : Option (Text × List Text)
  pub walks : fold (walked s.rules []) w words ≡ at_rest position rows pending
  pub right : walk_fault s [] w words ≡ []
  pub ready : IsReady s position rows pending
  pub all_is : settled_rows s.rules pending rows ≡ all

module _ (s : Shape) (position : ℕ) (Takes : Given → Type 0) (has : (g : Given) → Takes g → Has s g) where
  pub over_options : {words : List Text} {given : List Given} → AreOptions Takes words given → (rows : List Row) (pending : Option (Text × List Text))
      → IsReady s position rows pending → AreFresh (settled_rows s.rules pending rows) given
      → Ends s position (at_rest position rows pending) words (settled_rows s.rules pending rows ++ rows_in words given)
  over_options none rows pending ready fresh =
      record { rows = rows; pending = pending; walks = refl; right = none_right s _; ready = ready; all_is = sym (append-nil _) }
  over_options (more {g} {value} {words} {given} taken is apart rest) rows pending ready fresh =
      let h = has g taken in
      let base = settled_rows s.rules pending rows in
      let here : Option (Text × List Text) = Some (id_of g, value ∷ []) in
      let once : settled_rows s.rules here base ≡ base ++ made g value ∷ [] = settled_once s g h value base fresh.0 in
      let behind = over_options rest base here (settles s g h position base value fresh.0 is)
      (subst (λ (x : List Row). AreFresh x given) (sym once) (still_fresh g value base given apart fresh.1)) in
      let opening = opens s g h position rows pending in
      let taking = takes s g h position base value is in
      record {
        rows = behind.rows;
        pending = behind.pending;
        walks =
            ap (λ (w : Walk). fold (walked s.rules []) w (value ∷ words)) opening
            ∙ ap (λ (w : Walk). fold (walked s.rules []) w words) taking ∙ behind.walks;
        right =
            more_right s _ (opened position base (id_of g)) (name_of g) (value ∷ words) (opens_right s g h position rows pending ready) opening
            (more_right s _ (at_rest position base here) value words (takes_right s g h position base value is) taking behind.right);
        ready = behind.ready;
        all_is = behind.all_is ∙ ap (λ (x : List Row). x ++ rows_in words given) once ∙ append_assoc base (made g value ∷ []) (rows_in words given);
      }
