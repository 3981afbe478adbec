-- Where the words of `--emit` lie is of no matter: clap finds the same in a line, and the same faults. The rules of `jobshop` differ in one
-- parser. The walk sees nothing of it, and the faults see which values it takes, so that each lemma is the one before it in one more
-- definition of clap's.
use Rattle.std.proofs.Common.{◌≡◌, ◌∙◌, ◌++◌, ℕ, Bool, true, false, List, [], ◌∷◌, Option, Some, None, refl, ap, sym, codes, length}
use Rattle.std.specs.Prelude.{cond, find, fold, is_some, option_map, if◌then◌else◌}
use Rattle.std.specs.Borrow.{Bor}
use Rattle.std.specs.List.{list_any}
use Rattle.std.specs.Option.{option_map_or}
use Rattle.std.specs.Str.{bytes_eq}
use Rattle.clap.specs.Words.{Kinds, Row, Rule, Shape, Text, built, fault_of, same_text, subcommand_of}
use Rattle.clap.specs.Faults.{check_fault, defaults_fault, entered_fault, flag_word_fault, level_fault, long_fault, option_fault, other_fault, repeat_fault, settle_fault, step_fault, turn_fault, use_fault, walk_fault, word_fault}
use Rattle.clap.specs.Kinds.{or_else, range_kinds, values_kinds}
use Rattle.clap.specs.Lexer.{long_of, short_of}
use Rattle.clap.specs.Simple.{entered, filled, label_of, names_of, rows_at}
use Rattle.clap.specs.ValueTests.{accepts}
use Rattle.clap.specs.Walk.{Held, Names, Outcome, Step, Waiting, Walk, after_flag, after_step, answers_to, arg_by_id, arg_by_long, bundle, finished, has_long, idle, long_met, long_or_other, long_word, next, nothing_held, option, option_met, option_word, done, plain, plain_word, positional, refused, rows_after, settled_rows, short_or_plain, subcommand_met, subcommand_or_other, texts, trailing, used, used_by_id, value, values_or_missing, waits, walk, walk_from, walked, walked_from, with_default, word_met}
use Rattle.clap.specs.declared.builder.value_parser.ValueParser.TheVariants as vp
use Rattle.clap.specs.declared.error.kind.ErrorKind.TheVariants.{InvalidValue}
use Rattle.clap.proofs.OnLiterals.{clap_on_literals}
use Rattle.clap.proofs.WalkLemmas.{list_any-map}
use Rattle.command_line.specs.Apps.{dtp_with, emit_rule, first_app, jobshop_app, slice_rule, workers_rule}
use Rattle.command_line.proofs.Commands.{end_fault, sub}

abbrev pub Words : Type 0
Words = Bor (List (Bor Text))

-- ---- the rules of `jobshop`

abbrev shop_at : Words → Shape
shop_at p = sub (jobshop_app p)

abbrev rules_at : Words → List Rule
rules_at p = (shop_at p).rules

abbrev first : Rule
first = filled workers_rule

abbrev second : Rule
second = filled slice_rule

abbrev third : Words → Rule
third p = filled (emit_rule p)

-- what is made of the rule that is found, where three are asked
picked : {Z : Type 0} (k l : Option Rule → Z) (x y u v : Rule) → k None ≡ l None → k (Some x) ≡ l (Some x) → k (Some y) ≡ l (Some y) → k (Some u) ≡ l (Some v)
    → (a b c : Bool) → k (cond a (Some x) (cond b (Some y) (cond c (Some u) None))) ≡ l (cond a (Some x) (cond b (Some y) (cond c (Some v) None)))
picked k l x y u v none at_x at_y at_u true b c = at_x
picked k l x y u v none at_x at_y at_u false true c = at_y
picked k l x y u v none at_x at_y at_u false false true = at_u
picked k l x y u v none at_x at_y at_u false false false = none

module _ {Z : Type 0} (n m : Words) (k l : Option Rule → Z) (none : k None ≡ l None) (at_first : k (Some first) ≡ l (Some first)) (at_second : k (Some second) ≡ l (Some second)) (at_third : k (Some (third n)) ≡ l (Some (third m))) where
  by_id : (id : Text) → k (arg_by_id (rules_at n) id) ≡ l (arg_by_id (rules_at m) id)
  by_id id =
      picked k l first second (third n) (third m) none at_first at_second at_third
      (bytes_eq (codes "workers") id) (bytes_eq (codes "slice") id) (bytes_eq (codes "emit") id)

  by_long : (name : Text) → k (arg_by_long (rules_at n) name) ≡ l (arg_by_long (rules_at m) name)
  by_long name =
      picked k l first second (third n) (third m) none at_first at_second at_third
      (has_long first name) (has_long second name) (has_long (third n) name)

-- ---- the walk

module _ (n m : Words) where
  settled_same : (pending : Option (Text × List Text)) (rows : List Row) → settled_rows (rules_at n) pending rows ≡ settled_rows (rules_at m) pending rows
  settled_same None rows = refl
  settled_same (Some p) rows =
      let k : Option Rule → List Row = λ o. used_by_id o p.1 rows in
      by_id n m k k refl refl refl refl p.0

  option_same : (id word : Text) (h : Held) → option_word (arg_by_id (rules_at n) id) id word h ≡ option_word (arg_by_id (rules_at m) id) id word h
  option_same id word h =
      let k : Option Rule → Held × Waiting = λ o. option_word o id word h in
      by_id n m k k refl refl refl refl id

  option_met_same : (a b : Rule) → a.id ≡ b.id → ((values : List Text) (rows : List Row) → used a values rows ≡ used b values rows)
      → (v : Option Text) (h : Held) → option_met (rules_at n) a v h ≡ option_met (rules_at m) b v h
  option_met_same a b ids uses (Some v) h = λ i. (record h { rows = uses (v ∷ []) (settled_same h.pending h.rows i) i; pending = None }, done)
  option_met_same a b ids uses None h = λ i. (record h { rows = settled_same h.pending h.rows i; pending = Some (ids i, []) }, waits (ids i))

  long_same : (name : Text) (v : Option Text) (h : Held)
      → long_met (rules_at n) (arg_by_long (rules_at n) name) v h ≡ long_met (rules_at m) (arg_by_long (rules_at m) name) v h
  long_same name v h =
      let k : Option Rule → Held × Outcome = λ o. long_met (rules_at n) o v h in
      let l : Option Rule → Held × Outcome = λ o. long_met (rules_at m) o v h in
      by_long n m k l refl (option_met_same first first refl (λ values rows. refl) v h) (option_met_same second second refl (λ values rows. refl) v h)
      (option_met_same (third n) (third m) refl (λ values rows. refl) v h) name

  plain_same : (waiting : Waiting) (word : Text) (h : Held) → plain_word (rules_at n) waiting word h ≡ plain_word (rules_at m) waiting word h
  plain_same idle word h = refl
  plain_same (option id) word h = λ i. ((option_same id word h i).0, next (option_same id word h i).1)
  plain_same positional word h = refl

  after_same : (waiting : Waiting) (word : Text) (h : Held) (outcome : Outcome)
      → after_flag (rules_at n) waiting word h outcome ≡ after_flag (rules_at m) waiting word h outcome
  after_same waiting word h done = refl
  after_same waiting word h (waits id) = refl
  after_same waiting word h plain = plain_same waiting word h
  after_same waiting word h refused = plain_same waiting word h

  long_word_same : (waiting : Waiting) (word name : Text) (v : Option Text) (h : Held)
      → long_word (rules_at n) waiting word name v h ≡ long_word (rules_at m) waiting word name v h
  long_word_same waiting word name v h =
      let met : Held × Outcome = long_met (rules_at m) (arg_by_long (rules_at m) name) v h in
      ap (λ (r : Held × Outcome). after_flag (rules_at n) waiting word r.0 r.1) (long_same name v h) ∙ after_same waiting word met.0 met.1

  -- no rule has a short name
  short_same : (waiting : Waiting) (word : Text) (o : Option Text) (h : Held)
      → short_or_plain (rules_at n) waiting word o h ≡ short_or_plain (rules_at m) waiting word o h
  unfolding clap_on_literals
  short_same waiting word None h = plain_same waiting word h
  short_same waiting word (Some flags) h = after_same waiting word (bundle (rules_at n) flags h).0 (bundle (rules_at n) flags h).1

  long_or_other_same : (waiting : Waiting) (word : Text) (o : Option (Text × Option Text)) (h : Held)
      → long_or_other (rules_at n) waiting word o h ≡ long_or_other (rules_at m) waiting word o h
  long_or_other_same waiting word None h = short_same waiting word (short_of word) h
  long_or_other_same waiting word (Some p) h = long_word_same waiting word p.0 p.1 h

  other_same : (o : Option Text) (waiting : Waiting) (position : ℕ) (word : Text) (h : Held)
      → subcommand_or_other (rules_at n) o waiting position word h ≡ subcommand_or_other (rules_at m) o waiting position word h
  other_same (Some name) waiting position word h = refl
  other_same None waiting position word h =
      λ i. if bytes_eq word (45 ∷ 45 ∷ []) then (h, trailing position) else long_or_other_same waiting word (long_of word) h i

  met_same : (is_trailing : Bool) (waiting : Waiting) (position : ℕ) (word : Text) (h : Held)
      → word_met (rules_at n) [] is_trailing waiting position word h ≡ word_met (rules_at m) [] is_trailing waiting position word h
  met_same is_trailing waiting position word h =
      λ i. if is_trailing then (h, value) else other_same (subcommand_met [] waiting word) waiting position word h i

  -- no rule has a place
  walked_from_same : (stopped : Option (Text × List Text)) (w : Walk) (word : Text)
      → walked_from (rules_at n) [] stopped w word ≡ walked_from (rules_at m) [] stopped w word
  walked_from_same (Some p) w word = refl
  walked_from_same None w word =
      ap (λ (met : Held × Step). after_step (rules_at n) word w met.0 met.1) (met_same w.is_trailing w.waiting w.position word w.held)

  walked_same : (w : Walk) (word : Text) → walked (rules_at n) [] w word ≡ walked (rules_at m) [] w word
  unfolding walked
  walked_same w word = walked_from_same w.stopped w word

  walk_same : (h : Held) (words : List Text) → walk (rules_at n) [] h words ≡ walk (rules_at m) [] h words
  walk_same h words = λ i. fold (λ w word. walked_same w word i) (walk_from h) words

  -- no rule has a default
  finished_same : (h : Held) → finished (rules_at n) h ≡ finished (rules_at m) h
  finished_same h = λ i. fold with_default (settled_same h.pending h.rows i) (rules_at n)

  rows_same : (words : List Text) → rows_at (shop_at n) words ≡ rows_at (shop_at m) words
  rows_same words =
      let there : List Row → Text × List Row = λ rows. (codes "jobshop", rows) in
      let same : rows_after (rules_at n) [] words ≡ rows_after (rules_at m) [] words =
      ap (λ (w : Walk). finished (rules_at n) w.held) (walk_same nothing_held words) ∙ finished_same (walk (rules_at m) [] nothing_held words).held in
      ap there same

-- ---- the faults

module _ (n m : Words) (same : texts n.now ≡ texts m.now) where
  accepts_same : (t : Text) → accepts false (vp.Names n) t ≡ accepts false (vp.Names m) t
  accepts_same t =
      let test : Text → Bool = λ s. same_text false s t in
      list_any-map test (λ (s : Bor Text). s.now) n.now ∙ ap (list_any test) same ∙ sym (list_any-map test (λ (s : Bor Text). s.now) m.now)

  values_same : (values : List Text) → values_kinds false (vp.Names n) values ≡ values_kinds false (vp.Names m) values
  values_same [] = refl
  values_same (v ∷ vs) = λ i. or_else (if accepts_same v i then [] else InvalidValue ∷ []) (values_same vs i)

  use_same : (values : List Text) (rows : List Row) → use_fault false (third n) values rows ≡ use_fault false (third m) values rows
  use_same values rows =
      λ i. or_else (range_kinds 1 1 (length values)) (or_else (repeat_fault false (codes "emit") rows) (values_same (values_or_missing (third n) values) i))

  settle_by : (pending : Option (Text × List Text)) (rows : List Row)
      → option_map_or (λ p. option_map_or (λ a. use_fault false a p.1 rows) (arg_by_id (rules_at n) p.0) []) pending []
      ≡ option_map_or (λ p. option_map_or (λ a. use_fault false a p.1 rows) (arg_by_id (rules_at m) p.0) []) pending []
  settle_by None rows = refl
  settle_by (Some p) rows =
      let k : Option Rule → Kinds = λ o. option_map_or (λ a. use_fault false a p.1 rows) o [] in
      by_id n m k k refl refl refl (use_same p.1 rows) p.0

  settle_same : (h : Held) → settle_fault (rules_at n) false h ≡ settle_fault (rules_at m) false h
  settle_same h = settle_by h.pending h.rows

  option_fault_same : (a b : Rule) → ((values : List Text) (rows : List Row) → use_fault false a values rows ≡ use_fault false b values rows)
      → (v : Option Text) (h : Held) → option_fault (rules_at n) false a v h ≡ option_fault (rules_at m) false b v h
  option_fault_same a b uses (Some v) h = λ i. or_else (settle_same h i) (uses (v ∷ []) (settled_same n m h.pending h.rows i) i)
  option_fault_same a b uses None h = settle_same h

  long_fault_same : (name : Text) (v : Option Text) (h : Held)
      → long_fault (rules_at n) false (arg_by_long (rules_at n) name) v h ≡ long_fault (rules_at m) false (arg_by_long (rules_at m) name) v h
  long_fault_same name v h =
      let k : Option Rule → Kinds = λ o. long_fault (rules_at n) false o v h in
      let l : Option Rule → Kinds = λ o. long_fault (rules_at m) false o v h in
      by_long n m k l refl (option_fault_same first first (λ values rows. refl) v h) (option_fault_same second second (λ values rows. refl) v h)
      (option_fault_same (third n) (third m) use_same v h) name

  flag_same : (o : Option (Text × Option Text)) (word : Text) (h : Held)
      → flag_word_fault (rules_at n) false o word h ≡ flag_word_fault (rules_at m) false o word h
  unfolding clap_on_literals
  flag_same None word h = refl
  flag_same (Some p) word h = long_fault_same p.0 p.1 h

  other_fault_same : (o : Option Text) (word : Text) (h : Held) → other_fault (shop_at n) o word h ≡ other_fault (shop_at m) o word h
  other_fault_same (Some name) word h = refl
  other_fault_same None word h = λ i. if bytes_eq word (45 ∷ 45 ∷ []) then [] else flag_same (long_of word) word h i

  word_same : (is_trailing : Bool) (waiting : Waiting) (word : Text) (h : Held)
      → word_fault (shop_at n) [] is_trailing waiting word h ≡ word_fault (shop_at m) [] is_trailing waiting word h
  word_same is_trailing waiting word h = λ i. if is_trailing then [] else other_fault_same (subcommand_met [] waiting word) word h i

  turn_same : (w : Walk) (word : Text) → turn_fault (shop_at n) [] w word ≡ turn_fault (shop_at m) [] w word
  turn_same w word =
      let met = met_same n m w.is_trailing w.waiting w.position word w.held in
      λ i. if is_some w.stopped then [] else or_else (word_same w.is_trailing w.waiting word w.held i) (step_fault (shop_at n) w.position (met i).0 (met i).1)

  walk_fault_same : (words : List Text) (w : Walk) → walk_fault (shop_at n) [] w words ≡ walk_fault (shop_at m) [] w words
  unfolding walk_fault
  walk_fault_same [] w = refl
  walk_fault_same (word ∷ rest) w =
      let behind : walk_fault (shop_at n) [] (walked (rules_at n) [] w word) rest ≡ walk_fault (shop_at m) [] (walked (rules_at m) [] w word) rest =
      ap (λ (v : Walk). walk_fault (shop_at n) [] v rest) (walked_same n m w word) ∙ walk_fault_same rest (walked (rules_at m) [] w word) in
      λ i. or_else (turn_same w word i) (behind i)

  end_same : (h : Held) → end_fault (shop_at n) false h ≡ end_fault (shop_at m) false h
  unfolding clap_on_literals
  end_same h =
      λ i. or_else (settle_same h i)
      (or_else (defaults_fault (settled_same n m h.pending h.rows i) (rules_at n)) (check_fault (shop_at n) (finished_same n m h i) false))

  level_same : (words : List Text) → level_fault (shop_at n) [] nothing_held words false [] ≡ level_fault (shop_at m) [] nothing_held words false []
  level_same words =
      let at_end : end_fault (shop_at n) false (walk (rules_at n) [] nothing_held words).held ≡ end_fault (shop_at m) false (walk (rules_at m) [] nothing_held words).held =
      ap (λ (w : Walk). end_fault (shop_at n) false w.held) (walk_same n m nothing_held words) ∙ end_same (walk (rules_at m) [] nothing_held words).held in
      λ i. or_else (walk_fault_same words (walk_from nothing_held) i) (at_end i)

-- ---- the whole line

-- what is made of the element that is found, where only the last is another
found_past : {X Z : Type 0} (k : Option X → Z) (x : X) (o p : Option X) → k o ≡ k p → (b : Bool) → k (cond b (Some x) o) ≡ k (cond b (Some x) p)
found_past k x o p e true = refl
found_past k x o p e false = e

found_last : {X Z : Type 0} (k : Option X → Z) (x y : X) → k (Some x) ≡ k (Some y) → (b : Bool) → k (cond b (Some x) None) ≡ k (cond b (Some y) None)
found_last k x y e true = e
found_last k x y e false = refl

found_among : {X Z : Type 0} (k : Option X → Z) (test : X → Bool) (x y : X) → test x ≡ test y → k (Some x) ≡ k (Some y)
    → (xs : List X) → k (find test (xs ++ x ∷ [])) ≡ k (find test (xs ++ y ∷ []))
found_among k test x y t e [] = ap (λ (b : Bool). k (cond b (Some x) None)) t ∙ found_last k x y e (test y)
found_among k test x y t e (z ∷ zs) = found_past k z (find test (zs ++ x ∷ [])) (find test (zs ++ y ∷ [])) (found_among k test x y t e zs) (test z)

abbrev top : Shape
top = (built first_app).top

abbrev top_names : Words → Names
top_names p = names_of (built (dtp_with p))

abbrev stop_at : Words → List Text → Option (Text × List Text)
stop_at p words = (walk top.rules (top_names p) nothing_held words).stopped

module _ (n m : Words) where
  entered_same : (stop : Option (Text × List Text)) → entered (built (dtp_with n)) stop ≡ entered (built (dtp_with m)) stop
  entered_same None = refl
  entered_same (Some p) =
      let k : Option Shape → Option (Text × List Row) = λ o. option_map (λ s. rows_at s p.1) o in
      found_among k (λ s. answers_to p.0 (label_of s)) (shop_at n) (shop_at m) refl (ap Some (rows_same n m p.1)) (built first_app).subs

  pub subcommand_same : (words : List Text) → subcommand_of (dtp_with n) words ≡ subcommand_of (dtp_with m) words
  subcommand_same words = entered_same (stop_at n words)

module _ (n m : Words) (same : texts n.now ≡ texts m.now) where
  entered_fault_same : (stop : Option (Text × List Text)) → entered_fault (built (dtp_with n)) stop ≡ entered_fault (built (dtp_with m)) stop
  entered_fault_same None = refl
  entered_fault_same (Some p) =
      let k : Option Shape → Kinds = λ o. option_map_or (λ s. level_fault s [] nothing_held p.1 false []) o [] in
      found_among k (λ s. answers_to p.0 (label_of s)) (shop_at n) (shop_at m) refl (level_same n m same p.1) (built first_app).subs

  pub fault_same : (words : List Text) → fault_of (dtp_with n) words ≡ fault_of (dtp_with m) words
  fault_same words =
      λ i. level_fault top (top_names n) nothing_held words (is_some (entered_same n m (stop_at n words) i)) (entered_fault_same (stop_at n words) i)
