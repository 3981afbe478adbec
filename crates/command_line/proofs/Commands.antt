-- The words behind a command's name are the command's, and what it makes of them is the line.
use Rattle.std.proofs.Common.{◌≡◌, ◌∙◌, ℕ, Bool, true, false, List, [], ◌∷◌, Option, Some, refl, ap, sym}
use Rattle.std.specs.Prelude.{find, fold, is_some, ◌||◌, if◌then◌else◌}
use Rattle.clap.specs.Words.{App, Kinds, Row, Rule, Shape, Text, built, fault_of, subcommand_of}
use Rattle.clap.specs.Faults.{check_fault, default_fault, defaults_fault, entered_fault, level_fault, settle_fault, turn_fault, walk_fault}
use Rattle.clap.specs.Kinds.{or_else}
use Rattle.clap.specs.Simple.{built_leaf, inherited, entered, label_of, names_of, rows_at}
use Rattle.clap.specs.Walk.{Held, Names, Walk, answers_to, default_rows, finished, has_row, nothing_held, reading_by, settled, walk, walk_from, walked, with_default}
use Rattle.clap.specs.declared.builder.value_parser.Reading.{Reading}
use Rattle.clap.proofs.FaultLemmas.{stopped_fault}
use Rattle.clap.proofs.WalkLemmas.{walk_stopped}
use Rattle.command_line.specs.Apps.{dtp_app}
use Rattle.command_line.specs.Lines.{asked, command_of, line_of}
use Rattle.command_line.specs.declared.line.Line.{Line}
use Rattle.command_line.proofs.Options.{Ends, at_rest, either_fault}

-- a command, as it is built
abbrev pub sub : App → Shape
sub app = built_leaf (inherited dtp_app.top app.top)

-- ---- rules without defaults

abbrev pub HaveNoDefaults : List Rule → Type 0
HaveNoDefaults [] = Unit {0}
HaveNoDefaults (a ∷ rest) = (a.defaults ≡ []) × HaveNoDefaults rest

kept : (b : Bool) (rows : List Row) (id : Text) (how : Reading) (defaults : List Text) → defaults ≡ []
    → (if b then rows else default_rows id how defaults rows) ≡ rows
kept true rows id how defaults e = refl
kept false rows id how [] e = refl
kept false rows id how (d ∷ ds) e = cc

no_default : (rows : List Row) (a : Rule) → a.defaults ≡ [] → with_default rows a ≡ rows
no_default rows a e = kept (has_row a.id rows) rows a.id (reading_by a) a.defaults e

all_kept : (rules : List Rule) (rows : List Row) → HaveNoDefaults rules → fold with_default rows rules ≡ rows
all_kept [] rows h = refl
all_kept (a ∷ rest) rows h = ap (λ (x : List Row). fold with_default x rest) (no_default rows a h.0) ∙ all_kept rest rows h.1

either_true : (b : Bool) (x : Kinds) → (if b || true then [] else x) ≡ []
either_true true x = refl
either_true false x = refl

no_default_fault : (rows : List Row) (a : Rule) → a.defaults ≡ [] → default_fault rows a ≡ []
no_default_fault rows a e = rw e (either_true (has_row a.id rows) _)

defaults_right : (rules : List Rule) (rows : List Row) → HaveNoDefaults rules → defaults_fault rows rules ≡ []
unfolding defaults_fault
defaults_right [] rows h = refl
defaults_right (a ∷ rest) rows h =
    either_fault (default_fault rows a) (defaults_fault (with_default rows a) rest) (no_default_fault rows a h.0)
    (ap (λ (x : List Row). defaults_fault x rest) (no_default rows a h.0) ∙ defaults_right rest rows h.1)

-- ---- one level

-- what is asked behind the last word
abbrev pub end_fault : Shape → Bool → Held → Kinds
end_fault s b h =
    or_else (settle_fault s.rules s.args_override_self h) (or_else (defaults_fault (settled s.rules h).rows s.rules) (check_fault s (finished s.rules h) b))

level : (s : Shape) (names : Names) (words : List Text) (b : Bool) (below : Kinds) (w : Walk) → walk s.rules names nothing_held words ≡ w
    → walk_fault s names (walk_from nothing_held) words ≡ [] → below ≡ [] → end_fault s b w.held ≡ []
    → level_fault s names nothing_held words b below ≡ []
level s names words b below w is right below_right end_right =
    either_fault (walk_fault s names (walk_from nothing_held) words) _ right
    (either_fault below (end_fault s b (walk s.rules names nothing_held words).held) below_right
    (ap (λ (x : Walk). end_fault s b x.held) is ∙ end_right))

-- ---- the command's name

abbrev top : Shape
top = (built dtp_app).top

abbrev names : Names
names = names_of (built dtp_app)

abbrev stopped_at : Text → List Text → Walk
stopped_at name words = record (walk_from nothing_held) { stopped = Some (name, words) }

-- the command of this name has this shape, and no defaults
pub record IsCommand (name : Text) (s : Shape) : Type 0 where
  pub first : walked top.rules names (walk_from nothing_held) name ≡ stopped_at name []
  pub right : turn_fault top names (walk_from nothing_held) name ≡ []
  pub found : find (λ s. answers_to name (label_of s)) (built dtp_app).subs ≡ Some s
  pub named : s.name ≡ name
  pub plain : HaveNoDefaults s.rules
  pub top_right : end_fault top true nothing_held ≡ []

module _ (name : Text) (s : Shape) (is : IsCommand name s) (words : List Text) where
  reached : walk top.rules names nothing_held (name ∷ words) ≡ stopped_at name words
  reached =
      ap (λ (w : Walk). fold (walked top.rules names) w words) is.first
      ∙ sym (walk_stopped top.rules names (walk_from nothing_held) name [] words)

  top_words : walk_fault top names (walk_from nothing_held) (name ∷ words) ≡ []
  unfolding walk_fault
  top_words =
      either_fault (turn_fault top names (walk_from nothing_held) name) _ is.right
      (ap (λ (w : Walk). walk_fault top names w words) is.first ∙ stopped_fault top names (walk_from nothing_held) (name, []) words)

  entered_is : entered (built dtp_app) (Some (name, words)) ≡ Some (rows_at s words)
  entered_is = rw is.found refl

  below_is : entered_fault (built dtp_app) (Some (name, words)) ≡ level_fault s [] nothing_held words false []
  below_is = rw is.found refl

  no_fault : level_fault s [] nothing_held words false [] ≡ [] → fault_of dtp_app (name ∷ words) ≡ []
  no_fault below =
      let stop : (walk top.rules names nothing_held (name ∷ words)).stopped ≡ Some (name, words) = ap (λ (w : Walk). w.stopped) reached in
      ap (λ (x : Option (Text × List Text)). level_fault top names nothing_held (name ∷ words) (is_some (entered (built dtp_app) x)) (entered_fault (built dtp_app) x)) stop
      ∙ ap (λ (x : Option (Text × List Row)). level_fault top names nothing_held (name ∷ words) (is_some x) (entered_fault (built dtp_app) (Some (name, words)))) entered_is
      ∙ level top names (name ∷ words) true _ (stopped_at name words) reached top_words (below_is ∙ below) is.top_right

  found_is : subcommand_of dtp_app (name ∷ words) ≡ Some (s.name, finished s.rules (walk s.rules [] nothing_held words).held)
  found_is =
      let stop : (walk top.rules names nothing_held (name ∷ words)).stopped ≡ Some (name, words) = ap (λ (w : Walk). w.stopped) reached in
      ap (λ (x : Option (Text × List Text)). entered (built dtp_app) x) stop ∙ entered_is

  asked_of : (kinds : Kinds) (found : Option (Text × List Row)) (rows : List Row) (line : Line) → kinds ≡ [] → found ≡ Some (s.name, rows)
      → command_of name rows ≡ Some line → asked kinds found ≡ Some line
  asked_of kinds found rows line no_kind there what = rw no_kind (rw there (rw is.named what))

  -- The words end where nothing is wrong with them, and the rows are the line's.
  pub line_from : (position : ℕ) (all : List Row) (line : Line) → Ends s position (walk_from nothing_held) words all
      → check_fault s all false ≡ [] → command_of name all ≡ Some line → line_of (name ∷ words) ≡ Some line
  line_from position all line ends checks what =
      let held = (at_rest position ends.rows ends.pending).held in
      let rows_are : finished s.rules held ≡ all = all_kept s.rules (settled s.rules held).rows is.plain ∙ ends.all_is in
      let end_right : end_fault s false held ≡ [] =
      either_fault (settle_fault s.rules s.args_override_self held) _ ends.ready
      (either_fault (defaults_fault (settled s.rules held).rows s.rules) _ (defaults_right s.rules (settled s.rules held).rows is.plain)
      (ap (λ (x : List Row). check_fault s x false) rows_are ∙ checks)) in
      let no_kind : fault_of dtp_app (name ∷ words) ≡ [] =
      no_fault (level s [] words false [] (at_rest position ends.rows ends.pending) ends.walks ends.right refl end_right) in
      let rows_found : finished s.rules (walk s.rules [] nothing_held words).held ≡ all =
      ap (λ (w : Walk). finished s.rules w.held) ends.walks ∙ rows_are in
      asked_of (fault_of dtp_app (name ∷ words)) (subcommand_of dtp_app (name ∷ words)) all line no_kind
      (found_is ∙ ap (λ (x : List Row). Some (s.name, x)) rows_found) what
