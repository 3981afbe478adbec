-- The four numbers of `bench`: the walk over them is taken one word after the other, from one written state to the next.
use Rattle.std.proofs.Common.{◌≡◌, ◌∙◌, ℕ, List, [], ◌∷◌, Some, refl, ap, codes}
use Rattle.std.specs.Prelude.{unwrap_or, fold}
use Rattle.clap.specs.Words.{Row, Rule, Shape, Text}
use Rattle.clap.specs.Faults.{turn_fault, walk_fault}
use Rattle.clap.specs.Walk.{Walk, arg_by_index, nothing_held, used, walk_from, walked}
use Rattle.clap.proofs.OnLiterals.{clap_on_literals}
use Rattle.command_line.specs.Apps.{benching_app, jobs_rule}
use Rattle.command_line.proofs.Commands.{sub}
use Rattle.command_line.proofs.Options.{Ends, IsReady, at_rest, more_right}
use Rattle.command_line.proofs.Values.{IsValue}

abbrev pub benching : Shape
benching = sub benching_app

-- the four numbers of a job shop
pub record AreValues (a b c d : Text) : Type 0 where
  pub jobs : IsValue 1 40 a
  pub machines : IsValue 1 40 b
  pub start : IsValue 0 4294967295 c
  pub deadline : IsValue 0 1000000 d

-- the k-th positional
abbrev place : ℕ → Rule
place k = unwrap_or (arg_by_index benching.rules k) jobs_rule

-- where the walk stands when a positional has its value: it is used when the next word comes
abbrev standing : List Row → Text → Text → ℕ → Walk
standing rows id text position = at_rest position rows (Some (id, text ∷ []))

abbrev rows_1 : Text → List Row
rows_1 a = used (place 1) (a ∷ []) []

abbrev rows_2 : Text → Text → List Row
rows_2 a b = used (place 2) (b ∷ []) (rows_1 a)

abbrev pub rows_3 : Text → Text → Text → List Row
rows_3 a b c = used (place 3) (c ∷ []) (rows_2 a b)

abbrev walk_1 : Text → Walk
walk_1 a = standing [] (codes "jobs") a 2

abbrev walk_2 : Text → Text → Walk
walk_2 a b = standing (rows_1 a) (codes "machines") b 3

abbrev walk_3 : Text → Text → Text → Walk
walk_3 a b c = standing (rows_2 a b) (codes "start") c 4

abbrev pub walk_4 : Text → Text → Text → Text → Walk
walk_4 a b c d = standing (rows_3 a b c) (codes "deadline") d 5

step_1 : (a : Text) → IsValue 1 40 a → walked benching.rules [] (walk_from nothing_held) a ≡ walk_1 a
unfolding clap_on_literals
step_1 a v = rw (v.no_dashes, v.bare, v.bare) refl

step_2 : (a b : Text) → IsValue 1 40 b → walked benching.rules [] (walk_1 a) b ≡ walk_2 a b
unfolding clap_on_literals
step_2 a b v = rw (v.no_dashes, v.bare, v.bare) refl

step_3 : (a b c : Text) → IsValue 0 4294967295 c → walked benching.rules [] (walk_2 a b) c ≡ walk_3 a b c
unfolding clap_on_literals
step_3 a b c v = rw (v.no_dashes, v.bare, v.bare) refl

step_4 : (a b c d : Text) → IsValue 0 1000000 d → walked benching.rules [] (walk_3 a b c) d ≡ walk_4 a b c d
unfolding clap_on_literals
step_4 a b c d v = rw (v.no_dashes, v.bare, v.bare) refl

turn_1 : (a : Text) → IsValue 1 40 a → turn_fault benching [] (walk_from nothing_held) a ≡ []
unfolding clap_on_literals
turn_1 a v = rw (v.no_dashes, v.bare, v.bare) refl

turn_2 : (a b : Text) → IsValue 1 40 a → IsValue 1 40 b → turn_fault benching [] (walk_1 a) b ≡ []
unfolding clap_on_literals
turn_2 a b u v = rw (v.no_dashes, v.bare, v.bare, u.fits) refl

turn_3 : (a b c : Text) → IsValue 1 40 b → IsValue 0 4294967295 c → turn_fault benching [] (walk_2 a b) c ≡ []
unfolding clap_on_literals
turn_3 a b c u v = rw (v.no_dashes, v.bare, v.bare, u.fits) refl

turn_4 : (a b c d : Text) → IsValue 0 4294967295 c → IsValue 0 1000000 d → turn_fault benching [] (walk_3 a b c) d ≡ []
unfolding clap_on_literals
turn_4 a b c d u v = rw (v.no_dashes, v.bare, v.bare, u.fits) refl

abbrev pub rows_4 : Text → Text → Text → Text → List Row
rows_4 a b c d = used (place 4) (d ∷ []) (rows_3 a b c)

words_right : (a b c d : Text) (rest : List Text) → AreValues a b c d → walk_fault benching [] (walk_4 a b c d) rest ≡ []
    → walk_fault benching [] (walk_from nothing_held) (a ∷ b ∷ c ∷ d ∷ rest) ≡ []
words_right a b c d rest v behind =
    more_right benching _ (walk_1 a) a _ (turn_1 a v.jobs) (step_1 a v.jobs)
    (more_right benching (walk_1 a) (walk_2 a b) b _ (turn_2 a b v.jobs v.machines) (step_2 a b v.machines)
    (more_right benching (walk_2 a b) (walk_3 a b c) c _ (turn_3 a b c v.machines v.start) (step_3 a b c v.start)
    (more_right benching (walk_3 a b c) (walk_4 a b c d) d rest (turn_4 a b c d v.start v.deadline) (step_4 a b c d v.deadline) behind)))

-- the walk over the four numbers, and what follows them
words_walk : (a b c d : Text) (rest : List Text) → AreValues a b c d
    → fold (walked benching.rules []) (walk_from nothing_held) (a ∷ b ∷ c ∷ d ∷ rest) ≡ fold (walked benching.rules []) (walk_4 a b c d) rest
words_walk a b c d rest v =
    let on : Walk → List Text → Walk = fold (walked benching.rules []) in
    ap (λ (x : Walk). on x (b ∷ c ∷ d ∷ rest)) (step_1 a v.jobs)
    ∙ ap (λ (x : Walk). on x (c ∷ d ∷ rest)) (step_2 a b v.machines)
    ∙ ap (λ (x : Walk). on x (d ∷ rest)) (step_3 a b c v.start)
    ∙ ap (λ (x : Walk). on x rest) (step_4 a b c d v.deadline)

-- the last number is pending
pub four_ready : (a b c d : Text) → IsValue 0 1000000 d → IsReady benching 5 (rows_3 a b c) (Some (codes "deadline", d ∷ []))
unfolding clap_on_literals
four_ready a b c d v = rw (v.fits) refl

-- the four numbers, and then words that end well
pub behind_four : (a b c d : Text) (rest : List Text) (all : List Row) → AreValues a b c d → Ends benching 5 (walk_4 a b c d) rest all
    → Ends benching 5 (walk_from nothing_held) (a ∷ b ∷ c ∷ d ∷ rest) all
behind_four a b c d rest all v ends = record {
  rows = ends.rows;
  pending = ends.pending;
  walks = words_walk a b c d rest v ∙ ends.walks;
  right = words_right a b c d rest v ends.right;
  ready = ends.ready;
  all_is = ends.all_is;
}
