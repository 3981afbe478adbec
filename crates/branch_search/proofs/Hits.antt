-- Literals that follow by distances, each with its cycle, over plain lists.
use Rattle.std.proofs.Common.{◌≡◌, ◌<◌, ℕ, inr, List, [], ◌∷◌, ◌++◌, length, Option, Some, All, subst, sym}
use Rattle.std.specs.Prelude.{IfSome}
use Rattle.std.proofs.lemmas.List.Elements.{All-push}
use Rattle.stn_core.specs.declared.literal.Literal.{Literal}
use Rattle.stn_core.specs.Literal.{negation_of, IsOver}
use Rattle.stn_core.specs.Cycle.{IsNegativeCycle}
use Rattle.refute_tree.specs.declared.lemma.Lemma.{Lemma}
use Rattle.conflict_analysis.specs.declared.entry.Reason.TheVariants.{Cycle as ByCycle}
use Rattle.conflict_analysis.specs.declared.entry.Entry.{Entry}
use Rattle.conflict_analysis.specs.declared.entry.Level.{Level}
use Rattle.conflict_analysis.specs.code.Trails.{no_literal, on_trail, IsByCycle, Stands}
use Rattle.branch_search.specs.code.Hits.{IsOnPath}
use Rattle.branch_search.specs.code.Search.{IsSearch}
use Rattle.branch_search.specs.Slices.{Question}
use Rattle.branch_search.proofs.States.{state_pushed}

-- one more of the path's literals
pub path_more : (es : List Entry) (denied l : Literal) (old new : List Literal) → new ≡ old ++ l ∷ [] → All (IsOnPath es denied) old → Stands es (length es) l → All (IsOnPath es denied) new
path_more es denied l old new grown before there =
    subst (All (IsOnPath es denied)) (sym grown) (All-push (IsOnPath es denied) old l before (inr there))

-- what stands at a place of the trail
pub stands_at : (es : List Entry) (k : ℕ) (l : Literal) → k < length es → l ≡ on_trail es k → Stands es (length es) l
stands_at es k l within is = (k, within, sym is)

-- a cycle of the negation and the path
pub cycle_by : (es : List Entry) (l denied : Literal) (path : List Literal) → denied ≡ negation_of l → All (IsOnPath es denied) path → IsNegativeCycle path → IsByCycle (Stands es (length es)) l path
cycle_by es l denied path is all negative =
    let on_path : All (IsOnPath es (negation_of l)) path = subst (λ (m : Literal). All (IsOnPath es m) path) is all in
    record { negative = negative; others = λ p lt. on_path p no_literal lt }

pub hit_pushed : (q : Question) (own : List Lemma) (es seen now : List Entry) (levels : List Level) (literals : List Literal) (l : Literal) (number : ℕ) (found : Option (List Literal)) (cycle : List Literal) → IsSearch q own es levels literals → seen ≡ es → IsOver q.problem.points l → found ≡ Some cycle → IfSome found (IsByCycle (Stands es (length es)) l) → now ≡ seen ++ record { literal = l; number = number; reason = ByCycle cycle } ∷ [] → IsSearch q own now levels literals
hit_pushed q own es seen now levels literals l number found cycle s same over is h grown =
    let e : Entry = record { literal = l; number = number; reason = ByCycle cycle } in
    let grew : now ≡ es ++ e ∷ [] = subst (λ (fs : List Entry). now ≡ fs ++ e ∷ []) same grown in
    let shown : IsByCycle (Stands es (length es)) l cycle = subst (λ (o : Option (List Literal)). IfSome o (IsByCycle (Stands es (length es)) l)) is h in
    state_pushed q own es now levels literals e grew s over shown (λ chosen. absurd cc)
