-- What a search that is kept replies to a question.
use Rattle.std.proofs.Common.{arith, ◌≡◌, ◌<ℤ◌, ◌≤ℤ◌, ◌<◌, ℕ, ℤ, List, [], ◌∷◌, ◌++◌, map, All, Option, Some, sym, ap, ◌∙◌, subst}
use Rattle.std.specs.Prelude.{IfSome}
use Rattle.std.proofs.lemmas.Int.{ints}
use Rattle.std.proofs.lemmas.List.Elements.{All-nil, All-cons}
use Rattle.stn_core.specs.declared.literal.Literal.{Literal}
use Rattle.stn_core.specs.declared.problem.Problem.{Problem}
use Rattle.stn_core.specs.Literal.{Holds, IsOver}
use Rattle.refute_tree.specs.declared.lemma.Lemma.{Lemma}
use Rattle.refute_tree.specs.Trees.{stated}
use Rattle.book_core.specs.declared.verdict.Verdict.{Verdict}
use Rattle.book_core.specs.Verdicts.{IsRight}
use Rattle.best_values.specs.Bests.{objective}
use Rattle.best_values.specs.Questions.{below, Asks}
use Rattle.best_values.specs.Widths.{Fits, IsWithinLimit}
use Rattle.better_schedules.specs.declared.descent.Descent.{Descent}
use Rattle.better_schedules.specs.declared.descent.Question.{Question}
use Rattle.better_schedules.specs.code.Descents.{IsDescent, IsQuestion}
use Rattle.better_schedules.proofs.Descending.{middle_within}
use Rattle.best_bound.specs.declared.asking.Asked.{Asked}
use Rattle.best_bound.specs.declared.asking.Asked.TheVariants as asked
use Rattle.best_bound.specs.declared.hearing.Heard.{Heard}
use Rattle.best_bound.specs.code.Hearings.{IsHeard}
use Rattle.best_bound.specs.code.Askings.{IsAsked}
use Rattle.kept_search.specs.Searches.{Searched}
use Rattle.kept_search.specs.Kept.{IsSearchOf, IsNext, HasClauseMore}
use Rattle.kept_search.specs.declared.reply.Reply.{Reply}
use Rattle.kept_search.specs.declared.reply.Reply.TheVariants as reply

over : (problem : Problem) (x y : ℕ) (m : ℤ) → x < problem.points → y < problem.points → IsWithinLimit m → IsOver problem.points (below x y m)
over problem x y m x_in y_in within = let low = within.low in let high = within.high in record { x_in = x_in; y_in = y_in; low = omega (arith, ints); high = omega (arith, ints) }

pub cube_over : (problem : Problem) (x y : ℕ) (m : ℤ) (l : Literal) (cube : List Literal) → x < problem.points → y < problem.points → IsWithinLimit m → l ≡ below x y m → cube ≡ l ∷ [] → All (IsOver problem.points) cube
cube_over problem x y m l cube x_in y_in within is alone =
    subst (All (IsOver problem.points)) (sym (alone ∙ ap (λ (k : Literal). k ∷ []) is)) (All-cons (IsOver problem.points) (below x y m) [] (over problem x y m x_in y_in within) (All-nil (IsOver problem.points)))

-- the reply, of the literal alone
pub replied : (problem : Problem) (l : Literal) (cube : List Literal) (new : Searched) (r given : Reply) → cube ≡ l ∷ [] → given ≡ r → IsNext problem cube new given → IsNext problem (l ∷ []) new r
replied problem l cube new r given alone is h = subst (λ (k : List Literal). IsNext problem k new r) alone (subst (IsNext problem cube new) is h)

pub less : (x y : ℕ) (m value : ℤ) (l : Literal) (values : List ℤ) → l ≡ below x y m → All (Holds values) (l ∷ []) → m ≤ℤ value → objective x y values <ℤ value
less x y m value l values is all most =
    let holds : Holds values (below x y m) = subst (Holds values) is (all 0 l (omega arith)) in
    omega (arith, ints, holds, most)

pub asks_more : (problem asked : Problem) (x y : ℕ) (m : ℤ) (l : Literal) → l ≡ below x y m → Asks problem x y m asked → HasClauseMore problem asked (l ∷ [])
asks_more problem asked x y m l is a = record { points = a.points; clauses = subst (λ (k : Literal). asked.clauses ≡ problem.clauses ++ (k ∷ []) ∷ []) (sym is) a.clauses }

-- the bound that is asked for is within the limit
pub bound_within : (problem : Problem) (x y : ℕ) (d : Descent) (q : Question) → Fits problem → IsDescent problem x y d → IsQuestion problem x y d q → IsWithinLimit q.bound.value
bound_within problem x y d q fits descent question = middle_within problem d.lower.value d.incumbent.value q.bound.value fits descent.floor question.near descent.opening.most question.middle

-- what was heard of a question, at once or when it was still open
pub heard_at_once : (problem : Problem) (x y : ℕ) (old : Descent) (a : Asked) (heard now : Heard) → IsAsked problem x y old a → a ≡ asked.Heard heard → now ≡ heard → IsHeard problem x y old now
heard_at_once problem x y old a heard now h is same = subst (IsHeard problem x y old) (sym same) (subst (IsAsked problem x y old) is h)

pub heard_later : (problem : Problem) (x y : ℕ) (old same : Descent) (question : Question) (a : Asked) (heard now : Heard) → IsAsked problem x y old a → a ≡ asked.Open same question → IsHeard problem x y same heard → now ≡ heard → IsHeard problem x y old now
heard_later problem x y old same question a heard now h is later e =
    let open_ : (same ≡ old) × IsQuestion problem x y old question = subst (IsAsked problem x y old) is h in
    subst (IsHeard problem x y old) (sym e) (subst (λ (d : Descent). IsHeard problem x y d heard) open_.0 later)

-- what is known of the problem, at once or when a search has ended
pub known_at_once : (problem : Problem) (o : Option Verdict) (verdict now : Verdict) → IfSome o (IsRight problem) → o ≡ Some verdict → now ≡ verdict → IsRight problem now
known_at_once problem o verdict now h is same = subst (IsRight problem) (sym same) (subst (λ (v : Option Verdict). IfSome v (IsRight problem)) is h)

pub known_later : (problem : Problem) (verdict now : Verdict) → IsRight problem verdict → now ≡ verdict → IsRight problem now
known_later problem verdict now h same = subst (IsRight problem) (sym same) h
