-- What a slice adds to the lemmas that are kept, and what it replies.
use Rattle.std.proofs.Common.{arith, ◌≡◌, ℕ, ℤ, ◌+◌, ◌<◌, ◌≤◌, List, [], ◌++◌, length, map, take, All, refl, sym, ap, ◌∙◌, subst}
use Rattle.std.proofs.lemmas.List.{length-append, length-map, take_all}
use Rattle.std.proofs.lemmas.Option.{slice_get_within}
use Rattle.std.proofs.lemmas.List.Elements.{All-append, All-map, All-weaker}
use Rattle.stn_core.specs.declared.literal.Literal.{Literal}
use Rattle.stn_core.specs.declared.problem.Problem.{Problem}
use Rattle.stn_core.specs.Literal.{Holds, negation_of}
use Rattle.stn_core.specs.Solution.{IsSolution}
use Rattle.refute_tree.specs.declared.lemma.Lemma.{Lemma}
use Rattle.refute_tree.specs.Trees.{stated}
use Rattle.refute_tree.specs.Batches.{LemmaBatch, AreRefuted, JoinedLaw, LemmaIsOver}
use Rattle.conflict_analysis.specs.Proved.{IsClauseOver}
use Rattle.branch_search.specs.declared.answer.Slice.{Slice}
use Rattle.branch_search.specs.declared.answer.Slice.TheVariants.{Model, Refuted, Split}
use Rattle.branch_search.specs.Slices.{question_of, IsBatch, IsSlice}
use Rattle.book_core.specs.declared.event.Outcome.TheVariants.{Shut as ShutBy}
use Rattle.book_core.specs.Books.{IsShutBy, IsJustified}
use Rattle.book_search.proofs.Delivered.{delivers}
use Rattle.kept_search.specs.Searches.{Searched}
use Rattle.kept_search.specs.Kept.{IsSearchOf, IsNext}
use Rattle.kept_search.specs.declared.reply.Reply.TheVariants as reply

pub clauses_over : (problem : Problem) (s : Searched) → IsSearchOf problem s → All (IsClauseOver problem.points) (map stated s.lemmas)
clauses_over problem s of = All-map (IsClauseOver problem.points) stated s.lemmas (All-weaker (LemmaIsOver problem.points) (λ (l : Lemma). IsClauseOver problem.points (stated l)) (λ l o. o.clause) s.lemmas of.over)

pub kept : JoinedLaw → (problem : Problem) (cube : List Literal) (s new : Searched) (batch : LemmaBatch) → IsSearchOf problem s → IsBatch (question_of problem (map stated s.lemmas) cube) batch
    → new.points ≡ s.points → new.lemmas ≡ s.lemmas ++ batch.lemmas → IsSearchOf problem new
kept joined problem cube s new batch of b points lemmas = record {
  points = points ∙ of.points;
  refuted = subst (AreRefuted problem.points problem.clauses []) (sym lemmas) (joined problem.points problem.clauses [] s.lemmas batch.lemmas of.refuted b.proved.0);
  over = subst (All (LemmaIsOver problem.points)) (sym lemmas) (All-append (LemmaIsOver problem.points) s.lemmas batch.lemmas of.over b.proved.1);
}

-- the excluding lemma, by its number behind those that were there
pub denied : ((values : List ℤ) (l : Literal) → Holds values l → Holds values (negation_of l) → ⊥) → (problem : Problem) (cube : List Literal) (s : Searched) (lemmas : List Lemma) (batch : LemmaBatch) (j number : ℕ)
    → IsSlice (question_of problem (map stated s.lemmas) cube) (Refuted batch j) → lemmas ≡ s.lemmas ++ batch.lemmas → number ≡ length s.lemmas + j → IsShutBy (map stated lemmas) cube number
denied exact problem cube s lemmas batch j number is same at =
    let seen : batch.seen ≡ length s.lemmas = is.1.seen ∙ length-map s.lemmas stated in
    let d : IsJustified problem s.lemmas cube batch (ShutBy (batch.seen + j)) = delivers exact (Refuted batch j) batch (ShutBy (batch.seen + j)) (refl, refl) problem s.lemmas cube is in
    let whole : take batch.seen s.lemmas ≡ s.lemmas = take_all batch.seen s.lemmas (omega (arith, seen)) in
    let shut : IsShutBy (map stated (s.lemmas ++ batch.lemmas)) cube (batch.seen + j) = subst (λ (ls : List Lemma). IsShutBy (map stated (ls ++ batch.lemmas)) cube (batch.seen + j)) whole d.fits in
    let there : IsShutBy (map stated lemmas) cube (batch.seen + j) = subst (λ (ls : List Lemma). IsShutBy (map stated ls) cube (batch.seen + j)) (sym same) shut in
    subst (IsShutBy (map stated lemmas) cube) (ap (λ (n : ℕ). n + j) seen ∙ sym at) there

-- what a slice answered over the lemmas that are kept
pub answered : (problem : Problem) (cube : List Literal) (s : Searched) (shown : List Lemma) (slice given : Slice) → shown ≡ s.lemmas → given ≡ slice → IsSlice (question_of problem (map stated shown) cube) given → IsSlice (question_of problem (map stated s.lemmas) cube) slice
answered problem cube s shown slice given same is answer =
    subst (IsSlice (question_of problem (map stated s.lemmas) cube)) is (subst (λ (ls : List Lemma). IsSlice (question_of problem (map stated ls) cube) given) same answer)

pub behind : (before after own : List Lemma) (all count : ℕ) → after ≡ before ++ own → all ≡ length after → count ≡ length own → count ≤ all
behind before after own all count is of_all of_own =
    let long : length (before ++ own) ≡ length before + length own = length-append before own in
    let sum : all ≡ length before + length own = of_all ∙ (ap length is ∙ long) in
    omega (arith, sum, of_own)

-- the excluding lemma is one of the slice's own
pub own_number : (problem : Problem) (cube : List Literal) (s : Searched) (batch : LemmaBatch) (j : ℕ) → IsSlice (question_of problem (map stated s.lemmas) cube) (Refuted batch j) → j < length batch.lemmas
own_number problem cube s batch j is = slice_get_within batch.lemmas j is.0.0 is.0.1

module _ (joined : JoinedLaw) (problem : Problem) (cube : List Literal) (s new : Searched) (batch : LemmaBatch) (of : IsSearchOf problem s) (points : new.points ≡ s.points) (lemmas : new.lemmas ≡ s.lemmas ++ batch.lemmas) where
  pub next_model : (values : List ℤ) → IsSlice (question_of problem (map stated s.lemmas) cube) (Model values batch) → All (Holds values) cube → IsNext problem cube new (reply.Holds values)
  next_model values is all = record { of = kept joined problem cube s new batch of is.1 points lemmas; right = (is.0, all) }

  pub next_open : (values : List ℤ) → IsSlice (question_of problem (map stated s.lemmas) cube) (Model values batch) → IsNext problem cube new reply.Open
  next_open values is = record { of = kept joined problem cube s new batch of is.1 points lemmas; right = tt }

  pub next_split : (l : Literal) → IsSlice (question_of problem (map stated s.lemmas) cube) (Split l batch) → IsNext problem cube new reply.Open
  next_split l is = record { of = kept joined problem cube s new batch of is.1 points lemmas; right = tt }

  pub next_denied : ((values : List ℤ) (l : Literal) → Holds values l → Holds values (negation_of l) → ⊥) → (j all own number : ℕ) → IsSlice (question_of problem (map stated s.lemmas) cube) (Refuted batch j)
      → all ≡ length new.lemmas → own ≡ length batch.lemmas → number + own ≡ all + j → IsNext problem cube new (reply.Denied number)
  next_denied exact j all own number is count of_own at =
      let long : length (s.lemmas ++ batch.lemmas) ≡ length s.lemmas + length batch.lemmas = length-append s.lemmas batch.lemmas in
      let sum : all ≡ length s.lemmas + length batch.lemmas = count ∙ (ap length lemmas ∙ long) in
      record { of = kept joined problem cube s new batch of is.1 points lemmas; right = denied exact problem cube s new.lemmas batch j number is lemmas (omega (arith, sum, of_own, at)) }
