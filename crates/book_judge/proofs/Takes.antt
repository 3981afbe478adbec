-- Cubes that were taken.
use Rattle.std.proofs.Common.{◌≡◌, ◌≢◌, ℕ, List, refl, sym, ap, ◌∙◌, subst}
use Rattle.cover_tree.specs.Covers.{cube_at}
use Rattle.book_core.specs.declared.event.Event.TheVariants.{Take}
use Rattle.book_core.specs.declared.event.Taken.{Taken}
use Rattle.book_core.specs.declared.event.Taken.TheVariants.{Done, Idle, Cube}
use Rattle.book_core.specs.declared.answer.Answer.{Answer}
use Rattle.book_core.specs.declared.answer.Answer.TheVariants.{Done as AnswerDone, Idle as AnswerIdle, Cube as AnswerCube}
use Rattle.book_core.specs.Books.{State, after}
use Rattle.book_core.specs.Runs.{Ledger, state_of, Answers}
use Rattle.book_core.proofs.Runs.{state_next}
use Rattle.stn_core.specs.declared.literal.Literal.{Literal}
use Rattle.stn_core.specs.declared.problem.Problem.{Problem}
use Rattle.refute_tree.specs.declared.lemma.Lemma.{Lemma}
use Rattle.refute_tree.specs.Batches.{LemmaBatch}
use Rattle.book_core.specs.declared.event.Outcome.{Outcome}
use Rattle.book_judge.specs.declared.judging.Fault.{Fault}
use Rattle.book_judge.specs.declared.judging.Fault.TheVariants.{OutOfMemory}
use Rattle.book_judge.specs.Faults.{IsFaultOf}
use Rattle.book_judge.specs.Replies.{IsCubeOf, MayDeliver}
use Rattle.book_judge.proofs.Judged.{unjustified}

-- a `take` leaves the cubes as they are
cube_after : (s : State) (seat : ℕ) (taken : Taken) (k : ℕ) → cube_at (after s (Take seat taken)).cover k ≡ cube_at s.cover k
cube_after s seat Done k = refl
cube_after s seat Idle k = refl
cube_after s seat (Cube id) k = refl

pub cubes_kept : (old new : Ledger) (seat : ℕ) (answer : Answer) → Answers old seat answer new → (k : ℕ) → cube_at (state_of new).cover k ≡ cube_at (state_of old).cover k
cubes_kept old new seat AnswerDone r k = ap (λ (s : State). cube_at s.cover k) (state_next old new (Take seat Done) r.1) ∙ cube_after (state_of old) seat Done k
cubes_kept old new seat AnswerIdle r k = ap (λ (s : State). cube_at s.cover k) (state_next old new (Take seat Idle) r.1) ∙ cube_after (state_of old) seat Idle k
cubes_kept old new seat (AnswerCube id cube) r k = ap (λ (s : State). cube_at s.cover k) (state_next old new (Take seat (Cube id)) r.0.1) ∙ cube_after (state_of old) seat (Cube id) k

pub cube_answered : (old new : Ledger) (seat : ℕ) (answer : Answer) → Answers old seat answer new → IsCubeOf (state_of new).cover answer
cube_answered old new seat AnswerDone r = tt
cube_answered old new seat AnswerIdle r = tt
cube_answered old new seat (AnswerCube id cube) r = r.1 ∙ sym (cubes_kept old new seat (AnswerCube id cube) r id)

-- a fault of what was to be delivered of the cube that was taken
pub not_delivered : (old : Ledger) (seat : ℕ) (taken : Answer) (id : ℕ) (cube shown : List Literal) (problem : Problem) (lemmas : List Lemma) (batch : LemmaBatch) (outcome : Outcome) (fault : Fault)
    → taken ≡ AnswerCube id cube → IsCubeOf (state_of old).cover taken → problem ≡ old.problem → lemmas ≡ (state_of old).lemmas → shown ≡ cube → fault ≢ OutOfMemory → IsFaultOf problem lemmas shown batch outcome fault → MayDeliver old seat taken batch outcome → ⊥
not_delivered old seat taken id cube shown problem lemmas batch outcome fault e of ep el ec other f may =
    let there : cube ≡ cube_at (state_of old).cover id = subst (IsCubeOf (state_of old).cover) e of in
    let now : MayDeliver old seat (AnswerCube id cube) batch outcome = subst (λ (a : Answer). MayDeliver old seat a batch outcome) e may in
    let f1 : IsFaultOf old.problem lemmas shown batch outcome fault = subst (λ (p : Problem). IsFaultOf p lemmas shown batch outcome fault) ep f in
    let f2 : IsFaultOf old.problem (state_of old).lemmas shown batch outcome fault = subst (λ (ls : List Lemma). IsFaultOf old.problem ls shown batch outcome fault) el f1 in
    let f3 : IsFaultOf old.problem (state_of old).lemmas (cube_at (state_of old).cover id) batch outcome fault = subst (λ (c : List Literal). IsFaultOf old.problem (state_of old).lemmas c batch outcome fault) (ec ∙ there) f2 in
    unjustified old.problem (state_of old).lemmas (cube_at (state_of old).cover id) batch outcome fault other f3 now.1
