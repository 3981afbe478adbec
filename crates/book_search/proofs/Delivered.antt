-- What a slice answers may be delivered.
use Rattle.std.proofs.Common.{arith, ◌≡◌, ℕ, zero, suc, ◌+◌, inl, List, [], ◌∷◌, ◌++◌, length, map, take, Some, All, Contains, ℤ, refl, sym, ap, ◌∙◌, subst}
use Rattle.std.specs.Prelude.{slice_get}
use Rattle.std.proofs.lemmas.List.{length-map}
use Rattle.std.proofs.lemmas.List.Elements.{All-map, All-weaker, All-contains, Contains-append_left, Contains-append_right}
use Rattle.stn_core.specs.declared.literal.Literal.{Literal}
use Rattle.stn_core.specs.declared.problem.Problem.{Problem}
use Rattle.stn_core.specs.Literal.{Holds, IsOver, negation_of}
use Rattle.stn_core.specs.Net.{IsConsistent}
use Rattle.refute_tree.specs.declared.lemma.Lemma.{Lemma}
use Rattle.refute_tree.specs.Trees.{IsDenied, stated}
use Rattle.refute_tree.specs.Batches.{LemmaBatch, AreRefuted, LemmaIsOver}
use Rattle.branch_search.specs.declared.answer.Slice.{Slice}
use Rattle.branch_search.specs.declared.answer.Slice.TheVariants.{Model, Refuted, Split}
use Rattle.branch_search.specs.declared.answer.Part.{Part}
use Rattle.branch_search.specs.declared.answer.Part.TheVariants.{Ended, Paused}
use Rattle.conflict_analysis.specs.Proved.{IsClauseOver}
use Rattle.branch_search.specs.Slices.{question_of, Excludes, IsPart, IsSlice, IsSplit, IsBatch}
use Rattle.cover_tree.proofs.Sets.{get_behind}
use Rattle.cover_tree.proofs.Tables.{get_map}
use Rattle.book_core.specs.declared.event.Outcome.{Outcome}
use Rattle.book_core.specs.declared.event.Outcome.TheVariants.{Found, Shut as ShutBy, Split as SplitBy, Open}
use Rattle.cover_tree.specs.Covers.{cube_at}
use Rattle.book_core.specs.Facts.{IsSound}
use Rattle.book_core.proofs.Concluding.{shared_clauses, cubes_over}
use Rattle.book_core.specs.Books.{State, IsJustified, IsShutBy, IsDecidable, IsUndecided, Fits}
use Rattle.stn_core.specs.Solution.{IsSolution}
use Rattle.book_core.proofs.Sound.{negation_twice}
use Rattle.book_search.specs.code.Deliveries.{Delivers, DeliversPart}

take_all : {A : Type 0} (n : ℕ) (xs : List A) → n ≡ length xs → take n xs ≡ xs
take_all zero [] e = refl
take_all (suc n) [] e = refl
take_all zero (x ∷ xs) e = absurd (omega arith)
take_all {A = A} (suc n) (x ∷ xs) e = ap (λ (ys : List A). x ∷ ys) (take_all n xs (omega arith))

module _ (problem : Problem) (lemmas : List Lemma) (cube : List Literal) (batch : LemmaBatch) (b : IsBatch (question_of problem (map stated lemmas) cube) batch) where
  abbrev seen_all : batch.seen ≡ length lemmas
  seen_all = b.seen ∙ length-map lemmas stated

  abbrev whole : take batch.seen lemmas ≡ lemmas
  whole = take_all batch.seen lemmas seen_all

  justified : (outcome : Outcome) → Fits problem (lemmas ++ batch.lemmas) cube outcome → IsJustified problem lemmas cube batch outcome
  justified outcome f = record {
    seen = omega (arith, seen_all);
    refuted = subst (λ (ls : List Lemma). AreRefuted problem.points problem.clauses (map stated ls) batch.lemmas) (sym whole) b.proved.0;
    over = b.proved.1;
    fits = subst (λ (ls : List Lemma). Fits problem (ls ++ batch.lemmas) cube outcome) (sym whole) f;
  }

denied : (cube clause : List Literal) → All (λ (m : Literal). (l : Literal) × Contains cube l × (m ≡ negation_of l)) clause → IsDenied cube clause
denied cube clause h = All-map (Contains cube) negation_of clause (All-weaker (λ (m : Literal). (l : Literal) × Contains cube l × (m ≡ negation_of l)) (λ (m : Literal). Contains cube (negation_of m)) one clause h)
  where
    one : (m : Literal) → (l : Literal) × Contains cube l × (m ≡ negation_of l) → Contains cube (negation_of m)
    one m h = subst (Contains cube) (sym (ap negation_of h.2 ∙ negation_twice h.0)) h.1

shut_behind : (lemmas own : List Lemma) (cube : List Literal) (seen j : ℕ) → seen ≡ length lemmas → Excludes cube own j → IsShutBy (map stated (lemmas ++ own)) cube (seen + j)
shut_behind lemmas own cube seen j e h =
    let at : slice_get (lemmas ++ own) (seen + j) ≡ Some h.0 = ap (λ (n : ℕ). slice_get (lemmas ++ own) (n + j)) e ∙ (get_behind lemmas own j ∙ h.1) in
    (h.0.clause, get_map stated (lemmas ++ own) (seen + j) h.0 at, denied cube h.0.clause h.2)

-- a literal that is consistent with the cube is not denied there
not_denied : (points : ℕ) (exact : (values : List ℤ) (l : Literal) → Holds values l → Holds values (negation_of l) → ⊥) (cube : List Literal) (l m : Literal) → negation_of m ≡ l → IsConsistent points (cube ++ m ∷ []) → Contains cube l → ⊥
not_denied points exact cube l m e c h =
    let values = c.0 in
    let here : Holds values m = All-contains (Holds values) (cube ++ m ∷ []) m c.1.holds (Contains-append_right cube (m ∷ []) m (0, omega arith, refl)) in
    let there : Holds values l = All-contains (Holds values) (cube ++ m ∷ []) l c.1.holds (Contains-append_left cube (m ∷ []) l h) in
    exact values m here (subst (Holds values) (sym e) there)

split_fits : (problem : Problem) (exact : (values : List ℤ) (l : Literal) → Holds values l → Holds values (negation_of l) → ⊥) (handed : List (List Literal)) (cube : List Literal) (l : Literal) → IsSplit (question_of problem handed cube) l → IsDecidable problem l × IsUndecided cube l
split_fits problem exact handed cube l s = (
  inl s.stated,
  (
    not_denied problem.points exact cube l (negation_of l) (negation_twice l) s.against,
    not_denied problem.points exact cube (negation_of l) l refl s.with_it,
  ),
)

-- which delivery goes with which answer
abbrev pub Matches : Slice → LemmaBatch → Outcome → Type 0
Matches (Model values own) batch (Found schedule) = (batch ≡ own) × (schedule ≡ values)
Matches (Refuted own j) batch (ShutBy k) = (batch ≡ own) × (k ≡ batch.seen + j)
Matches (Split l own) batch (SplitBy k) = (batch ≡ own) × (k ≡ l)
Matches slice batch outcome = ⊥

pub delivers : (exact : (values : List ℤ) (l : Literal) → Holds values l → Holds values (negation_of l) → ⊥) (slice : Slice) (batch : LemmaBatch) (outcome : Outcome) → Matches slice batch outcome → Delivers slice batch outcome
delivers exact (Model values own) batch (Found schedule) m problem lemmas cube h =
    let same : IsBatch (question_of problem (map stated lemmas) cube) batch = subst (IsBatch (question_of problem (map stated lemmas) cube)) (sym m.0) h.1 in
    justified problem lemmas cube batch same (Found schedule) (subst (IsSolution problem) (sym m.1) h.0)
delivers exact (Model values own) batch (ShutBy j) m problem lemmas cube h = absurd m
delivers exact (Model values own) batch (SplitBy l) m problem lemmas cube h = absurd m
delivers exact (Model values own) batch Open m problem lemmas cube h = absurd m
delivers exact (Refuted own j) batch (Found schedule) m problem lemmas cube h = absurd m
delivers exact (Refuted own j) batch (ShutBy k) m problem lemmas cube h =
    let same : IsBatch (question_of problem (map stated lemmas) cube) batch = subst (IsBatch (question_of problem (map stated lemmas) cube)) (sym m.0) h.1 in
    let excludes : Excludes cube batch.lemmas j = subst (λ (b : LemmaBatch). Excludes cube b.lemmas j) (sym m.0) h.0 in
    let shut : IsShutBy (map stated (lemmas ++ batch.lemmas)) cube (batch.seen + j) = shut_behind lemmas batch.lemmas cube batch.seen j (same.seen ∙ length-map lemmas stated) excludes in
    justified problem lemmas cube batch same (ShutBy k) (subst (IsShutBy (map stated (lemmas ++ batch.lemmas)) cube) (sym m.1) shut)
delivers exact (Refuted own j) batch (SplitBy l) m problem lemmas cube h = absurd m
delivers exact (Refuted own j) batch Open m problem lemmas cube h = absurd m
delivers exact (Split l own) batch (Found schedule) m problem lemmas cube h = absurd m
delivers exact (Split l own) batch (ShutBy j) m problem lemmas cube h = absurd m
delivers exact (Split l own) batch Open m problem lemmas cube h = absurd m
delivers exact (Split l own) batch (SplitBy k) m problem lemmas cube h =
    let same : IsBatch (question_of problem (map stated lemmas) cube) batch = subst (IsBatch (question_of problem (map stated lemmas) cube)) (sym m.0) h.1 in
    justified problem lemmas cube batch same (SplitBy k) (subst (λ (n : Literal). IsDecidable problem n × IsUndecided cube n) (sym m.1) (split_fits problem exact (map stated lemmas) cube l h.0))

pub delivers_as : (exact : (values : List ℤ) (l : Literal) → Holds values l → Holds values (negation_of l) → ⊥) (slice given : Slice) (batch : LemmaBatch) (outcome : Outcome) → given ≡ slice → Matches slice batch outcome → Delivers given batch outcome
delivers_as exact slice given batch outcome e m = subst (λ (s : Slice). Delivers s batch outcome) (sym e) (delivers exact slice batch outcome m)

-- a part that is a slice's answer is delivered so
pub ended_delivers : (slice : Slice) (part : Part) (batch : LemmaBatch) (outcome : Outcome) → part ≡ Ended slice → Delivers slice batch outcome → DeliversPart part batch outcome
ended_delivers slice part batch outcome e d = subst (λ (p : Part). DeliversPart p batch outcome) (sym e) d

-- and where the search paused, the lemmas alone
pub paused_delivers : (part : Part) (batch : LemmaBatch) → part ≡ Paused batch → DeliversPart part batch Open
paused_delivers part batch e = subst (λ (p : Part). DeliversPart p batch Open) (sym e) (λ problem lemmas cube h. justified problem lemmas cube batch h Open tt)

-- the clauses of shared lemmas
pub clauses_over : {A : Type 0} (value : A → Lemma) (xs : List A) (lemmas : List Lemma) (shown problem : Problem) → map value xs ≡ lemmas → shown ≡ problem → All (LemmaIsOver problem.points) lemmas → All (IsClauseOver shown.points) (map (λ a. stated (value a)) xs)
clauses_over value xs lemmas shown problem e same h =
    let over : All (LemmaIsOver problem.points) (map value xs) = subst (All (LemmaIsOver problem.points)) (sym e) h in
    let clauses : All (IsClauseOver problem.points) (map stated (map value xs)) = All-map (IsClauseOver problem.points) stated (map value xs) (All-weaker (LemmaIsOver problem.points) (λ (l : Lemma). IsClauseOver problem.points (stated l)) (λ l o. o.clause) (map value xs) over) in
    subst (λ (p : Problem). All (IsClauseOver p.points) (map (λ a. stated (value a)) xs)) (sym same) (subst (All (IsClauseOver problem.points)) (shared_clauses value xs) clauses)

pub cube_over : (shown problem : Problem) (s : State) (cube : List Literal) (id : ℕ) → shown ≡ problem → cube ≡ cube_at s.cover id → IsSound problem s → All (IsOver shown.points) cube
cube_over shown problem s cube id same e h =
    subst (λ (p : Problem). All (IsOver p.points) cube) (sym same) (subst (All (IsOver problem.points)) (sym e) (cubes_over problem s h id))

pub justified_by : {A : Type 0} (value : A → Lemma) (xs : List A) (lemmas : List Lemma) (shown problem : Problem) (given cube : List Literal) (slice : Slice) (batch : LemmaBatch) (outcome : Outcome) → map value xs ≡ lemmas → shown ≡ problem → given ≡ cube → IsSlice (question_of shown (map (λ a. stated (value a)) xs) given) slice → Delivers slice batch outcome → IsJustified problem lemmas cube batch outcome
justified_by value xs lemmas shown problem given cube slice batch outcome e same is answer d =
    let clauses : map (λ a. stated (value a)) xs ≡ map stated lemmas = sym (shared_clauses value xs) ∙ ap (map stated) e in
    d problem lemmas cube
    (subst (λ (k : List Literal). IsSlice (question_of problem (map stated lemmas) k) slice) is
    (subst (λ (cs : List (List Literal)). IsSlice (question_of problem cs given) slice) clauses
    (subst (λ (p : Problem). IsSlice (question_of p (map (λ a. stated (value a)) xs) given) slice) same answer)))

pub part_justified_by : {A : Type 0} (value : A → Lemma) (xs : List A) (problem : Problem) (cube : List Literal) (part : Part) (batch : LemmaBatch) (outcome : Outcome) → IsPart (question_of problem (map (λ a. stated (value a)) xs) cube) part → DeliversPart part batch outcome → IsJustified problem (map value xs) cube batch outcome
part_justified_by value xs problem cube part batch outcome answer d =
    d problem (map value xs) cube (subst (λ (cs : List (List Literal)). IsPart (question_of problem cs cube) part) (sym (shared_clauses value xs)) answer)

-- a delivery that is justified of what is shown
pub justified_there : (shown problem : Problem) (xs lemmas : List Lemma) (given cube : List Literal) (batch : LemmaBatch) (outcome : Outcome) → shown ≡ problem → xs ≡ lemmas → given ≡ cube → IsJustified shown xs given batch outcome → IsJustified problem lemmas cube batch outcome
justified_there shown problem xs lemmas given cube batch outcome a b c h =
    subst (λ (k : List Literal). IsJustified problem lemmas k batch outcome) c
    (subst (λ (ls : List Lemma). IsJustified problem ls given batch outcome) b
    (subst (λ (p : Problem). IsJustified p xs given batch outcome) a h))

-- lemmas that are shown
pub lemmas_over : (shown problem : Problem) (xs lemmas : List Lemma) → shown ≡ problem → xs ≡ lemmas → All (LemmaIsOver problem.points) lemmas → All (LemmaIsOver shown.points) xs
lemmas_over shown problem xs lemmas a b h =
    subst (λ (p : Problem). All (LemmaIsOver p.points) xs) (sym a) (subst (λ (ls : List Lemma). All (LemmaIsOver problem.points) ls) (sym b) h)

-- a schedule without a lemma
pub found_alone : (problem : Problem) (lemmas : List Lemma) (cube : List Literal) (batch : LemmaBatch) (values : List ℤ) → batch.seen ≡ 0 → batch.lemmas ≡ [] → IsSolution problem values → IsJustified problem lemmas cube batch (Found values)
found_alone problem lemmas cube batch values none empty found = record {
  seen = omega (arith, none);
  refuted = subst (λ (ls : List Lemma). AreRefuted problem.points problem.clauses (map stated (take batch.seen lemmas)) ls) (sym empty) tt;
  over = subst (λ (ls : List Lemma). All (LemmaIsOver problem.points) ls) (sym empty) (λ k d lt. absurd (omega arith));
  fits = found;
}

-- a schedule in the place of what was found
pub found_instead : (problem : Problem) (lemmas : List Lemma) (cube : List Literal) (batch : LemmaBatch) (was : Outcome) (values : List ℤ) → IsJustified problem lemmas cube batch was → IsSolution problem values → IsJustified problem lemmas cube batch (Found values)
found_instead problem lemmas cube batch was values before found = record { seen = before.seen; refuted = before.refuted; over = before.over; fits = found }
