-- What is concluded is right.
use Rattle.std.proofs.Common.{arith, ◌≡◌, ℕ, zero, suc, ◌+◌, ◌-◌, inl, inr, List, [], ◌∷◌, ◌++◌, length, map, take, Option, Some, None, All, ℤ, refl, sym, ap, ◌∙◌, subst, ◌<◌, ◌≤◌, get_or, Bool, true, ◌==◌}
use Rattle.std.specs.Prelude.{slice_get, IfSome, IsSome}
use Rattle.std.proofs.lemmas.Int.{ints}
use Rattle.std.proofs.lemmas.Option.{slice_get_within}
use Rattle.std.proofs.lemmas.List.{length-append, length-map, length-take-le, take-map}
use Rattle.std.proofs.lemmas.Bool.Decides.{nat_tests}
use Rattle.std.proofs.lemmas.List.Elements.{All-nil, All-cons, All-append, All-weaker, All-contains, All-take}
use Rattle.stn_core.specs.declared.literal.Literal.{Literal}
use Rattle.stn_core.specs.declared.problem.Problem.{Problem}
use Rattle.stn_core.specs.Literal.{negation_of, IsOver}
use Rattle.refute_tree.specs.declared.step.Step.{Step}
use Rattle.refute_tree.specs.declared.lemma.Lemma.{Lemma}
use Rattle.refute_tree.specs.Trees.{Tree, stated, literals_named, IsRefuted, IsRefutation, IsOnPoints, NamesPoints}
use Rattle.refute_tree.specs.Batches.{AreRefuted, NamesOver, LemmaIsOver}
use Rattle.refute_tree.proofs.Moved.{batch_moved, joined}
use Rattle.refute_tree.proofs.Numbered.{each_refuted}
use Rattle.cover_tree.specs.Covers.{Cubes, NoneFree, NoneHeld, cube_at}
use Rattle.cover_tree.proofs.Sets.{get_behind}
use Rattle.cover_tree.proofs.Tables.{get_map}
use Rattle.book_core.specs.declared.event.Event.{Event}
use Rattle.book_core.specs.declared.verdict.Verdict.TheVariants.{Sat, Unsat}
use Rattle.book_core.specs.Books.{State, IsDone, IsDecidable}
use Rattle.stn_core.specs.Solution.{IsSolution, IsAtom}
use Rattle.book_core.specs.Runs.{IsKept}
use Rattle.book_core.specs.Facts.{AreShut, IsSound}
use Rattle.book_core.specs.Verdicts.{IsRight, EndsEmpty, last_lemma, ended_by}
use Rattle.book_core.specs.code.Closing.{AreOver}
use Rattle.book_core.proofs.Sound.{sound, negation_twice}

pub kept_sound : (problem : Problem) (first : ℕ) (events : List Event) (s : State) (halves : Option (ℕ × ℕ)) (room : ℕ) → IsKept problem first events s halves room → IsSound problem s
kept_sound problem first events s halves room k = subst (IsSound problem) (sym k.same) (sound problem batch_moved joined (take first s.lemmas) events k.opens k.run)

negation_over : (points : ℕ) (l : Literal) → IsOver points l → IsOver points (negation_of l)
negation_over points l h = let a = h.low in let b = h.high in record { x_in = h.y_in; y_in = h.x_in; low = omega (arith, ints); high = omega (arith, ints) }

-- the literals of cubes are over the problem's points
atom_over : (problem : Problem) (l : Literal) → IsAtom problem l → IsOver problem.points l
atom_over problem l a = All-contains (IsOver problem.points) a.0 l (All-contains (λ (clause : List Literal). All (IsOver problem.points) clause) problem.clauses a.0 problem.over a.1) a.2

decidable_over : (problem : Problem) (l : Literal) → IsDecidable problem l → IsOver problem.points l
decidable_over problem l d = elim d [
  | inl a ↦ atom_over problem l a
  | inr b ↦ subst (IsOver problem.points) (negation_twice l) (negation_over problem.points (negation_of l) (atom_over problem (negation_of l) b))
]

pub cubes_over : (problem : Problem) (s : State) → IsSound problem s → AreOver problem.points s.cover
cubes_over problem s h k = All-weaker (IsDecidable problem) (IsOver problem.points) (decidable_over problem) (cube_at s.cover k) (h.decided k)

-- the clauses of the shared lemmas
pub shared_clauses : {A : Type 0} (value : A → Lemma) (xs : List A) → map stated (map value xs) ≡ map (λ a. stated (value a)) xs
shared_clauses value [] = refl
shared_clauses value (x ∷ xs) = ap (λ (cs : List (List Literal)). stated (value x) ∷ cs) (shared_clauses value xs)

on_points : (points : ℕ) (l : Literal) → IsOver points l → IsOnPoints points l
on_points points l h = record { x_in = h.x_in; y_in = h.y_in }

step_on_points : (points : ℕ) (s : Step) → NamesOver points s → NamesPoints points s
step_on_points points s h = All-weaker (IsOver points) (IsOnPoints points) (on_points points) (literals_named s) h

-- all lemmas and the last one are a refutation
pub closed_refutation : (problem : Problem) (lemmas : List Lemma) (steps : List Step) → AreRefuted problem.points problem.clauses [] lemmas → Tree problem.clauses (map stated lemmas) [] steps [] → All (NamesOver problem.points) steps → IsRefutation problem.points problem.clauses (lemmas ++ last_lemma steps ∷ [])
closed_refutation problem lemmas steps h t over =
    let last : Lemma = last_lemma steps in
    let refuted : IsRefuted problem.points problem.clauses (map stated lemmas) last = record {
      clause = All-nil (IsOnPoints problem.points);
      steps = All-weaker (NamesOver problem.points) (NamesPoints problem.points) (step_on_points problem.points) steps over;
      tree = t;
    } in
    let all = joined problem.points problem.clauses [] lemmas (last ∷ []) h (refuted, tt) in
    let count = length-append lemmas (last ∷ []) in
    record {
      some = omega arith;
      each = each_refuted problem.points problem.clauses [] (lemmas ++ last ∷ []) all;
      last = λ lemma e.
          (let at : length (lemmas ++ last ∷ []) - 1 ≡ length lemmas + 0 = omega arith in
          let is : slice_get (lemmas ++ last ∷ []) (length (lemmas ++ last ∷ []) - 1) ≡ Some last = ap (slice_get (lemmas ++ last ∷ [])) at ∙ get_behind lemmas (last ∷ []) 0 in
          let both : Some last ≡ Some lemma = sym is ∙ e in
          ap (λ (l : Lemma). l.clause) (sym (some_lemma both)));
    }
  where
    some_lemma : {x y : Lemma} → Some x ≡ Some y → x ≡ y
    some_lemma e = cc

pub concluded_unsat : {A : Type 0} (value : A → Lemma) (problem : Problem) (s : State) (xs : List A) (steps : List Step) (all res : List Lemma) → IsSound problem s → s.lemmas ≡ map value xs → ((inputs : List (List Literal)) → Tree inputs (map (λ a. stated (value a)) xs) [] steps []) → All (NamesOver problem.points) steps → all ≡ map value xs ++ last_lemma steps ∷ [] → res ≡ all → IsRight problem (Unsat res)
concluded_unsat value problem s xs steps all res h same t over is er =
    let lemmas : res ≡ s.lemmas ++ last_lemma steps ∷ [] = er ∙ (is ∙ ap (λ (ls : List Lemma). ls ++ last_lemma steps ∷ []) (sym same)) in
    let clauses : map (λ a. stated (value a)) xs ≡ map stated s.lemmas = sym (shared_clauses value xs) ∙ ap (map stated) (sym same) in
    let tree : Tree problem.clauses (map stated s.lemmas) [] steps [] = subst (λ (k : List (List Literal)). Tree problem.clauses k [] steps []) clauses (t problem.clauses) in
    let last_over : LemmaIsOver problem.points (last_lemma steps) = record { clause = All-nil (IsOver problem.points); steps = over } in
    subst (λ (ls : List Lemma). IsRefutation problem.points problem.clauses ls × All (LemmaIsOver problem.points) ls) (sym lemmas)
    (closed_refutation problem s.lemmas steps h.refuted tree over, All-append (LemmaIsOver problem.points) s.lemmas (last_lemma steps ∷ []) h.over (All-cons (LemmaIsOver problem.points) (last_lemma steps) [] last_over (All-nil (LemmaIsOver problem.points))))

pub concluded_sat : (problem : Problem) (found : Option (List ℤ)) (first values : List ℤ) → IfSome found (IsSolution problem) → found ≡ Some first → values ≡ first → IsRight problem (Sat values)
concluded_sat problem None first values h e is = absurd cc
concluded_sat problem (Some x) first values h e is =
    let same : x ≡ values = some_list e ∙ sym is in
    subst (IsSolution problem) same h
  where
    some_list : {x y : List ℤ} → Some x ≡ Some y → x ≡ y
    some_list e = cc

pub done_by_found : (s : State) (first : List ℤ) → s.found ≡ Some first → IsDone s
done_by_found s first e = inl (subst IsSome (sym e) refl)

pub not_done : (s : State) → s.found ≡ None → (NoneFree s.cover × NoneHeld s.cover → ⊥) → IsDone s → ⊥
not_done s e open_ d = elim d [
  | inl f ↦ is_none s.found e f
  | inr n ↦ open_ n
]
  where
    is_none : (found : Option (List ℤ)) → found ≡ None → IsSome found → ⊥
    is_none None e h = absurd cc
    is_none (Some x) e h = absurd cc

pub shut_shared : {A : Type 0} (value : A → Lemma) (c : Cubes) (xs ys : List A) → AreShut c (map stated (map value xs)) → ys ≡ xs → AreShut c (map (λ a. stated (value a)) ys)
shut_shared value c xs ys h e =
    let clauses : map stated (map value xs) ≡ map (λ a. stated (value a)) ys = shared_clauses value xs ∙ ap (map (λ a. stated (value a))) (sym e) in
    subst (AreShut c) clauses h

refuted_take : (points : ℕ) (clauses earlier : List (List Literal)) (n : ℕ) (lemmas : List Lemma) → AreRefuted points clauses earlier lemmas → AreRefuted points clauses earlier (take n lemmas)
refuted_take points clauses earlier zero lemmas h = tt
refuted_take points clauses earlier (suc n) [] h = tt
refuted_take points clauses earlier (suc n) (lemma ∷ lemmas) h = (h.0, refuted_take points clauses (earlier ++ lemma.clause ∷ []) n lemmas h.1)

get_take : (lemmas : List Lemma) (j : ℕ) (lemma : Lemma) → slice_get lemmas j ≡ Some lemma → slice_get (take (suc j) lemmas) j ≡ Some lemma
get_take [] j lemma e = absurd cc
get_take (l ∷ lemmas) zero lemma e = e
get_take (l ∷ lemmas) (suc j) lemma e = get_take lemmas j lemma e

-- the lemmas up to one without literals are a refutation
ended_refutation : (problem : Problem) (lemmas : List Lemma) (j : ℕ) → AreRefuted problem.points problem.clauses [] lemmas → EndsEmpty lemmas j → IsRefutation problem.points problem.clauses (take (suc j) lemmas)
ended_refutation problem lemmas j h e =
    let within = slice_get_within lemmas j e.lemma e.at in
    let count : length (take (suc j) lemmas) ≡ suc j = length-take-le (suc j) lemmas (omega (arith, within)) in
    let last : length (take (suc j) lemmas) - 1 ≡ j = omega (arith, count) in
    record {
      some = omega (arith, count);
      each = each_refuted problem.points problem.clauses [] (take (suc j) lemmas) (refuted_take problem.points problem.clauses [] (suc j) lemmas h);
      last = λ lemma is.
          (let both : Some e.lemma ≡ Some lemma = sym (get_take lemmas j e.lemma e.at) ∙ (ap (slice_get (take (suc j) lemmas)) (sym last) ∙ is) in
          ap (λ (l : Lemma). l.clause) (sym (some_lemma both)) ∙ e.empty);
    }
  where
    some_lemma : {x y : Lemma} → Some x ≡ Some y → x ≡ y
    some_lemma e = cc

pub ended_unsat : (problem : Problem) (s : State) (lemmas all res : List Lemma) (j n : ℕ) → IsSound problem s → s.lemmas ≡ lemmas → EndsEmpty lemmas j → n ≡ j + 1 → all ≡ take n lemmas → res ≡ all → IsRight problem (Unsat res)
ended_unsat problem s lemmas all res j n h same e en is er =
    let more : n ≡ suc j = omega (arith, en) in
    let front : res ≡ take (suc j) lemmas = er ∙ (is ∙ ap (λ (m : ℕ). take m lemmas) more) in
    let refuted = subst (AreRefuted problem.points problem.clauses []) same h.refuted in
    let over = subst (All (LemmaIsOver problem.points)) same h.over in
    subst (λ (ls : List Lemma). IsRefutation problem.points problem.clauses ls × All (LemmaIsOver problem.points) ls) (sym front)
    (ended_refutation problem lemmas j refuted e, All-take (LemmaIsOver problem.points) (suc j) lemmas over)

take_whole : {A : Type 0} (xs : List A) (n : ℕ) → length xs ≤ n → take n xs ≡ xs
take_whole [] zero h = refl
take_whole [] (suc n) h = refl
take_whole (x ∷ xs) zero h = absurd (omega arith)
take_whole {A = A} (x ∷ xs) (suc n) h = ap (λ (ys : List A). x ∷ ys) (take_whole xs n (omega arith))

-- a loop over the first so many is at its end
pub copied : {A : Type 0} (value : A → Lemma) (xs : List A) (count i : ℕ) → length (take count xs) ≤ i → map value (take i (take count xs)) ≡ take count (map value xs)
copied value xs count i h = ap (map value) (take_whole (take count xs) i h) ∙ sym (take-map value count xs)

pub got : {A : Type 0} (xs : List A) (i : ℕ) (x : A) → i < length xs → x ≡ get_or xs i x → slice_get xs i ≡ Some x
got [] i x h e = absurd (omega arith)
got {A = A} (y ∷ xs) zero x h e = let same : y ≡ x = sym e in ap (λ (z : A). Some z) same
got (y ∷ xs) (suc i) x h e = got xs i x (omega arith) e

pub ends_empty : {A : Type 0} (value : A → Lemma) (xs : List A) (j : ℕ) (x : A) (shown : Lemma) (clause : List Literal) (empty : Bool) → j < length xs → x ≡ get_or xs j x → shown ≡ value x → clause ≡ shown.clause → empty ≡ (length clause == 0) → empty ≡ true → EndsEmpty (map value xs) j
ends_empty value xs j x shown clause empty within there is of tested is_so = record {
  lemma = value x;
  at = get_map value xs j x (got xs j x within there);
  empty = no_items (value x).clause (ap (λ (l : Lemma). length l.clause) (sym is) ∙ (ap length (sym of) ∙ none));
}
  where
    none : length clause ≡ 0
    none = let t : (length clause == 0) ≡ true = sym tested ∙ is_so in grind (arith, nat_tests)

    no_items : (xs : List Literal) → length xs ≡ 0 → xs ≡ []
    no_items [] e = refl
    no_items (y ∷ ys) e = absurd (omega arith)

pub closed_unsat : {A : Type 0} (value : A → Lemma) (problem : Problem) (s : State) (xs : List A) (steps : List Step) (copies all res : List Lemma) (last : Lemma) (n : ℕ) → IsSound problem s → s.lemmas ≡ map value xs → ((inputs : List (List Literal)) → Tree inputs (map (λ a. stated (value a)) xs) [] steps []) → All (NamesOver problem.points) steps → copies ≡ take n (map value xs) → n ≡ length xs → all ≡ copies ++ last ∷ [] → last.clause ≡ [] → last.steps ≡ steps → res ≡ all → IsRight problem (Unsat res)
closed_unsat value problem s xs steps copies all res last n h same t over ec en ea empty es er =
    let whole : copies ≡ map value xs = ec ∙ take_whole (map value xs) n (omega (arith, en, length-map xs value)) in
    let last_is : last ≡ last_lemma steps = ap (λ (k : List Literal). record { clause = k; steps = last.steps }) empty ∙ ap last_lemma es in
    concluded_unsat value problem s xs steps all res h same t over (ea ∙ (ap (λ (ls : List Lemma). ls ++ last ∷ []) whole ∙ ap (λ (l : Lemma). map value xs ++ l ∷ []) last_is)) er

-- what is right of these lemmas is so of equal ones
pub by_ending : (problem : Problem) (steps : Option (List Step)) (front all res : List Lemma) → IsRight problem (Unsat (ended_by steps front)) → all ≡ front → res ≡ ended_by steps all → IsRight problem (Unsat res)
by_ending problem steps front all res h ea er = subst (λ (ls : List Lemma). IsRight problem (Unsat ls)) (sym (er ∙ ap (ended_by steps) ea)) h

-- before any of the first so many is taken out
pub taken_start : {A : Type 0} (value : A → Lemma) (xs rest : List A) (count : ℕ) (all : List Lemma) → all ≡ [] → rest ≡ take count xs → all ++ map value rest ≡ take count (map value xs)
taken_start value xs rest count all ea er = ap (λ (ls : List Lemma). ls ++ map value rest) ea ∙ (ap (map value) er ∙ sym (take-map value count xs))

-- the same with the lemmas as they are read, and no schedule
pub sound_read : {A : Type 0} (value : A → Lemma) (problem : Problem) (s : State) (xs ys : List A) → IsSound problem s → s.lemmas ≡ map value xs → ys ≡ xs → IsSound problem (record { cover = s.cover; lemmas = map value ys; found = None })
sound_read value problem s xs ys h same is =
    let lemmas : s.lemmas ≡ map value ys = same ∙ ap (map value) (sym is) in
    record {
      cover = h.cover;
      decided = h.decided;
      apart = h.apart;
      refuted = subst (AreRefuted problem.points problem.clauses []) lemmas h.refuted;
      over = subst (All (LemmaIsOver problem.points)) lemmas h.over;
      shut = subst (λ (ls : List Lemma). AreShut s.cover (map stated ls)) lemmas h.shut;
      found = tt;
    }
