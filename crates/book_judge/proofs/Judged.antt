-- Steps of the loops that decide.
use Rattle.std.proofs.Common.{arith, ◌≡◌, ◌≢◌, ℕ, zero, suc, ◌<◌, ◌≤◌, ◌+◌, Bool, true, false, List, [], ◌∷◌, ◌++◌, length, map, take, get_or, All, Contains, Some, None, refl, sym, ap, ◌∙◌, subst, append_assoc}
use Rattle.std.proofs.lemmas.List.{take_more, map-append, append-nil, get_or-map, length-map}
use Rattle.std.specs.Prelude.{◌↔◌, slice_get, Err}
use Rattle.std.proofs.lemmas.Option.{slice_get_past}
use Rattle.std.proofs.lemmas.List.Elements.{All-nil, All-cons, All-push, All-map, All-get_or, All-contains}
use Rattle.stn_core.specs.declared.literal.Literal.{Literal}
use Rattle.stn_core.specs.Literal.{negation_of}
use Rattle.cert_check.specs.Tests.{is_assumed}
use Rattle.cert_check.proofs.Decided.{is_assumed_decides}
use Rattle.cert_check.proofs.Reading.{refuted_lemma}
use Rattle.cert_check.specs.Flaws.{lemma_flaw, TellsFlaw}
use Rattle.cert_check.specs.declared.flaw.CheckError.{CheckError}
use Rattle.cert_check.specs.declared.flaw.CheckError.TheVariants.{Refused}
use Rattle.cert_check.specs.declared.flaw.Flaw.{Flaw}
use Rattle.cert_check.specs.declared.flaw.FlawKind.{FlawKind}
use Rattle.stn_core.specs.declared.problem.Problem.{Problem}
use Rattle.refute_tree.specs.declared.step.Step.{Step}
use Rattle.refute_tree.specs.declared.lemma.Lemma.{Lemma}
use Rattle.refute_tree.specs.Trees.{IsDenied, IsRefuted, stated}
use Rattle.refute_tree.specs.Batches.{NamesOver, LemmaBatch, LemmaIsOver, AreRefuted}
use Rattle.refute_tree.proofs.Moved.{joined}
use Rattle.book_core.specs.Books.{IsShutBy, IsJustified, Fits}
use Rattle.stn_core.specs.Solution.{IsAtom}
use Rattle.book_core.specs.declared.event.Outcome.{Outcome}
use Rattle.book_core.specs.declared.event.Outcome.TheVariants.{Found, Shut as ShutBy, Split as SplitBy, Open}
use Rattle.book_judge.specs.declared.judging.Fault.{Fault}
use Rattle.book_judge.specs.declared.judging.Fault.TheVariants.{NoSuchClause, BoundOutOfRange, NotRefuted, NotASchedule, DoesNotExclude, AlreadyDecided, OutOfMemory}
use Rattle.book_judge.specs.Faults.{fault_of, Misfits, IsFaultOf, IsFaultOfLemma, IsFaultOfLemmas}
use Rattle.book_core.proofs.Concluding.{got, shared_clauses}
use Rattle.cover_tree.proofs.Tables.{get_map}

take_whole : {A : Type 0} (xs : List A) (n : ℕ) → length xs ≤ n → take n xs ≡ xs
take_whole [] zero h = refl
take_whole [] (suc n) h = refl
take_whole (x ∷ xs) zero h = absurd (omega arith)
take_whole {A = A} (x ∷ xs) (suc n) h = ap (λ (ys : List A). x ∷ ys) (take_whole xs n (omega arith))

pub all_more : {A : Type 0} (P : A → Type 0) (xs : List A) (i : ℕ) (d : A) → i < length xs → All P (take i xs) → P (get_or xs i d) → All P (take (i + 1) xs)
all_more P xs i d within h p = subst (All P) (sym (take_more xs i d within)) (All-push P (take i xs) (get_or xs i d) h p)

pub all_end : {A : Type 0} (P : A → Type 0) (xs : List A) (i : ℕ) → length xs ≤ i → All P (take i xs) → All P xs
all_end P xs i ended h = subst (All P) (take_whole xs i ended) h

-- the reader's next step, and those behind it
pub names_next : (points : ℕ) (whole old new : List Step) (s : Step) → old ≡ s ∷ new → NamesOver points s → (All (NamesOver points) old → All (NamesOver points) whole) → All (NamesOver points) new → All (NamesOver points) whole
names_next points whole old new s e h all rest = all (subst (All (NamesOver points)) (sym e) (All-cons (NamesOver points) s new h rest))

-- what a test of a literal among literals says
pub is_in : (literals : List Literal) (l : Literal) (b : Bool) → b ≡ is_assumed literals l → b ≡ true → Contains literals l
is_in literals l b e t = (is_assumed_decides literals l).0 (sym e ∙ t)

pub is_out : (literals : List Literal) (l : Literal) (b : Bool) → b ≡ is_assumed literals l → b ≡ false → Contains literals l → ⊥
is_out literals l b e f h = let t : true ≡ false = sym ((is_assumed_decides literals l).1 h) ∙ (sym e ∙ f) in absurd cc

-- one literal more is denied
pub denied_more : (cube clause : List Literal) (i : ℕ) (d m : Literal) (b : Bool) → i < length clause → m ≡ negation_of (get_or clause i d) → b ≡ is_assumed cube m → b ≡ true → All (λ (k : Literal). Contains cube (negation_of k)) (take i clause) → All (λ (k : Literal). Contains cube (negation_of k)) (take (i + 1) clause)
denied_more cube clause i d m b within neg e t h = all_more (λ (k : Literal). Contains cube (negation_of k)) clause i d within h (subst (Contains cube) neg (is_in cube m b e t))

pub denied_end : (cube clause : List Literal) (i : ℕ) → length clause ≤ i → All (λ (k : Literal). Contains cube (negation_of k)) (take i clause) → IsDenied cube clause
denied_end cube clause i ended h = All-map (Contains cube) negation_of clause (all_end (λ (k : Literal). Contains cube (negation_of k)) clause i ended h)

-- one lemma more is refuted over those before it
pub refuted_more : (points : ℕ) (clauses earlier now : List (List Literal)) (lemmas : List Lemma) (i : ℕ) (lemma : Lemma) → i < length lemmas → lemma ≡ get_or lemmas i lemma → now ≡ earlier ++ map stated (take i lemmas) → IsRefuted points clauses now lemma → AreRefuted points clauses earlier (take i lemmas) → AreRefuted points clauses earlier (take (i + 1) lemmas)
refuted_more points clauses earlier now lemmas i lemma within is e r h =
    let one : AreRefuted points clauses (earlier ++ map stated (take i lemmas)) (lemma ∷ []) = (subst (λ (k : List (List Literal)). IsRefuted points clauses k lemma) e r, tt) in
    let all = joined points clauses earlier (take i lemmas) (lemma ∷ []) h one in
    let more : take i lemmas ++ lemma ∷ [] ≡ take (i + 1) lemmas = ap (λ (l : Lemma). take i lemmas ++ l ∷ []) is ∙ sym (take_more lemmas i lemma within) in
    subst (AreRefuted points clauses earlier) more all

-- the lemma at a place excludes the cube
pub shut_by : {A : Type 0} (value : A → Lemma) (xs : List A) (j : ℕ) (x : A) (shown : Lemma) (clause cube : List Literal) → j < length xs → x ≡ get_or xs j x → shown ≡ value x → clause ≡ shown.clause → IsDenied cube clause → IsShutBy (map stated (map value xs)) cube j
shut_by value xs j x shown clause cube within there of is h =
    (clause, get_map stated (map value xs) j (value x) (get_map value xs j x (got xs j x within there)) ∙ ap (λ (l : Lemma). Some (stated l)) (sym of) ∙ ap (λ (k : List Literal). Some k) (sym is), h)

-- what the loop over a batch's lemmas keeps
pub record IsAdded {A : Type 0} (value : A → Lemma) (points : ℕ) (clauses : List (List Literal)) (old new : List A) (lemmas : List Lemma) : Type 0 where
  pub known : map value new ≡ map value old ++ lemmas
  pub over : All (LemmaIsOver points) lemmas
  pub refuted : AreRefuted points clauses (map stated (map value old)) lemmas

pub added : {A : Type 0} (value : A → Lemma) (points : ℕ) (clauses : List (List Literal)) (old now new : List A) (lemmas : List Lemma) (i : ℕ) (lemma : Lemma) → i < length lemmas → lemma ≡ get_or lemmas i lemma → map value now ≡ map value old ++ take i lemmas → All (LemmaIsOver points) (take i lemmas) → AreRefuted points clauses (map stated (map value old)) (take i lemmas) → map value new ≡ map value now ++ lemma ∷ [] → LemmaIsOver points lemma → IsRefuted points clauses (map (λ a. stated (value a)) now) lemma → IsAdded value points clauses old new (take (i + 1) lemmas)
added value points clauses old now new lemmas i lemma within is known over refuted more here one =
    let next : take i lemmas ++ lemma ∷ [] ≡ take (i + 1) lemmas = ap (λ (l : Lemma). take i lemmas ++ l ∷ []) is ∙ sym (take_more lemmas i lemma within) in
    let clauses_now : map (λ a. stated (value a)) now ≡ map stated (map value old) ++ map stated (take i lemmas) =
    sym (shared_clauses value now) ∙ (ap (map stated) known ∙ map-append stated (map value old) (take i lemmas)) in
    record {
      known = more ∙ (ap (λ (ls : List Lemma). ls ++ lemma ∷ []) known ∙ (append_assoc (map value old) (take i lemmas) (lemma ∷ []) ∙ ap (λ (ls : List Lemma). map value old ++ ls) next));
      over = all_more (LemmaIsOver points) lemmas i lemma within over (subst (LemmaIsOver points) is here);
      refuted = refuted_more points clauses (map stated (map value old)) (map (λ a. stated (value a)) now) lemmas i lemma within is clauses_now one refuted;
    }

-- a clause of the problem has the literal
pub atom_at : (problem : Problem) (clauses : List (List Literal)) (i : ℕ) (clause shown : List Literal) (l : Literal) (b : Bool) → i < length clauses → clauses ≡ problem.clauses → clause ≡ get_or clauses i clause → shown ≡ clause → b ≡ is_assumed shown l → b ≡ true → IsAtom problem l
atom_at problem clauses i clause shown l b within same there of e t =
    let at : Contains problem.clauses clause = subst (λ (cs : List (List Literal)). Contains cs clause) same (i, within, sym there) in
    (clause, at, subst (λ (k : List Literal). Contains k l) of (is_in shown l b e t))

-- what was found of the parts of a delivery
pub judged : (problem : Problem) (lemmas : List Lemma) (cube : List Literal) (batch : LemmaBatch) (outcome : Outcome) (seen : ℕ) (own known all : List Lemma) → seen ≡ batch.seen → own ≡ batch.lemmas → seen ≤ length lemmas → known ≡ take seen lemmas → all ≡ known ++ own → All (LemmaIsOver problem.points) own → AreRefuted problem.points problem.clauses (map stated known) own → Fits problem all cube outcome → IsJustified problem lemmas cube batch outcome
judged problem lemmas cube batch outcome seen own known all es eo le ek ea over refuted fits =
    let first : known ≡ take batch.seen lemmas = ek ∙ ap (λ (n : ℕ). take n lemmas) es in
    record {
      seen = omega (arith, es, le);
      refuted = subst (λ (ls : List Lemma). AreRefuted problem.points problem.clauses (map stated (take batch.seen lemmas)) ls) eo (subst (λ (ls : List Lemma). AreRefuted problem.points problem.clauses (map stated ls) own) first refuted);
      over = subst (All (LemmaIsOver problem.points)) eo over;
      fits = subst (λ (ls : List Lemma). Fits problem ls cube outcome) (ea ∙ (ap (λ (ls : List Lemma). ls ++ own) first ∙ ap (λ (ls : List Lemma). take batch.seen lemmas ++ ls) eo)) fits;
    }

-- a literal's negation is missing
pub denied_at : (cube clause : List Literal) (i : ℕ) (d : Literal) → i < length clause → IsDenied cube clause → Contains cube (negation_of (get_or clause i d))
denied_at cube clause i d within h =
    subst (Contains cube) (get_or-map negation_of clause i d (negation_of d) within) (All-get_or (Contains cube) (map negation_of clause) i (negation_of d) (omega (arith, within, length-map clause negation_of)) h)

pub undenied : (cube clause : List Literal) (i : ℕ) (d m : Literal) (b : Bool) → i < length clause → m ≡ negation_of (get_or clause i d) → b ≡ is_assumed cube m → b ≡ false → IsDenied cube clause → ⊥
undenied cube clause i d m b within neg e f h = is_out cube m b e f (subst (Contains cube) (sym neg) (denied_at cube clause i d within h))

-- a clause of the problem doesn't have the literal
abbrev pub Lacks : Literal → List Literal → Type 0
Lacks l clause = Contains clause l → ⊥

pub lacks_more : (whole clauses : List (List Literal)) (i : ℕ) (clause shown : List Literal) (l : Literal) (b : Bool) → clauses ≡ whole → i < length clauses → clause ≡ get_or clauses i clause → shown ≡ clause → b ≡ is_assumed shown l → b ≡ false → All (Lacks l) (take i whole) → All (Lacks l) (take (i + 1) whole)
lacks_more whole clauses i clause shown l b same within there of e f h =
    let before : All (Lacks l) (take i clauses) = subst (λ (cs : List (List Literal)). All (Lacks l) (take i cs)) (sym same) h in
    let after : All (Lacks l) (take (i + 1) clauses) = all_more (Lacks l) clauses i clause within before (subst (Lacks l) (of ∙ there) (is_out shown l b e f)) in
    subst (λ (cs : List (List Literal)). All (Lacks l) (take (i + 1) cs)) same after

pub lacks_end : (problem : Problem) (clauses : List (List Literal)) (i : ℕ) (l : Literal) → clauses ≡ problem.clauses → length clauses ≤ i → All (Lacks l) (take i problem.clauses) → IsAtom problem l → ⊥
lacks_end problem clauses i l same ended h a =
    let few : length problem.clauses ≤ i = subst (λ (cs : List (List Literal)). length cs ≤ i) same ended in
    All-contains (Lacks l) problem.clauses a.0 (all_end (Lacks l) problem.clauses i few h) a.1 a.2

pub shut_at : {A : Type 0} (value : A → Lemma) (xs : List A) (j : ℕ) (x : A) (shown : Lemma) (clause cube : List Literal) → j < length xs → x ≡ get_or xs j x → shown ≡ value x → clause ≡ shown.clause → IsShutBy (map stated (map value xs)) cube j → IsDenied cube clause
shut_at value xs j x shown clause cube within there of is s =
    let here : slice_get (map stated (map value xs)) j ≡ Some (stated (value x)) = get_map stated (map value xs) j (value x) (get_map value xs j x (got xs j x within there)) in
    let same : stated (value x) ≡ s.0 = (let t : Some (stated (value x)) ≡ Some s.0 = sym here ∙ s.1 in cc t) in
    subst (IsDenied cube) (sym (is ∙ (ap stated of ∙ same))) s.2

-- a flaw that was found denies that the lemma is refuted
unrefuted : (points : ℕ) (clauses earlier : List (List Literal)) (lemma : Lemma) (flaw : Flaw) → lemma_flaw points clauses earlier lemma ≡ Some flaw → IsRefuted points clauses earlier lemma → ⊥
unrefuted points clauses earlier lemma flaw e h = let t : None ≡ Some flaw = sym (refuted_lemma points clauses earlier lemma h) ∙ e in absurd (cc t)

pub unrefuted_by : (points : ℕ) (clauses earlier : List (List Literal)) (lemma : Lemma) (error : CheckError) (flaw : Flaw) → error ≡ Refused flaw → TellsFlaw (lemma_flaw points clauses earlier lemma) (Err error) → IsRefuted points clauses earlier lemma → ⊥
unrefuted_by points clauses earlier lemma error flaw e tells =
    unrefuted points clauses earlier lemma flaw (subst (λ (x : CheckError). TellsFlaw (lemma_flaw points clauses earlier lemma) (Err x)) e tells)

-- of refuted lemmas each is refuted over those before it
refuted_at : (points : ℕ) (clauses earlier : List (List Literal)) (lemmas : List Lemma) (i : ℕ) (d : Lemma) → i < length lemmas → AreRefuted points clauses earlier lemmas → IsRefuted points clauses (earlier ++ map stated (take i lemmas)) (get_or lemmas i d)
refuted_at points clauses earlier [] i d within h = absurd (omega arith)
refuted_at points clauses earlier (x ∷ xs) zero d within h = subst (λ (cs : List (List Literal)). IsRefuted points clauses cs x) (sym (append-nil earlier)) h.0
refuted_at points clauses earlier (x ∷ xs) (suc i) d within h =
    subst (λ (cs : List (List Literal)). IsRefuted points clauses cs (get_or xs i d)) (append_assoc earlier (x.clause ∷ []) (map stated (take i xs)))
    (refuted_at points clauses (earlier ++ x.clause ∷ []) xs i d (omega (arith, within)) h.1)

-- a fault of one lemma is one of the batch
pub faulted : {A : Type 0} (value : A → Lemma) (problem : Problem) (old now : List A) (lemmas : List Lemma) (i : ℕ) (lemma : Lemma) (fault : Fault) → i < length lemmas → lemma ≡ get_or lemmas i lemma → map value now ≡ map value old ++ take i lemmas → IsFaultOfLemma problem (map (λ a. stated (value a)) now) lemma fault → IsFaultOfLemmas problem (map stated (map value old)) lemmas fault
faulted value problem old now lemmas i lemma NoSuchClause within is known f = f
faulted value problem old now lemmas i lemma BoundOutOfRange within is known f =
    λ h. f (subst (LemmaIsOver problem.points) (sym is) (All-get_or (LemmaIsOver problem.points) lemmas i lemma within h))
faulted value problem old now lemmas i lemma (NotRefuted kind) within is known f =
    let clauses_now : map (λ a. stated (value a)) now ≡ map stated (map value old) ++ map stated (take i lemmas) =
    sym (shared_clauses value now) ∙ (ap (map stated) known ∙ map-append stated (map value old) (take i lemmas)) in
    λ h. f (subst (IsRefuted problem.points problem.clauses (map (λ a. stated (value a)) now)) (sym is)
    (subst (λ (cs : List (List Literal)). IsRefuted problem.points problem.clauses cs (get_or lemmas i lemma)) (sym clauses_now)
    (refuted_at problem.points problem.clauses (map stated (map value old)) lemmas i lemma within h)))
faulted value problem old now lemmas i lemma NotASchedule within is known f = f
faulted value problem old now lemmas i lemma DoesNotExclude within is known f = f
faulted value problem old now lemmas i lemma AlreadyDecided within is known f = f
faulted value problem old now lemmas i lemma OutOfMemory within is known f = tt

-- a fault of the batch is one of the delivery
pub batch_fault : (problem : Problem) (lemmas : List Lemma) (cube : List Literal) (batch : LemmaBatch) (outcome : Outcome) (seen : ℕ) (own known : List Lemma) (fault : Fault) → seen ≡ batch.seen → own ≡ batch.lemmas → known ≡ take seen lemmas → IsFaultOfLemmas problem (map stated known) own fault → IsFaultOf problem lemmas cube batch outcome fault
batch_fault problem lemmas cube batch outcome seen own known NoSuchClause es eo ek f = absurd f
batch_fault problem lemmas cube batch outcome seen own known BoundOutOfRange es eo ek f = λ h. f (subst (All (LemmaIsOver problem.points)) (sym eo) h)
batch_fault problem lemmas cube batch outcome seen own known (NotRefuted kind) es eo ek f =
    let first : known ≡ take batch.seen lemmas = ek ∙ ap (λ (n : ℕ). take n lemmas) es in
    λ h. f (subst (λ (ls : List Lemma). AreRefuted problem.points problem.clauses (map stated ls) own) (sym first)
    (subst (AreRefuted problem.points problem.clauses (map stated (take batch.seen lemmas))) (sym eo) h))
batch_fault problem lemmas cube batch outcome seen own known NotASchedule es eo ek f = absurd f
batch_fault problem lemmas cube batch outcome seen own known DoesNotExclude es eo ek f = absurd f
batch_fault problem lemmas cube batch outcome seen own known AlreadyDecided es eo ek f = absurd f
batch_fault problem lemmas cube batch outcome seen own known OutOfMemory es eo ek f = tt

not_missing : (outcome : Outcome) → fault_of outcome ≢ Some NoSuchClause
not_missing (Found values) e = absurd (cc e)
not_missing (ShutBy j) e = absurd (cc e)
not_missing (SplitBy l) e = absurd (cc e)
not_missing Open e = absurd (cc e)

not_over : (outcome : Outcome) → fault_of outcome ≢ Some BoundOutOfRange
not_over (Found values) e = absurd (cc e)
not_over (ShutBy j) e = absurd (cc e)
not_over (SplitBy l) e = absurd (cc e)
not_over Open e = absurd (cc e)

not_unrefuted : (outcome : Outcome) (kind : FlawKind) → fault_of outcome ≢ Some (NotRefuted kind)
not_unrefuted (Found values) kind e = absurd (cc e)
not_unrefuted (ShutBy j) kind e = absurd (cc e)
not_unrefuted (SplitBy l) kind e = absurd (cc e)
not_unrefuted Open kind e = absurd (cc e)

-- a fault of the outcome is one of the delivery
pub outcome_fault : (problem : Problem) (lemmas : List Lemma) (cube : List Literal) (batch : LemmaBatch) (outcome : Outcome) (seen : ℕ) (own known all : List Lemma) (fault : Fault) → seen ≡ batch.seen → own ≡ batch.lemmas → known ≡ take seen lemmas → all ≡ known ++ own → Misfits problem all cube outcome fault → IsFaultOf problem lemmas cube batch outcome fault
outcome_fault problem lemmas cube batch outcome seen own known all fault es eo ek ea m =
    let first : known ≡ take batch.seen lemmas = ek ∙ ap (λ (n : ℕ). take n lemmas) es in
    let same : all ≡ take batch.seen lemmas ++ batch.lemmas = ea ∙ (ap (λ (ls : List Lemma). ls ++ own) first ∙ ap (λ (ls : List Lemma). take batch.seen lemmas ++ ls) eo) in
    by_fault fault (subst (λ (ls : List Lemma). Misfits problem ls cube outcome fault) same m)
  where
    by_fault : (fault : Fault) → Misfits problem (take batch.seen lemmas ++ batch.lemmas) cube outcome fault → IsFaultOf problem lemmas cube batch outcome fault
    by_fault NoSuchClause h = absurd (not_missing outcome h.0)
    by_fault BoundOutOfRange h = absurd (not_over outcome h.0)
    by_fault (NotRefuted kind) h = absurd (not_unrefuted outcome kind h.0)
    by_fault NotASchedule h = h
    by_fault DoesNotExclude h = h
    by_fault AlreadyDecided h = h
    by_fault OutOfMemory h = tt

-- each fault but want of memory denies that the delivery is justified
pub unjustified : (problem : Problem) (lemmas : List Lemma) (cube : List Literal) (batch : LemmaBatch) (outcome : Outcome) (fault : Fault) → fault ≢ OutOfMemory → IsFaultOf problem lemmas cube batch outcome fault → IsJustified problem lemmas cube batch outcome → ⊥
unjustified problem lemmas cube batch outcome NoSuchClause other f j = absurd (omega (arith, f, j.seen))
unjustified problem lemmas cube batch outcome BoundOutOfRange other f j = f j.over
unjustified problem lemmas cube batch outcome (NotRefuted kind) other f j = f j.refuted
unjustified problem lemmas cube batch outcome NotASchedule other f j = f.1 j.fits
unjustified problem lemmas cube batch outcome DoesNotExclude other f j = f.1 j.fits
unjustified problem lemmas cube batch outcome AlreadyDecided other f j = f.1 j.fits
unjustified problem lemmas cube batch outcome OutOfMemory other f j = other refl

-- the reader's next step is one of all
pub next_holds : (P : Step → Type 0) (whole old new : List Step) (s : Step) → old ≡ s ∷ new → (All P old ↔ All P whole) → All P whole → P s
next_holds P whole old new s e both h = All-get_or P (s ∷ new) 0 s (omega arith) (subst (All P) e (both.1 h))

pub steps_both : (P : Step → Type 0) (whole old new : List Step) (s : Step) → old ≡ s ∷ new → P s → (All P old ↔ All P whole) → (All P new ↔ All P whole)
steps_both P whole old new s e p both = (
  λ rest. both.0 (subst (All P) (sym e) (All-cons P s new p rest)),
  λ h. (let old_all : All P (s ∷ new) = subst (All P) e (both.1 h) in λ k d l. old_all (suc k) d (omega (arith, l))),
)
