-- What the cube alone comes to, over plain lists.
use Rattle.std.proofs.Common.{arith, ◌≡◌, ℕ, zero, suc, ◌<◌, ◌+◌, inl, inr, List, [], ◌∷◌, ◌++◌, length, map, get_or, All, Contains, Option, Some, None, ℤ, subst, sym, ap, ◌∙◌, refl}
use Rattle.std.specs.Prelude.{MatchOption, IfSome}
use Rattle.std.proofs.lemmas.Bool.{cases_eq}
use Rattle.std.proofs.lemmas.List.Elements.{All-push, All-append, All-map, Contains-get_or, Contains-push_cases}
use Rattle.stn_core.specs.declared.literal.Literal.{Literal}
use Rattle.stn_core.specs.declared.problem.Problem.{Problem}
use Rattle.stn_core.specs.declared.net.Added.{Added}
use Rattle.stn_core.specs.declared.net.Added.TheVariants.{Cycle as Refused}
use Rattle.stn_core.specs.Literal.{Holds, negation_of, IsOver, literal_at}
use Rattle.stn_core.specs.Answer.{IsBest, IsCycleAmong}
use Rattle.stn_core.specs.Net.{IsConsistent, IsAdded}
use Rattle.stn_core.specs.Problem.{ProblemHolds}
use Rattle.stn_core.proofs.Consequences.{denied, IsOver-negation_of}
use Rattle.refute_tree.specs.declared.lemma.Lemma.{Lemma}
use Rattle.refute_tree.specs.Trees.{stated}
use Rattle.refute_tree.specs.Batches.{LemmaIsOver}
use Rattle.conflict_analysis.specs.declared.entry.Entry.{Entry}
use Rattle.conflict_analysis.specs.declared.entry.Conflict.{Conflict}
use Rattle.conflict_analysis.specs.declared.entry.Level.{Level}
use Rattle.conflict_analysis.specs.declared.entry.Reason.TheVariants.{Cycle as ByCycle}
use Rattle.conflict_analysis.specs.declared.entry.Source.TheVariants.{Input as OfInput}
use Rattle.conflict_analysis.specs.declared.entry.Conflict.TheVariants.{Clause as OfClause}
use Rattle.branch_search.specs.declared.divide.Live.{Live}
use Rattle.branch_search.specs.declared.divide.Live.TheVariants.{At}
use Rattle.conflict_analysis.specs.code.Trails.{no_literal, IsByCycle, Stands}
use Rattle.conflict_analysis.specs.code.Denials.{AreDenied}
use Rattle.branch_search.specs.code.Clauses.{IsFalseAt}
use Rattle.conflict_analysis.specs.Proved.{IsClauseOver}
use Rattle.branch_search.specs.code.Search.{all_lemmas, IsSearch, IsStuckSearch, IsSearchAfter}
use Rattle.branch_search.specs.Slices.{Question, AreProved, IsSplit}
use Rattle.stn_core.specs.Solution.{IsSolution}
use Rattle.branch_search.specs.code.Divisions.{IsLive, IsLiveAt, IsSearchLiveness, HasLive, AreSearchLive, Divides}
use Rattle.conflict_analysis.proofs.Shut.{negation_twice}
use Rattle.branch_search.proofs.States.{state_pushed, stands_grown, stands_last}
use Rattle.conflict_analysis.proofs.Denied.{denied_all}

-- the net's schedule, where no clause fails on it
pub modelled : (problem : Problem) (others : ℕ) (given : List (List Literal)) (literals : List Literal) (values schedule : List ℤ) (found : Option ℕ) → others ≡ problem.points → given ≡ problem.clauses → schedule ≡ values → IsBest others literals values → MatchOption found (ProblemHolds values given) (IsFalseAt values given) → found ≡ None → IsSolution problem schedule
modelled problem others given literals values schedule found on same is best h none =
    let holds : MatchOption None (ProblemHolds values given) (IsFalseAt values given) = subst (λ (o : Option ℕ). MatchOption o (ProblemHolds values given) (IsFalseAt values given)) none h in
    subst (IsSolution problem) (sym is) (record { count = best.greatest.schedule.count ∙ on; range = best.range; holds = subst (ProblemHolds values) same holds })

pub is_none : {A : Type 0} (found : Option A) → ((x : A) → found ≡ Some x → ⊥) → found ≡ None
is_none (Some x) none = absurd (none x refl)
is_none None none = refl

-- a literal that closes a cycle with the net's is denied on the trail
pub denied_state : (q : Question) (own : List Lemma) (es now : List Entry) (levels : List Level) (literals : List Literal) (l : Literal) (cycle : List Literal) → IsSearch q own es levels literals → IsOver q.problem.points l → IsCycleAmong (literals ++ l ∷ []) cycle → now ≡ es ++ record { literal = negation_of l; number = 0; reason = ByCycle cycle } ∷ [] → IsSearch q own now levels literals × Stands now (length now) (negation_of l)
denied_state q own es now levels literals l cycle s over among grown =
    let e : Entry = record { literal = negation_of l; number = 0; reason = ByCycle cycle } in
    let reason : IsByCycle (Stands es (length es)) (negation_of l) cycle = record {
      negative = among.negative;
      others = λ p lt. elim (Contains-push_cases literals l (literal_at cycle p) (among.given p no_literal lt)) [
        | inl there ↦ inr (subst (Stands es (length es)) there.2 (s.net there.0 (literal_at cycle p) there.1))
        | inr same ↦ inl (sym same ∙ sym (negation_twice l))
      ];
    } in
    (state_pushed q own es now levels literals e grown s (IsOver-negation_of q.problem.points l over) reason (λ chosen. absurd cc), subst (λ (fs : List Entry). Stands fs (length fs) (negation_of l)) (sym grown) (stands_last es e))

-- what stood on the trail stands on a longer one
stands_longer : (es now : List Entry) (e : Entry) (m : Literal) → now ≡ es ++ e ∷ [] → Stands es (length es) m → Stands now (length now) m
stands_longer es now e m grown s = subst (λ (fs : List Entry). Stands fs (length fs) m) (sym grown) (stands_grown es e m s)

abbrev pub DeniedTo : List Entry → List Literal → ℕ → Type 0
DeniedTo es clause p = (i : ℕ) → i < p → Stands es (length es) (negation_of (literal_at clause i))

pub same_literals : (others : ℕ) (literals new : List Literal) (l : Literal) (added : Added) (cycle : List Literal) → IsAdded others literals l new added → added ≡ Refused cycle → (new ≡ literals) × IsCycleAmong (literals ++ l ∷ []) cycle
same_literals others literals new l added cycle adds is = subst (IsAdded others literals l new) is adds

pub live_turn : (q : Question) (others : ℕ) (own these : List Lemma) (es now : List Entry) (levels more : List Level) (literals new : List Literal) (l : Literal) (added : Added) (cycle clause : List Literal) (p : ℕ) → IsSearch q own es levels literals → IsAdded others literals l new added → added ≡ Refused cycle → IsOver q.problem.points l → now ≡ es ++ record { literal = negation_of l; number = 0; reason = ByCycle cycle } ∷ [] → these ≡ own → more ≡ levels → l ≡ literal_at clause p → DeniedTo es clause p → IsSearch q these now more new × DeniedTo now clause (p + 1)
live_turn q others own these es now levels more literals new l added cycle clause p s adds is over grown a b at before =
    let no = same_literals others literals new l added cycle adds is in
    let both = denied_state q own es now levels literals l cycle s over no.1 grown in
    let state : IsSearch q these now more new = subst (λ (ls : List Lemma). IsSearch q ls now more new) (sym a) (subst (λ (vs : List Level). IsSearch q own now vs new) (sym b) (subst (IsSearch q own now levels) (sym no.0) both.0)) in
    let e : Entry = record { literal = negation_of l; number = 0; reason = ByCycle cycle } in
    let denied_now : DeniedTo now clause (p + 1) = λ i lt. elim (cases_eq i p) [
      | inl same ↦ subst (λ (m : Literal). Stands now (length now) (negation_of m)) (at ∙ ap (λ (k : ℕ). literal_at clause k) (sym same)) both.1
      | inr other ↦ stands_longer es now e (negation_of (literal_at clause i)) grown (before i (omega arith))
    ] in
    (state, denied_now)

pub nowhere_stuck : (q : Question) (others : ℕ) (own : List Lemma) (es : List Entry) (levels : List Level) (literals before : List Literal) (i : ℕ) (clause : List Literal) (found : Option ℕ) → IsSearch q own es levels literals → i < length q.problem.clauses → clause ≡ get_or q.problem.clauses i [] → found ≡ None → IsLiveAt others before es clause found → IsStuckSearch q own es levels literals (OfClause (OfInput i))
nowhere_stuck q others own es levels literals before i clause found s within at e live =
    let denied : AreDenied es clause (length clause) = subst (IsLiveAt others before es clause) e live in
    record { state = s; clash = (within, denied_all es clause (get_or q.problem.clauses i []) denied at) }

pub live_more : (q : Question) (own : List Lemma) (es : List Entry) (levels : List Level) (literals first : List Literal) (i : ℕ) (live : Live) (place : ℕ) → IsSearchLiveness q own es levels literals i live → live ≡ At place → literals ≡ first → ((k : ℕ) → k < i → HasLive q.problem.points first (get_or q.problem.clauses k [])) → IsSearch q own es levels literals × ((k : ℕ) → k < i + 1 → HasLive q.problem.points first (get_or q.problem.clauses k []))
live_more q own es levels literals first i live place h e same before =
    let there : IsSearchLiveness q own es levels literals i (At place) = subst (IsSearchLiveness q own es levels literals i) e h in (
      there.0,
      λ k lt. elim (cases_eq k i) [
        | inl here ↦ subst (λ (n : ℕ). HasLive q.problem.points first (get_or q.problem.clauses n [])) (sym here) (place, subst (λ (ls : List Literal). IsLive q.problem.points ls (get_or q.problem.clauses i []) place) same there.1)
        | inr other ↦ before k (omega arith)
      ],
    )

live_literal : (points : ℕ) (literals clause : List Literal) → HasLive points literals clause → (l : Literal) × Contains clause l × IsConsistent points (literals ++ l ∷ [])
live_literal points literals clause h = (literal_at clause h.0, Contains-get_or clause h.0 no_literal h.1.within, h.1.consistent)

get_or_is : (cs : List (List Literal)) (k : ℕ) (c : List Literal) → k < length cs → get_or cs k c ≡ c → get_or cs k [] ≡ c
get_or_is [] k c lt e = absurd (omega arith)
get_or_is (d ∷ cs) zero c lt e = e
get_or_is (d ∷ cs) (suc k) c lt e = get_or_is cs k c (omega arith) e

-- each clause has a literal that is consistent with the cube
live_clauses : (q : Question) (literals : List Literal) → literals ≡ q.cube → ((k : ℕ) → k < length q.problem.clauses → HasLive q.problem.points literals (get_or q.problem.clauses k [])) → (c : List Literal) → Contains q.problem.clauses c → (l : Literal) × Contains c l × IsConsistent q.problem.points (q.cube ++ l ∷ [])
live_clauses q literals is all c c_in =
    let k = c_in.0 in
    let k_in : k < length q.problem.clauses = c_in.1 in
    let same_c : get_or q.problem.clauses k [] ≡ c = get_or_is q.problem.clauses k c k_in c_in.2 in
    let h : HasLive q.problem.points q.cube (get_or q.problem.clauses k []) = subst (λ (ls : List Literal). HasLive q.problem.points ls (get_or q.problem.clauses k [])) is (all k k_in) in
    live_literal q.problem.points q.cube c (subst (HasLive q.problem.points q.cube) same_c h)

pub split_by : (q : Question) (others : ℕ) (literals : List Literal) (found : Option Literal) (l : Literal) → others ≡ q.problem.points → literals ≡ q.cube → IfSome found (Divides others q.problem literals) → found ≡ Some l → ((k : ℕ) → k < length q.problem.clauses → HasLive q.problem.points literals (get_or q.problem.clauses k [])) → IsSplit q l
split_by q others literals found l on is h e all =
    let there : Divides others q.problem literals l = subst (λ (o : Option Literal). IfSome o (Divides others q.problem literals)) e h in
    let d : Divides q.problem.points q.problem q.cube l = subst (λ (ls : List Literal). Divides q.problem.points q.problem ls l) is (subst (λ (n : ℕ). Divides n q.problem literals l) on there) in
    record { stated = d.stated; with_it = d.with_it; against = d.against; live = live_clauses q literals is all }

pub split_of : (q : Question) (others : ℕ) (given : List (List Literal)) (literals after : List Literal) (values : List ℤ) (i place : ℕ) (l : Literal) → others ≡ q.problem.points → given ≡ q.problem.clauses → literals ≡ q.cube → after ≡ literals → IsBest others literals values → IsFalseAt values given i → IsLive q.problem.points after (get_or q.problem.clauses i []) place → ((k : ℕ) → k < length q.problem.clauses → HasLive q.problem.points literals (get_or q.problem.clauses k [])) → l ≡ literal_at (get_or q.problem.clauses i []) place → IsSplit q l
split_of q others given literals after values i place l on same is kept best fails live all at =
    let clause = get_or q.problem.clauses i [] in
    let m = literal_at clause place in
    let f : IsFalseAt values q.problem.clauses i = subst (λ (cs : List (List Literal)). IsFalseAt values cs i) same fails in
    let false_there : Holds values m → ⊥ = f.fails place no_literal live.within in
    let b : IsBest q.problem.points q.cube values = subst (λ (ls : List Literal). IsBest q.problem.points ls values) is (subst (λ (n : ℕ). IsBest n literals values) on best) in
    let s = b.greatest.schedule in
    let here : IsLive q.problem.points q.cube clause place = subst (λ (ls : List Literal). IsLive q.problem.points ls clause place) (kept ∙ is) live in
    let split : IsSplit q m = record {
      stated = (clause, Contains-get_or q.problem.clauses i [] f.within, Contains-get_or clause place no_literal live.within);
      with_it = here.consistent;
      against = (values, record { count = s.count; at_most_0 = s.at_most_0; holds = All-push (Holds values) q.cube (negation_of m) s.holds (denied values m false_there) });
      live = live_clauses q literals is all;
    } in
    subst (IsSplit q) (sym at) split

pub are_live : (q : Question) (own : List Lemma) (es : List Entry) (levels : List Level) (literals : List Literal) (found : Option ℕ) → AreSearchLive q own es levels literals found → ((j : ℕ) → found ≡ Some j → ⊥) → IsSearch q own es levels literals × ((i : ℕ) → i < length q.problem.clauses → HasLive q.problem.points literals (get_or q.problem.clauses i []))
are_live q own es levels literals (Some j) h none = absurd (none j refl)
are_live q own es levels literals None h none = h

pub live_at : (q : Question) (own : List Lemma) (es : List Entry) (levels : List Level) (literals : List Literal) (i : ℕ) (live : Live) (place : ℕ) → IsSearchLiveness q own es levels literals i live → live ≡ At place → IsSearch q own es levels literals × IsLive q.problem.points literals (get_or q.problem.clauses i []) place
live_at q own es levels literals i live place h e = subst (IsSearchLiveness q own es levels literals i) e h

-- a search that hasn't begun
pub empty_search : (q : Question) (own : List Lemma) (es : List Entry) (levels : List Level) (literals : List Literal) → es ≡ [] → levels ≡ [] → literals ≡ [] → All (IsClauseOver q.problem.points) (all_lemmas q.handed own) → AreProved q own → IsSearch q own es levels literals
empty_search q own es levels literals a b c lemmas proved =
    let search : IsSearch q own [] [] [] = record {
      trail = λ k lt. absurd (omega arith);
      over = λ k lt. absurd (omega arith);
      lemmas = lemmas;
      net = λ k d lt. absurd (omega arith);
      each = λ i lt. absurd (omega arith);
      starts = λ i j le lt. absurd (omega arith);
      in_nets = λ i j le lt. absurd (omega arith);
      rooted = λ j is. absurd cc;
      proved = proved;
    } in
    subst (λ (fs : List Entry). IsSearch q own fs levels literals) (sym a) (subst (λ (vs : List Level). IsSearch q own [] vs literals) (sym b) (subst (IsSearch q own [] []) (sym c) search))

-- all clauses of lemmas are within the limits
pub lemmas_over : (points : ℕ) (handed : List (List Literal)) (own these : List Lemma) → these ≡ own → All (IsClauseOver points) handed → All (LemmaIsOver points) own → All (IsClauseOver points) (all_lemmas handed these)
lemmas_over points handed own these e over all = subst (λ (ls : List Lemma). All (IsClauseOver points) (all_lemmas handed ls)) (sym e) (All-append (IsClauseOver points) handed (map stated own) over (All-map (IsClauseOver points) stated own (λ k d lt. (all k d lt).clause)))

pub after_proved : (q : Question) (own : List Lemma) (es : List Entry) (levels : List Level) (literals : List Literal) (found : Option Conflict) → IsSearchAfter q own es levels literals found → AreProved q own
after_proved q own es levels literals (Some conflict) h = h.state.proved
after_proved q own es levels literals None h = h.proved

pub quiet_search : (q : Question) (own : List Lemma) (es : List Entry) (levels : List Level) (literals : List Literal) (found : Option Conflict) → IsSearchAfter q own es levels literals found → ((conflict : Conflict) → found ≡ Some conflict → ⊥) → IsSearch q own es levels literals
quiet_search q own es levels literals (Some conflict) h none = absurd (none conflict refl)
quiet_search q own es levels literals None h none = h
