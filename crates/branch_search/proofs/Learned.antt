-- What is learned from a conflict, over plain lists.
use Rattle.std.proofs.Common.{arith, ◌≡◌, ℕ, zero, suc, inl, inr, get_or, ◌+◌, ◌<◌, ◌≤◌, List, [], ◌∷◌, ◌++◌, length, take, All, Contains, Bool, true, Some, subst, sym, ap, ◌∙◌, refl}
use Rattle.std.specs.Prelude.{slice_get}
use Rattle.std.proofs.lemmas.Bool.{cases_eq}
use Rattle.std.proofs.lemmas.Option.{slice_get_within, same_Some}
use Rattle.std.proofs.lemmas.List.{length_push, length-take-le}
use Rattle.std.proofs.lemmas.List.Elements.{Contains-get_or}
use Rattle.stn_core.specs.Literal.{negation_of, literal_at}
use Rattle.conflict_analysis.proofs.Shut.{negation_twice}
use Rattle.stn_core.specs.declared.literal.Literal.{Literal}
use Rattle.refute_tree.specs.declared.lemma.Lemma.{Lemma}
use Rattle.conflict_analysis.specs.declared.entry.Reason.{Reason}
use Rattle.conflict_analysis.specs.declared.entry.Reason.TheVariants.{Given, Decision, Clause as ByClause, Pair as ByPair, Cycle as ByCycle}
use Rattle.conflict_analysis.specs.declared.entry.Entry.{Entry}
use Rattle.conflict_analysis.specs.declared.entry.Level.{Level}
use Rattle.branch_search.specs.declared.conflict.Reaction.{Reaction}
use Rattle.branch_search.specs.declared.conflict.Reaction.TheVariants.{Jumped}
use Rattle.branch_search.specs.declared.propagate.Tried.{Tried}
use Rattle.branch_search.specs.declared.propagate.Tried.TheVariants.{Pushed, Nothing, Stuck}
use Rattle.conflict_analysis.specs.code.Trails.{IsReason, IsTrail, MayStay, IsDenial, no_literal, entry_at, on_trail}
use Rattle.conflict_analysis.specs.Proved.{IsProved}
use Rattle.branch_search.specs.code.Search.{all_lemmas, start_of, in_net_of, IsSearch, IsSearchTaught, IsSearchLearned, IsSearchSettled, AreExcluding, IsSearchTried, IsClauseReason, HasReasons}
use Rattle.branch_search.specs.Slices.{Question, Excludes}
use Rattle.branch_search.proofs.States.{lemma_last, state_learned, state_cut}

-- a literal that needs no reason is one of the cube's, where nothing was decided and it follows from the clause by which it stands
-- on the trail, if it does so by one
first_given : (inputs lemmas : List (List Literal)) (cube : List Literal) (es : List Entry) (k : ℕ) (l : Literal) (r : Reason) → (r ≡ Decision → ⊥) → IsClauseReason inputs lemmas es k l r → MayStay inputs lemmas es k l r → IsReason inputs lemmas cube es k l r → Contains cube l
first_given inputs lemmas cube es k l Given not good first h = h
first_given inputs lemmas cube es k l Decision not good first h = absurd (not refl)
first_given inputs lemmas cube es k l (ByClause source place) not good first h = absurd (first good)
first_given inputs lemmas cube es k l (ByPair tighter) not good first h = absurd first
first_given inputs lemmas cube es k l (ByCycle cycle) not good first h = absurd first

pub trail_seen : (q : Question) (own lent : List Lemma) (es seen : List Entry) → lent ≡ own → seen ≡ es → IsTrail q.problem.clauses (all_lemmas q.handed own) q.cube es → IsTrail q.problem.clauses (all_lemmas q.handed lent) q.cube seen
trail_seen q own lent es seen a b h =
    subst (λ (ls : List Lemma). IsTrail q.problem.clauses (all_lemmas q.handed ls) q.cube seen) (sym a) (subst (IsTrail q.problem.clauses (all_lemmas q.handed own) q.cube) (sym b) h)

-- the analysis was made over the own lemmas and the trail
pub taught : (q : Question) (own lent : List Lemma) (es seen : List Entry) (whole : Bool) (lemma : Lemma) → lent ≡ own → seen ≡ es → IsProved q.problem.points q.problem.clauses (all_lemmas q.handed lent) lemma → All (IsDenial q.problem.clauses (all_lemmas q.handed lent) seen whole) lemma.clause → IsSearchTaught q own es whole lemma
taught q own lent es seen whole lemma is same r denials =
    let inputs = q.problem.clauses in
    let denied : All (IsDenial inputs (all_lemmas q.handed own) seen whole) lemma.clause = subst (λ (ls : List Lemma). All (IsDenial inputs (all_lemmas q.handed ls) seen whole) lemma.clause) is denials in
    record {
      proved = subst (λ (ls : List Lemma). IsProved q.problem.points inputs (all_lemmas q.handed ls) lemma) is r;
      denials = subst (λ (fs : List Entry). All (IsDenial inputs (all_lemmas q.handed own) fs whole) lemma.clause) same denied;
    }

-- the search stands as it was
pub same_search : (q : Question) (own mid : List Lemma) (es seen : List Entry) (levels these : List Level) (literals : List Literal) → mid ≡ own → seen ≡ es → these ≡ levels → IsSearch q own es levels literals → IsSearch q mid seen these literals
same_search q own mid es seen levels these literals a b c h =
    subst (λ (ls : List Lemma). IsSearch q ls seen these literals) (sym a)
    (subst (λ (fs : List Entry). IsSearch q own fs these literals) (sym b) (subst (λ (vs : List Level). IsSearch q own es vs literals) (sym c) h))

-- and with the lemma behind its own ones
pub search_grown : (q : Question) (own mid new : List Lemma) (lemma : Lemma) (es seen : List Entry) (levels these : List Level) (literals : List Literal) (whole : Bool) → mid ≡ own → seen ≡ es → these ≡ levels → new ≡ mid ++ lemma ∷ [] → IsSearchTaught q own es whole lemma → IsSearch q own es levels literals → IsSearch q new seen these literals
search_grown q own mid new lemma es seen levels these literals whole a b c grown t h =
    let more : IsSearch q (own ++ lemma ∷ []) es levels literals = state_learned q own lemma es levels literals h t.proved in
    same_search q (own ++ lemma ∷ []) new es seen levels these literals (grown ∙ ap (λ (ls : List Lemma). ls ++ lemma ∷ []) a) b c more

pub learned_search : (q : Question) (own mid new : List Lemma) (lemma : Lemma) (es seen : List Entry) (levels these : List Level) (literals : List Literal) (whole : Bool) → mid ≡ own → seen ≡ es → these ≡ levels → new ≡ mid ++ lemma ∷ [] → IsSearchTaught q own es whole lemma → IsSearch q own es levels literals → (length levels ≡ 0 → whole ≡ true) → IsSearchLearned q (all_lemmas q.handed own) new seen these (length own) literals
learned_search q own mid new lemma es seen levels these literals whole a b c grown t s root =
    let inputs = q.problem.clauses in
    let lemmas = all_lemmas q.handed own in
    let is : new ≡ own ++ lemma ∷ [] = grown ∙ ap (λ (ls : List Lemma). ls ++ lemma ∷ []) a in
    let there : IsSearchLearned q lemmas (own ++ lemma ∷ []) es levels (length own) literals = record {
      state = state_learned q own lemma es levels literals s t.proved;
      count = length_push own lemma;
      excludes = λ none good. (
        lemma,
        lemma_last own lemma,
        λ k d lt. (let h = t.denials k d lt in
            (on_trail es h.0, first_given inputs lemmas q.cube es h.0 (on_trail es h.0) (entry_at es h.0).reason (λ chosen. let some = (s.rooted h.0 chosen).0 in absurd (omega arith)) (good h.0) (h.3 (root none)) (s.trail h.0 h.1), h.2)),
      );
    } in
    subst (λ (ls : List Lemma). IsSearchLearned q lemmas ls seen these (length own) literals) (sym is)
    (subst (λ (fs : List Entry). IsSearchLearned q lemmas (own ++ lemma ∷ []) fs these (length own) literals) (sym b)
    (subst (λ (vs : List Level). IsSearchLearned q lemmas (own ++ lemma ∷ []) es vs (length own) literals) (sym c) there))

-- so it was found to be
pub found_excluding : (q : Question) (lemmas : List (List Literal)) (own seen : List Lemma) (cube : List Literal) (es : List Entry) (levels : List Level) (j k : ℕ) (literals : List Literal) → cube ≡ q.cube → seen ≡ own → Excludes cube seen j → IsSearchLearned q lemmas own es levels k literals → AreExcluding q own j
found_excluding q lemmas own seen cube es levels j k literals a b h learned =
    let there : Excludes q.cube own j = subst (λ (ls : List Literal). Excludes ls own j) a (subst (λ (ls : List Lemma). Excludes cube ls j) b h) in
    (slice_get_within own j there.0 there.1, there, learned.state.proved)

-- and where it wasn't, some literal doesn't follow from the clause by which it stands on the trail
pub found_failing : (q : Question) (lemmas : List (List Literal)) (own seen : List Lemma) (cube : List Literal) (es before : List Entry) (levels : List Level) (j k : ℕ) (literals : List Literal) → cube ≡ q.cube → seen ≡ own → es ≡ before → j ≡ k → length levels ≡ 0 → (Excludes cube seen j → ⊥) → IsSearchLearned q lemmas own es levels k literals → HasReasons q.problem.clauses lemmas before → ⊥
found_failing q lemmas own seen cube es before levels j k literals a b same number none not learned good =
    let there : Excludes q.cube own j = subst (Excludes q.cube own) (sym number) (learned.excludes none (subst (HasReasons q.problem.clauses lemmas) (sym same) good)) in
    not (subst (λ (ls : List Lemma). Excludes cube ls j) (sym b) (subst (λ (ls : List Literal). Excludes ls own j) (sym a) there))

pub cut_back : (q : Question) (own kept mid : List Lemma) (es there now : List Entry) (levels these fewer : List Level) (literals left : List Literal) (level : ℕ) → level < length these → IsSearch q own es levels literals → there ≡ es → these ≡ levels → mid ≡ own → now ≡ take (start_of these level) there → fewer ≡ take level these → left ≡ take (in_net_of these level) literals → kept ≡ mid → IsSearch q kept now fewer left
cut_back q own kept mid es there now levels these fewer literals left level lt s a b c is_now is_fewer is_left same =
    let state : IsSearch q own there these literals = subst (λ (fs : List Entry). IsSearch q own fs these literals) (sym a) (subst (λ (vs : List Level). IsSearch q own es vs literals) (sym b) s) in
    subst (λ (ls : List Lemma). IsSearch q ls now fewer left) (sym (same ∙ c)) (state_cut q own there now these fewer literals left level lt state is_now is_fewer is_left)

-- the level's literals are in the net
pub cut_within : (q : Question) (own : List Lemma) (es : List Entry) (levels these : List Level) (literals : List Literal) (level : ℕ) → level < length these → IsSearch q own es levels literals → these ≡ levels → in_net_of these level ≤ length literals
cut_within q own es levels these literals level lt s same =
    let state : IsSearch q own es these literals = subst (λ (vs : List Level). IsSearch q own es vs literals) (sym same) s in
    (state.each level lt).in_net

pub fewer_levels : (levels fewer : List Level) (level : ℕ) → level < length levels → fewer ≡ take level levels → length fewer < length levels
fewer_levels levels fewer level lt is =
    let count : length (take level levels) ≡ level = length-take-le level levels (omega arith) in
    let same : length fewer ≡ length (take level levels) = ap (length {A = Level}) is in
    omega arith

-- whatever became of a proposal, the search stands
pub taken_search : (q : Question) (own : List Lemma) (es : List Entry) (levels : List Level) (literals : List Literal) (taken : Tried) → IsSearchTried q own es levels literals taken → IsSearch q own es levels literals
taken_search q own es levels literals Pushed h = h
taken_search q own es levels literals Nothing h = h
taken_search q own es levels literals (Stuck conflict) h = h.state

-- after the jump there are fewer levels
pub settled : (q : Question) (own : List Lemma) (es : List Entry) (levels these fewer last : List Level) (literals : List Literal) (level : ℕ) → level < length these → these ≡ levels → fewer ≡ take level these → last ≡ fewer → IsSearch q own es last literals → (length last < length levels) × IsSearch q own es last literals
settled q own es levels these fewer last literals level lt same is again h =
    let short : length fewer < length these = fewer_levels these fewer level lt is in
    let a : length last ≡ length fewer = ap (length {A = Level}) again in
    let b : length these ≡ length levels = ap (length {A = Level}) same in
    (omega arith, h)

pub jumped_goes : (q : Question) (count : ℕ) (own : List Lemma) (es : List Entry) (levels : List Level) (literals : List Literal) (reaction : Reaction) → IsSearchSettled q count own es levels literals reaction → reaction ≡ Jumped → (length levels < count) × IsSearch q own es levels literals
jumped_goes q count own es levels literals reaction h e = subst (IsSearchSettled q count own es levels literals) e h

-- what the tests of a lemma's literals say: each is the negation of one of the cube's
pub one_more_in : (cube clause : List Literal) (q place : ℕ) → place < length cube → literal_at cube place ≡ negation_of (literal_at clause q) → ((i : ℕ) → i < q → (k : ℕ) × (k < length cube) × (literal_at cube k ≡ negation_of (literal_at clause i))) → (i : ℕ) → i < q + 1 → (k : ℕ) × (k < length cube) × (literal_at cube k ≡ negation_of (literal_at clause i))
one_more_in cube clause q place within is before i lt = elim (cases_eq i q) [
  | inl same ↦ (place, within, is ∙ ap (λ (n : ℕ). negation_of (literal_at clause n)) (sym same))
  | inr other ↦ before i (omega arith)
]

any_literal : (xs : List Literal) (i : ℕ) (x y : Literal) → i < length xs → get_or xs i x ≡ get_or xs i y
any_literal [] i x y lt = absurd (omega arith)
any_literal (z ∷ xs) zero x y lt = refl
any_literal (z ∷ xs) (suc i) x y lt = any_literal xs i x y (omega arith)

pub excluded_by : (cube clause : List Literal) (own : List Lemma) (lemma : Lemma) (j : ℕ) → slice_get own j ≡ Some lemma → clause ≡ lemma.clause → ((i : ℕ) → i < length clause → (k : ℕ) × (k < length cube) × (literal_at cube k ≡ negation_of (literal_at clause i))) → Excludes cube own j
excluded_by cube clause own lemma j there same each =
    let Denies : Literal → Type 0 = λ m. (l : Literal) × Contains cube l × (m ≡ negation_of l) in
    let all : All Denies clause = λ i d lt. (let h = each i lt in
    let m = literal_at clause i in
    let one : Denies m = (literal_at cube h.0, Contains-get_or cube h.0 no_literal h.1, sym (negation_twice m) ∙ sym (ap negation_of h.2)) in
    subst Denies (any_literal clause i no_literal d lt) one) in
    (lemma, there, subst (All Denies) same all)

-- a lemma that excludes the cube passes them
pub excluded_at : (cube clause : List Literal) (own : List Lemma) (lemma : Lemma) (j q : ℕ) → slice_get own j ≡ Some lemma → clause ≡ lemma.clause → q < length clause → Excludes cube own j → (k : ℕ) × (k < length cube) × (literal_at cube k ≡ negation_of (literal_at clause q))
excluded_at cube clause own lemma j q there same lt h =
    let Denies : Literal → Type 0 = λ m. (l : Literal) × Contains cube l × (m ≡ negation_of l) in
    let one : h.0 ≡ lemma = same_Some h.0 lemma (sym h.1 ∙ there) in
    let all : All Denies clause = subst (All Denies) (sym same) (subst (λ (m : Lemma). All Denies m.clause) one h.2) in
    let d : Denies (literal_at clause q) = all q no_literal lt in
    let at = d.1 in
    (at.0, at.1, any_literal cube at.0 no_literal d.0 at.1 ∙ at.2 ∙ sym (negation_twice d.0) ∙ sym (ap negation_of d.2))
