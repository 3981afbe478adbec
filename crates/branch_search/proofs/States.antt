-- How a search's trail grows and is cut.
use Rattle.std.proofs.Common.{arith, ◌≡◌, ℕ, zero, suc, ◌<◌, ◌≤◌, inl, inr, List, [], ◌∷◌, ◌++◌, length, map, take, get_or, All, Contains, Some, subst, sym, ap, ◌∙◌, refl, append_assoc}
use Rattle.std.specs.Prelude.{slice_get}
use Rattle.std.proofs.lemmas.Bool.{cases_lt, cases_eq}
use Rattle.std.proofs.lemmas.List.{get_or_append_left, get_or_push, get_or-take, length_push, length-take-le, map-append, take_all, take-take, take-append-le}
use Rattle.std.proofs.lemmas.List.Elements.{All-push}
use Rattle.stn_core.specs.declared.literal.Literal.{Literal}
use Rattle.stn_core.specs.Literal.{IsOver, literal_at}
use Rattle.stn_core.specs.Answer.{IsCycleAmong}
use Rattle.stn_core.specs.Net.{IsAdded}
use Rattle.stn_core.specs.declared.net.Added.{Added}
use Rattle.stn_core.specs.declared.net.Added.TheVariants.{Yes, Cycle as Refused}
use Rattle.refute_tree.specs.declared.lemma.Lemma.{Lemma}
use Rattle.refute_tree.specs.Trees.{stated}
use Rattle.refute_tree.specs.Batches.{LemmaIsOver}
use Rattle.refute_tree.proofs.Moved.{joined}
use Rattle.conflict_analysis.specs.declared.entry.Reason.{Reason}
use Rattle.conflict_analysis.specs.declared.entry.Reason.TheVariants.{Given, Decision, Clause as ByClause, Pair as ByPair, Cycle as ByCycle}
use Rattle.conflict_analysis.specs.declared.entry.Entry.{Entry}
use Rattle.conflict_analysis.specs.declared.entry.Level.{Level}
use Rattle.conflict_analysis.specs.declared.entry.Conflict.TheVariants.{Cycle as OfCycle}
use Rattle.conflict_analysis.specs.code.Trails.{no_literal, IsByCycle, pair_cycle, entry_at, on_trail, Stands, IsReason, IsTrail, AreOver}
use Rattle.conflict_analysis.specs.Proved.{IsClauseOver, IsProved}
use Rattle.branch_search.specs.code.Search.{all_lemmas, level_at, start_of, in_net_of, AllStand, IsLevel, IsSearch, IsStuckSearch, IsNoClause, HasNoClause}
use Rattle.branch_search.specs.Slices.{Question, AreProved}

-- a list and its part agree on the entries of the part
pub length_part : (n : ℕ) (es : List Entry) (k : ℕ) → k < length (take n es) → (k < n) × (k < length es)
length_part zero es k lt = absurd (omega arith)
length_part (suc n) [] k lt = absurd (omega arith)
length_part (suc n) (e ∷ es) zero lt = (omega arith, omega arith)
length_part (suc n) (e ∷ es) (suc k) lt = (let h = length_part n es k (omega arith) in (omega (arith, h.0), omega (arith, h.1)))

cycle_moved : (es fs : List Entry) (k : ℕ) (l : Literal) (cycle : List Literal) → ((m : Literal) → Stands es k m → Stands fs k m) → IsByCycle (Stands es k) l cycle → IsByCycle (Stands fs k) l cycle
cycle_moved es fs k l cycle move h = record {
  negative = h.negative;
  others = λ q lt. elim (h.others q lt) [
    | inl e ↦ inl e
    | inr s ↦ inr (move (literal_at cycle q) s)
  ];
}

pub reason_moved : (inputs lemmas : List (List Literal)) (cube : List Literal) (es fs : List Entry) (k : ℕ) (l : Literal) (r : Reason) → ((m : Literal) → Stands es k m → Stands fs k m) → IsReason inputs lemmas cube es k l r → IsReason inputs lemmas cube fs k l r
reason_moved inputs lemmas cube es fs k l Given move h = h
reason_moved inputs lemmas cube es fs k l Decision move h = h
reason_moved inputs lemmas cube es fs k l (ByClause source place) move h = h
reason_moved inputs lemmas cube es fs k l (ByPair tighter) move h = cycle_moved es fs k l (pair_cycle tighter l) move h
reason_moved inputs lemmas cube es fs k l (ByCycle cycle) move h = cycle_moved es fs k l cycle move h

-- a trail on which no literal stands by a clause
pub plain_push : (es : List Entry) (e : Entry) → HasNoClause es → IsNoClause e.reason → HasNoClause (es ++ e ∷ [])
plain_push [] e h new zero = new
plain_push [] e h new (suc j) = h j
plain_push (f ∷ es) e h new zero = h 0
plain_push (f ∷ es) e h new (suc j) = plain_push es e (λ i. h (suc i)) new j

pub plain_pushed : (es now : List Entry) (e : Entry) → now ≡ es ++ e ∷ [] → HasNoClause es → IsNoClause e.reason → HasNoClause now
plain_pushed es now e grown h new = subst HasNoClause (sym grown) (plain_push es e h new)

pub plain_same : (es now : List Entry) → now ≡ es → HasNoClause es → HasNoClause now
plain_same es now is h = subst HasNoClause (sym is) h

pub plain_none : (es : List Entry) → es ≡ [] → HasNoClause es
plain_none es is = subst HasNoClause (sym is) (λ j. tt)

pub entry_left : (es : List Entry) (e : Entry) (k : ℕ) → k < length es → entry_at (es ++ e ∷ []) k ≡ entry_at es k
entry_left es e k lt = get_or_append_left es (e ∷ []) (record { literal = no_literal; number = 0; reason = Given }) k lt

pub entry_last : (es : List Entry) (e : Entry) (k : ℕ) → k ≡ length es → entry_at (es ++ e ∷ []) k ≡ e
entry_last es e k same = get_or_push es e (record { literal = no_literal; number = 0; reason = Given }) k (sym same)

literal_of : Entry → Literal
literal_of e = e.literal

pub stands_push : (es : List Entry) (e : Entry) (k : ℕ) (m : Literal) → k ≤ length es → Stands es k m → Stands (es ++ e ∷ []) k m
stands_push es e k m le s =
    let lt = s.1 in
    (s.0, s.1, ap (λ (f : Entry). f.literal) (entry_left es e s.0 (omega arith)) ∙ s.2)

-- what stands below a place stands below a later one
pub stands_later : (es : List Entry) (j k : ℕ) (m : Literal) → j ≤ k → Stands es j m → Stands es k m
stands_later es j k m le s = let lt = s.1 in (s.0, omega arith, s.2)

pub stands_grown : (es : List Entry) (e : Entry) (m : Literal) → Stands es (length es) m → Stands (es ++ e ∷ []) (length (es ++ e ∷ [])) m
stands_grown es e m s =
    let count = length_push es e in
    stands_later (es ++ e ∷ []) (length es) (length (es ++ e ∷ [])) m (omega arith) (stands_push es e (length es) m (omega arith) s)

pub stands_last : (es : List Entry) (e : Entry) → Stands (es ++ e ∷ []) (length (es ++ e ∷ [])) e.literal
stands_last es e = let count = length_push es e in (length es, omega arith, ap (λ (f : Entry). f.literal) (entry_last es e (length es) refl))

stands_take : (es : List Entry) (n k : ℕ) (m : Literal) → k ≤ n → Stands es k m → Stands (take n es) k m
stands_take es n k m le s =
    let d : Entry = record { literal = no_literal; number = 0; reason = Given } in
    let less = s.1 in
    (s.0, s.1, ap (λ (f : Entry). f.literal) (get_or-take n es s.0 d (omega arith)) ∙ s.2)

pub all_push : (es : List Entry) (e : Entry) (k : ℕ) (ls : List Literal) → k ≤ length es → AllStand es k ls → AllStand (es ++ e ∷ []) k ls
all_push es e k ls le all q d lt = stands_push es e k (get_or ls q d) le (all q d lt)

all_grown : (es : List Entry) (e : Entry) (ls : List Literal) → AllStand es (length es) ls → AllStand (es ++ e ∷ []) (length (es ++ e ∷ [])) ls
all_grown es e ls all q d lt = stands_grown es e (get_or ls q d) (all q d lt)

all_take : (es : List Entry) (n k : ℕ) (ls : List Literal) → k ≤ n → AllStand es k ls → AllStand (take n es) k ls
all_take es n k ls le all q d lt = stands_take es n k (get_or ls q d) le (all q d lt)

module _ (inputs lemmas : List (List Literal)) (cube : List Literal) where
  pub trail_push : (es : List Entry) (e : Entry) → IsTrail inputs lemmas cube es → IsReason inputs lemmas cube es (length es) e.literal e.reason → IsTrail inputs lemmas cube (es ++ e ∷ [])
  trail_push es e h new k lt = elim (cases_lt k (length es)) [
    | inl less ↦ (let P : Entry → Type 0 = λ f. IsReason inputs lemmas cube (es ++ e ∷ []) k f.literal f.reason in
        subst P (sym (entry_left es e k less)) (reason_moved inputs lemmas cube es (es ++ e ∷ []) k (on_trail es k) (entry_at es k).reason (λ m s. stands_push es e k m (omega arith) s) (h k less)))
    | inr past ↦ (let longer = length_push es e in
        let last : k ≡ length es = omega arith in
        let P : Entry → Type 0 = λ f. IsReason inputs lemmas cube (es ++ e ∷ []) k f.literal f.reason in
        let Q : ℕ → Type 0 = λ i. IsReason inputs lemmas cube (es ++ e ∷ []) i e.literal e.reason in
        subst P (sym (entry_last es e k last)) (subst Q (sym last) (reason_moved inputs lemmas cube es (es ++ e ∷ []) (length es) e.literal e.reason (λ m s. stands_push es e (length es) m (omega arith) s) new)))
  ]

  pub trail_take : (es : List Entry) (n : ℕ) → IsTrail inputs lemmas cube es → IsTrail inputs lemmas cube (take n es)
  trail_take es n h k lt =
      let d : Entry = record { literal = no_literal; number = 0; reason = Given } in
      let part = length_part n es k lt in
      let below = part.0 in
      let P : Entry → Type 0 = λ f. IsReason inputs lemmas cube (take n es) k f.literal f.reason in
      subst P (sym (get_or-take n es k d below)) (reason_moved inputs lemmas cube es (take n es) k (on_trail es k) (entry_at es k).reason (λ m s. stands_take es n k m (omega arith) s) (h k part.1))

-- more lemmas
reason_later : (inputs lemmas later : List (List Literal)) (cube : List Literal) (es : List Entry) (k : ℕ) (l : Literal) (r : Reason) → IsReason inputs lemmas cube es k l r → IsReason inputs (lemmas ++ later) cube es k l r
reason_later inputs lemmas later cube es k l Given h = h
reason_later inputs lemmas later cube es k l Decision h = h
reason_later inputs lemmas later cube es k l (ByPair tighter) h = h
reason_later inputs lemmas later cube es k l (ByCycle cycle) h = h
reason_later inputs lemmas later cube es k l (ByClause source place) h = h

pub trail_later : (inputs lemmas later : List (List Literal)) (cube : List Literal) (es : List Entry) → IsTrail inputs lemmas cube es → IsTrail inputs (lemmas ++ later) cube es
trail_later inputs lemmas later cube es h k lt = reason_later inputs lemmas later cube es k (on_trail es k) (entry_at es k).reason (h k lt)

pub all_more : (handed : List (List Literal)) (own : List Lemma) (lemma : Lemma) → all_lemmas handed (own ++ lemma ∷ []) ≡ all_lemmas handed own ++ lemma.clause ∷ []
all_more handed own lemma = ap (λ (ls : List (List Literal)). handed ++ ls) (map-append stated own (lemma ∷ [])) ∙ sym (append_assoc handed (map stated own) (lemma.clause ∷ []))

pub over_push : (points : ℕ) (es : List Entry) (e : Entry) → AreOver points es → IsOver points e.literal → AreOver points (es ++ e ∷ [])
over_push points es e over new k lt = elim (cases_lt k (length es)) [
  | inl less ↦ subst (λ (f : Entry). IsOver points f.literal) (sym (entry_left es e k less)) (over k less)
  | inr past ↦ (let longer = length_push es e in
      let last : k ≡ length es = omega arith in
      subst (λ (f : Entry). IsOver points f.literal) (sym (entry_last es e k last)) new)
]

over_take : (points : ℕ) (es : List Entry) (n : ℕ) → AreOver points es → AreOver points (take n es)
over_take points es n over k lt =
    let part = length_part n es k lt in
    subst (λ (f : Entry). IsOver points f.literal) (sym (get_or-take n es k (record { literal = no_literal; number = 0; reason = Given }) part.0)) (over k part.1)

pub decision_within : (es : List Entry) (j : ℕ) → (entry_at es j).reason ≡ Decision → j < length es
decision_within [] j e = absurd cc
decision_within (f ∷ es) zero e = omega arith
decision_within (f ∷ es) (suc j) e = let h = decision_within es j e in omega arith

-- what is pushed in a list of levels
level_left : (levels : List Level) (v : Level) (i : ℕ) → i < length levels → level_at (levels ++ v ∷ []) i ≡ level_at levels i
level_left levels v i lt = get_or_append_left levels (v ∷ []) (record { start = 0; in_net = 0 }) i lt

level_last : (levels : List Level) (v : Level) (i : ℕ) → i ≡ length levels → level_at (levels ++ v ∷ []) i ≡ v
level_last levels v i same = get_or_push levels v (record { start = 0; in_net = 0 }) i (sym same)

level_taken : (levels : List Level) (n i : ℕ) → i < n → level_at (take n levels) i ≡ level_at levels i
level_taken levels n i lt = get_or-take n levels i (record { start = 0; in_net = 0 }) lt

module _ (q : Question) (own : List Lemma) where
  -- a literal more on the trail
  pub state_pushed : (es now : List Entry) (levels : List Level) (literals : List Literal) (e : Entry) → now ≡ es ++ e ∷ [] → IsSearch q own es levels literals → IsOver q.problem.points e.literal → IsReason q.problem.clauses (all_lemmas q.handed own) q.cube es (length es) e.literal e.reason → (e.reason ≡ Decision → (0 < length levels) × (start_of levels 0 ≤ length es)) → IsSearch q own now levels literals
  state_pushed es now levels literals e grown s over reason choice =
      let count = length_push es e in
      subst (λ (fs : List Entry). IsSearch q own fs levels literals) (sym grown) (record {
        trail = trail_push q.problem.clauses (all_lemmas q.handed own) q.cube es e s.trail reason;
        over = over_push q.problem.points es e s.over over;
        lemmas = s.lemmas;
        net = all_grown es e literals s.net;
        each = λ i lt. (let v = s.each i lt in
            let short = v.on_trail in
            record {
              on_trail = omega arith;
              in_net = v.in_net;
              stand = all_push es e (start_of levels i) (take (in_net_of levels i) literals) v.on_trail v.stand;
            });
        starts = s.starts;
        in_nets = s.in_nets;
        rooted = λ j is. elim (cases_lt j (length es)) [
          | inl less ↦ s.rooted j (ap (λ (f : Entry). f.reason) (sym (entry_left es e j less)) ∙ is)
          | inr past ↦ (let inside = decision_within (es ++ e ∷ []) j is in
              let last : j ≡ length es = omega arith in
              let chosen : e.reason ≡ Decision = ap (λ (f : Entry). f.reason) (sym (entry_last es e j last)) ∙ is in
              let some = choice chosen in
              let low = some.1 in
              (some.0, omega arith))
        ];
        proved = s.proved;
      })

  -- a literal of the trail more in the net
  pub net_pushed : (es : List Entry) (levels : List Level) (literals new : List Literal) (l : Literal) → new ≡ literals ++ l ∷ [] → IsSearch q own es levels literals → Stands es (length es) l → IsSearch q own es levels new
  net_pushed es levels literals new l grown s there =
      let count = length_push literals l in
      subst (IsSearch q own es levels) (sym grown) (record {
        trail = s.trail;
        over = s.over;
        lemmas = s.lemmas;
        net = All-push (Stands es (length es)) literals l s.net there;
        each = λ i lt. (let v = s.each i lt in
            let short = v.in_net in
            record {
              on_trail = v.on_trail;
              in_net = omega arith;
              stand = subst (AllStand es (start_of levels i)) (sym (take-append-le (in_net_of levels i) literals (l ∷ []) v.in_net)) v.stand;
            });
        starts = s.starts;
        in_nets = s.in_nets;
        rooted = s.rooted;
        proved = s.proved;
      })

  -- or it closes a cycle with the net's
  pub net_refused : (es : List Entry) (levels : List Level) (literals new cycle : List Literal) (l : Literal) → new ≡ literals → IsCycleAmong (literals ++ l ∷ []) cycle → IsSearch q own es levels literals → Stands es (length es) l → IsStuckSearch q own es levels new (OfCycle cycle)
  net_refused es levels literals new cycle l same among s there =
      let all : AllStand es (length es) (literals ++ l ∷ []) = All-push (Stands es (length es)) literals l s.net there in
      subst (λ (ls : List Literal). IsStuckSearch q own es levels ls (OfCycle cycle)) (sym same) (record {
        state = s;
        clash = (among.negative, λ p lt. standing (literals ++ l ∷ []) (literal_at cycle p) all (among.given p no_literal lt));
      })
    where
      standing : (ls : List Literal) (m : Literal) → AllStand es (length es) ls → Contains ls m → Stands es (length es) m
      standing ls m all h = subst (Stands es (length es)) h.2 (all h.0 m h.1)

  pub added_by : (others : ℕ) (es : List Entry) (levels : List Level) (literals new : List Literal) (l : Literal) (added : Added) → IsAdded others literals l new added → added ≡ Yes → IsSearch q own es levels literals → Stands es (length es) l → IsSearch q own es levels new
  added_by others es levels literals new l added adds is s there =
      let yes : IsAdded others literals l new Yes = subst (IsAdded others literals l new) is adds in
      net_pushed es levels literals new l yes.0 s there

  pub refused_by : (others : ℕ) (es : List Entry) (levels : List Level) (literals new cycle : List Literal) (l : Literal) (added : Added) → IsAdded others literals l new added → added ≡ Refused cycle → IsSearch q own es levels literals → Stands es (length es) l → IsStuckSearch q own es levels new (OfCycle cycle)
  refused_by others es levels literals new cycle l added adds is s there =
      let no : IsAdded others literals l new (Refused cycle) = subst (IsAdded others literals l new) is adds in
      net_refused es levels literals new cycle l no.0 no.1 s there

  -- back to before a decision
  pub state_cut : (es now : List Entry) (levels fewer : List Level) (literals left : List Literal) (level : ℕ) → level < length levels → IsSearch q own es levels literals → now ≡ take (start_of levels level) es → fewer ≡ take level levels → left ≡ take (in_net_of levels level) literals → IsSearch q own now fewer left
  state_cut es now levels fewer literals left level lt s is_now is_fewer is_left =
      let n = start_of levels level in
      let m = in_net_of levels level in
      let here = s.each level lt in
      let n_in = here.on_trail in
      let m_in = here.in_net in
      let count_es : length (take n es) ≡ n = length-take-le n es n_in in
      let count_ls : length (take m literals) ≡ m = length-take-le m literals m_in in
      let count_levels : length (take level levels) ≡ level = length-take-le level levels (omega arith) in
      let P : ℕ → Type 0 = λ k. AllStand (take n es) k (take m literals) in
      let search : IsSearch q own (take n es) (take level levels) (take m literals) = record {
        trail = trail_take q.problem.clauses (all_lemmas q.handed own) q.cube es n s.trail;
        over = over_take q.problem.points es n s.over;
        lemmas = s.lemmas;
        net = subst P (sym count_es) (all_take es n n (take m literals) (omega arith) here.stand);
        each = λ i less. (let below : i < level = omega arith in
            let v = s.each i (omega arith) in
            let a = s.starts i level (omega arith) lt in
            let b = s.in_nets i level (omega arith) lt in
            let made : IsLevel (take n es) (take m literals) (level_at levels i) = record {
              on_trail = omega arith;
              in_net = omega arith;
              stand = subst (AllStand (take n es) (start_of levels i)) (sym (take-take (in_net_of levels i) m literals b)) (all_take es n (start_of levels i) (take (in_net_of levels i) literals) a v.stand);
            } in
            subst (IsLevel (take n es) (take m literals)) (sym (level_taken levels level i below)) made);
        starts = λ i j le less. (let b = s.starts i j le (omega arith) in
            let x = ap (λ (v : Level). v.start) (level_taken levels level i (omega arith)) in
            let y = ap (λ (v : Level). v.start) (level_taken levels level j (omega arith)) in
            omega arith);
        in_nets = λ i j le less. (let b = s.in_nets i j le (omega arith) in
            let x = ap (λ (v : Level). v.in_net) (level_taken levels level i (omega arith)) in
            let y = ap (λ (v : Level). v.in_net) (level_taken levels level j (omega arith)) in
            omega arith);
        rooted = λ j is. (let d : Entry = record { literal = no_literal; number = 0; reason = Given } in
            let inside = decision_within (take n es) j is in
            let below : j < n = omega arith in
            let was : (entry_at es j).reason ≡ Decision = ap (λ (f : Entry). f.reason) (sym (get_or-take n es j d below)) ∙ is in
            let root = s.rooted j was in
            let low = s.starts 0 level (omega arith) lt in
            let first = root.1 in
            elim (cases_eq level 0) [
              | inl zero_ ↦ (let same : start_of levels 0 ≡ n = ap (λ (i : ℕ). start_of levels i) (sym zero_) in absurd (omega arith))
              | inr some ↦ (let x = ap (λ (v : Level). v.start) (level_taken levels level 0 (omega arith)) in (omega arith, omega arith))
            ]);
        proved = s.proved;
      } in
      subst (λ (fs : List Entry). IsSearch q own fs fewer left) (sym is_now)
      (subst (λ (vs : List Level). IsSearch q own (take n es) vs left) (sym is_fewer)
      (subst (λ (ls : List Literal). IsSearch q own (take n es) (take level levels) ls) (sym is_left) search))

  -- a decision is to come
  pub state_begun : (es : List Entry) (levels more : List Level) (literals : List Literal) → IsSearch q own es levels literals → more ≡ levels ++ record { start = length es; in_net = length literals } ∷ [] → IsSearch q own es more literals × (0 < length more) × (start_of more 0 ≤ length es)
  state_begun es levels more literals s is =
      let v : Level = record { start = length es; in_net = length literals } in
      let count = length_push levels v in
      let all : AllStand es (length es) (take (length literals) literals) = subst (AllStand es (length es)) (sym (take_all (length literals) literals (omega arith))) s.net in
      let last : IsLevel es literals v = record { on_trail = omega arith; in_net = omega arith; stand = all } in
      let every : (i : ℕ) → i < length (levels ++ v ∷ []) → IsLevel es literals (level_at (levels ++ v ∷ []) i) = λ i lt. elim (cases_lt i (length levels)) [
        | inl less ↦ subst (IsLevel es literals) (sym (level_left levels v i less)) (s.each i less)
        | inr past ↦ subst (IsLevel es literals) (sym (level_last levels v i (omega arith))) last
      ] in
      let first = every 0 (omega arith) in
      let low = first.on_trail in
      let search : IsSearch q own es (levels ++ v ∷ []) literals = record {
        trail = s.trail;
        over = s.over;
        lemmas = s.lemmas;
        net = s.net;
        each = every;
        starts = λ i j le lt. elim (cases_lt j (length levels)) [
          | inl less ↦ (let a = ap (λ (w : Level). w.start) (level_left levels v i (omega arith)) in
              let b = ap (λ (w : Level). w.start) (level_left levels v j less) in
              let h = s.starts i j le less in
              omega arith)
          | inr past ↦ (let b = ap (λ (w : Level). w.start) (level_last levels v j (omega arith)) in
              let h = every i (omega arith) in
              let below = h.on_trail in
              omega arith)
        ];
        in_nets = λ i j le lt. elim (cases_lt j (length levels)) [
          | inl less ↦ (let a = ap (λ (w : Level). w.in_net) (level_left levels v i (omega arith)) in
              let b = ap (λ (w : Level). w.in_net) (level_left levels v j less) in
              let h = s.in_nets i j le less in
              omega arith)
          | inr past ↦ (let b = ap (λ (w : Level). w.in_net) (level_last levels v j (omega arith)) in
              let h = every i (omega arith) in
              let below = h.in_net in
              omega arith)
        ];
        rooted = λ j is_chosen. (let h = s.rooted j is_chosen in
            let some = h.0 in
            let bound = h.1 in
            let a = ap (λ (w : Level). w.start) (level_left levels v 0 some) in
            (omega arith, omega arith));
        proved = s.proved;
      } in
      subst (λ (vs : List Level). IsSearch q own es vs literals × (0 < length vs) × (start_of vs 0 ≤ length es)) (sym is) (search, omega arith, low)

-- a lemma more
pub lemma_last : (own : List Lemma) (lemma : Lemma) → slice_get (own ++ lemma ∷ []) (length own) ≡ Some lemma
lemma_last [] lemma = refl
lemma_last (l ∷ own) lemma = lemma_last own lemma

proved_push : (q : Question) (own : List Lemma) (lemma : Lemma) → AreProved q own → IsProved q.problem.points q.problem.clauses (all_lemmas q.handed own) lemma → AreProved q (own ++ lemma ∷ [])
proved_push q own lemma before new =
    (joined q.problem.points q.problem.clauses q.handed own (lemma ∷ []) before.0 (new.refuted, tt), All-push (LemmaIsOver q.problem.points) own lemma before.1 new.over)

pub state_learned : (q : Question) (own : List Lemma) (lemma : Lemma) (es : List Entry) (levels : List Level) (literals : List Literal) → IsSearch q own es levels literals → IsProved q.problem.points q.problem.clauses (all_lemmas q.handed own) lemma → IsSearch q (own ++ lemma ∷ []) es levels literals
state_learned q own lemma es levels literals s r =
    let more = sym (all_more q.handed own lemma) in
    record {
      trail = subst (λ (ls : List (List Literal)). IsTrail q.problem.clauses ls q.cube es) more (trail_later q.problem.clauses (all_lemmas q.handed own) (lemma.clause ∷ []) q.cube es s.trail);
      over = s.over;
      lemmas = subst (All (IsClauseOver q.problem.points)) more (All-push (IsClauseOver q.problem.points) (all_lemmas q.handed own) lemma.clause s.lemmas r.over.clause);
      net = s.net;
      each = s.each;
      starts = s.starts;
      in_nets = s.in_nets;
      rooted = s.rooted;
      proved = proved_push q own lemma s.proved r;
    }
