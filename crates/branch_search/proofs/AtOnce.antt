-- Many of the trail's literals that go into the net, over plain lists.
use Rattle.std.proofs.Common.{arith, ◌≡◌, ℕ, ◌<◌, ◌≤◌, List, [], ◌∷◌, ◌++◌, length, take, get_or, All, Contains, Option, Some, None, subst, sym, ap, ◌∙◌}
use Rattle.std.proofs.lemmas.List.{length-take, take-take}
use Rattle.std.proofs.lemmas.List.Elements.{All-append, All-push}
use Rattle.stn_core.specs.declared.literal.Literal.{Literal}
use Rattle.stn_core.specs.Literal.{IsOver, literal_at}
use Rattle.refute_tree.specs.declared.lemma.Lemma.{Lemma}
use Rattle.net_batch.specs.Batches.{IsLonger, IsBatchAdded}
use Rattle.conflict_analysis.specs.declared.entry.Entry.{Entry}
use Rattle.conflict_analysis.specs.declared.entry.Level.{Level}
use Rattle.conflict_analysis.specs.declared.entry.Conflict.TheVariants.{Cycle as OfCycle}
use Rattle.conflict_analysis.specs.code.Trails.{no_literal, on_trail, AreOver, Stands}
use Rattle.branch_search.specs.code.Search.{start_of, in_net_of, AllStand, IsSearch, IsStuckSearch}
use Rattle.branch_search.specs.Slices.{Question}
use Rattle.branch_search.proofs.Proposals.{stands_at}

-- one more of the trail's
pub waiting_more : (es seen : List Entry) (k : ℕ) (l : Literal) (old new : List Literal) → new ≡ old ++ l ∷ [] → seen ≡ es → k < length es → l ≡ on_trail seen k → AllStand es (length es) old → AllStand es (length es) new
waiting_more es seen k l old new grown same lt is all =
    subst (AllStand es (length es)) (sym grown) (All-push (Stands es (length es)) old l all (stands_at es seen k l same lt is))

pub waiting_over : (points count : ℕ) (es : List Entry) (batch : List Literal) → count ≡ points → AreOver points es → AllStand es (length es) batch → All (IsOver count) batch
waiting_over points count es batch same over all p d lt =
    let s = all p d lt in
    subst (λ (n : ℕ). IsOver n (get_or batch p d)) (sym same) (subst (IsOver points) s.2 (over s.0 s.1))

-- what stands there as a list does so one by one
each_of : (es : List Entry) (ls : List Literal) (m : Literal) → AllStand es (length es) ls → Contains ls m → Stands es (length es) m
each_of es ls m all h = subst (Stands es (length es)) h.2 (all h.0 m h.1)

longer_count : (old new : List Literal) → take (length old) new ≡ old → length old ≤ length new
longer_count old new front =
    let part = length-take (length old) new in
    let same : length (take (length old) new) ≡ length old = ap (length {A = Literal}) front in
    omega arith

module _ (q : Question) (own : List Lemma) (es : List Entry) (levels : List Level) (literals batch new : List Literal) (s : IsSearch q own es levels literals) (all : AllStand es (length es) batch) where
  both_stand : AllStand es (length es) (literals ++ batch)
  both_stand = All-append (Stands es (length es)) literals batch s.net all

  all_added : IsLonger literals batch new → IsSearch q own es levels new
  all_added h =
      let count = longer_count literals new h.front in
      record {
        trail = s.trail;
        over = s.over;
        lemmas = s.lemmas;
        net = λ p d lt. each_of es (literals ++ batch) (get_or new p d) both_stand (h.among p d lt);
        each = λ i lt. (let v = s.each i lt in
            let short = v.in_net in
            let same : take (in_net_of levels i) new ≡ take (in_net_of levels i) literals = sym (take-take (in_net_of levels i) (length literals) new v.in_net) ∙ ap (λ (ls : List Literal). take (in_net_of levels i) ls) h.front in
            record {
              on_trail = v.on_trail;
              in_net = omega arith;
              stand = subst (AllStand es (start_of levels i)) (sym same) v.stand;
            });
        starts = s.starts;
        in_nets = s.in_nets;
        rooted = s.rooted;
        proved = s.proved;
      }

  pub batch_added : (found : Option (List Literal)) → found ≡ None → IsBatchAdded literals batch new found → IsSearch q own es levels new
  batch_added found is h =
      let none : IsBatchAdded literals batch new None = subst (IsBatchAdded literals batch new) is h in
      all_added none.0

  pub batch_refused : (found : Option (List Literal)) (cycle : List Literal) → found ≡ Some cycle → IsBatchAdded literals batch new found → IsStuckSearch q own es levels new (OfCycle cycle)
  batch_refused found cycle is h =
      let some : IsBatchAdded literals batch new (Some cycle) = subst (IsBatchAdded literals batch new) is h in
      let among = some.1 in
      subst (λ (ls : List Literal). IsStuckSearch q own es levels ls (OfCycle cycle)) (sym some.0) (record {
        state = s;
        clash = (among.negative, λ p lt. each_of es (literals ++ batch) (literal_at cycle p) both_stand (among.given p no_literal lt));
      })
