-- What the parts of an analysis come to.
use Rattle.std.proofs.Common.{◌≡◌, ℕ, List, length, All, get_or, Bool, subst, sym}
use Rattle.stn_core.specs.declared.literal.Literal.{Literal}
use Rattle.stn_core.specs.Literal.{IsOver}
use Rattle.stn_core.proofs.Consequences.{IsOver-negation_of}
use Rattle.refute_tree.specs.declared.step.Step.{Step}
use Rattle.refute_tree.specs.Trees.{IsOnPoints, literals_named}
use Rattle.refute_tree.specs.Batches.{NamesOver}
use Rattle.conflict_analysis.specs.Proved.{IsProved}
use Rattle.conflict_analysis.specs.declared.entry.Entry.{Entry}
use Rattle.conflict_analysis.specs.declared.entry.Conflict.{Conflict}
use Rattle.conflict_analysis.specs.declared.entry.Role.{Role}
use Rattle.conflict_analysis.specs.code.Trails.{on_trail, IsConflict, StandsUsed, IsMarked, KeepsAll, DeniesKept, AreOver, IsDenial}
use Rattle.conflict_analysis.specs.code.Spines.{NamesTrail, Refutes}
use Rattle.conflict_analysis.proofs.Marks.{conflict_still, denials_of}

-- the literals of the clause and of the steps are within the limits
module _ (points : ℕ) (trail : List Entry) (over : AreOver points trail) where
  on_points : (l : Literal) → IsOver points l → IsOnPoints points l
  on_points l o = record { x_in = o.x_in; y_in = o.y_in }

  all_on : (ls : List Literal) → All (IsOver points) ls → All (IsOnPoints points) ls
  all_on ls all k d lt = on_points (get_or ls k d) (all k d lt)

  denial_over : (roles : List Role) (m : Literal) → DeniesKept trail roles m → IsOver points m
  denial_over roles m d = subst (IsOver points) (sym d.3) (IsOver-negation_of points (on_trail trail d.0) (over d.0 d.1))

  names_over : (step : Step) → NamesTrail trail step → NamesOver points step
  names_over step names k d lt = let at = names k d lt in subst (IsOver points) at.2 (over at.0 at.1)

-- the learned clause with its steps is a lemma that may be delivered
learned : (points : ℕ) (inputs lemmas : List (List Literal)) (trail : List Entry) (roles : List Role) (clause : List Literal) (steps : List Step) → AreOver points trail → KeepsAll trail roles (length trail) clause → All (DeniesKept trail roles) clause → Refutes inputs lemmas trail roles steps → IsProved points inputs lemmas (record { clause = clause; steps = steps })
learned points inputs lemmas trail roles clause steps over keeps denies refutes =
    let clause_over : All (IsOver points) clause = λ k d lt. denial_over points trail over roles (get_or clause k d) (denies k d lt) in
    let within : All (NamesOver points) steps = λ k d lt. names_over points trail over (get_or steps k d) (refutes.names k d lt) in
    record {
      refuted = record {
        clause = all_on points trail over clause clause_over;
        steps = λ k d lt. all_on points trail over (literals_named (get_or steps k d)) (within k d lt);
        tree = refutes.tree clause keeps;
      };
      over = record { clause = clause_over; steps = within };
    }

-- what is used stands on the trail
pub used_conflict : (inputs lemmas : List (List Literal)) (trail : List Entry) (whole : Bool) (mid roles : List Role) (conflict : Conflict) → IsMarked inputs lemmas trail whole 0 mid roles → IsConflict inputs lemmas (StandsUsed trail mid (length trail)) conflict → IsConflict inputs lemmas (StandsUsed trail roles (length trail)) conflict
used_conflict inputs lemmas trail whole mid roles conflict marked h = conflict_still inputs lemmas trail mid roles (length trail) conflict marked.used h

module _ (inputs lemmas : List (List Literal)) (trail : List Entry) (whole : Bool) (mid roles lent : List Role) (clause given : List Literal) (marked : IsMarked inputs lemmas trail whole 0 mid roles) (same : lent ≡ roles) (denies : All (DeniesKept trail lent) clause) (is : given ≡ clause) where
  pub learned_by : (points : ℕ) (other : List Role) (steps written : List Step) → AreOver points trail → other ≡ roles → KeepsAll trail lent (length trail) clause → Refutes inputs lemmas trail other steps → written ≡ steps → IsProved points inputs lemmas (record { clause = given; steps = written })
  learned_by points other steps written over again keeps refutes w =
      let R : List Step → Type 0 = Refutes inputs lemmas trail roles in
      let all : IsProved points inputs lemmas (record { clause = clause; steps = written }) =
      learned points inputs lemmas trail roles clause written over (subst (λ (rs : List Role). KeepsAll trail rs (length trail) clause) same keeps) (subst (λ (rs : List Role). All (DeniesKept trail rs) clause) same denies) (subst R (sym w) (subst (λ (rs : List Role). Refutes inputs lemmas trail rs steps) again refutes)) in
      subst (λ (ls : List Literal). IsProved points inputs lemmas (record { clause = ls; steps = written })) (sym is) all

  pub denials_by : All (IsDenial inputs lemmas trail whole) given
  denials_by = subst (All (IsDenial inputs lemmas trail whole)) (sym is) (denials_of inputs lemmas trail whole mid roles clause marked (subst (λ (rs : List Role). All (DeniesKept trail rs) clause) same denies))
