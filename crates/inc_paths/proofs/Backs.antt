-- The walk back along the trail.
use Rattle.std.proofs.Common.{arith, refl, subst, ◌≡◌, ℕ, suc, ◌<◌, ◌≤◌, ◌-◌, List, [], ◌∷◌, ◌++◌, length, All, Contains, ℤ, ◌+ℤ◌, ◌<ℤ◌}
use Rattle.std.proofs.lemmas.Int.{ints}
use Rattle.std.proofs.lemmas.List.{length_push}
use Rattle.std.proofs.lemmas.List.Elements.{All-push}
use Rattle.stn_core.specs.declared.literal.Literal.{Literal}
use Rattle.stn_core.specs.Answer.{IsCycleAmong}
use Rattle.stn_core.specs.Cycle.{Leads, weight_of}
use Rattle.stn_core.proofs.Walks.{Leads-push}
use Rattle.stn_core.proofs.Cycles.{weight_of-push}
use Rattle.inc_paths.specs.declared.labels.Lowering.{Lowering}
use Rattle.inc_paths.specs.code.Trails.{Labelled, entry_at, point_of, level_of}
use Rattle.inc_paths.specs.code.Work.{AreTraced}

pub record IsBack (ls : List Literal) (labels : Labelled) (source : ℕ) (base : ℤ) (walk : List Literal) (number : ℕ) : Type 0 where
  pub high : number ≤ length labels.trail
  pub low : 0 < number → labels.start < number
  pub some : 0 < length walk
  pub leads : Leads source walk (point_of labels.trail source number)
  pub lower : (level_of labels.trail base number +ℤ weight_of walk) <ℤ base
  pub given : All (Contains ls) walk

back_step : (ls : List Literal) (labels : Labelled) (source : ℕ) (base : ℤ) (walk : List Literal) (place : ℕ) → AreTraced ls source base labels → IsBack ls labels source base walk (suc place) → IsBack ls labels source base (walk ++ (entry_at labels.trail place).literal ∷ []) (entry_at labels.trail place).parent
back_step ls labels source base walk place traced b =
    let high = b.high in
    let low = b.low (omega arith) in
    let entry : Lowering = entry_at labels.trail place in
    let t = traced place (omega arith) (omega arith) in
    let t_high = t.high in
    let size = length_push walk entry.literal in
    let sum = weight_of-push walk entry.literal in
    let below = b.lower in
    let now = t.now_is in
    record {
      high = omega arith;
      low = t.low;
      some = omega arith;
      leads = subst (Leads source (walk ++ entry.literal ∷ [])) t.y_is (Leads-push source walk entry.literal.x entry.literal b.leads refl);
      lower = omega (arith, ints, sum, below, now);
      given = All-push (Contains ls) walk entry.literal b.given t.given;
    }

pub back_more : (ls : List Literal) (labels : Labelled) (source : ℕ) (base : ℤ) (walk : List Literal) (number : ℕ) → AreTraced ls source base labels → IsBack ls labels source base walk number → 0 < number → IsBack ls labels source base (walk ++ (entry_at labels.trail (number - 1)).literal ∷ []) (entry_at labels.trail (number - 1)).parent
back_more ls labels source base walk number traced b some =
    let e : number ≡ suc (number - 1) = omega arith in
    back_step ls labels source base walk (number - 1) traced (subst (IsBack ls labels source base walk) e b)

pub back_done : (ls : List Literal) (labels : Labelled) (source : ℕ) (base : ℤ) (walk : List Literal) → IsBack ls labels source base walk 0 → IsCycleAmong ls walk
back_done ls labels source base walk b =
    let below = b.lower in
    record {
      negative = record { some = b.some; closed = (source, b.leads); negative = omega (arith, ints, below) };
      given = b.given;
    }
