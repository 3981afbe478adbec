use Rattle.std.proofs.Common.{◌≤◌, ◌*◌, subst, List, ℕ, length, All}
use Rattle.better_schedules.specs.code.Heights.{IsApart, IsSetUpTo}
use Rattle.better_schedules.proofs.Gaps.{free_set}
use Rattle.better_schedules.proofs.unbounded.unbounded_set.Goals as goal

pub returns : goal.returns
returns c =
    let heights : List ℕ = c.in_ok-heights.heights.items in
    let t : ℕ = c.in_ok-limit.limit in
    let w : ℕ = c.width.result in
    let near : t ≤ length heights * w = subst (λ (hs : List ℕ). t ≤ length hs * w) c.deref.ensures.value c.in_ok-limit.ensures.near in
    let apart : All (IsApart t w) heights = subst (All (IsApart t w)) c.deref.ensures.value c.in_ok-limit.ensures.apart in
    let up_to : IsSetUpTo heights t c.in_ok-set.set.items = subst (λ (hs : List ℕ). IsSetUpTo hs t c.in_ok-set.set.items) c.deref-2.ensures.value c.in_ok-set.ensures.set in
    free_set c.args.problem.now c.args.values.now heights c.in_ok-set.set.items c.args.x c.args.y t w c.requires.count c.requires.x_in c.requires.y_in c.in_ok-heights.ensures apart c.width.ensures up_to c.requires.holds near c.requires.low c.in_ok-set.ensures.ascending
