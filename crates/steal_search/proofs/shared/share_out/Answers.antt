use Rattle.std.proofs.Common.{arith, ◌≡◌, ◌<◌, ◌∙◌, ◌++◌, List, ap, sym, subst, length, drop}
use Rattle.std.proofs.lemmas.List.{take_at}
use Rattle.steal_search.specs.declared.shared.Worker.{Worker}
use Rattle.steal_search.specs.code.Staff.{AreHanded, AreSeated}
use Rattle.steal_search.proofs.Staffing.{all_hands, newcomers}
use Rattle.steal_search.proofs.shared.share_out.Goals as goal

-- each hand is a newcomer of the pool
pub staff_of-requires-clause-hands : goal.staff_of-requires-clause-hands
staff_of-requires-clause-hands g c = newcomers c.in_ok-pool.pool c.args.workers c.in_ok-pool.hands.items c.in_ok-pool.ensures

-- the staff is as long as it was
pub gather-requires-clause-seats : goal.gather-requires-clause-seats
gather-requires-clause-seats g c =
    let count : length c.run_all.new.staff ≡ c.in_ok-staff.staff.len = omega (arith, c.run_all.ensures.count, c.as_mut_slice.ensures.len) in
    subst (λ (staff : List Worker). AreSeated c.args.desk.now staff)
    (sym (take_at c.run_all.new.staff (drop (length c.run_all.new.staff) c.in_ok-staff.staff.items) c.in_ok-staff.staff.len count))
    c.run_all.ensures.seats

pub gather-requires-clause-hands : goal.gather-requires-clause-hands
gather-requires-clause-hands g c =
    let count : length c.run_all.new.staff ≡ c.in_ok-staff.staff.len = omega (arith, c.run_all.ensures.count, c.as_mut_slice.ensures.len) in
    subst (λ (staff : List Worker). AreHanded c.in_ok-pool.pool staff)
    (sym (take_at c.run_all.new.staff (drop (length c.run_all.new.staff) c.in_ok-staff.staff.items) c.in_ok-staff.staff.len count))
    c.run_all.ensures.hands

-- all hands came back
pub close-requires : goal.close-requires
close-requires g c = all_hands _ _ c.in_ok-gather.ensures.hands
