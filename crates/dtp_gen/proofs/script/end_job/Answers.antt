use Rattle.std.proofs.Common.{◌≡◌, ℕ, ◌-◌, ◌++◌, decimal, subst}
use Rattle.dtp_gen.specs.Scripts.{end, ends}
use Rattle.dtp_gen.proofs.Texts.{five}
use Rattle.dtp_gen.proofs.script.end_job.Goals as goal

pub returns : goal.returns
unfolding ends
returns c =
    let P : ℕ → Type 0 =
    λ n. c.push_end.new.out.items ≡ c.push_str.new.self.items ++ end c.args.shop.now c.args.job (n - 1) in
    let Q : ℕ → Type 0 = λ n. c.push_number.new.out.items ≡ c.push_str-2.new.self.items ++ decimal n in
    five _ _ _ _ _ _ _ _ _ _ _ c.in_ok-push_str.ensures.ok (subst P c.machines.ensures.count c.in_ok-push_end.ensures)
    c.in_ok-push_str-2.ensures.ok (subst Q c.deadline.ensures c.in_ok-push_number.ensures) c.in_ok-push_str-3.ensures.ok
