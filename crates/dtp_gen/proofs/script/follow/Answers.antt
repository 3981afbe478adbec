use Rattle.std.proofs.Common.{◌≡◌, ℕ, ◌++◌, decimal, subst}
use Rattle.dtp_gen.specs.Scripts.{follows}
use Rattle.dtp_gen.proofs.Texts.{five}
use Rattle.dtp_gen.proofs.script.follow.Goals as goal

pub returns : goal.returns
unfolding follows
returns c =
    let P : ℕ → Type 0 = λ n. c.push_number.new.out.items ≡ c.push_str-2.new.self.items ++ decimal n in
    five _ _ _ _ _ _ _ _ _ _ _ c.in_ok-push_str.ensures.ok c.in_ok-push_difference.ensures c.in_ok-push_str-2.ensures.ok
    (subst P c.duration.ensures c.in_ok-push_number.ensures) c.in_ok-push_str-3.ensures.ok
