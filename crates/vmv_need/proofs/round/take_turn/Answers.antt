use Rattle.std.proofs.Common.{subst, sym}
use Rattle.vmv_cond.specs.declared.cond.Cond.{Cond}
use Rattle.vmv_need.specs.Acts.{Meets}
use Rattle.vmv_need.proofs.Pushed.{no_turn}
use Rattle.vmv_need.proofs.round.take_turn.Goals as goal
use Rattle.vmv_need.proofs.round.take_turn.Goals.{else-acts-via-then-acts+else-meets, else-acts-via-else-acts}

pub returns-else-acts-clause-turn : goal.returns-else-acts-clause-turn
returns-else-acts-clause-turn c =
    no_turn _ _ _ _ _ (elim c.else-acts.branch [
      | else-acts-via-then-acts+else-meets w ↦ λ acts met. let t = w.meets.ensures.1 (subst (λ (d : Cond). Meets d c.args.candidate.now.piece) (sym w.get.ensures) met) in let f = w.if-meets.false in absurd (cc)
      | else-acts-via-else-acts w ↦ λ acts met. let f = w.if-acts.false in absurd (cc)
    ])
