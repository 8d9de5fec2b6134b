use Rattle.std.proofs.Common.{◌≡◌, ℕ, nat_lt, nat_le, ◌&&◌, arith, refl, length-set, subst, ◌∙◌}
use Rattle.vmv_back.specs.Facts.{slots_of}
use Rattle.vmv_back.proofs.Slots.{no_slot, one_slot_more}
use Rattle.vmv_back.proofs.fixed.parameters.Goals as goal

pub loop-slot-init : goal.loop-slot-init
loop-slot-init c = (refl, no_slot 256)

pub loop-slot-preserved : goal.loop-slot-preserved
loop-slot-preserved c =
    (length-set _ _ _ ∙ c.loop-slot.invariant.0, one_slot_more _ _ (omega (arith, c.loop-slot.invariant.0)) c.loop-slot.invariant.1)

pub returns : goal.returns
returns c =
    let same : c.loop-slot.slot ≡ c.args.count = omega arith in
    subst (λ (n : ℕ). (x : ℕ) → slots_of c.loop-slot.slots x ≡ (nat_lt 0 x && nat_le x n)) same c.loop-slot.invariant.1
