use Rattle.std.proofs.Common.{rules, ◌≡◌, min, length, arith, ◌∙◌, ap, w64}
use Rattle.std.specs.Prelude.{FitsSigned}
use Rattle.std.proofs.lemmas.Int.{to_z-of_z}
use Rattle.vmv_run.proofs.Frames.{no_args_yet, called_more, called_end}
use Rattle.vmv_run.proofs.frame.called_frame.Goals as goal

pub loop-i-init : goal.loop-i-init
loop-i-init c = no_args_yet c.args.frame.now c.args.args.now

pub loop-i-preserved : goal.loop-i-preserved
loop-i-preserved c =
    let fits : FitsSigned w64 c.value.result = search rules in
    called_more c.args.frame.now c.args.args.now c.loop-i.own c.loop-i.i _ _ (omega arith) (omega arith) (to_z-of_z w64 _ fits ∙ c.value.ensures) c.loop-i.invariant

pub returns : goal.returns
returns c =
    let few : c.min-i-end.result ≡ min (length c.args.args.now) (min c.args.params 255) = c.min-i-end.ensures ∙ ap (λ n. min (length c.args.args.now) n) c.min.ensures in
    called_end c.args.frame.now c.args.args.now c.loop-i.own c.loop-i.i c.args.params (omega arith) c.loop-i.invariant
