use Rattle.std.proofs.Common.{◌≡◌, ◌+◌, [], ◌∷◌, length, length-append, ap, arith}
use Rattle.vmv_text.specs.declared.flat.OpenBlock.TheVariants.{First, Other}
use Rattle.vmv_text.proofs.flat.counted.Goals as goal

pub returns-in-Nothing-clause-sizes : goal.returns-in-Nothing-clause-sizes
returns-in-Nothing-clause-sizes c = λ l s n h. rw c.in-Nothing.is (c.with_simple.ensures l s n h)

pub returns-in_ok-push-in-Choice-clause-sizes : goal.returns-in_ok-push-in-Choice-clause-sizes
returns-in_ok-push-in-Choice-clause-sizes c =
    let more = ap length c.in_ok-push-in-Choice.ensures.items in
    λ l s n h. rw c.in-Choice.is (c.with_choice.ensures l s n (length c.args.blocks.now.items + 1) h (omega (arith, more, c.len.ensures, length-append c.args.blocks.now.items (First ∷ []))))

pub returns-in_ok-push-in-Loop-clause-sizes : goal.returns-in_ok-push-in-Loop-clause-sizes
returns-in_ok-push-in-Loop-clause-sizes c =
    let more = ap length c.in_ok-push-in-Loop.ensures.items in
    λ l s n h. rw c.in-Loop.is (c.with_loop.ensures l s n (length c.args.blocks.now.items + 1) h (omega (arith, more, c.len-in-Loop.ensures, length-append c.args.blocks.now.items (Other ∷ []))))
