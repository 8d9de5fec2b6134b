use Rattle.std.proofs.Common.{◌≡◌, ap, sym, subst, ◌∙◌}
use Rattle.vmv_tree.specs.Tree.{Item}
use Rattle.vmv_snapshot.specs.Reaches.{ItemCalls}
use Rattle.vmv_snapshot.specs.Resolution.{procs_of}
use Rattle.vmv_thresholds.proofs.Placed.{item_at}
use Rattle.vmv_thresholds.proofs.Entries.{proc_there}
use Rattle.vmv_thresholds.proofs.calls.calls_from.Goals as goal

pub returns : goal.returns
returns c =
    let items : c.as_slice-items.result.now ≡ c.args.snapshot.now.program.items = c.as_slice-items.ensures ∙ ap (λ p. p.items) c.program.ensures.program in
    let at = item_at (procs_of c.args.snapshot.now) c.args.proc.0 c.requires.proc in
    let there = λ (item : Item). proc_there c.as_slice-items.result.now c.args.snapshot.now.program.items c.args.proc.0 c.place_of.result c.index-items-place_of.result item items c.place_of.ensures.place c.place_of.ensures.within c.index-items-place_of.is in (
      λ t. (at.0, c.reaches.ensures.0 c.if-not-reaches.false, at.1, subst (λ (x : Item). ItemCalls x c.args.name.now) (there at.0 at.1) (c.item_calls.ensures.0 t)),
      λ h. c.item_calls.ensures.1 (subst (λ (x : Item). ItemCalls x c.args.name.now) (sym (there h.0 h.2)) h.3),
    )
