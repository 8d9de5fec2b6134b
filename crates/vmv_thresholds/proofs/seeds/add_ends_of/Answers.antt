use Rattle.std.proofs.Common.{◌≡◌, ◌↔◌, ◌⊎◌, ◌++◌, ℤ, List, ap, sym, subst, ◌∙◌}
use Rattle.std.specs.List.{Contains}
use Rattle.vmv_snapshot.specs.Resolution.{tree_of}
use Rattle.vmv_cert.specs.Thresholds.{ReachesOutside}
use Rattle.vmv_thresholds.proofs.Ends.{all_added}
use Rattle.vmv_thresholds.proofs.seeds.add_ends_of.Goals as goal

pub returns : goal.returns
returns c =
    let R = ReachesOutside (tree_of c.args.snapshot.now) c.args.entry.0 c.args.named.now.name in
    let added : c.extend_from_slice.new.self.items ≡ c.args.seeds.now.items ++ c.args.named.now.ends = c.in_ok-extend_from_slice.ensures.items ∙ ap (λ l. c.args.seeds.now.items ++ l) c.as_slice.ensures in
    subst (λ (l : List ℤ). (z : ℤ) → Contains l z ↔ (Contains c.args.seeds.now.items z ⊎ (R × Contains c.args.named.now.ends z))) (sym added)
    (all_added c.args.seeds.now.items R c.args.named.now.ends (c.reaches_outside.ensures.0 c.if-not-reaches_outside.false))
