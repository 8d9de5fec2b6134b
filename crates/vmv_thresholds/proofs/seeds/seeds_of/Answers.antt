use Rattle.std.proofs.Common.{◌≡◌, ◌↔◌, ◌++◌, ◌∷◌, [], ◌-◌, ◌^◌, pos, negsuc, ℤ, List, sym, subst}
use Rattle.std.specs.List.{Contains}
use Rattle.vmv_snapshot.specs.Resolution.{tree_of}
use Rattle.vmv_cert.specs.Thresholds.{IsSeed}
use Rattle.vmv_thresholds.proofs.Ends.{seeds_told}
use Rattle.vmv_thresholds.proofs.seeds.seeds_of.Goals as goal

pub returns : goal.returns
returns c =
    let added : c.extend_from_slice.new.self.items ≡ c.add_ends.new.seeds.items ++ negsuc (2 ^ 63 - 1) ∷ pos (2 ^ 63 - 1) ∷ pos 0 ∷ pos 1 ∷ [] = c.in_ok-extend_from_slice.ensures.items in
    subst (λ (l : List ℤ). (z : ℤ) → Contains l z ↔ IsSeed (tree_of c.args.snapshot.now) c.args.entry.0 c.args.ends.now z) (sym added)
    (seeds_told (tree_of c.args.snapshot.now) c.args.entry.0 c.args.ends.now c.in_ok-seeds.seeds.items c.add_ends.new.seeds.items c.in_ok-seeds.ensures c.in_ok-add_ends.ensures)
