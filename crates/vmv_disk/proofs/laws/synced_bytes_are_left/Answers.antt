use Rattle.std.proofs.Common.{◌≡◌, ℕ, ◌<◌, List, length, arith}
use Rattle.std.proofs.lemmas.Grind.{same_number_lists}
use Rattle.vmv_disk.specs.State.{MayLeave}
use Rattle.vmv_disk.specs.Effects.{synced_as}
use Rattle.vmv_disk.proofs.laws.synced_bytes_are_left.Goals as goal

is_synced : (bytes left : List ℕ) → MayLeave (synced_as bytes) left → left ≡ bytes
is_synced bytes left may =
    let same : length left ≡ length bytes = omega (arith, may.no_shorter, may.no_longer) in
    same_number_lists left bytes same (λ k lt. may.stay k (let below : k < length bytes = omega (arith, lt, same) in below) tt)

pub returns : goal.returns
returns c = is_synced
