-- How many bounds are named.
use Rattle.std.proofs.Common.{◌≡◌, ℕ, suc, ◌+◌, length, ap, arith, length-append}
use Rattle.vmv_zone.specs.declared.zone.Zone.{Zone}
use Rattle.vmv_zone.specs.Zone.{vars_of}
use Rattle.vmv_proof_text.specs.States.{named_bound, bounds_of_thing, bounds_of_things}

pub thing_more : (z : Zone) (i j n m : ℕ) → n ≡ length (bounds_of_thing z i j) → m ≡ length (named_bound z i j) → n + m ≡ length (bounds_of_thing z i (j + 1))
thing_more z i j n m e f =
    let next : j + 1 ≡ suc j = omega arith in
    omega (arith, e, f, length-append (bounds_of_thing z i j) (named_bound z i j), ap (λ k. length (bounds_of_thing z i k)) next)

pub things_more : (z : Zone) (i n m : ℕ) → n ≡ length (bounds_of_things z i) → m ≡ length (bounds_of_thing z i (vars_of z + 1)) → n + m ≡ length (bounds_of_things z (i + 1))
things_more z i n m e f =
    let next : i + 1 ≡ suc i = omega arith in
    omega (arith, e, f, length-append (bounds_of_things z i) (bounds_of_thing z i (vars_of z + 1)), ap (λ k. length (bounds_of_things z k)) next)
