-- Lists in order, number by number.
use Rattle.std.proofs.Common.{zero, suc, ℤ, ◌≤ℤ◌, List, [], ◌∷◌, get_or, arith}
use Rattle.std.proofs.lemmas.Int.{ints}
use Rattle.vmv_zone.specs.Round.{AreSorted}

pub sorted_one : (x : ℤ) → AreSorted (x ∷ [])
sorted_one x zero zero d h k = omega (arith, ints)
sorted_one x zero (suc j) d h k = absurd (omega arith)
sorted_one x (suc i) zero d h k = absurd (omega arith)
sorted_one x (suc i) (suc j) d h k = absurd (omega arith)

pub sorted_more : (x y : ℤ) (xs : List ℤ) → x ≤ℤ y → AreSorted (y ∷ xs) → AreSorted (x ∷ (y ∷ xs))
sorted_more x y xs less rest zero zero d h k = omega (arith, ints)
sorted_more x y xs less rest zero (suc j) d h k = let r : y ≤ℤ get_or (y ∷ xs) j d = rest zero j d (omega arith) (omega arith) in omega (arith, ints)
sorted_more x y xs less rest (suc i) zero d h k = absurd (omega arith)
sorted_more x y xs less rest (suc i) (suc j) d h k = rest i j d (omega arith) (omega arith)
