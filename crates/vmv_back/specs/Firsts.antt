-- Lists without repetitions.
use Rattle.std.specs.Prelude.{Bool, not, List, [], ◌∷◌, filter}

-- the first of each that are the same, in order
abbrev pub firsts : {A : Type 0} → (A → A → Bool) → List A → List A
firsts same [] = []
firsts same (x ∷ xs) = x ∷ filter (λ y. not (same x y)) (firsts same xs)
