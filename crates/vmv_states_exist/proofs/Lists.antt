-- The pointwise greater of two lists of bounds, the marks of both of two lists, and how much lists weigh.
use Rattle.std.proofs.Common.{◌≡◌, ◌⊎◌, ◌&&◌, ℕ, zero, suc, ◌+◌, ◌*◌, ◌-◌, ◌^◌, ◌≤◌, ℤ, pos, negsuc, ◌≤ℤ◌, ◌<ℤ◌, List, [], ◌∷◌, get_or, length, Bool, true, false, IsTrue, arith, rules, inl, ⊎_elim, ap, refl}
use Rattle.std.specs.Int.{int_max}
use Rattle.std.proofs.lemmas.Int.{ints, clamps}
use Rattle.vmv_zone.specs.Bounds.{AreInReach, IsMarkedIn, height, weight}
use Rattle.vmv_zone.proofs.Places.{height_lower}

pub lt_cases : (a b : ℤ) → (a <ℤ b) ⊎ (b ≤ℤ a)
lt_cases a b = grind (arith, ints)

-- m is the greater of a and b
pub record IsMax (a b m : ℤ) : Type 0 where
  pub left : a ≤ℤ m
  pub right : b ≤ℤ m
  pub is : (m ≡ a) ⊎ (m ≡ b)

max_is : (a b : ℤ) → IsMax a b (int_max a b)
max_is a b = record { left = omega (arith, ints, clamps); right = omega (arith, ints, clamps); is = grind (arith, ints) }

-- the greater number at each place
pub highest : List ℤ → List ℤ → List ℤ
highest [] ys = []
highest (x ∷ xs) [] = []
highest (x ∷ xs) (y ∷ ys) = int_max x y ∷ highest xs ys

pub highest_length : (xs ys : List ℤ) → length xs ≡ length ys → length (highest xs ys) ≡ length xs
unfolding highest
highest_length [] ys e = refl
highest_length (x ∷ xs) [] e = absurd (omega arith)
highest_length (x ∷ xs) (y ∷ ys) e = ap suc (highest_length xs ys (omega arith))

pub highest_at : (xs ys : List ℤ) (k : ℕ) → length xs ≡ length ys → IsMax (get_or xs k (pos 0)) (get_or ys k (pos 0)) (get_or (highest xs ys) k (pos 0))
unfolding highest
highest_at [] [] k e = record { left = omega (arith, ints); right = omega (arith, ints); is = inl refl }
highest_at [] (y ∷ ys) k e = absurd (omega arith)
highest_at (x ∷ xs) [] k e = absurd (omega arith)
highest_at (x ∷ xs) (y ∷ ys) zero e = max_is x y
highest_at (x ∷ xs) (y ∷ ys) (suc k) e = highest_at xs ys k (omega arith)

-- the marks that both lists have
pub common : List Bool → List Bool → List Bool
common [] ys = []
common (x ∷ xs) [] = []
common (x ∷ xs) (y ∷ ys) = (x && y) ∷ common xs ys

pub common_length : (xs ys : List Bool) → length xs ≡ length ys → length (common xs ys) ≡ length xs
unfolding common
common_length [] ys e = refl
common_length (x ∷ xs) [] e = absurd (omega arith)
common_length (x ∷ xs) (y ∷ ys) e = ap suc (common_length xs ys (omega arith))

-- m tells both a and b
pub record IsBoth (a b m : Bool) : Type 0 where
  pub left : IsTrue m → IsTrue a
  pub right : IsTrue m → IsTrue b
  pub both : IsTrue a → IsTrue b → IsTrue m

pub both_is : (a b : Bool) → IsBoth a b (a && b)
both_is true b = record { left = λ t. search rules; right = λ t. t; both = λ t u. u }
both_is false b = record { left = λ t. t; right = λ t. absurd (search rules); both = λ t u. t }

pub common_at : (xs ys : List Bool) (k : ℕ) → length xs ≡ length ys → IsBoth (get_or xs k false) (get_or ys k false) (get_or (common xs ys) k false)
unfolding common
common_at [] [] k e = record { left = λ t. t; right = λ t. t; both = λ t u. t }
common_at [] (y ∷ ys) k e = absurd (omega arith)
common_at (x ∷ xs) [] k e = absurd (omega arith)
common_at (x ∷ xs) (y ∷ ys) zero e = both_is x y
common_at (x ∷ xs) (y ∷ ys) (suc k) e = common_at xs ys k (omega arith)

-- heights
height_most : (a : ℤ) → a ≤ℤ pos (2 ^ 64 - 1) → height a ≤ 2 ^ 65
height_most (pos a) high = omega (arith, ints)
height_most (negsuc a) high = omega (arith, ints)

height_at_most : (a b : ℤ) → negsuc (2 ^ 64 - 1) ≤ℤ a → a ≤ℤ b → height a ≤ height b
height_at_most a b low most = ⊎_elim (λ (less : a <ℤ b). let h = height_lower a b low less in omega arith)
    (λ (same : b ≤ℤ a). let e : a ≡ b = omega (arith, ints) in let h = ap height e in omega arith)
    (lt_cases a b)

-- a list of bounds in reach weighs no more than so much for each
pub weight_most : (bs : List ℤ) → AreInReach bs → weight bs ≤ length bs * 2 ^ 65
weight_most [] reach = omega arith
weight_most (b ∷ bs) reach =
    let one = height_most b (reach 0).high in
    let rest = weight_most bs (λ k. reach (suc k)) in
    let all : height b + weight bs ≤ suc (length bs) * 2 ^ 65 = omega arith in
    all

-- a list whose bounds are as high weighs as much
pub weight_more : (xs ys : List ℤ) → length xs ≡ length ys → AreInReach xs → ((k : ℕ) → get_or xs k (pos 0) ≤ℤ get_or ys k (pos 0)) → weight xs ≤ weight ys
weight_more [] ys e reach up = omega arith
weight_more (x ∷ xs) [] e reach up = absurd (omega arith)
weight_more (x ∷ xs) (y ∷ ys) e reach up =
    let one = height_at_most x y (reach 0).low (up 0) in
    let rest = weight_more xs ys (omega arith) (λ k. reach (suc k)) (λ k. up (suc k)) in
    let all : height x + weight xs ≤ height y + weight ys = omega arith in
    all

-- where it weighs no more, no bound of it is higher
pub weight_same : (xs ys : List ℤ) → length xs ≡ length ys → AreInReach xs → ((k : ℕ) → get_or xs k (pos 0) ≤ℤ get_or ys k (pos 0)) → weight ys ≤ weight xs →
    (k : ℕ) → get_or ys k (pos 0) ≤ℤ get_or xs k (pos 0)
weight_same [] [] e reach up most k = omega (arith, ints)
weight_same [] (y ∷ ys) e reach up most k = absurd (omega arith)
weight_same (x ∷ xs) [] e reach up most k = absurd (omega arith)
weight_same (x ∷ xs) (y ∷ ys) e reach up most zero =
    let most' : height y + weight ys ≤ height x + weight xs = most in
    let rest = weight_more xs ys (omega arith) (λ k. reach (suc k)) (λ k. up (suc k)) in
    ⊎_elim (λ (less : x <ℤ y). absurd (let h = height_lower x y (reach 0).low less in omega arith)) (λ (same : y ≤ℤ x). same) (lt_cases x y)
weight_same (x ∷ xs) (y ∷ ys) e reach up most (suc k) =
    let most' : height y + weight ys ≤ height x + weight xs = most in
    let one = height_at_most x y (reach 0).low (up 0) in
    weight_same xs ys (omega arith) (λ k. reach (suc k)) (λ k. up (suc k)) (omega arith) k

-- how many are marked
pub marks_in : List Bool → ℕ
marks_in [] = 0
marks_in (true ∷ ms) = suc (marks_in ms)
marks_in (false ∷ ms) = marks_in ms

pub marks_most : (ms : List Bool) → marks_in ms ≤ length ms
unfolding marks_in
marks_most [] = omega arith
marks_most (true ∷ ms) = let h = marks_most ms in omega arith
marks_most (false ∷ ms) = let h = marks_most ms in omega arith

-- a list with fewer marks
pub marks_fewer : (xs ys : List Bool) → length xs ≡ length ys → ((k : ℕ) → IsMarkedIn xs k → IsMarkedIn ys k) → marks_in xs ≤ marks_in ys
unfolding marks_in
marks_fewer [] ys e sub = omega arith
marks_fewer (x ∷ xs) [] e sub = absurd (omega arith)
marks_fewer (true ∷ xs) (true ∷ ys) e sub = let h = marks_fewer xs ys (omega arith) (λ k. sub (suc k)) in omega arith
marks_fewer (true ∷ xs) (false ∷ ys) e sub = absurd (let h = sub 0 refl in search rules)
marks_fewer (false ∷ xs) (true ∷ ys) e sub = let h = marks_fewer xs ys (omega arith) (λ k. sub (suc k)) in omega arith
marks_fewer (false ∷ xs) (false ∷ ys) e sub = marks_fewer xs ys (omega arith) (λ k. sub (suc k))

-- where it has as many, it has all
pub marks_same : (xs ys : List Bool) → length xs ≡ length ys → ((k : ℕ) → IsMarkedIn xs k → IsMarkedIn ys k) → marks_in ys ≤ marks_in xs →
    (k : ℕ) → IsMarkedIn ys k → IsMarkedIn xs k
unfolding marks_in
marks_same [] [] e sub most k marked = marked
marks_same [] (y ∷ ys) e sub most k marked = absurd (omega arith)
marks_same (x ∷ xs) [] e sub most k marked = absurd (omega arith)
marks_same (true ∷ xs) (y ∷ ys) e sub most zero marked = refl
marks_same (false ∷ xs) (false ∷ ys) e sub most zero marked = marked
marks_same (false ∷ xs) (true ∷ ys) e sub most zero marked = absurd (let h = marks_fewer xs ys (omega arith) (λ k. sub (suc k)) in omega arith)
marks_same (true ∷ xs) (true ∷ ys) e sub most (suc k) marked = marks_same xs ys (omega arith) (λ k. sub (suc k)) (omega arith) k marked
marks_same (true ∷ xs) (false ∷ ys) e sub most (suc k) marked = absurd (let h = sub 0 refl in search rules)
marks_same (false ∷ xs) (true ∷ ys) e sub most (suc k) marked = absurd (let h = marks_fewer xs ys (omega arith) (λ k. sub (suc k)) in omega arith)
marks_same (false ∷ xs) (false ∷ ys) e sub most (suc k) marked = marks_same xs ys (omega arith) (λ k. sub (suc k)) most k marked
