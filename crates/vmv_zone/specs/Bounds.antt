-- Bounds on the differences of things, one place for each pair.
use Rattle.std.specs.Prelude.{◌≡◌, ◌≢◌, ◌⊎◌, ◌==◌, ◌&&◌, ◌||◌, if◌then◌else◌, Bool, false, IsTrue, ℕ, ◌+◌, ◌*◌, ◌-◌, ◌^◌, ◌<◌, ◌≤◌, ℤ, pos, negsuc, ◌+ℤ◌, ◌≤ℤ◌, ◌<ℤ◌, List, [], ◌∷◌, get_or, length, nat_le}
use Rattle.std.specs.Int.{int_min}

-- the bound on i - j
abbrev pub bound_at : List ℤ → ℕ → ℕ → ℤ
bound_at bs i j = get_or bs (18 * i + j) (pos 0)

-- a bound lies from -2^64 to 2^64 - 1
pub record IsInReach (b : ℤ) : Type 0 where
  pub low : negsuc (2 ^ 64 - 1) ≤ℤ b
  pub high : b ≤ℤ pos (2 ^ 64 - 1)

abbrev pub AreInReach : List ℤ → Type 0
AreInReach bs = (k : ℕ) → IsInReach (get_or bs k (pos 0))

-- the path from i through j to k is no shorter than the bound
abbrev pub HasPath : List ℤ → ℕ → ℕ → ℕ → Type 0
HasPath bs i j k = bound_at bs i k ≤ℤ (bound_at bs i j +ℤ bound_at bs j k)

-- n bounds each thing against itself by 0, and no path is shorter than the bound
pub record IsClosed (n : ℕ → ℕ → ℤ) (vars : ℕ) : Type 0 where
  pub self : (i : ℕ) → i ≤ vars → n i i ≡ pos 0
  pub paths : (i j k : ℕ) → i ≤ vars → j ≤ vars → k ≤ vars → n i k ≤ℤ (n i j +ℤ n j k)

abbrev pub IsMarkedIn : List Bool → ℕ → Type 0
IsMarkedIn marks i = IsTrue (get_or marks i false)

-- closed, and no bound of a marked variable against 0 is 0
pub record IsTight (n : ℕ → ℕ → ℤ) (marks : List Bool) (vars : ℕ) : Type 0 where
  pub closed : IsClosed n vars
  pub upper : (i : ℕ) → 1 ≤ i → i ≤ vars → IsMarkedIn marks i → n i 0 ≢ pos 0
  pub lower : (i : ℕ) → 1 ≤ i → i ≤ vars → IsMarkedIn marks i → n 0 i ≢ pos 0

-- neither bound on i against 0 is 0
pub record IsOffZero (bs : List ℤ) (i : ℕ) : Type 0 where
  pub upper : bound_at bs i 0 ≢ pos 0
  pub lower : bound_at bs 0 i ≢ pos 0

-- the range of i excludes 0
abbrev pub ExcludesZero : List ℤ → ℕ → Type 0
ExcludesZero bs i = (bound_at bs i 0 <ℤ pos 0) ⊎ (bound_at bs 0 i <ℤ pos 0)

-- i is a variable whose range excludes 0
pub record IsOffZeroVariable (vars : ℕ) (bs : List ℤ) (i : ℕ) : Type 0 where
  pub from : 1 ≤ i
  pub to : i ≤ vars
  pub out : ExcludesZero bs i

-- the bound on i - j that words keep
abbrev pub top_bound : ℕ → ℕ → ℤ
top_bound i j =
    if i == j then pos 0 else if j == 0 then pos (2 ^ 63 - 1) else if i == 0 then pos (2 ^ 63) else pos (2 ^ 64 - 1)

abbrev pub AreUnderTop : ℕ → List ℤ → Type 0
AreUnderTop vars bs = (i j : ℕ) → i ≤ vars → j ≤ vars → bound_at bs i j ≤ℤ top_bound i j

-- each bound of n is at most that of the list
abbrev pub Below : (ℕ → ℕ → ℤ) → ℕ → List ℤ → Type 0
Below n vars bs = (i j : ℕ) → i ≤ vars → j ≤ vars → n i j ≤ℤ bound_at bs i j

-- the bounds on things past the last variable stay
abbrev pub SameOutside : ℕ → List ℤ → List ℤ → Type 0
SameOutside vars old new = (i j : ℕ) → i < 18 → j < 18 → (vars < i) ⊎ (vars < j) → bound_at new i j ≡ bound_at old i j

-- the bounds on things past the last variable are 0
abbrev pub AreZeroOutside : ℕ → List ℤ → Type 0
AreZeroOutside vars bs = (i j : ℕ) → i < 18 → j < 18 → (vars < i) ⊎ (vars < j) → bound_at bs i j ≡ pos 0

-- variables alone are marked
abbrev pub AreOnVariables : ℕ → List Bool → Type 0
AreOnVariables vars marks = (i : ℕ) → IsMarkedIn marks i → (1 ≤ i) × (i ≤ vars)

-- every bound is 0, and nothing is marked
pub record AreBlank (bs : List ℤ) (marks : List Bool) : Type 0 where
  pub zeros : (k : ℕ) → get_or bs k (pos 0) ≡ pos 0
  pub unmarked : (i : ℕ) → ¬ IsMarkedIn marks i

-- how far a bound is above -2^64
abbrev pub height : ℤ → ℕ
height (pos b) = 2 ^ 64 + b
height (negsuc b) = (2 ^ 64 - 1) - b

abbrev pub weight : List ℤ → ℕ
weight [] = 0
weight (b ∷ bs) = height b + weight bs

-- the last variable in place of the variable `to`
abbrev pub moved : ℕ → ℕ → ℕ → ℕ
moved to last i = if i == to then last else i

-- the bound on i - j, as words and the bounds against 0 keep it where one of them is the last variable
abbrev pub extended_bound : List ℤ → ℕ → ℕ → ℕ → ℤ
extended_bound bs last i j =
    if i == last && j == last then pos 0 else if i == last then pos (2 ^ 63 - 1) +ℤ bound_at bs 0 j
    else if j == last then bound_at bs i 0 +ℤ pos (2 ^ 63) else bound_at bs i j

-- the bound on p - q, or that of the path from p to i, over the bound b on i - j, and on to q
abbrev pub through_bound : List ℤ → ℕ → ℕ → ℤ → ℕ → ℕ → ℤ
through_bound bs i j b p q = int_min (bound_at bs p q) ((bound_at bs p i +ℤ b) +ℤ bound_at bs j q)

-- the bound on i - j with the last variable in place of the variable `to`
abbrev pub dropped_bound : List ℤ → ℕ → ℕ → ℕ → ℕ → ℤ
dropped_bound bs to last i j = bound_at bs (moved to last i) (moved to last j)

-- the bound on i - j, but top's where one of them is x
abbrev pub freed_bound : List ℤ → ℕ → ℕ → ℕ → ℤ
freed_bound bs x i j = if i == x || j == x then top_bound i j else bound_at bs i j

-- the size of b is at most 2^126, as that of a product of words is
pub record IsWide (b : ℤ) : Type 0 where
  pub low : negsuc (2 ^ 126 - 1) ≤ℤ b
  pub high : b ≤ℤ pos (2 ^ 126)

-- b where j is one of the things, else 0
abbrev pub inner_bound : ℕ → ℕ → ℤ → ℤ
inner_bound vars j b = if nat_le j vars then b else pos 0

-- the bounds on the things are those of f, and the others are 0
pub record IsTable (f : ℕ → ℕ → ℤ) (vars : ℕ) (bs : List ℤ) : Type 0 where
  pub full : length bs ≡ 324
  pub reach : AreInReach bs
  pub at : (i j : ℕ) → i ≤ vars → j ≤ vars → bound_at bs i j ≡ f i j
  pub outside : AreZeroOutside vars bs

-- each bound on the things has the property of its place, and the others are 0
pub record IsTableBy (Is : ℕ → ℕ → ℤ → Type 0) (vars : ℕ) (bs : List ℤ) : Type 0 where
  pub full : length bs ≡ 324
  pub reach : AreInReach bs
  pub at : (i j : ℕ) → i ≤ vars → j ≤ vars → Is i j (bound_at bs i j)
  pub outside : AreZeroOutside vars bs
