use Rattle.std.specs.Prelude.{◌≡◌, ℕ, ◌+◌, ◌<◌, ◌≤◌, List}
use Rattle.std.specs.List.{AllZip, range_with_len}

-- a job may be run at each of the `count` places from `from` on
abbrev pub CanRunAt : (ℕ → Type 0) → ℕ → ℕ → Type 0
CanRunAt can_run from count = (place : ℕ) → from ≤ place → place < from + count → can_run place

-- the list has one answer for each of the `count` places from `from` on, in their order, and each is one that its place may have
abbrev pub AnswersInOrder : {X : Type 0} → (ℕ → X → Type 0) → ℕ → ℕ → List X → Type 0
AnswersInOrder allows from count answers = AllZip allows (range_with_len from count) answers

-- at each place below n, what f gives is the one answer that the place may have
abbrev pub AllowsOnly : {X : Type 0} → (ℕ → X → Type 0) → ℕ → (ℕ → X) → Type 0
AllowsOnly {X} allows n f = (place : ℕ) (answer : X) → place < n → allows place answer → answer ≡ f place
