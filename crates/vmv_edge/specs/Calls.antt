-- Which calls of a thing in memory fail.
use Rattle.std.specs.Prelude.{◌≡◌, ℕ, ◌+◌, ◌-◌, ◌^◌, ◌==◌, min, Bool, List}
use Rattle.std.specs.List.{list_any}
use Rattle.vmv_edge.specs.declared.calls.Calls.{Calls}

-- the number of the next call, counted from 1; the last number of its type stands
abbrev pub next_call : Calls → ℕ
next_call calls = min (calls.made + 1) (2 ^ 64 - 1)

-- the next call is listed among those that are to fail
abbrev pub is_to_fail : Calls → Bool
is_to_fail calls = list_any (λ k. k == next_call calls) calls.failing.items

-- how many calls have failed
abbrev pub failed_calls : Calls → ℕ
failed_calls calls = calls.faults.count

-- no call was made, and those with these numbers are to fail
abbrev pub AreUnused : Calls → List ℕ → Type 0
AreUnused calls failing = (calls.made ≡ 0) × (failed_calls calls ≡ 0) × (calls.failing.items ≡ failing)

-- one more call was made, and the same calls are to fail
abbrev pub IsOneMore : Calls → Calls → Type 0
IsOneMore before now = (now.made ≡ next_call before) × (now.failing ≡ before.failing)

-- as many calls were made, and the same are to fail
abbrev pub IsSameCall : Calls → Calls → Type 0
IsSameCall before now = (now.made ≡ before.made) × (now.failing ≡ before.failing)
