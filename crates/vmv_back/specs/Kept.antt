-- Items that are kept as they are found, up to a number.
use Rattle.std.specs.Prelude.{◌≡◌, Option, MatchOption, IsTrue, IsFalse, ℕ, nat_lt, Bool, not, ◌&&◌, List, [], ◌∷◌, ◌++◌, length, filter, if◌then◌else◌}
use Rattle.std.specs.List.{list_any}
use Rattle.vmv_back.specs.Boxes.{Box, is_nonempty, same_box}

-- with one more, unless so many are kept or one of them is the same
abbrev pub keep : {A : Type 0} → ℕ → (A → A → Bool) → List A → A → List A
keep most same kept x = if nat_lt (length kept) most && not (list_any (λ y. same y x) kept) then kept ++ x ∷ [] else kept

-- with each of these in turn
abbrev pub keep_all : {A : Type 0} → ℕ → (A → A → Bool) → List A → List A → List A
keep_all most same kept [] = kept
keep_all most same kept (x ∷ xs) = keep_all most same (keep most same kept x) xs

-- the boxes with those of these that aren't empty
abbrev pub with_boxes : List Box → List Box → List Box
with_boxes kept found = keep_all 16 same_box kept (filter is_nonempty found)

-- the thing itself where it passes the test, else nothing
abbrev pub IsPart : {A : Type 0} → (A → Bool) → A → Option A → Type 0
IsPart is_good x part = MatchOption part (IsFalse (is_good x)) (λ y. (y ≡ x) × IsTrue (is_good x))
