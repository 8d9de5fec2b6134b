-- The ends of the ranges that are of interest for the answers of outside functions.
use Rattle.std.specs.Prelude.{◌≡◌, ◌^◌, ◌-◌, ℕ, zero, suc, ℤ, pos, negsuc, Bool, true, false, Option, Some, None, List, [], ◌∷◌, ◌++◌, length, map, slice_get, if◌then◌else◌}
use Rattle.std.specs.Str.{bytes_eq}
use Rattle.vmv_tree.specs.declared.name.Name.{Name}
use Rattle.vmv_tree.specs.declared.ends.NameEnds.{NameEnds}
use Rattle.vmv_snapshot.specs.Procs.{outsides, is_entry}
use Rattle.vmv_snapshot.specs.Resolution.{Resolution, tree_of, procs_of}
use Rattle.vmv_demands.specs.declared.want.Condition.{Condition}
use Rattle.vmv_demands.specs.declared.want.Condition.TheVariants.{Range, Nonzero}
use Rattle.vmv_demands.specs.declared.lead.Found.{Found}
use Rattle.vmv_demands.specs.Wants.{least, greatest}
use Rattle.vmv_demands.specs.Demands.{first_wanted}

-- the least and the greatest word that meet the condition
abbrev pub both_ends : Condition → List ℤ
both_ends (Range lo hi) = lo ∷ hi ∷ []
both_ends Nonzero = least ∷ greatest ∷ []

-- the ends of what is wanted of this name
abbrev pub ends_of : Name → List Found → List ℤ
ends_of name [] = []
ends_of name (f ∷ found) = (if bytes_eq f.name name then both_ends f.cond else []) ++ ends_of name found

-- what an entry wants; a helper is no entry
abbrev pub entry_wants : Resolution → ℕ → Option Bool → List Found
entry_wants s n (Some true) = first_wanted s n
entry_wants s n (Some false) = []
entry_wants s n None = []

-- what the entries among the first n procedures want
abbrev pub first_entries_want : Resolution → ℕ → List Found
first_entries_want s zero = []
first_entries_want s (suc n) = first_entries_want s n ++ entry_wants s n (slice_get (map is_entry (procs_of s)) n)

-- what all entries want
abbrev pub all_wants : Resolution → List Found
all_wants s = first_entries_want s (length (procs_of s))

-- -2^k and 2^k - 1 for k of 62, 31, 15 and 7
abbrev pub level_ends : List ℤ
level_ends =
    negsuc (2 ^ 62 - 1) ∷ pos (2 ^ 62 - 1) ∷ negsuc (2 ^ 31 - 1) ∷ pos (2 ^ 31 - 1) ∷ negsuc (2 ^ 15 - 1) ∷ pos (2 ^ 15 - 1) ∷ negsuc (2 ^ 7 - 1) ∷ pos (2 ^ 7 - 1) ∷ []

-- for an outside name, where this is what all entries want: the ends of the demands on it, then those of the four levels
abbrev pub ends_for : List Found → Name → NameEnds
ends_for wanted name = record { name = name; ends = ends_of name wanted ++ level_ends }

-- one for each outside name, in text order
abbrev pub AreEnds : Resolution → List NameEnds → Type 0
AreEnds s ends = ends ≡ map (ends_for (all_wants s)) (outsides (tree_of s))
