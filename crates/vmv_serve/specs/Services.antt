-- What a service leaves of a door that tells its links.
use Rattle.std.specs.Prelude.{◌≡◌, ℕ, Bool, true, false, List, [], ◌∷◌, ◌++◌, length, map, Option, Some, None, ⊤}
use Rattle.vmv_keeper.specs.declared.judge.Inspected.{Inspected}
use Rattle.vmv_keeper.specs.declared.judge.Compared.{Compared}
use Rattle.vmv_door.specs.Links.{Links}
use Rattle.vmv_serve.specs.Serves.{Seen, Stored, StaysWell, Leaves, Serves}

-- so many links were given and, served over a store, given back in the same order
abbrev pub ServesLinks : {L : Type 0} → (List ℕ → Inspected → Type 0) → (List ℕ → List ℕ → Compared → Type 0) → Type 0 → (L → Seen) → ℕ → Stored → Stored → Option (Links L) → Option (Links L) → Type 0
ServesLinks Inspects Compares Steady seen count before now None told = ⊤
ServesLinks Inspects Compares Steady seen count before now (Some links) None = ⊥
ServesLinks {L = L} Inspects Compares Steady seen count before now (Some links) (Some told) =
    (taken : List L) × (back : List L) × (links.left ≡ taken ++ told.left) × (told.back ≡ links.back ++ back) × (length taken ≡ count)
    × Serves Inspects Compares Steady before (map seen taken) (map seen back) now

-- the next link was given and, served over a store, given back
abbrev pub ServesNext : {L : Type 0} → (List ℕ → Inspected → Type 0) → (List ℕ → List ℕ → Compared → Type 0) → Type 0 → (L → Seen) → Stored → Stored → Option (Links L) → Option (Links L) → Type 0
ServesNext Inspects Compares Steady seen before now None told = told ≡ None
ServesNext Inspects Compares Steady seen before now (Some links) None = ⊥
ServesNext {L = L} Inspects Compares Steady seen before now (Some links) (Some told) =
    (link : L) × (left : L) × (links.left ≡ link ∷ told.left) × (told.back ≡ links.back ++ left ∷ [])
    × Leaves Inspects Compares Steady (seen link) (seen left) before now × StaysWell Inspects Compares before now

-- how many links a turn served
abbrev pub turns_of : Bool → ℕ
turns_of true = 1
turns_of false = 0
