-- The exclusions that are looked at in a program.
use Rattle.std.specs.Prelude.{◌≡◌, ◌^◌, ◌-◌, ◌+◌, ℕ, pos, negsuc, int_lt, Bool, true, false, ◌&&◌, List, [], ◌∷◌, ◌++◌, map, if◌then◌else◌}
use Rattle.std.specs.List.{Contains, flat_map}
use Rattle.vmv_cond.specs.declared.cond.Cond.{Cond}
use Rattle.vmv_cond.specs.declared.cond.Piece.{Piece}
use Rattle.vmv_cond.specs.declared.cond.Piece.TheVariants.{Below, Above, Zero}
use Rattle.vmv_snapshot.specs.declared.code.ProcId.{ProcId}
use Rattle.vmv_snapshot.specs.Procs.{is_entry}
use Rattle.vmv_snapshot.specs.Resolution.{Resolution, procs_of}
use Rattle.vmv_cert.specs.Tables.{Box}
use Rattle.vmv_back.specs.Boxes.{AreBoxes}
use Rattle.vmv_demands.specs.declared.demand.Demand.{Demand}
use Rattle.vmv_demands.specs.Demands.{AreDemands}
use Rattle.vmv_demands.specs.Ends.{AreEnds}
use Rattle.vmv_need.specs.declared.subject.Subject.{Subject}
use Rattle.vmv_need.specs.declared.subject.Scope.{Scope}
use Rattle.vmv_need.specs.declared.candidate.Candidate.{Candidate}

-- the thing alone where the test holds, else nothing
abbrev pub only : {A : Type 0} → Bool → A → List A
only test x = if test then x ∷ [] else []

-- what a condition leaves out: the words below it, the words above it, and a 0 inside it
abbrev pub pieces_of : Cond → List Piece
pieces_of c =
    only (int_lt (negsuc (2 ^ 63 - 1)) c.lo) (Below c.lo)
    ++ (only (int_lt c.hi (pos (2 ^ 63 - 1))) (Above c.hi)
    ++ only (c.zero_out && (int_lt c.lo (pos 0) && int_lt (pos 0) c.hi)) Zero)

-- the numbers, from n on, of the procedures that are entries
abbrev pub entries_from : ℕ → List Bool → List ℕ
entries_from n [] = []
entries_from n (true ∷ flags) = n ∷ entries_from (n + 1) flags
entries_from n (false ∷ flags) = entries_from (n + 1) flags

-- what is looked at in a program: the ends of its outside names, and each entry in text order with its boxes and demands
pub record IsScopeOf (program : Resolution) (scope : Scope) : Type 0 where
  pub ends : AreEnds program scope.ends
  pub entries : map (λ (s : Subject). s.entry.0) scope.subjects ≡ entries_from 0 (map is_entry (procs_of program))
  pub boxes : (s : Subject) → Contains scope.subjects s → AreBoxes program s.entry.0 s.boxes
  pub demands : (s : Subject) → Contains scope.subjects s → AreDemands program s.entry.0 s.demands

-- a candidate for each piece of a demand
abbrev pub of_demand : ProcId → Box → Demand → List Candidate
of_demand entry box d = map (λ piece. record { entry = entry; within = box; name = d.name; piece = piece }) (pieces_of d.cond)

abbrev pub of_box : ProcId → List Demand → Box → List Candidate
of_box entry demands box = flat_map (of_demand entry box) demands

abbrev pub of_subject : Subject → List Candidate
of_subject s = flat_map (of_box s.entry s.demands) s.boxes

-- the candidates: by entry, box, demand and piece, in this order
abbrev pub candidates_of : Scope → List Candidate
candidates_of scope = flat_map of_subject scope.subjects

abbrev pub places_in : Subject → List (ProcId × Box)
places_in s = map (λ box. (s.entry, box)) s.boxes

-- each entry with each of its boxes, in order
abbrev pub places_of : Scope → List (ProcId × Box)
places_of scope = flat_map places_in scope.subjects
