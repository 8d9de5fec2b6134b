-- The rounds that find the necessary conditions, and the exclusions that they record.
use Rattle.std.specs.Prelude.{◌≡◌, ◌≢◌, ◌⊎◌, ℕ, ◌+◌, List, [], ◌∷◌, ◌++◌, length}
use Rattle.std.specs.List.{flat_map}
use Rattle.vmv_snapshot.specs.Resolution.{Resolution}
use Rattle.vmv_assumption.specs.Whole.{whole}
use Rattle.vmv_assumption.specs.Assumed.{Assumed}
use Rattle.vmv_assumption.specs.Change.{IsCut}
use Rattle.vmv_need.specs.declared.subject.Scope.{Scope}
use Rattle.vmv_need.specs.declared.candidate.Candidate.{Candidate}
use Rattle.vmv_need.specs.declared.cut.Cut.{Cut}
use Rattle.vmv_need.specs.Candidates.{candidates_of}
use Rattle.vmv_need.specs.Acts.{Meets, Acts}

-- the exclusion that a candidate makes, so many having been recorded before the round
abbrev pub cut_of : ℕ → Candidate → Cut
cut_of under c = record { entry = c.entry; within = c.within; name = c.name; piece = c.piece; under = under }

-- A candidate's turn in a round: where it acts and its piece meets the running assumption, the piece is cut out of that and
-- recorded; else nothing changes.
abbrev pub IsTurn : (acts : Type 0) (under : ℕ) → Candidate → (running : Assumed) (made : List Cut) (next : Assumed) → Type 0
IsTurn acts under c running made next =
    (acts × Meets (running c.name) c.piece × IsCut running c.name c.piece next × (made ≡ cut_of under c ∷ []))
    ⊎ ((acts → Meets (running c.name) c.piece → ⊥) × (next ≡ running) × (made ≡ []))

-- the turns of candidates in order, from the running assumption to the last
abbrev pub AreTurns : (acts : Candidate → Type 0) (under : ℕ) → List Candidate → (running : Assumed) (made : List Cut) (last : Assumed) → Type 0
AreTurns acts under [] running made last = (last ≡ running) × (made ≡ [])
AreTurns acts under (c ∷ cs) running made last =
    (next : Assumed) × (first : List Cut) × (rest : List Cut) × IsTurn (acts c) under c running first next
    × AreTurns acts under cs next rest last × (made ≡ first ++ rest)

-- a round: all candidates in order, each judged by the assumption with which the round begins
abbrev pub IsRound : Resolution → Scope → (under : ℕ) (frozen : Assumed) (made : List Cut) (last : Assumed) → Type 0
IsRound program scope under frozen made last = AreTurns (Acts program scope frozen) under (candidates_of scope) frozen made last

-- rounds, so many exclusions having been recorded before: each records something, and the last one nothing
abbrev pub AreRounds : Resolution → Scope → (under : ℕ) (first : Assumed) → List (List Cut) → (last : Assumed) → Type 0
AreRounds program scope under first [] last = IsRound program scope under first [] last
AreRounds program scope under first (made ∷ rounds) last =
    (next : Assumed) × (made ≢ []) × IsRound program scope under first made next × AreRounds program scope (under + length made) next rounds last

-- the rounds that begin with the whole conditions end with this assumption, and record these exclusions
abbrev pub HasCuts : Resolution → Scope → Assumed → List Cut → Type 0
HasCuts program scope assumed cuts = (rounds : List (List Cut)) × AreRounds program scope 0 (λ name. whole) rounds assumed × (cuts ≡ flat_map (λ made. made) rounds)
