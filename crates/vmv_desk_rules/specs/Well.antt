-- Which rows are well: well formed, and a judge finds nothing against them.
use Rattle.std.specs.Prelude.{◌≡◌, ◌≢◌, ◌⊎◌, ◌≤◌, ◌<◌, ℕ, List, [], ◌∷◌, ⊤, IsTrue, IsSomeAnd, if◌then◌else◌}
use Rattle.std.specs.List.{AllByRecursion}
use Rattle.vmv_keeper.specs.declared.project.Project.{Project}
use Rattle.vmv_keeper.specs.declared.project.Version.{Version}
use Rattle.vmv_keeper.specs.declared.reply.VersionRow.{VersionRow}
use Rattle.vmv_keeper.specs.declared.judge.Inspected.TheVariants.{Vacuous}
use Rattle.vmv_keeper.specs.Judging.{parses, HasVerdict}
use Rattle.vmv_keeper.specs.Formed.{AreFormed}
use Rattle.vmv_keeper.specs.Tables.{Tables, is_root, version_text, held_of}
use Rattle.vmv_desk_rules.specs.Causes.{Meaning}

-- a text that the judge can read
abbrev pub Parses : Meaning → List ℕ → Type 0
Parses J text = IsTrue (parses (J.inspected text))

-- what a version was judged against, where this is the number of the latest root before it: an accepted one
-- against a version from there on, any other against none
abbrev pub IsAgainst : ℕ → VersionRow → Type 0
IsAgainst root row = ((row.kind ≡ 2) × (root ≤ row.against) × (row.against < row.number)) ⊎ ((row.kind ≢ 2) × (row.against ≡ 0))

abbrev pub AreAgainst : ℕ → List VersionRow → Type 0
AreAgainst root [] = ⊤
AreAgainst root (row ∷ rest) = IsAgainst root row × AreAgainst (if is_root row then row.number else root) rest

-- an accepted version has verdict 1 against the version that it was judged against
abbrev pub IsAccepted : Meaning → Project → Version → Type 0
IsAccepted J p version =
    version.row.kind ≡ 2 → IsSomeAnd (version_text version.row.against p) (λ text. HasVerdict 1 (J.compared text version.text))

-- each text parses, no version is vacuous, and each accepted one was found correct against one of its chain
pub record IsReviewed (J : Meaning) (p : Project) : Type 0 where
  pub texts : AllByRecursion (λ version. Parses J version.text) p.versions
  pub pending_texts : AllByRecursion (λ waiting. Parses J waiting.text) p.pending
  pub none_vacuous : AllByRecursion (λ version. J.inspected version.text ≢ Vacuous) p.versions
  pub against : AreAgainst 0 (held_of p).versions
  pub accepted : AllByRecursion (IsAccepted J p) p.versions

pub record Well (J : Meaning) (tables : Tables) : Type 0 where
  pub formed : AreFormed tables
  pub reviewed : AllByRecursion (IsReviewed J) tables.projects
