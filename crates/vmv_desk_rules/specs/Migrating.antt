-- Rows from before versions told what they were judged against.
use Rattle.std.specs.Prelude.{◌≡◌, ◌≢◌, ◌==◌, ◌-◌, List, [], ◌∷◌, map, ⊤, if◌then◌else◌}
use Rattle.std.specs.List.{AllByRecursion}
use Rattle.vmv_keeper.specs.declared.project.Project.{Project}
use Rattle.vmv_keeper.specs.declared.project.Version.{Version}
use Rattle.vmv_keeper.specs.declared.reply.VersionRow.{VersionRow}
use Rattle.vmv_keeper.specs.declared.judge.Inspected.TheVariants.{Vacuous}
use Rattle.vmv_keeper.specs.Judging.{HasVerdict}
use Rattle.vmv_keeper.specs.Formed.{AreFormed}
use Rattle.vmv_keeper.specs.Tables.{Tables}
use Rattle.vmv_desk_rules.specs.declared.migrating.OldRow.{OldRow}
use Rattle.vmv_desk_rules.specs.Causes.{Meaning}
use Rattle.vmv_desk_rules.specs.Well.{Parses}

-- a row with what it was judged against: an accepted version against the one before it, any other against none
abbrev pub migrated_row : OldRow → VersionRow
migrated_row row =
    record { number = row.number; kind = row.kind; submission = row.submission; by = row.by; against = if row.kind == 2 then row.number - 1 else 0 }

abbrev pub migrated : List OldRow → List VersionRow
migrated rows = map migrated_row rows

-- a row as it was before
abbrev pub old_row : VersionRow → OldRow
old_row row = record { number = row.number; kind = row.kind; submission = row.submission; by = row.by }

-- each version's row is what is made of the row as it was before
abbrev pub IsMigrated : Project → Type 0
IsMigrated p = AllByRecursion (λ version. version.row ≡ migrated_row (old_row version.row)) p.versions

-- each accepted version has verdict 1 against the one before it
abbrev pub AreAcceptedInTurn : Meaning → List Version → Type 0
AreAcceptedInTurn J [] = ⊤
AreAcceptedInTurn J (version ∷ []) = ⊤
AreAcceptedInTurn J (version ∷ next ∷ rest) =
    (next.row.kind ≡ 2 → HasVerdict 1 (J.compared version.text next.text)) × AreAcceptedInTurn J (next ∷ rest)

-- each text parses, no version is vacuous, and each accepted one was found correct against the one before it
pub record WasReviewed (J : Meaning) (p : Project) : Type 0 where
  pub texts : AllByRecursion (λ version. Parses J version.text) p.versions
  pub pending_texts : AllByRecursion (λ waiting. Parses J waiting.text) p.pending
  pub none_vacuous : AllByRecursion (λ version. J.inspected version.text ≢ Vacuous) p.versions
  pub accepted : AreAcceptedInTurn J p.versions

-- rows that were well by the rule from before, which says nothing of what versions tell they were judged against
pub record WasWell (J : Meaning) (tables : Tables) : Type 0 where
  pub formed : AreFormed tables
  pub reviewed : AllByRecursion (WasReviewed J) tables.projects
