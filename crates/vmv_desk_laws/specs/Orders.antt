-- Rows that show a caller the same up to the order of projects.
use Rattle.std.specs.Prelude.{◌≡◌, ℕ, List, [], ◌∷◌, ◌++◌}
use Rattle.vmv_keeper.specs.declared.project.Project.{Project}
use Rattle.vmv_keeper.specs.Tables.{Tables}
use Rattle.vmv_desk_laws.specs.Seen.{seen_by}

-- the same projects, in the same order or another: the first stands somewhere among the others, and the rest are what is left of these
abbrev pub Reordered : List Project → List Project → Type 0
Reordered [] others = others ≡ []
Reordered (p ∷ rest) others = (front : List Project) × (back : List Project) × (others ≡ front ++ p ∷ back) × Reordered rest (front ++ back)

-- the same projects of which the caller is a member, and the same replies that are kept for him
abbrev pub SeesSame : List ℕ → Tables → Tables → Type 0
SeesSame caller tables others =
    Reordered (seen_by caller tables).projects (seen_by caller others).projects × ((seen_by caller tables).replies ≡ (seen_by caller others).replies)
