-- Rows that were well by the rule from before are well with what they were judged against.
use Rattle.std.proofs.Common.{◌≡◌, ◌==◌, ◌≤◌, ◌<◌, ◌+◌, ◌-◌, inl, inr, ℕ, Bool, true, false, cond, List, [], ◌∷◌, find, Option, Some, IsSomeAnd, arith, refl, ap, sym, ◌∙◌, subst}
use Rattle.std.specs.List.{AllByRecursion}
use borrow.Author.Tests.{eqb-true, eqb-false, eq-eqb, ne_eqb}
use Rattle.vmv_keeper.specs.declared.project.Project.{Project}
use Rattle.vmv_keeper.specs.declared.project.Version.{Version}
use Rattle.vmv_keeper.specs.declared.reply.VersionRow.{VersionRow}
use Rattle.vmv_keeper.specs.Judging.{HasVerdict}
use Rattle.vmv_keeper.specs.Formed.{IsProject, AreNumbered, BeginOpened}
use Rattle.vmv_keeper.specs.Tables.{Tables, is_root, is_version}
use Rattle.vmv_keeper.proofs.ListChanges.{All-weaken}
use Rattle.vmv_desk_rules.specs.Causes.{Meaning}
use Rattle.vmv_desk_rules.specs.Well.{Well, IsReviewed, IsAccepted, IsAgainst, AreAgainst}
use Rattle.vmv_desk_rules.specs.Migrating.{migrated_row, old_row, IsMigrated, AreAcceptedInTurn, WasReviewed, WasWell}
use Rattle.vmv_desk_rules.proofs.RootLemmas.{rows_of, text_at, below_step, here_step, later_step, numbers_from, all_both}

-- what a migrated row was judged against

abbrev IsMade : Version → Type 0
IsMade v = v.row ≡ migrated_row (old_row v.row)

made_against : (v : Version) → IsMade v → v.row.against ≡ cond (v.row.kind == 2) (v.row.number - 1) 0
made_against v made = ap (λ (r : VersionRow). r.against) made

against_step : (n root : ℕ) (row : VersionRow) (b : Bool) → (row.kind == 2) ≡ b → row.number ≡ n → root < n → row.against ≡ cond b (row.number - 1) 0 → IsAgainst root row
against_step n root row true is at less made = inl (eqb-true row.kind 2 is, omega (arith, at, less, made), omega (arith, at, less, made))
against_step n root row false is at less made = inr (eqb-false row.kind 2 is, made)

made_after : (n root : ℕ) (vs : List Version) → root < n → AreNumbered n (rows_of vs) → AllByRecursion IsMade vs → AreAgainst root (rows_of vs)
made_after n root [] less numbered made = tt
made_after n root (v ∷ rest) less numbered made = (
  against_step n root v.row (v.row.kind == 2) refl numbered.0 less (made_against v made.0),
  made_after (n + 1) (cond (is_root v.row) v.row.number root) rest (below_step n root v.row.number (is_root v.row) numbered.0 less) numbered.1 made.1,
)

-- each version is found by its number

abbrev IsFound : List Version → Version → Type 0
IsFound vs v = text_at v.row.number vs ≡ Some v.text

found_later : (v : Version) (rest : List Version) (n : ℕ) (w : Version) → v.row.number ≡ n → IsFound rest w × (n + 1 ≤ w.row.number) → IsFound (v ∷ rest) w
found_later v rest n w at (found, less) =
    later_step v (find (is_version w.row.number) rest) (v.row.number == w.row.number) (ne_eqb v.row.number w.row.number (λ same. absurd (omega (arith, same, at, less)))) ∙ found

each_found : (n : ℕ) (vs : List Version) → AreNumbered n (rows_of vs) → AllByRecursion (IsFound vs) vs
each_found n [] numbered = tt
each_found n (v ∷ rest) numbered = (
  here_step v (find (is_version v.row.number) rest) (v.row.number == v.row.number) (eq-eqb v.row.number v.row.number refl),
  All-weaken (λ w. IsFound rest w × (n + 1 ≤ w.row.number)) (IsFound (v ∷ rest)) (λ w h. found_later v rest n w numbered.0 h) rest
      (all_both (IsFound rest) (λ w. n + 1 ≤ w.row.number) rest (each_found (n + 1) rest numbered.1) (numbers_from (n + 1) (n + 1) rest (omega arith) numbered.1)),
)

-- the one before it is the one that it was judged against

before_is : (n : ℕ) (v w : Version) → v.row.number ≡ n → w.row.number ≡ n + 1 → w.row.against ≡ cond (w.row.kind == 2) (w.row.number - 1) 0 → w.row.kind ≡ 2 → v.row.number ≡ w.row.against
before_is n v w at next made two =
    let is = made ∙ ap (λ b. cond b (w.row.number - 1) 0) (eq-eqb w.row.kind 2 two) in omega (arith, at, next, is)

accepted_before : (J : Meaning) (p : Project) (v w : Version) → v.row.number ≡ w.row.against → IsFound p.versions v → HasVerdict 1 (J.compared v.text w.text)
    → IsSomeAnd (text_at w.row.against p.versions) (λ text. HasVerdict 1 (J.compared text w.text))
accepted_before J p v w same found judged =
    let P : Option (List ℕ) → Type 0 = λ o. IsSomeAnd o (λ text. HasVerdict 1 (J.compared text w.text)) in
    subst P (sym found ∙ ap (λ n. text_at n p.versions) same) judged

accepted_behind : (J : Meaning) (p : Project) (n : ℕ) (v : Version) (rest : List Version) → AreNumbered n (rows_of (v ∷ rest)) → AllByRecursion IsMade (v ∷ rest)
    → AllByRecursion (IsFound p.versions) (v ∷ rest) → AreAcceptedInTurn J (v ∷ rest) → AllByRecursion (IsAccepted J p) rest
accepted_behind J p n v [] numbered made found accepted = tt
accepted_behind J p n v (w ∷ rest) numbered made found accepted = (
  (λ two. accepted_before J p v w (before_is n v w numbered.0 numbered.1.0 (made_against w made.1.0) two) found.0 (accepted.0 two)),
  accepted_behind J p (n + 1) w rest numbered.1 made.1 found.1 accepted.1,
)

all_accepted : (J : Meaning) (p : Project) (n : ℕ) (vs : List Version) → BeginOpened (rows_of vs) → AreNumbered n (rows_of vs) → AllByRecursion IsMade vs
    → AllByRecursion (IsFound p.versions) vs → AreAcceptedInTurn J vs → AllByRecursion (IsAccepted J p) vs
all_accepted J p n [] opened numbered made found accepted = tt
all_accepted J p n (v ∷ rest) opened numbered made found accepted =
    ((λ two. absurd (omega (arith, opened, two))), accepted_behind J p n v rest numbered made found accepted)

migrated_reviewed : (J : Meaning) (p : Project) → IsProject p → WasReviewed J p → IsMigrated p → IsReviewed J p
migrated_reviewed J p formed was made =
    record {
      texts = was.texts;
      pending_texts = was.pending_texts;
      none_vacuous = was.none_vacuous;
      against = made_after 1 0 p.versions (omega arith) formed.held.numbered made;
      accepted = all_accepted J p 1 p.versions formed.held.opened formed.held.numbered made (each_found 1 p.versions formed.held.numbered) was.accepted;
    }

each_migrated : (J : Meaning) (ps : List Project) → AllByRecursion IsProject ps → AllByRecursion (WasReviewed J) ps → AllByRecursion IsMigrated ps → AllByRecursion (IsReviewed J) ps
each_migrated J [] formed was made = tt
each_migrated J (p ∷ ps) formed was made = (migrated_reviewed J p formed.0 was.0 made.0, each_migrated J ps formed.1 was.1 made.1)

-- migrated rows are well
pub Well-migrated : (J : Meaning) (tables : Tables) → WasWell J tables → AllByRecursion IsMigrated tables.projects → Well J tables
Well-migrated J tables was made = record { formed = was.formed; reviewed = each_migrated J tables.projects was.formed.each was.reviewed made }
