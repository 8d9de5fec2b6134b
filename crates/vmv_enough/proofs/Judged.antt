-- Sites that aren't provable, by the least tables.
use Rattle.std.proofs.Common.{◌≡◌, ℕ, ◌+◌, ◌<◌, Some, List, [], ◌∷◌, length, get_or, slice_get, refl, sym, subst, arith, ◌∙◌}
use Rattle.std.specs.List.{Contains}
use Rattle.std.proofs.lemmas.Option.{slice_get_within}
use Rattle.vmv_crew.specs.Answers.{AnswersInOrder}
use Rattle.vmv_crew.proofs.AnswersLemmas.{answer_at}
use Rattle.vmv_tree.specs.declared.ends.NameEnds.{NameEnds}
use Rattle.vmv_tree.specs.declared.site.NamedSite.{NamedSite}
use Rattle.vmv_tree.specs.declared.tree.Param.{Param}
use Rattle.vmv_tree.specs.Tree.{entry}
use Rattle.vmv_snapshot.specs.Procs.{is_entry}
use Rattle.vmv_snapshot.specs.Resolution.{Resolution, procs_of}
use Rattle.vmv_assumption.specs.Assumed.{Assumed}
use Rattle.vmv_cert.specs.Tables.{IsEntry}
use Rattle.vmv_table_sound.specs.Told.{IsProved}
use Rattle.vmv_forward.proofs.Entries.{some_entry}
use Rattle.vmv_enough.specs.declared.plan.Subject.{Subject}
use Rattle.vmv_enough.specs.declared.plan.Plan.{Plan}
use Rattle.vmv_enough.specs.Plan.{IsEntryOf, IsPlan, IsJudged, IsJudgedAt, AreJudged, AreEmpty}
use Rattle.vmv_enough.proofs.Lists.{none_in, first_in, mapped_at, something_at, read_at}

-- answers in the order of the places, one for each, are those of the entries
pub all_judged : (program : Resolution) (plan : Plan) (assumed : Assumed) (judged own : List (List NamedSite)) (n : ℕ) → n ≡ length plan.subjects → own ≡ judged → AnswersInOrder (IsJudgedAt program plan assumed) 0 n judged → length judged ≡ n →
    AreJudged program plan assumed own
all_judged program plan assumed judged own n is same order count = let P : List (List NamedSite) → Type 0 = λ xs. AreJudged program plan assumed xs in subst P (sym same) (record {
  count = count ∙ is;
  each = λ place sites at.
      let here : 0 + place ≡ place = omega arith in
      subst (λ (i : ℕ). IsJudgedAt program plan assumed i sites) here (answer_at (IsJudgedAt program plan assumed) 0 n judged order place sites at);
})

entry_flag : (program : Resolution) (n : ℕ) (params : List Param) → IsEntry program n params → IsEntryOf program n
entry_flag program n params (name, body, at) = mapped_at is_entry (procs_of program) n (entry name params body) at

-- what is judged of an entry, in the place of its subject
pub judged_of : (program : Resolution) (plan : Plan) (assumed : Assumed) (judged : List (List NamedSite)) → IsPlan program plan → AreJudged program plan assumed judged → (n : ℕ) → n < length (procs_of program) → IsEntryOf program n →
    (place : ℕ) × (sites : List NamedSite) × (slice_get judged place ≡ Some sites) × IsJudged program plan.ends assumed n sites
judged_of program plan assumed judged is are n within flag =
    let at = is.subjects.all n within flag in
    let inside = slice_get_within plan.subjects at.0 at.1.subject at.1.there in
    let there = something_at judged at.0 (subst (λ (k : ℕ). at.0 < k) (sym are.count) inside) in
    (at.0, there.0, there.1, subst (λ (k : ℕ). IsJudged program plan.ends assumed k there.0) at.1.number (are.each at.0 there.0 there.1 at.1.subject at.1.there))

pub proved_where_empty : (program : Resolution) (plan : Plan) (assumed : Assumed) (judged : List (List NamedSite)) → IsPlan program plan → AreJudged program plan assumed judged → AreEmpty judged → IsProved program plan.ends assumed
proved_where_empty program plan assumed judged is are empty n m params site (name, body, at) site_of =
    let within : n < length (procs_of program) = slice_get_within (procs_of program) n (entry name params body) at in
    let there = judged_of program plan assumed judged is are n within (entry_flag program n params (name, body, at)) in
    (there.3.decides site).1 (λ has. none_in site (subst (λ xs. Contains xs site) (empty there.0 there.1 there.2) has))

empty_where_proved : (program : Resolution) (ends : List NameEnds) (assumed : Assumed) (n : ℕ) (sites : List NamedSite) → IsEntryOf program n → IsJudged program ends assumed n sites → IsProved program ends assumed → sites ≡ []
empty_where_proved program ends assumed n [] flag judged proved = refl
empty_where_proved program ends assumed n (site ∷ sites) flag judged proved =
    let has = first_in site sites in
    let own = some_entry program n flag in
    let real = judged.sites.each site has in
    absurd ((judged.decides site).0 (proved n real.0 own.0 site own.1 real.1) has)

pub all_empty_where_proved : (program : Resolution) (plan : Plan) (assumed : Assumed) (judged : List (List NamedSite)) → IsPlan program plan → AreJudged program plan assumed judged → IsProved program plan.ends assumed → AreEmpty judged
all_empty_where_proved program plan assumed judged is are proved place sites at =
    let inside = slice_get_within judged place sites at in
    let there = something_at plan.subjects place (subst (λ (k : ℕ). place < k) are.count inside) in
    let own = (is.subjects.each place there.0 there.1).0 in
    empty_where_proved program plan.ends assumed there.0.entry.0 sites own.entry (are.each place sites at there.0 there.1) proved

-- the subject that is read in a place
pub subject_is : (subjects now : List Subject) (place : ℕ) (subject : Subject) → now ≡ subjects → place < length subjects → subject ≡ get_or now place subject → slice_get subjects place ≡ Some subject
subject_is subjects now place subject same inside is = read_at subjects place subject inside (subst (λ (xs : List Subject). subject ≡ get_or xs place subject) same is)
