-- Some cuts lead to a stable assumption, so safe environments meet the necessary conditions.
use Rattle.std.proofs.Common.{◌≡◌, ◌≢◌, inl, inr, ◌⊎◌, ⊎_elim, ℕ, zero, suc, ◌<◌, ◌≤◌, ℤ, List, [], ◌∷◌, refl, sym, subst, arith}
use Rattle.std.specs.List.{Contains}
use Rattle.std.proofs.lemmas.List.Elements.{All-contains}
use Rattle.vmv_tree.specs.declared.name.Name.{Name}
use Rattle.vmv_tree.specs.Words.{IsWord}
use Rattle.vmv_tree.specs.Tree.{Item, outside, helper, entry}
use Rattle.vmv_tree.specs.Safe.{Environment, words_of, Covers, Safe}
use Rattle.vmv_snapshot.specs.Procs.{outsides}
use Rattle.vmv_snapshot.specs.Resolution.{Resolution, IsResolution, tree_of}
use Rattle.vmv_assumption.specs.Whole.{whole}
use Rattle.vmv_assumption.specs.Assumed.{Assumed}
use Rattle.vmv_assumption.specs.Within.{IsWithin}
use Rattle.vmv_assumption.proofs.Pieces.{cut_below}
use Rattle.vmv_forward.proofs.Stable.{holds_stably}
use Rattle.vmv_need.specs.declared.subject.Scope.{Scope}
use Rattle.vmv_need.specs.declared.candidate.Candidate.{Candidate}
use Rattle.vmv_need.specs.Candidates.{candidates_of}
use Rattle.vmv_need.specs.Acts.{Acts, IsStable, IsNecessary, CutsLead}
use Rattle.vmv_need.specs.Vacuous.{IsVacuous}
use Rattle.vmv_need.proofs.Lists.{none_in, first_in, later_in, first_or_later}
use Rattle.vmv_need.proofs.Kept.{cut_exists}
use Rattle.vmv_need.proofs.TableLaws.{bases_avoided}
use Rattle.vmv_need.proofs.Lower.{lead_keeps_safe, lead_ends_necessary, words_whole}
use Rattle.vmv_need.proofs.Meeting.{meeting, meeting_fewer}

module _ (program : Resolution) (scope : Scope) where
  -- one of these acts, or none does
  some_or_none : (cs : List Candidate) (a : Assumed) → ¬ (¬ (((c : Candidate) → Contains cs c → ¬ Acts program scope a c) ⊎ ((c : Candidate) × Contains cs c × Acts program scope a c)))
  some_or_none [] a never = never (inl (λ c there acts. none_in c there))
  some_or_none (d ∷ cs) a never =
      some_or_none cs a (λ either. ⊎_elim
      (λ (none : (c : Candidate) → Contains cs c → ¬ Acts program scope a c).
      never (inl (λ c there acts. ⊎_elim
      (λ (e : d ≡ c). never (inr (d, first_in d cs, subst (Acts program scope a) (sym e) acts)))
      (λ (later : Contains cs c). none c later acts)
      (first_or_later d cs c there))))
      (λ (some : (c : Candidate) × Contains cs c × Acts program scope a c). never (inr (some.0, later_in d cs some.0 some.1, some.2)))
      either)

  abbrev LeadsToStable : Assumed → Type 0
  LeadsToStable first = (steps : List Candidate) × (last : Assumed) × CutsLead program scope steps first last × IsStable program scope last

  fewer : (first : Assumed) (c : Candidate) → Contains (candidates_of scope) c → Acts program scope first c → meeting (candidates_of scope) (cut_exists first c.name c.piece).0 < meeting (candidates_of scope) first
  fewer first c there acts =
      let cut = cut_exists first c.name c.piece in
      meeting_fewer (candidates_of scope) first cut.0 c (cut_below first cut.0 c.name c.piece cut.1) there acts.meets (λ met. ((cut.1.there met.0).0 met.1).1 met.2)

  leads_on : (k : ℕ) (first : Assumed) → meeting (candidates_of scope) first ≤ k → ¬ (¬ LeadsToStable first)
  leads_on zero first few never =
      some_or_none (candidates_of scope) first (λ either. ⊎_elim
      (λ (none : IsStable program scope first). never ([], first, refl, none))
      (λ (some : (c : Candidate) × Contains (candidates_of scope) c × Acts program scope first c). absurd (omega (arith, few, fewer first some.0 some.1 some.2)))
      either)
  leads_on (suc k) first few never =
      some_or_none (candidates_of scope) first (λ either. ⊎_elim
      (λ (none : IsStable program scope first). never ([], first, refl, none))
      (λ (some : (c : Candidate) × Contains (candidates_of scope) c × Acts program scope first c).
      let cut = cut_exists first some.0.name some.0.piece in
      leads_on k cut.0 (omega (arith, few, fewer first some.0 some.1 some.2))
      (λ more. never (some.0 ∷ more.0, more.1, (first, cut.0, some.1, (λ name w h. h), some.2, cut.1, more.2), more.3)))
      either)

  pub safe_within : (a : Assumed) (env : Environment) → IsResolution program → IsNecessary program scope a → Covers env (tree_of program) → Safe env (tree_of program) → IsWithin env a
  safe_within a env is necessary covers safe name word fits there =
      holds_stably (a name) word (λ none. leads_on (meeting (candidates_of scope) (λ name. whole)) (λ name. whole) (omega arith)
      (λ found.
      let last = lead_ends_necessary program scope found.0 found.1 is found.2 found.3 in
      let within = lead_keeps_safe program scope found.0 (λ name. whole) found.1 env is found.2 covers safe (λ name w fits there. words_whole w fits) in
      none (necessary.greatest found.1 last.words found.3 name word (within name word fits there))))

  declared : (items : List Item) (name : Name) → Contains (outsides items) name → (arity : ℤ) × Contains items (outside name arity)
  declared [] name there = absurd (none_in name there)
  declared (outside f arity ∷ items) name there =
      ⊎_elim (λ (e : f ≡ name). (arity, subst (λ (g : Name). Contains (outside f arity ∷ items) (outside g arity)) e (first_in (outside f arity) items)))
      (λ (later : Contains (outsides items) name). let more = declared items name later in (more.0, later_in (outside f arity) items (outside name more.0) more.1))
      (first_or_later f (outsides items) name there)
  declared (helper f params body ∷ items) name there =
      let more = declared items name there in (more.0, later_in (helper f params body) items (outside name more.0) more.1)
  declared (entry f params body ∷ items) name there =
      let more = declared items name there in (more.0, later_in (entry f params body) items (outside name more.0) more.1)

  has_word : (words : List ℤ) → words ≢ [] → (w : ℤ) × Contains words w
  has_word [] some = absurd (some refl)
  has_word (w ∷ words) some = (w, first_in w words)

  pub none_is_safe : (a : Assumed) (env : Environment) → IsResolution program → IsWithin env a → IsVacuous program scope a → Covers env (tree_of program) → Safe env (tree_of program) → ⊥
  none_is_safe a env is within (inl (name, there, empty)) covers safe =
      let item = declared (tree_of program) name there in
      let has = covers name item.0 item.1 in
      let word = has_word (words_of env name) has.0 in
      empty word.0 (within name word.0 (All-contains IsWord (words_of env name) word.0 has.1 word.1) word.1)
  none_is_safe a env is within (inr (place, there, dead)) covers safe =
      bases_avoided program place.0.0 place.1 scope.ends a env is dead covers within safe

  pub some_necessary : IsResolution program → ¬ (¬ ((a : Assumed) × IsNecessary program scope a))
  some_necessary is none =
      leads_on (meeting (candidates_of scope) (λ name. whole)) (λ name. whole) (omega arith)
      (λ found. none (found.1, lead_ends_necessary program scope found.0 found.1 is found.2 found.3))
