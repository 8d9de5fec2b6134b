-- Rounds lead by cuts to an assumption on which no candidate acts.
use Rattle.std.proofs.Common.{◌≡◌, ⊎_elim, ℕ, ◌+◌, ◌≤◌, List, [], ◌∷◌, ◌++◌, length, refl, sym, ap, subst, arith, length-append, ◌∙◌}
use Rattle.std.specs.List.{Contains}
use Rattle.vmv_snapshot.specs.Resolution.{Resolution, IsResolution}
use Rattle.vmv_assumption.specs.Whole.{whole}
use Rattle.vmv_assumption.specs.Assumed.{Assumed}
use Rattle.vmv_assumption.specs.Change.{IsCut}
use Rattle.vmv_assumption.specs.Within.{IsBelow}
use Rattle.vmv_assumption.proofs.Pieces.{cut_below}
use Rattle.vmv_need.specs.declared.subject.Scope.{Scope}
use Rattle.vmv_need.specs.declared.candidate.Candidate.{Candidate}
use Rattle.vmv_need.specs.declared.cut.Cut.{Cut}
use Rattle.vmv_need.specs.Candidates.{candidates_of}
use Rattle.vmv_need.specs.Acts.{Meets, Acts, IsStable, IsNecessary, CutsLead}
use Rattle.vmv_need.specs.Rounds.{cut_of, IsTurn, AreTurns, AreRounds, HasCuts}
use Rattle.vmv_need.proofs.Lists.{none_in, first_in, later_in, first_or_later}
use Rattle.vmv_need.proofs.Lower.{lead_append, lead_ends_necessary}
use Rattle.vmv_need.proofs.Meeting.{meeting, meeting_fewer}

no_parts : {A : Type 0} (xs ys : List A) → [] ≡ xs ++ ys → (xs ≡ []) × (ys ≡ [])
no_parts [] ys e = (refl, sym e)
no_parts (x ∷ xs) ys e = absurd (cc)

module _ (program : Resolution) (scope : Scope) where
  -- a turn doesn't raise the running assumption
  pub turn_falls : (c : Candidate) (frozen running next : Assumed) (under : ℕ) (made : List Cut) → IsTurn (Acts program scope frozen c) under c running made next → IsBelow next running
  turn_falls c frozen running next under made turn =
      ⊎_elim
      (λ (acts : Acts program scope frozen c × Meets (running c.name) c.piece × IsCut running c.name c.piece next × (made ≡ cut_of under c ∷ [])). cut_below running next c.name c.piece acts.2)
      (λ (stays : (Acts program scope frozen c → Meets (running c.name) c.piece → ⊥) × (next ≡ running) × (made ≡ [])). subst (λ (a : Assumed). IsBelow a running) (sym stays.1) (λ name w h. h))
      turn

  turns_lead : (cs : List Candidate) (frozen running last : Assumed) (under : ℕ) (made : List Cut) → ((c : Candidate) → Contains cs c → Contains (candidates_of scope) c) → IsBelow running frozen →
      AreTurns (Acts program scope frozen) under cs running made last → (steps : List Candidate) × CutsLead program scope steps running last
  turns_lead [] frozen running last under made inside below turns = ([], turns.0)
  turns_lead (c ∷ cs) frozen running last under made inside below (next, first, rest, turn, turns, parts) =
      let more = turns_lead cs frozen next last under rest (λ d there. inside d (later_in c cs d there))
      (λ name w h. below name w (turn_falls c frozen running next under first turn name w h)) turns in
      ⊎_elim
      (λ (acts : Acts program scope frozen c × Meets (running c.name) c.piece × IsCut running c.name c.piece next × (first ≡ cut_of under c ∷ [])).
      (c ∷ more.0, (frozen, next, inside c (first_in c cs), below, acts.0, acts.2, more.1)))
      (λ (stays : (Acts program scope frozen c → Meets (running c.name) c.piece → ⊥) × (next ≡ running) × (first ≡ [])).
      (more.0, subst (λ (a : Assumed). CutsLead program scope more.0 a last) stays.1 more.1))
      turn

  -- a round that records nothing changes nothing, and no candidate acts
  silent_turns : (cs : List Candidate) (frozen running last : Assumed) (under : ℕ) (made : List Cut) → made ≡ [] → running ≡ frozen → AreTurns (Acts program scope frozen) under cs running made last →
      (last ≡ frozen) × ((c : Candidate) → Contains cs c → ¬ Acts program scope frozen c)
  silent_turns [] frozen running last under made none same turns = (turns.0 ∙ same, λ c there acts. none_in c there)
  silent_turns (c ∷ cs) frozen running last under made none same (next, first, rest, turn, turns, parts) =
      let empty = no_parts first rest (sym none ∙ parts) in
      ⊎_elim
      (λ (acts : Acts program scope frozen c × Meets (running c.name) c.piece × IsCut running c.name c.piece next × (first ≡ cut_of under c ∷ [])).
      absurd (let one = acts.3 in let nothing = empty.0 in cc))
      (λ (stays : (Acts program scope frozen c → Meets (running c.name) c.piece → ⊥) × (next ≡ running) × (first ≡ [])).
      let more = silent_turns cs frozen next last under rest empty.1 (stays.1 ∙ same) turns in (
        more.0,
        λ d there acts. ⊎_elim
            (λ (e : c ≡ d).
            let here : Acts program scope frozen c = subst (Acts program scope frozen) (sym e) acts in
            stays.0 here (subst (λ (a : Assumed). Meets (a c.name) c.piece) (sym same) here.meets))
            (λ (later : Contains cs d). more.1 d later acts)
            (first_or_later c cs d there),
      ))
      turn

  -- the recorded exclusions are no more than the candidates whose pieces don't meet any more
  pub turns_count : (all cs : List Candidate) (frozen running last : Assumed) (under : ℕ) (made : List Cut) → ((c : Candidate) → Contains cs c → Contains all c) →
      AreTurns (Acts program scope frozen) under cs running made last → length made + meeting all last ≤ meeting all running
  turns_count all [] frozen running last under made inside turns =
      let none = ap length turns.1 in
      let same = ap (meeting all) turns.0 in
      omega (arith, none, same)
  turns_count all (c ∷ cs) frozen running last under made inside (next, first, rest, turn, turns, parts) =
      let more = turns_count all cs frozen next last under rest (λ d there. inside d (later_in c cs d there)) turns in
      let joined = ap length parts ∙ length-append first rest in
      ⊎_elim
      (λ (acts : Acts program scope frozen c × Meets (running c.name) c.piece × IsCut running c.name c.piece next × (first ≡ cut_of under c ∷ [])).
      let one = ap length acts.3 in
      let fewer = meeting_fewer all running next c (cut_below running next c.name c.piece acts.2) (inside c (first_in c cs)) acts.1
      (λ met. ((acts.2.there met.0).0 met.1).1 met.2) in
      omega (arith, more, joined, one, fewer))
      (λ (stays : (Acts program scope frozen c → Meets (running c.name) c.piece → ⊥) × (next ≡ running) × (first ≡ [])).
      let none = ap length stays.2 in
      let same = ap (meeting all) stays.1 in
      omega (arith, more, joined, none, same))
      turn

  pub rounds_lead : (rounds : List (List Cut)) (first last : Assumed) (under : ℕ) → AreRounds program scope under first rounds last →
      (steps : List Candidate) × CutsLead program scope steps first last × IsStable program scope last
  rounds_lead [] first last under round =
      let silent = silent_turns (candidates_of scope) first first last under [] refl refl round in
      ([], silent.0, subst (IsStable program scope) (sym silent.0) silent.1)
  rounds_lead (made ∷ rounds) first last under (next, some, round, more) =
      let one = turns_lead (candidates_of scope) first first next under made (λ c there. there) (λ name w h. h) round in
      let rest = rounds_lead rounds next last (under + length made) more in
      (one.0 ++ rest.0, lead_append program scope one.0 rest.0 first next last one.1 rest.1, rest.2)

-- what the rounds end in is necessary
pub cuts_end_necessary : (program : Resolution) (scope : Scope) (last : Assumed) (cuts : List Cut) → IsResolution program → HasCuts program scope last cuts → IsNecessary program scope last
cuts_end_necessary program scope last cuts is (rounds, are, joined) =
    let lead = rounds_lead program scope rounds (λ name. whole) last 0 are in
    lead_ends_necessary program scope lead.0 last is lead.1 lead.2
