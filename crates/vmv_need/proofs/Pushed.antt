-- The turns of a round, one after the other.
use Rattle.std.proofs.Common.{◌≡◌, ◌≢◌, ◌↔◌, inl, inr, ⊎_elim, ℕ, suc, ◌+◌, ◌<◌, ◌≤◌, Bool, true, false, if◌then◌else◌, IsTrue, Some, List, [], ◌∷◌, ◌++◌, length, take, get_or, refl, sym, ap, subst, ◌∙◌, arith, append_assoc, append-nil, length-append}
use Rattle.std.specs.List.{flat_map}
use Rattle.std.proofs.lemmas.Grind.{flat_map-append}
use Rattle.std.proofs.lemmas.List.{take_all}
use Rattle.std.proofs.lemmas.Option.{slice_get-get_or}
use Rattle.vmv_crew.specs.Answers.{AnswersInOrder}
use Rattle.vmv_crew.proofs.AnswersLemmas.{answer_at}
use Rattle.vmv_snapshot.specs.Resolution.{Resolution}
use Rattle.vmv_tree.specs.declared.name.Name.{Name}
use Rattle.vmv_assumption.specs.Whole.{whole}
use Rattle.vmv_assumption.specs.Assumed.{Assumed}
use Rattle.vmv_assumption.specs.Change.{IsCut}
use Rattle.vmv_need.specs.declared.subject.Scope.{Scope}
use Rattle.vmv_need.specs.declared.candidate.Candidate.{Candidate}
use Rattle.vmv_need.specs.declared.cut.Cut.{Cut}
use Rattle.vmv_need.specs.Candidates.{candidates_of}
use Rattle.vmv_need.specs.Acts.{Meets}
use Rattle.vmv_need.specs.Rounds.{cut_of, IsTurn, AreTurns, IsRound, AreRounds, HasCuts}
use Rattle.vmv_need.specs.Plan.{IsJudged, AreJudged}
use Rattle.vmv_need.proofs.Lists.{take_at}
use Rattle.vmv_need.proofs.Meeting.{meets_in, meeting}
use Rattle.vmv_need.proofs.Turns.{turns_count}

-- a turn that changes nothing
pub no_turn : (acts : Type 0) (under : ℕ) (c : Candidate) (running : Assumed) (cuts : List Cut) → (acts → Meets (running c.name) c.piece → ⊥) → (made : List Cut) × IsTurn acts under c running made running × (cuts ≡ cuts ++ made)
no_turn acts under c running cuts never = ([], inr (never, refl, refl), sym (append-nil cuts))

-- the same turn where the same candidates act
pub turn_along : (a b : Type 0) (under : ℕ) (c : Candidate) (running next : Assumed) (made : List Cut) → a ↔ b → IsTurn a under c running made next → IsTurn b under c running made next
turn_along a b under c running next made same turn =
    ⊎_elim
    (λ (acts : a × Meets (running c.name) c.piece × IsCut running c.name c.piece next × (made ≡ cut_of under c ∷ [])). inl (same.0 acts.0, acts.1, acts.2, acts.3))
    (λ (stays : (a → Meets (running c.name) c.piece → ⊥) × (next ≡ running) × (made ≡ [])). inr ((λ p. stays.0 (same.1 p)), stays.1, stays.2))
    turn

-- one more turn
pub turns_push : (acts : Candidate → Type 0) (under : ℕ) (cs : List Candidate) (c : Candidate) (first mid last : Assumed) (made more : List Cut) → AreTurns acts under cs first made mid → IsTurn (acts c) under c mid more last →
    AreTurns acts under (cs ++ c ∷ []) first (made ++ more) last
turns_push acts under [] c first mid last made more turns turn =
    (last, more, [], subst (λ (a : Assumed). IsTurn (acts c) under c a more last) turns.0 turn, (refl, refl), ap (λ (ms : List Cut). ms ++ more) turns.1 ∙ sym (append-nil more))
turns_push acts under (d ∷ cs) c first mid last made more (next, one, rest, t, turns, parts) turn =
    (next, one, rest ++ more, t, turns_push acts under cs c next mid last rest more turns turn, ap (λ (ms : List Cut). ms ++ more) parts ∙ append_assoc one rest more)

-- answers in the order of the places, one for each, are those of all
pub all_judged : {A : Type 0} (acts : A → Type 0) (cs : List A) (answers told : List Bool) (n : ℕ) → n ≡ length cs → told ≡ answers → AnswersInOrder (IsJudged acts cs) 0 n answers → length answers ≡ n → AreJudged acts cs told
all_judged acts cs answers told n all same order count = subst (λ (xs : List Bool). AreJudged acts cs xs) (sym same) (record {
  count = count ∙ all;
  each = λ place answer at.
      let here : 0 + place ≡ place = omega arith in
      subst (λ (i : ℕ). IsJudged acts cs i answer) here (answer_at (IsJudged acts cs) 0 n answers order place answer at);
})

-- of one that is judged not to be so it doesn't hold
pub not_judged : {A : Type 0} (P : A → Type 0) (xs : List A) (answers : List Bool) (place : ℕ) (x : A) (answer : Bool) → AreJudged P xs answers → place < length xs → x ≡ get_or xs place x → answer ≡ get_or answers place answer → answer ≡ false → ¬ P x
not_judged P xs answers place x answer judged inside at judged_at not holds =
    let count = judged.count in
    let there : place < length answers = omega (arith, inside, count) in
    let so = judged.each place answer (slice_get-get_or answers place answer there ∙ ap Some (sym judged_at)) x (slice_get-get_or xs place x inside ∙ ap Some (sym at)) in
    let e : false ≡ true = subst (λ (b : Bool). IsTrue b) not (so.1 holds) in absurd (cc)

-- the turn of the candidate at a place, as it is judged
pub turn_at : (acts : Candidate → Type 0) (cs : List Candidate) (answers : List Bool) (place under : ℕ) (c : Candidate) (answer : Bool) (first mid last : Assumed) (before cuts more : List Cut) → AreJudged acts cs answers → place < length cs →
    c ≡ get_or cs place c → answer ≡ get_or answers place answer →
    (made : List Cut) × AreTurns acts under (take place cs) first made mid × (cuts ≡ before ++ made) → (made : List Cut) × IsTurn (IsTrue answer) under c mid made last × (more ≡ cuts ++ made) →
    (made : List Cut) × AreTurns acts under (take (place + 1) cs) first made last × (more ≡ before ++ made)
turn_at acts cs answers place under c answer first mid last before cuts more judged inside at judged_at (made, turns, so_far) (one, turn, now) =
    let count = judged.count in
    let there : place < length answers = omega (arith, inside, count) in
    let acts_is = judged.each place answer (slice_get-get_or answers place answer there ∙ ap Some (sym judged_at)) c (slice_get-get_or cs place c inside ∙ ap Some (sym at)) in (
      made ++ one,
      subst (λ (xs : List Candidate). AreTurns acts under xs first (made ++ one) last) (sym (take_at cs place c inside at))
          (turns_push acts under (take place cs) c first mid last made one turns (turn_along (IsTrue answer) (acts c) under c mid last one acts_is turn)),
      now ∙ ap (λ (xs : List Cut). xs ++ one) so_far ∙ append_assoc before made one,
    )

pub all_turns : (acts : Candidate → Type 0) (cs all : List Candidate) (place under : ℕ) (first last : Assumed) (before cuts : List Cut) → length cs ≤ place → cs ≡ all →
    (made : List Cut) × AreTurns acts under (take place cs) first made last × (cuts ≡ before ++ made) → (made : List Cut) × AreTurns acts under all first made last × (cuts ≡ before ++ made)
all_turns acts cs all place under first last before cuts over same (made, turns, so_far) =
    (made, subst (λ (xs : List Candidate). AreTurns acts under xs first made last) (take_all place cs over ∙ same) turns, so_far)

abbrev pub flat : List (List Cut) → List Cut
flat rounds = flat_map (λ made. made) rounds

module _ (program : Resolution) (scope : Scope) where
  -- rounds so far, each of which records something
  abbrev pub RoundsTo : (under : ℕ) → Assumed → List (List Cut) → Assumed → Type 0
  RoundsTo under first [] last = last ≡ first
  RoundsTo under first (made ∷ rounds) last = (next : Assumed) × (made ≢ []) × IsRound program scope under first made next × RoundsTo (under + length made) next rounds last

  rounds_push : (under : ℕ) (rounds : List (List Cut)) (first mid last : Assumed) (made : List Cut) → RoundsTo under first rounds mid → made ≢ [] → IsRound program scope (under + length (flat rounds)) mid made last →
      RoundsTo under first (rounds ++ made ∷ []) last
  rounds_push under [] first mid last made to some round =
      let P : ℕ → Type 0 = λ n. IsRound program scope n first made last in
      (last, some, subst P (omega arith) (subst (λ (a : Assumed). IsRound program scope (under + 0) a made last) to round), refl)
  rounds_push under (one ∷ rounds) first mid last made (next, more, here, to) some round =
      let joined = length-append one (flat rounds) in
      let P : ℕ → Type 0 = λ n. IsRound program scope n mid made last in
      (next, more, here, rounds_push (under + length one) rounds next mid last made to some (subst P (omega (arith, joined)) round))

  rounds_last : (under : ℕ) (rounds : List (List Cut)) (first mid last : Assumed) → RoundsTo under first rounds mid → IsRound program scope (under + length (flat rounds)) mid [] last → AreRounds program scope under first rounds last
  rounds_last under [] first mid last to round =
      let P : ℕ → Type 0 = λ n. IsRound program scope n first [] last in
      subst P (omega arith) (subst (λ (a : Assumed). IsRound program scope (under + 0) a [] last) to round)
  rounds_last under (one ∷ rounds) first mid last (next, more, here, to) round =
      let joined = length-append one (flat rounds) in
      let P : ℕ → Type 0 = λ n. IsRound program scope n mid [] last in
      (next, more, here, rounds_last (under + length one) rounds next mid last to (subst P (omega (arith, joined)) round))

  -- what the rounds have come to
  pub record IsSoFar (assumed : Assumed) (cuts : List Cut) : Type 0 where
    pub rounds : List (List Cut)
    pub to : RoundsTo 0 (λ name. whole) rounds assumed
    pub joined : cuts ≡ flat rounds
    pub few : length cuts + meeting (candidates_of scope) assumed ≤ length (candidates_of scope)

  meeting_few : (cs : List Candidate) (a : Assumed) → meeting cs a ≤ length cs
  meeting_few [] a = omega arith
  meeting_few (c ∷ cs) a = by (meets_in a c) (meeting_few cs a)
    where
      by : (b : Bool) → meeting cs a ≤ length cs → (if b then 1 else 0) + meeting cs a ≤ suc (length cs)
      by true h = omega (arith, h)
      by false h = omega (arith, h)

  pub at_first : (assumed : Assumed) (cuts : List Cut) → ((name : Name) → assumed name ≡ whole) → cuts ≡ [] → IsSoFar assumed cuts
  at_first assumed cuts is_whole none =
      let same : assumed ≡ (λ name. whole) = λ i name. is_whole name i in
      let zero_cuts = ap length none in
      record { rounds = []; to = same; joined = none; few = let m = meeting_few (candidates_of scope) assumed in omega (arith, m, zero_cuts) }

  pub round_counts : (under : ℕ) (frozen last : Assumed) (made : List Cut) → IsRound program scope under frozen made last → length made + meeting (candidates_of scope) last ≤ meeting (candidates_of scope) frozen
  round_counts under frozen last made round = turns_count program scope (candidates_of scope) (candidates_of scope) frozen frozen last under made (λ c there. there) round

  not_none : (made : List Cut) → (length made ≡ 0 → ⊥) → made ≢ []
  not_none made some e = some (ap length e)

  none_of : (made : List Cut) → length made ≡ 0 → made ≡ []
  none_of [] e = refl
  none_of (x ∷ made) e = absurd (omega (arith, e))

  pub one_round_more : (frozen next : Assumed) (cuts more : List Cut) → IsSoFar frozen cuts → (made : List Cut) × IsRound program scope (length cuts) frozen made next × (more ≡ cuts ++ made) → (length more ≡ length cuts → ⊥) → IsSoFar next more
  one_round_more frozen next cuts more so_far (made, round, now) some =
      let longer = ap length now ∙ length-append cuts made in
      let counts = round_counts (length cuts) frozen next made round in
      let few = so_far.few in
      let P : ℕ → Type 0 = λ n. IsRound program scope n frozen made next in
      record {
        rounds = so_far.rounds ++ made ∷ [];
        to = rounds_push 0 so_far.rounds (λ name. whole) frozen next made so_far.to (not_none made (λ e. some (omega (arith, longer, e)))) (subst P (ap length so_far.joined ∙ zero-add' (length (flat so_far.rounds))) round);
        joined = now ∙ ap (λ (xs : List Cut). xs ++ made) so_far.joined ∙ (ap (λ (xs : List Cut). flat so_far.rounds ++ xs) (sym (append-nil made)) ∙ sym (flat_map-append (λ (m : List Cut). m) so_far.rounds (made ∷ [])));
        few = omega (arith, longer, counts, few);
      }
    where
      zero-add' : (n : ℕ) → n ≡ 0 + n
      zero-add' n = omega arith

  -- the measure of the rounds falls
  pub fewer_meet : (frozen next : Assumed) (cuts more : List Cut) → (made : List Cut) × IsRound program scope (length cuts) frozen made next × (more ≡ cuts ++ made) → (length more ≡ length cuts → ⊥) →
      meeting (candidates_of scope) next < meeting (candidates_of scope) frozen
  fewer_meet frozen next cuts more (made, round, now) some =
      let longer = ap length now ∙ length-append cuts made in
      let counts = round_counts (length cuts) frozen next made round in
      let none : length made ≡ 0 → ⊥ = λ e. some (omega (arith, longer, e)) in
      omega (arith, counts, none)

  pub at_last : (frozen last : Assumed) (cuts more : List Cut) → IsSoFar frozen cuts → (made : List Cut) × IsRound program scope (length cuts) frozen made last × (more ≡ cuts ++ made) → length more ≡ length cuts → HasCuts program scope last more
  at_last frozen last cuts more so_far (made, round, now) same =
      let longer = ap length now ∙ length-append cuts made in
      let none : made ≡ [] = none_of made (omega (arith, longer, same)) in
      let P : ℕ → Type 0 = λ n. IsRound program scope n frozen [] last in
      let Q : List Cut → Type 0 = λ m. IsRound program scope (length cuts) frozen m last in (
        so_far.rounds,
        rounds_last 0 so_far.rounds (λ name. whole) frozen last so_far.to (subst P (ap length so_far.joined ∙ zero-add' (length (flat so_far.rounds))) (subst Q none round)),
        now ∙ ap (λ (xs : List Cut). cuts ++ xs) none ∙ (append-nil cuts ∙ so_far.joined),
      )
    where
      zero-add' : (n : ℕ) → n ≡ 0 + n
      zero-add' n = omega arith
