-- Each recorded exclusion was made by a candidate that acts, under the exclusions of earlier rounds.
use Rattle.std.proofs.Common.{◌≡◌, ◌⊎◌, inl, inr, ⊎_elim, ℕ, zero, suc, ◌+◌, ◌<◌, ◌≤◌, Some, List, [], ◌∷◌, ◌++◌, length, take, slice_get, refl, sym, ap, subst, ◌∙◌, arith, append_assoc, length-append}
use Rattle.std.specs.List.{Contains, flat_map}
use Rattle.std.proofs.lemmas.List.Elements.{Contains-append_cases}
use Rattle.vmv_snapshot.specs.Resolution.{Resolution}
use Rattle.vmv_assumption.specs.Whole.{whole}
use Rattle.vmv_assumption.specs.Assumed.{Assumed}
use Rattle.vmv_need.specs.declared.subject.Scope.{Scope}
use Rattle.vmv_need.specs.declared.candidate.Candidate.{Candidate}
use Rattle.vmv_need.specs.declared.cut.Cut.{Cut}
use Rattle.vmv_need.specs.Candidates.{candidates_of}
use Rattle.vmv_need.specs.Acts.{Acts}
use Rattle.vmv_need.specs.Rounds.{cut_of, IsTurn, AreTurns, AreRounds, HasCuts}
use Rattle.vmv_need.proofs.Lists.{none_in, first_in, later_in}
use Rattle.vmv_proving.specs.Exclusions.{IsCutBy}

-- the candidate that made the exclusion
abbrev pub candidate_of : Cut → Candidate
candidate_of cut = record { entry = cut.entry; within = cut.within; name = cut.name; piece = cut.piece }

only_one : {X : Type 0} (y x : X) → Contains (y ∷ []) x → y ≡ x
only_one y x (zero, within, is) = is
only_one y x (suc k, within, is) = absurd (omega (arith, within))

pub there_at : {X : Type 0} (xs : List X) (i : ℕ) (x : X) → slice_get xs i ≡ Some x → Contains xs x
there_at [] i x e = absurd (cc)
there_at (y ∷ xs) zero x e = (0, omega arith, cc)
there_at (y ∷ xs) (suc i) x e = let more = there_at xs i x e in let h = more.1 in (suc more.0, omega (arith, h), more.2)

-- a place in two lists, one behind the other, is one of the first, or of the second
place_in_two : {X : Type 0} (xs ys : List X) (i : ℕ) (x : X) → slice_get (xs ++ ys) i ≡ Some x → (slice_get xs i ≡ Some x × (i < length xs)) ⊎ ((j : ℕ) × (i ≡ length xs + j) × (slice_get ys j ≡ Some x))
place_in_two [] ys i x e = inr (i, omega arith, e)
place_in_two (z ∷ xs) ys zero x e = inl (e, omega arith)
place_in_two (z ∷ xs) ys (suc i) x e = ⊎_elim
    (λ (one : slice_get xs i ≡ Some x × (i < length xs)). let h = one.1 in inl (one.0, omega (arith, h)))
    (λ (other : (j : ℕ) × (i ≡ length xs + j) × (slice_get ys j ≡ Some x)). let h = other.1 in inr (other.0, omega (arith, h), other.2))
    (place_in_two xs ys i x e)

take_front : {X : Type 0} (xs ys : List X) → take (length xs) (xs ++ ys) ≡ xs
take_front [] ys = refl
take_front (x ∷ xs) ys = ap (λ (zs : List _). x ∷ zs) (take_front xs ys)

abbrev flat : List (List Cut) → List Cut
flat rounds = flat_map (λ made. made) rounds

pub cut_append : (xs ys : List Cut) (a b c : Assumed) → IsCutBy xs a b → IsCutBy ys b c → IsCutBy (xs ++ ys) a c
cut_append [] ys a b c h g = subst (λ (x : Assumed). IsCutBy ys x c) h g
cut_append (x ∷ xs) ys a b c (next, cut, h) g = (next, cut, cut_append xs ys next b c h g)

module _ (program : Resolution) (scope : Scope) where
  -- what a round records
  record IsMade (frozen : Assumed) (under : ℕ) (cut : Cut) : Type 0 where
    number : cut.under ≡ under
    among : Contains (candidates_of scope) (candidate_of cut)
    acts : Acts program scope frozen (candidate_of cut)

  made_by : (frozen running next : Assumed) (under : ℕ) (c : Candidate) (made : List Cut) (cut : Cut) → Contains (candidates_of scope) c → IsTurn (Acts program scope frozen c) under c running made next → Contains made cut → IsMade frozen under cut
  made_by frozen running next under c made cut there (inl (acts, meets, is, one)) in' =
      let same : cut_of under c ≡ cut = only_one (cut_of under c) cut (subst (λ (xs : List Cut). Contains xs cut) one in') in
      let here : IsMade frozen under (cut_of under c) = record { number = refl; among = there; acts = acts } in
      subst (IsMade frozen under) same here
  made_by frozen running next under c made cut there (inr (off, same, none)) in' = absurd (none_in cut (subst (λ (xs : List Cut). Contains xs cut) none in'))

  turns_made : (cs : List Candidate) (frozen running last : Assumed) (under : ℕ) (made : List Cut) (cut : Cut) → ((c : Candidate) → Contains cs c → Contains (candidates_of scope) c) → AreTurns (Acts program scope frozen) under cs running made last →
      Contains made cut → IsMade frozen under cut
  turns_made [] frozen running last under made cut inside turns there = absurd (none_in cut (subst (λ (xs : List Cut). Contains xs cut) turns.1 there))
  turns_made (c ∷ cs) frozen running last under made cut inside (next, first, rest, turn, turns, parts) there =
      ⊎_elim
      (λ (here : Contains first cut). made_by frozen running next under c first cut (inside c (first_in c cs)) turn here)
      (λ (later : Contains rest cut). turns_made cs frozen next last under rest cut (λ d h. inside d (later_in c cs d h)) turns later)
      (Contains-append_cases first rest cut (subst (λ (xs : List Cut). Contains xs cut) parts there))

  turns_cut : (cs : List Candidate) (frozen running last : Assumed) (under : ℕ) (made : List Cut) → AreTurns (Acts program scope frozen) under cs running made last → IsCutBy made running last
  turns_cut [] frozen running last under made turns = subst (λ (m : List Cut). IsCutBy m running last) (sym turns.1) turns.0
  turns_cut (c ∷ cs) frozen running last under made (next, first, rest, turn, turns, parts) =
      let more = turns_cut cs frozen next last under rest turns in
      subst (λ (m : List Cut). IsCutBy m running last) (sym parts) (by turn more)
    where
      by : IsTurn (Acts program scope frozen c) under c running first next → IsCutBy rest next last → IsCutBy (first ++ rest) running last
      by (inl (acts, meets, is, one)) more = subst (λ (f : List Cut). IsCutBy (f ++ rest) running last) (sym one) (next, is, more)
      by (inr (off, same, none)) more = subst (λ (f : List Cut). IsCutBy (f ++ rest) running last) (sym none) (subst (λ (a : Assumed). IsCutBy rest a last) same more)

  rounds_cut : (rounds : List (List Cut)) (under : ℕ) (first last : Assumed) → AreRounds program scope under first rounds last → IsCutBy (flat rounds) first last
  rounds_cut [] under first last round = turns_cut (candidates_of scope) first first last under [] round
  rounds_cut (made ∷ rounds) under first last (next, some, round, more) =
      cut_append made (flat rounds) first next last (turns_cut (candidates_of scope) first first next under made round) (rounds_cut rounds (under + length made) next last more)

  -- the exclusion at this place is made by a candidate that acts on the whole conditions, cut by those before its round
  pub record IsRecorded (cuts : List Cut) (place : ℕ) (cut : Cut) : Type 0 where
    pub before : cut.under ≤ place
    pub among : Contains (candidates_of scope) (candidate_of cut)
    pub frozen : Assumed
    pub frozen_is : IsCutBy (take cut.under cuts) (λ name. whole) frozen
    pub acts : Acts program scope frozen (candidate_of cut)

  rounds_recorded : (rounds : List (List Cut)) (prior : List Cut) (under : ℕ) (first last : Assumed) → under ≡ length prior → IsCutBy prior (λ name. whole) first → AreRounds program scope under first rounds last →
      (all : List Cut) → all ≡ prior ++ flat rounds → (i : ℕ) (cut : Cut) → slice_get (flat rounds) i ≡ Some cut → IsRecorded all (under + i) cut
  rounds_recorded [] prior under first last size led rounds all parts i cut at = absurd (cc)
  rounds_recorded (made ∷ rounds) prior under first last size led (next, some, round, more) all parts i cut at =
      ⊎_elim
      (λ (here : slice_get made i ≡ Some cut × (i < length made)).
      let m = turns_made (candidates_of scope) first first next under made cut (λ c h. h) round (there_at made i cut here.0) in
      let number : cut.under ≡ length prior = m.number ∙ size in
      let front : take cut.under all ≡ prior = (λ k. take (number k) (parts k)) ∙ take_front prior (made ++ flat rounds) in
      let low = m.number in
      record { before = omega (arith, low); among = m.among; frozen = first; frozen_is = subst (λ (xs : List Cut). IsCutBy xs (λ name. whole) first) (sym front) led; acts = m.acts })
      (λ (later : (j : ℕ) × (i ≡ length made + j) × (slice_get (flat rounds) j ≡ Some cut)).
      let joined = length-append prior made in
      let h = later.1 in
      let r =
      rounds_recorded rounds (prior ++ made) (under + length made) next last (omega (arith, joined, size)) (cut_append prior made (λ name. whole) first next led (turns_cut (candidates_of scope) first first next under made round)) more
      all (parts ∙ sym (append_assoc prior made (flat rounds))) later.0 cut later.2 in
      let low = r.before in
      record { before = omega (arith, low, h); among = r.among; frozen = r.frozen; frozen_is = r.frozen_is; acts = r.acts })
      (place_in_two made (flat rounds) i cut at)

  rounds_from : (rounds : List (List Cut)) (under : ℕ) (first last : Assumed) → AreRounds program scope under first rounds last → (i : ℕ) (cut : Cut) → slice_get (flat rounds) i ≡ Some cut → under ≤ cut.under
  rounds_from [] under first last rounds i cut at = absurd (cc)
  rounds_from (made ∷ rounds) under first last (next, some, round, more) i cut at =
      ⊎_elim
      (λ (here : slice_get made i ≡ Some cut × (i < length made)).
      let m = turns_made (candidates_of scope) first first next under made cut (λ c h. h) round (there_at made i cut here.0) in
      let same = m.number in omega (arith, same))
      (λ (later : (j : ℕ) × (i ≡ length made + j) × (slice_get (flat rounds) j ≡ Some cut)).
      let r = rounds_from rounds (under + length made) next last more later.0 cut later.2 in omega (arith, r))
      (place_in_two made (flat rounds) i cut at)

  rounds_order : (rounds : List (List Cut)) (under : ℕ) (first last : Assumed) → AreRounds program scope under first rounds last → (i j : ℕ) (one other : Cut) → i ≤ j → slice_get (flat rounds) i ≡ Some one → slice_get (flat rounds) j ≡ Some other →
      one.under ≤ other.under
  rounds_order [] under first last rounds i j one other order at at' = absurd (cc)
  rounds_order (made ∷ rounds) under first last (next, some, round, more) i j one other order at at' =
      ⊎_elim
      (λ (here : slice_get made i ≡ Some one × (i < length made)).
      let m = turns_made (candidates_of scope) first first next under made one (λ c h. h) round (there_at made i one here.0) in
      let same = m.number in
      let low = rounds_from (made ∷ rounds) under first last (next, some, round, more) j other at' in
      omega (arith, same, low))
      (λ (later : (k : ℕ) × (i ≡ length made + k) × (slice_get (flat rounds) k ≡ Some one)).
      ⊎_elim
      (λ (here : slice_get made j ≡ Some other × (j < length made)). let h = here.1 in let g = later.1 in absurd (omega (arith, h, g, order)))
      (λ (later' : (k : ℕ) × (j ≡ length made + k) × (slice_get (flat rounds) k ≡ Some other)).
      let h = later.1 in
      let g = later'.1 in
      rounds_order rounds (under + length made) next last more later.0 later'.0 one other (omega (arith, h, g, order)) later.2 later'.2)
      (place_in_two made (flat rounds) j other at'))
      (place_in_two made (flat rounds) i one at)

  module _ (last : Assumed) (cuts : List Cut) (has : HasCuts program scope last cuts) where
    -- cut by all, the whole conditions become what the rounds end in
    pub all_cut : IsCutBy cuts (λ name. whole) last
    all_cut = subst (λ (xs : List Cut). IsCutBy xs (λ name. whole) last) (sym has.2) (rounds_cut has.0 0 (λ name. whole) last has.1)

    pub each_recorded : (i : ℕ) (cut : Cut) → slice_get cuts i ≡ Some cut → IsRecorded cuts i cut
    each_recorded i cut at =
        let r = rounds_recorded has.0 [] 0 (λ name. whole) last refl refl has.1 cuts has.2 i cut (ap (λ (xs : List Cut). slice_get xs i) (sym has.2) ∙ at) in
        let zero_more : 0 + i ≡ i = omega arith in
        subst (λ k. IsRecorded cuts k cut) zero_more r

    -- later exclusions aren't judged under fewer
    pub in_order : (i j : ℕ) (one other : Cut) → i ≤ j → slice_get cuts i ≡ Some one → slice_get cuts j ≡ Some other → one.under ≤ other.under
    in_order i j one other order at at' =
        rounds_order has.0 0 (λ name. whole) last has.1 i j one other order (ap (λ (xs : List Cut). slice_get xs i) (sym has.2) ∙ at) (ap (λ (xs : List Cut). slice_get xs j) (sym has.2) ∙ at')
