-- Rounds go one way.
use Rattle.std.proofs.Common.{◌≡◌, inl, inr, ◌+◌, ℕ, List, [], ◌∷◌, ◌++◌, length, refl, sym, ap, subst, ◌∙◌}
use Rattle.std.specs.List.{flat_map}
use Rattle.vmv_tree.specs.declared.name.Name.{Name}
use Rattle.vmv_cond.specs.declared.cond.Piece.{Piece}
use Rattle.vmv_cond.specs.Cond.{IsSubset}
use Rattle.vmv_cond.proofs.Same.{same_words}
use Rattle.vmv_snapshot.specs.Resolution.{Resolution}
use Rattle.vmv_assumption.specs.Whole.{whole}
use Rattle.vmv_assumption.specs.Assumed.{Assumed}
use Rattle.vmv_assumption.specs.Change.{IsCut}
use Rattle.vmv_assumption.proofs.Names.{by_name}
use Rattle.vmv_need.specs.declared.subject.Scope.{Scope}
use Rattle.vmv_need.specs.declared.candidate.Candidate.{Candidate}
use Rattle.vmv_need.specs.declared.cut.Cut.{Cut}
use Rattle.vmv_need.specs.Candidates.{candidates_of}
use Rattle.vmv_need.specs.Acts.{Acts}
use Rattle.vmv_need.specs.Rounds.{IsTurn, AreTurns, IsRound, AreRounds, HasCuts}
use Rattle.vmv_need.proofs.Kept.{moved}

cut_within : (a b c : Assumed) (f : Name) (piece : Piece) → IsCut a f piece b → IsCut a f piece c → (name : Name) → IsSubset (b name) (c name)
cut_within a b c f piece k l =
    by_name {P = λ name. IsSubset (b name) (c name)} f (λ w h. (l.there w).1 ((k.there w).0 h))
    (λ name other w h. moved (b name) (c name) (k.elsewhere name other ∙ sym (l.elsewhere name other)) w h)

pub cut_once : (a b c : Assumed) (f : Name) (piece : Piece) → IsCut a f piece b → IsCut a f piece c → b ≡ c
cut_once a b c f piece k l = λ i name. same_words (b name) (c name) (cut_within a b c f piece k l name) (cut_within a c b f piece l k name) i

-- the same exclusions, and the same assumption
abbrev AreSame : List Cut → List Cut → Assumed → Assumed → Type 0
AreSame made other next last = (made ≡ other) × (next ≡ last)

turn_once : (acts : Type 0) (under : ℕ) (c : Candidate) (running next last : Assumed) (made other : List Cut) → IsTurn acts under c running made next → IsTurn acts under c running other last → AreSame made other next last
turn_once acts under c running next last made other (inl a) (inl b) = (a.3 ∙ sym b.3, cut_once running next last c.name c.piece a.2 b.2)
turn_once acts under c running next last made other (inl a) (inr b) = absurd (b.0 a.0 a.1)
turn_once acts under c running next last made other (inr a) (inl b) = absurd (a.0 b.0 b.1)
turn_once acts under c running next last made other (inr a) (inr b) = (a.2 ∙ sym b.2, a.1 ∙ sym b.1)

turns_once : (acts : Candidate → Type 0) (under : ℕ) (cs : List Candidate) (running next last : Assumed) (made other : List Cut) → AreTurns acts under cs running made next → AreTurns acts under cs running other last →
    AreSame made other next last
turns_once acts under [] running next last made other a b = (a.1 ∙ sym b.1, a.0 ∙ sym b.0)
turns_once acts under (c ∷ cs) running next last made other (mid, first, rest, turn, turns, parts) (mid', first', rest', turn', turns', parts') =
    let one = turn_once (acts c) under c running mid mid' first first' turn turn' in
    let more = turns_once acts under cs mid' next last rest rest' (subst (λ (a : Assumed). AreTurns acts under cs a rest next) one.1 turns) turns' in
    (parts ∙ (λ i. one.0 i ++ more.0 i) ∙ sym parts', more.1)

module _ (program : Resolution) (scope : Scope) where
  round_once : (under : ℕ) (frozen next last : Assumed) (made other : List Cut) → IsRound program scope under frozen made next → IsRound program scope under frozen other last → AreSame made other next last
  round_once under frozen next last made other a b = turns_once (Acts program scope frozen) under (candidates_of scope) frozen next last made other a b

  rounds_once : (under : ℕ) (first last end : Assumed) (rounds others : List (List Cut)) → AreRounds program scope under first rounds last → AreRounds program scope under first others end → rounds ≡ others
  rounds_once under first last end [] [] a b = refl
  rounds_once under first last end [] (made ∷ others) a (next, some, round, rest) = absurd (some (sym (round_once under first last next [] made a round).0))
  rounds_once under first last end (made ∷ rounds) [] (next, some, round, rest) b = absurd (some (round_once under first next end made [] round b).0)
  rounds_once under first last end (made ∷ rounds) (other ∷ others) (next, some, round, rest) (next', some', round', rest') =
      let one = round_once under first next next' made other round round' in
      let P : Assumed → Type 0 = λ a. AreRounds program scope (under + length made) a rounds last in
      let Q : List Cut → Type 0 = λ m. AreRounds program scope (under + length m) next' rounds last in
      let more = rounds_once (under + length other) next' last end rounds others (subst Q one.0 (subst P one.1 rest)) rest' in
      λ i. one.0 i ∷ more i

  pub cuts_once : (last end : Assumed) (cuts others : List Cut) → HasCuts program scope last cuts → HasCuts program scope end others → cuts ≡ others
  cuts_once last end cuts others (rounds, are, joined) (rounds', are', joined') =
      joined ∙ ap (λ (rs : List (List Cut)). flat_map (λ made. made) rs) (rounds_once 0 (λ name. whole) last end rounds rounds' are are') ∙ sym joined'
