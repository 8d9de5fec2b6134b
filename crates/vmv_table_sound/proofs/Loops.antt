-- The turns of a loop stay in its kept state.
use Rattle.std.proofs.Common.{◌∙◌, ◌≡◌, ◌≢◌, inl, inr, ⊎_elim, ℕ, zero, suc, ◌+◌, ℤ, pos, negsuc, ◌≤ℤ◌, ◌<ℤ◌, Option, Some, None, List, ◌++◌, slice_get, sym, ap, subst, arith}
use Rattle.std.proofs.lemmas.Int.{ints}
use Rattle.std.proofs.lemmas.Bool.{cases_eq}
use Rattle.vmv_tree.specs.declared.name.Name.{Name}
use Rattle.vmv_tree.specs.Words.{IsWord}
use Rattle.vmv_tree.specs.Run.{Valuation, Answers, End, next, Does, Turns, assign, turns_of}
use Rattle.vmv_snapshot.specs.declared.code.Slot.{Slot}
use Rattle.vmv_snapshot.specs.Resolves.{Scope, IsSlot}
use Rattle.vmv_zone.specs.declared.zone.Zone.{Zone}
use Rattle.vmv_zone.specs.Zone.{HasPoint, IsBelow, IsNormOf}
use Rattle.vmv_zone.specs.Points.{updated}
use Rattle.vmv_zone.proofs.MoreLaws.{below_point}
use Rattle.vmv_zone.proofs.GuardLaws.{norm_point}
use Rattle.vmv_assumption.specs.Assumed.{Assumed}
use Rattle.vmv_assumption.specs.Within.{Meet}
use Rattle.vmv_step.specs.Zones.{IsVariable}
use Rattle.vmv_step.specs.Loops.{IsTurn, IsAgain, IsLeft}
use Rattle.vmv_step.specs.Agree.{AreSlots, Agrees, Follows}
use Rattle.vmv_step.proofs.Result.{word_fits, fits_word}
use Rattle.vmv_step.proofs.Places.{within, named_inside, updated_same, updated_other, assigned_same}
use Rattle.vmv_step.proofs.LoopPoints.{turn_point, again_point, leave_point, left_agrees}
use Rattle.vmv_step.proofs.StepOrder.{again_normal}
use Rattle.vmv_cert.specs.declared.row.Row.{Row}
use Rattle.vmv_table_sound.proofs.Leads.{IsShown, Leads, failed_on, meets_left, meets_right}
use Rattle.vmv_table_sound.proofs.Steady.{Keeps}

-- a loop whose turns stay in its kept state
pub record IsLooped (assumed : Assumed) (row : Row) (scope : Scope) (index : Name) (i slot : Slot) (body : Does) (kept left : Zone) : Type 0 where
  pub normed : Zone
  pub turned : Zone
  pub end : Zone
  pub again : Zone
  pub are : AreSlots normed.vars scope.slots
  pub at : IsSlot scope index i
  pub nameless : slice_get scope.slots slot.0 ≡ Some None
  pub next_slot : slot.0 ≡ i.0 + 1
  pub norm : IsNormOf kept normed
  pub turn : IsTurn i slot normed turned
  pub ended : end.vars ≡ normed.vars
  pub more : IsAgain i end again
  pub below : IsBelow again kept
  pub leaves : IsLeft i slot normed left
  pub leads : Leads assumed row scope.slots body turned end
  pub keeps : Keeps index body

-- no turn is left: the index has reached the bound
no_more : (b : ℤ) (t : ℕ) → t + 0 ≡ turns_of b → b ≤ℤ pos t
no_more (pos n) t h = omega (arith, ints)
no_more (negsuc n) t h = omega (arith, ints)

-- a turn is left: the index is below the bound
one_more : (b : ℤ) (t m : ℕ) → t + suc m ≡ turns_of b → pos t <ℤ b
one_more (pos n) t m h = omega (arith, ints)
one_more (negsuc n) t m h = absurd (omega arith)

-- the next index is at most the bound, so a word
next_word : (b : ℤ) (t m : ℕ) → t + suc m ≡ turns_of b → IsWord b → IsWord (pos (t + 1))
next_word (pos n) t m h word = let f = word_fits (pos n) word in fits_word (pos (t + 1)) (omega (arith, ints))
next_word (negsuc n) t m h word = absurd (omega arith)

-- the slots without a name but for this one have the same words
abbrev pub IsSameBut : List (Option Name) → Slot → (ℕ → ℤ) → (ℕ → ℤ) → Type 0
IsSameBut slots slot p q = (n : ℕ) → n ≢ slot.0 → slice_get slots n ≡ Some None → q n ≡ p n

pub unnamed_apart : (slots : List (Option Name)) (m n : ℕ) (x : Name) → slice_get slots m ≡ Some None → slice_get slots n ≡ Some (Some x) → m ≢ n
unnamed_apart slots m n x e e' same = let e'' : slice_get slots n ≡ Some None = subst (λ k. slice_get slots k ≡ Some None) same e in absurd (cc)

-- a loop's two slots are variables
pub both_variables : (vars : ℕ) (scope : Scope) (index : Name) (i slot : Slot) → AreSlots vars scope.slots → IsSlot scope index i → slot.0 ≡ i.0 + 1 → slice_get scope.slots slot.0 ≡ Some None →
    IsVariable vars i × IsVariable vars slot
both_variables vars scope index i slot are at next_slot nameless =
    let count = are.count in
    let h = within scope.slots slot.0 None nameless in
    (named_inside vars scope.slots i.0 index are at, (omega arith, omega arith))

module _ (assumed : Assumed) (row : Row) (scope : Scope) (index : Name) (i slot : Slot) (body : Does) (kept left : Zone) (it : IsLooped assumed row scope index i slot body kept left) where
  -- what holds where turn t starts, in a loop that was entered from the valuation v at the point p, with the bound b
  record AtTurn (v : Valuation) (p : ℕ → ℤ) (b : ℤ) (t : ℕ) (q : ℕ → ℤ) : Type 0 where
    point : HasPoint it.normed q
    agrees : Agrees scope.slots (assign v index (pos t)) q
    words : (x : Name) → IsWord (v x)
    bound : q slot.0 ≡ b
    others : IsSameBut scope.slots slot p q

  at_index : (v : Valuation) (p : ℕ → ℤ) (b : ℤ) (t : ℕ) (q : ℕ → ℤ) → AtTurn v p b t q → q i.0 ≡ pos t
  at_index v p b t q a = a.agrees.named i.0 index it.at ∙ assigned_same v index (pos t)

  -- behind the last turn
  left_shown : (v : Valuation) (p : ℕ → ℤ) (b : ℤ) (t : ℕ) (q : ℕ → ℤ) → AtTurn v p b t q → IsWord (p slot.0) → b ≤ℤ pos t → Follows left scope.slots v p
  left_shown v p b t q a word over =
      let both = both_variables it.normed.vars scope index i slot it.are it.at it.next_slot it.nameless in
      let order : q slot.0 ≤ℤ q i.0 = rw (a.bound, at_index v p b t q a) over in
      record {
        after = updated (updated q i.0 (v index)) slot.0 (p slot.0);
        point = leave_point i slot it.normed left q (v index) (p slot.0) both.0 both.1 it.leaves a.point order (a.words index) word;
        agrees = left_agrees scope it.normed.vars index i slot v q (pos t) (p slot.0) it.are it.at it.nameless (a.words index) a.agrees;
        unnamed = λ n e. ⊎_elim
            (λ (same : n ≡ slot.0). ap (updated (updated q i.0 (v index)) slot.0 (p slot.0)) same ∙ (updated_same (updated q i.0 (v index)) slot.0 (p slot.0) ∙ ap p (sym same)))
            (λ (other : n ≢ slot.0). updated_other (updated q i.0 (v index)) slot.0 n (p slot.0) other
            ∙ (updated_other q i.0 n (v index) (unnamed_apart scope.slots n i.0 index e it.at) ∙ a.others n other e))
            (cases_eq n slot.0);
      }

  -- from one turn to the next
  next_turn : (v mid : Valuation) (p : ℕ → ℤ) (b : ℤ) (t m : ℕ) (q : ℕ → ℤ) → AtTurn v p b t q → IsWord b → t + suc m ≡ turns_of b → (s : Follows it.end scope.slots mid q) → mid index ≡ pos t →
      AtTurn mid p b (t + 1) (updated s.after i.0 (pos (t + 1)))
  next_turn v mid p b t m q a word left_turns s is =
      let both = both_variables it.normed.vars scope index i slot it.are it.at it.next_slot it.nameless in
      let are : AreSlots it.end.vars scope.slots = subst (λ n. AreSlots n scope.slots) (sym it.ended) it.are in
      let ended = it.ended in
      let b0 = both.0.0 in
      let b1 = both.0.1 in
      let inside : IsVariable it.end.vars i = (omega arith, omega arith) in
      let one = again_point scope index i it.end it.again mid s.after t are it.at it.more s.point s.agrees is (next_word b t m left_turns word) in
      let vars : it.again.vars ≡ kept.vars = (again_normal i it.end it.again inside it.more).1 ∙ (it.ended ∙ it.norm.vars) in
      let q' : ℕ → ℤ = updated s.after i.0 (pos (t + 1)) in
      record {
        point = norm_point kept it.normed q' it.norm (below_point it.again kept q' vars it.below one.0);
        agrees = one.1;
        words = s.agrees.words;
        bound = updated_other s.after i.0 slot.0 (pos (t + 1)) (unnamed_apart scope.slots slot.0 i.0 index it.nameless it.at) ∙ (s.unnamed slot.0 it.nameless ∙ a.bound);
        others = λ n other e. updated_other s.after i.0 n (pos (t + 1)) (unnamed_apart scope.slots n i.0 index e it.at) ∙ (s.unnamed n e ∙ a.others n other e);
      }

  turns_shown : (m t : ℕ) (v : Valuation) (p q : ℕ → ℤ) (b : ℤ) (answers : Answers) (end : End) → AtTurn v p b t q → IsWord (p slot.0) → IsWord b → t + m ≡ turns_of b → Meet answers assumed →
      Turns index body m t v answers end → IsShown row left scope.slots p end
  turns_shown zero t v p q b answers end a origin word turns meet run =
      subst (IsShown row left scope.slots p) (sym run.1) (left_shown v p b t q a origin (no_more b t turns))
  turns_shown (suc m) t v p q b answers end a origin word turns meet (inl (h, k)) =
      let both = both_variables it.normed.vars scope index i slot it.are it.at it.next_slot it.nameless in
      let order : q i.0 <ℤ q slot.0 = rw (a.bound, at_index v p b t q a) (one_more b t m turns) in
      let point = turn_point i slot it.normed it.turned q both.0 both.1 it.turn a.point order in
      failed_on row it.end left scope.slots q p end k (it.leads (assign v index (pos t)) q answers end point a.agrees meet h)
  turns_shown (suc m) t v p q b answers end a origin word turns meet (inr (mid, used, rest, h, k, is)) =
      let both = both_variables it.normed.vars scope index i slot it.are it.at it.next_slot it.nameless in
      let order : q i.0 <ℤ q slot.0 = rw (a.bound, at_index v p b t q a) (one_more b t m turns) in
      let point = turn_point i slot it.normed it.turned q both.0 both.1 it.turn a.point order in
      let meet' : Meet (used ++ rest) assumed = subst (λ (xs : Answers). Meet xs assumed) is meet in
      let s : Follows it.end scope.slots mid q = it.leads (assign v index (pos t)) q used (next mid) point a.agrees (meets_left used rest assumed meet') h in
      let same : mid index ≡ pos t = it.keeps (assign v index (pos t)) mid used h ∙ assigned_same v index (pos t) in
      turns_shown m (t + 1) mid p (updated s.after i.0 (pos (t + 1))) b rest end (next_turn v mid p b t m q a word turns s same) origin word (omega arith) (meets_right used rest assumed meet') k

  -- from the head
  pub loop_shown : (v : Valuation) (p q : ℕ → ℤ) (b : ℤ) (answers : Answers) (end : End) → HasPoint kept q → Agrees scope.slots (assign v index (pos 0)) q → ((x : Name) → IsWord (v x)) → IsWord (p slot.0) → IsWord b →
      q slot.0 ≡ b → IsSameBut scope.slots slot p q → Meet answers assumed → Turns index body (turns_of b) 0 v answers end → IsShown row left scope.slots p end
  loop_shown v p q b answers end point agrees words origin word bound others meet run =
      turns_shown (turns_of b) 0 v p q b answers end
      (record { point = norm_point kept it.normed q it.norm point; agrees = agrees; words = words; bound = bound; others = others }) origin word (omega arith) meet run
