-- What is raised leaves less room, and raises the rank of the states at loops by a step or more.
use Rattle.std.proofs.Common.{◌≡◌, inl, inr, ℕ, ◌+◌, ◌<◌, ◌≤◌, true, IsTrue, IsFalse, ℤ, Some, List, map, slice_get, slice_set, sym, ap, subst, arith, ◌∙◌}
use Rattle.vmv_zone.specs.declared.zone.Zone.{Zone}
use Rattle.vmv_zone.specs.Zone.{IsBelow, IsNormal}
use Rattle.vmv_zone.specs.Round.{IsThresholdState}
use Rattle.vmv_zone.proofs.States.{below_trans}
use Rattle.vmv_zone.proofs.Equal.{by_truth, clash}
use Rattle.vmv_check.proofs.Lists.{some_same}
use Rattle.vmv_pass.specs.Room.{room, rooms, rank, ranks}
use Rattle.vmv_pass.specs.Moves.{Given, Lists, Keeps, Takes}
use Rattle.vmv_pass.proofs.Zips.{all_at, get_map, sum_set}
use Rattle.vmv_pass.proofs.Moving.{Rule}
use Rattle.vmv_pass.proofs.Growing.{Sound, Grows, grows}
use Rattle.vmv_pass.proofs.Rooms.{room_falls}
use Rattle.vmv_pass.proofs.Ranks.{rank_rises}

abbrev pub all_room : Lists → ℕ
all_room S = rooms S.keeps + rooms S.inputs

-- there is no more room, and less where something was raised
pub record Fallen (S S' : Lists) : Type 0 where
  pub most : all_room S' ≤ all_room S
  pub less : IsFalse S.raised → IsTrue S'.raised → all_room S' < all_room S

-- no fewer steps were counted than the ranks rose
abbrev pub IsPaid : List ℤ → Lists → Lists → Type 0
IsPaid ts S S' = S'.steps + ranks ts S.keeps ≤ S.steps + ranks ts S'.keeps

pub record Falls (given : Given) (S S' : Lists) : Type 0 where
  pub grows : Grows given.thresholds S S'
  pub falls : Sound given.thresholds S → Fallen S S'
  pub paid : Sound given.thresholds S → IsPaid given.thresholds S S'

fallen_same : (given : Given) (S : Lists) → Grows given.thresholds S S → Falls given S S
fallen_same given S grown = record { grows = grown; falls = λ sound. record { most = omega arith; less = λ f t. clash S.raised t f }; paid = λ sound. omega arith }

fallen_chain : (S T U : Lists) → Fallen S T → Fallen T U → Fallen S U
fallen_chain S T U a b =
    let x = a.most in
    let y = b.most in
    record {
      most = omega arith;
      less = λ f u. by_truth T.raised (λ t. (let l = a.less f t in omega arith)) (λ g. (let l = b.less g u in omega arith));
    }

keep_falls : (given : Given) (k : ℕ) (seen kept : Zone) (S S' : Lists) → ((old : Zone) → slice_get S.keeps k ≡ Some old → seen.vars ≡ old.vars) → Grows given.thresholds S S' → Keeps given k seen S kept S' → Falls given S S'
keep_falls given k seen kept S S' size grown (old, at, inl (below, same, is)) =
    subst (Falls given S) (sym is) (fallen_same given S (subst (Grows given.thresholds S) is grown))
keep_falls given k seen kept S S' size grown (old, at, inr (above, (both, join, round, is))) =
    let same : kept.vars ≡ old.vars = round.vars ∙ join.vars in
    let up : IsBelow old kept = below_trans old both kept (sym round.vars) join.left round.above in
    let other : IsBelow kept old → ⊥ = λ h. above (below_trans seen kept old same (below_trans seen both kept (sym round.vars) join.right round.above) h) in
    let r = room_falls old kept same up other in
    let s = sum_set room S.keeps k kept old at in
    let q = sum_set (rank given.thresholds) S.keeps k kept old at in
    let T : Lists = record S { keeps = slice_set S.keeps k kept; raised = true; looped = true; steps = S.steps + 1 } in
    let fallen : Fallen S T = record { most = omega arith; less = λ f t. omega arith } in
    let paid : Sound given.thresholds S → IsPaid given.thresholds S T =
    λ sound. (let l = rank_rises given.thresholds old kept same (all_at (IsThresholdState given.thresholds) S.keeps k old sound.thresholds at) up other in omega arith) in
    subst (Falls given S) (sym is) (record { grows = subst (Grows given.thresholds S) is grown; falls = λ sound. fallen; paid = paid })

take_falls : (given : Given) (c : ℕ) (args : Zone) (S S' : Lists) → IsNormal args → ((old : Zone) → slice_get S.inputs c ≡ Some old → args.vars ≡ old.vars) → Grows given.thresholds S S' → Takes c args S S' → Falls given S S'
take_falls given c args S S' normal size grown (old, at, inl (below, is)) =
    subst (Falls given S) (sym is) (fallen_same given S (subst (Grows given.thresholds S) is grown))
take_falls given c args S S' normal size grown (old, at, inr (above, (both, input, join, norm, is))) =
    let same : input.vars ≡ old.vars = norm.vars ∙ join.vars in
    let s = sum_set room S.inputs c input old at in
    let T : Lists = record S { inputs = slice_set S.inputs c input; raised = true } in
    let seen : IsBelow args input = norm.greatest args (size old at ∙ sym join.vars) normal join.right in
    let other : IsBelow input old → ⊥ = λ h. above (below_trans args input old same seen h) in
    let fallen : Sound given.thresholds S → Fallen S T =
    λ sound.
    (let up : IsBelow old input = norm.greatest old (sym join.vars) (all_at IsNormal S.inputs c old sound.normal at) join.left in
    let r = room_falls old input same up other in
    record { most = omega arith; less = λ f t. omega arith }) in
    subst (Falls given S) (sym is) (record { grows = subst (Grows given.thresholds S) is grown; falls = fallen; paid = λ sound. omega arith })

pub sized : (sizes : List ℕ) (inputs : List Zone) (c n : ℕ) → map (λ (z : Zone). z.vars) inputs ≡ sizes → slice_get sizes c ≡ Some n → (old : Zone) → slice_get inputs c ≡ Some old → n ≡ old.vars
sized sizes inputs c n same at old e =
    some_same (sym at ∙ (ap (λ (ns : List ℕ). slice_get ns c) (sym same) ∙ get_map (λ (z : Zone). z.vars) inputs c old e))

pub falls : (vars : ℕ) (sizes : List ℕ) (given : Given) → Rule vars sizes given (Falls given)
falls vars sizes given =
    let rule : Rule vars sizes given (Grows given.thresholds) = grows vars sizes given in
    record {
      same = λ S. fallen_same given S (rule.same S);
      chain = λ S T U a b. record {
        grows = rule.chain S T U a.grows b.grows;
        falls = λ sound. fallen_chain S T U (a.falls sound) (b.falls (a.grows sound).sound);
        paid = λ sound. (let x = a.paid sound in let y = b.paid (a.grows sound).sound in omega arith);
      };
      flag = λ S i flag. record {
        grows = rule.flag S i flag;
        falls = λ sound. record { most = omega arith; less = λ f t. clash S.raised t f };
        paid = λ sound. omega arith;
      };
      keep = λ k seen kept S S' base same h. keep_falls given k seen kept S S' (λ old at. same ∙ sym (all_at (λ (z : Zone). z.vars ≡ vars) S.keeps k old base.over at)) (rule.keep k seen kept S S' base same h) h;
      take = λ c args S S' base size normal h. take_falls given c args S S' normal (sized sizes S.inputs c args.vars base.inputs size) (rule.take c args S S' base size normal h) h;
    }
