-- A pass raises what is stored, and changes nothing where it says so.
use Rattle.std.proofs.Common.{◌≡◌, inl, inr, ℕ, ◌≤◌, true, IsFalse, List, length, ℤ, refl, sym, subst, arith, ◌∙◌}
use Rattle.std.specs.List.{All}
use Rattle.std.proofs.lemmas.Int.{ints}
use Rattle.vmv_zone.specs.declared.zone.Zone.{Zone}
use Rattle.vmv_zone.specs.Zone.{vars_of, IsBelow, IsNormal}
use Rattle.vmv_zone.specs.Round.{IsThresholdState}
use Rattle.vmv_zone.proofs.States.{below_trans}
use Rattle.vmv_zone.proofs.Equal.{clash}
use Rattle.vmv_pass.specs.Upper.{AreBelow}
use Rattle.vmv_pass.specs.Moves.{Given, Lists, Keeps, Takes}
use Rattle.vmv_pass.proofs.Zips.{zip_same, zip_set, zip_chain, all_at, all_set, set_long}
use Rattle.vmv_pass.proofs.Moving.{Rule}

-- nothing was raised: the lists are as before
pub record Unchanged (S S' : Lists) : Type 0 where
  pub keeps : S'.keeps ≡ S.keeps
  pub inputs : S'.inputs ≡ S.inputs
  pub raised : IsFalse S.raised
  pub looped : S'.looped ≡ S.looped

abbrev pub Stays : Lists → Lists → Type 0
Stays S S' = IsFalse S'.raised → Unchanged S S'

stays_keep : (given : Given) (k : ℕ) (seen kept : Zone) (S S' : Lists) → Keeps given k seen S kept S' → Stays S S'
stays_keep given k seen kept S S' (old, at, inl (below, same, is)) = subst (Stays S) (sym is) (λ f. record { keeps = refl; inputs = refl; raised = f; looped = refl })
stays_keep given k seen kept S S' (old, at, inr (above, (both, join, round, is))) = subst (Stays S) (sym is) (λ f. clash true refl f)

stays_take : (c : ℕ) (args : Zone) (S S' : Lists) → Takes c args S S' → Stays S S'
stays_take c args S S' (old, at, inl (below, is)) = subst (Stays S) (sym is) (λ f. record { keeps = refl; inputs = refl; raised = f; looped = refl })
stays_take c args S S' (old, at, inr (above, (both, input, join, norm, is))) = subst (Stays S) (sym is) (λ f. clash true refl f)

pub stays : (vars : ℕ) (sizes : List ℕ) (given : Given) → Rule vars sizes given Stays
stays vars sizes given = record {
  same = λ S f. record { keeps = refl; inputs = refl; raised = f; looped = refl };
  chain = λ S T U a b f. let y = b f in let x = a y.raised in record { keeps = y.keeps ∙ x.keeps; inputs = y.inputs ∙ x.inputs; raised = x.raised; looped = y.looped ∙ x.looped };
  flag = λ S i flag f. record { keeps = refl; inputs = refl; raised = f; looped = refl };
  keep = λ k seen kept S S' base vars h. stays_keep given k seen kept S S' h;
  take = λ c args S S' base size normal h. stays_take c args S S' h;
}

pub below_same : (z : Zone) → IsBelow z z
below_same z up = record { not_bottom = up; bounds = λ i j hi hj. omega (arith, ints); marks = λ i from hi marked. marked }

-- one state is below the other, over the same variables
abbrev pub IsRise : Zone → Zone → Type 0
IsRise x y = (vars_of y ≡ vars_of x) × IsBelow x y

pub rise_same : (z : Zone) → IsRise z z
rise_same z = (refl, below_same z)

pub rise_chain : (x y z : Zone) → IsRise x y → IsRise y z → IsRise x z
rise_chain x y z a b = (b.0 ∙ a.0, below_trans x y z (sym b.0) a.1 b.1)

-- the states at loops are threshold states, and the inputs normal
pub record Sound (ts : List ℤ) (S : Lists) : Type 0 where
  pub thresholds : All (IsThresholdState ts) S.keeps
  pub normal : All IsNormal S.inputs

-- everything is above what it was
pub record Grown (ts : List ℤ) (S S' : Lists) : Type 0 where
  pub sound : Sound ts S'
  pub keeps : AreBelow S.keeps S'.keeps
  pub inputs : AreBelow S.inputs S'.inputs
  pub unproved : length S'.unproved ≡ length S.unproved

abbrev pub Grows : List ℤ → Lists → Lists → Type 0
Grows ts S S' = Sound ts S → Grown ts S S'

grown_same : (ts : List ℤ) (S : Lists) → Grows ts S S
grown_same ts S sound = record { sound = sound; keeps = zip_same IsRise S.keeps rise_same; inputs = zip_same IsRise S.inputs rise_same; unproved = refl }

grown_chain : (ts : List ℤ) (S T U : Lists) → Grows ts S T → Grows ts T U → Grows ts S U
grown_chain ts S T U a b sound =
    let x = a sound in
    let y = b x.sound in
    record {
      sound = y.sound;
      keeps = zip_chain IsRise S.keeps T.keeps U.keeps rise_chain x.keeps y.keeps;
      inputs = zip_chain IsRise S.inputs T.inputs U.inputs rise_chain x.inputs y.inputs;
      unproved = y.unproved ∙ x.unproved;
    }

grown_keep : (given : Given) (k : ℕ) (seen kept : Zone) (S S' : Lists) → Keeps given k seen S kept S' → Grows given.thresholds S S'
grown_keep given k seen kept S S' (old, at, inl (below, same, is)) = subst (Grows given.thresholds S) (sym is) (grown_same given.thresholds S)
grown_keep given k seen kept S S' (old, at, inr (above, (both, join, round, is))) =
    subst (Grows given.thresholds S) (sym is) (λ sound. record {
      sound = record { thresholds = all_set (IsThresholdState given.thresholds) S.keeps k kept sound.thresholds round.threshold; normal = sound.normal };
      keeps = zip_set IsRise S.keeps k kept old rise_same at (round.vars ∙ join.vars, below_trans old both kept (sym round.vars) join.left round.above);
      inputs = zip_same IsRise S.inputs rise_same;
      unproved = refl;
    })

grown_take : (ts : List ℤ) (c : ℕ) (args : Zone) (S S' : Lists) → Takes c args S S' → Grows ts S S'
grown_take ts c args S S' (old, at, inl (below, is)) = subst (Grows ts S) (sym is) (grown_same ts S)
grown_take ts c args S S' (old, at, inr (above, (both, input, join, norm, is))) =
    subst (Grows ts S) (sym is) (λ sound. record {
      sound = record { thresholds = sound.thresholds; normal = all_set IsNormal S.inputs c input sound.normal norm.normal };
      keeps = zip_same IsRise S.keeps rise_same;
      inputs = zip_set IsRise S.inputs c input old rise_same at (norm.vars ∙ join.vars, norm.greatest old (sym join.vars) (all_at IsNormal S.inputs c old sound.normal at) join.left);
      unproved = refl;
    })

pub grows : (vars : ℕ) (sizes : List ℕ) (given : Given) → Rule vars sizes given (Grows given.thresholds)
grows vars sizes given = record {
  same = grown_same given.thresholds;
  chain = grown_chain given.thresholds;
  flag = λ S i flag sound. record {
    sound = record { thresholds = sound.thresholds; normal = sound.normal };
    keeps = zip_same IsRise S.keeps rise_same;
    inputs = zip_same IsRise S.inputs rise_same;
    unproved = set_long S.unproved i flag;
  };
  keep = λ k seen kept S S' base vars h. grown_keep given k seen kept S S' h;
  take = λ c args S S' base size normal h. grown_take given.thresholds c args S S' h;
}

-- steps are counted where a state at a loop changed
pub record Counted (S S' : Lists) : Type 0 where
  pub more : S.steps ≤ S'.steps
  pub still : S'.steps ≡ S.steps → S'.keeps ≡ S.keeps

counted_keep : (given : Given) (k : ℕ) (seen kept : Zone) (S S' : Lists) → Keeps given k seen S kept S' → Counted S S'
counted_keep given k seen kept S S' (old, at, inl (below, same, is)) = subst (Counted S) (sym is) (record { more = omega arith; still = λ e. refl })
counted_keep given k seen kept S S' (old, at, inr (above, (both, join, round, is))) = subst (Counted S) (sym is) (record { more = omega arith; still = λ e. absurd (omega (arith, e)) })

counted_take : (c : ℕ) (args : Zone) (S S' : Lists) → Takes c args S S' → Counted S S'
counted_take c args S S' (old, at, inl (below, is)) = subst (Counted S) (sym is) (record { more = omega arith; still = λ e. refl })
counted_take c args S S' (old, at, inr (above, (both, input, join, norm, is))) = subst (Counted S) (sym is) (record { more = omega arith; still = λ e. refl })

counted_chain : (S T U : Lists) → Counted S T → Counted T U → Counted S U
counted_chain S T U a b =
    let x = a.more in
    let y = b.more in
    record { more = omega arith; still = λ e. b.still (omega (arith, x, y, e)) ∙ a.still (omega (arith, x, y, e)) }

pub counts : (vars : ℕ) (sizes : List ℕ) (given : Given) → Rule vars sizes given Counted
counts vars sizes given = record {
  same = λ S. record { more = omega arith; still = λ e. refl };
  chain = counted_chain;
  flag = λ S i flag. record { more = omega arith; still = λ e. refl };
  keep = λ k seen kept S S' base vars h. counted_keep given k seen kept S S' h;
  take = λ c args S S' base size normal h. counted_take c args S S' h;
}
