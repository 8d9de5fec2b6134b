-- A pass that raises no state at a loop is the walk over what is stored.
use Rattle.std.proofs.Common.{◌≡◌, ◌⊎◌, inl, inr, ⊎_elim, ℕ, zero, suc, ◌+◌, ◌-◌, ◌<◌, ◌≤◌, Bool, true, IsFalse, Option, Some, None, List, [], ◌∷◌, ◌++◌, length, slice_get, slice_set, refl, sym, ap, subst, arith, ◌∙◌}
use Rattle.vmv_snapshot.specs.declared.code.Simple.{Simple}
use Rattle.vmv_snapshot.specs.declared.code.Simple.TheVariants.{Set, Arith, Ask, Assert}
use Rattle.vmv_snapshot.specs.Code.{Stmt, plain, help, branch, loop, Block, [], ◌⨾◌}
use Rattle.vmv_zone.specs.declared.zone.Zone.{Zone}
use Rattle.vmv_zone.specs.Zone.{IsBelow, IsNormal, IsNormOf}
use Rattle.vmv_zone.proofs.States.{below_trans}
use Rattle.vmv_zone.proofs.Equal.{clash, norm_once}
use Rattle.vmv_assumption.specs.Assumed.{Assumed}
use Rattle.vmv_cond.specs.declared.cond.Cond.{Cond}
use Rattle.vmv_step.specs.Steps.{IsStepped}
use Rattle.vmv_step.specs.Loops.{IsLeft}
use Rattle.vmv_step.specs.Agree.{HasSite}
use Rattle.vmv_cert.specs.Sizes.{loops, block_loops}
use Rattle.vmv_check.proofs.Lists.{some_same, item_at}
use Rattle.vmv_pass.specs.Callees.{callees, block_callees}
use Rattle.vmv_pass.specs.Source.{Stored, by_stored}
use Rattle.vmv_pass.proofs.Calls.{AreAt, at_here, at_first, at_second}
use Rattle.vmv_pass.specs.Holds.{Holds, HoldsAll}
use Rattle.vmv_pass.specs.Moves.{Given, Lists, flagged, Keeps, Takes, Moves, MovesAll, AreCalled}
use Rattle.vmv_pass.proofs.Zips.{set_same, set_other, set_cases, append_long, all_at, zip_set, zip_chain}
use Rattle.vmv_pass.proofs.Moving.{Base, Rule, Moved, keep_base, moved, moved_all, called_first, called_second, called_size}
use Rattle.vmv_pass.proofs.Growing.{IsRise, rise_same, rise_chain, Sound, Grows, grows}
use Rattle.vmv_pass.proofs.Falling.{sized}
use Rattle.vmv_snapshot.specs.Resolution.{Resolution}
use Rattle.vmv_check.specs.Walker.{IsReady, AreReady}
use Rattle.vmv_check.proofs.Walking.{head_vars}
use Rattle.vmv_pass.specs.Upper.{AreBelow}
use Rattle.vmv_pass.proofs.Codes.{IsKnown, AreKnown, simple_sites, sites, block_sites}

keeps_flags : (given : Given) (k : ℕ) (seen kept : Zone) (S S' : Lists) → Keeps given k seen S kept S' → S'.unproved ≡ S.unproved
keeps_flags given k seen kept S S' (old, at, inl (below, same, is)) = ap (λ (T : Lists). T.unproved) is
keeps_flags given k seen kept S S' (old, at, inr (above, (both, join, round, is))) = ap (λ (T : Lists). T.unproved) is

takes_flags : (c : ℕ) (args : Zone) (S S' : Lists) → Takes c args S S' → S'.unproved ≡ S.unproved
takes_flags c args S S' (old, at, inl (below, is)) = ap (λ (T : Lists). T.unproved) is
takes_flags c args S S' (old, at, inr (above, (both, input, join, norm, is))) = ap (λ (T : Lists). T.unproved) is

-- the flags at these places
abbrev Outside : (m n i : ℕ) → Type 0
Outside m n i = (i < m) ⊎ (m + n ≤ i)

off_site : (m n site i : ℕ) → site ≡ m + 1 → 1 ≤ n → Outside m n i → i ≡ site - 1 → ⊥
off_site m n site i number some (inl l) e = omega arith
off_site m n site i number some (inr g) e = omega arith

flagged_outside : (m : ℕ) (simple : Simple) (flag : Bool) (flags : List Bool) → ((n : ℕ) → HasSite simple n → n ≡ m + 1) → (i : ℕ) → Outside m (simple_sites simple) i → slice_get (flagged simple flag flags) i ≡ slice_get flags i
flagged_outside m (Set to from) flag flags known i out = refl
flagged_outside m (Arith to op left right site) flag flags known i out = set_other flags (site - 1) i flag (off_site m 1 site i (known site refl) (omega arith) out)
flagged_outside m (Ask to callee args) flag flags known i out = refl
flagged_outside m (Assert test site) flag flags known i out = set_other flags (site - 1) i flag (off_site m 1 site i (known site refl) (omega arith) out)

out_first : (m a b i : ℕ) → Outside m (a + b) i → Outside m a i
out_first m a b i (inl l) = inl l
out_first m a b i (inr g) = inr (omega arith)

out_second : (m a b i : ℕ) → Outside m (a + b) i → Outside (m + a) b i
out_second m a b i (inl l) = inl (omega arith)
out_second m a b i (inr g) = inr (omega arith)

-- the flags of other statements stay
mutual
  stmt_outside : (given : Given) (m k c : ℕ) (s : Stmt) (z e : Zone) (S S' : Lists) → IsKnown m s → Moves given k c s z S e S' → (i : ℕ) → Outside m (sites s) i → slice_get S'.unproved i ≡ slice_get S.unproved i
  stmt_outside given m k c (plain simple) z e S S' known (s, stepped, end, is) i out =
      ap (λ (T : Lists). slice_get T.unproved i) is ∙ flagged_outside m simple s.unproved S.unproved known.1 i out
  stmt_outside given m k c (help to callee codes) z e S S' known (inl (bottom, end, is)) i out = ap (λ (T : Lists). slice_get T.unproved i) is
  stmt_outside given m k c (help to callee codes) z e S S' known (inr (some, (args, cond, is, takes, at, assigned))) i out = ap (λ (fs : List Bool). slice_get fs i) (takes_flags c args S S' takes)
  stmt_outside given m k c (branch test first second) z e S S' known (z1, z2, e1, e2, S1, is, one, two, join) i out =
      block_outside given (m + block_sites first) (k + block_loops first) (c + length (block_callees first)) second z2 e2 S1 S' known.1 two i (out_second m (block_sites first) (block_sites second) i out)
      ∙ block_outside given m k c first z1 e1 S S1 known.0 one i (out_first m (block_sites first) (block_sites second) i out)
  stmt_outside given m k c (loop index slot bound most site body) z e S S' known (s, kept, normed, turned, end, again, last, left, S1, S2, is, first, norm, turn, inside, more, second, rest, leave) i out =
      let S0 : Lists = record S { unproved = slice_set S.unproved (site - 1) s.unproved } in
      ap (λ (fs : List Bool). slice_get fs i) (keeps_flags given k again last S2 S' second)
      ∙ (block_outside given (m + 1) (k + 1) c body turned end S1 S2 known.1 inside i (out_second m 1 (block_sites body) i out)
      ∙ (ap (λ (fs : List Bool). slice_get fs i) (keeps_flags given k s.zone kept S0 S1 first) ∙ set_other S.unproved (site - 1) i s.unproved (off_site m (1 + block_sites body) site i known.0 (omega arith) out)))

  block_outside : (given : Given) (m k c : ℕ) (b : Block) (z e : Zone) (S S' : Lists) → AreKnown m b → MovesAll given k c b z S e S' → (i : ℕ) → Outside m (block_sites b) i → slice_get S'.unproved i ≡ slice_get S.unproved i
  block_outside given m k c [] z e S S' known (end, is) i out = ap (λ (T : Lists). slice_get T.unproved i) is
  block_outside given m k c (s ⨾ rest) z e S S' known (x, S1, one, two) i out =
      block_outside given (m + sites s) (k + loops s) (c + length (callees s)) rest x e S1 S' known.1 two i (out_second m (sites s) (block_sites rest) i out)
      ∙ stmt_outside given m k c s z x S S1 known.0 one i (out_first m (sites s) (block_sites rest) i out)

-- the states at loops are these, the inputs are below these, and no state at a loop was raised
pub record IsFinal (stored : Stored) (S : Lists) : Type 0 where
  pub keeps : S.keeps ≡ stored.keeps
  pub inputs : AreBelow S.inputs stored.inputs
  pub looped : IsFalse S.looped

-- what holds before a pass over a statement
pub record Begins (vars : ℕ) (sizes : List ℕ) (given : Given) (z : Zone) (S : Lists) : Type 0 where
  pub base : Base vars sizes S
  pub sound : Sound given.thresholds S
  pub size : z.vars ≡ vars

begins_on : (vars : ℕ) (sizes : List ℕ) (given : Given) (z e : Zone) (S S' : Lists) → Begins vars sizes given z S → Moved vars sizes (Grows given.thresholds) S e S' → Begins vars sizes given e S'
begins_on vars sizes given z e S S' b m = record { base = m.base; sound = (m.rule b.sound).sound; size = m.size }

rise_at : (xs ys : List Zone) (k : ℕ) (x : Zone) → AreBelow xs ys → slice_get xs k ≡ Some x → (y : Zone) × (slice_get ys k ≡ Some y) × IsRise x y
rise_at [] ys k x all e = absurd (cc)
rise_at (a ∷ xs) [] k x all e = absurd all
rise_at (a ∷ xs) (b ∷ ys) zero x all e = (b, refl, subst (λ v. IsRise v b) (some_same e) all.0)
rise_at (a ∷ xs) (b ∷ ys) (suc k) x all e = rise_at xs ys k x all.1 e

-- the n flags from the m-th on are those that are stored
abbrev pub Agree : Stored → List Bool → (m n : ℕ) → Type 0
Agree stored flags m n = (i : ℕ) → m ≤ i → i < m + n → slice_get stored.unproved i ≡ slice_get flags i

record KeepSettles (stored : Stored) (k : ℕ) (seen kept : Zone) (S : Lists) : Type 0 where
  final : IsFinal stored S
  at : slice_get stored.keeps k ≡ Some kept
  below : IsBelow seen kept

keep_settles : (stored : Stored) (given : Given) (k : ℕ) (seen kept : Zone) (S S' : Lists) → IsFinal stored S' → Keeps given k seen S kept S' → KeepSettles stored k seen kept S
keep_settles stored given k seen kept S S' final (old, at, inl (below, same, is)) =
    let f : IsFinal stored S = subst (IsFinal stored) is final in
    record {
      final = f;
      at = ap (λ (xs : List Zone). slice_get xs k) (sym f.keeps) ∙ (at ∙ ap (λ x. Some x) (sym same));
      below = subst (IsBelow seen) (sym same) below;
    }
keep_settles stored given k seen kept S S' final (old, at, inr (above, (both, join, round, is))) =
    let f : IsFinal stored (record S { keeps = slice_set S.keeps k kept; raised = true; looped = true; steps = S.steps + 1 }) = subst (IsFinal stored) is final in
    clash true refl f.looped

record TakeSettles (stored : Stored) (c : ℕ) (args : Zone) (S : Lists) : Type 0 where
  final : IsFinal stored S
  input : Zone
  at : slice_get stored.inputs c ≡ Some input
  below : IsBelow args input

take_settles : (vars : ℕ) (sizes : List ℕ) (given : Given) (stored : Stored) (c : ℕ) (args : Zone) (S S' : Lists) → Base vars sizes S → Sound given.thresholds S → slice_get sizes c ≡ Some args.vars → IsNormal args → IsFinal stored S' → Takes c args S S' → TakeSettles stored c args S
take_settles vars sizes given stored c args S S' base sound size normal final (old, at, inl (below, is)) =
    let f : IsFinal stored S = subst (IsFinal stored) is final in
    let r = rise_at S.inputs stored.inputs c old f.inputs at in
    record { final = f; input = r.0; at = r.1; below = below_trans args old r.0 (sym r.2.0) below r.2.1 }
take_settles vars sizes given stored c args S S' base sound size normal final (old, at, inr (above, (both, input, join, norm, is))) =
    let f : IsFinal stored (record S { inputs = slice_set S.inputs c input; raised = true }) = subst (IsFinal stored) is final in
    let r = rise_at (slice_set S.inputs c input) stored.inputs c input f.inputs (set_same S.inputs c input old at) in
    let same : args.vars ≡ old.vars = sized sizes S.inputs c args.vars base.inputs size old at in
    let seen : IsBelow args input = norm.greatest args (same ∙ sym join.vars) normal join.right in
    let up : IsBelow old input = norm.greatest old (sym join.vars) (all_at IsNormal S.inputs c old sound.normal at) join.left in
    let more : AreBelow S.inputs (slice_set S.inputs c input) = zip_set IsRise S.inputs c input old rise_same at (norm.vars ∙ join.vars, up) in
    record {
      final = record { keeps = f.keeps; inputs = zip_chain IsRise S.inputs (slice_set S.inputs c input) stored.inputs rise_chain more f.inputs; looped = f.looped };
      input = r.0;
      at = r.1;
      below = below_trans args input r.0 (sym r.2.0) seen r.2.1;
    }

set_found : (flags : List Bool) (k : ℕ) (flag y : Bool) → slice_get (slice_set flags k flag) k ≡ Some y → slice_get (slice_set flags k flag) k ≡ Some flag
set_found flags k flag y e =
    ⊎_elim (λ (h : (k ≡ k) × (flag ≡ y)). e ∙ ap (λ b. Some b) (sym h.1)) (λ (h : slice_get flags k ≡ Some y). set_same flags k flag y h) (set_cases flags k k flag y e)

-- the flag of a site that was set and not changed since
flag_settles : (stored : Stored) (flags : List Bool) (k : ℕ) (flag : Bool) → k < length stored.unproved → slice_get stored.unproved k ≡ slice_get (slice_set flags k flag) k → slice_get stored.unproved k ≡ Some flag
flag_settles stored flags k flag h same =
    let y = item_at stored.unproved k h in
    same ∙ set_found flags k flag y.0 (sym same ∙ y.1)

simple_settles : (stored : Stored) (m : ℕ) (simple : Simple) (flag : Bool) (flags : List Bool) → ((n : ℕ) → HasSite simple n → n ≡ m + 1) → m + simple_sites simple ≤ length stored.unproved →
    Agree stored (flagged simple flag flags) m (simple_sites simple) → (n : ℕ) → HasSite simple n → slice_get stored.unproved (n - 1) ≡ Some flag
simple_settles stored m (Set to from) flag flags known room agree n has = absurd has
simple_settles stored m (Arith to op left right site) flag flags known room agree n has =
    let e = known site refl in
    let one : slice_get stored.unproved (site - 1) ≡ Some flag = flag_settles stored flags (site - 1) flag (omega arith) (agree (site - 1) (omega arith) (omega arith)) in
    subst (λ j. slice_get stored.unproved (j - 1) ≡ Some flag) has one
simple_settles stored m (Ask to callee args) flag flags known room agree n has = absurd has
simple_settles stored m (Assert test site) flag flags known room agree n has =
    let e = known site refl in
    let one : slice_get stored.unproved (site - 1) ≡ Some flag = flag_settles stored flags (site - 1) flag (omega arith) (agree (site - 1) (omega arith) (omega arith)) in
    subst (λ j. slice_get stored.unproved (j - 1) ≡ Some flag) has one

-- what is so before a pass that raises no state at a loop, and the calls that the walk meets, the first being the c-th
pub record Settled (stored : Stored) (S : Lists) (c n : ℕ) (Walks : List (Option Zone) → Type 0) : Type 0 where
  pub final : IsFinal stored S
  pub calls : List (Option Zone)
  pub count : length calls ≡ n
  pub walks : (whole : List (Option Zone)) → AreAt whole c calls → Walks whole

mutual
  stmt_settles : (program : Resolution) (vars : ℕ) (sizes : List ℕ) (input : Zone) (range : Cond) (stored : Stored) (given : Given) (m k c : ℕ) (s : Stmt) (z e : Zone) (S S' : Lists) → IsReady program vars s → AreCalled program sizes c (callees s) → Begins vars sizes given z S → stored.assumed ≡ given.assumed → stored.results ≡ given.results → IsKnown m s → m + sites s ≤ length stored.unproved →
      IsFinal stored S' → Agree stored S'.unproved m (sites s) → Moves given k c s z S e S' → Settled stored S c (length (callees s)) (λ whole. Holds (by_stored input range stored) whole k c s z e)
  stmt_settles program vars sizes input range stored given m k c (plain simple) z e S S' ready called begins same results known room final agree (s, stepped, end, is) =
      let f : IsFinal stored (record S { unproved = flagged simple s.unproved S.unproved }) = subst (IsFinal stored) is final in
      let flags : S'.unproved ≡ flagged simple s.unproved S.unproved = ap (λ (T : Lists). T.unproved) is in
      record {
        final = record { keeps = f.keeps; inputs = f.inputs; looped = f.looped };
        calls = [];
        count = refl;
        walks = λ whole at. (
          s,
          subst (λ (A : Assumed). IsStepped simple A z s) (sym same) stepped,
          simple_settles stored m simple s.unproved S.unproved known.1 room (subst (λ (fs : List Bool). Agree stored fs m (simple_sites simple)) flags agree),
          end,
        );
      }
  stmt_settles program vars sizes input range stored given m k c (help to callee codes) z e S S' ready called begins same results known room final agree (inl (bottom, end, is)) =
      record { final = subst (IsFinal stored) is final; calls = None ∷ []; count = refl; walks = λ whole at. inl (bottom, at_here whole c None at, end) }
  stmt_settles program vars sizes input range stored given m k c (help to callee codes) z e S S' ready called begins same results known room final agree (inr (some, (args, cond, is, takes, at, assigned))) =
      let size = called_size program vars sizes c callee codes z args called ready.1 ready.3 begins.size is in
      let t = take_settles vars sizes given stored c args S S' begins.base begins.sound size.0 size.1 final takes in
      record {
        final = t.final;
        calls = Some args ∷ [];
        count = refl;
        walks = λ whole there. inr (some, (args, cond, is, at_here whole c (Some args) there, (t.input, t.at, t.below, ap (λ (cs : List Cond). slice_get cs c) results ∙ at), assigned));
      }
  stmt_settles program vars sizes input range stored given m k c (branch test first second) z e S S' ready called begins same results known room final agree (z1, z2, e1, e2, S1, is, one, two, join) =
      let a = block_sites first in
      let n = length (block_callees first) in
      let ts = given.thresholds in
      let called1 = called_first program sizes c (block_callees first) (block_callees second) called in
      let start : Begins vars sizes given z1 S = record { base = begins.base; sound = begins.sound; size = is.holds.greatest.vars ∙ begins.size } in
      let mid = moved_all program vars sizes given (Grows ts) (grows vars sizes given) k c first z1 e1 S S1 ready.1 called1 begins.base start.size one in
      let next : Begins vars sizes given z2 S1 = record { base = mid.base; sound = (mid.rule begins.sound).sound; size = is.fails.greatest.vars ∙ begins.size } in
      let b = block_settles program vars sizes input range stored given (m + a) (k + block_loops first) (c + n) second z2 e2 S1 S' ready.2 (called_second program sizes c (block_callees first) (block_callees second) called) next same results known.1 (omega arith) final (λ i from to. agree i (omega arith) (omega arith)) two in
      let d = block_settles program vars sizes input range stored given m k c first z1 e1 S S1 ready.1 called1 start same results known.0 (omega arith) b.final
      (λ i from to. agree i from (omega arith) ∙ block_outside given (m + a) (k + block_loops first) (c + n) second z2 e2 S1 S' known.1 two i (inl to)) one in
      let t = d.count in
      let t' = b.count in
      let u = append_long d.calls b.calls in
      let v = append_long (block_callees first) (block_callees second) in
      record {
        final = d.final;
        calls = d.calls ++ b.calls;
        count = omega arith;
        walks = λ whole at. (z1, z2, e1, e2, is, d.walks whole (at_first whole c d.calls b.calls at), b.walks whole (at_second whole c n d.calls b.calls t at), join);
      }
  stmt_settles program vars sizes input range stored given m k c (loop index slot bound most site body) z e S S' ready called begins same results known room final agree
      (s, kept, normed, turned, end, again, last, left, S1, S2, is, first, norm, turn, inside, more, second, rest, leave) =
      let S0 : Lists = record S { unproved = slice_set S.unproved (site - 1) s.unproved } in
      let number = known.0 in
      let ts = given.thresholds in
      let base0 : Base vars sizes S0 = record { over = begins.base.over; inputs = begins.base.inputs } in
      let rule : Rule vars sizes given (Grows ts) = grows vars sizes given in
      let seen : s.zone.vars ≡ vars = head_vars index slot bound most z s is ∙ begins.size in
      let held = keep_base vars sizes given k s.zone kept S0 S1 base0 first in
      let flagged = rule.chain S S0 S1 (rule.flag S (site - 1) s.unproved) (rule.keep k s.zone kept S0 S1 base0 seen first) in
      let inner : Begins vars sizes given turned S1 = record { base = held.base; sound = (flagged begins.sound).sound; size = turn.greatest.vars ∙ (norm.vars ∙ held.size) } in
      let v = keep_settles stored given k again last S2 S' final second in
      let same_flags : S'.unproved ≡ S2.unproved = keeps_flags given k again last S2 S' second in
      let agree2 : Agree stored S2.unproved m (1 + block_sites body) = subst (λ (fs : List Bool). Agree stored fs m (1 + block_sites body)) same_flags agree in
      let b = block_settles program vars sizes input range stored given (m + 1) (k + 1) c body turned end S1 S2 ready.3 called inner same results known.1 (omega arith) v.final (λ i from to. agree2 i (omega arith) (omega arith)) inside in
      let u = keep_settles stored given k s.zone kept S0 S1 b.final first in
      let f = u.final in
      let one : last ≡ kept = some_same (sym v.at ∙ u.at) in
      let here : slice_get stored.unproved (site - 1) ≡ slice_get S0.unproved (site - 1) =
      agree2 (site - 1) (omega arith) (omega arith)
      ∙ (block_outside given (m + 1) (k + 1) c body turned end S1 S2 known.1 inside (site - 1) (inl (omega arith)) ∙ ap (λ (fs : List Bool). slice_get fs (site - 1)) (keeps_flags given k s.zone kept S0 S1 first)) in
      let norms : left ≡ normed = norm_once kept left normed (subst (λ (x : Zone). IsNormOf x left) one rest) norm in
      record {
        final = record { keeps = f.keeps; inputs = f.inputs; looped = f.looped };
        calls = b.calls;
        count = b.count;
        walks = λ whole at. (
          s,
          kept,
          normed,
          turned,
          end,
          again,
          is,
          u.at,
          flag_settles stored S.unproved (site - 1) s.unproved (omega arith) here,
          u.below,
          norm,
          turn,
          b.walks whole at,
          more,
          subst (IsBelow again) one v.below,
          subst (λ (x : Zone). IsLeft index slot x e) norms leave,
        );
      }

  pub block_settles : (program : Resolution) (vars : ℕ) (sizes : List ℕ) (input : Zone) (range : Cond) (stored : Stored) (given : Given) (m k c : ℕ) (b : Block) (z e : Zone) (S S' : Lists) → AreReady program vars b → AreCalled program sizes c (block_callees b) → Begins vars sizes given z S → stored.assumed ≡ given.assumed → stored.results ≡ given.results → AreKnown m b → m + block_sites b ≤ length stored.unproved →
      IsFinal stored S' → Agree stored S'.unproved m (block_sites b) → MovesAll given k c b z S e S' → Settled stored S c (length (block_callees b)) (λ whole. HoldsAll (by_stored input range stored) whole k c b z e)
  block_settles program vars sizes input range stored given m k c [] z e S S' ready called begins same results known room final agree (end, is) = record { final = subst (IsFinal stored) is final; calls = []; count = refl; walks = λ whole at. end }
  block_settles program vars sizes input range stored given m k c (s ⨾ rest) z e S S' ready called begins same results known room final agree (x, S1, one, two) =
      let a = sites s in
      let n = length (callees s) in
      let called1 = called_first program sizes c (callees s) (block_callees rest) called in
      let mid = moved program vars sizes given (Grows given.thresholds) (grows vars sizes given) k c s z x S S1 ready.0 called1 begins.base begins.size one in
      let next = begins_on vars sizes given z x S S1 begins mid in
      let b = block_settles program vars sizes input range stored given (m + a) (k + loops s) (c + n) rest x e S1 S' ready.1 (called_second program sizes c (callees s) (block_callees rest) called) next same results known.1 (omega arith) final (λ i from to. agree i (omega arith) (omega arith)) two in
      let d = stmt_settles program vars sizes input range stored given m k c s z x S S1 ready.0 called1 begins same results known.0 (omega arith) b.final
      (λ i from to. agree i from (omega arith) ∙ block_outside given (m + a) (k + loops s) (c + n) rest x e S1 S' known.1 two i (inl to)) one in
      let t = d.count in
      let t' = b.count in
      let u = append_long d.calls b.calls in
      let v = append_long (callees s) (block_callees rest) in
      record {
        final = d.final;
        calls = d.calls ++ b.calls;
        count = omega arith;
        walks = λ whole at. (x, d.walks whole (at_first whole c d.calls b.calls at), b.walks whole (at_second whole c n d.calls b.calls t at));
      }
