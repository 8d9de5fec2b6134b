-- A pass over what is below a walk that holds leaves it below.
use Rattle.std.proofs.Common.{◌≡◌, inl, inr, ⊎_elim, ℕ, ◌+◌, ◌-◌, ◌≤◌, Bool, true, IsTrue, Option, Some, List, [], ◌++◌, length, map, slice_get, slice_set, refl, sym, ap, subst, arith, ◌∙◌}
use Rattle.std.specs.List.{All, AllZip}
use Rattle.vmv_snapshot.specs.declared.code.Slot.{Slot}
use Rattle.vmv_snapshot.specs.declared.code.ProcId.{ProcId}
use Rattle.vmv_snapshot.specs.declared.code.CodeOperand.{CodeOperand}
use Rattle.vmv_snapshot.specs.declared.code.Simple.{Simple}
use Rattle.vmv_snapshot.specs.declared.code.Simple.TheVariants.{Set, Arith, Ask, Assert}
use Rattle.vmv_snapshot.specs.Code.{Stmt, plain, help, branch, loop, Block, [], ◌⨾◌}
use Rattle.vmv_snapshot.specs.Resolution.{Resolution}
use Rattle.vmv_zone.specs.declared.zone.Zone.{Zone}
use Rattle.vmv_zone.specs.declared.operand.ZoneValue.TheVariants.{Within}
use Rattle.vmv_zone.specs.Zone.{IsBelow}
use Rattle.vmv_zone.specs.Round.{IsThresholdState}
use Rattle.vmv_zone.proofs.States.{below_trans, norm_mono}
use Rattle.vmv_zone.proofs.MoreLaws.{join_mono}
use Rattle.vmv_zone.proofs.Equal.{clash}
use Rattle.vmv_zone.proofs.WordOrder.{word_mono}
use Rattle.vmv_assumption.specs.Within.{IsBelow as IsLess}
use Rattle.vmv_step.specs.declared.stepped.Stepped.{Stepped}
use Rattle.vmv_step.specs.Zones.{IsVariable, IsInside, IsTestInside, AreInside}
use Rattle.vmv_step.specs.Steps.{IsSimpleInside}
use Rattle.vmv_step.specs.Agree.{HasSite}
use Rattle.vmv_step.proofs.Arguments.{pass_mono, pass_normal}
use Rattle.vmv_step.proofs.StepOrder.{step_mono, branch_mono, head_mono, turn_mono, again_mono, leave_mono}
use Rattle.vmv_cert.specs.Sizes.{loops, block_loops}
use Rattle.vmv_pass.specs.Source.{Source, by_row, by_stored, assumed_in, keeps_in, TellsSite, TellsUnproved}
use Rattle.vmv_check.specs.Walker.{IsReady, AreReady}
use Rattle.vmv_check.proofs.Lists.{some_same}
use Rattle.vmv_check.proofs.Walking.{assigned_vars, after_vars, head_vars}
use Rattle.vmv_pass.specs.Callees.{callees, block_callees}
use Rattle.vmv_pass.specs.Holds.{Holds, HoldsAll}
use Rattle.vmv_pass.specs.Upper.{IsBelowCall, AreResultsUnder}
use Rattle.vmv_pass.specs.Moves.{Given, Lists, flagged, Keeps, Takes, Moves, MovesAll, AreCalled}
use Rattle.vmv_pass.proofs.Zips.{get_map, zip_at, zip_set_left, all_at, in_first, in_second, set_cases}
use Rattle.vmv_pass.proofs.Codes.{IsKnown, AreKnown, sites, block_sites}
use Rattle.vmv_pass.proofs.Moving.{Base, keep_base, take_base, called_first, called_second, called_size}

-- the walk is over the same variables and threshold states, under conditions that are above, and above the stored results
pub record Setting (vars : ℕ) (given : Given) (source : Source) (calls : List (Option Zone)) (whole : List ProcId) : Type 0 where
  pub assumed : IsLess given.assumed (assumed_in source)
  pub over : All (λ (z : Zone). z.vars ≡ vars) (keeps_in source)
  pub thresholds : All (IsThresholdState given.thresholds) (keeps_in source)
  pub results : AreResultsUnder source whole calls given.results

-- the lists are below the walk
pub record Under (source : Source) (calls : List (Option Zone)) (S : Lists) : Type 0 where
  pub keeps : AllZip IsBelow S.keeps (keeps_in source)
  pub inputs : AllZip IsBelowCall S.inputs calls
  pub unproved : (i : ℕ) → slice_get S.unproved i ≡ Some true → TellsUnproved source (i + 1)

-- a site that is told with its flag is told to be unproved where it is
told_unproved : (source : Source) (number : ℕ) (flag : Bool) → TellsSite source number flag → IsTrue flag → TellsUnproved source number
told_unproved (by_row w) number flag told up = told up
told_unproved (by_stored input range stored) number flag told up = told ∙ ap (λ b. Some b) up

flag_under : (source : Source) (calls : List (Option Zone)) (S : Lists) (site : ℕ) (flag : Bool) → 1 ≤ site → (IsTrue flag → TellsUnproved source site) → Under source calls S → Under source calls (record S { unproved = slice_set S.unproved (site - 1) flag })
flag_under source calls S site flag from listed under = record {
  keeps = under.keeps;
  inputs = under.inputs;
  unproved = λ i e.
      ⊎_elim (λ (h : (i ≡ site - 1) × (flag ≡ true)). (let s : site ≡ i + 1 = (let n = h.0 in omega arith) in subst (TellsUnproved source) s (listed h.1)))
      (λ (h : slice_get S.unproved i ≡ Some true). under.unproved i h) (set_cases S.unproved (site - 1) i flag true e);
}

flag_simple : (source : Source) (calls : List (Option Zone)) (S : Lists) (m : ℕ) (simple : Simple) (s s' : Stepped) → ((n : ℕ) → HasSite simple n → n ≡ m + 1) → ((n : ℕ) → HasSite simple n → TellsSite source n s'.unproved) → (IsTrue s.unproved → IsTrue s'.unproved) → Under source calls S →
    Under source calls (record S { unproved = flagged simple s.unproved S.unproved })
flag_simple source calls S m (Set to from) s s' known allowed up under = record { keeps = under.keeps; inputs = under.inputs; unproved = under.unproved }
flag_simple source calls S m (Arith to op left right site) s s' known allowed up under =
    let e = known site refl in flag_under source calls S site s.unproved (omega arith) (λ t. told_unproved source site s'.unproved (allowed site refl) (up t)) under
flag_simple source calls S m (Ask to callee args) s s' known allowed up under = record { keeps = under.keeps; inputs = under.inputs; unproved = under.unproved }
flag_simple source calls S m (Assert test site) s s' known allowed up under =
    let e = known site refl in flag_under source calls S site s.unproved (omega arith) (λ t. told_unproved source site s'.unproved (allowed site refl) (up t)) under

-- a state at a loop, below the walk's
record KeptUnder (source : Source) (calls : List (Option Zone)) (kept top : Zone) (S' : Lists) : Type 0 where
  under : Under source calls S'
  below : IsBelow kept top

keep_under : (vars : ℕ) (sizes : List ℕ) (given : Given) (source : Source) (calls : List (Option Zone)) (whole : List ProcId) (k : ℕ) (seen kept top : Zone) (S S' : Lists) → Setting vars given source calls whole → Base vars sizes S →
    Under source calls S → slice_get (keeps_in source) k ≡ Some top → IsBelow seen top → Keeps given k seen S kept S' → KeptUnder source calls kept top S'
keep_under vars sizes given source calls whole k seen kept top S S' set base under at' low (old, at, inl (below, same, is)) = record {
  under = subst (Under source calls) (sym is) under;
  below = subst (λ (x : Zone). IsBelow x top) (sym same) (zip_at IsBelow S.keeps (keeps_in source) k old top under.keeps at at');
}
keep_under vars sizes given source calls whole k seen kept top S S' set base under at' low (old, at, inr (above, (both, join, round, is))) =
    let size : old.vars ≡ vars = all_at (λ (z : Zone). z.vars ≡ vars) S.keeps k old base.over at in
    let size' : top.vars ≡ vars = all_at (λ (z : Zone). z.vars ≡ vars) (keeps_in source) k top set.over at' in
    let one : IsBelow both top = join.least top (size' ∙ sym size) (zip_at IsBelow S.keeps (keeps_in source) k old top under.keeps at at') low in
    let two : IsBelow kept top = round.least top (size' ∙ sym (join.vars ∙ size)) (all_at (IsThresholdState given.thresholds) (keeps_in source) k top set.thresholds at') one in
    record {
      under = subst (Under source calls) (sym is) (record { keeps = zip_set_left IsBelow S.keeps (keeps_in source) k kept top under.keeps at' two; inputs = under.inputs; unproved = under.unproved });
      below = two;
    }

take_under : (vars : ℕ) (sizes : List ℕ) (source : Source) (calls : List (Option Zone)) (c : ℕ) (args top : Zone) (S S' : Lists) → Under source calls S → slice_get calls c ≡ Some (Some top) → top.vars ≡ args.vars →
    ((old : Zone) → slice_get S.inputs c ≡ Some old → old.vars ≡ args.vars) → IsBelow args top → Takes c args S S' → Under source calls S'
take_under vars sizes source calls c args top S S' under at' same size low (old, at, inl (below, is)) = subst (Under source calls) (sym is) under
take_under vars sizes source calls c args top S S' under at' same size low (old, at, inr (above, (both, input, join, norm, is))) =
    let e : top.vars ≡ old.vars = same ∙ sym (size old at) in
    let one : IsBelow both top = join.least top e (zip_at IsBelowCall S.inputs calls c old (Some top) under.inputs at at') low in
    let two : IsBelow input top = below_trans input both top (join.vars ∙ sym e) norm.below one in
    subst (Under source calls) (sym is)
    (record { keeps = under.keeps; inputs = zip_set_left IsBelowCall S.inputs calls c input (Some top) under.inputs at' two; unproved = under.unproved })

-- the callees stand in the whole list from the c-th on
abbrev pub AreIn : List ProcId → ℕ → List ProcId → Type 0
AreIn whole c xs = (i : ℕ) (callee : ProcId) → slice_get xs i ≡ Some callee → slice_get whole (c + i) ≡ Some callee

pub in_one : (whole : List ProcId) (c : ℕ) (xs ys : List ProcId) → AreIn whole c (xs ++ ys) → AreIn whole c xs
in_one whole c xs ys are i callee at = are i callee (in_first xs ys i callee at)

pub in_two : (whole : List ProcId) (c : ℕ) (xs ys : List ProcId) → AreIn whole c (xs ++ ys) → AreIn whole (c + length xs) ys
in_two whole c xs ys are i callee at =
    let s : c + (length xs + i) ≡ (c + length xs) + i = omega arith in
    subst (λ j. slice_get whole j ≡ Some callee) s (are (length xs + i) callee (in_second xs ys i callee at))

-- what is so behind a pass and behind the walk
pub record Below (vars : ℕ) (sizes : List ℕ) (source : Source) (calls : List (Option Zone)) (e e' : Zone) (S' : Lists) : Type 0 where
  pub under : Under source calls S'
  pub below : IsBelow e e'
  pub base : Base vars sizes S'
  pub size : e.vars ≡ vars
  pub size' : e'.vars ≡ vars

size_of : (sizes : List ℕ) (inputs : List Zone) (c n : ℕ) → map (λ (z : Zone). z.vars) inputs ≡ sizes → slice_get sizes c ≡ Some n → (old : Zone) → slice_get inputs c ≡ Some old → old.vars ≡ n
size_of sizes inputs c n same at old e =
    some_same (sym (get_map (λ (z : Zone). z.vars) inputs c old e) ∙ (ap (λ (ns : List ℕ). slice_get ns c) same ∙ at))

held_vars : (source : Source) (calls : List (Option Zone)) (k c : ℕ) (to : Slot) (callee : ProcId) (codes : List CodeOperand) (z e : Zone) (vars : ℕ) → z.vars ≡ vars → Holds source calls k c (help to callee codes) z e → e.vars ≡ vars
held_vars source calls k c to callee codes z e vars same (inl (bottom, none, end)) = ap (λ (z : Zone). z.vars) end ∙ same
held_vars source calls k c to callee codes z e vars same (inr (some, (args, cond, is, met, answer, assigned))) = assigned_vars z e to.0 (Within cond) assigned ∙ same

mutual
  pub under_stmt : (program : Resolution) (vars : ℕ) (sizes : List ℕ) (given : Given) (source : Source) (calls : List (Option Zone)) (whole : List ProcId) (set : Setting vars given source calls whole) (m k c : ℕ) (s : Stmt) (z e z' e' : Zone) (S S' : Lists) →
      IsReady program vars s → IsKnown m s → AreCalled program sizes c (callees s) → AreIn whole c (callees s) → Base vars sizes S → Under source calls S → z.vars ≡ vars → z'.vars ≡ vars → IsBelow z z' →
      Moves given k c s z S e S' → Holds source calls k c s z' e' → Below vars sizes source calls e e' S'
  under_stmt program vars sizes given source calls whole set m k c (plain simple) z e z' e' S S' ready known called are base under same same' low (s, stepped, end, is) (s', stepped', allowed, end') =
      let inside : IsSimpleInside z'.vars simple = subst (λ n. IsSimpleInside n simple) (sym same') ready in
      let mono = step_mono simple given.assumed (assumed_in source) z z' s s' (same ∙ sym same') inside known.0 stepped stepped' set.assumed low in
      record {
        under = subst (Under source calls) (sym is) (flag_simple source calls S m simple s s' known.1 allowed mono.1 under);
        below = subst (λ (x : Zone). IsBelow x e') (sym end) (subst (λ (x : Zone). IsBelow s.zone x) (sym end') mono.0);
        base = subst (Base vars sizes) (sym is) (record { over = base.over; inputs = base.inputs });
        size = ap (λ (z : Zone). z.vars) end ∙ (after_vars simple given.assumed z s.zone stepped.zone ∙ same);
        size' = ap (λ (z : Zone). z.vars) end' ∙ (after_vars simple (assumed_in source) z' s'.zone stepped'.zone ∙ same');
      }
  under_stmt program vars sizes given source calls whole set m k c (help to callee codes) z e z' e' S S' ready known called are base under same same' low (inl (bottom, end, is)) h = record {
    under = subst (Under source calls) (sym is) under;
    below = subst (λ (x : Zone). IsBelow x e') (sym end) (λ f. clash z.bottom bottom f);
    base = subst (Base vars sizes) (sym is) base;
    size = ap (λ (z : Zone). z.vars) end ∙ same;
    size' = held_vars source calls k c to callee codes z' e' vars same' h;
  }
  under_stmt program vars sizes given source calls whole set m k c (help to callee codes) z e z' e' S S' ready known called are base under same same' low (inr (some, h)) (inl (bottom, none, g)) = clash z'.bottom bottom (low some).not_bottom
  under_stmt program vars sizes given source calls whole set m k c (help to callee codes) z e z' e' S S' ready known called are base under same same' low (inr (some, (args, cond, is, takes, at, assigned)))
      (inr (some', (args', cond', is', met, answer, assigned'))) =
      let inside : AreInside z'.vars codes = subst (λ n. AreInside n codes) (sym same') ready.3 in
      let size = called_size program vars sizes c callee codes z args called ready.1 ready.3 same is in
      let one : args.vars ≡ length codes = (pass_normal codes z args (subst (λ n. AreInside n codes) (sym same) ready.3) is).1 in
      let two : args'.vars ≡ length codes = (pass_normal codes z' args' inside is').1 in
      let below = pass_mono codes z z' args args' (same ∙ sym same') inside is is' low in
      let z0 : c + 0 ≡ c = omega arith in
      let there : slice_get whole c ≡ Some callee = subst (λ j. slice_get whole j ≡ Some callee) z0 (are 0 callee refl) in
      record {
        under = take_under vars sizes source calls c args args' S S' under met (two ∙ sym one) (size_of sizes S.inputs c args.vars base.inputs size.0) below takes;
        below = word_mono z z' e e' to.0 cond cond' (same ∙ sym same') ready.0.0 (set.results c callee args' cond cond' there met at answer) assigned assigned' low;
        base = take_base vars sizes c args S S' base takes;
        size = assigned_vars z e to.0 (Within cond) assigned ∙ same;
        size' = assigned_vars z' e' to.0 (Within cond') assigned' ∙ same';
      }
  under_stmt program vars sizes given source calls whole set m k c (branch test first second) z e z' e' S S' ready known called are base under same same' low (z1, z2, e1, e2, S1, is, one, two, join) (z1', z2', e1', e2', is', one', two', join') =
      let mono = branch_mono test z z' z1 z2 z1' z2' (same ∙ sym same') (subst (λ n. IsTestInside n test) (sym same') ready.0) is is' low in
      let xs = block_callees first in
      let ys = block_callees second in
      let a = under_block program vars sizes given source calls whole set m k c first z1 e1 z1' e1' S S1 ready.1 known.0 (called_first program sizes c xs ys called) (in_one whole c xs ys are) base under (is.holds.greatest.vars ∙ same)
      (is'.holds.greatest.vars ∙ same') mono.0 one one' in
      let b = under_block program vars sizes given source calls whole set (m + block_sites first) (k + block_loops first) (c + length xs) second z2 e2 z2' e2' S1 S' ready.2 known.1 (called_second program sizes c xs ys called) (in_two whole c xs ys are)
      a.base a.under (is.fails.greatest.vars ∙ same) (is'.fails.greatest.vars ∙ same') mono.1 two two' in
      record {
        under = b.under;
        below = join_mono e1 e2 e1' e2' e e' (a.size ∙ sym a.size') (b.size ∙ sym a.size') (b.size' ∙ sym a.size') join join' a.below b.below;
        base = b.base;
        size = join.vars ∙ a.size;
        size' = join'.vars ∙ a.size';
      }
  under_stmt program vars sizes given source calls whole set m k c (loop index slot bound most site body) z e z' e' S S' ready known called are base under same same' low
      (s, kept, normed, turned, end, again, last, left, S1, S2, is, first, norm, turn, inside, more, second, out, leave) (s', top, normed', turned', end', again', is', at', listed, low', norm', turn', inside', more', low'', leave') =
      let S0 : Lists = record S { unproved = slice_set S.unproved (site - 1) s.unproved } in
      let number = known.0 in
      let base0 : Base vars sizes S0 = record { over = base.over; inputs = base.inputs } in
      let mono = head_mono index slot bound most z z' s s' (same ∙ sym same') (subst (λ n. IsVariable n index) (sym same') ready.0) (subst (λ n. IsVariable n slot) (sym same') ready.1) (subst (λ n. IsInside n bound) (sym same') ready.2) is is' low in
      let size : top.vars ≡ vars = all_at (λ (z : Zone). z.vars ≡ vars) (keeps_in source) k top set.over at' in
      let seen' : s'.zone.vars ≡ vars = head_vars index slot bound most z' s' is' ∙ same' in
      let under0 = flag_under source calls S site s.unproved (omega arith) (λ t. told_unproved source site s'.unproved listed (mono.1 t)) under in
      let a = keep_base vars sizes given k s.zone kept S0 S1 base0 first in
      let u = keep_under vars sizes given source calls whole k s.zone kept top S0 S1 set base0 under0 at' (below_trans s.zone s'.zone top (seen' ∙ sym size) mono.0 low') first in
      let n' : normed'.vars ≡ vars = norm'.vars ∙ size in
      let n : normed.vars ≡ vars = norm.vars ∙ a.size in
      let i' = subst (λ n. IsVariable n index) (sym n') ready.0 in
      let j' = subst (λ n. IsVariable n slot) (sym n') ready.1 in
      let lower = norm_mono kept top normed normed' (a.size ∙ sym size) norm norm' u.below in
      let turns = turn_mono index slot normed normed' turned turned' (n ∙ sym n') i' j' turn turn' lower in
      let b = under_block program vars sizes given source calls whole set (m + 1) (k + 1) c body turned end turned' end' S1 S2 ready.3 known.1 called are a.base u.under (turn.greatest.vars ∙ n) (turn'.greatest.vars ∙ n') turns inside inside' in
      let behind = again_mono index end end' again again' (b.size ∙ sym b.size') (subst (λ n. IsVariable n index) (sym b.size') ready.0) more more' b.below in
      let again_size' : again'.vars ≡ vars = assigned_vars end' again' index.0 _ more' ∙ b.size' in
      let d = keep_base vars sizes given k again last S2 S' b.base second in
      let v = keep_under vars sizes given source calls whole k again last top S2 S' set b.base b.under at' (below_trans again again' top (again_size' ∙ sym size) behind low'') second in
      let lower' = norm_mono last top left normed' (d.size ∙ sym size) out norm' v.below in
      record {
        under = v.under;
        below = leave_mono index slot left normed' e e' (out.vars ∙ (d.size ∙ sym n')) i' j' leave leave' lower';
        base = d.base;
        size = leave.vars ∙ (out.vars ∙ d.size);
        size' = leave'.vars ∙ n';
      }

  pub under_block : (program : Resolution) (vars : ℕ) (sizes : List ℕ) (given : Given) (source : Source) (calls : List (Option Zone)) (whole : List ProcId) (set : Setting vars given source calls whole) (m k c : ℕ) (b : Block) (z e z' e' : Zone) (S S' : Lists) →
      AreReady program vars b → AreKnown m b → AreCalled program sizes c (block_callees b) → AreIn whole c (block_callees b) → Base vars sizes S → Under source calls S → z.vars ≡ vars → z'.vars ≡ vars → IsBelow z z' →
      MovesAll given k c b z S e S' → HoldsAll source calls k c b z' e' → Below vars sizes source calls e e' S'
  under_block program vars sizes given source calls whole set m k c [] z e z' e' S S' ready known called are base under same same' low (end, is) end' = record {
    under = subst (Under source calls) (sym is) under;
    below = subst (λ (x : Zone). IsBelow x e') (sym end) (subst (λ (x : Zone). IsBelow z x) (sym end') low);
    base = subst (Base vars sizes) (sym is) base;
    size = ap (λ (z : Zone). z.vars) end ∙ same;
    size' = ap (λ (z : Zone). z.vars) end' ∙ same';
  }
  under_block program vars sizes given source calls whole set m k c (s ⨾ rest) z e z' e' S S' ready known called are base under same same' low (x, S1, one, two) (x', one', two') =
      let xs = callees s in
      let ys = block_callees rest in
      let a = under_stmt program vars sizes given source calls whole set m k c s z x z' x' S S1 ready.0 known.0 (called_first program sizes c xs ys called) (in_one whole c xs ys are) base under same same' low one one' in
      under_block program vars sizes given source calls whole set (m + sites s) (k + loops s) (c + length xs) rest x e x' e' S1 S' ready.1 known.1 (called_second program sizes c xs ys called) (in_two whole c xs ys are) a.base a.under a.size a.size' a.below
      two two'
