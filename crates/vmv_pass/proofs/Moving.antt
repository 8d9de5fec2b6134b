-- What a pass over statements keeps, by what its single changes keep.
use Rattle.std.proofs.Common.{◌≡◌, inl, inr, ℕ, ◌+◌, ◌-◌, Bool, Some, List, [], ◌∷◌, ◌++◌, length, map, slice_get, slice_set, refl, sym, ap, subst, arith, ◌∙◌}
use Rattle.std.specs.List.{All}
use Rattle.vmv_snapshot.specs.declared.code.ProcId.{ProcId}
use Rattle.vmv_snapshot.specs.declared.code.CodeOperand.{CodeOperand}
use Rattle.vmv_snapshot.specs.declared.code.Simple.{Simple}
use Rattle.vmv_snapshot.specs.declared.code.Simple.TheVariants.{Set, Arith, Ask, Assert}
use Rattle.vmv_snapshot.specs.Code.{Stmt, plain, help, branch, loop, Block, [], ◌⨾◌}
use Rattle.vmv_snapshot.specs.Resolution.{Resolution}
use Rattle.vmv_zone.specs.declared.zone.Zone.{Zone}
use Rattle.vmv_zone.specs.declared.operand.ZoneValue.TheVariants.{Within}
use Rattle.vmv_zone.specs.Zone.{vars_of, IsNormal}
use Rattle.vmv_zone.specs.Args.{IsArgsOf}
use Rattle.vmv_step.specs.Zones.{zone_args, AreInside}
use Rattle.vmv_step.proofs.Arguments.{pass_normal}
use Rattle.vmv_cert.specs.Sizes.{loops, block_loops}
use Rattle.vmv_check.specs.Walker.{IsReady, AreReady, HasParams}
use Rattle.vmv_check.proofs.Lists.{some_same}
use Rattle.vmv_check.proofs.Walking.{assigned_vars, after_vars, head_vars}
use Rattle.vmv_pass.specs.Callees.{callees, block_callees}
use Rattle.vmv_pass.specs.Moves.{Given, Lists, flagged, Keeps, Takes, Moves, MovesAll, AreCalled}
use Rattle.vmv_pass.proofs.Zips.{all_at, all_set, map_set, in_first, in_second}

-- the calls of the first statements, and of those behind them
pub called_first : (program : Resolution) (sizes : List ℕ) (c : ℕ) (xs ys : List ProcId) → AreCalled program sizes c (xs ++ ys) → AreCalled program sizes c xs
called_first program sizes c xs ys called i callee at = called i callee (in_first xs ys i callee at)

pub called_second : (program : Resolution) (sizes : List ℕ) (c : ℕ) (xs ys : List ProcId) → AreCalled program sizes c (xs ++ ys) → AreCalled program sizes (c + length xs) ys
called_second program sizes c xs ys called i callee at =
    let h = called (length xs + i) callee (in_second xs ys i callee at) in
    let s : c + (length xs + i) ≡ (c + length xs) + i = omega arith in
    (h.0, subst (λ j. slice_get sizes j ≡ Some h.0) s h.1, h.2)

-- the states at loops are over so many variables, and the inputs have these sizes
pub record Base (vars : ℕ) (sizes : List ℕ) (S : Lists) : Type 0 where
  pub over : All (λ (z : Zone). z.vars ≡ vars) S.keeps
  pub inputs : map vars_of S.inputs ≡ sizes

-- a relation of lists before and after that each single change keeps
pub record Rule (vars : ℕ) (sizes : List ℕ) (given : Given) (R : Lists → Lists → Type 0) : Type 0 where
  pub same : (S : Lists) → R S S
  pub chain : (S T U : Lists) → R S T → R T U → R S U
  pub flag : (S : Lists) (i : ℕ) (flag : Bool) → R S (record S { unproved = slice_set S.unproved i flag })
  pub keep : (k : ℕ) (seen kept : Zone) (S S' : Lists) → Base vars sizes S → seen.vars ≡ vars → Keeps given k seen S kept S' → R S S'
  pub take : (c : ℕ) (args : Zone) (S S' : Lists) → Base vars sizes S → slice_get sizes c ≡ Some args.vars → IsNormal args → Takes c args S S' → R S S'

-- what is so behind a pass that ends in the state e
pub record Moved (vars : ℕ) (sizes : List ℕ) (R : Lists → Lists → Type 0) (S : Lists) (e : Zone) (S' : Lists) : Type 0 where
  pub base : Base vars sizes S'
  pub size : e.vars ≡ vars
  pub rule : R S S'

-- a state at a loop
pub record Kept (vars : ℕ) (sizes : List ℕ) (kept : Zone) (S' : Lists) : Type 0 where
  pub base : Base vars sizes S'
  pub size : kept.vars ≡ vars

pub keep_base : (vars : ℕ) (sizes : List ℕ) (given : Given) (k : ℕ) (seen kept : Zone) (S S' : Lists) → Base vars sizes S → Keeps given k seen S kept S' → Kept vars sizes kept S'
keep_base vars sizes given k seen kept S S' base (old, at, inl (below, same, is)) =
    record { base = subst (Base vars sizes) (sym is) base; size = ap (λ (z : Zone). z.vars) same ∙ all_at (λ (z : Zone). z.vars ≡ vars) S.keeps k old base.over at }
keep_base vars sizes given k seen kept S S' base (old, at, inr (above, (both, join, round, is))) =
    let size : kept.vars ≡ vars = round.vars ∙ (join.vars ∙ all_at (λ (z : Zone). z.vars ≡ vars) S.keeps k old base.over at) in
    record { base = subst (Base vars sizes) (sym is) (record { over = all_set (λ (z : Zone). z.vars ≡ vars) S.keeps k kept base.over size; inputs = base.inputs }); size = size }

pub take_base : (vars : ℕ) (sizes : List ℕ) (c : ℕ) (args : Zone) (S S' : Lists) → Base vars sizes S → Takes c args S S' → Base vars sizes S'
take_base vars sizes c args S S' base (old, at, inl (below, is)) = subst (Base vars sizes) (sym is) base
take_base vars sizes c args S S' base (old, at, inr (above, (both, input, join, norm, is))) =
    subst (Base vars sizes) (sym is) (record { over = base.over; inputs = map_set vars_of S.inputs c input old at (norm.vars ∙ join.vars) ∙ base.inputs })

-- the arguments of the first call have its callee's number of parameters
pub called_size : (program : Resolution) (vars : ℕ) (sizes : List ℕ) (c : ℕ) (callee : ProcId) (codes : List CodeOperand) (z args : Zone) → AreCalled program sizes c (callee ∷ []) → HasParams program callee.0 (length codes) →
    AreInside vars codes → z.vars ≡ vars → IsArgsOf z (zone_args codes) args → (slice_get sizes c ≡ Some args.vars) × IsNormal args
called_size program vars sizes c callee codes z args called params inside same is =
    let h = called 0 callee refl in
    let normal = pass_normal codes z args (subst (λ n. AreInside n codes) (sym same) inside) is in
    let s : c + 0 ≡ c = omega arith in
    let e : h.0 ≡ args.vars = some_same (sym h.2 ∙ params) ∙ sym normal.1 in
    (subst (λ j. slice_get sizes j ≡ Some args.vars) s (h.1 ∙ ap (λ n. Some n) e), normal.0)

flag_rule : (vars : ℕ) (sizes : List ℕ) (given : Given) (R : Lists → Lists → Type 0) (rule : Rule vars sizes given R) (simple : Simple) (flag : Bool) (S : Lists) → R S (record S { unproved = flagged simple flag S.unproved })
flag_rule vars sizes given R rule (Set to from) flag S = rule.same S
flag_rule vars sizes given R rule (Arith to op left right site) flag S = rule.flag S _ flag
flag_rule vars sizes given R rule (Ask to callee args) flag S = rule.same S
flag_rule vars sizes given R rule (Assert test site) flag S = rule.flag S _ flag

mutual
  pub moved : (program : Resolution) (vars : ℕ) (sizes : List ℕ) (given : Given) (R : Lists → Lists → Type 0) (rule : Rule vars sizes given R) (k c : ℕ) (s : Stmt) (z e : Zone) (S S' : Lists) → IsReady program vars s →
      AreCalled program sizes c (callees s) → Base vars sizes S → z.vars ≡ vars → Moves given k c s z S e S' → Moved vars sizes R S e S'
  moved program vars sizes given R rule k c (plain simple) z e S S' ready called base same (s, stepped, end, is) =
      record {
        base = subst (Base vars sizes) (sym is) (record { over = base.over; inputs = base.inputs });
        size = ap (λ (z : Zone). z.vars) end ∙ (after_vars simple given.assumed z s.zone stepped.zone ∙ same);
        rule = subst (R S) (sym is) (flag_rule vars sizes given R rule simple s.unproved S);
      }
  moved program vars sizes given R rule k c (help to callee codes) z e S S' ready called base same (inl (bottom, end, is)) =
      record { base = subst (Base vars sizes) (sym is) base; size = ap (λ (z : Zone). z.vars) end ∙ same; rule = subst (R S) (sym is) (rule.same S) }
  moved program vars sizes given R rule k c (help to callee codes) z e S S' ready called base same (inr (some, (args, cond, is, takes, at, assigned))) =
      let size = called_size program vars sizes c callee codes z args called ready.1 ready.3 same is in
      record {
        base = take_base vars sizes c args S S' base takes;
        size = assigned_vars z e to.0 (Within cond) assigned ∙ same;
        rule = rule.take c args S S' base size.0 size.1 takes;
      }
  moved program vars sizes given R rule k c (branch test first second) z e S S' ready called base same (z1, z2, e1, e2, S1, is, one, two, join) =
      let a = moved_all program vars sizes given R rule k c first z1 e1 S S1 ready.1 (called_first program sizes c (block_callees first) (block_callees second) called) base (is.holds.greatest.vars ∙ same) one in
      let b = moved_all program vars sizes given R rule (k + block_loops first) (c + length (block_callees first)) second z2 e2 S1 S' ready.2 (called_second program sizes c (block_callees first) (block_callees second) called) a.base
      (is.fails.greatest.vars ∙ same) two in
      record { base = b.base; size = join.vars ∙ a.size; rule = rule.chain S S1 S' a.rule b.rule }
  moved program vars sizes given R rule k c (loop index slot bound most site body) z e S S' ready called base same (s, kept, normed, turned, end, again, last, left, S1, S2, is, first, norm, turn, inside, more, second, out, leave) =
      let S0 : Lists = record S { unproved = slice_set S.unproved (site - 1) s.unproved } in
      let base0 : Base vars sizes S0 = record { over = base.over; inputs = base.inputs } in
      let seen : s.zone.vars ≡ vars = head_vars index slot bound most z s is ∙ same in
      let a = keep_base vars sizes given k s.zone kept S0 S1 base0 first in
      let b = moved_all program vars sizes given R rule (k + 1) c body turned end S1 S2 ready.3 called a.base (turn.greatest.vars ∙ (norm.vars ∙ a.size)) inside in
      let seen' : again.vars ≡ vars = assigned_vars end again index.0 _ more ∙ b.size in
      let d = keep_base vars sizes given k again last S2 S' b.base second in
      record {
        base = d.base;
        size = leave.vars ∙ (out.vars ∙ d.size);
        rule = rule.chain S S0 S' (rule.flag S (site - 1) s.unproved) (rule.chain S0 S1 S' (rule.keep k s.zone kept S0 S1 base0 seen first) (rule.chain S1 S2 S' b.rule (rule.keep k again last S2 S' b.base seen' second)));
      }

  pub moved_all : (program : Resolution) (vars : ℕ) (sizes : List ℕ) (given : Given) (R : Lists → Lists → Type 0) (rule : Rule vars sizes given R) (k c : ℕ) (b : Block) (z e : Zone) (S S' : Lists) → AreReady program vars b →
      AreCalled program sizes c (block_callees b) → Base vars sizes S → z.vars ≡ vars → MovesAll given k c b z S e S' → Moved vars sizes R S e S'
  moved_all program vars sizes given R rule k c [] z e S S' ready called base same (end, is) =
      record { base = subst (Base vars sizes) (sym is) base; size = ap (λ (z : Zone). z.vars) end ∙ same; rule = subst (R S) (sym is) (rule.same S) }
  moved_all program vars sizes given R rule k c (s ⨾ rest) z e S S' ready called base same (m, S1, one, two) =
      let a = moved program vars sizes given R rule k c s z m S S1 ready.0 (called_first program sizes c (callees s) (block_callees rest) called) base same one in
      let b = moved_all program vars sizes given R rule (k + loops s) (c + length (callees s)) rest m e S1 S' ready.1 (called_second program sizes c (callees s) (block_callees rest) called) a.base a.size two in
      record { base = b.base; size = b.size; rule = rule.chain S S1 S' a.rule b.rule }
