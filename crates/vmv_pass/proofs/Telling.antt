-- A walk that holds by one source holds by another that tells the same.
use Rattle.std.proofs.Common.{◌≡◌, inl, inr, ℕ, ◌+◌, ◌≤◌, Bool, Option, Some, List, [], length, slice_get, refl, subst, arith}
use Rattle.vmv_tree.specs.Tree.{Item}
use Rattle.vmv_cond.specs.declared.cond.Cond.{Cond}
use Rattle.vmv_snapshot.specs.declared.code.Code.{Code}
use Rattle.vmv_snapshot.specs.declared.code.ProcId.{ProcId}
use Rattle.vmv_snapshot.specs.Code.{Stmt, plain, help, branch, loop, Block, [], ◌⨾◌}
use Rattle.vmv_snapshot.specs.View.{code_of}
use Rattle.vmv_snapshot.specs.Procs.{params_of}
use Rattle.vmv_zone.specs.declared.zone.Zone.{Zone}
use Rattle.vmv_assumption.specs.Assumed.{Assumed}
use Rattle.vmv_step.specs.Steps.{IsStepped}
use Rattle.vmv_step.specs.Enter.{declared_count, IsEntered}
use Rattle.vmv_cert.specs.Sizes.{loops, block_loops}
use Rattle.vmv_pass.specs.Callees.{callees, block_callees}
use Rattle.vmv_pass.specs.Source.{Source, assumed_in, input_in, keeps_in, TellsRange, TellsSite, Answers}
use Rattle.vmv_pass.specs.Holds.{Holds, HoldsAll, HoldsRow}
use Rattle.vmv_pass.proofs.Codes.{IsKnown, AreKnown, sites, block_sites}
use Rattle.vmv_pass.proofs.Under.{AreIn, in_one, in_two}

-- the one source tells what the other does, of sites and of the calls that are met
pub record Retells (source other : Source) (calls : List (Option Zone)) (whole : List ProcId) : Type 0 where
  pub assumed : assumed_in source ≡ assumed_in other
  pub keeps : keeps_in source ≡ keeps_in other
  pub sites : (n : ℕ) (flag : Bool) → 1 ≤ n → TellsSite source n flag → TellsSite other n flag
  pub answers : (c : ℕ) (callee : ProcId) (args : Zone) (cond : Cond) → slice_get whole c ≡ Some callee → slice_get calls c ≡ Some (Some args) → Answers source c callee args cond → Answers other c callee args cond

mutual
  stmt_retold : (source other : Source) (calls : List (Option Zone)) (whole : List ProcId) (m k c : ℕ) (s : Stmt) (z e : Zone) → Retells source other calls whole → IsKnown m s → AreIn whole c (callees s) → Holds source calls k c s z e →
      Holds other calls k c s z e
  stmt_retold source other calls whole m k c (plain simple) z e set known are (s, stepped, told, end) = (
    s,
    subst (λ (A : Assumed). IsStepped simple A z s) set.assumed stepped,
    λ n site. set.sites n s.unproved (let e = known.1 n site in omega arith) (told n site),
    end,
  )
  stmt_retold source other calls whole m k c (help to callee codes) z e set known are (inl h) = inl h
  stmt_retold source other calls whole m k c (help to callee codes) z e set known are (inr (some, (args, cond, is, met, answer, assigned))) =
      let t : c + 0 ≡ c = omega arith in
      let there : slice_get whole c ≡ Some callee = subst (λ j. slice_get whole j ≡ Some callee) t (are 0 callee refl) in
      inr (some, (args, cond, is, met, set.answers c callee args cond there met answer, assigned))
  stmt_retold source other calls whole m k c (branch test first second) z e set known are (z1, z2, e1, e2, is, one, two, join) =
      let xs = block_callees first in
      let ys = block_callees second in (
        z1,
        z2,
        e1,
        e2,
        is,
        block_retold source other calls whole m k c first z1 e1 set known.0 (in_one whole c xs ys are) one,
        block_retold source other calls whole (m + block_sites first) (k + block_loops first) (c + length xs) second z2 e2 set known.1 (in_two whole c xs ys are) two,
        join,
      )
  stmt_retold source other calls whole m k c (loop index slot bound most site body) z e set known are (s, kept, normed, turned, end, again, is, there, told, low, norm, turn, inside, more, low', leave) =
      let number = known.0 in (
        s,
        kept,
        normed,
        turned,
        end,
        again,
        is,
        subst (λ (zs : List Zone). slice_get zs k ≡ Some kept) set.keeps there,
        set.sites site s.unproved (omega arith) told,
        low,
        norm,
        turn,
        block_retold source other calls whole (m + 1) (k + 1) c body turned end set known.1 are inside,
        more,
        low',
        leave,
      )

  block_retold : (source other : Source) (calls : List (Option Zone)) (whole : List ProcId) (m k c : ℕ) (b : Block) (z e : Zone) → Retells source other calls whole → AreKnown m b → AreIn whole c (block_callees b) → HoldsAll source calls k c b z e →
      HoldsAll other calls k c b z e
  block_retold source other calls whole m k c [] z e set known are end = end
  block_retold source other calls whole m k c (s ⨾ rest) z e set known are (x, one, two) = (
    x,
    stmt_retold source other calls whole m k c s z x set known.0 (in_one whole c (callees s) (block_callees rest) are) one,
    block_retold source other calls whole (m + sites s) (k + loops s) (c + length (callees s)) rest x e set known.1 (in_two whole c (callees s) (block_callees rest) are) two,
  )

pub row_retold : (source other : Source) (item : Item) (code : Code) (e : Zone) (calls : List (Option Zone)) → Retells source other calls (block_callees (code_of code).block) → AreKnown 0 (code_of code).block → input_in source ≡ input_in other →
    ((range : Cond) → TellsRange source range → TellsRange other range) → HoldsRow source item code e calls → HoldsRow other item code e calls
row_retold source other item code e calls set known input told row = record {
  count = row.count;
  start = row.start;
  entered = subst (λ (z : Zone). IsEntered z (length (params_of item)) (declared_count item) code.vars row.start) input row.entered;
  holds = block_retold source other calls (block_callees (code_of code).block) 0 0 0 (code_of code).block row.start e set known
      (λ i callee at. subst (λ j. slice_get (block_callees (code_of code).block) j ≡ Some callee) (let z : i ≡ 0 + i = omega arith in z) at) row.holds;
  range = row.range;
  read = row.read;
  told = told row.range row.told;
}
