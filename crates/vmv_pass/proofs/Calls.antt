-- The calls that the walk of a row meets.
use Rattle.std.proofs.Common.{◌≡◌, ◌⊎◌, inl, inr, ⊎_elim, ℕ, zero, suc, ◌+◌, Option, Some, None, List, [], ◌∷◌, ◌++◌, length, slice_get, refl, sym, ap, subst, arith, ◌∙◌}
use Rattle.vmv_tree.specs.Tree.{Item}
use Rattle.vmv_cond.specs.declared.cond.Cond.{Cond}
use Rattle.vmv_snapshot.specs.declared.code.Code.{Code}
use Rattle.vmv_snapshot.specs.declared.code.ProcId.{ProcId}
use Rattle.vmv_snapshot.specs.Code.{Stmt, plain, help, branch, loop, Block, [], ◌⨾◌}
use Rattle.vmv_snapshot.specs.View.{code_of}
use Rattle.vmv_zone.specs.declared.zone.Zone.{Zone}
use Rattle.vmv_zone.specs.declared.operand.ZoneValue.TheVariants.{Within}
use Rattle.vmv_zone.specs.Zone.{IsJoin}
use Rattle.vmv_zone.specs.Step.{IsAssigned}
use Rattle.vmv_zone.specs.Read.{IsRangeOf}
use Rattle.vmv_step.specs.Zones.{zone_operand}
use Rattle.vmv_step.specs.Loops.{IsLeft}
use Rattle.vmv_cert.specs.declared.row.Row.{Row}
use Rattle.vmv_cert.specs.Sizes.{loops, block_loops, statements, block_statements}
use Rattle.vmv_cert.specs.Walk.{goes, fails, Walk, IsMatch, AreAllowed, Walks, WalksAll}
use Rattle.vmv_cert.specs.Tables.{WalksBody}
use Rattle.vmv_check.proofs.Lists.{some_same}
use Rattle.vmv_pass.specs.Callees.{callees, block_callees}
use Rattle.vmv_pass.specs.Source.{Source, by_row, Answers}
use Rattle.vmv_pass.specs.Holds.{Holds, HoldsAll, HoldsRow}
use Rattle.vmv_pass.proofs.Zips.{in_first, in_second, append_long}

goes_same : (a b : Zone) → goes a ≡ goes b → a ≡ b
goes_same a b e = cc

goes_fails : {P : Type 0} (a : Zone) (n : ℕ) → goes a ≡ fails n → P
goes_fails a n e = absurd (cc)

none_some : {P : Type 0} (args : Zone) → None ≡ Some args → P
none_some args e = absurd (cc)

-- these calls stand in the whole list from the c-th on
abbrev pub AreAt : List (Option Zone) → ℕ → List (Option Zone) → Type 0
AreAt whole c calls = (i : ℕ) (x : Option Zone) → slice_get calls i ≡ Some x → slice_get whole (c + i) ≡ Some x

pub at_here : (whole : List (Option Zone)) (c : ℕ) (x : Option Zone) → AreAt whole c (x ∷ []) → slice_get whole c ≡ Some x
at_here whole c x at =
    let s : c + 0 ≡ c = omega arith in
    subst (λ j. slice_get whole j ≡ Some x) s (at 0 x refl)

pub at_first : (whole : List (Option Zone)) (c : ℕ) (xs ys : List (Option Zone)) → AreAt whole c (xs ++ ys) → AreAt whole c xs
at_first whole c xs ys at i x e = at i x (in_first xs ys i x e)

pub at_second : (whole : List (Option Zone)) (c n : ℕ) (xs ys : List (Option Zone)) → length xs ≡ n → AreAt whole c (xs ++ ys) → AreAt whole (c + n) ys
at_second whole c n xs ys long at i x e =
    let s : c + (length xs + i) ≡ (c + n) + i = omega arith in
    subst (λ j. slice_get whole j ≡ Some x) s (at (length xs + i) x (in_second xs ys i x e))

-- the walk meets these calls
record Meets (w : Walk) (k : ℕ) (s : Stmt) (z e : Zone) : Type 0 where
  calls : List (Option Zone)
  count : length calls ≡ length (callees s)
  holds : (whole : List (Option Zone)) (c : ℕ) → AreAt whole c calls → Holds (by_row w) whole k c s z e

record MeetsAll (w : Walk) (k : ℕ) (b : Block) (z e : Zone) : Type 0 where
  calls : List (Option Zone)
  count : length calls ≡ length (block_callees b)
  holds : (whole : List (Option Zone)) (c : ℕ) → AreAt whole c calls → HoldsAll (by_row w) whole k c b z e

mutual
  stmt_calls : (w : Walk) (n k : ℕ) (s : Stmt) (z e : Zone) → Walks w n k s z (goes e) → Meets w k s z e
  stmt_calls w n k (plain simple) z e (s, stepped, inl (allowed, same)) =
      record { calls = []; count = refl; holds = λ whole c at. (s, stepped, λ number site up. allowed up number site, goes_same e s.zone same) }
  stmt_calls w n k (plain simple) z e (s, stepped, inr (never, bad)) = goes_fails e n bad
  stmt_calls w n k (help to callee codes) z e (inl (bottom, same)) =
      record { calls = None ∷ []; count = refl; holds = λ whole c at. inl (bottom, at_here whole c None at, goes_same e z same) }
  stmt_calls w n k (help to callee codes) z e (inr (some, (args, is, inl (none, bad)))) = goes_fails e n bad
  stmt_calls w n k (help to callee codes) z e (inr (some, (args, is, inr (matched, (cond, r, returned, assigned, inl (allowed, same)))))) = record {
    calls = Some args ∷ [];
    count = refl;
    holds = λ whole c at.
        inr (some, (args, cond, is, at_here whole c (Some args) at, (matched, returned, allowed), subst (λ (x : Zone). IsAssigned z to.0 (Within cond) x) (sym (goes_same e r same)) assigned));
  }
  stmt_calls w n k (help to callee codes) z e (inr (some, (args, is, inr (matched, (cond, r, returned, assigned, inr (never, bad)))))) = goes_fails e n bad
  stmt_calls w n k (branch test first second) z e (z1, z2, fails m, is, one, bad) = goes_fails e m bad
  stmt_calls w n k (branch test first second) z e (z1, z2, goes e1, is, one, (fails m, two, bad)) = goes_fails e m bad
  stmt_calls w n k (branch test first second) z e (z1, z2, goes e1, is, one, (goes e2, two, (j, join, same))) =
      let a = block_calls w (n + 1) k first z1 e1 one in
      let b = block_calls w (n + 1 + block_statements first) (k + block_loops first) second z2 e2 two in
      let s = a.count in
      let t = b.count in
      let u = append_long a.calls b.calls in
      let v = append_long (block_callees first) (block_callees second) in
      record {
        calls = a.calls ++ b.calls;
        count = omega arith;
        holds = λ whole c at.
            (z1, z2, e1, e2, is, a.holds whole c (at_first whole c a.calls b.calls at), b.holds whole (c + length (block_callees first)) (at_second whole c (length (block_callees first)) a.calls b.calls s at), subst (IsJoin e1 e2) (sym (goes_same e j same)) join);
      }
  stmt_calls w n k (loop index slot bound most site body) z e (s, kept, normed, turned, left, fails m, is, there, norm, turn, leave, begins, bad) = goes_fails e m bad
  stmt_calls w n k (loop index slot bound most site body) z e (s, kept, normed, turned, left, goes start, is, there, norm, turn, leave, inr (never, bad), rest) = goes_fails start n bad
  stmt_calls w n k (loop index slot bound most site body) z e (s, kept, normed, turned, left, goes start, is, there, norm, turn, leave, inl (ok, begun), (fails m, inside, bad)) = goes_fails e m bad
  stmt_calls w n k (loop index slot bound most site body) z e (s, kept, normed, turned, left, goes start, is, there, norm, turn, leave, inl (ok, begun), (goes end, inside, (again, more, inr (never, bad)))) = goes_fails e n bad
  stmt_calls w n k (loop index slot bound most site body) z e (s, kept, normed, turned, left, goes start, is, there, norm, turn, leave, inl (ok, begun), (goes end, inside, (again, more, inl (low, same)))) =
      let a = block_calls w (n + 1) (k + 1) body start end inside in
      let one : start ≡ turned = goes_same start turned begun in
      record {
        calls = a.calls;
        count = a.count;
        holds = λ whole c at. (
          s,
          kept,
          normed,
          turned,
          end,
          again,
          is,
          there,
          ok.0,
          ok.1,
          norm,
          turn,
          subst (λ (x : Zone). HoldsAll (by_row w) whole (k + 1) c body x end) one (a.holds whole c at),
          more,
          low,
          subst (λ (x : Zone). IsLeft index slot normed x) (sym (goes_same e left same)) leave,
        );
      }

  block_calls : (w : Walk) (n k : ℕ) (b : Block) (z e : Zone) → WalksAll w n k b z (goes e) → MeetsAll w k b z e
  block_calls w n k [] z e same = record { calls = []; count = refl; holds = λ whole c at. goes_same e z same }
  block_calls w n k (s ⨾ rest) z e (fails m, one, bad) = goes_fails e m bad
  block_calls w n k (s ⨾ rest) z e (goes x, one, two) =
      let a = stmt_calls w n k s z x one in
      let b = block_calls w (n + statements s) (k + loops s) rest x e two in
      let t = a.count in
      let t' = b.count in
      let u = append_long a.calls b.calls in
      let v = append_long (callees s) (block_callees rest) in
      record {
        calls = a.calls ++ b.calls;
        count = omega arith;
        holds = λ whole c at. (x, a.holds whole c (at_first whole c a.calls b.calls at), b.holds whole (c + length (callees s)) (at_second whole c (length (callees s)) a.calls b.calls t at));
      }

pub row_calls : (w : Walk) (item : Item) (code : Code) (e : Zone) → WalksBody w item code (goes e) → (calls : List (Option Zone)) × HoldsRow (by_row w) item code e calls
row_calls w item code e (start, fails m, entered, walk, bad) = goes_fails e m bad
row_calls w item code e (start, goes end, entered, walk, (range, read, inr (never, bad))) = goes_fails e _ bad
row_calls w item code e (start, goes end, entered, walk, (range, read, inl (above, same))) =
    let a = block_calls w 1 0 (code_of code).block start end walk in
    let one : end ≡ e = sym (goes_same e end same) in (
      a.calls,
      record {
        count = a.count;
        start = start;
        entered = entered;
        holds = subst (λ (x : Zone). HoldsAll (by_row w) a.calls 0 0 (code_of code).block start x) one (a.holds a.calls 0 (λ i x h. subst (λ j. slice_get a.calls j ≡ Some x) (let z : i ≡ 0 + i = omega arith in z) h));
        range = range;
        read = subst (λ (x : Zone). IsRangeOf x (zone_operand code.result) range) one read;
        told = above;
      },
    )

mutual
  stmt_goes : (w : Walk) (calls : List (Option Zone)) (n k c : ℕ) (s : Stmt) (z e : Zone) → Holds (by_row w) calls k c s z e → Walks w n k s z (goes e)
  stmt_goes w calls n k c (plain simple) z e (s, stepped, told, end) = (s, stepped, inl (λ up number site. told number site up, ap (λ (x : Zone). goes x) end))
  stmt_goes w calls n k c (help to callee codes) z e (inl (bottom, none, end)) = inl (bottom, ap (λ (x : Zone). goes x) end)
  stmt_goes w calls n k c (help to callee codes) z e (inr (some, (args, cond, is, met, (matched, returned, allowed), assigned))) = inr (some, (args, is, inr (matched, (cond, e, returned, assigned, inl (allowed, refl)))))
  stmt_goes w calls n k c (branch test first second) z e (z1, z2, e1, e2, is, one, two, join) = (
    z1,
    z2,
    goes e1,
    is,
    block_goes w calls (n + 1) k c first z1 e1 one,
    (goes e2, block_goes w calls (n + 1 + block_statements first) (k + block_loops first) (c + length (block_callees first)) second z2 e2 two, (e, join, refl)),
  )
  stmt_goes w calls n k c (loop index slot bound most site body) z e (s, kept, normed, turned, end, again, is, there, listed, low, norm, turn, inside, more, low', leave) = (
    s,
    kept,
    normed,
    turned,
    e,
    goes turned,
    is,
    there,
    norm,
    turn,
    leave,
    inl ((listed, low), refl),
    (goes end, block_goes w calls (n + 1) (k + 1) c body turned end inside, (again, more, inl (low', refl))),
  )

  block_goes : (w : Walk) (calls : List (Option Zone)) (n k c : ℕ) (b : Block) (z e : Zone) → HoldsAll (by_row w) calls k c b z e → WalksAll w n k b z (goes e)
  block_goes w calls n k c [] z e end = ap (λ (x : Zone). goes x) end
  block_goes w calls n k c (s ⨾ rest) z e (x, one, two) = (goes x, stmt_goes w calls n k c s z x one, block_goes w calls (n + statements s) (k + loops s) (c + length (callees s)) rest x e two)

-- a row's walk that holds goes on to its end
pub row_goes : (w : Walk) (item : Item) (code : Code) (e : Zone) (calls : List (Option Zone)) → HoldsRow (by_row w) item code e calls → WalksBody w item code (goes e)
row_goes w item code e calls row = (row.start, goes e, row.entered, block_goes w calls 1 0 0 (code_of code).block row.start e row.holds, (row.range, row.read, inl (row.told, refl)))

-- an element of two lists in a row is one of the first or of the second
append_cases : {X : Type 0} (xs ys : List X) (i : ℕ) (x : X) → slice_get (xs ++ ys) i ≡ Some x → (slice_get xs i ≡ Some x) ⊎ ((j : ℕ) × (i ≡ length xs + j) × (slice_get ys j ≡ Some x))
append_cases [] ys i x e = inr (i, omega arith, e)
append_cases (y ∷ xs) ys zero x e = inl e
append_cases (y ∷ xs) ys (suc i) x e =
    ⊎_elim (λ (h : slice_get xs i ≡ Some x). inl h)
    (λ (h : (j : ℕ) × (i ≡ length xs + j) × (slice_get ys j ≡ Some x)). inr (h.0, (let s = h.1 in omega arith), h.2)) (append_cases xs ys i x e)

-- a call that the walk meets is answered
abbrev IsAnswered : Source → ℕ → ProcId → Zone → Type 0
IsAnswered source c callee args = (cond : Cond) × Answers source c callee args cond

mutual
  stmt_answered : (source : Source) (calls : List (Option Zone)) (k c : ℕ) (s : Stmt) (z e : Zone) (i : ℕ) (callee : ProcId) (args : Zone) → Holds source calls k c s z e → slice_get (callees s) i ≡ Some callee → slice_get calls (c + i) ≡ Some (Some args) →
      IsAnswered source (c + i) callee args
  stmt_answered source calls k c (plain simple) z e i callee args h at met = absurd (cc)
  stmt_answered source calls k c (help to proc codes) z e zero callee args (inl (bottom, none, end)) at met =
      let s : c + 0 ≡ c = omega arith in
      let bad : Some None ≡ Some (Some args) = sym none ∙ subst (λ j. slice_get calls j ≡ Some (Some args)) s met in
      none_some args (some_same bad)
  stmt_answered source calls k c (help to proc codes) z e zero callee args (inr (some, (args', cond, is, met', answer, assigned))) at met =
      let s : c + 0 ≡ c = omega arith in
      let same : args' ≡ args = some_same (some_same (sym met' ∙ subst (λ j. slice_get calls j ≡ Some (Some args)) s met)) in
      let one : proc ≡ callee = some_same at in
      subst (λ j. IsAnswered source j callee args) (sym s) (subst (λ (x : Zone). IsAnswered source c callee x) same (subst (λ (p : ProcId). IsAnswered source c p args') one (cond, answer)))
  stmt_answered source calls k c (help to proc codes) z e (suc i) callee args h at met = absurd (cc)
  stmt_answered source calls k c (branch test first second) z e i callee args (z1, z2, e1, e2, is, one, two, join) at met =
      let xs = block_callees first in
      ⊎_elim (λ (h : slice_get xs i ≡ Some callee). block_answered source calls k c first z1 e1 i callee args one h met)
      (λ (h : (j : ℕ) × (i ≡ length xs + j) × (slice_get (block_callees second) j ≡ Some callee)).
      let s : c + i ≡ (c + length xs) + h.0 = (let t = h.1 in omega arith) in
      subst (λ j. IsAnswered source j callee args) (sym s) (block_answered source calls (k + block_loops first) (c + length xs) second z2 e2 h.0 callee args two h.2 (subst (λ j. slice_get calls j ≡ Some (Some args)) s met)))
      (append_cases xs (block_callees second) i callee at)
  stmt_answered source calls k c (loop index slot bound most site body) z e i callee args (s, kept, normed, turned, end, again, is, there, listed, low, norm, turn, inside, more, low', leave) at met =
      block_answered source calls (k + 1) c body turned end i callee args inside at met

  block_answered : (source : Source) (calls : List (Option Zone)) (k c : ℕ) (b : Block) (z e : Zone) (i : ℕ) (callee : ProcId) (args : Zone) → HoldsAll source calls k c b z e → slice_get (block_callees b) i ≡ Some callee → slice_get calls (c + i) ≡ Some (Some args) →
      IsAnswered source (c + i) callee args
  block_answered source calls k c [] z e i callee args h at met = absurd (cc)
  block_answered source calls k c (s ⨾ rest) z e i callee args (x, one, two) at met =
      let xs = callees s in
      ⊎_elim (λ (h : slice_get xs i ≡ Some callee). stmt_answered source calls k c s z x i callee args one h met)
      (λ (h : (j : ℕ) × (i ≡ length xs + j) × (slice_get (block_callees rest) j ≡ Some callee)).
      let t : c + i ≡ (c + length xs) + h.0 = (let t = h.1 in omega arith) in
      subst (λ j. IsAnswered source j callee args) (sym t) (block_answered source calls (k + loops s) (c + length xs) rest x e h.0 callee args two h.2 (subst (λ j. slice_get calls j ≡ Some (Some args)) t met)))
      (append_cases xs (block_callees rest) i callee at)

pub call_answered : (source : Source) (item : Item) (code : Code) (e : Zone) (calls : List (Option Zone)) (c : ℕ) (callee : ProcId) (args : Zone) → HoldsRow source item code e calls → slice_get (block_callees (code_of code).block) c ≡ Some callee →
    slice_get calls c ≡ Some (Some args) → (cond : Cond) × Answers source c callee args cond
call_answered source item code e calls c callee args row at met =
    let z : 0 + c ≡ c = omega arith in
    subst (λ j. IsAnswered source j callee args) z (block_answered source calls 0 0 (code_of code).block row.start e c callee args row.holds at (subst (λ j. slice_get calls j ≡ Some (Some args)) (sym z) met))

pub met_rows : (w : Walk) (item : Item) (code : Code) (e : Zone) (calls : List (Option Zone)) (c : ℕ) (callee : ProcId) (args : Zone) → HoldsRow (by_row w) item code e calls → slice_get (block_callees (code_of code).block) c ≡ Some callee →
    slice_get calls c ≡ Some (Some args) → ((row : Row) × IsMatch w callee.0 args row) × AreAllowed w callee.0 args
met_rows w item code e calls c callee args row at met = let a = call_answered (by_row w) item code e calls c callee args row at met in (a.1.0, a.1.2)
