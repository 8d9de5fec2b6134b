-- A run uses no more answers than the program's unrolled outside calls.
use Rattle.std.proofs.Common.{◌≡◌, inl, inr, ℕ, zero, suc, ◌+◌, ◌*◌, ◌≤◌, ℤ, pos, negsuc, Bool, true, false, MatchBool, List, [], length, map, refl, sym, ap, subst, arith, length-append}
use Rattle.std.specs.Prelude.{int_lt}
use Rattle.std.proofs.Math.Nat.{mul-le-mul_right}
use Rattle.std.proofs.lemmas.Bool.Decides.{nat_tests}
use Rattle.vmv_tree.specs.declared.name.Name.{Name}
use Rattle.vmv_tree.specs.Tree.{Stmt, copy, compute, call, assert, choose, repeat, Block, [], ◌⨾◌}
use Rattle.vmv_tree.specs.Limits.{asks, block_asks}
use Rattle.vmv_run.proofs.Callees.{Callees, BlockCallees}
use Rattle.vmv_tree.specs.Run.{Valuation, Answers, End, next, Outcome, Does, Ends, InARow, Turns, Calls, Runs, RunsAll, value, assign, sites, block_sites, turns_of}

abbrev pub IsWithin : ℕ → Does → Type 0
IsWithin n does = (v : Valuation) (a : Answers) (e : End) → does v a e → length a ≤ n

none_asked : (a : Answers) (n : ℕ) → a ≡ [] → length a ≤ n
none_asked a n h = subst (λ (u : Answers). length u ≤ n) (sym h) (omega arith)

InARow-within : (n m : ℕ) (first second : Does) → IsWithin n first → IsWithin m second → IsWithin (n + m) (InARow first second)
InARow-within n m first second f g v a e (inl h) = omega (arith, f v a e h.0)
InARow-within n m first second f g v a e (inr (mid, used, more, h, k, p)) =
    omega (arith, f v used (next mid) h, g mid more e k, ap length p, length-append used more)

Turns-within : (n : ℕ) (index : Name) (body : Does) (k i : ℕ) → IsWithin n body → IsWithin (k * n) (Turns index body k i)
Turns-within n index body zero i f v a e h = none_asked a _ h.0
Turns-within n index body (suc k) i f v a e h =
    let w = InARow-within n (k * n) (λ w. body (assign w index (pos i))) (Turns index body k (i + 1)) (λ w. f (assign w index (pos i))) (Turns-within n index body k (i + 1) f) v a e h in
    omega (arith, w)

pub turns_within : (x y : ℤ) → int_lt x y ≡ false → turns_of y ≤ turns_of x
turns_within (pos a) (pos b) h = grind (arith, nat_tests)
turns_within (pos a) (negsuc b) h = omega arith
turns_within (negsuc a) (pos b) h = absurd (cc h)
turns_within (negsuc a) (negsuc b) h = omega arith

choose_within : (b : Bool) (n m : ℕ) (one other : Does) (v : Valuation) (a : Answers) (e : End) → IsWithin n one → IsWithin m other → MatchBool b (one v a e) (other v a e) → length a ≤ n + m
choose_within true n m one other v a e f g h = omega (arith, f v a e h)
choose_within false n m one other v a e f g h = omega (arith, g v a e h)

repeat_within : (cap bound : ℤ) (b : Bool) → int_lt cap bound ≡ b → (n : ℕ) (index : Name) (body : Does) (v : Valuation) (a : Answers) (e this : End) → IsWithin n body
    → MatchBool b (Ends a e this) (Turns index body (turns_of bound) 0 v a e) → length a ≤ turns_of cap * n
repeat_within cap bound true t n index body v a e this f h = none_asked a _ h.0
repeat_within cap bound false t n index body v a e this f h =
    omega (arith, Turns-within n index body (turns_of bound) 0 f v a e h, mul-le-mul_right n (turns_within cap bound t))

module _ (calls : Calls) (proc : Name) (of : Name → ℕ) (ok : Name → Type 0) (few : (callee : Name) (words : List ℤ) (a : Answers) (d : Outcome) → ok callee → calls callee words a d → length a ≤ of callee) where
  mutual
    pub Runs-within : (k : ℕ) (s : Stmt) → Callees ok s → IsWithin (asks of s) (Runs calls proc k s)
    Runs-within k (copy to from) c v a e h = none_asked a _ h.0
    Runs-within k (compute to op left right) c v a e h = none_asked a _ h.0
    Runs-within k (call to callee args) c v a e h = few callee (map (value v) args) a h.0 c h.1
    Runs-within k (assert test) c v a e h = none_asked a _ h.0
    Runs-within k (choose test first second) c v a e h =
        choose_within _ _ _ (RunsAll calls proc k first) (RunsAll calls proc (k + block_sites first) second) v a e (RunsAll-within k first c.0) (RunsAll-within (k + block_sites first) second c.1) h
    Runs-within k (repeat index bound most body) c v a e h =
        repeat_within most (value v bound) _ refl _ index (RunsAll calls proc (k + 1) body) v a e _ (RunsAll-within (k + 1) body c) h

    pub RunsAll-within : (k : ℕ) (b : Block) → BlockCallees ok b → IsWithin (block_asks of b) (RunsAll calls proc k b)
    RunsAll-within k [] c v a e h = none_asked a _ h.0
    RunsAll-within k (s ⨾ rest) c v a e h =
        InARow-within _ _ (Runs calls proc k s) (RunsAll calls proc (k + sites s) rest) (Runs-within k s c.0) (RunsAll-within (k + sites s) rest c.1) v a e h
