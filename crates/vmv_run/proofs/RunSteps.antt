-- The unrolled steps of a run, and that they are no more than those of the program.
use Rattle.std.proofs.Common.{◌≡◌, inl, inr, ℕ, zero, suc, ◌+◌, ◌*◌, ◌≤◌, ℤ, pos, Bool, true, false, MatchBool, List, map, refl, arith}
use Rattle.std.specs.Prelude.{int_lt}
use Rattle.std.proofs.Math.Nat.{mul-le-mul_right}
use Rattle.vmv_tree.specs.declared.name.Name.{Name}
use Rattle.vmv_tree.specs.Tree.{Stmt, copy, compute, call, assert, choose, repeat, Block, [], ◌⨾◌}
use Rattle.vmv_tree.specs.Run.{Valuation, Answers, End, next, Outcome, Does, InARow, Turns, Calls, Runs, RunsAll, value, assign, holds, sites, block_sites, turns_of}
use Rattle.vmv_tree.specs.Limits.{steps, block_steps}
use Rattle.vmv_run.proofs.Callees.{Callees, BlockCallees}
use Rattle.vmv_run.specs.Steps.{Counts, in_a_row, of_turns, of_part, run_steps, block_run_steps}
use Rattle.vmv_run.proofs.RunBound.{turns_within}

abbrev pub AtMost : (does : Does) → Counts does → ℕ → Type 0
AtMost does f n = (v : Valuation) (a : Answers) (e : End) (h : does v a e) → f v a e h ≤ n

row_at_most : (first second : Does) (f : Counts first) (g : Counts second) (n m : ℕ) → AtMost first f n → AtMost second g m → AtMost (InARow first second) (in_a_row first second f g) (n + m)
row_at_most first second f g n m p q v a e (inl h) = omega (arith, p v a e h.0)
row_at_most first second f g n m p q v a e (inr (mid, used, more, h, k, w)) = omega (arith, p v used (next mid) h, q mid more e k)

turns_at_most : (index : Name) (body : Does) (f : Counts body) (n k i : ℕ) → AtMost body f n → AtMost (Turns index body k i) (of_turns index body f k i) (k * (1 + n))
turns_at_most index body f n zero i p v a e h = omega arith
turns_at_most index body f n (suc k) i p v a e h =
    let w = row_at_most (λ w. body (assign w index (pos i))) (Turns index body k (i + 1)) (λ w a e h. 1 + f (assign w index (pos i)) a e h) (of_turns index body f k (i + 1)) (1 + n) (k * (1 + n)) (λ w a e h. omega (arith, p (assign w index (pos i)) a e h)) (turns_at_most index body f n k (i + 1) p) v a e h in
    omega (arith, w)

part_at_most : (b : Bool) (P Q : Type 0) (f : P → ℕ) (g : Q → ℕ) (n : ℕ) → ((h : P) → f h ≤ n) → (b ≡ false → (h : Q) → g h ≤ n) → (h : MatchBool b P Q) → of_part b P Q f g h ≤ n
part_at_most true P Q f g n p q h = p h
part_at_most false P Q f g n p q h = q refl h

module _ (calls : Calls) (proc : Name) (of : (callee : Name) (words : List ℤ) (a : Answers) (d : Outcome) → calls callee words a d → ℕ) (most_of : Name → ℕ)
    (ok : Name → Type 0) (few : (callee : Name) (words : List ℤ) (a : Answers) (d : Outcome) → ok callee → (h : calls callee words a d) → of callee words a d h ≤ most_of callee) where
  mutual
    pub steps_at_most : (k : ℕ) (s : Stmt) → Callees ok s → AtMost (Runs calls proc k s) (run_steps calls proc of k s) (steps most_of s)
    steps_at_most k (copy to from) c v a e h = omega arith
    steps_at_most k (compute to op left right) c v a e h = omega arith
    steps_at_most k (call to callee args) c v a e h = omega (arith, few callee (map (value v) args) a h.0 c h.1)
    steps_at_most k (assert test) c v a e h = omega arith
    steps_at_most k (choose test first second) c v a e h =
        let w = part_at_most (holds v test) (RunsAll calls proc k first v a e) (RunsAll calls proc (k + block_sites first) second v a e) (block_run_steps calls proc of k first v a e) (block_run_steps calls proc of (k + block_sites first) second v a e) (block_steps most_of first + block_steps most_of second) (λ h. omega (arith, block_at_most k first c.0 v a e h)) (λ n h. omega (arith, block_at_most (k + block_sites first) second c.1 v a e h)) h in
        omega (arith, w)
    steps_at_most k (repeat index bound most body) c v a e h =
        let w = part_at_most (int_lt most (value v bound)) _ (Turns index (RunsAll calls proc (k + 1) body) (turns_of (value v bound)) 0 v a e) (λ failed. 0) (of_turns index (RunsAll calls proc (k + 1) body) (block_run_steps calls proc of (k + 1) body) (turns_of (value v bound)) 0 v a e) (turns_of most * (1 + block_steps most_of body)) (λ h. omega arith)
        (λ n h. omega (arith, turns_at_most index (RunsAll calls proc (k + 1) body) (block_run_steps calls proc of (k + 1) body) (block_steps most_of body) (turns_of (value v bound)) 0 (block_at_most (k + 1) body c) v a e h, mul-le-mul_right (1 + block_steps most_of body) (turns_within most (value v bound) n))) h in
        omega (arith, w)

    pub block_at_most : (k : ℕ) (b : Block) → BlockCallees ok b → AtMost (RunsAll calls proc k b) (block_run_steps calls proc of k b) (block_steps most_of b)
    block_at_most k [] c v a e h = omega arith
    block_at_most k (s ⨾ rest) c v a e h =
        row_at_most (Runs calls proc k s) (RunsAll calls proc (k + sites s) rest) (run_steps calls proc of k s) (block_run_steps calls proc of (k + sites s) rest) (steps most_of s) (block_steps most_of rest) (steps_at_most k s c.0) (block_at_most (k + sites s) rest c.1) v a e h
