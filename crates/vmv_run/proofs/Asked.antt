-- A run asks outside functions of its program alone.
use Rattle.std.proofs.Common.{◌≡◌, inl, inr, ⊎_elim, ℕ, zero, suc, ◌+◌, ◌<◌, ℤ, pos, Bool, true, false, MatchBool, List, [], ◌∷◌, ◌++◌, length, map, reverse, get_or, refl, sym, subst, arith}
use Rattle.std.specs.List.{Contains}
use Rattle.std.proofs.lemmas.List.{reverse-append}
use Rattle.std.proofs.lemmas.List.Elements.{Contains-push_cases}
use Rattle.vmv_tree.specs.declared.name.Name.{Name}
use Rattle.vmv_tree.specs.Tree.{Stmt, copy, compute, call, assert, choose, repeat, Block, [], ◌⨾◌, Item, outside, helper, entry}
use Rattle.vmv_tree.specs.Run.{Valuation, Answers, End, next, Outcome, Does, Ends, InARow, Turns, Calls, Runs, RunsAll, RunsItem, RunsAbove, Run, value, assign, sites, block_sites, holds, turns_of}
use Rattle.vmv_tree.specs.Safe.{Environment, words_of, AreIn, Safe}
use Rattle.vmv_run.specs.Asked.{IsOutside, AreOutside, AreSameFor}

AreOutside-append : (program : List Item) (a b : Answers) → AreOutside program a → AreOutside program b → AreOutside program (a ++ b)
AreOutside-append program [] b h k = k
AreOutside-append program (p ∷ a) b h k = (h.0, AreOutside-append program a b h.1 k)

none_asked : (program : List Item) (a : Answers) → a ≡ [] → AreOutside program a
none_asked program a e = subst (AreOutside program) (sym e) tt

abbrev Asks : List Item → Does → Type 0
Asks program does = (v : Valuation) (a : Answers) (e : End) → does v a e → AreOutside program a

row_asks : (program : List Item) (first second : Does) → Asks program first → Asks program second → Asks program (InARow first second)
row_asks program first second f g v a e (inl h) = f v a e h.0
row_asks program first second f g v a e (inr (mid, used, more, h, k, p)) =
    subst (AreOutside program) (sym p) (AreOutside-append program used more (f v used (next mid) h) (g mid more e k))

turns_ask : (program : List Item) (index : Name) (body : Does) (n i : ℕ) → Asks program body → Asks program (Turns index body n i)
turns_ask program index body zero i f v a e h = none_asked program a h.0
turns_ask program index body (suc n) i f v a e h =
    row_asks program (λ w. body (assign w index (pos i))) (Turns index body n (i + 1)) (λ w. f (assign w index (pos i))) (turns_ask program index body n (i + 1) f) v a e h

part_asks : (program : List Item) (b : Bool) (one other : Does) (v : Valuation) (a : Answers) (e : End) → Asks program one → Asks program other →
    MatchBool b (one v a e) (other v a e) → AreOutside program a
part_asks program true one other v a e f g h = f v a e h
part_asks program false one other v a e f g h = g v a e h

module _ (program : List Item) (calls : Calls) (proc : Name) (asks : (callee : Name) (words : List ℤ) (a : Answers) (d : Outcome) → calls callee words a d → AreOutside program a) where
  mutual
    stmt_asks : (k : ℕ) (s : Stmt) → Asks program (Runs calls proc k s)
    stmt_asks k (copy to from) v a e h = none_asked program a h.0
    stmt_asks k (compute to op left right) v a e h = none_asked program a h.0
    stmt_asks k (call to callee args) v a e h = asks callee (map (value v) args) a h.0 h.1
    stmt_asks k (assert test) v a e h = none_asked program a h.0
    stmt_asks k (choose test first second) v a e h =
        part_asks program (holds v test) (RunsAll calls proc k first) (RunsAll calls proc (k + block_sites first) second) v a e (block_asks k first) (block_asks (k + block_sites first) second) h
    stmt_asks k (repeat index bound most body) v a e h =
        part_asks program _ (λ v a e. Ends a e (End.fail (record { proc = proc; number = k + 1 }))) (Turns index (RunsAll calls proc (k + 1) body) (turns_of (value v bound)) 0) v a e
        (λ v a e h. none_asked program a h.0) (turns_ask program index (RunsAll calls proc (k + 1) body) (turns_of (value v bound)) 0 (block_asks (k + 1) body)) h

    block_asks : (k : ℕ) (b : Block) → Asks program (RunsAll calls proc k b)
    block_asks k [] v a e h = none_asked program a h.0
    block_asks k (s ⨾ rest) v a e h = row_asks program (Runs calls proc k s) (RunsAll calls proc (k + sites s) rest) (stmt_asks k s) (block_asks (k + sites s) rest) v a e h

-- each item of the one list is one of the other
abbrev AreAmong : List Item → List Item → Type 0
AreAmong items program = (item : Item) → Contains items item → Contains program item

item_asks : (program above : List Item) (item : Item) → Contains program item →
    ((callee : Name) (words : List ℤ) (a : Answers) (d : Outcome) → RunsAbove above callee words a d → AreOutside program a) →
    (words : List ℤ) (a : Answers) (d : Outcome) → RunsItem (RunsAbove above) item words a d → AreOutside program a
item_asks program above (outside f arity) here asks words a d h = subst (AreOutside program) (sym h.2) ((arity, here), tt)
item_asks program above (helper f params body) here asks words a d h = block_asks program (RunsAbove above) f asks 0 body.block _ a h.0 h.1
item_asks program above (entry f params body) here asks words a d h = block_asks program (RunsAbove above) f asks 0 body.block _ a h.0 h.1

either_asks : (program : List Item) (b : Bool) (one other : Type 0) (a : Answers) → (one → AreOutside program a) → (other → AreOutside program a) → MatchBool b one other → AreOutside program a
either_asks program true one other a f g h = f h
either_asks program false one other a f g h = g h

further : (item : Item) (items : List Item) (x : Item) → Contains items x → Contains (item ∷ items) x
further item items x c = (suc c.0, omega (arith, c.1), c.2)

above_asks : (program above : List Item) → AreAmong above program → (callee : Name) (words : List ℤ) (a : Answers) (d : Outcome) → RunsAbove above callee words a d → AreOutside program a
above_asks program [] among callee words a d h = absurd h
above_asks program (item ∷ above) among callee words a d h =
    let below = above_asks program above (λ x c. among x (further item above x c)) in
    either_asks program _ (RunsItem (RunsAbove above) item words a d) (RunsAbove above callee words a d) a
    (item_asks program above item (among item (0, omega arith, refl)) below words a d) (below callee words a d) h

-- a reversed list has the items of the list
reversed : (items : List Item) (x : Item) → Contains (reverse items) x → Contains items x
reversed [] x c = c
reversed (item ∷ items) x c =
    let joined : reverse (item ∷ items) ≡ reverse items ++ item ∷ [] = reverse-append (item ∷ []) items in
    let c' : Contains (reverse items ++ item ∷ []) x = subst (λ (xs : List Item). Contains xs x) joined c in
    ⊎_elim (λ (h : Contains (reverse items) x). further item items x (reversed items x h)) (λ (h : item ≡ x). (0, omega arith, h)) (Contains-push_cases (reverse items) item x c')

pub run_asks : (program : List Item) (proc : Name) (words : List ℤ) (answers : Answers) (outcome : Outcome) → Run program proc words answers outcome → AreOutside program answers
run_asks program proc words answers outcome run = above_asks program (reverse program) (reversed program) proc words answers outcome run

outside_at : (program : List Item) (answers : Answers) → AreOutside program answers → (k : ℕ) (d : Name × ℤ) → k < length answers → IsOutside program (get_or answers k d).0
outside_at program [] asked k d h = absurd (omega (arith, h))
outside_at program (p ∷ answers) asked zero d h = asked.0
outside_at program (p ∷ answers) asked (suc k) d h = outside_at program answers asked.1 k d (omega (arith, h))

in_other : (program : List Item) (env other : Environment) (answers : Answers) → AreOutside program answers → AreSameFor program env other → AreIn answers other → AreIn answers env
in_other program env other answers asked same within = λ k d h.
    let e : words_of env (get_or answers k d).0 ≡ words_of other (get_or answers k d).0 = same (get_or answers k d).0 (outside_at program answers asked k d h) in
    subst (λ (words : List ℤ). Contains words (get_or answers k d).1) (sym e) (within k d h)

pub safe_for_both : (program : List Item) (env other : Environment) → AreSameFor program env other → Safe env program → Safe other program
safe_for_both program env other same safe name params body words answers site at fit within run =
    safe name params body words answers site at fit
    (in_other program env other answers (run_asks program name words answers (Outcome.fail site) run) same within) run
