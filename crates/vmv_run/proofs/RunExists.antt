-- With one answer for each name there is exactly one run.
use Rattle.std.proofs.Common.{inl, inr, ℕ, zero, suc, ◌+◌, ℤ, pos, Bool, true, false, MatchBool, List, [], ◌∷◌, ◌++◌, map, refl, sym, ◌∙◌, ap}
use Rattle.std.specs.Bool.{⊤}
use Rattle.vmv_tree.specs.declared.name.Name.{Name}
use Rattle.vmv_tree.specs.Words.{IsWord}
use Rattle.vmv_tree.specs.Tree.{Stmt, copy, compute, call, assert, choose, repeat, Block, [], ◌⨾◌, Body, Item, outside, helper, entry}
use Rattle.vmv_tree.specs.Run.{Valuation, Answers, End, next, Outcome, done, Does, Ends, InARow, Turns, Calls, Runs, RunsAll, RunsBody, RunsItem, RunsAbove, set_to_outcome, outcome_of, value, assign, sites, block_sites, start}
use Rattle.vmv_run.proofs.Callees.{Callees, BlockCallees, ItemCallees, Declares, IsResolved}
use Rattle.vmv_run.specs.Constant.{AreFrom}
use Rattle.vmv_run.proofs.RunFixed.{Alike}

pub AreFrom-append : (c : Name → ℤ) (a b : Answers) → AreFrom c a → AreFrom c b → AreFrom c (a ++ b)
AreFrom-append c [] b h k = k
AreFrom-append c (p ∷ a) b h k = (h.0, AreFrom-append c a b h.1 k)

pub AreFrom-Alike : (c : Name → ℤ) (a b : Answers) → AreFrom c a → AreFrom c b → Alike a b
AreFrom-Alike c [] b h k = tt
AreFrom-Alike c (p ∷ a) [] h k = tt
AreFrom-Alike c (p ∷ a) (q ∷ b) h k = λ e. (h.0 ∙ ap c e ∙ sym k.0, AreFrom-Alike c a b h.1 k.1)

-- there is a run from each valuation
abbrev pub Can : (Name → ℤ) → Does → Type 0
Can c does = (v : Valuation) → (a : Answers) × (e : End) × does v a e × AreFrom c a

InARow-can : (c : Name → ℤ) (first second : Does) → Can c first → Can c second → Can c (InARow first second)
InARow-can c first second f g v = go (f v)
  where
    go : (a : Answers) × (e : End) × first v a e × AreFrom c a → (a : Answers) × (e : End) × InARow first second v a e × AreFrom c a
    go (a, End.fail site, h, k) = (a, End.fail site, inl (h, tt), k)
    go (a, next mid, h, k) =
        let w = g mid in
        (a ++ w.0, w.1, inr (mid, a, w.0, h, w.2, refl), AreFrom-append c a w.0 k w.3)

pub Turns-can : (c : Name → ℤ) (index : Name) (body : Does) (n i : ℕ) → Can c body → Can c (Turns index body n i)
Turns-can c index body zero i f v = ([], next v, (refl, refl), tt)
Turns-can c index body (suc n) i f v =
    InARow-can c (λ w. body (assign w index (pos i))) (Turns index body n (i + 1)) (λ w. f (assign w index (pos i))) (Turns-can c index body n (i + 1) f) v

MatchBool-can : (c : Name → ℤ) (test : Bool) (one other : Does) (v : Valuation) → Can c one → Can c other → (a : Answers) × (e : End) × MatchBool test (one v a e) (other v a e) × AreFrom c a
MatchBool-can c true one other v f g = f v
MatchBool-can c false one other v f g = g v

-- a call of the name with any words has such a run
abbrev pub Answer : (Name → ℤ) → Calls → Name → Type 0
Answer c calls callee = (words : List ℤ) → (a : Answers) × (d : Outcome) × calls callee words a d × AreFrom c a

module _ (c : Name → ℤ) (calls : Calls) (proc : Name) where
  mutual
    pub Runs-can : (k : ℕ) (s : Stmt) → Callees (Answer c calls) s → Can c (Runs calls proc k s)
    Runs-can k (copy to from) h v = ([], _, (refl, refl), tt)
    Runs-can k (compute to op left right) h v = ([], _, (refl, refl), tt)
    Runs-can k (call to callee args) h v =
        let w = h (map (value v) args) in
        (w.0, set_to_outcome v to w.1, (w.1, w.2, refl), w.3)
    Runs-can k (assert test) h v = ([], _, (refl, refl), tt)
    Runs-can k (choose test first second) h v =
        MatchBool-can c _ (RunsAll calls proc k first) (RunsAll calls proc (k + block_sites first) second) v (RunsAll-can k first h.0) (RunsAll-can (k + block_sites first) second h.1)
    Runs-can k (repeat index bound cap body) h v =
        MatchBool-can c _ (λ v a e. Ends a e (End.fail (record { proc = proc; number = k + 1 }))) (Turns index (RunsAll calls proc (k + 1) body) _ 0) v (λ w. ([], _, (refl, refl), tt)) (Turns-can c index (RunsAll calls proc (k + 1) body) _ 0 (RunsAll-can (k + 1) body h))

    pub RunsAll-can : (k : ℕ) (b : Block) → BlockCallees (Answer c calls) b → Can c (RunsAll calls proc k b)
    RunsAll-can k [] h v = ([], _, (refl, refl), tt)
    RunsAll-can k (s ⨾ rest) h v = InARow-can c (Runs calls proc k s) (RunsAll calls proc (k + sites s) rest) (Runs-can k s h.0) (RunsAll-can (k + sites s) rest h.1) v

-- A callee that is one of these is one of those.
mutual
  Callees-map : (P Q : Name → Type 0) → ((name : Name) → P name → Q name) → (s : Stmt) → Callees P s → Callees Q s
  Callees-map P Q f (copy to from) h = tt
  Callees-map P Q f (compute to op left right) h = tt
  Callees-map P Q f (call to callee args) h = f callee h
  Callees-map P Q f (assert test) h = tt
  Callees-map P Q f (choose test first second) h = (BlockCallees-map P Q f first h.0, BlockCallees-map P Q f second h.1)
  Callees-map P Q f (repeat index bound most body) h = BlockCallees-map P Q f body h

  BlockCallees-map : (P Q : Name → Type 0) → ((name : Name) → P name → Q name) → (b : Block) → BlockCallees P b → BlockCallees Q b
  BlockCallees-map P Q f [] h = tt
  BlockCallees-map P Q f (s ⨾ rest) h = (Callees-map P Q f s h.0, BlockCallees-map P Q f rest h.1)

RunsBody-can : (c : Name → ℤ) (calls : Calls) (proc : Name) (params : List Name) (body : Body) → BlockCallees (Answer c calls) body.block
    → (words : List ℤ) → (a : Answers) × (d : Outcome) × RunsBody calls proc params body words a d × AreFrom c a
RunsBody-can c calls proc params body h words =
    let w = RunsAll-can c calls proc 0 body.block h (start params words) in
    (w.0, outcome_of body.output w.1, (w.1, w.2, refl), w.3)

Item-can : (c : Name → ℤ) → ((name : Name) → IsWord (c name)) → (calls : Calls) (item : Item) → ItemCallees (Answer c calls) item
    → (words : List ℤ) → (a : Answers) × (d : Outcome) × RunsItem calls item words a d × AreFrom c a
Item-can c fits calls (outside name arity) h words = ((name, c name) ∷ [], done (c name), (c name, fits name, refl, refl), (refl, tt))
Item-can c fits calls (helper name params body) h words = RunsBody-can c calls name params body h words
Item-can c fits calls (entry name params body) h words = RunsBody-can c calls name _ body h words

-- the run of the item that declares it
above_can : (c : Name → ℤ) (test : Bool) (item above : Answers → Outcome → Type 0) (H P : Type 0) → MatchBool test H P
    → (H → (a : Answers) × (d : Outcome) × item a d × AreFrom c a) → (P → (a : Answers) × (d : Outcome) × above a d × AreFrom c a)
    → (a : Answers) × (d : Outcome) × MatchBool test (item a d) (above a d) × AreFrom c a
above_can c true item above H P h f g = f h
above_can c false item above H P h f g = g h

ItemCallees-map : (P Q : Name → Type 0) → ((name : Name) → P name → Q name) → (item : Item) → ItemCallees P item → ItemCallees Q item
ItemCallees-map P Q f (outside name arity) h = tt
ItemCallees-map P Q f (helper name params body) h = BlockCallees-map P Q f body.block h
ItemCallees-map P Q f (entry name params body) h = BlockCallees-map P Q f body.block h

module _ (c : Name → ℤ) (fits : (name : Name) → IsWord (c name)) where
  item_can : (item : Item) (above : List Item) → ItemCallees (Declares above) item → ((name : Name) → Declares above name → Answer c (RunsAbove above) name)
      → (words : List ℤ) → (a : Answers) × (d : Outcome) × RunsItem (RunsAbove above) item words a d × AreFrom c a
  item_can item above h below words = Item-can c fits (RunsAbove above) item (ItemCallees-map (Declares above) (Answer c (RunsAbove above)) below item h) words

  pub Above-can : (above : List Item) → IsResolved above → (name : Name) → Declares above name → Answer c (RunsAbove above) name
  Above-can [] h name d words = absurd d
  Above-can (outside f arity ∷ above) h name d words =
      above_can c _ (RunsItem (RunsAbove above) (outside f arity) words) (RunsAbove above name words) ⊤ (Declares above name) d
      (λ here. item_can (outside f arity) above h.0 (Above-can above h.1) words) (λ e. Above-can above h.1 name e words)
  Above-can (helper f params body ∷ above) h name d words =
      above_can c _ (RunsItem (RunsAbove above) (helper f params body) words) (RunsAbove above name words) ⊤ (Declares above name) d
      (λ here. item_can (helper f params body) above h.0 (Above-can above h.1) words) (λ e. Above-can above h.1 name e words)
  Above-can (entry f params body ∷ above) h name d words =
      above_can c _ (RunsItem (RunsAbove above) (entry f params body) words) (RunsAbove above name words) ⊥ (Declares above name) d
      (λ here. absurd here) (λ e. Above-can above h.1 name e words)

  -- an item whose callees are declared above it has a run
  pub some_run : (item : Item) (above : List Item) → ItemCallees (Declares above) item → IsResolved above → (words : List ℤ)
      → (a : Answers) × (d : Outcome) × RunsItem (RunsAbove above) item words a d × AreFrom c a
  some_run item above h resolved words = item_can item above h (Above-can above resolved) words
