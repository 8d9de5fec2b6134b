-- A run that fails fails at a site of a procedure that its procedure reaches.
use Rattle.std.proofs.Common.{◌∙◌, ◌≡◌, ◌⊎◌, inl, inr, ⊎_elim, ℕ, zero, suc, ◌+◌, ◌<◌, ◌≤◌, ℤ, pos, Bool, true, false, if◌then◌else◌, MatchBool, Option, Some, None, List, [], ◌∷◌, ◌++◌, length, map, reverse, slice_get, refl, sym, ap, subst, arith, append-nil}
use Rattle.std.specs.Prelude.{int_lt}
use Rattle.std.specs.Str.{bytes_eq}
use Rattle.std.specs.List.{Contains}
use Rattle.std.proofs.lemmas.List.{reverse-reverse}
use Rattle.std.proofs.lemmas.Slice.Eq.{bytes_eq-Decides}
use Rattle.vmv_tree.specs.declared.name.Name.{Name}
use Rattle.vmv_tree.specs.declared.ends.NameEnds.{NameEnds}
use Rattle.vmv_tree.specs.declared.tree.Param.{Param}
use Rattle.vmv_tree.specs.Words.{result_of}
use Rattle.vmv_tree.specs.Tree.{Stmt, copy, compute, call, assert, choose, repeat, Block, [], ◌⨾◌, Body, Item, outside, helper, entry}
use Rattle.vmv_tree.specs.Run.{Valuation, Answers, Site, End, next, End.fail, Outcome, done, Outcome.fail, Does, Ends, InARow, Turns, Calls, Runs, RunsAll, RunsItem, RunsAbove, Run, value, holds, assign, set_or_fail, set_to_outcome, outcome_of, sites, block_sites, turns_of, name_of}
use Rattle.vmv_tree.specs.Safe.{Environment, Safe}
use Rattle.vmv_snapshot.specs.Procs.{procs}
use Rattle.vmv_snapshot.specs.Reaches.{Calls as Calling, BlockCalls, ItemCalls, ProcCalls}
use Rattle.vmv_snapshot.specs.Resolution.{Resolution, IsResolution, tree_of, procs_of}
use Rattle.vmv_snapshot.specs.Tables.{body_sites}
use Rattle.vmv_snapshot.proofs.Build.{procs-append}
use Rattle.vmv_snapshot.proofs.Links.{map_at}
use Rattle.vmv_snapshot.proofs.Ready.{behind}
use Rattle.vmv_assumption.specs.Assumed.{Assumed}
use Rattle.vmv_assumption.specs.Within.{IsWithin}
use Rattle.vmv_cert.specs.Tables.{IsSiteOf}
use Rattle.vmv_check.proofs.Above.{procs_once}
use Rattle.vmv_check.proofs.Orders.{name_at}
use Rattle.vmv_table_sound.specs.Told.{named, IsProved}
use Rattle.vmv_table_sound.proofs.Lists.{by_test}
use Rattle.vmv_table_sound.proofs.Rows.{turned}
use Rattle.vmv_table_sound.proofs.Environments.{provable_holds}

-- the procedure's own site of a number above the one and at most the other, or that of a call
abbrev IsFault : Calls → Name → ℕ → ℕ → (Name → Type 0) → Site → Type 0
IsFault calls proc low high Called site =
    ((site.proc ≡ proc) × (low < site.number) × (site.number ≤ high))
    ⊎ ((callee : Name) × (words : List ℤ) × (answers : Answers) × Called callee × calls callee words answers (Outcome.fail site))

-- each failure of it is so
abbrev Faults : Does → (Site → Type 0) → Type 0
Faults does P = (v : Valuation) (answers : Answers) (site : Site) → does v answers (End.fail site) → P site

wider : (calls : Calls) (proc : Name) (low high low' high' : ℕ) (Called Called' : Name → Type 0) (does : Does) → low' ≤ low → high ≤ high' → ((x : Name) → Called x → Called' x) →
    Faults does (IsFault calls proc low high Called) → Faults does (IsFault calls proc low' high' Called')
wider calls proc low high low' high' Called Called' does hl hh more f v answers site h = ⊎_elim
    (λ (own : (site.proc ≡ proc) × (low < site.number) × (site.number ≤ high)). let a = own.1 in let b = own.2 in inl (own.0, omega arith, omega arith))
    (λ (other : (callee : Name) × (words : List ℤ) × (answers : Answers) × Called callee × calls callee words answers (Outcome.fail site)). inr (other.0, other.1, other.2, more other.0 other.3, other.4))
    (f v answers site h)

row_faults : (P : Site → Type 0) (first second : Does) → Faults first P → Faults second P → Faults (InARow first second) P
row_faults P first second f g v answers site (inl (h, k)) = f v answers site h
row_faults P first second f g v answers site (inr (mid, used, more, h, k, is)) = g mid more site k

turns_fault : (P : Site → Type 0) (index : Name) (body : Does) (n i : ℕ) → Faults body P → Faults (Turns index body n i) P
turns_fault P index body zero i f v answers site h = let e = h.1 in absurd (cc)
turns_fault P index body (suc n) i f v answers site h =
    row_faults P (λ w. body (assign w index (pos i))) (Turns index body n (i + 1)) (λ w. f (assign w index (pos i))) (turns_fault P index body n (i + 1) f) v answers site h

part_faults : (P : Site → Type 0) (b : Bool) (one other : Does) → Faults one P → Faults other P → (v : Valuation) (answers : Answers) (site : Site) → MatchBool b (one v answers (End.fail site)) (other v answers (End.fail site)) → P site
part_faults P true one other f g v answers site h = f v answers site h
part_faults P false one other f g v answers site h = g v answers site h

same_failure : (a b : Site) → End.fail a ≡ End.fail b → a ≡ b
same_failure a b e = cc

-- one site of the procedure's own
own_fault : (calls : Calls) (proc : Name) (k high : ℕ) (Called : Name → Type 0) (site : Site) → k + 1 ≤ high → End.fail site ≡ End.fail (record { proc = proc; number = k + 1 }) → IsFault calls proc k high Called site
own_fault calls proc k high Called site h e =
    let same = same_failure site (record { proc = proc; number = k + 1 }) e in
    let number : site.number ≡ k + 1 = ap (λ (s : Site). s.number) same in
    inl (ap (λ (s : Site). s.proc) same, omega arith, omega arith)

result_fault : (calls : Calls) (proc : Name) (k : ℕ) (Called : Name → Type 0) (v : Valuation) (to : Name) (o : Option ℤ) (site : Site) → End.fail site ≡ set_or_fail v to (record { proc = proc; number = k + 1 }) o →
    IsFault calls proc k (k + 1) Called site
result_fault calls proc k Called v to (Some word) site e = absurd (cc)
result_fault calls proc k Called v to None site e = own_fault calls proc k (k + 1) Called site (omega arith) e

test_fault : (calls : Calls) (proc : Name) (k : ℕ) (Called : Name → Type 0) (v : Valuation) (b : Bool) (site : Site) → End.fail site ≡ (if b then next v else End.fail (record { proc = proc; number = k + 1 })) →
    IsFault calls proc k (k + 1) Called site
test_fault calls proc k Called v true site e = absurd (cc)
test_fault calls proc k Called v false site e = own_fault calls proc k (k + 1) Called site (omega arith) e

call_fault : (calls : Calls) (proc : Name) (k : ℕ) (v : Valuation) (to callee : Name) (words : List ℤ) (answers : Answers) (o : Outcome) (site : Site) → calls callee words answers o → End.fail site ≡ set_to_outcome v to o →
    IsFault calls proc k (k + 0) (λ x. callee ≡ x) site
call_fault calls proc k v to callee words answers (done word) site h e = absurd (cc)
call_fault calls proc k v to callee words answers (fail other) site h e =
    let same : other ≡ site = same_failure other site (sym e) in
    let P : Site → Type 0 = λ s. calls callee words answers (Outcome.fail s) in
    inr (callee, words, answers, refl, subst P same h)

module _ (calls : Calls) (proc : Name) where
  mutual
    stmt_faults : (k : ℕ) (s : Stmt) → Faults (Runs calls proc k s) (IsFault calls proc k (k + sites s) (Calling s))
    stmt_faults k (copy to from) v answers site h = let e = h.1 in absurd (cc)
    stmt_faults k (compute to op left right) v answers site h = result_fault calls proc k _ v to (result_of op (value v left) (value v right)) site h.1
    stmt_faults k (call to callee args) v answers site h = call_fault calls proc k v to callee (map (value v) args) answers h.0 site h.1 h.2
    stmt_faults k (assert test) v answers site h = test_fault calls proc k _ v (holds v test) site h.1
    stmt_faults k (choose test first second) v answers site h =
        let a = block_faults k first in
        let b = block_faults (k + block_sites first) second in
        let high = k + (block_sites first + block_sites second) in
        let Called : Name → Type 0 = λ x. BlockCalls first x ⊎ BlockCalls second x in
        part_faults (IsFault calls proc k high Called) (holds v test) (RunsAll calls proc k first) (RunsAll calls proc (k + block_sites first) second)
        (wider calls proc k (k + block_sites first) k high (BlockCalls first) Called (RunsAll calls proc k first) (omega arith) (omega arith) (λ x g. inl g) a)
        (wider calls proc (k + block_sites first) (k + block_sites first + block_sites second) k high (BlockCalls second) Called (RunsAll calls proc (k + block_sites first) second) (omega arith) (omega arith) (λ x g. inr g) b)
        v answers site h
    stmt_faults k (repeat index bound most body) v answers site h =
        let high = k + (1 + block_sites body) in
        let P : Site → Type 0 = IsFault calls proc k high (BlockCalls body) in
        let inner : Does = RunsAll calls proc (k + 1) body in
        part_faults P (int_lt most (value v bound)) (λ v a e. Ends a e (End.fail (record { proc = proc; number = k + 1 }))) (Turns index inner (turns_of (value v bound)) 0)
        (λ u a s g. own_fault calls proc k high (BlockCalls body) s (omega arith) g.1)
        (turns_fault P index inner (turns_of (value v bound)) 0
        (wider calls proc (k + 1) (k + 1 + block_sites body) k high (BlockCalls body) (BlockCalls body) inner (omega arith) (omega arith) (λ x g. g) (block_faults (k + 1) body)))
        v answers site h

    block_faults : (k : ℕ) (b : Block) → Faults (RunsAll calls proc k b) (IsFault calls proc k (k + block_sites b) (BlockCalls b))
    block_faults k [] v answers site h = let e = h.1 in absurd (cc)
    block_faults k (s ⨾ rest) v answers site h =
        let high = k + (sites s + block_sites rest) in
        let Called : Name → Type 0 = λ x. Calling s x ⊎ BlockCalls rest x in
        row_faults (IsFault calls proc k high Called) (Runs calls proc k s) (RunsAll calls proc (k + sites s) rest)
        (wider calls proc k (k + sites s) k high (Calling s) Called (Runs calls proc k s) (omega arith) (omega arith) (λ x g. inl g) (stmt_faults k s))
        (wider calls proc (k + sites s) (k + sites s + block_sites rest) k high (BlockCalls rest) Called (RunsAll calls proc (k + sites s) rest) (omega arith) (omega arith) (λ x g. inr g) (block_faults (k + sites s) rest))
        v answers site h

body_fault : (calls : Calls) (proc : Name) (body : Body) (answers : Answers) (site : Site) (end : End) (v : Valuation) → RunsAll calls proc 0 body.block v answers end →
    Outcome.fail site ≡ outcome_of body.output end → IsFault calls proc 0 (block_sites body.block) (BlockCalls body.block) site
body_fault calls proc body answers site (next u) v run is = absurd (cc)
body_fault calls proc body answers site (fail other) v run is =
    let same : other ≡ site = cc in
    subst (λ (s : Site). IsFault calls proc 0 (block_sites body.block) (BlockCalls body.block) s) same (wider calls proc 0 (0 + block_sites body.block) 0 (block_sites body.block) (BlockCalls body.block) (BlockCalls body.block)
    (RunsAll calls proc 0 body.block) (omega arith) (omega arith) (λ x g. g) (block_faults calls proc 0 body.block) v answers other run)

item_fault : (calls : Calls) (item : Item) (words : List ℤ) (answers : Answers) (site : Site) → RunsItem calls item words answers (Outcome.fail site) → IsFault calls (name_of item) 0 (body_sites item) (ItemCalls item) site
item_fault calls (outside f arity) words answers site (word, fits, used, is) = absurd (cc)
item_fault calls (helper f params body) words answers site (end, run, is) = body_fault calls f body answers site end _ run is
item_fault calls (entry f params body) words answers site (end, run, is) = body_fault calls f body answers site end _ run is

-- the number of a procedure of a program
here : (program : Resolution) (front : List Item) (item : Item) (after : List Item) → tree_of program ≡ front ++ item ∷ after → procs (item ∷ after) ≡ item ∷ procs after →
    slice_get (procs_of program) (length (procs front)) ≡ Some item
here program front item after parts first =
    ap (λ (xs : List Item). slice_get xs (length (procs front))) (ap procs parts ∙ procs-append front (item ∷ after))
    ∙ (behind (procs front) (procs (item ∷ after)) 0 (length (procs front)) (omega arith) ∙ ap (λ (xs : List Item). slice_get xs 0) first)

-- an item whose run fails is a procedure
failing_at : (program : Resolution) (calls : Calls) (front : List Item) (item : Item) (after : List Item) (words : List ℤ) (answers : Answers) (site : Site) → tree_of program ≡ front ++ item ∷ after →
    RunsItem calls item words answers (Outcome.fail site) → slice_get (procs_of program) (length (procs front)) ≡ Some item
failing_at program calls front (outside f arity) after words answers site parts (word, fits, used, is) = absurd (cc)
failing_at program calls front (helper f params body) after words answers site parts run = here program front (helper f params body) after parts refl
failing_at program calls front (entry f params body) after words answers site parts run = here program front (entry f params body) after parts refl

-- the site is one that the procedure of this name reaches
record IsFound (program : Resolution) (name : Name) (site : Site) : Type 0 where
  number : ℕ
  at : slice_get (map name_of (procs_of program)) number ≡ Some name
  home : ℕ
  is : IsSiteOf program number home (named site)

-- by a call of the procedure of the number
found_by : (program : Resolution) (n : ℕ) (item : Item) (callee : Name) (site : Site) → slice_get (procs_of program) n ≡ Some item → ItemCalls item callee → IsFound program callee site → IsFound program (name_of item) site
found_by program n item callee site at calls found =
    let m = map_at name_of (procs_of program) found.number callee found.at in
    let s = found.is in
    let link : ProcCalls (tree_of program) n found.number = (item, m.0, at, m.1, subst (ItemCalls item) (sym m.2) calls) in
    record {
      number = n;
      at = name_at program n item (name_of item) at refl;
      home = found.home;
      is = record { item = s.item; place = s.place; named = s.named; from = s.from; to = s.to; reached = (found.number ∷ s.reached.0, (link, s.reached.1)) };
    }

found_here : (program : Resolution) (above : List Item) (n : ℕ) (item : Item) (site : Site) → slice_get (procs_of program) n ≡ Some item →
    ((callee : Name) (words : List ℤ) (answers : Answers) → RunsAbove above callee words answers (Outcome.fail site) → IsFound program callee site) →
    IsFault (RunsAbove above) (name_of item) 0 (body_sites item) (ItemCalls item) site → IsFound program (name_of item) site
found_here program above n item site at below (inl (own, low, high)) = record {
  number = n;
  at = name_at program n item (name_of item) at refl;
  home = n;
  is = record { item = item; place = at; named = sym own; from = low; to = high; reached = ([], refl) };
}
found_here program above n item site at below (inr (callee, words, answers, called, run)) = found_by program n item callee site at called (below callee words answers run)

found_above : (program : Resolution) (above after : List Item) → tree_of program ≡ reverse above ++ after → (site : Site) (name : Name) (words : List ℤ) (answers : Answers) → RunsAbove above name words answers (Outcome.fail site) →
    IsFound program name site
found_above program [] after parts site name words answers run = absurd run
found_above program (item ∷ above) after parts site name words answers run =
    let parts' : tree_of program ≡ reverse above ++ item ∷ after = parts ∙ turned item above after in
    let below = found_above program above (item ∷ after) parts' site in
    by_test (bytes_eq (name_of item) name) (RunsItem (RunsAbove above) item words answers (Outcome.fail site)) (RunsAbove above name words answers (Outcome.fail site)) (IsFound program name site)
    (λ t r.
    let P : Name → Type 0 = λ x. IsFound program x site in
    subst P ((bytes_eq-Decides (name_of item) name).0 t)
    (found_here program above (length (procs (reverse above))) item site (failing_at program (RunsAbove above) (reverse above) item after words answers site parts' r) below (item_fault (RunsAbove above) item words answers site r)))
    (λ f r. below name words answers r)
    run

found_in : (program : Resolution) (site : Site) (name : Name) (words : List ℤ) (answers : Answers) → Run (tree_of program) name words answers (Outcome.fail site) → IsFound program name site
found_in program site name words answers run =
    let tree : List Item = tree_of program in
    let parts : tree ≡ reverse (reverse tree) ++ [] = sym (append-nil (reverse (reverse tree)) ∙ reverse-reverse tree) in
    found_above program (reverse tree) [] parts site name words answers run

-- the number of an entry
entry_number : (items : List Item) (k : ℕ) (name : Name) (params : List Param) (body : Body) → slice_get items k ≡ Some (entry name params body) → (n : ℕ) × (slice_get (procs items) n ≡ Some (entry name params body))
entry_number [] k name params body e = absurd (cc)
entry_number (outside f arity ∷ items) zero name params body e = absurd (cc)
entry_number (outside f arity ∷ items) (suc k) name params body e = entry_number items k name params body e
entry_number (helper f ps b ∷ items) zero name params body e = absurd (cc)
entry_number (helper f ps b ∷ items) (suc k) name params body e = let h = entry_number items k name params body e in (suc h.0, h.1)
entry_number (entry f ps b ∷ items) zero name params body e = (0, e)
entry_number (entry f ps b ∷ items) (suc k) name params body e = let h = entry_number items k name params body e in (suc h.0, h.1)

placed : (items : List Item) (x : Item) → Contains items x → (k : ℕ) × (slice_get items k ≡ Some x)
placed [] x (k, h, e) = absurd (omega (arith, h))
placed (y ∷ items) x (zero, h, e) = (0, ap (λ (z : Item). Some z) e)
placed (y ∷ items) x (suc k, h, e) = let g = placed items x (k, omega (arith, h), e) in (suc g.0, g.1)

-- an entry's failing run fails at a site of a procedure that the entry reaches
pub record IsFailing (program : Resolution) (name : Name) (params : List Param) (body : Body) (site : Site) : Type 0 where
  pub number : ℕ
  pub at : slice_get (procs_of program) number ≡ Some (entry name params body)
  pub home : ℕ
  pub is : IsSiteOf program number home (named site)

pub failing_site : (program : Resolution) (name : Name) (params : List Param) (body : Body) (words : List ℤ) (answers : Answers) (site : Site) → IsResolution program → Contains (tree_of program) (entry name params body) →
    Run (tree_of program) name words answers (Outcome.fail site) → IsFailing program name params body site
failing_site program name params body words answers site is there run =
    let found = found_in program site name words answers run in
    let p = placed (tree_of program) (entry name params body) there in
    let n = entry_number (tree_of program) p.0 name params body p.1 in
    let same : n.0 ≡ found.number = procs_once (tree_of program) is.valid n.0 found.number name (name_at program n.0 (entry name params body) name n.1 refl) found.at in
    let at : slice_get (procs_of program) found.number ≡ Some (entry name params body) = subst (λ m. slice_get (procs_of program) m ≡ Some (entry name params body)) same n.1 in
    record { number = found.number; at = at; home = found.home; is = found.is }

pub proved_safe : (program : Resolution) (ends : List NameEnds) (assumed : Assumed) (env : Environment) → IsResolution program → IsProved program ends assumed → IsWithin env assumed → Safe env (tree_of program)
proved_safe program ends assumed env is proved within name params body words answers site there fit inside run =
    let f = failing_site program name params body words answers site is there run in
    provable_holds program f.number ends assumed (named site) env name params body words answers is (proved f.number f.home params (named site) (name, body, f.at) f.is) f.at fit within inside run
