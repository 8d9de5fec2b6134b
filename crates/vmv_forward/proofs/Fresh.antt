-- An instance of which nothing is known, and the calls of a procedure.
use Rattle.std.proofs.Common.{◌≡◌, ◌⊎◌, inl, inr, ⊎_elim, ℕ, zero, suc, ◌+◌, ◌<◌, ◌≤◌, ℤ, Bool, false, IsFalse, Some, List, [], ◌∷◌, ◌++◌, length, map, take, slice_get, get_or, refl, sym, ap, subst, arith, ◌∙◌}
use Rattle.std.specs.Prelude.{replicate}
use Rattle.std.specs.Option.{option_map}
use Rattle.std.proofs.lemmas.Option.{slice_get-map}
use Rattle.std.specs.List.{All, AllZip, Contains}
use Rattle.std.proofs.lemmas.List.{length-replicate}
use Rattle.vmv_tree.specs.Tree.{Item}
use Rattle.vmv_tree.specs.declared.tree.Param.{Param}
use Rattle.vmv_snapshot.specs.declared.code.CodeStmt.{CodeStmt}
use Rattle.vmv_cond.specs.declared.cond.Cond.{Cond}
use Rattle.vmv_cond.specs.Cond.{IsEmpty}
use Rattle.vmv_snapshot.specs.declared.code.Code.{Code}
use Rattle.vmv_snapshot.specs.declared.code.ProcId.{ProcId}
use Rattle.vmv_snapshot.specs.Code.{Stmt, plain, help, branch, loop, Block, [], ◌⨾◌}
use Rattle.vmv_snapshot.specs.View.{code_of, block_of}
use Rattle.vmv_snapshot.specs.Procs.{params_of}
use Rattle.vmv_snapshot.specs.Tables.{body_sites}
use Rattle.vmv_snapshot.specs.Resolution.{Resolution, IsResolution, procs_of}
use Rattle.vmv_snapshot.proofs.Zips.{zip_more}
use Rattle.vmv_snapshot.specs.Rows.{Helps, BlockHelps}
use Rattle.vmv_snapshot.specs.Resolution.{tree_of}
use Rattle.vmv_snapshot.proofs.Links.{map_at, helps_call}
use Rattle.vmv_zone.specs.declared.zone.Zone.{Zone}
use Rattle.vmv_zone.specs.Zone.{vars_of, IsBottom, IsNormal}
use Rattle.vmv_zone.specs.Round.{IsThresholdState}
use Rattle.vmv_zone.proofs.Equal.{clash}
use Rattle.vmv_cert.specs.Sizes.{block_statements, block_loops}
use Rattle.vmv_check.specs.Walker.{HasParams, IsReady, AreReady}
use Rattle.vmv_check.proofs.Lists.{some_same, within, item_at, all_of}
use Rattle.vmv_check.proofs.Codes.{code_ready}
use Rattle.vmv_pass.specs.Callees.{callees, block_callees}
use Rattle.vmv_pass.specs.Upper.{IsProc}
use Rattle.vmv_forward.specs.Grow.{AreProcs, AreInputs, IsNew}
use Rattle.vmv_forward.proofs.Passing.{same_or, path_with}

-- a helper that is called has at most 16 parameters
abbrev IsCalledProc : Resolution → ProcId → Type 0
IsCalledProc program callee = (count : ℕ) × HasParams program callee.0 count × (count ≤ 16)

among_both : {X : Type 0} (xs ys : List X) (x : X) → Contains (xs ++ ys) x → Contains xs x ⊎ Contains ys x
among_both [] ys x among = inr among
among_both (z ∷ xs) ys x (zero, h, e) = inl (zero, omega arith, e)
among_both (z ∷ xs) ys x (suc k, h, e) =
    ⊎_elim (λ (g : Contains xs x). inl (suc g.0, (let q = g.1 in omega arith), g.2)) (λ (g : Contains ys x). inr g) (among_both xs ys x (k, omega (arith, h), e))

no_called : {P : Type 0} (callee : ProcId) → Contains [] callee → P
no_called callee (k, h, e) = absurd (omega (arith, h))

only_called : (proc callee : ProcId) → Contains (proc ∷ []) callee → proc ≡ callee
only_called proc callee (zero, h, e) = e
only_called proc callee (suc k, h, e) = absurd (omega (arith, h))

mutual
  stmt_procs : (program : Resolution) (vars : ℕ) (s : Stmt) → IsReady program vars s → (callee : ProcId) → Contains (callees s) callee → IsCalledProc program callee
  stmt_procs program vars (plain simple) ready callee among = no_called callee among
  stmt_procs program vars (help to proc args) ready callee among = subst (IsCalledProc program) (only_called proc callee among) (length args, ready.1, ready.2)
  stmt_procs program vars (branch test first second) ready callee among =
      ⊎_elim (λ (g : Contains (block_callees first) callee). block_procs program vars first ready.1 callee g) (λ (g : Contains (block_callees second) callee). block_procs program vars second ready.2 callee g) (among_both (block_callees first) (block_callees second) callee among)
  stmt_procs program vars (loop index slot bound most site body) ready callee among = block_procs program vars body ready.3 callee among

  block_procs : (program : Resolution) (vars : ℕ) (b : Block) → AreReady program vars b → (callee : ProcId) → Contains (block_callees b) callee → IsCalledProc program callee
  block_procs program vars [] ready callee among = no_called callee among
  block_procs program vars (s ⨾ rest) ready callee among =
      ⊎_elim (λ (g : Contains (callees s) callee). stmt_procs program vars s ready.0 callee g) (λ (g : Contains (block_callees rest) callee). block_procs program vars rest ready.1 callee g) (among_both (callees s) (block_callees rest) callee among)

pub proc_ready : (program : Resolution) (n : ℕ) (code : Code) → IsResolution program → n < length (procs_of program) → slice_get program.codes n ≡ Some code → (item : Item) × IsProc program n item code
proc_ready program n code is h at = let x = item_at (procs_of program) n h in (x.0, record { place = x.1; code_is = at })

pub few_statements : (program : Resolution) (n : ℕ) (code : Code) (xs : List CodeStmt) → IsResolution program → n < length (procs_of program) → slice_get program.codes n ≡ Some code → xs ≡ code.block → block_statements (block_of xs) ≤ 2000
few_statements program n code xs is h at same =
    let p = proc_ready program n code is h at in
    let r = code_ready program n code p.0 is (is.resolves n code at) p.1.place in
    subst (λ l. block_statements (block_of l) ≤ 2000) (sym same) r.steps

pub few_vars : (program : Resolution) (n : ℕ) (code : Code) → IsResolution program → n < length (procs_of program) → slice_get program.codes n ≡ Some code → code.vars ≤ 16
few_vars program n code is h at =
    let p = proc_ready program n code is h at in
    (code_ready program n code p.0 is (is.resolves n code at) p.1.place).few

pub procs_called : (program : Resolution) (n : ℕ) (code : Code) (list : List ProcId) → IsResolution program → n < length (procs_of program) → slice_get program.codes n ≡ Some code →
    ((item : Item) (code : Code) → IsProc program n item code → list ≡ block_callees (code_of code).block) → AreProcs program list
procs_called program n code list is h at list_is =
    let p = proc_ready program n code is h at in
    let r = code_ready program n code p.0 is (is.resolves n code at) p.1.place in
    subst (AreProcs program) (sym (list_is p.0 code p.1)) (all_of (IsCalledProc program) (block_callees (code_of code).block) (λ callee among. block_procs program code.vars (code_of code).block r.block callee among))

-- the parameters of a callee

pub callee_at : (program : Resolution) (list : List ProcId) (i : ℕ) (d : ProcId) → AreProcs program list → i < length list → IsCalledProc program (get_or list i d)
callee_at program list i d all h = all i d h

pub callee_inside : (program : Resolution) (list : List ProcId) (i : ℕ) (d : ProcId) → AreProcs program list → i < length list → (get_or list i d).0 < length (procs_of program)
callee_inside program list i d all h =
    let c = all i d h in
    let m = map_at (λ (item : Item). length (params_of item)) (procs_of program) (get_or list i d).0 c.0 c.1 in
    within (procs_of program) (get_or list i d).0 m.0 m.1

-- the number of the parameters that were read
pub params_count : (program : Resolution) (callee : ProcId) (params : List Param) → slice_get (map params_of (procs_of program)) callee.0 ≡ Some params → HasParams program callee.0 (length params)
params_count program callee params at =
    let m = map_at params_of (procs_of program) callee.0 params at in
    slice_get-map (λ (item : Item). length (params_of item)) (procs_of program) callee.0 ∙ (ap (option_map (λ (item : Item). length (params_of item))) m.1 ∙ ap (λ l. Some (length l)) m.2)

pub few_params : (program : Resolution) (list : List ProcId) (i n : ℕ) (d : ProcId) (params : List Param) → AreProcs program list → i < length list → slice_get (map params_of (procs_of program)) (get_or list i d).0 ≡ Some params → n ≡ length params → n ≤ 16
few_params program list i n d params all h at same =
    let c = all i d h in
    let e : c.0 ≡ length params = some_same (sym c.1 ∙ params_count program (get_or list i d) params at) in
    let few = c.2 in
    omega arith

pub inputs_more : (program : Resolution) (list : List ProcId) (i : ℕ) (d : ProcId) (params : List Param) (inputs inputs' : List Zone) (bottom : Zone) → i < length list → slice_get (map params_of (procs_of program)) (get_or list i d).0 ≡ Some params →
    bottom.vars ≡ length params → IsBottom bottom → inputs' ≡ inputs ++ bottom ∷ [] → AreInputs program (take i list) inputs → AreInputs program (take (i + 1) list) inputs'
inputs_more program list i d params inputs inputs' bottom h at vars none more before =
    let R : ProcId → Zone → Type 0 = λ (callee : ProcId) (z : Zone). HasParams program callee.0 (vars_of z) × IsBottom z in
    let count = params_count program (get_or list i d) params at in
    zip_more R list inputs inputs' i (get_or list i d) bottom h (same_or list i d (get_or list i d) h) before (subst (λ n. HasParams program (get_or list i d).0 n) (sym vars) count, none) more

-- a call of a helper is one of the calls that are counted
mutual
  stmt_helps : (s : Stmt) (callee : ProcId) → Contains (callees s) callee → Helps s callee.0
  stmt_helps (plain simple) callee among = no_called callee among
  stmt_helps (help to proc args) callee among = ap (λ (p : ProcId). p.0) (only_called proc callee among)
  stmt_helps (branch test first second) callee among =
      ⊎_elim (λ (g : Contains (block_callees first) callee). inl (block_helps first callee g)) (λ (g : Contains (block_callees second) callee). inr (block_helps second callee g)) (among_both (block_callees first) (block_callees second) callee among)
  stmt_helps (loop index slot bound most site body) callee among = block_helps body callee among

  pub block_helps : (b : Block) (callee : ProcId) → Contains (block_callees b) callee → BlockHelps b callee.0
  block_helps [] callee among = no_called callee among
  block_helps (s ⨾ rest) callee among =
      ⊎_elim (λ (g : Contains (callees s) callee). inl (stmt_helps s callee g)) (λ (g : Contains (block_callees rest) callee). inr (block_helps rest callee g)) (among_both (callees s) (block_callees rest) callee among)

-- a procedure calls those of lower numbers
pub callee_lower : (program : Resolution) (n : ℕ) (code : Code) (list : List ProcId) (i : ℕ) (d : ProcId) → IsResolution program → slice_get program.codes n ≡ Some code → list ≡ block_callees (code_of code).block → i < length list → (get_or list i d).0 < n
callee_lower program n code list i d is at same h =
    let one : Contains list (get_or list i d) = (i, h, same_or list i (get_or list i d) d h) in
    let among = subst (λ (l : List ProcId). Contains l (get_or list i d)) same one in
    (helps_call (tree_of program) n (code_of code) (is.resolves n code at) (get_or list i d).0 (block_helps (code_of code).block (get_or list i d) among)).1

pub all_replicate : {X : Type 0} (P : X → Type 0) (n : ℕ) (x : X) → P x → All P (replicate n x)
all_replicate P zero x p k d h = absurd (omega (arith, h))
all_replicate P (suc n) x p zero d h = p
all_replicate P (suc n) x p (suc k) d h = all_replicate P n x p k d (omega (arith, h))

bottom_threshold : (ts : List ℤ) (z : Zone) → IsBottom z → IsThresholdState ts z
bottom_threshold ts z t f = clash z.bottom t f

bottom_normal : (z : Zone) → IsBottom z → IsNormal z
bottom_normal z t f = clash z.bottom t f

normal_inputs : (program : Resolution) (list : List ProcId) (inputs : List Zone) → AreInputs program list inputs → AllZip (λ (callee : ProcId) (z : Zone). HasParams program callee.0 (vars_of z) × IsNormal z) list inputs
normal_inputs program [] [] all = tt
normal_inputs program [] (z ∷ inputs) all = absurd all
normal_inputs program (p ∷ list) [] all = absurd all
normal_inputs program (p ∷ list) (z ∷ inputs) all = ((all.0.0, bottom_normal z all.0.1), normal_inputs program list inputs all.1)

bottom_inputs_of : (program : Resolution) (list : List ProcId) (inputs : List Zone) → AreInputs program list inputs → All IsBottom inputs
bottom_inputs_of program [] [] all k d h = absurd (omega (arith, h))
bottom_inputs_of program [] (z ∷ inputs) all k d h = absurd all
bottom_inputs_of program (p ∷ list) [] all k d h = absurd all
bottom_inputs_of program (p ∷ list) (z ∷ inputs) all zero d h = all.0.1
bottom_inputs_of program (p ∷ list) (z ∷ inputs) all (suc k) d h = bottom_inputs_of program list inputs all.1 k d (omega (arith, h))

sites_at : (program : Resolution) (n sites : ℕ) (item : Item) → slice_get (map body_sites (procs_of program)) n ≡ Some sites → slice_get (procs_of program) n ≡ Some item → sites ≡ body_sites item
sites_at program n sites item at there = let m = map_at body_sites (procs_of program) n sites at in sym m.2 ∙ ap body_sites (some_same (sym m.1 ∙ there))

-- an instance of which nothing is known
pub new_is : (program : Resolution) (proc : ProcId) (own : Code) (caller place loops sites : ℕ) (list : List ProcId) (xs : List CodeStmt) (bottom : Zone) (none : Cond) (callees' : List ℕ) (keeps inputs : List Zone) (results : List Cond) (unproved : List Bool) →
    slice_get program.codes proc.0 ≡ Some own → xs ≡ own.block → loops ≡ block_loops (block_of xs) → bottom.vars ≡ own.vars → IsBottom bottom → IsEmpty none → slice_get (map body_sites (procs_of program)) proc.0 ≡ Some sites →
    ((item : Item) (code : Code) → IsProc program proc.0 item code → list ≡ block_callees (code_of code).block) → callees' ≡ [] → keeps ≡ replicate loops bottom → AreInputs program list inputs → results ≡ replicate (length list) none →
    unproved ≡ replicate sites false → IsNew program proc caller place (path_with proc caller place callees' keeps inputs results unproved)
new_is program proc own caller place loops sites list xs bottom none callees' keeps inputs results unproved kept block_is loops_is vars down empty sites_is list_is callees_is keeps_is inputs_are results_are unproved_are =
    record {
      proc_is = refl;
      caller_is = refl;
      place_is = refl;
      callees = callees_is;
      fresh = record {
        keeps = subst (λ (l : List Zone). All IsBottom l) (sym keeps_is) (all_replicate IsBottom loops bottom down);
        inputs = bottom_inputs_of program list inputs inputs_are;
        results = subst (λ (l : List Cond). All IsEmpty l) (sym results_are) (all_replicate IsEmpty (length list) none empty);
        unproved = subst (λ (l : List Bool). All IsFalse l) (sym unproved_are) (all_replicate IsFalse sites false refl);
      };
      fits = λ assumed ts item code is.
          let same : own ≡ code = some_same (sym kept ∙ is.code_is) in
          let over : bottom.vars ≡ code.vars = vars ∙ ap (λ (c : Code). c.vars) same in
          let count : loops ≡ block_loops (code_of code).block = loops_is ∙ (ap (λ (l : List CodeStmt). block_loops (block_of l)) block_is ∙ ap (λ (c : Code). block_loops (code_of c).block) same) in
          let called = list_is item code is in
          record {
            keeps = ap length keeps_is ∙ (length-replicate loops bottom ∙ count);
            over = subst (λ (l : List Zone). All (λ z. vars_of z ≡ code.vars) l) (sym keeps_is) (all_replicate (λ (z : Zone). vars_of z ≡ code.vars) loops bottom over);
            thresholds = subst (λ (l : List Zone). All (IsThresholdState ts) l) (sym keeps_is) (all_replicate (IsThresholdState ts) loops bottom (bottom_threshold ts bottom down));
            inputs = subst (λ (l : List ProcId). AllZip (λ (callee : ProcId) (z : Zone). HasParams program callee.0 (vars_of z) × IsNormal z) l inputs) called (normal_inputs program list inputs inputs_are);
            results = ap length results_are ∙ (length-replicate (length list) none ∙ ap length called);
            unproved = ap length unproved_are ∙ (length-replicate sites false ∙ sites_at program proc.0 sites item sites_is is.place);
          };
    }
