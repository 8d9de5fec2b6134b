-- What is known of an instance, of the input and the result that are stored for it, and of its calls.
use Rattle.std.proofs.Common.{◌≡◌, ℕ, zero, suc, ◌≤◌, Some, List, [], ◌∷◌, length, slice_get, refl, sym, ap, subst, arith, ◌∙◌}
use Rattle.vmv_tree.specs.Tree.{Item}
use Rattle.vmv_cond.specs.declared.cond.Cond.{Cond}
use Rattle.vmv_snapshot.specs.declared.code.Code.{Code}
use Rattle.vmv_snapshot.specs.declared.code.ProcId.{ProcId}
use Rattle.vmv_snapshot.specs.View.{code_of}
use Rattle.vmv_snapshot.specs.Resolution.{Resolution}
use Rattle.vmv_zone.specs.declared.zone.Zone.{Zone}
use Rattle.vmv_zone.specs.Zone.{vars_of, IsNormal, IsNormOf}
use Rattle.vmv_check.specs.Walker.{HasParams}
use Rattle.vmv_check.proofs.Lists.{some_same}
use Rattle.vmv_pass.specs.Callees.{block_callees}
use Rattle.vmv_pass.specs.Upper.{IsProc, Fits}
use Rattle.vmv_forward.specs.Path.{Path}
use Rattle.vmv_forward.specs.Paths.{IsCallee}
use Rattle.vmv_forward.specs.Rounds.{Quest, AreKept, IsSettled, HasInput, HasResult, stored_of}
use Rattle.vmv_forward.proofs.Items.{zip_at, beside_left}
use Rattle.vmv_forward.proofs.States.{below_same}

-- the walks of all instances hold over what is stored
pub record AreSolved (q : Quest) (paths : List Path) : Type 0 where
  pub kept : AreKept q paths
  pub settled : (j : ℕ) → 1 ≤ j → IsSettled q paths j

-- a normal state is its norm
pub normal_norm : (z : Zone) → IsNormal z → IsNormOf z z
normal_norm z normal = record { vars = refl; normal = normal; below = below_same z; greatest = λ m same n below. below }

-- there is one procedure of a number
pub proc_once : (program : Resolution) (n : ℕ) (item item' : Item) (code code' : Code) → IsProc program n item code → IsProc program n item' code' → (item ≡ item') × (code ≡ code')
proc_once program n item item' code code' a b = (some_same (sym a.place ∙ b.place), some_same (sym a.code_is ∙ b.code_is))

-- what is known of an instance
pub record Known (q : Quest) (paths : List Path) (j : ℕ) (path : Path) (item : Item) (code : Code) : Type 0 where
  pub proc : IsProc q.program path.proc.0 item code
  pub count : length path.callees ≡ length (block_callees (code_of code).block)
  pub each : (c : ℕ) (callee : ProcId) → slice_get (block_callees (code_of code).block) c ≡ Some callee → IsCallee paths j path c callee.0
  pub fits : Fits q.program q.thresholds item code (stored_of q.assumed path)

pub known_at : (q : Quest) (paths : List Path) (j : ℕ) (path : Path) → AreKept q paths → 1 ≤ j → slice_get paths j ≡ Some path → (item : Item) × (code : Code) × Known q paths j path item code
known_at q paths j path kept one at =
    let l = kept.grown.linked j path one at in
    (l.item, l.code, record { proc = l.proc; count = l.count; each = l.each; fits = kept.fit.each j path l.item l.code one at l.proc })

-- of the item and the code that are given
pub known_as : (q : Quest) (paths : List Path) (j : ℕ) (path : Path) (item : Item) (code : Code) → AreKept q paths → 1 ≤ j → slice_get paths j ≡ Some path → IsProc q.program path.proc.0 item code → Known q paths j path item code
known_as q paths j path item code kept one at proc =
    let k = known_at q paths j path kept one at in
    let e = proc_once q.program path.proc.0 k.0 item k.1 code k.2.proc proc in
    subst (λ (i : Item). Known q paths j path i code) e.0 (subst (λ (d : Code). Known q paths j path k.0 d) e.1 k.2)

pub input_once : (paths : List Path) (path : Path) (a b : Zone) → HasInput paths path a → HasInput paths path b → a ≡ b
input_once paths path a b (one, at, has) (two, at', has') =
    let same : one ≡ two = some_same (sym at ∙ at') in
    some_same (sym has ∙ (ap (λ (p : Path). slice_get p.inputs path.place) same ∙ has'))

pub result_once : (paths : List Path) (path : Path) (a b : Cond) → HasResult paths path a → HasResult paths path b → a ≡ b
result_once paths path a b (one, at, has) (two, at', has') =
    let same : one ≡ two = some_same (sym at ∙ at') in
    some_same (sym has ∙ (ap (λ (p : Path). slice_get p.results path.place) same ∙ has'))

-- the instance of a call, with the input that is stored for it
pub record CallOf (q : Quest) (paths : List Path) (j : ℕ) (path : Path) (code : Code) (c next : ℕ) (input : Zone) : Type 0 where
  pub callee : ProcId
  pub callee_is : slice_get (block_callees (code_of code).block) c ≡ Some callee
  pub one : 1 ≤ next
  pub to : Path
  pub to_is : slice_get paths next ≡ Some to
  pub proc_is : to.proc.0 ≡ callee.0
  pub caller_is : to.caller ≡ j
  pub place_is : to.place ≡ c
  pub has : HasInput paths to input
  pub over : HasParams q.program callee.0 (vars_of input)
  pub normal : IsNormal input

pub call_of : (q : Quest) (paths : List Path) (j : ℕ) (path : Path) (item : Item) (code : Code) (c next : ℕ) (input : Zone) → slice_get paths j ≡ Some path → Known q paths j path item code → slice_get path.callees c ≡ Some next →
    slice_get path.inputs c ≡ Some input → CallOf q paths j path code c next input
call_of q paths j path item code c next input at known to there =
    let Fit = λ (callee : ProcId). λ (z : Zone). HasParams q.program callee.0 (vars_of z) × IsNormal z in
    let b = beside_left Fit (block_callees (code_of code).block) path.inputs c input known.fits.inputs there in
    let k = known.each c b.0 b.1 in
    let same : k.number ≡ next = some_same (sym k.number_is ∙ to) in
    let f = zip_at Fit (block_callees (code_of code).block) path.inputs c b.0 input known.fits.inputs b.1 there in
    let later = k.later in
    record {
      callee = b.0;
      callee_is = b.1;
      one = subst (λ n. 1 ≤ n) same (omega arith);
      to = k.callee;
      to_is = subst (λ n. slice_get paths n ≡ Some k.callee) same k.there;
      proc_is = k.proc_is;
      caller_is = k.caller_is;
      place_is = k.place_is;
      has = (path, subst (λ n. slice_get paths n ≡ Some path) (sym k.caller_is) at, subst (λ n. slice_get path.inputs n ≡ Some input) (sym k.place_is) there);
      over = f.0;
      normal = f.1;
    }

-- the result that is stored for an instance by its caller
pub result_of : (paths : List Path) (j c : ℕ) (path to : Path) (cond : Cond) → slice_get paths j ≡ Some path → to.caller ≡ j → to.place ≡ c → slice_get path.results c ≡ Some cond → HasResult paths to cond
result_of paths j c path to cond at caller place there =
    (path, subst (λ n. slice_get paths n ≡ Some path) (sym caller) at, subst (λ n. slice_get path.results n ≡ Some cond) (sym place) there)

-- a list of one element has only that
only : {X : Type 0} (x y : X) (p : ℕ) → slice_get (x ∷ []) p ≡ Some y → (p ≡ 0) × (x ≡ y)
only x y zero e = (refl, some_same e)
only x y (suc p) e = absurd (cc)

-- a normal state over the parameters of the procedure of this number
pub record IsInputOf (q : Quest) (n : ℕ) (input : Zone) : Type 0 where
  pub over : HasParams q.program n (vars_of input)
  pub normal : IsNormal input

from_caller : (q : Quest) (paths : List Path) (i j place : ℕ) (caller path : Path) (input : Zone) → AreSolved q paths → slice_get paths i ≡ Some caller → slice_get caller.callees place ≡ Some j → slice_get caller.inputs place ≡ Some input →
    slice_get paths j ≡ Some path → IsInputOf q path.proc.0 input
from_caller q paths zero j place caller path input solved at called has to =
    let grown = solved.kept.grown in
    let same : caller ≡ grown.outside = some_same (sym at ∙ grown.outside_is) in
    let calls : caller.callees ≡ 1 ∷ [] = ap (λ (p : Path). p.callees) same ∙ grown.calls in
    let e = only 1 j place (subst (λ (xs : List ℕ). slice_get xs place ≡ Some j) calls called) in
    let inputs : caller.inputs ≡ q.input ∷ [] = (solved.kept.fit.outside caller at).0 in
    let is : q.input ≡ input = (only q.input input place (subst (λ (xs : List Zone). slice_get xs place ≡ Some input) inputs has)).1 in
    let first = grown.first in
    let number : first.number ≡ 1 = some_same (sym first.number_is ∙ subst (λ (xs : List ℕ). slice_get xs 0 ≡ Some 1) (sym grown.calls) refl) in
    let there : first.callee ≡ path = some_same (sym first.there ∙ (ap (slice_get paths) (number ∙ e.1) ∙ to)) in
    let proc : q.entry ≡ path.proc.0 = sym first.proc_is ∙ ap (λ (p : Path). p.proc.0) there in
    record {
      over = subst (λ n. HasParams q.program n (vars_of input)) proc (subst (λ (z : Zone). HasParams q.program q.entry (vars_of z)) is solved.kept.fit.entry);
      normal = subst IsNormal is solved.kept.fit.normal;
    }
from_caller q paths (suc i) j place caller path input solved at called has to =
    let k = known_at q paths (suc i) caller solved.kept (omega arith) at in
    let c = call_of q paths (suc i) caller k.0 k.1 place j input at k.2 called has in
    let same : c.to ≡ path = some_same (sym c.to_is ∙ to) in
    let proc : c.callee.0 ≡ path.proc.0 = sym c.proc_is ∙ ap (λ (p : Path). p.proc.0) same in
    record { over = subst (λ n. HasParams q.program n (vars_of input)) proc c.over; normal = c.normal }

-- the input that is stored for an instance
pub input_of : (q : Quest) (paths : List Path) (j : ℕ) (path : Path) (input : Zone) → AreSolved q paths → 1 ≤ j → slice_get paths j ≡ Some path → HasInput paths path input → IsInputOf q path.proc.0 input
input_of q paths j path input solved one at (caller, there, has) =
    let p = solved.kept.grown.placed j path one at in
    let same : p.caller ≡ caller = some_same (sym p.there ∙ there) in
    from_caller q paths path.caller j path.place caller path input solved there (subst (λ (x : Path). slice_get x.callees path.place ≡ Some j) same p.called) has at
