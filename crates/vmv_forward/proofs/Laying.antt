-- The rows that are laid for instances in order: those of the instances that are reached, each with those that it calls.
use Rattle.std.proofs.Common.{◌≡◌, ◌⊎◌, inl, inr, ⊎_elim, ℕ, zero, suc, Some, List, [], ◌∷◌, ◌++◌, map, slice_get, sym, ap, subst, arith, ◌∙◌}
use Rattle.std.specs.List.{All, Contains}
use Rattle.vmv_tree.specs.Run.{name_of}
use Rattle.vmv_snapshot.specs.Resolution.{Resolution, procs_of, tree_of}
use Rattle.vmv_zone.specs.declared.zone.Zone.{Zone}
use Rattle.vmv_zone.specs.Zone.{NotBottom}
use Rattle.vmv_zone.specs.Round.{IsThresholdState}
use Rattle.vmv_zone.proofs.Equal.{clash}
use Rattle.vmv_cert.specs.declared.row.Row.{Row}
use Rattle.vmv_check.proofs.Lists.{some_same, push_in, old_in, new_in}
use Rattle.vmv_check.proofs.Above.{procs_once}
use Rattle.vmv_forward.specs.Path.{Path}
use Rattle.vmv_forward.specs.Least.{IsRowFor}
use Rattle.vmv_forward.specs.Rounds.{Quest}
use Rattle.vmv_forward.specs.Rows.{IsRowOf, Lay, LaysCalls, Lays}
use Rattle.vmv_forward.proofs.Instances.{AreSolved, known_at, call_of}
use Rattle.vmv_forward.proofs.Accepting.{AreTraced}
use Rattle.vmv_forward.proofs.Beside.{row_moved}
use Rattle.vmv_forward.proofs.Leastness.{IsAt, called_at}

-- rows that were there stay
abbrev pub StaysIn : Lay → Type 0
StaysIn L = (j : ℕ) (input : Zone) (seen out : List Row) → L j input seen out → (row : Row) → Contains seen row → Contains out row

pub calls_keep : (L : Lay) (js : List ℕ) (inputs : List Zone) (seen out : List Row) → StaysIn L → LaysCalls L js inputs seen out → (row : Row) → Contains seen row → Contains out row
calls_keep L [] [] seen out stays same row c = subst (λ (xs : List Row). Contains xs row) (sym same) c
calls_keep L [] (input ∷ inputs) seen out stays h row c = absurd h
calls_keep L (j ∷ js) [] seen out stays h row c = absurd h
calls_keep L (j ∷ js) (input ∷ inputs) seen out stays (inl h) row c = calls_keep L js inputs seen out stays h.1 row c
calls_keep L (j ∷ js) (input ∷ inputs) seen out stays (inr (up, (next, l, h))) row c = calls_keep L js inputs next out stays h row (stays j input seen next l row c)

pub lays_keep : (depth : ℕ) (program : Resolution) (paths : List Path) → StaysIn (Lays depth program paths)
lays_keep zero program paths j input seen out h row c = absurd h
lays_keep (suc depth) program paths j input seen out (path, at, inl h) row c = subst (λ (xs : List Row). Contains xs row) (sym h.1) c
lays_keep (suc depth) program paths j input seen out (path, at, inr (none, (laid, is, same, rest))) row c =
    calls_keep (Lays depth program paths) path.callees path.inputs (seen ++ laid ∷ []) out (lays_keep depth program paths) rest row (old_in seen laid row c)

-- a row of the procedure of the instance's path, with this input
abbrev pub HasRowFor : Resolution → List Row → Path → Zone → Type 0
HasRowFor program rows path input = (row : Row) × Contains rows row × IsRowFor program path.proc.0 input row

abbrev pub StandsIn : Resolution → List Path → Lay → Type 0
StandsIn program paths L = (j : ℕ) (input : Zone) (seen out : List Row) → L j input seen out → (path : Path) → slice_get paths j ≡ Some path → HasRowFor program out path input

pub row_for : (program : Resolution) (paths : List Path) (j : ℕ) (path : Path) (input : Zone) (row : Row) → slice_get paths j ≡ Some path → IsRowOf program paths j row → row.input ≡ input → IsRowFor program path.proc.0 input row
row_for program paths j path input row at is same =
    let one : is.path ≡ path = some_same (sym is.path_is ∙ at) in
    record { named = subst (λ (p : Path). slice_get (map name_of (procs_of program)) p.proc.0 ≡ Some row.proc) one is.named; input_is = same }

pub lays_stand : (depth : ℕ) (program : Resolution) (paths : List Path) → StandsIn program paths (Lays depth program paths)
lays_stand zero program paths j input seen out h path at = absurd h
lays_stand (suc depth) program paths j input seen out (other, there, inl ((row, c, is), same)) path at =
    let one : other ≡ path = some_same (sym there ∙ at) in
    (row, subst (λ (xs : List Row). Contains xs row) (sym same) c, subst (λ (p : Path). IsRowFor program p.proc.0 input row) one is)
lays_stand (suc depth) program paths j input seen out (other, there, inr (none, (row, is, same, rest))) path at = (
  row,
  calls_keep (Lays depth program paths) other.callees other.inputs (seen ++ row ∷ []) out (lays_keep depth program paths) rest row (new_in seen row),
  row_for program paths j path input row at is same,
)

pub calls_stand : (program : Resolution) (paths : List Path) (L : Lay) (js : List ℕ) (inputs : List Zone) (seen out : List Row) → StaysIn L → StandsIn program paths L → LaysCalls L js inputs seen out → (c next : ℕ) (input : Zone) (to : Path) →
    slice_get js c ≡ Some next → slice_get inputs c ≡ Some input → NotBottom input → slice_get paths next ≡ Some to → HasRowFor program out to input
calls_stand program paths L [] inputs seen out stays stands h c next input to a b up at = absurd (cc)
calls_stand program paths L (j ∷ js) [] seen out stays stands h c next input to a b up at = absurd h
calls_stand program paths L (j ∷ js) (first ∷ inputs) seen out stays stands (inl h) zero next input to a b up at = clash first.bottom h.0 (subst (λ (z : Zone). NotBottom z) (sym (some_same b)) up)
calls_stand program paths L (j ∷ js) (first ∷ inputs) seen out stays stands (inr (some, (mid, l, h))) zero next input to a b up at =
    let number : j ≡ next = some_same a in
    let same : first ≡ input = some_same b in
    let r = stands j first seen mid l to (ap (slice_get paths) number ∙ at) in
    (r.0, calls_keep L js inputs mid out stays h r.0 r.1, subst (λ (z : Zone). IsRowFor program to.proc.0 z r.0) same r.2)
calls_stand program paths L (j ∷ js) (first ∷ inputs) seen out stays stands (inl h) (suc c) next input to a b up at = calls_stand program paths L js inputs seen out stays stands h.1 c next input to a b up at
calls_stand program paths L (j ∷ js) (first ∷ inputs) seen out stays stands (inr (some, (mid, l, h))) (suc c) next input to a b up at = calls_stand program paths L js inputs mid out stays stands h c next input to a b up at

-- the row is that of an instance, and for each instance that it calls there is a row of its procedure and input
pub record IsClosed (program : Resolution) (paths : List Path) (rows : List Row) (row : Row) : Type 0 where
  pub j : ℕ
  pub is : IsRowOf program paths j row
  pub calls : (c next : ℕ) (input : Zone) (to : Path) → slice_get is.path.callees c ≡ Some next → slice_get is.path.inputs c ≡ Some input → NotBottom input → slice_get paths next ≡ Some to → HasRowFor program rows to input

closed_more : (program : Resolution) (paths : List Path) (rows more : List Row) (row : Row) → ((r : Row) → Contains rows r → Contains more r) → IsClosed program paths rows row → IsClosed program paths more row
closed_more program paths rows more row sub h =
    record { j = h.j; is = h.is; calls = λ c next input to a b up at. (let r = h.calls c next input to a b up at in (r.0, sub r.0 r.1, r.2)) }

abbrev ClosesIn : Resolution → List Path → Lay → Type 0
ClosesIn program paths L = (j : ℕ) (input : Zone) (seen out : List Row) → L j input seen out → (row : Row) → Contains out row → Contains seen row ⊎ IsClosed program paths out row

calls_closed : (program : Resolution) (paths : List Path) (L : Lay) (js : List ℕ) (inputs : List Zone) (seen out : List Row) → StaysIn L → ClosesIn program paths L → LaysCalls L js inputs seen out → (row : Row) → Contains out row →
    Contains seen row ⊎ IsClosed program paths out row
calls_closed program paths L [] [] seen out stays closes same row c = inl (subst (λ (xs : List Row). Contains xs row) same c)
calls_closed program paths L [] (input ∷ inputs) seen out stays closes h row c = absurd h
calls_closed program paths L (j ∷ js) [] seen out stays closes h row c = absurd h
calls_closed program paths L (j ∷ js) (input ∷ inputs) seen out stays closes (inl h) row c = calls_closed program paths L js inputs seen out stays closes h.1 row c
calls_closed program paths L (j ∷ js) (input ∷ inputs) seen out stays closes (inr (up, (next, l, h))) row c =
    ⊎_elim
    (λ (g : Contains next row). ⊎_elim (λ (f : Contains seen row). inl f) (λ (f : IsClosed program paths next row). inr (closed_more program paths next out row (calls_keep L js inputs next out stays h) f)) (closes j input seen next l row g))
    (λ (g : IsClosed program paths out row). inr g)
    (calls_closed program paths L js inputs next out stays closes h row c)

-- for each instance that is called from a row that is laid, a row is laid
pub laid_calls : (depth : ℕ) (program : Resolution) (paths : List Path) (j : ℕ) (path : Path) (seen out : List Row) (row : Row) → slice_get paths j ≡ Some path → (is : IsRowOf program paths j row) →
    LaysCalls (Lays depth program paths) path.callees path.inputs seen out → (c next : ℕ) (input : Zone) (to : Path) → slice_get is.path.callees c ≡ Some next → slice_get is.path.inputs c ≡ Some input → NotBottom input → slice_get paths next ≡ Some to →
    HasRowFor program out to input
laid_calls depth program paths j path seen out row at is rest =
    let one : path ≡ is.path = some_same (sym at ∙ is.path_is) in
    let moved = subst (λ (p : Path). LaysCalls (Lays depth program paths) p.callees p.inputs seen out) one rest in
    calls_stand program paths (Lays depth program paths) is.path.callees is.path.inputs seen out (lays_keep depth program paths) (lays_stand depth program paths) moved

lays_closed : (depth : ℕ) (program : Resolution) (paths : List Path) → ClosesIn program paths (Lays depth program paths)
lays_closed zero program paths j input seen out h row c = absurd h
lays_closed (suc depth) program paths j input seen out (path, at, inl h) row c = inl (subst (λ (xs : List Row). Contains xs row) h.1 c)
lays_closed (suc depth) program paths j input seen out (path, at, inr (none, (laid, is, same, rest))) row c =
    let L : Lay = Lays depth program paths in
    ⊎_elim
    (λ (g : Contains (seen ++ laid ∷ []) row).
    ⊎_elim (λ (f : Contains seen row). inl f) (λ (e : laid ≡ row). inr (subst (λ (r : Row). IsClosed program paths out r) e (record { j = j; is = is; calls = laid_calls depth program paths j path (seen ++ laid ∷ []) out laid at is rest }))) (push_in seen laid row g))
    (λ (g : IsClosed program paths out row). inr g)
    (calls_closed program paths L path.callees path.inputs (seen ++ laid ∷ []) out (lays_keep depth program paths) (lays_closed depth program paths) rest row c)

none_in : (row : Row) → Contains [] row → ⊥
none_in row (k, h, e) = absurd (omega (arith, h))

-- each row that is laid from nothing is closed
pub all_closed : (depth : ℕ) (program : Resolution) (paths : List Path) (j : ℕ) (input : Zone) (rows : List Row) → Lays depth program paths j input [] rows → (row : Row) → Contains rows row → IsClosed program paths rows row
all_closed depth program paths j input rows h row c =
    ⊎_elim (λ (g : Contains [] row). absurd (none_in row g)) (λ (g : IsClosed program paths rows row). g) (lays_closed depth program paths j input [] rows h row c)

-- the row of an instance keeps threshold states
pub row_states : (q : Quest) (paths : List Path) (j : ℕ) (row : Row) → AreSolved q paths → IsRowOf q.program paths j row → All (IsThresholdState q.thresholds) row.keeps
row_states q paths j row solved is =
    let k = known_at q paths j is.path solved.kept is.one is.path_is in
    subst (λ ks. All (IsThresholdState q.thresholds) ks) (sym is.keeps) k.2.fits.thresholds

-- where there is a row for each instance that is called, that is its row
pub traced_calls : (q : Quest) (paths : List Path) (rows : List Row) (j : ℕ) (row : Row) → AreSolved q paths → ((r : Row) → Contains rows r → (k : ℕ) × IsRowOf q.program paths k r) → (is : IsRowOf q.program paths j row) →
    ((c next : ℕ) (input : Zone) (to : Path) → slice_get is.path.callees c ≡ Some next → slice_get is.path.inputs c ≡ Some input → NotBottom input → slice_get paths next ≡ Some to → HasRowFor q.program rows to input) → (c next : ℕ) (input : Zone) →
    slice_get is.path.callees c ≡ Some next → slice_get is.path.inputs c ≡ Some input → NotBottom input → (callee : Row) × Contains rows callee × IsRowOf q.program paths next callee
traced_calls q paths rows j row solved each is calls c next input to there up =
    let k = known_at q paths j is.path solved.kept is.one is.path_is in
    let call = call_of q paths j is.path k.0 k.1 c next input is.path_is k.2 to there in
    let r = calls c next input call.to to there up call.to_is in
    let e = each r.0 r.1 in
    let number : call.to.proc.0 ≡ e.1.path.proc.0 = procs_once (tree_of q.program) solved.kept.resolution.valid call.to.proc.0 e.1.path.proc.0 r.0.proc r.2.named e.1.named in
    let at = called_at q paths j is.path k.0 k.1 c next input k.2 is.path_is call to in
    let i : IsAt paths next call.to r.0.input at.0 = subst (λ (z : Zone). IsAt paths next call.to z at.0) (sym r.2.input_is) at.1 in
    (r.0, r.1, row_moved q paths e.0 next r.0 call.to at.0 solved e.1 i number)

-- the rows that are laid from nothing are traced
pub lays_traced : (q : Quest) (paths : List Path) (rows : List Row) (depth j : ℕ) (input : Zone) → AreSolved q paths → Lays depth q.program paths j input [] rows → AreTraced q.program paths rows
lays_traced q paths rows depth j input solved h row c =
    let closed = all_closed depth q.program paths j input rows h row c in
    record { j = closed.j; is = closed.is; calls = traced_calls q paths rows closed.j row solved (λ r d. let e = all_closed depth q.program paths j input rows h r d in (e.j, e.is)) closed.is closed.calls }
