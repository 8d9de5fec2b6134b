-- Rows are laid, one instance after another.
use Rattle.std.proofs.Common.{◌≡◌, ◌⊎◌, inl, inr, ℕ, zero, suc, ◌+◌, ◌<◌, ◌≤◌, Some, List, [], ◌∷◌, ◌++◌, length, slice_get, refl, sym, ap, subst, arith, ◌∙◌}
use Rattle.std.specs.List.{Contains}
use Rattle.vmv_snapshot.specs.Resolution.{Resolution}
use Rattle.vmv_zone.specs.declared.zone.Zone.{Zone}
use Rattle.vmv_zone.specs.Zone.{IsBottom, NotBottom}
use Rattle.vmv_cert.specs.declared.row.Row.{Row}
use Rattle.vmv_check.proofs.Lists.{some_same}
use Rattle.vmv_forward.specs.Path.{Path}
use Rattle.vmv_forward.specs.Least.{IsRowFor}
use Rattle.vmv_forward.specs.Rounds.{Quest, AreKept, HasInput}
use Rattle.vmv_forward.specs.Rows.{IsRowOf, IsReached, Lay, LaysCalls, Lays}
use Rattle.vmv_forward.proofs.Instances.{input_once}
use Rattle.vmv_forward.proofs.Stepping.{as_many}

-- the first c calls are laid
abbrev pub LaysUpto : Lay → ℕ → List ℕ → List Zone → List Row → List Row → Type 0
LaysUpto L zero js inputs seen out = out ≡ seen
LaysUpto L (suc c) [] inputs seen out = ⊥
LaysUpto L (suc c) (j ∷ js) [] seen out = ⊥
LaysUpto L (suc c) (j ∷ js) (input ∷ inputs) seen out =
    (IsBottom input × LaysUpto L c js inputs seen out) ⊎ (NotBottom input × ((next : List Row) × L j input seen next × LaysUpto L c js inputs next out))

-- one call: laid, or not reached
abbrev pub LaysOne : Lay → ℕ → Zone → List Row → List Row → Type 0
LaysOne L j input mid out = (IsBottom input × (out ≡ mid)) ⊎ (NotBottom input × L j input mid out)

upto_next : (L : Lay) (c : ℕ) (js : List ℕ) (inputs : List Zone) (seen mid out : List Row) (j : ℕ) (input : Zone) → LaysUpto L c js inputs seen mid → slice_get js c ≡ Some j → slice_get inputs c ≡ Some input → LaysOne L j input mid out →
    LaysUpto L (suc c) js inputs seen out
upto_next L c [] inputs seen mid out j input h a b one = absurd (cc)
upto_next L c (k ∷ js) [] seen mid out j input h a b one = absurd (cc)
upto_next L zero (k ∷ js) (z ∷ inputs) seen mid out j input h a b (inl one) = inl (subst IsBottom (sym (some_same b)) one.0, one.1 ∙ h)
upto_next L zero (k ∷ js) (z ∷ inputs) seen mid out j input h a b (inr one) =
    let number : j ≡ k = sym (some_same a) in
    let same : input ≡ z = sym (some_same b) in
    let l = subst (λ (xs : List Row). L k z xs out) h (subst (λ (v : Zone). L k v mid out) same (subst (λ n. L n input mid out) number one.1)) in
    inr (subst NotBottom same one.0, (out, l, refl))
upto_next L (suc c) (k ∷ js) (z ∷ inputs) seen mid out j input (inl h) a b one = inl (h.0, upto_next L c js inputs seen mid out j input h.1 a b one)
upto_next L (suc c) (k ∷ js) (z ∷ inputs) seen mid out j input (inr h) a b one = inr (h.0, (h.1.0, h.1.1, upto_next L c js inputs h.1.0 mid out j input h.1.2 a b one))

pub upto_more : (L : Lay) (c : ℕ) (js : List ℕ) (inputs : List Zone) (seen mid out : List Row) (j : ℕ) (input : Zone) → LaysUpto L c js inputs seen mid → slice_get js c ≡ Some j → slice_get inputs c ≡ Some input → LaysOne L j input mid out →
    LaysUpto L (c + 1) js inputs seen out
upto_more L c js inputs seen mid out j input h a b one =
    let e : suc c ≡ c + 1 = omega arith in
    subst (λ n. LaysUpto L n js inputs seen out) e (upto_next L c js inputs seen mid out j input h a b one)

upto_all : (L : Lay) (c : ℕ) (js : List ℕ) (inputs : List Zone) (seen out : List Row) → c ≡ length js → length js ≡ length inputs → LaysUpto L c js inputs seen out → LaysCalls L js inputs seen out
upto_all L zero [] [] seen out e f h = h
upto_all L zero [] (z ∷ inputs) seen out e f h = absurd (omega arith)
upto_all L zero (k ∷ js) inputs seen out e f h = absurd (omega arith)
upto_all L (suc c) [] inputs seen out e f h = absurd h
upto_all L (suc c) (k ∷ js) [] seen out e f h = absurd h
upto_all L (suc c) (k ∷ js) (z ∷ inputs) seen out e f (inl h) = inl (h.0, upto_all L c js inputs seen out (omega arith) (omega arith) h.1)
upto_all L (suc c) (k ∷ js) (z ∷ inputs) seen out e f (inr h) = inr (h.0, (h.1.0, h.1.1, upto_all L c js inputs h.1.0 out (omega arith) (omega arith) h.1.2))

-- the first c calls of instance j are laid, whatever the depth
abbrev pub Laying : Resolution → List Path → ℕ → Path → ℕ → List Row → List Row → Type 0
Laying program xs j path c first now = (depth : ℕ) → length xs ≤ j + (depth + 1) → LaysUpto (Lays depth program xs) c path.callees path.inputs first now

pub laying_start : (program : Resolution) (xs : List Path) (j : ℕ) (path : Path) (first : List Row) → Laying program xs j path 0 first first
laying_start program xs j path first depth few = refl

-- what a call of lay leaves
abbrev pub LaysAt : Resolution → List Path → ℕ → List Row → List Row → Type 0
LaysAt program xs j old new = (path : Path) (input : Zone) → slice_get xs j ≡ Some path → HasInput xs path input → (depth : ℕ) → length xs ≤ j + depth → Lays depth program xs j input old new

pub laying_more : (program : Resolution) (xs : List Path) (j : ℕ) (path : Path) (c : ℕ) (first now out : List Row) (next : ℕ) (input : Zone) (to : Path) → Laying program xs j path c first now → slice_get xs j ≡ Some path → slice_get path.callees c ≡ Some next →
    slice_get path.inputs c ≡ Some input → j < next → slice_get xs next ≡ Some to → to.caller ≡ j → to.place ≡ c → NotBottom input → LaysAt program xs next now out → Laying program xs j path (c + 1) first out
laying_more program xs j path c first now out next input to h at to_is there later next_is caller place up laid depth few =
    let has : HasInput xs to input = (path, subst (λ n. slice_get xs n ≡ Some path) (sym caller) at, subst (λ n. slice_get path.inputs n ≡ Some input) (sym place) there) in
    let enough : length xs ≤ next + depth = omega arith in
    upto_more (Lays depth program xs) c path.callees path.inputs first now out next input (h depth few) to_is there (inr (up, laid to input next_is has depth enough))

pub laying_skip : (program : Resolution) (xs : List Path) (j : ℕ) (path : Path) (c : ℕ) (first now out : List Row) (next : ℕ) (input : Zone) → Laying program xs j path c first now → slice_get path.callees c ≡ Some next → slice_get path.inputs c ≡ Some input → IsBottom input →
    out ≡ now → Laying program xs j path (c + 1) first out
laying_skip program xs j path c first now out next input h to_is there none same depth few =
    upto_more (Lays depth program xs) c path.callees path.inputs first now out next input (h depth few) to_is there (inl (none, same))

-- a row stands already
pub laid_before : (program : Resolution) (xs : List Path) (j : ℕ) (path : Path) (input : Zone) (rows : List Row) → j < length xs → slice_get xs j ≡ Some path → HasInput xs path input → ((row : Row) × Contains rows row × IsRowFor program path.proc.0 input row) →
    LaysAt program xs j rows rows
laid_before program xs j path input rows inside at has (row, c, is) other z there has' zero few = absurd (omega arith)
laid_before program xs j path input rows inside at has (row, c, is) other z there has' (suc depth) few =
    let one : path ≡ other = some_same (sym at ∙ there) in
    let same : input ≡ z = input_once xs other input z (subst (λ (p : Path). HasInput xs p input) one has) has' in
    (path, at, inl ((row, c, subst (λ (v : Zone). IsRowFor program path.proc.0 v row) same is), refl))

-- the row and those of all calls are laid
pub laid_now : (q : Quest) (xs : List Path) (j : ℕ) (path : Path) (input : Zone) (rows first out : List Row) (row : Row) (c : ℕ) (items : List ℕ) → AreKept q xs → 1 ≤ j → j < length xs → slice_get xs j ≡ Some path → HasInput xs path input →
    (((r : Row) × Contains rows r × IsRowFor q.program path.proc.0 input r) → ⊥) → IsRowOf q.program xs j row → first ≡ rows ++ row ∷ [] → items ≡ path.callees → length items ≤ c → c ≤ length items → Laying q.program xs j path c first out → LaysAt q.program xs j rows out
laid_now q xs j path input rows first out row c items kept from inside at has none is e same end most h other z there has' zero few = absurd (omega arith)
laid_now q xs j path input rows first out row c items kept from inside at has none is e same end most h other z there has' (suc depth) few =
    let one : path ≡ other = some_same (sym at ∙ there) in
    let equal : input ≡ z = input_once xs other input z (subst (λ (p : Path). HasInput xs p input) one has) has' in
    let path_is : is.path ≡ path = some_same (sym is.path_is ∙ at) in
    let row_in : row.input ≡ z = input_once xs other row.input z (subst (λ (p : Path). HasInput xs p row.input) (path_is ∙ one) is.input) has' in
    let long : length items ≡ length path.callees = ap length same in
    let many = as_many q xs j path kept from at in
    let calls = upto_all (Lays depth q.program xs) c path.callees path.inputs first out (omega arith) many (h depth (omega arith)) in
    (path, at, inr (λ r d f. none (r, d, subst (λ (v : Zone). IsRowFor q.program path.proc.0 v r) (sym equal) f), (row, is, row_in, subst (λ (rs : List Row). LaysCalls (Lays depth q.program xs) path.callees path.inputs rs out) e calls)))

-- an instance that isn't reached
pub unreached : (xs : List Path) (j : ℕ) (path : Path) (input : Zone) → slice_get xs j ≡ Some path → HasInput xs path input → IsReached xs j → NotBottom input
unreached xs j path input at has (other, z, there, has', up) =
    let one : other ≡ path = some_same (sym there ∙ at) in
    let same : z ≡ input = input_once xs path z input (subst (λ (p : Path). HasInput xs p z) one has') has in
    subst NotBottom same up

-- the entry's instance is reached, from the input
pub entry_reached : (q : Quest) (xs : List Path) → AreKept q xs → (path : Path) × (slice_get xs 1 ≡ Some path) × HasInput xs path q.input
entry_reached q xs kept =
    let grown = kept.grown in
    let first = grown.first in
    let one : first.number ≡ 1 = some_same (sym first.number_is ∙ subst (λ (ns : List ℕ). slice_get ns 0 ≡ Some 1) (sym grown.calls) refl) in
    let inputs = (kept.fit.outside grown.outside grown.outside_is).0 in
    let has : slice_get grown.outside.inputs 0 ≡ Some q.input = subst (λ (zs : List Zone). slice_get zs 0 ≡ Some q.input) (sym inputs) refl in (
      first.callee,
      subst (λ n. slice_get xs n ≡ Some first.callee) one first.there,
      (grown.outside, subst (λ n. slice_get xs n ≡ Some grown.outside) (sym first.caller_is) grown.outside_is, subst (λ n. slice_get grown.outside.inputs n ≡ Some q.input) (sym first.place_is) has),
    )

-- a row stands among those that are seen as a slice, for the instance that is seen from inside
pub standing : (program : Resolution) (seen path : Path) (slice rows : List Row) (input : Zone) → seen ≡ path → slice ≡ rows → ((row : Row) × Contains slice row × IsRowFor program seen.proc.0 input row) → (row : Row) × Contains rows row × IsRowFor program path.proc.0 input row
standing program seen path slice rows input e same s = (s.0, subst (λ (rs : List Row). Contains rs s.0) same s.1, subst (λ (p : Path). IsRowFor program p.proc.0 input s.0) e s.2)

pub unstanding : (program : Resolution) (seen path : Path) (slice rows : List Row) (input : Zone) → seen ≡ path → slice ≡ rows → ((row : Row) × Contains rows row × IsRowFor program path.proc.0 input row) → (row : Row) × Contains slice row × IsRowFor program seen.proc.0 input row
unstanding program seen path slice rows input e same s = standing program path seen rows slice input (sym e) (sym same) s

pub next_input : (xs : List Path) (j : ℕ) (path : Path) (c : ℕ) (input : Zone) (to : Path) → slice_get xs j ≡ Some path → to.caller ≡ j → to.place ≡ c → slice_get path.inputs c ≡ Some input → HasInput xs to input
next_input xs j path c input to at caller place there = (path, subst (λ n. slice_get xs n ≡ Some path) (sym caller) at, subst (λ n. slice_get path.inputs n ≡ Some input) (sym place) there)
