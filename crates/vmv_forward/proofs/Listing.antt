-- The rows that are laid in order are the visits of the walks of the table itself, and the table is the least one.
use Rattle.std.proofs.Common.{◌≡◌, inl, inr, ℕ, zero, suc, ◌≤◌, Option, Some, None, List, [], ◌∷◌, ◌++◌, length, slice_get, refl, sym, ap, subst, arith, ◌∙◌}
use Rattle.std.specs.Prelude.{⊤}
use Rattle.std.specs.List.{Contains}
use Rattle.std.proofs.lemmas.Slice.Zip.{AllZip-long}
use Rattle.vmv_tree.specs.declared.ends.NameEnds.{NameEnds}
use Rattle.vmv_snapshot.specs.declared.code.ProcId.{ProcId}
use Rattle.vmv_snapshot.specs.View.{code_of}
use Rattle.vmv_snapshot.specs.Resolution.{tree_of}
use Rattle.vmv_zone.specs.declared.zone.Zone.{Zone}
use Rattle.vmv_zone.specs.Zone.{vars_of, IsBottom, NotBottom, IsNormal, IsNormOf}
use Rattle.vmv_cert.specs.declared.row.Row.{Row}
use Rattle.vmv_cert.specs.Tables.{Accepted, HasThresholds, Box, IsBoxState}
use Rattle.vmv_thresholds.specs.Thresholds.{AreThresholds}
use Rattle.vmv_check.specs.Walker.{HasParams}
use Rattle.vmv_check.proofs.Lists.{some_same}
use Rattle.vmv_pass.specs.Callees.{block_callees}
use Rattle.vmv_pass.specs.Upper.{IsProc}
use Rattle.vmv_forward.specs.Path.{Path}
use Rattle.vmv_forward.specs.Least.{IsRowFor, IsLeastTable, Visit, VisitsCalls, Visits}
use Rattle.vmv_forward.specs.Rounds.{Quest, HasInput}
use Rattle.vmv_forward.specs.Rows.{Lay, LaysCalls, Lays}
use Rattle.vmv_forward.proofs.Instances.{AreSolved, call_of}
use Rattle.vmv_forward.proofs.Accepting.{IsTraced, AreTraced, IsWalked, row_at, row_walks, traced_accepted}
use Rattle.vmv_forward.proofs.Beside.{own_call}
use Rattle.vmv_forward.proofs.Leastness.{has_thresholds, row_least}
use Rattle.vmv_forward.proofs.Laying.{StaysIn, calls_keep, lays_keep, all_closed, laid_calls, lays_traced, traced_calls, row_for, row_states}

-- a call of the instance is met with the input that is stored for it, or isn't reached
record IsAlike (paths : List Path) (callee : ProcId) (o : Option Zone) (next : ℕ) (input : Zone) : Type 0 where
  reached : NotBottom input → o ≡ Some input
  unreached : IsBottom input → o ≡ None
  one : 1 ≤ next
  to : Path
  to_is : slice_get paths next ≡ Some to
  proc_is : to.proc.0 ≡ callee.0
  has : HasInput paths to input

abbrev AreAlike : List Path → List ProcId → List (Option Zone) → List ℕ → List Zone → Type 0
AreAlike paths [] [] [] [] = ⊤
AreAlike paths (callee ∷ callees) (o ∷ calls) (next ∷ js) (input ∷ inputs) = IsAlike paths callee o next input × AreAlike paths callees calls js inputs
AreAlike paths callees calls js inputs = ⊥

-- the calls of a walk, place by place
abbrev AlikeAt : List Path → List ProcId → List (Option Zone) → List ℕ → List Zone → Type 0
AlikeAt paths callees calls js inputs =
    (c : ℕ) (callee : ProcId) (o : Option Zone) (next : ℕ) (input : Zone) → slice_get callees c ≡ Some callee → slice_get calls c ≡ Some o → slice_get js c ≡ Some next → slice_get inputs c ≡ Some input → IsAlike paths callee o next input

alike_all : (paths : List Path) (callees : List ProcId) (calls : List (Option Zone)) (js : List ℕ) (inputs : List Zone) → length calls ≡ length callees → length js ≡ length callees → length inputs ≡ length callees → AlikeAt paths callees calls js inputs →
    AreAlike paths callees calls js inputs
alike_all paths [] [] [] [] a b d at = tt
alike_all paths (callee ∷ callees) (o ∷ calls) (next ∷ js) (input ∷ inputs) a b d at =
    (at 0 callee o next input refl refl refl refl, alike_all paths callees calls js inputs (omega arith) (omega arith) (omega arith) (λ c. at (suc c)))
alike_all paths [] (o ∷ calls) js inputs a b d at = absurd (omega arith)
alike_all paths [] [] (next ∷ js) inputs a b d at = absurd (omega arith)
alike_all paths [] [] [] (input ∷ inputs) a b d at = absurd (omega arith)
alike_all paths (callee ∷ callees) [] js inputs a b d at = absurd (omega arith)
alike_all paths (callee ∷ callees) (o ∷ calls) [] inputs a b d at = absurd (omega arith)
alike_all paths (callee ∷ callees) (o ∷ calls) (next ∷ js) [] a b d at = absurd (omega arith)

-- the instance's visit, where it was laid
abbrev Moves : List Path → List Row → Visit → Lay → Type 0
Moves paths table V L = (j : ℕ) (path : Path) (input : Zone) (seen out : List Row) → 1 ≤ j → slice_get paths j ≡ Some path → HasInput paths path input → L j input seen out → ((row : Row) → Contains out row → Contains table row) →
    V path.proc.0 input seen out

visits_calls : (paths : List Path) (table : List Row) (V : Visit) (L : Lay) (callees : List ProcId) (calls : List (Option Zone)) (js : List ℕ) (inputs : List Zone) (seen out : List Row) → StaysIn L → Moves paths table V L →
    AreAlike paths callees calls js inputs → LaysCalls L js inputs seen out → ((row : Row) → Contains out row → Contains table row) → VisitsCalls V callees calls seen out
visits_calls paths table V L [] [] [] [] seen out stays moves alike h sub = h
visits_calls paths table V L (callee ∷ callees) (o ∷ calls) (next ∷ js) (input ∷ inputs) seen out stays moves alike (inl h) sub =
    subst (λ (x : Option Zone). VisitsCalls V (callee ∷ callees) (x ∷ calls) seen out) (sym (alike.0.unreached h.0)) (visits_calls paths table V L callees calls js inputs seen out stays moves alike.1 h.1 sub)
visits_calls paths table V L (callee ∷ callees) (o ∷ calls) (next ∷ js) (input ∷ inputs) seen out stays moves alike (inr (up, (mid, l, h))) sub =
    let a = alike.0 in
    let inside : (row : Row) → Contains mid row → Contains table row = λ row c. sub row (calls_keep L js inputs mid out stays h row c) in
    let v : V callee.0 input seen mid = subst (λ n. V n input seen mid) a.proc_is (moves next a.to input seen mid a.one a.to_is a.has l inside) in
    subst (λ (x : Option Zone). VisitsCalls V (callee ∷ callees) (x ∷ calls) seen out) (sym (a.reached up)) (mid, v, visits_calls paths table V L callees calls js inputs mid out stays moves alike.1 h sub)
visits_calls paths table V L [] [] [] (input ∷ inputs) seen out stays moves alike h sub = absurd alike
visits_calls paths table V L [] [] (next ∷ js) inputs seen out stays moves alike h sub = absurd alike
visits_calls paths table V L [] (o ∷ calls) js inputs seen out stays moves alike h sub = absurd alike
visits_calls paths table V L (callee ∷ callees) [] js inputs seen out stays moves alike h sub = absurd alike
visits_calls paths table V L (callee ∷ callees) (o ∷ calls) [] inputs seen out stays moves alike h sub = absurd alike
visits_calls paths table V L (callee ∷ callees) (o ∷ calls) (next ∷ js) [] seen out stays moves alike h sub = absurd alike

-- the calls of a row's walk are those of its instance
all_alike : (q : Quest) (paths : List Path) (table : List Row) (row : Row) (t : IsTraced q.program paths table row) (w : IsWalked q paths table row t) → AreSolved q paths →
    AreAlike paths (block_callees (code_of w.own.code).block) w.own.calls t.is.path.callees t.is.path.inputs
all_alike q paths table row t w solved =
    let path = t.is.path in
    let own = w.own in
    let known = w.known in
    let inputs = AllZip-long (λ (callee : ProcId) (z : Zone). HasParams q.program callee.0 (vars_of z) × IsNormal z) (block_callees (code_of own.code).block) path.inputs known.fits.inputs in
    alike_all paths (block_callees (code_of own.code).block) own.calls path.callees path.inputs own.holds.count known.count inputs
    (λ c callee o next z at met to there.
    let call = call_of q paths t.j path own.item own.code c next z t.is.path_is known to there in
    let m = own_call q paths t.j path row.input t.is.range solved (row_at q.program paths t.j row t.is) own c callee z at there in
    record {
      reached = λ up. some_same (sym met ∙ m.reached up);
      unreached = λ none. some_same (sym met ∙ m.unreached none);
      one = call.one;
      to = call.to;
      to_is = call.to_is;
      proc_is = call.proc_is ∙ ap (λ (p : ProcId). p.0) (some_same (sym call.callee_is ∙ at));
      has = call.has;
    })

-- what is laid is what is visited
lays_visits : (q : Quest) (paths : List Path) (table : List Row) → AreSolved q paths → AreTraced q.program paths table → (depth : ℕ) → Moves paths table (Visits depth q.program q.assumed table) (Lays depth q.program paths)
lays_visits q paths table solved traced zero j path input seen out one at has h sub = absurd h
lays_visits q paths table solved traced (suc depth) j path input seen out one at has (other, there, inl ((row, c, is), same)) sub =
    let e : other ≡ path = some_same (sym there ∙ at) in
    inl ((row, c, subst (λ (p : Path). IsRowFor q.program p.proc.0 input row) e is), same)
lays_visits q paths table solved traced (suc depth) j path input seen out one at has (other, there, inr (none, (row, is, same, rest))) sub =
    let e : other ≡ path = some_same (sym there ∙ at) in
    let f : is.path ≡ path = some_same (sym is.path_is ∙ at) in
    let L : Lay = Lays depth q.program paths in
    let laid = laid_calls depth q.program paths j other (seen ++ row ∷ []) out row there is rest in
    let t : IsTraced q.program paths table row = record {
      j = j;
      is = is;
      calls = traced_calls q paths table j row solved (λ r c. let d = traced r c in (d.j, d.is)) is (λ c next z to a b up g. (let r = laid c next z to a b up g in (r.0, sub r.0 r.1, r.2)));
    } in
    let w = row_walks q paths table row t solved traced in
    let alike = all_alike q paths table row t w solved in
    let g : other ≡ is.path = some_same (sym there ∙ is.path_is) in
    let rest' = subst (λ (p : Path). LaysCalls L p.callees p.inputs (seen ++ row ∷ []) out) g rest in
    let v = visits_calls paths table (Visits depth q.program q.assumed table) L (block_callees (code_of w.own.code).block) w.own.calls is.path.callees is.path.inputs (seen ++ row ∷ []) out (lays_keep depth q.program paths)
    (lays_visits q paths table solved traced depth) alike rest' sub in
    let proc : IsProc q.program path.proc.0 w.own.item w.own.code = subst (λ (p : Path). IsProc q.program p.proc.0 w.own.item w.own.code) f w.own.proc in
    inr (subst (λ (p : Path). (r : Row) → Contains seen r → IsRowFor q.program p.proc.0 input r → ⊥) e none, (row, w.own.item, w.own.code, w.own.end, w.own.calls, row_for q.program paths j path input row at is same, proc, w.holds, v))

-- the entry's instance
entry_at : (q : Quest) (paths : List Path) → AreSolved q paths → (path : Path) × (slice_get paths 1 ≡ Some path) × (path.proc.0 ≡ q.entry) × HasInput paths path q.input
entry_at q paths solved =
    let grown = solved.kept.grown in
    let first = grown.first in
    let one : first.number ≡ 1 = some_same (sym first.number_is ∙ subst (λ (xs : List ℕ). slice_get xs 0 ≡ Some 1) (sym grown.calls) refl) in
    let inputs = (solved.kept.fit.outside grown.outside grown.outside_is).0 in
    let has : slice_get grown.outside.inputs 0 ≡ Some q.input = subst (λ (xs : List Zone). slice_get xs 0 ≡ Some q.input) (sym inputs) refl in (
      first.callee,
      subst (λ n. slice_get paths n ≡ Some first.callee) one first.there,
      first.proc_is,
      (grown.outside, subst (λ n. slice_get paths n ≡ Some grown.outside) (sym first.caller_is) grown.outside_is, subst (λ n. slice_get grown.outside.inputs n ≡ Some q.input) (sym first.place_is) has),
    )

-- the rows that are laid keep threshold states
pub laid_thresholds : (q : Quest) (paths : List Path) (ends : List NameEnds) (depth : ℕ) (table : List Row) → AreSolved q paths → AreThresholds (tree_of q.program) q.entry ends q.thresholds → Lays depth q.program paths 1 q.input [] table →
    HasThresholds q.program q.entry ends table
laid_thresholds q paths ends depth table solved are lays =
    has_thresholds q ends table are (λ row among. let c = all_closed depth q.program paths 1 q.input table lays row among in row_states q paths c.j row solved c.is)

-- the table that is laid is accepted
pub laid_accepted : (q : Quest) (paths : List Path) (table : List Row) (depth : ℕ) → AreSolved q paths → Lays depth q.program paths 1 q.input [] table → Accepted q.program q.assumed table
laid_accepted q paths table depth solved lays = traced_accepted q paths table solved (lays_traced q paths table depth 1 q.input solved lays)

-- and the least one
pub laid_least : (q : Quest) (paths : List Path) (table : List Row) (ends : List NameEnds) (box : Box) (boxed : Zone) (depth : ℕ) → AreSolved q paths → AreThresholds (tree_of q.program) q.entry ends q.thresholds →
    Lays depth q.program paths 1 q.input [] table → IsBoxState box boxed → IsNormOf boxed q.input → IsLeastTable q.program q.entry box ends q.assumed table
laid_least q paths table ends box boxed depth solved are lays is norm =
    let traced = lays_traced q paths table depth 1 q.input solved lays in
    let entry = entry_at q paths solved in
    let visits = lays_visits q paths table solved traced depth 1 entry.0 q.input [] table (omega arith) entry.1 entry.3 lays (λ row c. c) in
    record {
      boxed = boxed;
      box_is = is;
      input = q.input;
      norm = norm;
      depth = depth;
      visits = subst (λ n. Visits depth q.program q.assumed table n q.input [] table) entry.2 visits;
      accepted = traced_accepted q paths table solved traced;
      thresholds = laid_thresholds q paths ends depth table solved are lays;
      least = λ row among. (let t = traced row among in row_least q paths ends t.j row solved are t.is);
    }
