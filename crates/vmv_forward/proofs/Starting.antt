-- Instances of which nothing is known are below every table.
use Rattle.vmv_pass.specs.Source.{keeps_in, result_in}
use Rattle.std.proofs.Common.{◌≡◌, ◌⊎◌, inl, inr, ⊎_elim, ℕ, suc, ◌≤◌, Bool, true, IsFalse, Result, Ok, Err, IfOk, Option, Some, None, List, [], ◌∷◌, length, slice_get, get_or, refl, sym, ap, subst, arith, ◌∙◌}
use Rattle.std.specs.List.{All, AllZip}
use Rattle.std.proofs.lemmas.Bool.{cases_eq}
use Rattle.std.proofs.lemmas.Slice.Zip.{AllZip-long}
use Rattle.vmv_cond.specs.declared.cond.Cond.{Cond}
use Rattle.vmv_cond.specs.Cond.{IsEmpty}
use Rattle.vmv_snapshot.specs.declared.code.ProcId.{ProcId}
use Rattle.vmv_snapshot.specs.View.{code_of}
use Rattle.vmv_snapshot.specs.Resolution.{Resolution, IsResolution}
use Rattle.vmv_zone.specs.declared.zone.Zone.{Zone}
use Rattle.vmv_zone.specs.Zone.{vars_of, IsBottom, IsBelow, IsNormal}
use Rattle.vmv_zone.proofs.Equal.{clash}
use Rattle.vmv_cert.specs.declared.row.Reach.{Reach}
use Rattle.vmv_cert.specs.declared.row.Reach.TheVariants.{Bottom, Value}
use Rattle.vmv_cert.specs.Tables.{IsAbove}
use Rattle.vmv_check.specs.Walker.{HasParams}
use Rattle.vmv_check.proofs.Lists.{some_same, got_in, of_all}
use Rattle.vmv_pass.specs.Callees.{block_callees}
use Rattle.vmv_pass.specs.Upper.{AreScale, IsBelowCall}
use Rattle.vmv_forward.specs.Path.{Path}
use Rattle.vmv_forward.specs.Paths.{IsPlaced, IsGrown}
use Rattle.vmv_forward.specs.Rounds.{Quest, HasResult, AreFit, AreKept, HaveFew}
use Rattle.vmv_pass.proofs.Bodies.{facts_of}
use Rattle.vmv_forward.specs.Grow.{IsStart}
use Rattle.vmv_forward.proofs.Low.{source_at}

-- Bottom is below each state
pub bottoms_below : (xs ys : List Zone) → length xs ≡ length ys → All IsBottom xs → AllZip IsBelow xs ys
bottoms_below [] [] e all = tt
bottoms_below [] (y ∷ ys) e all = absurd (omega (arith, e))
bottoms_below (x ∷ xs) [] e all = absurd (omega (arith, e))
bottoms_below (x ∷ xs) (y ∷ ys) e all = (λ f. clash x.bottom (all 0 x (omega arith)) f, bottoms_below xs ys (omega (arith, e)) (λ k d h. all (suc k) d (omega (arith, h))))

bottom_call : (x : Zone) (call : Option Zone) → IsBottom x → IsBelowCall x call
bottom_call x None t = t
bottom_call x (Some args) t = λ f. clash x.bottom t f

pub bottoms_called : (xs : List Zone) (calls : List (Option Zone)) → length xs ≡ length calls → All IsBottom xs → AllZip IsBelowCall xs calls
bottoms_called [] [] e all = tt
bottoms_called [] (y ∷ ys) e all = absurd (omega (arith, e))
bottoms_called (x ∷ xs) [] e all = absurd (omega (arith, e))
bottoms_called (x ∷ xs) (y ∷ ys) e all = (bottom_call x y (all 0 x (omega arith)), bottoms_called xs ys (omega (arith, e)) (λ k d h. all (suc k) d (omega (arith, h))))

no_flag : (xs : List Bool) (i : ℕ) → All IsFalse xs → slice_get xs i ≡ Some true → ⊥
no_flag xs i all at = let f = of_all IsFalse xs all true (got_in xs i true at) in absurd (cc)

empty_above : (r : Reach) (c : Cond) → IsEmpty c → IsAbove r c
empty_above Bottom c empty = empty
empty_above (Value d) c empty = λ w held. absurd (empty w held)

-- an instance is the first, or one behind it
cases_of : (j : ℕ) → (j ≡ 1) ⊎ (j ≡ 1 → ⊥)
cases_of j = cases_eq j 1

first_placed : (program : Resolution) (entry : ℕ) (input : Zone) (paths : List Path) → IsStart program entry input paths → (j : ℕ) (path : Path) → 1 ≤ j → slice_get paths j ≡ Some path → (j ≡ 1) ⊎ (j ≡ 1 → ⊥) → IsPlaced paths 0 j path
first_placed program entry input paths start j path one at (inl e) =
    let g = start.grown in
    let out : slice_get paths 0 ≡ Some start.outside = subst (λ (l : List Path). slice_get l 0 ≡ Some start.outside) (sym g.is) refl in
    let same : g.first ≡ path = some_same (sym g.first_is ∙ subst (λ k. slice_get paths k ≡ Some path) e at) in
    let caller : path.caller ≡ 0 = ap (λ (p : Path). p.caller) (sym same) ∙ g.caller_is in
    let place : path.place ≡ 0 = ap (λ (p : Path). p.place) (sym same) ∙ g.place_is in
    record {
      caller = start.outside;
      there = ap (slice_get paths) caller ∙ out;
      not_before = omega arith;
      before = omega arith;
      called = subst (λ (l : List ℕ). slice_get l path.place ≡ Some j) (sym start.is_outside.callees) (subst (λ k. slice_get (1 ∷ []) k ≡ Some j) (sym place) (ap (λ k. Some k) (sym e)));
    }
first_placed program entry input paths start j path one at (inr n) =
    let p = start.grown.placed j path (omega arith) at in
    record { caller = p.caller; there = p.there; not_before = omega arith; before = p.before; called = p.called }

-- nothing is returned yet
empty_result : (q : Quest) (paths : List Path) → IsStart q.program q.entry q.input paths → (j : ℕ) (path : Path) (result : Cond) → 1 ≤ j → slice_get paths j ≡ Some path → HasResult paths path result → IsEmpty result
empty_result q paths start j path result one at (caller, there, has) =
    let g = start.grown in
    let out : slice_get paths 0 ≡ Some start.outside = subst (λ (l : List Path). slice_get l 0 ≡ Some start.outside) (sym g.is) refl in
    ⊎_elim (λ (e : path.caller ≡ 0).
    let same : start.outside ≡ caller = some_same (sym out ∙ subst (λ k. slice_get paths k ≡ Some caller) e there) in
    of_all IsEmpty start.outside.results start.is_outside.empty result (got_in start.outside.results path.place result (subst (λ (p : Path). slice_get p.results path.place ≡ Some result) (sym same) has)))
    (λ (n : path.caller ≡ 0 → ⊥).
    of_all IsEmpty caller.results (g.fresh path.caller caller (omega arith) there).results result (got_in caller.results path.place result has))
    (cases_eq path.caller 0)

-- each instance of the entry is one of which nothing is known
grown_at : (program : Resolution) (entry : ℕ) (input : Zone) (paths : List Path) → IsStart program entry input paths → IsGrown program entry paths
grown_at program entry input paths start =
    let g = start.grown in
    let out : slice_get paths 0 ≡ Some start.outside = subst (λ (l : List Path). slice_get l 0 ≡ Some start.outside) (sym g.is) refl in
    record {
      outside = start.outside;
      outside_is = out;
      calls = start.is_outside.callees;
      first = record {
        number = 1;
        number_is = subst (λ (l : List ℕ). slice_get l 0 ≡ Some 1) (sym start.is_outside.callees) refl;
        later = omega arith;
        callee = g.first;
        there = g.first_is;
        proc_is = g.proc_is;
        caller_is = g.caller_is;
        place_is = g.place_is;
      };
      placed = λ j path one at. first_placed program entry input paths start j path one at (cases_of j);
      linked = λ i path one at. g.linked i path one at;
    }

-- an input below 0 instances
pub fit_at : (q : Quest) (paths : List Path) → IsStart q.program q.entry q.input paths → HasParams q.program q.entry (vars_of q.input) → IsNormal q.input → AreFit q paths
fit_at q paths start over normal =
    let g = start.grown in
    let out : slice_get paths 0 ≡ Some start.outside = subst (λ (l : List Path). slice_get l 0 ≡ Some start.outside) (sym g.is) refl in
    record {
      entry = over;
      normal = normal;
      outside = λ path at.
          let same : start.outside ≡ path = some_same (sym out ∙ at) in
          (ap (λ (p : Path). p.inputs) (sym same) ∙ start.is_outside.inputs, ap (λ (p : Path). length p.results) (sym same) ∙ start.is_outside.results);
      each = λ i path item code one at is. g.fits i path q.assumed q.thresholds item code one at is;
    }

pub start_kept : (q : Quest) (paths : List Path) → IsResolution q.program → AreScale q.thresholds → IsStart q.program q.entry q.input paths → HasParams q.program q.entry (vars_of q.input) → IsNormal q.input → AreKept q paths
start_kept q paths is scale start over normal =
    let g = start.grown in
    let fit = fit_at q paths start over normal in
    let grown = grown_at q.program q.entry q.input paths start in
    record {
      resolution = is;
      scale = scale;
      grown = grown;
      fit = fit;
      low = λ rival is_rival j path input top end result item code source calls one at has given proc of below holds.
          let fresh = g.fresh j path one at in
          let fits = g.fits j path q.assumed q.thresholds item code one at proc in
          let known = source_at q rival path.proc.0 item code top source is_rival proc of in
          let inputs = AllZip-long (λ (callee : ProcId) (z : Zone). HasParams q.program callee.0 (vars_of z) × IsNormal z) (block_callees (code_of code).block) path.inputs fits.inputs in (
            record {
              keeps = bottoms_below path.keeps (keeps_in source) (fits.keeps ∙ sym known.keeps) fresh.keeps;
              inputs = bottoms_called path.inputs calls (inputs ∙ sym holds.count) fresh.inputs;
              unproved = λ i flag. absurd (no_flag path.unproved i fresh.unproved flag);
            },
            empty_above (result_in source) result (empty_result q paths start j path result one at given),
          );
    }

-- the states at loops are over the variables of their procedures
pub start_few : (q : Quest) (paths : List Path) → IsResolution q.program → IsStart q.program q.entry q.input paths → HaveFew paths
start_few q paths is start i path at =
    let g = start.grown in
    let out : slice_get paths 0 ≡ Some start.outside = subst (λ (l : List Path). slice_get l 0 ≡ Some start.outside) (sym g.is) refl in
    ⊎_elim (λ (e : i ≡ 0).
    let same : start.outside ≡ path = some_same (sym out ∙ subst (λ k. slice_get paths k ≡ Some path) e at) in
    let none : path.keeps ≡ [] = ap (λ (p : Path). p.keeps) (sym same) ∙ start.is_outside.keeps in
    subst (λ (l : List Zone). All (λ z. vars_of z ≤ 16) l) (sym none) (λ k d h. absurd (omega (arith, h))))
    (λ (n : i ≡ 0 → ⊥).
    let link = g.linked i path (omega arith) at in
    let f = g.fits i path q.assumed q.thresholds link.item link.code (omega arith) at link.proc in
    let facts = facts_of q.program path.proc.0 link.item link.code is link.proc in
    let few = facts.few in
    λ k d h. (let v : vars_of (get_or path.keeps k d) ≡ link.code.vars = f.over k d h in omega (arith, v, few)))
    (cases_eq i 0)

-- a fact of what a call gives gives another
pub of_one : {A E : Type 0} (r : Result A E) (P Q : A → Type 0) → ((a : A) → P a → Q a) → IfOk r P → IfOk r Q
of_one (Ok a) P Q f p = f a p
of_one (Err e) P Q f p = tt
