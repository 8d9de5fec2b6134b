-- Instances are added one call after another.
use Rattle.std.proofs.Common.{◌≡◌, ◌⊎◌, inl, inr, ⊎_elim, ℕ, zero, suc, ◌+◌, ◌<◌, ◌≤◌, ℤ, Bool, IsFalse, Some, List, [], ◌∷◌, ◌++◌, length, take, slice_get, get_or, refl, sym, ap, subst, arith, ◌∙◌, append_assoc, length-append}
use Rattle.std.specs.Prelude.{slice_set, sum_by}
use Rattle.std.specs.List.{All}
use Rattle.std.proofs.lemmas.Bool.{cases_eq}
use Rattle.std.proofs.lemmas.List.Sums.{sum_by-append}
use Rattle.vmv_tree.specs.Tree.{Item}
use Rattle.vmv_cond.specs.declared.cond.Cond.{Cond}
use Rattle.vmv_cond.specs.Cond.{IsEmpty}
use Rattle.vmv_zone.specs.declared.zone.Zone.{Zone}
use Rattle.vmv_zone.specs.Zone.{IsBottom}
use Rattle.vmv_snapshot.proofs.Zips.{take_one_more}
use Rattle.vmv_snapshot.specs.declared.code.Code.{Code}
use Rattle.vmv_snapshot.specs.declared.code.ProcId.{ProcId}
use Rattle.vmv_snapshot.specs.View.{code_of}
use Rattle.vmv_snapshot.specs.Resolution.{Resolution, IsResolution}
use Rattle.vmv_assumption.specs.Assumed.{Assumed}
use Rattle.vmv_check.proofs.Lists.{some_same, within, item_at, at_place}
use Rattle.vmv_pass.specs.Callees.{block_callees}
use Rattle.vmv_pass.specs.Upper.{IsProc, Fits}
use Rattle.vmv_forward.specs.Path.{Path}
use Rattle.vmv_forward.specs.Paths.{IsCallee, IsLinked, IsPlaced, IsFresh, loops_of}
use Rattle.vmv_forward.specs.Rounds.{stored_of}
use Rattle.vmv_forward.specs.Grow.{IsNew, IsGrownBy}
use Rattle.vmv_forward.specs.Instances.{instances}
use Rattle.vmv_forward.proofs.Fronts.{at_left, at_right}
use Rattle.vmv_forward.proofs.Sets.{get_same, get_other, length_set}
use Rattle.std.proofs.lemmas.List.{take_all}
use Rattle.vmv_assumption.specs.Whole.{whole}
use Rattle.vmv_cert.specs.Sizes.{block_loops}
use Rattle.vmv_forward.proofs.Instancing.{sum_one, sum_cons, counted}
use Rattle.vmv_forward.proofs.Passing.{element, same_or}

-- what holds when the first calls have instances
pub record Growing (program : Resolution) (n caller place : ℕ) (old now : List Path) (done : ℕ) (list : List ProcId) : Type 0 where
  pub more : List Path
  pub is : now ≡ old ++ more
  pub first : Path
  pub first_is : slice_get now (length old) ≡ Some first
  pub proc_is : first.proc.0 ≡ n
  pub caller_is : first.caller ≡ caller
  pub place_is : first.place ≡ place
  pub count : length first.callees ≡ done
  pub each : (c : ℕ) (callee : ProcId) → c < done → slice_get list c ≡ Some callee → IsCallee now (length old) first c callee.0
  pub placed : (j : ℕ) (path : Path) → length old < j → slice_get now j ≡ Some path → IsPlaced now (length old) j path
  pub linked : (i : ℕ) (path : Path) → length old < i → slice_get now i ≡ Some path → IsLinked program now i path
  pub fresh : (i : ℕ) (path : Path) → length old ≤ i → slice_get now i ≡ Some path → IsFresh path
  pub fits : (i : ℕ) (path : Path) (assumed : Assumed) (ts : List ℤ) (item : Item) (code : Code) → length old ≤ i → slice_get now i ≡ Some path
      → IsProc program path.proc.0 item code → Fits program ts item code (stored_of assumed path)
  pub loops : loops_of more ≡ length first.keeps + sum_by (λ (callee : ProcId). instances program.codes callee.0) (take done list)

-- lists whose element at the end of the first part changes

set_behind : {X : Type 0} (xs ys : List X) (y : X) → slice_set (xs ++ ys) (length xs) y ≡ xs ++ slice_set ys 0 y
set_behind [] ys y = refl
set_behind (x ∷ xs) ys y = ap (λ zs. x ∷ zs) (set_behind xs ys y)

-- what is in a list that was changed in one place and made longer
pub record Longer (now : List Path) (o : ℕ) (first' : Path) (m2 last : List Path) : Type 0 where
  pub is : last ≡ slice_set now o first' ++ m2
  pub inside : o < length now

longer_first : (now : List Path) (o : ℕ) (first' : Path) (m2 last : List Path) → Longer now o first' m2 last → slice_get last o ≡ Some first'
longer_first now o first' m2 last l = subst (λ (x : List Path). slice_get x o ≡ Some first') (sym l.is) (at_left (slice_set now o first') m2 o first' (get_same now o first' l.inside))

longer_other : (now : List Path) (o : ℕ) (first' : Path) (m2 last : List Path) (i : ℕ) (path : Path) → Longer now o first' m2 last → (i ≡ o → ⊥) → slice_get now i ≡ Some path → slice_get last i ≡ Some path
longer_other now o first' m2 last i path l n at =
    subst (λ (x : List Path). slice_get x i ≡ Some path) (sym l.is) (at_left (slice_set now o first') m2 i path (get_other now o i first' n ∙ at))

longer_back : (now : List Path) (o : ℕ) (first' : Path) (m2 last : List Path) (i : ℕ) (path : Path) → Longer now o first' m2 last → (i ≡ o → ⊥) → i < length now → slice_get last i ≡ Some path → slice_get now i ≡ Some path
longer_back now o first' m2 last i path l n h at =
    let x = item_at now i h in
    let there = longer_other now o first' m2 last i x.0 l n x.1 in
    subst (λ (y : Path). slice_get now i ≡ Some y) (some_same (sym there ∙ at)) x.1

-- a call keeps its instance
callee_longer : (now : List Path) (o : ℕ) (first' : Path) (m2 last : List Path) (i : ℕ) (path path' : Path) (c n : ℕ) → Longer now o first' m2 last → o ≤ i → ((k : ℕ) → slice_get path.callees c ≡ Some k → slice_get path'.callees c ≡ Some k) → IsCallee now i path c n →
    IsCallee last i path' c n
callee_longer now o first' m2 last i path path' c n l from keep is =
    let later = is.later in
    record {
      number = is.number;
      number_is = keep is.number is.number_is;
      later = is.later;
      callee = is.callee;
      there = longer_other now o first' m2 last is.number is.callee l (λ e. omega arith) is.there;
      proc_is = is.proc_is;
      caller_is = is.caller_is;
      place_is = is.place_is;
    }

-- a number is below another, or not
lower_or_not : (n m : ℕ) → (n < m) ⊎ (m ≤ n)
lower_or_not n zero = inr (omega arith)
lower_or_not zero (suc m) = inl (omega arith)
lower_or_not (suc n) (suc m) = ⊎_elim (λ (h : n < m). inl (omega (arith, h))) (λ (h : m ≤ n). inr (omega (arith, h))) (lower_or_not n m)

fresh_as : (a b : Path) → b.keeps ≡ a.keeps → b.inputs ≡ a.inputs → b.results ≡ a.results → b.unproved ≡ a.unproved → IsFresh a → IsFresh b
fresh_as a b k i r u f =
    record {
      keeps = subst (λ (l : List Zone). All IsBottom l) (sym k) f.keeps;
      inputs = subst (λ (l : List Zone). All IsBottom l) (sym i) f.inputs;
      results = subst (λ (l : List Cond). All IsEmpty l) (sym r) f.results;
      unproved = subst (λ (l : List Bool). All IsFalse l) (sym u) f.unproved;
    }

abbrev with_callee : Path → ℕ → Path
with_callee path number = record path { callees = path.callees ++ number ∷ [] }

take_more : {X : Type 0} (xs : List X) (n : ℕ) (x : X) → slice_get xs n ≡ Some x → take (n + 1) xs ≡ take n xs ++ x ∷ []
take_more xs n x e = take_one_more xs n x (within xs n x e) (element xs n x x e)

loops_first : (more : List Path) (first' first : Path) → slice_get more 0 ≡ Some first → length first'.keeps ≡ length first.keeps → loops_of (slice_set more 0 first') ≡ loops_of more
loops_first [] first' first e same = absurd (cc)
loops_first (x ∷ more) first' first e same =
    let h : x ≡ first = some_same e in
    let k : length x.keeps ≡ length first.keeps = ap (λ (p : Path). length p.keeps) h in
    let a : loops_of (slice_set (x ∷ more) 0 first') ≡ length first'.keeps + loops_of more = sum_cons (λ (p : Path). length p.keeps) first' more in
    let b : loops_of (x ∷ more) ≡ length x.keeps + loops_of more = sum_cons (λ (p : Path). length p.keeps) x more in
    omega arith

behind_at : {X : Type 0} (xs ys : List X) (x : X) → slice_get (xs ++ ys) (length xs) ≡ Some x → slice_get ys 0 ≡ Some x
behind_at [] ys x e = e
behind_at (y ∷ xs) ys x e = behind_at xs ys x e

placed_before : (now : List Path) (o : ℕ) (first first' : Path) (number : ℕ) (m2 last : List Path) (j : ℕ) (path : Path) → Longer now o first' m2 last → slice_get now o ≡ Some first → first' ≡ with_callee first number → IsPlaced now o j path →
    IsPlaced last o j path
placed_before now o first first' number m2 last j path l first_is with p =
    ⊎_elim (λ (e : path.caller ≡ o).
    let same : p.caller ≡ first = some_same (sym (subst (λ k. slice_get now k ≡ Some p.caller) e p.there) ∙ first_is) in
    let called = subst (λ (x : Path). slice_get x.callees path.place ≡ Some j) same p.called in
    record {
      caller = first';
      there = subst (λ k. slice_get last k ≡ Some first') (sym e) (longer_first now o first' m2 last l);
      not_before = p.not_before;
      before = p.before;
      called = subst (λ (x : Path). slice_get x.callees path.place ≡ Some j) (sym with) (at_left first.callees (number ∷ []) path.place j called);
    })
    (λ (n : path.caller ≡ o → ⊥).
    record { caller = p.caller; there = longer_other now o first' m2 last path.caller p.caller l n p.there; not_before = p.not_before; before = p.before; called = p.called })
    (cases_eq path.caller o)

-- one more call has its instances
pub grow_step : (program : Resolution) (n caller place : ℕ) (old now mid last : List Path) (done : ℕ) (list : List ProcId) (callee : ProcId) (d : Path) → Growing program n caller place old now done list → slice_get list done ≡ Some callee →
    mid ≡ slice_set now (length old) (with_callee (get_or now (length old) d) (length now)) → IsGrownBy program callee.0 (length old) done mid last → Growing program n caller place old last (done + 1) list
grow_step program n caller place old now mid last done list callee d h at mid_is g =
    let o = length old in
    let inside = within now o h.first h.first_is in
    let here : get_or now o d ≡ h.first = sym (element now o h.first d h.first_is) in
    let first' = with_callee h.first (length now) in
    let mid' : mid ≡ slice_set now o first' = mid_is ∙ ap (λ (p : Path). slice_set now o (with_callee p (length now))) here in
    let long : length mid ≡ length now = ap length mid' ∙ length_set now o first' in
    let l : Longer now o first' g.more last = record { is = g.is ∙ ap (λ (x : List Path). x ++ g.more) mid'; inside = inside } in
    let there = longer_first now o first' g.more last l in
    let count = h.count in
    let e0 : length h.first.callees + 0 ≡ done = omega (arith, count) in
    let gone : slice_get first'.callees done ≡ Some (length now) = subst (λ k. slice_get first'.callees k ≡ Some (length now)) e0 (at_right h.first.callees (length now ∷ []) 0 (length now) refl) in
    record {
      more = slice_set h.more 0 first' ++ g.more;
      is = l.is ∙ (ap (λ (x : List Path). slice_set x o first' ++ g.more) h.is ∙ (ap (λ (x : List Path). x ++ g.more) (set_behind old h.more first') ∙ append_assoc old (slice_set h.more 0 first') g.more));
      first = first';
      first_is = there;
      proc_is = h.proc_is;
      caller_is = h.caller_is;
      place_is = h.place_is;
      count = length-append h.first.callees (length now ∷ []) ∙ omega arith;
      each = λ c callee' below called.
          ⊎_elim (λ (e : c ≡ done).
          let same : callee ≡ callee' = some_same (sym at ∙ subst (λ k. slice_get list k ≡ Some callee') e called) in
          record {
            number = length now;
            number_is = subst (λ k. slice_get first'.callees k ≡ Some (length now)) (sym e) gone;
            later = inside;
            callee = g.first;
            there = subst (λ k. slice_get last k ≡ Some g.first) long g.first_is;
            proc_is = g.proc_is ∙ ap (λ (p : ProcId). p.0) same;
            caller_is = g.caller_is;
            place_is = g.place_is ∙ sym e;
          })
          (λ (e : c ≡ done → ⊥).
          callee_longer now o first' g.more last o h.first first' c callee'.0 l (omega arith) (λ k q. at_left h.first.callees (length now ∷ []) c k q) (h.each c callee' (omega arith) called))
          (cases_eq c done);
      placed = λ j path after at_j.
          ⊎_elim (λ (below : j < length now). placed_before now o h.first first' (length now) g.more last j path l h.first_is refl (h.placed j path after (longer_back now o first' g.more last j path l (λ e. omega arith) below at_j)))
          (λ (above : length now ≤ j).
          ⊎_elim (λ (e : j ≡ length now).
          let one : g.first ≡ path = some_same (sym (subst (λ k. slice_get last k ≡ Some g.first) (long ∙ sym e) g.first_is) ∙ at_j) in
          let caller : path.caller ≡ o = ap (λ (p : Path). p.caller) (sym one) ∙ g.caller_is in
          let place' : path.place ≡ done = ap (λ (p : Path). p.place) (sym one) ∙ g.place_is in
          record {
            caller = first';
            there = subst (λ k. slice_get last k ≡ Some first') (sym caller) there;
            not_before = omega arith;
            before = omega arith;
            called = subst (λ k. slice_get first'.callees k ≡ Some j) (sym place') (gone ∙ ap (λ k. Some k) (sym e));
          })
          (λ (e : j ≡ length now → ⊥).
          let p = g.placed j path (omega arith) at_j in
          let nb = p.not_before in
          record { caller = p.caller; there = p.there; not_before = omega arith; before = p.before; called = p.called })
          (cases_eq j (length now)))
          (lower_or_not j (length now));
      linked = λ i path after at_i.
          ⊎_elim (λ (below : i < length now).
          let p = h.linked i path after (longer_back now o first' g.more last i path l (λ e. omega arith) below at_i) in
          record {
            item = p.item;
            code = p.code;
            proc = p.proc;
            count = p.count;
            each = λ c callee' called. callee_longer now o first' g.more last i path path c callee'.0 l (omega arith) (λ k q. q) (p.each c callee' called);
          })
          (λ (above : length now ≤ i). g.linked i path (omega arith) at_i)
          (lower_or_not i (length now));
      fresh = λ i path from at_i.
          ⊎_elim (λ (e : i ≡ o).
          let one : first' ≡ path = some_same (sym there ∙ subst (λ k. slice_get last k ≡ Some path) e at_i) in
          subst IsFresh one (fresh_as h.first first' refl refl refl refl (h.fresh o h.first (omega arith) h.first_is)))
          (λ (e : i ≡ o → ⊥).
          ⊎_elim (λ (below : i < length now). h.fresh i path from (longer_back now o first' g.more last i path l e below at_i))
          (λ (above : length now ≤ i). g.fresh i path (omega arith) at_i)
          (lower_or_not i (length now)))
          (cases_eq i o);
      fits = λ i path assumed ts item code from at_i is.
          ⊎_elim (λ (e : i ≡ o).
          let one : first' ≡ path = some_same (sym there ∙ subst (λ k. slice_get last k ≡ Some path) e at_i) in
          let is' = subst (λ (p : Path). IsProc program p.proc.0 item code) (sym one) is in
          subst (λ (p : Path). Fits program ts item code (stored_of assumed p)) one (h.fits o h.first assumed ts item code (omega arith) h.first_is is'))
          (λ (e : i ≡ o → ⊥).
          ⊎_elim (λ (below : i < length now). h.fits i path assumed ts item code from (longer_back now o first' g.more last i path l e below at_i) is)
          (λ (above : length now ≤ i). g.fits i path assumed ts item code (omega arith) at_i is)
          (lower_or_not i (length now)))
          (cases_eq i o);
      loops =
          let f : ProcId → ℕ = λ (p : ProcId). instances program.codes p.0 in
          let behind : slice_get h.more 0 ≡ Some h.first = behind_at old h.more h.first (subst (λ (x : List Path). slice_get x o ≡ Some h.first) h.is h.first_is) in
          let same = loops_first h.more first' h.first behind refl in
          let parts = sum_by-append (λ (p : Path). length p.keeps) (slice_set h.more 0 first') g.more in
          let taken : sum_by f (take (done + 1) list) ≡ sum_by f (take done list ++ callee ∷ []) = ap (sum_by f) (take_more list done callee at) in
          let two = sum_by-append f (take done list) (callee ∷ []) in
          let last_one : sum_by f (callee ∷ []) ≡ instances program.codes callee.0 = sum_one f callee in
          let a = h.loops in
          let b = g.loops in
          omega arith;
    }

-- nothing is called yet
pub grow_start : (program : Resolution) (proc : ProcId) (caller place : ℕ) (old : List Path) (x : Path) (list : List ProcId) → IsNew program proc caller place x → Growing program proc.0 caller place old (old ++ x ∷ []) 0 list
grow_start program proc caller place old x list new =
    let o = length old in
    let e0 : o + 0 ≡ o = omega arith in
    let here : slice_get (old ++ x ∷ []) o ≡ Some x = subst (λ k. slice_get (old ++ x ∷ []) k ≡ Some x) e0 (at_right old (x ∷ []) 0 x refl) in
    let long = length-append old (x ∷ []) in
    let only : (i : ℕ) (path : Path) → o ≤ i → slice_get (old ++ x ∷ []) i ≡ Some path → (i ≡ o) × (x ≡ path) = λ i path from at.
    (let inside = within (old ++ x ∷ []) i path at in
    let one : length (x ∷ []) ≡ 1 = refl in
    let e : i ≡ o = omega arith in (e, some_same (sym here ∙ subst (λ k. slice_get (old ++ x ∷ []) k ≡ Some path) e at))) in
    record {
      more = x ∷ [];
      is = refl;
      first = x;
      first_is = here;
      proc_is = ap (λ (p : ProcId). p.0) new.proc_is;
      caller_is = new.caller_is;
      place_is = new.place_is;
      count = ap length new.callees;
      each = λ c callee below. absurd (omega (arith, below));
      placed = λ j path after at. absurd (let h = (only j path (omega arith) at).0 in omega arith);
      linked = λ j path after at. absurd (let h = (only j path (omega arith) at).0 in omega arith);
      fresh = λ i path from at. subst IsFresh (only i path from at).1 new.fresh;
      fits = λ i path assumed ts item code from at is.
          let one = (only i path from at).1 in
          let is' : IsProc program proc.0 item code = subst (λ (p : ProcId). IsProc program p.0 item code) new.proc_is (subst (λ (p : Path). IsProc program p.proc.0 item code) (sym one) is) in
          subst (λ (p : Path). Fits program ts item code (stored_of assumed p)) one (new.fits assumed ts item code is');
      loops = (let a : loops_of (x ∷ []) ≡ length x.keeps = sum_one (λ (p : Path). length p.keeps) x in let b : sum_by (λ (callee : ProcId). instances program.codes callee.0) (take 0 list) ≡ 0 = refl in omega arith);
    }

-- all calls have their instances
pub grow_end : (program : Resolution) (n caller place : ℕ) (old now : List Path) (done : ℕ) (list : List ProcId) (item : Item) (code : Code) → IsResolution program → IsProc program n item code → list ≡ block_callees (code_of code).block →
    length list ≡ done → Growing program n caller place old now done list → IsGrownBy program n caller place old now
grow_end program n caller place old now done list item code is proc list_is full h =
    let o = length old in
    record {
      more = h.more;
      is = h.is;
      first = h.first;
      first_is = h.first_is;
      proc_is = h.proc_is;
      caller_is = h.caller_is;
      place_is = h.place_is;
      placed = h.placed;
      linked = λ i path from at.
          ⊎_elim (λ (e : i ≡ o).
          let one : h.first ≡ path = some_same (sym h.first_is ∙ subst (λ k. slice_get now k ≡ Some path) e at) in
          let own : IsLinked program now o h.first = record {
            item = item;
            code = code;
            proc = subst (λ k. IsProc program k item code) (sym h.proc_is) proc;
            count = h.count ∙ (sym full ∙ ap length list_is);
            each = λ c callee called.
                let called' = subst (λ (l : List ProcId). slice_get l c ≡ Some callee) (sym list_is) called in
                let inside = within list c callee called' in
                h.each c callee (omega arith) called';
          } in
          subst (λ k. IsLinked program now k path) (sym e) (subst (IsLinked program now o) one own))
          (λ (e : i ≡ o → ⊥). h.linked i path (omega arith) at)
          (cases_eq i o);
      fresh = h.fresh;
      fits = h.fits;
      loops =
          let f = h.fits o h.first (λ name. whole) [] item code (omega arith) h.first_is (subst (λ k. IsProc program k item code) (sym h.proc_is) proc) in
          let keeps : length h.first.keeps ≡ block_loops (code_of code).block = f.keeps in
          let taken : take done list ≡ list = take_all done list (omega arith) in
          let g : ProcId → ℕ = λ (callee : ProcId). instances program.codes callee.0 in
          let sums : sum_by g (take done list) ≡ sum_by g list = ap (sum_by g) taken in
          let all = counted program n code list is proc.code_is list_is in
          let loops = h.loops in
          omega (arith, keeps, sums, all, loops);
    }

-- the same step, as it is made
pub grow_made : (program : Resolution) (n caller place number next : ℕ) (old now last : List Path) (done : ℕ) (list : List ProcId) (d : ProcId) (e e' : Path) → number ≡ length old → next ≡ length now → e ≡ get_or now number e → e' ≡ with_callee e next →
    done < length list → Growing program n caller place old now done list → IsGrownBy program (get_or list done d).0 number done (slice_set now number e') last → Growing program n caller place old last (done + 1) list
grow_made program n caller place number next old now last done list d e e' number_is next_is e_is made h before g =
    let at : slice_get list done ≡ Some (get_or list done d) = at_place list done (get_or list done d) h (same_or list done d (get_or list done d) h) in
    let g1 = subst (λ k. IsGrownBy program (get_or list done d).0 k done (slice_set now k e') last) number_is g in
    let e1 : e ≡ get_or now (length old) e = subst (λ k. e ≡ get_or now k e) number_is e_is in
    let shape : e' ≡ with_callee (get_or now (length old) e) (length now) = made ∙ (ap (with_callee e) next_is ∙ ap (λ (p : Path). with_callee p (length now)) e1) in
    grow_step program n caller place old now (slice_set now (length old) e') last done list (get_or list done d) e before at (ap (slice_set now (length old)) shape) g1
