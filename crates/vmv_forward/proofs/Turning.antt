-- A visit, and the instances that have to be visited behind it.
use Rattle.vmv_snapshot.specs.View.{code_of}
use Rattle.vmv_pass.specs.Callees.{block_callees}
use Rattle.vmv_pass.specs.Told.{AreTold}
use Rattle.vmv_forward.proofs.Passing.{element}
use Rattle.std.specs.List.{All}
use Rattle.std.proofs.Common.{◌≡◌, ◌⊎◌, ⊎_elim, ℕ, ◌+◌, ◌*◌, ◌<◌, cond, ◌≤◌, Bool, true, false, Some, List, length, slice_get, IsTrue, IsFalse, refl, sym, ap, subst, arith, ◌∙◌}
use Rattle.std.specs.Prelude.{slice_set, get_or}
use Rattle.std.proofs.lemmas.Bool.{cases_eq}
use Rattle.vmv_zone.proofs.Equal.{by_truth}
use Rattle.vmv_check.proofs.Lists.{some_same, within, at_place, item_at}
use Rattle.vmv_links.specs.Lists.{Lists, IsListed}
use Rattle.vmv_forward.specs.Path.{Path}
use Rattle.vmv_forward.specs.Waiting.{load, AreMore, IsTaken, AreDone, AreAll}
use Rattle.vmv_forward.specs.Rounds.{Quest, AreKept, IsSettled, IsVisited, AreWaiting, AreWaitingBut, HaveFew, all_rooms, all_ranks}
use Rattle.vmv_forward.proofs.Sets.{length_set}
use Rattle.vmv_forward.proofs.Listed.{more_chain}
use Rattle.vmv_forward.specs.Paths.{loops_of}
use Rattle.vmv_forward.proofs.Visiting.{new_at, settled_stays, rooms_fall, rooms_stay, ranks_pay, few_stay, loops_stay}
use Rattle.vmv_forward.proofs.Low.{kept_stays}
use Rattle.vmv_forward.proofs.Reading.{seen}

visited_long : (q : Quest) (xs : List Path) (j : ℕ) (raised : Bool) (s : ℕ) (ys : List Path) (s' : ℕ) → IsVisited q xs j raised s ys s' → length ys ≡ length xs
visited_long q xs j raised s ys s' v = ap length v.changed ∙ (length_set (slice_set xs j v.new) v.old.caller (record v.caller { results = slice_set v.caller.results v.old.place v.range }) ∙ length_set xs j v.new)

-- an instance stands behind its caller, and calls instances that are there
pub record StandsThere (count j : ℕ) (path : Path) : Type 0 where
  pub caller : path.caller < j
  pub callees : All (λ k. (1 ≤ k) × (k < count)) path.callees

stands_there : (q : Quest) (zs : List Path) (j : ℕ) (path : Path) → AreKept q zs → 1 ≤ j → slice_get zs j ≡ Some path → StandsThere (length zs) j path
stands_there q zs j path kept one at =
    let link = kept.grown.linked j path one at in
    let long = link.count in
    let called = block_callees (code_of link.code).block in
    record {
      caller = (kept.grown.placed j path one at).before;
      callees = λ k d h.
          (let x = item_at called k (omega arith) in
          let c = link.each k x.0 x.1 in
          let inside = within zs c.number c.callee c.there in
          let later = c.later in
          let e : c.number ≡ get_or path.callees k d = element path.callees k c.number d c.number_is in
          subst (λ n. (1 ≤ n) × (n < length zs)) e (omega arith, inside));
    }

-- the instance at a number that is read, as it is seen
pub read_at : (zs : List Path) (j : ℕ) (d v : Path) → j < length zs → d ≡ get_or zs j d → v ≡ get_or zs j d → slice_get zs j ≡ Some v
read_at zs j d v h is same = at_place zs j d h is ∙ ap (λ (x : Path). Some x) (is ∙ sym same)

pub stands_at : (q : Quest) (zs : List Path) (j count : ℕ) (v : Path) → AreKept q zs → 1 ≤ j → count ≡ length zs → slice_get zs j ≡ Some v → StandsThere count j v
stands_at q zs j count v kept one same at = subst (λ n. StandsThere n j v) (sym same) (stands_there q zs j v kept one at)

-- what holds behind a visit
pub record VisitEnds (q : Quest) (xs : List Path) (raised : Bool) (s : ℕ) (ys : List Path) (s' : ℕ) : Type 0 where
  pub kept : AreKept q ys
  pub long : length ys ≡ length xs
  pub falls : IsTrue raised → all_rooms ys < all_rooms xs
  pub stays : IsFalse raised → all_rooms ys ≡ all_rooms xs
  pub cost : s' + all_ranks q.thresholds xs ≤ s + all_ranks q.thresholds ys
  pub few : HaveFew xs → HaveFew ys
  pub loops : loops_of ys ≡ loops_of xs

pub visit_ends : (q : Quest) (xs : List Path) (j : ℕ) (raised : Bool) (s : ℕ) (ys : List Path) (s' : ℕ) → 1 ≤ j → AreKept q xs → IsVisited q xs j raised s ys s' → VisitEnds q xs raised s ys s'
visit_ends q xs j raised s ys s' one kept visit =
    let v = seen q xs j raised s ys s' kept one visit in
    record {
      kept = kept_stays q xs j raised s ys s' v one kept;
      long = visited_long q xs j raised s ys s' visit;
      falls = λ t. rooms_fall q xs j raised s ys s' v t;
      stays = λ f. rooms_stay q xs j raised s ys s' v f;
      cost = ranks_pay q xs j raised s ys s' v;
      few = λ f. few_stay q xs j raised s ys s' v f;
      loops = loops_stay q xs j raised s ys s' v;
    }

-- what is put in the lists behind a visit of instance j
pub record IsPutBehind (j : ℕ) (raised looped changed : Bool) (risen : List Bool) (path : Path) (w m n w' : Lists) : Type 0 where
  pub first : AreMore w m
  pub called : IsTrue raised → (c k : ℕ) → slice_get path.callees c ≡ Some k → (slice_get risen c ≡ Some false) ⊎ IsListed m.lists k
  pub still : IsFalse raised → load m ≡ load w
  pub again : AreMore m n
  pub here : IsTrue looped → IsListed n.lists j
  pub stay : IsFalse looped → load n ≡ load m
  pub second : AreMore n w'
  pub caller : IsTrue changed → 1 ≤ path.caller → IsListed w'.lists path.caller
  pub more : load w' ≤ load n + path.caller

-- what a visit tells of the instance, of the inputs of its calls and of its caller
pub record IsTellingOf (q : Quest) (xs : List Path) (j : ℕ) (looped changed : Bool) (risen risen' : List Bool) (ys : List Path) : Type 0 where
  pub settled : IsFalse looped → IsSettled q ys j
  pub told : (old new : Path) → slice_get xs j ≡ Some old → slice_get ys j ≡ Some new → AreTold old.inputs risen new.inputs risen'
  pub same : IsFalse changed → (path : Path) → slice_get xs j ≡ Some path → slice_get ys path.caller ≡ slice_get xs path.caller

-- each instance that isn't in a list is settled behind a visit
pub turned : (q : Quest) (xs : List Path) (j : ℕ) (raised looped changed : Bool) (s : ℕ) (ys : List Path) (s' : ℕ) (risen risen' : List Bool) (path : Path) (w m n w' : Lists) → 1 ≤ j → AreKept q xs → IsVisited q xs j raised s ys s' →
    IsTellingOf q xs j looped changed risen risen' ys → slice_get ys j ≡ Some path → AreWaitingBut q xs w j → IsPutBehind j raised looped changed risen' path w m n w' → AreWaiting q ys w'
turned q xs j raised looped changed s ys s' risen risen' path w m n w' one kept visit tells at wait put =
    let v = seen q xs j raised s ys s' kept one visit in
    let o = v.visited in
    let shape = o.passed.shape in
    let new : path ≡ o.new = some_same (sym at ∙ new_at q xs j raised s ys s' v) in
    let callees : path.callees ≡ o.old.callees = ap (λ (x : Path). x.callees) new ∙ shape.callees in
    let caller : path.caller ≡ o.old.caller = ap (λ (x : Path). x.caller) new ∙ shape.caller in
    let told = tells.told o.old o.new o.old_is (new_at q xs j raised s ys s' v) in
    let long = visited_long q xs j raised s ys s' o in
    let all : AreMore w w' = more_chain w n w' (more_chain w m n put.first put.again) put.second in
    record {
      size = all.size ∙ (wait.size ∙ sym long);
      room = put.second.room;
      from = λ k h. ⊎_elim (λ (b : IsListed w.lists k). wait.from k b) (λ (b : 1 ≤ k). b) (all.from k h);
      others = λ k from off.
          ⊎_elim (λ (e : k ≡ j).
          let still : IsFalse looped = by_truth looped (λ t. absurd (off (subst (IsListed w'.lists) (sym e) (put.second.kept j (put.here t))))) (λ f. f) in
          subst (IsSettled q ys) (sym e) (tells.settled still))
          (λ (apart : k ≡ j → ⊥).
          settled_stays q xs j raised s ys s' v k from apart
          (λ e. by_truth changed
          (λ t. absurd (off (subst (IsListed w'.lists) (caller ∙ sym e) (put.caller t (subst (λ i. 1 ≤ i) (e ∙ sym caller) from)))))
          (λ f. subst (λ i. slice_get ys i ≡ slice_get xs i) (sym e) (tells.same f o.old o.old_is)))
          (λ t c called.
          ⊎_elim (λ (a : slice_get risen' c ≡ Some false). (told c a).1) (λ (a : IsListed m.lists k). absurd (off (put.second.kept k (put.again.kept k a))))
          (put.called t c k (subst (λ (l : List ℕ). slice_get l c ≡ Some k) (sym callees) called)))
          kept.grown (wait.others k from apart (λ l. off (all.kept k l))))
          (cases_eq k j);
    }

-- where nothing was raised the lists have less behind a turn
pub turned_load : (j count : ℕ) (raised looped changed : Bool) (risen : List Bool) (path : Path) (w m n w' : Lists) → StandsThere count j path → IsPutBehind j raised looped changed risen path w m n w' → IsFalse raised → IsFalse looped → load w' < load w + j
turned_load j count raised looped changed risen path w m n w' stands put still stay =
    let a = stands.caller in
    let b = put.more in
    let c = put.still still in
    let d = put.stay stay in
    omega arith

-- an instance that is taken out
pub taken_but : (q : Quest) (xs : List Path) (w w' : Lists) (j : ℕ) → AreWaiting q xs w → IsTaken w j w' → AreWaitingBut q xs w' j
taken_but q xs w w' j wait taken = record {
  size = taken.size ∙ wait.size;
  room = taken.room;
  from = λ k h. wait.from k (taken.from k h);
  others = λ k one n off. wait.others k one (λ l. ⊎_elim (λ (e : k ≡ j). n e) (λ (h : IsListed w'.lists k). off h) (taken.others k l));
}

-- at first all are in a list
pub all_wait : (q : Quest) (xs : List Path) (count : ℕ) (w : Lists) → count ≡ length xs → AreAll w count → AreWaiting q xs w
all_wait q xs count w same all = record {
  size = all.size ∙ same;
  room = all.room;
  from = all.from;
  others = λ k one off path input result item code at. (let inside = within xs k path at in absurd (off (all.listed k one (omega arith))));
}

-- all are settled where none has to be visited
pub all_settled : (q : Quest) (xs : List Path) (w : Lists) → AreWaiting q xs w → AreDone w → (k : ℕ) → 1 ≤ k → IsSettled q xs k
all_settled q xs w wait done k one = wait.others k one (done k)

-- a sweep lowers the measure
pub lower : (before now : Bool) (a c : ℕ) → IsTrue before → (IsTrue now → a < c) → (IsFalse now → a ≡ c) → 2 * a + cond now 1 0 < 2 * c + cond before 1 0
lower true true a c b f g = let h = f refl in omega arith
lower true false a c b f g = let h = g refl in omega arith
lower false true a c b f g = absurd (cc)
lower false false a c b f g = absurd (cc)
