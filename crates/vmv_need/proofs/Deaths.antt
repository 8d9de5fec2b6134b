-- The thresholds of an entry, and what its death tells of a candidate.
use Rattle.std.proofs.Common.{◌≡◌, ◌↔◌, ℕ, zero, suc, ℤ, ◌<◌, true, Option, Some, List, [], ◌∷◌, length, map, get_or, slice_get, sym, ap, subst, ◌∙◌, arith}
use Rattle.std.proofs.lemmas.Option.{slice_get_within, slice_get-get_or}
use Rattle.vmv_tree.specs.declared.ends.NameEnds.{NameEnds}
use Rattle.vmv_tree.specs.Tree.{Item, entry}
use Rattle.vmv_snapshot.specs.Procs.{is_entry}
use Rattle.vmv_snapshot.specs.Resolution.{Resolution, tree_of, procs_of}
use Rattle.vmv_assumption.specs.Assumed.{Assumed}
use Rattle.vmv_assumption.specs.Change.{IsKept}
use Rattle.vmv_cert.specs.Tables.{Box, Dead}
use Rattle.vmv_thresholds.specs.Thresholds.{AreThresholds}
use Rattle.vmv_need.specs.declared.subject.Scope.{Scope}
use Rattle.vmv_need.specs.declared.candidate.Candidate.{Candidate}
use Rattle.vmv_need.specs.Acts.{Meets, Acts}
use Rattle.vmv_need.specs.Thresholds.{HaveThresholds}
use Rattle.vmv_need.specs.Plan.{IsEntryWithin}
use Rattle.vmv_need.proofs.Kept.{kept_once}

map_entry : (items : List Item) (n : ℕ) (item : Item) → slice_get items n ≡ Some item → slice_get (map is_entry items) n ≡ Some (is_entry item)
map_entry [] n item e = absurd (cc)
map_entry (i ∷ items) zero item e = let same : i ≡ item = cc in ap (λ (x : Item). Some (is_entry x)) same
map_entry (i ∷ items) (suc n) item e = map_entry items n item e

pub is_an_entry : (program : Resolution) (n : ℕ) (box : Box) → IsEntryWithin program n box → slice_get (map is_entry (procs_of program)) n ≡ Some true
is_an_entry program n box (params, (name, body, at), inside) = map_entry (procs_of program) n (entry name params body) at

pub entry_inside : (program : Resolution) (n : ℕ) (box : Box) → IsEntryWithin program n box → n < length (procs_of program)
entry_inside program n box (params, (name, body, at), inside) = slice_get_within (procs_of program) n (entry name params body) at

-- the thresholds that stand for an entry
pub thresholds_found : (program : Resolution) (n : ℕ) (box : Box) (ends : List NameEnds) (list : List (Option (List ℤ))) (found : Option (List ℤ)) (ts : List ℤ) → HaveThresholds program ends list → IsEntryWithin program n box →
    found ≡ get_or list n found → found ≡ Some ts → AreThresholds (tree_of program) n ends ts
thresholds_found program n box ends list found ts have within at is =
    let inside : n < length list = let k = entry_inside program n box within in let m = have.count in omega arith in
    let one = have.each n found (slice_get-get_or list n found inside ∙ ap Some (sym at)) (is_an_entry program n box within) in
    let same : one.0 ≡ ts = some_same (sym one.1 ∙ is) in
    subst (AreThresholds (tree_of program) n ends) same one.2
  where
    some_same : {A : Type 0} {x y : A} → Some x ≡ Some y → x ≡ y
    some_same e = cc

-- a candidate whose piece meets the condition acts exactly where its entry is dead under what is kept
pub acts_is : (program : Resolution) (scope : Scope) (c : Candidate) (assumed kept : Assumed) (P : Type 0) → Meets (assumed c.name) c.piece → IsKept assumed c.name c.piece kept →
    P ↔ Dead program c.entry.0 c.within scope.ends kept → P ↔ Acts program scope assumed c
acts_is program scope c assumed kept P meets is dead = (
  (λ p. record { meets = meets; kept = kept; kept_is = is; dead = dead.0 p }),
  (λ acts. dead.1 (subst (Dead program c.entry.0 c.within scope.ends) (kept_once assumed acts.kept kept c.name c.piece acts.kept_is is) acts.dead)),
)
