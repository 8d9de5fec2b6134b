-- The procedures of a valid program and the names of their slots.
use Rattle.std.proofs.Common.{◌∙◌, ◌≡◌, inl, inr, ℕ, zero, suc, ◌+◌, ◌*◌, ◌<◌, ◌≤◌, min, Option, Some, None, List, [], ◌∷◌, ◌++◌, length, map, slice_get, refl, sym, ap, subst, arith, length-append}
use Rattle.std.proofs.lemmas.List.{length-map}
use Rattle.vmv_tree.specs.declared.defect.Defect.{Defect}
use Rattle.vmv_tree.specs.declared.defect.Defect.TheVariants.{Limit}
use Rattle.vmv_tree.specs.declared.name.Name.{Name}
use Rattle.vmv_tree.specs.declared.tree.Param.{Param}
use Rattle.vmv_tree.specs.Tree.{Body, Item, outside, helper, entry}
use Rattle.vmv_tree.specs.Limits.{block_indexes, variables}
use Rattle.vmv_tree.specs.Mentions.{item_mentions}
use Rattle.vmv_tree.specs.Valid.{Scope as Sight, InBlock, InBody, InProcedure, InItem, InItems, Valid}
use Rattle.vmv_snapshot.specs.Code.{Body as CodeBody}
use Rattle.vmv_snapshot.specs.Procs.{procs, params_of}
use Rattle.vmv_snapshot.specs.Resolves.{loop_names, slot_names, scope_of, ResolvesBody, ResolvesItem, IsCode}
use Rattle.vmv_snapshot.proofs.Build.{procs-append}
use Rattle.vmv_snapshot.proofs.Known.{Clean}
use Rattle.vmv_snapshot.proofs.Named.{named, named-append, named-some, named-loops}
use Rattle.vmv_snapshot.proofs.Distinct.{AreFresh, fresh_row, names_fresh, params_fresh, block_fresh, AreOnePlace, fresh_one_place}
use Rattle.vmv_snapshot.proofs.Ready.{behind}
use Rattle.vmv_step.specs.Enter.{declared_count}
use Rattle.vmv_step.specs.Agree.{AreSlots, AreSlotsOf}

-- the item of a procedure's code
pub record Stands (program : List Item) (item : Item) (code : CodeBody) : Type 0 where
  pub before : List Item
  pub after : List Item
  pub parts : program ≡ before ++ item ∷ after
  pub resolves : ResolvesItem before item code

proc_first : (before : List Item) (item : Item) (after : List Item) (code : CodeBody) → ResolvesItem before item code → procs (item ∷ after) ≡ item ∷ procs after
proc_first before (outside name arity) after code h = absurd h
proc_first before (helper name params body) after code h = refl
proc_first before (entry name params body) after code h = refl

some_same : {X : Type 0} {x y : X} (o : Option X) → o ≡ Some x → o ≡ Some y → x ≡ y
some_same o e e' = cc

pub stands : (program : List Item) (n : ℕ) (code : CodeBody) → IsCode program n code → (item : Item) → slice_get (procs program) n ≡ Some item → Stands program item code
stands program n code is item at =
    let there : List Item = procs is.before in
    let rest : List Item = procs (is.item ∷ is.after) in
    let split : procs program ≡ there ++ rest = ap procs is.parts ∙ procs-append is.before (is.item ∷ is.after) in
    let place = is.place in
    let one : slice_get (there ++ rest) n ≡ slice_get rest 0 = behind there rest 0 n (omega arith) in
    let first : rest ≡ is.item ∷ procs is.after = proc_first is.before is.item is.after code is.resolves in
    let here : slice_get (procs program) n ≡ Some is.item = ap (λ (xs : List Item). slice_get xs n) split ∙ (one ∙ ap (λ (xs : List Item). slice_get xs 0) first) in
    let same : is.item ≡ item = some_same (slice_get (procs program) n) here at in
    let P : Item → Type 0 = λ x. Stands program x code in
    subst P same (record { before = is.before; after = is.after; parts = is.parts; resolves = is.resolves })

-- an item of a valid program has no defect
pub record CleanAt (program : List Item) (item : Item) : Type 0 where
  pub above : List Item
  pub number : ℕ
  pub clean : Clean (InItem program above number item)

clean_from : (program above : List Item) (k : ℕ) (before : List Item) (item : Item) (after : List Item) → Clean (InItems program above k (before ++ item ∷ after)) → CleanAt program item
clean_from program above k [] item after clean = record { above = above; number = k; clean = λ m d h. clean m d (inl h) }
clean_from program above k (x ∷ before) item after clean = clean_from program (x ∷ above) (k + item_mentions x) before item after (λ m d h. clean m d (inr h))

pub clean_item : (program before : List Item) (item : Item) (after : List Item) → Valid program → program ≡ before ++ item ∷ after → CleanAt program item
clean_item program before item after valid parts =
    let P : List Item → Type 0 = λ items. Clean (InItems program [] 0 items) in
    clean_from program [] 0 before item after (subst P parts valid)

not_more : (n m : ℕ) → (m < n → ⊥) → n ≤ m
not_more n m h = omega arith

few_variables : (k : ℕ) (params : List Name) (body : Body) → Clean (InProcedure k params body) → variables params body ≤ 16
few_variables k params body clean = not_more (variables params body) 16 (λ h. clean k (Limit 5 (min (variables params body) 1000000000) 16) (inl (refl, refl, h)))

length-loops : (indexes : List Name) → length (loop_names indexes) ≡ 2 * length indexes
length-loops [] = refl
length-loops (i ∷ indexes) = let e = length-loops indexes in omega arith

pub length-slots : (params : List Name) (body : Body) → length (slot_names params body) ≡ 1 + variables params body
length-slots params body =
    let a = length-append (None ∷ map (λ x. Some x) (params ++ body.vars)) (loop_names (block_indexes body.block)) in
    let b : length (map (λ (x : Name). Some x) (params ++ body.vars)) ≡ length (params ++ body.vars) = length-map (params ++ body.vars) (λ (x : Name). Some x) in
    let c = length-append params body.vars in
    let d = length-loops (block_indexes body.block) in
    omega arith

named-slots : (params : List Name) (body : Body) → named (slot_names params body) ≡ (params ++ body.vars) ++ block_indexes body.block
named-slots params body =
    named-append (map (λ x. Some x) (params ++ body.vars)) (loop_names (block_indexes body.block))
    ∙ (λ i. named-some (params ++ body.vars) i ++ named-loops (block_indexes body.block) i)

one_place : (above : List Item) (k : ℕ) (params : List Name) (body : Body) → AreFresh [] params → Clean (InBody above k params body) → AreOnePlace (slot_names params body)
one_place above k params body fresh clean =
    let seen : List Name = params ++ body.vars in
    let sight : Sight = record { above = above; visible = seen; indexes = []; declared = seen } in
    let inside : ℕ = k + length body.vars in
    let block_clean = λ (m : ℕ) (d : Defect) (h : InBlock sight inside body.block m d). clean m d (inr (inl h)) in
    let vars_fresh : AreFresh params body.vars = names_fresh k params body.vars (λ m d h. clean m d (inl h)) in
    let names_once : AreFresh [] seen = fresh_row [] params body.vars fresh vars_fresh in
    let all_fresh : AreFresh [] (seen ++ block_indexes body.block) = fresh_row [] seen (block_indexes body.block) names_once (block_fresh sight inside body.block block_clean) in
    fresh_one_place [] (slot_names params body) (rw (named-slots params body) all_fresh)

slots_by : (before : List Item) (params : List Name) (body : Body) (code : CodeBody) → ResolvesBody (scope_of before params body) body code → variables params body ≤ 16 → AreOnePlace (slot_names params body) → AreSlots code.vars (slot_names params body)
slots_by before params body code resolves few once =
    let count = resolves.slots in
    let long = length-slots params body in
    record { count = sym count; few = omega arith; origin = refl; once = once }

slots_at : (program before : List Item) (item : Item) (code : CodeBody) → ResolvesItem before item code → CleanAt program item → AreSlotsOf item code.vars
slots_at program before (outside name arity) code resolves at = absurd resolves
slots_at program before (helper name params body) code resolves at =
    let k = at.number in
    let clean = at.clean in
    let fresh : AreFresh [] params = names_fresh (k + 1) [] params (λ m d h. clean m d (inr (inr (inr (inr (inl h)))))) in
    slots_by before params body code resolves (few_variables k params body (λ m d h. clean m d (inr (inr (inl h)))))
    (one_place at.above (k + 1 + length params) params body fresh (λ m d h. clean m d (inr (inr (inr (inr (inr h)))))))
slots_at program before (entry name params body) code resolves at =
    let k = at.number in
    let clean = at.clean in
    let names : List Name = map (λ (p : Param). p.name) params in
    let fresh : AreFresh [] names = params_fresh (k + 1) [] params (λ m d h. clean m d (inr (inr (inr (inr (inl h)))))) in
    slots_by before names body code resolves (few_variables k names body (λ m d h. clean m d (inr (inr (inl h)))))
    (one_place at.above (k + 1 + length params) names body fresh (λ m d h. clean m d (inr (inr (inr (inr (inr h)))))))

pub slots_of : (program : List Item) (n : ℕ) (code : CodeBody) (item : Item) → Valid program → IsCode program n code → slice_get (procs program) n ≡ Some item → AreSlotsOf item code.vars
slots_of program n code item valid is at =
    let s = stands program n code is item at in
    slots_at program s.before item code s.resolves (clean_item program s.before item s.after valid s.parts)

-- there is room for the parameters and the declared names
pub record HasRoom (item : Item) (vars : ℕ) : Type 0 where
  pub few : vars ≤ 16
  pub room : length (params_of item) + declared_count item ≤ vars

room_by : (item : Item) (vars : ℕ) → AreSlotsOf item vars → HasRoom item vars
room_by (outside name arity) vars are = absurd are
room_by (helper name params body) vars are =
    let long = length-slots params body in
    let count = are.count in
    let few = are.few in
    let same : length (params_of (helper name params body)) ≡ length params = length-map params _ in
    record { few = few; room = omega arith }
room_by (entry name params body) vars are =
    let names : List Name = map (λ (p : Param). p.name) params in
    let long = length-slots names body in
    let count = are.count in
    let few = are.few in
    let same : length names ≡ length params = length-map params (λ (p : Param). p.name) in
    record { few = few; room = omega arith }

pub has_room : (program : List Item) (n : ℕ) (code : CodeBody) (item : Item) → Valid program → IsCode program n code → slice_get (procs program) n ≡ Some item → HasRoom item code.vars
has_room program n code item valid is at = room_by item code.vars (slots_of program n code item valid is at)

pub item_at : {X : Type 0} (xs : List X) (n : ℕ) → n < length xs → (x : X) × (slice_get xs n ≡ Some x)
item_at [] n h = absurd (omega arith)
item_at (x ∷ xs) zero h = (x, refl)
item_at (x ∷ xs) (suc n) h = item_at xs n (omega (arith, h))
