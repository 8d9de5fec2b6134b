-- Accepted tables tell how runs end: by the items above, the nearest first.
use Rattle.std.proofs.Common.{◌∙◌, ◌≡◌, inl, inr, ⊎_elim, ℕ, ◌+◌, ℤ, Some, List, [], ◌∷◌, ◌++◌, length, map, reverse, slice_get, refl, sym, ap, subst, arith, append_assoc, append-nil}
use Rattle.std.specs.Str.{bytes_eq}
use Rattle.std.specs.List.{Contains}
use Rattle.std.proofs.lemmas.List.{length-map, reverse-append, reverse-reverse}
use Rattle.std.proofs.lemmas.Slice.Eq.{bytes_eq-Decides}
use Rattle.vmv_tree.specs.declared.name.Name.{Name}
use Rattle.vmv_tree.specs.declared.defect.Defect.{Defect}
use Rattle.vmv_tree.specs.declared.defect.Defect.TheVariants.{Repeated}
use Rattle.vmv_tree.specs.declared.tree.Param.{Param}
use Rattle.vmv_tree.specs.Tree.{Item, outside, helper, entry, Body}
use Rattle.vmv_tree.specs.Run.{Answers, End, next, End.fail, Outcome, done, Outcome.fail, Run, RunsBody, RunsItem, RunsAbove, name_of, start, outcome_of, value}
use Rattle.vmv_tree.specs.Valid.{InBlock, InItem, Valid}
use Rattle.vmv_cond.specs.declared.cond.Cond.{Cond}
use Rattle.vmv_cond.specs.Cond.{Holds}
use Rattle.vmv_snapshot.specs.declared.code.Code.{Code}
use Rattle.vmv_snapshot.specs.View.{code_of}
use Rattle.vmv_snapshot.specs.Procs.{procs, outsides, helper_name, any_word}
use Rattle.vmv_snapshot.specs.Resolution.{Resolution, IsResolution, tree_of, procs_of}
use Rattle.vmv_snapshot.specs.Resolves.{Scope, scope_of, ResolvesBody, ResolvesItem, IsCode}
use Rattle.vmv_snapshot.proofs.Known.{Clean}
use Rattle.vmv_snapshot.proofs.Build.{procs-append}
use Rattle.vmv_snapshot.proofs.Links.{map_at}
use Rattle.vmv_zone.specs.declared.zone.Zone.{Zone}
use Rattle.vmv_zone.specs.Zone.{vars_of, HasPoint}
use Rattle.vmv_zone.specs.Read.{IsRangeOf}
use Rattle.vmv_zone.proofs.MoreLaws.{range_point}
use Rattle.vmv_assumption.specs.Assumed.{Assumed}
use Rattle.vmv_assumption.specs.Within.{Meet}
use Rattle.vmv_step.specs.Zones.{zone_operand}
use Rattle.vmv_step.specs.Enter.{IsEntered}
use Rattle.vmv_step.specs.Agree.{AreSlots, AreSlotsOf, AreAsked, HasStart, words_at}
use Rattle.vmv_step.proofs.Asking.{outside_calls}
use Rattle.vmv_step.proofs.EnterPoints.{enter_point, enter_normal}
use Rattle.vmv_step.proofs.Places.{operand_inside, operand_value}
use Rattle.vmv_step.proofs.Procedures.{stands, slots_of}
use Rattle.vmv_cert.specs.declared.row.Row.{Row}
use Rattle.vmv_cert.specs.declared.row.Reach.{Reach}
use Rattle.vmv_cert.specs.declared.row.Reach.TheVariants.{Bottom, Value}
use Rattle.vmv_cert.specs.Sizes.{block_statements}
use Rattle.vmv_cert.specs.Walk.{Walk, goes, fails, Returns, WalksAll}
use Rattle.vmv_cert.specs.Tables.{IsFormed, IsAbove, WalksBody, Passes, Accepted}
use Rattle.vmv_check.proofs.Lists.{some_same}
use Rattle.vmv_check.proofs.Above.{onto, split}
use Rattle.vmv_check.proofs.Codes.{Ready, code_ready}
use Rattle.vmv_check.proofs.Orders.{name_at}
use Rattle.vmv_table_sound.specs.Told.{IsTold}
use Rattle.vmv_table_sound.proofs.Lists.{further, first_or_further, before_more, by_test}
use Rattle.vmv_table_sound.proofs.Leads.{IsShown, went, goes_or_fails}
use Rattle.vmv_table_sound.proofs.Steady.{AreSteady, block_steady}
use Rattle.vmv_table_sound.proofs.Calls.{IsToldWord, AreTold, Setting, operand_has_word}
use Rattle.vmv_table_sound.proofs.Walks.{block_leads}

-- the returned word is one of the result's
returns_above : (result : Reach) (c : Cond) (word : ℤ) → IsAbove result c → Holds c word → Returns result word
returns_above Bottom c word above held = above word held
returns_above (Value d) c word above held = above word held

-- the walk of a body
record IsWalked (w : Walk) (params : List Name) (body : Body) (code : Code) : Type 0 where
  start : Zone
  end : Zone
  range : Cond
  input : w.row.input.vars ≡ length params
  entered : IsEntered w.row.input (length params) (length body.vars) code.vars start
  walks : WalksAll w 1 0 (code_of code).block start (goes end)
  range_is : IsRangeOf end (zone_operand code.result) range
  above : IsAbove w.row.result range

-- how the end of the statements is the end of the run
end_told : (w : Walk) (above : List Item) (scope : Scope) (body : Body) (code : Code) (e : Zone) (c : Cond) (p : ℕ → ℤ) (end : End) → AreSlots code.vars scope.slots → ResolvesBody scope body (code_of code) → e.vars ≡ code.vars →
    IsRangeOf e (zone_operand code.result) c → IsAbove w.row.result c → IsShown w.row e scope.slots p end → IsToldWord w.row (outcome_of body.output end)
end_told w above scope body code e c p (next v) are res vars range over f =
    let slots : AreSlots e.vars scope.slots = subst (λ n. AreSlots n scope.slots) (sym vars) are in
    let inside = operand_inside e.vars scope body.output code.result slots res.returned in
    let held : Holds c _ = range_point e (zone_operand code.result) c f.after inside range f.point in
    let is = operand_value scope body.output code.result v f.after res.returned f.agrees in
    (returns_above w.row.result c (value v body.output) over (subst (Holds c) is held), operand_has_word scope body.output code.result v f.agrees.words res.returned)
end_told w above scope body code e c p (fail site) are res vars range over f = f

body_told : (w : Walk) (above before : List Item) (params : List Name) (body : Body) (code : Code) (words : List ℤ) (answers : Answers) (outcome : Outcome) → Setting w above (scope_of before params body) code.vars →
    ResolvesBody (scope_of before params body) body (code_of code) → Ready w.program (code_of code) → AreSteady body.block → IsWalked w params body code → length words ≡ vars_of w.row.input →
    HasPoint w.row.input (words_at words) → Meet answers w.assumed → RunsBody (RunsAbove above) w.row.proc params body words answers outcome → IsToldWord w.row outcome
body_told w above before params body code words answers outcome it res ready steady k long point meet (end, run, is) =
    let scope : Scope = scope_of before params body in
    let vars : k.start.vars ≡ code.vars = (enter_normal (length params) (length body.vars) code.vars w.row.input k.start k.entered).1 in
    let led = block_leads w above scope code.vars it 1 0 0 body.block (code_of code).block k.start k.end vars res.statements ready.block steady k.walks in
    let begun : HasStart k.start scope.slots (start params words) = enter_point params body words code.vars w.row.input k.start it.slots k.entered k.input (long ∙ k.input) point in
    let shown = led.0 (start params words) begun.at answers end begun.point begun.agrees meet run in
    subst (IsToldWord w.row) (sym is) (end_told w above scope body code k.end k.range begun.at end it.slots res led.1 k.range_is k.above shown)

-- no item above has the name of this one
alone : (program above : List Item) (k : ℕ) (item : Item) → Clean (InItem program above k item) → Contains (map name_of above) (name_of item) → ⊥
alone program above k (outside f arity) clean h = clean k Repeated (inl (refl, refl, h))
alone program above k (helper f params body) clean h = clean k Repeated (inl (refl, refl, h))
alone program above k (entry f params body) clean h = clean k Repeated (inl (refl, refl, h))

-- the names of items that are put onto others
onto_kept : (items above : List Item) (x : Name) → Contains (map name_of above) x → Contains (map name_of (onto items above)) x
onto_kept [] above x h = h
onto_kept (item ∷ items) above x h = onto_kept items (item ∷ above) x (further (name_of item) (map name_of above) x h)

onto_has : (items above : List Item) (x : Name) → Contains (map name_of items) x → Contains (map name_of (onto items above)) x
onto_has [] above x (k, h, e) = absurd (omega (arith, h))
onto_has (item ∷ items) above x h = ⊎_elim
    (λ (e : name_of item ≡ x). onto_kept items (item ∷ above) x (0, omega arith, e))
    (λ (g : Contains (map name_of items) x). onto_has items (item ∷ above) x g)
    (first_or_further (name_of item) (map name_of items) x h)

-- in a valid program no item before one has its name
pub named_once : (program before : List Item) (item : Item) (after : List Item) → Valid program → program ≡ before ++ item ∷ after → Contains (map name_of before) (name_of item) → ⊥
named_once program before item after valid parts h = let s = split program before item after valid parts in alone program (onto before []) s.place item s.clean (onto_has before [] (name_of item) h)

-- an item with a name that none before it has stands in one place
one_place : (xs ys xs' ys' : List Item) (x y : Item) → xs ++ x ∷ xs' ≡ ys ++ y ∷ ys' → name_of x ≡ name_of y → (Contains (map name_of xs) (name_of x) → ⊥) → (Contains (map name_of ys) (name_of y) → ⊥) →
    (xs ≡ ys) × (x ≡ y)
one_place [] [] xs' ys' x y e same f g = (refl, cc)
one_place [] (b ∷ ys) xs' ys' x y e same f g = let is : b ≡ x = cc in absurd (g (0, omega arith, ap name_of is ∙ same))
one_place (a ∷ xs) [] xs' ys' x y e same f g = let is : a ≡ y = cc in absurd (f (0, omega arith, ap name_of is ∙ sym same))
one_place (a ∷ xs) (b ∷ ys) xs' ys' x y e same f g =
    let tail : xs ++ x ∷ xs' ≡ ys ++ y ∷ ys' = cc in
    let head : a ≡ b = cc in
    let h = one_place xs ys xs' ys' x y tail same (λ c. f (further (name_of a) (map name_of xs) (name_of x) c)) (λ c. g (further (name_of b) (map name_of ys) (name_of y) c)) in
    ((λ i. head i ∷ h.0 i), h.1)

-- a list turned round, in front of another
pub turned : (item : Item) (above after : List Item) → reverse (item ∷ above) ++ after ≡ reverse above ++ (item ∷ after)
turned item above after =
    let joined : reverse (item ∷ above) ≡ reverse above ++ item ∷ [] = reverse-append (item ∷ []) above in
    ap (λ (x : List Item). x ++ after) joined ∙ append_assoc (reverse above) (item ∷ []) after

-- the loops of an item's statements don't give their indexes words
body_steady : (above : List Item) (k : ℕ) (names : List Name) (body : Body) → ((m : ℕ) (d : Defect) → InBlock (record { above = above; visible = names; indexes = []; declared = names }) k body.block m d → ⊥) → AreSteady body.block
body_steady above k names body clean = block_steady (record { above = above; visible = names; indexes = []; declared = names }) k body.block clean

abbrev Runs : Item → List Item → List ℤ → Answers → Outcome → Type 0
Runs item above words answers outcome = RunsItem (RunsAbove above) item words answers outcome

-- a row's procedure, whose item this is
item_told : (w : Walk) (above : List Item) (item : Item) (after : List Item) (n : ℕ) (code : Code) (words : List ℤ) (answers : Answers) (outcome : Outcome) → IsResolution w.program →
    tree_of w.program ≡ reverse above ++ item ∷ after → IsFormed w.program w.row n item code → ResolvesItem (reverse above) item (code_of code) → AreSlotsOf item code.vars → Ready w.program (code_of code) →
    AreAsked above (outsides (reverse above)) → ((params : List Name) (body : Body) → AreTold w above (scope_of (reverse above) params body)) → (z : Zone) → WalksBody w item code (goes z) →
    length words ≡ vars_of w.row.input → HasPoint w.row.input (words_at words) → Meet answers w.assumed → Runs item above words answers outcome → IsToldWord w.row outcome
item_told w above (outside f arity) after n code words answers outcome is parts f' res slots ready asked told z walks long point meet run = absurd res
item_told w above (helper f params body) after n code words answers outcome is parts f' res slots ready asked told z (start, goes e, entered, walks, (c, range, g)) long point meet run =
    let at = split (tree_of w.program) (reverse above) (helper f params body) after is.valid parts in
    let clean = at.clean in
    let count : length (map any_word params) ≡ length params = length-map params any_word in
    let t = went (IsAbove w.row.result c) (block_statements (code_of code).block + 1) e z g in
    let P : Name → Type 0 = λ x. RunsBody (RunsAbove above) x params body words answers outcome in
    let Q : ℕ → Type 0 = λ m. IsEntered w.row.input m (length body.vars) code.vars start in
    body_told w above (reverse above) params body code words answers outcome
    (record { slots = slots; asked = asked; told = told params body; over = f'.over }) res ready
    (body_steady (onto (reverse above) []) (at.place + 1 + length params + length body.vars) (params ++ body.vars) body (λ m d h. clean m d (inr (inr (inr (inr (inr (inr (inl h)))))))))
    (record { start = start; end = e; range = c; input = f'.input ∙ count; entered = subst Q count entered; walks = walks; range_is = range; above = t.0 })
    long point meet (subst P f'.named run)
item_told w above (entry f params body) after n code words answers outcome is parts f' res slots ready asked told z (start, goes e, entered, walks, (c, range, g)) long point meet run =
    let at = split (tree_of w.program) (reverse above) (entry f params body) after is.valid parts in
    let clean = at.clean in
    let own : List Name = map (λ (p : Param). p.name) params in
    let count : length own ≡ length params = length-map params (λ (p : Param). p.name) in
    let t = went (IsAbove w.row.result c) (block_statements (code_of code).block + 1) e z g in
    let P : Name → Type 0 = λ x. RunsBody (RunsAbove above) x own body words answers outcome in
    let Q : ℕ → Type 0 = λ m. IsEntered w.row.input m (length body.vars) code.vars start in
    body_told w above (reverse above) own body code words answers outcome
    (record { slots = slots; asked = asked; told = told own body; over = f'.over }) res ready
    (body_steady (onto (reverse above) []) (at.place + 1 + length params + length body.vars) (own ++ body.vars) body (λ m d h. clean m d (inr (inr (inr (inr (inr (inr (inl h)))))))))
    (record { start = start; end = e; range = c; input = f'.input ∙ sym count; entered = subst Q (sym count) entered; walks = walks; range_is = range; above = t.0 })
    long point meet (subst P f'.named run)
item_told w above item after n code words answers outcome is parts f' res slots ready asked told z (start, fails m, entered, walks, bad) long point meet run = absurd (goes_or_fails z m bad)

helper_called : (item : Item) (callee : Name) → helper_name item ≡ Some callee → name_of item ≡ callee
helper_called (outside f arity) callee e = absurd (cc)
helper_called (helper f params body) callee e = some_same e
helper_called (entry f params body) callee e = absurd (cc)

-- the name of the helper of a number
called_name : (program : Resolution) (front back : List Item) (n : ℕ) (callee proc : Name) → tree_of program ≡ front ++ back → slice_get (map helper_name (procs front)) n ≡ Some (Some callee) →
    slice_get (map name_of (procs_of program)) n ≡ Some proc → callee ≡ proc
called_name program front back n callee proc parts helps at =
    let found = map_at helper_name (procs front) n (Some callee) helps in
    let here : slice_get (procs_of program) n ≡ Some found.0 = ap (λ (xs : List Item). slice_get xs n) (ap procs parts ∙ procs-append front back) ∙ before_more (procs front) (procs back) n found.0 found.1 in
    some_same (sym (name_at program n found.0 callee here (helper_called found.0 callee found.2)) ∙ at)

abbrev walk_at : Resolution → Assumed → List Row → Row → Walk
walk_at program assumed rows row = record { program = program; assumed = assumed; rows = rows; row = row }

-- the rows of the table tell the runs over the items above
abbrev Tell : Resolution → Assumed → List Row → List Item → Type 0
Tell program assumed rows above =
    (row : Row) (words : List ℤ) (answers : Answers) (outcome : Outcome) → Contains rows row → length words ≡ vars_of row.input → HasPoint row.input (words_at words) → Meet answers assumed
    → RunsAbove above row.proc words answers outcome → IsToldWord row outcome

-- what stands above tells the calls of helpers
calls_told : (program : Resolution) (assumed : Assumed) (rows : List Row) (row : Row) (above back : List Item) → tree_of program ≡ reverse above ++ back → Tell program assumed rows above →
    (params : List Name) (body : Body) → AreTold (walk_at program assumed rows row) above (scope_of (reverse above) params body)
calls_told program assumed rows row above back parts tell params body n callee other words answers outcome helps one at long point meet run =
    let same : callee ≡ other.proc = called_name program (reverse above) back n callee other.proc parts helps at in
    let P : Name → Type 0 = λ x. RunsAbove above x words answers outcome in
    tell other words answers outcome one long point meet (subst P same run)

-- the nearest item above is the row's procedure
nearest_told : (program : Resolution) (assumed : Assumed) (rows : List Row) (row : Row) (item : Item) (above after : List Item) (words : List ℤ) (answers : Answers) (outcome : Outcome) → IsResolution program →
    tree_of program ≡ reverse above ++ item ∷ after → Tell program assumed rows above → Passes program assumed rows row → name_of item ≡ row.proc → length words ≡ vars_of row.input →
    HasPoint row.input (words_at words) → Meet answers assumed → Runs item above words answers outcome → IsToldWord row outcome
nearest_told program assumed rows row item above after words answers outcome is parts tell (z, inl (none, bad)) same long point meet run = absurd (goes_or_fails z 0 bad)
nearest_told program assumed rows row item above after words answers outcome is parts tell (z, inr (n, other, code, formed, walks)) same long point meet run =
    let tree : List Item = tree_of program in
    let coded : IsCode tree n (code_of code) = is.resolves n code formed.code_is in
    let s = stands tree n (code_of code) coded other formed.place in
    let here = one_place s.before (reverse above) s.after after other item (sym s.parts ∙ parts) (formed.named ∙ sym same) (named_once tree s.before other s.after is.valid s.parts)
    (named_once tree (reverse above) item after is.valid parts) in
    let w : Walk = walk_at program assumed rows row in
    let parts' : tree ≡ reverse above ++ other ∷ after = parts ∙ ap (λ (x : Item). reverse above ++ x ∷ after) (sym here.1) in
    let P : List Item → Type 0 = λ xs. ResolvesItem xs other (code_of code) in
    let Q : Item → Type 0 = λ x. Runs x above words answers outcome in
    let valid' : Valid (reverse above ++ other ∷ after) = subst Valid parts' is.valid in
    let R : List Item → Type 0 = λ xs. AreAsked xs (outsides (reverse above)) in
    let asked : AreAsked above (outsides (reverse above)) = subst R (reverse-reverse above) (outside_calls (reverse above) other after valid') in
    item_told w above other after n code words answers outcome is parts' formed (subst P here.0 s.resolves) (slots_of tree n (code_of code) other is.valid coded formed.place)
    (code_ready program n code other is coded formed.place) asked (calls_told program assumed rows row above (other ∷ after) parts' tell) z walks long point meet (subst Q (sym here.1) run)

tell_above : (program : Resolution) (assumed : Assumed) (rows : List Row) (above after : List Item) → IsResolution program → Accepted program assumed rows → tree_of program ≡ reverse above ++ after → Tell program assumed rows above
tell_above program assumed rows [] after is accepted parts row words answers outcome one long point meet run = absurd run
tell_above program assumed rows (item ∷ above) after is accepted parts row words answers outcome one long point meet run =
    let parts' : tree_of program ≡ reverse above ++ item ∷ after = parts ∙ turned item above after in
    let below : Tell program assumed rows above = tell_above program assumed rows above (item ∷ after) is accepted parts' in
    by_test (bytes_eq (name_of item) row.proc) (Runs item above words answers outcome) (RunsAbove above row.proc words answers outcome) (IsToldWord row outcome)
    (λ t r. nearest_told program assumed rows row item above after words answers outcome is parts' below (accepted row one) ((bytes_eq-Decides (name_of item) row.proc).0 t) long point meet r)
    (λ f r. below row words answers outcome one long point meet r)
    run

told_of : (row : Row) (outcome : Outcome) → IsToldWord row outcome → IsTold row outcome
told_of row (done word) t = t.0
told_of row (fail site) t = t

pub sound : (program : Resolution) (assumed : Assumed) (rows : List Row) (row : Row) (words : List ℤ) (answers : Answers) (outcome : Outcome) → IsResolution program → Accepted program assumed rows → Contains rows row →
    length words ≡ row.input.vars → HasPoint row.input (words_at words) → Meet answers assumed → Run (tree_of program) row.proc words answers outcome → IsTold row outcome
sound program assumed rows row words answers outcome is accepted one long point meet run =
    let tree : List Item = tree_of program in
    let parts : tree ≡ reverse (reverse tree) ++ [] = sym (append-nil (reverse (reverse tree)) ∙ reverse-reverse tree) in
    told_of row outcome (tell_above program assumed rows (reverse tree) [] is accepted parts row words answers outcome one long point meet run)
