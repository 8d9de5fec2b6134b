-- The walk over a program that has a procedure whose blocks stand too deep in one another.
use Rattle.std.proofs.Common.{OnOk, ◌≡◌, ℕ, ◌+◌, ◌<◌, min, nat_lt, Bool, true, false, Ok, Err, List, [], ◌∷◌, ◌++◌, length, map, reverse, refl, sym, ap, ◌∙◌, subst, arith, append-nil, append_assoc, if◌then◌else◌}
use Rattle.std.proofs.lemmas.Bool.Decides.{Decides-ltb}
use Rattle.std.proofs.lemmas.List.{reverse-append, length-map}
use Rattle.vmv_tree.specs.declared.deep.ItemCounts.{ItemCounts}
use Rattle.vmv_tree.specs.declared.deep.DeepProcedure.{DeepProcedure}
use Rattle.vmv_tree.specs.declared.deep.DeepProgram.{DeepProgram}
use Rattle.vmv_tree.specs.declared.defect.Defect.TheVariants.{Limit, Repeated}
use Rattle.vmv_tree.specs.declared.name.Name.{Name}
use Rattle.vmv_tree.specs.Deep.{IsSized, IsDeep, IsDeepProgram}
use Rattle.vmv_tree.specs.declared.tree.Item.{Item as CodeItem}
use Rattle.vmv_tree.specs.Tree.{Body, Item, outside, helper, entry}
use Rattle.vmv_tree.specs.View.{items_of}
use Rattle.vmv_tree.specs.Limits.{helper_count, entry_count, entry_numbers, distinct}
use Rattle.vmv_tree.specs.Run.{name_of}
use Rattle.vmv_valid.specs.Names.{is_among}
use Rattle.vmv_valid.specs.declared.stop.Stop.{Stop}
use Rattle.vmv_valid.specs.declared.stop.Stop.TheVariants.{Found, Memory}
use Rattle.vmv_valid.specs.Callees.{capped_sum, capped_product}
use Rattle.vmv_valid.specs.Measures.{measured_all, callees_of}
use Rattle.vmv_valid.specs.Walks.{Walked, Answers, and_on, defect_at, walk_kind, walk_within, walk_limits, walk_names, walk_params, walk_body, walk_entry_limits, walk_item, walk_items, walk_deep}
use Rattle.vmv_valid.proofs.PlacedItems.{body_capped}

-- the limits of a procedure that is too deep

limits_deep : (k variables statements nesting : ℕ) (g : ℕ → Walked) → 8 < nesting
    → and_on (and_on (walk_within k 5 variables 16) (λ k. and_on (walk_within k 6 statements 2000) (λ k. walk_within k 7 nesting 8))) g
    ≡ and_on (walk_within k 5 variables 16) (λ k. and_on (walk_within k 6 statements 2000) (λ k. defect_at k (Limit 7 nesting 8)))
limits_deep k variables statements nesting g deep =
    let tells = Decides-ltb 8 nesting in
    by (nat_lt 16 variables) (nat_lt 2000 statements) (nat_lt 8 nesting) (tells.1 deep)
  where
    by : (a b c : Bool) → c ≡ true
        → and_on (and_on (if a then defect_at k (Limit 5 variables 16) else Ok k) (λ k. and_on (if b then defect_at k (Limit 6 statements 2000) else Ok k) (λ k. if c then defect_at k (Limit 7 nesting 8) else Ok k))) g
        ≡ and_on (if a then defect_at k (Limit 5 variables 16) else Ok k) (λ k. and_on (if b then defect_at k (Limit 6 statements 2000) else Ok k) (λ k. defect_at k (Limit 7 nesting 8)))
    by true b c e = refl
    by false true c e = refl
    by false false true e = refl
    by false false false e = absurd (cc e)

-- a walk with the same limits, behind its kind
kind_deep : (w : Walked) (f g : ℕ → Walked) → ((k : ℕ) → f k ≡ g k) → and_on w f ≡ and_on w g
kind_deep (Ok k) f g h = h k
kind_deep (Err stop) f g h = refl

else_deep : (test : Bool) (a v w : Walked) → v ≡ w → (if test then a else v) ≡ (if test then a else w)
else_deep true a v w e = refl
else_deep false a v w e = e

procedure_deep : (above : List Item) (deep : DeepProcedure) (is_entry : Bool) (name : Name) (params : List Name) (count : ℕ) (body : Body) (g : ℕ → Walked) → count ≡ length params → IsSized deep is_entry name params body → (k : ℕ)
    → and_on (walk_limits k (capped_sum count (length body.vars)) (measured_all (callees_of above) body.block)) g
    ≡ and_on (walk_within k 5 deep.variables 16) (λ k. and_on (walk_within k 6 deep.statements 2000) (λ k. defect_at k (Limit 7 deep.nesting 8)))
procedure_deep above deep is_entry name params count body g same h k =
    let m = measured_all (callees_of above) body.block in
    let right = body_capped above body in
    let names : capped_sum (capped_sum count (length body.vars)) (capped_product 2 m.loops) ≡ deep.variables = omega (arith, right.c_loops, h.variables_are) in
    let stmts : m.statements ≡ deep.statements = right.c_statements ∙ sym h.statements_are in
    let nested : m.nesting ≡ deep.nesting = right.c_nesting ∙ sym h.nesting_is in
    let told : 8 < deep.nesting = omega (arith, h.nesting_is, h.too_deep) in
    subst (λ (v : ℕ). and_on (and_on (walk_within k 5 v 16) (λ k. and_on (walk_within k 6 m.statements 2000) (λ k. walk_within k 7 m.nesting 8))) g ≡ and_on (walk_within k 5 deep.variables 16) (λ k. and_on (walk_within k 6 deep.statements 2000) (λ k. defect_at k (Limit 7 deep.nesting 8)))) (sym names)
    (subst (λ (s : ℕ). and_on (and_on (walk_within k 5 deep.variables 16) (λ k. and_on (walk_within k 6 s 2000) (λ k. walk_within k 7 m.nesting 8))) g ≡ and_on (walk_within k 5 deep.variables 16) (λ k. and_on (walk_within k 6 deep.statements 2000) (λ k. defect_at k (Limit 7 deep.nesting 8)))) (sym stmts)
    (subst (λ (n : ℕ). and_on (and_on (walk_within k 5 deep.variables 16) (λ k. and_on (walk_within k 6 deep.statements 2000) (λ k. walk_within k 7 n 8))) g ≡ and_on (walk_within k 5 deep.variables 16) (λ k. and_on (walk_within k 6 deep.statements 2000) (λ k. defect_at k (Limit 7 deep.nesting 8)))) (sym nested)
    (limits_deep k deep.variables deep.statements deep.nesting g told)))

-- the walk over such a procedure
pub deep_item : (counts : ItemCounts) (above : List Item) (k : ℕ) (deep : DeepProcedure) (item : Item) → IsDeep deep item → walk_item counts above k item ≡ walk_deep counts above k deep
deep_item counts above k deep (outside name arity) h = absurd h
deep_item counts above k deep (helper name params body) h =
    subst (λ (x : Name). walk_item counts above k (helper x params body) ≡ walk_deep counts above k deep) h.name_is
    (subst (λ (b : Bool). walk_item counts above k (helper deep.name params body) ≡ walk_deep counts above k (record deep { is_entry = b })) (sym h.kind)
    (else_deep (is_among (map name_of above) deep.name) (defect_at k Repeated) _ _
    (kind_deep (walk_kind k 2 counts.helpers (helper_count above)) _ _ (λ k. procedure_deep above deep false name params (length params) body
    (λ k. and_on (walk_within k 8 (capped_sum 1 (measured_all (callees_of above) body.block).deepest) 16)
    (λ k. and_on (walk_names (k + 1) [] params) (λ k. walk_body (callees_of above) k params body))) refl h k))))
deep_item counts above k deep (entry name params body) h =
    subst (λ (x : Name). walk_item counts above k (entry x params body) ≡ walk_deep counts above k deep) h.name_is
    (subst (λ (b : Bool). walk_item counts above k (entry deep.name params body) ≡ walk_deep counts above k (record deep { is_entry = b })) (sym h.kind)
    (else_deep (is_among (map name_of above) deep.name) (defect_at k Repeated) _ _
    (kind_deep (walk_kind k 3 counts.entries (entry_count above)) _ _ (λ k. procedure_deep above deep true name (map (λ p. p.name) params) (length params) body
    (λ k. and_on (walk_entry_limits k (min (distinct (entry_numbers above params body)) 1000000000) (measured_all (callees_of above) body.block))
    (λ k. and_on (walk_params (k + 1) [] params) (λ k. walk_body (callees_of above) k (map (λ p. p.name) params) body)))
    (sym (length-map params (λ p. p.name))) h k))))

-- the walk over two runs of items

pub items_on : (counts : ItemCounts) (above : List Item) (k : ℕ) (items below : List Item)
    → walk_items counts above k (items ++ below) ≡ and_on (walk_items counts above k items) (λ k. walk_items counts (reverse items ++ above) k below)
items_on counts above k [] below = refl
items_on counts above k (item ∷ items) below =
    let turned : reverse items ++ (item ∷ above) ≡ reverse (item ∷ items) ++ above =
    sym (ap (λ (x : List Item). x ++ above) (reverse-append (item ∷ []) items) ∙ append_assoc (reverse items) (item ∷ []) above) in
    by (walk_item counts above k item) (λ k. items_on counts (item ∷ above) k items below) turned
  where
    by : (w : Walked) → ((k : ℕ) → walk_items counts (item ∷ above) k (items ++ below) ≡ and_on (walk_items counts (item ∷ above) k items) (λ k. walk_items counts (reverse items ++ (item ∷ above)) k below))
        → reverse items ++ (item ∷ above) ≡ reverse (item ∷ items) ++ above
        → and_on w (λ k. walk_items counts (item ∷ above) k (items ++ below)) ≡ and_on (and_on w (λ k. walk_items counts (item ∷ above) k items)) (λ k. walk_items counts (reverse (item ∷ items) ++ above) k below)
    by (Ok n) h e = h n ∙ ap (λ (x : List Item). and_on (walk_items counts (item ∷ above) n items) (λ k. walk_items counts x k below)) e
    by (Err stop) h e = refl

-- a walk that stops goes no further
stopped_on : (w : Walked) (stop : Stop) (g : ℕ → Walked) → w ≡ Err stop → and_on w g ≡ Err stop
stopped_on (Ok k) stop g e = absurd (cc e)
stopped_on (Err other) stop g e = e

gone_on : (w : Walked) (k : ℕ) (g : ℕ → Walked) → w ≡ Ok k → and_on w g ≡ g k
gone_on (Ok n) k g e = let same : n ≡ k = cc e in ap g same
gone_on (Err stop) k g e = absurd (cc e)

-- a program whose walk stops above that procedure, and one whose walk stops there
pub told_above : (told : DeepProgram) (program : List Item) (f : Stop) → IsDeepProgram told program → walk_items told.counts [] 0 (items_of told.above) ≡ Err f → walk_items told.counts [] 0 program ≡ Err f
told_above told program f h e =
    ap (λ (x : List Item). walk_items told.counts [] 0 x) h.whole
    ∙ (items_on told.counts [] 0 (items_of told.above) (h.item ∷ h.below)
    ∙ stopped_on _ f _ e)

pub told_there : (told : DeepProgram) (program : List Item) (k : ℕ) (f : Stop) → IsDeepProgram told program → walk_items told.counts [] 0 (items_of told.above) ≡ Ok k
    → walk_deep told.counts (reverse (items_of told.above)) k told.deep ≡ Err f → walk_items told.counts [] 0 program ≡ Err f
told_there told program k f h e there =
    let above : reverse (items_of told.above) ++ [] ≡ reverse (items_of told.above) = append-nil (reverse (items_of told.above)) in
    ap (λ (x : List Item). walk_items told.counts [] 0 x) h.whole
    ∙ (items_on told.counts [] 0 (items_of told.above) (h.item ∷ h.below)
    ∙ (gone_on _ k _ e
    ∙ (ap (λ (x : List Item). walk_items told.counts x k (h.item ∷ h.below)) above
    ∙ stopped_on _ f _ (deep_item told.counts (reverse (items_of told.above)) k told.deep h.item h.deep ∙ there))))

-- the same of an answer
pub answers_above : (told : DeepProgram) (program : List Item) (items : List CodeItem) (stop : Stop) → items ≡ told.above → IsDeepProgram told program → Answers (walk_items told.counts [] 0 (items_of items)) (Err stop)
    → Answers (walk_items told.counts [] 0 program) (Err stop)
answers_above told program items (Found f) same h e =
    told_above told program (Found f) h (subst (λ (x : List CodeItem). walk_items told.counts [] 0 (items_of x) ≡ Err (Found f)) same e)
answers_above told program items Memory same h e = tt

pub answers_there : (told : DeepProgram) (program : List Item) (items : List CodeItem) (k : ℕ) (answer : Walked) → items ≡ told.above → IsDeepProgram told program → walk_items told.counts [] 0 (items_of items) ≡ Ok k
    → answer ≡ walk_deep told.counts (reverse (items_of items)) k told.deep → OnOk answer ⊥ → Answers (walk_items told.counts [] 0 program) answer
answers_there told program items k (Ok n) same h e there never = absurd never
answers_there told program items k (Err (Found f)) same h e there never =
    told_there told program k (Found f) h (subst (λ (x : List CodeItem). walk_items told.counts [] 0 (items_of x) ≡ Ok k) same e)
    (subst (λ (x : List CodeItem). walk_deep told.counts (reverse (items_of x)) k told.deep ≡ Err (Found f)) same (sym there))
answers_there told program items k (Err Memory) same h e there never = tt
