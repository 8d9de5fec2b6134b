-- Walks over procedures and items find the first defect there.
use Rattle.std.proofs.Common.{◌≡◌, inl, inr, ℕ, ◌+◌, ◌<◌, ◌≤◌, min, nat_lt, ◌==◌, ℤ, int_lt, ◌<ℤ◌, Bool, true, false, Ok, Err, List, [], ◌∷◌, ◌++◌, length, map, refl, sym, subst, arith, if◌then◌else◌}
use Rattle.std.specs.Bool.{Decides}
use Rattle.std.specs.List.{Contains}
use Rattle.std.proofs.lemmas.Int.{ints}
use Rattle.std.proofs.lemmas.List.{length-map}
use Rattle.std.proofs.lemmas.Bool.Decides.{Decides-eqb, Decides-ltb, Decides-like}
use Rattle.vmv_tree.specs.declared.deep.ItemCounts.{ItemCounts}
use Rattle.vmv_tree.specs.Deep.{HasCounts}
use Rattle.vmv_tree.specs.declared.defect.Defect.{Defect}
use Rattle.vmv_tree.specs.declared.defect.Defect.TheVariants.{Repeated, RangeEmpty, Limit}
use Rattle.vmv_tree.specs.declared.name.Name.{Name}
use Rattle.vmv_tree.specs.declared.tree.Param.{Param}
use Rattle.vmv_tree.specs.Tree.{[], Body, Item, outside, helper, entry}
use Rattle.vmv_tree.specs.Run.{turns_of, name_of}
use Rattle.vmv_tree.specs.Mentions.{operand_mentions, block_mentions, body_mentions, item_mentions}
use Rattle.vmv_tree.specs.Limits.{outside_count, helper_count, entry_count, block_indexes, variables, block_statements, block_nesting, block_deepest, block_paths, block_steps, block_asks, helper_depth, entry_numbers, distinct, call_paths, unrolled_steps, unrolled_calls}
use Rattle.vmv_tree.specs.Valid.{Finds, At, Over, TooMany, InNames, InParams, InBody, InProcedure, InEntry, InItem, InItems, HasDefect, Valid, FirstDefect, rank}
use Rattle.vmv_valid.specs.declared.stop.Stop.TheVariants.{Found, Memory}
use Rattle.vmv_valid.specs.declared.stop.FoundDefect.{FoundDefect}
use Rattle.vmv_valid.specs.Names.{is_among}
use Rattle.vmv_valid.specs.Callees.{capped_sum, capped_product}
use Rattle.vmv_valid.specs.Measures.{measured_all, callees_of}
use Rattle.vmv_valid.specs.Walks.{Walked, and_on, defect_at, walk_operand, walk_block, walk_names, walk_params, walk_body, walk_within, walk_kind, walk_limits, walk_entry_limits, walk_item, walk_items, item_counts}
use Rattle.vmv_valid.proofs.FirstFound.{Either, Ends, Part, Here, both, here_from, no_part, quiet, nothing_else, lower_from, check, same_here, ends_at}
use Rattle.vmv_valid.proofs.Measured.{AreCapped, block_right, callees_bring, depth_above, paths_above, steps_above, asks_above}
use Rattle.vmv_valid.proofs.Placed.{among_tells, operand_part, block_part}

names_part : (declared names : List Name) (k : ℕ) → Part (InNames k declared names) k (k + length names) (walk_names k declared names)
names_part declared [] k = ends_at k k (k + 0) (omega arith) (no_part k)
names_part declared (name ∷ names) k =
    let end = k + 1 + length names in
    ends_at k end (k + length (name ∷ names)) (omega arith)
    (check k Repeated (Contains declared name) 100 end (is_among declared name) (among_tells declared name) (omega arith) (omega arith)
    (here_from k 100 end (names_part (declared ++ name ∷ []) names (k + 1)))).part

below_tells : (x y : ℤ) → Decides (int_lt x y) (x <ℤ y)
below_tells x y = (λ (e : int_lt x y ≡ true). grind (arith, ints), λ (h : x <ℤ y). grind (arith, ints))

params_part : (declared : List Name) (params : List Param) (k : ℕ) → Part (InParams k declared params) k (k + length params) (walk_params k declared params)
params_part declared [] k = ends_at k k (k + 0) (omega arith) (no_part k)
params_part declared (p ∷ params) k =
    let end = k + 1 + length params in
    ends_at k end (k + length (p ∷ params)) (omega arith)
    (check k Repeated (Contains declared p.name) 5 end (is_among declared p.name) (among_tells declared p.name) (omega arith) (omega arith)
    (check k RangeEmpty (p.hi <ℤ p.lo) 100 end (int_lt p.hi p.lo) (below_tells p.hi p.lo) (omega arith) (omega arith)
    (here_from k 100 end (params_part (declared ++ p.name ∷ []) params (k + 1))))).part

body_part : (above : List Item) (k : ℕ) (params : List Name) (body : Body) → Part (InBody above k params body) k (k + body_mentions body) (walk_body (callees_of above) k params body)
body_part above k params body =
    let names = params ++ body.vars in
    let inside = k + length body.vars in
    let last = inside + block_mentions body.block in
    let end = last + operand_mentions body.output in
    ends_at k end (k + body_mentions body) (omega arith)
    (both k inside end (λ k. and_on (walk_block (callees_of above) names [] names k body.block) (λ k. walk_operand names [] k body.output))
    (names_part params body.vars k)
    (both inside last end (λ k. walk_operand names [] k body.output)
    (block_part above names [] names inside body.block)
    (operand_part above names [] names last body.output)))

-- one check, and the walk behind it
check_on : {b : Finds} (k : ℕ) (d : Defect) (P : Type 0) (low hi : ℕ) (test : Bool) (g : ℕ → Walked) → Decides test P → rank d ≤ low → k < hi → Here b k low hi (g k)
    → Here (Either (At k d P) b) k (rank d) hi (and_on (if test then defect_at k d else Ok k) g)
check_on k d P low hi true g tells below inside h = check k d P low hi true tells below inside h
check_on k d P low hi false g tells below inside h = check k d P low hi false tells below inside h

over_tells : (x most : ℕ) → most < 1000000000 → Decides (nat_lt most (min x 1000000000)) (most < x)
over_tells x most small =
    Decides-like (nat_lt most (min x 1000000000)) (λ (h : most < min x 1000000000). omega (arith, h)) (λ (h : most < x). omega (arith, h)) (Decides-ltb most (min x 1000000000))

-- a limit, and the walk behind it
over_on : {b : Finds} (k which x most low hi found : ℕ) (g : ℕ → Walked) → most < 1000000000 → found ≡ min x 1000000000 → 5 + which ≤ low → k < hi → Here b k low hi (g k)
    → Here (Either (Over k which x most) b) k (5 + which) hi (and_on (walk_within k which found most) g)
over_on {b} k which x most low hi found g small e below inside h =
    subst (λ (n : ℕ). Here (Either (Over k which x most) b) k (5 + which) hi (and_on (walk_within k which n most) g)) (sym e)
    (check_on k (Limit which (min x 1000000000) most) (most < x) low hi (nat_lt most (min x 1000000000)) g (over_tells x most small) below inside h)

kind_on : {b : Finds} (k which found told above low hi : ℕ) (g : ℕ → Walked) → told ≡ min found 1000000000 → 5 + which ≤ low → k < hi → Here b k low hi (g k)
    → Here (Either (TooMany k which found above) b) k (5 + which) hi (and_on (walk_kind k which told above) g)
kind_on {b} k which found told above low hi g e below inside h =
    subst (λ (n : ℕ). Here (Either (TooMany k which found above) b) k (5 + which) hi (and_on (walk_kind k which n above) g)) (sym e)
    (check_on k (Limit which (min found 1000000000) 64) (above ≡ 64) low hi (above == 64) g (Decides-eqb above 64) below inside h)

-- walks one behind the other, in either grouping

two_on : (w : Walked) (h g : ℕ → Walked) → and_on w (λ k. and_on (h k) g) ≡ and_on (and_on w h) g
two_on (Ok k) h g = refl
two_on (Err e) h g = refl

three_on : (w : Walked) (f h g : ℕ → Walked) → and_on w (λ k. and_on (f k) (λ k. and_on (h k) g)) ≡ and_on (and_on w (λ k. and_on (f k) h)) g
three_on (Ok k) f h g = two_on (f k) h g
three_on (Err e) f h g = refl

four_on : (w : Walked) (e f h g : ℕ → Walked) → and_on w (λ k. and_on (e k) (λ k. and_on (f k) (λ k. and_on (h k) g))) ≡ and_on (and_on w (λ k. and_on (e k) (λ k. and_on (f k) h))) g
four_on (Ok k) e f h g = three_on (e k) f h g
four_on (Err s) e f h g = refl

three_in : (a b c r : Finds) (m : ℕ) (d : Defect) → Either a (Either b (Either c r)) m d → Either (Either a (Either b c)) r m d
three_in a b c r m d (inl x) = inl (inl x)
three_in a b c r m d (inr (inl x)) = inl (inr (inl x))
three_in a b c r m d (inr (inr (inl x))) = inl (inr (inr x))
three_in a b c r m d (inr (inr (inr x))) = inr x

three_out : (a b c r : Finds) (m : ℕ) (d : Defect) → Either (Either a (Either b c)) r m d → Either a (Either b (Either c r)) m d
three_out a b c r m d (inl (inl x)) = inl x
three_out a b c r m d (inl (inr (inl x))) = inr (inl x)
three_out a b c r m d (inl (inr (inr x))) = inr (inr (inl x))
three_out a b c r m d (inr x) = inr (inr (inr x))

four_in : (a b c e r : Finds) (m : ℕ) (d : Defect) → Either a (Either b (Either c (Either e r))) m d → Either (Either a (Either b (Either c e))) r m d
four_in a b c e r m d (inl x) = inl (inl x)
four_in a b c e r m d (inr (inl x)) = inl (inr (inl x))
four_in a b c e r m d (inr (inr (inl x))) = inl (inr (inr (inl x)))
four_in a b c e r m d (inr (inr (inr (inl x)))) = inl (inr (inr (inr x)))
four_in a b c e r m d (inr (inr (inr (inr x)))) = inr x

four_out : (a b c e r : Finds) (m : ℕ) (d : Defect) → Either (Either a (Either b (Either c e))) r m d → Either a (Either b (Either c (Either e r))) m d
four_out a b c e r m d (inl (inl x)) = inl x
four_out a b c e r m d (inl (inr (inl x))) = inr (inl x)
four_out a b c e r m d (inl (inr (inr (inl x)))) = inr (inr (inl x))
four_out a b c e r m d (inl (inr (inr (inr x)))) = inr (inr (inr (inl x)))
four_out a b c e r m d (inr x) = inr (inr (inr (inr x)))

-- what the body of a procedure measures, over the items above it
pub body_capped : (above : List Item) (body : Body)
    → AreCapped (measured_all (callees_of above) body.block) (length (block_indexes body.block)) (block_statements body.block) (block_nesting body.block)
    (block_deepest (depth_above above) body.block) (block_paths (paths_above above) body.block) (block_steps (steps_above above) body.block) (block_asks (asks_above above) body.block)
body_capped above body =
    block_right (callees_of above) (depth_above above) (paths_above above) (steps_above above) (asks_above above) (callees_bring above) body.block

-- the limits of every procedure, and the walk behind them
limits_on : {r : Finds} (above : List Item) (k hi : ℕ) (params : List Name) (count : ℕ) (body : Body) (g : ℕ → Walked) → count ≡ length params → k < hi → Here r k 13 hi (g k)
    → Here (Either (InProcedure k params body) r) k 10 hi (and_on (walk_limits k (capped_sum count (length body.vars)) (measured_all (callees_of above) body.block)) g)
limits_on {r} above k hi params count body g same inside h =
    let m = measured_all (callees_of above) body.block in
    let right = body_capped above body in
    let names = capped_sum (capped_sum count (length body.vars)) (capped_product 2 m.loops) in
    let five = Over k 5 (variables params body) 16 in
    let six = Over k 6 (block_statements body.block) 2000 in
    let seven = Over k 7 (block_nesting body.block) 8 in
    same_here k 10 hi (three_in five six seven r) (three_out five six seven r)
    (subst (λ (w : Walked). Here (Either five (Either six (Either seven r))) k 10 hi w)
    (three_on (walk_within k 5 names 16) (λ k. walk_within k 6 m.statements 2000) (λ k. walk_within k 7 m.nesting 8) g)
    (over_on k 5 (variables params body) 16 11 hi names (λ k. and_on (walk_within k 6 m.statements 2000) (λ k. and_on (walk_within k 7 m.nesting 8) g))
    (omega arith) (omega (arith, right.c_loops)) (omega arith) inside
    (over_on k 6 (block_statements body.block) 2000 12 hi m.statements (λ k. and_on (walk_within k 7 m.nesting 8) g)
    (omega arith) right.c_statements (omega arith) inside
    (over_on k 7 (block_nesting body.block) 8 13 hi m.nesting g
    (omega arith) right.c_nesting (omega arith) inside h))))

-- the limits of an entry, and the walk behind them
entry_limits_on : {r : Finds} (above : List Item) (k hi : ℕ) (params : List Param) (body : Body) (g : ℕ → Walked) → k < hi → Here r k 100 hi (g k)
    → Here (Either (InEntry above k params body) r) k 14 hi
    (and_on (walk_entry_limits k (min (distinct (entry_numbers above params body)) 1000000000) (measured_all (callees_of above) body.block)) g)
entry_limits_on {r} above k hi params body g inside h =
    let m = measured_all (callees_of above) body.block in
    let right = body_capped above body in
    let numbers = min (distinct (entry_numbers above params body)) 1000000000 in
    let nine = Over k 9 (distinct (entry_numbers above params body)) 256 in
    let ten = Over k 10 (call_paths above body) 1024 in
    let eleven = Over k 11 (unrolled_steps above body) 100000 in
    let twelve = Over k 12 (unrolled_calls above body) 10000 in
    same_here k 14 hi (four_in nine ten eleven twelve r) (four_out nine ten eleven twelve r)
    (subst (λ (w : Walked). Here (Either nine (Either ten (Either eleven (Either twelve r)))) k 14 hi w)
    (four_on (walk_within k 9 numbers 256) (λ k. walk_within k 10 m.paths 1024) (λ k. walk_within k 11 (capped_sum m.steps 1) 100000) (λ k. walk_within k 12 m.asks 10000) g)
    (over_on k 9 (distinct (entry_numbers above params body)) 256 15 hi numbers
    (λ k. and_on (walk_within k 10 m.paths 1024) (λ k. and_on (walk_within k 11 (capped_sum m.steps 1) 100000) (λ k. and_on (walk_within k 12 m.asks 10000) g)))
    (omega arith) refl (omega arith) inside
    (over_on k 10 (call_paths above body) 1024 16 hi m.paths
    (λ k. and_on (walk_within k 11 (capped_sum m.steps 1) 100000) (λ k. and_on (walk_within k 12 m.asks 10000) g))
    (omega arith) right.c_paths (omega arith) inside
    (over_on k 11 (unrolled_steps above body) 100000 17 hi (capped_sum m.steps 1) (λ k. and_on (walk_within k 12 m.asks 10000) g)
    (omega arith) (omega (arith, right.c_steps)) (omega arith) inside
    (over_on k 12 (unrolled_calls above body) 10000 100 hi m.asks g
    (omega arith) right.c_asks (omega arith) inside h)))))

item_part : (counts : ItemCounts) (program above : List Item) → HasCounts counts program → (k : ℕ) (item : Item) → Part (InItem program above k item) k (k + item_mentions item) (walk_item counts above k item)
item_part counts program above has k (outside name arity) =
    let end = k + 1 in
    (check k Repeated (Contains (map name_of above) name) 6 end (is_among (map name_of above) name) (among_tells (map name_of above) name) (omega arith) (omega arith)
    (kind_on k 1 (outside_count program) counts.outsides (outside_count above) 9 end (λ k. and_on (walk_within k 4 (min (turns_of arity) 1000000000) 16) (λ k. Ok (k + 1)))
    has.outsides (omega arith) (omega arith)
    (same_here k 9 end (nothing_else (Over k 4 (turns_of arity) 16)) (λ (m : ℕ) (e : Defect) (x : Over k 4 (turns_of arity) 16 m e). inl x)
    (over_on k 4 (turns_of arity) 16 100 end (min (turns_of arity) 1000000000) (λ k. Ok (k + 1)) (omega arith) refl (omega arith) (omega arith)
    (quiet k 100 end (omega arith)))))).part
item_part counts program above has k (helper name params body) =
    let inner = k + 1 + length params in
    let last = inner + body_mentions body in
    let m = measured_all (callees_of above) body.block in
    let names_on = λ (k : ℕ). and_on (walk_names (k + 1) [] params) (λ k. walk_body (callees_of above) k params body) in
    let depth_on = λ (k : ℕ). and_on (walk_within k 8 (capped_sum 1 m.deepest) 16) names_on in
    let right = body_capped above body in
    ends_at k last (k + item_mentions (helper name params body)) (omega arith)
    (check k Repeated (Contains (map name_of above) name) 7 last (is_among (map name_of above) name) (among_tells (map name_of above) name) (omega arith) (omega arith)
    (kind_on k 2 (helper_count program) counts.helpers (helper_count above) 10 last (λ k. and_on (walk_limits k (capped_sum (length params) (length body.vars)) m) depth_on)
    has.helpers (omega arith) (omega arith)
    (limits_on above k last params (length params) body depth_on refl (omega arith)
    (over_on k 8 (helper_depth above body) 16 100 last (capped_sum 1 m.deepest) names_on (omega arith) (omega (arith, right.c_deepest)) (omega arith) (omega arith)
    (here_from k 100 last
    (both (k + 1) inner last (λ k. walk_body (callees_of above) k params body) (names_part [] params (k + 1)) (body_part above inner params body))))))).part
item_part counts program above has k (entry name params body) =
    let inner = k + 1 + length params in
    let last = inner + body_mentions body in
    let m = measured_all (callees_of above) body.block in
    let names = map (λ p. p.name) params in
    let params_on = λ (k : ℕ). and_on (walk_params (k + 1) [] params) (λ k. walk_body (callees_of above) k names body) in
    let numbers_on = λ (k : ℕ). and_on (walk_entry_limits k (min (distinct (entry_numbers above params body)) 1000000000) m) params_on in
    ends_at k last (k + item_mentions (entry name params body)) (omega arith)
    (check k Repeated (Contains (map name_of above) name) 8 last (is_among (map name_of above) name) (among_tells (map name_of above) name) (omega arith) (omega arith)
    (kind_on k 3 (entry_count program) counts.entries (entry_count above) 10 last (λ k. and_on (walk_limits k (capped_sum (length params) (length body.vars)) m) numbers_on)
    has.entries (omega arith) (omega arith)
    (limits_on above k last names (length params) body numbers_on (sym (length-map params (λ (p : Param). p.name))) (omega arith)
    (lower_from k 13 14 last (omega arith)
    (entry_limits_on above k last params body params_on (omega arith)
    (here_from k 100 last
    (both (k + 1) inner last (λ k. walk_body (callees_of above) k names body) (params_part [] params (k + 1)) (body_part above inner names body)))))))).part

items_mentions : List Item → ℕ
items_mentions [] = 0
items_mentions (item ∷ items) = item_mentions item + items_mentions items

items_part : (counts : ItemCounts) (program above : List Item) → HasCounts counts program → (k : ℕ) (items : List Item) → Part (InItems program above k items) k (k + items_mentions items) (walk_items counts above k items)
unfolding items_mentions
items_part counts program above has k [] = ends_at k k (k + 0) (omega arith) (no_part k)
items_part counts program above has k (item ∷ items) =
    let mid = k + item_mentions item in
    let end = mid + items_mentions items in
    ends_at k end (k + items_mentions (item ∷ items)) (omega arith)
    (both k mid end (λ k. walk_items counts (item ∷ above) k items)
    (item_part counts program above has k item)
    (items_part counts program (item ∷ above) has mid items))

-- a walk to the end of a program says that it is valid

valid_by : (program : List Item) (hi : ℕ) (w : Walked) → Ends (HasDefect program) hi w → (n : ℕ) → w ≡ Ok n → Valid program
valid_by program hi (Ok next) h n e = h.1
valid_by program hi (Err stop) h n e = absurd (cc)

pub walked_valid : (counts : ItemCounts) (program : List Item) (n : ℕ) → HasCounts counts program → walk_items counts [] 0 program ≡ Ok n → Valid program
walked_valid counts program n has e = valid_by program _ (walk_items counts [] 0 program) (items_part counts program [] has 0 program).ends n e

-- a walk that stops does so at the first defect

first_by : (program : List Item) (hi : ℕ) (w : Walked) → Ends (HasDefect program) hi w → (f : FoundDefect) → w ≡ Err (Found f) → FirstDefect program f.mention f.defect
first_by program hi (Ok next) h f e = absurd (cc)
first_by program hi (Err (Found g)) h f e =
    let same : g ≡ f = cc in
    subst (λ (x : FoundDefect). FirstDefect program x.mention x.defect) same (record { there = h.there; first = h.first; least = h.least })
first_by program hi (Err Memory) h f e = absurd h

pub walked_first : (counts : ItemCounts) (program : List Item) (f : FoundDefect) → HasCounts counts program → walk_items counts [] 0 program ≡ Err (Found f) → FirstDefect program f.mention f.defect
walked_first counts program f has e = first_by program _ (walk_items counts [] 0 program) (items_part counts program [] has 0 program).ends f e

-- the counts of a program are its own
pub own_counts : (program : List Item) → HasCounts (item_counts program) program
own_counts program = record { outsides = refl; helpers = refl; entries = refl }

-- a program with a first defect isn't valid
pub first_invalid : (program : List Item) (m : ℕ) (d : Defect) → FirstDefect program m d → Valid program → ⊥
first_invalid program m d first valid = valid m d first.there
