-- A walk through a program, part by part: the number of the next mention, or the first defect. Private contracts alone
-- cite these definitions and those beside them: what the crate promises is said by the first defect of a program.
use Rattle.std.specs.Prelude.{◌≡◌, ◌≤◌, ℕ, ◌+◌, min, nat_lt, ◌==◌, int_lt, Bool, true, false, ◌||◌, Result, Ok, Err, List, [], ◌∷◌, ◌++◌, length, map, if◌then◌else◌}
use Rattle.std.specs.Bool.{⊤}
use Rattle.vmv_tree.specs.declared.defect.Defect.{Defect}
use Rattle.vmv_tree.specs.declared.defect.Defect.TheVariants.{UnknownName, Repeated, ArityWrong, IndexAssigned, RangeEmpty, Limit}
use Rattle.vmv_tree.specs.declared.deep.DeepProcedure.{DeepProcedure}
use Rattle.vmv_tree.specs.declared.deep.ItemCounts.{ItemCounts}
use Rattle.vmv_tree.specs.declared.name.Name.{Name}
use Rattle.vmv_tree.specs.declared.tree.Operand.{Operand}
use Rattle.vmv_tree.specs.declared.tree.Operand.TheVariants.{Lit, Var}
use Rattle.vmv_tree.specs.declared.tree.Test.{Test}
use Rattle.vmv_tree.specs.declared.tree.Param.{Param}
use Rattle.vmv_tree.specs.Run.{turns_of, name_of}
use Rattle.vmv_tree.specs.Tree.{Stmt, copy, compute, call, assert, choose, repeat, Block, [], ◌⨾◌, Body, Item, outside, helper, entry}
use Rattle.vmv_tree.specs.Limits.{outside_count, helper_count, entry_count, indexes_of, block_indexes, entry_numbers, distinct}
use Rattle.vmv_valid.specs.declared.stop.Stop.{Stop}
use Rattle.vmv_valid.specs.declared.stop.Stop.TheVariants.{Found, Memory}
use Rattle.vmv_valid.specs.declared.callee.Callee.{Callee}
use Rattle.vmv_valid.specs.Names.{is_among}
use Rattle.vmv_valid.specs.declared.measure.Measures.{Measures}
use Rattle.vmv_valid.specs.Callees.{takes, declares, capped_sum, capped_product}
use Rattle.vmv_valid.specs.Measures.{measured_all, callees_of}

abbrev pub Walked : Type 0
Walked = Result ℕ Stop

-- the first part, and behind it the next
abbrev pub and_on : Walked → (ℕ → Walked) → Walked
and_on (Ok k) next = next k
and_on (Err stop) next = Err stop

abbrev pub defect_at : ℕ → Defect → Walked
defect_at k defect = Err (Found (record { mention = k; defect = defect }))

-- what a walk answers, which only want of memory ends otherwise
abbrev pub Answers : Walked → Walked → Type 0
Answers walked (Ok next) = walked ≡ Ok next
Answers walked (Err (Found f)) = walked ≡ Err (Found f)
Answers walked (Err Memory) = ⊤

abbrev pub is_visible : List Name → List Name → Name → Bool
is_visible names indexes name = is_among indexes name || is_among names name

abbrev pub walk_operand : List Name → List Name → ℕ → Operand → Walked
walk_operand names indexes k (Lit word) = Ok k
walk_operand names indexes k (Var name) = if is_visible names indexes name then Ok (k + 1) else defect_at k UnknownName

abbrev pub walk_target : List Name → List Name → ℕ → Name → Walked
walk_target names indexes k to =
    if is_visible names indexes to
    then (if is_among indexes to then defect_at k IndexAssigned else Ok (k + 1))
    else defect_at k UnknownName

abbrev pub walk_test : List Name → List Name → ℕ → Test → Walked
walk_test names indexes k test = and_on (walk_operand names indexes k test.left) (λ k. walk_operand names indexes k test.right)

abbrev pub walk_args : List Name → List Name → ℕ → List Operand → Walked
walk_args names indexes k [] = Ok k
walk_args names indexes k (o ∷ args) = and_on (walk_operand names indexes k o) (λ k. walk_args names indexes k args)

abbrev pub walk_callee : List Callee → ℕ → Name → ℕ → Walked
walk_callee callees k callee count =
    if declares callees callee
    then (if takes callees callee count then Ok (k + 1) else defect_at k ArityWrong)
    else defect_at k UnknownName

abbrev mutual
  pub walk_stmt : List Callee → List Name → List Name → List Name → ℕ → Stmt → Walked
  walk_stmt callees names indexes declared k (copy to from) =
      and_on (walk_target names indexes k to) (λ k. walk_operand names indexes k from)
  walk_stmt callees names indexes declared k (compute to op left right) =
      and_on (walk_target names indexes k to)
      (λ k. and_on (walk_operand names indexes k left) (λ k. walk_operand names indexes k right))
  walk_stmt callees names indexes declared k (call to callee args) =
      and_on (walk_target names indexes k to)
      (λ k. and_on (walk_callee callees k callee (length args)) (λ k. walk_args names indexes k args))
  walk_stmt callees names indexes declared k (assert test) = walk_test names indexes k test
  walk_stmt callees names indexes declared k (choose test first second) =
      and_on (walk_test names indexes k test)
      (λ k. and_on (walk_block callees names indexes declared k first)
      (λ k. walk_block callees names indexes (declared ++ block_indexes first) k second))
  walk_stmt callees names indexes declared k (repeat index bound most body) =
      if is_among declared index then defect_at k Repeated
      else and_on (walk_operand names indexes (k + 1) bound)
      (λ k. walk_block callees names (index ∷ indexes) (declared ++ index ∷ []) k body)

  pub walk_block : List Callee → List Name → List Name → List Name → ℕ → Block → Walked
  walk_block callees names indexes declared k [] = Ok k
  walk_block callees names indexes declared k (s ⨾ rest) =
      and_on (walk_stmt callees names indexes declared k s)
      (λ k. walk_block callees names indexes (declared ++ indexes_of s) k rest)

-- names that are declared here, behind those that are declared already
abbrev pub walk_names : ℕ → List Name → List Name → Walked
walk_names k declared [] = Ok k
walk_names k declared (name ∷ names) =
    if is_among declared name then defect_at k Repeated else walk_names (k + 1) (declared ++ name ∷ []) names

abbrev pub walk_params : ℕ → List Name → List Param → Walked
walk_params k declared [] = Ok k
walk_params k declared (p ∷ params) =
    if is_among declared p.name then defect_at k Repeated
    else (if int_lt p.hi p.lo then defect_at k RangeEmpty else walk_params (k + 1) (declared ++ p.name ∷ []) params)

-- behind the parameters
abbrev pub walk_body : List Callee → ℕ → List Name → Body → Walked
walk_body callees k params body =
    let names = params ++ body.vars in
    and_on (walk_names k params body.vars)
    (λ k. and_on (walk_block callees names [] names k body.block) (λ k. walk_operand names [] k body.output))

-- so many, where so many are allowed
abbrev pub walk_within : ℕ → ℕ → ℕ → ℕ → Walked
walk_within k which found most = if nat_lt most found then defect_at k (Limit which found most) else Ok k

-- one more item of a kind, of which the program is told to have so many
abbrev pub walk_kind : ℕ → ℕ → ℕ → ℕ → Walked
walk_kind k which found above = if above == 64 then defect_at k (Limit which found 64) else Ok k

abbrev pub walk_limits : ℕ → ℕ → Measures → Walked
walk_limits k names m =
    and_on (walk_within k 5 (capped_sum names (capped_product 2 m.loops)) 16)
    (λ k. and_on (walk_within k 6 m.statements 2000) (λ k. walk_within k 7 m.nesting 8))

abbrev pub walk_entry_limits : ℕ → ℕ → Measures → Walked
walk_entry_limits k numbers m =
    and_on (walk_within k 9 numbers 256)
    (λ k. and_on (walk_within k 10 m.paths 1024) (λ k. and_on (walk_within k 11 (capped_sum m.steps 1) 100000) (λ k. walk_within k 12 m.asks 10000)))

-- the items of the program are told to be so many
abbrev pub walk_item : ItemCounts → List Item → ℕ → Item → Walked
walk_item counts above k (outside name arity) =
    if is_among (map name_of above) name then defect_at k Repeated
    else and_on (walk_kind k 1 counts.outsides (outside_count above))
    (λ k. and_on (walk_within k 4 (min (turns_of arity) 1000000000) 16) (λ k. Ok (k + 1)))
walk_item counts above k (helper name params body) =
    let m = measured_all (callees_of above) body.block in
    if is_among (map name_of above) name then defect_at k Repeated
    else and_on (walk_kind k 2 counts.helpers (helper_count above))
    (λ k. and_on (walk_limits k (capped_sum (length params) (length body.vars)) m)
    (λ k. and_on (walk_within k 8 (capped_sum 1 m.deepest) 16)
    (λ k. and_on (walk_names (k + 1) [] params)
    (λ k. walk_body (callees_of above) k params body))))
walk_item counts above k (entry name params body) =
    let m = measured_all (callees_of above) body.block in
    if is_among (map name_of above) name then defect_at k Repeated
    else and_on (walk_kind k 3 counts.entries (entry_count above))
    (λ k. and_on (walk_limits k (capped_sum (length params) (length body.vars)) m)
    (λ k. and_on (walk_entry_limits k (min (distinct (entry_numbers above params body)) 1000000000) m)
    (λ k. and_on (walk_params (k + 1) [] params)
    (λ k. walk_body (callees_of above) k (map (λ p. p.name) params) body))))

abbrev pub walk_items : ItemCounts → List Item → ℕ → List Item → Walked
walk_items counts above k [] = Ok k
walk_items counts above k (item ∷ items) =
    and_on (walk_item counts above k item) (λ k. walk_items counts (item ∷ above) k items)

-- no more items of a kind than may be
pub record HasRoom (above : List Item) : Type 0 where
  pub outsides : outside_count above ≤ 64
  pub helpers : helper_count above ≤ 64
  pub entries : entry_count above ≤ 64

-- the items have so many of each kind, each number at most 1,000,000,000
abbrev pub item_counts : List Item → ItemCounts
item_counts items = record {
  outsides = min (outside_count items) 1000000000;
  helpers = min (helper_count items) 1000000000;
  entries = min (entry_count items) 1000000000;
}

-- the kind of a procedure that is told, of which so many stand above
abbrev pub walk_deep_kind : ItemCounts → List Item → ℕ → Bool → Walked
walk_deep_kind counts above k true = walk_kind k 3 counts.entries (entry_count above)
walk_deep_kind counts above k false = walk_kind k 2 counts.helpers (helper_count above)

-- a procedure that is told, up to the last limit that it breaks
abbrev pub walk_deep : ItemCounts → List Item → ℕ → DeepProcedure → Walked
walk_deep counts above k deep =
    if is_among (map name_of above) deep.name then defect_at k Repeated
    else and_on (walk_deep_kind counts above k deep.is_entry)
    (λ k. and_on (walk_within k 5 deep.variables 16)
    (λ k. and_on (walk_within k 6 deep.statements 2000) (λ k. defect_at k (Limit 7 deep.nesting 8))))
