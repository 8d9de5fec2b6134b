-- What is asked for in resolved statements is an outside name of the program, and so is what demands are on. A range that is
-- wanted isn't empty.
use Rattle.std.proofs.Common.{◌≡◌, ℕ, zero, suc, ◌+◌, ◌≤◌, ◌==◌, ℤ, pos, negsuc, ◌+ℤ◌, ◌-ℤ◌, neg_ℤ, ◌≤ℤ◌, int_le, int_lt, int_div, ◌||◌, Bool, true, false, not, Option, Some, None, List, [], ◌∷◌, ◌++◌, length, take, filter, slice_get, refl, sym, ap, subst, ◌∙◌, arith, length-take, if◌then◌else◌}
use Rattle.std.specs.Bool.{⊤}
use Rattle.std.specs.List.{Contains, AllZip, filter_map}
use Rattle.std.specs.Int.{int_min, int_max}
use Rattle.std.specs.Ordering.{int_eq}
use Rattle.std.proofs.lemmas.Int.{ints}
use Rattle.std.proofs.lemmas.List.Elements.{Contains-append_left}
use Rattle.std.proofs.lemmas.Slice.Zip.{AllZip-long}
use Rattle.vmv_tree.specs.declared.name.Name.{Name}
use Rattle.vmv_tree.specs.declared.tree.Op.{Op}
use Rattle.vmv_tree.specs.declared.tree.Op.TheVariants.{Add, Sub, Mul, Div, Rem}
use Rattle.vmv_tree.specs.declared.tree.Rel.{Rel}
use Rattle.vmv_tree.specs.declared.tree.Rel.TheVariants.{Equal, Unequal, Less, AtMost, Greater, AtLeast}
use Rattle.vmv_tree.specs.Words.{is_word}
use Rattle.vmv_tree.specs.Tree.{Stmt as TreeStmt, copy, compute, call, assert, choose, repeat, Block as TreeBlock, [], ◌⨾◌, Item, outside, helper, entry}
use Rattle.vmv_tree.specs.Run.{sites, block_sites}
use Rattle.vmv_snapshot.specs.declared.code.Slot.{Slot}
use Rattle.vmv_snapshot.specs.declared.code.ProcId.{ProcId}
use Rattle.vmv_snapshot.specs.declared.code.SiteId.{SiteId}
use Rattle.vmv_snapshot.specs.declared.code.CodeOperand.{CodeOperand}
use Rattle.vmv_snapshot.specs.declared.code.CodeOperand.TheVariants.{Lit, Var}
use Rattle.vmv_snapshot.specs.declared.code.Simple.{Simple}
use Rattle.vmv_snapshot.specs.declared.code.Simple.TheVariants.{Set, Arith, Ask, Assert}
use Rattle.vmv_snapshot.specs.declared.code.Code.{Code}
use Rattle.vmv_snapshot.specs.Code.{Stmt, plain, help, branch, loop, Block, [], ◌⨾◌, Body}
use Rattle.vmv_snapshot.specs.View.{code_of}
use Rattle.vmv_snapshot.specs.Procs.{outsides}
use Rattle.vmv_snapshot.specs.Resolves.{Scope, Resolves, ResolvesAll, ResolvesItem}
use Rattle.vmv_snapshot.specs.Resolution.{Resolution, tree_of, IsResolution}
use Rattle.vmv_snapshot.proofs.Build.{outsides-append}
use Rattle.vmv_snapshot.proofs.Lookups.{contains_at}
use Rattle.vmv_cond.proofs.Same.{same_words}
use Rattle.vmv_back.specs.Firsts.{firsts}
use Rattle.vmv_back.specs.Assigned.{assigns, block_assigns}
use Rattle.vmv_back.specs.Facts.{mirrored}
use Rattle.vmv_demands.specs.declared.want.Want.{Want}
use Rattle.vmv_demands.specs.declared.want.Want.TheVariants.{Within, Except}
use Rattle.vmv_demands.specs.declared.want.Condition.{Condition}
use Rattle.vmv_demands.specs.declared.want.Condition.TheVariants.{Range, Nonzero}
use Rattle.vmv_demands.specs.declared.lead.Lead.{Lead}
use Rattle.vmv_demands.specs.declared.lead.Lead.TheVariants.{Nowhere, Asked, At}
use Rattle.vmv_demands.specs.declared.lead.SiteLead.{SiteLead}
use Rattle.vmv_demands.specs.declared.lead.Found.{Found}
use Rattle.vmv_demands.specs.declared.demand.Demand.{Demand}
use Rattle.vmv_demands.specs.Wants.{least, greatest, is_whole, nonempty, words_from, needed, moved}
use Rattle.vmv_demands.specs.Needs.{rel_needs, factor_needs, dividend_needs, sides_need, test_needs, left_needs, right_needs, divisor_needs, arith_needs, bound_needs}
use Rattle.vmv_demands.specs.Back.{on_slot, on_operand, on_answer, over_arith, over_simple, argument, on_argument, out_of_call, out_of_loop, Results, over_assigning, over, over_all, over_code, results}
use Rattle.vmv_demands.specs.Leads.{lead_of, led_on, simple_leads, Inside, leads_in, leads_in_all, leads_in_code, insides, proc_leads, asked, wanted_by}
use Rattle.vmv_demands.specs.Demands.{same_found, first_wanted, IsDemand, AreDemands}

pub few : (s : Resolution) (n : ℕ) (demands : List Demand) → AreDemands s n demands → length demands ≤ 32
few s n demands h =
    let long = AllZip-long IsDemand (first_wanted s n) demands h in
    omega (arith, long, length-take 32 (firsts same_found (wanted_by s.codes n)))

-- one list of demands for what is found
same_demand : (f : Found) (a b : Demand) → IsDemand f a → IsDemand f b → a ≡ b
same_demand f a b h k =
    let name : a.name ≡ b.name = h.name ∙ sym k.name in
    let site : a.site ≡ b.site = h.site ∙ sym k.site in
    let cond : a.cond ≡ b.cond = same_words a.cond b.cond (λ w g. (k.cond w).1 ((h.cond w).0 g)) (λ w g. (h.cond w).1 ((k.cond w).0 g)) in
    λ i. record { name = name i; cond = cond i; site = site i }

pub same_demands : (fs : List Found) (xs ys : List Demand) → AllZip IsDemand fs xs → AllZip IsDemand fs ys → xs ≡ ys
same_demands [] [] [] h k = refl
same_demands [] [] (b ∷ ys) h k = absurd k
same_demands [] (a ∷ xs) ys h k = absurd h
same_demands (f ∷ fs) [] ys h k = absurd h
same_demands (f ∷ fs) (a ∷ xs) [] h k = absurd k
same_demands (f ∷ fs) (a ∷ xs) (b ∷ ys) h k = λ i. same_demand f a b h.0 k.0 i ∷ same_demands fs xs ys h.1 k.1 i

module _ (P : Name → Type 0) where
  -- what is asked in resolved statements has the property
  abbrev pub AsksSimple : Simple → Type 0
  AsksSimple (Set to from) = ⊤
  AsksSimple (Arith to op left right site) = ⊤
  AsksSimple (Ask to f args) = P f
  AsksSimple (Assert test site) = ⊤

  abbrev mutual
    pub Asks : Stmt → Type 0
    Asks (plain simple) = AsksSimple simple
    Asks (help to callee args) = ⊤
    Asks (branch test first second) = AskAll first × AskAll second
    Asks (loop index slot bound most site body) = AskAll body

    pub AskAll : Block → Type 0
    AskAll [] = ⊤
    AskAll (s ⨾ rest) = Asks s × AskAll rest

  mutual
    unfolding Resolves

    stmt_asks : (scope : Scope) → ((x : Name) → Contains scope.outsides x → P x) → (k : ℕ) (s : TreeStmt) (d : Stmt) → Resolves scope k s d → Asks d
    stmt_asks scope all k (copy to from) (plain (Set slot code)) r = tt
    stmt_asks scope all k (compute to op left right) (plain (Arith slot same a b site)) r = tt
    stmt_asks scope all k (call to callee args) (plain (Ask slot name codes)) r = all name (subst (Contains scope.outsides) (sym r.1) r.2)
    stmt_asks scope all k (call to callee args) (help slot proc codes) r = tt
    stmt_asks scope all k (assert test) (plain (Assert code site)) r = tt
    stmt_asks scope all k (choose test first second) (branch code one other) r = (block_asks scope all k first one r.1, block_asks scope all (k + block_sites first) second other r.2)
    stmt_asks scope all k (repeat index bound most body) (loop slot next code same site inside) r = block_asks scope all (k + 1) body inside r.6
    stmt_asks scope all k s d r = absurd r

    block_asks : (scope : Scope) → ((x : Name) → Contains scope.outsides x → P x) → (k : ℕ) (b : TreeBlock) (d : Block) → ResolvesAll scope k b d → AskAll d
    block_asks scope all k [] [] r = tt
    block_asks scope all k (s ⨾ rest) (d ⨾ codes) r = (stmt_asks scope all k s d r.0, block_asks scope all (k + sites s) rest codes r.1)
    block_asks scope all k b d r = absurd r

  item_asks : (program before : List Item) (item : Item) (after : List Item) (code : Body) → ((x : Name) → Contains (outsides program) x → P x) → program ≡ before ++ item ∷ after → ResolvesItem before item code →
      AskAll code.block
  item_asks program before item after code all parts r = by item parts r
    where
      told : (item : Item) → program ≡ before ++ item ∷ after → (x : Name) → Contains (outsides before) x → P x
      told item parts x h =
          all x (subst (λ (xs : List Name). Contains xs x) (sym (ap outsides parts ∙ outsides-append before (item ∷ after))) (Contains-append_left (outsides before) (outsides (item ∷ after)) x h))

      by : (item : Item) → program ≡ before ++ item ∷ after → ResolvesItem before item code → AskAll code.block
      by (outside f arity) parts r = absurd r
      by (helper f params body) parts r = block_asks _ (told (helper f params body) parts) 0 body.block code.block r.statements
      by (entry f params body) parts r = block_asks _ (told (entry f params body) parts) 0 body.block code.block r.statements

  -- a range isn't empty
  abbrev Wanted : Want → Type 0
  Wanted (Within lo hi) = lo ≤ℤ hi
  Wanted (Except c) = ⊤

  abbrev Offers : Option Want → Type 0
  Offers (Some want) = Wanted want
  Offers None = ⊤

  abbrev pub HasWord : Condition → Type 0
  HasWord (Range lo hi) = lo ≤ℤ hi
  HasWord Nonzero = ⊤

  unless_offers : (b : Bool) (one other : Option Want) → Offers one → Offers other → Offers (if b then one else other)
  unless_offers true one other h k = h
  unless_offers false one other h k = k

  nonempty_offers : (lo hi : ℤ) → Offers (nonempty lo hi)
  nonempty_offers lo hi = by (int_le lo hi) refl
    where
      below : (lo hi : ℤ) → int_le lo hi ≡ true → lo ≤ℤ hi
      below lo hi e = grind (arith, ints)

      by : (b : Bool) → int_le lo hi ≡ b → Offers (if b then Some (Within lo hi) else None)
      by true e = below lo hi e
      by false e = tt

  needed_offers : (lo hi : ℤ) → Offers (needed lo hi)
  needed_offers lo hi = unless_offers (is_whole lo hi) None (words_from lo hi) tt (nonempty_offers (int_max lo least) (int_min hi greatest))

  moved_offers : (by : ℤ) (want : Want) → Offers (moved by want)
  moved_offers by (Within lo hi) = nonempty_offers (int_max (lo +ℤ by) least) (int_min (hi +ℤ by) greatest)
  moved_offers by (Except c) = unless_offers (is_word (c +ℤ by)) (Some (Except (c +ℤ by))) None tt tt

  rel_offers : (rel : Rel) (c : ℤ) → Offers (rel_needs rel c)
  rel_offers Equal c = needed_offers c c
  rel_offers Unequal c = tt
  rel_offers Less c = needed_offers least (c -ℤ pos 1)
  rel_offers AtMost c = needed_offers least c
  rel_offers Greater c = needed_offers (c +ℤ pos 1) greatest
  rel_offers AtLeast c = needed_offers c greatest

  factor_offers : (c : ℤ) → Offers (factor_needs c)
  factor_offers c =
      unless_offers (int_lt (pos 0) c) (needed (int_div least c) (int_div greatest c)) (if int_lt c (pos 0) then needed (int_div greatest c) (int_div least c) else None)
      (needed_offers (int_div least c) (int_div greatest c))
      (unless_offers (int_lt c (pos 0)) (needed (int_div greatest c) (int_div least c)) None (needed_offers (int_div greatest c) (int_div least c)) tt)

  dividend_offers : (c : ℤ) → Offers (dividend_needs c)
  dividend_offers c = unless_offers (int_eq c (negsuc 0)) (needed (least +ℤ pos 1) greatest) None (needed_offers (least +ℤ pos 1) greatest) tt

  left_offers : (op : Op) (c : ℤ) → Offers (left_needs op c)
  left_offers Add c = needed_offers (least -ℤ c) (greatest -ℤ c)
  left_offers Sub c = needed_offers (least +ℤ c) (greatest +ℤ c)
  left_offers Mul c = factor_offers c
  left_offers Div c = dividend_offers c
  left_offers Rem c = dividend_offers c

  right_offers : (op : Op) (c : ℤ) → Offers (right_needs op c)
  right_offers Add c = needed_offers (least -ℤ c) (greatest -ℤ c)
  right_offers Sub c = needed_offers (c -ℤ greatest) (c -ℤ least)
  right_offers Mul c = factor_offers c
  right_offers Div c = tt
  right_offers Rem c = tt

  divisor_offers : (op : Op) → Offers (divisor_needs op)
  divisor_offers Add = tt
  divisor_offers Sub = tt
  divisor_offers Mul = tt
  divisor_offers Div = tt
  divisor_offers Rem = tt

  -- what a lead has come to has the property, and is a range with a word
  abbrev Comes : Lead → Type 0
  Comes Nowhere = ⊤
  Comes (Asked f cond) = P f × HasWord cond
  Comes (At x want) = Wanted want

  slot_comes : (x : Slot) (want : Option Want) → Offers want → Comes (on_slot x want)
  slot_comes x (Some want) h = h
  slot_comes x None h = tt

  operand_comes : (o : CodeOperand) (want : Option Want) → Offers want → Comes (on_operand o want)
  operand_comes (Var x) want h = slot_comes x want h
  operand_comes (Lit word) want h = tt

  unless_comes : (b : Bool) (one other : Lead) → Comes one → Comes other → Comes (if b then one else other)
  unless_comes true one other h k = h
  unless_comes false one other h k = k

  answer_comes : (f : Name) (want : Want) → P f → Wanted want → Comes (on_answer f want)
  answer_comes f (Within lo hi) h k = unless_comes (is_whole lo hi) Nowhere (Asked f (Range lo hi)) tt (h, k)
  answer_comes f (Except c) h k = unless_comes (int_eq c (pos 0)) (Asked f Nonzero) Nowhere (h, tt) tt

  arith_comes : (op : Op) (left right : CodeOperand) (want : Want) → Comes (over_arith op left right want)
  arith_comes Add (Var y) (Lit c) want = slot_comes y (moved (neg_ℤ c) want) (moved_offers (neg_ℤ c) want)
  arith_comes Add (Lit c) (Var y) want = slot_comes y (moved (neg_ℤ c) want) (moved_offers (neg_ℤ c) want)
  arith_comes Add (Var y) (Var z) want = tt
  arith_comes Add (Lit c) (Lit d) want = tt
  arith_comes Sub (Var y) (Lit c) want = slot_comes y (moved c want) (moved_offers c want)
  arith_comes Sub (Lit c) (Var y) want = tt
  arith_comes Sub (Var y) (Var z) want = tt
  arith_comes Sub (Lit c) (Lit d) want = tt
  arith_comes Mul left right want = tt
  arith_comes Div left right want = tt
  arith_comes Rem left right want = tt

  simple_comes : (s : Simple) (want : Want) → AsksSimple s → Wanted want → Comes (over_simple s want)
  simple_comes (Set to from) want h k = operand_comes from (Some want) k
  simple_comes (Arith to op left right site) want h k = arith_comes op left right want
  simple_comes (Ask to f args) want h k = answer_comes f want h k
  simple_comes (Assert test site) want h k = tt

  argument_comes : (o : Option CodeOperand) (want : Want) → Wanted want → Comes (on_argument o want)
  argument_comes (Some operand) want h = operand_comes operand (Some want) h
  argument_comes None want h = tt

  call_comes : (args : List CodeOperand) (lead : Lead) → Comes lead → Comes (out_of_call args lead)
  call_comes args Nowhere h = tt
  call_comes args (Asked f cond) h = h
  call_comes args (At x want) h = argument_comes (argument args x.0) want h

  loop_comes : (index : Slot) (body : Block) (lead : Lead) → Comes lead → Comes (out_of_loop index body lead)
  loop_comes index body Nowhere h = tt
  loop_comes index body (Asked f cond) h = h
  loop_comes index body (At x want) h = unless_comes ((index.0 == x.0) || block_assigns x.0 body) Nowhere (At x want) tt h

  -- where what is wanted of a helper's result leads
  abbrev Keep : Results → Type 0
  Keep r = (callee : ℕ) (want : Want) → Wanted want → Comes (r callee want)

  module _ (r : Results) (good : Keep r) where
    assigning_comes : (s : Stmt) (want : Want) → Asks s → Wanted want → Comes (over_assigning r s want)
    assigning_comes (plain simple) want h k = simple_comes simple want h k
    assigning_comes (help to callee args) want h k = call_comes args (r callee.0 want) (good callee.0 want k)
    assigning_comes (branch test first second) want h k = tt
    assigning_comes (loop index slot bound most site body) want h k = tt

    over_comes : (s : Stmt) (lead : Lead) → Asks s → Comes lead → Comes (over r s lead)
    over_comes s Nowhere a h = tt
    over_comes s (Asked f cond) a h = h
    over_comes s (At x want) a h = unless_comes (assigns x.0 s) (over_assigning r s want) (At x want) (assigning_comes s want a h) h

    all_comes : (b : Block) (lead : Lead) → AskAll b → Comes lead → Comes (over_all r b lead)
    unfolding over_all
    all_comes [] lead a h = h
    all_comes (s ⨾ rest) lead a h = over_comes s (over_all r rest lead) a.0 (all_comes rest lead a.1 h)

    code_comes : (code : Option Code) (want : Want) → ((c : Code) → code ≡ Some c → AskAll (code_of c).block) → Wanted want → Comes (over_code r code want)
    code_comes (Some code) want a h = all_comes (code_of code).block (on_operand code.result (Some want)) (a code refl) (operand_comes code.result (Some want) h)
    code_comes None want a h = tt

  -- each of them
  abbrev Come : List SiteLead → Type 0
  Come [] = ⊤
  Come (l ∷ leads) = Comes l.lead × Come leads

  one_comes : (site : SiteId) (lead : Lead) → Comes lead → Come (lead_of site lead)
  one_comes site Nowhere h = tt
  one_comes site (Asked f cond) h = (h, tt)
  one_comes site (At x want) h = (h, tt)

  both_come : (xs ys : List SiteLead) → Come xs → Come ys → Come (xs ++ ys)
  both_come [] ys h k = k
  both_come (x ∷ xs) ys h k = (h.0, both_come xs ys h.1 k)

  led_come : (move : Lead → Lead) → ((lead : Lead) → Comes lead → Comes (move lead)) → (xs : List SiteLead) → Come xs → Come (led_on move xs)
  led_come move good [] h = tt
  led_come move good (x ∷ xs) h = both_come (lead_of x.site (move x.lead)) (led_on move xs) (one_comes x.site (move x.lead) (good x.lead h.0)) (led_come move good xs h.1)

  needs_come : (op : Op) (left right : CodeOperand) → Comes (arith_needs op left right)
  needs_come op (Var x) (Lit c) = slot_comes x (left_needs op c) (left_offers op c)
  needs_come op (Lit c) (Var x) = slot_comes x (right_needs op c) (right_offers op c)
  needs_come op (Var y) (Var x) = slot_comes x (divisor_needs op) (divisor_offers op)
  needs_come op (Lit c) (Lit d) = tt

  test_comes : (left : CodeOperand) (rel : Rel) (right : CodeOperand) → Comes (sides_need left rel right)
  test_comes (Var x) rel (Lit c) = slot_comes x (rel_needs rel c) (rel_offers rel c)
  test_comes (Lit c) rel (Var x) = slot_comes x (rel_needs (mirrored rel) c) (rel_offers (mirrored rel) c)
  test_comes (Var x) rel (Var y) = tt
  test_comes (Lit c) rel (Lit d) = tt

  sites_come : (proc : ProcId) (s : Simple) → Come (simple_leads proc s)
  sites_come proc (Set to from) = tt
  sites_come proc (Arith to op left right site) = one_comes (record { proc = proc; index = site }) (arith_needs op left right) (needs_come op left right)
  sites_come proc (Ask to f args) = tt
  sites_come proc (Assert test site) = one_comes (record { proc = proc; index = site }) (test_needs test) (test_comes test.left test.rel test.right)

  module _ (r : Results) (good : Keep r) (inside : Inside) (kind : (callee : ℕ) → Come (inside callee)) (p : ProcId) where
    mutual
      unfolding leads_in

      in_comes : (s : Stmt) → Asks s → Come (leads_in r inside p s)
      in_comes (plain simple) a = sites_come p simple
      in_comes (help to callee args) a = led_come (out_of_call args) (call_comes args) (inside callee.0) (kind callee.0)
      in_comes (branch test first second) a = both_come (leads_in_all r inside p first) (leads_in_all r inside p second) (in_all_comes first a.0) (in_all_comes second a.1)
      in_comes (loop index slot bound most site body) a =
          both_come (lead_of (record { proc = p; index = site }) (bound_needs bound most)) (led_on (out_of_loop index body) (leads_in_all r inside p body))
          (one_comes (record { proc = p; index = site }) (bound_needs bound most) (operand_comes bound (needed least most) (needed_offers least most)))
          (led_come (out_of_loop index body) (loop_comes index body) (leads_in_all r inside p body) (in_all_comes body a))

      in_all_comes : (b : Block) → AskAll b → Come (leads_in_all r inside p b)
      in_all_comes [] a = tt
      in_all_comes (s ⨾ rest) a =
          both_come (leads_in r inside p s) (led_on (over r s) (leads_in_all r inside p rest)) (in_comes s a.0)
          (led_come (over r s) (λ lead h. over_comes r good s lead a.0 h) (leads_in_all r inside p rest) (in_all_comes rest a.1))

  in_code_comes : (r : Results) → Keep r → (inside : Inside) → ((callee : ℕ) → Come (inside callee)) → (n : ℕ) (code : Option Code) →
      ((c : Code) → code ≡ Some c → AskAll (code_of c).block) → Come (leads_in_code r inside n code)
  in_code_comes r good inside kind n (Some code) a = in_all_comes r good inside kind (record { 0 = n }) (code_of code).block (a code refl)
  in_code_comes r good inside kind n None a = tt

  module _ (codes : List Code) (a : (m : ℕ) (c : Code) → slice_get codes m ≡ Some c → AskAll (code_of c).block) where
    results_come : (n callee : ℕ) (want : Want) → Wanted want → Comes (results codes n callee want)
    unfolding results
    results_come zero callee want h = tt
    results_come (suc n) callee want h =
        unless_comes (callee == n) (over_code (results codes n) (slice_get codes n) want) (results codes n callee want)
        (code_comes (results codes n) (results_come n) (slice_get codes n) want (a n) h) (results_come n callee want h)

    choice_comes : (b : Bool) (one other : List SiteLead) → Come one → Come other → Come (if b then one else other)
    choice_comes true one other h k = h
    choice_comes false one other h k = k

    insides_come : (n callee : ℕ) → Come (insides codes n callee)
    unfolding insides
    insides_come zero callee = tt
    insides_come (suc n) callee =
        choice_comes (callee == n) (proc_leads codes n) (insides codes n callee)
        (in_code_comes (results codes n) (results_come n) (insides codes n) (insides_come n) n (slice_get codes n) (a n)) (insides_come n callee)

    proc_comes : (n : ℕ) → Come (proc_leads codes n)
    proc_comes n = in_code_comes (results codes n) (results_come n) (insides codes n) (insides_come n) n (slice_get codes n) (a n)

  -- the names of what is found have the property, and its ranges have words
  abbrev pub Named : List Found → Type 0
  Named [] = ⊤
  Named (f ∷ found) = (P f.name × HasWord f.cond) × Named found

  asked_named : (leads : List SiteLead) → Come leads → Named (filter_map asked leads)
  asked_named [] h = tt
  asked_named (l ∷ leads) h = by l.site l.lead h.0 (asked_named leads h.1)
    where
      by : (site : SiteId) (lead : Lead) → Comes lead → Named (filter_map asked leads) → Named (filter_map asked (record { site = site; lead = lead } ∷ leads))
      by site Nowhere k rest = rest
      by site (Asked f cond) k rest = (k, rest)
      by site (At x want) k rest = rest

  unless_named : (b : Bool) (f : Found) (found : List Found) → P f.name × HasWord f.cond → Named found → Named (if b then f ∷ found else found)
  unless_named true f found h k = (h, k)
  unless_named false f found h k = k

  filter_named : (p : Found → Bool) (found : List Found) → Named found → Named (filter p found)
  filter_named p [] h = tt
  filter_named p (f ∷ found) h = unless_named (p f) f (filter p found) h.0 (filter_named p found h.1)

  firsts_named : (found : List Found) → Named found → Named (firsts same_found found)
  firsts_named [] h = tt
  firsts_named (f ∷ found) h = (h.0, filter_named (λ g. not (same_found f g)) (firsts same_found found) (firsts_named found h.1))

  take_named : (n : ℕ) (found : List Found) → Named found → Named (take n found)
  take_named zero [] h = tt
  take_named zero (f ∷ found) h = tt
  take_named (suc n) [] h = tt
  take_named (suc n) (f ∷ found) h = (h.0, take_named n found h.1)

  demand_named : (found : List Found) (demands : List Demand) (k : ℕ) (d : Demand) → Named found → AllZip IsDemand found demands → slice_get demands k ≡ Some d → P d.name
  demand_named [] [] k d h z e = absurd (cc)
  demand_named [] (x ∷ demands) k d h z e = absurd z
  demand_named (f ∷ found) [] k d h z e = absurd z
  demand_named (f ∷ found) (x ∷ demands) zero d h z e = let same : x ≡ d = cc in subst P (sym z.0.name ∙ ap (λ (y : Demand). y.name) same) h.0.0
  demand_named (f ∷ found) (x ∷ demands) (suc k) d h z e = demand_named found demands k d h.1 z.1 e

pub first_named : (P : Name → Type 0) (s : Resolution) (n : ℕ) → ((m : ℕ) (c : Code) → slice_get s.codes m ≡ Some c → AskAll P (code_of c).block) → Named P (first_wanted s n)
first_named P s n asks =
    take_named P 32 (firsts same_found (wanted_by s.codes n)) (firsts_named P (wanted_by s.codes n) (asked_named P (proc_leads s.codes n) (proc_comes P s.codes asks n)))

pub on_outside_names : (s : Resolution) (n : ℕ) (demands : List Demand) (demand : Demand) → IsResolution s → AreDemands s n demands → Contains demands demand → Contains (outsides (tree_of s)) demand.name
on_outside_names s n demands demand is h there =
    let P : Name → Type 0 = λ x. Contains (outsides (tree_of s)) x in
    let asks : (m : ℕ) (c : Code) → slice_get s.codes m ≡ Some c → AskAll P (code_of c).block =
    λ m c at. let code = is.resolves m c at in item_asks P (tree_of s) code.before code.item code.after (code_of c) (λ x k. k) code.parts code.resolves in
    let place = contains_at demands demand there in
    demand_named P (first_wanted s n) demands place.0 demand (first_named P s n asks) h place.1
