-- What is told of a limit is determined by the item that is over it.
use Rattle.std.proofs.Common.{◌≡◌, ℕ, ◌+◌, ◌<◌, ◌≤◌, ◌==◌, nat_lt, min, List, [], ◌∷◌, length, map, refl, sym, ap, subst, arith, ◌∙◌, ⊎_elim, if◌then◌else◌}
use Rattle.std.specs.Bool.{⊤}
use Rattle.vmv_tree.specs.declared.defect.Defect.{Defect}
use Rattle.vmv_tree.specs.declared.defect.Defect.TheVariants.{UnknownName, Repeated, ArityWrong, IndexAssigned, RangeEmpty, Limit}
use Rattle.vmv_tree.specs.declared.name.Name.{Name}
use Rattle.vmv_tree.specs.declared.tree.Param.{Param}
use Rattle.vmv_tree.specs.Tree.{[], Body, Item, outside, helper, entry}
use Rattle.vmv_tree.specs.Run.{turns_of}
use Rattle.vmv_tree.specs.Mentions.{item_mentions}
use Rattle.vmv_tree.specs.Limits.{outside_count, helper_count, entry_count, variables, block_statements, block_nesting, helper_depth, entry_numbers, distinct, call_paths, unrolled_steps, unrolled_calls}
use Rattle.vmv_tree.specs.Valid.{Over, TooMany, InProcedure, InEntry, InItem, InItems, HasDefect, FirstDefect, rank}
use Rattle.vmv_source_laws.proofs.Plain.{IsPlain, in_names, in_params, in_body}

-- by the number of a limit: how many there are, and how many it allows
abbrev Numbers : Type 0
Numbers = ℕ → ℕ × ℕ

abbrev capped : ℕ → ℕ
capped n = min n 1000000000

abbrev procedure_numbers : List Name → Body → Numbers
procedure_numbers params body which =
    if which == 5 then (capped (variables params body), 16)
    else (if which == 6 then (capped (block_statements body.block), 2000) else (capped (block_nesting body.block), 8))

abbrev entry_limits : List Item → List Param → Body → Numbers
entry_limits above params body which =
    if which == 9 then (capped (distinct (entry_numbers above params body)), 256)
    else (if which == 10 then (capped (call_paths above body), 1024)
    else (if which == 11 then (capped (unrolled_steps above body), 100000) else (capped (unrolled_calls above body), 10000)))

-- those of an item
abbrev item_numbers : (program above : List Item) → Item → Numbers
item_numbers program above (outside name arity) which = if which == 1 then (capped (outside_count program), 64) else (capped (turns_of arity), 16)
item_numbers program above (helper name params body) which =
    if which == 2 then (capped (helper_count program), 64)
    else (if which == 8 then (capped (helper_depth above body), 16) else procedure_numbers params body which)
item_numbers program above (entry name params body) which =
    if which == 3 then (capped (entry_count program), 64)
    else (if nat_lt 8 which then entry_limits above params body which else procedure_numbers (map (λ p. p.name) params) body which)

-- a limit has a number from 1 on, stands at this mention, and tells these numbers
abbrev IsTold : Numbers → (k m : ℕ) → Defect → Type 0
IsTold at k m UnknownName = ⊤
IsTold at k m Repeated = ⊤
IsTold at k m ArityWrong = ⊤
IsTold at k m IndexAssigned = ⊤
IsTold at k m RangeEmpty = ⊤
IsTold at k m (Limit which found most) = (1 ≤ which) × (m ≡ k) × (found ≡ (at which).0) × (most ≡ (at which).1)

plain_told : (at : Numbers) (k m : ℕ) (d : Defect) → IsPlain d → IsTold at k m d
plain_told at k m UnknownName h = tt
plain_told at k m Repeated h = tt
plain_told at k m ArityWrong h = tt
plain_told at k m IndexAssigned h = tt
plain_told at k m RangeEmpty h = tt
plain_told at k m (Limit which found most) h = absurd h

limit_told : (at : Numbers) (k m which found most : ℕ) (d : Defect) → 1 ≤ which → at which ≡ (found, most) → m ≡ k → d ≡ Limit which found most → IsTold at k m d
limit_told at k m which found most d one e place is =
    subst (IsTold at k m) (sym is) (one, place, sym (ap (λ (p : ℕ × ℕ). p.0) e), sym (ap (λ (p : ℕ × ℕ). p.1) e))

in_procedure : (at : Numbers) (k m : ℕ) (d : Defect) (params : List Name) (body : Body) → at 5 ≡ procedure_numbers params body 5 → at 6 ≡ procedure_numbers params body 6 → at 7 ≡ procedure_numbers params body 7
    → InProcedure k params body m d → IsTold at k m d
in_procedure at k m d params body five six seven h =
    ⊎_elim (λ (a : Over k 5 (variables params body) 16 m d). limit_told at k m 5 (capped (variables params body)) 16 d (omega arith) five a.0 a.1)
    (λ b. ⊎_elim (λ (a : Over k 6 (block_statements body.block) 2000 m d). limit_told at k m 6 (capped (block_statements body.block)) 2000 d (omega arith) six a.0 a.1)
    (λ (a : Over k 7 (block_nesting body.block) 8 m d). limit_told at k m 7 (capped (block_nesting body.block)) 8 d (omega arith) seven a.0 a.1) b) h

in_entry : (at : Numbers) (above : List Item) (k m : ℕ) (d : Defect) (params : List Param) (body : Body) → at 9 ≡ entry_limits above params body 9 → at 10 ≡ entry_limits above params body 10
    → at 11 ≡ entry_limits above params body 11 → at 12 ≡ entry_limits above params body 12 → InEntry above k params body m d → IsTold at k m d
in_entry at above k m d params body nine ten eleven twelve h =
    ⊎_elim (λ (a : Over k 9 (distinct (entry_numbers above params body)) 256 m d). limit_told at k m 9 (capped (distinct (entry_numbers above params body))) 256 d (omega arith) nine a.0 a.1)
    (λ b. ⊎_elim (λ (a : Over k 10 (call_paths above body) 1024 m d). limit_told at k m 10 (capped (call_paths above body)) 1024 d (omega arith) ten a.0 a.1)
    (λ c. ⊎_elim (λ (a : Over k 11 (unrolled_steps above body) 100000 m d). limit_told at k m 11 (capped (unrolled_steps above body)) 100000 d (omega arith) eleven a.0 a.1)
    (λ (a : Over k 12 (unrolled_calls above body) 10000 m d). limit_told at k m 12 (capped (unrolled_calls above body)) 10000 d (omega arith) twelve a.0 a.1) c) b) h

in_item : (program above : List Item) (k m : ℕ) (d : Defect) (item : Item) → InItem program above k item m d → IsTold (item_numbers program above item) k m d
in_item program above k m d (outside name arity) h =
    let at = item_numbers program above (outside name arity) in
    ⊎_elim (λ a. plain_told at k m d (subst IsPlain (sym a.1) tt))
    (λ b. ⊎_elim (λ (a : TooMany k 1 (outside_count program) (outside_count above) m d). limit_told at k m 1 (capped (outside_count program)) 64 d (omega arith) refl a.0 a.1)
    (λ (a : Over k 4 (turns_of arity) 16 m d). limit_told at k m 4 (capped (turns_of arity)) 16 d (omega arith) refl a.0 a.1) b) h
in_item program above k m d (helper name params body) h =
    let at = item_numbers program above (helper name params body) in
    ⊎_elim (λ a. plain_told at k m d (subst IsPlain (sym a.1) tt))
    (λ b. ⊎_elim (λ (a : TooMany k 2 (helper_count program) (helper_count above) m d). limit_told at k m 2 (capped (helper_count program)) 64 d (omega arith) refl a.0 a.1)
    (λ b. ⊎_elim (λ a. in_procedure at k m d params body refl refl refl a)
    (λ b. ⊎_elim (λ (a : Over k 8 (helper_depth above body) 16 m d). limit_told at k m 8 (capped (helper_depth above body)) 16 d (omega arith) refl a.0 a.1)
    (λ b. ⊎_elim (λ a. plain_told at k m d (in_names (k + 1) m d [] params a))
    (λ a. plain_told at k m d (in_body above (k + 1 + length params) m d params body a)) b) b) b) b) h
in_item program above k m d (entry name params body) h =
    let at = item_numbers program above (entry name params body) in
    ⊎_elim (λ a. plain_told at k m d (subst IsPlain (sym a.1) tt))
    (λ b. ⊎_elim (λ (a : TooMany k 3 (entry_count program) (entry_count above) m d). limit_told at k m 3 (capped (entry_count program)) 64 d (omega arith) refl a.0 a.1)
    (λ b. ⊎_elim (λ a. in_procedure at k m d (map (λ p. p.name) params) body refl refl refl a)
    (λ b. ⊎_elim (λ a. in_entry at above k m d params body refl refl refl refl a)
    (λ b. ⊎_elim (λ a. plain_told at k m d (in_params (k + 1) m d [] params a))
    (λ a. plain_told at k m d (in_body above (k + 1 + length params) m d (map (λ p. p.name) params) body a)) b) b) b) b) h

-- a limit stands at this mention or behind it, and has a number from 1 on
abbrev IsFrom : (k m : ℕ) → Defect → Type 0
IsFrom k m UnknownName = ⊤
IsFrom k m Repeated = ⊤
IsFrom k m ArityWrong = ⊤
IsFrom k m IndexAssigned = ⊤
IsFrom k m RangeEmpty = ⊤
IsFrom k m (Limit which found most) = (1 ≤ which) × (k ≤ m)

told_from : (at : Numbers) (k m : ℕ) (d : Defect) → IsTold at k m d → IsFrom k m d
told_from at k m UnknownName h = tt
told_from at k m Repeated h = tt
told_from at k m ArityWrong h = tt
told_from at k m IndexAssigned h = tt
told_from at k m RangeEmpty h = tt
told_from at k m (Limit which found most) h = let e = h.1 in (h.0, omega (arith, e))

earlier_from : (k n m : ℕ) (d : Defect) → k ≤ n → IsFrom n m d → IsFrom k m d
earlier_from k n m UnknownName le h = tt
earlier_from k n m Repeated le h = tt
earlier_from k n m ArityWrong le h = tt
earlier_from k n m IndexAssigned le h = tt
earlier_from k n m RangeEmpty le h = tt
earlier_from k n m (Limit which found most) le h = let e = h.1 in (h.0, omega (arith, e, le))

in_items : (program above : List Item) (k m : ℕ) (d : Defect) (items : List Item) → InItems program above k items m d → IsFrom k m d
in_items program above k m d [] h = absurd h
in_items program above k m d (item ∷ items) h =
    ⊎_elim (λ a. told_from (item_numbers program above item) k m d (in_item program above k m d item a))
    (λ b. earlier_from k (k + item_mentions item) m d (omega arith) (in_items program (item ∷ above) (k + item_mentions item) m d items b)) h

-- two limits of one number tell the same
abbrev AreAlike : Defect → Defect → Type 0
AreAlike (Limit which found most) (Limit which' found' most') = which ≡ which' → (found ≡ found') × (most ≡ most')
AreAlike d e = ⊤

told_alike : (at : Numbers) (k m : ℕ) (d e : Defect) → IsTold at k m d → IsTold at k m e → AreAlike d e
told_alike at k m (Limit which found most) (Limit which' found' most') h g = λ same.
    (h.2 ∙ (ap (λ w. (at w).0) same ∙ sym g.2), h.3 ∙ (ap (λ w. (at w).1) same ∙ sym g.3))
told_alike at k m d e h g = tt

apart_alike : (at : Numbers) (k n m : ℕ) (d e : Defect) → k < n → IsTold at k m d → IsFrom n m e → AreAlike d e
apart_alike at k n m (Limit which found most) (Limit which' found' most') less h g = λ same. absurd (let a = h.1 in let b = g.1 in omega (arith, a, b, less))
apart_alike at k n m d e less h g = tt

behind_alike : (at : Numbers) (k n m : ℕ) (e d : Defect) → k < n → IsTold at k m d → IsFrom n m e → AreAlike e d
behind_alike at k n m (Limit which' found' most') (Limit which found most) less h g = λ same. absurd (let a = h.1 in let b = g.1 in omega (arith, a, b, less))
behind_alike at k n m e d less h g = tt

item_has_one : (item : Item) → 1 ≤ item_mentions item
item_has_one (outside name arity) = omega arith
item_has_one (helper name params body) = omega arith
item_has_one (entry name params body) = omega arith

-- at one mention
alike : (program above : List Item) (k m : ℕ) (d e : Defect) (items : List Item) → InItems program above k items m d → InItems program above k items m e → AreAlike d e
alike program above k m d e [] h g = absurd h
alike program above k m d e (item ∷ items) h g =
    let at = item_numbers program above item in
    let next = k + item_mentions item in
    let one = item_has_one item in
    let less : k < next = omega (arith, one) in
    ⊎_elim
    (λ a. ⊎_elim (λ a'. told_alike at k m d e (in_item program above k m d item a) (in_item program above k m e item a'))
    (λ b'. apart_alike at k next m d e less (in_item program above k m d item a) (in_items program (item ∷ above) next m e items b')) g)
    (λ b. ⊎_elim (λ a'. behind_alike at k next m d e less (in_item program above k m e item a') (in_items program (item ∷ above) next m d items b))
    (λ b'. alike program (item ∷ above) next m d e items b b') g)
    h

-- defects of one rank that are alike are the same
same_rank : (k m : ℕ) (d e : Defect) → IsFrom k m d → IsFrom k m e → AreAlike d e → rank d ≡ rank e → d ≡ e
same_rank k m (Limit which found most) (Limit which' found' most') h g alike r =
    let w : which ≡ which' = omega (arith, r) in
    let parts = alike w in
    λ i. Limit (w i) (parts.0 i) (parts.1 i)
same_rank k m (Limit which found most) UnknownName h g alike r = absurd (omega (arith, r))
same_rank k m (Limit which found most) Repeated h g alike r = absurd (omega (arith, r))
same_rank k m (Limit which found most) ArityWrong h g alike r = absurd (omega (arith, r))
same_rank k m (Limit which found most) IndexAssigned h g alike r = absurd (omega (arith, r))
same_rank k m (Limit which found most) RangeEmpty h g alike r = absurd (let one = h.0 in omega (arith, r, one))
same_rank k m UnknownName (Limit which found most) h g alike r = absurd (omega (arith, r))
same_rank k m Repeated (Limit which found most) h g alike r = absurd (omega (arith, r))
same_rank k m ArityWrong (Limit which found most) h g alike r = absurd (omega (arith, r))
same_rank k m IndexAssigned (Limit which found most) h g alike r = absurd (omega (arith, r))
same_rank k m RangeEmpty (Limit which found most) h g alike r = absurd (let one = g.0 in omega (arith, r, one))
same_rank k m UnknownName UnknownName h g alike r = refl
same_rank k m Repeated Repeated h g alike r = refl
same_rank k m ArityWrong ArityWrong h g alike r = refl
same_rank k m IndexAssigned IndexAssigned h g alike r = refl
same_rank k m RangeEmpty RangeEmpty h g alike r = refl
same_rank k m d e h g alike r = absurd (omega (arith, r))

-- a program has one first defect
pub first_once : (program : List Item) (m n : ℕ) (d e : Defect) → FirstDefect program m d → FirstDefect program n e → (m ≡ n) × (d ≡ e)
first_once program m n d e h g =
    let before = h.first n e g.there in
    let behind = g.first m d h.there in
    let place : m ≡ n = omega (arith, before, behind) in
    let there : HasDefect program m e = subst (λ k. HasDefect program k e) (sym place) g.there in
    let low = h.least e there in
    let high = g.least d (subst (λ k. HasDefect program k d) place h.there) in
    let same : rank d ≡ rank e = omega (arith, low, high) in
    (place, same_rank 0 m d e (in_items program [] 0 m d program h.there) (in_items program [] 0 m e program there) (alike program [] 0 m d e program h.there there) same)
