-- The index of a loop keeps its word in the loop's body.
use Rattle.std.proofs.Common.{◌∙◌, ◌≡◌, ◌≢◌, inl, inr, ℕ, zero, suc, ◌+◌, ℤ, pos, Bool, true, false, if◌then◌else◌, MatchBool, Option, Some, None, [], ◌∷◌, ◌++◌, refl, sym, subst, arith}
use Rattle.std.specs.Prelude.{int_lt}
use Rattle.std.specs.Bool.{⊤}
use Rattle.std.specs.List.{Contains}
use Rattle.std.proofs.lemmas.List.Elements.{Contains-append_left, Contains-push}
use Rattle.vmv_tree.specs.declared.name.Name.{Name}
use Rattle.vmv_tree.specs.declared.defect.Defect.TheVariants.{Repeated, IndexAssigned}
use Rattle.vmv_tree.specs.Words.{result_of}
use Rattle.vmv_tree.specs.Tree.{Stmt, copy, compute, call, assert, choose, repeat, Block, [], ◌⨾◌}
use Rattle.vmv_tree.specs.Run.{Valuation, Answers, End, next, End.fail, Outcome, done, Outcome.fail, Site, Does, Ends, InARow, Turns, Calls, Runs, RunsAll, value, holds, assign, set_or_fail, set_to_outcome, sites, block_sites, turns_of}
use Rattle.vmv_tree.specs.Mentions.{operand_mentions, test_mentions, mentions, block_mentions}
use Rattle.vmv_tree.specs.Limits.{indexes_of, block_indexes}
use Rattle.vmv_tree.specs.Valid.{Scope, InStmt, InBlock}
use Rattle.vmv_snapshot.proofs.Known.{Clean}
use Rattle.vmv_step.proofs.Places.{assigned_other}
use Rattle.vmv_table_sound.proofs.Lists.{further}

-- no statement in it gives the name a word
abbrev mutual
  pub Spares : Name → Stmt → Type 0
  Spares x (copy to from) = to ≢ x
  Spares x (compute to op left right) = to ≢ x
  Spares x (call to callee args) = to ≢ x
  Spares x (assert test) = ⊤
  Spares x (choose test first second) = SparesAll x first × SparesAll x second
  Spares x (repeat index bound most body) = (index ≢ x) × SparesAll x body

  pub SparesAll : Name → Block → Type 0
  SparesAll x [] = ⊤
  SparesAll x (s ⨾ rest) = Spares x s × SparesAll x rest

-- no loop in it gives its index a word
abbrev mutual
  pub IsSteady : Stmt → Type 0
  IsSteady (copy to from) = ⊤
  IsSteady (compute to op left right) = ⊤
  IsSteady (call to callee args) = ⊤
  IsSteady (assert test) = ⊤
  IsSteady (choose test first second) = AreSteady first × AreSteady second
  IsSteady (repeat index bound most body) = SparesAll index body × AreSteady body

  pub AreSteady : Block → Type 0
  AreSteady [] = ⊤
  AreSteady (s ⨾ rest) = IsSteady s × AreSteady rest

-- the name keeps its word
abbrev pub Keeps : Name → Does → Type 0
Keeps x does = (v w : Valuation) (answers : Answers) → does v answers (next w) → w x ≡ v x

next_same : (v w : Valuation) → next v ≡ next w → v ≡ w
next_same v w e = cc

kept_assigned : (x to : Name) (word : ℤ) (v w : Valuation) → to ≢ x → next w ≡ next (assign v to word) → w x ≡ v x
kept_assigned x to word v w other e =
    let same : w ≡ assign v to word = next_same w (assign v to word) e in
    let P : Valuation → Type 0 = λ u. u x ≡ v x in
    subst P (sym same) (assigned_other v to x word (λ is. other (sym is)))

kept_or_fail : (x to : Name) (site : Site) (o : Option ℤ) (v w : Valuation) → to ≢ x → next w ≡ set_or_fail v to site o → w x ≡ v x
kept_or_fail x to site (Some word) v w other e = kept_assigned x to word v w other e
kept_or_fail x to site None v w other e = absurd (cc)

kept_outcome : (x to : Name) (o : Outcome) (v w : Valuation) → to ≢ x → next w ≡ set_to_outcome v to o → w x ≡ v x
kept_outcome x to (done word) v w other e = kept_assigned x to word v w other e
kept_outcome x to (fail site) v w other e = absurd (cc)

kept_test : (x : Name) (b : Bool) (site : Site) (v w : Valuation) → next w ≡ (if b then next v else End.fail site) → w x ≡ v x
kept_test x true site v w e = let same : w ≡ v = next_same w v e in let P : Valuation → Type 0 = λ u. u x ≡ v x in subst P (sym same) refl
kept_test x false site v w e = absurd (cc)

row_keeps : (x : Name) (first second : Does) → Keeps x first → Keeps x second → Keeps x (InARow first second)
row_keeps x first second f g v w answers (inl (h, k)) = absurd k
row_keeps x first second f g v w answers (inr (mid, used, more, h, k, is)) = g mid w more k ∙ f v mid used h

part_keeps : (x : Name) (b : Bool) (one other : Does) → Keeps x one → Keeps x other → (v w : Valuation) (answers : Answers) → MatchBool b (one v answers (next w)) (other v answers (next w)) → w x ≡ v x
part_keeps x true one other f g v w answers h = f v w answers h
part_keeps x false one other f g v w answers h = g v w answers h

turns_keep : (x index : Name) (body : Does) (n i : ℕ) → index ≢ x → Keeps x body → Keeps x (Turns index body n i)
turns_keep x index body zero i other f v w answers h = let same : w ≡ v = next_same w v h.1 in let P : Valuation → Type 0 = λ u. u x ≡ v x in subst P (sym same) refl
turns_keep x index body (suc n) i other f v w answers h =
    row_keeps x (λ u. body (assign u index (pos i))) (Turns index body n (i + 1))
    (λ u t used k. f (assign u index (pos i)) t used k ∙ assigned_other u index x (pos i) (λ is. other (sym is)))
    (turns_keep x index body n (i + 1) other f) v w answers h

module _ (calls : Calls) (proc : Name) (x : Name) where
  mutual
    stmt_keeps : (k : ℕ) (s : Stmt) → Spares x s → Keeps x (Runs calls proc k s)
    stmt_keeps k (copy to from) spares v w answers h = kept_assigned x to (value v from) v w spares h.1
    stmt_keeps k (compute to op left right) spares v w answers h = kept_or_fail x to _ (result_of op (value v left) (value v right)) v w spares h.1
    stmt_keeps k (call to callee args) spares v w answers h = kept_outcome x to h.0 v w spares h.2
    stmt_keeps k (assert test) spares v w answers h = kept_test x (holds v test) _ v w h.1
    stmt_keeps k (choose test first second) spares v w answers h =
        part_keeps x (holds v test) (RunsAll calls proc k first) (RunsAll calls proc (k + block_sites first) second) (block_keeps k first spares.0) (block_keeps (k + block_sites first) second spares.1) v w answers h
    stmt_keeps k (repeat index bound most body) spares v w answers h =
        part_keeps x (int_lt most (value v bound)) (λ v a e. Ends a e (End.fail (record { proc = proc; number = k + 1 }))) (Turns index (RunsAll calls proc (k + 1) body) (turns_of (value v bound)) 0)
        (λ v w a h. let e = h.1 in absurd (cc)) (turns_keep x index (RunsAll calls proc (k + 1) body) (turns_of (value v bound)) 0 spares.0 (block_keeps (k + 1) body spares.1)) v w answers h

    pub block_keeps : (k : ℕ) (b : Block) → SparesAll x b → Keeps x (RunsAll calls proc k b)
    block_keeps k [] spares v w answers h = let same : w ≡ v = next_same w v h.1 in let P : Valuation → Type 0 = λ u. u x ≡ v x in subst P (sym same) refl
    block_keeps k (s ⨾ rest) spares v w answers h =
        row_keeps x (Runs calls proc k s) (RunsAll calls proc (k + sites s) rest) (stmt_keeps k s spares.0) (block_keeps (k + sites s) rest spares.1) v w answers h

mutual
  stmt_spares : (sight : Scope) (m : ℕ) (s : Stmt) (x : Name) → Contains sight.indexes x → Contains sight.declared x → Clean (InStmt sight m s) → Spares x s
  stmt_spares sight m (copy to from) x inside known clean = λ is. clean m IndexAssigned (inl (inr (refl, refl, subst (Contains sight.indexes) (sym is) inside)))
  stmt_spares sight m (compute to op left right) x inside known clean = λ is. clean m IndexAssigned (inl (inr (refl, refl, subst (Contains sight.indexes) (sym is) inside)))
  stmt_spares sight m (call to callee args) x inside known clean = λ is. clean m IndexAssigned (inl (inr (refl, refl, subst (Contains sight.indexes) (sym is) inside)))
  stmt_spares sight m (assert test) x inside known clean = tt
  stmt_spares sight m (choose test first second) x inside known clean = (
    block_spares sight (m + test_mentions test) first x inside known (λ n d h. clean n d (inr (inl h))),
    block_spares (record sight { declared = sight.declared ++ block_indexes first }) (m + test_mentions test + block_mentions first) second x inside (Contains-append_left sight.declared (block_indexes first) x known)
        (λ n d h. clean n d (inr (inr h))),
  )
  stmt_spares sight m (repeat index bound most body) x inside known clean = (
    λ is. clean m Repeated (inl (refl, refl, subst (Contains sight.declared) (sym is) known)),
    block_spares (record sight { visible = index ∷ sight.visible; indexes = index ∷ sight.indexes; declared = sight.declared ++ index ∷ [] }) (m + 1 + operand_mentions bound) body x
        (further index sight.indexes x inside) (Contains-append_left sight.declared (index ∷ []) x known) (λ n d h. clean n d (inr (inr h))),
  )

  block_spares : (sight : Scope) (m : ℕ) (b : Block) (x : Name) → Contains sight.indexes x → Contains sight.declared x → Clean (InBlock sight m b) → SparesAll x b
  block_spares sight m [] x inside known clean = tt
  block_spares sight m (s ⨾ rest) x inside known clean = (
    stmt_spares sight m s x inside known (λ n d h. clean n d (inl h)),
    block_spares (record sight { declared = sight.declared ++ indexes_of s }) (m + mentions s) rest x inside (Contains-append_left sight.declared (indexes_of s) x known) (λ n d h. clean n d (inr h)),
  )

mutual
  stmt_steady : (sight : Scope) (m : ℕ) (s : Stmt) → Clean (InStmt sight m s) → IsSteady s
  stmt_steady sight m (copy to from) clean = tt
  stmt_steady sight m (compute to op left right) clean = tt
  stmt_steady sight m (call to callee args) clean = tt
  stmt_steady sight m (assert test) clean = tt
  stmt_steady sight m (choose test first second) clean = (
    block_steady sight (m + test_mentions test) first (λ n d h. clean n d (inr (inl h))),
    block_steady (record sight { declared = sight.declared ++ block_indexes first }) (m + test_mentions test + block_mentions first) second (λ n d h. clean n d (inr (inr h))),
  )
  stmt_steady sight m (repeat index bound most body) clean =
      let inner : Scope = record sight { visible = index ∷ sight.visible; indexes = index ∷ sight.indexes; declared = sight.declared ++ index ∷ [] } in
      let inside : Clean (InBlock inner (m + 1 + operand_mentions bound) body) = λ n d h. clean n d (inr (inr h)) in (
        block_spares inner (m + 1 + operand_mentions bound) body index (0, omega arith, refl) (Contains-push sight.declared index) inside,
        block_steady inner (m + 1 + operand_mentions bound) body inside,
      )

  pub block_steady : (sight : Scope) (m : ℕ) (b : Block) → Clean (InBlock sight m b) → AreSteady b
  block_steady sight m [] clean = tt
  block_steady sight m (s ⨾ rest) clean = (
    stmt_steady sight m s (λ n d h. clean n d (inl h)),
    block_steady (record sight { declared = sight.declared ++ indexes_of s }) (m + mentions s) rest (λ n d h. clean n d (inr h)),
  )
