-- An expression is evaluated as its lowered statements compute it.
use Rattle.std.proofs.Common.{◌≡◌, ℕ, ◌+◌, ℤ, pos, List, [], ◌∷◌, map, refl, sym, ap, subst, arith, ◌∙◌}
use Rattle.std.specs.Prelude.{Option, Some, None}
use Rattle.vmv_tree.specs.declared.name.Name.{Name}
use Rattle.vmv_tree.specs.declared.tree.Operand.{Operand}
use Rattle.vmv_tree.specs.declared.tree.Operand.TheVariants.{Lit}
use Rattle.vmv_tree.specs.declared.tree.Op.{Op}
use Rattle.vmv_tree.specs.declared.tree.Op.TheVariants.{Sub}
use Rattle.vmv_tree.specs.Words.{result_of}
use Rattle.vmv_tree.specs.Tree as core
use Rattle.vmv_tree.specs.Tree.{[], ◌⨾◌}
use Rattle.vmv_tree.specs.Run.{Valuation, Site, next, Outcome, done, Outcome.fail as ended, Does, Ends, InARow, Calls, Runs, RunsAll, assign, value, set_or_fail, set_to_outcome, block_sites}
use Rattle.vmv_surface.specs.Surface.{Expr, literal, variable, operate, minus, ask, Args, no_args, arg, HasPlainNames, ArgsHavePlainNames}
use Rattle.vmv_surface.specs.Runs.{Got, gives, fails, May, Only, Then, word_or_failure, got_of, expr_sites, args_sites, Evaluates, EvaluatesAll}
use Rattle.vmv_surface.specs.Temporaries.{temporary}
use Rattle.vmv_surface.specs.Lower.{◌⧺◌, behind, operand, operands, computed, all_computed}
use Rattle.vmv_surface_laws.proofs.Same.{Same, Ended, only_same, row_same, moved}
use Rattle.vmv_surface_laws.proofs.Rows.{joined, alone, bare, joined_sites}
use Rattle.vmv_surface_laws.proofs.Valuations.{Agree, IsBelow, Keeps, Computes, assign_here, assign_past, still, agree_still, operand_worth, operand_still, behind_above, below_above}

-- statements have the sites of the expression that they compute
mutual
  pub computed_sites : (d : ℕ) (to : Name) (e : Expr) → block_sites (computed d to e) ≡ expr_sites e
  computed_sites d to (literal word) = refl
  computed_sites d to (variable x) = refl
  computed_sites d to (operate op left right) =
      let last : core.Block = core.compute to op (operand d left) (operand (behind d left) right) ⨾ [] in
      omega (
        arith,
        joined_sites (computed d (temporary (d + 1)) left) (computed (behind d left) (temporary (behind d left + 1)) right ⧺ last),
        joined_sites (computed (behind d left) (temporary (behind d left + 1)) right) last,
        computed_sites d (temporary (d + 1)) left,
        computed_sites (behind d left) (temporary (behind d left + 1)) right,
      )
  computed_sites d to (minus inner) =
      let last : core.Block = core.compute to Sub (Lit (pos 0)) (operand d inner) ⨾ [] in
      omega (arith, joined_sites (computed d (temporary (d + 1)) inner) last, computed_sites d (temporary (d + 1)) inner)
  computed_sites d to (ask callee args) =
      let last : core.Block = core.call to callee (operands d args) ⨾ [] in
      omega (arith, joined_sites (all_computed d args) last, all_computed_sites d args)

  pub all_computed_sites : (d : ℕ) (args : Args) → block_sites (all_computed d args) ≡ args_sites args
  all_computed_sites d no_args = refl
  all_computed_sites d (arg first rest) =
      omega (arith, joined_sites (computed d (temporary (d + 1)) first) (all_computed (behind d first) rest), computed_sites d (temporary (d + 1)) first, all_computed_sites (behind d first) rest)

-- once a name is set to the word, all else is as it was
set_to : (d : ℕ) (to : Name) (w u : Valuation) (word : ℤ) → ((x : Name) → IsBelow d x → u x ≡ w x) → Keeps d to w (assign u to word)
set_to d to w u word h x other below = assign_past u to word x other ∙ h x below

module _ (calls : Calls) (proc : Name) where
  abbrev site_at : ℕ → Site
  site_at k = record { proc = proc; number = k + 1 }

  -- the result of an operator, where its operands have these words
  result_like : (A : ℤ → Valuation → Type 0) (to : Name) (u : Valuation) (k j : ℕ) → j ≡ k → ((word : ℤ) → A word (assign u to word)) → (r : Option ℤ)
      → Ended ℤ A (word_or_failure (site_at k) r) (set_or_fail u to (site_at j) r)
  result_like A to u k j is h (Some word) = h word
  result_like A to u k j is h None = ap site_at (sym is)

  compute_same : (A : ℤ → Valuation → Type 0) (to : Name) (op : Op) (left right : Operand) (u : Valuation) (k j : ℕ) (x y : ℤ) → j ≡ k → value u left ≡ x → value u right ≡ y
      → ((word : ℤ) → A word (assign u to word))
      → Same (Got ℤ) (Ended ℤ A) (Only (word_or_failure (site_at k) (result_of op x y))) (RunsAll calls proc j (core.compute to op left right ⨾ []) u)
  compute_same A to op left right u k j x y is p q h =
      moved (Got ℤ) (Ended ℤ A) (Only (word_or_failure (site_at k) (result_of op x y))) (Runs calls proc j (core.compute to op left right) u) (RunsAll calls proc j (core.compute to op left right ⨾ []) u)
      (alone calls proc j (core.compute to op left right) u)
      (only_same (Got ℤ) (Ended ℤ A) (word_or_failure (site_at k) (result_of op x y)) (set_or_fail u to (site_at j) (result_of op (value u left) (value u right)))
      (subst (λ r. Ended ℤ A (word_or_failure (site_at k) r) (set_or_fail u to (site_at j) (result_of op (value u left) (value u right))))
      (λ i. result_of op (p i) (q i))
      (result_like A to u k j is h (result_of op (value u left) (value u right)))))

  -- a call of a name with the words that the operands have
  ask_same : (A : ℤ → Valuation → Type 0) (to callee : Name) (args : List Operand) (u : Valuation) (j : ℕ) (words : List ℤ) → map (value u) args ≡ words → ((word : ℤ) → A word (assign u to word))
      → Same (Got ℤ) (Ended ℤ A) (λ a r. (o : Outcome) × calls callee words a o × (r ≡ got_of o)) (RunsAll calls proc j (core.call to callee args ⨾ []) u)
  ask_same A to callee args u j words p h =
      moved (Got ℤ) (Ended ℤ A) (λ a r. (o : Outcome) × calls callee words a o × (r ≡ got_of o)) (Runs calls proc j (core.call to callee args) u) (RunsAll calls proc j (core.call to callee args ⨾ []) u)
      (alone calls proc j (core.call to callee args) u)
      (record {
        there = λ a r g. (set_to_outcome u to g.0, (g.0, subst (λ ws. calls callee ws a g.0) (sym p) g.1, refl), subst (λ t. Ended ℤ A t (set_to_outcome u to g.0)) (sym g.2) (like g.0));
        back = λ a e g. (got_of g.0, (g.0, subst (λ ws. calls callee ws a g.0) p g.1, refl), subst (λ t. Ended ℤ A (got_of g.0) t) (sym g.2) (like g.0));
      })
    where
      like : (o : Outcome) → Ended ℤ A (got_of o) (set_to_outcome u to o)
      like (done word) = h word
      like (ended site) = refl

-- a value of which another is made, without more statements
pub mapped_same : (A B : Type 0) (post : A → Valuation → Type 0) (like : B → Valuation → Type 0) (make : A → B) (first : May (Got A)) (one : Does) (v : Valuation)
    → ((x : A) (w : Valuation) → post x w → like (make x) w) → Same (Got A) (Ended A post) first (one v)
    → Same (Got B) (Ended B like) (Then fails first (λ x. Only (gives (make x)))) (one v)
mapped_same A B post like make first one v h f =
    moved (Got B) (Ended B like) (Then fails first (λ x. Only (gives (make x)))) (InARow one (λ u a e. Ends a e (next u)) v) (one v) (bare one v)
    (row_same A (Got B) post (Ended B like) fails (λ s. refl) first (λ x. Only (gives (make x))) one (λ u a e. Ends a e (next u)) v f
    (λ x w p. only_same (Got B) (Ended B like) (gives (make x)) (next w) (h x w p)))

-- what stands once arguments are computed at depth d
pub record ComputesAll (d : ℕ) (args : Args) (w : Valuation) (words : List ℤ) (u : Valuation) : Type 0 where
  pub kept : (x : Name) → IsBelow d x → u x ≡ w x
  pub worth : map (value u) (operands d args) ≡ words

module _ (calls : Calls) (proc : Name) where
  mutual
    pub expr_same : (d : ℕ) (to : Name) (e : Expr) (k j : ℕ) (v w : Valuation) → j ≡ k → HasPlainNames e → Agree v w
        → Same (Got ℤ) (Ended ℤ (Computes d to e v w)) (Evaluates calls proc k e v) (RunsAll calls proc j (computed d to e) w)
    expr_same d to (literal z) k j v w is plain agree =
        only_same (Got ℤ) (Ended ℤ (Computes d to (literal z) v w)) (gives z) (next w) (record { kept = λ x other below. refl; worth = refl })
    expr_same d to (variable name) k j v w is plain agree =
        only_same (Got ℤ) (Ended ℤ (Computes d to (variable name) v w)) (gives (v name)) (next w) (record { kept = λ x other below. refl; worth = refl })
    expr_same d to (operate op left right) k j v w is plain agree =
        let dr : ℕ = behind d left in
        let l : core.Block = computed d (temporary (d + 1)) left in
        let r : core.Block = computed dr (temporary (dr + 1)) right in
        let last : core.Block = core.compute to op (operand d left) (operand dr right) ⨾ [] in
        let A = Computes d to (operate op left right) v w in
        let k2 : ℕ = k + expr_sites left in
        let k3 : ℕ = k + expr_sites left + expr_sites right in
        let j2 : ℕ = j + block_sites l in
        let j3 : ℕ = j + block_sites l + block_sites r in
        let is2 : j2 ≡ k2 = omega (arith, is, computed_sites d (temporary (d + 1)) left) in
        let is3 : j3 ≡ k3 = omega (arith, is, computed_sites d (temporary (d + 1)) left, computed_sites dr (temporary (dr + 1)) right) in
        let go = λ (x y : ℤ). Only (word_or_failure (record { proc = proc; number = k3 + 1 }) (result_of op x y)) in
        moved (Got ℤ) (Ended ℤ A) (Evaluates calls proc k (operate op left right) v) (InARow (RunsAll calls proc j l) (RunsAll calls proc j2 (r ⧺ last)) w) (RunsAll calls proc j (l ⧺ (r ⧺ last)) w)
        (joined calls proc j j2 l (r ⧺ last) refl w)
        (row_same ℤ (Got ℤ) (Computes d (temporary (d + 1)) left v w) (Ended ℤ A) fails (λ s. refl) (Evaluates calls proc k left v) (λ x. Then fails (Evaluates calls proc k2 right v) (go x))
        (RunsAll calls proc j l) (RunsAll calls proc j2 (r ⧺ last)) w (expr_same d (temporary (d + 1)) left k j v w is plain.0 agree)
        (λ x u c.
        let agree' = agree_still d left v w x u plain.0 agree c in
        moved (Got ℤ) (Ended ℤ A) (Then fails (Evaluates calls proc k2 right v) (go x)) (InARow (RunsAll calls proc j2 r) (RunsAll calls proc j3 last) u) (RunsAll calls proc j2 (r ⧺ last) u)
        (joined calls proc j2 j3 r last refl u)
        (row_same ℤ (Got ℤ) (Computes dr (temporary (dr + 1)) right v u) (Ended ℤ A) fails (λ s. refl) (Evaluates calls proc k2 right v) (go x)
        (RunsAll calls proc j2 r) (RunsAll calls proc j3 last) u (expr_same dr (temporary (dr + 1)) right k2 j2 v u is2 plain.1 agree')
        (λ y z c'.
        let later = still dr right v u y z plain.1 agree' c' in
        compute_same calls proc A to op (operand d left) (operand dr right) z k3 j3 x y is3
        (operand_still d left u z plain.0 later ∙ operand_worth d left v w x u plain.0 agree c)
        (operand_worth dr right v u y z plain.1 agree' c')
        (λ word. record {
          kept = set_to d to w z word (λ name below. later name (below_above d dr name (behind_above d left) below) ∙ still d left v w x u plain.0 agree c name below);
          worth = assign_here z to word;
        })))))
    expr_same d to (minus inner) k j v w is plain agree =
        let l : core.Block = computed d (temporary (d + 1)) inner in
        let last : core.Block = core.compute to Sub (Lit (pos 0)) (operand d inner) ⨾ [] in
        let A = Computes d to (minus inner) v w in
        let k2 : ℕ = k + expr_sites inner in
        let j2 : ℕ = j + block_sites l in
        let is2 : j2 ≡ k2 = omega (arith, is, computed_sites d (temporary (d + 1)) inner) in
        moved (Got ℤ) (Ended ℤ A) (Evaluates calls proc k (minus inner) v) (InARow (RunsAll calls proc j l) (RunsAll calls proc j2 last) w) (RunsAll calls proc j (l ⧺ last) w)
        (joined calls proc j j2 l last refl w)
        (row_same ℤ (Got ℤ) (Computes d (temporary (d + 1)) inner v w) (Ended ℤ A) fails (λ s. refl) (Evaluates calls proc k inner v)
        (λ y. Only (word_or_failure (record { proc = proc; number = k2 + 1 }) (result_of Sub (pos 0) y)))
        (RunsAll calls proc j l) (RunsAll calls proc j2 last) w (expr_same d (temporary (d + 1)) inner k j v w is plain agree)
        (λ y u c.
        compute_same calls proc A to Sub (Lit (pos 0)) (operand d inner) u k2 j2 (pos 0) y is2 refl (operand_worth d inner v w y u plain agree c)
        (λ word. record { kept = set_to d to w u word (still d inner v w y u plain agree c); worth = assign_here u to word })))
    expr_same d to (ask callee args) k j v w is plain agree =
        let l : core.Block = all_computed d args in
        let last : core.Block = core.call to callee (operands d args) ⨾ [] in
        let A = Computes d to (ask callee args) v w in
        let j2 : ℕ = j + block_sites l in
        moved (Got ℤ) (Ended ℤ A) (Evaluates calls proc k (ask callee args) v) (InARow (RunsAll calls proc j l) (RunsAll calls proc j2 last) w) (RunsAll calls proc j (l ⧺ last) w)
        (joined calls proc j j2 l last refl w)
        (row_same (List ℤ) (Got ℤ) (ComputesAll d args w) (Ended ℤ A) fails (λ s. refl) (EvaluatesAll calls proc k args v)
        (λ words a r. (o : Outcome) × calls callee words a o × (r ≡ got_of o))
        (RunsAll calls proc j l) (RunsAll calls proc j2 last) w (args_same d args k j v w is plain agree)
        (λ words u c. ask_same calls proc A to callee (operands d args) u j2 words c.worth (λ word. record { kept = set_to d to w u word c.kept; worth = assign_here u to word })))

    pub args_same : (d : ℕ) (args : Args) (k j : ℕ) (v w : Valuation) → j ≡ k → ArgsHavePlainNames args → Agree v w
        → Same (Got (List ℤ)) (Ended (List ℤ) (ComputesAll d args w)) (EvaluatesAll calls proc k args v) (RunsAll calls proc j (all_computed d args) w)
    args_same d no_args k j v w is plain agree =
        only_same (Got (List ℤ)) (Ended (List ℤ) (ComputesAll d no_args w)) (gives []) (next w) (record { kept = λ x below. refl; worth = refl })
    args_same d (arg first rest) k j v w is plain agree =
        let dr : ℕ = behind d first in
        let l : core.Block = computed d (temporary (d + 1)) first in
        let r : core.Block = all_computed dr rest in
        let A = ComputesAll d (arg first rest) w in
        let k2 : ℕ = k + expr_sites first in
        let j2 : ℕ = j + block_sites l in
        let is2 : j2 ≡ k2 = omega (arith, is, computed_sites d (temporary (d + 1)) first) in
        let go = λ (x : ℤ). Then fails (EvaluatesAll calls proc k2 rest v) (λ words. Only (gives (x ∷ words))) in
        moved (Got (List ℤ)) (Ended (List ℤ) A) (EvaluatesAll calls proc k (arg first rest) v) (InARow (RunsAll calls proc j l) (RunsAll calls proc j2 r) w) (RunsAll calls proc j (l ⧺ r) w)
        (joined calls proc j j2 l r refl w)
        (row_same ℤ (Got (List ℤ)) (Computes d (temporary (d + 1)) first v w) (Ended (List ℤ) A) fails (λ s. refl) (Evaluates calls proc k first v) go
        (RunsAll calls proc j l) (RunsAll calls proc j2 r) w (expr_same d (temporary (d + 1)) first k j v w is plain.0 agree)
        (λ x u c.
        let agree' = agree_still d first v w x u plain.0 agree c in
        mapped_same (List ℤ) (List ℤ) (ComputesAll dr rest u) A (λ words. x ∷ words) (EvaluatesAll calls proc k2 rest v) (RunsAll calls proc j2 r) u
        (λ words z c'. record {
          kept = λ name below. c'.kept name (below_above d dr name (behind_above d first) below) ∙ still d first v w x u plain.0 agree c name below;
          worth = λ i. (operand_still d first u z plain.0 c'.kept ∙ operand_worth d first v w x u plain.0 agree c) i ∷ c'.worth i;
        })
        (args_same dr rest k2 j2 v u is2 plain.1 agree')))
