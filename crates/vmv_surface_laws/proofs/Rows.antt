-- Core statements in a row: blocks that are joined, and a statement alone.
use Rattle.std.proofs.Common.{◌≡◌, inl, inr, ℕ, ◌+◌, [], ◌++◌, refl, sym, ap, subst, arith, ◌∙◌, append-nil, append_assoc}
use Rattle.vmv_tree.specs.declared.name.Name.{Name}
use Rattle.vmv_tree.specs.Tree.{Stmt, Block, [], ◌⨾◌}
use Rattle.vmv_tree.specs.Run.{Valuation, Answers, End, next, End.fail as stopped, Does, Ends, IsFail, InARow, Calls, Runs, RunsAll, sites, block_sites}
use Rattle.vmv_surface.specs.Lower.{◌⧺◌}
use Rattle.vmv_surface_laws.proofs.Same.{Both}

module _ (one two three : Does) (v : Valuation) where
  to_right : (a : Answers) (e : End) → InARow (InARow one two) three v a e → InARow one (InARow two three) v a e
  to_right a e (inl (inl (x, f), g)) = inl (x, f)
  to_right a e (inl (inr (m, u, r, x, y, is), g)) = inr (m, u, r, x, inl (y, g), is)
  to_right a e (inr (m, u, r, inl (x, f), z, is)) = absurd f
  to_right a e (inr (m, u, r, inr (n, u', r', x, y, is'), z, is)) =
      inr (n, u', r' ++ r, x, inr (m, r', r, y, z, refl), is ∙ ap (λ t. t ++ r) is' ∙ append_assoc u' r' r)

  to_left : (a : Answers) (e : End) → InARow one (InARow two three) v a e → InARow (InARow one two) three v a e
  to_left a e (inl (x, f)) = inl (inl (x, f), f)
  to_left a e (inr (m, u, r, x, inl (y, f), is)) = inl (inr (m, u, r, x, y, is), f)
  to_left a e (inr (m, u, r, x, inr (n, u', r', y, z, is'), is)) =
      inr (n, u ++ u', r', inr (m, u, u', x, y, refl), z, is ∙ ap (λ t. u ++ t) is' ∙ sym (append_assoc u u' r'))

second_to : (one two other : Does) (v : Valuation) → ((w : Valuation) (a : Answers) (e : End) → two w a e → other w a e) → (a : Answers) (e : End) → InARow one two v a e → InARow one other v a e
second_to one two other v f a e (inl h) = inl h
second_to one two other v f a e (inr (m, u, r, x, y, is)) = inr (m, u, r, x, f m r e y, is)

module _ (one : Does) (v : Valuation) where
  bare_to : (a : Answers) (e : End) → InARow one (λ u a e. Ends a e (next u)) v a e → one v a e
  bare_to a e (inl (h, f)) = h
  bare_to a e (inr (m, u, r, h, (p, q), is)) =
      let all : a ≡ u = is ∙ ap (λ t. u ++ t) p ∙ append-nil u in
      subst (λ t. one v t e) (sym all) (subst (λ t. one v u t) (sym q) h)

  bare_from : (a : Answers) (e : End) → one v a e → InARow one (λ u a e. Ends a e (next u)) v a e
  bare_from a (next w) h = inr (w, a, [], h, (refl, refl), sym (append-nil a))
  bare_from a (stopped t) h = inl (h, tt)

  -- nothing behind it
  pub bare : Both (InARow one (λ u a e. Ends a e (next u)) v) (one v)
  bare = record { to = bare_to; from = bare_from }

module _ (calls : Calls) (proc : Name) where
  nothing_to : (k : ℕ) (b : Block) (v : Valuation) (a : Answers) (e : End) → InARow (RunsAll calls proc k []) (RunsAll calls proc k b) v a e → RunsAll calls proc k b v a e
  nothing_to k b v a e (inl (h, f)) = absurd (subst IsFail h.1 f)
  nothing_to k b v a e (inr (m, u, r, h, x, is)) =
      let here : m ≡ v = cc h.1 in
      let all : a ≡ r = is ∙ ap (λ t. t ++ r) h.0 in
      subst (λ t. RunsAll calls proc k b v t e) (sym all) (subst (λ t. RunsAll calls proc k b t r e) here x)

  pub joined_to : (k j : ℕ) (x y : Block) → j ≡ k + block_sites x → (v : Valuation) (a : Answers) (e : End) → InARow (RunsAll calls proc k x) (RunsAll calls proc j y) v a e → RunsAll calls proc k (x ⧺ y) v a e
  joined_to k j [] y is v a e h = nothing_to k y v a e (subst (λ i. InARow (RunsAll calls proc k []) (RunsAll calls proc i y) v a e) {x = j} {y = k} (omega (arith, is)) h)
  joined_to k j (s ⨾ x) y is v a e h =
      second_to (Runs calls proc k s) (InARow (RunsAll calls proc (k + sites s) x) (RunsAll calls proc j y)) (RunsAll calls proc (k + sites s) (x ⧺ y)) v
      (joined_to (k + sites s) j x y (omega (arith, is))) a e (to_right (Runs calls proc k s) (RunsAll calls proc (k + sites s) x) (RunsAll calls proc j y) v a e h)

  pub joined_from : (k j : ℕ) (x y : Block) → j ≡ k + block_sites x → (v : Valuation) (a : Answers) (e : End) → RunsAll calls proc k (x ⧺ y) v a e → InARow (RunsAll calls proc k x) (RunsAll calls proc j y) v a e
  joined_from k j [] y is v a e h = inr (v, [], a, (refl, refl), subst (λ i. RunsAll calls proc i y v a e) {x = k} {y = j} (omega (arith, is)) h, refl)
  joined_from k j (s ⨾ x) y is v a e h =
      to_left (Runs calls proc k s) (RunsAll calls proc (k + sites s) x) (RunsAll calls proc j y) v a e
      (second_to (Runs calls proc k s) (RunsAll calls proc (k + sites s) (x ⧺ y)) (InARow (RunsAll calls proc (k + sites s) x) (RunsAll calls proc j y)) v
      (joined_from (k + sites s) j x y (omega (arith, is))) a e h)

  -- two blocks that are joined run in a row
  pub joined : (k j : ℕ) (x y : Block) → j ≡ k + block_sites x → (v : Valuation) → Both (InARow (RunsAll calls proc k x) (RunsAll calls proc j y) v) (RunsAll calls proc k (x ⧺ y) v)
  joined k j x y is v = record { to = joined_to k j x y is v; from = joined_from k j x y is v }

  alone_to : (k : ℕ) (s : Stmt) (v : Valuation) (a : Answers) (e : End) → Runs calls proc k s v a e → RunsAll calls proc k (s ⨾ []) v a e
  alone_to k s v a (next w) h = inr (w, a, [], h, (refl, refl), sym (append-nil a))
  alone_to k s v a (stopped t) h = inl (h, tt)

  alone_from : (k : ℕ) (s : Stmt) (v : Valuation) (a : Answers) (e : End) → RunsAll calls proc k (s ⨾ []) v a e → Runs calls proc k s v a e
  alone_from k s v a e (inl (h, f)) = h
  alone_from k s v a e (inr (m, u, r, h, (p, q), is)) =
      let all : a ≡ u = is ∙ ap (λ t. u ++ t) p ∙ append-nil u in
      subst (λ t. Runs calls proc k s v t e) (sym all) (subst (λ t. Runs calls proc k s v u t) (sym q) h)

  -- a block of one statement
  pub alone : (k : ℕ) (s : Stmt) (v : Valuation) → Both (Runs calls proc k s v) (RunsAll calls proc k (s ⨾ []) v)
  alone k s v = record { to = alone_to k s v; from = alone_from k s v }

pub joined_sites : (x y : Block) → block_sites (x ⧺ y) ≡ block_sites x + block_sites y
joined_sites [] y = omega arith
joined_sites (s ⨾ x) y = omega (arith, joined_sites x y)
