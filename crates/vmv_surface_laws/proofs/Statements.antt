-- A statement of the surface language does what its lowered statements do.
use Rattle.std.proofs.Common.{◌≡◌, inl, inr, ℕ, zero, suc, ◌+◌, ℤ, pos, Bool, true, false, MatchBool, [], ◌++◌, refl, sym, ap, subst, arith, ◌∙◌, append-nil, append_assoc}
use Rattle.std.specs.Prelude.{int_lt, if◌then◌else◌}
use Rattle.std.specs.Str.{bytes_eq}
use Rattle.std.proofs.lemmas.Slice.Eq.{bytes_eq-Decides}
use Rattle.vmv_tree.specs.declared.name.Name.{Name}
use Rattle.vmv_tree.specs.declared.tree.Operand.{Operand}
use Rattle.vmv_tree.specs.declared.tree.Operand.TheVariants.{Lit, Var}
use Rattle.vmv_tree.specs.Tree as core
use Rattle.vmv_tree.specs.Tree.{[], ◌⨾◌}
use Rattle.vmv_tree.specs.Run.{Valuation, Answers, Site, End, next, End.fail as stopped, Does, Ends, IsFail, InARow, Turns, turns_of, Calls, Runs, RunsAll, assign, value, block_sites}
use Rattle.vmv_surface.specs.Surface.{Expr, literal, variable, operate, minus, ask, Test, compared, negated, both, either, Stmt, set, assert, choose, repeat, Block, no_stmts, row, HasPlainNames, TestHasPlainNames, StmtHasPlainNames, BlockHasPlainNames}
use Rattle.vmv_surface.specs.Runs.{Got, gives, fails, May, Only, Then, expr_sites, test_sites, assert_sites, stmt_sites, all_sites, Evaluates, Decides, Passes, Asserts, SRuns, SRunsAll}
use Rattle.vmv_surface.specs.Temporaries.{temporary}
use Rattle.vmv_surface.specs.Lower.{◌⧺◌, operand, computed, lowered, assigned, before, standing, asserted, chosen, when, lower, lower_all}
use Rattle.vmv_surface_laws.proofs.Same.{Same, Ended, only_same, row_same, moved}
use Rattle.vmv_surface_laws.proofs.Rows.{joined, alone, bare, joined_sites}
use Rattle.vmv_surface_laws.proofs.Valuations.{Agree, IsBelow, Computes, agree_still, operand_worth, plain_below}
use Rattle.vmv_surface_laws.proofs.Expressions.{computed_sites, expr_same}
use Rattle.vmv_surface_laws.proofs.Tests.{ev_moved, Stands, before_sites, before_same, choose_same}

-- both go on, from valuations that agree, or both fail at one site
abbrev pub Alike : End → End → Type 0
Alike (next v) (next w) = Agree v w
Alike (next v) (stopped t) = ⊥
Alike (stopped s) (next w) = ⊥
Alike (stopped s) (stopped t) = s ≡ t

module _ (one two : Does) (first second : Does) (v w : Valuation) (f : Same End Alike (one v) (first w))
    (g : (x y : Valuation) → Agree x y → Same End Alike (two x) (second y)) where
  to_fail : (a : Answers) (r : End) → IsFail r → one v a r → (e : End) → first w a e → Alike r e → (e : End) × InARow first second w a e × Alike r e
  to_fail a (next x) n h (next y) k l = absurd n
  to_fail a (next x) n h (stopped t) k l = absurd n
  to_fail a (stopped s) n h (next y) k l = absurd l
  to_fail a (stopped s) n h (stopped t) k l = (stopped t, inl (k, tt), l)

  to_next : (a used more : Answers) (x : Valuation) (r : End) → a ≡ used ++ more → two x more r → (e : End) → first w used e → Alike (next x) e → (e : End) × InARow first second w a e × Alike r e
  to_next a used more x r is h (next y) k l = let d = (g x y l).there more r h in (d.0, inr (y, used, more, k, d.1, is), d.2)
  to_next a used more x r is h (stopped t) k l = absurd l

  from_fail : (a : Answers) (e : End) → IsFail e → first w a e → (r : End) → one v a r → Alike r e → (r : End) × InARow one two v a r × Alike r e
  from_fail a (next y) n h (next x) k l = absurd n
  from_fail a (next y) n h (stopped s) k l = absurd n
  from_fail a (stopped t) n h (next x) k l = absurd l
  from_fail a (stopped t) n h (stopped s) k l = (stopped s, inl (k, tt), l)

  from_next : (a used more : Answers) (y : Valuation) (e : End) → a ≡ used ++ more → second y more e → (r : End) → one v used r → Alike r (next y) → (r : End) × InARow one two v a r × Alike r e
  from_next a used more y e is h (next x) k l = let d = (g x y l).back more e h in (d.0, inr (x, used, more, k, d.1, is), d.2)
  from_next a used more y e is h (stopped s) k l = absurd l

  rows_there : (a : Answers) (r : End) → InARow one two v a r → (e : End) × InARow first second w a e × Alike r e
  rows_there a r (inl (h, n)) = let d = f.there a r h in to_fail a r n h d.0 d.1 d.2
  rows_there a r (inr (x, u, m, h, k, is)) = let d = f.there u (next x) h in to_next a u m x r is k d.0 d.1 d.2

  rows_back : (a : Answers) (e : End) → InARow first second w a e → (r : End) × InARow one two v a r × Alike r e
  rows_back a e (inl (h, n)) = let d = f.back a e h in from_fail a e n h d.0 d.1 d.2
  rows_back a e (inr (y, u, m, h, k, is)) = let d = f.back u (next y) h in from_next a u m y e is k d.0 d.1 d.2

  pub rows_same : Same End Alike (InARow one two v) (InARow first second w)
  rows_same = record { there = rows_there; back = rows_back }

agree_assign : (v w : Valuation) (to : Name) (word : ℤ) → Agree v w → Agree (assign v to word) (assign w to word)
agree_assign v w to word agree x plain = ap (λ z. if bytes_eq x to then word else z) (agree x plain)

pub turns_same : (index : Name) (one other : Does) (n i : ℕ) (v w : Valuation) → ((x y : Valuation) → Agree x y → Same End Alike (one x) (other y)) → Agree v w
    → Same End Alike (Turns index one n i v) (Turns index other n i w)
turns_same index one other zero i v w h agree = only_same End Alike (next v) (next w) agree
turns_same index one other (suc n) i v w h agree =
    rows_same (λ x. one (assign x index (pos i))) (Turns index one n (i + 1)) (λ x. other (assign x index (pos i))) (Turns index other n (i + 1)) v w
    (h (assign v index (pos i)) (assign w index (pos i)) (agree_assign v w index (pos i) agree))
    (λ x y a. turns_same index one other n (i + 1) x y h a)

-- the answers of two steps
abbrev pub then_and : May (Got Bool) → May (Got Bool) → May (Got Bool)
then_and first second = Then fails first (λ b a r. MatchBool b (second a r) (Only (gives false) a r))

-- the one where it holds, else the other
abbrev pub either_way : May (Got Bool) → May End → May End → May End
either_way ev taken left_out = Then stopped ev (λ b a e. MatchBool b (taken a e) (left_out a e))

module _ (first second : May (Got Bool)) (taken : May End) (v : Valuation) where
  out_false : (a u m n o : Answers) (e : End) → first u (gives false) → a ≡ o ++ n → o ≡ u ++ m → m ≡ [] → Only (next v) n e → either_way first (either_way second taken (Only (next v))) (Only (next v)) a e
  out_false a u m n o e h is is' p k =
      inr (false, u, n, h, k, is ∙ ap (λ t. t ++ n) (is' ∙ ap (λ t. u ++ t) p ∙ append-nil u))

  out_second : (b : Bool) (a u m n o : Answers) (e : End) (c : Bool) → first u (gives b) → MatchBool b (second m (gives c)) (Only (gives false) m (gives c)) → a ≡ o ++ n → o ≡ u ++ m
      → MatchBool c (taken n e) (Only (next v) n e) → either_way first (either_way second taken (Only (next v))) (Only (next v)) a e
  out_second true a u m n o e c h g is is' k =
      inr (true, u, m ++ n, h, inr (c, m, n, g, k, refl), is ∙ ap (λ t. t ++ n) is' ∙ append_assoc u m n)
  out_second false a u m n o e true h g is is' k = absurd (cc (g.1))
  out_second false a u m n o e false h g is is' k = out_false a u m n o e h is is' g.0 k

  out_failed : (b : Bool) (a u m : Answers) (s : Site) (e : End) → first u (gives b) → MatchBool b (second m (fails s)) (Only (gives false) m (fails s)) → a ≡ u ++ m → e ≡ stopped s
      → either_way first (either_way second taken (Only (next v))) (Only (next v)) a e
  out_failed true a u m s e h g is q = inr (true, u, m, h, inl (s, g, q), is)
  out_failed false a u m s e h g is q = absurd (cc (g.1))

  same_site : (s t : Site) (e : End) → e ≡ stopped s → ◌≡◌ {A = Got Bool} (fails s) (fails t) → e ≡ stopped t
  same_site s t e p q = cc (p, q)

  group_out : (a : Answers) (e : End) → either_way (then_and first second) taken (Only (next v)) a e → either_way first (either_way second taken (Only (next v))) (Only (next v)) a e
  group_out a e (inl (s, inl (t, h, q), p)) = inl (t, h, same_site s t e p q)
  group_out a e (inl (s, inr (b, u, m, h, g, is), p)) = out_failed b a u m s e h g is p
  group_out a e (inr (c, o, n, inl (t, h, q), k, is)) = absurd (cc q)
  group_out a e (inr (c, o, n, inr (b, u, m, h, g, is'), k, is)) = out_second b a u m n o e c h g is is' k

  in_second : (b : Bool) (a u m : Answers) (e : End) → first u (gives b) → MatchBool b (either_way second taken (Only (next v)) m e) (Only (next v) m e) → a ≡ u ++ m
      → either_way (then_and first second) taken (Only (next v)) a e
  in_second true a u m e h (inl (s, g, p)) is = inl (s, inr (true, u, m, h, g, is), p)
  in_second true a u m e h (inr (c, x, y, g, k, is')) is =
      inr (c, u ++ x, y, inr (true, u, x, h, g, refl), k, is ∙ ap (λ t. u ++ t) is' ∙ sym (append_assoc u x y))
  in_second false a u m e h k is = inr (false, u, m, inr (false, u, [], h, (refl, refl), sym (append-nil u)), k, is)

  group_in : (a : Answers) (e : End) → either_way first (either_way second taken (Only (next v))) (Only (next v)) a e → either_way (then_and first second) taken (Only (next v)) a e
  group_in a e (inl (s, h, p)) = inl (s, inl (s, h, refl), p)
  group_in a e (inr (b, u, m, h, k, is)) = in_second b a u m e h k is

-- nothing more is done with a value than to end so
mapped_end : (A : Type 0) (post : A → Valuation → Type 0) (make : A → End) (first : May (Got A)) (one : Does) (w : Valuation)
    → ((x : A) (u : Valuation) → post x u → Alike (make x) (next u)) → Same (Got A) (Ended A post) first (one w)
    → Same End Alike (Then stopped first (λ x. Only (make x))) (one w)
mapped_end A post make first one w h f =
    moved End Alike (Then stopped first (λ x. Only (make x))) (InARow one (λ u a e. Ends a e (next u)) w) (one w) (bare one w)
    (row_same A End post Alike stopped (λ s. refl) first (λ x. Only (make x)) one (λ u a e. Ends a e (next u)) w f
    (λ x u p. only_same End Alike (make x) (next u) (h x u p)))

set_case : (b : Bool) (y to : Name) (word : ℤ) (v w u : Valuation) → (b ≡ true → y ≡ to) → (b ≡ false → y ≡ to → ⊥) → u to ≡ word → ((y ≡ to → ⊥) → u y ≡ w y) → v y ≡ w y → (if b then word else v y) ≡ u y
set_case true y to word v w u p q here there agree = sym here ∙ ap u (sym (p refl))
set_case false y to word v w u p q here there agree = agree ∙ sym (there (q refl))

-- the surface's variable has the word that the core's has
set_agree : (to : Name) (word : ℤ) (v w u : Valuation) → Agree v w → u to ≡ word → ((y : Name) → (y ≡ to → ⊥) → IsBelow 0 y → u y ≡ w y) → Agree (assign v to word) u
set_agree to word v w u agree here kept y plain =
    set_case (bytes_eq y to) y to word v w u (bytes_eq-Decides y to).0 (λ e same. absurd (true_false (bytes_eq y to) ((bytes_eq-Decides y to).1 same) e)) here (λ other. kept y other (plain_below 0 y plain)) (agree y plain)
  where
    true_false : (b : Bool) → b ≡ true → b ≡ false → ⊥
    true_false b p q = cc (p, q)

pub asserted_sites : (test : Test) → block_sites (asserted test) ≡ assert_sites test
asserted_sites (both first second) = omega (arith, joined_sites (asserted first) (asserted second), asserted_sites first, asserted_sites second)
asserted_sites (compared left rel right) =
    omega (arith, joined_sites (before 0 (compared left rel right)) (core.assert (standing 0 (compared left rel right)) ⨾ []), before_sites 0 (compared left rel right))
asserted_sites (negated part) = omega (arith, joined_sites (before 0 (negated part)) (core.assert (standing 0 (negated part)) ⨾ []), before_sites 0 (negated part))
asserted_sites (either first second) =
    omega (arith, joined_sites (before 0 (either first second)) (core.assert (standing 0 (either first second)) ⨾ []), before_sites 0 (either first second))

chosen_sites : (test : Test) (first second : core.Block) → block_sites (chosen test first second) ≡ test_sites test + block_sites first + block_sites second
chosen_sites test first second = omega (arith, joined_sites (before 0 test) (core.choose (standing 0 test) first second ⨾ []), before_sites 0 test)

when_sites : (test : Test) (block : core.Block) → block_sites (when test block) ≡ test_sites test + block_sites block
when_sites (both first second) block = omega (arith, when_sites first (when second block), when_sites second block)
when_sites (compared left rel right) block = omega (arith, chosen_sites (compared left rel right) block [])
when_sites (negated part) block = omega (arith, chosen_sites (negated part) block [])
when_sites (either first second) block = omega (arith, chosen_sites (either first second) block [])

module _ (calls : Calls) (proc : Name) where
  abbrev site_at : ℕ → Site
  site_at k = record { proc = proc; number = k + 1 }

  copied_same : (to : Name) (from : Operand) (word : ℤ) (j : ℕ) (v w : Valuation) → value w from ≡ word → Agree v w
      → Same (Got ℤ) (Ended ℤ (λ x u. Agree (assign v to x) u)) (Only (gives word)) (RunsAll calls proc j (core.copy to from ⨾ []) w)
  copied_same to from word j v w is agree =
      moved (Got ℤ) (Ended ℤ (λ x u. Agree (assign v to x) u)) (Only (gives word)) (Runs calls proc j (core.copy to from) w) (RunsAll calls proc j (core.copy to from ⨾ []) w) (alone calls proc j (core.copy to from) w)
      (only_same (Got ℤ) (Ended ℤ (λ x u. Agree (assign v to x) u)) (gives word) (next (assign w to (value w from)))
      (subst (λ z. Agree (assign v to word) (assign w to z)) (sym is) (agree_assign v w to word agree)))

  set_same : (to : Name) (from : Expr) (k j : ℕ) (v w : Valuation) → j ≡ k → HasPlainNames from → Agree v w → Same End Alike (SRuns calls proc k (set to from) v) (RunsAll calls proc j (assigned to from) w)
  set_same to (literal z) k j v w is plain agree =
      mapped_end ℤ (λ x u. Agree (assign v to x) u) (λ x. next (assign v to x)) (Only (gives z)) (RunsAll calls proc j (core.copy to (Lit z) ⨾ [])) w (λ x u p. p) (copied_same to (Lit z) z j v w refl agree)
  set_same to (variable y) k j v w is plain agree =
      mapped_end ℤ (λ x u. Agree (assign v to x) u) (λ x. next (assign v to x)) (Only (gives (v y))) (RunsAll calls proc j (core.copy to (Var y) ⨾ [])) w (λ x u p. p) (copied_same to (Var y) (v y) j v w (sym (agree y plain)) agree)
  set_same to (operate op left right) k j v w is plain agree =
      mapped_end ℤ (Computes 0 to (operate op left right) v w) (λ x. next (assign v to x)) (Evaluates calls proc k (operate op left right) v) (RunsAll calls proc j (computed 0 to (operate op left right))) w
      (λ x u c. set_agree to x v w u agree c.worth c.kept) (expr_same calls proc 0 to (operate op left right) k j v w is plain agree)
  set_same to (minus inner) k j v w is plain agree =
      mapped_end ℤ (Computes 0 to (minus inner) v w) (λ x. next (assign v to x)) (Evaluates calls proc k (minus inner) v) (RunsAll calls proc j (computed 0 to (minus inner))) w
      (λ x u c. set_agree to x v w u agree c.worth c.kept) (expr_same calls proc 0 to (minus inner) k j v w is plain agree)
  set_same to (ask callee args) k j v w is plain agree =
      mapped_end ℤ (Computes 0 to (ask callee args) v w) (λ x. next (assign v to x)) (Evaluates calls proc k (ask callee args) v) (RunsAll calls proc j (computed 0 to (ask callee args))) w
      (λ x u c. set_agree to x v w u agree c.worth c.kept) (expr_same calls proc 0 to (ask callee args) k j v w is plain agree)

  asserts_so : (b : Bool) (k j : ℕ) (v u : Valuation) → j ≡ k → Agree v u
      → Same End Alike (λ a e. MatchBool b (Only (next v) a e) (Only (stopped (site_at k)) a e)) (λ a e. Ends a e (if b then next u else stopped (site_at j)))
  asserts_so true k j v u is agree = only_same End Alike (next v) (next u) agree
  asserts_so false k j v u is agree = only_same End Alike (stopped (site_at k)) (stopped (site_at j)) (ap site_at (sym is))

  pass_same : (test : Test) (k j : ℕ) (v w : Valuation) → j ≡ k → TestHasPlainNames test → Agree v w
      → Same End Alike (Passes calls proc k test v) (RunsAll calls proc j (before 0 test ⧺ (core.assert (standing 0 test) ⨾ [])) w)
  pass_same test k j v w is plain agree =
      let l : core.Block = before 0 test in
      let last : core.Block = core.assert (standing 0 test) ⨾ [] in
      let k2 : ℕ = k + test_sites test in
      let j2 : ℕ = j + block_sites l in
      let is2 : j2 ≡ k2 = omega (arith, is, before_sites 0 test) in
      let go = λ (b : Bool) (a : Answers) (e : End). MatchBool b (Only (next v) a e) (Only (stopped (site_at k2)) a e) in
      moved End Alike (Passes calls proc k test v) (InARow (RunsAll calls proc j l) (RunsAll calls proc j2 last) w) (RunsAll calls proc j (l ⧺ last) w) (joined calls proc j j2 l last refl w)
      (row_same Bool End (Stands 0 test v) Alike stopped (λ s. refl) (Decides calls proc k test v) go (RunsAll calls proc j l) (RunsAll calls proc j2 last) w
      (before_same calls proc 0 test k j v w is plain agree)
      (λ b u c. moved End Alike (go b) (Runs calls proc j2 (core.assert (standing 0 test)) u) (RunsAll calls proc j2 last u) (alone calls proc j2 (core.assert (standing 0 test)) u)
      (subst (λ t. Same End Alike (go b) (λ a e. Ends a e (if t then next u else stopped (site_at j2)))) (sym c.decided) (asserts_so b k2 j2 v u is2 c.agree))))

  asserted_same : (test : Test) (k j : ℕ) (v w : Valuation) → j ≡ k → TestHasPlainNames test → Agree v w → Same End Alike (Asserts calls proc k test v) (RunsAll calls proc j (asserted test) w)
  asserted_same (both first second) k j v w is plain agree =
      let k2 : ℕ = k + assert_sites first in
      let j2 : ℕ = j + block_sites (asserted first) in
      moved End Alike (Asserts calls proc k (both first second) v) (InARow (RunsAll calls proc j (asserted first)) (RunsAll calls proc j2 (asserted second)) w) (RunsAll calls proc j (asserted first ⧺ asserted second) w)
      (joined calls proc j j2 (asserted first) (asserted second) refl w)
      (rows_same (Asserts calls proc k first) (Asserts calls proc k2 second) (RunsAll calls proc j (asserted first)) (RunsAll calls proc j2 (asserted second)) v w
      (asserted_same first k j v w is plain.0 agree)
      (λ x y a. asserted_same second k2 j2 x y (omega (arith, is, asserted_sites first)) plain.1 a))
  asserted_same (compared left rel right) k j v w is plain agree = pass_same (compared left rel right) k j v w is plain agree
  asserted_same (negated part) k j v w is plain agree = pass_same (negated part) k j v w is plain agree
  asserted_same (either first second) k j v w is plain agree = pass_same (either first second) k j v w is plain agree

  one_way : (b : Bool) (taken left_out : May End) (j i : ℕ) (first second : core.Block) (u : Valuation) → Same End Alike taken (RunsAll calls proc j first u) → Same End Alike left_out (RunsAll calls proc i second u)
      → Same End Alike (λ a e. MatchBool b (taken a e) (left_out a e)) (λ a e. MatchBool b (RunsAll calls proc j first u a e) (RunsAll calls proc i second u a e))
  one_way true taken left_out j i first second u f g = f
  one_way false taken left_out j i first second u f g = g

  chosen_same : (test : Test) (k j : ℕ) (v w : Valuation) (taken left_out : May End) (first second : core.Block) → j ≡ k → TestHasPlainNames test → Agree v w
      → ((i : ℕ) (u : Valuation) → i ≡ k + test_sites test → Agree v u → Same End Alike taken (RunsAll calls proc i first u))
      → ((i : ℕ) (u : Valuation) → i ≡ k + test_sites test + block_sites first → Agree v u → Same End Alike left_out (RunsAll calls proc i second u))
      → Same End Alike (either_way (Decides calls proc k test v) taken left_out) (RunsAll calls proc j (chosen test first second) w)
  chosen_same test k j v w taken left_out first second is plain agree f g =
      let l : core.Block = before 0 test in
      let last : core.Block = core.choose (standing 0 test) first second ⨾ [] in
      let j2 : ℕ = j + block_sites l in
      let is2 : j2 ≡ k + test_sites test = omega (arith, is, before_sites 0 test) in
      let go = λ (b : Bool) (a : Answers) (e : End). MatchBool b (taken a e) (left_out a e) in
      moved End Alike (either_way (Decides calls proc k test v) taken left_out) (InARow (RunsAll calls proc j l) (RunsAll calls proc j2 last) w) (RunsAll calls proc j (l ⧺ last) w) (joined calls proc j j2 l last refl w)
      (row_same Bool End (Stands 0 test v) Alike stopped (λ s. refl) (Decides calls proc k test v) go (RunsAll calls proc j l) (RunsAll calls proc j2 last) w
      (before_same calls proc 0 test k j v w is plain agree)
      (λ b u c. choose_same calls proc End Alike (go b) b j2 (standing 0 test) first second u c.decided
      (one_way b taken left_out j2 (j2 + block_sites first) first second u (f j2 u is2 c.agree) (g (j2 + block_sites first) u (omega (arith, is2)) c.agree))))

  nothing_more : (i : ℕ) (v u : Valuation) → Agree v u → Same End Alike (Only (next v)) (RunsAll calls proc i [] u)
  nothing_more i v u agree = only_same End Alike (next v) (next u) agree

  when_same : (test : Test) (k j : ℕ) (v w : Valuation) (taken : May End) (block : core.Block) → j ≡ k → TestHasPlainNames test → Agree v w
      → ((i : ℕ) (u : Valuation) → i ≡ k + test_sites test → Agree v u → Same End Alike taken (RunsAll calls proc i block u))
      → Same End Alike (either_way (Decides calls proc k test v) taken (Only (next v))) (RunsAll calls proc j (when test block) w)
  when_same (both first second) k j v w taken block is plain agree f =
      let k2 : ℕ = k + test_sites first in
      let ev = Decides calls proc k first v in
      let then_ev = Decides calls proc k2 second v in
      ev_moved End Alike (either_way ev (either_way then_ev taken (Only (next v))) (Only (next v))) (either_way (then_and ev then_ev) taken (Only (next v))) (RunsAll calls proc j (when first (when second block)) w)
      (group_in ev then_ev taken v) (group_out ev then_ev taken v)
      (when_same first k j v w (either_way then_ev taken (Only (next v))) (when second block) is plain.0 agree
      (λ i u is' agree'. when_same second k2 i v u taken block is' plain.1 agree' (λ m x e a. f m x (omega (arith, e)) a)))
  when_same (compared left rel right) k j v w taken block is plain agree f =
      chosen_same (compared left rel right) k j v w taken (Only (next v)) block [] is plain agree f (λ i u e a. nothing_more i v u a)
  when_same (negated part) k j v w taken block is plain agree f = chosen_same (negated part) k j v w taken (Only (next v)) block [] is plain agree f (λ i u e a. nothing_more i v u a)
  when_same (either first second) k j v w taken block is plain agree f =
      chosen_same (either first second) k j v w taken (Only (next v)) block [] is plain agree f (λ i u e a. nothing_more i v u a)

assigned_sites : (to : Name) (from : Expr) → block_sites (assigned to from) ≡ expr_sites from
assigned_sites to (literal z) = omega arith
assigned_sites to (variable y) = omega arith
assigned_sites to (operate op left right) = computed_sites 0 to (operate op left right)
assigned_sites to (minus inner) = computed_sites 0 to (minus inner)
assigned_sites to (ask callee args) = computed_sites 0 to (ask callee args)

mutual
  pub lower_sites : (s : Stmt) → block_sites (lower s) ≡ stmt_sites s
  lower_sites (set to from) = assigned_sites to from
  lower_sites (assert test) = asserted_sites test
  lower_sites (choose test first no_stmts) = omega (arith, when_sites test (lower_all first), lower_all_sites first)
  lower_sites (choose test first (row s rest)) =
      omega (arith, chosen_sites test (lower_all first) (lower_all (row s rest)), lower_all_sites first, lower_all_sites (row s rest))
  lower_sites (repeat index bound cap body) =
      omega (arith, joined_sites (lowered 0 bound) (core.repeat index (operand 0 bound) cap (lower_all body) ⨾ []), computed_sites 0 (temporary (0 + 1)) bound, lower_all_sites body)

  pub lower_all_sites : (b : Block) → block_sites (lower_all b) ≡ all_sites b
  lower_all_sites no_stmts = refl
  lower_all_sites (row first rest) = omega (arith, joined_sites (lower first) (lower_all rest), lower_sites first, lower_all_sites rest)

module _ (calls : Calls) (proc : Name) where
  repeats_so : (b : Bool) (k j : ℕ) (one other : May End) → j ≡ k → Same End Alike one other
      → Same End Alike (λ a e. MatchBool b (Only (stopped (site_at calls proc k)) a e) (one a e)) (λ a e. MatchBool b (Ends a e (stopped (site_at calls proc j))) (other a e))
  repeats_so true k j one other is s = only_same End Alike (stopped (site_at calls proc k)) (stopped (site_at calls proc j)) (ap (site_at calls proc) (sym is))
  repeats_so false k j one other is s = s

  mutual
    pub stmt_same : (s : Stmt) (k j : ℕ) (v w : Valuation) → j ≡ k → StmtHasPlainNames s → Agree v w → Same End Alike (SRuns calls proc k s v) (RunsAll calls proc j (lower s) w)
    stmt_same (set to from) k j v w is plain agree = set_same calls proc to from k j v w is plain.1 agree
    stmt_same (assert test) k j v w is plain agree = asserted_same calls proc test k j v w is plain agree
    stmt_same (choose test first no_stmts) k j v w is plain agree =
        when_same calls proc test k j v w (SRunsAll calls proc (k + test_sites test) first v) (lower_all first) is plain.0 agree
        (λ i u e a. all_same first (k + test_sites test) i v u e plain.1 a)
    stmt_same (choose test first (row s rest)) k j v w is plain agree =
        let k2 : ℕ = k + test_sites test in
        let k3 : ℕ = k + test_sites test + all_sites first in
        chosen_same calls proc test k j v w (SRunsAll calls proc k2 first v) (SRunsAll calls proc k3 (row s rest) v) (lower_all first) (lower_all (row s rest)) is plain.0 agree
        (λ i u e a. all_same first k2 i v u e plain.1 a)
        (λ i u e a. all_same (row s rest) k3 i v u (omega (arith, e, lower_all_sites first)) plain.2 a)
    stmt_same (repeat index bound cap body) k j v w is plain agree =
        let l : core.Block = lowered 0 bound in
        let B : core.Block = lower_all body in
        let again : core.Stmt = core.repeat index (operand 0 bound) cap B in
        let last : core.Block = again ⨾ [] in
        let k2 : ℕ = k + expr_sites bound in
        let j2 : ℕ = j + block_sites l in
        let is2 : j2 ≡ k2 = omega (arith, is, computed_sites 0 (temporary (0 + 1)) bound) in
        let go = λ (n : ℤ) (a : Answers) (e : End). MatchBool (int_lt cap n) (Only (stopped (site_at calls proc k2)) a e) (Turns index (SRunsAll calls proc (k2 + 1) body) (turns_of n) 0 v a e) in
        moved End Alike (SRuns calls proc k (repeat index bound cap body) v) (InARow (RunsAll calls proc j l) (RunsAll calls proc j2 last) w) (RunsAll calls proc j (l ⧺ last) w) (joined calls proc j j2 l last refl w)
        (row_same ℤ End (Computes 0 (temporary (0 + 1)) bound v w) Alike stopped (λ s. refl) (Evaluates calls proc k bound v) go (RunsAll calls proc j l) (RunsAll calls proc j2 last) w
        (expr_same calls proc 0 (temporary (0 + 1)) bound k j v w is plain.1 agree)
        (λ n u c.
        let agree' = agree_still 0 bound v w n u plain.1 agree c in
        moved End Alike (go n) (Runs calls proc j2 again u) (RunsAll calls proc j2 last u) (alone calls proc j2 again u)
        (subst (λ m. Same End Alike (go n) (λ a e. MatchBool (int_lt cap m) (Ends a e (stopped (site_at calls proc j2))) (Turns index (RunsAll calls proc (j2 + 1) B) (turns_of m) 0 u a e)))
        (sym (operand_worth 0 bound v w n u plain.1 agree c))
        (repeats_so (int_lt cap n) k2 j2 (Turns index (SRunsAll calls proc (k2 + 1) body) (turns_of n) 0 v) (Turns index (RunsAll calls proc (j2 + 1) B) (turns_of n) 0 u) is2
        (turns_same index (SRunsAll calls proc (k2 + 1) body) (RunsAll calls proc (j2 + 1) B) (turns_of n) 0 v u
        (λ x y a. all_same body (k2 + 1) (j2 + 1) x y (omega (arith, is2)) plain.2 a) agree')))))

    pub all_same : (b : Block) (k j : ℕ) (v w : Valuation) → j ≡ k → BlockHasPlainNames b → Agree v w → Same End Alike (SRunsAll calls proc k b v) (RunsAll calls proc j (lower_all b) w)
    all_same no_stmts k j v w is plain agree = only_same End Alike (next v) (next w) agree
    all_same (row first rest) k j v w is plain agree =
        let k2 : ℕ = k + stmt_sites first in
        let j2 : ℕ = j + block_sites (lower first) in
        moved End Alike (SRunsAll calls proc k (row first rest) v) (InARow (RunsAll calls proc j (lower first)) (RunsAll calls proc j2 (lower_all rest)) w) (RunsAll calls proc j (lower first ⧺ lower_all rest) w)
        (joined calls proc j j2 (lower first) (lower_all rest) refl w)
        (rows_same (SRuns calls proc k first) (SRunsAll calls proc k2 rest) (RunsAll calls proc j (lower first)) (RunsAll calls proc j2 (lower_all rest)) v w
        (stmt_same first k j v w is plain.0 agree)
        (λ x y a. all_same rest k2 j2 x y (omega (arith, is, lower_sites first)) plain.1 a))
