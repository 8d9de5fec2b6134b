-- A body of the surface language has the runs of its lowered body.
use Rattle.std.proofs.Common.{◌≡◌, inl, inr, ℕ, ◌+◌, ℤ, List, [], ◌++◌, refl, sym, ap, subst, arith, ◌∙◌, append-nil}
use Rattle.vmv_tree.specs.declared.name.Name.{Name}
use Rattle.vmv_tree.specs.Run.{Valuation, Answers, Site, End, next, End.fail as stopped, Outcome, done, Outcome.fail as ended, InARow, Calls, RunsAll, RunsBody, outcome_of, start, block_sites}
use Rattle.vmv_surface.specs.Surface.{Body, Expr, BodyHasPlainNames, HasPlainNames}
use Rattle.vmv_surface.specs.Runs.{Got, gives, fails, got_of, all_sites, Evaluates, SRunsAll, SRunsBody, Returns}
use Rattle.vmv_surface.specs.Temporaries.{temporary}
use Rattle.vmv_surface.specs.Lower.{operand, lowered, lower_all, lower_body, whole_block}
use Rattle.vmv_surface_laws.proofs.Same.{Same, Ended, Both}
use Rattle.vmv_surface_laws.proofs.Rows.{joined}
use Rattle.vmv_surface_laws.proofs.Valuations.{Agree, Computes, operand_worth}
use Rattle.vmv_surface_laws.proofs.Expressions.{expr_same}
use Rattle.vmv_surface_laws.proofs.Statements.{Alike, all_same, lower_all_sites}

got_failed : (o : Outcome) (s : Site) → ◌≡◌ {A = Got ℤ} (got_of o) (fails s) → o ≡ ended s
got_failed (done z) s h = absurd (cc h)
got_failed (ended t) s h = cc h

module _ (output : Expr) (plain : HasPlainNames output) (v w : Valuation) (agree : Agree v w) where
  out_of : (o : Outcome) (e : End) → Ended ℤ (Computes 0 (temporary (0 + 1)) output v w) (got_of o) e → o ≡ outcome_of (operand 0 output) e
  out_of (done z) (next u) c = ap done (sym (operand_worth 0 output v w z u plain agree c))
  out_of (done z) (stopped t) c = absurd c
  out_of (ended s) (next u) c = absurd c
  out_of (ended s) (stopped t) c = ap ended c

  got_is : (o : Outcome) (r : Got ℤ) (e : End) → Ended ℤ (Computes 0 (temporary (0 + 1)) output v w) r e → o ≡ outcome_of (operand 0 output) e → r ≡ got_of o
  got_is o (gives z) (next u) c is = sym (ap got_of (is ∙ ap done (operand_worth 0 output v w z u plain agree c)))
  got_is o (gives z) (stopped t) c is = absurd c
  got_is o (fails s) (next u) c is = absurd c
  got_is o (fails s) (stopped t) c is = ap fails c ∙ sym (ap got_of is)

module _ (calls : Calls) (proc : Name) (params : List Name) (body : Body) (words : List ℤ) (plain : BodyHasPlainNames body) where
  abbrev ks : ℕ
  ks = all_sites body.block

  abbrev js : ℕ
  js = block_sites (lower_all body.block)

  js_is : js ≡ ks
  js_is = lower_all_sites body.block

  statements : Same End Alike (SRunsAll calls proc 0 body.block (start params words)) (RunsAll calls proc 0 (lower_all body.block) (start params words))
  statements = all_same calls proc body.block 0 0 (start params words) (start params words) refl plain.0 (λ x p. refl)

  parts : Both (InARow (RunsAll calls proc 0 (lower_all body.block)) (RunsAll calls proc js (lowered 0 body.output)) (start params words)) (RunsAll calls proc 0 (whole_block body) (start params words))
  parts = joined calls proc 0 js (lower_all body.block) (lowered 0 body.output) (omega arith) (start params words)

  returned : (x y : Valuation) → Agree x y → Same (Got ℤ) (Ended ℤ (Computes 0 (temporary (0 + 1)) body.output x y)) (Evaluates calls proc ks body.output x) (RunsAll calls proc js (lowered 0 body.output) y)
  returned x y a = expr_same calls proc 0 (temporary (0 + 1)) body.output ks js x y js_is plain.1 a

  row_to : (a used more : Answers) (o : Outcome) (r : End) → a ≡ used ++ more → Returns calls proc ks body.output r more (got_of o) → (e : End) → RunsAll calls proc 0 (lower_all body.block) (start params words) used e → Alike r e
      → (e : End) × InARow (RunsAll calls proc 0 (lower_all body.block)) (RunsAll calls proc js (lowered 0 body.output)) (start params words) a e × (o ≡ outcome_of (operand 0 body.output) e)
  row_to a used more o (next x) is h (next y) k l =
      let d = (returned x y l).there more (got_of o) h in
      (d.0, inr (y, used, more, k, d.1, is), out_of body.output plain.1 x y l o d.0 d.2)
  row_to a used more o (next x) is h (stopped t) k l = absurd l
  row_to a used more o (stopped s) is h (next y) k l = absurd l
  row_to a used more o (stopped s) is h (stopped t) k l =
      let all : a ≡ used = is ∙ ap (λ m. used ++ m) h.0 ∙ append-nil used in
      (stopped t, inl (subst (λ m. RunsAll calls proc 0 (lower_all body.block) (start params words) m (stopped t)) (sym all) k, tt), got_failed o s h.1 ∙ ap ended l)

  pub body_to : (a : Answers) (o : Outcome) → SRunsBody calls proc params body words a o → RunsBody calls proc params (lower_body body) words a o
  body_to a o (r, used, more, h, g, is) =
      let s = statements.there used r h in
      let d = row_to a used more o r is g s.0 s.1 s.2 in
      (d.0, parts.to a d.0 d.1, d.2)

  fail_from : (a : Answers) (o : Outcome) (t : Site) → o ≡ ended t → (r : End) → SRunsAll calls proc 0 body.block (start params words) a r → Alike r (stopped t) → SRunsBody calls proc params body words a o
  fail_from a o t is (next x) h l = absurd l
  fail_from a o t is (stopped s) h l = (stopped s, a, [], h, (refl, ap got_of is ∙ ap fails (sym l)), sym (append-nil a))

  next_from : (a used more : Answers) (o : Outcome) (y : Valuation) (e : End) → a ≡ used ++ more → RunsAll calls proc js (lowered 0 body.output) y more e → o ≡ outcome_of (operand 0 body.output) e
      → (r : End) → SRunsAll calls proc 0 body.block (start params words) used r → Alike r (next y) → SRunsBody calls proc params body words a o
  next_from a used more o y e is h q (next x) k l =
      let d = (returned x y l).back more e h in
      (next x, used, more, k, subst (λ t. Evaluates calls proc ks body.output x more t) (got_is body.output plain.1 x y l o d.0 e d.2 q) d.1, is)
  next_from a used more o y e is h q (stopped s) k l = absurd l

  row_from : (a : Answers) (o : Outcome) (e : End) → InARow (RunsAll calls proc 0 (lower_all body.block)) (RunsAll calls proc js (lowered 0 body.output)) (start params words) a e
      → o ≡ outcome_of (operand 0 body.output) e → SRunsBody calls proc params body words a o
  row_from a o (next u) (inl (h, f)) q = absurd f
  row_from a o (stopped t) (inl (h, f)) q = let s = statements.back a (stopped t) h in fail_from a o t q s.0 s.1 s.2
  row_from a o e (inr (y, u, m, h, k, is)) q = let s = statements.back u (next y) h in next_from a u m o y e is k q s.0 s.1 s.2

  pub body_from : (a : Answers) (o : Outcome) → RunsBody calls proc params (lower_body body) words a o → SRunsBody calls proc params body words a o
  body_from a o (e, h, q) = row_from a o e (parts.from a e h) q
