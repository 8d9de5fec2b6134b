-- Two ways of doing the same: what an evaluation of a surface program may do, and what core statements may do.
use Rattle.std.proofs.Common.{◌≡◌, inl, inr, ◌++◌, refl, sym, subst}
use Rattle.vmv_tree.specs.Run.{Valuation, Answers, Site, End, next, End.fail as stopped, Does, IsFail, InARow}
use Rattle.vmv_surface.specs.Runs.{Got, gives, fails, May, Only, Then}

-- each end of the one has an end of the other that is like it, with the same answers, and the other way round
pub record Same (R : Type 0) (like : R → End → Type 0) (one : May R) (other : May End) : Type 0 where
  pub there : (a : Answers) (r : R) → one a r → (e : End) × other a e × like r e
  pub back : (a : Answers) (e : End) → other a e → (r : R) × one a r × like r e

-- a value where the statements go on, with this between them, and a failure where they fail, at one site
abbrev pub Ended : (A : Type 0) → (A → Valuation → Type 0) → Got A → End → Type 0
Ended A post (gives a) (next w) = post a w
Ended A post (gives a) (stopped t) = ⊥
Ended A post (fails s) (next w) = ⊥
Ended A post (fails s) (stopped t) = s ≡ t

pub only_same : (R : Type 0) (like : R → End → Type 0) (r : R) (e : End) → like r e → Same R like (Only r) (Only e)
only_same R like r e h = record {
  there = λ a q p. (e, (p.0, refl), subst (λ x. like x e) (sym p.1) h);
  back = λ a d p. (r, (p.0, refl), subst (λ x. like r x) (sym p.1) h);
}

module _ (A R : Type 0) (post : A → Valuation → Type 0) (like : R → End → Type 0) (failed : Site → R) (on_fail : (s : Site) → like (failed s) (stopped s))
    (first : May (Got A)) (second : A → May R) (one other : Does) (v : Valuation)
    (f : Same (Got A) (Ended A post) first (one v)) (g : (a : A) (w : Valuation) → post a w → Same R like (second a) (other w)) where
  there_failed : (a : Answers) (s : Site) (r : R) → r ≡ failed s → (e : End) → one v a e → Ended A post (fails s) e → (e : End) × InARow one other v a e × like r e
  there_failed a s r is (next w) h k = absurd k
  there_failed a s r is (stopped t) h k = (stopped t, inl (h, tt), subst (λ x. like x (stopped t)) (sym is) (subst (λ x. like (failed s) (stopped x)) k (on_fail s)))

  there_went : (a used more : Answers) (x : A) (r : R) → a ≡ used ++ more → second x more r → (e : End) → one v used e → Ended A post (gives x) e → (e : End) × InARow one other v a e × like r e
  there_went a used more x r is s (next w) h k =
      let d = (g x w k).there more r s in
      (d.0, inr (w, used, more, h, d.1, is), d.2)
  there_went a used more x r is s (stopped t) h k = absurd k

  there_row : (a : Answers) (r : R) → Then failed first second a r → (e : End) × InARow one other v a e × like r e
  there_row a r (inl (s, h, is)) = let d = f.there a (fails s) h in there_failed a s r is d.0 d.1 d.2
  there_row a r (inr (x, used, more, h, s, is)) = let d = f.there used (gives x) h in there_went a used more x r is s d.0 d.1 d.2

  back_failed : (a : Answers) (e : End) → IsFail e → (q : Got A) → first a q → Ended A post q e → (r : R) × Then failed first second a r × like r e
  back_failed a (next w) failing q h k = absurd failing
  back_failed a (stopped t) failing (gives x) h k = absurd k
  back_failed a (stopped t) failing (fails s) h k = (failed s, inl (s, h, refl), subst (λ x. like (failed s) (stopped x)) k (on_fail s))

  back_went : (a used more : Answers) (w : Valuation) (e : End) → a ≡ used ++ more → other w more e → (q : Got A) → first used q → Ended A post q (next w) → (r : R) × Then failed first second a r × like r e
  back_went a used more w e is o (gives x) h k =
      let d = (g x w k).back more e o in
      (d.0, inr (x, used, more, h, d.1, is), d.2)
  back_went a used more w e is o (fails s) h k = absurd k

  back_row : (a : Answers) (e : End) → InARow one other v a e → (r : R) × Then failed first second a r × like r e
  back_row a e (inl (h, failing)) = let d = f.back a e h in back_failed a e failing d.0 d.1 d.2
  back_row a e (inr (w, used, more, h, o, is)) = let d = f.back used (next w) h in back_went a used more w e is o d.0 d.1 d.2

  -- what goes on from each value goes on alike
  pub row_same : Same R like (Then failed first second) (InARow one other v)
  row_same = record { there = there_row; back = back_row }

-- two ways that core statements go
pub record Both (one other : May End) : Type 0 where
  pub to : (a : Answers) (e : End) → one a e → other a e
  pub from : (a : Answers) (e : End) → other a e → one a e

pub moved : (R : Type 0) (like : R → End → Type 0) (ev : May R) (one other : May End) → Both one other → Same R like ev one → Same R like ev other
moved R like ev one other b s = record {
  there = λ a r h. let d = s.there a r h in (d.0, b.to a d.0 d.1, d.2);
  back = λ a e h. s.back a e (b.from a e h);
}
