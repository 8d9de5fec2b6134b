-- A test is decided as its lowered statements decide it.
use Rattle.std.proofs.Common.{◌≡◌, inl, inr, ℕ, ◌+◌, ℤ, pos, Bool, true, false, MatchBool, [], ◌++◌, refl, sym, ap, subst, arith, ◌∙◌, append-nil}
use Rattle.std.specs.Prelude.{not, int_le, int_lt}
use Rattle.vmv_tree.specs.declared.name.Name.{Name}
use Rattle.vmv_tree.specs.declared.tree.Operand.TheVariants.{Lit}
use Rattle.vmv_tree.specs.declared.tree.Rel.{Rel}
use Rattle.vmv_tree.specs.declared.tree.Test.{Test as CoreTest}
use Rattle.vmv_tree.specs.Words.{compare}
use Rattle.vmv_tree.specs.Tree as core
use Rattle.vmv_tree.specs.Tree.{[], ◌⨾◌}
use Rattle.vmv_tree.specs.Run.{Valuation, Answers, End, next, End.fail as stopped, InARow, Calls, Runs, RunsAll, assign, value, holds, block_sites}
use Rattle.vmv_surface.specs.Surface.{Expr, Test, compared, negated, both, either, TestHasPlainNames}
use Rattle.vmv_surface.specs.Runs.{Got, gives, fails, May, Only, Then, expr_sites, test_sites, Evaluates, Decides}
use Rattle.vmv_surface.specs.Temporaries.{temporary}
use Rattle.vmv_surface.specs.Lower.{◌⧺◌, behind, operand, lowered, sides, comparison, is_set, is_unset, to_word, setting, before, standing}
use Rattle.vmv_surface_laws.proofs.Same.{Same, Ended, only_same, row_same, Both, moved}
use Rattle.vmv_surface_laws.proofs.Rows.{joined, alone, joined_sites}
use Rattle.vmv_surface_laws.proofs.Names.{plain_other}
use Rattle.vmv_surface_laws.proofs.Valuations.{Agree, Computes, assign_here, assign_past, still, agree_still, operand_worth, operand_still}
use Rattle.vmv_surface_laws.proofs.Expressions.{computed_sites, expr_same, mapped_same}

-- evaluations that come to the same
pub ev_moved : (R : Type 0) (like : R → End → Type 0) (one other : May R) (does : May End) → ((a : Answers) (r : R) → one a r → other a r) → ((a : Answers) (r : R) → other a r → one a r)
    → Same R like one does → Same R like other does
ev_moved R like one other does to from s = record {
  there = λ a r h. s.there a r (from a r h);
  back = λ a e h. let d = s.back a e h in (d.0, to a d.0 d.1, d.2);
}

pub weaker : (R : Type 0) (like less : R → End → Type 0) (one : May R) (does : May End) → ((r : R) (e : End) → like r e → less r e) → Same R like one does → Same R less one does
weaker R like less one does h s = record {
  there = λ a r g. let d = s.there a r g in (d.0, d.1, h r d.0 d.2);
  back = λ a e g. let d = s.back a e g in (d.0, d.1, h d.0 e d.2);
}

pub ended_weaker : (A : Type 0) (P Q : A → Valuation → Type 0) → ((x : A) (w : Valuation) → P x w → Q x w) → (r : Got A) (e : End) → Ended A P r e → Ended A Q r e
ended_weaker A P Q h (gives x) (next w) p = h x w p
ended_weaker A P Q h (gives x) (stopped t) p = absurd p
ended_weaker A P Q h (fails s) (next w) p = absurd p
ended_weaker A P Q h (fails s) (stopped t) p = p

module _ (A : Type 0) (ev : May (Got A)) where
  pub alone_out : (a : Answers) (r : Got A) → Then fails ev (λ x. Only (gives x)) a r → ev a r
  alone_out a r (inl (s, h, is)) = subst (λ t. ev a t) (sym is) h
  alone_out a r (inr (x, u, m, h, (p, q), is)) =
      let all : a ≡ u = is ∙ ap (λ t. u ++ t) p ∙ append-nil u in
      subst (λ t. ev t r) (sym all) (subst (λ t. ev u t) (sym q) h)

  pub alone_in : (a : Answers) (r : Got A) → ev a r → Then fails ev (λ x. Only (gives x)) a r
  alone_in a (gives x) h = inr (x, a, [], h, (refl, refl), sym (append-nil a))
  alone_in a (fails s) h = inl (s, h, refl)

abbrev pub word_of : Bool → ℤ
word_of true = pos 1
word_of false = pos 0

-- the temporary of number d + 1 tells the answer
pub record Sets (d : ℕ) (v : Valuation) (b : Bool) (u : Valuation) : Type 0 where
  pub agree : Agree v u
  pub flag : u (temporary (d + 1)) ≡ word_of b

-- the core's test tells it
pub record Stands (d : ℕ) (test : Test) (v : Valuation) (b : Bool) (u : Valuation) : Type 0 where
  pub agree : Agree v u
  pub decided : holds u (standing d test) ≡ b

set_holds : (d : ℕ) (b : Bool) (u : Valuation) → u (temporary (d + 1)) ≡ word_of b → holds u (is_set d) ≡ b
set_holds d true u h = ap (λ z. int_le (pos 1) z) h
set_holds d false u h = ap (λ z. int_le (pos 1) z) h

unset_holds : (d : ℕ) (b : Bool) (u : Valuation) → u (temporary (d + 1)) ≡ word_of b → holds u (is_unset d) ≡ not b
unset_holds d true u h = ap (λ z. int_lt z (pos 1)) h
unset_holds d false u h = ap (λ z. int_lt z (pos 1)) h

flag_set : (d : ℕ) (v u : Valuation) (b : Bool) → Agree v u → Sets d v b (assign u (temporary (d + 1)) (word_of b))
flag_set d v u b agree = record {
  agree = λ x plain. agree x plain ∙ sym (assign_past u (temporary (d + 1)) (word_of b) x (plain_other x (d + 1) plain));
  flag = assign_here u (temporary (d + 1)) (word_of b);
}

pub setting_sites : (d : ℕ) (test : Test) → block_sites (setting d test) ≡ test_sites test
setting_sites d (compared left rel right) =
    let last : core.Block = core.choose (comparison d left rel right) (to_word d (pos 1)) (to_word d (pos 0)) ⨾ [] in
    omega (
      arith,
      joined_sites (sides d left right) last,
      joined_sites (lowered d left) (lowered (behind d left) right),
      computed_sites d (temporary (d + 1)) left,
      computed_sites (behind d left) (temporary (behind d left + 1)) right,
    )
setting_sites d (negated part) =
    let last : core.Block = core.choose (is_set d) (to_word d (pos 0)) (to_word d (pos 1)) ⨾ [] in
    omega (arith, joined_sites (setting d part) last, setting_sites d part)
setting_sites d (both first second) =
    let last : core.Block = core.choose (is_set d) (setting d second) [] ⨾ [] in
    omega (arith, joined_sites (setting d first) last, setting_sites d first, setting_sites d second)
setting_sites d (either first second) =
    let last : core.Block = core.choose (is_unset d) (setting d second) [] ⨾ [] in
    omega (arith, joined_sites (setting d first) last, setting_sites d first, setting_sites d second)

pub before_sites : (d : ℕ) (test : Test) → block_sites (before d test) ≡ test_sites test
before_sites d (compared left rel right) =
    omega (arith, joined_sites (lowered d left) (lowered (behind d left) right), computed_sites d (temporary (d + 1)) left, computed_sites (behind d left) (temporary (behind d left + 1)) right)
before_sites d (negated part) = setting_sites d (negated part)
before_sites d (both first second) = setting_sites d (both first second)
before_sites d (either first second) = setting_sites d (either first second)

module _ (calls : Calls) (proc : Name) where
  picked : (b c : Bool) (j : ℕ) (first second : core.Block) (u : Valuation) → b ≡ c → Both (λ a e. MatchBool b (RunsAll calls proc j first u a e) (RunsAll calls proc (j + block_sites first) second u a e))
      (λ a e. MatchBool c (RunsAll calls proc j first u a e) (RunsAll calls proc (j + block_sites first) second u a e))
  picked b c j first second u is = record {
    to = λ a e h. subst (λ t. MatchBool t (RunsAll calls proc j first u a e) (RunsAll calls proc (j + block_sites first) second u a e)) is h;
    from = λ a e h. subst (λ t. MatchBool t (RunsAll calls proc j first u a e) (RunsAll calls proc (j + block_sites first) second u a e)) (sym is) h;
  }

  -- a choice whose test has this answer
  pub choose_same : (R : Type 0) (like : R → End → Type 0) (ev : May R) (b : Bool) (j : ℕ) (test : CoreTest) (first second : core.Block) (u : Valuation) → holds u test ≡ b
      → Same R like ev (λ a e. MatchBool b (RunsAll calls proc j first u a e) (RunsAll calls proc (j + block_sites first) second u a e))
      → Same R like ev (RunsAll calls proc j (core.choose test first second ⨾ []) u)
  choose_same R like ev b j test first second u is s =
      moved R like ev (Runs calls proc j (core.choose test first second) u) (RunsAll calls proc j (core.choose test first second ⨾ []) u) (alone calls proc j (core.choose test first second) u)
      (moved R like ev (λ a e. MatchBool b (RunsAll calls proc j first u a e) (RunsAll calls proc (j + block_sites first) second u a e)) (Runs calls proc j (core.choose test first second) u)
      (picked b (holds u test) j first second u (sym is)) s)

  word_same : (R : Type 0) (like : R → End → Type 0) (r : R) (d j : ℕ) (z : ℤ) (u : Valuation) → like r (next (assign u (temporary (d + 1)) z)) → Same R like (Only r) (RunsAll calls proc j (to_word d z) u)
  word_same R like r d j z u h =
      moved R like (Only r) (Runs calls proc j (core.copy (temporary (d + 1)) (Lit z)) u) (RunsAll calls proc j (to_word d z) u) (alone calls proc j (core.copy (temporary (d + 1)) (Lit z)) u)
      (only_same R like r (next (assign u (temporary (d + 1)) z)) h)

  -- the temporary is set to the answer, or to its opposite
  flag_same : (b : Bool) (d j : ℕ) (v u : Valuation) → Agree v u → Same (Got Bool) (Ended Bool (Sets d v)) (Only (gives b)) (λ a e. MatchBool b (RunsAll calls proc j (to_word d (pos 1)) u a e) (RunsAll calls proc (j + 0) (to_word d (pos 0)) u a e))
  flag_same true d j v u agree = word_same (Got Bool) (Ended Bool (Sets d v)) (gives true) d j (pos 1) u (flag_set d v u true agree)
  flag_same false d j v u agree = word_same (Got Bool) (Ended Bool (Sets d v)) (gives false) d (j + 0) (pos 0) u (flag_set d v u false agree)

  unflag_same : (b : Bool) (d j : ℕ) (v u : Valuation) → Agree v u → Same (Got Bool) (Ended Bool (Sets d v)) (Only (gives (not b))) (λ a e. MatchBool b (RunsAll calls proc j (to_word d (pos 0)) u a e) (RunsAll calls proc (j + 0) (to_word d (pos 1)) u a e))
  unflag_same true d j v u agree = word_same (Got Bool) (Ended Bool (Sets d v)) (gives false) d j (pos 0) u (flag_set d v u false agree)
  unflag_same false d j v u agree = word_same (Got Bool) (Ended Bool (Sets d v)) (gives true) d (j + 0) (pos 1) u (flag_set d v u true agree)

  sides_same : (d : ℕ) (left : Expr) (rel : Rel) (right : Expr) (k j : ℕ) (v w : Valuation) → j ≡ k → TestHasPlainNames (compared left rel right) → Agree v w
      → Same (Got Bool) (Ended Bool (Stands d (compared left rel right) v)) (Decides calls proc k (compared left rel right) v) (RunsAll calls proc j (sides d left right) w)
  sides_same d left rel right k j v w is plain agree =
      let dr : ℕ = behind d left in
      let l : core.Block = lowered d left in
      let r : core.Block = lowered dr right in
      let A = Stands d (compared left rel right) v in
      let k2 : ℕ = k + expr_sites left in
      let j2 : ℕ = j + block_sites l in
      let is2 : j2 ≡ k2 = omega (arith, is, computed_sites d (temporary (d + 1)) left) in
      moved (Got Bool) (Ended Bool A) (Decides calls proc k (compared left rel right) v) (InARow (RunsAll calls proc j l) (RunsAll calls proc j2 r) w) (RunsAll calls proc j (l ⧺ r) w)
      (joined calls proc j j2 l r refl w)
      (row_same ℤ (Got Bool) (Computes d (temporary (d + 1)) left v w) (Ended Bool A) fails (λ s. refl) (Evaluates calls proc k left v)
      (λ x. Then fails (Evaluates calls proc k2 right v) (λ y. Only (gives (compare rel x y))))
      (RunsAll calls proc j l) (RunsAll calls proc j2 r) w (expr_same calls proc d (temporary (d + 1)) left k j v w is plain.0 agree)
      (λ x u c.
      let agree' = agree_still d left v w x u plain.0 agree c in
      mapped_same ℤ Bool (Computes dr (temporary (dr + 1)) right v u) A (λ y. compare rel x y) (Evaluates calls proc k2 right v) (RunsAll calls proc j2 r) u
      (λ y z c'.
      let later = still dr right v u y z plain.1 agree' c' in
      let p : value z (operand d left) ≡ x = operand_still d left u z plain.0 later ∙ operand_worth d left v w x u plain.0 agree c in
      let q : value z (operand dr right) ≡ y = operand_worth dr right v u y z plain.1 agree' c' in
      record { agree = agree_still dr right v u y z plain.1 agree' c'; decided = λ i. compare rel (p i) (q i) })
      (expr_same calls proc dr (temporary (dr + 1)) right k2 j2 v u is2 plain.1 agree')))

  and_goes : (b : Bool) (d : ℕ) (second : May (Got Bool)) (j : ℕ) (block : core.Block) (v u : Valuation) → Sets d v b u
      → Same (Got Bool) (Ended Bool (Sets d v)) second (RunsAll calls proc j block u)
      → Same (Got Bool) (Ended Bool (Sets d v)) (λ a r. MatchBool b (second a r) (Only (gives false) a r)) (λ a e. MatchBool b (RunsAll calls proc j block u a e) (RunsAll calls proc (j + block_sites block) [] u a e))
  and_goes true d second j block v u c s = s
  and_goes false d second j block v u c s = only_same (Got Bool) (Ended Bool (Sets d v)) (gives false) (next u) c

  or_goes : (b : Bool) (d : ℕ) (second : May (Got Bool)) (j : ℕ) (block : core.Block) (v u : Valuation) → Sets d v b u
      → Same (Got Bool) (Ended Bool (Sets d v)) second (RunsAll calls proc j block u)
      → Same (Got Bool) (Ended Bool (Sets d v)) (λ a r. MatchBool b (Only (gives true) a r) (second a r)) (λ a e. MatchBool (not b) (RunsAll calls proc j block u a e) (RunsAll calls proc (j + block_sites block) [] u a e))
  or_goes true d second j block v u c s = only_same (Got Bool) (Ended Bool (Sets d v)) (gives true) (next u) c
  or_goes false d second j block v u c s = s

  pub setting_same : (d : ℕ) (test : Test) (k j : ℕ) (v w : Valuation) → j ≡ k → TestHasPlainNames test → Agree v w
      → Same (Got Bool) (Ended Bool (Sets d v)) (Decides calls proc k test v) (RunsAll calls proc j (setting d test) w)
  setting_same d (compared left rel right) k j v w is plain agree =
      let l : core.Block = sides d left right in
      let test : CoreTest = comparison d left rel right in
      let last : core.Block = core.choose test (to_word d (pos 1)) (to_word d (pos 0)) ⨾ [] in
      let ev = Decides calls proc k (compared left rel right) v in
      let j2 : ℕ = j + block_sites l in
      ev_moved (Got Bool) (Ended Bool (Sets d v)) (Then fails ev (λ b. Only (gives b))) ev (RunsAll calls proc j (l ⧺ last) w) (alone_out Bool ev) (alone_in Bool ev)
      (moved (Got Bool) (Ended Bool (Sets d v)) (Then fails ev (λ b. Only (gives b))) (InARow (RunsAll calls proc j l) (RunsAll calls proc j2 last) w) (RunsAll calls proc j (l ⧺ last) w)
      (joined calls proc j j2 l last refl w)
      (row_same Bool (Got Bool) (Stands d (compared left rel right) v) (Ended Bool (Sets d v)) fails (λ s. refl) ev (λ b. Only (gives b)) (RunsAll calls proc j l) (RunsAll calls proc j2 last) w
      (sides_same d left rel right k j v w is plain agree)
      (λ b u c. choose_same (Got Bool) (Ended Bool (Sets d v)) (Only (gives b)) b j2 test (to_word d (pos 1)) (to_word d (pos 0)) u c.decided (flag_same b d j2 v u c.agree))))
  setting_same d (negated part) k j v w is plain agree =
      let l : core.Block = setting d part in
      let last : core.Block = core.choose (is_set d) (to_word d (pos 0)) (to_word d (pos 1)) ⨾ [] in
      let j2 : ℕ = j + block_sites l in
      moved (Got Bool) (Ended Bool (Sets d v)) (Decides calls proc k (negated part) v) (InARow (RunsAll calls proc j l) (RunsAll calls proc j2 last) w) (RunsAll calls proc j (l ⧺ last) w)
      (joined calls proc j j2 l last refl w)
      (row_same Bool (Got Bool) (Sets d v) (Ended Bool (Sets d v)) fails (λ s. refl) (Decides calls proc k part v) (λ b. Only (gives (not b))) (RunsAll calls proc j l) (RunsAll calls proc j2 last) w
      (setting_same d part k j v w is plain agree)
      (λ b u c. choose_same (Got Bool) (Ended Bool (Sets d v)) (Only (gives (not b))) b j2 (is_set d) (to_word d (pos 0)) (to_word d (pos 1)) u (set_holds d b u c.flag) (unflag_same b d j2 v u c.agree)))
  setting_same d (both first second) k j v w is plain agree =
      let l : core.Block = setting d first in
      let r : core.Block = setting d second in
      let last : core.Block = core.choose (is_set d) r [] ⨾ [] in
      let k2 : ℕ = k + test_sites first in
      let j2 : ℕ = j + block_sites l in
      let is2 : j2 ≡ k2 = omega (arith, is, setting_sites d first) in
      let go = λ (b : Bool) (a : Answers) (r : Got Bool). MatchBool b (Decides calls proc k2 second v a r) (Only (gives false) a r) in
      moved (Got Bool) (Ended Bool (Sets d v)) (Decides calls proc k (both first second) v) (InARow (RunsAll calls proc j l) (RunsAll calls proc j2 last) w) (RunsAll calls proc j (l ⧺ last) w)
      (joined calls proc j j2 l last refl w)
      (row_same Bool (Got Bool) (Sets d v) (Ended Bool (Sets d v)) fails (λ s. refl) (Decides calls proc k first v) go (RunsAll calls proc j l) (RunsAll calls proc j2 last) w
      (setting_same d first k j v w is plain.0 agree)
      (λ b u c. choose_same (Got Bool) (Ended Bool (Sets d v)) (go b) b j2 (is_set d) r [] u (set_holds d b u c.flag)
      (and_goes b d (Decides calls proc k2 second v) j2 r v u c (setting_same d second k2 j2 v u is2 plain.1 c.agree))))
  setting_same d (either first second) k j v w is plain agree =
      let l : core.Block = setting d first in
      let r : core.Block = setting d second in
      let last : core.Block = core.choose (is_unset d) r [] ⨾ [] in
      let k2 : ℕ = k + test_sites first in
      let j2 : ℕ = j + block_sites l in
      let is2 : j2 ≡ k2 = omega (arith, is, setting_sites d first) in
      let go = λ (b : Bool) (a : Answers) (r : Got Bool). MatchBool b (Only (gives true) a r) (Decides calls proc k2 second v a r) in
      moved (Got Bool) (Ended Bool (Sets d v)) (Decides calls proc k (either first second) v) (InARow (RunsAll calls proc j l) (RunsAll calls proc j2 last) w) (RunsAll calls proc j (l ⧺ last) w)
      (joined calls proc j j2 l last refl w)
      (row_same Bool (Got Bool) (Sets d v) (Ended Bool (Sets d v)) fails (λ s. refl) (Decides calls proc k first v) go (RunsAll calls proc j l) (RunsAll calls proc j2 last) w
      (setting_same d first k j v w is plain.0 agree)
      (λ b u c. choose_same (Got Bool) (Ended Bool (Sets d v)) (go b) (not b) j2 (is_unset d) r [] u (unset_holds d b u c.flag)
      (or_goes b d (Decides calls proc k2 second v) j2 r v u c (setting_same d second k2 j2 v u is2 plain.1 c.agree))))

  flag_stands : (d : ℕ) (test : Test) (k j : ℕ) (v w : Valuation) → standing d test ≡ is_set d → before d test ≡ setting d test → j ≡ k → TestHasPlainNames test → Agree v w
      → Same (Got Bool) (Ended Bool (Stands d test v)) (Decides calls proc k test v) (RunsAll calls proc j (before d test) w)
  flag_stands d test k j v w e f is plain agree =
      subst (λ b. Same (Got Bool) (Ended Bool (Stands d test v)) (Decides calls proc k test v) (RunsAll calls proc j b w)) (sym f)
      (weaker (Got Bool) (Ended Bool (Sets d v)) (Ended Bool (Stands d test v)) (Decides calls proc k test v) (RunsAll calls proc j (setting d test) w)
      (ended_weaker Bool (Sets d v) (Stands d test v) (λ b u c. record { agree = c.agree; decided = ap (holds u) e ∙ set_holds d b u c.flag }))
      (setting_same d test k j v w is plain agree))

  -- behind the statements before a test, the core's test tells the answer
  pub before_same : (d : ℕ) (test : Test) (k j : ℕ) (v w : Valuation) → j ≡ k → TestHasPlainNames test → Agree v w
      → Same (Got Bool) (Ended Bool (Stands d test v)) (Decides calls proc k test v) (RunsAll calls proc j (before d test) w)
  before_same d (compared left rel right) k j v w is plain agree = sides_same d left rel right k j v w is plain agree
  before_same d (negated part) k j v w is plain agree = flag_stands d (negated part) k j v w refl refl is plain agree
  before_same d (both first second) k j v w is plain agree = flag_stands d (both first second) k j v w refl refl is plain agree
  before_same d (either first second) k j v w is plain agree = flag_stands d (either first second) k j v w refl refl is plain agree
