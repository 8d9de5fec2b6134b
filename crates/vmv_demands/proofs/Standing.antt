-- A look-up in place of going back, statement by statement.
use Rattle.std.proofs.Common.{◌≡◌, ℕ, suc, ◌+◌, ◌<◌, ◌≤◌, ◌==◌, ℤ, pos, ◌≤ℤ◌, ◌+ℤ◌, neg_ℤ, int_le, ◌&&◌, ◌||◌, Bool, true, false, FitsSigned, w64, Option, Some, None, List, [], length, get_or, take, slice_get, refl, sym, ap, subst, ◌∙◌, arith, add-one, if◌then◌else◌}
use Rattle.std.specs.Bool.{⊤}
use Rattle.std.specs.Int.{int_min, int_max}
use Rattle.std.proofs.lemmas.Int.{ints, clamps}
use Rattle.std.proofs.lemmas.Option.{slice_get-get_or}
use Rattle.std.specs.Ordering.{int_eq}
use Rattle.vmv_tree.specs.declared.name.Name.{Name}
use Rattle.vmv_tree.specs.declared.tree.Op.{Op}
use Rattle.vmv_tree.specs.declared.tree.Op.TheVariants.{Add, Sub}
use Rattle.vmv_snapshot.specs.declared.code.Slot.{Slot}
use Rattle.vmv_snapshot.specs.declared.code.ProcId.{ProcId}
use Rattle.vmv_snapshot.specs.declared.code.CodeOperand.{CodeOperand}
use Rattle.vmv_snapshot.specs.declared.code.CodeOperand.TheVariants.{Lit, Var}
use Rattle.vmv_snapshot.specs.declared.code.CodeTest.{CodeTest}
use Rattle.vmv_snapshot.specs.declared.code.Simple.{Simple}
use Rattle.vmv_snapshot.specs.declared.code.Simple.TheVariants.{Set, Arith, Ask, Assert}
use Rattle.vmv_snapshot.specs.declared.code.CodeStmt.{CodeStmt, Plain, Help, If, Repeat}
use Rattle.vmv_snapshot.specs.declared.code.CodeRepeat.{CodeRepeat}
use Rattle.vmv_snapshot.specs.declared.code.Code.{Code}
use Rattle.vmv_snapshot.specs.Code.{Stmt, plain, help, Block, []}
use Rattle.vmv_snapshot.specs.View.{stmt_of, block_of}
use Rattle.vmv_back.specs.Assigned.{simple_assigns, assigns, block_assigns}
use Rattle.vmv_demands.specs.declared.want.Want.{Want}
use Rattle.vmv_demands.specs.declared.want.Want.TheVariants.{Within, Except}
use Rattle.vmv_demands.specs.declared.want.Condition.TheVariants.{Range, Nonzero}
use Rattle.vmv_demands.specs.declared.lead.Lead.{Lead}
use Rattle.vmv_demands.specs.declared.lead.Lead.TheVariants.{Nowhere, Asked, At}
use Rattle.vmv_demands.specs.declared.shift.Shift.{Shift}
use Rattle.vmv_demands.specs.declared.source.Source.{Source}
use Rattle.vmv_demands.specs.declared.source.Source.TheVariants.{Unknown, Start, Answer, StartMoved}
use Rattle.vmv_demands.specs.declared.summary.Summary.{Summary}
use Rattle.vmv_demands.specs.Wants.{least, greatest, is_whole, nonempty, moved}
use Rattle.vmv_demands.specs.Shifts.{IsOfWords, by_of, kept_from, shifted}
use Rattle.vmv_demands.specs.Back.{on_slot, on_operand, on_answer, on_argument, argument, out_of_call, out_of_loop, over_arith, over_simple, Results, over_assigning, over, over_all, results}
use Rattle.vmv_demands.specs.Sources.{led_to, led_some, LeadsAs, held, StandFor, AreSummaries}
use Rattle.vmv_demands.proofs.Sizes.{is_plain, is_help, is_repeat, loop_of}
use Rattle.vmv_demands.proofs.Shifting.{is_word-range, true_le, fits_range}
use Rattle.vmv_demands.proofs.Holding.{Puts, Loses, assigns-plain, assigns-help, assigns-loop}
use Rattle.vmv_demands.proofs.Going.{results_before, over_if, over_repeat, over_last, over_all-none, take_none}

pick_true : {A : Type 0} (b : Bool) (x y : A) → b ≡ true → (if b then x else y) ≡ x
pick_true true x y e = refl
pick_true false x y e = absurd (cc)

pick_false : {A : Type 0} (b : Bool) (x y : A) → b ≡ false → (if b then x else y) ≡ y
pick_false true x y e = absurd (cc)
pick_false false x y e = refl

-- of the same list
pub on_slice : (before : Lead → Lead) (sources slice : List Source) → slice ≡ sources → StandFor before sources → StandFor before slice
on_slice before sources slice e st = subst (StandFor before) (sym e) st

-- what moves give is of words
abbrev AllOfWords : Option Want → Type 0
AllOfWords (Some want) = IsOfWords want
AllOfWords None = ⊤

nonempty_words : (lo hi : ℤ) → least ≤ℤ lo → hi ≤ℤ greatest → AllOfWords (nonempty lo hi)
nonempty_words lo hi h k = by (int_le lo hi)
  where
    by : (b : Bool) → AllOfWords (if b then Some (Within lo hi) else None)
    by true = (h, k)
    by false = tt

kept_words : (lo hi c : ℤ) → least ≤ℤ lo → hi ≤ℤ greatest → AllOfWords (kept_from lo hi c)
kept_words lo hi c h k = by (int_le lo c) (int_le c hi) refl refl
  where
    by : (p q : Bool) → int_le lo c ≡ p → int_le c hi ≡ q → AllOfWords (if p && q then Some (Except c) else None)
    by true true e f = let a = true_le lo c e in let b = true_le c hi f in (omega (arith, ints), omega (arith, ints))
    by true false e f = tt
    by false q e f = tt

moved_words : (by : ℤ) (want : Want) → AllOfWords (moved by want)
moved_words by (Within lo hi) = nonempty_words (int_max (lo +ℤ by) least) (int_min (hi +ℤ by) greatest) (omega (arith, ints, clamps)) (omega (arith, ints, clamps))
moved_words by (Except c) = subst AllOfWords (sym (is_word-range (c +ℤ by))) (kept_words least greatest (c +ℤ by) (omega (arith, ints)) (omega (arith, ints)))

shifted_words : (s : Shift) → FitsSigned w64 s.lo → FitsSigned w64 s.hi → (want : Want) → AllOfWords (shifted s want)
shifted_words s f g (Within lo hi) =
    let a : least ≤ℤ s.lo = (fits_range s.lo f).0 in
    let b : s.hi ≤ℤ greatest = (fits_range s.hi g).1 in
    nonempty_words (int_max (lo +ℤ by_of s) s.lo) (int_min (hi +ℤ by_of s) s.hi) (omega (arith, ints, clamps)) (omega (arith, ints, clamps))
shifted_words s f g (Except c) = kept_words s.lo s.hi (c +ℤ by_of s) (fits_range s.lo f).0 (fits_range s.hi g).1

-- over `x = left op right`
module _ (before : Lead → Lead) (op : Op) (left right : CodeOperand) (x : Slot) (c by : ℤ) (result : Source) (want : Want) where
  pub sum_left : op ≡ Add → left ≡ Var x → right ≡ Lit c → by ≡ neg_ℤ c → led_to result want ≡ before (on_slot x (moved by want)) → led_to result want ≡ before (over_arith op left right want)
  sum_left a b d e h = h ∙ ap (λ (z : ℤ). before (on_slot x (moved z want))) e ∙ sym (λ i. before (over_arith (a i) (b i) (d i) want))

  pub sum_right : op ≡ Add → left ≡ Lit c → right ≡ Var x → by ≡ neg_ℤ c → led_to result want ≡ before (on_slot x (moved by want)) → led_to result want ≡ before (over_arith op left right want)
  sum_right a b d e h = h ∙ ap (λ (z : ℤ). before (on_slot x (moved z want))) e ∙ sym (λ i. before (over_arith (a i) (b i) (d i) want))

  pub less_right : op ≡ Sub → left ≡ Var x → right ≡ Lit c → by ≡ c → led_to result want ≡ before (on_slot x (moved by want)) → led_to result want ≡ before (over_arith op left right want)
  less_right a b d e h = h ∙ ap (λ (z : ℤ). before (on_slot x (moved z want))) e ∙ sym (λ i. before (over_arith (a i) (b i) (d i) want))

-- what is given for a parameter
pub given_leads : (before : Lead → Lead) (o p : Option CodeOperand) (arg : CodeOperand) (result : Source) (want : Want) → o ≡ p → o ≡ Some arg → led_to result want ≡ before (on_operand arg (Some want)) → led_to result want ≡ before (on_argument p want)
given_leads before o p arg result want e is h = h ∙ ap (λ (q : Option CodeOperand). before (on_argument q want)) (sym is ∙ e)

pub row_result : (codes : List Code) (n k : ℕ) (rows : List Summary) (d : Summary) (want : Want) → AreSummaries codes n rows → k < n → IsOfWords want → led_to (get_or rows k d).result want ≡ results codes n k want
row_result codes n k rows d want are below w =
    let at = slice_get-get_or rows k d (omega (arith, are.count)) in
    (are.right k (get_or rows k d) below at).result want w ∙ sym (results_before codes n k want below)

module _ (before : Lead → Lead) (sources : List Source) (st : StandFor before sources) where
  some_leads : (x : Slot) (o : Option Want) → AllOfWords o → led_some (held sources x) o ≡ before (on_slot x o)
  some_leads x (Some want) h = st.at x want h
  some_leads x None h = sym st.nowhere

  pub less_leads : (x : Slot) (by : ℤ) (shift : Shift) (source result : Source) (want : Want) → source ≡ held sources x → led_to result want ≡ led_some source (shifted shift want) → shifted shift want ≡ moved by want →
      led_to result want ≡ before (on_slot x (moved by want))
  less_leads x by shift source result want e m l = m ∙ (λ i. led_some (e i) (l i)) ∙ some_leads x (moved by want) (moved_words by want)

  -- what a call returns
  module _ (args : List CodeOperand) (x : Slot) (result : Source) (want : Want) where
    pub start_returned : (inside : Source) → inside ≡ Start x → led_to result want ≡ before (on_argument (argument args x.0) want) → led_to result want ≡ before (out_of_call args (led_to inside want))
    start_returned inside is h = h ∙ sym (ap (λ (s : Source). before (out_of_call args (led_to s want))) is)

    pub moved_given : (shift : Shift) (given : Source) → FitsSigned w64 shift.lo → FitsSigned w64 shift.hi → LeadsAs given (λ want. before (on_argument (argument args x.0) want)) →
        led_to result want ≡ led_some given (shifted shift want) → led_to result want ≡ before (out_of_call args (on_slot x (shifted shift want)))
    moved_given shift given lo hi g m = m ∙ through (shifted shift want) (shifted_words shift lo hi want)
      where
        through : (o : Option Want) → AllOfWords o → led_some given o ≡ before (out_of_call args (on_slot x o))
        through (Some wanted) h = g wanted h
        through None h = sym st.nowhere

    pub moved_returned : (inside : Source) (shift : Shift) → inside ≡ StartMoved x shift → led_to result want ≡ before (out_of_call args (on_slot x (shifted shift want))) → led_to result want ≡ before (out_of_call args (led_to inside want))
    moved_returned inside shift is h = h ∙ sym (ap (λ (s : Source). before (out_of_call args (led_to s want))) is)

  answer_stays : (f : Name) (want : Want) → on_answer f want ≡ before (on_answer f want)
  answer_stays f (Within lo hi) = by (is_whole lo hi)
    where
      by : (b : Bool) → (if b then Nowhere else Asked f (Range lo hi)) ≡ before (if b then Nowhere else Asked f (Range lo hi))
      by true = sym st.nowhere
      by false = sym (st.asked f (Range lo hi))
  answer_stays f (Except c) = by (int_eq c (pos 0))
    where
      by : (b : Bool) → (if b then Asked f Nonzero else Nowhere) ≡ before (if b then Asked f Nonzero else Nowhere)
      by true = sym (st.asked f Nonzero)
      by false = sym st.nowhere

  -- with one statement more
  module _ (new : List Source) (r : Results) (s : Stmt) where
    pub put_stands : (to : Slot) (source : Source) → Puts sources to source new → ((x : ℕ) → assigns x s ≡ (to.0 == x)) → LeadsAs source (λ want. before (over_assigning r s want)) → StandFor (λ lead. before (over r s lead)) new
    put_stands to source puts sets leads = record { nowhere = st.nowhere; asked = st.asked; at = λ x want w. by x want w (to.0 == x.0) refl }
      where
        by : (x : Slot) (want : Want) → IsOfWords want → (b : Bool) → (to.0 == x.0) ≡ b → led_to (held new x) want ≡ before (if assigns x.0 s then over_assigning r s want else At x want)
        by x want w true e =
            ap (λ (a : Source). led_to a want) (puts x ∙ pick_true (to.0 == x.0) source (held sources x) e) ∙ leads want w
            ∙ ap before (sym (pick_true (assigns x.0 s) (over_assigning r s want) (At x want) (sets x.0 ∙ e)))
        by x want w false e =
            ap (λ (a : Source). led_to a want) (puts x ∙ pick_false (to.0 == x.0) source (held sources x) e) ∙ st.at x want w
            ∙ ap before (sym (pick_false (assigns x.0 s) (over_assigning r s want) (At x want) (sets x.0 ∙ e)))

    pub lose_stands : Loses sources (λ x. assigns x s) new → ((want : Want) → Nowhere ≡ over_assigning r s want) → StandFor (λ lead. before (over r s lead)) new
    lose_stands loses none = record { nowhere = st.nowhere; asked = st.asked; at = λ x want w. by x want w (assigns x.0 s) refl }
      where
        by : (x : Slot) (want : Want) → IsOfWords want → (b : Bool) → assigns x.0 s ≡ b → led_to (held new x) want ≡ before (if assigns x.0 s then over_assigning r s want else At x want)
        by x want w true e =
            ap (λ (a : Source). led_to a want) (loses x ∙ pick_true (assigns x.0 s) Unknown (held sources x) e) ∙ sym st.nowhere
            ∙ ap before (none want ∙ sym (pick_true (assigns x.0 s) (over_assigning r s want) (At x want) e))
        by x want w false e =
            ap (λ (a : Source). led_to a want) (loses x ∙ pick_false (assigns x.0 s) Unknown (held sources x) e) ∙ st.at x want w
            ∙ ap before (sym (pick_false (assigns x.0 s) (over_assigning r s want) (At x want) e))

  module _ (new : List Source) (r : Results) (simple : Simple) (to : Slot) (source : Source) (puts : Puts sources to source new) where
    simple_stands : ((x : ℕ) → simple_assigns x simple ≡ (to.0 == x)) → LeadsAs source (λ want. before (over_simple simple want)) → StandFor (λ lead. before (over r (plain simple) lead)) new
    simple_stands sets leads = put_stands new r (plain simple) to source puts (λ x. assigns-plain x simple ∙ sets x) leads

    pub set_stands : (from : CodeOperand) → simple ≡ Set to from → LeadsAs source (λ want. before (on_operand from (Some want))) → StandFor (λ lead. before (over r (plain simple) lead)) new
    set_stands from is leads = simple_stands (λ x. ap (simple_assigns x) is) (λ want w. leads want w ∙ ap before (sym (ap (λ (t : Simple). over_simple t want) is)))

    pub arith_stands : (op : Op) (left right : CodeOperand) (site : ℕ) → simple ≡ Arith to op left right site → LeadsAs source (λ want. before (over_arith op left right want)) → StandFor (λ lead. before (over r (plain simple) lead)) new
    arith_stands op left right site is leads = simple_stands (λ x. ap (simple_assigns x) is) (λ want w. leads want w ∙ ap before (sym (ap (λ (t : Simple). over_simple t want) is)))

    pub ask_stands : (f : Name) (args : List CodeOperand) → simple ≡ Ask to f args → source ≡ Answer f → StandFor (λ lead. before (over r (plain simple) lead)) new
    ask_stands f args is e =
        simple_stands (λ x. ap (simple_assigns x) is) (λ want w. ap (λ (a : Source). led_to a want) e ∙ answer_stays f want ∙ ap before (sym (ap (λ (t : Simple). over_simple t want) is)))

  pub assert_stands : (r : Results) (simple : Simple) (test : CodeTest) (site : ℕ) → simple ≡ Assert test site → StandFor (λ lead. before (over r (plain simple) lead)) sources
  assert_stands r simple test site is =
      record { nowhere = st.nowhere; asked = st.asked; at = λ x want w. st.at x want w ∙ ap before (sym (pick_false (assigns x.0 (plain simple)) (over_simple simple want) (At x want) (assigns-plain x.0 simple ∙ ap (simple_assigns x.0) is))) }

  module _ (new : List Source) (r : Results) (s : CodeStmt) where
    pub plain_stands : (simple : Simple) → s ≡ Plain simple → StandFor (λ lead. before (over r (plain simple) lead)) new → StandFor (λ lead. before (over r (stmt_of s) lead)) new
    plain_stands simple is h = subst (λ (t : Stmt). StandFor (λ lead. before (over r t lead)) new) (sym (is_plain s simple is)) h

    pub help_stands : (to : Slot) (callee : ProcId) (args given : List CodeOperand) (inside source : Source) → s ≡ Help to callee args → given ≡ args → Puts sources to source new →
        LeadsAs source (λ want. before (out_of_call given (led_to inside want))) → LeadsAs inside (r callee.0) → StandFor (λ lead. before (over r (stmt_of s) lead)) new
    help_stands to callee args given inside source is same puts leads result =
        subst (λ (t : Stmt). StandFor (λ lead. before (over r t lead)) new) (sym (is_help s to callee args is))
        (put_stands new r (help to callee args) to source puts (λ x. assigns-help x to callee args) (λ want w. leads want w ∙ (λ i. before (out_of_call (same i) (result want w i)))))

    pub if_stands : (test : CodeTest) (first second : List CodeStmt) → s ≡ If test first second → Loses sources (λ x. assigns x (stmt_of s)) new → StandFor (λ lead. before (over r (stmt_of s) lead)) new
    if_stands test first second is loses = lose_stands new r (stmt_of s) loses (λ want. over_if r s test first second want is)

    pub repeat_stands : (repeat : CodeRepeat) → s ≡ Repeat repeat → Loses sources (λ x. assigns x (stmt_of s)) new → StandFor (λ lead. before (over r (stmt_of s) lead)) new
    repeat_stands repeat is loses = lose_stands new r (stmt_of s) loses (λ want. over_repeat r s repeat want is)

-- what a turn of a loop leaves
pub turned_stands : (none turned : List Source) (s : CodeStmt) (repeat : CodeRepeat) → none ≡ [] → s ≡ Repeat repeat → Loses none (λ x. assigns x (stmt_of s)) turned → StandFor (out_of_loop repeat.index (block_of repeat.body)) turned
turned_stands none turned s repeat empty is loses = record { nowhere = refl; asked = λ f cond. refl; at = λ x want w. ap (λ (a : Source). led_to a want) (left x) ∙ by ((repeat.index.0 == x.0) || block_assigns x.0 (block_of repeat.body)) x want }
  where
    left : (x : Slot) → held turned x ≡ (if (repeat.index.0 == x.0) || block_assigns x.0 (block_of repeat.body) then Unknown else Start x)
    left x = loses x ∙ (λ i. if (ap (assigns x.0) (is_repeat s repeat is) ∙ assigns-loop x.0 repeat) i then Unknown else held (empty i) x)

    by : (b : Bool) (x : Slot) (want : Want) → led_to (if b then Unknown else Start x) want ≡ (if b then Nowhere else At x want)
    by true x want = refl
    by false x want = refl

-- at the start, and from one statement of a block to the next
start_stands : StandFor (λ lead. lead) []
start_stands = record { nowhere = refl; asked = λ f cond. refl; at = λ x want w. refl }

pub no_stands : (r : Results) (block : List CodeStmt) (sources : List Source) → sources ≡ [] → StandFor (over_all r (block_of (take 0 block))) sources
no_stands r block sources e =
    subst (λ (b : List CodeStmt). StandFor (over_all r (block_of b)) sources) (sym (take_none block))
    (subst (λ (f : Lead → Lead). StandFor f sources) (λ i lead. sym (over_all-none r lead) i) (subst (StandFor (λ lead. lead)) (sym e) start_stands))

pub next_stands : (r : Results) (block : List CodeStmt) (i : ℕ) (s : CodeStmt) (new : List Source) → i < length block → s ≡ get_or block i s →
    StandFor (λ lead. over_all r (block_of (take i block)) (over r (stmt_of s) lead)) new → StandFor (over_all r (block_of (take (i + 1) block))) new
next_stands r block i s new h is st =
    subst (λ (f : Lead → Lead). StandFor f new)
    (λ j lead. sym (ap (λ (n : ℕ). over_all r (block_of (take n block)) lead) (add-one i) ∙ over_last r block i s lead h is) j) st
