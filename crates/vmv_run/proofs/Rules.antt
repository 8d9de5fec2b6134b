-- What each form of statement adds to a walk.
use Rattle.std.proofs.Common.{◌≡◌, inl, inr, ℕ, suc, ◌+◌, ◌≤◌, ℤ, pos, Bool, true, false, MatchBool, if◌then◌else◌, Option, Some, None, List, [], ◌∷◌, ◌++◌, length, map, set, slice_get, refl, sym, ap, subst, arith, ◌∙◌, append_assoc, append-nil}
use Rattle.std.specs.Prelude.{int_lt, FitsSigned}
use Rattle.std.specs.Int.{w64}
use Rattle.std.proofs.lemmas.Int.{ints}
use Rattle.std.proofs.lemmas.Option.{slice_get_within}
use Rattle.vmv_tree.specs.declared.name.Name.{Name}
use Rattle.vmv_tree.specs.declared.tree.Op.{Op}
use Rattle.vmv_tree.specs.declared.tree.Operand.{Operand}
use Rattle.vmv_tree.specs.declared.tree.Operand.TheVariants.{Lit, Var}
use Rattle.vmv_tree.specs.declared.tree.Test.{Test}
use Rattle.vmv_tree.specs.declared.tree.Param.{Param}
use Rattle.vmv_tree.specs.Words.{IsWord, result_of, compare}
use Rattle.vmv_tree.specs.Tree.{Item, Stmt, copy, compute, call, assert, choose, repeat, Block, [], ◌⨾◌}
use Rattle.vmv_tree.specs.Run.{Valuation, Answers, End, next, Outcome, done, Does, InARow, Turns, Runs, RunsAll, Run, value, assign, holds, set_or_fail, set_to_outcome, sites, block_sites, turns_of}
use Rattle.vmv_snapshot.specs.declared.code.Slot.{Slot}
use Rattle.vmv_snapshot.specs.declared.code.ProcId.{ProcId}
use Rattle.vmv_snapshot.specs.declared.code.SiteId.{SiteId}
use Rattle.vmv_snapshot.specs.declared.code.CodeOperand.{CodeOperand}
use Rattle.vmv_snapshot.specs.declared.code.CodeOperand.TheVariants.{Lit, Var}
use Rattle.vmv_snapshot.specs.declared.code.CodeTest.{CodeTest}
use Rattle.vmv_snapshot.specs.declared.code.Simple.{Simple}
use Rattle.vmv_snapshot.specs.declared.code.Simple.TheVariants.{Set, Arith, Ask, Assert}
use Rattle.vmv_snapshot.specs.Code.{Stmt as CodeStmt, plain, help, branch, loop, Block as CodeBlock, [], ◌⨾◌}
use Rattle.vmv_snapshot.specs.Procs.{procs, params_of}
use Rattle.vmv_snapshot.specs.Resolves.{Scope, IsSlot, ResolvesOperand, ResolvesTest, ResolvesArgs, Resolves, ResolvesAll}
use Rattle.vmv_run.specs.declared.source.Source.{Source}
use Rattle.vmv_run.specs.declared.walked.Walked.{Walked}
use Rattle.vmv_run.specs.declared.walked.Walked.TheVariants.{Next, Fail, Stopped}
use Rattle.vmv_run.specs.declared.walked.Ended.TheVariants.{Done, Fail as Failed, Stopped as Left}
use Rattle.vmv_run.specs.Source.{taken_of, Went, Stops}
use Rattle.vmv_run.specs.Walk.{word_in, holds_in, start_frame, valuation, Place, Asks, Finds, FindsRun, Walks, WalksAll, WalksProc}
use Rattle.vmv_run.proofs.Callees.{Callees, BlockCallees}
use Rattle.vmv_run.proofs.RunExists.{Answer, Turns-can, RunsAll-can}
use Rattle.vmv_run.proofs.Frames.{AreOnce, valuation-set, valuation-get}
use Rattle.vmv_run.proofs.Sources.{went_nothing}

pub fits_word : (z : ℤ) → FitsSigned w64 z → IsWord z
fits_word z h = grind (arith, ints)

went_row : (a b c : Source) (u w : Answers) → Went a b u → Went b c w → Went a c (u ++ w)
went_row a b c u w f g = record {
  setting = g.setting ∙ f.setting;
  taken = g.taken ∙ (ap (λ t. t ++ w) f.taken ∙ append_assoc (taken_of a) u w);
  sound = λ h. g.sound (f.sound h);
}

-- what one relation does from here, the other does from there
pub finds_from : (program : List Item) (does other : Does) (v u w : Valuation) (s t : Source) (r : Walked) → ((a : Answers) (e : End) → does v a e → other u a e) →
    Finds program does v w s t r → Finds program other u w s t r
unfolding Finds
finds_from program does other v u w s t Next f (used, went, h) = (used, went, f used (next w) h)
finds_from program does other v u w s t (Fail site) f (used, name, went, own, h) = (used, name, went, own, f used _ h)
finds_from program does other v u w s t Stopped f (used, name, went, stops, (word, more, (end, h))) = (used, name, went, stops, (word, more, (end, f _ end h)))

-- from any valuation it does something
abbrev pub CanAny : Does → Type 0
CanAny does = (v : Valuation) → (a : Answers) × (e : End) × does v a e

-- what is left, done from here, completes the whole
pub record Leads (whole : Does) (v : Valuation) (rest : Does) (w : Valuation) (old new : Source) : Type 0 where
  pub used : Answers
  pub went : Went old new used
  pub on : (more : Answers) (end : End) → rest w more end → whole v (used ++ more) end

pub leads_start : (whole : Does) (v : Valuation) (s : Source) → Leads whole v whole v s s
leads_start whole v s = record { used = []; went = went_nothing s; on = λ more end h. h }

pub leads_next : (program : List Item) (whole first rest : Does) (v w u : Valuation) (s t r : Source) → Leads whole v (InARow first rest) w s t → Finds program first w u t r Next →
    Leads whole v rest u s r
unfolding Finds
leads_next program whole first rest v w u s t r l (used, went, h) = record {
  used = l.used ++ used;
  went = went_row s t r l.used used l.went went;
  on = λ more end k. subst (λ a. whole v a end) (sym (append_assoc l.used used more)) (l.on (used ++ more) end (inr (u, used, more, h, k, refl)));
}

ask_on : (whole first rest : Does) (v w : Valuation) (s t : Source) → CanAny rest → (l : Leads whole v (InARow first rest) w s t) → (used : Answers) (name : Name) (word : ℤ) (more : Answers) (end : End) →
    first w (used ++ (name, word) ∷ more) end → Asks (λ answers. (end : End) × whole v answers end) (l.used ++ used) name
ask_on whole first rest v w s t can l used name word more (End.fail site) h =
    (word, more, (End.fail site, subst (λ a. whole v a (End.fail site)) (sym (append_assoc l.used used ((name, word) ∷ more))) (l.on (used ++ (name, word) ∷ more) (End.fail site) (inl (h, tt)))))
ask_on whole first rest v w s t can l used name word more (next mid) h =
    let k = can mid in
    let path = ap (λ a. l.used ++ a) (append_assoc used ((name, word) ∷ more) k.0) ∙ sym (append_assoc l.used used ((name, word) ∷ more ++ k.0)) in
    (word, more ++ k.0, (k.1, subst (λ a. whole v a k.1) path (l.on ((used ++ (name, word) ∷ more) ++ k.0) k.1 (inr (mid, used ++ (name, word) ∷ more, k.0, h, k.2, refl)))))

pub leads_stop : (program : List Item) (whole first rest : Does) (v w u : Valuation) (s t r : Source) (walked : Walked) → (walked ≡ Next → ⊥) → CanAny rest →
    Leads whole v (InARow first rest) w s t → Finds program first w u t r walked → Finds program whole v u s r walked
unfolding Finds
leads_stop program whole first rest v w u s t r Next stopped can l h = absurd (stopped refl)
leads_stop program whole first rest v w u s t r (Fail site) stopped can l (used, name, went, own, h) =
    (l.used ++ used, name, went_row s t r l.used used l.went went, own, l.on used _ (inl (h, tt)))
leads_stop program whole first rest v w u s t r Stopped stopped can l (used, name, went, stops, (word, more, (end, h))) =
    (l.used ++ used, name, went_row s t r l.used used l.went went, stops, ask_on whole first rest v w s t can l used name word more end h)

pub leads_end : (program : List Item) (whole rest : Does) (v w : Valuation) (s t : Source) → Leads whole v rest w s t → rest w [] (next w) → Finds program whole v w s t Next
unfolding Finds
leads_end program whole rest v w s t l h = (l.used, l.went, subst (λ a. whole v a (next w)) (append-nil l.used) (l.on [] (next w) h))

put_in : (b : Bool) (P Q : Type 0) → b ≡ true → P → MatchBool b P Q
put_in true P Q e p = p
put_in false P Q e p = absurd (cc)

put_past : (b : Bool) (P Q : Type 0) → b ≡ false → Q → MatchBool b P Q
put_past true P Q e q = absurd (cc)
put_past false P Q e q = q

pub operand_word : (scope : Scope) (frame : List ℤ) (o : Operand) (code : CodeOperand) → AreOnce scope.slots → length scope.slots ≤ length frame → ResolvesOperand scope o code →
    value (valuation scope.slots frame) o ≡ word_in frame code
operand_word scope frame (Lit word) (Lit same) once few r = sym r.0
operand_word scope frame (Var name) (Var slot) once few r =
    valuation-get scope.slots frame slot.0 name (pos 0) once r (omega (arith, slice_get_within scope.slots slot.0 (Some name) r))
operand_word scope frame (Lit word) (Var slot) once few r = absurd r
operand_word scope frame (Var name) (Lit word) once few r = absurd r

args_words : (scope : Scope) (frame : List ℤ) (args : List Operand) (codes : List CodeOperand) → AreOnce scope.slots → length scope.slots ≤ length frame → ResolvesArgs scope args codes →
    map (value (valuation scope.slots frame)) args ≡ map (word_in frame) codes
args_words scope frame [] [] once few r = refl
args_words scope frame [] (code ∷ codes) once few r = absurd r
args_words scope frame (o ∷ args) [] once few r = absurd r
args_words scope frame (o ∷ args) (code ∷ codes) once few r = λ i. operand_word scope frame o code once few r.0 i ∷ args_words scope frame args codes once few r.1 i

test_holds : (scope : Scope) (frame : List ℤ) (test : Test) (code : CodeTest) → AreOnce scope.slots → length scope.slots ≤ length frame → ResolvesTest scope test code →
    holds (valuation scope.slots frame) test ≡ holds_in frame code
test_holds scope frame test code once few r =
    λ i. compare (sym r.1 i) (operand_word scope frame test.left code.left once few r.0 i) (operand_word scope frame test.right code.right once few r.2 i)

slot_set : (scope : Scope) (frame : List ℤ) (slot : Slot) (name : Name) (w : ℤ) → AreOnce scope.slots → length scope.slots ≤ length frame → IsSlot scope name slot →
    valuation scope.slots (set frame slot.0 w) ≡ assign (valuation scope.slots frame) name w
slot_set scope frame slot name w once few r =
    valuation-set scope.slots frame slot.0 name w once r (omega (arith, slice_get_within scope.slots slot.0 (Some name) r))

module _ (program : List Item) (proc : ProcId) (frame : List ℤ) (long : length frame ≡ 256) where
  within : (x : Place program proc.0) → length x.scope.slots ≤ length frame
  within x = let few = x.few in omega arith

  set_finds : (to : Slot) (from : CodeOperand) (w : ℤ) (source : Source) (x : Place program proc.0) (k : ℕ) (s : Stmt) → w ≡ word_in frame from → Resolves x.scope k s (plain (Set to from)) →
      Finds program (Runs (Run program) x.name k s) (valuation x.scope.slots frame) (valuation x.scope.slots (set frame to.0 w)) source source Next
  unfolding Resolves Finds
  set_finds to from w source x k (copy name o) e r =
      let word = operand_word x.scope frame o from x.once (within x) r.1 in
      ([], went_nothing source, (refl, ap next (slot_set x.scope frame to name w x.once (within x) r.0 ∙ ap (assign (valuation x.scope.slots frame) name) (e ∙ sym word))))
  set_finds to from w source x k s e r = absurd r

  pub walks_set : (simple : Simple) (to : Slot) (from : CodeOperand) (w : ℤ) (source : Source) → simple ≡ Set to from → w ≡ word_in frame from →
      Walks program proc.0 (plain simple) frame (set frame to.0 w) source source Next
  unfolding Walks
  walks_set simple to from w source is e =
      subst (λ (c : Simple). Walks program proc.0 (plain c) frame (set frame to.0 w) source source Next) (sym is) (λ x k s r. set_finds to from w source x k s e r)

  result_is : (x : Place program proc.0) (op same : Op) (left right : Operand) (a b : CodeOperand) (result : Option ℤ) → same ≡ op → ResolvesOperand x.scope left a → ResolvesOperand x.scope right b →
      result_of same (word_in frame a) (word_in frame b) ≡ result → result_of op (value (valuation x.scope.slots frame) left) (value (valuation x.scope.slots frame) right) ≡ result
  result_is x op same left right a b result p q r e =
      (λ i. result_of (sym p i) (operand_word x.scope frame left a x.once (within x) q i) (operand_word x.scope frame right b x.once (within x) r i)) ∙ e

  arith_finds : (to : Slot) (op : Op) (a b : CodeOperand) (site : ℕ) (w : ℤ) (source : Source) (x : Place program proc.0) (k : ℕ) (s : Stmt) →
      result_of op (word_in frame a) (word_in frame b) ≡ Some w → Resolves x.scope k s (plain (Arith to op a b site)) →
      Finds program (Runs (Run program) x.name k s) (valuation x.scope.slots frame) (valuation x.scope.slots (set frame to.0 w)) source source Next
  unfolding Resolves Finds
  arith_finds to op a b site w source x k (compute name own left right) e r =
      let v = valuation x.scope.slots frame in
      let is = result_is x own op left right a b (Some w) r.1 r.2 r.3 e in
      ([], went_nothing source, (refl, ap next (slot_set x.scope frame to name w x.once (within x) r.0) ∙ sym (ap (set_or_fail v name (record { proc = x.name; number = k + 1 })) is)))
  arith_finds to op a b site w source x k s e r = absurd r

  pub walks_arith : (simple : Simple) (to : Slot) (op : Op) (a b : CodeOperand) (site : ℕ) (w : ℤ) (source : Source) → simple ≡ Arith to op a b site →
      result_of op (word_in frame a) (word_in frame b) ≡ Some w → Walks program proc.0 (plain simple) frame (set frame to.0 w) source source Next
  unfolding Walks
  walks_arith simple to op a b site w source is e =
      subst (λ (c : Simple). Walks program proc.0 (plain c) frame (set frame to.0 w) source source Next) (sym is) (λ x k s r. arith_finds to op a b site w source x k s e r)

  fault_finds : (to : Slot) (op : Op) (a b : CodeOperand) (site : ℕ) (source : Source) (x : Place program proc.0) (k : ℕ) (s : Stmt) →
      result_of op (word_in frame a) (word_in frame b) ≡ None → Resolves x.scope k s (plain (Arith to op a b site)) →
      Finds program (Runs (Run program) x.name k s) (valuation x.scope.slots frame) (valuation x.scope.slots frame) source source (Fail (record { proc = proc; index = site }))
  unfolding Resolves Finds
  fault_finds to op a b site source x k (compute name own left right) e r =
      let v = valuation x.scope.slots frame in
      let is = result_is x own op left right a b None r.1 r.2 r.3 e in
      ([], x.name, went_nothing source, x.own, (refl, ap (λ n. End.fail (record { proc = x.name; number = n })) r.4 ∙ sym (ap (set_or_fail v name (record { proc = x.name; number = k + 1 })) is)))
  fault_finds to op a b site source x k s e r = absurd r

  pub walks_fault : (simple : Simple) (to : Slot) (op : Op) (a b : CodeOperand) (site : ℕ) (source : Source) → simple ≡ Arith to op a b site →
      result_of op (word_in frame a) (word_in frame b) ≡ None → Walks program proc.0 (plain simple) frame frame source source (Fail (record { proc = proc; index = site }))
  unfolding Walks
  walks_fault simple to op a b site source is e =
      subst (λ (c : Simple). Walks program proc.0 (plain c) frame frame source source (Fail (record { proc = proc; index = site }))) (sym is) (λ x k s r. fault_finds to op a b site source x k s e r)

  pass_finds : (test : CodeTest) (site : ℕ) (source : Source) (x : Place program proc.0) (k : ℕ) (s : Stmt) → holds_in frame test ≡ true → Resolves x.scope k s (plain (Assert test site)) →
      Finds program (Runs (Run program) x.name k s) (valuation x.scope.slots frame) (valuation x.scope.slots frame) source source Next
  unfolding Resolves Finds
  pass_finds test site source x k (assert own) e r =
      let v = valuation x.scope.slots frame in
      let is : holds v own ≡ true = test_holds x.scope frame own test x.once (within x) r.0 ∙ e in
      ([], went_nothing source, (refl, sym (ap (λ (b : Bool). if b then next v else End.fail (record { proc = x.name; number = k + 1 })) is)))
  pass_finds test site source x k s e r = absurd r

  pub walks_pass : (simple : Simple) (test : CodeTest) (site : ℕ) (source : Source) → simple ≡ Assert test site → holds_in frame test ≡ true →
      Walks program proc.0 (plain simple) frame frame source source Next
  unfolding Walks
  walks_pass simple test site source is e =
      subst (λ (c : Simple). Walks program proc.0 (plain c) frame frame source source Next) (sym is) (λ x k s r. pass_finds test site source x k s e r)

  refuse_finds : (test : CodeTest) (site : ℕ) (source : Source) (x : Place program proc.0) (k : ℕ) (s : Stmt) → holds_in frame test ≡ false → Resolves x.scope k s (plain (Assert test site)) →
      Finds program (Runs (Run program) x.name k s) (valuation x.scope.slots frame) (valuation x.scope.slots frame) source source (Fail (record { proc = proc; index = site }))
  unfolding Resolves Finds
  refuse_finds test site source x k (assert own) e r =
      let v = valuation x.scope.slots frame in
      let is : holds v own ≡ false = test_holds x.scope frame own test x.once (within x) r.0 ∙ e in (
        [],
        x.name,
        went_nothing source,
        x.own,
        (
          refl,
          ap (λ n. End.fail (record { proc = x.name; number = n })) r.1
              ∙ sym (ap (λ (b : Bool). if b then next v else End.fail (record { proc = x.name; number = k + 1 })) is),
        ),
      )
  refuse_finds test site source x k s e r = absurd r

  pub walks_refuse : (simple : Simple) (test : CodeTest) (site : ℕ) (source : Source) → simple ≡ Assert test site → holds_in frame test ≡ false →
      Walks program proc.0 (plain simple) frame frame source source (Fail (record { proc = proc; index = site }))
  unfolding Walks
  walks_refuse simple test site source is e =
      subst (λ (c : Simple). Walks program proc.0 (plain c) frame frame source source (Fail (record { proc = proc; index = site }))) (sym is) (λ x k s r. refuse_finds test site source x k s e r)

  ask_finds : (to : Slot) (callee : Name) (codes : List CodeOperand) (w : ℤ) (old new : Source) (x : Place program proc.0) (k : ℕ) (s : Stmt) → IsWord w → Went old new ((callee, w) ∷ []) →
      Resolves x.scope k s (plain (Ask to callee codes)) →
      Finds program (Runs (Run program) x.name k s) (valuation x.scope.slots frame) (valuation x.scope.slots (set frame to.0 w)) old new Next
  unfolding Resolves Finds
  ask_finds to callee codes w old new x k (call name f args) fits went r =
      let v = valuation x.scope.slots frame in
      let run = x.asks f r.2 (map (value v) args) w fits in
      ((callee, w) ∷ [], went, (done w, subst (λ (y : Name). Run program f (map (value v) args) ((y, w) ∷ []) (done w)) (sym r.1) run, ap next (slot_set x.scope frame to name w x.once (within x) r.0)))
  ask_finds to callee codes w old new x k s fits went r = absurd r

  pub walks_ask : (simple : Simple) (to : Slot) (callee : Name) (codes : List CodeOperand) (w : ℤ) (old new : Source) → simple ≡ Ask to callee codes → IsWord w → Went old new ((callee, w) ∷ []) →
      Walks program proc.0 (plain simple) frame (set frame to.0 w) old new Next
  unfolding Walks
  walks_ask simple to callee codes w old new is fits went =
      subst (λ (c : Simple). Walks program proc.0 (plain c) frame (set frame to.0 w) old new Next) (sym is) (λ x k s r. ask_finds to callee codes w old new x k s fits went r)

  stop_finds : (to : Slot) (callee : Name) (codes : List CodeOperand) (old new : Source) (x : Place program proc.0) (k : ℕ) (s : Stmt) → Went old new [] × Stops new callee →
      Resolves x.scope k s (plain (Ask to callee codes)) →
      Finds program (Runs (Run program) x.name k s) (valuation x.scope.slots frame) (valuation x.scope.slots frame) old new Stopped
  unfolding Resolves Finds
  stop_finds to callee codes old new x k (call name f args) stops r =
      let v = valuation x.scope.slots frame in
      let run = x.asks f r.2 (map (value v) args) (pos 0) refl in
      ([], callee, stops.0, stops.1, (pos 0, [], (next (assign v name (pos 0)), (done (pos 0), subst (λ (y : Name). Run program f (map (value v) args) ((y, pos 0) ∷ []) (done (pos 0))) (sym r.1) run, refl))))
  stop_finds to callee codes old new x k s stops r = absurd r

  pub walks_stop : (simple : Simple) (to : Slot) (callee : Name) (codes : List CodeOperand) (old new : Source) → simple ≡ Ask to callee codes → Went old new [] × Stops new callee →
      Walks program proc.0 (plain simple) frame frame old new Stopped
  unfolding Walks
  walks_stop simple to callee codes old new is stops =
      subst (λ (c : Simple). Walks program proc.0 (plain c) frame frame old new Stopped) (sym is) (λ x k s r. stop_finds to callee codes old new x k s stops r)

  -- the part that the test picks
  branch_finds : (test : CodeTest) (first second : CodeBlock) (b : Bool) (after : List ℤ) (old new : Source) (r : Walked) (x : Place program proc.0) (k : ℕ) (s : Stmt) → holds_in frame test ≡ b →
      MatchBool b (WalksAll program proc.0 first frame after old new r) (WalksAll program proc.0 second frame after old new r) → Resolves x.scope k s (branch test first second) →
      Finds program (Runs (Run program) x.name k s) (valuation x.scope.slots frame) (valuation x.scope.slots after) old new r
  unfolding Resolves WalksAll
  branch_finds test first second true after old new r x k (choose own one other) e h res =
      let v = valuation x.scope.slots frame in
      let is : holds v own ≡ true = test_holds x.scope frame own test x.once (within x) res.0 ∙ e in
      finds_from program (RunsAll (Run program) x.name k one) (Runs (Run program) x.name k (choose own one other)) v v (valuation x.scope.slots after) old new r
      (λ a d run. put_in (holds v own) (RunsAll (Run program) x.name k one v a d) (RunsAll (Run program) x.name (k + block_sites one) other v a d) is run) (h x k one res.1)
  branch_finds test first second false after old new r x k (choose own one other) e h res =
      let v = valuation x.scope.slots frame in
      let is : holds v own ≡ false = test_holds x.scope frame own test x.once (within x) res.0 ∙ e in
      finds_from program (RunsAll (Run program) x.name (k + block_sites one) other) (Runs (Run program) x.name k (choose own one other)) v v (valuation x.scope.slots after) old new r
      (λ a d run. put_past (holds v own) (RunsAll (Run program) x.name k one v a d) (RunsAll (Run program) x.name (k + block_sites one) other v a d) is run) (h x (k + block_sites one) other res.2)
  branch_finds test first second b after old new r x k s e h res = absurd res

  pub walks_first : (test : CodeTest) (first second : CodeBlock) (after : List ℤ) (old new : Source) (r : Walked) → holds_in frame test ≡ true →
      WalksAll program proc.0 first frame after old new r → Walks program proc.0 (branch test first second) frame after old new r
  unfolding Walks
  walks_first test first second after old new r e h x k s res = branch_finds test first second true after old new r x k s e h res

  pub walks_second : (test : CodeTest) (first second : CodeBlock) (after : List ℤ) (old new : Source) (r : Walked) → holds_in frame test ≡ false →
      WalksAll program proc.0 second frame after old new r → Walks program proc.0 (branch test first second) frame after old new r
  unfolding Walks
  walks_second test first second after old new r e h x k s res = branch_finds test first second false after old new r x k s e h res

  -- a call of a helper that returned
  help_finds : (to : Slot) (callee : ProcId) (codes : List CodeOperand) (params : List Param) (own : List ℤ) (w : ℤ) (old new : Source) (x : Place program proc.0) (k : ℕ) (s : Stmt) →
      WalksProc program callee.0 own old new (Done w) → slice_get (map params_of (procs program)) callee.0 ≡ Some params → own ≡ start_frame (length params) (map (word_in frame) codes) →
      Resolves x.scope k s (help to callee codes) →
      Finds program (Runs (Run program) x.name k s) (valuation x.scope.slots frame) (valuation x.scope.slots (set frame to.0 w)) old new Next
  unfolding Resolves Finds WalksProc FindsRun
  help_finds to callee codes params own w old new x k (call name f args) h at is r =
      let words = args_words x.scope frame args codes x.once (within x) r.2 in
      let run = h f params (map (word_in frame) codes) x.valid (x.helps f callee r.1).0 at is in
      (run.0, run.1, (done w, subst (λ (ws : List ℤ). Run program f ws run.0 (done w)) (sym words) run.2, ap next (slot_set x.scope frame to name w x.once (within x) r.0)))
  help_finds to callee codes params own w old new x k s h at is r = absurd r

  pub walks_help : (to : Slot) (callee : ProcId) (codes : List CodeOperand) (params : List Param) (own : List ℤ) (w : ℤ) (old new : Source) →
      WalksProc program callee.0 own old new (Done w) → slice_get (map params_of (procs program)) callee.0 ≡ Some params → own ≡ start_frame (length params) (map (word_in frame) codes) →
      Walks program proc.0 (help to callee codes) frame (set frame to.0 w) old new Next
  unfolding Walks
  walks_help to callee codes params own w old new h at is x k s r = help_finds to callee codes params own w old new x k s h at is r

  -- one that failed
  help_failed_finds : (to : Slot) (callee : ProcId) (codes : List CodeOperand) (params : List Param) (own : List ℤ) (site : SiteId) (old new : Source) (x : Place program proc.0) (k : ℕ) (s : Stmt) →
      WalksProc program callee.0 own old new (Failed site) → slice_get (map params_of (procs program)) callee.0 ≡ Some params → own ≡ start_frame (length params) (map (word_in frame) codes) →
      Resolves x.scope k s (help to callee codes) →
      Finds program (Runs (Run program) x.name k s) (valuation x.scope.slots frame) (valuation x.scope.slots frame) old new (Fail site)
  unfolding Resolves Finds WalksProc FindsRun
  help_failed_finds to callee codes params own site old new x k (call name f args) h at is r =
      let words = args_words x.scope frame args codes x.once (within x) r.2 in
      let run = h f params (map (word_in frame) codes) x.valid (x.helps f callee r.1).0 at is in
      let end : Outcome = Outcome.fail (record { proc = run.1; number = site.index }) in
      (run.0, run.1, run.2, run.3, (end, subst (λ (ws : List ℤ). Run program f ws run.0 end) (sym words) run.4, refl))
  help_failed_finds to callee codes params own site old new x k s h at is r = absurd r

  pub walks_help_failed : (to : Slot) (callee : ProcId) (codes : List CodeOperand) (params : List Param) (own : List ℤ) (site : SiteId) (old new : Source) →
      WalksProc program callee.0 own old new (Failed site) → slice_get (map params_of (procs program)) callee.0 ≡ Some params → own ≡ start_frame (length params) (map (word_in frame) codes) →
      Walks program proc.0 (help to callee codes) frame frame old new (Fail site)
  unfolding Walks
  walks_help_failed to callee codes params own site old new h at is x k s r = help_failed_finds to callee codes params own site old new x k s h at is r

  -- one in which a call had no answer
  help_left_finds : (to : Slot) (callee : ProcId) (codes : List CodeOperand) (params : List Param) (own : List ℤ) (old new : Source) (x : Place program proc.0) (k : ℕ) (s : Stmt) →
      WalksProc program callee.0 own old new Left → slice_get (map params_of (procs program)) callee.0 ≡ Some params → own ≡ start_frame (length params) (map (word_in frame) codes) →
      Resolves x.scope k s (help to callee codes) →
      Finds program (Runs (Run program) x.name k s) (valuation x.scope.slots frame) (valuation x.scope.slots frame) old new Stopped
  unfolding Resolves Finds WalksProc FindsRun
  help_left_finds to callee codes params own old new x k (call name f args) h at is r =
      let v = valuation x.scope.slots frame in
      let words = args_words x.scope frame args codes x.once (within x) r.2 in
      let run = h f params (map (word_in frame) codes) x.valid (x.helps f callee r.1).0 at is in
      let ask = run.4 in
      let all : Answers = run.0 ++ (run.1, ask.0) ∷ ask.1 in
      (run.0, run.1, run.2, run.3, (ask.0, ask.1, (set_to_outcome v name ask.2.0, (ask.2.0, subst (λ (ws : List ℤ). Run program f ws all ask.2.0) (sym words) ask.2.1, refl))))
  help_left_finds to callee codes params own old new x k s h at is r = absurd r

  pub walks_help_left : (to : Slot) (callee : ProcId) (codes : List CodeOperand) (params : List Param) (own : List ℤ) (old new : Source) →
      WalksProc program callee.0 own old new Left → slice_get (map params_of (procs program)) callee.0 ≡ Some params → own ≡ start_frame (length params) (map (word_in frame) codes) →
      Walks program proc.0 (help to callee codes) frame frame old new Stopped
  unfolding Walks
  walks_help_left to callee codes params own old new h at is x k s r = help_left_finds to callee codes params own old new x k s h at is r

-- each callee of resolved statements has a run
mutual
  unfolding Resolves

  stmt_can : (program : List Item) (proc : ℕ) (x : Place program proc) (k : ℕ) (s : Stmt) (c : CodeStmt) → Resolves x.scope k s c → Callees (Answer (λ f. pos 0) (Run program)) s
  stmt_can program proc x k (copy to from) c r = tt
  stmt_can program proc x k (compute to op left right) c r = tt
  stmt_can program proc x k (assert test) c r = tt
  stmt_can program proc x k (call to callee args) (plain (Ask slot name codes)) r =
      λ words. ((callee, pos 0) ∷ [], done (pos 0), x.asks callee r.2 words (pos 0) refl, (refl, tt))
  stmt_can program proc x k (call to callee args) (help slot number codes) r = (x.helps callee number r.1).1
  stmt_can program proc x k (choose test first second) (branch code one other) r =
      (block_can program proc x k first one r.1, block_can program proc x (k + block_sites first) second other r.2)
  stmt_can program proc x k (repeat index bound most body) (loop slot own code same site inside) r = block_can program proc x (k + 1) body inside r.6
  stmt_can program proc x k s c r = absurd r

  pub block_can : (program : List Item) (proc : ℕ) (x : Place program proc) (k : ℕ) (b : Block) (c : CodeBlock) → ResolvesAll x.scope k b c → BlockCallees (Answer (λ f. pos 0) (Run program)) b
  block_can program proc x k [] [] r = tt
  block_can program proc x k (s ⨾ rest) (c ⨾ codes) r = (stmt_can program proc x k s c r.0, block_can program proc x (k + sites s) rest codes r.1)
  block_can program proc x k b c r = absurd r

any_block : (program : List Item) (proc : ℕ) (x : Place program proc) (k : ℕ) (b : Block) (c : CodeBlock) → ResolvesAll x.scope k b c → CanAny (RunsAll (Run program) x.name k b)
any_block program proc x k b c r v =
    let can = RunsAll-can (λ f. pos 0) (Run program) x.name k b (block_can program proc x k b c r) v in
    (can.0, can.1, can.2)

-- so far in a row of statements: those that are left, walked over from here, complete the row
pub record Onward (program : List Item) (proc : ℕ) (x : Place program proc) (k : ℕ) (whole : Block) (before now : List ℤ) (old new : Source) (rest : CodeBlock) : Type 0 where
  pub sites_before : ℕ
  pub left : Block
  pub resolved : ResolvesAll x.scope sites_before left rest
  pub leads : Leads (RunsAll (Run program) x.name k whole) (valuation x.scope.slots before) (RunsAll (Run program) x.name sites_before left) (valuation x.scope.slots now) old new

unfoldable pub Row : List Item → ℕ → CodeBlock → List ℤ → List ℤ → Source → Source → CodeBlock → Type 0
Row program proc codes before now old new rest =
    (x : Place program proc) (k : ℕ) (b : Block) → ResolvesAll x.scope k b codes → Onward program proc x k b before now old new rest

pub row_start : (program : List Item) (proc : ℕ) (codes : CodeBlock) (before : List ℤ) (old : Source) → Row program proc codes before before old old codes
unfolding Row
row_start program proc codes before old x k b r = record { sites_before = k; left = b; resolved = r; leads = leads_start (RunsAll (Run program) x.name k b) (valuation x.scope.slots before) old }

onward_next : (program : List Item) (proc : ℕ) (x : Place program proc) (k : ℕ) (whole : Block) (before now later : List ℤ) (old mid new : Source) (code : CodeStmt) (rest : CodeBlock) (j : ℕ) (left : Block) →
    ResolvesAll x.scope j left (code ⨾ rest) → Leads (RunsAll (Run program) x.name k whole) (valuation x.scope.slots before) (RunsAll (Run program) x.name j left) (valuation x.scope.slots now) old mid →
    Walks program proc code now later mid new Next → Onward program proc x k whole before later old new rest
unfolding Walks ResolvesAll
onward_next program proc x k whole before now later old mid new code rest j [] r l w = absurd r
onward_next program proc x k whole before now later old mid new code rest j (s ⨾ left) r l w = record {
  sites_before = j + sites s;
  left = left;
  resolved = r.1;
  leads = leads_next program (RunsAll (Run program) x.name k whole) (Runs (Run program) x.name j s) (RunsAll (Run program) x.name (j + sites s) left) (valuation x.scope.slots before) (valuation x.scope.slots now) (valuation x.scope.slots later) old mid new l (w x j s r.0);
}

pub row_next : (program : List Item) (proc : ℕ) (codes : CodeBlock) (before now later : List ℤ) (old mid new : Source) (code : CodeStmt) (rest : CodeBlock) →
    Row program proc codes before now old mid (code ⨾ rest) → Walks program proc code now later mid new Next → Row program proc codes before later old new rest
unfolding Row
row_next program proc codes before now later old mid new code rest row w x k b r =
    let o = row x k b r in
    onward_next program proc x k b before now later old mid new code rest o.sites_before o.left o.resolved o.leads w

onward_stop : (program : List Item) (proc : ℕ) (x : Place program proc) (k : ℕ) (whole : Block) (before now later : List ℤ) (old mid new : Source) (code : CodeStmt) (rest : CodeBlock) (walked : Walked) (j : ℕ) (left : Block) →
    (walked ≡ Next → ⊥) → ResolvesAll x.scope j left (code ⨾ rest) →
    Leads (RunsAll (Run program) x.name k whole) (valuation x.scope.slots before) (RunsAll (Run program) x.name j left) (valuation x.scope.slots now) old mid →
    Walks program proc code now later mid new walked → Finds program (RunsAll (Run program) x.name k whole) (valuation x.scope.slots before) (valuation x.scope.slots later) old new walked
unfolding Walks ResolvesAll
onward_stop program proc x k whole before now later old mid new code rest walked j [] stopped r l w = absurd r
onward_stop program proc x k whole before now later old mid new code rest walked j (s ⨾ left) stopped r l w =
    leads_stop program (RunsAll (Run program) x.name k whole) (Runs (Run program) x.name j s) (RunsAll (Run program) x.name (j + sites s) left) (valuation x.scope.slots before) (valuation x.scope.slots now) (valuation x.scope.slots later) old mid new walked
    stopped (any_block program proc x (j + sites s) left rest r.1) l (w x j s r.0)

pub row_stop : (program : List Item) (proc : ℕ) (codes : CodeBlock) (before now later : List ℤ) (old mid new : Source) (code : CodeStmt) (rest : CodeBlock) (walked : Walked) → (walked ≡ Next → ⊥) →
    Row program proc codes before now old mid (code ⨾ rest) → Walks program proc code now later mid new walked → WalksAll program proc codes before later old new walked
unfolding Row WalksAll
row_stop program proc codes before now later old mid new code rest walked stopped row w x k b r =
    let o = row x k b r in
    onward_stop program proc x k b before now later old mid new code rest walked o.sites_before o.left stopped o.resolved o.leads w

onward_end : (program : List Item) (proc : ℕ) (x : Place program proc) (k : ℕ) (whole : Block) (before now : List ℤ) (old new : Source) (j : ℕ) (left : Block) → ResolvesAll x.scope j left [] →
    Leads (RunsAll (Run program) x.name k whole) (valuation x.scope.slots before) (RunsAll (Run program) x.name j left) (valuation x.scope.slots now) old new →
    Finds program (RunsAll (Run program) x.name k whole) (valuation x.scope.slots before) (valuation x.scope.slots now) old new Next
unfolding ResolvesAll
onward_end program proc x k whole before now old new j [] r l =
    leads_end program (RunsAll (Run program) x.name k whole) (RunsAll (Run program) x.name j []) (valuation x.scope.slots before) (valuation x.scope.slots now) old new l (refl, refl)
onward_end program proc x k whole before now old new j (s ⨾ left) r l = absurd r

pub row_end : (program : List Item) (proc : ℕ) (codes : CodeBlock) (before now : List ℤ) (old new : Source) → Row program proc codes before now old new [] → WalksAll program proc codes before now old new Next
unfolding Row WalksAll
row_end program proc codes before now old new row x k b r =
    let o = row x k b r in
    onward_end program proc x k b before now old new o.sites_before o.left o.resolved o.leads

-- so far in a loop: so many turns from this index on, done from here, complete it
unfoldable pub Turning : List Item → ℕ → CodeStmt → List ℤ → List ℤ → Source → Source → ℕ → ℕ → Type 0
Turning program proc code before now old new i left =
    (x : Place program proc) (k : ℕ) (name : Name) (o : Operand) (most : ℤ) (body : Block) → Resolves x.scope k (repeat name o most body) code →
    Leads (Runs (Run program) x.name k (repeat name o most body)) (valuation x.scope.slots before) (Turns name (RunsAll (Run program) x.name (k + 1) body) left i) (valuation x.scope.slots now) old new

bound_word : (program : List Item) (proc : ℕ) (x : Place program proc) (frame : List ℤ) (o : Operand) (bound : CodeOperand) (word : ℤ) → length frame ≡ 256 → word ≡ word_in frame bound →
    ResolvesOperand x.scope o bound → value (valuation x.scope.slots frame) o ≡ word
bound_word program proc x frame o bound word long e r = let few = x.few in operand_word x.scope frame o bound x.once (omega arith) r ∙ sym e

module _ (program : List Item) (proc : ProcId) (index slot : Slot) (bound : CodeOperand) (cap : ℤ) (site : ℕ) (inside : CodeBlock) where
  pub turning_start : (frame : List ℤ) (old : Source) (word : ℤ) → length frame ≡ 256 → word ≡ word_in frame bound → int_lt cap word ≡ false →
      Turning program proc.0 (loop index slot bound cap site inside) frame frame old old 0 (turns_of word)
  unfolding Turning Resolves
  turning_start frame old word long e below x k name o most body r =
      let v = valuation x.scope.slots frame in
      let is = bound_word program proc.0 x frame o bound word long e r.3 in
      let under : int_lt most (value v o) ≡ false = (λ i. int_lt (sym r.4 i) (is i)) ∙ below in
      record {
        used = [];
        went = went_nothing old;
        on = λ more end h. put_past (int_lt most (value v o)) ((more ≡ []) × (end ≡ End.fail (record { proc = x.name; number = k + 1 })))
            (Turns name (RunsAll (Run program) x.name (k + 1) body) (turns_of (value v o)) 0 v more end) under
            (subst (λ (z : ℤ). Turns name (RunsAll (Run program) x.name (k + 1) body) (turns_of z) 0 v more end) (sym is) h);
      }

  turn_finds : (now later : List ℤ) (mid new : Source) (i : ℕ) (r : Walked) (x : Place program proc.0) (k : ℕ) (name : Name) (body : Block) → length now ≡ 256 → IsSlot x.scope name index →
      ResolvesAll x.scope (k + 1) body inside → WalksAll program proc.0 inside (set now index.0 (pos i)) later mid new r →
      Finds program (λ w. RunsAll (Run program) x.name (k + 1) body (assign w name (pos i))) (valuation x.scope.slots now) (valuation x.scope.slots later) mid new r
  unfolding WalksAll
  turn_finds now later mid new i r x k name body long at res walked =
      let few = x.few in
      let here = slot_set x.scope now index name (pos i) x.once (omega arith) at in
      finds_from program (RunsAll (Run program) x.name (k + 1) body) (λ w. RunsAll (Run program) x.name (k + 1) body (assign w name (pos i))) (valuation x.scope.slots (set now index.0 (pos i)))
      (valuation x.scope.slots now) (valuation x.scope.slots later) mid new r (λ a d run. subst (λ (u : Valuation). RunsAll (Run program) x.name (k + 1) body u a d) here run) (walked x (k + 1) body res)

  pub turning_next : (before now later : List ℤ) (old mid new : Source) (i left : ℕ) → length now ≡ 256 →
      Turning program proc.0 (loop index slot bound cap site inside) before now old mid i (suc left) → WalksAll program proc.0 inside (set now index.0 (pos i)) later mid new Next →
      Turning program proc.0 (loop index slot bound cap site inside) before later old new (i + 1) left
  unfolding Turning Resolves
  turning_next before now later old mid new i left long t walked x k name o most body r =
      leads_next program (Runs (Run program) x.name k (repeat name o most body)) (λ w. RunsAll (Run program) x.name (k + 1) body (assign w name (pos i)))
      (Turns name (RunsAll (Run program) x.name (k + 1) body) left (i + 1)) (valuation x.scope.slots before) (valuation x.scope.slots now) (valuation x.scope.slots later) old mid new
      (t x k name o most body r) (turn_finds now later mid new i Next x k name body long r.0 r.6 walked)

  any_turns : (x : Place program proc.0) (k : ℕ) (name : Name) (body : Block) (n i : ℕ) → ResolvesAll x.scope (k + 1) body inside → CanAny (Turns name (RunsAll (Run program) x.name (k + 1) body) n i)
  any_turns x k name body n i r v =
      let can = Turns-can (λ f. pos 0) name (RunsAll (Run program) x.name (k + 1) body) n i (RunsAll-can (λ f. pos 0) (Run program) x.name (k + 1) body (block_can program proc.0 x (k + 1) body inside r)) v in
      (can.0, can.1, can.2)

  turning_stop_finds : (before now later : List ℤ) (old mid new : Source) (i left : ℕ) (walked : Walked) (x : Place program proc.0) (k : ℕ) (s : Stmt) → (walked ≡ Next → ⊥) → length now ≡ 256 →
      Turning program proc.0 (loop index slot bound cap site inside) before now old mid i (suc left) → WalksAll program proc.0 inside (set now index.0 (pos i)) later mid new walked →
      Resolves x.scope k s (loop index slot bound cap site inside) → Finds program (Runs (Run program) x.name k s) (valuation x.scope.slots before) (valuation x.scope.slots later) old new walked
  unfolding Turning Resolves
  turning_stop_finds before now later old mid new i left walked x k (repeat name o most body) stopped long t w r =
      leads_stop program (Runs (Run program) x.name k (repeat name o most body)) (λ w. RunsAll (Run program) x.name (k + 1) body (assign w name (pos i)))
      (Turns name (RunsAll (Run program) x.name (k + 1) body) left (i + 1)) (valuation x.scope.slots before) (valuation x.scope.slots now) (valuation x.scope.slots later) old mid new walked stopped
      (any_turns x k name body left (i + 1) r.6) (t x k name o most body r) (turn_finds now later mid new i walked x k name body long r.0 r.6 w)
  turning_stop_finds before now later old mid new i left walked x k s stopped long t w r = absurd r

  pub turning_stop : (before now later : List ℤ) (old mid new : Source) (i left : ℕ) (walked : Walked) → (walked ≡ Next → ⊥) → length now ≡ 256 →
      Turning program proc.0 (loop index slot bound cap site inside) before now old mid i (suc left) → WalksAll program proc.0 inside (set now index.0 (pos i)) later mid new walked →
      Walks program proc.0 (loop index slot bound cap site inside) before later old new walked
  unfolding Walks
  turning_stop before now later old mid new i left walked stopped long t w x k s r = turning_stop_finds before now later old mid new i left walked x k s stopped long t w r

  turning_end_finds : (before now : List ℤ) (old new : Source) (i : ℕ) (x : Place program proc.0) (k : ℕ) (s : Stmt) → Turning program proc.0 (loop index slot bound cap site inside) before now old new i 0 →
      Resolves x.scope k s (loop index slot bound cap site inside) → Finds program (Runs (Run program) x.name k s) (valuation x.scope.slots before) (valuation x.scope.slots now) old new Next
  unfolding Turning Resolves
  turning_end_finds before now old new i x k (repeat name o most body) t r =
      leads_end program (Runs (Run program) x.name k (repeat name o most body)) (Turns name (RunsAll (Run program) x.name (k + 1) body) 0 i) (valuation x.scope.slots before) (valuation x.scope.slots now) old new
      (t x k name o most body r) (refl, refl)
  turning_end_finds before now old new i x k s t r = absurd r

  pub turning_end : (before now : List ℤ) (old new : Source) (i : ℕ) → Turning program proc.0 (loop index slot bound cap site inside) before now old new i 0 →
      Walks program proc.0 (loop index slot bound cap site inside) before now old new Next
  unfolding Walks
  turning_end before now old new i t x k s r = turning_end_finds before now old new i x k s t r

  above_finds : (frame : List ℤ) (old : Source) (word : ℤ) (x : Place program proc.0) (k : ℕ) (s : Stmt) → length frame ≡ 256 → word ≡ word_in frame bound → int_lt cap word ≡ true →
      Resolves x.scope k s (loop index slot bound cap site inside) →
      Finds program (Runs (Run program) x.name k s) (valuation x.scope.slots frame) (valuation x.scope.slots frame) old old (Fail (record { proc = proc; index = site }))
  unfolding Resolves Finds
  above_finds frame old word x k (repeat name o most body) long e over r =
      let v = valuation x.scope.slots frame in
      let is = bound_word program proc.0 x frame o bound word long e r.3 in
      let above : int_lt most (value v o) ≡ true = (λ i. int_lt (sym r.4 i) (is i)) ∙ over in
      let end : End = End.fail (record { proc = x.name; number = site }) in (
        [],
        x.name,
        went_nothing old,
        x.own,
        put_in (int_lt most (value v o)) (([] ≡ []) × (end ≡ End.fail (record { proc = x.name; number = k + 1 })))
            (Turns name (RunsAll (Run program) x.name (k + 1) body) (turns_of (value v o)) 0 v [] end) above (refl, ap (λ n. End.fail (record { proc = x.name; number = n })) r.5),
      )
  above_finds frame old word x k s long e over r = absurd r

  -- a bound above the cap
  pub walks_above : (frame : List ℤ) (old : Source) (word : ℤ) → length frame ≡ 256 → word ≡ word_in frame bound → int_lt cap word ≡ true →
      Walks program proc.0 (loop index slot bound cap site inside) frame frame old old (Fail (record { proc = proc; index = site }))
  unfolding Walks
  walks_above frame old word long e over x k s r = above_finds frame old word x k s long e over r
