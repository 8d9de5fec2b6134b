-- What a dead entry and a provable site say of environments.
use Rattle.std.proofs.Common.{◌∙◌, ◌≡◌, ◌≢◌, ⊎_elim, ℕ, zero, suc, ℤ, pos, Bool, true, false, Some, List, [], ◌∷◌, get_or, slice_get, refl, sym, subst, arith}
use Rattle.std.specs.List.{All, Contains}
use Rattle.vmv_tree.specs.declared.name.Name.{Name}
use Rattle.vmv_tree.specs.declared.ends.NameEnds.{NameEnds}
use Rattle.vmv_tree.specs.declared.site.NamedSite.{NamedSite}
use Rattle.vmv_tree.specs.declared.tree.Param.{Param}
use Rattle.vmv_tree.specs.Words.{IsWord, is_word}
use Rattle.vmv_tree.specs.Tree.{Item, outside, helper, entry, Body}
use Rattle.vmv_tree.specs.Run.{Answers, Outcome, done, Outcome.fail, Run, assign}
use Rattle.vmv_tree.specs.Safe.{Environment, words_of, Covers, AreIn, FitParams, Safe}
use Rattle.vmv_cond.specs.declared.cond.Piece.{Piece}
use Rattle.vmv_cond.specs.Cond.{Holds}
use Rattle.vmv_snapshot.specs.Procs.{procs}
use Rattle.vmv_snapshot.specs.Resolution.{Resolution, IsResolution, tree_of, procs_of}
use Rattle.vmv_assumption.specs.Assumed.{Assumed}
use Rattle.vmv_assumption.specs.Change.{IsKept}
use Rattle.vmv_assumption.specs.Within.{IsWithin, Meet, AreOffPiece}
use Rattle.vmv_step.proofs.Places.{assigned_same, assigned_other, assigned_word, same_name}
use Rattle.vmv_run.specs.Asked.{IsOutside, AreOutside}
use Rattle.vmv_run.specs.Constant.{AreFrom}
use Rattle.vmv_run.proofs.Asked.{run_asks}
use Rattle.vmv_run.proofs.OneRun.{one_run}
use Rattle.vmv_cert.specs.declared.row.Row.{Row}
use Rattle.vmv_cert.specs.Tables.{Box, Dead, Provable}
use Rattle.vmv_check.proofs.Lists.{some_same}
use Rattle.vmv_check.proofs.Orders.{name_at}
use Rattle.vmv_table_sound.specs.Told.{AreInBox, SaysNoReturn, LeavesOut}
use Rattle.vmv_table_sound.proofs.Lists.{further}
use Rattle.vmv_table_sound.proofs.Rows.{sound}
use Rattle.vmv_table_sound.proofs.Boxes.{row_input, dead_stays, dead_says, least_words, least_in_box, fit_in, fit_box}

-- a procedure is an item
pub proc_in : (items : List Item) (n : ℕ) (x : Item) → slice_get (procs items) n ≡ Some x → Contains items x
proc_in [] n x e = absurd (cc)
proc_in (outside f arity ∷ items) n x e = further (outside f arity) items x (proc_in items n x e)
proc_in (helper f params body ∷ items) zero x e = (0, omega arith, some_same e)
proc_in (helper f params body ∷ items) (suc n) x e = further (helper f params body) items x (proc_in items n x e)
proc_in (entry f params body ∷ items) zero x e = (0, omega arith, some_same e)
proc_in (entry f params body ∷ items) (suc n) x e = further (entry f params body) items x (proc_in items n x e)

-- the answers of an environment within what is assumed meet it
pub answers_meet : (env : Environment) (assumed : Assumed) (answers : Answers) → IsWithin env assumed → AreIn answers env → Meet answers assumed
answers_meet env assumed answers within inside = λ k d h word. within (get_or answers k d).0 (get_or answers k d).1 word (inside k d h)

-- the value of each outside name of the program is one that the environment has, and meets what is assumed
abbrev Fits : Resolution → Environment → Assumed → (Name → ℤ) → Type 0
Fits program env assumed c = (name : Name) → IsOutside (tree_of program) name → Contains (words_of env name) (c name) × Holds (assumed name) (c name)

constant_in : (program : Resolution) (env : Environment) (assumed : Assumed) (c : Name → ℤ) (answers : Answers) → Fits program env assumed c → AreFrom c answers → AreOutside (tree_of program) answers → AreIn answers env
constant_in program env assumed c [] fits from asked k d h = absurd (omega (arith, h))
constant_in program env assumed c (p ∷ answers) fits from asked zero d h = subst (Contains (words_of env p.0)) (sym from.0) (fits p.0 asked.0).0
constant_in program env assumed c (p ∷ answers) fits from asked (suc k) d h = constant_in program env assumed c answers fits from.1 asked.1 k d (omega (arith, h))

constant_meets : (program : Resolution) (env : Environment) (assumed : Assumed) (c : Name → ℤ) (answers : Answers) → Fits program env assumed c → AreFrom c answers → AreOutside (tree_of program) answers → Meet answers assumed
constant_meets program env assumed c [] fits from asked k d h = absurd (omega (arith, h))
constant_meets program env assumed c (p ∷ answers) fits from asked zero d h = λ word. subst (Holds (assumed p.0)) (sym from.0) (fits p.0 asked.0).1
constant_meets program env assumed c (p ∷ answers) fits from asked (suc k) d h = constant_meets program env assumed c answers fits from.1 asked.1 k d (omega (arith, h))

-- a run of a dead entry fails
dead_fails : (program : Resolution) (number : ℕ) (box : Box) (assumed : Assumed) (rows : List Row) (env : Environment) (name : Name) (params : List Param) (body : Body) (words : List ℤ) (answers : Answers) (outcome : Outcome) →
    IsResolution program → SaysNoReturn program number box assumed rows → AreInBox box words → slice_get (procs_of program) number ≡ Some (entry name params body) → FitParams params words → Meet answers assumed → AreIn answers env →
    Safe env (tree_of program) → Run (tree_of program) name words answers outcome → ⊥
dead_fails program number box assumed rows env name params body words answers (done word) is dead are at fit meet inside safe run =
    dead_stays program number box assumed rows name words answers word is dead (name_at program number (entry name params body) name at refl) are meet run
dead_fails program number box assumed rows env name params body words answers (fail site) is dead are at fit meet inside safe run =
    safe name params body words answers site (proc_in (tree_of program) number (entry name params body) at) fit inside run

-- no environment with such values is safe
none_safe : (program : Resolution) (number : ℕ) (box : Box) (assumed : Assumed) (rows : List Row) (env : Environment) (c : Name → ℤ) → IsResolution program → SaysNoReturn program number box assumed rows →
    ((name : Name) → IsWord (c name)) → Fits program env assumed c → Safe env (tree_of program) → ⊥
none_safe program number box assumed rows env c is (params, (name, body, at), inside, (row, accepted, among, above, bottom)) words fits safe =
    let dead : SaysNoReturn program number box assumed rows = (params, (name, body, at), inside, (row, accepted, among, above, bottom)) in
    let are = least_in_box params box above.boxed above.box_is inside in
    let one = one_run (tree_of program) name params body (least_words box) c is.valid (proc_in (tree_of program) number (entry name params body) at) words in
    let asked = run_asks (tree_of program) name (least_words box) one.answers one.outcome one.run in
    dead_fails program number box assumed rows env name params body (least_words box) one.answers one.outcome is dead are at (fit_in params box (least_words box) inside are)
    (constant_meets program env assumed c one.answers fits one.constant asked) (constant_in program env assumed c one.answers fits one.constant asked) safe one.run

-- the first word of a list
word_or_zero : Bool → ℤ → ℤ
word_or_zero true w = w
word_or_zero false w = pos 0

first_word : List ℤ → ℤ
first_word [] = pos 0
first_word (w ∷ words) = word_or_zero (is_word w) w

or_zero_word : (b : Bool) (w : ℤ) → is_word w ≡ b → IsWord (word_or_zero b w)
unfolding word_or_zero
or_zero_word true w e = e
or_zero_word false w e = refl

or_zero_same : (b : Bool) (w : ℤ) → b ≡ true → word_or_zero b w ≡ w
unfolding word_or_zero
or_zero_same true w e = refl
or_zero_same false w e = absurd (cc)

first_is_word : (words : List ℤ) → IsWord (first_word words)
unfolding first_word
first_is_word [] = refl
first_is_word (w ∷ words) = or_zero_word (is_word w) w refl

first_inside : (words : List ℤ) → words ≢ [] → All IsWord words → Contains words (first_word words)
unfolding first_word
first_inside [] some all = absurd (some refl)
first_inside (w ∷ words) some all = (0, omega arith, sym (or_zero_same (is_word w) w (all 0 w (omega arith))))

-- the first word that an environment has for each name
firsts : Environment → Name → ℤ
firsts env name = first_word (words_of env name)

firsts_word : (env : Environment) (name : Name) → IsWord (firsts env name)
unfolding firsts
firsts_word env name = first_is_word (words_of env name)

firsts_inside : (program : Resolution) (env : Environment) (name : Name) → Covers env (tree_of program) → IsOutside (tree_of program) name → Contains (words_of env name) (firsts env name)
unfolding firsts
firsts_inside program env name covers (arity, at) = let h = covers name arity at in first_inside (words_of env name) h.0 h.1

pub base_says : (program : Resolution) (number : ℕ) (box : Box) (assumed : Assumed) (rows : List Row) (env : Environment) → IsResolution program → SaysNoReturn program number box assumed rows →
    Covers env (tree_of program) → IsWithin env assumed → Safe env (tree_of program) → ⊥
base_says program number box assumed rows env is dead covers within safe =
    none_safe program number box assumed rows env (firsts env) is dead (firsts_word env)
    (λ name out. let there = firsts_inside program env name covers out in (there, within name (firsts env name) (firsts_word env name) there)) safe

pub dead_base : (program : Resolution) (number : ℕ) (box : Box) (ends : List NameEnds) (assumed : Assumed) (env : Environment) → IsResolution program → Dead program number box ends assumed →
    Covers env (tree_of program) → IsWithin env assumed → Safe env (tree_of program) → ⊥
dead_base program number box ends assumed env is dead = let says = dead_says program number box ends assumed dead in base_says program number box assumed says.0 env is says.1

pub piece_says : (program : Resolution) (number : ℕ) (box : Box) (assumed kept : Assumed) (rows : List Row) (f : Name) (piece : Piece) (env : Environment) → IsResolution program → IsKept assumed f piece kept →
    SaysNoReturn program number box kept rows → Covers env (tree_of program) → IsWithin env assumed → Safe env (tree_of program) → AreOffPiece env f piece
piece_says program number box assumed kept rows f piece env is change dead covers within safe word fits there inside =
    let c : Name → ℤ = assign (firsts env) f word in
    none_safe program number box kept rows env c is dead (λ name. assigned_word (firsts env) f name word fits (firsts_word env name))
    (λ name out. ⊎_elim
    (λ (same : name ≡ f).
    let P : Name → Type 0 = λ x. Contains (words_of env x) (c x) × Holds (kept x) (c x) in
    let Q : ℤ → Type 0 = λ w. Contains (words_of env f) w × Holds (kept f) w in
    subst P (sym same) (subst Q (sym (assigned_same (firsts env) f word)) (there, (change.there word).1 (within f word fits there, inside))))
    (λ (other : name ≢ f).
    let Q : ℤ → Type 0 = λ w. Contains (words_of env name) w × Holds (kept name) w in
    let first = firsts_inside program env name covers out in
    let held : Holds (kept name) (firsts env name) = subst (λ k. Holds k (firsts env name)) (sym (change.elsewhere name other)) (within name (firsts env name) (firsts_word env name) first) in
    subst Q (sym (assigned_other (firsts env) f name word other)) (first, held))
    (same_name name f)) safe

pub dead_piece : (program : Resolution) (number : ℕ) (box : Box) (ends : List NameEnds) (assumed kept : Assumed) (f : Name) (piece : Piece) (env : Environment) → IsResolution program → IsKept assumed f piece kept →
    Dead program number box ends kept → Covers env (tree_of program) → IsWithin env assumed → Safe env (tree_of program) → AreOffPiece env f piece
dead_piece program number box ends assumed kept f piece env is change dead = let says = dead_says program number box ends kept dead in piece_says program number box assumed kept says.0 f piece env is change says.1

same_entry : (name other : Name) (params more : List Param) (body inner : Body) → entry name params body ≡ entry other more inner → (name ≡ other) × (params ≡ more)
same_entry name other params more body inner e = (cc, cc)

pub left_out_holds : (program : Resolution) (number : ℕ) (assumed : Assumed) (rows : List Row) (site : NamedSite) (env : Environment) (name : Name) (params : List Param) (body : Body) (words : List ℤ) (answers : Answers) →
    IsResolution program → LeavesOut program number assumed rows site → slice_get (procs_of program) number ≡ Some (entry name params body) → FitParams params words → IsWithin env assumed → AreIn answers env →
    Run (tree_of program) name words answers (fail (record { proc = site.proc; number = site.index })) → ⊥
left_out_holds program number assumed rows site env name params body words answers is (more, (other, inner, there), (row, accepted, one, above, unlisted)) at fit within inside run =
    let same = same_entry name other params more body inner (some_same (sym at ∙ there)) in
    let called : name ≡ row.proc = some_same (sym (name_at program number (entry name params body) name at refl) ∙ above.named) in
    let P : Name → Type 0 = λ x. Run (tree_of program) x words answers (fail (record { proc = site.proc; number = site.index })) in
    let F : List Param → Type 0 = λ ps. FitParams ps words in
    let input = row_input program number _ row words above (fit_box more words (subst F same.1 fit)) in
    unlisted (sound program assumed rows row words answers (fail (record { proc = site.proc; number = site.index })) is accepted one input.long input.point (answers_meet env assumed answers within inside) (subst P called run))

pub provable_holds : (program : Resolution) (number : ℕ) (ends : List NameEnds) (assumed : Assumed) (site : NamedSite) (env : Environment) (name : Name) (params : List Param) (body : Body) (words : List ℤ) (answers : Answers) →
    IsResolution program → Provable program number ends assumed site → slice_get (procs_of program) number ≡ Some (entry name params body) → FitParams params words → IsWithin env assumed → AreIn answers env →
    Run (tree_of program) name words answers (fail (record { proc = site.proc; number = site.index })) → ⊥
provable_holds program number ends assumed site env name params body words answers is (more, there, (rows, row, accepted, thresholds, one, above, unlisted)) =
    left_out_holds program number assumed rows site env name params body words answers is (more, there, (row, accepted, one, above, unlisted))
