-- What a walk over the statements of a procedure is to its runs.
use Rattle.std.proofs.Common.{◌≡◌, ℕ, ◌-◌, ◌≤◌, ℤ, pos, Option, Some, List, ◌∷◌, ◌++◌, length, map, min, take, replicate, slice_get, refl, sym, ap, subst, arith, ◌∙◌, append_assoc, length-append}
use Rattle.std.proofs.lemmas.List.{length-map, map-append}
use Rattle.vmv_tree.specs.declared.name.Name.{Name}
use Rattle.vmv_tree.specs.declared.tree.Param.{Param}
use Rattle.vmv_tree.specs.Tree.{Item, Body}
use Rattle.vmv_tree.specs.Limits.{block_indexes}
use Rattle.vmv_tree.specs.Run.{Valuation, Answers, End, next, Outcome, done, RunsAll, Run, start, outcome_of}
use Rattle.vmv_snapshot.specs.declared.code.SiteId.{SiteId}
use Rattle.vmv_snapshot.specs.Code.{Body as CodeBody}
use Rattle.vmv_snapshot.specs.Procs.{procs, params_of}
use Rattle.vmv_snapshot.specs.Resolves.{slot_names, loop_names, IsCode}
use Rattle.vmv_run.specs.declared.source.Source.{Source}
use Rattle.vmv_run.specs.declared.walked.Walked.TheVariants.{Next, Fail, Stopped}
use Rattle.vmv_run.specs.declared.walked.Ended.TheVariants.{Done, Fail as Failed, Stopped as Left}
use Rattle.vmv_run.specs.Walk.{word_in, frame_of, start_frame, valuation, Finds, FindsRun, WalksAll, WalksProc}
use Rattle.vmv_run.proofs.Frames.{valuation-start}
use Rattle.vmv_run.proofs.Rules.{operand_word}
use Rattle.vmv_run.proofs.Places.{Known, known}

some_same : {X : Type 0} {x y : X} → Some x ≡ Some y → x ≡ y
some_same e = cc

start_of : (names : List Name) (body : Body) (words own : List ℤ) → own ≡ take (length names) words → valuation (slot_names names body) (frame_of own) ≡ start names words
unfolding valuation frame_of
start_of names body words own e =
    let slots : map (λ (x : Name). Some x) (names ++ body.vars) ++ loop_names (block_indexes body.block) ≡ map (λ x. Some x) names ++ (map (λ x. Some x) body.vars ++ loop_names (block_indexes body.block)) =
    ap (λ (xs : List (Option Name)). xs ++ loop_names (block_indexes body.block)) (map-append (λ (x : Name). Some x) names body.vars)
    ∙ append_assoc (map (λ x. Some x) names) (map (λ x. Some x) body.vars) (loop_names (block_indexes body.block)) in
    (λ i. valuation (slots i) (e i ++ replicate (255 - length own) (pos 0))) ∙ valuation-start names (map (λ x. Some x) body.vars ++ loop_names (block_indexes body.block)) words (255 - length own)

few_params : (names : List Name) (body : Body) (n : ℕ) → length (slot_names names body) ≤ 17 → n ≡ length names → min n 255 ≡ length names
few_params names body n few e =
    let a = length-append (map (λ (x : Name). Some x) (names ++ body.vars)) (loop_names (block_indexes body.block)) in
    let b : length (map (λ (x : Name). Some x) (names ++ body.vars)) ≡ length (names ++ body.vars) = length-map (names ++ body.vars) (λ (x : Name). Some x) in
    let c = length-append names body.vars in
    omega arith

-- the frame at the start says what the parameters are
begins : (program : List Item) (proc : ℕ) (code : CodeBody) (k : Known program proc code) (params : List Param) (words frame : List ℤ) → slice_get (map params_of (procs program)) proc ≡ Some params →
    frame ≡ start_frame (length params) words → valuation k.place.scope.slots frame ≡ start k.params words
begins program proc code k params words frame at is =
    let few : length (slot_names k.params k.body) ≤ 17 = subst (λ (xs : List (Option Name)). length xs ≤ 17) k.slots k.place.few in
    (λ i. valuation (k.slots i) (is i)) ∙ start_of k.params k.body words (take (min (length params) 255) words) (ap (λ n. take n words) (few_params k.params k.body (length params) few (k.count params at)))

pub proc_done : (program : List Item) (proc : ℕ) (code : CodeBody) (own frame : List ℤ) (old new : Source) (w : ℤ) → IsCode program proc code → length frame ≡ 256 → w ≡ word_in frame code.output →
    WalksAll program proc code.block own frame old new Next → WalksProc program proc own old new (Done w)
unfolding WalksProc WalksAll FindsRun Finds
proc_done program proc code own frame old new w is long e walks name params words valid named at begin =
    let k = known program proc code valid is in
    let few = k.place.few in
    let same : k.place.name ≡ name = some_same (sym k.place.own ∙ named) in
    let h = walks k.place 0 k.body.block k.resolves.statements in
    let v : Valuation = valuation k.place.scope.slots frame in
    let from_start = subst (λ (u : Valuation). RunsAll (Run program) k.place.name 0 k.body.block u h.0 (next v)) (begins program proc code k params words own at begin) h.2 in
    let returned = operand_word k.place.scope frame k.body.output code.output k.place.once (omega arith) k.resolves.returned in
    (h.0, h.1, subst (λ (n : Name). Run program n words h.0 (done w)) same (k.runs words h.0 (done w) (next v, from_start, ap done (e ∙ sym returned))))

pub proc_failed : (program : List Item) (proc : ℕ) (code : CodeBody) (own frame : List ℤ) (old new : Source) (site : SiteId) → IsCode program proc code →
    WalksAll program proc code.block own frame old new (Fail site) → WalksProc program proc own old new (Failed site)
unfolding WalksProc WalksAll FindsRun Finds
proc_failed program proc code own frame old new site is walks name params words valid named at begin =
    let k = known program proc code valid is in
    let same : k.place.name ≡ name = some_same (sym k.place.own ∙ named) in
    let h = walks k.place 0 k.body.block k.resolves.statements in
    let end : End = End.fail (record { proc = h.1; number = site.index }) in
    let outcome : Outcome = Outcome.fail (record { proc = h.1; number = site.index }) in
    let from_start = subst (λ (u : Valuation). RunsAll (Run program) k.place.name 0 k.body.block u h.0 end) (begins program proc code k params words own at begin) h.4 in
    (h.0, h.1, h.2, h.3, subst (λ (n : Name). Run program n words h.0 outcome) same (k.runs words h.0 outcome (end, from_start, refl)))

pub proc_left : (program : List Item) (proc : ℕ) (code : CodeBody) (own frame : List ℤ) (old new : Source) → IsCode program proc code →
    WalksAll program proc code.block own frame old new Stopped → WalksProc program proc own old new Left
unfolding WalksProc WalksAll FindsRun Finds
proc_left program proc code own frame old new is walks name params words valid named at begin =
    let k = known program proc code valid is in
    let same : k.place.name ≡ name = some_same (sym k.place.own ∙ named) in
    let h = walks k.place 0 k.body.block k.resolves.statements in
    let ask = h.4 in
    let all : Answers = h.0 ++ (h.1, ask.0) ∷ ask.1 in
    let outcome : Outcome = outcome_of k.body.output ask.2.0 in
    let from_start = subst (λ (u : Valuation). RunsAll (Run program) k.place.name 0 k.body.block u all ask.2.0) (begins program proc code k params words own at begin) ask.2.1 in
    (h.0, h.1, h.2, h.3, (ask.0, ask.1, (outcome, subst (λ (n : Name). Run program n words all outcome) same (k.runs words all outcome (ask.2.0, from_start, refl)))))
