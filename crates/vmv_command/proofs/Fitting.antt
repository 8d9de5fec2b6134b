-- What a witness that fits says of its entry.
use Rattle.std.proofs.Common.{◌≡◌, suc, ℤ, Some, List, [], ◌∷◌, length, map, slice_get, refl, sym, ap, subst, ◌∙◌}
use Rattle.std.specs.Prelude.{Result, Ok, Err}
use Rattle.std.specs.Result.{IfOk}
use Rattle.std.specs.declared.alloc.AllocError.{AllocError}
use Rattle.std.specs.Option.{option_map}
use Rattle.std.proofs.lemmas.Option.{slice_get-map, same_Some}
use Rattle.vmv_tree.specs.declared.name.Name.{Name}
use Rattle.vmv_tree.specs.declared.tree.Param.{Param}
use Rattle.vmv_tree.specs.Tree.{Item}
use Rattle.vmv_tree.specs.Run.{name_of}
use Rattle.vmv_tree.specs.Safe.{FitParams}
use Rattle.vmv_snapshot.specs.declared.code.ProcId.{ProcId}
use Rattle.vmv_snapshot.specs.Procs.{procs, params_of}
use Rattle.vmv_run.specs.declared.answer.Answer.{Answer}
use Rattle.vmv_run.specs.declared.outcome.Outcome.{Outcome}
use Rattle.vmv_run.specs.declared.outcome.Outcome.TheVariants.{Done, Fail, Short, Stranger, Extra}
use Rattle.vmv_run.specs.Replay.{pairs, IsProcName, AreParams, IsReplay}
use Rattle.vmv_tree.specs.Run.{Answers}
use Rattle.vmv_witness.specs.declared.witness.Witness.{Witness}
use Rattle.vmv_witness.specs.Fit.{words_of, Fits}
use Rattle.vmv_command.specs.declared.output.Output.{Output}
use Rattle.vmv_command.specs.Replays.{FailsInside, SaysOutcome, ReplaysEntry}

-- there are as many words as parameters
as_many : (params : List Param) (words : List ℤ) → FitParams params words → length params ≡ length words
as_many [] [] h = refl
as_many (p ∷ params) (word ∷ words) h = ap (λ n. suc n) (as_many params words h.3)
as_many [] (word ∷ words) h = absurd h
as_many (p ∷ params) [] h = absurd h

-- the entry has the name that the witness gives
pub entry_named : (program : List Item) (w : Witness) (n : ProcId) → Fits program w (Ok n) → IsProcName program n.0 w.entry
entry_named program w n (params, (body, at), fit, site) = slice_get-map name_of (procs program) n.0 ∙ ap (option_map name_of) at

-- and there is a word for each of its parameters
pub entry_params : (program : List Item) (w : Witness) (n : ProcId) (words : List ℤ) → Fits program w (Ok n) → words ≡ words_of w → AreParams program n.0 words
entry_params program w n words (params, (body, at), fit, site) is other there =
    let own : slice_get (map params_of (procs program)) n.0 ≡ Some params = slice_get-map params_of (procs program) n.0 ∙ ap (option_map params_of) at in
    let same : other ≡ params = same_Some other params (sym there ∙ own) in
    ap length same ∙ as_many params (words_of w) fit ∙ ap length (sym is)

-- a run fails in a procedure of the program
pub fails_inside : (program : List Item) (proc : Name) (words : List ℤ) (answers : Answers) (outcome : Outcome) → IsReplay program proc words answers outcome → FailsInside program outcome
fails_inside program proc words answers (Done word) h = tt
fails_inside program proc words answers (Fail site) h = (h.0, h.1)
fails_inside program proc words answers (Short at) h = tt
fails_inside program proc words answers (Stranger at) h = tt
fails_inside program proc words answers (Extra used) h = tt

-- what is found of the entry of a witness, its words and its answers
pub entry_replayed : (program : List Item) (w : Witness) (n : ProcId) (words : List ℤ) (answers : List Answer) (outcome : Outcome) → Fits program w (Ok n) → words ≡ words_of w → answers ≡ w.answers →
    ((name : Name) → IsProcName program n.0 name → IsReplay program name words (pairs answers) outcome) → IsReplay program w.entry (words_of w) (pairs w.answers) outcome
entry_replayed program w n words answers outcome fits is same found =
    subst (λ (ws : List ℤ). IsReplay program w.entry ws (pairs w.answers) outcome) is
    (subst (λ (xs : List Answer). IsReplay program w.entry words (pairs xs) outcome) same (found w.entry (entry_named program w n fits)))

-- and its line
pub entry_told : (r : Result Output AllocError) (program : List Item) (w : Witness) (outcome : Outcome) → IsReplay program w.entry (words_of w) (pairs w.answers) outcome →
    IfOk r (λ o. SaysOutcome program w.site outcome o.text o.status) → IfOk r (λ o. ReplaysEntry program w o.text o.status)
entry_told (Ok o) program w outcome is told = (outcome, is, told)
entry_told (Err error) program w outcome is told = tt
