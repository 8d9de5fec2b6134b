-- What comes of trying an entry on a probe.
use Rattle.std.proofs.Common.{◌≡◌, ⊎_elim, ℕ, zero, suc, ◌<◌, ℤ, ◌≤ℤ◌, Some, None, List, [], ◌∷◌, length, map, slice_get, refl, sym, ap, subst, ◌∙◌, get_or, true}
use Rattle.std.specs.List.{All, Contains}
use Rattle.std.proofs.lemmas.Option.{slice_get_within}
use Rattle.std.proofs.lemmas.List.{length-map}
use Rattle.std.proofs.lemmas.List.Elements.{All-nil, All-cons, Contains-get_or}
use Rattle.vmv_tree.specs.declared.name.Name.{Name}
use Rattle.vmv_tree.specs.declared.tree.Param.{Param}
use Rattle.vmv_tree.specs.Words.{IsWord}
use Rattle.vmv_tree.specs.Tree.{Item, outside, helper, entry, Body}
use Rattle.vmv_tree.specs.Run.{Answers, Site, Outcome as End, done, Outcome.fail, Run, name_of}
use Rattle.vmv_cond.specs.Cond.{Holds, IsEmpty}
use Rattle.vmv_snapshot.specs.declared.code.SiteId.{SiteId}
use Rattle.vmv_snapshot.specs.Procs.{procs, params_of, is_entry, outsides}
use Rattle.vmv_snapshot.specs.Resolution.{Resolution, IsResolution, tree_of, procs_of}
use Rattle.vmv_assumption.specs.Assumed.{Assumed}
use Rattle.vmv_assumption.specs.Within.{Meet}
use Rattle.vmv_cert.specs.Tables.{Box, IsEntry, IsBoxIn}
use Rattle.vmv_run.specs.declared.constant_run.Constant.{Constant}
use Rattle.vmv_run.specs.declared.outcome.Outcome.{Outcome as Found}
use Rattle.vmv_run.specs.declared.outcome.Outcome.TheVariants.{Done, Fail, Short, Stranger, Extra}
use Rattle.vmv_run.specs.Asked.{IsOutside, AreOutside}
use Rattle.vmv_run.specs.Replay.{pairs, IsProcName, IsReplay}
use Rattle.vmv_run.specs.Constant.{AreFrom, OneRun, word_of, IsOver, IsConstantRun}
use Rattle.vmv_run.proofs.Asked.{run_asks}
use Rattle.vmv_run.proofs.OneRun.{one_run}
use Rattle.vmv_witness.specs.declared.witness.Witness.{Witness}
use Rattle.vmv_witness.specs.Fit.{words_of}
use Rattle.vmv_enough.specs.declared.probe.Probe.{Probe}
use Rattle.vmv_enough.specs.Probes.{IsAnswer}
use Rattle.vmv_enough.specs.Failures.{IsFailing, FailsAt}
use Rattle.vmv_enough.specs.Tried.{ArePicks, AreWords, AreAnswers, IsWitnessOf, IsTried}
use Rattle.vmv_enough.proofs.Lists.{none_in, first_in, further, first_or_further, mapped_at, same_there}
use Rattle.vmv_enough.proofs.Answering.{answer_holds, one_answer, answers_of, values_are_words, one_words, picks_of, words_fit, words_count}

-- an outside item's name is one of the outside names
outside_name : (items : List Item) (name : Name) → IsOutside items name → Contains (outsides items) name
outside_name items name (arity, there) = in_items items there
  where
    here : (n : Name) (a : ℤ) (items : List Item) → outside n a ≡ outside name arity → Contains (outsides (outside n a ∷ items)) name
    here n a items e = let same : n ≡ name = cc in subst (λ x. Contains (n ∷ outsides items) x) same (first_in n (outsides items))

    in_items : (items : List Item) → Contains items (outside name arity) → Contains (outsides items) name
    in_items [] there = absurd (none_in (outside name arity) there)
    in_items (outside n a ∷ items) there = ⊎_elim (λ (e : outside n a ≡ outside name arity). here n a items e) (λ t. further n (outsides items) name (in_items items t)) (first_or_further (outside n a) items (outside name arity) there)
    in_items (helper n ps b ∷ items) there = ⊎_elim (λ (e : helper n ps b ≡ outside name arity). absurd (cc)) (λ t. in_items items t) (first_or_further (helper n ps b) items (outside name arity) there)
    in_items (entry n ps b ∷ items) there = ⊎_elim (λ (e : entry n ps b ≡ outside name arity). absurd (cc)) (λ t. in_items items t) (first_or_further (entry n ps b) items (outside name arity) there)

-- answers of outside items are the same from two that agree on the outside names
from_other : (items : List Item) (c d : Name → ℤ) (answers : Answers) → ((name : Name) → Contains (outsides items) name → c name ≡ d name) → AreOutside items answers → AreFrom c answers → AreFrom d answers
from_other items c d [] same out from = tt
from_other items c d (p ∷ answers) same out from = (from.0 ∙ same p.0 (outside_name items p.0 out.0), from_other items c d answers same out.1 from.1)

-- constant answers meet what is assumed, where those of the outside names do
meets : (items : List Item) (assumed : Assumed) (c : Name → ℤ) (answers : Answers) → ((name : Name) → Contains (outsides items) name → Holds (assumed name) (c name)) → AreOutside items answers → AreFrom c answers → Meet answers assumed
meets items assumed c [] holds out from = All-nil (λ (answer : Name × ℤ). IsWord answer.1 → Holds (assumed answer.0) answer.1)
meets items assumed c (p ∷ answers) holds out from =
    All-cons (λ (answer : Name × ℤ). IsWord answer.1 → Holds (assumed answer.0) answer.1) p answers
    (λ word. subst (λ w. Holds (assumed p.0) w) (sym from.0) (holds p.0 (outside_name items p.0 out.0))) (meets items assumed c answers holds out.1 from.1)

-- a procedure is one of the items
proc_in : (items : List Item) (n : ℕ) (x : Item) → slice_get (procs items) n ≡ Some x → Contains items x
proc_in [] n x e = absurd (cc)
proc_in (outside name arity ∷ items) n x e = further (outside name arity) items x (proc_in items n x e)
proc_in (helper name params body ∷ items) zero x e =
    let same : helper name params body ≡ x = cc in subst (λ y. Contains (helper name params body ∷ items) y) same (first_in (helper name params body) items)
proc_in (helper name params body ∷ items) (suc n) x e = further (helper name params body) items x (proc_in items n x e)
proc_in (entry name params body ∷ items) zero x e =
    let same : entry name params body ≡ x = cc in subst (λ y. Contains (entry name params body ∷ items) y) same (first_in (entry name params body) items)
proc_in (entry name params body ∷ items) (suc n) x e = further (entry name params body) items x (proc_in items n x e)

-- two runs of one probe end in one way
same_end : (program : Resolution) (n : ℕ) (assumed : Assumed) (probe : Probe) (name : Name) (params : List Param) (body : Body) (words values : List ℤ) (answers : Answers) (end : End) (v : Witness) → IsResolution program →
    slice_get (procs_of program) n ≡ Some (entry name params body) → AreWords probe words → AreAnswers assumed probe (outsides (tree_of program)) values → Run (tree_of program) name words answers end → AreFrom (word_of (outsides (tree_of program)) values) answers →
    FailsAt program n assumed probe v → fail (record { proc = v.site.proc; number = v.site.index }) ≡ end
same_end program n assumed probe name params body words values answers end v r at taken given run from fails =
    let tree = tree_of program in
    let c : Name → ℤ = word_of (outsides tree) values in
    let item : entry v.entry fails.fails.params fails.fails.body ≡ entry name params body = same_there (procs_of program) n (entry v.entry fails.fails.params fails.fails.body) (entry name params body) fails.fails.entry_is at in
    let same_name : v.entry ≡ name = cc in
    let same_words : words_of v ≡ words = one_words probe.mode probe.within (words_of v) words fails.words (picks_of probe.mode probe.within words taken) in
    let agree : (x : Name) → Contains (outsides tree) x → fails.constant x ≡ c x =
    λ x there. one_answer assumed probe.mode probe.missed x (fails.constant x) (c x) (fails.answers x there) (answers_of assumed probe (outsides tree) values given x there) in
    let its_run = subst (λ ws. Run tree name ws (pairs v.answers) (fail (record { proc = v.site.proc; number = v.site.index }))) same_words
    (subst (λ x. Run tree x (words_of v) (pairs v.answers) (fail (record { proc = v.site.proc; number = v.site.index }))) same_name fails.fails.run) in
    let its_from = from_other tree fails.constant c (pairs v.answers) agree (run_asks tree name words (pairs v.answers) (fail (record { proc = v.site.proc; number = v.site.index })) its_run) fails.always in
    let one : OneRun tree name words c = one_run tree name params body words c r.valid (proc_in tree n (entry name params body) at) (values_are_words assumed probe (outsides tree) values given) in
    let ours = (one.only answers end run from).1 in
    let theirs = (one.only (pairs v.answers) (fail (record { proc = v.site.proc; number = v.site.index })) its_run its_from).1 in
    sym theirs ∙ ours

-- the name of an entry by its number
entry_name : (program : Resolution) (n : ℕ) (name : Name) (params : List Param) (body : Body) → slice_get (procs_of program) n ≡ Some (entry name params body) → IsProcName (tree_of program) n name
entry_name program n name params body at = mapped_at name_of (procs_of program) n (entry name params body) at

-- where the run of the probe returns, the probe doesn't fail
pub tried_done : (program : Resolution) (n : ℕ) (assumed : Assumed) (probe : Probe) (params : List Param) (words values : List ℤ) (run : Constant) (word : ℤ) → IsResolution program → IsEntry program n params → AreWords probe words →
    AreAnswers assumed probe (outsides (tree_of program)) values → ((name : Name) → IsProcName (tree_of program) n name → IsConstantRun (tree_of program) name words values run) → run.outcome ≡ Done word → IsTried program n assumed probe None
tried_done program n assumed probe params words values run word r (name, body, at) taken given is e v fails =
    let h = is name (entry_name program n name params body at) in
    let ran = subst (λ o. IsReplay (tree_of program) name words (pairs run.answers) o) e h.run in
    let same = same_end program n assumed probe name params body words values (pairs run.answers) (done word) v r at taken given ran h.constant fails in
    absurd (cc)

-- a constant run returns or fails
pub not_short : (program : Resolution) (n : ℕ) (params : List Param) (words values : List ℤ) (run : Constant) (at : ℕ) → IsEntry program n params → ((name : Name) → IsProcName (tree_of program) n name → IsConstantRun (tree_of program) name words values run) → run.outcome ≡ Short at → ⊥
not_short program n params words values run at (name, body, place) is e = let h = (is name (entry_name program n name params body place)).over in subst IsOver e h

pub not_stranger : (program : Resolution) (n : ℕ) (params : List Param) (words values : List ℤ) (run : Constant) (at : ℕ) → IsEntry program n params → ((name : Name) → IsProcName (tree_of program) n name → IsConstantRun (tree_of program) name words values run) → run.outcome ≡ Stranger at → ⊥
not_stranger program n params words values run at (name, body, place) is e = let h = (is name (entry_name program n name params body place)).over in subst IsOver e h

pub not_extra : (program : Resolution) (n : ℕ) (params : List Param) (words values : List ℤ) (run : Constant) (used : ℕ) → IsEntry program n params → ((name : Name) → IsProcName (tree_of program) n name → IsConstantRun (tree_of program) name words values run) → run.outcome ≡ Extra used → ⊥
not_extra program n params words values run used (name, body, place) is e = let h = (is name (entry_name program n name params body place)).over in subst IsOver e h

-- the site of a failing run is in a procedure
pub site_within : (program : Resolution) (n : ℕ) (params : List Param) (words values : List ℤ) (run : Constant) (site : SiteId) → IsEntry program n params → ((name : Name) → IsProcName (tree_of program) n name → IsConstantRun (tree_of program) name words values run) → run.outcome ≡ Fail site →
    site.proc.0 < length (procs_of program)
site_within program n params words values run site (name, body, place) is e =
    let h = is name (entry_name program n name params body place) in
    let ran = subst (λ o. IsReplay (tree_of program) name words (pairs run.answers) o) e h.run in
    let item = slice_get_within (map name_of (procs_of program)) site.proc.0 ran.0 ran.1 in
    subst (λ k. site.proc.0 < k) (length-map (procs_of program) name_of) item

-- where it fails, that is what comes of the probe
pub tried_fail : (program : Resolution) (n : ℕ) (assumed : Assumed) (probe : Probe) (params : List Param) (words values : List ℤ) (run : Constant) (site : SiteId) (w : Witness) → IsResolution program → IsEntry program n params → IsBoxIn params probe.within → AreWords probe words →
    AreAnswers assumed probe (outsides (tree_of program)) values → ((name : Name) → IsProcName (tree_of program) n name → IsConstantRun (tree_of program) name words values run) → run.outcome ≡ Fail site → IsWitnessOf program n words run site w → IsTried program n assumed probe (Some w)
tried_fail program n assumed probe params words values run site w r (name, body, at) inside taken given is e of =
    let tree = tree_of program in
    let h = is name (entry_name program n name params body at) in
    let ran = subst (λ o. IsReplay tree name words (pairs run.answers) o) e h.run in
    let proc : ran.0 ≡ w.site.proc = same_there (map name_of (procs_of program)) site.proc.0 ran.0 w.site.proc ran.1 of.proc in
    let called : name ≡ w.entry = same_there (map name_of (procs_of program)) n name w.entry (entry_name program n name params body at) of.named in
    let same_params : params ≡ of.params = same_there (map params_of (procs_of program)) n params of.params (mapped_at params_of (procs_of program) n (entry name params body) at) of.params_are in
    let end : fail (record { proc = ran.0; number = site.index }) ≡ fail (record { proc = w.site.proc; number = w.site.index }) = λ i. fail (record { proc = proc i; number = sym of.index i }) in
    let its_run : Run tree w.entry (words_of w) (pairs w.answers) (fail (record { proc = w.site.proc; number = w.site.index })) =
    subst (λ o. Run tree w.entry (words_of w) (pairs w.answers) o) end
    (subst (λ a. Run tree w.entry (words_of w) (pairs a) (fail (record { proc = ran.0; number = site.index }))) (sym of.answers)
    (subst (λ ws. Run tree w.entry ws (pairs run.answers) (fail (record { proc = ran.0; number = site.index }))) (sym of.words_are)
    (subst (λ x. Run tree x words (pairs run.answers) (fail (record { proc = ran.0; number = site.index }))) called ran.2))) in
    let from : AreFrom (word_of (outsides tree) values) (pairs w.answers) = subst (λ a. AreFrom (word_of (outsides tree) values) (pairs a)) (sym of.answers) h.constant in
    let failing : IsFailing program n w = record {
      params = params;
      body = body;
      entry_is = subst (λ x. slice_get (procs_of program) n ≡ Some (entry x params body)) called at;
      names = of.names ∙ ap (λ (ps : List Param). map (λ (p : Param). p.name) ps) (sym same_params);
      run = its_run;
    } in
    let answers : (x : Name) → Contains (outsides tree) x → IsAnswer assumed probe.mode probe.missed x (word_of (outsides tree) values x) = answers_of assumed probe (outsides tree) values given in
    let its_words : AreWords probe (words_of w) = subst (λ ws. AreWords probe ws) (sym of.words_are) taken in (
      record { fails = failing; words = picks_of probe.mode probe.within (words_of w) its_words; constant = word_of (outsides tree) values; answers = answers; always = from },
      record {
        fails = failing;
        fit = words_fit probe.mode params probe.within (words_of w) inside its_words;
        meet = meets tree assumed (word_of (outsides tree) values) (pairs w.answers) (λ x there. answer_holds assumed probe.mode probe.missed x (word_of (outsides tree) values x) (answers x there))
            (run_asks tree w.entry (words_of w) (pairs w.answers) (fail (record { proc = w.site.proc; number = w.site.index })) its_run) from;
      },
      λ v fails. same_site v w
          (same_end program n assumed probe w.entry params body (words_of w) values (pairs w.answers) (fail (record { proc = w.site.proc; number = w.site.index })) v r (subst (λ x. slice_get (procs_of program) n ≡ Some (entry x params body)) called at) its_words given its_run from fails),
    )
  where
    same_site : (v w : Witness) → fail (record { proc = v.site.proc; number = v.site.index }) ≡ fail (record { proc = w.site.proc; number = w.site.index }) → v.site ≡ w.site
    same_site v w e =
        let site = same_of e in
        λ i. record { proc = (site i).proc; index = (site i).number }
      where
        same_of : {a b : Site} → fail a ≡ fail b → a ≡ b
        same_of e = cc

-- each of these names has an answer
pub all_some : (assumed : Assumed) (names : List Name) (told : List Name) → told ≡ names → ((name : Name) → Contains names name → ¬ IsEmpty (assumed name)) → All (λ name. ¬ IsEmpty (assumed name)) told
all_some assumed names told same some k d h = some (get_or told k d) (subst (λ xs. Contains xs (get_or told k d)) same (Contains-get_or told k d h))

-- where the run of the probe doesn't fail, the probe doesn't
pub tried_none : (program : Resolution) (n : ℕ) (assumed : Assumed) (probe : Probe) (params : List Param) (words values : List ℤ) (run : Constant) → IsResolution program → IsEntry program n params → AreWords probe words →
    AreAnswers assumed probe (outsides (tree_of program)) values → ((name : Name) → IsProcName (tree_of program) n name → IsConstantRun (tree_of program) name words values run) → ((site : SiteId) → run.outcome ≡ Fail site → ⊥) → IsTried program n assumed probe None
tried_none program n assumed probe params words values run r e taken given is never = by run.outcome refl
  where
    by : (o : Found) → run.outcome ≡ o → IsTried program n assumed probe None
    by (Done word) f = tried_done program n assumed probe params words values run word r e taken given is f
    by (Fail site) f = absurd (never site f)
    by (Short at) f = absurd (not_short program n params words values run at e is f)
    by (Stranger at) f = absurd (not_stranger program n params words values run at e is f)
    by (Extra used) f = absurd (not_extra program n params words values run used e is f)

-- what is told of a slice is told of its words
pub run_along : (program : Resolution) (n : ℕ) (words own values told : List ℤ) (run : Constant) → words ≡ own → values ≡ told → ((name : Name) → IsProcName (tree_of program) n name → IsConstantRun (tree_of program) name words values run) →
    (name : Name) → IsProcName (tree_of program) n name → IsConstantRun (tree_of program) name own told run
run_along program n words own values told run e f h name named = subst (λ ws. IsConstantRun (tree_of program) name ws told run) e (subst (λ vs. IsConstantRun (tree_of program) name words vs run) f (h name named))

pub answers_count : (assumed : Assumed) (probe : Probe) (names : List Name) (values : List ℤ) → AreAnswers assumed probe names values → length values ≡ length names
answers_count assumed probe [] [] h = refl
answers_count assumed probe [] (w ∷ values) h = absurd h
answers_count assumed probe (x ∷ names) [] h = absurd h
answers_count assumed probe (x ∷ names) (w ∷ values) h = ap suc (answers_count assumed probe names values h.1)

pub entry_flag : (program : Resolution) (n : ℕ) (params : List Param) → IsEntry program n params → slice_get (map is_entry (procs_of program)) n ≡ Some true
entry_flag program n params (name, body, at) = mapped_at is_entry (procs_of program) n (entry name params body) at

pub entry_within : (program : Resolution) (n : ℕ) (params : List Param) → IsEntry program n params → n < length (procs_of program)
entry_within program n params (name, body, at) = slice_get_within (procs_of program) n (entry name params body) at

pub params_count : (program : Resolution) (n : ℕ) (params other : List Param) (probe : Probe) (words : List ℤ) → IsEntry program n params → IsBoxIn params probe.within → AreWords probe words → slice_get (map params_of (procs_of program)) n ≡ Some other → length other ≡ length words
params_count program n params other probe words (name, body, at) inside taken takes =
    let same : params ≡ other = same_there (map params_of (procs_of program)) n params other (mapped_at params_of (procs_of program) n (entry name params body) at) takes in
    ap length (sym same) ∙ words_count probe.mode params probe.within words inside taken

pub all_along : (box other : Box) → box ≡ other → All (λ (range : ℤ × ℤ). range.0 ≤ℤ range.1) box → All (λ (range : ℤ × ℤ). range.0 ≤ℤ range.1) other
all_along box other e h = subst (λ b. All (λ (range : ℤ × ℤ). range.0 ≤ℤ range.1) b) e h

pub words_along : (probe : Probe) (box : Box) (words : List ℤ) → box ≡ probe.within → ArePicks probe.mode box words → AreWords probe words
words_along probe box words e h = subst (λ b. ArePicks probe.mode b words) e h

pub answers_along : (assumed : Assumed) (probe : Probe) (names own : List Name) (values : List ℤ) → names ≡ own → AreAnswers assumed probe names values → AreAnswers assumed probe own values
answers_along assumed probe names own values e h = subst (λ xs. AreAnswers assumed probe xs values) e h

pub witness_along : (program : Resolution) (n : ℕ) (words own : List ℤ) (run : Constant) (site : SiteId) (w : Witness) → words ≡ own → IsWitnessOf program n words run site w → IsWitnessOf program n own run site w
witness_along program n words own run site w e h = subst (λ ws. IsWitnessOf program n ws run site w) e h
