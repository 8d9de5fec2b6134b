-- An accepted proof under which no row is left shows that the revision is relatively correct.
use Rattle.std.proofs.Common.{◌≡◌, inl, inr, ⊎_elim, ℕ, ℤ, false, Some, List, [], ◌∷◌, ◌++◌, take, slice_get, unwrap_or, refl, sym, ap, subst, ◌∙◌, append_assoc, append-nil}
use Rattle.std.specs.List.{Contains}
use Rattle.vmv_tree.specs.declared.name.Name.{Name}
use Rattle.vmv_tree.specs.declared.site.NamedSite.{NamedSite}
use Rattle.vmv_tree.specs.declared.tree.Param.{Param}
use Rattle.vmv_tree.specs.Tree.{entry, Body}
use Rattle.vmv_tree.specs.Run.{Answers, Site, Outcome.fail, Run}
use Rattle.vmv_tree.specs.Safe.{Environment, Covers, words_of, AreIn, FitParams, Safe, RelCorrect}
use Rattle.vmv_snapshot.specs.Resolution.{Resolution, IsResolution, tree_of, procs_of}
use Rattle.vmv_assumption.specs.Whole.{whole}
use Rattle.vmv_assumption.specs.Assumed.{Assumed}
use Rattle.vmv_assumption.specs.Within.{IsWithin, AreOffPiece}
use Rattle.vmv_cert.specs.declared.row.Row.{Row}
use Rattle.vmv_cert.specs.Tables.{Accepted, IsSiteOf}
use Rattle.vmv_cert.specs.Places.{Place, proc_name, site_at}
use Rattle.vmv_check.proofs.Lists.{push_in}
use Rattle.vmv_check.proofs.Orders.{name_at}
use Rattle.vmv_table_sound.specs.Told.{named}
use Rattle.vmv_table_sound.proofs.Environments.{piece_says, left_out_holds}
use Rattle.vmv_table_sound.proofs.Sites.{failing_site}
use Rattle.vmv_proof.specs.declared.proof.Exclusion.{Exclusion}
use Rattle.vmv_proof.specs.declared.proof.Proof.{Proof}
use Rattle.vmv_proof_check.specs.declared.claims.Claims.{Claims}
use Rattle.vmv_proof_check.specs.Cuts.{IsCutBy}
use Rattle.vmv_proof_check.specs.Parts.{passes, ExclusionTurns, AllPass}
use Rattle.vmv_proof_check.specs.Counts.{LeavesOut, Standing, clean, hidden, left, StandsAs, is_left}
use Rattle.vmv_proof_check.specs.Proofs.{IsProofAccepted}
use Rattle.vmv_proof_check.proofs.Lists.{none_in, take_in, none_counted}
use Rattle.vmv_proof_check.proofs.Cutting.{cut_by_none}

-- the environment has no word of the exclusion's piece for its name
abbrev IsOff : Environment → Exclusion → Type 0
IsOff env x = AreOffPiece env x.name x.piece

abbrev AreOff : Environment → List Exclusion → Type 0
AreOff env xs = (x : Exclusion) → Contains xs x → IsOff env x

-- so it is within what these leave
off_within : (env : Environment) (xs : List Exclusion) (assumed : Assumed) → AreOff env xs → IsCutBy xs assumed → IsWithin env assumed
off_within env xs assumed off cut name word is there =
    (cut name word).1 (is, λ x among same inside. off x among word is (subst (λ (n : Name). Contains (words_of env n) word) (sym same) there) inside)

-- an exclusion that passes holds, where those before it do
passing_off : (base : Resolution) (env : Environment) (before : List Exclusion) (x : Exclusion) → IsResolution base → Covers env (tree_of base) → Safe env (tree_of base) → AreOff env before → ExclusionTurns base before x passes → IsOff env x
passing_off base env before x is covers safe off (inl (wrong, e)) = absurd (cc)
passing_off base env before x is covers safe off (inr (head, (kept, (cut, cut_is, change), (accepted, (row, among, above, bottom))))) =
    piece_says base head.number x.within cut kept x.table.rows x.name x.piece env is change
    (head.params, (x.entry, head.entry_is.0, head.entry_is.1), head.box_is, (row, accepted, among, above, bottom)) covers
    (off_within env (take x.under before) cut (λ y there. off y (take_in x.under before y there)) cut_is) safe

all_off : (base : Resolution) (env : Environment) (xs before after : List Exclusion) → IsResolution base → Covers env (tree_of base) → Safe env (tree_of base) → AllPass base xs → xs ≡ before ++ after → AreOff env before → AreOff env xs
all_off base env xs before [] is covers safe pass parts off = subst (λ (ys : List Exclusion). AreOff env ys) (sym (parts ∙ append-nil before)) off
all_off base env xs before (x ∷ after) is covers safe pass parts off =
    let here : IsOff env x = passing_off base env before x is covers safe off (pass before after x parts) in
    all_off base env xs (before ++ x ∷ []) after is covers safe pass (parts ∙ sym (append_assoc before (x ∷ []) after))
    (λ y there. ⊎_elim (λ (old : Contains before y). off y old) (λ (e : x ≡ y). subst (λ (z : Exclusion). IsOff env z) e here) (push_in before x y there))

-- each environment that is safe for the base is within what the exclusions leave
pub safe_within : (base : Resolution) (env : Environment) (xs : List Exclusion) (assumed : Assumed) → IsResolution base → Covers env (tree_of base) → Safe env (tree_of base) → AllPass base xs → IsCutBy xs assumed → IsWithin env assumed
safe_within base env xs assumed is covers safe pass cut = off_within env xs assumed (all_off base env xs [] xs is covers safe pass refl (λ x there. absurd (none_in x there))) cut

-- the site by its place is the one that failed
site_same : (program : Resolution) (number home : ℕ) (site : Site) → IsSiteOf program number home (named site) → site_at program (record { entry = number; proc = home; index = site.number }) ≡ named site
site_same program number home site is =
    let name : proc_name program home ≡ site.proc = ap (λ o. unwrap_or o []) (name_at program home is.item site.proc is.place is.named) in
    let at : Name → NamedSite = λ x. record { proc = x; index = site.number } in
    ap at name

-- a run of an entry doesn't fail at a site that an accepted table leaves out
left_out_safe : (revision : Resolution) (number home : ℕ) (site : Site) (assumed : Assumed) (rows : List Row) (env : Environment) (name : Name) (params : List Param) (body : Body) (words : List ℤ) (answers : Answers) → IsResolution revision →
    IsSiteOf revision number home (named site) → Accepted revision assumed rows → LeavesOut revision (record { entry = number; proc = home; index = site.number }) rows → slice_get (procs_of revision) number ≡ Some (entry name params body) →
    FitParams params words → IsWithin env assumed → AreIn answers env → Run (tree_of revision) name words answers (fail site) → ⊥
left_out_safe revision number home site assumed rows env name params body words answers is of accepted (more, there, (row, among, above, unlisted)) at fit within inside run =
    left_out_holds revision number assumed rows (named site) env name params body words answers is
    (more, there, (row, accepted, among, above, λ listed. unlisted (subst (λ (x : NamedSite). Contains row.unproved x) (sym (site_same revision number home site of)) listed))) at fit within inside run

-- a row that isn't left doesn't fail
row_safe : (base revision : Resolution) (proof : Proof) (claims : Claims) (env : Environment) (number home : ℕ) (site : Site) (standing : Standing) (name : Name) (params : List Param) (body : Body) (words : List ℤ) (answers : Answers) → IsResolution base → IsResolution revision →
    IsProofAccepted base revision proof claims → Covers env (tree_of base) → Safe env (tree_of base) → IsSiteOf revision number home (named site) → StandsAs revision proof.shown (record { entry = number; proc = home; index = site.number }) standing → is_left standing ≡ false →
    slice_get (procs_of revision) number ≡ Some (entry name params body) → FitParams params words → AreIn answers env → Run (tree_of revision) name words answers (fail site) → ⊥
row_safe base revision proof claims env number home site clean name params body words answers is_base is ok covers safe of (s, (there, its), out) kept at fit inside run =
    let accepted : Accepted revision (λ x. whole) s.plain.rows = (ok.shown s there).0.3.0 in
    left_out_safe revision number home site (λ x. whole) s.plain.rows env name params body words answers is of accepted out at fit (within_whole env) inside run
  where
    within_whole : (e : Environment) → IsWithin e (λ x. whole)
    within_whole e = off_within e [] (λ x. whole) (λ x among. absurd (none_in x among)) (cut_by_none (λ x. whole) (λ n. refl))
row_safe base revision proof claims env number home site hidden name params body words answers is_base is ok covers safe of (wrong, (s, (there, its), out)) kept at fit inside run =
    let given = (ok.shown s there).1 in
    left_out_safe revision number home site given.0 s.given.rows env name params body words answers is of given.2.3.0 out at fit (safe_within base env proof.exclusions given.0 is_base covers safe ok.exclusions given.1) inside run
row_safe base revision proof claims env number home site left name params body words answers is_base is ok covers safe of stands kept at fit inside run = absurd (cc)

pub accepted_correct : (base revision : Resolution) (proof : Proof) (claims : Claims) → IsResolution base → IsResolution revision → IsProofAccepted base revision proof claims → claims.left ≡ 0 → RelCorrect (tree_of base) (tree_of revision)
accepted_correct base revision proof claims is_base is ok none env covers_base covers safe name params body words answers site there fit inside run =
    let f = failing_site revision name params body words answers site is there run in
    let place : Place = record { entry = f.number; proc = f.home; index = site.number } in
    let here = f.is in
    let found = ok.counts.standings.all place (record { params = params; entry = (name, body, f.at); item = here.item; proc = here.place; reached = here.reached; from = here.from; to = here.to }) in
    let each = ok.counts.standings.each (place, found.0) found.1 in
    row_safe base revision proof claims env f.number f.home site found.0 name params body words answers is_base is ok covers_base safe f.is each.1
    (none_counted (λ (row : Place × Standing). is_left row.1) ok.counts.rows (place, found.0) (sym ok.counts.left_is ∙ none) found.1) f.at fit inside run
