-- The texts that a store gives are those of the project.
use Rattle.std.proofs.Common.{◌≡◌, ◌==◌, ◌≤◌, ◌+◌, ℕ, Bool, true, false, cond, List, [], ◌∷◌, map, length, find, Option, Some, None, IsSome, IfOk, Result, Ok, Err, unwrap_or, refl, ap, sym, ◌∙◌, subst, arith}
use Rattle.std.specs.Option.{option_map, option_and_then}
use borrow.Author.Tests.{eq-eqb, ne_eqb}
use Rattle.vmv_keeper.specs.declared.project.Project.{Project}
use Rattle.vmv_keeper.specs.declared.project.Held.{Held}
use Rattle.vmv_keeper.specs.declared.project.Version.{Version}
use Rattle.vmv_keeper.specs.declared.project.Waiting.{Waiting}
use Rattle.vmv_keeper.specs.declared.project.Submitted.{Submitted}
use Rattle.vmv_keeper.specs.declared.reply.VersionRow.{VersionRow}
use Rattle.vmv_keeper.specs.declared.reply.Reply.{Reply}
use Rattle.vmv_keeper.specs.declared.judge.Inspected.{Inspected}
use Rattle.vmv_keeper.specs.declared.judge.Compared.{Compared}
use Rattle.vmv_keeper.specs.Tables.{Tables, root_after, root_number, is_version, waiting_as, project_named, held_of, version_text, submitted_of, submission_in, text_in}
use Rattle.vmv_keeper.specs.Outside.{IsAsIn}
use Rattle.vmv_keeper.specs.Formed.{IsHeld, AreNumbered, BeginOpened}
use Rattle.vmv_keeper.specs.Changes.{waiting_text}
use Rattle.vmv_keeper.proofs.ListChanges.{length_map-same}
use Rattle.vmv_desk_rules.specs.Causes.{Meaning, last_text, base_text, root_text, if_not_correct, if_vacuous}
use Rattle.vmv_desk_rules.proofs.RootLemmas.{root_text_at, begun_root}
use Rattle.vmv_desk.specs.AtHand.{OfHeld, first_cause}

one_step : (v : Version) (b : Bool) → b ≡ true → option_map (λ (x : Version). x.text) (cond b (Some v) None) ≡ Some v.text
one_step v true e = refl
one_step v false e = absurd (cc e)

more_step : (v : Version) (b : Bool) (found : Option Version) → b ≡ false → option_map (λ (x : Version). x.text) (cond b (Some v) found) ≡ option_map (λ (x : Version). x.text) found
more_step v true found e = absurd (cc e)
more_step v false found e = refl

-- the version with the highest number is the last
pub last_numbered : (k n : ℕ) (vs : List Version) → AreNumbered k (map (λ (v : Version). v.row) vs) → n + 1 ≡ k + length vs → 1 ≤ length vs
    → option_map (λ (x : Version). x.text) (find (is_version n) vs) ≡ Some (last_text vs)
last_numbered k n [] numbered e some = absurd (omega arith)
last_numbered k n (v ∷ []) numbered e some =
    let at = numbered.0 in one_step v (v.row.number == n) (eq-eqb v.row.number n (omega arith))
last_numbered k n (v ∷ w ∷ rest) numbered e some =
    let at = numbered.0 in
    more_step v (v.row.number == n) (find (is_version n) (w ∷ rest)) (ne_eqb v.row.number n (λ same. absurd (omega arith)))
    ∙ last_numbered (k + 1) n (w ∷ rest) numbered.1 (omega arith) (omega arith)

begun : (vs : List VersionRow) → BeginOpened vs → 1 ≤ length vs
begun [] h = absurd h
begun (v ∷ vs) h = omega arith

-- the text of the version with the highest number is the base's
pub base_found : (owner : List ℕ) (held : Held) (n : ℕ) (p : Project) → IsHeld owner held → n ≡ length held.versions → held ≡ held_of p
    → version_text n p ≡ Some (base_text p)
base_found owner held n p good e same =
    let here : IsHeld owner (held_of p) = subst (IsHeld owner) same good in
    let rows : length held.versions ≡ length (map (λ (v : Version). v.row) p.versions) = ap (λ (h : Held). length h.versions) same in
    let many = length_map-same (λ (v : Version). v.row) p.versions in
    let some = begun (map (λ (v : Version). v.row) p.versions) here.opened in
    last_numbered 1 n p.versions here.numbered (omega arith) (omega arith)

-- the text of the version of the root's number is the root's
pub root_found : (owner : List ℕ) (held : Held) (n : ℕ) (p : Project) → IsHeld owner held → n ≡ root_after 0 held.versions → held ≡ held_of p
    → (n ≡ root_number p) × (version_text n p ≡ Some (root_text p))
root_found owner held n p good e same =
    let here : IsHeld owner (held_of p) = subst (IsHeld owner) same good in
    let at : n ≡ root_number p = e ∙ ap (λ (h : Held). root_after 0 h.versions) same in
    (at, ap (λ m. version_text m p) at ∙ root_text_at 1 0 p.versions here.numbered (begun_root p.versions here.opened))

-- the submission that is given is the one that waits
given_text : (s : ℕ) (p : Project) (submitted : Submitted) (found : Option Waiting) → Some submitted ≡ option_map submitted_of found
    → submitted.text ≡ unwrap_or (option_map (λ (w : Waiting). w.text) found) []
given_text s p submitted None e = absurd (cc e)
given_text s p submitted (Some w) e = let same : submitted ≡ submitted_of w = cc e in ap (λ (x : Submitted). x.text) same

pub submission_found : (tables : Tables) (owner name : List ℕ) (s : ℕ) (p : Project) (submitted : Submitted) → project_named tables owner name ≡ Some p
    → Some submitted ≡ submission_in owner name s tables → submitted.text ≡ waiting_text s p
submission_found tables owner name s p submitted named e =
    given_text s p submitted (waiting_as s p) (e ∙ ap (option_and_then (λ q. option_map submitted_of (waiting_as s q))) named)

pub text_found : (tables : Tables) (owner name : List ℕ) (n : ℕ) (p : Project) (found : Option (List ℕ)) (text : List ℕ) → project_named tables owner name ≡ Some p
    → version_text n p ≡ Some text → found ≡ text_in owner name n tables → found ≡ Some text
text_found tables owner name n p found text named is told = told ∙ ap (option_and_then (version_text n)) named ∙ is

alone : (cause : Option Reply) → cause ≡ first_cause (cause ∷ [])
alone None = refl
alone (Some r) = refl

pub accepting_found : {E : Type 0} (told then : Option Tables) (owner name : List ℕ) (held : Held) (s n : ℕ) (I : List ℕ → Inspected) (C : List ℕ → List ℕ → Compared)
    (submitted : Submitted) (root : List ℕ) (result : Result (Option Reply) E)
    → IsHeld owner held → n ≡ root_after 0 held.versions → IsAsIn (submission_in owner name s) told (Some submitted) → then ≡ told
    → IsAsIn (text_in owner name n) then (Some root)
    → IfOk result (λ cause. cause ≡ first_cause (if_not_correct (C root submitted.text) ∷ if_vacuous (I submitted.text) ∷ []))
    → IfOk result (λ cause. OfHeld told owner name held (λ p. IsSome (waiting_as s p)
    → cause ≡ first_cause (if_not_correct (C (root_text p) (waiting_text s p)) ∷ if_vacuous (I (waiting_text s p)) ∷ [])))
accepting_found told then owner name held s n I C submitted root (Err e) good at given kept read found = tt
accepting_found None then owner name held s n I C submitted root (Ok cause) good at given kept read found = tt
accepting_found (Some tables) then owner name held s n I C submitted root (Ok cause) good at given kept read found = λ p named same waits.
    let R : Option Tables → Type 0 = λ t. IsAsIn (text_in owner name n) t (Some root) in
    let text = submission_found tables owner name s p submitted named given in
    let here = text_found tables owner name n p (Some root) (root_text p) named (root_found owner held n p good at same).1 (subst R kept read) in
    let is_root : root ≡ root_text p = cc here in
    found ∙ ap (λ b. first_cause (if_not_correct (C b submitted.text) ∷ if_vacuous (I submitted.text) ∷ [])) is_root
    ∙ ap (λ t. first_cause (if_not_correct (C (root_text p) t) ∷ if_vacuous (I t) ∷ [])) text

-- the root's text is there
pub no_root : (told then : Option Tables) (owner name : List ℕ) (held : Held) (n : ℕ) (P : Project → Type 0)
    → IsHeld owner held → n ≡ root_after 0 held.versions → then ≡ told → IsAsIn (text_in owner name n) then None → OfHeld told owner name held P
no_root None then owner name held n P good at kept read = tt
no_root (Some tables) then owner name held n P good at kept read = λ p named same.
    let R : Option Tables → Type 0 = λ t. IsAsIn (text_in owner name n) t None in
    let here = text_found tables owner name n p None (root_text p) named (root_found owner held n p good at same).1 (subst R kept read) in
    absurd (cc here)

-- the base's text is there
pub no_base : (told : Option Tables) (owner name : List ℕ) (held : Held) (n : ℕ) (P : Project → Type 0)
    → IsHeld owner held → n ≡ length held.versions → IsAsIn (text_in owner name n) told None → OfHeld told owner name held P
no_base None owner name held n P good many read = tt
no_base (Some tables) owner name held n P good many read = λ p named same.
    let here = text_found tables owner name n p None (base_text p) named (base_found owner held n p good many same) read in absurd (cc here)

pub waiving_found : (told : Option Tables) (owner name : List ℕ) (held : Held) (s : ℕ) (M : Meaning) (submitted : Submitted) (said : Inspected) (cause : Option Reply)
    → IsAsIn (submission_in owner name s) told (Some submitted) → M.inspected submitted.text ≡ said → cause ≡ if_vacuous said
    → OfHeld told owner name held (λ p. IsSome (waiting_as s p) → cause ≡ first_cause (if_vacuous (M.inspected (waiting_text s p)) ∷ []))
waiving_found None owner name held s M submitted said cause given e is = tt
waiving_found (Some tables) owner name held s M submitted said cause given e is = λ p named same waits.
    let text = submission_found tables owner name s p submitted named given in
    is ∙ sym (ap if_vacuous e) ∙ alone (if_vacuous (M.inspected submitted.text)) ∙ ap (λ t. first_cause (if_vacuous (M.inspected t) ∷ [])) text
