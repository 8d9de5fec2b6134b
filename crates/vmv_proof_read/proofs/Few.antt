-- How many members the lists of a proof have that lines tell.
use Rattle.std.proofs.Common.{◌≡◌, ℕ, zero, suc, ◌<◌, ◌^◌, List, [], ◌∷◌, length, subst, arith}
use Rattle.std.specs.Prelude.{slice_index_or}
use Rattle.std.specs.List.{AllZip, flat_map}
use Rattle.vmv_cert.specs.declared.table.Table.{Table}
use Rattle.vmv_proof.specs.declared.proof.Exclusion.{Exclusion}
use Rattle.vmv_proof.specs.declared.proof.Shown.{Shown}
use Rattle.vmv_proof.specs.declared.proof.Proof.{Proof}
use Rattle.vmv_proof_text.specs.Parts.{Part, given_part, end_part, parts_of_table, parts_of_exclusion, parts_of_shown, parts_of_proof, back_parts}
use Rattle.vmv_proof_text.specs.Lines.{IsLine}
use Rattle.vmv_proof_text.specs.Faults.{Line}
use Rattle.vmv_proof_read.specs.Why.{AreFew}
use Rattle.vmv_proof_read.proofs.Starts.{told_cut}

-- lines that tell them
abbrev ToldBy : List Part → Type 0
ToldBy parts = (lines : List Line) × AllZip IsLine parts lines

told_at : {A : Type 0} (each : A → List Part) (xs : List A) (k : ℕ) (x : A) → k < length xs → slice_index_or xs k x ≡ x → (lines : List Line) → AllZip IsLine (flat_map each xs) lines → ToldBy (each x)
told_at each [] k x few e lines t = absurd (omega arith)
told_at each (y ∷ xs) zero x few e lines t =
    let c = told_cut (each y) (flat_map each xs) lines t in
    (c.front, subst (λ v. AllZip IsLine (each v) c.front) e c.first)
told_at each (y ∷ xs) (suc k) x few e lines t =
    let c = told_cut (each y) (flat_map each xs) lines t in
    told_at each xs k x (omega arith) e c.back c.second

few_rows : (t : Table) (lines : List Line) → AllZip IsLine (parts_of_table t) lines → length t.rows < 2 ^ 32
few_rows t [] h = absurd h
few_rows t (a ∷ lines) h = h.0.0

few_excluding : (x : Exclusion) (lines : List Line) → AllZip IsLine (parts_of_exclusion x) lines → length x.table.rows < 2 ^ 32
few_excluding x [] h = absurd h
few_excluding x (a ∷ []) h = absurd h.1
few_excluding x (a ∷ b ∷ lines) h = few_rows x.table lines h.1.1

few_plain : (s : Shown) (lines : List Line) → AllZip IsLine (parts_of_shown s) lines → length s.plain.rows < 2 ^ 32
few_plain s [] h = absurd h
few_plain s (a ∷ lines) h =
    let c = told_cut (parts_of_table s.plain) (given_part s.entry ∷ parts_of_table s.given) lines h.1 in
    few_rows s.plain c.front c.first

behind_first : (s : Shown) (back : List Line) → AllZip IsLine (given_part s.entry ∷ parts_of_table s.given) back → length s.given.rows < 2 ^ 32
behind_first s [] h = absurd h
behind_first s (b ∷ back) h = few_rows s.given back h.1

few_given : (s : Shown) (lines : List Line) → AllZip IsLine (parts_of_shown s) lines → length s.given.rows < 2 ^ 32
few_given s [] h = absurd h
few_given s (a ∷ lines) h =
    let c = told_cut (parts_of_table s.plain) (given_part s.entry ∷ parts_of_table s.given) lines h.1 in
    behind_first s c.back c.second

back_few : (shown : List Shown) (back : List Line) → AllZip IsLine (back_parts shown) back → (length shown < 2 ^ 32) × ToldBy (flat_map parts_of_shown shown)
back_few shown [] h = absurd h
back_few shown (c ∷ back) h =
    let cut = told_cut (flat_map parts_of_shown shown) (end_part ∷ []) back h.1 in
    (h.0.0, (cut.front, cut.first))

pub few_told : (p : Proof) (lines : List Line) → AllZip IsLine (parts_of_proof p) lines → AreFew p
few_told p [] h = absurd h
few_told p (a ∷ []) h = absurd h.1
few_told p (a ∷ b ∷ lines) h =
    let cut = told_cut (flat_map parts_of_exclusion p.exclusions) (back_parts p.shown) lines h.1.1 in
    let back = back_few p.shown cut.back cut.second in
    record {
      exclusions = h.1.0.0;
      shown = back.0;
      excluding = λ x at. let t = told_at parts_of_exclusion p.exclusions at.0 x at.1 at.2 cut.front cut.first in few_excluding x t.0 t.1;
      plain = λ s at. let t = told_at parts_of_shown p.shown at.0 s at.1 at.2 back.1.0 back.1.1 in few_plain s t.0 t.1;
      given = λ s at. let t = told_at parts_of_shown p.shown at.0 s at.1 at.2 back.1.0 back.1.1 in few_given s t.0 t.1;
    }
