-- A proof that is read part by part.
use Rattle.std.proofs.Common.{ℕ, List, [], ◌∷◌, ◌++◌, length, replicate, refl}
use Rattle.std.specs.Prelude.{Ok, Err}
use Rattle.std.specs.List.{flat_map}
use Rattle.std.proofs.lemmas.List.{length-replicate}
use Rattle.vmv_proof.specs.declared.proof.Exclusion.{Exclusion}
use Rattle.vmv_proof.specs.declared.proof.Shown.{Shown}
use Rattle.vmv_proof.specs.declared.proof.Proof.{Proof}
use Rattle.vmv_proof_text.specs.Parts.{Part, opening_part, exclusions_part, entries_part, end_part, parts_of_exclusion, parts_of_shown, parts_of_proof, back_parts}
use Rattle.vmv_proof_line.specs.declared.fault.LineFault.{LineFault}
use Rattle.vmv_proof_read.specs.Reading.{Reads, Any, HasCount, only}
use Rattle.vmv_proof_read.proofs.Along.{Follows, Went, begin, on, off, done}
use Rattle.vmv_proof_read.proofs.Singles.{decides_line}
use Rattle.vmv_proof_read.proofs.Steps.{By, And, follows_by}
use Rattle.vmv_proof_read.proofs.Some.{some_exclusion, some_shown}
use Rattle.vmv_proof_read.proofs.LineLaws.{one_exclusions, one_entries}
use Rattle.vmv_proof_read.proofs.Once.{decides_exclusions, decides_shown_list, decides_unit}

abbrev pub behind_opening : Proof → List Part
behind_opening p = exclusions_part (length p.exclusions) ∷ (flat_map parts_of_exclusion p.exclusions ++ back_parts p.shown)

abbrev pub behind_count : Proof → List Part
behind_count p = flat_map parts_of_exclusion p.exclusions ++ back_parts p.shown

abbrev pub behind_exclusions : Proof → List Part
behind_exclusions p = back_parts p.shown

abbrev pub behind_entries : Proof → List Part
behind_entries p = flat_map parts_of_shown p.shown ++ end_part ∷ []

abbrev pub behind_shown : Proof → List Part
behind_shown p = end_part ∷ []

abbrev pub behind_proof : Proof → List Part
behind_proof p = []

abbrev pub opening : Unit {0} → Part
opening u = opening_part

abbrev pub end : Unit {0} → Part
end u = end_part

abbrev pub Known1 : (Unit {0}) → Proof → Type 0
Known1 o = And {A = Proof} {B = Unit {0}} (Any {A = Proof}) (λ p. tt) o

abbrev pub Known2 : (Unit {0}) → ℕ → Proof → Type 0
Known2 o k = And {A = Proof} {B = ℕ} (Known1 o) (λ p. length p.exclusions) k

abbrev pub Known3 : (Unit {0}) → ℕ → (List Exclusion) → Proof → Type 0
Known3 o k es = And {A = Proof} {B = List Exclusion} (Known2 o k) (λ p. p.exclusions) es

abbrev pub Known4 : (Unit {0}) → ℕ → (List Exclusion) → ℕ → Proof → Type 0
Known4 o k es m = And {A = Proof} {B = ℕ} (Known3 o k es) (λ p. length p.shown) m

abbrev pub Known5 : (Unit {0}) → ℕ → (List Exclusion) → ℕ → (List Shown) → Proof → Type 0
Known5 o k es m ss = And {A = Proof} {B = List Shown} (Known4 o k es m) (λ p. p.shown) ss

abbrev pub Known6 : (Unit {0}) → ℕ → (List Exclusion) → ℕ → (List Shown) → (Unit {0}) → Proof → Type 0
Known6 o k es m ss d = And {A = Proof} {B = Unit {0}} (Known5 o k es m ss) (λ p. tt) d

abbrev pub Along : (Proof → Type 0) → (Proof → List Part) → List ℕ → List ℕ → Type 0
Along Q tail text old = Went {A = Proof} Any parts_of_proof (By Q tail) text old

next_1 : Follows {A = Proof} {B = Unit {0}} Any (only opening) (By (Any {A = Proof}) parts_of_proof) (λ (o : Unit {0}). By (Known1 o) behind_opening)
next_1 = follows_by {A = Proof} {B = Unit {0}} Any (only opening) (Any {A = Proof}) parts_of_proof behind_opening (λ p. tt) (λ p q. refl) (λ p q. tt) (λ o own. (record { exclusions = []; shown = [] }, tt, refl))

pub on_1 : (text old new : List ℕ) (o : Unit {0}) → Along (Any {A = Proof}) parts_of_proof text old → Reads {A = Unit {0}} Any (only opening) old new (Ok o) → Along (Known1 o) behind_opening text new
on_1 text old new o w read = on Any parts_of_proof (By (Any {A = Proof}) parts_of_proof) Any (only opening) (λ (o : Unit {0}). By (Known1 o) behind_opening) text old new o w next_1 (decides_unit opening) read

pub off_1 : (text old new : List ℕ) (fault : LineFault) → Along (Any {A = Proof}) parts_of_proof text old → Reads {A = Unit {0}} Any (only opening) old new (Err fault) → Reads {A = Proof} Any parts_of_proof text new (Err fault)
off_1 text old new fault w read = off Any parts_of_proof (By (Any {A = Proof}) parts_of_proof) Any (only opening) (λ (o : Unit {0}). By (Known1 o) behind_opening) text old new fault w next_1 read

next_2 : (o : Unit {0}) → Follows {A = Proof} {B = ℕ} Any (only exclusions_part) (By (Known1 o) behind_opening) (λ (k : ℕ). By (Known2 o k) behind_count)
next_2 o = follows_by {A = Proof} {B = ℕ} Any (only exclusions_part) (Known1 o) behind_opening behind_count (λ p. length p.exclusions) (λ p q. refl) (λ p q. tt) (λ k own. (record { exclusions = replicate k some_exclusion; shown = [] }, (tt, refl), length-replicate k some_exclusion))

pub on_2 : (text old new : List ℕ) (o : Unit {0}) (k : ℕ) → Along (Known1 o) behind_opening text old → Reads {A = ℕ} Any (only exclusions_part) old new (Ok k) → Along (Known2 o k) behind_count text new
on_2 text old new o k w read = on Any parts_of_proof (By (Known1 o) behind_opening) Any (only exclusions_part) (λ (k : ℕ). By (Known2 o k) behind_count) text old new k w (next_2 o) (decides_line exclusions_part one_exclusions) read

pub off_2 : (text old new : List ℕ) (o : Unit {0}) (fault : LineFault) → Along (Known1 o) behind_opening text old → Reads {A = ℕ} Any (only exclusions_part) old new (Err fault) → Reads {A = Proof} Any parts_of_proof text new (Err fault)
off_2 text old new o fault w read = off Any parts_of_proof (By (Known1 o) behind_opening) Any (only exclusions_part) (λ (k : ℕ). By (Known2 o k) behind_count) text old new fault w (next_2 o) read

next_3 : (o : Unit {0}) (k : ℕ) → Follows {A = Proof} {B = List Exclusion} (HasCount k) (flat_map parts_of_exclusion) (By (Known2 o k) behind_count) (λ (es : List Exclusion). By (Known3 o k es) behind_exclusions)
next_3 o k = follows_by {A = Proof} {B = List Exclusion} (HasCount k) (flat_map parts_of_exclusion) (Known2 o k) behind_count behind_exclusions (λ p. p.exclusions) (λ p q. refl) (λ p q. q.1) (λ es n. (record { exclusions = es; shown = [] }, ((tt, refl), n), refl))

pub on_3 : (text old new : List ℕ) (o : Unit {0}) (k : ℕ) (es : List Exclusion) → Along (Known2 o k) behind_count text old → Reads {A = List Exclusion} (HasCount k) (flat_map parts_of_exclusion) old new (Ok es) → Along (Known3 o k es) behind_exclusions text new
on_3 text old new o k es w read = on Any parts_of_proof (By (Known2 o k) behind_count) (HasCount k) (flat_map parts_of_exclusion) (λ (es : List Exclusion). By (Known3 o k es) behind_exclusions) text old new es w (next_3 o k) (decides_exclusions k) read

pub off_3 : (text old new : List ℕ) (o : Unit {0}) (k : ℕ) (fault : LineFault) → Along (Known2 o k) behind_count text old → Reads {A = List Exclusion} (HasCount k) (flat_map parts_of_exclusion) old new (Err fault) → Reads {A = Proof} Any parts_of_proof text new (Err fault)
off_3 text old new o k fault w read = off Any parts_of_proof (By (Known2 o k) behind_count) (HasCount k) (flat_map parts_of_exclusion) (λ (es : List Exclusion). By (Known3 o k es) behind_exclusions) text old new fault w (next_3 o k) read

next_4 : (o : Unit {0}) (k : ℕ) (es : List Exclusion) (n : HasCount {A = Exclusion} k es) → Follows {A = Proof} {B = ℕ} Any (only entries_part) (By (Known3 o k es) behind_exclusions) (λ (m : ℕ). By (Known4 o k es m) behind_entries)
next_4 o k es n = follows_by {A = Proof} {B = ℕ} Any (only entries_part) (Known3 o k es) behind_exclusions behind_entries (λ p. length p.shown) (λ p q. refl) (λ p q. tt) (λ m own. (record { exclusions = es; shown = replicate m some_shown }, (((tt, refl), n), refl), length-replicate m some_shown))

pub on_4 : (text old new : List ℕ) (o : Unit {0}) (k : ℕ) (es : List Exclusion) (n : HasCount {A = Exclusion} k es) (m : ℕ) → Along (Known3 o k es) behind_exclusions text old → Reads {A = ℕ} Any (only entries_part) old new (Ok m) → Along (Known4 o k es m) behind_entries text new
on_4 text old new o k es n m w read = on Any parts_of_proof (By (Known3 o k es) behind_exclusions) Any (only entries_part) (λ (m : ℕ). By (Known4 o k es m) behind_entries) text old new m w (next_4 o k es n) (decides_line entries_part one_entries) read

pub off_4 : (text old new : List ℕ) (o : Unit {0}) (k : ℕ) (es : List Exclusion) (n : HasCount {A = Exclusion} k es) (fault : LineFault) → Along (Known3 o k es) behind_exclusions text old → Reads {A = ℕ} Any (only entries_part) old new (Err fault) → Reads {A = Proof} Any parts_of_proof text new (Err fault)
off_4 text old new o k es n fault w read = off Any parts_of_proof (By (Known3 o k es) behind_exclusions) Any (only entries_part) (λ (m : ℕ). By (Known4 o k es m) behind_entries) text old new fault w (next_4 o k es n) read

next_5 : (o : Unit {0}) (k : ℕ) (es : List Exclusion) (n : HasCount {A = Exclusion} k es) (m : ℕ) → Follows {A = Proof} {B = List Shown} (HasCount m) (flat_map parts_of_shown) (By (Known4 o k es m) behind_entries) (λ (ss : List Shown). By (Known5 o k es m ss) behind_shown)
next_5 o k es n m = follows_by {A = Proof} {B = List Shown} (HasCount m) (flat_map parts_of_shown) (Known4 o k es m) behind_entries behind_shown (λ p. p.shown) (λ p q. refl) (λ p q. q.1) (λ ss l. (record { exclusions = es; shown = ss }, ((((tt, refl), n), refl), l), refl))

pub on_5 : (text old new : List ℕ) (o : Unit {0}) (k : ℕ) (es : List Exclusion) (n : HasCount {A = Exclusion} k es) (m : ℕ) (ss : List Shown) → Along (Known4 o k es m) behind_entries text old → Reads {A = List Shown} (HasCount m) (flat_map parts_of_shown) old new (Ok ss) → Along (Known5 o k es m ss) behind_shown text new
on_5 text old new o k es n m ss w read = on Any parts_of_proof (By (Known4 o k es m) behind_entries) (HasCount m) (flat_map parts_of_shown) (λ (ss : List Shown). By (Known5 o k es m ss) behind_shown) text old new ss w (next_5 o k es n m) (decides_shown_list m) read

pub off_5 : (text old new : List ℕ) (o : Unit {0}) (k : ℕ) (es : List Exclusion) (n : HasCount {A = Exclusion} k es) (m : ℕ) (fault : LineFault) → Along (Known4 o k es m) behind_entries text old → Reads {A = List Shown} (HasCount m) (flat_map parts_of_shown) old new (Err fault) → Reads {A = Proof} Any parts_of_proof text new (Err fault)
off_5 text old new o k es n m fault w read = off Any parts_of_proof (By (Known4 o k es m) behind_entries) (HasCount m) (flat_map parts_of_shown) (λ (ss : List Shown). By (Known5 o k es m ss) behind_shown) text old new fault w (next_5 o k es n m) read

next_6 : (o : Unit {0}) (k : ℕ) (es : List Exclusion) (n : HasCount {A = Exclusion} k es) (m : ℕ) (ss : List Shown) (l : HasCount {A = Shown} m ss) → Follows {A = Proof} {B = Unit {0}} Any (only end) (By (Known5 o k es m ss) behind_shown) (λ (d : Unit {0}). By (Known6 o k es m ss d) behind_proof)
next_6 o k es n m ss l = follows_by {A = Proof} {B = Unit {0}} Any (only end) (Known5 o k es m ss) behind_shown behind_proof (λ p. tt) (λ p q. refl) (λ p q. tt) (λ d own. (record { exclusions = es; shown = ss }, (((((tt, refl), n), refl), l), refl), refl))

pub on_6 : (text old new : List ℕ) (o : Unit {0}) (k : ℕ) (es : List Exclusion) (n : HasCount {A = Exclusion} k es) (m : ℕ) (ss : List Shown) (l : HasCount {A = Shown} m ss) (d : Unit {0}) → Along (Known5 o k es m ss) behind_shown text old → Reads {A = Unit {0}} Any (only end) old new (Ok d) → Along (Known6 o k es m ss d) behind_proof text new
on_6 text old new o k es n m ss l d w read = on Any parts_of_proof (By (Known5 o k es m ss) behind_shown) Any (only end) (λ (d : Unit {0}). By (Known6 o k es m ss d) behind_proof) text old new d w (next_6 o k es n m ss l) (decides_unit end) read

pub off_6 : (text old new : List ℕ) (o : Unit {0}) (k : ℕ) (es : List Exclusion) (n : HasCount {A = Exclusion} k es) (m : ℕ) (ss : List Shown) (l : HasCount {A = Shown} m ss) (fault : LineFault) → Along (Known5 o k es m ss) behind_shown text old → Reads {A = Unit {0}} Any (only end) old new (Err fault) → Reads {A = Proof} Any parts_of_proof text new (Err fault)
off_6 text old new o k es n m ss l fault w read = off Any parts_of_proof (By (Known5 o k es m ss) behind_shown) Any (only end) (λ (d : Unit {0}). By (Known6 o k es m ss d) behind_proof) text old new fault w (next_6 o k es n m ss l) read

pub start : (text : List ℕ) → Along (Any {A = Proof}) parts_of_proof text text
start text = begin Any parts_of_proof text

pub whole : (text old : List ℕ) (o : Unit {0}) (k : ℕ) (es : List Exclusion) (n : HasCount {A = Exclusion} k es) (m : ℕ) (ss : List Shown) (l : HasCount {A = Shown} m ss) (d : Unit {0}) → Along (Known6 o k es m ss d) behind_proof text old → Reads {A = Proof} Any parts_of_proof text old (Ok (record { exclusions = es; shown = ss }))
whole text old o k es n m ss l d w = done Any parts_of_proof (By (Known6 o k es m ss d) behind_proof) text old (record { exclusions = es; shown = ss }) w (((((((tt, refl), n), refl), l), refl), refl), refl)
