-- What is shown of an entry, read part by part.
use Rattle.std.proofs.Common.{ℕ, List, [], ◌∷◌, ◌++◌, refl, sym, ap}
use Rattle.std.specs.Prelude.{Ok, Err}
use Rattle.std.proofs.lemmas.List.{append-nil}
use Rattle.vmv_tree.specs.declared.name.Name.{Name}
use Rattle.vmv_cert.specs.declared.table.Table.{Table}
use Rattle.vmv_proof.specs.declared.proof.Shown.{Shown}
use Rattle.vmv_proof_text.specs.Parts.{Part, plain_part, given_part, parts_of_table, parts_of_shown}
use Rattle.vmv_proof_line.specs.declared.fault.LineFault.{LineFault}
use Rattle.vmv_proof_read.specs.Reading.{Reads, Any, only}
use Rattle.vmv_proof_read.proofs.Along.{Follows, Went, begin, on, off, done}
use Rattle.vmv_proof_read.proofs.Singles.{decides_line}
use Rattle.vmv_proof_read.proofs.Steps.{By, And, follows_by}
use Rattle.vmv_proof_read.proofs.Some.{some_table}
use Rattle.vmv_proof_read.proofs.LineLaws.{one_plain}
use Rattle.vmv_proof_read.proofs.Once.{decides_table, decides_given}

abbrev pub behind_plain : Shown → List Part
behind_plain s = parts_of_table s.plain ++ given_part s.entry ∷ parts_of_table s.given

abbrev pub behind_first : Shown → List Part
behind_first s = given_part s.entry ∷ parts_of_table s.given

abbrev pub behind_given : Shown → List Part
behind_given s = parts_of_table s.given

abbrev pub behind_shown : Shown → List Part
behind_shown s = []

abbrev pub given : Name → Unit {0} → Part
given e u = given_part e

abbrev pub Known1 : Name → Shown → Type 0
Known1 e = And {A = Shown} {B = Name} (Any {A = Shown}) (λ s. s.entry) e

abbrev pub Known2 : Name → Table → Shown → Type 0
Known2 e t = And {A = Shown} {B = Table} (Known1 e) (λ s. s.plain) t

abbrev pub Known3 : Name → Table → (Unit {0}) → Shown → Type 0
Known3 e t v = And {A = Shown} {B = Unit {0}} (Known2 e t) (λ s. tt) v

abbrev pub Known4 : Name → Table → (Unit {0}) → Table → Shown → Type 0
Known4 e t v g = And {A = Shown} {B = Table} (Known3 e t v) (λ s. s.given) g

abbrev pub Along : (Shown → Type 0) → (Shown → List Part) → List ℕ → List ℕ → Type 0
Along Q tail text old = Went {A = Shown} Any parts_of_shown (By Q tail) text old

next_1 : Follows {A = Shown} {B = Name} Any (only plain_part) (By (Any {A = Shown}) parts_of_shown) (λ (e : Name). By (Known1 e) behind_plain)
next_1 = follows_by {A = Shown} {B = Name} Any (only plain_part) (Any {A = Shown}) parts_of_shown behind_plain (λ s. s.entry) (λ s q. refl) (λ s q. tt) (λ e own. (record { entry = e; plain = some_table; given = some_table }, tt, refl))

pub on_1 : (text old new : List ℕ) (e : Name) → Along (Any {A = Shown}) parts_of_shown text old → Reads {A = Name} Any (only plain_part) old new (Ok e) → Along (Known1 e) behind_plain text new
on_1 text old new e w read = on Any parts_of_shown (By (Any {A = Shown}) parts_of_shown) Any (only plain_part) (λ (e : Name). By (Known1 e) behind_plain) text old new e w next_1 (decides_line plain_part one_plain) read

pub off_1 : (text old new : List ℕ) (fault : LineFault) → Along (Any {A = Shown}) parts_of_shown text old → Reads {A = Name} Any (only plain_part) old new (Err fault) → Reads {A = Shown} Any parts_of_shown text new (Err fault)
off_1 text old new fault w read = off Any parts_of_shown (By (Any {A = Shown}) parts_of_shown) Any (only plain_part) (λ (e : Name). By (Known1 e) behind_plain) text old new fault w next_1 read

next_2 : (e : Name) → Follows {A = Shown} {B = Table} Any parts_of_table (By (Known1 e) behind_plain) (λ (t : Table). By (Known2 e t) behind_first)
next_2 e = follows_by {A = Shown} {B = Table} Any parts_of_table (Known1 e) behind_plain behind_first (λ s. s.plain) (λ s q. refl) (λ s q. tt) (λ t own. (record { entry = e; plain = t; given = some_table }, (tt, refl), refl))

pub on_2 : (text old new : List ℕ) (e : Name) (t : Table) → Along (Known1 e) behind_plain text old → Reads {A = Table} Any parts_of_table old new (Ok t) → Along (Known2 e t) behind_first text new
on_2 text old new e t w read = on Any parts_of_shown (By (Known1 e) behind_plain) Any parts_of_table (λ (t : Table). By (Known2 e t) behind_first) text old new t w (next_2 e) decides_table read

pub off_2 : (text old new : List ℕ) (e : Name) (fault : LineFault) → Along (Known1 e) behind_plain text old → Reads {A = Table} Any parts_of_table old new (Err fault) → Reads {A = Shown} Any parts_of_shown text new (Err fault)
off_2 text old new e fault w read = off Any parts_of_shown (By (Known1 e) behind_plain) Any parts_of_table (λ (t : Table). By (Known2 e t) behind_first) text old new fault w (next_2 e) read

next_3 : (e : Name) (t : Table) → Follows {A = Shown} {B = Unit {0}} Any (only (given e)) (By (Known2 e t) behind_first) (λ (v : Unit {0}). By (Known3 e t v) behind_given)
next_3 e t = follows_by {A = Shown} {B = Unit {0}} Any (only (given e)) (Known2 e t) behind_first behind_given (λ s. tt) (λ s q. ap (λ x. given_part x ∷ parts_of_table s.given) q.0.1) (λ s q. tt) (λ v own. (record { entry = e; plain = t; given = some_table }, ((tt, refl), refl), refl))

pub on_3 : (text old new : List ℕ) (e : Name) (t : Table) (v : Unit {0}) → Along (Known2 e t) behind_first text old → Reads {A = Unit {0}} Any (only (given e)) old new (Ok v) → Along (Known3 e t v) behind_given text new
on_3 text old new e t v w read = on Any parts_of_shown (By (Known2 e t) behind_first) Any (only (given e)) (λ (v : Unit {0}). By (Known3 e t v) behind_given) text old new v w (next_3 e t) (decides_given e) read

pub off_3 : (text old new : List ℕ) (e : Name) (t : Table) (fault : LineFault) → Along (Known2 e t) behind_first text old → Reads {A = Unit {0}} Any (only (given e)) old new (Err fault) → Reads {A = Shown} Any parts_of_shown text new (Err fault)
off_3 text old new e t fault w read = off Any parts_of_shown (By (Known2 e t) behind_first) Any (only (given e)) (λ (v : Unit {0}). By (Known3 e t v) behind_given) text old new fault w (next_3 e t) read

next_4 : (e : Name) (t : Table) (v : Unit {0}) → Follows {A = Shown} {B = Table} Any parts_of_table (By (Known3 e t v) behind_given) (λ (g : Table). By (Known4 e t v g) behind_shown)
next_4 e t v = follows_by {A = Shown} {B = Table} Any parts_of_table (Known3 e t v) behind_given behind_shown (λ s. s.given) (λ s q. sym (append-nil (parts_of_table s.given))) (λ s q. tt) (λ g own. (record { entry = e; plain = t; given = g }, (((tt, refl), refl), refl), refl))

pub on_4 : (text old new : List ℕ) (e : Name) (t : Table) (v : Unit {0}) (g : Table) → Along (Known3 e t v) behind_given text old → Reads {A = Table} Any parts_of_table old new (Ok g) → Along (Known4 e t v g) behind_shown text new
on_4 text old new e t v g w read = on Any parts_of_shown (By (Known3 e t v) behind_given) Any parts_of_table (λ (g : Table). By (Known4 e t v g) behind_shown) text old new g w (next_4 e t v) decides_table read

pub off_4 : (text old new : List ℕ) (e : Name) (t : Table) (v : Unit {0}) (fault : LineFault) → Along (Known3 e t v) behind_given text old → Reads {A = Table} Any parts_of_table old new (Err fault) → Reads {A = Shown} Any parts_of_shown text new (Err fault)
off_4 text old new e t v fault w read = off Any parts_of_shown (By (Known3 e t v) behind_given) Any parts_of_table (λ (g : Table). By (Known4 e t v g) behind_shown) text old new fault w (next_4 e t v) read

pub start : (text : List ℕ) → Along (Any {A = Shown}) parts_of_shown text text
start text = begin Any parts_of_shown text

pub whole : (text old : List ℕ) (e : Name) (t : Table) (v : Unit {0}) (g : Table) → Along (Known4 e t v g) behind_shown text old → Reads {A = Shown} Any parts_of_shown text old (Ok (record { entry = e; plain = t; given = g }))
whole text old e t v g w = done Any parts_of_shown (By (Known4 e t v g) behind_shown) text old (record { entry = e; plain = t; given = g }) w (((((tt, refl), refl), refl), refl), refl)
