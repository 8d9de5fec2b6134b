-- A row that is read line by line.
use Rattle.std.proofs.Common.{◌≡◌, ℕ, List, [], ◌∷◌, ◌++◌, length, map, replicate, refl, sym, ap}
use Rattle.std.specs.Prelude.{Ok, Err}
use Rattle.std.specs.List.{flat_map}
use Rattle.std.proofs.lemmas.List.{length-replicate}
use Rattle.std.proofs.lemmas.List.Concat.{flat_map_single}
use Rattle.vmv_tree.specs.declared.site.NamedSite.{NamedSite}
use Rattle.vmv_zone.specs.declared.zone.Zone.{Zone}
use Rattle.vmv_cert.specs.declared.row.Reach.{Reach}
use Rattle.vmv_cert.specs.declared.row.Reach.TheVariants.{Bottom}
use Rattle.vmv_cert.specs.declared.row.Row.{Row}
use Rattle.vmv_proof_text.specs.Parts.{Part, input_part, keep_part, result_part, left_part, parts_of_row}
use Rattle.vmv_proof_line.specs.declared.fault.LineFault.{LineFault}
use Rattle.vmv_proof_line.specs.declared.rows.RowHead.{RowHead}
use Rattle.vmv_proof_read.specs.Reading.{Reads, Any, HasCount, only}
use Rattle.vmv_proof_read.proofs.Along.{Follows, Went, begin, on, off, done}
use Rattle.vmv_proof_read.proofs.Singles.{decides_line}
use Rattle.vmv_proof_read.proofs.Steps.{By, And, follows_by}
use Rattle.vmv_proof_read.proofs.Some.{no_point}
use Rattle.vmv_proof_read.proofs.LineLaws.{row, one_row, one_input, one_result, one_left}
use Rattle.vmv_proof_read.proofs.Once.{decides_keeps}

abbrev pub head_of : Row → RowHead
head_of r = record { proc = r.proc; loops = length r.keeps }

abbrev pub behind_head : Row → List Part
behind_head r = input_part r.input ∷ (map keep_part r.keeps ++ result_part r.result ∷ left_part r.unproved ∷ [])

abbrev pub behind_input : Row → List Part
behind_input r = map keep_part r.keeps ++ result_part r.result ∷ left_part r.unproved ∷ []

abbrev pub behind_keeps : Row → List Part
behind_keeps r = result_part r.result ∷ left_part r.unproved ∷ []

abbrev pub behind_result : Row → List Part
behind_result r = left_part r.unproved ∷ []

abbrev pub behind_row : Row → List Part
behind_row r = []

keeps_first : (r : Row) → behind_input r ≡ flat_map (only keep_part) r.keeps ++ behind_keeps r
keeps_first r = ap (λ t. t ++ behind_keeps r) (sym (flat_map_single keep_part r.keeps))

abbrev pub Known1 : RowHead → Row → Type 0
Known1 h = And {A = Row} {B = RowHead} (Any {A = Row}) head_of h

abbrev pub Known2 : RowHead → Zone → Row → Type 0
Known2 h z = And {A = Row} {B = Zone} (Known1 h) (λ r. r.input) z

abbrev pub Known3 : RowHead → Zone → (List Zone) → Row → Type 0
Known3 h z ks = And {A = Row} {B = List Zone} (Known2 h z) (λ r. r.keeps) ks

abbrev pub Known4 : RowHead → Zone → (List Zone) → Reach → Row → Type 0
Known4 h z ks r = And {A = Row} {B = Reach} (Known3 h z ks) (λ x. x.result) r

abbrev pub Known5 : RowHead → Zone → (List Zone) → Reach → (List NamedSite) → Row → Type 0
Known5 h z ks r u = And {A = Row} {B = List NamedSite} (Known4 h z ks r) (λ x. x.unproved) u

abbrev pub Along : (Row → Type 0) → (Row → List Part) → List ℕ → List ℕ → Type 0
Along Q tail text old = Went {A = Row} Any parts_of_row (By Q tail) text old

next_1 : Follows {A = Row} {B = RowHead} Any (only row) (By (Any {A = Row}) parts_of_row) (λ (h : RowHead). By (Known1 h) behind_head)
next_1 = follows_by {A = Row} {B = RowHead} Any (only row) (Any {A = Row}) parts_of_row behind_head head_of (λ r q. refl) (λ r q. tt) (λ h own. (record { proc = h.proc; input = no_point; keeps = replicate h.loops no_point; result = Bottom; unproved = [] }, tt, λ i. record { proc = h.proc; loops = length-replicate h.loops no_point i }))

pub on_1 : (text old new : List ℕ) (h : RowHead) → Along (Any {A = Row}) parts_of_row text old → Reads {A = RowHead} Any (only row) old new (Ok h) → Along (Known1 h) behind_head text new
on_1 text old new h w read = on Any parts_of_row (By (Any {A = Row}) parts_of_row) Any (only row) (λ (h : RowHead). By (Known1 h) behind_head) text old new h w next_1 (decides_line row one_row) read

pub off_1 : (text old new : List ℕ) (fault : LineFault) → Along (Any {A = Row}) parts_of_row text old → Reads {A = RowHead} Any (only row) old new (Err fault) → Reads {A = Row} Any parts_of_row text new (Err fault)
off_1 text old new fault w read = off Any parts_of_row (By (Any {A = Row}) parts_of_row) Any (only row) (λ (h : RowHead). By (Known1 h) behind_head) text old new fault w next_1 read

next_2 : (h : RowHead) → Follows {A = Row} {B = Zone} Any (only input_part) (By (Known1 h) behind_head) (λ (z : Zone). By (Known2 h z) behind_input)
next_2 h = follows_by {A = Row} {B = Zone} Any (only input_part) (Known1 h) behind_head behind_input (λ r. r.input) (λ r q. refl) (λ r q. tt) (λ z own. (record { proc = h.proc; input = z; keeps = replicate h.loops no_point; result = Bottom; unproved = [] }, (tt, λ i. record { proc = h.proc; loops = length-replicate h.loops no_point i }), refl))

pub on_2 : (text old new : List ℕ) (h : RowHead) (z : Zone) → Along (Known1 h) behind_head text old → Reads {A = Zone} Any (only input_part) old new (Ok z) → Along (Known2 h z) behind_input text new
on_2 text old new h z w read = on Any parts_of_row (By (Known1 h) behind_head) Any (only input_part) (λ (z : Zone). By (Known2 h z) behind_input) text old new z w (next_2 h) (decides_line input_part one_input) read

pub off_2 : (text old new : List ℕ) (h : RowHead) (fault : LineFault) → Along (Known1 h) behind_head text old → Reads {A = Zone} Any (only input_part) old new (Err fault) → Reads {A = Row} Any parts_of_row text new (Err fault)
off_2 text old new h fault w read = off Any parts_of_row (By (Known1 h) behind_head) Any (only input_part) (λ (z : Zone). By (Known2 h z) behind_input) text old new fault w (next_2 h) read

next_3 : (h : RowHead) (z : Zone) → Follows {A = Row} {B = List Zone} (HasCount h.loops) (flat_map (only keep_part)) (By (Known2 h z) behind_input) (λ (ks : List Zone). By (Known3 h z ks) behind_keeps)
next_3 h z = follows_by {A = Row} {B = List Zone} (HasCount h.loops) (flat_map (only keep_part)) (Known2 h z) behind_input behind_keeps (λ r. r.keeps) (λ r q. keeps_first r) (λ r q. ap (λ k. k.loops) q.0.1) (λ ks n. (record { proc = h.proc; input = z; keeps = ks; result = Bottom; unproved = [] }, ((tt, λ i. record { proc = h.proc; loops = n i }), refl), refl))

pub on_3 : (text old new : List ℕ) (h : RowHead) (z : Zone) (ks : List Zone) → Along (Known2 h z) behind_input text old → Reads {A = List Zone} (HasCount h.loops) (flat_map (only keep_part)) old new (Ok ks) → Along (Known3 h z ks) behind_keeps text new
on_3 text old new h z ks w read = on Any parts_of_row (By (Known2 h z) behind_input) (HasCount h.loops) (flat_map (only keep_part)) (λ (ks : List Zone). By (Known3 h z ks) behind_keeps) text old new ks w (next_3 h z) (decides_keeps h.loops) read

pub off_3 : (text old new : List ℕ) (h : RowHead) (z : Zone) (fault : LineFault) → Along (Known2 h z) behind_input text old → Reads {A = List Zone} (HasCount h.loops) (flat_map (only keep_part)) old new (Err fault) → Reads {A = Row} Any parts_of_row text new (Err fault)
off_3 text old new h z fault w read = off Any parts_of_row (By (Known2 h z) behind_input) (HasCount h.loops) (flat_map (only keep_part)) (λ (ks : List Zone). By (Known3 h z ks) behind_keeps) text old new fault w (next_3 h z) read

next_4 : (h : RowHead) (z : Zone) (ks : List Zone) (n : HasCount {A = Zone} h.loops ks) → Follows {A = Row} {B = Reach} Any (only result_part) (By (Known3 h z ks) behind_keeps) (λ (r : Reach). By (Known4 h z ks r) behind_result)
next_4 h z ks n = follows_by {A = Row} {B = Reach} Any (only result_part) (Known3 h z ks) behind_keeps behind_result (λ x. x.result) (λ r q. refl) (λ r q. tt) (λ r own. (record { proc = h.proc; input = z; keeps = ks; result = r; unproved = [] }, (((tt, λ i. record { proc = h.proc; loops = n i }), refl), refl), refl))

pub on_4 : (text old new : List ℕ) (h : RowHead) (z : Zone) (ks : List Zone) (n : HasCount {A = Zone} h.loops ks) (r : Reach) → Along (Known3 h z ks) behind_keeps text old → Reads {A = Reach} Any (only result_part) old new (Ok r) → Along (Known4 h z ks r) behind_result text new
on_4 text old new h z ks n r w read = on Any parts_of_row (By (Known3 h z ks) behind_keeps) Any (only result_part) (λ (r : Reach). By (Known4 h z ks r) behind_result) text old new r w (next_4 h z ks n) (decides_line result_part one_result) read

pub off_4 : (text old new : List ℕ) (h : RowHead) (z : Zone) (ks : List Zone) (n : HasCount {A = Zone} h.loops ks) (fault : LineFault) → Along (Known3 h z ks) behind_keeps text old → Reads {A = Reach} Any (only result_part) old new (Err fault) → Reads {A = Row} Any parts_of_row text new (Err fault)
off_4 text old new h z ks n fault w read = off Any parts_of_row (By (Known3 h z ks) behind_keeps) Any (only result_part) (λ (r : Reach). By (Known4 h z ks r) behind_result) text old new fault w (next_4 h z ks n) read

next_5 : (h : RowHead) (z : Zone) (ks : List Zone) (n : HasCount {A = Zone} h.loops ks) (r : Reach) → Follows {A = Row} {B = List NamedSite} Any (only left_part) (By (Known4 h z ks r) behind_result) (λ (u : List NamedSite). By (Known5 h z ks r u) behind_row)
next_5 h z ks n r = follows_by {A = Row} {B = List NamedSite} Any (only left_part) (Known4 h z ks r) behind_result behind_row (λ x. x.unproved) (λ r q. refl) (λ r q. tt) (λ u own. (record { proc = h.proc; input = z; keeps = ks; result = r; unproved = u }, ((((tt, λ i. record { proc = h.proc; loops = n i }), refl), refl), refl), refl))

pub on_5 : (text old new : List ℕ) (h : RowHead) (z : Zone) (ks : List Zone) (n : HasCount {A = Zone} h.loops ks) (r : Reach) (u : List NamedSite) → Along (Known4 h z ks r) behind_result text old → Reads {A = List NamedSite} Any (only left_part) old new (Ok u) → Along (Known5 h z ks r u) behind_row text new
on_5 text old new h z ks n r u w read = on Any parts_of_row (By (Known4 h z ks r) behind_result) Any (only left_part) (λ (u : List NamedSite). By (Known5 h z ks r u) behind_row) text old new u w (next_5 h z ks n r) (decides_line left_part one_left) read

pub off_5 : (text old new : List ℕ) (h : RowHead) (z : Zone) (ks : List Zone) (n : HasCount {A = Zone} h.loops ks) (r : Reach) (fault : LineFault) → Along (Known4 h z ks r) behind_result text old → Reads {A = List NamedSite} Any (only left_part) old new (Err fault) → Reads {A = Row} Any parts_of_row text new (Err fault)
off_5 text old new h z ks n r fault w read = off Any parts_of_row (By (Known4 h z ks r) behind_result) Any (only left_part) (λ (u : List NamedSite). By (Known5 h z ks r u) behind_row) text old new fault w (next_5 h z ks n r) read

pub start : (text : List ℕ) → Along (Any {A = Row}) parts_of_row text text
start text = begin Any parts_of_row text

pub whole : (text old : List ℕ) (h : RowHead) (z : Zone) (ks : List Zone) (n : HasCount {A = Zone} h.loops ks) (r : Reach) (u : List NamedSite) → Along (Known5 h z ks r u) behind_row text old → Reads {A = Row} Any parts_of_row text old (Ok (record { proc = h.proc; input = z; keeps = ks; result = r; unproved = u }))
whole text old h z ks n r u w = done Any parts_of_row (By (Known5 h z ks r u) behind_row) text old (record { proc = h.proc; input = z; keeps = ks; result = r; unproved = u }) w ((((((tt, λ i. record { proc = h.proc; loops = n i }), refl), refl), refl), refl), refl)
