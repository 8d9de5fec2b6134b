-- A base and a revision have one proof.
use Rattle.std.proofs.Common.{◌≡◌, ℕ, Some, List, [], ◌∷◌, take, refl, sym, subst, ◌∙◌}
use Rattle.std.specs.List.{AllZip}
use Rattle.vmv_tree.specs.declared.ends.NameEnds.{NameEnds}
use Rattle.vmv_tree.specs.declared.tree.Param.{Param}
use Rattle.vmv_tree.specs.Tree.{entry}
use Rattle.vmv_snapshot.specs.Resolution.{Resolution, IsResolution}
use Rattle.vmv_assumption.specs.Whole.{whole}
use Rattle.vmv_assumption.specs.Assumed.{Assumed, cond_of}
use Rattle.vmv_assumption.specs.Change.{IsKept}
use Rattle.vmv_cert.specs.declared.row.Row.{Row}
use Rattle.vmv_cert.specs.Tables.{Box, IsEntry, ranges_of}
use Rattle.vmv_forward.specs.Least.{IsLeastTable}
use Rattle.vmv_need.specs.declared.subject.Scope.{Scope}
use Rattle.vmv_need.specs.declared.cut.Cut.{Cut}
use Rattle.vmv_need.specs.Acts.{IsNecessary}
use Rattle.vmv_need.specs.Rounds.{HasCuts}
use Rattle.vmv_need.proofs.Kept.{kept_once}
use Rattle.vmv_need.proofs.Once.{cut_once, cuts_once}
use Rattle.vmv_need.proofs.Lower.{necessary_once}
use Rattle.vmv_need.proofs.Scopes.{one_scope}
use Rattle.vmv_proof.specs.declared.proof.Exclusion.{Exclusion}
use Rattle.vmv_proof.specs.declared.proof.Shown.{Shown}
use Rattle.vmv_proof.specs.declared.proof.Proof.{Proof}
use Rattle.vmv_proving.specs.Exclusions.{IsCutBy, IsJudgedUnder, IsExclusionOf, AreExclusions}
use Rattle.vmv_proving.specs.Shown.{IsShownOf, AreShown}
use Rattle.vmv_review_proof.specs.Proofs.{IsProofOf}

-- two least tables for the same are one
abbrev pub LeastAreUnique : Type 0
LeastAreUnique = (program : Resolution) (number : ℕ) (box : Box) (ends : List NameEnds) (assumed : Assumed) (rows other : List Row) → IsResolution program → IsLeastTable program number box ends assumed rows → IsLeastTable program number box ends assumed other → rows ≡ other

some_same : {X : Type 0} {x y : X} → Some x ≡ Some y → x ≡ y
some_same e = cc

-- lists whose pairs with one list are determined are one
pub zip_once : {A B : Type 0} (R : A → B → Type 0) (xs : List A) (ys zs : List B) → ((x : A) (y z : B) → R x y → R x z → y ≡ z) → AllZip R xs ys → AllZip R xs zs → ys ≡ zs
zip_once R [] [] [] one h g = refl
zip_once R [] [] (z ∷ zs) one h g = absurd g
zip_once R [] (y ∷ ys) zs one h g = absurd h
zip_once R (x ∷ xs) [] zs one h g = absurd h
zip_once R (x ∷ xs) (y ∷ ys) [] one h g = absurd g
zip_once R (x ∷ xs) (y ∷ ys) (z ∷ zs) one h g =
    let first = one x y z h.0 g.0 in
    let rest = zip_once R xs ys zs one h.1 g.1 in
    λ i. first i ∷ rest i

-- exclusions cut in one way
pub led_once : (cuts : List Cut) (first a b : Assumed) → IsCutBy cuts first a → IsCutBy cuts first b → a ≡ b
led_once [] first a b h g = h ∙ sym g
led_once (cut ∷ cuts) first a b (next, is, h) (next', is', g) =
    let same = cut_once first next next' cut.name cut.piece is is' in
    led_once cuts next' a b (subst (λ (x : Assumed). IsCutBy cuts x a) same h) g

pub judged_once : (cuts : List Cut) (cut : Cut) (a b : Assumed) → IsJudgedUnder cuts cut a → IsJudgedUnder cuts cut b → a ≡ b
judged_once cuts cut a b h g =
    let same = led_once (take cut.under cuts) (λ name. whole) h.frozen g.frozen h.frozen_is g.frozen_is in
    kept_once g.frozen a b cut.name cut.piece (subst (λ (x : Assumed). IsKept x cut.name cut.piece a) same h.kept) g.kept

exclusion_once : LeastAreUnique → (base : Resolution) (ends : List NameEnds) (cuts : List Cut) → IsResolution base → (cut : Cut) (one other : Exclusion) → IsExclusionOf base ends cuts cut one → IsExclusionOf base ends cuts cut other → one ≡ other
exclusion_once law base ends cuts is cut one other a b =
    let entry = some_same (sym a.entry ∙ b.entry) in
    let within = a.within ∙ sym b.within in
    let name = a.name ∙ sym b.name in
    let piece = a.piece ∙ sym b.piece in
    let under = a.under ∙ sym b.under in
    let same = judged_once cuts cut a.assumed b.assumed a.judged b.judged in
    let rows = law base cut.entry.0 cut.within ends b.assumed one.table.rows other.table.rows is (subst (λ (x : Assumed). IsLeastTable base cut.entry.0 cut.within ends x one.table.rows) same a.least) b.least in
    λ i. record { entry = entry i; within = within i; name = name i; piece = piece i; under = under i; table = record { rows = rows i } }

params_once : (program : Resolution) (n : ℕ) (one other : List Param) → IsEntry program n one → IsEntry program n other → one ≡ other
params_once program n one other (name, body, at) (name', body', at') =
    let same : entry name one body ≡ entry name' other body' = some_same (sym at ∙ at') in
    cc

shown_once : LeastAreUnique → (revision : Resolution) (ends : List NameEnds) (needed : Assumed) → IsResolution revision → (n : ℕ) (one other : Shown) → IsShownOf revision ends needed n one → IsShownOf revision ends needed n other → one ≡ other
shown_once law revision ends needed is n one other a b =
    let entry = some_same (sym a.named ∙ b.named) in
    let params = params_once revision n a.params b.params a.entry b.entry in
    let plain = law revision n (ranges_of b.params) ends (λ name. whole) one.plain.rows other.plain.rows is (subst (λ (ps : List Param). IsLeastTable revision n (ranges_of ps) ends (λ name. whole) one.plain.rows) params a.plain) b.plain in
    let given = law revision n (ranges_of b.params) ends needed one.given.rows other.given.rows is (subst (λ (ps : List Param). IsLeastTable revision n (ranges_of ps) ends needed one.given.rows) params a.given) b.given in
    λ i. record { entry = entry i; plain = record { rows = plain i }; given = record { rows = given i } }

pub proof_once : LeastAreUnique → (base revision : Resolution) (one other : Proof) → IsResolution base → IsResolution revision → IsProofOf base revision one → IsProofOf base revision other → one ≡ other
proof_once law base revision one other is is' a b =
    let scopes : a.scope ≡ b.scope = one_scope base a.scope b.scope a.scope_is b.scope_is in
    let has : HasCuts base b.scope (cond_of a.held) a.cuts = subst (λ (s : Scope). HasCuts base s (cond_of a.held) a.cuts) scopes a.conditions.cuts_are in
    let cuts : a.cuts ≡ b.cuts = cuts_once base b.scope (cond_of a.held) (cond_of b.held) a.cuts b.cuts has b.conditions.cuts_are in
    let needed : cond_of a.held ≡ cond_of b.held =
    necessary_once base b.scope (cond_of a.held) (cond_of b.held) (subst (λ (s : Scope). IsNecessary base s (cond_of a.held)) scopes a.conditions.necessary) b.conditions.necessary in
    let told : AreExclusions base b.scope.ends b.cuts one.exclusions =
    subst (λ (cs : List Cut). AreExclusions base b.scope.ends cs one.exclusions) cuts (subst (λ (s : Scope). AreExclusions base s.ends a.cuts one.exclusions) scopes a.exclusions) in
    let exclusions : one.exclusions ≡ other.exclusions = zip_once (IsExclusionOf base b.scope.ends b.cuts) b.cuts one.exclusions other.exclusions (exclusion_once law base b.scope.ends b.cuts is) told b.exclusions in
    let showed : AreShown revision b.scope.ends (cond_of b.held) one.shown =
    subst (λ (x : Assumed). AreShown revision b.scope.ends x one.shown) needed (subst (λ (s : Scope). AreShown revision s.ends (cond_of a.held) one.shown) scopes a.shown) in
    let shown : one.shown ≡ other.shown = zip_once (IsShownOf revision b.scope.ends (cond_of b.held)) _ one.shown other.shown (shown_once law revision b.scope.ends (cond_of b.held) is') showed b.shown in
    λ i. record { exclusions = exclusions i; shown = shown i }
