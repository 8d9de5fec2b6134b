-- The latest root of some versions, and what those behind it were judged against.
use Rattle.std.proofs.Common.{◌≡◌, ◌==◌, ◌≤◌, ◌<◌, ◌+◌, inl, inr, ◌||◌, ℕ, Bool, true, false, cond, List, [], ◌∷◌, ◌++◌, map, length, find, Option, Some, IsSomeAnd, arith, refl, ap, sym, ◌∙◌, subst}
use Rattle.std.specs.Option.{option_map}
use Rattle.std.specs.List.{AllByRecursion, list_any}
use borrow.Author.Tests.{eq-eqb, ne_eqb}
use Rattle.vmv_keeper.specs.declared.project.Version.{Version}
use Rattle.vmv_keeper.specs.declared.reply.VersionRow.{VersionRow}
use Rattle.vmv_keeper.specs.Formed.{IsLater, AreLater, AreNumbered, BeginOpened}
use Rattle.vmv_keeper.specs.Tables.{is_root, root_after, is_version}
use Rattle.vmv_desk_rules.specs.Causes.{from_root, first_text}
use Rattle.vmv_desk_rules.specs.Well.{IsAgainst, AreAgainst}

abbrev pub rows_of : List Version → List VersionRow
rows_of vs = map (λ (v : Version). v.row) vs

abbrev pub has_root : List Version → Bool
has_root vs = list_any (λ v. is_root v.row) vs

-- the text of the version of this number
abbrev pub text_at : ℕ → List Version → Option (List ℕ)
text_at n vs = option_map (λ (v : Version). v.text) (find (is_version n) vs)

neither : (a b : Bool) → (a || b) ≡ false → (a ≡ false) × (b ≡ false)
neither true b e = absurd (cc e)
neither false b e = (refl, e)

-- the number of the latest root

stays_step : (root : ℕ) (row : VersionRow) (rest : List VersionRow) (b : Bool) → b ≡ false → root_after root rest ≡ root → root_after (cond b row.number root) rest ≡ root
stays_step root row rest true e h = absurd (cc e)
stays_step root row rest false e h = h

-- it stays where no version is a root
pub root_stays : (root : ℕ) (vs : List Version) → has_root vs ≡ false → root_after root (rows_of vs) ≡ root
root_stays root [] e = refl
root_stays root (v ∷ rest) e =
    let both = neither (is_root v.row) (has_root rest) e in stays_step root v.row (rows_of rest) (is_root v.row) both.0 (root_stays root rest both.1)

from_step : (n d : ℕ) (v : Version) (rest : List Version) (c b : Bool) → has_root rest ≡ b → v.row.number ≡ n → (c || b) ≡ true
    → ((k : ℕ) → b ≡ true → n + 1 ≤ root_after k (rows_of rest)) → n ≤ root_after (cond c v.row.number d) (rows_of rest)
from_step n d v rest c true any at e later = let h = later (cond c v.row.number d) refl in omega (arith, h)
from_step n d v rest true false any at e later = let h = root_stays v.row.number rest any in omega (arith, h, at)
from_step n d v rest false false any at e later = absurd (cc e)

-- it isn't below the first number
pub root_from : (n d : ℕ) (vs : List Version) → AreNumbered n (rows_of vs) → has_root vs ≡ true → n ≤ root_after d (rows_of vs)
root_from n d [] numbered e = absurd (cc e)
root_from n d (v ∷ rest) numbered e =
    from_step n d v rest (is_root v.row) (has_root rest) refl numbered.0 e (λ k any. root_from (n + 1) k rest numbered.1 any)

pub below_step : (n d number : ℕ) (b : Bool) → number ≡ n → d < n → cond b number d < n + 1
below_step n d number true at h = omega (arith, at)
below_step n d number false at h = omega (arith, h)

-- it isn't above the last number
pub root_below : (n d : ℕ) (vs : List Version) → AreNumbered n (rows_of vs) → d < n → root_after d (rows_of vs) < n + length vs
root_below n d [] numbered h = omega (arith, h)
root_below n d (v ∷ rest) numbered h =
    let less = root_below (n + 1) (cond (is_root v.row) v.row.number d) rest numbered.1 (below_step n d v.row.number (is_root v.row) numbered.0 h) in omega (arith, less)

-- the text of the latest root

pub here_step : (v : Version) (found : Option Version) (b : Bool) → b ≡ true → option_map (λ (x : Version). x.text) (cond b (Some v) found) ≡ Some v.text
here_step v found true e = refl
here_step v found false e = absurd (cc e)

pub later_step : (v : Version) (found : Option Version) (b : Bool) → b ≡ false → option_map (λ (x : Version). x.text) (cond b (Some v) found) ≡ option_map (λ (x : Version). x.text) found
later_step v found true e = absurd (cc e)
later_step v found false e = refl

text_step : (n d : ℕ) (v : Version) (rest : List Version) (c b : Bool) → has_root rest ≡ b → v.row.number ≡ n → (c || b) ≡ true → AreNumbered (n + 1) (rows_of rest)
    → ((k : ℕ) → b ≡ true → text_at (root_after k (rows_of rest)) rest ≡ Some (first_text (from_root rest)))
    → text_at (root_after (cond c v.row.number d) (rows_of rest)) (v ∷ rest) ≡ Some (first_text (cond b (from_root rest) (v ∷ rest)))
text_step n d v rest c true any at e numbered later =
    let k = cond c v.row.number d in
    let root = root_after k (rows_of rest) in
    let above = root_from (n + 1) k rest numbered any in
    later_step v (find (is_version root) rest) (v.row.number == root) (ne_eqb v.row.number root (λ same. absurd (omega (arith, same, at, above)))) ∙ later k refl
text_step n d v rest true false any at e numbered later =
    let root = root_after v.row.number (rows_of rest) in
    here_step v (find (is_version root) rest) (v.row.number == root) (eq-eqb v.row.number root (sym (root_stays v.row.number rest any)))
text_step n d v rest false false any at e numbered later = absurd (cc e)

-- the version of the latest root's number has the root's text
pub root_text_at : (n d : ℕ) (vs : List Version) → AreNumbered n (rows_of vs) → has_root vs ≡ true
    → text_at (root_after d (rows_of vs)) vs ≡ Some (first_text (from_root vs))
root_text_at n d [] numbered e = absurd (cc e)
root_text_at n d (v ∷ rest) numbered e =
    text_step n d v rest (is_root v.row) (has_root rest) refl numbered.0 e numbered.1 (λ k any. root_text_at (n + 1) k rest numbered.1 any)

opened_root : (row : VersionRow) (rest : Bool) → row.kind ≡ 1 → (is_root row || rest) ≡ true
opened_root row rest opened = ap (λ b. (b || row.kind == 3) || rest) (eq-eqb row.kind 1 opened)

-- versions that begin with an opened one have a root
pub begun_root : (vs : List Version) → BeginOpened (rows_of vs) → has_root vs ≡ true
begun_root [] opened = absurd opened
begun_root (v ∷ rest) opened = opened_root v.row (has_root rest) opened

-- a version that is found by its number is found with one more version behind

found_step : (v : Version) (found more : Option Version) (P : List ℕ → Type 0) (b : Bool) → (IsSomeAnd (option_map (λ (x : Version). x.text) found) P → IsSomeAnd (option_map (λ (x : Version). x.text) more) P)
    → IsSomeAnd (option_map (λ (x : Version). x.text) (cond b (Some v) found)) P → IsSomeAnd (option_map (λ (x : Version). x.text) (cond b (Some v) more)) P
found_step v found more P true later h = h
found_step v found more P false later h = later h

pub text_more : (n : ℕ) (vs : List Version) (v : Version) (P : List ℕ → Type 0) → IsSomeAnd (text_at n vs) P → IsSomeAnd (text_at n (vs ++ v ∷ [])) P
text_more n [] v P h = absurd h
text_more n (w ∷ rest) v P h = found_step w (find (is_version n) rest) (find (is_version n) (rest ++ v ∷ [])) P (w.row.number == n) (text_more n rest v P) h

-- what versions were judged against

pub AreAgainst-push : (root : ℕ) (vs : List Version) (v : Version) → AreAgainst root (rows_of vs) → IsAgainst (root_after root (rows_of vs)) v.row → AreAgainst root (rows_of (vs ++ v ∷ []))
AreAgainst-push root [] v all h = (h, tt)
AreAgainst-push root (w ∷ rest) v all h = (all.0, AreAgainst-push (cond (is_root w.row) w.row.number root) rest v all.1 h)

-- a version that is no root was accepted
abbrev pub IsStraight : Version → Type 0
IsStraight v = is_root v.row ≡ false → v.row.kind ≡ 2

or_right : (a b : Bool) → b ≡ true → (a || b) ≡ false → ⊥
or_right true b e h = cc
or_right false b e h = cc

accepted_kind : (v : Version) → IsLater v.row → IsStraight v
accepted_kind v (inl two) e = two
accepted_kind v (inr three) e = let is : (v.row.kind == 3) ≡ true = eq-eqb v.row.kind 3 three in absurd (or_right (v.row.kind == 1) (v.row.kind == 3) is e)

later_straight : (vs : List Version) → AllByRecursion IsLater (rows_of vs) → AllByRecursion IsStraight vs
later_straight [] h = tt
later_straight (v ∷ vs) h = (accepted_kind v h.0, later_straight vs h.1)

opened_straight : (v : Version) → v.row.kind ≡ 1 → IsStraight v
opened_straight v opened e = let both = neither (v.row.kind == 1) (v.row.kind == 3) e in let is = eq-eqb v.row.kind 1 opened in absurd (cc (sym is ∙ both.0))

pub all_straight : (vs : List Version) → BeginOpened (rows_of vs) → AreLater (rows_of vs) → AllByRecursion IsStraight vs
all_straight [] opened later = absurd opened
all_straight (v ∷ rest) opened later = (opened_straight v opened, later_straight rest later)

-- the root of a chain, of this number and text, and the versions behind it
abbrev pub IsBehind : ℕ → List ℕ → Version → Type 0
IsBehind root text v = (root ≡ v.row.number → v.text ≡ text) × (root < v.row.number → (v.row.kind ≡ 2) × (root ≤ v.row.against) × (v.row.against < v.row.number))

judged_of : (root : ℕ) (row : VersionRow) → row.kind ≡ 2 → IsAgainst root row → (row.kind ≡ 2) × (root ≤ row.against) × (row.against < row.number)
judged_of root row kind (inl judged) = judged
judged_of root row kind (inr none) = absurd (none.0 kind)

against_stays : (root number : ℕ) (rest : List VersionRow) (b : Bool) → b ≡ false → AreAgainst (cond b number root) rest → AreAgainst root rest
against_stays root number rest true e h = absurd (cc e)
against_stays root number rest false e h = h

straight_behind : (n root : ℕ) (text : List ℕ) (vs : List Version) → root < n → AreNumbered n (rows_of vs) → has_root vs ≡ false → AllByRecursion IsStraight vs → AreAgainst root (rows_of vs)
    → AllByRecursion (IsBehind root text) vs
straight_behind n root text [] low numbered none straight against = tt
straight_behind n root text (v ∷ rest) low numbered none straight against =
    let at = numbered.0 in
    let both = neither (is_root v.row) (has_root rest) none in (
      ((λ same. absurd (omega (arith, same, at, low))), (λ less. judged_of root v.row (straight.0 both.0) against.0)),
      straight_behind (n + 1) root text rest (omega (arith, low)) numbered.1 both.1 straight.1 (against_stays root v.row.number (rows_of rest) (is_root v.row) both.0 against.1),
    )

behind_step : (n d : ℕ) (v : Version) (rest : List Version) (c b : Bool) → has_root rest ≡ b → v.row.number ≡ n → (c || b) ≡ true → AreNumbered (n + 1) (rows_of rest)
    → AllByRecursion IsStraight rest → AreAgainst (cond c v.row.number d) (rows_of rest)
    → ((k : ℕ) → b ≡ true → AreAgainst k (rows_of rest) → AllByRecursion (IsBehind (root_after k (rows_of rest)) (first_text (from_root rest))) rest)
    → AllByRecursion (IsBehind (root_after (cond c v.row.number d) (rows_of rest)) (first_text (cond b (from_root rest) (v ∷ rest)))) (v ∷ rest)
behind_step n d v rest c true any at e numbered straight against later =
    let k = cond c v.row.number d in
    let above = root_from (n + 1) k rest numbered any in
    (((λ same. absurd (omega (arith, same, at, above))), (λ less. absurd (omega (arith, less, at, above)))), later k refl against)
behind_step n d v rest true false any at e numbered straight against later =
    let stays = root_stays v.row.number rest any in
    let P : ℕ → Type 0 = λ root. AllByRecursion (IsBehind root v.text) rest in (
      ((λ same. refl), (λ less. absurd (omega (arith, less, stays)))),
      subst P (sym stays) (straight_behind (n + 1) v.row.number v.text rest (omega (arith, at)) numbered any straight against),
    )
behind_step n d v rest false false any at e numbered straight against later = absurd (cc e)

-- the version of the root's number has the root's text, and those behind it were judged against one of the chain
pub all_behind : (n d : ℕ) (vs : List Version) → AreNumbered n (rows_of vs) → has_root vs ≡ true → AllByRecursion IsStraight vs → AreAgainst d (rows_of vs)
    → AllByRecursion (IsBehind (root_after d (rows_of vs)) (first_text (from_root vs))) vs
all_behind n d [] numbered e straight against = tt
all_behind n d (v ∷ rest) numbered e straight against =
    behind_step n d v rest (is_root v.row) (has_root rest) refl numbered.0 e numbered.1 straight.1 against.1
    (λ k any kept. all_behind (n + 1) k rest numbered.1 any straight.1 kept)

-- the chain's versions

pub numbers_from : (low n : ℕ) (vs : List Version) → low ≤ n → AreNumbered n (rows_of vs) → AllByRecursion (λ v. low ≤ v.row.number) vs
numbers_from low n [] le numbered = tt
numbers_from low n (v ∷ rest) le numbered = let at = numbered.0 in (omega (arith, at, le), numbers_from low (n + 1) rest (omega (arith, le)) numbered.1)

pub numbers_below : (high n : ℕ) (vs : List Version) → n + length vs ≤ high → AreNumbered n (rows_of vs) → AllByRecursion (λ v. v.row.number < high) vs
numbers_below high n [] le numbered = tt
numbers_below high n (v ∷ rest) le numbered = let at = numbered.0 in (omega (arith, at, le), numbers_below high (n + 1) rest (omega (arith, le)) numbered.1)

chain_step : (n d : ℕ) (v : Version) (rest : List Version) (c b : Bool) → has_root rest ≡ b → v.row.number ≡ n → (c || b) ≡ true → AreNumbered (n + 1) (rows_of rest)
    → ((k : ℕ) → b ≡ true → AllByRecursion (λ w. root_after k (rows_of rest) ≤ w.row.number) (from_root rest))
    → AllByRecursion (λ w. root_after (cond c v.row.number d) (rows_of rest) ≤ w.row.number) (cond b (from_root rest) (v ∷ rest))
chain_step n d v rest c true any at e numbered later = later (cond c v.row.number d) refl
chain_step n d v rest true false any at e numbered later =
    let stays = root_stays v.row.number rest any in
    (omega (arith, stays), numbers_from (root_after v.row.number (rows_of rest)) (n + 1) rest (omega (arith, stays, at)) numbered)
chain_step n d v rest false false any at e numbered later = absurd (cc e)

-- none of the chain has a number below the root's
pub chain_numbers : (n d : ℕ) (vs : List Version) → AreNumbered n (rows_of vs) → has_root vs ≡ true → AllByRecursion (λ v. root_after d (rows_of vs) ≤ v.row.number) (from_root vs)
chain_numbers n d [] numbered e = tt
chain_numbers n d (v ∷ rest) numbered e =
    chain_step n d v rest (is_root v.row) (has_root rest) refl numbered.0 e numbered.1 (λ k any. chain_numbers (n + 1) k rest numbered.1 any)

all_chain_step : (P : Version → Type 0) (v : Version) (rest : List Version) (b : Bool) → AllByRecursion P (v ∷ rest) → AllByRecursion P (from_root rest)
    → AllByRecursion P (cond b (from_root rest) (v ∷ rest))
all_chain_step P v rest true all later = later
all_chain_step P v rest false all later = all

-- what holds of each version holds of those of the chain
pub all_chain : (P : Version → Type 0) (vs : List Version) → AllByRecursion P vs → AllByRecursion P (from_root vs)
all_chain P [] all = tt
all_chain P (v ∷ rest) all = all_chain_step P v rest (has_root rest) all (all_chain P rest all.1)

-- what holds of each in two ways
pub all_both : {X : Type 0} (P Q : X → Type 0) (xs : List X) → AllByRecursion P xs → AllByRecursion Q xs → AllByRecursion (λ x. P x × Q x) xs
all_both P Q [] p q = tt
all_both P Q (x ∷ xs) p q = ((p.0, q.0), all_both P Q xs p.1 q.1)
