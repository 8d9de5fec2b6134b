-- No two demands have the same name with the same condition.
use Rattle.std.proofs.Common.{◌≡◌, ℕ, zero, suc, ◌<◌, ℤ, pos, ◌≤ℤ◌, Bool, true, false, not, ◌&&◌, Some, List, [], ◌∷◌, take, filter, slice_get, refl, sym, subst, ◌∙◌, arith, if◌then◌else◌}
use Rattle.std.specs.Bool.{⊤}
use Rattle.std.specs.List.{AllZip}
use Rattle.std.specs.Ordering.{int_eq}
use Rattle.std.proofs.lemmas.Int.{ints}
use Rattle.std.proofs.lemmas.Bool.Decides.{Decides-int_eq}
use Rattle.std.proofs.lemmas.Slice.Eq.{bytes_eq-Decides}
use Rattle.vmv_tree.specs.declared.name.Name.{Name}
use Rattle.vmv_cond.specs.declared.cond.Cond.{Cond}
use Rattle.vmv_snapshot.specs.declared.code.Simple.{Simple}
use Rattle.vmv_snapshot.specs.declared.code.Simple.TheVariants.{Set, Arith, Ask, Assert}
use Rattle.vmv_snapshot.specs.Code.{Stmt, plain, help, branch, loop, Block, [], ◌⨾◌}
use Rattle.vmv_snapshot.specs.View.{code_of}
use Rattle.vmv_snapshot.specs.Resolution.{Resolution}
use Rattle.vmv_back.specs.Firsts.{firsts}
use Rattle.vmv_demands.specs.declared.want.Condition.{Condition}
use Rattle.vmv_demands.specs.declared.want.Condition.TheVariants.{Range, Nonzero}
use Rattle.vmv_demands.specs.declared.lead.Found.{Found}
use Rattle.vmv_demands.specs.declared.demand.Demand.{Demand}
use Rattle.vmv_demands.specs.Wants.{least, greatest}
use Rattle.vmv_demands.specs.Leads.{wanted_by}
use Rattle.vmv_demands.specs.Demands.{same_condition, same_found, IsCondOf, first_wanted, IsDemand, AreDemands}
use Rattle.vmv_demands.proofs.Names.{AsksSimple, Asks, AskAll, HasWord, Named, first_named}

-- a property that every name has
abbrev Any : Name → Type 0
Any x = ⊤

any_simple : (s : Simple) → AsksSimple Any s
any_simple (Set to from) = tt
any_simple (Arith to op left right site) = tt
any_simple (Ask to f args) = tt
any_simple (Assert test site) = tt

mutual
  any_asks : (s : Stmt) → Asks Any s
  any_asks (plain simple) = any_simple simple
  any_asks (help to callee args) = tt
  any_asks (branch test first second) = (any_ask_all first, any_ask_all second)
  any_asks (loop index slot bound most site body) = any_ask_all body

  any_ask_all : (b : Block) → AskAll Any b
  any_ask_all [] = tt
  any_ask_all (s ⨾ rest) = (any_asks s, any_ask_all rest)

-- two conditions that hold the same words are the same
both_ends : (lo hi low high : ℤ) → low ≤ℤ lo → lo ≤ℤ low → hi ≤ℤ high → high ≤ℤ hi → (int_eq lo low && int_eq hi high) ≡ true
both_ends lo hi low high a b c d =
    let lower : lo ≡ low = omega (arith, ints) in
    let upper : hi ≡ high = omega (arith, ints) in
    λ i. (Decides-int_eq lo low).1 lower i && (Decides-int_eq hi high).1 upper i

itself : (x : ℤ) → x ≤ℤ x
itself x = omega (arith, ints)

-- a range isn't the words other than 0
not_nonzero : (lo hi : ℤ) (x : Cond) → IsCondOf (Range lo hi) x → IsCondOf Nonzero x → ⊥
not_nonzero lo hi x f g =
    let low : lo ≤ℤ least = ((f least).0 ((g least).1 (refl, λ e. absurd (cc)))).0 in
    let high : greatest ≤ℤ hi = ((f greatest).0 ((g greatest).1 (refl, λ e. absurd (cc)))).1 in
    let below : lo ≤ℤ pos 0 = omega (arith, ints) in
    let above : pos 0 ≤ℤ hi = omega (arith, ints) in
    ((g (pos 0)).0 ((f (pos 0)).1 (below, above))).1 refl

same_by_words : (c d : Condition) (x : Cond) → HasWord Any c → HasWord Any d → IsCondOf c x → IsCondOf d x → same_condition c d ≡ true
same_by_words (Range lo hi) (Range low high) x h k f g =
    let one = (g lo).0 ((f lo).1 (itself lo, h)) in
    let two = (g hi).0 ((f hi).1 (h, itself hi)) in
    let three = (f low).0 ((g low).1 (itself low, k)) in
    let four = (f high).0 ((g high).1 (k, itself high)) in
    both_ends lo hi low high one.0 three.0 two.1 four.1
same_by_words (Range lo hi) Nonzero x h k f g = absurd (not_nonzero lo hi x f g)
same_by_words Nonzero (Range low high) x h k f g = absurd (not_nonzero low high x g f)
same_by_words Nonzero Nonzero x h k f g = refl

-- none of these is the same as f
abbrev NoneSame : Found → List Found → Type 0
NoneSame f [] = ⊤
NoneSame f (g ∷ found) = (same_found f g ≡ false) × NoneSame f found

abbrev AreApart : List Found → Type 0
AreApart [] = ⊤
AreApart (f ∷ found) = NoneSame f found × AreApart found

none_filtered : (f : Found) (p : Found → Bool) (found : List Found) → NoneSame f found → NoneSame f (filter p found)
none_filtered f p [] h = tt
none_filtered f p (g ∷ found) h = by (p g) (none_filtered f p found h.1)
  where
    by : (b : Bool) → NoneSame f (filter p found) → NoneSame f (if b then g ∷ filter p found else filter p found)
    by true rest = (h.0, rest)
    by false rest = rest

others : (f : Found) (found : List Found) → NoneSame f (filter (λ g. not (same_found f g)) found)
others f [] = tt
others f (g ∷ found) = by (same_found f g) refl (others f found)
  where
    by : (b : Bool) → same_found f g ≡ b → NoneSame f (filter (λ g. not (same_found f g)) found) →
        NoneSame f (if not b then g ∷ filter (λ g. not (same_found f g)) found else filter (λ g. not (same_found f g)) found)
    by true e rest = rest
    by false e rest = (e, rest)

apart_filtered : (p : Found → Bool) (found : List Found) → AreApart found → AreApart (filter p found)
apart_filtered p [] h = tt
apart_filtered p (f ∷ found) h = by (p f) (apart_filtered p found h.1)
  where
    by : (b : Bool) → AreApart (filter p found) → AreApart (if b then f ∷ filter p found else filter p found)
    by true rest = (none_filtered f p found h.0, rest)
    by false rest = rest

firsts_apart : (found : List Found) → AreApart (firsts same_found found)
firsts_apart [] = tt
firsts_apart (f ∷ found) = (others f (firsts same_found found), apart_filtered (λ g. not (same_found f g)) (firsts same_found found) (firsts_apart found))

none_taken : (f : Found) (n : ℕ) (found : List Found) → NoneSame f found → NoneSame f (take n found)
none_taken f zero [] h = tt
none_taken f zero (g ∷ found) h = tt
none_taken f (suc n) [] h = tt
none_taken f (suc n) (g ∷ found) h = (h.0, none_taken f n found h.1)

apart_taken : (n : ℕ) (found : List Found) → AreApart found → AreApart (take n found)
apart_taken zero [] h = tt
apart_taken zero (f ∷ found) h = tt
apart_taken (suc n) [] h = tt
apart_taken (suc n) (f ∷ found) h = (none_taken f n found h.0, apart_taken n found h.1)

-- two demands with one name and one condition are of what is the same
same_of : (f g : Found) (a b : Demand) → HasWord Any f.cond → HasWord Any g.cond → IsDemand f a → IsDemand g b → a.name ≡ b.name → a.cond ≡ b.cond → same_found f g ≡ true
same_of f g a b h k l m name cond =
    let names : f.name ≡ g.name = sym l.name ∙ name ∙ m.name in
    let other : IsCondOf g.cond a.cond = subst (λ (x : Cond). IsCondOf g.cond x) (sym cond) m.cond in
    λ i. (bytes_eq-Decides f.name g.name).1 names i && same_by_words f.cond g.cond a.cond h k l.cond other i

none_is : (f : Found) (a b : Demand) (found : List Found) (demands : List Demand) (j : ℕ) → NoneSame f found → Named Any found → AllZip IsDemand found demands → slice_get demands j ≡ Some b →
    HasWord Any f.cond → IsDemand f a → a.name ≡ b.name → a.cond ≡ b.cond → ⊥
none_is f a b [] [] j apart named z e h l name cond = absurd (cc)
none_is f a b [] (d ∷ demands) j apart named z e h l name cond = absurd z
none_is f a b (g ∷ found) [] j apart named z e h l name cond = absurd z
none_is f a b (g ∷ found) (d ∷ demands) zero apart named z e h l name cond =
    let is : d ≡ b = cc in
    let same : same_found f g ≡ true = same_of f g a b h named.0.1 l (subst (IsDemand g) is z.0) name cond in
    let other : same_found f g ≡ false = apart.0 in
    cc
none_is f a b (g ∷ found) (d ∷ demands) (suc j) apart named z e h l name cond = none_is f a b found demands j apart.1 named.1 z.1 e h l name cond

differ_in : (found : List Found) (demands : List Demand) (i j : ℕ) (a b : Demand) → AreApart found → Named Any found → AllZip IsDemand found demands → i < j → slice_get demands i ≡ Some a → slice_get demands j ≡ Some b →
    a.name ≡ b.name → a.cond ≡ b.cond → ⊥
differ_in [] [] i j a b apart named z less e f name cond = absurd (cc)
differ_in [] (d ∷ demands) i j a b apart named z less e f name cond = absurd z
differ_in (g ∷ found) [] i j a b apart named z less e f name cond = absurd z
differ_in (g ∷ found) (d ∷ demands) i zero a b apart named z less e f name cond = absurd (omega arith)
differ_in (g ∷ found) (d ∷ demands) zero (suc j) a b apart named z less e f name cond =
    let is : d ≡ a = cc in
    none_is g a b found demands j apart.0 named.1 z.1 f named.0.1 (subst (IsDemand g) is z.0) name cond
differ_in (g ∷ found) (d ∷ demands) (suc i) (suc j) a b apart named z less e f name cond =
    differ_in found demands i j a b apart.1 named.1 z.1 (omega (arith, less)) e f name cond

pub differ : (s : Resolution) (n i j : ℕ) (demands : List Demand) (one other : Demand) → AreDemands s n demands → i < j → slice_get demands i ≡ Some one → slice_get demands j ≡ Some other →
    one.name ≡ other.name → one.cond ≡ other.cond → ⊥
differ s n i j demands one other h less e f name cond =
    differ_in (first_wanted s n) demands i j one other (apart_taken 32 (firsts same_found (wanted_by s.codes n)) (firsts_apart (wanted_by s.codes n)))
    (first_named Any s n (λ m c at. any_ask_all (code_of c).block)) h less e f name cond
