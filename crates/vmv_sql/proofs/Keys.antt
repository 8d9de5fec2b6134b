-- Projects that stand in order are distinct.
use Rattle.std.proofs.Common.{◌≡◌, ℕ, ◌+◌, ◌≤◌, Bool, true, false, cond, List, [], ◌∷◌, ◌++◌, length, count_by, ◌&&◌, Option, Some, None, IfSome, sym, ap, subst, ◌∙◌, ◌<◌, arith, refl, zero-add}
use Rattle.std.specs.Prelude.{MatchOption}
use Rattle.std.specs.List.{AllByRecursion}
use Rattle.std.specs.Cmp.{IsTotalOrder}
use Rattle.std.specs.Cmp.Lexicographic.{slice_cmp, same_text}
use Rattle.std.specs.declared.cmp.Ordering.{Ordering}
use Rattle.std.specs.declared.cmp.Ordering.TheVariants.{Less, Equal, Greater}
use Rattle.std.specs.Ordering.{nat_cmp, is_gt}
use Rattle.std.proofs.lemmas.Cmp.{nat_list_cmp_total, on_total, then_total, tied_itself}
use Rattle.vmv_keeper.specs.declared.project.Bench.{Bench}
use Rattle.vmv_keeper.specs.Formed.{IsBench, is_bench_of, AreBenches}
use Rattle.vmv_keeper.specs.Tables.{is_same}
use Rattle.vmv_keeper.proofs.ListChanges.{All-push, count_by-push_few}
use Rattle.vmv_keeper.proofs.FormedReads.{and-true_both, count_by-cons}
use Rattle.vmv_sql.specs.Order.{key_cmp}
use Rattle.vmv_sql.specs.declared.benches.Key.{Key}

key_total : IsTotalOrder key_cmp
key_total = then_total (on_total (λ (k : List ℕ × List ℕ). k.0) nat_list_cmp_total) (on_total (λ (k : List ℕ × List ℕ). k.1) nat_list_cmp_total)

abbrev pub key_of : Bench → List ℕ × List ℕ
key_of bench = (bench.owner, bench.name)

abbrev pub named : Key → List ℕ × List ℕ
named key = (key.owner, key.name)

-- benches none of which stands behind this key
abbrev pub UpTo : List ℕ × List ℕ → List Bench → Type 0
UpTo key benches = AllByRecursion (λ bench. is_gt (key_cmp (key_of bench) key) ≡ false) benches

-- benches in order so far, of which this is the last key
abbrev pub EndWith : Option Key → List Bench → Type 0
EndWith None benches = benches ≡ []
EndWith (Some key) benches = UpTo (named key) benches

-- no two for one owner and name
abbrev pub AreDistinct : List Bench → Type 0
AreDistinct benches = (owner name : List ℕ) → count_by (is_bench_of owner name) benches ≤ 1

-- what isn't behind a key stands before a later one
before_next : (a b c : List ℕ × List ℕ) (o : Ordering) → key_cmp a b ≡ o → is_gt o ≡ false → key_cmp b c ≡ Less → key_cmp a c ≡ Less
before_next a b c Less e h lt = key_total.trans a b c e lt
before_next a b c Equal e h lt = key_total.congr a b c e ∙ lt
before_next a b c Greater e h lt = absurd cc

abbrev AreBefore : List ℕ × List ℕ → List Bench → Type 0
AreBefore key benches = AllByRecursion (λ bench. key_cmp (key_of bench) key ≡ Less) benches

are_before : (benches : List Bench) (last key : List ℕ × List ℕ) → UpTo last benches → key_cmp last key ≡ Less → AreBefore key benches
are_before [] last key upto lt = tt
are_before (b ∷ benches) last key upto lt = (before_next (key_of b) last key _ refl upto.0 lt, are_before benches last key upto.1 lt)

before_first : (benches : List Bench) (key : List ℕ × List ℕ) → benches ≡ [] → AreBefore key benches
before_first [] key e = tt
before_first (b ∷ benches) key e = absurd cc

all_before : (last : Option Key) (benches : List Bench) (key : List ℕ × List ℕ) → EndWith last benches → IfSome last (λ before. key_cmp (named before) key ≡ Less) → AreBefore key benches
all_before None benches key end lt = before_first benches key end
all_before (Some last) benches key end lt = are_before benches (named last) key end lt

not_behind : (benches : List Bench) (key : List ℕ × List ℕ) → AreBefore key benches → UpTo key benches
not_behind [] key before = tt
not_behind (b ∷ benches) key before = (ap is_gt before.0, not_behind benches key before.1)

-- a bench that stands before a key isn't the one of this key
other : (bench : Bench) (owner name : List ℕ) (b : Bool) → is_bench_of owner name bench ≡ b → key_cmp (key_of bench) (owner, name) ≡ Less → b ≡ false
other bench owner name false e lt = refl
other bench owner name true e lt =
    let both = and-true_both (is_same bench.owner owner) (is_same bench.name name) e in
    let o : bench.owner ≡ owner = same_text bench.owner owner (sym both.0) in
    let n : bench.name ≡ name = same_text bench.name name (sym both.1) in
    let k : key_cmp (owner, name) (owner, name) ≡ Less = subst (λ (x : List ℕ). key_cmp (owner, x) (owner, name) ≡ Less) n (subst (λ (x : List ℕ). key_cmp (x, bench.name) (owner, name) ≡ Less) o lt) in
    absurd (let t = tied_itself key_total (owner, name) in cc)

none_of : (benches : List Bench) (owner name : List ℕ) → AreBefore (owner, name) benches → count_by (is_bench_of owner name) benches ≡ 0
none_of [] owner name before = refl
none_of (b ∷ benches) owner name before =
    count_by-cons (is_bench_of owner name) b benches ∙ rw (other b owner name _ refl before.0, none_of benches owner name before.1) refl

-- one more bench, which stands behind the others
pub distinct_push : (last : Option Key) (benches : List Bench) (bench : Bench) (key : Key) → EndWith last benches → IfSome last (λ before. key_cmp (named before) (named key) ≡ Less)
    → (bench.owner ≡ key.owner) × (bench.name ≡ key.name) → AreDistinct benches → AreDistinct (benches ++ bench ∷ [])
distinct_push last benches bench key end lt is distinct owner name =
    let before = all_before last benches (named key) end lt in
    count_by-push_few (is_bench_of owner name) benches bench 1 (distinct owner name) (λ same.
    let both = and-true_both (is_same bench.owner owner) (is_same bench.name name) same in
    let o : key.owner ≡ owner = sym is.0 ∙ same_text bench.owner owner (sym both.0) in
    let n : key.name ≡ name = sym is.1 ∙ same_text bench.name name (sym both.1) in
    let at : AreBefore (owner, name) benches = subst (λ (x : List ℕ). AreBefore (owner, x) benches) n (subst (λ (x : List ℕ). AreBefore (x, key.name) benches) o before) in
    let none : count_by (is_bench_of owner name) benches ≡ 0 = none_of benches owner name at in omega arith)

pub end_push : (last : Option Key) (benches : List Bench) (bench : Bench) (key : Key) → EndWith last benches → IfSome last (λ before. key_cmp (named before) (named key) ≡ Less)
    → (bench.owner ≡ key.owner) × (bench.name ≡ key.name) → UpTo (named key) (benches ++ bench ∷ [])
end_push last benches bench key end lt is =
    let same : key_cmp (key_of bench) (named key) ≡ Equal = rw (is.0, is.1) (tied_itself key_total (named key)) in
    All-push (λ b. is_gt (key_cmp (key_of b) (named key)) ≡ false) benches bench (not_behind benches (named key) (all_before last benches (named key) end lt)) (ap is_gt same)
