-- How often the states that are stored can have risen.
use Rattle.std.proofs.Common.{◌≡◌, ℕ, suc, ◌+◌, ◌*◌, ◌≤◌, ℤ, Some, List, [], ◌∷◌, length, slice_get, refl, ap, arith, ◌∙◌}
use Rattle.std.specs.Prelude.{sum_by}
use Rattle.std.specs.List.{All}
use Rattle.vmv_zone.specs.declared.zone.Zone.{Zone}
use Rattle.vmv_zone.specs.Zone.{vars_of}
use Rattle.vmv_snapshot.specs.Resolution.{Resolution}
use Rattle.vmv_pass.specs.Room.{rank, ranks}
use Rattle.vmv_pass.proofs.Ranks.{rank_few}
use Rattle.vmv_forward.specs.Path.{Path}
use Rattle.vmv_forward.specs.Paths.{loops_of}
use Rattle.vmv_forward.specs.Grow.{IsStart}
use Rattle.vmv_forward.specs.Instances.{instances}
use Rattle.vmv_forward.specs.Rounds.{all_ranks, HaveFew}
use Rattle.vmv_forward.proofs.Instancing.{sum_cons}

-- each term is at most so much
sum_most : {X : Type 0} (f g : X → ℕ) (most : ℕ) (xs : List X) → ((n : ℕ) (x : X) → slice_get xs n ≡ Some x → f x ≤ g x * most) → sum_by f xs ≤ sum_by g xs * most
sum_most f g most [] h = omega arith
sum_most f g most (x ∷ xs) h =
    let one = h 0 x refl in
    let rest = sum_most f g most xs (λ n y at. h (suc n) y at) in
    let a = sum_cons f x xs in
    let b = sum_cons g x xs in
    let c : sum_by g (x ∷ xs) * most ≡ g x * most + sum_by g xs * most = ap (λ k. k * most) b ∙ omega arith in
    omega (arith, one, rest, a, c)

keeps_most : (ts : List ℤ) (most : ℕ) (zs : List Zone) → 289 * length ts + 17 ≤ most → All (λ z. vars_of z ≤ 16) zs → ranks ts zs ≤ length zs * most
keeps_most ts most [] h few = omega arith
keeps_most ts most (z ∷ zs) h few =
    let one = rank_few ts z (few 0 z (omega arith)) in
    let rest = keeps_most ts most zs h (λ k d g. few (suc k) d (omega (arith, g))) in
    let a = sum_cons (rank ts) z zs in
    let b : length (z ∷ zs) * most ≡ most + length zs * most = omega arith in
    omega (arith, one, rest, a, b, h)

pub ranks_most : (ts : List ℤ) (paths : List Path) → HaveFew paths → all_ranks ts paths ≤ loops_of paths * (289 * (length ts + 2) + 17)
ranks_most ts paths few =
    let most = 289 * (length ts + 2) + 17 in
    sum_most (λ (p : Path). ranks ts p.keeps) (λ (p : Path). length p.keeps) most paths (λ n p at. keeps_most ts most p.keeps (omega arith) (few n p at))

-- what the steps of all rounds come to
pub cost_of : (program : Resolution) (entry : ℕ) (input : Zone) (ts : List ℤ) (xs ys : List Path) (s s' : ℕ) → IsStart program entry input xs → HaveFew ys → loops_of ys ≡ loops_of xs → s' + all_ranks ts xs ≤ s + all_ranks ts ys →
    s' ≤ s + instances program.codes entry * (289 * (length ts + 2) + 17)
cost_of program entry input ts xs ys s s' start few loops paid =
    let most = 289 * (length ts + 2) + 17 in
    let f : Path → ℕ = λ path. length path.keeps in
    let few' = ranks_most ts ys few in
    let g = start.grown in
    let whole : loops_of xs ≡ loops_of (start.outside ∷ g.more) = ap loops_of g.is in
    let parts = sum_cons f start.outside g.more in
    let none : length start.outside.keeps ≡ 0 = ap length start.is_outside.keeps in
    let more = g.loops in
    let a : loops_of (start.outside ∷ g.more) ≡ sum_by f (start.outside ∷ g.more) = refl in
    let b : loops_of g.more ≡ sum_by f g.more = refl in
    let count : loops_of ys ≡ instances program.codes entry = omega (arith, loops, whole, parts, none, more, a, b) in
    let product : loops_of ys * most ≡ instances program.codes entry * most = ap (λ k. k * most) count in
    omega (arith, few', product, paid)
