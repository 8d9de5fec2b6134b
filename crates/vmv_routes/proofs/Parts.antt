-- The parts of a path that are read are those in it, and what stands behind a question mark decides nothing.
use Rattle.std.proofs.Common.{◌≡◌, ℕ, ◌==◌, Bool, true, false, cond, List, [], ◌∷◌, ◌++◌, refl, ap, ◌∙◌}
use Rattle.std.specs.Prelude.{codes, if◌then◌else◌}
use Rattle.matchit.specs.Seek.{has_slash}
use Rattle.vmv_head.specs.declared.refusal.Refusal.TheVariants.{NoRoute}
use Rattle.vmv_routes.specs.Paths.{before, behind, part_of, slash, question_mark}
use Rattle.vmv_routes.specs.Asked.{asked_of, asked_at, or_refused}
use Rattle.vmv_routes.specs.Routes.{route_of}
use Rattle.vmv_routes.specs.Matching.{IsPart, path_in, path_at}

-- what stands in front of a slash and behind it
before_part : (part rest : List ℕ) → has_slash part ≡ false → before 47 (part ++ 47 ∷ rest) ≡ part
before_part [] rest h = refl
before_part (b ∷ part) rest h = by (b == 47) h (before_part part rest)
  where
    by : (v : Bool) → cond v true (has_slash part) ≡ false → (has_slash part ≡ false → before 47 (part ++ 47 ∷ rest) ≡ part)
        → (if v then [] else b ∷ before 47 (part ++ 47 ∷ rest)) ≡ b ∷ part
    by true h ih = absurd (cc)
    by false h ih = ap (λ l. b ∷ l) (ih h)

behind_part : (part rest : List ℕ) → has_slash part ≡ false → behind 47 (part ++ 47 ∷ rest) ≡ rest
behind_part [] rest h = refl
behind_part (b ∷ part) rest h = by (b == 47) h (behind_part part rest)
  where
    by : (v : Bool) → cond v true (has_slash part) ≡ false → (has_slash part ≡ false → behind 47 (part ++ 47 ∷ rest) ≡ rest)
        → (if v then part ++ 47 ∷ rest else behind 47 (part ++ 47 ∷ rest)) ≡ rest
    by true h ih = absurd (cc)
    by false h ih = ih h

pub owner_read : (owner project rest : List ℕ) → IsPart owner → part_of 2 (path_in owner project rest) ≡ owner
owner_read owner project rest is = before_part owner (project ++ rest) is.1

pub project_read : (owner project rest : List ℕ) → IsPart owner → IsPart project → part_of 3 (path_in owner project (slash ∷ rest)) ≡ project
project_read owner project rest io ip =
    ap (before 47) (behind_part owner (project ++ 47 ∷ rest) io.1) ∙ before_part project rest ip.1

pub number_read : (owner project n rest : List ℕ) → IsPart owner → IsPart project → IsPart n → part_of 5 (path_at owner project n (slash ∷ rest)) ≡ n
number_read owner project n rest io ip is =
    let rest5 = n ++ 47 ∷ rest in
    let rest3 = codes "/submissions/" ++ rest5 in
    ap (λ l. before 47 (behind 47 (behind 47 l))) (behind_part owner (project ++ rest3) io.1)
    ∙ ap (λ l. before 47 (behind 47 l)) (behind_part project (codes "submissions/" ++ rest5) ip.1)
    ∙ before_part n rest is.1

-- a path with a question mark behind it
cut_query : (path query : List ℕ) → before 63 (path ++ 63 ∷ query) ≡ before 63 path
cut_query [] query = refl
cut_query (b ∷ path) query = by (b == 63) (cut_query path query)
  where
    by : (v : Bool) → before 63 (path ++ 63 ∷ query) ≡ before 63 path → (if v then [] else b ∷ before 63 (path ++ 63 ∷ query)) ≡ (if v then [] else b ∷ before 63 path)
    by true e = refl
    by false e = ap (λ l. b ∷ l) e

pub query_ignored : (called path query : List ℕ) (members : ℕ) (member body : List ℕ) → asked_of called (path ++ question_mark ∷ query) members member body ≡ asked_of called path members member body
query_ignored called path query members member body =
    ap (λ p. or_refused NoRoute (asked_at called p members member body) (route_of p)) (cut_query path query)
