-- A path that matches a route's pattern is the pattern with parts in place of its names.
use Rattle.std.proofs.Common.{◌≡◌, ℕ, ◌<◌, inl, inr, List, [], ◌∷◌, ◌++◌, Option, Some, None, Bool, true, false, refl, ap, ◌∙◌, subst, arith, rules}
use Rattle.std.specs.Prelude.{codes, if◌then◌else◌}
use Rattle.std.specs.Option.{option_map}
use Rattle.std.specs.Str.{is_utf8}
use Rattle.matchit.specs.Router.{RouteOf}
use Rattle.matchit.specs.Seek.{first}
use Rattle.matchit.specs.Route.{scan}
use Rattle.matchit.specs.Level.{IsText}
use Rattle.vmv_routes.specs.declared.route.Route.{Route}
use Rattle.vmv_routes.specs.declared.route.Route.TheVariants.{Projects, Members, Submissions, Withdraw, Accept, Waive, Report, Base, History, Pending}
use Rattle.vmv_routes.specs.Routes.{put, rows, route_of}
use Rattle.vmv_routes.specs.Matching.{IsPart, path_in, path_at, path_with, IsPathOf}
use Rattle.vmv_routes.proofs.Searching.{Matches, EachRow, in_each, found-sound}

-- the bytes of a pattern stand in the path
past_bytes : (w t path : List ℕ) → IsText w → Matches (w ++ t) path → (rest : List ℕ) × (path ≡ w ++ rest) × Matches t rest
past_bytes [] t path text m = (path, refl, m)
past_bytes (x ∷ w) t path text (inl e) = absurd (let h = text.0 in omega arith)
past_bytes (x ∷ w) t path text (inr (inl (rest, e, m))) =
    let r = past_bytes w t rest text.1 m in
    (r.0, e ∙ ap (λ l. x ∷ l) r.1, r.2)
past_bytes (x ∷ w) t path text (inr (inr (e, m))) = absurd (let h = text.0 in omega arith)

-- a parameter took a part
past_part : (t path : List ℕ) → IsText path → Matches (256 ∷ t) path → (part : List ℕ) × (rest : List ℕ) × IsPart part × (path ≡ part ++ rest) × Matches t rest
past_part t path text (inl e) = absurd (omega arith)
past_part t path text (inr (inl (rest, e, m))) = absurd (let h : 256 < 256 = (subst IsText e text).0 in omega arith)
past_part t path text (inr (inr (e, m))) = m

-- a path that ends with its pattern
past_end : (w path : List ℕ) → IsText w → Matches w path → path ≡ w
past_end [] path text m = m
past_end (x ∷ w) path text (inl e) = absurd (let h = text.0 in omega arith)
past_end (x ∷ w) path text (inr (inl (rest, e, m))) = e ∙ ap (λ l. x ∷ l) (past_end w rest text.1 m)
past_end (x ∷ w) path text (inr (inr (e, m))) = absurd (let h = text.0 in omega arith)

pub text_behind : (a b : List ℕ) → IsText (a ++ b) → IsText b
text_behind [] b h = h
text_behind (x ∷ a) b h = text_behind a b h.1

one_part : IsPart (codes "n")
one_part = (omega arith, refl)

-- a project's path, up to what stands behind the project
in_project : (t path : List ℕ) → IsText path → Matches (codes "/projects/" ++ (256 ∷ 47 ∷ 256 ∷ t)) path
    → (owner : List ℕ) × (project : List ℕ) × (rest : List ℕ) × IsPart owner × IsPart project × IsText rest × (path ≡ path_in owner project rest) × Matches t rest
in_project t path text m =
    let front = past_bytes (codes "/projects/") (256 ∷ 47 ∷ 256 ∷ t) path (search rules) m in
    let text1 : IsText front.0 = text_behind (codes "/projects/") front.0 (subst IsText front.1 text) in
    let owner = past_part (47 ∷ 256 ∷ t) front.0 text1 front.2 in
    let text2 : IsText owner.1 = text_behind owner.0 owner.1 (subst IsText owner.3 text1) in
    let between = past_bytes (47 ∷ []) (256 ∷ t) owner.1 (search rules) owner.4 in
    let text3 : IsText between.0 = text_behind (47 ∷ []) between.0 (subst IsText between.1 text2) in
    let project = past_part t between.0 text3 between.2 in
    let text4 : IsText project.1 = text_behind project.0 project.1 (subst IsText project.3 text3) in
    let whole = front.1 ∙ ap (λ l. codes "/projects/" ++ l) (owner.3 ∙ ap (λ l. owner.0 ++ l) (between.1 ∙ ap (λ l. 47 ∷ l) project.3)) in
    (owner.0, project.0, project.1, owner.2, project.2, text4, whole, project.4)

-- a path that ends behind a word of its project
of_project : (w path : List ℕ) → IsText w → IsText path → Matches (codes "/projects/" ++ (256 ∷ 47 ∷ 256 ∷ w)) path
    → (owner : List ℕ) × (project : List ℕ) × IsPart owner × IsPart project × (path ≡ path_in owner project w)
of_project w path word text m =
    let p = in_project w path text m in
    (p.0, p.1, p.3, p.4, p.6 ∙ ap (path_in p.0 p.1) (past_end w p.2 word p.7))

-- a path that ends behind a word of a submission
of_submission : (w path : List ℕ) → IsText w → IsText path → Matches (codes "/projects/" ++ (256 ∷ 47 ∷ 256 ∷ (codes "/submissions/" ++ (256 ∷ w)))) path
    → (owner : List ℕ) × (project : List ℕ) × (n : List ℕ) × IsPart owner × IsPart project × IsPart n × (path ≡ path_at owner project n w)
of_submission w path word text m =
    let p = in_project (codes "/submissions/" ++ (256 ∷ w)) path text m in
    let front = past_bytes (codes "/submissions/") (256 ∷ w) p.2 (search rules) p.7 in
    let text1 : IsText front.0 = text_behind (codes "/submissions/") front.0 (subst IsText front.1 p.5) in
    let n = past_part w front.0 text1 front.2 in
    let rest = front.1 ∙ ap (λ l. codes "/submissions/" ++ l) (n.3 ∙ ap (λ l. n.0 ++ l) (past_end w n.1 word n.4)) in
    (p.0, p.1, n.0, p.3, p.4, n.2, p.6 ∙ ap (path_in p.0 p.1) rest)

-- the path of a route with a project, and of one with a submission
by_project : (route : Route) (w : List ℕ) → IsText w → ((owner project n : List ℕ) → path_in owner project w ≡ path_with route owner project n)
    → (path : List ℕ) → IsText path → Matches (codes "/projects/" ++ (256 ∷ 47 ∷ 256 ∷ w)) path → IsPathOf route path
by_project route w word same path text m =
    let r = of_project w path word text m in
    (r.0, r.1, codes "n", r.2, r.3, one_part, r.4 ∙ same r.0 r.1 (codes "n"))

by_submission : (route : Route) (w : List ℕ) → IsText w → ((owner project n : List ℕ) → path_at owner project n w ≡ path_with route owner project n)
    → (path : List ℕ) → IsText path → Matches (codes "/projects/" ++ (256 ∷ 47 ∷ 256 ∷ (codes "/submissions/" ++ (256 ∷ w)))) path → IsPathOf route path
by_submission route w word same path text m =
    let r = of_submission w path word text m in
    (r.0, r.1, r.2, r.3, r.4, r.5, r.6 ∙ same r.0 r.1 r.2)

by_none : (path : List ℕ) → IsText path → Matches (codes "/projects") path → IsPathOf Projects path
by_none path text m = (codes "n", codes "n", codes "n", one_part, one_part, one_part, past_end (codes "/projects") path (search rules) m)

-- a path that matches the row's pattern is its route's
abbrev pub LeadsTo : List ℕ → RouteOf Route → Type 0
LeadsTo t found = (path : List ℕ) → IsText path → Matches t path → IsPathOf found.value path

each_row : EachRow LeadsTo rows
unfolding rows put scan
each_row =
    (by_project Base (codes "/base") (search rules) (λ o p n. refl), (by_project History (codes "/history") (search rules) (λ o p n. refl), (by_project Members (codes "/members") (search rules) (λ o p n. refl), (by_project Pending (codes "/pending") (search rules) (λ o p n. refl), (by_submission Accept (codes "/accept") (search rules) (λ o p n. refl), (by_submission Report (codes "/report") (search rules) (λ o p n. refl), (by_submission Waive (codes "/waive") (search rules) (λ o p n. refl), (by_submission Withdraw (codes "/withdraw") (search rules) (λ o p n. refl), (by_project Submissions (codes "/submissions") (search rules) (λ o p n. refl), (by_none, tt))))))))))

-- what a search that has a route has found
searched : (path : List ℕ) (route : Route) (u : Bool) (o : Option (RouteOf Route)) → first rows path ≡ o → (if u then option_map (λ found. found.value) o else None) ≡ Some route
    → (found : RouteOf Route) × (first rows path ≡ Some found) × (found.value ≡ route)
searched path route true None e h = absurd (cc)
searched path route true (Some found) e h = let same : found.value ≡ route = cc in (found, e, same)
searched path route false o e h = absurd (cc)

-- the path of a route
pub matched : (path : List ℕ) (route : Route) → IsText path → route_of path ≡ Some route → IsPathOf route path
matched path route text e =
    let s = searched path route (is_utf8 path) (first rows path) refl e in
    let f = found-sound 0 rows path s.0 s.1 in
    let Q : Route → Type 0 = λ r. IsPathOf r path in
    subst Q s.2 (in_each LeadsTo rows f.0 s.0 each_row f.1 path text f.2)
