-- A path that is made of a route's pattern has this route.
use Rattle.std.proofs.Common.{◌≡◌, ℕ, List, [], ◌∷◌, ◌++◌, Option, Some, None, refl, sym, ap, ◌∙◌, subst, arith, rules}
use Rattle.std.specs.Prelude.{codes, if◌then◌else◌}
use Rattle.std.specs.Option.{option_map}
use Rattle.std.specs.Str.{IsUtf8}
use Rattle.std.proofs.lemmas.Str.{is_utf8-from_IsUtf8}
use Rattle.matchit.specs.Rows.{RowsOf}
use Rattle.matchit.specs.Router.{RouteOf}
use Rattle.matchit.specs.Route.{scan}
use Rattle.matchit.specs.Seek.{step, seek, first, param_step}
use Rattle.matchit.specs.Level.{IsText}
use Rattle.vmv_routes.specs.declared.route.Route.{Route}
use Rattle.vmv_routes.specs.declared.route.Route.TheVariants.{Projects, Members, Submissions, Withdraw, Accept, Waive, Report, Base, History, Pending}
use Rattle.vmv_routes.specs.Routes.{put, rows, route_of}
use Rattle.vmv_routes.specs.Matching.{IsPart, path_in, path_at, path_with, IsPathOf}
use Rattle.vmv_routes.proofs.Matching.{text_behind}
use Rattle.vmv_routes.proofs.Leading.{steps, some_bytes, part_more}

-- the rows behind the first bytes, behind the owner, and behind the project
unfoldable front_rows : RowsOf (RouteOf Route)
front_rows = steps (codes "/projects/") rows

unfoldable owner_rows : RowsOf (RouteOf Route)
owner_rows = step 47 (step 256 front_rows)

unfoldable project_rows : RowsOf (RouteOf Route)
project_rows = step 47 (step 256 owner_rows)

-- and those behind the word of a submission, and behind its number
unfoldable word_rows : RowsOf (RouteOf Route)
word_rows = steps (codes "submissions/") project_rows

unfoldable number_rows : RowsOf (RouteOf Route)
number_rows = step 47 (step 256 word_rows)

front : (p : List ℕ) → seek 0 rows (codes "/projects/" ++ p) ≡ seek 0 front_rows p
unfolding front_rows rows put scan
front p = some_bytes (codes "/projects/") rows p (search rules)

owner : (part p : List ℕ) → IsText part → IsPart part → seek 0 front_rows (part ++ 47 ∷ p) ≡ seek 0 owner_rows p
unfolding owner_rows front_rows rows put scan
owner part p text is = part_more front_rows part p text is (search rules) (omega arith) refl refl

project : (part p : List ℕ) → IsText part → IsPart part → seek 0 owner_rows (part ++ 47 ∷ p) ≡ seek 0 project_rows p
unfolding project_rows owner_rows front_rows rows put scan
project part p text is = part_more owner_rows part p text is (search rules) (omega arith) refl refl

word : (p : List ℕ) → seek 0 project_rows (codes "submissions/" ++ p) ≡ seek 0 word_rows p
unfolding word_rows project_rows owner_rows front_rows rows put scan
word p = some_bytes (codes "submissions/") project_rows p (search rules)

number : (part p : List ℕ) → IsText part → IsPart part → seek 0 word_rows (part ++ 47 ∷ p) ≡ seek 0 number_rows p
unfolding number_rows word_rows project_rows owner_rows front_rows rows put scan
number part p text is = part_more word_rows part p text is (search rules) (omega arith) refl refl

text_front : (a b : List ℕ) → IsText (a ++ b) → IsText a
text_front [] b h = tt
text_front (x ∷ a) b h = (h.0, text_front a b h.1)

-- up to the project
to_project : (o p w : List ℕ) → IsPart o → IsPart p → IsText (path_in o p (47 ∷ w)) → first rows (path_in o p (47 ∷ w)) ≡ seek 0 project_rows w
to_project o p w io ip text =
    let text1 : IsText (o ++ 47 ∷ (p ++ 47 ∷ w)) = text_behind (codes "/projects/") (o ++ 47 ∷ (p ++ 47 ∷ w)) text in
    let text2 : IsText (47 ∷ (p ++ 47 ∷ w)) = text_behind o (47 ∷ (p ++ 47 ∷ w)) text1 in
    front (o ++ 47 ∷ (p ++ 47 ∷ w))
    ∙ owner o (p ++ 47 ∷ w) (text_front o (47 ∷ (p ++ 47 ∷ w)) text1) io
    ∙ project p w (text_front p (47 ∷ w) text2.1) ip

-- up to the number of a submission
to_number : (o p n w : List ℕ) → IsPart o → IsPart p → IsPart n → IsText (path_at o p n (47 ∷ w)) → first rows (path_at o p n (47 ∷ w)) ≡ seek 0 number_rows w
to_number o p n w io ip is text =
    let rest = codes "submissions/" ++ (n ++ 47 ∷ w) in
    let text1 : IsText (o ++ 47 ∷ (p ++ 47 ∷ rest)) = text_behind (codes "/projects/") (o ++ 47 ∷ (p ++ 47 ∷ rest)) text in
    let text2 : IsText (47 ∷ (p ++ 47 ∷ rest)) = text_behind o (47 ∷ (p ++ 47 ∷ rest)) text1 in
    let text3 : IsText (47 ∷ rest) = text_behind p (47 ∷ rest) text2.1 in
    let text4 : IsText (n ++ 47 ∷ w) = text_behind (codes "/submissions/") (n ++ 47 ∷ w) text3 in
    to_project o p rest io ip text ∙ word (n ++ 47 ∷ w) ∙ number n w (text_front n (47 ∷ w) text4) is

value_in : Option (RouteOf Route) → Option Route
value_in o = option_map (λ found. found.value) o

-- the word behind the project, and the one behind the number
in_project : (route : Route) (o p w : List ℕ) → IsPart o → IsPart p → IsText (path_in o p (47 ∷ w)) → value_in (seek 0 project_rows w) ≡ Some route
    → value_in (first rows (path_in o p (47 ∷ w))) ≡ Some route
in_project route o p w io ip text e = ap value_in (to_project o p w io ip text) ∙ e

at_number : (route : Route) (o p n w : List ℕ) → IsPart o → IsPart p → IsPart n → IsText (path_at o p n (47 ∷ w)) → value_in (seek 0 number_rows w) ≡ Some route
    → value_in (first rows (path_at o p n (47 ∷ w))) ≡ Some route
at_number route o p n w io ip is text e = ap value_in (to_number o p n w io ip is text) ∙ e

bare : value_in (first rows (codes "/projects")) ≡ Some Projects
unfolding value_in rows put scan seek param_step
bare = refl

at_members : value_in (seek 0 project_rows (codes "members")) ≡ Some Members
unfolding value_in project_rows owner_rows front_rows rows put scan seek param_step
at_members = refl

at_submissions : value_in (seek 0 project_rows (codes "submissions")) ≡ Some Submissions
unfolding value_in project_rows owner_rows front_rows rows put scan seek param_step
at_submissions = refl

at_base : value_in (seek 0 project_rows (codes "base")) ≡ Some Base
unfolding value_in project_rows owner_rows front_rows rows put scan seek param_step
at_base = refl

at_history : value_in (seek 0 project_rows (codes "history")) ≡ Some History
unfolding value_in project_rows owner_rows front_rows rows put scan seek param_step
at_history = refl

at_pending : value_in (seek 0 project_rows (codes "pending")) ≡ Some Pending
unfolding value_in project_rows owner_rows front_rows rows put scan seek param_step
at_pending = refl

at_withdraw : value_in (seek 0 number_rows (codes "withdraw")) ≡ Some Withdraw
unfolding value_in number_rows word_rows project_rows owner_rows front_rows rows put scan seek param_step
at_withdraw = refl

at_accept : value_in (seek 0 number_rows (codes "accept")) ≡ Some Accept
unfolding value_in number_rows word_rows project_rows owner_rows front_rows rows put scan seek param_step
at_accept = refl

at_waive : value_in (seek 0 number_rows (codes "waive")) ≡ Some Waive
unfolding value_in number_rows word_rows project_rows owner_rows front_rows rows put scan seek param_step
at_waive = refl

at_report : value_in (seek 0 number_rows (codes "report")) ≡ Some Report
unfolding value_in number_rows word_rows project_rows owner_rows front_rows rows put scan seek param_step
at_report = refl

-- the search has the route
led : (route : Route) (o p n : List ℕ) → IsPart o → IsPart p → IsPart n → IsText (path_with route o p n) → value_in (first rows (path_with route o p n)) ≡ Some route
led Projects o p n io ip is text = bare
led Members o p n io ip is text = in_project Members o p (codes "members") io ip text at_members
led Submissions o p n io ip is text = in_project Submissions o p (codes "submissions") io ip text at_submissions
led Withdraw o p n io ip is text = at_number Withdraw o p n (codes "withdraw") io ip is text at_withdraw
led Accept o p n io ip is text = at_number Accept o p n (codes "accept") io ip is text at_accept
led Waive o p n io ip is text = at_number Waive o p n (codes "waive") io ip is text at_waive
led Report o p n io ip is text = at_number Report o p n (codes "report") io ip is text at_report
led Base o p n io ip is text = in_project Base o p (codes "base") io ip text at_base
led History o p n io ip is text = in_project History o p (codes "history") io ip text at_history
led Pending o p n io ip is text = in_project Pending o p (codes "pending") io ip text at_pending

-- the route of a path that is made of its pattern
pub made : (path : List ℕ) (route : Route) → IsText path → IsUtf8 path → IsPathOf route path → route_of path ≡ Some route
unfolding value_in
made path route text utf8 (o, p, n, io, ip, is, e) =
    let P : List ℕ → Type 0 = λ l. option_map (λ found. found.value) (first rows l) ≡ Some route in
    let found = subst P (sym e) (led route o p n io ip is (subst IsText e text)) in
    ap (λ t. if t then option_map (λ found. found.value) (first rows path) else None) (is_utf8-from_IsUtf8 path utf8) ∙ found
