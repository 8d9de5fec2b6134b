-- The route of a path, and the value of a body, where they are UTF-8 and where not.
use Rattle.std.proofs.Common.{◌≡◌, ℕ, Bool, true, false, List, Option, Some, None, refl, sym, ap, ◌∙◌}
use Rattle.std.specs.Prelude.{if◌then◌else◌}
use Rattle.std.specs.Option.{option_map}
use Rattle.std.specs.Str.{IsUtf8, is_utf8}
use Rattle.std.proofs.lemmas.Str.{IsUtf8-from_is_utf8, is_utf8-from_IsUtf8}
use Rattle.matchit.specs.Rows.{RowsOf}
use Rattle.matchit.specs.Router.{RouteOf}
use Rattle.matchit.specs.Seek.{first}
use Rattle.serde_json.specs.Data.{Data}
use Rattle.serde_json.specs.Read.{read}
use Rattle.vmv_routes.specs.declared.route.Route.{Route}
use Rattle.vmv_routes.specs.Routes.{rows, route_of}
use Rattle.vmv_routes.specs.Fields.{value_of}

none_by : {A : Type 0} (bytes : List ℕ) (o : Option A) (t : Bool) → is_utf8 bytes ≡ t → (IsUtf8 bytes → o ≡ None) → None ≡ (if t then o else None)
none_by bytes o true e h = sym (h (IsUtf8-from_is_utf8 bytes e))
none_by bytes o false e h = refl

-- a path that isn't UTF-8
pub no_route : (path : List ℕ) → (IsUtf8 path → ⊥) → None ≡ route_of path
no_route path h = none_by path (option_map (λ found. found.value) (first rows path)) (is_utf8 path) refl (λ u. absurd (h u))

-- a path that is
pub route_found : (path shown : List ℕ) (router : RowsOf (RouteOf Route)) (r : Option Route) → shown ≡ path → IsUtf8 path → router ≡ rows
    → r ≡ option_map (λ found. found.value) (first router shown) → r ≡ route_of path
route_found path shown router r same utf8 whole e =
    let yes = is_utf8-from_IsUtf8 path utf8 in
    e ∙ ap (λ l. option_map (λ found. found.value) (first l shown)) whole ∙ ap (λ p. option_map (λ found. found.value) (first rows p)) same
    ∙ sym (ap (λ t. if t then option_map (λ found. found.value) (first rows path) else None) yes)

-- a body that is UTF-8 and was read, and one that wasn't
pub value_read : (body : List ℕ) (value : Data) → IsUtf8 body → read body ≡ Some value → Some value ≡ value_of body
value_read body value utf8 e =
    let yes = is_utf8-from_IsUtf8 body utf8 in
    sym e ∙ sym (ap (λ t. if t then read body else None) yes)

pub value_unread : (body : List ℕ) → (IsUtf8 body → read body ≡ None) → None ≡ value_of body
value_unread body h = none_by body (read body) (is_utf8 body) refl h
