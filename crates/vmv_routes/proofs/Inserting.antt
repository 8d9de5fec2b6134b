-- What a router holds after a route was put into it.
use Rattle.std.proofs.Common.{◌≡◌, ◌+◌, ◌<◌, ◌≤◌, zero, suc, List, [], ◌∷◌, ℕ, Result, Ok, Err, length, drop, get_or, refl, sym, ap, ◌∙◌, arith, add-one}
use Rattle.std.proofs.Math.Seq.{drop-cons}
use Rattle.std.specs.Prelude.{OnOk}
use Rattle.matchit.specs.Rows.{RowsOf}
use Rattle.matchit.specs.Route.{Scan}
use Rattle.matchit.specs.Router.{RouteOf, InsertsRead}
use Rattle.matchit.specs.declared.error.InsertError.{InsertError}
use Rattle.vmv_routes.specs.declared.route.Route.{Route}
use Rattle.vmv_routes.specs.Routes.{put_read, put, inserted}

pub read_put : (read : Result Scan InsertError) (route : Route) (old new : RowsOf (RouteOf Route)) (r : Result (Unit {0}) InsertError)
    → InsertsRead read route old new r → OnOk r (new ≡ put_read read route old)
read_put (Ok s) route old new (Ok u) h = h.1
read_put (Ok s) route old new (Err e) h = tt
read_put (Err f) route old new (Ok u) h = h.0
read_put (Err f) route old new (Err e) h = tt

-- one route more
pub inserted_more : (routes : List Route) (i : ℕ) (d : Route) (router next whole : RowsOf (RouteOf Route)) → i < length routes → next ≡ put (get_or routes i d) router
    → inserted (drop i routes) router ≡ whole → inserted (drop (i + 1) routes) next ≡ whole
inserted_more routes i d router next whole h e rest =
    ap (λ k. inserted (drop k routes) next) (add-one i) ∙ ap (inserted (drop (suc i) routes)) e ∙ sym (ap (λ l. inserted l router) (drop-cons routes i d h)) ∙ rest

none_left : (routes : List Route) (i : ℕ) → length routes ≤ i → drop i routes ≡ []
none_left [] zero h = refl
none_left [] (suc i) h = refl
none_left (r ∷ rs) zero h = absurd (omega arith)
none_left (r ∷ rs) (suc i) h = none_left rs i (omega arith)

-- all of them
pub inserted_all : (routes : List Route) (i : ℕ) (router whole : RowsOf (RouteOf Route)) → length routes ≤ i → inserted (drop i routes) router ≡ whole → router ≡ whole
inserted_all routes i router whole h rest = sym (ap (λ l. inserted l router) (none_left routes i h)) ∙ rest
