use Rattle.std.proofs.Common.{◌≡◌, ℕ, ◌+◌, List, [], ◌∷◌, ◌++◌, map, sym, ap, ◌∙◌, arith, vec_len}
use Rattle.std.specs.List.{range_with_len}
use Rattle.std.proofs.lemmas.List.FromFn.{map-range_with_len_more}
use Rattle.vmv_links.specs.Lists.{Lists}
use Rattle.vmv_links.specs.Nodes.{alone}
use Rattle.vmv_links.proofs.NodesLemmas.{lists_of-alone, AreInside-alone}
use Rattle.vmv_links.proofs.links.Links.make.Goals as goal

pub loop-place-preserved : goal.loop-place-preserved
loop-place-preserved c =
    let place = c.loop-place.place in
    let items : c.push.new.self.items ≡ c.loop-place.nodes.items ++ alone place ∷ [] = c.in_ok-push.ensures.items in
    let len : vec_len c.push.new.self ≡ place + 1 = c.in_ok-push.ensures.len ∙ ap (λ n. n + 1) c.loop-place.invariant.1 in
    (items ∙ ap (λ nodes. nodes ++ alone place ∷ []) c.loop-place.invariant.0 ∙ sym (map-range_with_len_more alone 0 place place (omega arith)), len)

pub invariant_of-result : goal.invariant_of-result
invariant_of-result c =
    let all : c.loop-place.place ≡ c.args.n + c.args.k = omega arith in
    let is : c.loop-place.nodes.items ≡ map alone (range_with_len 0 (c.args.n + c.args.k)) = rw all at c.loop-place.invariant.0 in
    let len : vec_len c.loop-place.nodes ≡ c.args.n + c.args.k = c.loop-place.invariant.1 ∙ all in
    (len, AreInside-alone c.loop-place.nodes.items (c.args.n + c.args.k) is, (lists_of-alone c.loop-place.nodes.items c.args.n c.args.k is).0)

pub returns : goal.returns
returns c =
    let all : c.loop-place.place ≡ c.args.n + c.args.k = omega arith in
    let is : c.loop-place.nodes.items ≡ map alone (range_with_len 0 (c.args.n + c.args.k)) = rw all at c.loop-place.invariant.0 in
    let value : List (List ℕ) → Lists = λ ls. record { size = c.args.n; lists = ls } in
    ap value (lists_of-alone c.loop-place.nodes.items c.args.n c.args.k is).1
