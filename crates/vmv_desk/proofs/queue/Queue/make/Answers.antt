-- Each place is put behind the free ones.
use Rattle.std.proofs.Common.{◌≡◌, ◌+◌, ◌++◌, ℕ, suc, List, [], ◌∷◌, ap, sym, ◌∙◌, arith, rules}
use Rattle.std.specs.List.{range_with_len}
use Rattle.vmv_desk.proofs.TwoLists.{unlisted_in, pushed_free, range_apart, range_more}
use Rattle.vmv_desk.proofs.queue.Queue.make.Goals as goal

pub push_back-requires-clause-free : goal.push_back-requires-clause-free
push_back-requires-clause-free c =
    let n = c.loop-place.place in
    unlisted_in c.loop-place.links.lists [] (range_with_len 0 n) n c.loop-place.invariant.lists tt (range_apart 0 n n (omega arith))

pub loop-place-preserved : goal.loop-place-preserved
loop-place-preserved c =
    let n = c.loop-place.place in
    let free : List ℕ → List (List ℕ) = λ l. [] ∷ l ∷ [] in
    let zero_n : 0 + n ≡ n = omega arith in
    let one : suc n ≡ n + 1 = omega arith in
    let more : range_with_len 0 n ++ n ∷ [] ≡ range_with_len 0 (n + 1)
    = ap (λ k. range_with_len 0 n ++ k ∷ []) (sym zero_n) ∙ range_more 0 n ∙ ap (range_with_len 0) one in
    record {
      places = search rules;
      size = search rules;
      lists = pushed_free c.loop-place.links.lists c.push_back.new.self.lists [] (range_with_len 0 n) n c.loop-place.invariant.lists c.push_back.ensures.lists ∙ ap free more;
    }
