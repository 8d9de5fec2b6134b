use Rattle.std.proofs.Common.{◌≡◌, subst, sym, ◌∙◌, to_z, of_z, w64, rules}
use Rattle.vmv_text.specs.Reading.{Any, Ends, IsSmall}
use Rattle.vmv_text.proofs.Single.{small_ends, small_stops}
use Rattle.vmv_text.proofs.cursor.Cursor.small.Goals as goal

pub returns-in_default : goal.returns-in_default
returns-in_default c = small_stops _ (λ n h. c.in_default.ensures n (c.peek.ensures ∙ h))

pub returns : goal.returns
returns c =
    let word : to_z w64 (of_z w64 c.in-Some.word) ≡ c.in-Some.word = search rules in
    subst (λ z. Ends IsSmall Any z c.args.self.now c.skip.new.self) (sym word)
    (small_ends c.in-Some.word _ _ (c.in-Some.ensures.0, c.in-Some.ensures.1, sym c.peek.ensures ∙ c.in-Some.ensures.2) c.skip.ensures.exact)
