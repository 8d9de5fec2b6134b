use Rattle.std.proofs.Common.{◌∷◌, [], ◌++◌, ◌^◌, ◌<◌, sym, ◌∙◌, arith, length, length-append, rules}
use Rattle.std.specs.Prelude.{map}
use Rattle.std.specs.Fmt.{decimal}
use Rattle.std.proofs.lemmas.Bool.{iff_false, false≢true, eqb-true, eq-eqb}
use Rattle.vmv_proof_line.specs.SiteWords.{spelled_word, IsSpelled}
use Rattle.vmv_proof_line.proofs.SiteWords.{few_spelled, spelled_clean, to_counted, read_more, none_more, same_count, too_many, all_read, no_number}
use Rattle.vmv_proof_line.proofs.left.is_left_loosely.Goals as goal

pub returns-in_default : goal.returns-in_default
returns-in_default c =
    let short : length c.args.line.now < 2 ^ 64 = search rules in (
      λ t. absurd (false≢true t),
      λ h. absurd (c.in_default.ensures.none (decimal (length h.0) ∷ map spelled_word h.0) (to_counted IsSpelled spelled_word spelled_clean c.args.line.now h.0 (few_spelled c.args.line.now short h) h.1 h.2)),
    )

pub returns-in_default-next_natural : goal.returns-in_default-next_natural
returns-in_default-next_natural c =
    let short : length c.args.line.now < 2 ^ 64 = search rules in (
      λ t. absurd (false≢true t),
      λ h. let few = few_spelled c.args.line.now short h in
          absurd (no_number IsSpelled spelled_word spelled_clean c.args.line.now c.in-Some.words 64 c.in-Some.ensures.some c.in_default-next_natural.ensures h.0 few few h.1 h.2),
    )

pub returns-then-found-count : goal.returns-then-found-count
returns-then-found-count c =
    let short : length c.args.line.now < 2 ^ 64 = search rules in
    let i = c.loop-words.invariant in (
      λ t. absurd (false≢true t),
      λ h. absurd (too_many IsSpelled spelled_word spelled_clean c.args.line.now c.in-Some-next_natural.count i.0 c.loop-words.words i.1 c.in-Some-next_natural.ensures.1.0
          (iff_false c.is_done.ensures c.loop-words-test.true) (omega (arith, i.2, c.if-found-count.true)) h.0 (few_spelled c.args.line.now short h) h.1 h.2),
    )

pub returns-then-not-takes_site_loosely : goal.returns-then-not-takes_site_loosely
returns-then-not-takes_site_loosely c =
    let short : length c.args.line.now < 2 ^ 64 = search rules in
    let i = c.loop-words.invariant in (
      λ t. absurd (false≢true t),
      λ h. absurd (none_more IsSpelled spelled_word spelled_clean c.args.line.now c.in-Some-next_natural.count i.0 c.loop-words.words i.1 c.in-Some-next_natural.ensures.1.0
          (iff_false c.is_done.ensures c.loop-words-test.true) c.if-not-takes_site_loosely.ensures h.0 (few_spelled c.args.line.now short h) h.1 h.2),
    )

pub loop-words-preserved : goal.loop-words-preserved
loop-words-preserved c =
    let i = c.loop-words.invariant in
    let taken = c.if-not-takes_site_loosely.ensures in (
      i.0 ++ taken.0 ∷ [],
      read_more IsSpelled spelled_word c.args.line.now c.in-Some-next_natural.count i.0 taken.0 c.loop-words.words c.takes_site_loosely.new.words i.1 taken.1 taken.2,
      omega (arith, i.2, length-append i.0 (taken.0 ∷ [])),
    )

pub returns : goal.returns
returns c =
    let short : length c.args.line.now < 2 ^ 64 = search rules in
    let i = c.loop-words.invariant in
    let done = c.is_done.ensures.0 c.loop-words-test.false in (
      λ t. (i.0, i.1.good, all_read IsSpelled spelled_word c.args.line.now c.in-Some-next_natural.count i.0 c.loop-words.words i.1 done (i.2 ∙ eqb-true _ _ t)),
      λ h. eq-eqb _ _
          (sym i.2 ∙ same_count IsSpelled spelled_word spelled_clean c.args.line.now c.in-Some-next_natural.count i.0 c.loop-words.words i.1 c.in-Some-next_natural.ensures.1.0 done h.0 (few_spelled c.args.line.now short h) h.1 h.2),
    )
