use Rattle.std.proofs.Common.{◌≡◌, ◌∷◌, ◌∙◌, refl, sym, subst, arith, length}
use Rattle.std.specs.Prelude.{map}
use Rattle.std.specs.Fmt.{decimal}
use Rattle.std.proofs.lemmas.Bool.{iff_false}
use Rattle.vmv_proof_text.specs.Lines.{IsSite}
use Rattle.vmv_proof_line.specs.SiteWords.{shown_site}
use Rattle.vmv_proof_line.proofs.SiteWords.{AreRead, sites_clean, to_counted, read_more, none_more, same_count, all_read, no_number}
use Rattle.vmv_proof_line.proofs.left.told_left.Goals as goal

pub returns-in_default : goal.returns-in_default
returns-in_default c =
    λ xs h. c.in_default.ensures.none (decimal (length xs) ∷ map shown_site xs) (to_counted IsSite shown_site sites_clean c.args.line.now xs (omega (arith, h.0)) h.1 h.2)

pub returns-in_default-next_count : goal.returns-in_default-next_count
returns-in_default-next_count c =
    λ xs h. no_number IsSite shown_site sites_clean c.args.line.now c.in-Some.words 32 c.in-Some.ensures.some c.in_default-next_count.ensures xs h.0 (omega (arith, h.0)) h.1 h.2

pub returns-in_default-next_site : goal.returns-in_default-next_site
returns-in_default-next_site c =
    let count = c.in-Some-next_count.ensures in
    λ xs h. none_more IsSite shown_site sites_clean c.args.line.now c.in-Some-next_count.count c.loop-words.sites c.loop-words.words c.loop-words.invariant (omega (arith, count.1.0))
    (iff_false c.is_done.ensures c.loop-words-test.true) (λ x rest good e. c.in_default-next_site.ensures x (shown_site x) rest (good, refl) e) xs (omega (arith, h.0)) h.1 h.2

pub loop-words-preserved : goal.loop-words-preserved
loop-words-preserved c =
    let taken = c.in-Some-next_site.ensures in
    subst (λ t. AreRead IsSite shown_site c.args.line.now c.in-Some-next_count.count t c.next_site.new.words) (sym c.in_ok-push.ensures.ok)
    (read_more IsSite shown_site c.args.line.now c.in-Some-next_count.count c.loop-words.sites c.in-Some-next_site.site c.loop-words.words c.next_site.new.words c.loop-words.invariant taken.1.0 (taken.2 ∙ (λ i. taken.1.1 i ∷ c.next_site.new.words)))

pub returns-then-len-count : goal.returns-then-len-count
returns-then-len-count c =
    λ xs h. let same = same_count IsSite shown_site sites_clean c.args.line.now c.in-Some-next_count.count c.loop-words.sites c.loop-words.words c.loop-words.invariant (omega (arith, c.in-Some-next_count.ensures.1.0)) (c.is_done.ensures.0 c.loop-words-test.false) xs (omega (arith, h.0)) h.1 h.2 in
    omega (arith, same, c.len.ensures, c.if-len-count.true)

pub returns : goal.returns
returns c =
    let count = c.in-Some-next_count.ensures.1.0 in
    let same : length c.loop-words.sites ≡ c.in-Some-next_count.count = omega (arith, c.len.ensures, c.if-len-count.false) in (
      omega (arith, same, count),
      c.loop-words.invariant.good,
      all_read IsSite shown_site c.args.line.now c.in-Some-next_count.count c.loop-words.sites c.loop-words.words c.loop-words.invariant (c.is_done.ensures.0 c.loop-words-test.false) same,
    )
