use Rattle.std.proofs.Common.{◌≡◌, ◌++◌, drop}
use Rattle.std.specs.List.{flat_map}
use Rattle.vmv_proof_text.specs.Text.{site_word}
use Rattle.vmv_proof_text.proofs.words.push_sites.Given as goal

abbrev pub invariant-loop-site : goal.invariant-loop-site
invariant-loop-site l = l.out.items ++ flat_map site_word (drop l.site-index l.sites) ≡ l.fn.out.items ++ flat_map site_word l.sites
