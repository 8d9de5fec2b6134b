-- A chain begins with the latest root.
use Rattle.vmv_desk_rules.proofs.RootLemmas.{root_text_at, begun_root, chain_numbers}
use Rattle.vmv_desk_laws.proofs.laws.roots_begin_their_chains.Goals as goal

pub returns-clause-text : goal.returns-clause-text
returns-clause-text c p formed = root_text_at 1 0 p.versions formed.held.numbered (begun_root p.versions formed.held.opened)

pub returns-clause-numbers : goal.returns-clause-numbers
returns-clause-numbers c p formed = chain_numbers 1 0 p.versions formed.held.numbered (begun_root p.versions formed.held.opened)
