-- What a head is, and why it is refused.
use Rattle.std.specs.Prelude.{◌≡◌, ◌⊎◌, ℕ, ◌<◌, ◌≤◌, List, [], Some, None, length, map, codes}
use Rattle.httparse.specs.Grammar.{RequestHead, ReadsRequest}
use Rattle.httparse.specs.Spans.{name_and_value}
use Rattle.vmv_head.specs.declared.refusal.Refusal.{Refusal}
use Rattle.vmv_head.specs.declared.refusal.Refusal.TheVariants.{HeadTooLong, HeadUnread}
use Rattle.vmv_head.specs.Heads.{header_lines}
use Rattle.vmv_head.specs.declared.head.Head.{Head}
use Rattle.vmv_head.specs.Lines.{Pair, how_many, first_value, body_length, line_refusal}

-- the bytes as a whole are a head with at most 64 headers, by the grammar of RFC 9112 as `httparse` states it
abbrev pub IsHead : List ℕ → RequestHead → Type 0
IsHead bytes h = ReadsRequest bytes h [] × (length h.fields ≤ 64)

-- the names of a head's lines, and their values without the blanks around them
abbrev pub lines_of : RequestHead → List Pair
lines_of h = map name_and_value h.fields

-- these bytes are refused as a head, for the first cause that comes
abbrev pub IsHeadRefused : List ℕ → Refusal → Type 0
IsHeadRefused bytes refusal =
    ((64 < header_lines bytes) × (refusal ≡ HeadTooLong))
    ⊎ ((header_lines bytes ≤ 64) × ((h : RequestHead) → ¬ (IsHead bytes h)) × (refusal ≡ HeadUnread))
    ⊎ ((header_lines bytes ≤ 64) × ((h : RequestHead) × IsHead bytes h × (line_refusal h.minor h.method (lines_of h) ≡ Some refusal)))

-- these bytes are this head, and aren't refused
abbrev pub IsHeadRead : List ℕ → RequestHead → Type 0
IsHeadRead bytes h = (header_lines bytes ≤ 64) × IsHead bytes h × (line_refusal h.minor h.method (lines_of h) ≡ None)

-- what of a head decides beside its refusals: its method, its target, its X-Member lines and the length of its body
pub record IsShown (called asked : List ℕ) (lines : List Pair) (read : Head) : Type 0 where
  pub method : read.method.now ≡ called
  pub target : read.target.now ≡ asked
  pub members : read.members ≡ how_many (codes "x-member") lines
  pub member : read.member.now ≡ first_value (codes "x-member") lines
  pub body : read.body_len ≡ body_length lines
