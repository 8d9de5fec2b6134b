-- Where the bytes that were read so far have led to.
use Rattle.std.specs.Prelude.{◌≡◌, ℕ, ◌+◌, List, ◌++◌}
use Rattle.std.specs.Option.{option_map}
use Rattle.vmv_head.specs.declared.scan.Place.{Place}
use Rattle.vmv_head.specs.Heads.{front_length}
use Rattle.vmv_head.specs.Places.{rest_length}

-- some first bytes of an input, `have` of them, hold no whole head and have led to a place in it: however the input goes on, the
-- head ends as far behind them as it does from that place on
abbrev pub HasLed : List ℕ → ℕ → Place → Type 0
HasLed read have place = (more : List ℕ) → front_length (read ++ more) ≡ option_map (λ n. have + n) (rest_length place more)
