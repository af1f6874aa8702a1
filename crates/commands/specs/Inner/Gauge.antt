-- What the writer of a gauge asks of it, and of the buffer.
use Rattle.std.specs.Prelude.{ℕ, ◌+◌, ◌*◌, ◌≤◌, ◌≡◌, Float}
use Rattle.numerals.specs.Limits.{most_bits, most_suffixes, most_volume}
use Rattle.gauges.specs.Binary64.{dyadic}

-- a share or a load: some count of up to 10,000 × 2^12, divided by 2^k
pub record IsGauge (x : Float) : Type 0 where
  pub count : ℕ
  pub k : ℕ
  pub is : x ≡ dyadic count k
  pub few : count ≤ most_volume * most_suffixes
  pub bits : k ≤ most_bits

-- the room that is asked for a gauge and its separator: up to 20 digits of a whole part (any u64), a dot, the decimals, the separator
abbrev pub gauge_room : ℕ
gauge_room = 20 + 1 + most_bits + 1
