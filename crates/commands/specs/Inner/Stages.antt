-- What the writer of a row of places asks of the places, and of the buffer.
use Rattle.std.specs.Prelude.{ℕ, ◌+◌, ◌*◌, ◌≤◌, ◌<◌, List, length, get_or}
use Rattle.numerals.specs.Limits.{most_suffixes}
use Rattle.commands.specs.Inner.Update.{number_room}

-- there are n places, no more than a row may have, and none is above the most suffixes
pub record Places (ps : List ℕ) (n : ℕ) : Type 0 where
  pub room : n ≤ length ps
  pub few : n ≤ most_suffixes
  pub each : (i : ℕ) → i < n → get_or ps i 0 ≤ most_suffixes

-- for a place and its end: up to 4 digits
abbrev pub place_room : ℕ
place_room = 4 + 1

-- for all places; each is written where any number of 64 bits would fit
abbrev pub places_room : ℕ
places_room = place_room * most_suffixes + number_room
