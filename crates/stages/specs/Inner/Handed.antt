-- What is handed out of a change that was judged.
use Rattle.std.specs.Prelude.{ℕ, ◌*◌, ◌^◌, List, Err, Ok, Result}
use Rattle.numerals.specs.Limits.{most_capacity}
use Rattle.packing.specs.Table.{lines_of}
use Rattle.sheets.specs.Calls.{refused_at, print_text}
use Rattle.sheets.specs.RuleSheet.{lines_text}
use Rattle.stages.specs.Inner.Nodes.{cut_at, starts_to}
use Rattle.sheets.specs.declared.answer.Refused.{Refused}
use Rattle.numerals.specs.declared.refusal.Refusal.{Refusal}

-- the values, into a lent buffer of `room` places, or the refusal
abbrev pub handed : Result ℕ Refusal → List ℕ → ℕ → Result ℕ Refused
handed (Ok n) values room = print_text values room
handed (Err why) values room = Err (refused_at why 0)

-- the text of the stage at place p
abbrev pub text_at : ℕ → (ℕ → ℕ) → (ℕ → ℕ) → ℕ → ℕ → List ℕ
text_at k old new service p = lines_text (lines_of service (starts_to (cut_at p old new) k (2 ^ k)))

-- the bytes of the longest line: two digits of the service, a star and twelve bits, four digits of the id, two spaces and the LF; and of the longest list
abbrev pub line_room : ℕ
line_room = 22

abbrev pub text_room : ℕ
text_room = line_room * most_capacity
