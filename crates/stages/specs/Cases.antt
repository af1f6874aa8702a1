-- Worked cases of a change in stages (document 02, Req 06), k 2: the places 0 to 3 are those of `*00`, `*10`, `*01` and `*11`. In the old table backend 1 has
-- all of them, in the new one backend 2 has `*0`.
use Rattle.std.specs.Prelude.{ℕ, List, [], ◌∷◌, ◌≡◌, Err, Ok, Result}
use Rattle.numerals.specs.Refusals.{no2, no7, no8, no12, no14}
use Rattle.sheets.specs.Cases.{bytes}
use Rattle.sheets.specs.Calls.{about, refused_at}
use Rattle.stages.specs.Calls.{places_answer, places_written, lines_answer, lines_written}
use Rattle.sheets.specs.declared.answer.Refused.{Refused}

abbrev old : List ℕ
old = bytes "TABLE 2 1 0\n1 * 1\n"

abbrev new : List ℕ
new = bytes "TABLE 2 2 0\n1 *0 2\n1 * 1\n"

-- by limit, capacity and room
abbrev places : ℕ → ℕ → ℕ → Result ℕ Refused
places limit capacity room = places_answer old new 1 limit capacity room

-- by limit, capacity and number
abbrev lines : ℕ → ℕ → ℕ → Result ℕ Refused
lines limit capacity number = lines_answer old new 1 limit capacity number 24

pub record Shown : Type 0 where
  -- one suffix at a time: `*00` moves first, then `*10`, and the rest is alike
  pub row : places_written old new 1 1 ≡ 1 ∷ 4 ∷ []
  pub two : places 1 3 2 ≡ Ok 2
  pub middle : lines_written old new 1 1 1 ≡ bytes "1 *00 2\n1 *10 1\n1 *1 1\n"
  pub last : lines_written old new 1 1 2 ≡ bytes "1 *0 2\n1 *1 1\n"
  pub printed : lines 1 3 1 ≡ Ok 23
  -- both at once, and tables that are equal: one stage, the new table
  pub whole : places_written old new 1 2 ≡ 4 ∷ []
  pub equal : places_written new new 1 1 ≡ 4 ∷ []
  -- the middle stage has three lines: one fewer is crowded, whichever stage is asked for
  pub crowded : places 1 2 2 ≡ Err (refused_at no14 0)
  pub crowded_too : lines 1 2 2 ≡ Err (refused_at no14 0)
  -- numbers out of their limits come before that, and a short buffer after it
  pub no_limit : places 0 2 0 ≡ Err (refused_at no2 0)
  pub many_moved : places 4097 2 0 ≡ Err (refused_at no2 0)
  pub no_capacity : places 1 0 0 ≡ Err (refused_at no2 0)
  pub large_capacity : places 1 2049 0 ≡ Err (refused_at no2 0)
  pub no_stage : lines 1 2 0 ≡ Err (refused_at no2 0)
  pub third_stage : lines 1 2 3 ≡ Err (refused_at no2 0)
  pub short : places 1 3 1 ≡ Err (refused_at no7 0)
  -- and 8 and 12 before all of them
  pub unknown : places_answer old new 2 0 0 0 ≡ Err (about 1 no8 0)
  pub depth : places_answer old (bytes "TABLE 1 1 0\n1 * 1\n") 1 0 0 0 ≡ Err (refused_at no12 0)
