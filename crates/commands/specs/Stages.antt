-- stages OLD NEW SERVICE LIMIT CAPACITY: the places at which a change is cut into stages; stage .. NUMBER: one of these stages (document 02, Req 06).
use Rattle.std.specs.Prelude.{ℕ, List, [], ◌∷◌, ◌++◌, Err, Ok, Result}
use Rattle.numerals.specs.Limits.{most_suffixes, text_limit}
use Rattle.stages.specs.Calls.{places_answer, places_written, lines_answer, lines_written}
use Rattle.commands.specs.Said.{Said, prints, on_number}
use Rattle.commands.specs.Refused.{number_text, refused_of_text}
use Rattle.commands.specs.Numeral.{numeral}
use Rattle.sheets.specs.declared.answer.Refused.{Refused}

-- each place as a line
unfoldable pub places_text : List ℕ → List ℕ
places_text [] = []
places_text (p ∷ ps) = number_text p ++ places_text ps

-- a text, or a refusal and the sheet that it is about
unfoldable pub staged_text : Result ℕ Refused → List ℕ → List ℕ
staged_text (Ok n) text = text
staged_text (Err r) text = refused_of_text r

-- the command's own buffer has room for every row: no service has more suffixes
unfoldable pub stages_text : List ℕ → List ℕ → ℕ → ℕ → ℕ → List ℕ
stages_text old new n limit capacity = staged_text (places_answer old new n limit capacity most_suffixes) (places_text (places_written old new n limit))

-- the lines of the stage, as they are written
unfoldable pub one_stage_text : List ℕ → List ℕ → ℕ → ℕ → ℕ → ℕ → List ℕ
one_stage_text old new n limit capacity number =
    staged_text (lines_answer old new n limit capacity number text_limit) (lines_written old new n limit number)

unfoldable pub stages_says : List ℕ → List ℕ → List ℕ → List ℕ → List ℕ → Said
stages_says old new service limit capacity =
    on_number (numeral service) 3 (λ n.
    on_number (numeral limit) 4 (λ l.
    on_number (numeral capacity) 5 (λ c. prints (stages_text old new n l c))))

unfoldable pub stage_says : List ℕ → List ℕ → List ℕ → List ℕ → List ℕ → List ℕ → Said
stage_says old new service limit capacity number =
    on_number (numeral service) 3 (λ n.
    on_number (numeral limit) 4 (λ l.
    on_number (numeral capacity) 5 (λ c.
    on_number (numeral number) 6 (λ i. prints (one_stage_text old new n l c i)))))
