-- The commands by their words, the text of help, and the usage of each command.
use Rattle.std.specs.Prelude.{ℕ, List, [], ◌∷◌, ◌++◌}
use Prim.Native.String.{String}
use Rattle.numerals.specs.Pick.{pick}
use Rattle.sheets.specs.Cases.{bytes}
use Rattle.sheets.specs.Reading.{same}
use Rattle.commands.specs.declared.answer.Command.{Command}
use Rattle.commands.specs.declared.answer.Command.TheVariants.{Split, Lookup, Churn, Update, Stages, Stage, Gauge, Help, Unknown}

unfoldable pub command_of : List ℕ → Command
command_of word =
    pick (same word (bytes "split")) Split
    (pick (same word (bytes "lookup")) Lookup
    (pick (same word (bytes "churn")) Churn
    (pick (same word (bytes "update")) Update
    (pick (same word (bytes "stages")) Stages
    (pick (same word (bytes "stage")) Stage
    (pick (same word (bytes "gauge")) Gauge
    (pick (same word (bytes "help")) Help
    Unknown)))))))

-- lines, each with its end
unfoldable pub lines : List String → List ℕ
lines [] = []
lines (l ∷ ls) = bytes l ++ 10 ∷ lines ls

-- a line for each command, and an example of it
unfoldable pub help_text : List ℕ
help_text =
    lines
    ("splitter                                              a percentage sheet on standard input: its rule sheet"
    ∷ "    splitter < figure-9.sheet"
    ∷ "splitter split SHEET                                  the same for a file"
    ∷ "    splitter split figure-9.sheet"
    ∷ "splitter lookup TABLE SERVICE ADDRESS                 the backend of an address"
    ∷ "    splitter lookup old.table 1 10.0.0.1"
    ∷ "splitter churn OLD NEW SERVICE                        how many suffixes moved"
    ∷ "    splitter churn old.table new.table 1"
    ∷ "splitter update OLD SHEET SERVICE                     new weights on a loaded table"
    ∷ "    splitter update old.table new.sheet 1"
    ∷ "splitter stages OLD NEW SERVICE LIMIT CAPACITY        the places at which a change is cut into stages"
    ∷ "    splitter stages old.table new.table 1 4 8"
    ∷ "splitter stage OLD NEW SERVICE LIMIT CAPACITY NUMBER  one stage as lines for the switch"
    ∷ "    splitter stage old.table new.table 1 4 8 1"
    ∷ "splitter gauge TABLE SERVICE VOLUME BACKEND           the share and the load of a backend"
    ∷ "    splitter gauge old.table 1 55 2"
    ∷ "splitter help                                         this text"
    ∷ "    splitter help | less"
    ∷ "A file named - is standard input (once in a call)."
    ∷ "What isn't proper prints REFUSED number line (churn, update, stages, stage: number line sheet)."
    ∷ [])

unfoldable pub usage_text : Command → List ℕ
usage_text Split = lines ("usage: splitter split SHEET" ∷ [])
usage_text Lookup = lines ("usage: splitter lookup TABLE SERVICE ADDRESS" ∷ [])
usage_text Churn = lines ("usage: splitter churn OLD NEW SERVICE" ∷ [])
usage_text Update = lines ("usage: splitter update OLD SHEET SERVICE" ∷ [])
usage_text Stages = lines ("usage: splitter stages OLD NEW SERVICE LIMIT CAPACITY" ∷ [])
usage_text Stage = lines ("usage: splitter stage OLD NEW SERVICE LIMIT CAPACITY NUMBER" ∷ [])
usage_text Gauge = lines ("usage: splitter gauge TABLE SERVICE VOLUME BACKEND" ∷ [])
usage_text Help = lines ("usage: splitter help" ∷ [])
usage_text Unknown =
    lines
    ("usage: splitter"
    ∷ "       splitter split SHEET"
    ∷ "       splitter lookup TABLE SERVICE ADDRESS"
    ∷ "       splitter churn OLD NEW SERVICE"
    ∷ "       splitter update OLD SHEET SERVICE"
    ∷ "       splitter stages OLD NEW SERVICE LIMIT CAPACITY"
    ∷ "       splitter stage OLD NEW SERVICE LIMIT CAPACITY NUMBER"
    ∷ "       splitter gauge TABLE SERVICE VOLUME BACKEND"
    ∷ "       splitter help"
    ∷ [])
