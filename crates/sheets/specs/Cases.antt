-- Worked cases of document 01, and of document 02, Req 04 and 07, on percentage sheets: each text, and what it is read as.
use Rattle.std.specs.Prelude.{ℕ, ◌≡◌, List, [], ◌∷◌}
use Prim.Native.Char.{code}
use Prim.Native.String as string
use Rattle.numerals.specs.Refusals.{no1, no2, no3, no5, no6}
use Rattle.sheets.specs.Reading.{Reading, got, refused}
use Rattle.sheets.specs.PercentageSheet.{Sheet, read_sheet}

-- the bytes of a text of ASCII characters
unfoldable pub bytes : string.String → List ℕ
bytes string.[] = []
bytes (string.◌∷◌ c s) = code c ∷ bytes s

pub record Case : Type 0 where
  pub text : string.String
  pub is : Reading Sheet

abbrev reads : string.String → Reading Sheet → Case
reads text is = record { text = text; is = is }

-- one or two services with one backend each
abbrev alone : ℕ → ℕ → List ℕ → List (List ℕ) → List (List ℕ) → Reading Sheet
alone k capacity volumes ids weights =
    got (record { k = k; tolerance = 0; capacity = capacity; volumes = volumes; ids = ids; weights = weights })

unfoldable pub cases : List Case
cases =
    -- the sample
    reads "SHEET 5 2 5\nSERVICE 55 1:16.6667 2:33.3333 3:50\nSERVICE 45 1:25 2:25 3:50\n"
    (got (record {
      k = 5;
      tolerance = 2000000;
      capacity = 5;
      volumes = 55 ∷ 45 ∷ [];
      ids = (1 ∷ 2 ∷ 3 ∷ []) ∷ (1 ∷ 2 ∷ 3 ∷ []) ∷ [];
      weights = (16666700 ∷ 33333300 ∷ 50000000 ∷ []) ∷ (25000000 ∷ 25000000 ∷ 50000000 ∷ []) ∷ [];
    }))
    -- P9 to P12, in a sheet
    ∷ reads "SHEET 5 2 5\nSERVICE 55 1:50 2:50\nSERVICE 45 1:18.4.2 2:81.6\n" (refused no2 3)
    ∷ reads "SHEET 1 0 1\nSERVICE 7 1:100.0000\n" (alone 1 1 (7 ∷ []) ((1 ∷ []) ∷ []) ((100000000 ∷ []) ∷ []))
    ∷ reads "SHEET 1 0 1\nSERVICE 7 1:100.0001\n" (refused no2 2)
    ∷ reads "SHEET 1 0 1\nSERVICE 7 1:018.4 2:81.6\n" (refused no2 2)
    -- C equal to the services, and one less
    ∷ reads "SHEET 1 0 2\nSERVICE 7 1:100\nSERVICE 8 1:100\n"
    (alone 1 2 (7 ∷ 8 ∷ []) ((1 ∷ []) ∷ (1 ∷ []) ∷ []) ((100000000 ∷ []) ∷ (100000000 ∷ []) ∷ []))
    ∷ reads "SHEET 1 0 1\nSERVICE 7 1:100\nSERVICE 8 1:100\n" (refused no6 1)
    -- nothing, only line 1, a line without its LF, weights of 99 percent
    ∷ reads "" (refused no1 1)
    ∷ reads "SHEET 1 0 1\n" (refused no5 1)
    ∷ reads "SHEET 1 0 1\nSERVICE 7 1:100" (refused no1 2)
    ∷ reads "SHEET 1 0 1\nSERVICE 7 1:50 2:49\n" (refused no3 2)
    -- document 02, Req 04: a sheet without ids, a second colon, an id not above the one before it, and the limits of ids
    ∷ reads "SHEET 1 0 1\nSERVICE 7 100\n" (refused no2 2)
    ∷ reads "SHEET 1 0 1\nSERVICE 7 1:100:1\n" (refused no2 2)
    ∷ reads "SHEET 1 0 1\nSERVICE 7 5:50 5:50\n" (refused no2 2)
    ∷ reads "SHEET 1 0 1\nSERVICE 7 5:50 4:50\n" (refused no2 2)
    ∷ reads "SHEET 1 0 1\nSERVICE 7 0:100\n" (refused no2 2)
    ∷ reads "SHEET 1 0 1\nSERVICE 7 1:50 10000:50\n" (refused no2 2)
    ∷ reads "SHEET 1 0 1\nSERVICE 7 1:50 9999:50\n" (alone 1 1 (7 ∷ []) ((1 ∷ 9999 ∷ []) ∷ []) ((50000000 ∷ 50000000 ∷ []) ∷ []))
    -- document 02, Req 07: weights and a tolerance of six decimals, a seventh, and the least excess over 100
    ∷ reads "SHEET 1 0.000001 1\nSERVICE 7 1:18.40000 2:81.599999 3:0.000001\n"
    (got (record {
      k = 1;
      tolerance = 1;
      capacity = 1;
      volumes = 7 ∷ [];
      ids = (1 ∷ 2 ∷ 3 ∷ []) ∷ [];
      weights = (18400000 ∷ 81599999 ∷ 1 ∷ []) ∷ [];
    }))
    ∷ reads "SHEET 1 0 1\nSERVICE 7 1:18.4000000 2:81.6\n" (refused no2 2)
    ∷ reads "SHEET 1 0.0000000 1\nSERVICE 7 1:100\n" (refused no2 1)
    ∷ reads "SHEET 1 0 1\nSERVICE 7 1:100.000000\n" (alone 1 1 (7 ∷ []) ((1 ∷ []) ∷ []) ((100000000 ∷ []) ∷ []))
    ∷ reads "SHEET 1 0 1\nSERVICE 7 1:100.000001\n" (refused no2 2)
    ∷ reads "SHEET 1 0 1\nSERVICE 7 1:50 2:49.999999\n" (refused no3 2)
    ∷ []

abbrev pub AllRight : List Case → Type 0
AllRight [] = Unit {0}
AllRight (c ∷ cs) = (read_sheet (bytes c.text) ≡ c.is) × AllRight cs
