-- A record's header line and its payload.
use Rattle.std.specs.Prelude.{ℕ, suc, List, [], get_or, drop}
use Rattle.numerals.specs.Text.{split, index_of}
use Rattle.vectors.specs.Numbers.{numeral}
use Rattle.vectors.specs.declared.header.Header.{Header}

-- the field of the header line that has n fields before it
unfoldable pub header_field : ℕ → List ℕ → List ℕ
header_field n s = get_or (split 32 (get_or (split 10 s) 0 [])) n []

-- the first letters of the layer and of the kind, then the numbers; what the line lacks is 0
unfoldable pub header : List ℕ → Header
header s =
    record {
      layer = get_or (header_field 0 s) 0 0;
      kind = get_or (header_field 1 s) 0 0;
      first = numeral (header_field 2 s);
      second = numeral (header_field 3 s);
      third = numeral (header_field 4 s);
      fourth = numeral (header_field 5 s);
    }

-- what stands behind the header line
unfoldable pub payload : List ℕ → List ℕ
payload s = drop (suc (index_of 10 s)) s
