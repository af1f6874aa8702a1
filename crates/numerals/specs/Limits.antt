-- The unit and the limits (document 01, "Units and limits" and "Rule sheet and program"; document 02, Req 04 and 07), each named once. `src/limits.rt` has the
-- same names as constants.
use Rattle.std.specs.Prelude.{ℕ}

-- k, and the bits of a suffix
abbrev pub most_bits : ℕ
most_bits = 12

-- the suffixes of so many bits: 2 ^ most_bits
abbrev pub most_suffixes : ℕ
most_suffixes = 4096

-- backends of a service
abbrev pub most_backends : ℕ
most_backends = 32

-- the id of a backend, from 1 on (document 02, Req 04)
abbrev pub most_id : ℕ
most_id = 9999

-- the backends that an update may know: those of the old list's rules and those of the new weights (document 02, Req 04)
abbrev pub most_known : ℕ
most_known = 64

-- services; they are numbered from 1
abbrev pub most_services : ℕ
most_services = 64

-- rules of one service, and the budget of a list
abbrev pub most_rules : ℕ
most_rules = 32

-- the capacity C, and the rules of a table
abbrev pub most_capacity : ℕ
most_capacity = 2048

abbrev pub most_volume : ℕ
most_volume = 10000

-- digits behind the dot of a percentage (document 02, Req 07)
abbrev pub decimals : ℕ
decimals = 6

-- the sum of a service's weights (document 02, Req 07): 100 percent, of which 10 ^ decimals parts are one, so that a part is a hundred-millionth
unfoldable pub unit : ℕ
unit = 100000000

-- a text in bytes
unfoldable pub text_limit : ℕ
text_limit = 65536

-- the total of a table (document 02, Req 07)
unfoldable pub total_limit : ℕ
total_limit = 262144000000000000
