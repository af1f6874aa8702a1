-- Turned-back work (document 01, under that heading): the number of each refusal.
use Rattle.std.specs.Prelude.{ℕ}
use Rattle.numerals.specs.declared.refusal.Refusal.{Refusal}
use Rattle.numerals.specs.declared.refusal.Refusal.TheVariants.{Malformed, BadField, Unbalanced, TooMany, NoService, TableShort, ShortLoan}
use Rattle.numerals.specs.declared.refusal.Refusal.TheVariants.{UnknownService, Order, Miscount, TooLong, Depth, Stuck, Crowded}

unfoldable pub number_of : Refusal → ℕ
number_of Malformed = 1
number_of BadField = 2
number_of Unbalanced = 3
number_of TooMany = 4
number_of NoService = 5
number_of TableShort = 6
number_of ShortLoan = 7
number_of UnknownService = 8
number_of Order = 9
number_of Miscount = 10
number_of TooLong = 11
number_of Depth = 12
number_of Stuck = 13
number_of Crowded = 14

-- each by its number there, the column "no."
abbrev pub no1 : Refusal
no1 = Malformed

abbrev pub no2 : Refusal
no2 = BadField

abbrev pub no3 : Refusal
no3 = Unbalanced

abbrev pub no4 : Refusal
no4 = TooMany

abbrev pub no5 : Refusal
no5 = NoService

abbrev pub no6 : Refusal
no6 = TableShort

abbrev pub no7 : Refusal
no7 = ShortLoan

abbrev pub no8 : Refusal
no8 = UnknownService

abbrev pub no9 : Refusal
no9 = Order

abbrev pub no10 : Refusal
no10 = Miscount

abbrev pub no11 : Refusal
no11 = TooLong

abbrev pub no12 : Refusal
no12 = Depth

-- document 02, Req 03
abbrev pub no13 : Refusal
no13 = Stuck

-- document 02, Req 06
abbrev pub no14 : Refusal
no14 = Crowded
