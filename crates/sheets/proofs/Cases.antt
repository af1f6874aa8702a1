-- The worked cases hold of the definitions.
use mathlib.Core.Path.{refl}
use Rattle.numerals.specs.Digits.{is_digit, all_digits, value, value_from, on_value}
use Rattle.numerals.specs.Decimal.{no_leading_zero, is_numeral, number}
use Rattle.numerals.specs.Text.{onto, split}
use Rattle.numerals.specs.Percentage.{fraction, at_most_all, percent_of, percentage}
use Rattle.numerals.specs.Limits.{unit, text_limit}
use Rattle.sheets.specs.Reading.{then, unless, on_field, same}
use Rattle.sheets.specs.PercentageSheet.{weight_fields, sum, service_fields, service_lines, volumes_of, ids_of, weights_of, whole, sheet_line}
use Rattle.sheets.specs.PercentageSheet.{read_sheet, read_sheet_at}
use Rattle.sheets.specs.FirstLine.{opening_fields, opening_lines, first_line}
use Rattle.sheets.specs.Cases.{bytes, cases, AllRight}

pub right : AllRight cases
unfolding bytes cases read_sheet read_sheet_at text_limit sheet_line first_line opening_lines opening_fields whole volumes_of ids_of weights_of
    service_lines service_fields sum weight_fields same on_field unless then unit percentage percent_of split onto number is_numeral no_leading_zero
    all_digits is_digit value value_from on_value fraction at_most_all
right = (
  refl,
  (
    refl,
    (
      refl,
      (
        refl,
        (
          refl,
          (
            refl,
            (
              refl,
              (
                refl,
                (
                  refl,
                  (
                    refl,
                    (
                      refl,
                      (
                        refl,
                        (refl, (refl, (refl, (refl, (refl, (refl, (refl, (refl, (refl, (refl, (refl, (refl, tt)))))))))))),
                      ),
                    ),
                  ),
                ),
              ),
            ),
          ),
        ),
      ),
    ),
  ),
)
