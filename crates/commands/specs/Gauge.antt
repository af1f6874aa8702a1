-- gauge TABLE SERVICE VOLUME BACKEND: the share and the load of a backend, as exact decimals.
use Rattle.std.specs.Prelude.{ℕ, suc, ◌*◌, ◌^◌, ◌≡◌, true, false, List, [], ◌∷◌, ◌++◌, pos, negsuc, take, Float, Err, Ok, Result, Some}
use Rattle.std.specs.Float.{nan, inf, fin}
use Rattle.numerals.specs.Decimal.{decimal}
use Rattle.sheets.specs.Reading.{got}
use Rattle.sheets.specs.RuleSheet.{Table, read_table}
use Rattle.sheets.specs.Calls.{has_service}
use Rattle.gauges.specs.Gauges.{held, in_range, gauges_answer}
use Rattle.commands.specs.Said.{Said, prints, on_number}
use Rattle.commands.specs.Refused.{refused_text}
use Rattle.commands.specs.Numeral.{numeral}
use Rattle.commands.specs.Dyadic.{dyadic_text, DecimalOf}
use Rattle.gauges.specs.declared.answer.Gauges.{Gauges}
use Rattle.sheets.specs.declared.answer.Refused.{Refused}
use Rattle.commands.specs.declared.answer.NoNumber.{NoNumber}

-- the text of a finite float that isn't negative, m × 2^e: every gauge is one. Any other float has the empty text
unfoldable pub float_text : Float → List ℕ
float_text nan = []
float_text (inf s) = []
float_text (fin true m e) = []
float_text (fin false m (pos e)) = decimal (m * 2 ^ e)
float_text (fin false m (negsuc e)) = dyadic_text m (suc e)

-- share and load with a space between them, or a refusal
unfoldable pub gauges_text : Result Gauges Refused → List ℕ
gauges_text (Ok g) = (float_text g.share ++ 32 ∷ []) ++ (float_text g.load ++ 10 ∷ [])
gauges_text (Err r) = refused_text r

unfoldable pub gauge_says : List ℕ → List ℕ → List ℕ → List ℕ → Said
gauge_says table service volume backend =
    on_number (numeral service) 2 (λ n.
    on_number (numeral volume) 3 (λ v.
    on_number (numeral backend) 4 (λ b. prints (gauges_text (gauges_answer table n v b)))))

-- a printed line: two decimals that are exactly held / 2^k and volume × held / 2^k
pub record ExactLine (t : Table) (n volume b : ℕ) (line : List ℕ) : Type 0 where
  pub share : List ℕ
  pub load : List ℕ
  pub is : line ≡ (share ++ 32 ∷ []) ++ (load ++ 10 ∷ [])
  pub share_exact : DecimalOf share (held t n b) t.k
  pub load_exact : DecimalOf load (volume * held t n b) t.k

-- what a call leaves in its buffer up to the end that it answers is such a line, where the table has the service and the numbers are in their limits
abbrev pub PrintsExactly : List ℕ → List ℕ → List ℕ → List ℕ → Result ℕ NoNumber → List ℕ → Type 0
PrintsExactly table service volume backend r out =
    (t : Table) (n v b end : ℕ) → read_table table ≡ got t → numeral service ≡ Some n → numeral volume ≡ Some v → numeral backend ≡ Some b
    → has_service t n ≡ true → in_range v b ≡ true → r ≡ Ok end → ExactLine t n v b (take end out)
