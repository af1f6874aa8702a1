-- `gauging::put_gauge` meets its contract: times 2^12 the gauge is a whole number, and its decimal over 2^12 is the gauge's.
use native.Mathlib.Omega.{arith}
use Rattle.numerals.specs.Limits.{most_suffixes}
use Rattle.gauges.proofs.Operations.{whole_in}
use Rattle.commands.proofs.GaugeTexts.{parts_in, gauge-text}
use Rattle.commands.proofs.gauging.put_gauge.Goals as goal

pub int_to_float-parts : goal.int_to_float-parts
int_to_float-parts c = whole_in most_suffixes (omega arith)

pub float_to_int-parts : goal.float_to_int-parts
float_to_int-parts c = parts_in _ c.requires.0

pub returns : goal.returns
returns c =
    let w = c.put_dyadic.ensures in
    record {
      text = rw (gauge-text _ c.requires.0) at w.text;
      end = w.end;
    }
