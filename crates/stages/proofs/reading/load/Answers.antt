-- `reading::load` meets its contract: the table that was read, its service's lines spread.
use Prim.Native.Nat.{ℕ}
use mathlib.Core.Path.{ap, sym, ◌∙◌}
use native.Mathlib.Omega.{arith}
use lib.ListN.{length, length-replicate}
use Rattle.numerals.specs.Limits.{most_suffixes}
use Rattle.numerals.proofs.Exits.{handed_on}
use Rattle.expansion.specs.FirstMatch.{nobody}
use Rattle.packing.specs.Count.{own_rules}
use Rattle.stages.proofs.ReadSheets.{Loaded, loaded, not-loaded}
use Rattle.stages.proofs.reading.load.Goals as goal
use Rattle.stages.proofs.reading.load.Goals.{In_ok-made}

-- what was read
has : (c : In_ok-made) → Loaded c.args.text.now c.in_ok-made.made c.read_table.new.table
has c =
    let r = c.read_table in
    loaded _ _ r.result _ r.ensures.answer c.in_ok-made.was r.ensures.buffer

pub spread-requires : goal.spread-requires
spread-requires c =
    let h = has (goal.at.spread-requires c).In_ok-made in
    record {
      k_le_most_bits = (omega (arith, h.bits, h.proper.few_bits), (h.ruled, c.all_places-places.ensures));
      holder_value = c.requires;
    }

pub returns-in_err-made : goal.returns-in_err-made
returns-in_err-made c =
    rw (handed_on _ _ c.from_residual.ensures) (
      not-loaded _ _ c.read_table.result c.read_table.ensures.answer c.in_err-made.was,
      ap length c.requires ∙ length-replicate {A = ℕ} most_suffixes nobody,
    )

pub returns : goal.returns
returns c =
    let h = has (goal.at.returns c).In_ok-made in (
      h.table,
      h.read,
      sym h.bits,
      rw (ap (own_rules c.args.service) h.lines) at c.spread.ensures,
    )
