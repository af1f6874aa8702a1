-- `updating::put_suffix` meets its contract: the suffix is in its limits, so it is written, and the space behind it.
use native.Mathlib.Omega.{arith}
use lib.ListN.{length}
use Rattle.numerals.specs.Suffix.{suffix_text}
use Rattle.sheets.specs.Inner.Writing.{Wrote, Before, end_at}
use Rattle.sheets.proofs.Writes.{chain, byte}
use Rattle.commands.proofs.Texts.{written}
use Rattle.commands.proofs.UpdateLines.{suffix-text, suffix-before, suffix-soon}
use Rattle.commands.proofs.updating.put_suffix.Goals as goal
use Rattle.commands.proofs.updating.put_suffix.Goals.{After-write_suffix}

ends : (c : After-write_suffix) → Before c.write_suffix.result (length c.write_suffix.new.out)
ends c =
    let w = c.write_suffix in
    suffix-before _ _ c.requires.0 _ _ c.requires.1 _ _ w.ensures.answer w.ensures.buffer

wrote :
    (c : After-write_suffix)
    → let a = c.args in
    Wrote a.out.now c.write_suffix.new.out a.at (end_at c.write_suffix.result) (suffix_text a.len a.value)
wrote c =
    let w = c.write_suffix in
    suffix-text _ _ c.requires.0 _ _ c.requires.1 _ _ w.ensures.answer w.ensures.buffer

pub unwrap-end-requires : goal.unwrap-end-requires
unwrap-end-requires c = written _ _ (ends (goal.at.unwrap-end-requires c).After-write_suffix)

pub bounds-out-end : goal.bounds-out-end
bounds-out-end c = rw c.unwrap-end.ensures at (ends (goal.at.bounds-out-end c).After-write_suffix)

pub overflow_add-result : goal.overflow_add-result
overflow_add-result c = omega (arith, bounds-out-end c)

pub returns : goal.returns
returns c =
    let w = chain (rw c.unwrap-end.ensures at (wrote (goal.at.returns c).After-write_suffix)) (byte _ _ _) in
    record {
      text = w;
      end = suffix-soon c.args.len c.args.value c.requires.0 w;
    }
