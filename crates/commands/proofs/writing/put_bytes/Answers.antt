-- `writing::put_bytes` meets its contract: the text stands in its part of the buffer.
use mathlib.Core.Path.{refl, sym, ◌∙◌}
use native.Mathlib.Omega.{arith}
use lib.ListN.{length}
use lib.Seq.{sets-eq, take-length}
use Rattle.std.proofs.lemmas.Slice.{put_mid-paste}
use Rattle.commands.proofs.writing.put_bytes.Goals as goal

pub returns : goal.returns
returns c =
    let a = c.args in
    let text = a.text.now in
    record {
      ends = refl;
      holds = put_mid-paste a.at _ a.out.now c.copy_from_slice.new.self text (length text) c.copy_from_slice.ensures.after (omega arith) refl
          ∙ simp take-length (sym (sets-eq text a.out.now a.at (omega arith)));
    }
