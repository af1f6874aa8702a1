-- `printing::put_line` meets its contract: service, suffix and backend one after the other.
use Prim.Native.Nat.{ℕ}
use mathlib.Core.Path.{◌≡◌}
use mathlib.Core.List.{◌∷◌, ◌++◌, append_assoc, []}
use native.Mathlib.Omega.{arith}
use lib.ListN.{length-append}
use Rattle.numerals.specs.Decimal.{decimal}
use Rattle.numerals.specs.Limits.{most_bits}
use Rattle.numerals.specs.Suffix.{suffix_text}
use Rattle.numerals.proofs.Decimal.{length-decimal}
use Rattle.numerals.proofs.SuffixTexts.{length-suffix}
use Rattle.sheets.specs.RuleSheet.{line_text}
use Rattle.sheets.specs.Inner.TableNumbers.{line}
use Rattle.sheets.proofs.TableChecks.{formed}
use Rattle.sheets.proofs.Writes.{chain, same_length}
use Rattle.sheets.proofs.printing.put_line.Goals as goal

-- a line as it is written
parts :
    (s l v b : ℕ)
    → ((decimal s ++ 32 ∷ []) ++ (suffix_text l v ++ 32 ∷ [])) ++ (decimal b ++ 10 ∷ []) ≡ line_text (line s l v b)
unfolding line_text
parts s l v b = simp append_assoc

pub put_number-a-requires : goal.put_number-a-requires
put_number-a-requires c =
    omega (arith, c.requires.1, length-decimal c.args.line.now.service)

pub put_suffix-b-requires : goal.put_suffix-b-requires
put_suffix-b-requires c =
    let f = formed most_bits _ c.requires.0 in
    let w = c.put_number-a.ensures in (
      (f.short, f.bits),
      omega (
        arith,
        c.requires.1,
        w.ends,
        same_length w,
        length-append (decimal c.args.line.now.service) (32 ∷ []),
        length-decimal c.args.line.now.service,
      ),
    )

pub put_number-requires : goal.put_number-requires
put_number-requires c =
    let w = c.put_number-a.ensures in
    let v = c.put_suffix-b.ensures in
    let both = chain w v in
    omega (
      arith,
      c.requires.1,
      both.ends,
      same_length both,
      length-append (decimal c.args.line.now.service ++ 32 ∷ []) (suffix_text c.args.line.now.len c.args.line.now.value ++ 32 ∷ []),
      length-append (decimal c.args.line.now.service) (32 ∷ []),
      length-append (suffix_text c.args.line.now.len c.args.line.now.value) (32 ∷ []),
      length-decimal c.args.line.now.service,
      length-suffix c.args.line.now.len c.args.line.now.value,
      length-decimal c.args.line.now.backend,
    )

pub returns : goal.returns
returns c =
    let a = c.args in
    rw (← parts a.line.now.service a.line.now.len a.line.now.value a.line.now.backend)
    (chain (chain c.put_number-a.ensures
    c.put_suffix-b.ensures) c.put_number.ensures)
