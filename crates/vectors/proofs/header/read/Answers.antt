use Prim.Native.Nat.{ℕ}
use mathlib.Core.Path.{ap, ◌∙◌}
use mathlib.Core.List.{List}
use lib.ListN.{get_or}
use Rattle.vectors.specs.Numbers.{numeral}
use Rattle.vectors.specs.Header.{header}
use Rattle.vectors.proofs.Parts.{walked_none, walked_next}
use Rattle.vectors.proofs.HeaderLine.{header-field}
use Rattle.vectors.proofs.header.read.Goals as goal

pub returns : goal.returns
unfolding header
returns c =
    let s = c.args.s.now in
    let line = c.part-line.result.now in
    let w0 = walked_none 32 line in
    let w1 = walked_next 32 line 0 0 c.after-kind.result w0 c.after-kind.ensures in
    let w2 = walked_next 32 line 1 c.after-kind.result c.after-first.result w1 c.after-first.ensures in
    let w3 = walked_next 32 line 2 c.after-first.result c.after-second.result w2 c.after-second.ensures in
    let w4 = walked_next 32 line 3 c.after-second.result c.after-third.result w3 c.after-third.ensures in
    let w5 = walked_next 32 line 4 c.after-third.result c.after-fourth.result w4 c.after-fourth.ensures in
    let field = header-field s line in
    let whole = c.part-line.ensures in
    let e0 = c.letter.ensures ∙ ap (λ (f : List ℕ). get_or f 0 0) (field 0 0 whole w0) in
    let e1 = c.letter-2.ensures ∙ ap (λ (f : List ℕ). get_or f 0 0) (field 1 c.after-kind.result whole w1) in
    let e2 = c.number.ensures ∙ ap numeral (field 2 c.after-first.result whole w2) in
    let e3 = c.number-2.ensures ∙ ap numeral (field 3 c.after-second.result whole w3) in
    let e4 = c.number-3.ensures ∙ ap numeral (field 4 c.after-third.result whole w4) in
    let e5 = c.number-4.ensures ∙ ap numeral (field 5 c.after-fourth.result whole w5) in
    rw (e0, e1, e2, e3, e4, e5)
