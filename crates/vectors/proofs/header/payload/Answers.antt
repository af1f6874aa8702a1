use Prim.Native.Nat.{ℕ}
use mathlib.Core.Path.{ap, ◌∙◌}
use lib.ListN.{drop}
use Rattle.vectors.proofs.HeaderLine.{payload-behind}
use Rattle.vectors.proofs.header.payload.Goals as goal

pub returns : goal.returns
returns c =
    let s = c.args.s.now in
    c.rest.ensures ∙ ap (λ (n : ℕ). drop n s) c.after.ensures ∙ payload-behind s
