-- The header line's fields one after the other, and what stands behind the line.
use Prim.Native.Nat.{ℕ}
use mathlib.Core.Path.{◌≡◌, ap, ◌∙◌}
use mathlib.Core.List.{List, []}
use lib.ListN.{get_or, drop}
use Rattle.numerals.specs.Text.{split}
use Rattle.vectors.specs.Parts.{behind, part}
use Rattle.vectors.specs.Header.{header_field, payload}
use Rattle.vectors.proofs.Parts.{drop-behind, Walked, walked-part}

pub header-field : (s line : List ℕ) (n from : ℕ) → line ≡ part 10 0 s → Walked 32 line n from → part 32 from line ≡ header_field n s
unfolding part header_field
header-field s line n from first w = walked-part 32 line n from w ∙ ap (λ (l : List ℕ). get_or (split 32 l) n []) first

pub payload-behind : (s : List ℕ) → drop (behind 10 0 s) s ≡ payload s
unfolding payload
payload-behind s = drop-behind 10 0 s
