-- Line 1 of a sheet: what it has where it was read, and how it is read from what a search for its LF finds.
use Rattle.std.specs.Prelude.{Option, Some}
use Prim.Native.Nat.{ℕ, ◌+◌, ◌≤◌, ◌<◌}
use mathlib.Core.Path.{◌≡◌, refl, ap, ◌∙◌}
use mathlib.Core.List.{List, [], ◌∷◌}
use native.Mathlib.Omega.{arith}
use lib.ListN.{length, take, drop}
use lib.Seq.{slice}
use borrow.Author.Tests.{le-leb, lt-leb, leb-true, eqb-true}
use Rattle.numerals.specs.Decimal.{number}
use Rattle.numerals.specs.Text.{split, index_of}
use Rattle.numerals.specs.Limits.{most_bits, text_limit}
use Rattle.numerals.specs.declared.refusal.Refusal.TheVariants.{Malformed, TooLong}
use Rattle.numerals.proofs.Fields.{split-some}
use Rattle.sheets.specs.Reading.{got, refused, unless, field}
use Rattle.sheets.specs.FirstLine.{Opening, opening_fields, opening_lines, first_line}
use Rattle.sheets.proofs.FieldParts.{cut-first, cut-none}
use Rattle.sheets.proofs.Readings.{not-got, got_same, unless-got, on_field-got, same_true}

module _ (word : List ℕ) (second third : List ℕ → (Option ℕ)) where
  -- what was read as line 1
  pub record Opened (text : List ℕ) (o : Opening) : Type 0 where
    pub line : List ℕ
    pub short : length text ≤ text_limit
    pub lines : split 10 text ≡ line ∷ o.behind
    pub some : 1 ≤ length o.behind
    pub named : field (split 32 line) 0 ≡ word
    pub four : length (split 32 line) ≡ 4
    pub bits : number 1 most_bits (field (split 32 line) 1) ≡ Some o.k
    pub left : second (field (split 32 line) 2) ≡ Some o.second
    pub right : third (field (split 32 line) 3) ≡ Some o.third

  pub opened : (text : List ℕ) (o : Opening) → first_line word second third text ≡ got o → Opened text o
  unfolding first_line opening_lines opening_fields
  opened text o e = go (split 10 text) refl (unless-got _ _ _ _ e).1
    where
      go : (ls : List (List ℕ)) → split 10 text ≡ ls → opening_lines word second third ls ≡ got o → Opened text o
      go [] is h = absurd (not-got h)
      go (l ∷ []) is h = absurd (not-got h)
      go (l ∷ m ∷ ls) is h =
          let named = unless-got _ _ _ _ h in
          let four = unless-got _ _ _ _ named.1 in
          let k = on_field-got _ _ _ four.1 in
          let x = on_field-got _ _ _ k.2 in
          let y = on_field-got _ _ _ x.2 in
          let all = got_same y.2 in
          let behind : m ∷ ls ≡ o.behind = ap (λ (p : Opening). p.behind) all in
          record {
            line = l;
            short = leb-true (length text) text_limit (unless-got _ _ _ _ e).0;
            lines = is ∙ ap (λ (r : List (List ℕ)). l ∷ r) behind;
            some = rw (← behind) (omega arith);
            named = same_true (field (split 32 l) 0) word named.0;
            four = eqb-true (length (split 32 l)) 4 four.0;
            bits = k.1 ∙ ap (λ (p : Opening). Some p.k) all;
            left = x.1 ∙ ap (λ (p : Opening). Some p.second) all;
            right = y.1 ∙ ap (λ (p : Opening). Some p.third) all;
          }

  -- a text by its first two lines and those behind them
  pub lines_more : (l : List ℕ) (ls : List (List ℕ)) → 1 ≤ length ls → opening_lines word second third (l ∷ ls) ≡ opening_fields word second third
      (split 32 l) ls
  unfolding opening_lines
  lines_more l [] h = absurd (omega arith)
  lines_more l (m ∷ ls) h = refl

  module _ (text : List ℕ) where
    pub too_long : text_limit < length text → first_line word second third text ≡ refused TooLong 0
    unfolding first_line unless
    too_long h = rw (lt-leb (length text) text_limit h)

    module _ (short : length text ≤ text_limit) (end : ℕ) (is : end ≡ 0 + index_of 10 (slice 0 (length text) text)) where
      whole : first_line word second third text ≡ opening_lines word second third (split 10 text)
      unfolding first_line unless
      whole = rw (le-leb (length text) text_limit short)

      pub no_end : length text ≤ end → first_line word second third text ≡ refused Malformed 1
      unfolding opening_lines
      no_end h = whole ∙ ap (opening_lines word second third) (cut-none 10 end text is h)

      pub ended : end < length text → first_line word second third text ≡ opening_fields word second third (split 32 (take end text))
          (split 10 (drop (end + 1) text))
      ended h =
          whole
          ∙ ap (opening_lines word second third) (cut-first 10 end text is h)
          ∙ lines_more (take end text) (split 10 (drop (end + 1) text)) (split-some 10 (drop (end + 1) text))
