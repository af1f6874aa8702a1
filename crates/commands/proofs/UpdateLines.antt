-- The lines of an update: its first line and a rule line in parts, and the lines of rules in numbers, three of each: one more, none left, and those that
-- a call filled in.
use Rattle.std.specs.Prelude.{Result}
use Prim.Native.Nat.{ℕ, ◌+◌, ◌*◌, ◌≤◌, ◌<◌}
use mathlib.Core.Path.{◌≡◌, ap, ◌∙◌}
use mathlib.Core.Bool.{true}
use mathlib.Core.List.{List, [], ◌∷◌, ◌++◌, append_assoc}
use native.Mathlib.Omega.{arith}
use lib.ListN.{length, get_or, drop, length-append, get_or-append}
use lib.Seq.{slice, sets, sets-eq, length-sets, take_at}
use Rattle.numerals.specs.Decimal.{decimal}
use Rattle.numerals.specs.Digits.{put, put_end}
use Rattle.numerals.specs.Suffix.{is_suffix, suffix_text, put_suffix, put_suffix_end}
use Rattle.numerals.specs.Limits.{most_bits, most_rules}
use Rattle.numerals.proofs.Slice.{slice-more, slice-none}
use Rattle.numerals.proofs.SuffixTexts.{suffix-limits, length-suffix}
use Rattle.expansion.specs.FirstMatch.{is_rule}
use Rattle.expansion.specs.OldList.{rules_from}
use Rattle.expansion.specs.Inner.OldList.{rule_at}
use Rattle.expansion.specs.declared.rule.Rule.{Rule}
use Rattle.packing.specs.Table.{lines_of}
use Rattle.sheets.specs.Cases.{bytes}
use Rattle.sheets.specs.RuleSheet.{line_text, lines_text}
use Rattle.sheets.specs.Inner.Writing.{Wrote, Before, end_at}
use Rattle.sheets.proofs.Writes.{text, before-end}
use Rattle.update.specs.declared.answer.Update.{Update}
use Rattle.commands.specs.Update.{update_head}
use Rattle.commands.specs.Inner.Update.{line_of, rules_in, Rules, suffix_room}
use Rattle.numerals.specs.declared.refusal.Refusal.{Refusal}

-- UPDATE and a space
abbrev pub word : List ℕ
word = 85 ∷ 80 ∷ 68 ∷ 65 ∷ 84 ∷ 69 ∷ 32 ∷ []

pub head-parts :
    (u : Update)
    → (word ++ ((decimal u.k ++ 32 ∷ []) ++ (decimal u.kept ++ 32 ∷ []))) ++ ((decimal u.rules ++ 32 ∷ []) ++ (decimal u.churn ++ 10 ∷ []))
    ≡ update_head u
unfolding update_head bytes
head-parts u = simp append_assoc

pub line-parts :
    (n : ℕ) (r : Rule)
    → ((decimal n ++ 32 ∷ []) ++ (suffix_text r.len r.value ++ 32 ∷ [])) ++ (decimal r.backend ++ 10 ∷ []) ≡ line_text (line_of n r)
unfolding line_text
line-parts n r = simp append_assoc

-- a suffix that can be written is, and ends before the room for it does
module _ (len value : ℕ) (is : is_suffix most_bits len value ≡ true) where
  module _
      (out : List ℕ)
      (at : ℕ)
      (room : at + suffix_room ≤ length out)
      (w : Result ℕ Refusal)
      (after : List ℕ)
      (ends : w ≡ put_suffix_end out at len value)
      (puts : after ≡ put_suffix out at len value)
    where
      fits : at + length (suffix_text len value) < length out
      fits = omega (arith, length-suffix len value, (suffix-limits len value is).short)

      answer : w ≡ put_end out at (suffix_text len value)
      unfolding put_suffix_end
      answer = ends ∙ rw is

      buffer : after ≡ put out at (suffix_text len value)
      unfolding put_suffix
      buffer = puts ∙ rw is

      pub suffix-text : Wrote out after at (end_at w) (suffix_text len value)
      suffix-text = text out at (suffix_text len value) fits w after answer buffer

      pub suffix-before : Before w (length after)
      suffix-before = before-end out at (suffix_text len value) fits w after answer buffer

  pub suffix-soon : {a b : List ℕ} {at next : ℕ} → Wrote a b at next (suffix_text len value ++ 32 ∷ []) → next ≤ at + suffix_room
  suffix-soon w =
      omega (arith, w.ends, length-append (suffix_text len value) (32 ∷ []), length-suffix len value, (suffix-limits len value is).short)

-- the numbers of a rule, and those behind it up to a position
three-more :
    (cs : List ℕ) (to : ℕ) → to ≤ length cs → (i : ℕ) → 3 * i + 3 ≤ to
    → slice (3 * i) to cs ≡ get_or cs (3 * i) 0 ∷ get_or cs (3 * i + 1) 0 ∷ get_or cs (3 * i + 2) 0 ∷ slice (3 * (i + 1)) to cs
three-more cs to room i h =
    let one : 3 * i + 1 + 1 ≡ 3 * i + 2 = omega arith in
    let two : 3 * i + 2 + 1 ≡ 3 * (i + 1) = omega arith in
    slice-more (3 * i) to cs (omega arith) (omega arith)
    ∙ rw (
      slice-more (3 * i + 1) to cs (omega arith) (omega arith),
      one,
      slice-more (3 * i + 2) to cs (omega arith) (omega arith),
      two,
    )

-- the text of the rules from rule i on
abbrev pub text_from : ℕ → List ℕ → ℕ → ℕ → List ℕ
text_from service cs n i = lines_text (lines_of service (rules_from (slice (3 * i) (3 * n) cs)))

module _ (service : ℕ) (cs : List ℕ) (n : ℕ) (room : 3 * n ≤ length cs) where
  pub text-more : (i : ℕ) → i < n → text_from service cs n i ≡ line_text (line_of service (rule_at cs i)) ++ text_from service cs n (i + 1)
  unfolding rules_from lines_of lines_text
  text-more i h = ap (λ (l : List ℕ). lines_text (lines_of service (rules_from l))) (three-more cs (3 * n) room i (omega arith))

  pub text-none : (i : ℕ) → n ≤ i → text_from service cs n i ≡ []
  unfolding rules_from lines_of lines_text
  text-none i h = ap (λ (l : List ℕ). lines_text (lines_of service (rules_from l))) (slice-none (3 * i) (3 * n) cs (omega arith))

-- the rules of numbers that stand at the start of a buffer
module _
    (out cs : List ℕ)
    (n : ℕ)
    (room : 3 * n ≤ length out)
    (long : length cs ≡ 3 * n)
    (few : n ≤ most_rules)
    (each : (i : ℕ) → i < n → is_rule most_bits (rule_at cs i) ≡ true)
  where
    parts : sets out 0 cs ≡ cs ++ drop (length cs) out
    parts =
        let start : 0 + length cs ≡ length cs = omega arith in
        sets-eq cs out 0 (omega arith) ∙ ap (λ (i : ℕ). cs ++ drop i out) start

    at : (j : ℕ) → j < 3 * n → get_or (sets out 0 cs) j 0 ≡ get_or cs j 0
    at j h = rw parts (get_or-append cs (drop (length cs) out) 0 j (omega arith))

    pub filled-rules : Rules (sets out 0 cs) n
    filled-rules =
        record {
          room = omega (arith, length-sets out 0 cs);
          few = few;
          each = λ i h. rw (at (3 * i) (omega arith), at (3 * i + 1) (omega arith), at (3 * i + 2) (omega arith)) (each i h);
        }

    pub filled-list : rules_in (sets out 0 cs) n ≡ rules_from cs
    filled-list = ap rules_from (rw parts (take_at cs (drop (length cs) out) (3 * n) long))
