-- A rule sheet's own refusals are never 8, so that the mark of an absent service can stand in its place.
use Rattle.std.specs.Prelude.{None, Option, Some}
use Prim.Native.Nat.{ℕ, ◌+◌}
use mathlib.Core.Path.{◌≡◌, refl}
use mathlib.Core.Bool.{Bool, true, false}
use mathlib.Core.List.{List, [], ◌∷◌}
use lib.Dec.{eqb}
use lib.ListN.{length}
use Rattle.numerals.specs.Decimal.{number}
use Rattle.numerals.specs.Text.{split}
use Rattle.numerals.specs.Limits.{most_capacity, total_limit}
use Rattle.numerals.specs.Refusals.{number_of, no8}
use Rattle.numerals.specs.declared.refusal.Refusal.{Refusal}
use Rattle.packing.specs.Count.{Line}
use Rattle.sheets.specs.Reading.{Reading, got, refused, then, unless, on_field}
use Rattle.sheets.specs.FirstLine.{opening_fields, opening_lines, first_line}
use Rattle.sheets.specs.RuleSheet.{on_suffix, placed, rule_fields, rule_lines, whole_table, table_word, table_line, read_table}
use Rattle.numerals.specs.declared.suffixes.Suffix.{Suffix}

abbrev Other : Refusal → Type 0
Other why = eqb (number_of why) (number_of no8) ≡ false

-- what was read, or a refusal other than 8
abbrev Never : {A : Type 0} → Reading A → Type 0
Never (got a) = Unit {0}
Never (refused why line) = Other why

module _ {A : Type 0} where
  never-then : {B : Type 0} (r : Reading A) (f : A → Reading B) → Never r → ((a : A) → Never (f a)) → Never (then r f)
  unfolding then
  never-then (got a) f n m = m a
  never-then (refused why line) f n m = n

  never-unless : (t : Bool) (why : Refusal) (line : ℕ) (next : Reading A) → Other why → Never next → Never (unless t why line next)
  unfolding unless
  never-unless true why line next o n = n
  never-unless false why line next o n = o

  never-field : (n : (Option ℕ)) (line : ℕ) (f : ℕ → Reading A) → ((v : ℕ) → Never (f v)) → Never (on_field n line f)
  unfolding on_field number_of
  never-field (Some v) line f n = n v
  never-field None line f n = refl

  never-suffix : (s : (Option Suffix)) (line : ℕ) (f : ℕ → ℕ → Reading A) → ((l v : ℕ) → Never (f l v)) → Never (on_suffix s line f)
  unfolding on_suffix number_of
  never-suffix (Some s) line f n = n s.len s.value
  never-suffix None line f n = refl

  never_placed : (before : List Line) (l : Line) (at : ℕ) (next : Reading A) → Never next → Never (placed before l at next)
  unfolding placed number_of
  never_placed before l at next n = never-unless _ _ at _ refl (never-unless _ _ at next refl n)

never-rule : (k : ℕ) (before : List Line) (at : ℕ) (fs : List (List ℕ)) → Never (rule_fields k before at fs)
unfolding rule_fields number_of
never-rule k before at fs =
    never-unless _ _ at _ refl
    (never-field _ at _ (λ s. never-suffix _ at _ (λ l v. never-field _ at _ (λ b. never_placed before _ at _ tt))))

never-rules : (k : ℕ) (before : List Line) (ls : List (List ℕ)) → Never (rule_lines k before ls)
unfolding rule_lines number_of
never-rules k before [] = tt
never-rules k before (l ∷ []) = never-unless _ _ (length before + 2) _ refl tt
never-rules k before (l ∷ m ∷ ls) =
    never-then (rule_fields k before (length before + 2) (split 32 l)) _ (never-rule k before (length before + 2) (split 32 l))
    (λ line. never-rules k (line ∷ before) (m ∷ ls))

never-whole : (k n total : ℕ) (ls : List Line) → Never (whole_table k n total ls)
unfolding whole_table number_of
never-whole k n total ls = never-unless _ _ 1 _ refl (never-unless _ _ 1 _ refl (never-unless _ _ (length ls + 1) _ refl tt))

module _ (word : List ℕ) (second third : List ℕ → (Option ℕ)) where
  never-opening : (fs behind : List (List ℕ)) → Never (opening_fields word second third fs behind)
  unfolding opening_fields number_of
  never-opening fs behind =
      never-unless _ _ 1 _ refl (never-unless _ _ 1 _ refl (never-field _ 1 _ (λ k. never-field _ 1 _ (λ x. never-field _ 1 _ (λ y. tt)))))

  never-lines : (ls : List (List ℕ)) → Never (opening_lines word second third ls)
  unfolding opening_lines number_of
  never-lines [] = refl
  never-lines (l ∷ []) = refl
  never-lines (l ∷ m ∷ ls) = never-opening (split 32 l) (m ∷ ls)

  never_first : (text : List ℕ) → Never (first_line word second third text)
  unfolding first_line number_of
  never_first text = never-unless _ _ 0 _ refl (never-lines (split 10 text))

pub never-eight : (text : List ℕ) → Never (read_table text)
unfolding read_table table_line
never-eight text =
    never-then (table_line text) _ (never_first table_word (number 1 most_capacity) (number 0 total_limit) text)
    (λ line. never-then (rule_lines line.k [] line.behind) _ (never-rules line.k [] line.behind)
    (never-whole line.k line.second line.third))
