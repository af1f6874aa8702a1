-- `helping::command` meets its contract: the words are compared one after the other.
use Prim.Native.Nat.{ℕ}
use mathlib.Core.Bool.{Bool, true, false}
use mathlib.Core.List.{List}
use mathlib.Core.Path.{◌≡◌, sym, ap, ◌∙◌}
use Rattle.std.specs.Str.{bytes_eq}
use Rattle.sheets.specs.Cases.{bytes}
use Rattle.sheets.specs.Reading.{same}
use Rattle.commands.specs.Help.{command_of}
use Rattle.commands.proofs.Texts.{same-is}
use Rattle.commands.proofs.helping.command.Goals as goal

-- a word was compared with a command's
tested : (word name is : List ℕ) (r t : Bool) → r ≡ bytes_eq word is → is ≡ name → r ≡ t → same word name ≡ t
tested word name is r t h e f = same-is word name ∙ sym (ap (bytes_eq word) e) ∙ sym h ∙ f

pub returns-then-eq : goal.returns-then-eq
unfolding command_of bytes
returns-then-eq c =
    rw (tested c.args.word.now (bytes "split") _ _ true c.eq.ensures c.as_slice.ensures c.if-eq.true)

pub returns-then-eq-2 : goal.returns-then-eq-2
unfolding command_of bytes
returns-then-eq-2 c =
    rw (
      tested c.args.word.now (bytes "split") _ _ false c.eq.ensures c.as_slice.ensures c.if-eq.false,
      tested c.args.word.now (bytes "lookup") _ _ true c.eq-2.ensures c.as_slice-2.ensures c.if-eq-2.true,
    )

pub returns-then-eq-3 : goal.returns-then-eq-3
unfolding command_of bytes
returns-then-eq-3 c =
    rw (
      tested c.args.word.now (bytes "split") _ _ false c.eq.ensures c.as_slice.ensures c.if-eq.false,
      tested c.args.word.now (bytes "lookup") _ _ false c.eq-2.ensures c.as_slice-2.ensures c.if-eq-2.false,
      tested c.args.word.now (bytes "churn") _ _ true c.eq-3.ensures c.as_slice-3.ensures c.if-eq-3.true,
    )

pub returns-then-eq-4 : goal.returns-then-eq-4
unfolding command_of bytes
returns-then-eq-4 c =
    rw (
      tested c.args.word.now (bytes "split") _ _ false c.eq.ensures c.as_slice.ensures c.if-eq.false,
      tested c.args.word.now (bytes "lookup") _ _ false c.eq-2.ensures c.as_slice-2.ensures c.if-eq-2.false,
      tested c.args.word.now (bytes "churn") _ _ false c.eq-3.ensures c.as_slice-3.ensures c.if-eq-3.false,
      tested c.args.word.now (bytes "update") _ _ true c.eq-4.ensures c.as_slice-4.ensures c.if-eq-4.true,
    )

pub returns-then-eq-5 : goal.returns-then-eq-5
unfolding command_of bytes
returns-then-eq-5 c =
    rw (
      tested c.args.word.now (bytes "split") _ _ false c.eq.ensures c.as_slice.ensures c.if-eq.false,
      tested c.args.word.now (bytes "lookup") _ _ false c.eq-2.ensures c.as_slice-2.ensures c.if-eq-2.false,
      tested c.args.word.now (bytes "churn") _ _ false c.eq-3.ensures c.as_slice-3.ensures c.if-eq-3.false,
      tested c.args.word.now (bytes "update") _ _ false c.eq-4.ensures c.as_slice-4.ensures c.if-eq-4.false,
      tested c.args.word.now (bytes "stages") _ _ true c.eq-5.ensures c.as_slice-5.ensures c.if-eq-5.true,
    )

pub returns-then-eq-6 : goal.returns-then-eq-6
unfolding command_of bytes
returns-then-eq-6 c =
    rw (
      tested c.args.word.now (bytes "split") _ _ false c.eq.ensures c.as_slice.ensures c.if-eq.false,
      tested c.args.word.now (bytes "lookup") _ _ false c.eq-2.ensures c.as_slice-2.ensures c.if-eq-2.false,
      tested c.args.word.now (bytes "churn") _ _ false c.eq-3.ensures c.as_slice-3.ensures c.if-eq-3.false,
      tested c.args.word.now (bytes "update") _ _ false c.eq-4.ensures c.as_slice-4.ensures c.if-eq-4.false,
      tested c.args.word.now (bytes "stages") _ _ false c.eq-5.ensures c.as_slice-5.ensures c.if-eq-5.false,
      tested c.args.word.now (bytes "stage") _ _ true c.eq-6.ensures c.as_slice-6.ensures c.if-eq-6.true,
    )

pub returns-then-eq-7 : goal.returns-then-eq-7
unfolding command_of bytes
returns-then-eq-7 c =
    rw (
      tested c.args.word.now (bytes "split") _ _ false c.eq.ensures c.as_slice.ensures c.if-eq.false,
      tested c.args.word.now (bytes "lookup") _ _ false c.eq-2.ensures c.as_slice-2.ensures c.if-eq-2.false,
      tested c.args.word.now (bytes "churn") _ _ false c.eq-3.ensures c.as_slice-3.ensures c.if-eq-3.false,
      tested c.args.word.now (bytes "update") _ _ false c.eq-4.ensures c.as_slice-4.ensures c.if-eq-4.false,
      tested c.args.word.now (bytes "stages") _ _ false c.eq-5.ensures c.as_slice-5.ensures c.if-eq-5.false,
      tested c.args.word.now (bytes "stage") _ _ false c.eq-6.ensures c.as_slice-6.ensures c.if-eq-6.false,
      tested c.args.word.now (bytes "gauge") _ _ true c.eq-7.ensures c.as_slice-7.ensures c.if-eq-7.true,
    )

pub returns-then-eq-8 : goal.returns-then-eq-8
unfolding command_of bytes
returns-then-eq-8 c =
    rw (
      tested c.args.word.now (bytes "split") _ _ false c.eq.ensures c.as_slice.ensures c.if-eq.false,
      tested c.args.word.now (bytes "lookup") _ _ false c.eq-2.ensures c.as_slice-2.ensures c.if-eq-2.false,
      tested c.args.word.now (bytes "churn") _ _ false c.eq-3.ensures c.as_slice-3.ensures c.if-eq-3.false,
      tested c.args.word.now (bytes "update") _ _ false c.eq-4.ensures c.as_slice-4.ensures c.if-eq-4.false,
      tested c.args.word.now (bytes "stages") _ _ false c.eq-5.ensures c.as_slice-5.ensures c.if-eq-5.false,
      tested c.args.word.now (bytes "stage") _ _ false c.eq-6.ensures c.as_slice-6.ensures c.if-eq-6.false,
      tested c.args.word.now (bytes "gauge") _ _ false c.eq-7.ensures c.as_slice-7.ensures c.if-eq-7.false,
      tested c.args.word.now (bytes "help") _ _ true c.eq-8.ensures c.as_slice-8.ensures c.if-eq-8.true,
    )

pub returns : goal.returns
unfolding command_of bytes
returns c =
    rw (
      tested c.args.word.now (bytes "split") _ _ false c.eq.ensures c.as_slice.ensures c.if-eq.false,
      tested c.args.word.now (bytes "lookup") _ _ false c.eq-2.ensures c.as_slice-2.ensures c.if-eq-2.false,
      tested c.args.word.now (bytes "churn") _ _ false c.eq-3.ensures c.as_slice-3.ensures c.if-eq-3.false,
      tested c.args.word.now (bytes "update") _ _ false c.eq-4.ensures c.as_slice-4.ensures c.if-eq-4.false,
      tested c.args.word.now (bytes "stages") _ _ false c.eq-5.ensures c.as_slice-5.ensures c.if-eq-5.false,
      tested c.args.word.now (bytes "stage") _ _ false c.eq-6.ensures c.as_slice-6.ensures c.if-eq-6.false,
      tested c.args.word.now (bytes "gauge") _ _ false c.eq-7.ensures c.as_slice-7.ensures c.if-eq-7.false,
      tested c.args.word.now (bytes "help") _ _ false c.eq-8.ensures c.as_slice-8.ensures c.if-eq-8.false,
    )
