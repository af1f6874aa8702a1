-- `rule_sheet::read_line` meets its contract: each return by the fields that led to it, behind any lines.
use Prim.Native.Nat.{ℕ}
use mathlib.Core.Path.{◌≡◌, sym, ap, ◌∙◌}
use mathlib.Core.List.{List}
use lib.ListN.{length}
use lib.Seq.{take-length}
use borrow.Author.Tests.{eq-eqb, ne_eqb}
use Rattle.numerals.specs.Decimal.{number}
use Rattle.numerals.specs.Limits.{most_id, most_services}
use Rattle.numerals.specs.Suffix.{suffix}
use Rattle.numerals.specs.Text.{split}
use Rattle.numerals.proofs.Decimal.{Numeral, only-text}
use Rattle.numerals.proofs.SuffixTexts.{suffix-only}
use Rattle.packing.specs.Count.{Line}
use Rattle.numerals.proofs.Exits.{handed_on, had, had_none}
use Rattle.sheets.specs.Reading.{Reading, got, field, unless, on_field}
use Rattle.sheets.specs.RuleSheet.{on_suffix, placed, rule_fields}
use Rattle.sheets.specs.Inner.TableNumbers.{line}
use Rattle.sheets.proofs.TableChecks.{is-formed}
use Rattle.sheets.proofs.rule_sheet.read_line.Goals as goal
use Rattle.sheets.proofs.rule_sheet.read_line.Goals.{After-count_fields, After-read_suffix, Else-count_fields-ne3, In_ok-suffix, In_ok-service, In_ok-backend}

count : (c : After-count_fields) → c.count_fields.result ≡ length (split 32 c.args.line.now)
count c = c.count_fields.ensures ∙ ap (λ (l : List ℕ). length (split 32 l)) (take-length c.args.line.now)

pub returns-then-count_fields-ne3 : goal.returns-then-count_fields-ne3
unfolding rule_fields unless
returns-then-count_fields-ne3 c =
    let n = count (goal.at.returns-then-count_fields-ne3 c).After-count_fields in
    λ before at. simp (ne_eqb _ 3 (λ e. c.if-count_fields-ne3.true (n ∙ e)))

-- what is left of a line once its service was read, and once its suffix was
abbrev giving : List Line → ℕ → List (List ℕ) → ℕ → ℕ → ℕ → Reading Line
giving before at fs s l v =
    on_field (number 1 most_id (field fs 2)) at (λ b. placed before (line s l v b) at (got (line s l v b)))

abbrev matching : ℕ → List Line → ℕ → List (List ℕ) → ℕ → Reading Line
matching k before at fs s = on_suffix (suffix k (field fs 1)) at (giving before at fs s)

three :
    (c : Else-count_fields-ne3) (before : List Line) (at : ℕ)
    → let a = c.args in
    let fs = split 32 a.line.now in
    rule_fields a.k before at fs ≡ on_field (number 1 most_services (field fs 0)) at (matching a.k before at fs)
unfolding rule_fields unless
three c before at = simp (eq-eqb _ 3 (sym (count (goal.at.Else-count_fields-ne3 c).After-count_fields) ∙ c.if-count_fields-ne3.false))

own :
    (c : In_ok-service) (before : List Line) (at : ℕ)
    → let a = c.args in
    let fs = split 32 a.line.now in
    rule_fields a.k before at fs ≡ matching a.k before at fs c.in_ok-service.service
unfolding on_field
own c before at = three (goal.at.In_ok-service c).Else-count_fields-ne3 before at ∙ rw (sym c.number_in.ensures ∙ had _ _ c.ok_or.ensures.value c.in_ok-service.was)

bits :
    (c : After-read_suffix)
    → let a = c.args in
    suffix a.k (field (split 32 a.line.now) 1) ≡ c.read_suffix.result
bits c =
    let f = c.field_at-field in
    ap (suffix c.args.k) (sym f.ensures ∙ sym (take-length f.result.now)) ∙ sym c.read_suffix.ensures

matched :
    (c : In_ok-suffix) (before : List Line) (at : ℕ)
    → let a = c.args in
    let fs = split 32 a.line.now in
    rule_fields a.k before at fs ≡ giving before at fs c.in_ok-service.service c.in_ok-suffix.suffix.len c.in_ok-suffix.suffix.value
unfolding on_suffix
matched c before at = own (goal.at.In_ok-suffix c).In_ok-service before at ∙ rw (bits (goal.at.In_ok-suffix c).After-read_suffix ∙ had _ _ c.ok_or-2.ensures.value c.in_ok-suffix.was)

pub returns-in_err-service : goal.returns-in_err-service
unfolding on_field
returns-in_err-service c =
    let n = had_none _ _ c.ok_or.ensures.value c.in_err-service.was in
    rw (handed_on _ _ c.from_residual.ensures, n.1)
    (λ before at. three (goal.at.returns-in_err-service c).Else-count_fields-ne3 before at ∙ rw (sym c.number_in.ensures ∙ n.0))

pub returns-in_err-suffix : goal.returns-in_err-suffix
unfolding on_suffix
returns-in_err-suffix c =
    let n = had_none _ _ c.ok_or-2.ensures.value c.in_err-suffix.was in
    rw (handed_on _ _ c.from_residual-in_err-suffix.ensures, n.1)
    (λ before at. own (goal.at.returns-in_err-suffix c).In_ok-service before at ∙ rw
    (bits (goal.at.returns-in_err-suffix c).After-read_suffix ∙ n.0))

pub returns-in_err-backend : goal.returns-in_err-backend
unfolding on_field
returns-in_err-backend c =
    let n = had_none _ _ c.ok_or-3.ensures.value c.in_err-backend.was in
    rw (handed_on _ _ c.from_residual-in_err-backend.ensures, n.1)
    (λ before at. matched (goal.at.returns-in_err-backend c).In_ok-suffix before at ∙ rw (sym c.number_in-2.ensures ∙ n.0))

service :
    (c : In_ok-backend)
    → let a = c.args in
    Numeral 1 most_services c.in_ok-service.service (field (split 32 a.line.now) 0)
service c =
    only-text _ _ _ _ (sym c.number_in.ensures ∙ had _ _ c.ok_or.ensures.value c.in_ok-service.was)

backend :
    (c : In_ok-backend)
    → let a = c.args in
    Numeral 1 most_id c.in_ok-backend.backend (field (split 32 a.line.now) 2)
backend c = only-text _ _ _ _ (sym c.number_in-2.ensures ∙ had _ _ c.ok_or-3.ensures.value c.in_ok-backend.was)

pub returns : goal.returns
unfolding on_field
returns c =
    let short = suffix-only _ _ _ _ (bits (goal.at.returns c).After-read_suffix ∙ had _ _ c.ok_or-2.ensures.value c.in_ok-suffix.was) in (
      is-formed _ _
          (record {
            numbered = (service c).low;
            service = (service c).high;
            short = short.short;
            bits = short.small;
            labelled = (backend c).low;
            backend = (backend c).high;
          }),
      λ before at. matched (goal.at.returns c).In_ok-suffix before at ∙ rw (sym c.number_in-2.ensures ∙ had _ _ c.ok_or-3.ensures.value c.in_ok-backend.was),
    )
