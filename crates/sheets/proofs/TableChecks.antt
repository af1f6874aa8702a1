-- What a table that passed the checks has, and that this is enough to pass.
use Prim.Native.Nat.{ℕ, ◌^◌, ◌≤◌, ◌<◌}
use mathlib.Core.Path.{◌≡◌, refl, sym, ap, ◌∙◌}
use mathlib.Core.Bool.{true, false, ◌&&◌}
use mathlib.Core.List.{List, [], ◌∷◌, reverse, reverse_aux}
use native.Mathlib.Nat.{add-zero}
use lib.Dec.{leb, ltb}
use lib.ListN.{length}
use borrow.Author.Tests.{lt-ltb, le-leb, lt-leb, ltb-true, leb-true, eqb-true}
use native.Mathlib.Omega.{arith}
use Rattle.std.proofs.lemmas.Bool.Decides.{nat_tests}
use Rattle.std.specs.Ordering.{partial_le, is_le, nat_cmp}
use Rattle.std.specs.contracts.prelude.UsizePartialOrd.TheImpl as usize
use Rattle.numerals.proofs.Choice.{both_false, both_left, both_right}
use Rattle.expansion.specs.Answer.{in_limits}
use Rattle.expansion.proofs.Checks.{limits as within}
use Rattle.expansion.specs.FirstMatch.{is_rule}
use Rattle.packing.specs.Count.{Line}
use Rattle.sheets.specs.Reading.{got, then, unless}
use Rattle.sheets.specs.RuleSheet.{Table, count_of, in_order, placed, closed, is_line, check_lines, check_end, check_sheet}
use Rattle.sheets.specs.Inner.Premises.{check_table}
use Rattle.numerals.specs.Limits.{most_bits, most_id, most_services, most_rules, most_capacity, total_limit}
use Rattle.numerals.specs.Suffix.{is_suffix}
use Rattle.sheets.proofs.Readings.{got_same, unless-got, then-got}

-- a number in its limits
pub is_within_lem : (least most x : ℕ) → least ≤ x → x ≤ most → in_limits least most x ≡ true
unfolding in_limits
is_within_lem least most x low high = rw (le-leb least x low, le-leb x most high)

pub below-least : (least most x : ℕ) → x < least → in_limits least most x ≡ false
unfolding in_limits
below-least least most x h = rw (lt-leb least x h)

pub above_most : (least most x : ℕ) → most < x → in_limits least most x ≡ false
unfolding in_limits
above_most least most x h = rw (lt-leb x most h) (both_false (leb least x))

-- `(least..=most).contains(&x)` is that test
le-is : (a b : ℕ) → is_le (nat_cmp a b) ≡ leb a b
le-is a b = grind (arith, nat_tests)

pub contains-is :
    (least most x : ℕ)
    → (partial_le usize.partial_cmp-value.it least x && partial_le usize.partial_cmp-value.it x most) ≡ in_limits least most x
unfolding in_limits
contains-is least most x = rw (le-is least x, le-is x most) (elim (leb least x) [ true ↦ refl | false ↦ refl ])

-- a rule line in its limits
pub record Formed (k : ℕ) (l : Line) : Type 0 where
  pub numbered : 1 ≤ l.service
  pub service : l.service ≤ most_services
  pub short : l.rule.len ≤ k
  pub bits : l.rule.value < 2 ^ l.rule.len
  pub labelled : 1 ≤ l.rule.backend
  pub backend : l.rule.backend ≤ most_id

pub formed : (k : ℕ) (l : Line) → is_line k l ≡ true → Formed k l
unfolding is_line is_rule is_suffix
formed k l h =
    let service = within 1 most_services l.service (both_left (in_limits 1 most_services l.service) _ h) in
    let rest = both_right (in_limits 1 most_services l.service) _ h in
    let rule = both_left (is_rule k l.rule) (in_limits 1 most_id l.rule.backend) rest in
    let backend = within 1 most_id l.rule.backend (both_right (is_rule k l.rule) _ rest) in
    record {
      numbered = service.0;
      service = service.1;
      short = leb-true l.rule.len k (both_left (leb l.rule.len k) (ltb l.rule.value (2 ^ l.rule.len)) rule);
      bits = ltb-true l.rule.value (2 ^ l.rule.len) (both_right (leb l.rule.len k) (ltb l.rule.value (2 ^ l.rule.len)) rule);
      labelled = backend.0;
      backend = backend.1;
    }

pub is-formed : (k : ℕ) (l : Line) → Formed k l → is_line k l ≡ true
unfolding is_line is_rule is_suffix
is-formed k l f =
    rw (
      is_within_lem 1 most_services l.service f.numbered f.service,
      le-leb l.rule.len k f.short,
      lt-ltb l.rule.value (2 ^ l.rule.len) f.bits,
      is_within_lem 1 most_id l.rule.backend f.labelled f.backend,
    )

-- a line that passed behind others
pub record Follows (k : ℕ) (before : List Line) (l : Line) : Type 0 where
  pub form : is_line k l ≡ true
  pub few : ltb (count_of l.service before) most_rules ≡ true
  pub sorted : in_order before l ≡ true

-- each line passed behind those before it, the last of them first
unfoldable pub InOrder : ℕ → List Line → List Line → Type 0
InOrder k before [] = Unit {0}
InOrder k before (l ∷ ls) = Follows k before l × InOrder k (l ∷ before) ls

pub in_order_lem : (k : ℕ) (before ls : List Line) {r : List Line} → check_lines k before ls ≡ got r → InOrder k before ls
unfolding check_lines placed InOrder
in_order_lem k before [] h = tt
in_order_lem k before (l ∷ ls) h =
    let form = unless-got _ _ _ _ h in
    let few = unless-got _ _ _ _ form.1 in
    let sorted = unless-got _ _ _ _ few.1 in
    (record { form = form.0; few = few.0; sorted = sorted.0 }, in_order_lem k (l ∷ before) ls sorted.1)

pub check-lines : (k : ℕ) (before ls : List Line) → InOrder k before ls → check_lines k before ls ≡ got (reverse_aux ls before)
unfolding check_lines placed InOrder unless
check-lines k before [] h = refl
check-lines k before (l ∷ ls) h = rw (h.0.form, h.0.few, h.0.sorted) (check-lines k (l ∷ before) ls h.1)

-- a table as its sheet would have it
pub record Proper (t : Table) : Type 0 where
  pub bits : 1 ≤ t.k
  pub few_bits : t.k ≤ most_bits
  pub some : 1 ≤ length t.lines
  pub few : length t.lines ≤ most_capacity
  pub small : t.total ≤ total_limit
  pub sorted : InOrder t.k [] t.lines
  pub ends : closed (reverse t.lines) ≡ true

pub proper : (t : Table) → check_table t ≡ got t → Proper t
unfolding check_table check_sheet check_end
proper t h =
    let k = unless-got _ _ _ _ h in
    let n = unless-got _ _ _ _ k.1 in
    let count = rw (add-zero (length t.lines)) at n.0 in
    let total = unless-got _ _ _ _ n.1 in
    let lines = then-got _ _ total.1 in
    let sorted = in_order_lem t.k [] t.lines lines.1 in
    let last : lines.0 ≡ reverse t.lines = got_same (sym lines.1 ∙ check-lines t.k [] t.lines sorted) in
    let bits = within 1 most_bits t.k k.0 in
    let size = within 1 most_capacity (length t.lines) count in
    record {
      bits = bits.0;
      few_bits = bits.1;
      some = size.0;
      few = size.1;
      small = leb-true t.total total_limit total.0;
      sorted = sorted;
      ends = ap closed (sym last) ∙ (unless-got _ _ _ _ (unless-got _ _ _ _ lines.2).1).0;
    }

-- a check that passes answers the table itself, and no broken line stands behind its lines
pub check-same : (t u : Table) (broken : ℕ) → check_sheet t broken ≡ got u → (t ≡ u) × (broken ≡ 0)
unfolding check_sheet check_end
check-same t u broken h =
    let k = unless-got _ _ _ _ h in
    let n = unless-got _ _ _ _ k.1 in
    let total = unless-got _ _ _ _ n.1 in
    let lines = then-got _ _ total.1 in
    let whole = unless-got _ _ _ _ lines.2 in
    (got_same (unless-got _ _ _ _ whole.1).1, eqb-true broken 0 whole.0)

pub checked : (t : Table) → Proper t → check_table t ≡ got t
unfolding check_table check_sheet check_end unless then
checked t p =
    rw (
      is_within_lem 1 most_bits t.k p.bits p.few_bits,
      add-zero (length t.lines),
      is_within_lem 1 most_capacity (length t.lines) p.some p.few,
      le-leb t.total total_limit p.small,
      check-lines t.k [] t.lines p.sorted,
      p.ends,
    )
