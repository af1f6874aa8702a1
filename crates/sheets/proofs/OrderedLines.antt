-- Lines that each passed behind those before them, the last first, as a reader has them: at most 32 of a service and 2,048 in all; and a text that
-- was read is a table that passes the checks.
use Prim.Native.Nat.{ℕ, suc, ◌+◌, ◌-◌, ◌≤◌}
use mathlib.Core.Path.{◌≡◌, refl, sym, ap, subst}
use mathlib.Core.List.{List, [], ◌∷◌, reverse, reverse_aux, reverse-reverse}
use native.Mathlib.Omega.{arith}
use lib.ListN.{length, length-reverse}
use borrow.Author.Tests.{ltb-true}
use Rattle.numerals.specs.Text.{split}
use Rattle.numerals.proofs.Decimal.{only-text}
use Rattle.numerals.proofs.SuffixTexts.{suffix-only}
use Rattle.numerals.specs.Sums.{sum_to}
use Rattle.numerals.proofs.Sums.{sum_one, sum-most, sum-zero}
use Rattle.packing.specs.Count.{Line, own_rules}
use Rattle.sheets.specs.Reading.{got, field}
use Rattle.sheets.specs.RuleSheet.{Table, count_of, rule_fields, rule_lines, placed, whole_table, table_line, read_table}
use Rattle.sheets.specs.Inner.Premises.{check_table}
use Rattle.numerals.specs.Limits.{most_bits, most_id, most_services, most_rules, most_capacity, total_limit}
use Rattle.sheets.specs.Inner.TableNumbers.{line}
use Rattle.sheets.proofs.Readings.{got_same, unless-got, on_field-got, on_suffix-got, then-got}
use Rattle.sheets.proofs.OpeningLine.{opened}
use Rattle.sheets.proofs.TableChecks.{Follows, InOrder, formed, is-formed, Proper, checked}
use Rattle.sheets.proofs.Following.{count_same, count-other, by-service}

unfoldable pub Ordered : ℕ → List Line → Type 0
Ordered k [] = Unit {0}
Ordered k (l ∷ ls) = Follows k ls l × Ordered k ls

pub ordered-none : (k : ℕ) → Ordered k []
unfolding Ordered
ordered-none k = tt

pub ordered-next : {k : ℕ} {l : Line} {ls : List Line} → Follows k ls l → Ordered k ls → Ordered k (l ∷ ls)
unfolding Ordered
ordered-next f h = (f, h)

-- the same lines, the first first
pub ordered-before : (k : ℕ) (before ls : List Line) → Ordered k (reverse_aux ls before) → Ordered k before
unfolding Ordered
ordered-before k before [] h = h
ordered-before k before (l ∷ ls) h = (ordered-before k (l ∷ before) ls h).1

pub ordered-sorted : (k : ℕ) (before ls : List Line) → Ordered k (reverse_aux ls before) → InOrder k before ls
unfolding Ordered InOrder
ordered-sorted k before [] h = tt
ordered-sorted k before (l ∷ ls) h = ((ordered-before k (l ∷ before) ls h).0, ordered-sorted k (l ∷ before) ls h)

pub sorted-ordered : (k : ℕ) (before ls : List Line) → Ordered k before → InOrder k before ls → Ordered k (reverse_aux ls before)
unfolding Ordered InOrder
sorted-ordered k before [] b h = b
sorted-ordered k before (l ∷ ls) b h = sorted-ordered k (l ∷ before) ls (h.0, b) h.1

-- at most 32 lines of a service
pub few-own : (k s : ℕ) (ls : List Line) → Ordered k ls → count_of s ls ≤ most_rules
unfolding Ordered count_of own_rules
few-own k s [] h = omega arith
few-own k s (l ∷ ls) h =
    by-service s l
    (λ e. subst (λ (x : ℕ). count_of x (l ∷ ls) ≤ most_rules) e (omega (arith, count_same l ls, ltb-true (count_of l.service ls) most_rules h.0.few)))
    (λ n. omega (arith, count-other s l ls n, few-own k s ls h.1))

-- every line is of one of the services
all_own : (k : ℕ) (ls : List Line) → Ordered k ls → length ls ≡ sum_to most_services (λ s. count_of (suc s) ls)
unfolding Ordered count_of own_rules
all_own k [] h = sym (sum-zero most_services (λ s. count_of (suc s) []) (λ i l. refl))
all_own k (l ∷ ls) h =
    let f = formed k l h.0.form in
    let own : suc (l.service - 1) ≡ l.service = omega (arith, f.numbered) in
    let more = sum_one most_services (λ s. count_of (suc s) (l ∷ ls)) (λ s. count_of (suc s) ls) (l.service - 1) (omega (arith, f.numbered, f.service))
    (λ i m n. count-other (suc i) l ls (λ e. n (omega arith))) in
    omega (
      arith,
      all_own k ls h.1,
      count_same l ls,
      more,
      ap (λ (x : ℕ). count_of x (l ∷ ls)) own,
      ap (λ (x : ℕ). count_of x ls) own,
    )

pub few-lines : (k : ℕ) (ls : List Line) → Ordered k ls → length ls ≤ most_capacity
few-lines k ls h = omega (arith, all_own k ls h, sum-most most_services (λ s. count_of (suc s) ls) most_rules (λ s l. few-own k (suc s) ls h))

-- a line that was read passed behind the others
pub line-follows : (k : ℕ) (before : List Line) (at : ℕ) (fs : List (List ℕ)) (l : Line) → rule_fields k before at fs ≡ got l → Follows k before l
unfolding rule_fields placed
line-follows k before at fs l e =
    let three = unless-got _ _ _ _ e in
    let s = on_field-got _ _ _ three.1 in
    let r = on_suffix-got _ _ _ s.2 in
    let b = on_field-got _ _ _ r.3 in
    let few = unless-got _ _ _ _ b.2 in
    let sorted = unless-got _ _ _ _ few.1 in
    let service = only-text 1 most_services s.0 (field fs 0) s.1 in
    let suffix = suffix-only k r.0 r.1 (field fs 1) r.2 in
    let backend = only-text 1 most_id b.0 (field fs 2) b.1 in
    let follows : Follows k before (line s.0 r.0 r.1 b.0) =
    record {
      form =
          is-formed k (line s.0 r.0 r.1 b.0)
          (record {
            numbered = service.low;
            service = service.high;
            short = suffix.short;
            bits = suffix.small;
            labelled = backend.low;
            backend = backend.high;
          });
      few = few.0;
      sorted = sorted.0;
    } in
    rw (got_same sorted.1) at follows

pub lines-ordered :
    (k : ℕ) (before : List Line) (ms : List (List ℕ)) (all : List Line) → Ordered k before → rule_lines k before ms ≡ got all → Ordered k all
unfolding rule_lines Ordered
lines-ordered k before [] all h e = rw (got_same e) at h
lines-ordered k before (l ∷ []) all h e = rw (got_same (unless-got _ _ _ _ e).1) at h
lines-ordered k before (l ∷ m ∷ ms) all h e =
    let read = then-got _ _ e in
    lines-ordered k (read.0 ∷ before) (m ∷ ms) all (line-follows k before (length before + 2) (split 32 l) read.0 read.1, h) read.2

pub read-proper : (text : List ℕ) (t : Table) → read_table text ≡ got t → Proper t
unfolding read_table table_line whole_table
read-proper text t e =
    let first = then-got _ _ e in
    let o = first.0 in
    let O = opened _ _ _ text o first.1 in
    let bits = only-text 1 most_bits o.k _ O.bits in
    let amount = only-text 0 total_limit o.third _ O.right in
    let read = then-got _ _ first.2 in
    let all = read.0 in
    let some = unless-got _ _ _ _ read.2 in
    let whole = unless-got _ _ _ _ some.1 in
    let last = unless-got _ _ _ _ whole.1 in
    let stands = lines-ordered o.k [] o.behind all (ordered-none o.k) read.1 in
    let made : Proper (record { k = o.k; total = o.third; lines = reverse all }) =
    record {
      bits = bits.low;
      few_bits = bits.high;
      some = omega (arith, length-reverse all, ltb-true 0 (length all) some.0);
      few = omega (arith, length-reverse all, few-lines o.k all stands);
      small = amount.high;
      sorted = ordered-sorted o.k [] (reverse all) (rw (reverse-reverse all) stands);
      ends = rw (reverse-reverse all) last.0;
    } in
    rw (got_same last.1) at made

-- a text that was read is a table that passes the checks of one that is no text
pub read-checked : (text : List ℕ) (t : Table) → read_table text ≡ got t → check_table t ≡ got t
read-checked text t e = checked t (read-proper text t e)
