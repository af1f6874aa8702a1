-- The cells that the program writes off its stored lists are those of the table of its grants, and the figures those of document 01.
use Prim.Native.Nat.{ℕ, zero, suc, ◌-◌, ◌≤◌, ◌<◌, min}
use mathlib.Core.Path.{◌≡◌, refl, sym, ap, ap₂, ◌∙◌}
use mathlib.Core.List.{List, [], ◌∷◌, ◌++◌, reverse, reverse-reverse}
use native.Mathlib.Omega.{arith}
use lib.ListN.{length, get_or, drop, length-reverse}
use lib.Seq.{take_all}
use Rattle.numerals.specs.Sums.{sum_to}
use Rattle.expansion.specs.Steps.{Frame, oldest}
use Rattle.expansion.specs.Inner.Lists.{no_rule, newest_first}
use Rattle.expansion.specs.declared.rule.Rule.{Rule}
use Rattle.numerals.proofs.Sums.{sum-ext, sum-le}
use Rattle.expansion.proofs.Listing.{take-newest, oldest-newest}
use Rattle.packing.specs.Grants.{Grants}
use Rattle.packing.specs.Count.{Line, Services, services}
use Rattle.packing.specs.Table.{frame_of, list_for, lines_of, table_of, granted, one_each}
use Rattle.packing.specs.Answer.{figures_to, figures_made, cells}
use Rattle.packing.specs.Inner.Lists.{place_of, rule_at, Listed, Granted}
use Rattle.packing.specs.Inner.Stored.{stored_lines, stored_figures, stored_cells, stored_table}
use Rattle.packing.proofs.Tables.{length-table}

-- the c oldest rules of a list, by its reverse
pub oldest-reverse : (rs : List Rule) (c : ℕ) → c ≤ length rs → oldest c rs ≡ newest_first (reverse rs) c
oldest-reverse rs c l =
    ap (oldest c) (sym (reverse-reverse rs) ∙ ap reverse whole ∙ reverse-reverse (newest_first (reverse rs) (length rs)))
    ∙ oldest-newest (reverse rs) c (length rs) l
  where
    whole : reverse rs ≡ reverse (newest_first (reverse rs) (length rs))
    whole =
        sym (take_all (length rs) (reverse rs) (omega (arith, length-reverse rs)))
        ∙ take-newest (reverse rs) (length rs) (omega (arith, length-reverse rs))

pub cells-append : (a b : List Line) → cells (a ++ b) ≡ cells a ++ cells b
unfolding cells
cells-append [] b = refl
cells-append (l ∷ a) b =
    ap (λ (r : List ℕ). l.service ∷ l.rule.len ∷ l.rule.value ∷ l.rule.backend ∷ r) (cells-append a b)

-- a list cut at its own length is whole
oldest-cut : (rs : List Rule) (g : ℕ) → oldest (min g (length rs)) rs ≡ oldest g rs
unfolding oldest
oldest-cut rs g =
    let e : length rs - min g (length rs) ≡ length rs - g = omega arith in
    ap (λ (d : ℕ). drop d rs) e

-- the cells of c rules of a listing
cells_of :
    (lens values backends : List ℕ) (rs : List Rule) (s c : ℕ)
    → ((j : ℕ) → j < c → get_or lens (place_of s (suc j)) 0 ≡ (get_or rs j no_rule).len)
    → ((j : ℕ) → j < c → get_or values (place_of s (suc j)) 0 ≡ (get_or rs j no_rule).value)
    → ((j : ℕ) → j < c → get_or backends (place_of s (suc j)) 0 ≡ (get_or rs j no_rule).backend)
    → stored_cells lens values backends s c ≡ cells (lines_of (suc s) (newest_first rs c))
unfolding stored_cells cells lines_of newest_first
cells_of lens values backends rs s zero p q r = refl
cells_of lens values backends rs s (suc c) p q r =
    rw (
      p c (omega arith),
      q c (omega arith),
      r c (omega arith),
      cells_of lens values backends rs s c (λ j l. p j (omega arith)) (λ j l. q j (omega arith)) (λ j l. r j (omega arith)),
    )

module _ (n : ℕ) (frames : ℕ → Frame) (lists : ℕ → List Rule) (lens values backends stairs counts ends : List ℕ)
    (listed : Listed n frames lists lens values backends stairs counts ends) where
  module _ (g : Grants) (grants : List ℕ) (kept : Granted n g grants) where
    -- the table of any grants, past the end of a list too
    cells-to :
        (m : ℕ) → m ≤ n
        → stored_table (stored_lines grants counts) lens values backends m ≡ cells (table_of m lists g)
    unfolding stored_table table_of cells rule_at
    cells-to zero l = refl
    cells-to (suc m) l =
        let rs : List Rule = lists m in
        let c : ℕ = min (g m) (length rs) in
        let lines : min (get_or grants m 0) (get_or counts m 0) ≡ c = ap₂ min (kept.grant m l) (listed.stepped.count m l) in
        ap₂ ◌++◌ (cells-to m (omega arith))
        (ap (stored_cells lens values backends m) lines
        ∙ cells_of lens values backends (reverse rs) m c (λ j h. listed.len m j l (omega arith))
        (λ j h. listed.value m j l (omega arith)) (λ j h. listed.backend m j l (omega arith))
        ∙ ap (λ (r : List Rule). cells (lines_of (suc m) r)) (sym (oldest-reverse rs c (omega arith)) ∙ oldest-cut rs (g m)))
        ∙ sym (cells-append (table_of m lists g) (lines_of (suc m) (oldest (g m) rs)))

    pub table_kept : stored_table (stored_lines grants counts) lens values backends n ≡ cells (table_of n lists g)
    table_kept = cells-to n (omega arith)

    -- the number of lines
    pub lines-kept : sum_to n (stored_lines grants counts) ≡ length (table_of n lists g)
    lines-kept =
        sum-ext n (stored_lines grants counts) (λ s. min (g s) (length (lists s)))
        (λ s l. ap₂ min (kept.grant s l) (listed.stepped.count s l))
        ∙ sym (length-table n lists g)

    -- there are no more than grants
    pub lines-le : sum_to n (stored_lines grants counts) ≤ sum_to n g
    lines-le = sum-le n (stored_lines grants counts) g (λ s l. omega (arith, kept.grant s l))

-- the figures are those of document 01's packing
module _ (S : Services) (tolerance : ℕ) (lens values backends stairs counts ends : List ℕ)
    (listed : Listed (services S) (frame_of S tolerance) (list_for S tolerance) lens values backends stairs counts ends)
    (capacity : ℕ) (grants : List ℕ) (kept : Granted (services S) (granted S tolerance one_each capacity) grants) where
  figures-to : (n : ℕ) → n ≤ services S → stored_figures grants counts ends n ≡ figures_to S tolerance capacity n
  unfolding stored_figures figures_to
  figures-to zero l = refl
  figures-to (suc n) l =
      rw (figures-to n (omega arith), kept.grant n l, listed.stepped.count n l, listed.ended n l)

  pub figures-kept : stored_figures grants counts ends (services S) ≡ figures_made S tolerance capacity
  unfolding figures_made
  figures-kept = figures-to (services S) (omega arith)
