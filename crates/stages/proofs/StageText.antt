-- The text of a stage: its lines in order of places, one node's after the other.
use Rattle.std.specs.Prelude.{Ok, Result}
use Prim.Native.Nat.{ℕ, zero, suc, ◌+◌, ◌-◌, ◌*◌, ◌/◌, ◌%◌, ◌^◌, ◌≤◌, ◌<◌}
use mathlib.Core.Bool.{true}
use mathlib.Core.List.{List, [], ◌∷◌, ◌++◌, append_assoc, append-nil}
use mathlib.Core.Path.{◌≡◌, refl, ap, sym, ◌∙◌}
use native.Mathlib.Decide.{dec_lt, ℕ_discrete}
use native.Mathlib.Nat.{div-add-mod', mod-lt}
use native.Mathlib.Omega.{arith}
use lib.Arith.{digits_div}
use lib.ListN.{length, get_or, take, drop, set, length-append, length-set}
use lib.Pow.{pow_pos, pow_mono}
use lib.Seq.{sets, sets-eq, take_at, get_or-set_same, get_or-set_other}
use Rattle.numerals.specs.Limits.{most_bits, most_suffixes, most_capacity, most_services, most_id}
use Rattle.numerals.specs.Suffix.{place}
use Rattle.numerals.proofs.Place.{place-lt, place-shorter, place-involution}
use Rattle.numerals.proofs.Writing.{written}
use Rattle.expansion.specs.declared.rule.Rule.{Rule}
use Rattle.packing.specs.Count.{Line}
use Rattle.packing.specs.Table.{lines_of}
use Rattle.sheets.specs.Inner.TableNumbers.{line}
use Rattle.sheets.specs.Inner.Writing.{Wrote, Before, end_at}
use Rattle.sheets.specs.RuleSheet.{line_text, lines_text, is_line, put_line, put_line_end}
use Rattle.sheets.proofs.TableChecks.{is-formed}
use Rattle.sheets.proofs.TableTexts.{line-short, length-line}
use Rattle.sheets.proofs.Writes.{chain, same_length}
use Rattle.stages.specs.Inner.Handed.{text_room}
use Rattle.stages.specs.Inner.Nodes.{at, cut_at, height_at, starts_to}
use Rattle.stages.specs.Inner.Row.{Served}
use Rattle.stages.proofs.NodeLaws.{cut_below, cut-from, path-lt, around, height-is, height-same}
use Rattle.stages.proofs.NodeLaws.{starts_none, starts-suc, start-here, start-not, starts-node}
use Rattle.numerals.specs.declared.refusal.Refusal.{Refusal}

-- one place more of what a listing is to have
pub listed_more : (f : ℕ → ℕ) (s t : List ℕ) (q v : ℕ) → t ≡ set s q v → q < length t → ((y : ℕ) → y < q → get_or s y 0 ≡ f y) → v ≡ f q
    → (y : ℕ) → y < q + 1 → get_or t y 0 ≡ f y
listed_more f s t q v is l h e y m = ap (λ (x : List ℕ). get_or x y 0) is ∙ go (ℕ_discrete y q)
  where
    inside : q < length s
    inside = omega (arith, ap length is, length-set s q v)

    go : Dec (y ≡ q) → get_or (set s q v) y 0 ≡ f y
    go (yes d) = rw d (get_or-set_same s q v 0 inside ∙ e)
    go (no d) = get_or-set_other s q y v 0 d ∙ h y (omega arith)

-- both tables of a service have ids, so a stage has
pub served-cut : (k service p : ℕ) (old new stage : List ℕ) → Served k service old → Served k service new → length stage ≡ most_suffixes
    → ((q : ℕ) → q < 2 ^ k → get_or stage q 0 ≡ cut_at p (at old) (at new) q) → Served k service stage
served-cut k service p old new stage o n long e =
    record { numbered = o.numbered; long = long; held = λ q l. rw (e q l) (go q l (dec_lt q p)) }
  where
    go : (q : ℕ) → q < 2 ^ k → Dec (q < p) → (1 ≤ cut_at p (at old) (at new) q) × (cut_at p (at old) (at new) q ≤ most_id)
    go q l (yes m) = rw (cut_below p (at old) (at new) q m) (n.held q l)
    go q l (no m) = rw (cut-from p (at old) (at new) q (omega arith)) (o.held q l)

-- the text of lines behind others

text-append : (n : ℕ) (a b : List Rule) → lines_text (lines_of n (a ++ b)) ≡ lines_text (lines_of n a) ++ lines_text (lines_of n b)
unfolding lines_text lines_of
text-append n [] b = refl
text-append n (r ∷ a) b =
    ap (λ (t : List ℕ). line_text (record { service = n; rule = r }) ++ t) (text-append n a b)
    ∙ sym (append_assoc (line_text (record { service = n; rule = r })) (lines_text (lines_of n a)) (lines_text (lines_of n b)))

text-one : (n : ℕ) (r : Rule) → lines_text (lines_of n (r ∷ [])) ≡ line_text (record { service = n; rule = r })
unfolding lines_text lines_of
text-one n r = append-nil (line_text (record { service = n; rule = r }))

pub text-empty : (n : ℕ) → lines_text (lines_of n []) ≡ []
unfolding lines_text lines_of
text-empty n = refl

-- the lines only grow
starts-grow : (g : ℕ → ℕ) (k m n : ℕ) → m ≤ n → length (starts_to g k m) ≤ length (starts_to g k n)
starts-grow g k m zero l = let e : m ≡ 0 = omega arith in omega (arith, ap (λ (x : ℕ). length (starts_to g k x)) e)
starts-grow g k m (suc n) l = go (ℕ_discrete m (suc n)) (starts-grow g k m n)
  where
    go : Dec (m ≡ suc n) → (m ≤ n → length (starts_to g k m) ≤ length (starts_to g k n)) → length (starts_to g k m) ≤ length (starts_to g k (suc n))
    go (yes e) ih = omega (arith, ap (λ (x : ℕ). length (starts_to g k x)) e)
    go (no e) ih = omega (arith, ih (omega arith), simp length-append at (ap length (starts-suc g k n)))

-- a line has at most 22 bytes
module _ (g : ℕ → ℕ) (k service : ℕ) (bits : k ≤ most_bits) (numbered : service ≤ most_services) (ids : (q : ℕ) → q < 2 ^ k → g q ≤ most_id) where
  pub text-room : (m : ℕ) → m ≤ 2 ^ k → length (lines_text (lines_of service (starts_to g k m))) ≤ 22 * length (starts_to g k m)
  text-room zero l = rw (starts_none g k, text-empty service) (omega arith)
  text-room (suc m) l = go (ℕ_discrete (m % 2 ^ height_at g k m) 0) (text-room m (omega arith))
    where
      go : Dec (m % 2 ^ height_at g k m ≡ 0) → length (lines_text (lines_of service (starts_to g k m))) ≤ 22 * length (starts_to g k m)
          → length (lines_text (lines_of service (starts_to g k (suc m)))) ≤ 22 * length (starts_to g k (suc m))
      go (yes e) ih =
          let r : Rule = record { len = k - height_at g k m; value = place k m; backend = g m } in
          let own : Line = record { service = service; rule = r } in
          let is : starts_to g k (suc m) ≡ starts_to g k m ++ r ∷ [] = starts-suc g k m ∙ rw (start-here g k m e) in
          rw (is, text-append service (starts_to g k m) (r ∷ []), text-one service r)
          (omega (
            arith,
            length-append (lines_text (lines_of service (starts_to g k m))) (line_text own),
            length-append (starts_to g k m) (r ∷ []),
            length-line own,
            line-short service (k - height_at g k m) (g m) numbered (omega arith) (ids m l),
          ))
      go (no e) ih =
          let is : starts_to g k (suc m) ≡ starts_to g k m = starts-suc g k m ∙ rw (start-not g k m (omega arith)) (append-nil (starts_to g k m)) in
          rw is ih

-- where the node of a place ends
abbrev pub node_end : (ℕ → ℕ) → ℕ → ℕ → ℕ
node_end g k y = y / 2 ^ height_at g k y * 2 ^ height_at g k y + 2 ^ height_at g k y

-- a place below which every node ends is the first of its own
module _ (g : ℕ → ℕ) (k p : ℕ) (l : p < 2 ^ k) (edge : (y : ℕ) → y < p → node_end g k y ≤ p) where
  abbrev h : ℕ
  h = height_at g k p

  few : h ≤ k
  few = (height-is g k p).most

  -- the places of its node
  inside : (i : ℕ) → i < 2 ^ h → (p / 2 ^ h * 2 ^ h + i) / 2 ^ h ≡ p / 2 ^ h
  inside i m = digits_div (p / 2 ^ h) m

  end-inside : (i : ℕ) → i < 2 ^ h → node_end g k (p / 2 ^ h * 2 ^ h + i) ≡ p / 2 ^ h * 2 ^ h + 2 ^ h
  end-inside i m = rw (height-same g k p (p / 2 ^ h * 2 ^ h + i) (sym (inside i m)), inside i m)

  pub begins : p % 2 ^ h ≡ 0
  begins = go (dec_lt (p / 2 ^ h * 2 ^ h + 0) p)
    where
      go : Dec (p / 2 ^ h * 2 ^ h + 0 < p) → p % 2 ^ h ≡ 0
      go (yes m) =
          absurd (omega (arith, edge (p / 2 ^ h * 2 ^ h + 0) m, end-inside 0 (pow_pos h), div-add-mod' p (2 ^ h), mod-lt p (pow_pos h)))
      go (no m) = omega (arith, div-add-mod' p (2 ^ h))

  pub starts : p / 2 ^ h * 2 ^ h ≡ p
  starts = omega (arith, div-add-mod' p (2 ^ h), begins)

  pub next_edge : (y : ℕ) → y < p + 2 ^ h → node_end g k y ≤ p + 2 ^ h
  next_edge y m = go (dec_lt y p)
    where
      go : Dec (y < p) → node_end g k y ≤ p + 2 ^ h
      go (yes o) = omega (arith, edge y o)
      go (no o) =
          let is : p / 2 ^ h * 2 ^ h + (y - p) ≡ y = omega (arith, starts) in
          omega (arith, ap (node_end g k) is, end-inside (y - p) (omega arith), starts)

  pub next-within : p + 2 ^ h ≤ 2 ^ k
  next-within = omega (arith, around k h p (2 ^ h - 1) few l (omega (arith, pow_pos h)), starts, pow_pos h)

  pub value-few : place k p < 2 ^ (k - h)
  value-few =
      let q = p / 2 ^ h in
      let m = k - h in
      let v = place m q in
      let below : q < 2 ^ m = path-lt k h p few l in
      let back : k - m ≡ h = omega (arith, few) in
      let wide : 2 ^ m ≤ 2 ^ k = pow_mono (omega arith) in
      let small : v < 2 ^ k = omega (arith, place-lt m q) in
      let is : place k v ≡ p = place-shorter m k v (omega arith) (place-lt m q) ∙ rw (back, place-involution m q below) starts in
      let same : place k p ≡ v = ap (place k) (sym is) ∙ place-involution k v small in
      omega (arith, same, place-lt m q)

-- the lines of the nodes below place p are written
pub record Going (stage : List ℕ) (k service : ℕ) (text₀ text : List ℕ) (end p : ℕ) : Type 0 where
  pub within : p ≤ 2 ^ k
  pub wrote : Wrote text₀ text 0 end (lines_text (lines_of service (starts_to (at stage) k p)))
  pub edge : (y : ℕ) → y < p → node_end (at stage) k y ≤ p

-- the next line
module _
    (stage text₀ text : List ℕ)
    (k service end p : ℕ)
    (bits : k ≤ most_bits)
    (served : Served k service stage)
    (lines : length (starts_to (at stage) k (2 ^ k)) ≤ most_capacity)
    (long : length text₀ ≡ text_room)
    (l : p < 2 ^ k)
    (G : Going stage k service text₀ text end p)
  where
    abbrev size : ℕ
    size = height_at (at stage) k p

    abbrev rule : Rule
    rule = record { len = k - size; value = place k p; backend = at stage p }

    abbrev own : Line
    own = record { service = service; rule = rule }

    more : starts_to (at stage) k (p + 2 ^ size) ≡ starts_to (at stage) k p ++ rule ∷ []
    more = starts-node (at stage) k p (begins (at stage) k p l G.edge) (2 ^ size) (pow_pos size) (omega arith)

    one_more : length (starts_to (at stage) k (p + 2 ^ size)) ≡ length (starts_to (at stage) k p) + 1
    one_more = ap length more ∙ length-append (starts_to (at stage) k p) (rule ∷ [])

    is-line : is_line most_bits own ≡ true
    is-line =
        is-formed most_bits own
        (record {
          numbered = served.numbered.0;
          service = served.numbered.1;
          short = omega arith;
          bits = value-few (at stage) k p l G.edge;
          labelled = (served.held p l).0;
          backend = (served.held p l).1;
        })

    short : length (line_text own) ≤ 22
    short = omega (arith, length-line own, line-short service (k - size) (at stage p) served.numbered.1 (omega arith) (served.held p l).1)

    fits : end + length (line_text own) ≤ length text
    fits =
        omega (
          arith,
          short,
          text-room (at stage) k service bits served.numbered.1 (λ q m. (served.held q m).1) p G.within,
          G.wrote.ends,
          one_more,
          starts-grow (at stage) k (p + 2 ^ size) (2 ^ k) (next-within (at stage) k p l G.edge),
          lines,
          same_length G.wrote,
          long,
        )

    ends : put_line_end text end own ≡ Ok (end + length (line_text own))
    unfolding put_line_end
    ends = rw is-line (sym (written text end (line_text own) fits).0)

    puts : put_line text end own ≡ sets text end (line_text own)
    unfolding put_line
    puts = rw is-line (sym (written text end (line_text own) fits).1)

    next : (after : List ℕ) (e : ℕ) → e ≡ end + length (line_text own) → after ≡ sets text end (line_text own)
        → Going stage k service text₀ after e (p + 2 ^ size)
    next after e a b =
        record {
          within = next-within (at stage) k p l G.edge;
          wrote =
              rw (more, text-append service (starts_to (at stage) k p) (rule ∷ []), text-one service rule)
              (chain G.wrote (record { ends = a; holds = b }));
          edge = next_edge (at stage) k p l G.edge;
        }

    module _
        (n value : ℕ)
        (high : n ≡ size)
        (placed : value ≡ place k p)
        (w : (Result ℕ Refusal))
        (after : List ℕ)
        (answer : w ≡ put_line_end text end (line service (k - n) value (at stage p)))
        (buffer : after ≡ put_line text end (line service (k - n) value (at stage p)))
      where
        same : line service (k - n) value (at stage p) ≡ own
        same = rw (high, placed)

        ended : w ≡ Ok (end + length (line_text own))
        ended = answer ∙ ap (put_line_end text end) same ∙ ends

        pub line-ended : Before w (end_at w + 1)
        line-ended = rw ended (omega arith)

        pub line-more : Going stage k service text₀ after (end_at w) (p + 2 ^ n)
        line-more = rw high (next after (end_at w) (ap end_at ended) (buffer ∙ ap (put_line text end) same ∙ puts))

-- what was written at the start of a text, taken from it
pub written-first : {t₀ t : List ℕ} {end : ℕ} {bytes : List ℕ} → Wrote t₀ t 0 end bytes → length bytes ≤ length t₀ → take end t ≡ bytes
written-first {t₀} {t} {end} {bytes} w l =
    ap (take end) (w.holds ∙ sets-eq bytes t₀ 0 (omega arith)) ∙ take_at bytes (drop (0 + length bytes) t₀) end (omega (arith, w.ends))
