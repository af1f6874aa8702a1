-- The words of gauge: numbers above their limits are answered as one more than the limit, and what is printed is exact.
use Rattle.std.specs.Prelude.{IsErr, IsErrAnd, None, Result, Some}
use Prim.Native.Nat.{ℕ, ◌+◌, ◌*◌, ◌≤◌, ◌<◌, min}
use mathlib.Core.Path.{◌≡◌, sym, ap, ◌∙◌}
use mathlib.Core.Bool.{false}
use mathlib.Core.List.{List, [], ◌∷◌, ◌++◌}
use native.Mathlib.Omega.{arith}
use lib.ListN.{length, take, length-append}
use Rattle.numerals.specs.Limits.{most_id, most_services, most_suffixes, most_volume}
use Rattle.numerals.proofs.Exits.{handed_on, same_ok, not_both}
use Rattle.sheets.proofs.OneCall.{take-sets}
use Rattle.sheets.proofs.OrderedLines.{read-proper}
use Rattle.sheets.proofs.TableChecks.{above_most}
use Rattle.gauges.specs.Binary64.{dyadic}
use Rattle.gauges.specs.Gauges.{held, gauges_of, in_range, gauges_in, gauges_answer}
use Rattle.gauges.proofs.Answers.{over-volume, no-id, held-most, load-most}
use Rattle.commands.specs.Said.{prints, no_number, on_number, outcome, filled}
use Rattle.commands.specs.Numeral.{numeral}
use Rattle.commands.specs.Inner.Gauge.{gauge_room}
use Rattle.commands.specs.Inner.Numeral.{capped}
use Rattle.commands.specs.Gauge.{float_text, gauges_text, gauge_says, PrintsExactly}
use Rattle.commands.proofs.Numerals.{capped-value, capped-bad, capped_same}
use Rattle.commands.proofs.Services.{gauges-capped}
use Rattle.commands.proofs.GaugeTexts.{gauge-exact, gauge-short}
use Rattle.commands.proofs.Texts.{not-said}
use Rattle.commands.specs.declared.answer.NoNumber.{NoNumber}

-- ---- numbers above their limits are answered as one more than the limit

over-backend : (volume b : ℕ) → most_id < b → in_range volume b ≡ false
over-backend volume b h = no-id volume b (above_most 1 most_id b h)

-- the numbers beside the text matter by their limits alone where they break them
out-alike : (text : List ℕ) (n volume b volume' b' : ℕ) → in_range volume b ≡ false → in_range volume' b' ≡ false
    → gauges_answer text n volume b ≡ gauges_answer text n volume' b'
unfolding gauges_answer gauges_in
out-alike text n volume b volume' b' out out' = rw (out, out')

volume-capped : (text : List ℕ) (n volume b : ℕ) → gauges_answer text n (min volume (most_volume + 1)) b ≡ gauges_answer text n volume b
volume-capped text n volume b =
    capped_same (λ (v : ℕ). gauges_answer text n v b) most_volume volume
    (λ h. out-alike text n (most_volume + 1) b volume b (over-volume (most_volume + 1) b (omega arith)) (over-volume volume b h))

backend-capped : (text : List ℕ) (n volume b : ℕ) → gauges_answer text n volume (min b (most_id + 1)) ≡ gauges_answer text n volume b
backend-capped text n volume b =
    capped_same (gauges_answer text n volume) most_id b
    (λ h. out-alike text n volume (most_id + 1) volume b (over-backend volume (most_id + 1) (omega arith)) (over-backend volume b h))

all-capped : (text : List ℕ) (n volume b : ℕ)
    → gauges_answer text (min n (most_services + 1)) (min volume (most_volume + 1)) (min b (most_id + 1)) ≡ gauges_answer text n volume b
all-capped text n volume b =
    gauges-capped text n (min volume (most_volume + 1)) (min b (most_id + 1))
    ∙ volume-capped text n volume (min b (most_id + 1))
    ∙ backend-capped text n volume b

-- ---- the words of the call

module _ (table service volume backend : List ℕ) where
  pub no-service : capped most_services (numeral service) ≡ None → gauge_says table service volume backend ≡ no_number 2
  unfolding gauge_says on_number
  no-service e = rw (capped-bad most_services (numeral service) e)

  module _ (n : ℕ) (e : capped most_services (numeral service) ≡ Some n) where
    pub no-volume : capped most_volume (numeral volume) ≡ None → gauge_says table service volume backend ≡ no_number 3
    unfolding gauge_says on_number
    no-volume f = rw ((capped-value most_services n (numeral service) e).1, capped-bad most_volume (numeral volume) f)

    module _ (v : ℕ) (f : capped most_volume (numeral volume) ≡ Some v) where
      pub no-backend : capped most_id (numeral backend) ≡ None → gauge_says table service volume backend ≡ no_number 4
      unfolding gauge_says on_number
      no-backend h =
          rw ((capped-value most_services n (numeral service) e).1, (capped-value most_volume v (numeral volume) f).1, capped-bad most_id (numeral backend) h)

      pub says : (b : ℕ) → capped most_id (numeral backend) ≡ Some b
          → gauge_says table service volume backend ≡ prints (gauges_text (gauges_answer table n v b))
      unfolding gauge_says on_number
      says b h =
          let x = capped-value most_services n (numeral service) e in
          let y = capped-value most_volume v (numeral volume) f in
          let z = capped-value most_id b (numeral backend) h in
          rw (x.1, y.1, z.1)
          (ap (λ a. prints (gauges_text a))
          (sym (all-capped table x.0 y.0 z.0)
          ∙ ap (λ (i : ℕ). gauges_answer table i (min y.0 (most_volume + 1)) (min z.0 (most_id + 1))) (sym x.2)
          ∙ ap (λ (i : ℕ). gauges_answer table n i (min z.0 (most_id + 1))) (sym y.2)
          ∙ ap (gauges_answer table n v) (sym z.2)))

-- ---- what is printed is exact

module _ (table service volume backend out : List ℕ) where
  line-exact :
      2 * gauge_room ≤ length out → (r : Result ℕ NoNumber) (after : List ℕ) → r ≡ outcome (gauge_says table service volume backend)
      → after ≡ filled (gauge_says table service volume backend) out → PrintsExactly table service volume backend r after
  unfolding gauge_says on_number gauges_answer gauges_in gauges_text gauges_of
  line-exact room r after answers fills t n v b end is s u w has i e =
      let bits = (read-proper table t is).few_bits in
      let few = held-most table t is n b in
      let most = load-most table t is n v b i in
      let least : held t n b ≤ most_volume * most_suffixes = omega (arith, few) in
      let share = float_text (dyadic (held t n b) t.k) in
      let load = float_text (dyadic (v * held t n b) t.k) in
      let line = (share ++ 32 ∷ []) ++ (load ++ 10 ∷ []) in
      let said : gauge_says table service volume backend ≡ prints line = rw (s, u, w, is, has, i) in
      let ends : end ≡ length line = same_ok (sym e ∙ answers ∙ ap outcome said) in
      let fits : length line ≤ length out =
      omega (
        arith,
        room,
        length-append (share ++ 32 ∷ []) (load ++ 10 ∷ []),
        length-append share (32 ∷ []),
        length-append load (10 ∷ []),
        gauge-short (held t n b) t.k least bits,
        gauge-short (v * held t n b) t.k most bits,
      )
      in
      record {
        share = share;
        load = load;
        is = ap (λ (m : ℕ). take m after) ends ∙ ap (take (length line)) (fills ∙ ap (λ x. filled x out) said) ∙ take-sets out line fits;
        share_exact = gauge-exact (held t n b) t.k least bits;
        load_exact = gauge-exact (v * held t n b) t.k most bits;
      }

  -- beside the answer and the buffer
  abbrev Said-exactly : Result ℕ NoNumber → List ℕ → Type 0
  Said-exactly r after =
      (r ≡ outcome (gauge_says table service volume backend))
      × ((after ≡ filled (gauge_says table service volume backend) out) × (PrintsExactly table service volume backend r after))

  pub said-exactly :
      2 * gauge_room ≤ length out → (r : Result ℕ NoNumber) (after : List ℕ)
      → (r ≡ outcome (gauge_says table service volume backend)) × (after ≡ filled (gauge_says table service volume backend) out) → Said-exactly r after
  said-exactly room r after p = (p.0, (p.1, line-exact room r after p.0 p.1))

  -- nothing was printed
  pub none-exactly : {r : Result ℕ NoNumber} {e : NoNumber} (place : ℕ) → IsErr r × IsErrAnd r (λ d. d ≡ e) → e ≡ record { place = place }
      → gauge_says table service volume backend ≡ no_number place → Said-exactly r out
  none-exactly place h w is = let p = not-said out place h w _ is in (p.0, (p.1, λ t n v b end i s u x has j g. not_both (sym g ∙ handed_on _ _ h)))
