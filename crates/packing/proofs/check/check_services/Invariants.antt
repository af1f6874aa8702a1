-- `check::check_services` meets its contract. The loop's invariant: the services before s passed, and the ids and weights of service s begin at `at`.
use Prim.Native.Nat.{◌≤◌, min}
use mathlib.Core.Path.{◌≡◌}
use lib.ListN.{length, drop}
use Rattle.packing.specs.Answer.{check_from}
use Rattle.packing.proofs.check.check_services.Given as goal

abbrev pub invariant-loop-s : goal.invariant-loop-s
invariant-loop-s l =
    (l.s ≤ length l.volumes)
    × (l.s ≤ length l.sizes)
    × (l.at ≤ min (length l.ids) (length l.weights))
    × (check_from 0 l.volumes l.sizes l.ids l.weights ≡ check_from l.s (drop l.s l.volumes) (drop l.s l.sizes) (drop l.at l.ids) (drop l.at l.weights))
