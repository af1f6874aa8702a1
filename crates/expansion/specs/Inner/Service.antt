-- The expansions for a service.
use Rattle.std.specs.Prelude.{ℕ, List}
use Rattle.numerals.specs.Limits.{unit}
use Rattle.expansion.specs.Imbalance.{Targets}
use Rattle.expansion.specs.Steps.{Frame, frame}
use Rattle.expansion.specs.Inner.Run.{labelled_by, framed}
use Rattle.expansion.specs.declared.rule.Rule.{Rule}
use Rattle.expansion.specs.declared.service.Service.{Service}

-- its backends, with their weights in parts of the unit
abbrev pub targets_for : Service → Targets
targets_for s = labelled_by s.k s.labels.now s.weights.now

-- the expansion of document 01
abbrev pub frame_of : Service → Frame
frame_of s = frame s.k unit s.tolerance s.labels.now s.weights.now

-- one from any start and with any cap
abbrev pub frame_for : Service → ℕ → List Rule → Frame
frame_for s cap start = framed s.k cap s.tolerance s.labels.now s.weights.now start
