-- Whatever the checks leave is a service: of labels it is asked that they differ and are somebody's, not that they ascend.
use Prim.Native.Nat.{ℕ}
use mathlib.Core.List.{List}
use mathlib.Core.Path.{◌≡◌, refl}
use Rattle.std.specs.Borrow.{Bor}
use Rattle.expansion.specs.Inner.Run.{Valid, labelled_by}
use Rattle.expansion.specs.Inner.Service.{targets_for}
use Rattle.expansion.specs.declared.service.Service.{Service}

pub service-of :
    (k tolerance : ℕ) (labels ws : Bor (List ℕ)) → Valid k tolerance labels.now ws.now
    → (s : Service) × (targets_for s ≡ labelled_by k labels.now ws.now) × (s.tolerance ≡ tolerance)
service-of k tolerance labels ws v = (search, refl, refl)
