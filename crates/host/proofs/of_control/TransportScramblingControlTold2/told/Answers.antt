use mathlib.Core.Path.{ap, ap₂}
use mathlib.Core.List.{List, [], ◌∷◌}
use Prim.Native.Nat.{ℕ}
use Rattle.bits.specs.Answer.{truth}
use Rattle.host.proofs.Laws.{scheme-told}
use Rattle.host.proofs.of_control.TransportScramblingControlTold2.told.Goals as goal

pub returns : goal.returns
returns c = ap₂ ◌∷◌ (ap truth c.is_scrambled.ensures) (ap (λ (m : ℕ). m ∷ []) (scheme-told _ _ c.scheme.result c.unwrap_or.ensures c.scheme.ensures))
