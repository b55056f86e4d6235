-- The packets that need the longest log, byte by byte.
-- Assumes nothing.
use Rattle.std.proofs.Common.{◌≡◌, refl, Bool, ℕ, ◌+◌, ◌*◌, ◌%◌, List, [], ◌∷◌, set}
use Rattle.std.proofs.Math.ListN.{replicate}
use Rattle.bits.specs.Answer.{truth, placed_at}
use Rattle.bounds.specs.Reaching.{eventful}

pub packet-eventful : (start : Bool) (c f : ℕ) (x : List ℕ) → f ≡ 0x40 * truth start + 1
    → x ≡ placed_at (replicate 188 255) 0 (71 ∷ 1 ∷ 0 ∷ 16 ∷ 0 ∷ 0 ∷ 1 ∷ 224 ∷ 0 ∷ 0 ∷ 128 ∷ 0 ∷ 0 ∷ []) → set (set x 1 f) 3 (16 + c % 16) ≡ eventful start c
unfolding eventful placed_at
packet-eventful start c f x e g = rw (e, g) refl
