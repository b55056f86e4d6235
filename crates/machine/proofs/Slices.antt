-- Packets one after another in a slice: as bytes, and cut again as `run` takes them.
-- Assumes nothing.
use mathlib.Core.Path.{◌≡◌, refl}
use mathlib.Core.List.{List, [], ◌∷◌, ◌++◌, append_assoc, append-nil}
use Prim.Native.Nat.{ℕ, ◌*◌, ◌/◌}
use native.Mathlib.Omega.{arith}
use lib.ListN.{length, length-append}
use lib.Seq.{take_at, drop_at}
use Rattle.bits.specs.Answer.{All}
use Rattle.bits.specs.Pack.{flat}
use Rattle.machine.specs.Run.{chunk, packets_in, IsPacket}

pub flat-length : (ps : List (List ℕ)) → All IsPacket ps → length (flat ps) ≡ 188 * length ps
unfolding flat
flat-length [] h = refl
flat-length (p ∷ ps) h = omega (arith, length-append p (flat ps), h.0.0, flat-length ps h.1)

chunk-flat : (ps : List (List ℕ)) (rest : List ℕ) → All IsPacket ps → chunk (length ps) (flat ps ++ rest) ≡ ps
unfolding flat
chunk-flat [] rest h = refl
chunk-flat (p ∷ ps) rest h =
    let n = h.0.0 in
    rw (append_assoc p (flat ps) rest, take_at p (flat ps ++ rest) 188 n, drop_at p (flat ps ++ rest) 188 n, chunk-flat ps rest h.1)

pub packets-flat : (ps : List (List ℕ)) → All IsPacket ps → packets_in (flat ps) ≡ ps
unfolding packets_in
packets-flat ps h =
    let n : length (flat ps) / 188 ≡ length ps = omega (arith, flat-length ps h) in
    rw n (rw append-nil at (chunk-flat ps [] h))
