-- The crate's theorems that belong to no one function: any two words, and any two lists of numbers, that an entry may give for the same
-- bytes are equal.
-- Assumes nothing.
use mathlib.Core.Path.{◌≡◌}
use mathlib.Core.List.{List}
use Prim.Native.Nat.{ℕ}
use Rattle.host.specs.Reports.{Reports}
use Rattle.host.proofs.Theorems.{one-report}
use Rattle.host_whole.specs.Whole.{packet_fields, header_fields, contents_fields}

module _ (xs lent : List ℕ) (v w : ℕ) (left left' : List ℕ) where
  pub one-packet : Reports (packet_fields xs) v lent left → Reports (packet_fields xs) w lent left' → (v ≡ w) × (left ≡ left')
  one-packet = one-report (packet_fields xs) lent v w left left'

  pub one-header : Reports (header_fields xs) v lent left → Reports (header_fields xs) w lent left' → (v ≡ w) × (left ≡ left')
  one-header = one-report (header_fields xs) lent v w left left'

  pub one-contents : Reports (contents_fields xs) v lent left → Reports (contents_fields xs) w lent left' → (v ≡ w) × (left ≡ left')
  one-contents = one-report (contents_fields xs) lent v w left left'
