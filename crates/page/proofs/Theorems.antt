-- A promise of the page has one answer: the bytes and the count after a call are equal in any two.
-- Assumes nothing.
use mathlib.Core.Path.{◌≡◌, ap}
use mathlib.Core.List.{List}
use Prim.Native.Nat.{ℕ}
use Rattle.bits.proofs.Tests.{one_value}
use Rattle.page.specs.Page.{Page, page_of}

pub one-page : (p : Page) (xs ys : List ℕ) (m n : ℕ) → page_of xs m ≡ p → page_of ys n ≡ p → (xs ≡ ys) × (m ≡ n)
one-page p xs ys m n a b = let e = one_value p (page_of xs m) (page_of ys n) a b in (ap (λ (q : Page). q.bytes) e, ap (λ (q : Page). q.used) e)
