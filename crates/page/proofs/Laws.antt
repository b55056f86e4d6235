-- The two ways of putting a byte on a page: behind the others, or first on one that was written.
-- Assumes nothing.
use Rattle.std.proofs.Common.{◌≡◌, refl, ap, ℕ, ◌+◌, ◌≤◌, ◌<◌, List, set}
use native.Mathlib.Numerals.{add-one}
use borrow.Author.Tests.{lt-ltb, le-ltb}
use Rattle.page.specs.Page.{Page, page_of, with_byte}

pub room : (p : Page) (bs : List ℕ) (n b : ℕ) → page_of bs n ≡ p → p.used < 8192 → page_of (set bs n b) (n + 1) ≡ with_byte p b
unfolding with_byte
room p bs n b e h = rw (← e, lt-ltb n 8192 (rw (← e) at h), add-one) refl

pub full : (p : Page) (bs : List ℕ) (n b : ℕ) → page_of bs n ≡ page_of p.bytes 0 → 8192 ≤ p.used → page_of (set bs n b) (n + 1) ≡ with_byte p b
unfolding with_byte
full p bs n b e h =
    let bytes = ap (λ (q : Page). q.bytes) e in
    let used = ap (λ (q : Page). q.used) e in
    rw (le-ltb p.used 8192 h, bytes, used) refl
