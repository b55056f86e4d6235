-- The page that a program's output is gathered on.
use Rattle.std.specs.Prelude.{◌≡◌, ℕ, suc, ltb, List, [], ◌∷◌, ◌++◌, set, Option, None, Some, ⊤}
use Rattle.bits.specs.Answer.{pick}

-- the bytes of a page, and how many of them are used
pub record Page : Type 0 where
  pub bytes : List ℕ
  pub used : ℕ

abbrev pub page_of : List ℕ → ℕ → Page
page_of bs n = record { bytes = bs; used = n }

-- a byte more: on a full page, which is written first, it is the first
unfoldable pub with_byte : Page → ℕ → Page
with_byte p b = pick (ltb p.used 8192) (page_of (set p.bytes p.used b) (suc p.used)) (page_of (set p.bytes 0 b) 1)

-- bytes more, one after another
abbrev pub with_bytes : Page → List ℕ → Page
with_bytes p [] = p
with_bytes p (b ∷ bs) = with_bytes (with_byte p b) bs

-- the known bytes of the output and after them those that wait on the page, before p and then q, grow by bs
abbrev pub Delivers : Option (List ℕ) → Option (List ℕ) → List ℕ → List ℕ → List ℕ → Type 0
Delivers None new p q bs = ⊤
Delivers (Some xs) None p q bs = ⊥
Delivers (Some xs) (Some ys) p q bs = ys ++ q ≡ xs ++ p ++ bs
