-- How the numbers of an entry come to stand one after another, and to be told.
-- Assumes nothing.
use mathlib.Core.Path.{◌≡◌, refl, sym, ap, ap₂, ◌∙◌}
use mathlib.Core.Bool.{Bool, true, false}
use mathlib.Core.List.{List, [], ◌∷◌, ◌++◌, append_assoc}
use Prim.Native.Nat.{ℕ, ◌≤◌}
use native.Mathlib.Omega.{arith}
use lib.Dec.{eqb}
use lib.ListN.{length, get_or, take, replicate}
use borrow.Author.Rules.{rules}
use Rattle.std.proofs.lemmas.List.{take_all}
use Rattle.std.specs.Prelude.{Result, Ok, Err}
use Rattle.bits.specs.Answer.{Answer, answer, pick, and_then}
use Rattle.bits.specs.Field.{field}
use Rattle.bits.specs.Refused.{refused, given, no_values}
use Rattle.bits.specs.declared.refusal.Refusal.{Refusal}
use Rattle.bits.proofs.Refusals.{refused-not_done}
use Rattle.pes.specs.declared.PesLength.{PesLength}
use Rattle.pes.specs.Head.{length_values, packet_length, read_head, read_length}
use Rattle.pes.proofs.Laws.{Headed, headed-done, refused_too}
use Rattle.contents.specs.Contents.{read_contents, read_fixed}
use Rattle.contents.proofs.Laws.{accepted}
use Rattle.host.specs.Reports.{Reports, word, outs, filled}
use Rattle.host.proofs.Laws.{reports, reports-whole}
use Rattle.host_whole.specs.Whole.{row}

-- ---- bytes that are refused

-- a refusal leaves numbers as they are lent
outs-refused : (r : Refusal) (lent : List ℕ) → outs (refused r) lent ≡ lent
outs-refused r lent = refused-not_done r (filled lent (refused r).values) lent

-- so in a row they are zeros
pub row_refused : (k : ℕ) (r : Refusal) (w : ℕ) → Reports (refused r) w [] [] → w ∷ replicate k 0 ≡ row k (refused r)
row_refused k r w t = ap₂ ◌∷◌ t.number (sym (outs-refused r (replicate k 0)))

-- and so they are where the bytes themselves are refused
pub left_refused : (a : Answer) (r : Refusal) (b : Answer) (lent : List ℕ) → refused r ≡ a → lent ≡ outs (and_then a b) lent
left_refused a r b lent e =
    let f : and_then a b ≡ refused r = ap (λ (s : Answer). and_then s b) (sym e) ∙ refused-not_done r b (refused r) in
    sym (ap (λ (s : Answer). outs s lent) f ∙ outs-refused r lent)

-- ---- bytes that are not

-- as many numbers as there are lent fill them
pub left_whole : (a : Answer) (n : ℕ) (vs lent left : List ℕ) → answer 0 [] ≡ a → length lent ≡ n → length left ≡ n → take n left ≡ vs
    → left ≡ outs (and_then a (answer 0 vs)) lent
left_whole a n vs lent left e p q f =
    let t : Reports (answer 0 []) 0 [] [] = reports refl refl in
    let all : left ≡ vs = sym (take_all n left (omega arith)) ∙ f in
    (reports-whole lent t refl all (p ∙ sym q)).numbers ∙ ap (λ (s : Answer). outs (and_then s (answer 0 vs)) lent) e

-- what stands one after another, told from the front or from the back
pub from-the-front : (a b c d e f g h i : List ℕ)
    → (((((((a ++ b) ++ c) ++ d) ++ e) ++ f) ++ g) ++ h) ++ i ≡ a ++ (b ++ (c ++ (d ++ (e ++ (f ++ (g ++ (h ++ i)))))))
from-the-front a b c d e f g h i = simp append_assoc

-- ---- the word is that of the bytes

module _ (vs : List ℕ) where
  same_word : (r : Result Unit Refusal) → word (given no_values r) ≡ word (and_then (given no_values r) (answer 0 vs))
  same_word (Ok u) = refl
  same_word (Err x) = sym (ap word (refused-not_done x (answer 0 vs) (refused x)))

  pub told_whole : {a : Answer} {lent left : List ℕ} {w : ℕ} (r : Result Unit Refusal) → given no_values r ≡ a → Reports (given no_values r) w [] []
      → left ≡ outs (and_then a (answer 0 vs)) lent → Reports (and_then a (answer 0 vs)) w lent left
  told_whole r e t f = reports (t.number ∙ (same_word r ∙ ap (λ (s : Answer). word (and_then s (answer 0 vs))) e)) f

-- ---- what contents always have, where they are accepted

pub always-there : (c : List ℕ) (n o w : ℕ) → answer 0 [] ≡ read_contents c → answer 0 (n ∷ []) ≡ read_fixed o w c → n ≡ field c o w
always-there c n o w e f = ap (λ (a : Answer). get_or a.values 0 0) (f ∙ (accepted c e).is _)

pub one_more : {m n : ℕ} {us vs : List ℕ} → m ≡ n → us ≡ vs → m ∷ us ≡ n ∷ vs
one_more e f = ap₂ ◌∷◌ e f

-- ---- the length of a PES packet is read where there is a head, and nowhere else

module _ (xs : List ℕ) where
  length-done : (t : Bool) → (pick t (answer 0 (0 ∷ [])) (answer 0 (1 ∷ packet_length xs ∷ []))).number ≡ 0
  length-done true = refl
  length-done false = refl

  pub length_refused : (r : Refusal) → refused r ≡ read_length xs → refused r ≡ read_head xs
  length_refused r e = refused_too xs r _ (length-done (eqb (packet_length xs) 0)) e (answer 0 [])

  module _ (l : PesLength) (e : answer 0 (length_values l) ≡ read_length xs) where
    pub headed : Headed xs
    headed = headed-done xs _ (sym (ap (λ (a : Answer). a.number) e))

    pub head_there : 6 ≤ length xs
    head_there = headed.long

    pub head-done : answer 0 [] ≡ read_head xs
    head-done = sym (headed.is _)

-- `whole_laws` for every function, the others for the one that tells of a head and the one that tells what contents always have
pub ruleset whole_laws = (row_refused, left_refused, told_whole, length_refused)

pub ruleset head_laws = (head_there, rules)

pub ruleset fixed_laws = (one_more, always-there)
