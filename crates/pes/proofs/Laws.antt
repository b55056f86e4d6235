-- What the definitions of `specs/` come to on the bytes, in each case. The functions' proofs find these by `pes_laws`, and
-- callers' cite them. A premise is a test of the code, or a promise of what it calls.
-- Assumes nothing.
use mathlib.Core.Path.{◌≡◌, refl, sym, ap, ◌∙◌}
use mathlib.Core.Bool.{Bool, true, false}
use mathlib.Core.List.{List, [], ◌∷◌}
use Prim.Native.Nat.{ℕ, ◌+◌, ◌-◌, ◌*◌, ◌%◌, ◌≤◌, ◌<◌}
use native.Mathlib.Omega.{arith}
use lib.ListN.{length, get_or, take, drop}
use borrow.Author.Tests.{lt-ltb, le-ltb, eq-eqb, ne_eqb, ltb-false}
use borrow.Author.Rules.{rules}
use Rattle.std.specs.Int.{w16, from_be_bytes}
use Rattle.bits.specs.Answer.{Answer, answer, truth, unless, Within, part_of}
use Rattle.bits.specs.Field.{field}
use Rattle.bits.specs.Refused.{refused}
use Rattle.bits.specs.declared.refusal.Refusal.{Refusal}
use Rattle.bits.proofs.Checks.{none-holds, passed, refused_by}
use Rattle.bits.proofs.Fields.{in_byte, field-split, field_below, byte-field, Known}
use Rattle.bits.proofs.Parts.{part_in, part-done, part_none}
use Rattle.bits.proofs.Refusals.{refused_above}
use Rattle.bits.proofs.Ranges.{agree}
use Rattle.pes.specs.declared.StreamId.{StreamId}
use Rattle.pes.specs.Stream.{given_id, kind_of, id_values, read_id, parsed_id}
use Rattle.pes.specs.Head.{not_head, read_head, read_stream_id, read_length, read_contents_part, contents_part, id_of, packet_length}

-- ---- an id carries parsed contents just where what it stands for does

-- each of the 256 ids, computed
pub kind-agrees : (n : ℕ) → n < 256 → parsed_id (get_or (id_values n) 0 0) ≡ parsed_id n
unfolding id_values parsed_id
kind-agrees n h = agree (λ (m : ℕ). parsed_id (get_or (id_values m) 0 0)) parsed_id 0 256 tt n (omega arith)

pub parsed-agrees : (n : ℕ) (s : StreamId) → n < 256 → given_id s ≡ read_id n → parsed_id (kind_of s) ≡ parsed_id n
parsed-agrees n s h e = ap (λ (a : Answer). parsed_id (get_or a.values 0 0)) e ∙ kind-agrees n h

-- ---- bytes that begin with no head, and those that do

prefix-is : (xs : List ℕ) → field xs 0 24 ≡ get_or xs 0 0 % 256 * 65536 + get_or xs 1 0 % 256 * 256 + get_or xs 2 0 % 256
prefix-is xs = omega (arith, field-split xs 0 8 16, field-split xs 8 8 8, in_byte xs 0 0 8 0 refl, in_byte xs 1 0 8 0 refl, in_byte xs 2 0 8 0 refl)

-- what is known of bytes that begin with a head
pub record Headed (xs : List ℕ) : Type 0 where
  pub long : 6 ≤ length xs
  pub is : (a : Answer) → unless (not_head xs) a ≡ a

module _ (xs : List ℕ) where
  module _ (a : Answer) where
    pub short : length xs < 6 → answer 3 [] ≡ unless (not_head xs) a
    unfolding not_head
    short h = simp (lt-ltb (length xs) 6 h)

    bad_start : 6 ≤ length xs → (field xs 0 24 ≡ 1 → ⊥) → answer 4 [] ≡ unless (not_head xs) a
    unfolding not_head
    bad_start l h = simp (le-ltb (length xs) 6 l, ne_eqb (field xs 0 24) 1 h)

    pub bad-prefix : Known xs → 6 ≤ length xs → ((get_or xs 0 0 ≡ 0) × (get_or xs 1 0 ≡ 0) × (get_or xs 2 0 ≡ 1) → ⊥)
        → answer 4 [] ≡ unless (not_head xs) a
    bad-prefix k l h = bad_start l (λ e. h (omega (arith, prefix-is xs, k 0, k 1, k 2)))

    -- the other way: where the answer is no refusal, the bytes begin with a head
    pub headed-done : (unless (not_head xs) a).number ≡ 0 → Headed xs
    unfolding not_head
    headed-done z = let o = passed (not_head xs) a (omega arith) z in record { long = ltb-false (length xs) 6 o.0; is = none-holds (not_head xs) o }

  pub head_done : 6 ≤ length xs → get_or xs 0 0 ≡ 0 → get_or xs 1 0 ≡ 0 → get_or xs 2 0 ≡ 1 → answer 0 [] ≡ read_head xs
  unfolding not_head
  head_done l a b c = simp (le-ltb (length xs) 6 l, eq-eqb (field xs 0 24) 1 (omega (arith, prefix-is xs)))

-- what is known where `contents` accepts the head: that it is accepted, and kind, place and length of what follows it
pub contents-known : (xs : List ℕ) (k p n : ℕ) → answer 0 (k ∷ p ∷ n ∷ []) ≡ read_contents_part xs
    → Headed xs × (k ≡ truth (parsed_id (id_of xs))) × (p ≡ 6) × (n ≡ length xs - 6)
contents-known xs k p n f =
    let t = answer 0 (truth (parsed_id (id_of xs)) ∷ 6 ∷ (length xs - 6) ∷ []) in
    let h = headed-done xs t (ap (λ (a : Answer). a.number) (sym f)) in
    let e = f ∙ h.is t in
    let v : ℕ → Answer → ℕ = λ i a. get_or a.values i 0 in
    (h, ap (v 0) e, ap (v 1) e, ap (v 2) e)

-- what follows the head lies within the bytes
pub contents-within : (xs : List ℕ) → Within (contents_part xs) xs
contents-within xs z = let h = headed-done xs (answer 0 (6 ∷ (length xs - 6) ∷ [])) z in rw h.is (omega (arith, h.long))

-- ---- what is read, by what `from_bytes` or `stream_id` answered: a refusal is every reader's

module _ (xs : List ℕ) (r : Refusal) where
  pub refused_too : (b : Answer) → b.number ≡ 0 → refused r ≡ unless (not_head xs) b → (a : Answer) → refused r ≡ unless (not_head xs) a
  refused_too b z e = refused_by (not_head xs) b z (refused r) (refused_above r) e

  pub none_there : refused r ≡ read_head xs → [] ≡ part_of (contents_part xs) xs
  none_there e = part_none (refused r) _ xs (refused_above r) (refused_too (answer 0 []) refl e _)

module _ (xs : List ℕ) (e : answer 0 [] ≡ read_head xs) where
  accepted : Headed xs
  accepted = headed-done xs (answer 0 []) (ap (λ (x : Answer). x.number) (sym e))

  pub six_there : 6 ≤ length xs
  six_there = accepted.long

  pub id-done : (vs : List ℕ) → Known xs → answer 0 vs ≡ read_id (get_or xs 3 0) → answer 0 vs ≡ read_stream_id xs
  unfolding id_of
  id-done vs k f = f ∙ sym (accepted.is _ ∙ ap read_id (byte-field xs 3 (k 3).fits))

  module _ (n : ℕ) (f : n ≡ from_be_bytes w16 (get_or xs 4 0 ∷ get_or xs 5 0 ∷ [])) (k : Known xs) where
    length-is : packet_length xs ≡ n
    unfolding packet_length
    length-is = omega (arith, field-split xs 32 8 8, in_byte xs 4 0 8 0 refl, in_byte xs 5 0 8 0 refl, k 4, k 5)

    pub unbounded : n ≡ 0 → answer 0 (0 ∷ []) ≡ read_length xs
    unbounded z = sym (accepted.is _ ∙ simp (eq-eqb (packet_length xs) 0 (length-is ∙ z)))

    pub bounded : (n ≡ 0 → ⊥) → answer 0 (1 ∷ n ∷ []) ≡ read_length xs
    bounded h = sym (accepted.is _ ∙ simp (length-is, ne_eqb n 0 h))

  pub part-rests : take (length xs - 6) (drop 6 xs) ≡ part_of (contents_part xs) xs
  part-rests = part_in _ _ _ (omega (arith, accepted.long)) ∙ part-done _ _ _ _ (sym (accepted.is _)) (contents-within xs)

module _ (xs : List ℕ) (s : StreamId) (e : given_id s ≡ read_stream_id xs) where
  named : Headed xs
  named = headed-done xs (read_id (id_of xs)) (ap (λ (x : Answer). x.number) (sym e))

  pub six_left : 6 ≤ length xs
  six_left = named.long

  kind-is : parsed_id (kind_of s) ≡ parsed_id (id_of xs)
  unfolding id_of
  kind-is = parsed-agrees (id_of xs) s (field_below xs 24 8) (e ∙ named.is _)

  module _ (t : Bool) (h : t ≡ parsed_id (kind_of s)) where
    contents-are : answer 0 (truth t ∷ 6 ∷ (length xs - 6) ∷ []) ≡ read_contents_part xs
    contents-are = sym (named.is _ ∙ rw (h, kind-is))

    pub contents-parsed : t ≡ true → answer 0 (1 ∷ 6 ∷ (length xs - 6) ∷ []) ≡ read_contents_part xs
    contents-parsed q = rw q at contents-are

    pub contents-bare : t ≡ false → answer 0 (0 ∷ 6 ∷ (length xs - 6) ∷ []) ≡ read_contents_part xs
    contents-bare q = rw q at contents-are

pub ruleset pes_laws = (short, bad-prefix, head_done, refused_too, six_there, unbounded, bounded, part-rests, six_left, rules)
