-- What continuity comes to, in each case.
-- Assumes nothing.
use mathlib.Core.Path.{◌≡◌, refl, sym, ap, ◌∙◌}
use mathlib.Core.Bool.{Bool, true, false}
use mathlib.Core.List.{List, [], ◌∷◌}
use Prim.Native.Nat.{ℕ, zero, suc, ◌/◌, ◌%◌, ◌^◌, ◌≤◌}
use native.Mathlib.Omega.{arith}
use lib.Dec.{eqb, leb}
use lib.ListN.{length, take, drop, get_or, length-take, length-drop}
use borrow.Author.Tests.{ne_eqb, eqb-true, leb-true}
use Rattle.std.specs.Prelude.{Some, None, Result, Ok, Err}
use Rattle.std.specs.Result.{result_unwrap_or}
use Rattle.bits.specs.Answer.{Answer, answer, pick, truth, part_of}
use Rattle.bits.specs.Field.{bit, flag}
use Rattle.bits.specs.Refused.{given, flag_values}
use Rattle.bits.specs.declared.refusal.Refusal.{Refusal}
use Rattle.bits.proofs.Bools.{false_true, both, pick_same}
use Rattle.bits.proofs.Fields.{bit-drop, truth-bit}
use Rattle.bits.proofs.Refusals.{refused-not_done}
use Rattle.control.specs.declared.ContinuityCounter.{ContinuityCounter}
use Rattle.control.specs.declared.Compared.{Compared}
use Rattle.control.specs.declared.Compared.TheVariants.{Next, Same, Jump}
use Rattle.control.specs.Control.{compare, follows}
use Rattle.control.proofs.Laws.{apart}
use Rattle.packet.specs.Packet.{counter_field, payload_flag, adaptation_flag, adaptation_length, adaptation_there, read_adaptation, payload_there}
use Rattle.packet.proofs.Laws.{packet-is}
use Rattle.adaptation.specs.Adaptation.{no_flags, read_flag}
use Rattle.machine.specs.declared.Mode.{Mode}
use Rattle.machine.specs.declared.Mode.TheVariants.{Crate}
use Rattle.machine.specs.declared.Repeat.{Repeat}
use Rattle.machine.specs.declared.Continuity.{Continuity}
use Rattle.machine.specs.declared.Continuity.TheVariants.{GoesOn, Repeats, Breaks}
use Rattle.machine.specs.Events.{Last, as_counter, repeated, judged, by_counter, discontinuity, excused, continuity_by}
use Rattle.machine.specs.Original.{continuous}

-- ---- the tables, by what the counter and the payload flag say

abbrev pub compared : Bool → Bool → Compared
compared a b = pick a Next (pick b Same Jump)

-- in order: it goes on in both modes, whatever may be repeated
judged-on : (mo : Mode) (r : Repeat) (f a b : Bool) → (a ≡ true → b ≡ false) → pick f a b ≡ true → judged mo r f (compared a b) ≡ GoesOn
judged-on mo r true true b h e = refl
judged-on mo r true false b h e = false_true e
judged-on mo r false true b h e = false_true (sym (h refl) ∙ e)
judged-on mo r false false true h e = refl
judged-on mo r false false false h e = false_true e

-- not in order: a repeat where the counter is the same with the payload flag, else a break
judged-off : (mo : Mode) (r : Repeat) (f a b : Bool) → pick f a b ≡ false
    → judged mo r f (compared a b) ≡ pick f (pick b (repeated mo r) Breaks) Breaks
judged-off mo r true true b e = false_true (sym e)
judged-off mo r true false true e = refl
judged-off mo r true false false e = refl
judged-off mo r false true b e = refl
judged-off mo r false false true e = false_true (sym e)
judged-off mo r false false false e = refl

module _ (mo : Mode) (r : Repeat) (p : List ℕ) where
  by_counter_on : (l : Last) → continuous l p ≡ true → by_counter mo l r p ≡ GoesOn
  unfolding continuous compare
  by_counter_on None e = refl
  by_counter_on (Some c) e =
      judged-on mo r (payload_flag p) (follows (counter_field p) c.val) (eqb (counter_field p) c.val) (apart (counter_field p) c.val) e

  by_counter_off : (c : ContinuityCounter) → continuous (Some c) p ≡ false
      → by_counter mo (Some c) r p ≡ pick (payload_flag p) (pick (eqb (counter_field p) c.val) (repeated mo r) Breaks) Breaks
  unfolding continuous compare
  by_counter_off c e = judged-off mo r (payload_flag p) (follows (counter_field p) c.val) (eqb (counter_field p) c.val) e

-- in the crate's mode it is a break
crate_off : (r : Repeat) (p : List ℕ) (l : Last) → continuous l p ≡ false → by_counter Crate l r p ≡ Breaks
unfolding continuous
crate_off r p None e = false_true (sym e)
crate_off r p (Some c) e = by_counter_off Crate r p c e ∙ go (payload_flag p) (eqb (counter_field p) c.val)
  where
    go : (f s : Bool) → pick f (pick s Breaks Breaks) Breaks ≡ Breaks
    go true true = refl
    go true false = refl
    go false s = refl

-- ---- a packet in a state

-- one that both tables let go on, whatever its discontinuity bit
on_anyway : (mo : Mode) (l : Last) (r : Repeat) (p : List ℕ) → by_counter mo l r p ≡ GoesOn → continuity_by mo l r p ≡ GoesOn
unfolding continuity_by
on_anyway mo l r p h = ap (pick (excused mo p) GoesOn) h ∙ pick_same (excused mo p) GoesOn

module _ (mo : Mode) (l : Last) (r : Repeat) (p : List ℕ) where
  -- WHAT IS IN ORDER GOES ON IN BOTH MODES
  pub in_order_on : continuous l p ≡ true → continuity_by mo l r p ≡ GoesOn
  in_order_on h = on_anyway mo l r p (by_counter_on mo r p l h)

  -- so does what has no last counter before it
  pub on-first : l ≡ None → continuity_by mo l r p ≡ GoesOn
  unfolding continuous
  on-first h = in_order_on (rw h)

-- in the crate's mode any other is a break
pub crate_breaks : (l : Last) (r : Repeat) (p : List ℕ) → continuous l p ≡ false → continuity_by Crate l r p ≡ Breaks
unfolding continuity_by
crate_breaks l r p h = crate_off r p l h

-- the next counter, with the payload flag
pub on-next : (mo : Mode) (c : ContinuityCounter) (r : Repeat) (p : List ℕ) → payload_there p ≡ true → compare (counter_field p) c.val ≡ Next
    → continuity_by mo (Some c) r p ≡ GoesOn
unfolding payload_there
on-next mo c r p f h =
    let g : payload_flag p ≡ true = (both (payload_flag p) _ f).0 in
    on_anyway mo (Some c) r p (ap (λ (b : Bool). judged mo r b (compare (counter_field p) c.val)) g ∙ ap (judged mo r true) h)

-- ---- the discontinuity bit is what the adaptation field's reader gives of the field that the packet's reader gives

first_of_lem : (n : ℕ) (xs : List ℕ) → 1 ≤ n → get_or (take n xs) 0 0 ≡ get_or xs 0 0
first_of_lem zero xs h = absurd (omega arith)
first_of_lem (suc n) [] h = refl
first_of_lem (suc n) (x ∷ xs) h = refl

bit-of : (n : ℕ) (xs : List ℕ) → 1 ≤ n → bit (take n xs) 0 ≡ bit xs 0
unfolding bit
bit-of n xs h = ap (λ (b : ℕ). b / 2 ^ 7 % 2) (first_of_lem n xs h)

-- a field that is given has a byte
given-long : (f g : Bool) (n : ℕ) → pick f (pick g (pick (leb 1 n) (leb n 182) false) (eqb n 183)) false ≡ true → 1 ≤ n
given-long true true n h = go (leb 1 n) refl h
  where
    go : (b : Bool) → leb 1 n ≡ b → pick b (leb n 182) false ≡ true → 1 ≤ n
    go true e k = leb-true 1 n e
    go false e k = false_true k
given-long true false n h = omega (arith, eqb-true n 183 h)
given-long false g n h = false_true h

there_long : (p : List ℕ) → adaptation_there p ≡ true → 1 ≤ adaptation_length p
unfolding adaptation_there
there_long p h = given-long (adaptation_flag p) (payload_flag p) (adaptation_length p) h

module _ (p : List ℕ) (l : length p ≡ 188) (s : get_or p 0 0 ≡ 0x47) where
  field_is : (t : Bool) → adaptation_there p ≡ t → read_adaptation p ≡ pick t (answer 0 (5 ∷ adaptation_length p ∷ [])) (answer 9 [])
  field_is t h = packet-is p l s _ ∙ rw h

  pub discontinuity-read : read_flag 0 (part_of (read_adaptation p) p) ≡ pick (adaptation_there p) (answer 0 (truth (discontinuity p) ∷ [])) (answer 1 [])
  unfolding read_flag no_flags part_of discontinuity
  discontinuity-read = go (adaptation_there p) refl
    where
      go : (t : Bool) → adaptation_there p ≡ t → read_flag 0 (part_of (read_adaptation p) p) ≡ pick t (answer 0 (truth (pick t (flag p 40) false) ∷ [])) (answer 1 [])
      go true h =
          let n = adaptation_length p in
          let xs = take n (drop 5 p) in
          let k : length xs ≡ 0 → ⊥ = λ e. omega (arith, there_long p h, length-take n (drop 5 p), length-drop 5 p) in
          let b : bit xs 0 ≡ bit p 40 = bit-of n (drop 5 p) (there_long p h) ∙ bit-drop p 5 0 in
          rw (field_is true h, ne_eqb (length xs) 0 k, b)
      go false h = rw (field_is false h)

  pub bit-read : (r : Result Bool Refusal) → given flag_values r ≡ read_flag 0 (part_of (read_adaptation p) p) → result_unwrap_or r false ≡ discontinuity p
  unfolding discontinuity
  bit-read r e = go (adaptation_there p) (flag p 40) r (e ∙ discontinuity-read)
    where
      go : (t b : Bool) (r : Result Bool Refusal) → given flag_values r ≡ pick t (answer 0 (truth (pick t b false) ∷ [])) (answer 1 [])
          → result_unwrap_or r false ≡ pick t b false
      go true b (Ok x) z = sym (truth-bit x) ∙ (ap (λ (a : Answer). eqb (get_or a.values 0 0) 1) z ∙ truth-bit b)
      go true b (Err r) z = false_true (sym (refused-not_done r true false) ∙ ap (λ (a : Answer). pick (eqb a.number 0) true false) z)
      go false b (Ok x) z = false_true (ap (λ (a : Answer). eqb a.number 1) z)
      go false b (Err r) z = refl

-- ---- a repeat has the last counter

is-repeat : Continuity → Bool
is-repeat GoesOn = false
is-repeat Repeats = true
is-repeat Breaks = false

same_alone : (mo : Mode) (r : Repeat) (f a b : Bool) → judged mo r f (compared a b) ≡ Repeats → b ≡ true
unfolding is-repeat
same_alone mo r true true b h = false_true (ap is-repeat h)
same_alone mo r true false true h = refl
same_alone mo r true false false h = false_true (ap is-repeat h)
same_alone mo r false true b h = false_true (ap is-repeat h)
same_alone mo r false false true h = false_true (ap is-repeat h)
same_alone mo r false false false h = false_true (ap is-repeat h)

by_counter_same : (mo : Mode) (l : Last) (r : Repeat) (p : List ℕ) → by_counter mo l r p ≡ Repeats → l ≡ Some (as_counter (counter_field p))
unfolding compare is-repeat
by_counter_same mo None r p h = false_true (ap is-repeat h)
by_counter_same mo (Some c) r p h =
    ap (λ (n : ℕ). Some (as_counter n))
    (sym (eqb-true (counter_field p) c.val (same_alone mo r (payload_flag p) (follows (counter_field p) c.val) (eqb (counter_field p) c.val) h)))

pub repeat-last : (mo : Mode) (l : Last) (r : Repeat) (p : List ℕ) → continuity_by mo l r p ≡ Repeats → l ≡ Some (as_counter (counter_field p))
unfolding continuity_by is-repeat
repeat-last mo l r p h = by_counter_same mo l r p (go (excused mo p) (by_counter mo l r p) h)
  where
    go : (b : Bool) (c : Continuity) → pick b GoesOn c ≡ Repeats → c ≡ Repeats
    go true c z = false_true (ap is-repeat z)
    go false c z = z
