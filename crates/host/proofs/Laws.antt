-- How an answer comes to be told.
-- Assumes nothing.
use mathlib.Core.Path.{◌≡◌, refl, sym, ap, ap₂, ◌∙◌}
use mathlib.Core.Bool.{Bool, true, false, ◌&&◌}
use mathlib.Core.List.{List, [], ◌∷◌}
use mathlib.Core.Logic.{◌↔◌}
use Prim.Native.Nat.{ℕ, ◌+◌, ◌*◌, ◌^◌}
use native.Mathlib.Omega.{arith}
use lib.Dec.{eqb, ltb}
use borrow.Author.Tests.{eq-eqb, ne_eqb, eqb-true}
use lib.ListN.{length, get_or}
use mir.Val.{bool_byte}
use Rattle.std.specs.Prelude.{Option, Some, None, Result, Ok, Err}
use Rattle.std.specs.Option.{unwrap_or}
use Rattle.bits.specs.Answer.{Answer, answer, pick, and_then, truth, unless}
use Rattle.bits.specs.Refused.{refused, given}
use Rattle.bits.proofs.Checks.{unless-map}
use Rattle.bits.specs.declared.refusal.Refusal.{Refusal}
use Rattle.bits.proofs.Refusals.{limited-refusal, refused-not_done}
use Rattle.timestamp.specs.declared.Timestamp.{Timestamp}
use Rattle.timestamp.specs.Stamp.{timestamp_values, make_stamp, likely_wrapped}
use Rattle.timestamp.proofs.Laws.{made-value}
use Rattle.control.specs.declared.AdaptationControl.{AdaptationControl}
use Rattle.control.specs.declared.TransportScramblingControl.{TransportScramblingControl}
use Rattle.control.specs.declared.ClockRef.{ClockRef}
use Rattle.control.specs.declared.ContinuityCounter.{ContinuityCounter}
use Rattle.control.specs.declared.Compared.{Compared}
use Rattle.control.specs.Clock.{clock, clock_values, clock_fits, clock_number, make_clock}
use Rattle.control.specs.Control.{counter_values, make_counter, compare, follows, is_scrambled, scrambling, scheme_values, read_scheme, has_adaptation_field, has_payload}
use Rattle.packet.specs.Packet.{not_packet, read_byte_four}
use Rattle.packet.specs.Packet as packet
use Rattle.control.proofs.Laws.{clock-made, counter_made, number_of_lem}
use Rattle.contents.specs.declared.EsRate.{EsRate}
use Rattle.contents.specs.Contents.{make_rate, rate_bytes}
use Rattle.contents.specs.Given.{rate_values}
use Rattle.contents.proofs.Laws.{rate-kept}
use Rattle.host.specs.Clocks.{same_pair, same_answer, compared_values, compared_answer, follows_answer, control_values, scrambling_values}
use Rattle.host.specs.Packets.{read_scrambling, read_control}
use Rattle.host.specs.Stamps.{wrap_answer}
use Rattle.host.specs.Reports.{Reports, word, filled, outs}

module _ {a : Answer} {w : ℕ} {lent left : List ℕ} where
  pub reports : w ≡ word a → left ≡ outs a lent → Reports a w lent left
  reports n v = record { number = n; numbers = v }

-- ---- answers that stand behind a first one

-- a word of 0 is that of an accepted answer, and no other is
word-done : (a : Answer) → word a ≡ 0 → a.number ≡ 0
word-done a = go (eqb a.number 0) refl
  where
    go : (t : Bool) → eqb a.number 0 ≡ t → pick t 0 (a.number + 256 * get_or a.values 0 0 + 65536 * get_or a.values 1 0) ≡ 0
        → a.number ≡ 0
    go true e h = eqb-true a.number 0 e
    go false e h = omega arith

word-refused : (a : Answer) → (word a ≡ 0 → ⊥) → a.number ≡ 0 → ⊥
word-refused a h z = h (simp (eq-eqb a.number 0 z))

pub reports-done : {a : Answer} {w : ℕ} {lent left : List ℕ} → Reports a w lent left → w ≡ 0 → a.number ≡ 0
reports-done {a} t h = word-done a (sym t.number ∙ h)

-- as many values as numbers are lent fill them all
filled-all : (lent vs : List ℕ) → length lent ≡ length vs → filled lent vs ≡ vs
filled-all [] [] h = refl
filled-all [] (v ∷ vs) h = absurd (omega arith)
filled-all (x ∷ xs) [] h = absurd (omega arith)
filled-all (x ∷ xs) (v ∷ vs) h = ap (λ (t : List ℕ). v ∷ t) (filled-all xs vs (omega arith))

-- where the first is refused it is reported, whatever numbers are lent; else all that are lent are filled
module _ {a : Answer} {w : ℕ} (lent : List ℕ) (t : Reports a w [] []) where
  pub reports-first : (b : Answer) → (w ≡ 0 → ⊥) → Reports (and_then a b) w lent lent
  reports-first b h =
      let e : eqb a.number 0 ≡ false = ne_eqb a.number 0 (word-refused a (λ z. h (t.number ∙ z))) in
      rw e (reports t.number (simp e))

  pub reports-whole : {left vs : List ℕ} → w ≡ 0 → left ≡ vs → length lent ≡ length left → Reports (and_then a (answer 0 vs)) 0 lent left
  reports-whole {left} {vs} h e l =
      rw (eq-eqb a.number 0 (reports-done t h)) (reports refl (e ∙ sym (filled-all lent vs (l ∙ ap length e))))

-- ---- what is made of two numbers, or of two things that were made of numbers

pub wrapped : (v s : ℕ) (x y : Timestamp) (b : Bool) → answer 0 (timestamp_values x) ≡ make_stamp v → answer 0 (timestamp_values y) ≡ make_stamp s
    → b ≡ likely_wrapped x.val y.val → answer 0 (truth b ∷ []) ≡ wrap_answer v s
wrapped v s x y b p q h =
    let e : b ≡ likely_wrapped v s = rw (made-value v x.val p, made-value s y.val q) at h in
    rw (← p, ← q) (ap (λ (t : Bool). answer 0 (truth t ∷ [])) e)

-- two clock references are the same where both numbers are
both-same : (t u : Bool) → (t && u) ≡ pick t u false
both-same true u = refl
both-same false u = refl

-- the test of two pairs says just when they are one clock reference
pub pair_same : (b e b' e' : ℕ) → (same_pair b e b' e' ≡ true) ↔ (clock b e ≡ clock b' e')
unfolding same_pair
pair_same b e b' e' =
    (go (eqb b b') refl, λ h. simp (eq-eqb b b' (ap (λ (c : ClockRef). c.base) h), eq-eqb e e' (ap (λ (c : ClockRef). c.extension) h)))
  where
    go : (t : Bool) → eqb b b' ≡ t → pick t (eqb e e') false ≡ true → clock b e ≡ clock b' e'
    go true h k = ap₂ clock (eqb-true b b' h) (eqb-true e e' k)
    go false h k = let z : ◌≡◌ {A = ℕ} 0 1 = ap truth k in absurd (omega arith)

pub same-clock : (b e b' e' : ℕ) (c d : ClockRef) (s : Bool) → answer 0 (clock_values c) ≡ make_clock b e → answer 0 (clock_values d) ≡ make_clock b' e'
    → s ≡ (eqb c.base d.base && eqb c.extension d.extension) → answer 0 (truth s ∷ []) ≡ same_answer b e b' e'
unfolding same_pair
same-clock b e b' e' c d s p q h =
    let k : s ≡ pick (eqb b b') (eqb e e') false = (rw (clock-made b e c p, clock-made b' e' d q) at h) ∙ both-same (eqb b b') (eqb e e') in
    rw (← p, ← q) (ap (λ (t : Bool). answer 0 (truth t ∷ [])) k)

-- a number that is refused by one pair of fits is refused by the same
pub clock_number-refused : (b e : ℕ) (r : Refusal) → refused r ≡ make_clock b e → refused r ≡ clock_number b e
unfolding make_clock clock_number
clock_number-refused b e r h = limited-refusal (clock_fits b e) (b ∷ e ∷ []) ((b * 300 + e) ∷ []) r h

pub clock_number-given : (b e : ℕ) (c : ClockRef) (a : Answer) → answer 0 (clock_values c) ≡ make_clock b e → a ≡ clock_number c.base c.extension
    → a ≡ clock_number b e
clock_number-given b e c a p q = q ∙ number_of_lem b e c p

pub counter_follows : (a b : ℕ) (x y : ContinuityCounter) (f : Bool) → answer 0 (counter_values x) ≡ make_counter a → answer 0 (counter_values y) ≡ make_counter b
    → f ≡ follows x.val y.val → answer 0 (truth f ∷ []) ≡ follows_answer a b
counter_follows a b x y f p q h =
    let e : f ≡ follows a b = rw (counter_made a x.val p, counter_made b y.val q) at h in
    rw (← p, ← q) (ap (λ (t : Bool). answer 0 (truth t ∷ [])) e)

pub counters-compared : (a b : ℕ) (x y : ContinuityCounter) (k : Compared) → answer 0 (counter_values x) ≡ make_counter a
    → answer 0 (counter_values y) ≡ make_counter b → k ≡ compare x.val y.val → answer 0 (compared_values k) ≡ compared_answer a b
counters-compared a b x y k p q h =
    let e : k ≡ compare a b = rw (counter_made a x.val p, counter_made b y.val q) at h in
    rw (← p, ← q) (ap (λ (c : Compared). answer 0 (compared_values c)) e)

-- the number of a scheme, 0 where there is none
scheme-is : (b : ℕ) → get_or (read_scheme b).values 1 0 ≡ scrambling b
unfolding read_scheme
scheme-is b = go (scrambling b) (eqb (scrambling b) 0) refl
  where
    go : (n : ℕ) (t : Bool) → eqb n 0 ≡ t → get_or (pick t (answer 0 (0 ∷ [])) (answer 0 (1 ∷ n ∷ []))).values 1 0 ≡ n
    go n true e = sym (eqb-true n 0 e)
    go n false e = refl

scheme-or : (o : Option ℕ) → unwrap_or o 0 ≡ get_or (scheme_values o) 1 0
scheme-or None = refl
scheme-or (Some n) = refl

pub scheme-told : (b n : ℕ) (o : Option ℕ) → n ≡ unwrap_or o 0 → answer 0 (scheme_values o) ≡ read_scheme b → n ≡ scrambling b
scheme-told b n o e p = e ∙ scheme-or o ∙ ap (λ (a : Answer). get_or a.values 1 0) p ∙ scheme-is b

-- what is read of a fourth byte, from the reader that gives the byte
four_through : (f : ℕ → List ℕ) (xs : List ℕ) (a : Answer) → a ≡ read_byte_four xs
    → pick (eqb a.number 0) (answer 0 (f (get_or a.values 0 0))) a ≡ unless (not_packet xs) (answer 0 (f (get_or xs 3 0)))
unfolding not_packet
four_through f xs a e =
    rw e (unless-map (not_packet xs) (λ (b : Answer). pick (eqb b.number 0) (answer 0 (f (get_or b.values 0 0))) b) (λ n h. rw (ne_eqb n 0 (omega arith))) (omega arith) _)

pub four-given : {A : Type 0} (f : ℕ → List ℕ) (byte : A → ℕ) (xs : List ℕ) (r : Result A Refusal) → given (λ (x : A). byte x ∷ []) r ≡ read_byte_four xs
    → given (λ (x : A). f (byte x)) r ≡ unless (not_packet xs) (answer 0 (f (get_or xs 3 0)))
four-given f byte xs (Ok x) e = four_through f xs (answer 0 (byte x ∷ [])) e
four-given f byte xs (Err r) e = sym (refused-not_done r _ (refused r)) ∙ four_through f xs (refused r) e

pub scrambling-given : (xs : List ℕ) (r : Result TransportScramblingControl Refusal) → given packet.scrambling_values r ≡ read_byte_four xs
    → given scrambling_values r ≡ read_scrambling xs
scrambling-given xs r e = four-given (λ (b : ℕ). truth (is_scrambled b) ∷ scrambling b ∷ []) (λ (c : TransportScramblingControl). c.0) xs r e

pub control-given : (xs : List ℕ) (r : Result AdaptationControl Refusal) → given packet.control_values r ≡ read_byte_four xs
    → given control_values r ≡ read_control xs
control-given xs r e = four-given (λ (b : ℕ). truth (has_adaptation_field b) ∷ truth (has_payload b) ∷ []) (λ (c : AdaptationControl). c.0) xs r e

-- a rate that is refused is refused as its bytes are, and one that is kept is the number given
pub rate_bytes-refused : (n : ℕ) (r : Refusal) → refused r ≡ make_rate n → refused r ≡ rate_bytes n
unfolding make_rate rate_bytes
rate_bytes-refused n r h = limited-refusal (ltb n (2 ^ 22)) (n ∷ []) ((n * 50) ∷ []) r h

pub rate_bytes-given : (n : ℕ) (e : EsRate) (a : Answer) → answer 0 (rate_values e) ≡ make_rate n → a ≡ rate_bytes e.0 → a ≡ rate_bytes n
rate_bytes-given n e a p q = q ∙ rate-kept n e.0 p

-- What the proofs of the crate are given beside the rules.
pub ruleset host_laws = (wrapped, same-clock, clock_number-refused, clock_number-given, counter_follows, counters-compared, scheme-told, scrambling-given, control-given, rate_bytes-refused, rate_bytes-given)
