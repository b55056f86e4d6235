-- A packet gives at most three entries, of eight bytes each.
use Rattle.std.proofs.Common.{◌≡◌, sym, refl, ap, ◌∙◌, ℕ, ◌≤◌, Bool, true, false, List, length, Err, arith}
use Rattle.std.proofs.lemmas.Result.{err_from_is_err_and}
use Rattle.bits.specs.declared.refusal.Refusal.TheVariants.{LogFull}
use Rattle.bits.specs.Answer.{pick}
use Rattle.machine.specs.declared.Machine.{Machine}
use Rattle.machine.specs.declared.Stepped.{Stepped}
use Rattle.machine.specs.Step.{Outcome, given, verdict_number, state_of, number_of, step_of, advanced}
use Rattle.machine.proofs.Laws.{never-full}
use Rattle.machine.proofs.Theorems.{at_most_three}
use Rattle.lister.proofs.listing.step.Goals as goal

room-for_three : (m : Machine) (p l : List ℕ) (s : Stepped) → m.place ≡ 0 → length l ≡ 24 → given s ≡ step_of m p l
    → s.verdict ≡ Err LogFull → ⊥
unfolding step_of
room-for_three m p l s z n g h =
    let full : number_of m p l ≡ 15 = sym (ap (λ (o : Outcome). o.number) g) ∙ ap verdict_number h in
    never-full m p l (omega (arith, at_most_three m.taken (state_of m) p)) full

place-after : (b : Bool) (m : Machine) (p : List ℕ) → m.place ≡ 0 → (pick b (advanced m p) m).place ≤ 24
unfolding advanced
place-after true m p z = omega (arith, at_most_three m.taken (state_of m) p)
place-after false m p z = omega arith

place-within : (m : Machine) (p l : List ℕ) (s : Stepped) → m.place ≡ 0 → given s ≡ step_of m p l → s.machine.place ≤ 24
unfolding step_of
place-within m p l s z g = rw (ap (λ (o : Outcome). o.machine) g) (place-after _ m p z)

pub returns-in_err-s-clause-room : goal.returns-in_err-s-clause-room
returns-in_err-s-clause-room c =
    let p = err_from_is_err_and c.from_residual.result c.from_residual.ensures.1 in
    let same = p.1 in
    let from = p.2 in
    let was = c.in_err-s.was in
    λ h. room-for_three _ _ _ c.step-s.result refl c.told-log c.step-s.ensures.0 (cc)

pub returns-clause-within : goal.returns-clause-within
returns-clause-within c = place-within _ _ _ _ refl c.step-s.ensures.0
