-- One answer only: any two outcomes that meet a function's promise are equal, in the answer, the state left and the bytes left.
use mathlib.Core.Path.{◌≡◌, sym, ap, ◌∙◌}
use mathlib.Core.List.{List}
use Prim.Native.Nat.{ℕ}
use borrow.Author.Tests.{eq-eqb, ne_eqb}
use Rattle.std.specs.Prelude.{Result}
use Rattle.bits.specs.declared.refusal.Refusal.{Refusal}
use Rattle.event_log.specs.declared.Event.{Event}
use Rattle.machine.specs.declared.Machine.{Machine}
use Rattle.machine.specs.declared.Report.{Report}
use Rattle.machine.specs.declared.Stepped.{Stepped}
use Rattle.machine.specs.Step.{outcome, number_of, verdict_number, step_of, log_of}
use Rattle.machine.specs.Run.{Reported, reported, run_number, report_of, ran_log}
use Rattle.machine.proofs.Theorems.{one-step, one-run}
use Rattle.gather.specs.declared.Gathering.{Gathering}
use Rattle.gather.specs.declared.Gathered.{Gathered}
use Rattle.gather.specs.Gather.{gather_outcome, gather_number, store_number, gather_of, store_of}
use Rattle.gather.proofs.Theorems.{one-gathered}

abbrev stepped : Result Unit Refusal → Machine → Stepped
stepped v m = record { verdict = v; machine = m }

pub one-step-in-place : (m : Machine) (p l : List ℕ) (a b : Result Unit Refusal) (m₁ m₂ : Machine) (l₁ l₂ : List ℕ)
    → (verdict_number a ≡ (step_of m p l).number) × (m₁ ≡ (step_of m p l).machine) × (l₁ ≡ log_of m p l)
    → (verdict_number b ≡ (step_of m p l).number) × (m₂ ≡ (step_of m p l).machine) × (l₂ ≡ log_of m p l)
    → (a ≡ b) × (m₁ ≡ m₂) × (l₁ ≡ l₂)
one-step-in-place m p l a b m₁ m₂ l₁ l₂ h k =
    let e = one-step m p l (stepped a m₁) (stepped b m₂) (λ i. outcome (h.0 i) (h.1 i)) (λ i. outcome (k.0 i) (k.1 i)) in
    (ap (λ (s : Stepped). s.verdict) e, ap (λ (s : Stepped). s.machine) e, h.2 ∙ sym k.2)

pub one-run-in-place : (m : Machine) (bs l : List ℕ) (a b : Report) (m₁ m₂ : Machine) (l₁ l₂ : List ℕ)
    → (reported a ≡ report_of m bs l) × (m₁ ≡ (report_of m bs l).machine) × (l₁ ≡ ran_log m bs l)
    → (reported b ≡ report_of m bs l) × (m₂ ≡ (report_of m bs l).machine) × (l₂ ≡ ran_log m bs l)
    → (a ≡ b) × (m₁ ≡ m₂) × (l₁ ≡ l₂)
one-run-in-place m bs l a b m₁ m₂ l₁ l₂ h k = (one-run m bs l a b h.0 k.0, h.1 ∙ sym k.1, h.2 ∙ sym k.2)

abbrev gathered : Result Unit Refusal → Gathering → Gathered
gathered v g = record { verdict = v; gathering = g }

pub one-gather_in-place : (g : Gathering) (p : List ℕ) (e : Event) (s : List ℕ) (a b : Result Unit Refusal) (g₁ g₂ : Gathering) (s₁ s₂ : List ℕ)
    → (store_number a ≡ (gather_of g p e s).number) × (g₁ ≡ (gather_of g p e s).gathering) × (s₁ ≡ store_of g p e s)
    → (store_number b ≡ (gather_of g p e s).number) × (g₂ ≡ (gather_of g p e s).gathering) × (s₂ ≡ store_of g p e s)
    → (a ≡ b) × (g₁ ≡ g₂) × (s₁ ≡ s₂)
one-gather_in-place g p e s a b g₁ g₂ s₁ s₂ h k =
    let q =
    one-gathered g p e s (gathered a g₁) (gathered b g₂) s₁ s₂
    (λ i. gather_outcome (h.0 i) (h.1 i), h.2) (λ i. gather_outcome (k.0 i) (k.1 i), k.2) in
    (ap (λ (t : Gathered). t.verdict) q.0, ap (λ (t : Gathered). t.gathering) q.0, q.1)

-- ---- a refusal leaves the state and the bytes as lent, 20 apart

pub step-refused : (m : Machine) (p l : List ℕ) (a : Result Unit Refusal) (m₁ : Machine) (l₁ : List ℕ)
    → (verdict_number a ≡ (step_of m p l).number) × (m₁ ≡ (step_of m p l).machine) × (l₁ ≡ log_of m p l)
    → (verdict_number a ≡ 0 → ⊥) → (m₁ ≡ m) × (l₁ ≡ l)
unfolding step_of log_of
step-refused m p l a m₁ l₁ h z =
    let q = ne_eqb (number_of m p l) 0 (λ e. z (h.0 ∙ e)) in
    (h.1 ∙ simp q, h.2 ∙ simp q)

pub run-refused : (m : Machine) (bs l : List ℕ) (r : Report) (m₁ : Machine) (l₁ : List ℕ)
    → (reported r ≡ report_of m bs l) × (m₁ ≡ (report_of m bs l).machine) × (l₁ ≡ ran_log m bs l)
    → (verdict_number r.verdict ≡ 0 → ⊥) → (m₁ ≡ m) × (l₁ ≡ l)
unfolding report_of ran_log
run-refused m bs l r m₁ l₁ h z =
    let q = ne_eqb (run_number m bs l) 0 (λ e. z (ap (λ (t : Reported). t.number) h.0 ∙ simp (eq-eqb (run_number m bs l) 0 e))) in
    (h.1 ∙ simp q, h.2 ∙ simp q)

pub gather_refused : (g : Gathering) (p : List ℕ) (e : Event) (s : List ℕ) (a : Result Unit Refusal) (g₁ : Gathering) (s₁ : List ℕ)
    → (store_number a ≡ (gather_of g p e s).number) × (g₁ ≡ (gather_of g p e s).gathering) × (s₁ ≡ store_of g p e s)
    → (store_number a ≡ 0 → ⊥) → (store_number a ≡ 20 → ⊥) → (g₁ ≡ g) × (s₁ ≡ s)
unfolding gather_of store_of
gather_refused g p e s a g₁ s₁ h z y =
    let q = ne_eqb (gather_number g p e s) 0 (λ i. z (h.0 ∙ i)) in
    let t = ne_eqb (gather_number g p e s) 20 (λ i. y (h.0 ∙ i)) in
    (h.1 ∙ simp (q, t), h.2 ∙ simp q)
