-- The crate's theorems that belong to no one function: any two words, and any numbers left, that meet an entry's promise are equal.
-- Assumes nothing.
use mathlib.Core.Path.{◌≡◌, sym, ap, ◌∙◌}
use mathlib.Core.List.{List}
use Prim.Native.Nat.{ℕ}
use Rattle.machine.specs.Row.{RowStep, row_step, RowRun, row_run}
use Rattle.gather.specs.Row.{RowGather, row_gather}
use Rattle.writer.specs.declared.Route.{Route}
use Rattle.writer.specs.Row.{row_write_of, row_output_of}
use Rattle.host.specs.Reports.{Reports}
use Rattle.host.proofs.Theorems.{one-report}

-- a step over a row, and a run: the word, the numbers left and the log
pub one-step : (o : RowStep) (v w : ℕ) (x y l k : List ℕ) → row_step v x l ≡ o → row_step w y k ≡ o → (v ≡ w) × (x ≡ y) × (l ≡ k)
one-step o v w x y l k g h =
    let e : row_step v x l ≡ row_step w y k = g ∙ sym h in
    (ap (λ (r : RowStep). r.number) e, ap (λ (r : RowStep). r.row) e, ap (λ (r : RowStep). r.log) e)

pub one-run : (o : RowRun) (v w t u d e : ℕ) (x y l k : List ℕ) → row_run v x l t d ≡ o → row_run w y k u e ≡ o
    → (v ≡ w) × (x ≡ y) × (l ≡ k) × (t ≡ u) × (d ≡ e)
one-run o v w t u d e x y l k g h =
    let f : row_run v x l t d ≡ row_run w y k u e = g ∙ sym h in (
      ap (λ (r : RowRun). r.number) f,
      ap (λ (r : RowRun). r.row) f,
      ap (λ (r : RowRun). r.log) f,
      ap (λ (r : RowRun). r.taken) f,
      ap (λ (r : RowRun). r.ended) f,
    )

-- an event of the gathering store: the word, the numbers left and the store
pub one-gathered : (o : RowGather) (v w : ℕ) (x y s t : List ℕ) → row_gather v x s ≡ o → row_gather w y t ≡ o → (v ≡ w) × (x ≡ y) × (s ≡ t)
one-gathered o v w x y s t g h =
    let e : row_gather v x s ≡ row_gather w y t = g ∙ sym h in
    (ap (λ (r : RowGather). r.number) e, ap (λ (r : RowGather). r.row) e, ap (λ (r : RowGather). r.store) e)

-- a unit written: the word, the count and the output
pub one_written : (r : Route) (unit payload out lent : List ℕ) (v w : ℕ) (l k x y : List ℕ)
    → Reports (row_write_of r unit payload out) v lent l × (x ≡ row_output_of r unit payload out)
    → Reports (row_write_of r unit payload out) w lent k × (y ≡ row_output_of r unit payload out) → (v ≡ w) × (l ≡ k) × (x ≡ y)
one_written r unit payload out lent v w l k x y g h =
    let e = one-report (row_write_of r unit payload out) lent v w l k g.0 h.0 in
    (e.0, e.1, g.1 ∙ sym h.1)
