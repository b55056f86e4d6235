-- A gathering state as the numbers that a host keeps, in this order: open 0 or 1; the count; where the bytes lie, a place of the packet or
-- 255 for the store.
use Rattle.std.specs.Prelude.{Bool, true, List, [], ◌∷◌, ◌++◌, ℕ, eqb, ltb, get_or, Option, Some, None}
use Rattle.bits.specs.Answer.{Answer, answer, pick, truth, Check, ◌gives◌, first_of}
use Rattle.bits.specs.Numbers.{done, out_of_range, store_full}
use Rattle.packet.specs.Packet.{not_packet}
use Rattle.event_log.specs.declared.Event.{Event}
use Rattle.gather.specs.declared.Lies.{Lies}
use Rattle.gather.specs.declared.Lies.TheVariants.{Packet, Store}
use Rattle.gather.specs.declared.Gathering.{Gathering}
use Rattle.gather.specs.Gather.{gathering, gather_of, store_of, read_of}

-- ---- where the bytes lie

abbrev pub lies_of : ℕ → Lies
lies_of n = pick (eqb n 255) Store (Packet n)

abbrev pub lies_number : Lies → ℕ
lies_number (Packet a) = a
lies_number Store = 255

-- ---- the row

-- THE GATHERING STATE THAT A ROW STANDS FOR, if for one: open is 0 or 1
unfoldable pub gathering_of : List ℕ → Option Gathering
gathering_of xs = pick (ltb 1 (get_or xs 0 0)) None (Some (gathering (eqb (get_or xs 0 0) 1) (get_or xs 1 0) (lies_of (get_or xs 2 0))))

-- THE ROW OF A GATHERING STATE
unfoldable pub gathering_row : Gathering → List ℕ
gathering_row g = truth g.opened ∷ g.count ∷ lies_number g.lies ∷ []

-- ---- an event over a row: its number, and the row and the store after it

pub record RowGather : Type 0 where
  pub number : ℕ
  pub row : List ℕ
  pub store : List ℕ

abbrev pub row_gather : ℕ → List ℕ → List ℕ → RowGather
row_gather n xs s = record { number = n; row = xs; store = s }

-- the numbers that change the state: 0 and 20
abbrev pub moves : ℕ → Bool
moves n = pick (eqb n done) true (eqb n store_full)

-- a row that stands for no state: 14 where a wrong state is, after 1 and 2
unfoldable pub not_state : List ℕ → List Check
not_state p = not_packet p ++ (true gives out_of_range ∷ [])

-- a refusal, 20 apart, leaves the row as it was lent
abbrev pub gather_by : Option Gathering → List ℕ → List ℕ → Event → List ℕ → RowGather
gather_by None xs p e s = row_gather (first_of (not_state p)) xs s
gather_by (Some g) xs p e s =
    row_gather (gather_of g p e s).number (pick (moves (gather_of g p e s).number) (gathering_row (gather_of g p e s).gathering) xs) (store_of g p e s)

unfoldable pub row_gather_of : List ℕ → List ℕ → Event → List ℕ → RowGather
row_gather_of xs p e s = gather_by (gathering_of xs) xs p e s

-- ---- the bytes so far, as a part: of which slice, 0 the packet and 1 the store; its place; its length

abbrev pub part_values : Lies → ℕ → List ℕ
part_values (Packet a) n = 0 ∷ a ∷ n ∷ []
part_values Store n = 1 ∷ 0 ∷ n ∷ []

abbrev pub held_answer : Gathering → List ℕ → List ℕ → Answer
held_answer g p s = pick (eqb (read_of g p s) done) (answer done (part_values g.lies g.count)) (answer (read_of g p s) [])

abbrev pub held_by : Option Gathering → List ℕ → List ℕ → Answer
held_by None p s = answer (first_of (not_state p)) []
held_by (Some g) p s = held_answer g p s

unfoldable pub row_held : List ℕ → List ℕ → List ℕ → Answer
row_held xs p s = held_by (gathering_of xs) p s
