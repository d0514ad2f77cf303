-- Halls worked through by hand: each call and scan list with what is told of it.
use Rattle.std.specs.Prelude.{refl, List, [], ◌∷◌, map, ℕ, Ok, Err}
use Rattle.std.proofs.Common.{lit≤}
use Rattle.activity.specs.declared.Activity.{Activity}
use Rattle.program.specs.Grammar.{Body, finish, compensatable, pivot, row, or_else}
use Rattle.program.specs.Worked.{WorkedTexts}
use Rattle.station.specs.Meaning.{Meaning}
use Rattle.station.specs.Pair.{Both, paired}
use Rattle.baggage.specs.Lanes.{Lanes, lanes_meaning, first_lanes}
use Rattle.baggage.specs.Register.{Register, register_meaning, first_register}
use Rattle.protocol.specs.declared.answer.Turn.{Turn}
use Rattle.protocol.specs.declared.answer.Turn.TheVariants.{Done, Failed, Wait, Undone, Restarted, Gone, Next, Committed}
use Rattle.protocol.specs.Answer.{Answer}
use Rattle.protocol.specs.declared.answer.Served.TheVariants.{Loaded, Opened, Cancelled, Stepped}
use Rattle.protocol.specs.declared.answer.Refusal.{Refusal}
use Rattle.protocol.specs.declared.answer.Refusal.TheVariants.{NoPlace, Busy, NotLoaded, NoProcess, IsPastPivot, IsWithdrawing}
use Rattle.protocol.specs.declared.scan.Request.{Request}
use Rattle.protocol.specs.Hall.{Hall, fresh}
use Rattle.protocol.specs.Call.{IsProgram, Call, loading, opening, stepping, cancelling, Event, call, scan}
use Rattle.protocol.specs.Book.{Told, called, scan_served}
use Rattle.protocol.specs.Statements.{Runs}

-- ---- the station: lanes and a register, side by side, as they are at first

abbrev pub Sides : Type 0
Sides = Both Lanes Register

abbrev pub sides_meaning : Meaning Sides
sides_meaning = paired lanes_meaning register_meaning

abbrev pub first_sides : Sides
first_sides = record { first = first_lanes; second = first_register }

-- ---- programs that work on lane 3: 0 takes a bag in, 1 gives one out, 3 sends one on, 4 flags the lane

abbrev pub at_lane_3 : ℕ → Activity
at_lane_3 n = record { number = n; parameter = 3 }

abbrev pub take_one : Body
take_one = compensatable (at_lane_3 0) finish

abbrev pub give_one : Body
give_one = compensatable (at_lane_3 1) finish

-- a bag is taken in and sent on, which cannot be taken back, and the lane flagged
abbrev pub take_send_flag : Body
take_send_flag = compensatable (at_lane_3 0) (pivot (at_lane_3 3) (row (at_lane_3 4 ∷ [])))

-- the lane is flagged, as a pivot; then a bag is given out, or else nothing is done
abbrev pub flag_then_give : Body
flag_then_give = pivot (at_lane_3 4) (or_else (compensatable (at_lane_3 1) finish) (row []))

-- a bag is given out; then the lane is flagged, as a pivot
abbrev pub give_then_flag : Body
give_then_flag = compensatable (at_lane_3 1) (pivot (at_lane_3 4) (row []))

-- ---- their texts

-- `C 00 0003 .`
abbrev pub take_one_read : IsProgram take_one
take_one_read = (67 ∷ 0 ∷ 0 ∷ 3 ∷ 46 ∷ [], record { spelled = refl; short = lit≤ tt; few = lit≤ tt; shallow = lit≤ tt })

-- `C 01 0003 .`
abbrev pub give_one_read : IsProgram give_one
give_one_read = (67 ∷ 1 ∷ 0 ∷ 3 ∷ 46 ∷ [], record { spelled = refl; short = lit≤ tt; few = lit≤ tt; shallow = lit≤ tt })

-- `C 00 0003 P 03 0003 [ R 04 0003 ] .`
abbrev pub take_send_flag_read : IsProgram take_send_flag
take_send_flag_read = (67 ∷ 0 ∷ 0 ∷ 3 ∷ 80 ∷ 3 ∷ 0 ∷ 3 ∷ 91 ∷ 82 ∷ 4 ∷ 0 ∷ 3 ∷ 93 ∷ 46 ∷ [], record { spelled = refl; short = lit≤ tt; few = lit≤ tt; shallow = lit≤ tt })

-- `P 04 0003 [ C 01 0003 | ] .`
abbrev pub flag_then_give_read : IsProgram flag_then_give
flag_then_give_read = (80 ∷ 4 ∷ 0 ∷ 3 ∷ 91 ∷ 67 ∷ 1 ∷ 0 ∷ 3 ∷ 124 ∷ 93 ∷ 46 ∷ [], record { spelled = refl; short = lit≤ tt; few = lit≤ tt; shallow = lit≤ tt })

-- `C 01 0003 P 04 0003 [ ] .`
abbrev pub give_then_flag_read : IsProgram give_then_flag
give_then_flag_read = (67 ∷ 1 ∷ 0 ∷ 3 ∷ 80 ∷ 4 ∷ 0 ∷ 3 ∷ 91 ∷ 93 ∷ 46 ∷ [], record { spelled = refl; short = lit≤ tt; few = lit≤ tt; shallow = lit≤ tt })

-- ---- a worked hall: calls and scan lists, each with what is told of it

abbrev pub Line : Type 0
Line = Event × Told

-- a call and its answer
abbrev pub answered : Call → Answer → Line
answered c a = (call c, called c a)

-- a step of the process of a start number, and what it comes to
abbrev pub step : ℕ → Turn → Line
step n t = answered (stepping n) (Ok (Stepped t))

-- an order to withdraw, and its answer
abbrev pub cancel : ℕ → Answer → Line
cancel n a = answered (cancelling n) a

-- a call that is refused, and why
abbrev pub refused : Call → Refusal → Line
refused c r = answered c (Err r)

-- a scan list, and its records afterwards
abbrev pub scans : List Request → List Request → Line
scans rs ws = (scan rs, scan_served ws)

-- one program, loaded at 0, runs as process 1
abbrev pub alone : {b : Body} → IsProgram b → List Line → List Line
alone {b} read ls = answered (loading 0 b read) (Ok Loaded) ∷ answered (opening 0) (Ok (Opened 1)) ∷ ls

-- two programs, loaded at 0 and 1, run as processes 1 and 2
abbrev pub together : {a b : Body} → IsProgram a → IsProgram b → List Line → List Line
together {a} {b} read too ls = answered (loading 0 a read) (Ok Loaded) ∷ answered (loading 1 b too) (Ok Loaded) ∷ answered (opening 0) (Ok (Opened 1)) ∷ answered (opening 1) (Ok (Opened 2)) ∷ ls

-- the calls and scan lists, made of a fresh hall over that station, run so by the rules
abbrev pub ComesOut : List Line → Type 0
ComesOut ls = (h : Hall Sides) × Runs sides_meaning (fresh first_sides) (map (λ l. l.0) ls) (map (λ l. l.1) ls) h

-- ---- the halls

abbrev pub refused_and_left : List Line
refused_and_left =
    alone give_one_read
    (step 1 Failed
    ∷ step 1 Gone
    ∷ [])

abbrev pub commits_in_order : List Line
commits_in_order =
    together take_one_read give_one_read
    (step 1 (Done 0)
    ∷ step 2 (Done 0)
    ∷ step 2 (Wait 1)
    ∷ step 1 (Committed 1)
    ∷ step 2 (Committed 2)
    ∷ [])

abbrev pub withdrawal_cascades : List Line
withdrawal_cascades =
    together take_one_read give_one_read
    (step 1 (Done 0)
    ∷ step 2 (Done 0)
    ∷ cancel 1 (Ok Cancelled)
    ∷ step 1 (Wait 2)
    ∷ step 2 (Undone 1)
    ∷ step 1 (Undone 0)
    ∷ step 1 Gone
    ∷ step 2 Restarted
    ∷ step 2 Failed
    ∷ [])

abbrev pub past_pivot_stays : List Line
past_pivot_stays =
    together take_one_read take_send_flag_read
    (step 1 (Done 0)
    ∷ step 2 (Done 0)
    ∷ step 2 (Wait 1)
    ∷ step 1 (Committed 1)
    ∷ step 2 (Done 0)
    ∷ cancel 2 (Err IsPastPivot)
    ∷ step 2 (Done 0)
    ∷ step 2 (Committed 2)
    ∷ [])

abbrev pub second_alternative : List Line
second_alternative =
    together take_one_read flag_then_give_read
    (step 2 (Done 0)
    ∷ step 1 (Done 0)
    ∷ step 2 (Wait 1)
    ∷ step 1 (Undone 0)
    ∷ step 1 Restarted
    ∷ step 2 Failed
    ∷ step 2 (Next 1)
    ∷ step 2 (Committed 1)
    ∷ [])

abbrev pub pivots_apart : List Line
pivots_apart =
    together flag_then_give_read flag_then_give_read
    (step 1 (Done 0)
    ∷ step 2 (Wait 1)
    ∷ [])

abbrev pub younger_gives_way : List Line
younger_gives_way =
    together give_one_read take_one_read
    (step 2 (Done 0)
    ∷ step 1 (Wait 2)
    ∷ step 2 (Undone 0)
    ∷ step 2 Restarted
    ∷ step 1 Failed
    ∷ [])

abbrev pub pivot_waits_for_older : List Line
pivot_waits_for_older =
    together take_one_read give_then_flag_read
    (step 1 (Done 0)
    ∷ step 2 (Done 0)
    ∷ step 2 (Wait 1)
    ∷ step 1 (Committed 1)
    ∷ step 2 (Done 0)
    ∷ step 2 (Committed 2)
    ∷ [])

-- a scan record as it comes, with nothing written in its last two fields, and as it is answered
abbrev pub asks : ℕ → ℕ → Request
asks kind operand = record { kind = kind; operand = operand; letter = 0; number = 0 }

abbrev pub told : ℕ → ℕ → ℕ → ℕ → Request
told kind operand letter number = record { kind = kind; operand = operand; letter = letter; number = number }

-- O is 79, S is 83, X is 88; the letters of the answers: O 79, D 68, W 87, U 85, A 65, G 71, K 75, F 70, X 88, ! 33
abbrev pub scan_list_answered : List Line
scan_list_answered =
    answered (loading 0 take_one take_one_read) (Ok Loaded)
    ∷ answered (loading 1 give_one give_one_read) (Ok Loaded)
    ∷ scans
    (asks 79 0 ∷ asks 79 1 ∷ asks 83 1 ∷ asks 83 2 ∷ asks 83 2 ∷ asks 88 1 ∷ asks 88 1 ∷ asks 83 1 ∷ asks 83 2 ∷ asks 83 1 ∷ asks 83 1 ∷ asks 83 2 ∷ asks 83 2 ∷ asks 83 2 ∷ asks 83 3 ∷ asks 79 8 ∷ asks 79 2 ∷ asks 76 0 ∷ [])
    (told 79 0 79 1 ∷ told 79 1 79 2 ∷ told 83 1 68 0 ∷ told 83 2 68 0 ∷ told 83 2 87 1 ∷ told 88 1 88 0 ∷ told 88 1 33 17 ∷ told 83 1 87 2 ∷ told 83 2 85 1 ∷ told 83 1 85 0 ∷ told 83 1 71 0 ∷ told 83 2 65 0 ∷ told 83 2 70 0 ∷ told 83 2 71 0 ∷ told 83 3 33 15 ∷ told 79 8 33 7 ∷ told 79 2 33 11 ∷ told 76 0 33 19 ∷ [])
    ∷ []

abbrev pub calls_refused : List Line
calls_refused =
    refused (loading 8 take_one take_one_read) NoPlace
    ∷ refused (opening 8) NoPlace
    ∷ refused (opening 0) NotLoaded
    ∷ refused (stepping 1) NoProcess
    ∷ refused (cancelling 1) NoProcess
    ∷ answered (loading 0 take_one take_one_read) (Ok Loaded)
    ∷ answered (opening 0) (Ok (Opened 1))
    ∷ refused (loading 0 give_one give_one_read) Busy
    ∷ cancel 1 (Ok Cancelled)
    ∷ cancel 1 (Err IsWithdrawing)
    ∷ []

pub record WorkedHalls : Type 0 where
  -- an order that asks a bag of an empty lane is refused it, and leaves
  pub refused_and_left : ComesOut refused_and_left
  -- the second order gave out the bag that the first took in: it waits with its commit until the first has committed
  pub commits_in_order : ComesOut commits_in_order
  -- the first order is cancelled, and its bag was given out already: the second gives it back first, restarts when the first has gone, and finds the lane empty
  pub withdrawal_cascades : ComesOut withdrawal_cascades
  -- the second order waits with its pivot until the first has committed; past it, it cannot be cancelled, goes on and commits
  pub past_pivot_stays : ComesOut past_pivot_stays
  -- the second order, past its pivot, has the first take its bag back and restart; it then finds the lane empty, takes its second alternative, and commits
  pub second_alternative : ComesOut second_alternative
  -- two orders are not past a pivot at once: the second waits
  pub pivots_apart : ComesOut pivots_apart
  -- the first order's step meets the second's: the second, younger, takes it back and restarts
  pub younger_gives_way : ComesOut younger_gives_way
  -- the second order gave out the bag that the first took in: it waits with its pivot until the first has committed
  pub pivot_waits_for_older : ComesOut pivot_waits_for_older
  -- openings, steps and cancellings in one scan list, each record answered by letter and number, bad records among them
  pub scan_list_answered : ComesOut scan_list_answered
  -- calls that are refused, and the hall goes on as if they had not come
  pub calls_refused : ComesOut calls_refused
  -- the texts worked through
  pub texts : WorkedTexts
