-- The letters and numbers of scan records and answers.
use Rattle.std.specs.Prelude.{ℕ, Option, ◌==◌, Ok, Err}
use Rattle.program.specs.Refusals.{number_of}
use Rattle.protocol.specs.Answer.{Answer}
use Rattle.protocol.specs.declared.answer.Served.TheVariants.{Loaded, Opened, Cancelled, Stepped}
use Rattle.protocol.specs.declared.answer.Layer.{Layer}
use Rattle.protocol.specs.declared.answer.Layer.TheVariants as layers
use Rattle.protocol.specs.declared.answer.Refusal.{Refusal}
use Rattle.protocol.specs.declared.answer.Refusal.TheVariants.{BadText, NoPlace, Busy, NoActivity, WrongKind, NotLoaded, Full, NoNumber, NoRoom, NoProcess, IsPastPivot, IsWithdrawing, LongList, UnknownKind}
use Rattle.protocol.specs.declared.answer.Turn.{Turn}
use Rattle.protocol.specs.declared.answer.Turn.TheVariants as turns
use Rattle.protocol.specs.declared.scan.Request.{Request}
use Rattle.std.specs.Bool.{then_some}
use Rattle.std.specs.Option.{option_or}
use Rattle.protocol.specs.Call.{Call, opening, stepping, cancelling}

-- the call that a scan record is, by its kind: O, S or X
abbrev pub call_of : Request → Option Call
call_of r = option_or (then_some (r.kind == 79) (opening r.operand)) (option_or (then_some (r.kind == 83) (stepping r.operand)) (then_some (r.kind == 88) (cancelling r.operand)))

-- the number of a refusal
abbrev pub code : Refusal → ℕ
code (BadText e) = number_of e.fault
code NoPlace = 7
code Busy = 8
code (NoActivity i) = 9
code (WrongKind i) = 10
code NotLoaded = 11
code Full = 12
code NoNumber = 13
code NoRoom = 14
code NoProcess = 15
code IsPastPivot = 16
code IsWithdrawing = 17
code LongList = 18
code UnknownKind = 19

-- the layer that a refusal comes from
abbrev pub layer : Refusal → Layer
layer (BadText e) = layers.Text
layer NoPlace = layers.Hall
layer Busy = layers.Hall
layer (NoActivity i) = layers.Station
layer (WrongKind i) = layers.Station
layer NotLoaded = layers.Hall
layer Full = layers.Hall
layer NoNumber = layers.Hall
layer NoRoom = layers.Hall
layer NoProcess = layers.Hall
layer IsPastPivot = layers.Hall
layer IsWithdrawing = layers.Hall
layer LongList = layers.Hall
layer UnknownKind = layers.Hall

abbrev pub write : Request → ℕ → ℕ → Request
write r l n = record { kind = r.kind; operand = r.operand; letter = l; number = n }

abbrev pub write_turn : Request → Turn → Request
write_turn r (turns.Done x) = write r 68 x
write_turn r turns.Failed = write r 70 0
write_turn r (turns.Wait n) = write r 87 n
write_turn r (turns.Undone a) = write r 85 a
write_turn r turns.Restarted = write r 65 0
write_turn r turns.Gone = write r 71 0
write_turn r (turns.Next k) = write r 78 k
write_turn r (turns.Committed c) = write r 75 c

abbrev pub written : Request → Answer → Request
written r (Ok Loaded) = r
written r (Ok (Opened n)) = write r 79 n
written r (Ok Cancelled) = write r 88 0
written r (Ok (Stepped t)) = write_turn r t
written r (Err f) = write r 33 (code f)
