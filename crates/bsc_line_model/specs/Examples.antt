-- Lines that the definitions tell apart: some on which a record is doubled, skipped, in another
-- spool, or counted and not arrived, and one on which a visit and a round begin.
use Rattle.std.specs.Prelude.{ℕ, true, List, [], ◌∷◌, Option, None, Some}
use Rattle.bsc_frame.specs.declared.message.Message.TheVariants as m
use Rattle.bsc_spool.specs.Queue.{queue_of}
use Rattle.bsc_spool.specs.Spool.{SpoolValue}
use Rattle.bsc_bid.specs.Channel.{Land}
use Rattle.bsc_bid.specs.Terminal.{TerminalValue}
use Rattle.bsc_bid.specs.declared.way.Way.{Way}
use Rattle.bsc_bid.specs.declared.way.Way.TheVariants.{FromTerminal, ToTerminal}
use Rattle.bsc_control.specs.declared.task.Replied.TheVariants.{Nothing}
use Rattle.bsc_control.specs.declared.task.Task.{Task}
use Rattle.bsc_control.specs.declared.task.Task.TheVariants.{AtRest, Polling}
use Rattle.bsc_control.specs.Peer.{no_peer, no_outbound}
use Rattle.bsc_control.specs.Control.{ControlValue}
use Rattle.bsc_bid.specs.declared.speaker.Speaker.TheVariants.{Control}
use Rattle.bsc_line_model.specs.declared.transmission.Transmission.{Transmission}
use Rattle.bsc_line_model.specs.Line.{LineValue, line_of, no_terminal}
use Rattle.bsc_line_model.specs.ChannelSteps.{Lands, MovesOne}
use Rattle.bsc_line_model.specs.Headline.{ArrivesInOrder, ReachesAddressed}
use Rattle.bsc_line_model.specs.Rounds.{BeginsVisit}

-- two records, A and BB
abbrev pub record_a : List ℕ
record_a = 65 ∷ []

abbrev pub record_b : List ℕ
record_b = 66 ∷ 66 ∷ []

abbrev pub both_records : List (List ℕ)
both_records = record_a ∷ record_b ∷ []

-- a terminal with the polling address A and the selection address a
abbrev pub its_addresses : TerminalValue
its_addresses = record { poll = 65 ∷ []; selects = (97 ∷ []) ∷ [] }

abbrev pub spool_with : List (List ℕ) → SpoolValue
spool_with records = record { records = records; room = true; delays = 0 }

-- a line with this terminal only: its control station has this task, this transmission is pending,
-- and this channel is addressed; both records were offered at the terminal, of which this number is
-- known and these arrived, and these arrived at the terminal, for which none was offered
abbrev pub example : Task → Option Transmission → Option (ℕ × Way) → ℕ → List (List ℕ)
    → List (List ℕ) → LineValue
example task pending addressed known arrived arrived_there =
    let control : ControlValue =
    record {
      setup = no_outbound.sender.setup;
      poll_list = 0 ∷ [];
      place = 0;
      task = task;
      failures = 0;
      wacks = 0;
      peers = (record no_peer {
        terminal = its_addresses;
        spool = spool_with arrived;
        outbounds = no_outbound ∷ [];
      }) ∷ [];
    } in
    line_of control ((record no_terminal {
      terminal = its_addresses;
      ready = true;
      queue = queue_of no_outbound.queue.format both_records known;
      spools = spool_with arrived_there ∷ [];
    }) ∷ []) pending true addressed

-- the line on which nothing arrived yet, and the same line after these records arrived from the
-- terminal and at it; the channel from the terminal is addressed
abbrev pub after_arrivals : ℕ → List (List ℕ) → List (List ℕ) → LineValue
after_arrivals known arrived arrived_there =
    example AtRest None (Some (0, FromTerminal)) known arrived arrived_there

abbrev pub before_arrivals : LineValue
before_arrivals = after_arrivals 0 [] []

-- these records do not land: the first one twice, the second one without the first, and the first
-- one in the spool of the other channel
abbrev pub NoDoubleLands : Type 0
NoDoubleLands =
    ¬ Lands 0 FromTerminal before_arrivals (after_arrivals 0 (record_a ∷ record_a ∷ []) [])

abbrev pub NoGapLands : Type 0
NoGapLands = ¬ Lands 0 FromTerminal before_arrivals (after_arrivals 0 (record_b ∷ []) [])

abbrev pub NoOtherLands : Type 0
NoOtherLands = ¬ Lands 0 FromTerminal before_arrivals (after_arrivals 0 [] (record_a ∷ []))

-- no move of one channel puts a record into the spools of two
abbrev pub NoTwoMove : Type 0
NoTwoMove =
    ¬ MovesOne 0 FromTerminal (Land 1) before_arrivals
    (after_arrivals 0 (record_a ∷ []) (record_a ∷ []))

-- the first record does land
abbrev pub FirstLands : Type 0
FirstLands = Lands 0 FromTerminal before_arrivals (after_arrivals 0 (record_a ∷ []) [])

-- these records did not arrive in order: the first one twice, the second one without the first, one
-- for which none was offered, and one that is counted as delivered and did not arrive
abbrev pub NoDoubleArrives : Type 0
NoDoubleArrives =
    ¬ ArrivesInOrder before_arrivals (after_arrivals 0 (record_a ∷ record_a ∷ []) []) [] 0
    FromTerminal

abbrev pub NoGapArrives : Type 0
NoGapArrives =
    ¬ ArrivesInOrder before_arrivals (after_arrivals 0 (record_b ∷ []) []) [] 0 FromTerminal

abbrev pub NoOtherArrives : Type 0
NoOtherArrives =
    ¬ ArrivesInOrder before_arrivals (after_arrivals 0 [] (record_a ∷ [])) [] 0 (ToTerminal 0)

abbrev pub NoneIsKnownEarly : Type 0
NoneIsKnownEarly = ¬ ArrivesInOrder before_arrivals (after_arrivals 1 [] []) [] 0 FromTerminal

-- no record reaches a terminal while the channel from it is addressed
abbrev pub NoneReachesOther : Type 0
NoneReachesOther = ¬ ReachesAddressed before_arrivals (after_arrivals 0 [] (record_a ∷ []))

-- the line on which the terminal was called by its polling address
abbrev pub called_line : LineValue
called_line =
    example (Polling Nothing) (Some (record { speaker = Control; message = m.Call (65 ∷ []) }))
    (Some (0, FromTerminal)) 0 [] []

-- a visit of its entry begins, which is the first of a round
abbrev pub VisitBegins : Type 0
VisitBegins = BeginsVisit called_line 0
