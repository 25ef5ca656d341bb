-- Shows that the fault of a station says what its error says.
use Rattle.std.proofs.Common.{rules, ◌≡◌, subst, sym}
use Rattle.bsc_options.specs.Asked.{asked as asked_now, station}
use Rattle.bsc_options.specs.Words.{words_value}
use Rattle.bsc_command.specs.Program.{HasFailedAs, HasFailedReport, IsFaultOf}
use Rattle.bsc_command.proofs.Stations.{station_early, station_failed, station_fault}
use Rattle.bsc_command.proofs.program.perform.Goals as goal

pub returns-in-Err-station-clause-fault : goal.returns-in-Err-station-clause-fault
returns-in-Err-station-clause-fault g c =
    let w = words_value c.in-Station.words in
    let is_station : asked_now c.args.asked.now ≡ station w = search rules in
    subst (λ a. IsFaultOf a c.attending_fault.result) (sym is_station)
    (station_fault c.in-Err-station.error c.attending_fault.result c.attending_fault.ensures)

pub returns-in-Err-station-clause-failed : goal.returns-in-Err-station-clause-failed
returns-in-Err-station-clause-failed g c =
    let w = words_value c.in-Station.words in
    let is_station : asked_now c.args.asked.now ≡ station w = search rules in
    let input = g.R.Read.remaining c.args.input.now in
    subst
    (λ a. HasFailedAs g.H.Stream.Write.contents g.H.Stream.Read.remaining
    g.H.Trace.Write.contents g.H.Network.traces a c.attending_fault.result input (g.W.Write.contents c.args.out.now)
    (g.W.Write.contents c.station.new.out))
    (sym is_station)
    (station_failed w input c.in-Err-station.error c.attending_fault.result
    c.attending_fault.ensures c.in-Err-station.ensures.answers)

pub returns-in-Err-station-clause-unreported : goal.returns-in-Err-station-clause-unreported
returns-in-Err-station-clause-unreported g c =
    let w = words_value c.in-Station.words in
    let is_station : asked_now c.args.asked.now ≡ station w = search rules in
    subst
    (λ a. HasFailedReport g.W.Write.contents a c.attending_fault.result
    (g.R.Read.remaining c.args.input.now) c.station.new.out)
    (sym is_station)
    (c.in-Err-station.error, c.attending_fault.ensures, c.in-Err-station.ensures.reported)

pub returns-in-Err-station-clause-early : goal.returns-in-Err-station-clause-early
returns-in-Err-station-clause-early g c = λ early.
    c.in-Err-station.ensures.early
    (station_early c.in-Err-station.error c.attending_fault.result c.attending_fault.ensures early)
