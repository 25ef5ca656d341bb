-- Shows that the station is that of the configuration that was read.
use Rattle.std.proofs.Common.{rules, ◌≡◌, subst, sym, IfErr, Ok, Err}
use Rattle.bsc_options.specs.Words.{words_value}
use Rattle.bsc_attending.specs.Preparing.{HasNoStation, IsStationOf, IsUnprepared, ReadsConfig}
use Rattle.bsc_attending.specs.Preparing.{config_path, offers_in}
use Rattle.bsc_attending.proofs.Prepared.{is_prepared, is_unprepared}
use Rattle.bsc_attending.proofs.preparing.prepare.Goals as goal

pub returns-in_err-prepared-clause-unprepared : goal.returns-in_err-prepared-clause-unprepared
returns-in_err-prepared-clause-unprepared g c =
    let w = words_value c.args.words.now in
    let left = g.R.Read.remaining in
    let config = c.in_ok-config.config in
    let error = c.in_err-prepared.field-0.0 in
    let is_error : c.from_residual-in_err-prepared.result ≡ Err error = search rules in
    let reads : ReadsConfig (config_path w) (left c.args.input.now) (left c.config_at.new.input) config =
    search rules in
    let refused : HasNoStation config c.args.speaker c.args.peers.terminals (offers_in w)
    (left c.config_at.new.input) error = search rules in
    subst
    (λ r. IfErr r (IsUnprepared w c.args.speaker c.args.peers.terminals (left c.args.input.now)))
    (sym is_error)
    (is_unprepared w c.args.speaker c.args.peers.terminals (left c.args.input.now)
    (left c.config_at.new.input) config reads (Err error) refused)

pub returns-clause-prepared : goal.returns-clause-prepared
returns-clause-prepared g c =
    let w = words_value c.args.words.now in
    let left = g.R.Read.remaining in
    let config = c.in_ok-config.config in
    let prepared = c.in_ok-prepared.prepared in
    let reads : ReadsConfig (config_path w) (left c.args.input.now) (left c.config_at.new.input) config =
    search rules in
    let station : IsStationOf config c.args.speaker (offers_in w) (left c.config_at.new.input)
    (left c.station_of.new.input) prepared = search rules in
    is_prepared w c.args.speaker c.args.peers.terminals (left c.args.input.now)
    (left c.config_at.new.input) config reads (left c.station_of.new.input) (Ok prepared) station

pub returns-clause-ready : goal.returns-clause-ready
returns-clause-ready g c =
    let w = words_value c.args.words.now in
    let left = g.R.Read.remaining in
    let config = c.in_ok-config.config in
    let reads : ReadsConfig (config_path w) (left c.args.input.now) (left c.config_at.new.input) config =
    search rules in
    let station : IsStationOf config c.args.speaker (offers_in w) (left c.config_at.new.input)
    (left c.station_of.new.input) c.in_ok-prepared.prepared = search rules in
    record {
      prepared = record {
        config = config;
        middle = left c.config_at.new.input;
        reads = reads;
        station = station;
      };
      sending = search rules;
      receiving = search rules;
    }
