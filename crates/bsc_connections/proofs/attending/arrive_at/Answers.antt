-- `arrive_at` tells the monitor what the station heard, and sends what it answers if the monitor
-- accepts; or it tells the monitor of what the station did not hear.
use Rattle.std.proofs.Common.{◌≡◌, ℕ, Bool, true, false, List, [], ◌∷◌, Option, None, Some, get_or}
use Rattle.std.proofs.Common.{rules, refl, sym, subst, is_some, ◌∙◌, ap}
use Rattle.std.proofs.lemmas.Option.{slice_get-get_or}
use Rattle.bsc_frame.specs.Spells.{IsHeardAs}
use Rattle.bsc_frame.specs.declared.message.Message.{Message}
use Rattle.bsc_connections.specs.Parts.{session_parts}
use Rattle.bsc_connections.specs.Attending.{handled_by, handled_if, HearsIfAdmitted}
use Rattle.bsc_connections.specs.declared.awaited.Handled.{Handled}
use Rattle.bsc_connections.specs.declared.awaited.Pace.{Pace}
use Rattle.bsc_connections.specs.Histories.{WasHeard, WasIgnored}
use Rattle.bsc_connections.proofs.attending.arrive_at.Goals as goal

-- What the monitor said of these octets it says of equal ones.
admits_same : (admits : List ℕ → Bool) (said flag : Bool) (told octets : List ℕ) → said ≡ flag
    → said ≡ admits told → told ≡ octets → flag ≡ admits octets
admits_same admits said flag told octets is by same = sym is ∙ by ∙ ap admits same

-- The waiter is told that the station answered exactly if there is an answer.
answered_if_some : (answer : Option Message) (heard : List ℕ) (place : ℕ)
    → handled_if (is_some answer) place ≡ handled_by (WasHeard place heard) answer
answered_if_some None heard place = refl
answered_if_some (Some m) heard place = refl

pub returns-then-not-admits-clause-arrives : goal.returns-then-not-admits-clause-arrives
returns-then-not-admits-clause-arrives g c =
    let place : ℕ = c.args.connection in
    let here = get_or c.args.connections.now place c.index-connections-connection.result in
    let octets : List ℕ = g.F.Framing.last here.framing in
    let same : c.new.result ≡ octets = search rules in
    let refused : false ≡ g.M.Monitor.admits c.args.monitor.now c.args.station.now place octets =
    admits_same (g.M.Monitor.admits c.args.monitor.now c.args.station.now place) c.admits.result
    false _ octets c.if-not-admits.true c.admits.ensures same in (
      WasIgnored place octets ∷ [],
      record {
        connection = here;
        at = slice_get-get_or c.args.connections.now place c.index-connections-connection.result
            c.requires;
        heard = subst (λ (b : Bool). HearsIfAdmitted
            (session_parts g.S.Station g.R.Read g.W.Write g.F.Framing g.M.Monitor.is_told
            g.M.Monitor.admits g.M.Monitor.may_answer g.M.Monitor.paces g.T.Waiter)
            b place octets
            (record {
              station = c.args.station.now;
              connections = c.args.connections.now;
              monitor = c.args.monitor.now;
              waiter = c.args.waiter.now;
            })
            (WasIgnored place octets ∷ []) c.note.result
            (record {
              station = c.args.station.now;
              connections = c.args.connections.now;
              monitor = c.note.new.self;
              waiter = c.args.waiter.now;
            })) refused (
              refl,
              refl,
              (
                refl,
                subst (λ (o : List ℕ). g.M.Monitor.is_told c.args.monitor.now
                    c.args.station.now (WasIgnored place o) c.note.result c.note.new.self)
                    same c.note.ensures.told,
              ),
              refl,
            );
      },
    )

pub returns-clause-arrives : goal.returns-clause-arrives
returns-clause-arrives g c =
    let place : ℕ = c.args.connection in
    let here = get_or c.args.connections.now place c.index-connections-connection.result in
    let octets : List ℕ = g.F.Framing.last here.framing in
    let same : c.new.result ≡ octets = search rules in
    let admitted : true ≡ g.M.Monitor.admits c.args.monitor.now c.args.station.now place octets =
    admits_same (g.M.Monitor.admits c.args.monitor.now c.args.station.now place) c.admits.result
    true _ octets c.if-not-admits.false c.admits.ensures same in
    let answer = c.answer.new.sent in
    let heard = c.heard.result.now in
    let (later, replies) = c.reply-result.ensures.replies in (
      WasHeard place octets ∷ later,
      record {
        connection = here;
        at = slice_get-get_or c.args.connections.now place c.index-connections-connection.result
            c.requires;
        heard = subst (λ (b : Bool). HearsIfAdmitted
            (session_parts g.S.Station g.R.Read g.W.Write g.F.Framing g.M.Monitor.is_told
            g.M.Monitor.admits g.M.Monitor.may_answer g.M.Monitor.paces g.T.Waiter)
            b place octets
            (record {
              station = c.args.station.now;
              connections = c.args.connections.now;
              monitor = c.args.monitor.now;
              waiter = c.args.waiter.now;
            })
            (WasHeard place octets ∷ later) c.reply-result.result
            (record {
              station = c.answer.new.self;
              connections = c.reply-result.new.connections;
              monitor = c.reply-result.new.monitor;
              waiter = c.handled.new.self;
            })) admitted
            (record {
              heard = heard;
              answer = answer;
              is_heard = subst (λ (o : List ℕ). IsHeardAs o heard) same c.heard.ensures.spelled;
              heeds = c.answer.ensures;
              answers = record {
                told = c.note-told.result;
                monitor = c.note-told.new.self;
                tells = subst (λ (o : List ℕ). g.M.Monitor.is_told c.args.monitor.now
                    c.answer.new.self (WasHeard place o) c.note-told.result
                    c.note-told.new.self) same c.note-told.ensures.told;
                waiter = c.reply-result.new.waiter;
                later = later;
                replies = replies;
                happens = refl;
                handles = subst (λ (what : Handled).
                    g.T.Waiter.handles c.reply-result.new.waiter what
                    (g.M.Monitor.paces c.reply-result.new.monitor)
                    c.handled.new.self)
                    (c.handled_at.ensures
                    ∙ answered_if_some answer octets place)
                    (subst (λ (pace : Pace). g.T.Waiter.handles c.reply-result.new.waiter
                    c.handled_at.result pace c.handled.new.self) c.pace.ensures
                    c.handled.ensures);
              };
            });
      },
    )
