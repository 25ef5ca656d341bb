-- Shows that the networks and the peers are those in the texts of the options.
use Rattle.std.proofs.Common.{rules, ◌≡◌, inl, inr, subst, sym, Ok, Err, codes}
use Rattle.bsc_options.specs.Words.{texts_at, words_value}
use Rattle.bsc_options.specs.Admission.{IsAdmission, ReadsNetworks, ReadsPeers}
use Rattle.bsc_options.proofs.admission.read_admission.Goals as goal

pub returns-in_err-allowed : goal.returns-in_err-allowed
returns-in_err-allowed c =
    let w = words_value c.args.words.now in
    let why = c.in_err-allowed.field-0.0 in
    let is_error : c.from_residual.result ≡ Err why = search rules in
    let read : ReadsNetworks (texts_at (codes "allow") w) (Err why) =
    subst (λ texts. ReadsNetworks texts (Err why)) c.texts.ensures c.in_err-allowed.ensures in
    subst (IsAdmission w) (sym is_error) (inl read)

pub returns-in_err-peers : goal.returns-in_err-peers
returns-in_err-peers c =
    let w = words_value c.args.words.now in
    let why = c.in_err-peers.field-0.0 in
    let allowed = c.in_ok-allowed.allowed in
    let is_error : c.from_residual-in_err-peers.result ≡ Err why = search rules in
    let networks : ReadsNetworks (texts_at (codes "allow") w) (Ok allowed) =
    subst (λ texts. ReadsNetworks texts (Ok allowed)) c.texts.ensures c.in_ok-allowed.ensures in
    let read : ReadsPeers (texts_at (codes "peer") w) (Err why) =
    subst (λ texts. ReadsPeers texts (Err why)) c.texts-2.ensures c.in_err-peers.ensures in
    subst (IsAdmission w) (sym is_error) (inr (allowed, networks, read))

pub returns : goal.returns
returns c =
    let allowed = c.in_ok-allowed.allowed in
    let peers = c.in_ok-peers.peers in (
      subst (λ texts. ReadsNetworks texts (Ok allowed)) c.texts.ensures c.in_ok-allowed.ensures,
      subst (λ texts. ReadsPeers texts (Ok peers)) c.texts-2.ensures c.in_ok-peers.ensures,
    )
