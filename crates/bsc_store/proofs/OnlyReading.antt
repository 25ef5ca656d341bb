-- A text that only reads commits nothing.
use Rattle.std.proofs.Common.{◌≡◌, ◌+◌, Bool, true, false, inl, inr, List, ℕ, [], Ok, Err, Result, None, refl, sym, ap, subst}
use Rattle.std.proofs.lemmas.Bool.{cases_Bool}
use Rattle.sqlite_ast.specs.declared.Statement.{Statement}
use Rattle.sqlite_ast.specs.declared.Statement.TheVariants as written
use Rattle.sqlite_syntax.specs.declared.statement.Parsed.{Parsed}
use Rattle.sqlite_schema.specs.declared.schema.Schema.{Schema}
use Rattle.sqlite_schema.specs.declared.command.Command.{Command}
use Rattle.sqlite_resolve.specs.declared.compiled.Compiled.{Compiled}
use Rattle.sqlite_resolve.specs.declared.error.CompileError.{CompileError}
use Rattle.sqlite_resolve.specs.Lowering.{Checked, and_then}
use Rattle.sqlite_resolve.specs.Scope.{Name}
use Rattle.sqlite_resolve.specs.Compile.{first, compiled, planned, meaning, returning, returning_by, command, timed, small, with_command}
use Rattle.sqlite_tied.specs.Compute.{everything}
use Rattle.sqlite.specs.Order.{Row}
use Rattle.sqlite.specs.declared.error.Error.{Error}
use Rattle.sqlite.specs.Listing.{understood, reads_listing, if_select, is_select, listing_schema}
use Rattle.sqlite.specs.Tree.{Trees}
use Rattle.sqlite.specs.Store.{Ghosts}
use Rattle.sqlite.specs.Clock.{timed as with_time}
use Rattle.sqlite.specs.Held.{Held, state}
use Rattle.sqlite.specs.State.{State, HasCleanDisk, IsUnchanged, IsRolledBack, KeepsCommit, QueriesRow, FailsToQuery, FailsToShow, IsNotRun, Shown, ShowsRows, Survives, CommitsShowing}
use Rattle.sqlite.proofs.StateLemmas.{survives_weaker}
use Rattle.bsc_store.specs.declared.queries.Query.{Query}
use Rattle.bsc_store.specs.declared.queries.Query.TheVariants as query
use Rattle.bsc_store.specs.Reading.{OnlyReads, OnlyRead, query_text}

-- The statement is a query.
abbrev pub is_query_text : Statement → Bool
is_query_text (written.Select s) = true
is_query_text _ = false

abbrev pub is_query_in : Checked Parsed → Bool
is_query_in (Ok p) = is_query_text p.statement
is_query_in (Err e) = false

shows_none : (schema : Schema) (base : ℕ) (s : Statement) → is_query_text s ≡ true → returning_by schema base s ≡ Ok None
shows_none schema base (written.Select s) is = refl
shows_none schema base _ is = absurd (let e = is in cc)

none_of : (m : Checked Command) (formats : List Name) (p : Parsed) (it : Compiled)
    → and_then (and_then (and_then m (λ c. Ok (c, None))) (λ found. Ok (formats, found))) (λ plan. Ok (with_command p plan)) ≡ Ok it → it.returning ≡ None
none_of (Ok c) formats p it is = let same : with_command p (formats, (c, None)) ≡ it = cc in sym (ap (λ (k : Compiled). k.returning) same)
none_of (Err e) formats p it is = absurd (let e = is in cc)

compiles_plain : (schema : Schema) (found : Checked Parsed) (it : Compiled) → is_query_in found ≡ true
    → and_then found (λ p. and_then (planned schema p) (λ plan. Ok (with_command p plan))) ≡ Ok it → it.returning ≡ None
unfolding planned meaning returning
compiles_plain schema (Ok p) it query is =
    let formats = timed schema p.formats p.statement in
    let base = small p.names + small formats in
    none_of (command schema p.formats base p.statement) formats p it (rw (shows_none schema base p.statement query) at is)
compiles_plain schema (Err e) it query is = absurd (let e = is in cc)

selected : (r : Result Compiled CompileError) (it : Compiled) → if_select r ≡ Ok it → r ≡ Ok it
selected (Ok c) it is = elim (cases_Bool (is_select c.command)) [ inl one ↦ rw one at is | inr none ↦ absurd (let e = rw none at is in cc) ]
selected (Err e) it is = absurd (let e = is in cc)

pub only_reads : (text : List ℕ) → is_query_in (first text) ≡ true → OnlyReads text
unfolding OnlyReads understood compiled
only_reads text query schema it is = elim (cases_Bool (reads_listing schema text)) [
  | inl listed ↦ compiles_plain listing_schema (first text) it query (selected _ it (rw listed at is))
  | inr own ↦ compiles_plain schema (first text) it query (rw own at is)
]

-- Each query only reads.
pub queries_read : (q : Query) → OnlyReads (query_text q)
unfolding first everything
queries_read query.Tables = only_reads (query_text query.Tables) refl
queries_read query.Version = only_reads (query_text query.Version) refl
queries_read query.Line = only_reads (query_text query.Line) refl
queries_read query.WrongKnown = only_reads (query_text query.WrongKnown) refl
queries_read query.WrongPrinted = only_reads (query_text query.WrongPrinted) refl
queries_read query.Progress = only_reads (query_text query.Progress) refl
queries_read query.NextOffered = only_reads (query_text query.NextOffered) refl
queries_read query.NextArrived = only_reads (query_text query.NextArrived) refl
queries_read query.CheckedOffered = only_reads (query_text query.CheckedOffered) refl
queries_read query.CheckedArrived = only_reads (query_text query.CheckedArrived) refl
queries_read query.OfferedUpTo = only_reads (query_text query.OfferedUpTo) refl
queries_read query.ArrivedUpTo = only_reads (query_text query.ArrivedUpTo) refl
queries_read query.LastOffered = only_reads (query_text query.LastOffered) refl
queries_read query.LastArrived = only_reads (query_text query.LastArrived) refl

unchanged_keeps : (old new : State) → IsUnchanged old new → KeepsCommit old new
unchanged_keeps old new same = record { was_open = λ _. same.0.was_open; committed = λ _. same.0.committed_is }

rolled_keeps : (old new : State) → IsRolledBack old new → KeepsCommit old new
rolled_keeps old new back = record { was_open = back.was_open; committed = λ h. (back.undone h).1 }

not_run_keeps : (text : List ℕ) (values : Row) (old new : State) (e : Error) → IsNotRun old new text values e → KeepsCommit old new
unfolding IsNotRun
not_run_keeps text values old new e (inl never) = unchanged_keeps old new never.1
not_run_keeps text values old new e (inr fails) = rolled_keeps old new fails.3

shown_keeps : (text : List ℕ) (values : Row) (old new : State) (rows : List Row) → OnlyReads text → Shown text values old new rows → KeepsCommit old new
unfolding Shown OnlyReads
shown_keeps text values old new rows reads (c, it, shows) =
    unchanged_keeps old new (subst (ShowsRows old new text c (with_time values c.formats it.now) rows) (reads old.now.schema c it.is) shows).3

fails_keeps : (text : List ℕ) (values : Row) (old new : State) (e : Error) → OnlyReads text → FailsToQuery text values old new e → KeepsCommit old new
unfolding FailsToQuery OnlyReads
fails_keeps text values old new e reads (inl never) = not_run_keeps text values old new e never
fails_keeps text values old new e reads (inr (c, it, fails)) =
    unchanged_keeps old new (subst (FailsToShow old new text c (with_time values c.formats it.now) e) (reads old.now.schema c it.is) fails).3

-- A query keeps what is committed.
pub query_keeps : (text : List ℕ) (values : Row) (old new : State) (r : Result Row Error) → OnlyReads text → QueriesRow text values old new r → KeepsCommit old new
unfolding QueriesRow
query_keeps text values old new (Ok row) reads (inl begins) = unchanged_keeps old new begins.1
query_keeps text values old new (Ok row) reads (inr (rows, shown, is)) = shown_keeps text values old new rows reads shown
query_keeps text values old new (Err e) reads (inl fails) = fails_keeps text values old new e reads fails
query_keeps text values old new (Err e) reads (inr (is, shown)) = shown_keeps text values old new [] reads shown

never_shows : (text : List ℕ) (values : Row) (s : State) (db : Trees) → OnlyReads text → ¬ CommitsShowing text values s db
unfolding CommitsShowing OnlyReads
never_shows text values s db reads (c, it, some, writes) = absurd (let none = reads s.now.schema c it.is in let never = rw none at some in cc)

-- So a query is a read only.
pub query_only_reads : {S : Type 0} (g : Ghosts S) (q : Query) (values : Row) (old new : Held S) (r : Result Row Error)
    → (HasCleanDisk (state g new) → QueriesRow (query_text q) values (state g old) (state g new) r)
    → Survives (state g old) (state g new) (CommitsShowing (query_text q) values (state g old)) → OnlyRead g old new
query_only_reads g q values old new r row survives = record {
  kept = λ clean. query_keeps (query_text q) values (state g old) (state g new) r (queries_read q) (row clean);
  crash = survives_weaker (state g old) (state g new) _ (λ _. ⊥) (λ _ db shows. never_shows (query_text q) values (state g old) db (queries_read q) shows) survives;
}
