-- What is to be done with the store of a station.
use Rattle.std.specs.Prelude.{ℕ, ◌-◌, ◌^◌, ◌||◌, Bool, true, false, List, Option, Some, None}
use Rattle.std.specs.Prelude.{is_some, ok_or, option_map, Result, Ok, codes, if◌then◌else◌}
use Rattle.std.specs.Str.{bytes_eq}
use Rattle.bsc_options.specs.StoreWords.{AskedStore}
use Rattle.bsc_options.specs.Errors.{Refusal, plain}
use Rattle.bsc_options.specs.declared.error.OptionError.TheVariants as error
use Rattle.bsc_bid.specs.declared.speaker.Speaker.{Speaker}
use Rattle.bsc_options.specs.declared.store_works.Task.{Task}
use Rattle.bsc_options.specs.declared.store_works.Task.TheVariants as task
use Rattle.bsc_options.specs.declared.store_works.StoreWork.{StoreWork}
use Rattle.bsc_options.specs.declared.store_works.StoreWork.TheVariants as work
use Rattle.bsc_options.specs.Numbers.{number_within}
use Rattle.bsc_options.specs.Offers.{channel_in}
use Rattle.bsc_options.specs.Readings.{◌>>=◌}
use Rattle.bsc_options.specs.Settings.{speaker_in, unless}

-- A work with its words.
pub data TaskValue : Type 0 where
  makes : List ℕ → TaskValue
  adds : List ℕ → List ℕ → TaskValue
  prints : List ℕ → TaskValue
  tells : TaskValue
  ends : List ℕ → List ℕ → TaskValue
  ends_all : List ℕ → TaskValue

abbrev pub task_value : Task → TaskValue
task_value (task.Init config) = makes config.now
task_value (task.Offer channel path) = adds channel.now path.now
task_value (task.Arrived channel) = prints channel.now
task_value task.Status = tells
task_value (task.Release channel count) = ends channel.now count.now
task_value (task.Reconcile other) = ends_all other.now

-- Whether there is no word.
abbrev pub no_word : Option (List ℕ) → Option (List ℕ) → Bool
no_word None None = true
no_word None (Some other) = false
no_word (Some one) other = false

-- The one word, if there is exactly one.
abbrev pub one_word : Option (List ℕ) → Option (List ℕ) → Option (List ℕ)
one_word None other = None
one_word (Some one) None = Some one
one_word (Some one) (Some other) = None

-- Both words, if there are two.
abbrev pub two_words : Option (List ℕ) → Option (List ℕ) → Option (List ℕ × List ℕ)
two_words None other = None
two_words (Some one) None = None
two_words (Some one) (Some other) = Some (one, other)

-- The work of this name with the words after it, if it takes this many.
abbrev pub task_in : List ℕ → Option (List ℕ) → Option (List ℕ) → Option TaskValue
task_in name first second =
    if bytes_eq name (codes "init") then option_map makes (one_word first second)
    else (if bytes_eq name (codes "offer")
    then option_map (λ p. adds p.0 p.1) (two_words first second)
    else (if bytes_eq name (codes "arrived") then option_map prints (one_word first second)
    else (if bytes_eq name (codes "status")
    then (if no_word first second then Some tells else None)
    else (if bytes_eq name (codes "release")
    then option_map (λ p. ends p.0 p.1) (two_words first second)
    else (if bytes_eq name (codes "reconcile") then option_map ends_all (one_word first second)
    else None)))))

-- Whether options of `init` are given, and whether options of `arrived` are.
abbrev pub has_station : AskedStore → Bool
has_station w = w.control || is_some w.terminal

abbrev pub has_printing : AskedStore → Bool
has_printing w = w.text || is_some w.from

-- The options are those of the work.
abbrev pub fits_task : AskedStore → TaskValue → Result (Unit {0}) Refusal
fits_task w (makes config) = unless (has_printing w) (plain error.NeedsArrived)
fits_task w (prints channel) = unless (has_station w) (plain error.NeedsInit)
fits_task w other = do
  station ← unless (has_station w) (plain error.NeedsInit)
  unless (has_printing w) (plain error.NeedsArrived)

-- What is to be done, with a channel by the number of its terminal and that of the selection
-- address of the terminal.
pub data WorkValue : Type 0 where
  init : List ℕ → Speaker → WorkValue
  offer : ℕ × ℕ → List ℕ → WorkValue
  arrived : ℕ × ℕ → ℕ → Bool → WorkValue
  status : WorkValue
  release : ℕ × ℕ → ℕ → WorkValue
  reconcile : List ℕ → WorkValue

abbrev pub work_value : StoreWork → WorkValue
work_value (work.Init config speaker) = init config.now speaker
work_value (work.Offer channel path) = offer (channel.terminal, channel.select) path.now
work_value (work.Arrived channel first text) =
    arrived (channel.terminal, channel.select) first text
work_value work.Status = status
work_value (work.Release channel count) = release (channel.terminal, channel.select) count
work_value (work.Reconcile other) = reconcile other.now

-- The channel in `T.S`, or in `T` for address 0.
abbrev pub channel_read : List ℕ → Result (ℕ × ℕ) Refusal
channel_read text = ok_or (channel_in text) (plain error.ChannelForm)

-- The number of records in COUNT: from 0 up, below 2^32.
abbrev pub count_in : List ℕ → Result ℕ Refusal
count_in text = ok_or (number_within 0 (2 ^ 32 - 1) text) (plain error.Count)

-- The number of the first record that is printed: 0 unless given.
abbrev pub first_in : Option (List ℕ) → Result ℕ Refusal
first_in None = Ok 0
first_in (Some text) = ok_or (number_within 0 (2 ^ 32 - 1) text) (plain error.From)

-- Each work with the values of its words.
abbrev pub init_of : AskedStore → List ℕ → Result WorkValue Refusal
init_of w config = do
  speaker ← speaker_in w.control w.terminal
  Ok (init config speaker)

abbrev pub offer_of : List ℕ → List ℕ → Result WorkValue Refusal
offer_of channel path = do
  place ← channel_read channel
  Ok (offer place path)

abbrev pub arrived_of : AskedStore → List ℕ → Result WorkValue Refusal
arrived_of w channel = do
  place ← channel_read channel
  first ← first_in w.from
  Ok (arrived place first w.text)

abbrev pub release_of : List ℕ → List ℕ → Result WorkValue Refusal
release_of channel text = do
  place ← channel_read channel
  count ← count_in text
  Ok (release place count)

abbrev pub work_of : AskedStore → TaskValue → Result WorkValue Refusal
work_of w (makes config) = init_of w config
work_of w (adds channel path) = offer_of channel path
work_of w (prints channel) = arrived_of w channel
work_of w tells = Ok status
work_of w (ends channel count) = release_of channel count
work_of w (ends_all other) = Ok (reconcile other)

-- The work in the words, or the first reason for refusing them.
abbrev pub work_in : AskedStore → Result WorkValue Refusal
work_in w = do
  its ← ok_or (task_in w.work w.first w.second) (plain error.StoreWork)
  fits ← fits_task w its
  work_of w its
