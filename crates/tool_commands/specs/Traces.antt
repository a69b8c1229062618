-- What `relayd vegas` writes: for each line of its reader, the limit and the no-load time after the samples so far, and
-- what explains them where that is asked for.
use Rattle.std.specs.Prelude.{◌≡◌, ℕ, zero, suc, ◌≤◌, Bool, IsTrue, List, [], ◌∷◌, ◌++◌, length, take, Option, Result}
use Rattle.std.specs.Prelude.{Ok, Err, codes, decimal, if◌then◌else◌}
use Rattle.std.specs.Io.KnownBytes.{Keeps}
use Rattle.std.specs.Option.{option_map_or}
use Rattle.relay_types.specs.Values.{is_max_limit}
use Rattle.relay_types.specs.declared.fault.ReadFault.TheVariants.{BadMax}
use Rattle.vegas.specs.declared.sample.Sample.{Sample}
use Rattle.circular_buffer.specs.Buffer.{keep_last}
use Rattle.vegas.specs.declared.limits.TheConstants.{LAST_SAMPLES}
use Rattle.vegas.specs.declared.state.State.{State}
use Rattle.vegas.specs.Vegas.{limit_of, noload_of, probes_of}
use Rattle.vegas.specs.Estimators.{EstimatorValue, Explains, StandsFor, before_last}
use Rattle.text_lines.specs.declared.fault.StreamFault.{StreamFault}
use Rattle.text_lines.specs.Ends.{Ends}
use Rattle.text_lines.specs.Parts.{line, HasParts}
use Rattle.text_lines.specs.Streams.{with_feed}
use Rattle.command_interface.specs.declared.exit_status.CommandFault.{CommandFault}
use Rattle.command_interface.specs.declared.exit_status.CommandFault.TheVariants.{Argument, Ended, File, Store}
use Rattle.tool_commands.specs.declared.vegas_command.Follower.{Follower}
use Rattle.tool_commands.specs.declared.vegas_command.LimitLine.{LimitLine}
use Rattle.tool_commands.specs.declared.vegas_command.TheConstants.{MAX_IN_FLIGHT, MAX_ROUND_TRIP}
use Rattle.command_interface.specs.Reports.{Reports}

-- the words `RTT INFLIGHT ok` or `RTT INFLIGHT drop` of a sample
abbrev pub end_word : Bool → List ℕ
end_word dropped = if dropped then codes "drop" else codes "ok"

abbrev pub sample_words : Sample → List (List ℕ)
sample_words x = decimal x.rtt ∷ decimal x.inflight ∷ end_word x.dropped ∷ []

-- the words of a sample within its bounds, of at least one post in flight
abbrev pub IsSample : List (List ℕ) → Sample → Type 0
IsSample words x = (words ≡ sample_words x) × (x.rtt ≤ MAX_ROUND_TRIP) × (1 ≤ x.inflight) × (x.inflight ≤ MAX_IN_FLIGHT)

abbrev pub ReadsSample : List ℕ → Sample → Type 0
ReadsSample text x = (words : List (List ℕ)) × (text ≡ line words) × IsSample words x

-- the texts stand for the samples
abbrev pub ReadSamples : List (List ℕ) → List Sample → Type 0
ReadSamples [] [] = Unit {0}
ReadSamples (text ∷ texts) (x ∷ xs) = ReadsSample text x × ReadSamples texts xs
ReadSamples [] (x ∷ xs) = ⊥
ReadSamples (text ∷ texts) [] = ⊥

-- the text stands for no sample
abbrev pub IsNoSample : List ℕ → Type 0
IsNoSample text = (x : Sample) → ReadsSample text x → ⊥

-- the text has as many words as that of a sample
abbrev pub HasThreeWords : List ℕ → Type 0
HasThreeWords text = (words : List (List ℕ)) × HasParts 32 text words × (length words ≡ 3)

-- a limit and a no-load time
abbrev pub numbers_words : (limit noload : ℕ) → List (List ℕ)
numbers_words limit noload = decimal limit ∷ decimal noload ∷ []

-- the numbers before the last samples, and how many these are
abbrev pub base_words : State → (count : ℕ) → List (List ℕ)
base_words base count =
    codes "from" ∷ decimal base.limit ∷ decimal base.noload ∷ decimal base.probes ∷ codes "by" ∷ decimal count ∷ []

-- what is answered
abbrev pub answer_words : LimitLine → List (List ℕ)
answer_words n = numbers_words n.limit n.noload ++ option_map_or (λ b. base_words b.state b.count) n.base []

abbrev pub told_words : (explains : Bool) → State → State → (count : ℕ) → List (List ℕ)
told_words explains now base count =
    numbers_words now.limit now.noload ++ (if explains then base_words base count else [])

-- the numbers of the samples
abbrev pub numbers_of : ℕ → List Sample → State
numbers_of maximum xs = record {
  limit = limit_of maximum xs;
  noload = noload_of maximum xs;
  probes =
      probes_of maximum xs;
}

-- the line after these samples
abbrev pub sampled_text : Bool → ℕ → List Sample → List ℕ
sampled_text explains maximum xs =
    with_feed (line (told_words explains (numbers_of maximum xs) (numbers_of maximum (before_last xs))
    (length (keep_last LAST_SAMPLES xs))))

-- the lines after the first sample, the first two, and so on to the first k
abbrev pub trace_text : Bool → ℕ → List Sample → ℕ → List ℕ
trace_text explains maximum xs zero = []
trace_text explains maximum xs (suc k) = trace_text explains maximum xs k ++ sampled_text explains maximum
    (take (suc k) xs)

-- What is written for the lines: what is told after each of the samples for which they stand.
abbrev pub Traced : Bool → ℕ → List (List ℕ) → List ℕ → Type 0
Traced explains maximum lines written =
    (xs : List Sample) × ReadSamples lines xs × (written ≡ trace_text explains maximum xs (length xs))

-- The limits after the samples of the reader's text are written, as far as this end says.
abbrev pub Traces : Bool → ℕ → Option (List ℕ) → Option (List ℕ) → Option (List ℕ) → Result (Unit {0}) StreamFault
    → Type 0
Traces explains maximum input old new end = Ends (Traced explains maximum) IsNoSample input old new end

-- a maximum is read from the word, of which this holds
abbrev pub HasMaximum : List ℕ → (ℕ → Type 0) → Type 0
HasMaximum word Holds = (maximum : ℕ) × IsTrue (is_max_limit maximum) × (word ≡ decimal maximum) × Holds maximum

abbrev pub HasNoMaximum : List ℕ → Type 0
HasNoMaximum word = (maximum : ℕ) → IsTrue (is_max_limit maximum) → word ≡ decimal maximum → ⊥

-- What is written at an end. The word is an argument: where it is no maximum, it is refused and nothing is written.
abbrev pub WritesTrace : Bool → List ℕ → Option (List ℕ) → Option (List ℕ) → Option (List ℕ)
    → Result (Unit {0}) CommandFault → Type 0
WritesTrace explains word input old new (Ok done) = HasMaximum word
    (λ maximum. Traces explains maximum input old new (Ok done))
WritesTrace explains word input old new (Err (Argument fault)) = (fault ≡ BadMax) × HasNoMaximum word × Keeps old new
WritesTrace explains word input old new (Err (Ended fault)) = HasMaximum word
    (λ maximum. Traces explains maximum input old new (Err fault))
WritesTrace explains word input old new (Err (File fault)) = ⊥
WritesTrace explains word input old new (Err (Store fault)) = ⊥

-- So it is, and the exit status and standard error tell of the same end.
abbrev pub ReportsTrace : Bool → List ℕ → Option (List ℕ) → Option (List ℕ) → Option (List ℕ)
    → Option (List ℕ) → Option (List ℕ) → ℕ → Type 0
ReportsTrace explains word input old new untold told status =
    Reports (WritesTrace explains word input old new) untold told status

-- what is told of an estimator
abbrev pub estimator_words : (explains : Bool) → EstimatorValue → List (List ℕ)
estimator_words explains e = told_words explains e.state e.base (length e.last)

-- the line's sample is taken, and answered by what is told after it
abbrev pub AnswersSample : Follower → List ℕ → List ℕ → Follower → Type 0
AnswersSample old text answer new = (x : Sample) × ReadsSample text x × (new.explains ≡ old.explains)
    × (new.estimator.maximum ≡ old.estimator.maximum)
    × ((xs : List Sample) → StandsFor old.estimator xs → StandsFor new.estimator (xs ++ x ∷ []))
    × ((xs : List Sample) → Explains old.estimator xs → Explains new.estimator (xs ++ x ∷ []))
    × (answer ≡ line (estimator_words new.explains new.estimator))
