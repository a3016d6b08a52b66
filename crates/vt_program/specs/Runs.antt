-- A run of the program: its statuses, and what it writes (docs/PROFILE.md, "The program").
use Rattle.std.specs.Prelude.{◌≡◌, ◌⊎◌, ◌++◌, ℕ, List, [], reverse, true, false, Option, Some, None, IfSome, IsSomeAnd, codes}
use Rattle.std.specs.Borrow.{Bor}
use Rattle.std.specs.Io.KnownBytes.{Appends, Keeps}
use Rattle.clap.specs.Words.{Text, kind_of}
use Rattle.clap.specs.declared.error.kind.ErrorKind.{ErrorKind}
use Rattle.clap.specs.declared.error.kind.ErrorKind.TheVariants.{DisplayHelp, DisplayVersion}
use Rattle.vt_stores.specs.Stores.{ObjectMap}
use Rattle.vt_records.specs.declared.fault.PoolFault.{PoolFault}
use Rattle.vt_records.specs.FaultTexts.{fault_text}
use Rattle.vt_pool.specs.Pools.{PoolEntry, AreRecords, IsFault, contents, joined}
use Rattle.vt_pool.specs.Pools as pools
use Rattle.std.specs.FinMap as finite
use Rattle.vt_verify.specs.declared.refusal.Refusal.{Refusal as PoolRefusal}
use Rattle.vt_verify.specs.Rules.{IsVerified, IsRefused}
use Rattle.vt_chains.specs.Limits.{terminal}
use Rattle.vt_verify.specs.Rules as rules
use Rattle.vt_verify.specs.Reports as report
use Rattle.vt_logs.specs.declared.counts.Counts.{Counts}
use Rattle.vt_logs.specs.declared.fault.ReplayFault.{ReplayFault}
use Rattle.vt_logs.specs.declared.fault.ReplayFault.TheVariants as replay_fault
use Rattle.vt_program.specs.declared.options.Options.{Options}
use Rattle.vt_program.specs.declared.options.Preload.{Preload}
use Rattle.vt_program.specs.declared.options.UsageError.{UsageError}
use Rattle.vt_program.specs.declared.options.UsageError.TheVariants.{Words, Address, Name, OwnerIsOwn, Alone, Memory}
use Rattle.vt_program.specs.declared.fault.Fault.{Fault}
use Rattle.vt_program.specs.declared.fault.Fault.TheVariants as fault
use Rattle.vt_program.specs.declared.program.Status.{Status}
use Rattle.vt_program.specs.declared.program.Status.TheVariants as status
use Rattle.vt_logs.specs.EarlyEnds.{HasStopped, HasStoppedAtLong}
use Rattle.vt_logs.specs.Replays.{IsReplay, HasLongLine}
use Rattle.vt_logs.specs.Texts.{newline}
use Rattle.vt_program.specs.Words.{IsRefusalOf, WordsGive}
use Rattle.vt_node.specs.Profile.{standard}
use Rattle.vt_server.specs.state.AddressStates.{empty}
use Rattle.vt_server.specs.Steps.{preloading}
use Rattle.vt_server.specs.Terminals.{State}

-- The bytes of the file under each path, where they are known.
abbrev pub FileContents : Type 0
FileContents = Text → Option (List ℕ)

-- ---- the terminal before the first line

-- The objects of a pool's bytes. The last record of an ID gives its object.
pub record IsPoolOf (bytes : List ℕ) (objects : ObjectMap) : Type 0 where
  pub records : List PoolEntry
  pub whole : AreRecords records
  pub spelled : bytes ≡ joined records
  pub in_force : objects ≡ contents (reverse records)

-- The objects of a pool's bytes, where they are verified.
abbrev pub IsAcceptedPoolOf : List ℕ → ObjectMap → Type 0
IsAcceptedPoolOf bytes objects = IsPoolOf bytes objects × IsVerified (finite.entries objects)

-- The bytes are not a pool, by this fault, which is not want of memory.
pub record IsNoPool (bytes : List ℕ) (why : PoolFault) : Type 0 where
  pub faulty : IsFault bytes why
  pub named : pools.IsWantOfMemory why → ⊥

-- The bytes are a pool that a rule refuses, by this refusal, which is not want of memory.
pub record IsRefusedPool (bytes : List ℕ) (why : PoolRefusal) : Type 0 where
  pub objects : ObjectMap
  pub pool : IsPoolOf bytes objects
  pub refused : IsRefused terminal (finite.entries objects) why
  pub named : rules.IsWantOfMemory why → ⊥

-- A new terminal with its address, its NAME and the standard profile, before its first input.
abbrev pub new_state : ℕ → ℕ → State
new_state own name = record {
  claims = record { own = own; name = name; addresses = [] };
  profile = standard;
  sets = [];
  places = λ address. empty;
  selected = None;
  shown = None;
  lost = false;
  now = 0;
}

-- A set with the pool of the file is preloaded at the owner. The pool is verified, also where the bytes of the file are not known.
pub record IsLoaded (files : FileContents) (p : Preload) (before after : State) : Type 0 where
  pub objects : ObjectMap
  pub verified : IsVerified (finite.entries objects)
  pub pool : IfSome (files p.pool.now) (λ bytes. IsPoolOf bytes objects)
  pub state : after ≡ preloading before p.owner objects

abbrev pub IsPreloaded : FileContents → Option Preload → State → State → Type 0
IsPreloaded files None before after = after ≡ before
IsPreloaded files (Some p) before after = IsLoaded files p before after

-- The terminal that the options give.
abbrev pub IsStart : FileContents → Options → State → Type 0
IsStart files options s = IsPreloaded files options.preload (new_state options.own options.name) s

-- ---- what is written

-- The text of the replay of these bytes is written.
pub record WritesReplay (start : State) (input : List ℕ) (old new : Option (List ℕ)) : Type 0 where
  pub text : List ℕ
  pub counts : Counts
  pub end : State
  pub replay : IsReplay start input text counts end
  pub written : Appends old new text

-- The terminal that the options give has replayed their log.
pub record HasReplayed (files : FileContents) (options : Options) (old new : Option (List ℕ)) : Type 0 where
  pub start : State
  pub given : IsStart files options start
  pub writes : IfSome (files options.file.now) (λ input. WritesReplay start input old new)

-- The bytes are a pool that meets all rules, and this is its report.
pub record IsReportOf (bytes : List ℕ) (text : List ℕ) : Type 0 where
  pub objects : ObjectMap
  pub accepted : IsAcceptedPoolOf bytes objects
  pub text_is : text ≡ report.report_text (finite.entries objects)

-- The report of the pool of these bytes is written.
pub record WritesReport (bytes : List ℕ) (old new : Option (List ℕ)) : Type 0 where
  pub text : List ℕ
  pub report : IsReportOf bytes text
  pub written : Appends old new text

-- ---- why a pool has no report, or a log is not replayed

-- The file under this path could not be read.
abbrev pub IsFileFault : Bor Text → Fault → Type 0
IsFileFault path (fault.File other cause) = other ≡ path
IsFileFault path (fault.Pool why) = ⊥
IsFileFault path (fault.Refused why named) = ⊥
IsFileFault path fault.Memory = ⊥
IsFileFault path (fault.Replay why cause) = ⊥

-- The faults of bytes that are not an accepted pool.
abbrev pub IsFaultOfPool : List ℕ → Fault → Type 0
IsFaultOfPool bytes (fault.File path cause) = ⊥
IsFaultOfPool bytes (fault.Pool why) = IsNoPool bytes why
IsFaultOfPool bytes (fault.Refused why named) = IsRefusedPool bytes why
IsFaultOfPool bytes fault.Memory = Unit {0}
IsFaultOfPool bytes (fault.Replay why cause) = ⊥

-- The faults of a file that does not give an accepted pool.
abbrev pub IsPoolFileFault : FileContents → Bor Text → Fault → Type 0
IsPoolFileFault files path (fault.File other cause) = other ≡ path
IsPoolFileFault files path (fault.Pool why) = IfSome (files path.now) (λ bytes. IsNoPool bytes why)
IsPoolFileFault files path (fault.Refused why named) = IfSome (files path.now) (λ bytes. IsRefusedPool bytes why)
IsPoolFileFault files path fault.Memory = Unit {0}
IsPoolFileFault files path (fault.Replay why cause) = ⊥

-- The faults of a log: its file, or its replay. Read and Write are possible for any log, since it is read through a stream.
abbrev pub IsLogFault : FileContents → Text → Fault → Type 0
IsLogFault files log (fault.File path cause) = path.now ≡ log
IsLogFault files log (fault.Pool why) = ⊥
IsLogFault files log (fault.Refused why named) = ⊥
IsLogFault files log fault.Memory = ⊥
IsLogFault files log (fault.Replay why cause) = IfSome (files log) (λ input. why ≡ replay_fault.TooLong → HasLongLine input)

abbrev pub IsReplayFault : FileContents → Options → Fault → Type 0
IsReplayFault files options why =
    IsSomeAnd options.preload (λ p. IsPoolFileFault files p.pool why) ⊎ IsLogFault files options.file.now why

-- The output after a fault of a log's replay, with the terminal then: the first lines are taken and their text is written, that of the
-- last one perhaps in part. Where a line is too long, all lines before it are taken and their text is written whole.
pub record HasReplayedUntil (start : State) (input : List ℕ) (why : ReplayFault) (old new : Option (List ℕ)) : Type 0 where
  pub now : State
  pub stopped : HasStopped start input now old new
  pub at_long : why ≡ replay_fault.TooLong → HasStoppedAtLong start input now old new

-- The output after a fault of a log: nothing where it could not be opened, or the first bytes of its replay.
abbrev pub HasWrittenUntil : State → Option (List ℕ) → Fault → Option (List ℕ) → Option (List ℕ) → Type 0
HasWrittenUntil start log (fault.File path cause) old new = Keeps old new
HasWrittenUntil start log (fault.Pool why) old new = ⊥
HasWrittenUntil start log (fault.Refused why named) old new = ⊥
HasWrittenUntil start log fault.Memory old new = ⊥
HasWrittenUntil start log (fault.Replay why cause) old new = IfSome log (λ input. HasReplayedUntil start input why old new)

-- The terminal is the one that the options give, and the log has a fault.
pub record HasLogFault (files : FileContents) (options : Options) (why : Fault) (old new : Option (List ℕ)) : Type 0 where
  pub start : State
  pub given : IsStart files options start
  pub faulty : IsLogFault files options.file.now why
  pub written : HasWrittenUntil start (files options.file.now) why old new

-- The faults of a replay, with the output before they are printed. The pool comes first: where its file does not give an accepted
-- pool, nothing is written.
abbrev pub FailsReplay : FileContents → Options → Fault → Option (List ℕ) → Option (List ℕ) → Type 0
FailsReplay files options why old new =
    (IsSomeAnd options.preload (λ p. IsPoolFileFault files p.pool why) × Keeps old new) ⊎ HasLogFault files options why old new

-- The faults of a report or of a replay, whichever the options ask for.
abbrev pub IsFaultOf : FileContents → Options → Fault → Type 0
IsFaultOf files options why =
    ((options.report ≡ true) × IsPoolFileFault files options.file why)
    ⊎ ((options.report ≡ false) × IsReplayFault files options why)

-- The fault is printed to the output: it is that of a pool or a refusal of one.
abbrev pub IsPrinted : Fault → Type 0
IsPrinted (fault.File path cause) = ⊥
IsPrinted (fault.Pool why) = Unit {0}
IsPrinted (fault.Refused why named) = Unit {0}
IsPrinted fault.Memory = ⊥
IsPrinted (fault.Replay why cause) = ⊥

-- The text that a fault prints to the output.
abbrev pub PrintsFault : Fault → Option (List ℕ) → Option (List ℕ) → Type 0
PrintsFault (fault.File path cause) old new = Keeps old new
PrintsFault (fault.Pool why) old new = Appends old new (fault_text why ++ newline)
PrintsFault (fault.Refused why named) old new = Appends old new (report.refusal_text why ++ newline)
PrintsFault fault.Memory old new = Keeps old new
PrintsFault (fault.Replay why cause) old new = Keeps old new

-- ---- statuses

-- Help or the version is asked for.
abbrev pub IsHelp : ErrorKind → Type 0
IsHelp kind = (kind ≡ DisplayHelp) ⊎ (kind ≡ DisplayVersion)

-- The status after a refusal of the words.
abbrev pub EndsBy : UsageError → Status → Type 0
EndsBy (Words error) status.Done = IsHelp (kind_of error)
EndsBy (Words error) status.Usage = IsHelp (kind_of error) → ⊥
EndsBy (Words error) status.Fault = ⊥
EndsBy (Address option value) end = end ≡ status.Usage
EndsBy (Name value) end = end ≡ status.Usage
EndsBy (OwnerIsOwn value) end = end ≡ status.Usage
EndsBy Alone end = end ≡ status.Usage
EndsBy Memory end = end ≡ status.Fault

-- The words are refused, and a refusal of them ends with this status.
pub record Refuses (words : List Text) (end : Status) : Type 0 where
  pub refusal : UsageError
  pub of_words : IsRefusalOf words refusal
  pub ends : EndsBy refusal end

-- The words give options, and their log is replayed.
pub record Replays (words : List Text) (files : FileContents) (old new : Option (List ℕ)) : Type 0 where
  pub options : Options
  pub given : WordsGive words options
  pub no_report : options.report ≡ false
  pub replayed : HasReplayed files options old new

-- The words ask for a report, and that of the pool in their file is written.
pub record Reports (words : List Text) (files : FileContents) (old new : Option (List ℕ)) : Type 0 where
  pub options : Options
  pub given : WordsGive words options
  pub asked : options.report ≡ true
  pub written : IfSome (files options.file.now) (λ bytes. WritesReport bytes old new)

-- A report or a replay has a fault, with the output before the fault is printed: before that of a report it is empty.
abbrev pub Fails : FileContents → Options → Fault → Option (List ℕ) → Option (List ℕ) → Type 0
Fails files options why old new =
    ((options.report ≡ true) × IsPoolFileFault files options.file why × Keeps old new)
    ⊎ ((options.report ≡ false) × FailsReplay files options why old new)

-- The words give options, their report or replay has a fault, and the fault is printed after the output before it.
pub record HasFault (words : List Text) (files : FileContents) (old new : Option (List ℕ)) : Type 0 where
  pub options : Options
  pub given : WordsGive words options
  pub why : Fault
  pub before : Option (List ℕ)
  pub faulty : Fails files options why old before
  pub prints : PrintsFault why before new

-- The words give options, and a pool of theirs has a fault or is refused.
pub record HasBadPool (words : List Text) (files : FileContents) : Type 0 where
  pub options : Options
  pub given : WordsGive words options
  pub why : Fault
  pub faulty : IsFaultOf files options why
  pub printed : IsPrinted why

-- The words ask for a report, and the pool in their file meets all rules.
pub record HasReport (words : List Text) (files : FileContents) : Type 0 where
  pub options : Options
  pub given : WordsGive words options
  pub asked : options.report ≡ true
  pub text : List ℕ
  pub report : IfSome (files options.file.now) (λ bytes. IsReportOf bytes text)

-- Help is to be printed, or a report, or the fault or the refusal of a pool.
abbrev pub HasToPrint : List Text → FileContents → Type 0
HasToPrint words files = Refuses words status.Done ⊎ HasReport words files ⊎ HasBadPool words files

-- The status of a run. Memory may run out at any words, and the status is then Fault.
abbrev pub EndsWithStatus : List Text → FileContents → Option (List ℕ) → Option (List ℕ) → Status → Type 0
EndsWithStatus words files old new status.Done = Refuses words status.Done ⊎ Replays words files old new ⊎ Reports words files old new
EndsWithStatus words files old new status.Usage = Refuses words status.Usage × Keeps old new
EndsWithStatus words files old new status.Fault = (Refuses words status.Fault × Keeps old new) ⊎ HasFault words files old new

-- ---- the report alone, of the pool in the file of a path

-- The report of the pool in a file has a fault, which is printed.
pub record HasNoReport (files : FileContents) (path : Bor Text) (old new : Option (List ℕ)) : Type 0 where
  pub why : Fault
  pub faulty : IsPoolFileFault files path why
  pub prints : PrintsFault why old new

-- The status of the report of the pool in a file.
abbrev pub EndsReport : FileContents → Bor Text → Option (List ℕ) → Option (List ℕ) → Status → Type 0
EndsReport files path old new status.Done = IfSome (files path.now) (λ bytes. WritesReport bytes old new)
EndsReport files path old new status.Usage = ⊥
EndsReport files path old new status.Fault = HasNoReport files path old new

-- The report of the pool in a file is to be printed, or the pool's fault or refusal.
abbrev pub HasPoolToPrint : FileContents → Bor Text → Type 0
HasPoolToPrint files path =
    ((text : List ℕ) × IfSome (files path.now) (λ bytes. IsReportOf bytes text))
    ⊎ ((why : Fault) × IsPoolFileFault files path why × IsPrinted why)

-- ---- the texts of faults

-- The text of a fault. The texts of a file's fault and of a replay's fault are not stated.
abbrev pub fault_line : Fault → Option Text
fault_line (fault.File path cause) = None
fault_line (fault.Pool why) = Some (fault_text why)
fault_line (fault.Refused why named) = Some (report.refusal_text why)
fault_line fault.Memory = Some (codes "out of memory")
fault_line (fault.Replay why cause) = None
