-- The law that a log has one replay: the text written is a function of the log and of the options with their pool.
use Rattle.std.specs.Prelude.{◌≡◌, ℕ, List, Option, Some, None}
use Rattle.std.specs.Io.KnownBytes.{Appends}
use Rattle.vt_laws.specs.Headline.{Pools, ArePoolsInForce}
use Rattle.vt_logs.specs.declared.counts.Counts.{Counts}
use Rattle.vt_logs.specs.Replays.{IsReplay}
use Rattle.vt_program.specs.declared.options.Options.{Options}
use Rattle.vt_program.specs.declared.options.Preload.{Preload}
use Rattle.vt_program.specs.Runs.{FileContents, HasReplayed, IsStart}
use Rattle.vt_server.specs.Terminals.{State}

-- The bytes of the file under a path are known.
abbrev pub IsKnown : Option (List ℕ) → Type 0
IsKnown file = (bytes : List ℕ) × (file ≡ Some bytes)

-- The bytes of the pool's file are known, where the options give a pool.
abbrev pub IsPoolKnown : FileContents → Option Preload → Type 0
IsPoolKnown files None = Unit {0}
IsPoolKnown files (Some p) = IsKnown (files p.pool.now)

-- The same text is appended in both cases.
abbrev pub AppendSame : Option (List ℕ) → Option (List ℕ) → Option (List ℕ) → Type 0
AppendSame old new other = (text : List ℕ) × Appends old new text × Appends old other text

-- From a terminal whose pools are in force a log has one replay: one text, one list of counts and one terminal after it. Options give
-- one terminal, where the bytes of their pool are known. The text written for their log is then one, where its bytes are known too.
pub record ReplaysAreOne : Type 0 where
  pub replay : (pools : Pools) (start now later : State) (input text other : List ℕ) (counts more : Counts) → ArePoolsInForce pools start
      → IsReplay start input text counts now → IsReplay start input other more later → (text ≡ other) × (counts ≡ more) × (now ≡ later)
  pub start : (files : FileContents) (options : Options) (one other : State) → IsPoolKnown files options.preload → IsStart files options one
      → IsStart files options other → one ≡ other
  pub written : (files : FileContents) (options : Options) (old new other : Option (List ℕ)) → IsPoolKnown files options.preload
      → IsKnown (files options.file.now) → HasReplayed files options old new → HasReplayed files options old other → AppendSame old new other
