-- The effect of each message from the master of a set, and its reply (docs/PROFILE.md, "Other messages", "Commands: all rows").
use Rattle.std.specs.Prelude.{ℕ, ◌==◌, Bool, false, if◌then◌else◌, List, [], ◌∷◌, Option, Some, None}
use Rattle.std.specs.Option.{option_map}
pub use Rattle.vt_can.specs.Assigned.{TRANSFER, END_OF_POOL}
use Rattle.vt_commands.specs.declared.command.Command.{Command}
use Rattle.vt_commands.specs.Commands.{command_at}
use Rattle.vt_server.specs.message.CommandEffects.{content_after, error_after}
use Rattle.vt_node.specs.Messages.{technical_reply}
use Rattle.vt_node.specs.declared.profile.Profile.{Profile}
use Rattle.vt_server.specs.state.AddressStates.{SetPool, with_piece}
use Rattle.vt_server.specs.message.CommandReplies.{command_reply}
use Rattle.vt_server.specs.message.Verdicts.{Verdict, after_verdict, end_reply}

pub record Handled : Type 0 where
  pub content : SetPool
  pub reply : Option (List ℕ)

abbrev pub ignored : SetPool → Handled
ignored content = record { content = content; reply = None }

-- Without a pool a command is ignored, except Delete Object Pool.
abbrev pub commanded : SetPool → Option Command → Handled
commanded content None = ignored content
commanded content (Some command) =
    record { content = content_after command content; reply = option_map (command_reply command) (error_after command content.pool) }

-- a technical request, or else a command
abbrev pub asked : SetPool → List ℕ → Option (List ℕ) → Handled
asked content bytes (Some reply) = record { content = content; reply = Some reply }
asked content bytes None = commanded content (command_at bytes)

abbrev pub transferred : SetPool → List ℕ → Handled
transferred content bytes = ignored (with_piece content bytes)

abbrev pub end_handled : SetPool → Verdict → Handled
end_handled content verdict = record { content = after_verdict content verdict; reply = Some (end_reply verdict) }

-- the effect of a message and its reply, from a terminal of this profile; the verdict counts for End of Object Pool alone
abbrev pub handled : Profile → SetPool → Verdict → List ℕ → Handled
handled profile content verdict [] = ignored content
handled profile content verdict (function ∷ bytes) =
    if function == TRANSFER then transferred content bytes
    else if function == END_OF_POOL then end_handled content verdict
    else asked content (function ∷ bytes) (technical_reply profile (function ∷ bytes))

abbrev pub ends_pool : List ℕ → Bool
ends_pool [] = false
ends_pool (function ∷ bytes) = function == END_OF_POOL
