-- How the upload of a set ended, and what is told of it (docs/PROFILE.md, "End of Object Pool (12)", "Verification of a pool").
use Rattle.std.specs.Prelude.{◌≡◌, ℕ, Bool, true, false, slice_index, Option, Some}
use Rattle.vt_can.specs.declared.frames.frame.Frame.{Frame}
use Rattle.vt_can.specs.frames.Frame.{source_of}
use Rattle.vt_names.specs.Registry.{set_at}
use Rattle.vt_kinds.specs.Ids.{null_id}
use Rattle.vt_verify.specs.declared.refusal.Refusal.{Refusal}
use Rattle.vt_verify.specs.declared.refusal.Refusal.TheVariants as refusals
use Rattle.vt_node.specs.Bus.{meaning_of}
use Rattle.vt_server.specs.frame.SessionEffects.{came}
use Rattle.vt_server.specs.frame.TimeoutActs.{at_time, lapsed}
use Rattle.vt_server.specs.Judgements.{ends_transfer}
use Rattle.vt_server.specs.message.Verdicts.{Verdict, Accepts, Faulty, Refuses, IsVerdict}
use Rattle.vt_server.specs.state.AddressStates.{SetPool}
use Rattle.vt_server.specs.Terminals.{State}
use Rattle.vt_server.specs.declared.input.Input.{Input}
use Rattle.vt_server.specs.declared.input.Input.TheVariants as inputs
use Rattle.vt_server.specs.declared.terminal.Terminal.{Terminal}
use Rattle.vt_server.specs.declared.upload_end.BrokenRule.{BrokenRule}
use Rattle.vt_server.specs.declared.upload_end.UploadEnd.{UploadEnd}
use Rattle.vt_server.specs.declared.upload_end.UploadEnd.TheVariants as ends

abbrev pub naming : ℕ → ℕ → ℕ → ℕ → BrokenRule
naming rule at object other = record { rule = rule; at = at; object = object; other = other }

abbrev pub naming_none : ℕ → BrokenRule
naming_none rule = naming rule 0 null_id null_id

-- the rule of a refusal with the objects that it names; want of memory breaks none
abbrev pub broken_rule : Refusal → BrokenRule
broken_rule refusals.NoWorkingSet = naming_none 1
broken_rule refusals.TwoWorkingSets = naming_none 2
broken_rule (refusals.Missing parent id) = naming 3 0 parent id
broken_rule (refusals.WrongKind parent id) = naming 4 0 parent id
broken_rule (refusals.TooDeep chain) = naming 5 0 (slice_index chain.items 0) null_id
broken_rule (refusals.MacroBytes id) = naming 6 0 id null_id
broken_rule (refusals.MacroCommand id at) = naming 7 at id null_id
broken_rule (refusals.MacroMissing parent id) = naming 8 0 parent id
broken_rule (refusals.MacroKind parent id) = naming 9 0 parent id
broken_rule (refusals.MacroValue id at) = naming 10 at id null_id
broken_rule (refusals.MacroCircle path) = naming 11 0 (slice_index path.items 0) null_id
broken_rule (refusals.OverBudget id) = naming 12 0 id null_id
broken_rule refusals.OutOfMemory = naming_none 0

-- the end of an upload by its verdict
abbrev pub end_by : Verdict → UploadEnd
end_by (Accepts objects) = ends.Accepted
end_by (Faulty fault) = ends.Faulty fault
end_by (Refuses refusal) = ends.Refused (broken_rule refusal)

-- ---- what is told after a frame

-- whether a frame at a time ends the upload of a set: the set is there after the timeouts and closings of that time
abbrev pub ends_upload : State → Frame → Bool
ends_upload s frame =
    ends_transfer (set_at (source_of frame) s.sets)
    (came s.now s.claims.own (source_of frame) (s.places (source_of frame)) (meaning_of s.claims.own s.claims.name frame) frame).message

-- The end that is told is that of a right verdict on an upload.
pub record IsEndOf (content : SetPool) (told : Option UploadEnd) : Type 0 where
  pub verdict : Verdict
  pub right : IsVerdict content verdict
  pub told_is : told ≡ Some (end_by verdict)

-- What is told after a frame at a time: how the upload ended, if the frame ended one.
abbrev pub TellsEndIn : State → Frame → Option UploadEnd → Type 0
TellsEndIn s frame told = ends_upload s frame ≡ true → IsEndOf (s.places (source_of frame)).content told

abbrev pub TellsEnd : State → ℕ → Frame → Option UploadEnd → Type 0
TellsEnd s time frame told = s.lost ≡ false → TellsEndIn (lapsed (at_time s time)) frame told

abbrev pub TellsEndAfter : State → Input → Option UploadEnd → Type 0
TellsEndAfter s (inputs.Frame time frame) told = TellsEnd s time frame told
TellsEndAfter s (inputs.Operator action) told = Unit {0}

-- what a terminal tells of the upload that the last frame ended
abbrev pub upload_end : Terminal → Option UploadEnd
upload_end t = t.upload_end
