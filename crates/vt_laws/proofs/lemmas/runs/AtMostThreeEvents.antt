-- A command or an action raises at most three events.
use Rattle.std.proofs.Common.{◌≤◌, length, ℕ, Bool, true, false, cond, eqb, [], ◌∷◌, ◌++◌, Option, Some, None, arith}
use Rattle.std.specs.FinMap as finite
use Rattle.vt_kinds.specs.Ids.{null_id}
use Rattle.vt_commands.specs.declared.command.Command.{Command}
use Rattle.vt_commands.specs.declared.command.Command.TheVariants as commands
use Rattle.vt_commands.specs.declared.event.Event.{Event}
use Rattle.vt_commands.specs.declared.event.Event.TheVariants as events
use Rattle.vt_commands.specs.declared.raising.Raised.{Raised}
use Rattle.vt_commands.specs.Events.{raise}
use Rattle.vt_stores.specs.Stores.{ObjectMap}
use Rattle.vt_machine.specs.OperatorEntries.{entry_events}
use Rattle.vt_macros.specs.Machines.{mask_of, events_of}
use Rattle.vt_machine.specs.OperatorActions as operating
use Rattle.vt_laws.specs.Headline.{named}

few-state : (b c : Bool) (x y : Raised) → length (cond b (x ∷ []) (cond c (y ∷ []) [])) ≤ 3
few-state true c x y = omega arith
few-state false true x y = omega arith
few-state false false x y = omega arith

few-hidden : (b : Bool) (x y z : Raised) → length (cond b [] (x ∷ []) ++ y ∷ z ∷ []) ≤ 3
few-hidden true x y z = omega arith
few-hidden false x y z = omega arith

few-masks : (b c : Bool) (w x y z : Raised) → length (cond b (w ∷ []) (cond c [] (x ∷ []) ++ y ∷ z ∷ [])) ≤ 3
few-masks true c w x y z = omega arith
few-masks false c w x y z = few-hidden c x y z

pub few-events : (store : ObjectMap) (command : Command) → length (events_of store command) ≤ 3
few-events store (commands.HideShow id state) = few-state (eqb state 1) (eqb state 0) (raise id events.Show) (raise id events.Hide)
few-events store (commands.EnableDisable id state) = few-state (eqb state 1) (eqb state 0) (raise id events.Enable) (raise id events.Disable)
few-events store (commands.ChangeActiveMask set mask) =
    let old = mask_of (finite.get store set) in
    few-masks (eqb old mask) (eqb old null_id) (raise set events.ActiveMask) (raise old events.Hide) (raise set events.ActiveMask) (raise mask events.Show)
few-events store _ = omega arith

pub few-selected : (id : ℕ) (o : Option ℕ) → length (operating.select_events id o) ≤ 3
few-selected id None = omega arith
few-selected id (Some old) = cases (eqb old id)
  where
    cases : (b : Bool) → length (cond b [] (raise old events.InputDeselected ∷ raise id events.InputSelected ∷ [])) ≤ 3
    cases true = omega arith
    cases false = omega arith

pub few-entered : (id : ℕ) (b : Bool) → length (entry_events id b) ≤ 3
few-entered id true = omega arith
few-entered id false = omega arith

pub few-named : (id : ℕ) (o : Option Event) → length (named id o) ≤ 3
few-named id None = omega arith
few-named id (Some event) = omega arith
