-- The screen of the terminal (docs/PROFILE.md, "Form of the text").
use Rattle.std.specs.Prelude.{◌≡◌, ℕ, Bool, true, false, List, ◌++◌, Option, Some, None, is_some, codes}
use Rattle.std.specs.Option.{option_map}
use Rattle.std.specs.FinMap as finite
use Rattle.vt_kinds.specs.Records.{Seen}
use Rattle.vt_effects.specs.Looks.{look}
use Rattle.vt_machine.specs.SetStates.{SetState}
use Rattle.vt_layout.specs.Screens.{IsScreen}
use Rattle.vt_server.specs.States.{state_of}
use Rattle.vt_server.specs.Terminals.{State, pool_of, pool_at}
use Rattle.vt_server.specs.declared.terminal.Terminal.{Terminal}

abbrev pub no_screen : List ℕ
no_screen = codes "screen none\n"

abbrev pub IsScreenAt : ℕ → Option SetState → List ℕ → Type 0
IsScreenAt address None text = text ≡ no_screen
IsScreenAt address (Some state) text = IsScreen address state.objects text

abbrev pub IsScreenOfShown : (ℕ → Option SetState) → Option ℕ → List ℕ → Type 0
IsScreenOfShown pools None text = text ≡ no_screen
IsScreenOfShown pools (Some address) text = IsScreenAt address (pools address) text

-- the text of the screen of the shown set
abbrev pub IsScreenOf : State → List ℕ → Type 0
IsScreenOf s text = IsScreenOfShown (pool_of s) s.shown text

-- A vector has gained the text of the screen.
pub record GainsScreenOf (s : State) (old new : List ℕ) : Type 0 where
  pub text : List ℕ
  pub is_screen : IsScreenOf s text
  pub gained : new ≡ old ++ text

-- ---- the need to draw the screen again

-- whether the screen may differ from the one before the last call of `step` or `run`
abbrev pub redraws : Terminal → Bool
redraws t = t.redraws

-- Each screen of the old state is a screen of the new one.
abbrev pub KeepsScreen : State → State → Type 0
KeepsScreen old new = (text : List ℕ) → IsScreenOf old text → IsScreenOf new text

-- the look of the object of an ID in a pool
abbrev pub look_in : Option SetState → ℕ → Option (Option Seen)
look_in None id = None
look_in (Some state) id = Some (option_map look (finite.get state.objects id))

-- Two pools look the same, or both are missing.
abbrev pub KeepsPoolLook : Option SetState → Option SetState → Type 0
KeepsPoolLook old new = (id : ℕ) → look_in new id ≡ look_in old id

-- The same set is shown, and its pool looks the same.
pub record ShowsSame (old new : State) : Type 0 where
  pub shown : new.shown ≡ old.shown
  pub pool : KeepsPoolLook (pool_at old old.shown) (pool_at new new.shown)

-- The same set is shown, and its pool looks the same, unless it was removed.
pub record ShowsWhatIsLeft (old new : State) : Type 0 where
  pub shown : new.shown ≡ old.shown
  pub pool : is_some (pool_at new new.shown) ≡ true → KeepsPoolLook (pool_at old old.shown) (pool_at new new.shown)

-- If a call leaves `redraws` false, it was false before the call, and the screen shows the same.
abbrev pub TellsChanges : Terminal → Terminal → Type 0
TellsChanges old new = redraws new ≡ false → (redraws old ≡ false) × ShowsSame (state_of old) (state_of new)
