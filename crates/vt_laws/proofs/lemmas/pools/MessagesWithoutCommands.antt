-- Messages other than commands: pieces and ends of pools, and technical requests.
use Rattle.std.proofs.Common.{◌≡◌, ℕ, Bool, true, false, cond, eqb, List, ◌∷◌, Option, Some, None, refl, sym, subst}
use Rattle.std.proofs.lemmas.Bool.{eqb-true}
use Rattle.vt_can.specs.Assigned.{GET_FONTS, GET_HARDWARE, GET_MEMORY, GET_SOFT_KEYS}
use Rattle.vt_commands.specs.Commands.{command_at}
use Rattle.vt_node.specs.Messages.{technical_reply}
use Rattle.vt_node.specs.declared.profile.Profile.{Profile}
use Rattle.vt_server.specs.message.MessageEffects.{TRANSFER, END_OF_POOL}

-- No command has this function byte.
abbrev NamesNone : ℕ → Type 0
NamesNone function = (bytes : List ℕ) → command_at (function ∷ bytes) ≡ None

-- A message whose function byte equals one that no command has is no command.
named-none : (function n : ℕ) (bytes : List ℕ) → NamesNone n → eqb function n ≡ true → command_at (function ∷ bytes) ≡ None
named-none function n bytes none is = subst NamesNone (sym (eqb-true function n is)) none bytes

-- A piece of a pool is no command.
pub piece-none : (function : ℕ) (bytes : List ℕ) → eqb function TRANSFER ≡ true → command_at (function ∷ bytes) ≡ None
piece-none function bytes is = named-none function TRANSFER bytes (λ bytes. refl) is

-- The end of a pool is no command.
pub end-none : (function : ℕ) (bytes : List ℕ) → eqb function END_OF_POOL ≡ true → command_at (function ∷ bytes) ≡ None
end-none function bytes is = named-none function END_OF_POOL bytes (λ bytes. refl) is

-- A technical request is no command.
pub asked-none : (profile : Profile) (function : ℕ) (bytes reply : List ℕ) → technical_reply profile (function ∷ bytes) ≡ Some reply → command_at (function ∷ bytes) ≡ None
asked-none profile function bytes reply is = cases (eqb function GET_MEMORY) refl (eqb function GET_SOFT_KEYS) refl (eqb function GET_FONTS) refl (eqb function GET_HARDWARE) refl _ _ _ _ is
  where
    cases : (b : Bool) → eqb function GET_MEMORY ≡ b → (c : Bool) → eqb function GET_SOFT_KEYS ≡ c → (d : Bool) → eqb function GET_FONTS ≡ d → (e : Bool) → eqb function GET_HARDWARE ≡ e
        → (memory keys font hardware : Option (List ℕ)) → cond b memory (cond c keys (cond d font (cond e hardware None))) ≡ Some reply
        → command_at (function ∷ bytes) ≡ None
    cases true at c _ d _ e _ memory keys font hardware is = named-none function GET_MEMORY bytes (λ bytes. refl) at
    cases false _ true at d _ e _ memory keys font hardware is = named-none function GET_SOFT_KEYS bytes (λ bytes. refl) at
    cases false _ false _ true at e _ memory keys font hardware is = named-none function GET_FONTS bytes (λ bytes. refl) at
    cases false _ false _ false _ true at memory keys font hardware is = named-none function GET_HARDWARE bytes (λ bytes. refl) at
    cases false _ false _ false _ false _ memory keys font hardware is = absurd cc
