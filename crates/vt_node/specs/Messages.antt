-- Messages of the terminal as bytes (docs/PROFILE.md, "Other messages", "Messages of address claim").
use Rattle.std.specs.Prelude.{ℕ, ◌==◌, nat_le, if◌then◌else◌, List, [], ◌∷◌, ◌++◌, length, drop, Option, Some, None}
use Rattle.byteorder.specs.Endian.{little_number, little_bytes}
use Rattle.vt_can.specs.declared.frames.frame.Frame.{Frame}
use Rattle.vt_can.specs.Assigned.{ADDRESS_CLAIMED, FILL, GET_FONTS, GET_HARDWARE, GET_MEMORY, GET_SOFT_KEYS, GLOBAL_ADDRESS, VT_TO_ECU}
use Rattle.vt_can.specs.frames.Identifier.{addressed, raw_of}
use Rattle.vt_node.specs.Profile.{VERSION}
use Rattle.vt_node.specs.declared.profile.Profile.{Profile}

-- a message from the terminal to the master of a set
abbrev pub message_to : ℕ → ℕ → List ℕ → Frame
message_to own address bytes = record { id = raw_of (addressed 5 VT_TO_ECU address own); bytes = record { items = bytes } }

-- Address Claimed of a NAME from an address, or Cannot Claim from the null address
abbrev pub claim_from : ℕ → ℕ → Frame
claim_from address name = record { id = raw_of (addressed 6 ADDRESS_CLAIMED GLOBAL_ADDRESS address); bytes = record { items = little_bytes 8 name } }

-- the status of Get Memory: 1 if there is less memory than asked for
abbrev pub memory_status : Profile → ℕ → ℕ
memory_status profile asked = if nat_le asked profile.memory then 0 else 1

-- the reply to Get Memory, with the version
abbrev pub memory_reply : Profile → ℕ → List ℕ
memory_reply profile asked = GET_MEMORY ∷ VERSION ∷ memory_status profile asked ∷ FILL ∷ FILL ∷ FILL ∷ FILL ∷ FILL ∷ []

-- the reply to Get Number of Soft Keys
abbrev pub soft_keys_reply : Profile → List ℕ
soft_keys_reply profile =
    GET_SOFT_KEYS ∷ FILL ∷ FILL ∷ FILL ∷ profile.soft_key_width ∷ profile.soft_key_height ∷ profile.virtual_soft_keys ∷ profile.physical_soft_keys ∷ []

-- the reply to Get Text Font Data
abbrev pub fonts_reply : Profile → List ℕ
fonts_reply profile = GET_FONTS ∷ FILL ∷ FILL ∷ FILL ∷ FILL ∷ profile.small_fonts ∷ profile.large_fonts ∷ profile.font_styles ∷ []

-- the reply to Get Hardware
abbrev pub hardware_reply : Profile → List ℕ
hardware_reply profile =
    GET_HARDWARE ∷ profile.boot_time ∷ profile.graphic_type ∷ profile.hardware ∷ little_bytes 2 profile.width ++ little_bytes 2 profile.height

-- The reply to a message that asks what the terminal is, if it is one.
abbrev pub technical_by : Profile → ℕ → List ℕ → Option (List ℕ)
technical_by profile function bytes =
    if function == GET_MEMORY then
    (if nat_le 6 (length bytes) then Some (memory_reply profile (little_number 4 (drop 2 bytes))) else None)
    else if function == GET_SOFT_KEYS then Some (soft_keys_reply profile)
    else if function == GET_FONTS then Some (fonts_reply profile)
    else if function == GET_HARDWARE then Some (hardware_reply profile)
    else None

abbrev pub technical_reply : Profile → List ℕ → Option (List ℕ)
technical_reply profile [] = None
technical_reply profile (function ∷ bytes) = technical_by profile function (function ∷ bytes)
