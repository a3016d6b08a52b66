-- What a display reads of a terminal (docs/EMBEDDING.md, "Reading the state").
use Rattle.std.specs.FinMap as finite
use Rattle.std.specs.List.{flat_map}
use Rattle.std.specs.Option.{option_map}
use Rattle.std.specs.Int.{cast_unsigned, w32}
use Rattle.std.specs.Prelude.{◌≡◌, ◌⊎◌, ℕ, pos, ◌*◌, ◌+◌, ◌-◌, ◌^◌, ◌==◌, ◌&&◌, nat_lt, Bool, false, if◌then◌else◌, List, [], ◌∷◌, ◌++◌, length, Option, Some, None, is_some, unwrap_or}
use Rattle.byteorder.specs.Endian.{little_bytes}
use Rattle.vt_kinds.specs.Ids.{null_id}
use Rattle.vt_kinds.specs.Records.{Seen, record_of}
use Rattle.vt_stores.specs.Stores.{ObjectMap}
use Rattle.vt_names.specs.Registry.{Set}
use Rattle.vt_node.specs.declared.profile.Profile.{Profile}
use Rattle.vt_shown.specs.ShownElements.{soft_key_mask_of}
use Rattle.vt_machine.specs.SetStates.{SetState, active_in}
use Rattle.check_needs.specs.declared.sizes.Sizes.{Sizes}
use Rattle.draw_picture.specs.declared.listing.ListedElement.{ListedElement}
use Rattle.draw_picture.specs.Documents.{IsPicture, picture_size}
use Rattle.draw_picture.specs.Listings.{elements_of, touched}
use Rattle.draw_picture.specs.Parts.{IsPart}
use Rattle.vt_server.specs.shown.Screens.{redraws}
use Rattle.vt_server.specs.Terminals.{State, pool_at, pool_of}
use Rattle.vt_session.specs.declared.session.Session.{Session}
use Rattle.vt_session.specs.Calls.{number_of}
use Rattle.vt_session.specs.Sessions.{latest, state, waiting}

-- A text of this form is written, or memory was refused, and there is no text. Nothing else changes.
pub record Writes (IsText : List ℕ → Type 0) (before after : Session) (count : ℕ) : Type 0 where
  pub written : ((count ≡ length after.text.items) × IsText after.text.items) ⊎ ((count ≡ 2 ^ 64 - 1) × (after.text.items ≡ []))
  pub state : state after ≡ state before
  pub redraws : redraws after.terminal ≡ redraws before.terminal
  pub waiting : waiting after ≡ waiting before
  pub latest : latest after ≡ latest before
  pub looks : after.looks ≡ before.looks
  pub begun : after.begun ≡ before.begun

-- ---- the working sets

abbrev pub is_at : Option ℕ → ℕ → Bool
is_at None address = false
is_at (Some shown) address = shown == address

-- a set in 16 bytes: its address, whether it has a pool, is shown, and has a NAME, four bytes of 0, and its NAME or 0
abbrev pub set_bytes : State → Set → List ℕ
set_bytes s set =
    set.address ∷ number_of (is_some (pool_of s set.address)) ∷ number_of (is_at s.shown set.address) ∷ number_of (is_some set.name)
    ∷ 0 ∷ 0 ∷ 0 ∷ 0 ∷ little_bytes 8 (unwrap_or set.name 0)

abbrev pub Lists : Session → Session → ℕ → Type 0
Lists before after count = Writes (λ text. text ≡ flat_map (set_bytes (state before)) (state before).sets) before after count

-- ---- one working set

-- the pool of the set at an address
abbrev pub pool_by : State → ℕ → Option SetState
pool_by s address = if nat_lt address (2 ^ 8) then pool_of s address else None

-- four IDs in one number, the first lowest
abbrev pub four_ids : ℕ → ℕ → ℕ → ℕ → ℕ
four_ids a b c d = ((d * 2 ^ 16 + c) * 2 ^ 16 + b) * 2 ^ 16 + a

-- the active mask, its soft key mask, the selected input and the held key, each NULL where there is none
abbrev pub active_of : Option SetState → ℕ
active_of None = 2 ^ 64 - 1
active_of (Some set) =
    four_ids (active_in set.objects) (soft_key_mask_of (finite.get set.objects (active_in set.objects)))
    (unwrap_or set.input null_id) (unwrap_or (option_map (λ key. key.id) set.key) null_id)

abbrev pub TellsActive : Session → ℕ → Session → ℕ → Type 0
TellsActive before address after ids = (after ≡ before) × (ids ≡ active_of (pool_by (state before) address))

abbrev pub number_of_pools : Option SetState → ℕ
number_of_pools None = 0
number_of_pools (Some set) = 1

-- whether there is a set with a pool at an address
abbrev pub TellsPool : Session → ℕ → Session → ℕ → Type 0
TellsPool before address after number = (after ≡ before) × (number ≡ number_of_pools (pool_by (state before) address))

-- ---- an object

abbrev pub record_if : ℕ → Option Seen → List ℕ
record_if id None = []
record_if id (Some object) = record_of id object

-- the record of an object as it is now
abbrev pub record_in : Option SetState → ℕ → List ℕ
record_in None id = []
record_in (Some set) id = if nat_lt id null_id then record_if id (finite.get set.objects id) else []

abbrev pub WritesObject : Session → ℕ → ℕ → Session → ℕ → Type 0
WritesObject before address id after count = Writes (λ text. text ≡ record_in (pool_by (state before) address) id) before after count

-- ---- a picture

-- the area of a mask and that of a key
abbrev pub sizes_of : Profile → Sizes
sizes_of profile = record {
  mask = record { width = profile.width; height = profile.height };
  key = record { width = profile.soft_key_width; height = profile.soft_key_height };
  keys = profile.virtual_soft_keys;
}

-- a mask by its ID, or the active mask where the number is none
abbrev pub mask_in : ObjectMap → ℕ → ℕ
mask_in store mask = if nat_lt mask null_id then mask else active_in store

abbrev pub IsPictureIn : Option SetState → Profile → ℕ → List ℕ → Type 0
IsPictureIn None profile mask text = text ≡ []
IsPictureIn (Some set) profile mask text = IsPicture (sizes_of profile) set.objects (mask_in set.objects mask) text

abbrev pub Pictures : Session → ℕ → ℕ → Session → ℕ → Type 0
Pictures before address mask after count =
    Writes (IsPictureIn (pool_by (state before) address) (state before).profile mask) before after count

-- the ID of an object, where the number is one
abbrev pub id_in : ℕ → Option ℕ
id_in number = if nat_lt number null_id then Some number else None

abbrev pub IsPartBy : Sizes → ObjectMap → Option ℕ → List ℕ → Type 0
IsPartBy sizes store None text = text ≡ []
IsPartBy sizes store (Some id) text = IsPart sizes store id text

-- the picture of an object of a set by itself; nothing where there is no set with a pool or no such object
abbrev pub IsPartIn : Option SetState → Profile → ℕ → List ℕ → Type 0
IsPartIn None profile id text = text ≡ []
IsPartIn (Some set) profile id text = IsPartBy (sizes_of profile) set.objects (id_in id) text

abbrev pub Parts : Session → ℕ → ℕ → Session → ℕ → Type 0
Parts before address id after count = Writes (IsPartIn (pool_by (state before) address) (state before).profile id) before after count

abbrev pub size_number : ℕ × ℕ → ℕ
size_number size = size.1 * 2 ^ 32 + size.0

-- the size of the picture of a mask in one number, or 0 without a pool
abbrev pub size_in : Profile → Option SetState → ℕ → ℕ
size_in profile None mask = 0
size_in profile (Some set) mask = size_number (picture_size (sizes_of profile) set.objects (mask_in set.objects mask))

abbrev pub TellsSize : Session → ℕ → ℕ → Session → ℕ → Type 0
TellsSize before address mask after size = (after ≡ before) × (size ≡ size_in (state before).profile (pool_by (state before) address) mask)

-- ---- the elements of the shown mask

abbrev pub elements_in : Profile → Option SetState → List ListedElement
elements_in profile None = []
elements_in profile (Some set) = elements_of (sizes_of profile) set.objects (active_in set.objects)

-- the elements of the active mask of the shown set
abbrev pub elements_shown : State → List ListedElement
elements_shown s = elements_in s.profile (pool_at s s.shown)

-- what an element is, in 8 bytes: its ID, its kind, how many elements are around it, the index of the one around it, or 65535, and two
-- bytes of 0
abbrev pub head_bytes : ListedElement → List ℕ
head_bytes e = little_bytes 2 e.id ++ (e.kind ∷ e.depth ∷ (little_bytes 2 (unwrap_or e.around null_id) ++ (0 ∷ 0 ∷ [])))

-- where it is, in numbers of four bytes: its place, its size, and the bounds of what is shown of it
abbrev pub numbers_of : ListedElement → List ℕ
numbers_of e =
    cast_unsigned w32 e.at.x ∷ cast_unsigned w32 e.at.y ∷ e.width ∷ e.height ∷ cast_unsigned w32 e.bounds.left ∷ cast_unsigned w32 e.bounds.top
    ∷ cast_unsigned w32 e.bounds.right ∷ cast_unsigned w32 e.bounds.bottom ∷ []

-- an element in 40 bytes
abbrev pub element_bytes : ListedElement → List ℕ
element_bytes e = head_bytes e ++ flat_map (little_bytes 4) (numbers_of e)

abbrev pub ListsElements : Session → Session → ℕ → Type 0
ListsElements before after count = Writes (λ text. text ≡ flat_map element_bytes (elements_shown (state before))) before after count

-- the key, button or input that is shown at a place, or NULL
abbrev pub touched_of : List ListedElement → ℕ → ℕ → ℕ
touched_of elements x y = if nat_lt x (2 ^ 31) && nat_lt y (2 ^ 31) then unwrap_or (touched (pos x) (pos y) elements) null_id else null_id

abbrev pub TellsTouched : Session → ℕ → ℕ → Session → ℕ → Type 0
TellsTouched before x y after id = (after ≡ before) × ((id ≡ touched_of (elements_shown (state before)) x y) ⊎ (id ≡ 2 ^ 64 - 1))
