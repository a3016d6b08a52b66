-- What questions ask of a terminal (docs/LIVE.md, "Questions"). Members have the order of their names.
use Rattle.std.specs.Prelude.{◌≡◌, ◌⊎◌, ℕ, Bool, List, [], map, codes, Option, Some, None, is_some, unwrap_or, option_and_then}
use Rattle.std.specs.FinMap as finite
use Rattle.std.specs.Option.{option_map}
use Rattle.byteorder.specs.Endian.{big_bytes}
use Rattle.serde_json.specs.Data.{Data, array, boolean, member, no_members, null, object, string}
use Rattle.serde_json.specs.View.{items_of}
use Rattle.vt_dialogs.specs.declared.limits.InputLimits.{InputLimits}
use Rattle.vt_dialogs.specs.declared.typed.Typed.{Typed}
use Rattle.vt_kinds.specs.Ids.{null_id}
use Rattle.vt_machine.specs.SetStates.{SetState, active_in}
use Rattle.vt_names.specs.Registry.{Set}
use Rattle.draw_picture.specs.declared.listing.ListedElement.{ListedElement}
use Rattle.vt_server.specs.shown.Screens.{IsScreenOf}
use Rattle.vt_server.specs.Terminals.{State, pool_of}
use Rattle.vt_session.specs.Dialogs.{IsRawOf, limits_by, object_by, text_by}
use Rattle.vt_session.specs.Readings.{IsPartIn, IsPictureIn, elements_shown, is_at, pool_by, record_in, touched_of}
use Rattle.vt_shown.specs.ShownElements.{soft_key_mask_of}
use Rattle.vt_service.specs.Values.{hex_data, id_data, number_data, number_or_null, signed_data, text_data}
use Rattle.vt_service.specs.declared.request.Question.{Question}
use Rattle.vt_service.specs.declared.request.Question.TheVariants as questions

-- ---- elements

abbrev pub element_data : ListedElement → Data
element_data e =
    object (member (codes "around") (number_or_null e.around) (member (codes "bottom") (signed_data e.bounds.bottom)
    (member (codes "depth") (number_data e.depth) (member (codes "height") (number_data e.height)
    (member (codes "id") (number_data e.id) (member (codes "kind") (number_data e.kind)
    (member (codes "left") (signed_data e.bounds.left) (member (codes "right") (signed_data e.bounds.right)
    (member (codes "top") (signed_data e.bounds.top) (member (codes "width") (number_data e.width)
    (member (codes "x") (signed_data e.at.x) (member (codes "y") (signed_data e.at.y) no_members))))))))))))

-- the elements of the active mask of the shown set
abbrev pub elements_data : State → Data
elements_data s = array (items_of (map element_data (elements_shown s)))

-- ---- working sets

-- the ID of something of a set, or null
abbrev pub id_if : Option ℕ → Data
id_if None = null
id_if (Some id) = id_data id

abbrev pub name_data : Option ℕ → Data
name_data None = null
name_data (Some name) = hex_data (big_bytes 8 name)

abbrev pub mask_of : Option SetState → Option ℕ
mask_of set = option_map (λ s. active_in s.objects) set

abbrev pub keys_of : Option SetState → Option ℕ
keys_of set = option_map (λ s. soft_key_mask_of (finite.get s.objects (active_in s.objects))) set

abbrev pub input_of : Option SetState → Option ℕ
input_of set = option_and_then (λ s. s.input) set

abbrev pub key_of : Option SetState → Option ℕ
key_of set = option_and_then (λ s. option_map (λ key. key.id) s.key) set

-- a set with its NAME as it is written: what is active in it, if it has a pool
abbrev pub set_with : State → Set → Data → Data
set_with s set name =
    object (member (codes "address") (number_data set.address) (member (codes "input") (id_if (input_of (pool_of s set.address)))
    (member (codes "key") (id_if (key_of (pool_of s set.address))) (member (codes "mask") (id_if (mask_of (pool_of s set.address)))
    (member (codes "name") name (member (codes "pool") (boolean (is_some (pool_of s set.address)))
    (member (codes "shown") (boolean (is_at s.shown set.address))
    (member (codes "soft_key_mask") (id_if (keys_of (pool_of s set.address))) no_members))))))))

abbrev pub set_data : State → Set → Data
set_data s set = set_with s set (name_data set.name)

-- the sets in the order in which they registered
abbrev pub sets_data : State → Data
sets_data s = array (items_of (map (set_data s) s.sets))

-- ---- objects and inputs

-- the record of an object as it is now, and the text that it shows
abbrev pub object_data : State → ℕ → ℕ → Data
object_data s address id =
    object (member (codes "record") (hex_data (record_in (pool_by s address) id)) (member (codes "text") (hex_data (text_by (pool_by s address) id)) no_members))

abbrev pub limits_data : InputLimits → Data
limits_data l =
    object (member (codes "decimals") (number_data l.decimals) (member (codes "enabled") (boolean l.enabled)
    (member (codes "items") (number_data l.items) (member (codes "kind") (number_data l.kind)
    (member (codes "length") (number_data l.length) (member (codes "maximum") (number_data l.greatest)
    (member (codes "minimum") (number_data l.least) (member (codes "offset") (signed_data l.offset)
    (member (codes "places") (number_data l.places) (member (codes "value") (number_data l.value) no_members))))))))))

abbrev pub limits_if : Option InputLimits → Data
limits_if None = null
limits_if (Some limits) = limits_data limits

-- the raw value of a typed number, or null where there is none
abbrev pub IsRawData : State → ℕ → ℕ → Typed → Data → Type 0
IsRawData s address id typed d =
    (raw : Option ℕ) × IsRawOf (object_by (pool_by s address) id) typed raw × (d ≡ number_or_null raw)

-- ---- questions

-- a text that has a property
abbrev pub IsTextOf : (List ℕ → Type 0) → Data → Type 0
IsTextOf IsText d = (text : List ℕ) × IsText text × (d ≡ text_data text)

-- the answer to a question
abbrev pub IsValue : State → Question → Data → Type 0
IsValue s questions.Screen d = IsTextOf (IsScreenOf s) d
IsValue s (questions.Picture address mask) d = IsTextOf (IsPictureIn (pool_by s address) s.profile mask) d
IsValue s (questions.Part address id) d = IsTextOf (IsPartIn (pool_by s address) s.profile id) d
IsValue s questions.Elements d = d ≡ elements_data s
IsValue s (questions.Object address id) d = d ≡ object_data s address id
IsValue s questions.Sets d = d ≡ sets_data s
IsValue s (questions.Limits address id) d = d ≡ limits_if (limits_by (pool_by s address) id)
IsValue s (questions.Raw address id typed) d = IsRawData s address id typed d
IsValue s (questions.Touch x y) d = d ≡ id_data (touched_of (elements_shown s) x y)
IsValue s (questions.Words frame) d = (text : List ℕ) × (d ≡ string text)
