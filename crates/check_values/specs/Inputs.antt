-- Inputs where they are not allowed, and keys without a code of their own (docs/PROFILE.md, "Warnings").
use Rattle.std.specs.Prelude.{ℕ, Bool, true, false, not, ◌&&◌, ◌==◌, if◌then◌else◌, List, [], ◌∷◌, take, Option, Some, None}
use Rattle.std.specs.List.{list_any}
use Rattle.std.specs.FinMap as finite
use Rattle.vt_kinds.specs.declared.entries.Child.{Child}
use Rattle.vt_kinds.specs.declared.object.Object.TheVariants as object
use Rattle.vt_kinds.specs.Records.{Seen}
use Rattle.vt_shown.specs.ShownElements.{resolves_to}
use Rattle.vt_stores.specs.Stores.{Objects, map_of}
use Rattle.check_values.specs.Listed.{each_from}
use Rattle.check_values.specs.declared.warning.ValueWarning.{ValueWarning}
use Rattle.check_values.specs.declared.warning.ValueWarning.TheVariants as warnings

-- an object into which the operator enters something, or a button
abbrev pub is_input : Seen → Bool
is_input (object.Button o) = true
is_input (object.InputBoolean o) = true
is_input (object.InputString o) = true
is_input (object.InputNumber o) = true
is_input (object.InputList o) = true
is_input o = false

abbrev pub is_input_there : Option Seen → Bool
is_input_there None = false
is_input_there (Some o) = is_input o

-- a child of an ID that it resolves to
abbrev pub if_resolved : Objects → ℕ → ℕ → Option ℕ → List ValueWarning
if_resolved objects parent index None = []
if_resolved objects parent index (Some id) =
    if is_input_there (finite.get (map_of objects) id) then warnings.InputThere parent index id ∷ [] else []

-- a child that is an input or a button, itself or by a pointer
abbrev pub if_input : Objects → ℕ → ℕ → Child → List ValueWarning
if_input objects parent index child = if_resolved objects parent index (resolves_to (map_of objects) child.id)

-- the inputs and buttons among the children of an Alarm Mask or a Key
abbrev pub inputs_there : Objects → ℕ → Seen → List ValueWarning
inputs_there objects id (object.AlarmMask o) = each_from (if_input objects id) 0 o.children
inputs_there objects id (object.Key o) = each_from (if_input objects id) 0 o.children
inputs_there objects id o = []

abbrev pub if_no_code : ℕ → ℕ → List ValueWarning
if_no_code id code = if code == 0 then warnings.NoCode id ∷ [] else []

-- a Key or a Button with the code 0
abbrev pub no_codes : ℕ → Seen → List ValueWarning
no_codes id (object.Key o) = if_no_code id o.key_code
no_codes id (object.Button o) = if_no_code id o.key_code
no_codes id o = []

-- ---- keys of one mask with the same code

abbrev pub key_code : Option Seen → Option ℕ
key_code (Some (object.Key o)) = Some o.key_code
key_code o = None

abbrev pub code_of : Objects → Option ℕ → Option ℕ
code_of objects None = None
code_of objects (Some id) = key_code (finite.get (map_of objects) id)

-- the code of a Key, itself or by a pointer; None for another object
abbrev pub code_at : Objects → ℕ → Option ℕ
code_at objects id = code_of objects (resolves_to (map_of objects) id)

abbrev pub has_code : ℕ → Option ℕ → Bool
has_code code None = false
has_code code (Some other) = other == code

-- another one of some keys has this code
abbrev pub is_taken : Objects → ℕ → ℕ → List ℕ → Bool
is_taken objects key code keys = list_any (λ other. not (other == key) && has_code code (code_at objects other)) keys

abbrev pub if_same_code : Objects → ℕ → List ℕ → ℕ → ℕ → Option ℕ → List ValueWarning
if_same_code objects mask keys index key None = []
if_same_code objects mask keys index key (Some code) =
    if not (code == 0) && is_taken objects key code (take index keys) then warnings.SameCode mask index key code ∷ [] else []

-- a key with the code of an earlier one; the code 0 is told by itself
abbrev pub if_taken : Objects → ℕ → List ℕ → ℕ → ℕ → List ValueWarning
if_taken objects mask keys index key = if_same_code objects mask keys index key (code_at objects key)

-- the keys of a Soft Key Mask that have the code of an earlier one
abbrev pub same_codes : Objects → ℕ → Seen → List ValueWarning
same_codes objects id (object.SoftKeyMask o) = each_from (if_taken objects id o.keys) 0 o.keys
same_codes objects id o = []
