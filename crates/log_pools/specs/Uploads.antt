-- Uploads by the messages that were taken. Every list of messages has the latest first.
use Rattle.std.specs.Prelude.{◌≡◌, ℕ, true, false, Option, Some, None, unwrap_or, List, []}
use Rattle.std.specs.Ordering.{nat_cmp}
use Rattle.std.specs.BTreeMap.{get, values}
use Rattle.vt_can.specs.Assigned.{END_OF_POOL}
use Rattle.log_pools.specs.declared.upload.Upload.{Upload}
use Rattle.log_pools.specs.declared.uploads.Uploads.{Uploads}
use Rattle.log_pools.specs.Pieces.{Told, has_function, pieces}

-- the bytes of an upload, if there is one
abbrev pub bytes_of : Option Upload → Option (List ℕ)
bytes_of None = None
bytes_of (Some upload) = Some upload.bytes.items

-- the uploads that are not ended
abbrev pub unended : Uploads → List Upload
unended uploads = values uploads.unended

-- the uploads after these messages: there is one of each identifier with pieces that are not ended, and it has their bytes
abbrev pub HasTaken : List Told → Uploads → Type 0
HasTaken messages uploads = (id : ℕ) → bytes_of (get nat_cmp uploads.unended id) ≡ pieces id messages

-- the upload that a message ends, with the bytes of its pieces; None for a message that ends none
abbrev pub IsEnded : List Told → Told → Option Upload → Type 0
IsEnded messages message None = has_function END_OF_POOL message.bytes ≡ false
IsEnded messages message (Some upload) = (has_function END_OF_POOL message.bytes ≡ true) × (upload.bytes.items ≡ unwrap_or (pieces message.id messages) [])
