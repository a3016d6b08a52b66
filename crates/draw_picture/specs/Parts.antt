-- The picture of one object by itself (docs/PROFILE.md, "The picture of one object").
use Rattle.std.specs.Prelude.{◌≡◌, ℕ, ◌+◌, ◌-◌, List, [], ◌∷◌, length, Option, Some, None}
use Rattle.std.specs.FinMap as finite
use Rattle.vt_kinds.specs.declared.entries.Child.{Child}
use Rattle.vt_kinds.specs.declared.object.Object.TheVariants as objects
use Rattle.vt_kinds.specs.Records.{Seen}
use Rattle.vt_stores.specs.Stores.{ObjectMap}
use Rattle.vt_chains.specs.Limits.{terminal}
use Rattle.vt_shown.specs.ShownElements.{resolves_to}
use Rattle.vt_layout.specs.Drawings.{unmoved}
use Rattle.check_needs.specs.declared.sizes.Area.{Area}
use Rattle.check_needs.specs.declared.sizes.Sizes.{Sizes}
use Rattle.draw_picture.specs.declared.frame.Framing.{Framing}
use Rattle.draw_picture.specs.declared.walk.Tag.{Tag}
use Rattle.draw_picture.specs.Documents.{IsEnded, background, beginning, gap, key_places, most_marks, width_of}
use Rattle.draw_picture.specs.Frames.{frame_of}
use Rattle.draw_picture.specs.Listings.{height_in, width_in}
use Rattle.draw_picture.specs.Marks.{cut, marks}
use Rattle.draw_picture.specs.Pictures.{with_pictures, with_tags}
use Rattle.draw_picture.specs.Tags.{tags_of}

-- ---- the size

abbrev pub size_of_area : Area → ℕ × ℕ
size_of_area area = (area.width, area.height)

-- the size of an element, as the list of elements has it
abbrev pub size_in : Framing → ℕ × ℕ
size_in frame = (width_in frame, height_in frame)

-- the width of the columns that keys take beside a mask, with the pixels between them
abbrev pub width_of_keys : Sizes → ℕ → ℕ
width_of_keys sizes keys = width_of sizes keys - (sizes.mask.width + gap)

-- the width and the height of an object by itself: those of a key for a Working Set, of the terminal's masks for a mask, of the columns of
-- its keys beside a mask for a Soft Key Mask, and those of its element for another object
abbrev pub part_size : Sizes → Seen → ℕ × ℕ
part_size sizes (objects.WorkingSet o) = size_of_area sizes.key
part_size sizes (objects.DataMask o) = size_of_area sizes.mask
part_size sizes (objects.AlarmMask o) = size_of_area sizes.mask
part_size sizes (objects.SoftKeyMask o) = (width_of_keys sizes (length o.keys), sizes.mask.height)
part_size sizes object = size_in (frame_of sizes object)

-- ---- what is drawn

-- the elements within a Working Set or a mask, the keys of a Soft Key Mask in their columns, and of another object the object itself, at the
-- upper left corner
abbrev pub part_entries : Sizes → ℕ → Seen → List Child
part_entries sizes id (objects.WorkingSet o) = o.children
part_entries sizes id (objects.DataMask o) = o.children
part_entries sizes id (objects.AlarmMask o) = o.children
part_entries sizes id (objects.SoftKeyMask o) = key_places sizes 0 o.keys
part_entries sizes id object = unmoved id ∷ []

-- its elements, as many as a picture has
abbrev pub part_tags : Sizes → ObjectMap → ℕ → Seen → List Tag
part_tags sizes store id object = tags_of (cut most_marks (marks terminal.inclusions store (part_entries sizes id object)))

-- the elements on their background, which a Working Set and a mask have
abbrev pub part_drawn : Sizes → ObjectMap → ℕ → Seen → List ℕ
part_drawn sizes store id object =
    with_tags sizes store (beginning (part_size sizes object) (part_size sizes object).0 (background (Some object))) (part_tags sizes store id object)

-- the elements of an object that is there, and the pictures to which they refer
abbrev pub IsPartOf : Sizes → ObjectMap → ℕ → Option Seen → List ℕ → Type 0
IsPartOf sizes store id None text = text ≡ []
IsPartOf sizes store id (Some object) text =
    IsEnded store (with_pictures store [] (part_tags sizes store id object)) (part_drawn sizes store id object) text

abbrev pub IsPartFor : Sizes → ObjectMap → Option ℕ → List ℕ → Type 0
IsPartFor sizes store None text = text ≡ []
IsPartFor sizes store (Some id) text = IsPartOf sizes store id (finite.get store id) text

-- the picture of the object to which an ID leads, or nothing where it leads to none
abbrev pub IsPart : Sizes → ObjectMap → ℕ → List ℕ → Type 0
IsPart sizes store id text = IsPartFor sizes store (resolves_to store id) text
