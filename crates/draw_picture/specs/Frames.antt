-- The areas of elements (docs/PROFILE.md, "Areas").
use Rattle.std.specs.Prelude.{ℕ, Option, Some, None}
use Rattle.vt_kinds.specs.declared.object.Object.TheVariants as objects
use Rattle.vt_kinds.specs.Records.{Seen}
use Rattle.check_needs.specs.declared.sizes.Area.{Area}
use Rattle.check_needs.specs.declared.sizes.Sizes.{Sizes}
use Rattle.check_needs.specs.declared.elements.Extent.{Extent}
use Rattle.check_needs.specs.Elements.{extent_of}
use Rattle.draw_picture.specs.declared.frame.Framing.{Framing}
use Rattle.draw_picture.specs.declared.frame.Framing.TheVariants as frames

abbrev pub area : ℕ → ℕ → Option Area
area width height = Some (record { width = width; height = height })

-- the area of a shape, a meter or a bar, whose lines may reach out of it
abbrev pub fine_area : Seen → Option Area
fine_area (objects.Line o) = area o.width o.height
fine_area (objects.Rectangle o) = area o.width o.height
fine_area (objects.Ellipse o) = area o.width o.height
fine_area (objects.Polygon o) = area o.width o.height
fine_area (objects.Meter o) = area o.width o.width
fine_area (objects.LinearBar o) = area o.width o.height
fine_area (objects.ArchedBar o) = area o.width o.height
fine_area _ = None

abbrev pub clipped : Option Extent → Framing
clipped (Some e) = frames.Clipped e.width e.height
clipped None = frames.Whole

-- the area of an element that clips what is in it
abbrev pub clipping : Sizes → Seen → Framing
clipping sizes (objects.Key o) = frames.Clipped sizes.key.width sizes.key.height
clipping sizes object = clipped (extent_of object)

abbrev pub framed : Sizes → Seen → Option Area → Framing
framed sizes object (Some area) = frames.Fine area
framed sizes object None = clipping sizes object

abbrev pub frame_of : Sizes → Seen → Framing
frame_of sizes object = framed sizes object (fine_area object)
