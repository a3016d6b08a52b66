-- The shape of a store, which no command changes: its IDs, kinds, macro entries and macro bytes
-- (docs/PROFILE.md, "What every store keeps").
use Rattle.std.specs.Prelude.{ℕ, List, [], map, Option}
use Rattle.std.specs.Option.{option_map}
use Rattle.std.specs.Ordering.{nat_cmp}
use Rattle.std.specs.FinMap as finite
use Rattle.vt_kinds.specs.declared.kind.Kind.{Kind}
use Rattle.vt_kinds.specs.declared.entries.MacroEntry.{MacroEntry}
use Rattle.vt_kinds.specs.declared.object.Object.TheVariants as objects
use Rattle.vt_kinds.specs.Records.{Seen, kind_of, macros_of}
use Rattle.vt_stores.specs.Stores.{Objects}

pub record Fixed : Type 0 where
  pub kind : Kind
  pub macros : List MacroEntry
  pub bytes : List ℕ

-- the bytes of a macro; empty for other kinds
abbrev pub macro_bytes : Seen → List ℕ
macro_bytes (objects.Macro o) = o.bytes
macro_bytes o = []

abbrev pub fixed : Seen → Fixed
fixed o = record { kind = kind_of o; macros = macros_of o; bytes = macro_bytes o }

-- the fixed properties of each ID, by rising ID
abbrev pub Shape : Type 0
Shape = List (ℕ × Fixed)

abbrev pub shape_of : Objects → Shape
shape_of objects = map (λ e. (e.0, fixed e.1)) objects

-- the fixed properties of an ID
abbrev pub fixed_at : Shape → ℕ → Option Fixed
fixed_at shape id = finite.find nat_cmp id shape

abbrev pub kind_at : Shape → ℕ → Option Kind
kind_at shape id = option_map (λ f. f.kind) (fixed_at shape id)
