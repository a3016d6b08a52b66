-- Objects by their kinds and their names.
use Rattle.std.specs.Prelude.{ℕ, List, Option, Some, string_bytes}
use Rattle.std.specs.BTreeMap.{get}
use Rattle.std.specs.Option.{option_map}
use Rattle.std.specs.Ordering.{nat_cmp}
use Rattle.check_text.specs.declared.label.Label.{Label}
use Rattle.check_text.specs.declared.names.Names.{Names}
use Rattle.check_text.specs.declared.checked_pool.CheckedPool.{CheckedPool}
use Rattle.check_reading.specs.declared.pool_reading.ReplacedRecord.{ReplacedRecord}
use Rattle.vt_kinds.specs.declared.kind.Kind.{Kind}
use Rattle.vt_kinds.specs.Records.{kind_of}
use Rattle.vt_stores.specs.Stores.{object_at}

-- an object by its ID, its kind and its name
pub record Labelled : Type 0 where
  pub id : ℕ
  pub kind : Option Kind
  pub name : Option (List ℕ)

abbrev pub label_seen : Label → Labelled
label_seen label = record { id = label.id; kind = label.kind; name = option_map (λ name. name.now) label.name }

-- the name of an object
abbrev pub name_at : Names → ℕ → Option (List ℕ)
name_at names id = option_map string_bytes (get nat_cmp names.names id)

-- an object of a pool, with its kind and its name
abbrev pub label_at : CheckedPool → ℕ → Labelled
label_at source id = record {
  id = id;
  kind = option_map kind_of (object_at source.inspection.now.objects id);
  name = name_at source.names.now id;
}

-- the object of a replaced record, with its kind there and its name
abbrev pub replaced_label : CheckedPool → ReplacedRecord → Labelled
replaced_label source replaced = record { id = replaced.id; kind = Some replaced.kind; name = name_at source.names.now replaced.id }
