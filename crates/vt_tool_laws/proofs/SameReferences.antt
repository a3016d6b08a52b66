-- The references with their positions are the verified references.
use Rattle.std.proofs.Common.{◌≡◌, ℕ, ◌+◌, Bool, true, false, cond, List, [], ◌∷◌, ◌++◌, map, length, Option, Some, None, refl, sym, ap, ap₂, ◌∙◌}
use Rattle.std.proofs.lemmas.List.{append-nil, map-append}
use Rattle.std.proofs.lemmas.Grind.{flat_map-append}
use Rattle.std.specs.Prelude.{filter}
use Rattle.std.specs.Option.{option_to_list}
use Rattle.std.specs.List.{flat_map}
use Rattle.vt_kinds.specs.declared.entries.MacroEntry.{MacroEntry}
use Rattle.vt_kinds.specs.declared.slot.Slot.{Slot}
use Rattle.vt_kinds.specs.References.{slots_of}
use Rattle.vt_commands.specs.declared.command.Command.{Command}
use Rattle.vt_commands.specs.declared.target.Target.{Target}
use Rattle.vt_commands.specs.Events.{is_listable}
use Rattle.vt_commands.specs.Targets.{object_of, targets}
use Rattle.vt_stores.specs.Shapes.{Shape, Fixed}
use Rattle.vt_stores.specs.Stores.{Objects, object_at}
use Rattle.vt_verify.specs.declared.reference.Reference.{Reference}
use Rattle.vt_verify.specs.Macros.{Piece, with_offsets, cut_or_none, commands_of, macro_bytes_in, named_macro, pieces_of, macro_command}
use Rattle.vt_verify.specs.References.{of_slot, pointed, with_value, slot_values}
use Rattle.vt_verify.specs.Targets.{of_target, kind_for, macro_reference, target_references, entry_references, own_references}
use Rattle.check_inspect.specs.declared.finding.ReferenceAt.{ReferenceAt}
use Rattle.check_inspect.specs.declared.finding.Spot.{Spot}
use Rattle.check_inspect.specs.declared.finding.Spot.TheVariants as spots
use Rattle.check_inspect.specs.References.{at_spot, values_at, slot_values_at, entries_at, function_of, command_targets, targets_at, own_references_at}

abbrev pub named : List ReferenceAt → List Reference
named rs = map (λ r. r.reference) rs

pub named_append : (a b : List ReferenceAt) → named (a ++ b) ≡ named a ++ named b
named_append a b = map-append (λ (r : ReferenceAt). r.reference) a b

at_one_spot : (spot : Spot) (rs : List Reference) → named (map (at_spot spot) rs) ≡ rs
at_one_spot spot [] = refl
at_one_spot spot (r ∷ rs) = ap (λ l. r ∷ l) (at_one_spot spot rs)

-- ---- slots, and the values of pointers

value_are : (objects : Objects) (parent : ℕ) (slots : List Slot) → named (flat_map (values_at objects parent) slots) ≡ flat_map (with_value objects) (map (of_slot parent) slots)
value_are objects parent [] = refl
value_are objects parent (s ∷ slots) =
    named_append (values_at objects parent s) (flat_map (values_at objects parent) slots)
    ∙ ap₂ (λ (a b : List Reference). a ++ b)
    (ap (λ (l : List Reference). of_slot parent s ∷ l) (at_one_spot _ (pointed (of_slot parent s) (object_at objects s.id))))
    (value_are objects parent slots)

pub values_are : (all objects : Objects) → named (flat_map (slot_values_at all) objects) ≡ flat_map (slot_values all) objects
values_are all [] = refl
values_are all (e ∷ objects) =
    named_append (slot_values_at all e) (flat_map (slot_values_at all) objects)
    ∙ ap₂ (λ (a b : List Reference). a ++ b) (value_are all e.0 (slots_of e.1)) (values_are all objects)

-- ---- macro entries

entry_case : (id index : ℕ) (e : MacroEntry) (b : Bool) (more : List ReferenceAt) (rest : List MacroEntry) → is_listable e.event ≡ b → named more ≡ entry_references id rest
    → named (cond b (at_spot (spots.Entry index e.event) (macro_reference id e.macro_id) ∷ []) [] ++ more)
    ≡ map (λ (e : MacroEntry). macro_reference id e.macro_id) (cond b (e ∷ filter (λ (e : MacroEntry). is_listable e.event) rest) (filter (λ (e : MacroEntry). is_listable e.event) rest))
entry_case id index e true more rest is later = ap (λ l. macro_reference id e.macro_id ∷ l) later
entry_case id index e false more rest is later = later

entries_are : (id index : ℕ) (es : List MacroEntry) → named (entries_at id index es) ≡ entry_references id es
entries_are id index [] = refl
entries_are id index (e ∷ es) = entry_case id index e (is_listable e.event) (entries_at id (index + 1) es) es refl (entries_are id (index + 1) es)

-- ---- commands

targets_case : (shape : Shape) (p : Piece) (command : Option Command) → named (command_targets shape p command) ≡ flat_map (target_references shape p.id) (option_to_list command)
targets_case shape p None = refl
targets_case shape p (Some command) = each (targets (kind_for shape (object_of command)) command) ∙ sym (append-nil (target_references shape p.id command))
  where
    each : (ts : List Target) → named (map (λ t. at_spot (spots.Command p.at (function_of p.bytes)) (of_target p.id t)) ts) ≡ map (of_target p.id) ts
    each [] = refl
    each (t ∷ ts) = ap (λ l. of_target p.id t ∷ l) (each ts)

pieces_are : (shape : Shape) (id at : ℕ) (ps : List (List ℕ))
    → named (flat_map (targets_at shape) (with_offsets id at ps)) ≡ flat_map (target_references shape id) (flat_map (λ piece. option_to_list (macro_command piece)) ps)
pieces_are shape id at [] = refl
pieces_are shape id at (bytes ∷ ps) =
    let p : Piece = record { id = id; at = at; bytes = bytes } in
    named_append (targets_at shape p) (flat_map (targets_at shape) (with_offsets id (at + length bytes) ps))
    ∙ ap₂ (λ (a b : List Reference). a ++ b) (targets_case shape p (macro_command bytes)) (pieces_are shape id (at + length bytes) ps)
    ∙ sym (flat_map-append (target_references shape id) (option_to_list (macro_command bytes)) (flat_map (λ piece. option_to_list (macro_command piece)) ps))

bytes_are : (shape : Shape) (id : ℕ) (bytes : List ℕ) → named (flat_map (targets_at shape) (pieces_of (id, bytes))) ≡ flat_map (target_references shape id) (commands_of bytes)
unfolding commands_of
bytes_are shape id bytes = pieces_are shape id 0 (cut_or_none bytes)

macro_case : (shape : Shape) (id : ℕ) (found : Option (List ℕ))
    → named (flat_map (targets_at shape) (flat_map pieces_of (map (λ bytes. (id, bytes)) (option_to_list found))))
    ≡ flat_map (target_references shape id) (flat_map commands_of (option_to_list found))
macro_case shape id None = refl
macro_case shape id (Some bytes) =
    ap (λ (ps : List Piece). named (flat_map (targets_at shape) ps)) (append-nil (pieces_of (id, bytes)))
    ∙ bytes_are shape id bytes
    ∙ ap (flat_map (target_references shape id)) (sym (append-nil (commands_of bytes)))

own_are : (shape : Shape) (e : ℕ × Fixed) → named (own_references_at shape e) ≡ own_references shape e
own_are shape e =
    named_append (entries_at e.0 0 e.1.macros) (flat_map (targets_at shape) (flat_map pieces_of (named_macro e)))
    ∙ ap₂ (λ (a b : List Reference). a ++ b) (entries_are e.0 0 e.1.macros) (macro_case shape e.0 (macro_bytes_in e.0 e.1))

pub macro_references_are : (shape es : Shape) → named (flat_map (own_references_at shape) es) ≡ flat_map (own_references shape) es
macro_references_are shape [] = refl
macro_references_are shape (e ∷ es) =
    named_append (own_references_at shape e) (flat_map (own_references_at shape) es)
    ∙ ap₂ (λ (a b : List Reference). a ++ b) (own_are shape e) (macro_references_are shape es)
