-- Findings are in their places.
use Rattle.std.proofs.Common.{◌≡◌, ℕ, suc, ◌+◌, Bool, true, false, cond, ◌&&◌, List, [], ◌∷◌, ◌++◌, map, length, Option, Some, None, refl, sym, ap, ap₂, subst, ◌∙◌, inl, inr, arith}
use Rattle.std.proofs.lemmas.List.{append_assoc, append-nil, length-append}
use Rattle.std.proofs.lemmas.List.Elements.{Contains-append_cases}
use Rattle.std.proofs.lemmas.List.Concat.{flat_map-append}
use Rattle.std.specs.Prelude.{Contains, slice_get, nat_le}
use Rattle.std.specs.Option.{option_to_list}
use Rattle.std.specs.List.{flat_map, AllByRecursion}
use Rattle.vt_kinds.specs.declared.entries.MacroEntry.{MacroEntry}
use Rattle.vt_kinds.specs.declared.slot.Slot.{Slot}
use Rattle.vt_kinds.specs.References.{slots_of}
use Rattle.vt_kinds.specs.Records.{Seen}
use Rattle.vt_kinds.specs.declared.object.Object.TheVariants as objects
use Rattle.vt_stores.specs.Shapes.{Shape, Fixed, shape_of}
use Rattle.vt_stores.specs.Stores.{Objects, object_at}
use Rattle.vt_commands.specs.declared.command.Command.{Command}
use Rattle.vt_commands.specs.declared.command.Command.TheVariants.{ChangeAttribute}
use Rattle.vt_commands.specs.Events.{is_listable}
use Rattle.vt_commands.specs.Pieces.{IsPiece, IsCut, cut}
use Rattle.vt_commands.specs.Targets.{object_of, targets}
use Rattle.vt_commands.proofs.OneSplit.{cut_is_one}
use Rattle.vt_chains.proofs.Elements.{Contains-nil, Contains-head, cons_case, option_case}
use Rattle.vt_verify.specs.declared.reference.Reference.{Reference}
use Rattle.vt_verify.specs.Macros.{Piece, is_macro, may_be_named, macro_bytes_in, named_macro, macros, pieces, pieces_of, with_offsets, cut_or_none, macro_command}
use Rattle.vt_verify.specs.References.{of_slot, pointed}
use Rattle.vt_verify.specs.Targets.{of_target, kind_for, macro_reference, target_references}
use Rattle.check_inspect.specs.declared.finding.Finding.{Finding}
use Rattle.check_inspect.specs.declared.finding.Finding.TheVariants as findings
use Rattle.check_inspect.specs.declared.finding.ReferenceAt.{ReferenceAt}
use Rattle.check_inspect.specs.declared.finding.Spot.TheVariants as spots
use Rattle.check_inspect.specs.Findings.{value_finding}
use Rattle.check_inspect.specs.References.{at_spot, slot_at, slots_at, pointed_at, values_at, slot_values_at, entry_at, entries_at, function_of, command_targets, targets_at, own_references_at}
use Rattle.vt_tool_laws.specs.InspectLaws.{IsCulprit}
use Rattle.vt_tool_laws.proofs.Truths.{all_true, in_either, in_map, map_in, in_flat_map, flat_map_in}
use Rattle.vt_tool_laws.specs.PlaceLaws.{StandsAt, IsCommandAt, IsSlotIn, IsAtSpot, IsInPlace, FindingsAreInPlace}

-- ---- commands in a macro's bytes

-- a piece among others, and the pieces before and after it
record IsAmong (id at : ℕ) (all : List (List ℕ)) (p : Piece) : Type 0 where
  front : List (List ℕ)
  back : List (List ℕ)
  parts : all ≡ front ++ p.bytes ∷ back
  id_is : p.id ≡ id
  at_is : p.at ≡ at + length (flat_map (λ (q : List ℕ). q) front)

among : (id at : ℕ) (all : List (List ℕ)) (p : Piece) → Contains (with_offsets id at all) p → IsAmong id at all p
among id at [] p inside = absurd (Contains-nil p inside)
among id at (bytes ∷ all) p inside =
    let first : Piece = record { id = id; at = at; bytes = bytes } in
    cons_case (IsAmong id at (bytes ∷ all) p) first p (with_offsets id (at + length bytes) all) inside
    (λ same. subst (IsAmong id at (bytes ∷ all)) same (record { front = []; back = all; parts = refl; id_is = refl; at_is = omega arith }))
    (λ rest.
    let later = among id (at + length bytes) all p rest in
    record {
      front = bytes ∷ later.front;
      back = later.back;
      parts = ap (λ (l : List (List ℕ)). bytes ∷ l) later.parts;
      id_is = later.id_is;
      at_is = let long = length-append bytes (flat_map (λ (q : List ℕ). q) later.front) in omega (arith, later.at_is, long);
    })

middle : (P : List ℕ → Type 0) (front : List (List ℕ)) (x : List ℕ) (back : List (List ℕ)) → AllByRecursion P (front ++ x ∷ back) → P x
middle P [] x back all = all.0
middle P (y ∷ front) x back all = middle P front x back all.1

-- the bytes of a piece stand at its offset
piece_stands : (id : ℕ) (bytes : List ℕ) (all : List (List ℕ)) (p : Piece) → IsCut bytes all → IsAmong id 0 all p → IsPiece p.bytes × StandsAt p.bytes bytes p.at
piece_stands id bytes all p parts inside =
    let own : List ℕ → List ℕ = λ q. q in (
      middle IsPiece inside.front p.bytes inside.back (subst (AllByRecursion IsPiece) inside.parts parts.each),
      record {
        front = flat_map own inside.front;
        back = flat_map own inside.back;
        joined = parts.joined ∙ ap (flat_map own) inside.parts ∙ flat_map-append own inside.front (p.bytes ∷ inside.back);
        before = omega (arith, inside.at_is);
      },
    )

cut_known : (bytes : List ℕ) (all : List (List ℕ)) → cut bytes ≡ Some all → cut_or_none bytes ≡ all
unfolding cut_or_none
cut_known bytes all is = ap (λ (c : Option (List (List ℕ))). flat_map (λ (l : List (List ℕ)). l) (option_to_list c)) is ∙ append-nil all

cut_nothing : (bytes : List ℕ) → cut bytes ≡ None → cut_or_none bytes ≡ []
unfolding cut_or_none
cut_nothing bytes is = ap (λ (c : Option (List (List ℕ))). flat_map (λ (l : List (List ℕ)). l) (option_to_list c)) is

piece_in_place : (id : ℕ) (bytes : List ℕ) (p : Piece) → Contains (pieces_of (id, bytes)) p → (p.id ≡ id) × IsPiece p.bytes × StandsAt p.bytes bytes p.at
piece_in_place id bytes p inside =
    option_case ((p.id ≡ id) × IsPiece p.bytes × StandsAt p.bytes bytes p.at) (cut bytes)
    (λ none. absurd (Contains-nil p (subst (λ (l : List (List ℕ)). Contains (with_offsets id 0 l) p) (cut_nothing bytes none) inside)))
    (λ all some.
    let inner = among id 0 all p (subst (λ (l : List (List ℕ)). Contains (with_offsets id 0 l) p) (cut_known bytes all some) inside) in
    let placed = piece_stands id bytes all p ((cut_is_one.found bytes all).1 some) inner in
    (inner.id_is, placed.0, placed.1))

named_case : (b c : Bool) (id : ℕ) (bytes : List ℕ) (m : ℕ × List ℕ) → Contains (map (λ (bs : List ℕ). (id, bs)) (option_to_list (cond (b && c) (Some bytes) None))) m
    → (m ≡ (id, bytes)) × (b ≡ true)
named_case true true id bytes m inside =
    cons_case ((m ≡ (id, bytes)) × (let yes : Bool = true in yes ≡ true)) (id, bytes) m [] inside (λ same. (sym same, refl)) (λ none. absurd (Contains-nil m none))
named_case true false id bytes m inside = absurd (Contains-nil m inside)
named_case false c id bytes m inside = absurd (Contains-nil m inside)

-- a piece of the macro of an entry
entry_piece : (objects : Objects) (e : ℕ × Fixed) (p : Piece) → Contains (shape_of objects) e → Contains (flat_map pieces_of (named_macro e)) p
    → (p.id ≡ e.0) × IsCommandAt objects e.0 p.at (function_of p.bytes) p.bytes
entry_piece objects e p there inside =
    let m = in_flat_map pieces_of (named_macro e) p inside in
    let named = named_case (is_macro e.1.kind) (nat_le e.0 255) e.0 e.1.bytes m.0 m.1 in
    let placed = piece_in_place e.0 e.1.bytes p (subst (λ (l : ℕ × List ℕ). Contains (pieces_of l) p) named.0 m.2) in
    (placed.0, record { object = e.1; there = there; macro = named.1; whole = placed.1; stands = placed.2; first = refl })

any_piece : (objects : Objects) (p : Piece) → Contains (pieces (shape_of objects)) p → IsCommandAt objects p.id p.at (function_of p.bytes) p.bytes
any_piece objects p inside =
    let m = in_flat_map pieces_of (macros (shape_of objects)) p inside in
    let e = in_flat_map named_macro (shape_of objects) m.0 m.1 in
    let placed = entry_piece objects e.0 p e.1 (flat_map_in pieces_of (named_macro e.0) m.0 p e.2 m.2) in
    subst (λ (id : ℕ). IsCommandAt objects id p.at (function_of p.bytes) p.bytes) (sym placed.0) placed.1

-- ---- references

only : (b : Bool) (x r : ReferenceAt) → Contains (cond b (x ∷ []) []) r → x ≡ r
only true x r inside = cons_case (x ≡ r) x r [] inside (λ same. same) (λ none. absurd (Contains-nil r none))
only false x r inside = absurd (Contains-nil r inside)

pointed_parent : (r : Reference) (o : Option Seen) (x : Reference) → Contains (pointed r o) x → x.parent ≡ r.parent
pointed_parent r (Some (objects.ObjectPointer pointer)) x inside =
    let value : Reference = record r { id = pointer.value } in
    cons_case (x.parent ≡ r.parent) value x [] inside (λ same. ap (λ (y : Reference). y.parent) (sym same)) (λ none. absurd (Contains-nil x none))
pointed_parent r o x inside = absurd (Contains-nil x inside)

abbrev IsPlaced : Objects → ReferenceAt → Type 0
IsPlaced objects r = IsAtSpot objects r.reference r.spot

slot_placed : (objects : Objects) (r : ReferenceAt) → Contains (flat_map slots_at objects) r → IsPlaced objects r
slot_placed objects r inside =
    let e = in_flat_map slots_at objects r inside in
    let slot = in_map (slot_at e.0.0) (slots_of e.0.1) r e.2 in
    subst (IsPlaced objects) slot.2 (slot.0, record { object = e.0.1; there = e.1; slot_of = slot.1 }, refl, refl)

value_placed : (objects : Objects) (r : ReferenceAt) → Contains (flat_map (slot_values_at objects) objects) r → IsPlaced objects r
value_placed objects r inside =
    let e = in_flat_map (slot_values_at objects) objects r inside in
    let slot = in_flat_map (values_at objects e.0.0) (slots_of e.0.1) r e.2 in
    let own : IsSlotIn objects e.0.0 slot.0 = record { object = e.0.1; there = e.1; slot_of = slot.1 } in
    let own_reference = of_slot e.0.0 slot.0 in
    cons_case (IsPlaced objects r) (slot_at e.0.0 slot.0) r (pointed_at objects slot.0.place own_reference) slot.2
    (λ same. subst (IsPlaced objects) same (slot.0, own, refl, refl))
    (λ rest.
    let through = in_map (at_spot (spots.Through slot.0.place slot.0.id)) (pointed own_reference (object_at objects slot.0.id)) r rest in
    let parent_is = pointed_parent own_reference (object_at objects slot.0.id) through.0 through.1 in
    subst (IsPlaced objects) through.2 (
      slot.0,
      subst (λ (id : ℕ). IsSlotIn objects id slot.0) (sym parent_is) own,
      refl,
      refl,
      subst (λ (id : ℕ). Contains (pointed (of_slot id slot.0) (object_at objects slot.0.id)) through.0) (sym parent_is) through.1,
    ))

-- an entry at an index
entry_in : (id from : ℕ) (es : List MacroEntry) (r : ReferenceAt) → Contains (entries_at id from es) r
    → (k : ℕ) × (entry : MacroEntry) × (slice_get es k ≡ Some entry) × (at_spot (spots.Entry (from + k) entry.event) (macro_reference id entry.macro_id) ≡ r)
entry_in id from [] r inside = absurd (Contains-nil r inside)
entry_in id from (e ∷ es) r inside =
    let Result : Type 0 = (k : ℕ) × (entry : MacroEntry) × (slice_get (e ∷ es) k ≡ Some entry)
    × (at_spot (spots.Entry (from + k) entry.event) (macro_reference id entry.macro_id) ≡ r) in
    in_either Result (entry_at id from e) (entries_at id (from + 1) es) r inside
    (λ here. (
      0,
      e,
      refl,
      ap (λ (i : ℕ). at_spot (spots.Entry i e.event) (macro_reference id e.macro_id)) (omega arith)
          ∙ only (is_listable e.event) (at_spot (spots.Entry from e.event) (macro_reference id e.macro_id)) r here,
    ))
    (λ rest.
    let later = entry_in id (from + 1) es r rest in
    (suc later.0, later.1, later.2, ap (λ (i : ℕ). at_spot (spots.Entry i later.1.event) (macro_reference id later.1.macro_id)) (omega arith) ∙ later.3))

own_placed : (objects : Objects) (r : ReferenceAt) → Contains (flat_map (own_references_at (shape_of objects)) (shape_of objects)) r → IsPlaced objects r
own_placed objects r inside =
    let shape = shape_of objects in
    let e = in_flat_map (own_references_at shape) shape r inside in
    in_either (IsPlaced objects r) (entries_at e.0.0 0 e.0.1.macros) (flat_map (targets_at shape) (flat_map pieces_of (named_macro e.0))) r e.2
    (λ entries.
    let found = entry_in e.0.0 0 e.0.1.macros r entries in
    let index : found.0 ≡ 0 + found.0 = omega arith in
    let entry = subst (λ (i : ℕ). slice_get e.0.1.macros i ≡ Some found.1) index found.2 in
    subst (IsPlaced objects) found.3 (e.0.1, found.1, e.1, entry, refl, refl))
    (λ commands.
    let piece = in_flat_map (targets_at shape) (flat_map pieces_of (named_macro e.0)) r commands in
    let p = piece.0 in
    let placed = entry_piece objects e.0 p e.1 piece.1 in
    let here = subst (λ (id : ℕ). IsCommandAt objects id p.at (function_of p.bytes) p.bytes) (sym placed.0) placed.1 in
    option_case (IsPlaced objects r) (macro_command p.bytes)
    (λ none. absurd (Contains-nil r (subst (λ (c : Option Command). Contains (command_targets shape p c) r) none piece.2)))
    (λ command some.
    let all = targets (kind_for shape (object_of command)) command in
    let target = in_map (λ t. at_spot (spots.Command p.at (function_of p.bytes)) (of_target p.id t)) all r
    (subst (λ (c : Option Command). Contains (command_targets shape p c) r) some piece.2) in
    subst (IsPlaced objects) target.2 (p.bytes, command, here, some, map_in (of_target p.id) all target.0 target.1)))

-- ---- findings

value_in_place : (objects : Objects) (p : Piece) (command : Option Command) (g : Finding) → macro_command p.bytes ≡ command → Contains (pieces (shape_of objects)) p
    → Contains (value_finding p command) g → IsInPlace objects g
value_in_place objects p (Some (ChangeAttribute object number value)) g is inside h =
    cons_case (IsInPlace objects g) (findings.MacroValue p.id p.at object number) g [] h
    (λ same. subst (IsInPlace objects) same (p.bytes, function_of p.bytes, value, any_piece objects p inside, is))
    (λ none. absurd (Contains-nil g none))
value_in_place objects p command g is inside h = absurd (Contains-nil g h)

placed : (objects : Objects) (g : Finding) → IsCulprit objects g → IsInPlace objects g
placed objects (findings.Record fault) is = tt
placed objects findings.NoWorkingSet is = tt
placed objects (findings.TwoWorkingSets id) is = tt
placed objects (findings.Missing r) is = slot_placed objects r is.0
placed objects (findings.WrongKind r) is = value_placed objects r is.0
placed objects (findings.TooDeep chain) is = tt
placed objects (findings.MacroBytes id) is = tt
placed objects (findings.MacroCommand id at function) is =
    subst (IsInPlace objects) is.3 (is.0.bytes, any_piece objects is.0 is.1)
placed objects (findings.MacroMissing r) is = own_placed objects r is.0
placed objects (findings.MacroKind r) is = own_placed objects r is.0
placed objects (findings.MacroValue id at object attribute) is =
    value_in_place objects is.0 (macro_command is.0.bytes) (findings.MacroValue id at object attribute) refl is.1 is.3
placed objects (findings.MacroCircle path) is = tt
placed objects (findings.OverBudget id event) is = tt

pub in_place : FindingsAreInPlace
in_place are_all objects found left_out is g inside = placed objects g (all_true are_all objects found left_out is g inside)
