-- The commands of a macro, one after another.
use Rattle.std.proofs.Common.{◌≡◌, ℕ, Bool, true, false, cond, List, [], ◌++◌, map, Option, Some, None, refl, sym, ap, ◌∙◌}
use Rattle.std.proofs.lemmas.List.{append-nil, map-append}
use Rattle.std.specs.Prelude.{is_some, OnOk, IfOk, Result, Ok, Err}
use Rattle.std.specs.Option.{option_to_list}
use Rattle.std.specs.List.{flat_map}
use Rattle.vt_commands.specs.declared.command.Command.{Command}
use Rattle.vt_commands.specs.declared.target.Target.{Target}
use Rattle.vt_commands.specs.Pieces.{cut}
use Rattle.vt_commands.specs.Targets.{object_of, targets}
use Rattle.vt_stores.specs.Shapes.{Shape, Fixed}
use Rattle.vt_verify.specs.Macros.{Piece, with_offsets, cut_or_none, macro_bytes_in, named_macro, pieces_of, macro_command}
use Rattle.vt_verify.specs.Targets.{of_target, kind_for}
use Rattle.check_inspect.specs.declared.finding.Spot.TheVariants as spots
use Rattle.check_inspect.specs.Findings.{if_whole}
use Rattle.check_inspect.specs.References.{at_spot, function_of, command_targets, targets_at}

-- ---- results

pub on_ok : {T E P Q : Type 0} (r : Result T E) → OnOk r P → (P → Q) → OnOk r Q
on_ok (Ok x) is step = step is
on_ok (Err e) is step = tt

pub if_ok : {T E : Type 0} {P Q : T → Type 0} (r : Result T E) → IfOk r P → ((x : T) → P x → Q x) → IfOk r Q
if_ok (Ok x) is step = step x is
if_ok (Err e) is step = tt

-- ---- macros with cut bytes have no pieces

not_whole : (bytes : List ℕ) (found : Option (List (List ℕ))) → cond (is_some found) (Some bytes) None ≡ None → found ≡ None
not_whole bytes None is = refl
not_whole bytes (Some pieces) is = absurd cc

none_cut : (bytes : List ℕ) → cut bytes ≡ None → cut_or_none bytes ≡ []
unfolding cut_or_none
none_cut bytes is = ap (λ (found : Option (List (List ℕ))). flat_map (λ pieces. pieces) (option_to_list found)) is

no_pieces_case : (id : ℕ) (found : Option (List ℕ)) → if_whole found ≡ None → flat_map pieces_of (map (λ bytes. (id, bytes)) (option_to_list found)) ≡ []
no_pieces_case id None is = refl
no_pieces_case id (Some bytes) is =
    append-nil (pieces_of (id, bytes)) ∙ ap (λ (ps : List (List ℕ)). with_offsets id 0 ps) (none_cut bytes (not_whole bytes (cut bytes) is))

pub no_pieces : (id : ℕ) (f : Fixed) → if_whole (macro_bytes_in id f) ≡ None → flat_map pieces_of (named_macro (id, f)) ≡ []
no_pieces id f is = no_pieces_case id (macro_bytes_in id f) is

whole_bytes : (bytes some : List ℕ) (b : Bool) → cond b (Some bytes) None ≡ Some some → bytes ≡ some
whole_bytes bytes some true is = cc
whole_bytes bytes some false is = absurd cc

some_pieces_case : (id : ℕ) (found : Option (List ℕ)) (bytes : List ℕ) → if_whole found ≡ Some bytes
    → flat_map pieces_of (map (λ bytes. (id, bytes)) (option_to_list found)) ≡ pieces_of (id, bytes)
some_pieces_case id None bytes is = absurd cc
some_pieces_case id (Some all) bytes is = append-nil (pieces_of (id, all)) ∙ ap (λ (b : List ℕ). pieces_of (id, b)) (whole_bytes all bytes (is_some (cut all)) is)

pub some_pieces : (id : ℕ) (f : Fixed) (bytes : List ℕ) → if_whole (macro_bytes_in id f) ≡ Some bytes → flat_map pieces_of (named_macro (id, f)) ≡ pieces_of (id, bytes)
some_pieces id f bytes is = some_pieces_case id (macro_bytes_in id f) bytes is

-- ---- the targets of a command

pub piece_targets : (shape : Shape) (p : Piece) (command : Command) (first second : List Target) → Some command ≡ macro_command p.bytes
    → targets (kind_for shape (object_of command)) command ≡ first ++ second
    → targets_at shape p
    ≡ map (λ t. at_spot (spots.Command p.at (function_of p.bytes)) (of_target p.id t)) first ++ map (λ t. at_spot (spots.Command p.at (function_of p.bytes)) (of_target p.id t)) second
piece_targets shape p command first second is are =
    ap (command_targets shape p) (sym is)
    ∙ ap (map (λ t. at_spot (spots.Command p.at (function_of p.bytes)) (of_target p.id t))) are
    ∙ map-append (λ t. at_spot (spots.Command p.at (function_of p.bytes)) (of_target p.id t)) first second

pub no_targets : (shape : Shape) (p : Piece) → macro_command p.bytes ≡ None → targets_at shape p ≡ []
no_targets shape p is = ap (command_targets shape p) is
