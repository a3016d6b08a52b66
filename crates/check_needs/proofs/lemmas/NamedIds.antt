-- Sets of IDs, and lists that are put into them.
use Rattle.std.proofs.Common.{◌≡◌, ℕ, Bool, true, false, ◌||◌, List, [], ◌∷◌, ◌++◌, map, Option, Some, None, refl, sym, ap, ◌∙◌, append-nil}
use Rattle.std.proofs.Math.Bool.{or_assoc}
use Rattle.std.proofs.lemmas.List.Folds.{list_any-append}
use Rattle.std.proofs.lemmas.List.{map-append}
use Rattle.std.specs.List.{flat_map}
use Rattle.std.specs.Option.{option_to_list}
use Rattle.vt_commands.specs.declared.command.Command.{Command}
use Rattle.vt_commands.specs.declared.target.Target.{Target}
use Rattle.vt_commands.specs.Targets.{targets, object_of}
use Rattle.vt_stores.specs.Shapes.{Shape, Fixed}
use Rattle.vt_verify.specs.Macros.{commands_of, commands_in, cut_or_none, macro_command, macro_bytes_in}
use Rattle.vt_commands.specs.Pieces.{cut}
use Rattle.std.specs.Prelude.{is_some}
use Rattle.vt_verify.specs.declared.reference.Reference.{Reference}
use Rattle.vt_verify.specs.Targets.{of_target, target_references, kind_for}
use Rattle.check_needs.specs.Naming.{is_among}

pub or_none : (b : Bool) → (b || false) ≡ b
or_none true = refl
or_none false = refl

-- a set with one list and then another has both
pub joined : (old new : Bool) (id : ℕ) (xs ys : List ℕ) → new ≡ (old || is_among id xs) → (old || is_among id (xs ++ ys)) ≡ (new || is_among id ys)
joined old new id xs ys e =
    ap (λ (b : Bool). old || b) (list_any-append _ xs ys)
    ∙ sym (or_assoc old (is_among id xs) (is_among id ys))
    ∙ ap (λ (b : Bool). b || is_among id ys) (sym e)

no_pieces : (found : Option (List (List ℕ))) → is_some found ≡ false
    → flat_map (λ piece. option_to_list (macro_command piece)) (flat_map (λ pieces. pieces) (option_to_list found)) ≡ []
no_pieces None short = refl
no_pieces (Some pieces) short = absurd cc

ids_of_targets : (m : ℕ) (ts : List Target) → map (λ r. r.id) (map (of_target m) ts) ≡ map (λ t. t.id) ts
ids_of_targets m [] = refl
ids_of_targets m (t ∷ ts) = ap (λ (ids : List ℕ). t.id ∷ ids) (ids_of_targets m ts)

-- the IDs of one command are those of its targets
pub ids_of_command : (shape : Shape) (m : ℕ) (command : Command) (first second : List Target)
    → targets (kind_for shape (object_of command)) command ≡ first ++ second
    → map (λ r. r.id) (flat_map (target_references shape m) (command ∷ [])) ≡ map (λ t. t.id) first ++ map (λ t. t.id) second
ids_of_command shape m command first second is =
    ap (λ (rs : List Reference). map (λ r. r.id) rs) (append-nil (target_references shape m command))
    ∙ ids_of_targets m _
    ∙ ap (λ (ts : List Target). map (λ t. t.id) ts) is
    ∙ map-append (λ t. t.id) first second

-- bytes that are no whole commands have no commands
pub cut_short : (bytes : List ℕ) → is_some (cut bytes) ≡ false → commands_of bytes ≡ []
unfolding commands_of cut_or_none
cut_short bytes short = no_pieces (cut bytes) short

-- the commands of an object are those of its bytes
pub commands_in_bytes : (id : ℕ) (f : Fixed) (bytes : List ℕ) → macro_bytes_in id f ≡ Some bytes → commands_in id f ≡ commands_of bytes
commands_in_bytes id f bytes is = ap (λ (b : Option (List ℕ)). flat_map commands_of (option_to_list b)) is ∙ append-nil (commands_of bytes)
