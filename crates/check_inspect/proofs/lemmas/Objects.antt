-- What all objects add to the findings of a rule.
use Rattle.std.proofs.Common.{◌≡◌, ℕ, Bool, cond, List, [], ◌∷◌, map, sym, ap, ◌∙◌}
use Rattle.std.specs.Prelude.{filter}
use Rattle.std.specs.List.{flat_map}
use Rattle.vt_kinds.specs.declared.object.Object.{Object}
use Rattle.vt_kinds.specs.Records.{Seen}
use Rattle.vt_stores.specs.Shapes.{Shape, Fixed, fixed, shape_of}
use Rattle.vt_stores.specs.Stores.{Objects, seen_entry}
use Rattle.vt_verify.specs.Macros.{Piece, named_macro, pieces_of, pieces, is_whole, is_allowed, macro_command}
use Rattle.vt_verify.specs.Orders.{named_macros}
use Rattle.vt_verify.specs.Targets.{has_attribute}
use Rattle.vt_verify.specs.Triggers.{run_by_name}
use Rattle.vt_verify.proofs.lemmas.graphs.SameTriggers.{same_lists}
use Rattle.vt_verify.proofs.lemmas.rules.FirstFailure.{over_objects, each_of_each}
use Rattle.check_reading.proofs.lemmas.Entries.{over_entries}
use Rattle.check_inspect.specs.declared.finding.Finding.{Finding}
use Rattle.check_inspect.specs.declared.finding.Finding.TheVariants as findings
use Rattle.check_inspect.specs.declared.macros.CommandRule.{CommandRule}
use Rattle.check_inspect.specs.declared.macros.CommandRule.TheVariants.{IsAllowed, HasAttribute}
use Rattle.check_inspect.specs.Lists.{all_failing}
use Rattle.check_inspect.specs.References.{function_of}
use Rattle.check_inspect.specs.Findings.{piece_findings, value_finding, command_rule_findings, cut_findings}
use Rattle.check_inspect.proofs.lemmas.Appends.{all_failing-flat_map, map-all_failing, flat_map-all_failing, map-filter}

module _ {B : Type 0} (items : List (ℕ × Object B)) (objects : Objects) (is : map seen_entry items ≡ objects) where
  -- what fails of all objects
  pub failing_over : {A : Type 0} (test : A → Bool) (list : ℕ × Seen → List A)
      → flat_map (λ e. all_failing test (list (seen_entry e))) items ≡ all_failing test (flat_map list objects)
  failing_over test list = over_entries items objects is (λ o. all_failing test (list o)) ∙ sym (all_failing-flat_map test list objects)

  pub over_shape : {A : Type 0} (adds : ℕ × Fixed → List A) → flat_map (λ e. adds ((seen_entry e).0, fixed (seen_entry e).1)) items ≡ flat_map adds (shape_of objects)
  over_shape adds = over_entries items objects is (λ o. adds (o.0, fixed o.1)) ∙ sym (over_objects adds objects)

  pub failing_in_shape : {A : Type 0} (test : A → Bool) (list : ℕ × Fixed → List A)
      → flat_map (λ e. all_failing test (list ((seen_entry e).0, fixed (seen_entry e).1))) items ≡ all_failing test (flat_map list (shape_of objects))
  failing_in_shape test list = over_shape (λ o. all_failing test (list o)) ∙ sym (all_failing-flat_map test list (shape_of objects))

-- ---- the findings of macros

-- what each list adds, of a list of lists
gathered : {X A B : Type 0} (list : X → List A) (adds : A → List B) (made : List A → List B) → ((xs : List A) → made xs ≡ flat_map adds xs) → (xs : List X)
    → flat_map (λ x. made (list x)) xs ≡ made (flat_map list xs)
gathered list adds made is xs =
    same_lists (λ x. made (list x)) (λ x. flat_map adds (list x)) xs (λ x. is (list x))
    ∙ sym (each_of_each adds list xs) ∙ sym (is (flat_map list xs))

pub cut_total : (shape : Shape) → flat_map (λ e. map (λ m. findings.MacroBytes m.0) (all_failing is_whole (named_macro e))) shape ≡ cut_findings shape
cut_total shape =
    gathered named_macro (λ m. cond (is_whole m) [] (findings.MacroBytes m.0 ∷ [])) (λ ms. map (λ m. findings.MacroBytes m.0) (all_failing is_whole ms))
    (map-all_failing is_whole (λ m. findings.MacroBytes m.0)) shape

rule_case : (rule : CommandRule) (shape : Shape) → flat_map (piece_findings rule shape) (pieces shape) ≡ command_rule_findings rule shape
rule_case IsAllowed shape = sym (map-all_failing is_allowed (λ (p : Piece). findings.MacroCommand p.id p.at (function_of p.bytes)) (pieces shape))
rule_case HasAttribute shape = sym (flat_map-all_failing (has_attribute shape) (λ (p : Piece). value_finding p (macro_command p.bytes)) (pieces shape))

pub commands_total : (rule : CommandRule) (shape : Shape)
    → flat_map (λ e. flat_map (piece_findings rule shape) (flat_map pieces_of (named_macro e))) shape ≡ command_rule_findings rule shape
commands_total rule shape =
    sym (each_of_each (piece_findings rule shape) (λ (e : ℕ × Fixed). flat_map pieces_of (named_macro e)) shape)
    ∙ ap (flat_map (piece_findings rule shape)) (sym (each_of_each pieces_of named_macro shape))
    ∙ rule_case rule shape

pub macros_total : (test : ℕ → Bool) (made : ℕ → Finding) (shape : Shape)
    → flat_map (λ e. map made (filter test (run_by_name e.0 e.1))) shape ≡ map made (filter test (named_macros shape))
macros_total test made shape =
    gathered (λ (e : ℕ × Fixed). run_by_name e.0 e.1) (λ m. cond (test m) (made m ∷ []) []) (λ ms. map made (filter test ms)) (map-filter test made) shape
