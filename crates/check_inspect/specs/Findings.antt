-- The findings of each rule: all culprits, in the order of the tests (docs/PROFILE.md, "Verification of a pool").
use Rattle.std.specs.Prelude.{◌≡◌, ℕ, Bool, if◌then◌else◌, List, [], ◌∷◌, ◌++◌, filter, map, Option, Some, None, is_some}
use Rattle.std.specs.List.{flat_map}
use Rattle.vt_commands.specs.declared.command.Command.{Command}
use Rattle.vt_commands.specs.declared.command.Command.TheVariants.{ChangeAttribute}
use Rattle.vt_commands.specs.Pieces.{cut}
use Rattle.vt_rank.specs.declared.circle.Circle.{Circle}
use Rattle.vt_rank.specs.Paths.{HasNoCircle}
use Rattle.check_circles.specs.Circles.{AreCircles}
use Rattle.vt_chains.specs.Inclusions.{included, IsShallow, IsTooDeep}
use Rattle.vt_chains.specs.Limits.{terminal}
use Rattle.vt_stores.specs.Shapes.{Shape, shape_of}
use Rattle.vt_stores.specs.Stores.{Objects}
use Rattle.vt_verify.specs.declared.reference.Test.TheVariants.{IsThere, Fits}
use Rattle.vt_verify.specs.Macros.{Piece, macros, is_whole, pieces, is_allowed, macro_command}
use Rattle.vt_verify.specs.Rules.{is_working_set}
use Rattle.vt_verify.specs.Targets.{has_attribute, command_has_attribute}
use Rattle.vt_verify.specs.Triggers.{triggered}
use Rattle.check_inspect.specs.declared.finding.Finding.{Finding}
use Rattle.check_inspect.specs.declared.finding.Finding.TheVariants as findings
use Rattle.check_inspect.specs.declared.finding.ReferenceAt.{ReferenceAt}
use Rattle.check_inspect.specs.declared.rules.ReferenceRule.{ReferenceRule}
use Rattle.check_inspect.specs.declared.rules.ReferenceRule.TheVariants as rules
use Rattle.check_inspect.specs.declared.inspection.Note.{Note}
use Rattle.check_inspect.specs.declared.inspection.Note.TheVariants as notes
use Rattle.check_inspect.specs.declared.macros.CommandRule.{CommandRule}
use Rattle.check_inspect.specs.declared.macros.CommandRule.TheVariants.{IsAllowed, HasAttribute}
use Rattle.check_inspect.specs.Lists.{all_failing}
use Rattle.check_inspect.specs.References.{missing_at, wrong_kinds_at, failing_targets_at, function_of}
use Rattle.check_inspect.specs.Costs.{over_findings}

-- ---- rules 1 and 2

abbrev pub working_set_ids : Shape → List ℕ
working_set_ids shape = map (λ e. e.0) (filter (λ e. is_working_set e.1.kind) shape)

-- each working set but the first; none at all is a finding if all bytes were read
abbrev pub set_findings : Bool → List ℕ → List Finding
set_findings are_all [] = if are_all then findings.NoWorkingSet ∷ [] else []
set_findings are_all (first ∷ others) = map findings.TwoWorkingSets others

-- ---- rule 5

-- a chain with one inclusion too many, if there is one
abbrev pub IsDeepest : (ℕ → List ℕ) → List Finding → Type 0
IsDeepest included [] = IsShallow terminal.inclusions included
IsDeepest included (findings.TooDeep chain ∷ []) = IsTooDeep terminal.inclusions included chain.items
IsDeepest included others = ⊥

-- ---- rules 6, 7 and 10

abbrev pub cut_findings : Shape → List Finding
cut_findings shape = map (λ m. findings.MacroBytes m.0) (all_failing is_whole (macros shape))

abbrev pub command_findings : Shape → List Finding
command_findings shape = map (λ p. findings.MacroCommand p.id p.at (function_of p.bytes)) (all_failing is_allowed (pieces shape))

abbrev pub value_finding : Piece → Option Command → List Finding
value_finding piece (Some (ChangeAttribute object number value)) = findings.MacroValue piece.id piece.at object number ∷ []
value_finding piece command = []

abbrev pub value_findings : Shape → List Finding
value_findings shape = flat_map (λ p. value_finding p (macro_command p.bytes)) (all_failing (has_attribute shape) (pieces shape))

-- the findings of one macro command, and of all, by the rule that it breaks
abbrev pub piece_findings : CommandRule → Shape → Piece → List Finding
piece_findings IsAllowed shape p = if is_allowed p then [] else findings.MacroCommand p.id p.at (function_of p.bytes) ∷ []
piece_findings HasAttribute shape p = if has_attribute shape p then [] else value_finding p (macro_command p.bytes)

abbrev pub command_rule_findings : CommandRule → Shape → List Finding
command_rule_findings IsAllowed shape = command_findings shape
command_rule_findings HasAttribute shape = value_findings shape

abbrev pub attribute_findings : Shape → Piece → Command → List Finding
attribute_findings shape p command = if command_has_attribute shape (Some command) then [] else value_finding p (Some command)

abbrev pub if_whole : Option (List ℕ) → Option (List ℕ)
if_whole None = None
if_whole (Some bytes) = if is_some (cut bytes) then Some bytes else None

-- ---- rules 11 and 12

abbrev pub circle_finding : Circle → Finding
circle_finding circle = findings.MacroCircle circle.path

-- Without known triggers nothing is found, without known costs circles alone.
pub data AreOfTriggers (shape : Shape) (found : List Finding) (left_out : List Note) : Type 0 where
  Cut : (cut_findings shape ≡ [] → ⊥) → found ≡ [] → left_out ≡ notes.UnknownTriggers ∷ [] → AreOfTriggers shape found left_out
  Circles : cut_findings shape ≡ [] → (HasNoCircle (triggered shape) → ⊥) → (circles : List Circle) → AreCircles (triggered shape) circles
      → found ≡ map circle_finding circles → left_out ≡ notes.UnknownCosts ∷ [] → AreOfTriggers shape found left_out
  Costs : cut_findings shape ≡ [] → HasNoCircle (triggered shape) → found ≡ over_findings shape → left_out ≡ [] → AreOfTriggers shape found left_out

-- ---- all rules

abbrev pub if_all : Bool → List Finding → List Finding
if_all are_all found = if are_all then found else []

-- The findings of rules 1 to 4, which do not depend on a choice; nothing is called missing unless all bytes were read.
abbrev pub slot_findings : Bool → Objects → List Finding
slot_findings are_all objects =
    set_findings are_all (working_set_ids (shape_of objects))
    ++ if_all are_all (map findings.Missing (missing_at objects))
    ++ map findings.WrongKind (wrong_kinds_at objects)

-- The findings of rules 8 and 9.
abbrev pub target_findings : Bool → Shape → List Finding
target_findings are_all shape =
    if_all are_all (map findings.MacroMissing (failing_targets_at IsThere shape)) ++ map findings.MacroKind (failing_targets_at Fits shape)

-- The findings of rules 6 to 10.
abbrev pub macro_findings : Bool → Shape → List Finding
macro_findings are_all shape = cut_findings shape ++ command_findings shape ++ target_findings are_all shape ++ value_findings shape

-- The findings of all rules, and what was not judged. The chain of rule 5 and the circles of rule 11 are some.
pub record AreFindings (are_all : Bool) (objects : Objects) (found : List Finding) (left_out : List Note) : Type 0 where
  pub chains : List Finding
  pub triggers : List Finding
  pub are : found ≡ slot_findings are_all objects ++ chains ++ macro_findings are_all (shape_of objects) ++ triggers
  pub deepest : IsDeepest (included objects) chains
  pub of_triggers : AreOfTriggers (shape_of objects) triggers left_out

-- the circles of macros are appended
abbrev pub PutsCircles : (ℕ → List ℕ) → List Finding → List Finding → Type 0
PutsCircles triggered old new = (circles : List Circle) × AreCircles triggered circles × (new ≡ old ++ map circle_finding circles)

-- the findings of the triggers are appended, and what was not judged
pub record PutsTriggers (shape : Shape) (old new : List Finding) (before after : List Note) : Type 0 where
  pub found : List Finding
  pub left_out : List Note
  pub findings_are : new ≡ old ++ found
  pub notes_are : after ≡ before ++ left_out
  pub are : AreOfTriggers shape found left_out

-- the findings of all rules are appended, and what was not judged
pub record PutsFindings (are_all : Bool) (objects : Objects) (old new : List Finding) (before after : List Note) : Type 0 where
  pub found : List Finding
  pub left_out : List Note
  pub findings_are : new ≡ old ++ found
  pub notes_are : after ≡ before ++ left_out
  pub are : AreFindings are_all objects found left_out

-- the chain of rule 5 is appended
pub record PutsChain (objects : Objects) (old new : List Finding) : Type 0 where
  pub chains : List Finding
  pub deepest : IsDeepest (included objects) chains
  pub are : new ≡ old ++ chains

-- the findings of rules 1 to 5 are appended
pub record PutsSlots (are_all : Bool) (objects : Objects) (old new : List Finding) : Type 0 where
  pub chains : List Finding
  pub deepest : IsDeepest (included objects) chains
  pub are : new ≡ old ++ (slot_findings are_all objects ++ chains)

-- the rules of references
abbrev pub reference_finding : ReferenceRule → ReferenceAt → Finding
reference_finding rules.Missing r = findings.Missing r
reference_finding rules.WrongKind r = findings.WrongKind r
reference_finding rules.MacroMissing r = findings.MacroMissing r
reference_finding rules.MacroKind r = findings.MacroKind r
