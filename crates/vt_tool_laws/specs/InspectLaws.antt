-- What an inspection finds, beside what `read_pool` and `verify` answer (docs/PROFILE.md, "Pools and faults", "Verification
-- of a pool").
use Rattle.std.specs.Prelude.{◌≡◌, ◌↔◌, ◌<◌, List, ℕ, Bool, true, false, [], ◌∷◌, drop, reverse, Contains, Option, Some, None}
use Rattle.std.specs.List.{flat_map}
use Rattle.vt_chains.specs.Inclusions.{included, IsShallow, IsTooDeep}
use Rattle.vt_chains.specs.Limits.{terminal}
use Rattle.vt_rank.specs.Paths.{IsCircle, IsDistinct}
use Rattle.vt_records.specs.declared.fault.PoolFault.{PoolFault}
use Rattle.vt_pool.specs.Pools.{PoolEntry, AreRecords, joined, IsInForce, IsFault, IsWantOfMemory}
use Rattle.vt_stores.specs.Shapes.{shape_of}
use Rattle.vt_stores.specs.Stores.{Objects, by_rising_id}
use Rattle.vt_verify.specs.Budgets.{cost, budget}
use Rattle.vt_verify.specs.Macros.{Piece, macros, is_whole, pieces, is_allowed, macro_command}
use Rattle.vt_verify.specs.References.{is_there, fits}
use Rattle.vt_verify.specs.declared.refusal.Refusal.{Refusal}
use Rattle.vt_verify.specs.declared.refusal.Refusal.TheVariants as refusals
use Rattle.vt_verify.specs.Rules.{working_sets, IsAcceptable, IsRefused, SaysTheSame}
use Rattle.vt_verify.specs.Rules as rules
use Rattle.vt_verify.specs.Targets.{has_attribute}
use Rattle.vt_verify.specs.declared.listing.Listing.{Listing}
use Rattle.vt_verify.specs.TriggerGraphs.{listed_events}
use Rattle.vt_verify.specs.Triggers.{triggered}
use Rattle.check_inspect.specs.Costs.{event_costs_too_much}
use Rattle.check_inspect.specs.declared.inspection.Note.TheVariants as notes
use Rattle.check_inspect.specs.declared.finding.Finding.{Finding}
use Rattle.check_inspect.specs.declared.finding.Finding.TheVariants as findings
use Rattle.check_inspect.specs.declared.inspection.Inspection.{Inspection}
use Rattle.check_inspect.specs.declared.finding.ReferenceAt.{ReferenceAt}
use Rattle.check_inspect.specs.declared.inspection.Note.{Note}
use Rattle.check_inspect.specs.Findings.{working_set_ids, value_finding, IsDeepest, AreFindings}
use Rattle.check_inspect.specs.Inspections.{IsInspection}
use Rattle.check_inspect.specs.References.{function_of, slots_at, slot_values_at, own_references_at}

-- The bytes are whole records, and the objects of the last records of each ID meet all rules of this terminal.
pub record IsAcceptablePool (bytes : List ℕ) : Type 0 where
  pub records : List PoolEntry
  pub whole : AreRecords records
  pub parts : bytes ≡ joined records
  pub acceptable : IsAcceptable terminal (by_rising_id (reverse records))

-- Nothing is found exactly if the pool is acceptable.
abbrev pub FindsNothing : Type 0
FindsNothing = (bytes : List ℕ) (i : Inspection) → IsInspection bytes i → (i.findings.items ≡ []) ↔ IsAcceptablePool bytes

-- The objects of the last records are those of the pool that `read_pool` reads.
abbrev pub LastRecordsCount : Type 0
LastRecordsCount = (records pool : List PoolEntry) → IsInForce records pool → by_rising_id pool ≡ by_rising_id (reverse records)

-- If `read_pool` may return a fault, the first finding is a fault that it may return.
abbrev pub FirstIsTheFault : Type 0
FirstIsTheFault = (bytes : List ℕ) (i : Inspection) (fault : PoolFault) → IsInspection bytes i → IsFault bytes fault → (IsWantOfMemory fault → ⊥)
    → (first : PoolFault) × (others : List Finding) × (i.findings.items ≡ findings.Record first ∷ others) × IsFault bytes first

-- the refusal that says the same as a finding of a rule
abbrev pub refusal_of : Finding → Option Refusal
refusal_of (findings.Record fault) = None
refusal_of findings.NoWorkingSet = Some refusals.NoWorkingSet
refusal_of (findings.TwoWorkingSets id) = Some refusals.TwoWorkingSets
refusal_of (findings.Missing r) = Some (refusals.Missing r.reference.parent r.reference.id)
refusal_of (findings.WrongKind r) = Some (refusals.WrongKind r.reference.parent r.reference.id)
refusal_of (findings.TooDeep chain) = Some (refusals.TooDeep chain)
refusal_of (findings.MacroBytes id) = Some (refusals.MacroBytes id)
refusal_of (findings.MacroCommand id at function) = Some (refusals.MacroCommand id at)
refusal_of (findings.MacroMissing r) = Some (refusals.MacroMissing r.reference.parent r.reference.id)
refusal_of (findings.MacroKind r) = Some (refusals.MacroKind r.reference.parent r.reference.id)
refusal_of (findings.MacroValue id at object attribute) = Some (refusals.MacroValue id at)
refusal_of (findings.MacroCircle path) = Some (refusals.MacroCircle path)
refusal_of (findings.OverBudget id event) = Some (refusals.OverBudget id)

-- If `verify` refuses the pool by a rule, the first finding says the same.
abbrev pub FirstIsTheRefusal : Type 0
FirstIsTheRefusal = (bytes : List ℕ) (i : Inspection) (records : List PoolEntry) (refusal : Refusal) → IsInspection bytes i → AreRecords records
    → bytes ≡ joined records → IsRefused terminal (by_rising_id (reverse records)) refusal → (rules.IsWantOfMemory refusal → ⊥)
    → (first : Finding) × (others : List Finding) × (i.findings.items ≡ first ∷ others)
    × ((same : Refusal) × (refusal_of first ≡ Some same) × SaysTheSame refusal same)

-- ---- findings and culprits

-- The finding is true: the test of its rule fails for its culprit. Of the working sets, the first is none. Faults of
-- records have a law of their own.
abbrev pub IsCulprit : Objects → Finding → Type 0
IsCulprit objects (findings.Record fault) = ⊥
IsCulprit objects findings.NoWorkingSet = working_sets (shape_of objects) ≡ 0
IsCulprit objects (findings.TwoWorkingSets id) = Contains (drop 1 (working_set_ids (shape_of objects))) id
IsCulprit objects (findings.Missing r) = Contains (flat_map slots_at objects) r × (is_there (shape_of objects) r.reference ≡ false)
IsCulprit objects (findings.WrongKind r) = Contains (flat_map (slot_values_at objects) objects) r × (fits (shape_of objects) r.reference ≡ false)
IsCulprit objects (findings.TooDeep chain) = IsTooDeep terminal.inclusions (included objects) chain.items
IsCulprit objects (findings.MacroBytes id) = (m : ℕ × List ℕ) × Contains (macros (shape_of objects)) m × (is_whole m ≡ false) × (m.0 ≡ id)
IsCulprit objects (findings.MacroCommand id at function) =
    (p : Piece) × Contains (pieces (shape_of objects)) p × (is_allowed p ≡ false) × (findings.MacroCommand p.id p.at (function_of p.bytes) ≡ findings.MacroCommand id at function)
IsCulprit objects (findings.MacroMissing r) =
    Contains (flat_map (own_references_at (shape_of objects)) (shape_of objects)) r × (is_there (shape_of objects) r.reference ≡ false)
IsCulprit objects (findings.MacroKind r) =
    Contains (flat_map (own_references_at (shape_of objects)) (shape_of objects)) r × (fits (shape_of objects) r.reference ≡ false)
IsCulprit objects (findings.MacroValue id at object attribute) =
    (p : Piece) × Contains (pieces (shape_of objects)) p × (has_attribute (shape_of objects) p ≡ false)
    × Contains (value_finding p (macro_command p.bytes)) (findings.MacroValue id at object attribute)
IsCulprit objects (findings.MacroCircle path) = IsCircle (triggered (shape_of objects)) path.items × IsDistinct path.items
IsCulprit objects (findings.OverBudget id None) = terminal.steps < cost (shape_of objects) id
IsCulprit objects (findings.OverBudget id (Some event)) = terminal.steps < budget (shape_of objects) id event

-- Every finding of a rule is true.
abbrev pub FindingsAreTrue : Type 0
FindingsAreTrue = (are_all : Bool) (objects : Objects) (found : List Finding) (left_out : List Note) → AreFindings are_all objects found left_out
    → (finding : Finding) → Contains found finding → IsCulprit objects finding

-- ---- none is left out

-- the finding is a circle with one of these macros
abbrev pub SharesMacro : List ℕ → Finding → Type 0
SharesMacro path (findings.MacroCircle circle) = (m : ℕ) × Contains path m × Contains circle.items m
SharesMacro path finding = ⊥

-- Each culprit of a rule that was judged is found. Some chain and some circles stand for all.
pub record NoneIsLeftOut (are_all : Bool) (objects : Objects) (found : List Finding) (left_out : List Note) : Type 0 where
  pub no_set : are_all ≡ true → working_sets (shape_of objects) ≡ 0 → Contains found findings.NoWorkingSet
  pub two_sets : (first : ℕ) (others : List ℕ) (id : ℕ) → working_set_ids (shape_of objects) ≡ first ∷ others → Contains others id
      → Contains found (findings.TwoWorkingSets id)
  pub missing : (r : ReferenceAt) → are_all ≡ true → IsCulprit objects (findings.Missing r) → Contains found (findings.Missing r)
  pub wrong_kind : (r : ReferenceAt) → IsCulprit objects (findings.WrongKind r) → Contains found (findings.WrongKind r)
  pub chain : (IsShallow terminal.inclusions (included objects) → ⊥) → (f : Finding) × Contains found f × IsDeepest (included objects) (f ∷ [])
  pub cut : (id : ℕ) → IsCulprit objects (findings.MacroBytes id) → Contains found (findings.MacroBytes id)
  pub command : (id at function : ℕ) → IsCulprit objects (findings.MacroCommand id at function) → Contains found (findings.MacroCommand id at function)
  pub macro_missing : (r : ReferenceAt) → are_all ≡ true → IsCulprit objects (findings.MacroMissing r) → Contains found (findings.MacroMissing r)
  pub macro_kind : (r : ReferenceAt) → IsCulprit objects (findings.MacroKind r) → Contains found (findings.MacroKind r)
  pub value : (id at object attribute : ℕ) → IsCulprit objects (findings.MacroValue id at object attribute) → Contains found (findings.MacroValue id at object attribute)
  -- every circle shares a macro with a circle that is found
  pub circle : (path : List ℕ) → left_out ≡ notes.UnknownCosts ∷ [] → IsCircle (triggered (shape_of objects)) path
      → (f : Finding) × Contains found f × SharesMacro path f
  pub over : (id : ℕ) → left_out ≡ [] → terminal.steps < cost (shape_of objects) id → Contains found (findings.OverBudget id None)
  -- an event that can cost too many steps, without a macro that can alone
  pub event_over : (e : Listing) → left_out ≡ [] → Contains (listed_events (shape_of objects)) e → event_costs_too_much (shape_of objects) e ≡ true
      → Contains found (findings.OverBudget e.id (Some e.event))

abbrev pub NoCulpritIsLeftOut : Type 0
NoCulpritIsLeftOut = (are_all : Bool) (objects : Objects) (found : List Finding) (left_out : List Note) → AreFindings are_all objects found left_out
    → NoneIsLeftOut are_all objects found left_out
