use Rattle.std.proofs.Common.{◌≡◌, ℕ, ◌<◌, ◌&&◌, not, ◌++◌, [], ◌∷◌, Bool, List, Vec, cond, length, map, ap, sym, ◌∙◌, rules}
use Rattle.std.proofs.lemmas.List.{append-nil}
use Rattle.std.proofs.lemmas.Option.{get_or_from_slice_get}
use Rattle.std.specs.Prelude.{filter, nat_lt, slice_index, sum_by}
use Rattle.std.specs.List.{list_any}
use Rattle.vt_chains.specs.Limits.{terminal}
use Rattle.vt_stores.specs.Shapes.{shape_of}
use Rattle.vt_verify.specs.declared.listing.Listing.{Listing}
use Rattle.check_inspect.specs.declared.finding.Finding.{Finding}
use Rattle.check_inspect.specs.Costs.{event_finding, event_costs_too_much}
use Rattle.check_inspect.proofs.lemmas.Appends.{map-filter, put_next}
use Rattle.check_inspect.proofs.lemmas.OverBudget.{event_test}
use Rattle.check_inspect.proofs.triggers.put_events_over.Goals as goal
use Rattle.check_inspect.proofs.triggers.put_events_over.Goals.{then-is_over+in_ok-push, else-is_over}

pub loop-group-init : goal.loop-group-init
loop-group-init c =
    let test = event_costs_too_much (shape_of c.args.objects.now) in
    ap (λ (l : List Finding). c.args.findings.now.items ++ l)
    (sym (map-filter test event_finding c.args.triggers.now.events.keys)
    ∙ ap (λ (es : List Listing). map event_finding (filter test es)) c.requires.triggers.events_are)

pub loop-group-preserved : goal.loop-group-preserved
loop-group-preserved c =
    let shape = shape_of c.args.objects.now in
    let events = c.args.triggers.now.events.keys in
    let e = c.index-listing.result.now in
    let test = event_costs_too_much shape in
    let adds : Listing → List Finding = λ e. cond (test e) (event_finding e ∷ []) [] in
    let inside : c.loop-group.group < length events = search rules in
    let here = sym (get_or_from_slice_get events c.loop-group.group e e c.index-listing.ensures) in
    let same : c.is_over.result ≡ test e =
    c.is_over.ensures
    ∙ ap (λ (ms : List ℕ). nat_lt terminal.steps (sum_by (slice_index c.args.costs.now) ms) && not (list_any (λ m. nat_lt terminal.steps (slice_index c.args.costs.now m)) ms)) c.group.ensures
    ∙ event_test shape events c.args.triggers.now.graph c.requires.triggers c.args.costs.now c.requires.costs c.loop-group.group e inside here in
    let step = put_next adds _ c.loop-group.findings.items c.if-is_over.findings.items events c.loop-group.group e inside here c.loop-group.invariant in
    elim c.if-is_over.branch [
      | then-is_over+in_ok-push w ↦ step (ap (λ (v : Vec Finding _). v.items) w.findings-is ∙ w.in_ok-push.ensures.items
          ∙ ap (λ (b : Bool). c.loop-group.findings.items ++ cond b (event_finding e ∷ []) []) (sym w.if-is_over.true ∙ same))
      | else-is_over w ↦ step (ap (λ (v : Vec Finding _). v.items) w.findings-is ∙ sym (append-nil c.loop-group.findings.items)
          ∙ ap (λ (b : Bool). c.loop-group.findings.items ++ cond b (event_finding e ∷ []) []) (sym w.if-is_over.false ∙ same))
    ]
