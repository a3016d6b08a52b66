use Rattle.std.proofs.Common.{◌<◌, ◌≤◌, ◌≡◌, ℕ, List, [], length, get_or, Option, Some, sym, ap, ◌∙◌, rules}
use Rattle.std.proofs.lemmas.List.{append-nil}
use Rattle.std.specs.Option.{option_to_list}
use Rattle.std.specs.List.{flat_map}
use Rattle.vt_rank.specs.Graphs.{lists}
use Rattle.vt_rank.proofs.Entries.{get_or-lists, get_or-lists_past}
use Rattle.vt_verify.specs.Triggers.{listing}
use Rattle.vt_verify.specs.TriggerGraphs.{Groups, group_of_event, macros_of_event}
use Rattle.vt_verify.proofs.lemmas.graphs.EventGroups.{group_is}
use Rattle.vt_verify.proofs.listing.Listings.at.Goals as goal

of_group : (groups : List (List ℕ)) (found : Option ℕ) (k : ℕ) → found ≡ Some k
    → get_or groups k [] ≡ flat_map (λ k. get_or groups k []) (option_to_list found)
of_group groups found k is =
    sym (append-nil (get_or groups k [])) ∙ ap (λ (found : Option ℕ). flat_map (λ k. get_or groups k []) (option_to_list found)) (sym is)

pub returns-in-Some-get : goal.returns-in-Some-get
returns-in-Some-get c =
    let events = c.self.inside.events.keys in
    let groups = c.self.inside.groups in
    let q = listing c.args.id c.args.event in
    let v = c.in-Some-get.macros.now in
    let is : v ≡ get_or groups.items c.in-Some.place v = search rules in
    let inside : c.in-Some.place < length groups.items = search rules in
    c.as_slice.ensures.value ∙ get_or-lists groups c.in-Some.place v inside is
    ∙ of_group (lists groups) (group_of_event events q) c.in-Some.place (sym (group_is events q) ∙ sym c.get_index_of.ensures.index ∙ c.in-Some.is)
    ∙ ap (λ (groups : Groups). macros_of_event groups q) c.self.view_is

pub returns-in-None-get : goal.returns-in-None-get
returns-in-None-get c =
    let events = c.self.inside.events.keys in
    let groups = c.self.inside.groups in
    let q = listing c.args.id c.args.event in
    let past : length groups.items ≤ c.in-Some.place = search rules in
    sym (get_or-lists_past groups c.in-Some.place past)
    ∙ of_group (lists groups) (group_of_event events q) c.in-Some.place (sym (group_is events q) ∙ sym c.get_index_of.ensures.index ∙ c.in-Some.is)
    ∙ ap (λ (groups : Groups). macros_of_event groups q) c.self.view_is

pub returns-in-None : goal.returns-in-None
returns-in-None c =
    let events = c.self.inside.events.keys in
    let groups = lists c.self.inside.groups in
    let q = listing c.args.id c.args.event in
    ap (λ (found : Option ℕ). flat_map (λ k. get_or groups k []) (option_to_list found))
    (sym (sym (group_is events q) ∙ sym c.get_index_of.ensures.index ∙ c.in-None.is))
    ∙ ap (λ (groups : Groups). macros_of_event groups q) c.self.view_is
