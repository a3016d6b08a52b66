use Rattle.std.proofs.Common.{ℕ, ◌+◌, ◌<◌, [], ◌∷◌, ◌++◌, drop, length, map, ap, sym, ◌∙◌, rules}
use Rattle.std.proofs.lemmas.List.{at_drop_more, map-append}
use Rattle.std.proofs.lemmas.Option.{get_or_from_slice_get}
use Rattle.vt_stores.specs.Stores.{seen_entry}
use Rattle.check_inspect.specs.Missing.{empty_at}
use Rattle.check_inspect.proofs.lemmas.Appends.{moved}
use Rattle.check_inspect.proofs.inclusions.put_empty.Goals as goal

pub loop-place-preserved : goal.loop-place-preserved
loop-place-preserved c =
    let keys = c.args.ids.now.keys in
    let place = c.loop-place.place in
    let id = c.index.result.now in
    let inside : place < length keys = search rules in
    moved _ (map seen_entry c.loop-place.entries.items) (empty_at id ∷ []) (map empty_at (drop (place + 1) keys)) (map seen_entry c.push.new.self.items)
    (ap (λ l. map seen_entry c.loop-place.entries.items ++ l)
    (sym (at_drop_more (map empty_at) keys place id inside
    ∙ ap (λ (k : ℕ). empty_at k ∷ map empty_at (drop (place + 1) keys)) (get_or_from_slice_get keys place id id c.index.ensures)))
    ∙ c.loop-place.invariant)
    (ap (λ (l : _). map seen_entry l) c.in_ok-push.ensures.items ∙ map-append seen_entry c.loop-place.entries.items _)
