-- A store after an object has been replaced by the result of a command.
use Rattle.std.proofs.Common.{◌≡◌, ℕ, Option, Some, Result, Ok, Err, refl, sym, ap, subst, ◌∙◌}
use Rattle.std.specs.FinMap as finite
use Rattle.vt_kinds.specs.declared.kind.Kind.{Kind}
use Rattle.vt_commands.specs.declared.command.Command.{Command}
use Rattle.vt_kinds.specs.Records.{Seen}
use Rattle.vt_stores.specs.Stores.{ObjectMap, replaced, with_object}
use Rattle.vt_effects.specs.Changes.{left, changed, HasResult}
use Rattle.vt_effects.specs.Effects.{insert_ok, changed_at, changed_in}
use Rattle.vt_effects.proofs.lemmas.stores.OneChangedObject.{put_back}

settled : (m : ObjectMap) (id : ℕ) (old : Seen) (made : Result Seen ℕ) → finite.get m id ≡ Some old → finite.insert m id (left old made) ≡ left m (insert_ok m id made)
settled m id old (Ok o) at = refl
settled m id old (Err error) at = put_back m m id old at (λ q other. refl)

pub put_left : (m after : ObjectMap) (id : ℕ) (command : Command) (kind_of_other : Option Kind) (old new : Seen) → Some old ≡ finite.get m id
    → after ≡ with_object m id new → new ≡ left old (changed command kind_of_other old) → after ≡ left m (changed_in m id command kind_of_other)
put_left m after id command kind_of_other old new at wrote is =
    wrote ∙ ap (λ (f : Option Seen). replaced f m id new) (sym at) ∙ ap (finite.insert m id) is
    ∙ settled m id old (changed command kind_of_other old) (sym at)
    ∙ ap (λ (f : Option Seen). left m (changed_at m id command kind_of_other f)) at

answers_put : (r : Result (Unit {0}) ℕ) (m : ObjectMap) (id : ℕ) (made : Result Seen ℕ) → HasResult r made → HasResult r (insert_ok m id made)
answers_put (Ok done) m id (Ok o) is = tt
answers_put (Err error) m id (Err other) is = is
answers_put (Ok done) m id (Err other) is = is
answers_put (Err error) m id (Ok o) is = is

pub put_answers : (r : Result (Unit {0}) ℕ) (m : ObjectMap) (id : ℕ) (command : Command) (kind_of_other : Option Kind) (old : Seen) → Some old ≡ finite.get m id
    → HasResult r (changed command kind_of_other old) → HasResult r (changed_in m id command kind_of_other)
put_answers r m id command kind_of_other old at is = subst (λ (f : Option Seen). HasResult r (changed_at m id command kind_of_other f)) at (answers_put r m id (changed command kind_of_other old) is)
