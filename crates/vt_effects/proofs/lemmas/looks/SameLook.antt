-- A command that keeps the look of its object keeps the look of the store.
use Rattle.std.proofs.Common.{◌≡◌, ℕ, eqb, Bool, true, false, ◌||◌, Option, Some, Result, Ok, refl, sym, ap, subst, ◌∙◌}
use Rattle.std.proofs.lemmas.Bool.{eqb-true}
use Rattle.std.specs.Option.{option_map}
use Rattle.std.specs.FinMap as finite
use Rattle.vt_kinds.specs.Records.{Seen, kind_of}
use Rattle.vt_commands.specs.declared.command.Command.{Command}
use Rattle.vt_stores.specs.Stores.{ObjectMap}
use Rattle.vt_effects.specs.Changes.{changed, left, other_id}
use Rattle.vt_effects.specs.Effects.{other_kind}
use Rattle.vt_effects.specs.Looks.{look, HaveSameLook, writes_unseen, writes_same, keeps_look, keeps_look_of, object_for, LooksAreKept}
use Rattle.vt_effects.proofs.lemmas.looks.SameValues.{object_stays}
use Rattle.vt_effects.proofs.lemmas.looks.UnseenFields.{look_stays}
use Rattle.vt_effects.proofs.lemmas.order.OrderAfterCommand.{by_effect}
use Rattle.vt_effects.proofs.lemmas.stores.ObjectBeforeAndAfter.{Changed, Made}
use Rattle.vt_effects.proofs.lemmas.stores.OneChangedObject.{get_there, get_other}

-- a changed object of the same look leaves the look of the store
looks_put : (m : ObjectMap) (id : ℕ) (old new : Seen) → finite.get m id ≡ Some old → look new ≡ look old → HaveSameLook m (finite.insert m id new)
looks_put m id old new at same q = by (eqb q id) refl
  where
    by : (b : Bool) → eqb q id ≡ b → option_map look (finite.get (finite.insert m id new) q) ≡ option_map look (finite.get m q)
    by true e =
        ap (option_map look) (get_there m id new q e) ∙ ap Some same
        ∙ sym (ap (option_map look) (ap (finite.get m) (eqb-true q id e) ∙ at))
    by false e = ap (option_map look) (get_other m id new q e)

one_of : (a b : Bool) {P : Type 0} → (a || b) ≡ true → (a ≡ true → P) → (b ≡ true → P) → P
one_of true b either left right = left refl
one_of false b either left right = right either

-- the object has the same look after a command that keeps it
look_is : (m : ObjectMap) (id : ℕ) (old new : Seen) (command : Command) → Changed m id old new command → keeps_look m command ≡ true → look new ≡ look old
look_is m id old new command c keeps =
    let made : look new ≡ look (left old (changed command (other_kind m (other_id command)) old)) =
    ap (λ (r : Result Seen ℕ). look (left old r)) (sym c.made) in
    let of : keeps_look_of command (Some old) ≡ true =
    ap (keeps_look_of command) (sym (ap (object_for m) c.for ∙ c.at)) ∙ keeps in
    one_of (writes_unseen command (kind_of old)) (writes_same command old) of
    (λ unseen. made ∙ look_stays command (other_kind m (other_id command)) old unseen)
    (λ same. made ∙ ap look (object_stays command (other_kind m (other_id command)) old same))

pub looks_are_kept : LooksAreKept
looks_are_kept m command keeps =
    by_effect (HaveSameLook m) m command (λ id. refl)
    (λ id old new made. looks_put m id old new made.at (look_is m id old new command made.change keeps))
