-- No command changes the shape of a store.
use Rattle.std.proofs.Common.{◌≡◌, ◌+◌, ℕ, suc, cond, [], ◌∷◌, length, Option, Some, is_some, refl, sym, ap, ◌∙◌, arith}
use Rattle.std.proofs.lemmas.Option.{same_Some}
use Rattle.std.specs.Ordering.{nat_cmp, is_eq}
use Rattle.std.specs.Cmp.{nat_cmp_total}
use Rattle.std.specs.declared.cmp.Ordering.{Ordering}
use Rattle.std.specs.declared.cmp.Ordering.TheVariants.{Less, Equal, Greater}
use Rattle.std.specs.FinMap as finite
use Rattle.std.specs.FinMap.Entries.{by_order, length-put}
use Rattle.vt_commands.specs.declared.command.Command.{Command}
use Rattle.vt_kinds.specs.Records.{Seen}
use Rattle.vt_stores.specs.Stores.{ObjectMap, Objects, object_at}
use Rattle.vt_stores.specs.Shapes.{Shape, Fixed, fixed, shape_of}
use Rattle.vt_effects.specs.Effects.{after}
use Rattle.vt_effects.specs.Soundness.{shape_in}
use Rattle.vt_effects.proofs.lemmas.stores.ObjectBeforeAndAfter.{fixed_same}
use Rattle.vt_effects.proofs.lemmas.order.OrderAfterCommand.{by_effect}

shape_or : (k : ℕ) (v old : Seen) (e : ℕ × Seen) (es : Objects) (r : Ordering)
    → length (by_order r ((k, v) ∷ e ∷ es) ((e.0, v) ∷ es) (e ∷ finite.put nat_cmp k v es)) ≡ suc (length es) → cond (is_eq r) (Some e.1) (object_at es k) ≡ Some old
    → fixed v ≡ fixed old
    → (length (finite.put nat_cmp k v es) ≡ length es → object_at es k ≡ Some old → shape_of (finite.put nat_cmp k v es) ≡ shape_of es)
    → shape_of (by_order r ((k, v) ∷ e ∷ es) ((e.0, v) ∷ es) (e ∷ finite.put nat_cmp k v es)) ≡ shape_of (e ∷ es)
shape_or k v old e es Less long found same later = absurd (omega (arith, long))
shape_or k v old e es Equal long found same later =
    ap (λ (f : Fixed). (e.0, f) ∷ shape_of es) (same ∙ ap fixed (sym (same_Some e.1 old found)))
shape_or k v old e es Greater long found same later = ap (λ (s : Shape). (e.0, fixed e.1) ∷ s) (later (omega (arith, long)) found)

shape_put : (k : ℕ) (v old : Seen) (es : Objects) → length (finite.put nat_cmp k v es) ≡ length es → object_at es k ≡ Some old → fixed v ≡ fixed old
    → shape_of (finite.put nat_cmp k v es) ≡ shape_of es
shape_put k v old [] long found same = absurd cc
shape_put k v old (e ∷ es) long found same =
    shape_or k v old e es (nat_cmp k e.0) long found same (λ shorter there. shape_put k v old es shorter there same)

as_long : (m : ObjectMap) (id : ℕ) (old new : Seen) → object_at (finite.entries m) id ≡ Some old
    → length (finite.put nat_cmp id new (finite.entries m)) ≡ length (finite.entries m)
as_long m id old new found =
    length-put nat_cmp nat_cmp_total id new (finite.entries m) (finite.entries_sorted m)
    ∙ ap (λ (o : Option Seen). cond (is_some o) (length (finite.entries m)) (length (finite.entries m) + 1)) found

-- replacing an object by one with the same fixed part keeps the shape
pub shape_same : (m : ObjectMap) (id : ℕ) (old new : Seen) → finite.get m id ≡ Some old → fixed new ≡ fixed old → shape_in (finite.insert m id new) ≡ shape_in m
unfolding shape_in
shape_same m id old new at same =
    let found : object_at (finite.entries m) id ≡ Some old = sym (finite.get-entries m id) ∙ at in
    ap shape_of (finite.entries-insert nat_cmp_total m id new) ∙ shape_put id new old (finite.entries m) (as_long m id old new found) found same

pub shapes_stay : (m : ObjectMap) (command : Command) → shape_in (after m command) ≡ shape_in m
shapes_stay m command =
    by_effect (λ (n : ObjectMap). shape_in n ≡ shape_in m) m command refl
    (λ id old new c. shape_same m id old new c.at (fixed_same m id old new command c.change))
