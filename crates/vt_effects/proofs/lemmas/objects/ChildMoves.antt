-- Moving the entries of a child one by one moves them all.
use Rattle.std.proofs.Common.{◌≡◌, ℕ, Bool, true, false, not, cond, List, length, Option, Some, None, is_some, Err, sym, ap, ◌∙◌}
use Rattle.vt_kinds.specs.declared.kind.Kind.{Kind}
use Rattle.vt_kinds.specs.declared.entries.Child.{Child}
use Rattle.vt_effects.specs.Changes.{left, if_passed, child_at, placed, moved_child, stands_in, leaves, move_child, change_position, change_location}
use Rattle.vt_effects.specs.Errors.{bit}
use Rattle.vt_effects.proofs.lemmas.objects.EntryChanges.{up_to, up_to_all}

pub placed_all : (kind_of_other : Option Kind) (entry : Child) (children now : List Child) (index : ℕ) → is_some kind_of_other ≡ true → stands_in entry.id children ≡ true
    → now ≡ up_to (child_at entry.id (placed entry.x entry.y)) index children → length children ≡ index
    → now ≡ left children (change_position kind_of_other entry.id entry.x entry.y children)
placed_all None entry children now index some stands are all = absurd cc
placed_all (Some kind) entry children now index some stands are all =
    are ∙ up_to_all (child_at entry.id (placed entry.x entry.y)) index children all
    ∙ sym (ap (λ (b : Bool). left children (if_passed b (bit 0) (move_child entry.id (placed entry.x entry.y) children))) stands)

pub shifted_all : (kind_of_other : Option Kind) (child dx dy : ℕ) (children now : List Child) (index : ℕ) → is_some kind_of_other ≡ true → stands_in child children ≡ true
    → leaves child dx dy children ≡ false → now ≡ up_to (child_at child (moved_child dx dy)) index children → length children ≡ index
    → now ≡ left children (change_location kind_of_other child dx dy children)
shifted_all None child dx dy children now index some stands stays are all = absurd cc
shifted_all (Some kind) child dx dy children now index some stands stays are all =
    are ∙ up_to_all (child_at child (moved_child dx dy)) index children all
    ∙ sym (ap (λ (b : Bool). left children (cond b (if_passed (not (leaves child dx dy children)) (bit 4) (move_child child (moved_child dx dy) children)) (Err (bit 0)))) stands
    ∙ ap (λ (b : Bool). left children (if_passed (not b) (bit 4) (move_child child (moved_child dx dy) children))) stays)
