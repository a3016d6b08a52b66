use Rattle.std.proofs.Common.{◌≡◌, ℕ, drop, map, None}
use Rattle.std.specs.List.{flat_map}
use Rattle.std.specs.Option.{option_map}
use Rattle.vt_stores.specs.Stores.{seen_entry}
use Rattle.vt_verify.specs.Lists.{first_failing}
use Rattle.vt_stores.specs.Shapes.{fixed, shape_of}
use Rattle.vt_verify.specs.Macros.{named_macro, is_whole, pieces, pieces_of}
use Rattle.vt_verify.specs.Targets.{piece_passes}
use Rattle.vt_verify.proofs.macros.failing_piece.Given as goal

abbrev pub invariant-loop-id : goal.invariant-loop-id
invariant-loop-id l =
    (map seen_entry l.id-items ≡ l.objects)
    × (first_failing is_whole (flat_map (λ e. named_macro (e.0, fixed e.1)) (map seen_entry (drop l.id-index l.id-items))) ≡ None)
    × (option_map {U = ℕ × ℕ} (λ p. (p.id, p.at)) (first_failing (piece_passes l.test (shape_of l.objects)) (pieces (shape_of l.objects)))
    ≡ option_map {U = ℕ × ℕ} (λ p. (p.id, p.at))
    (first_failing (piece_passes l.test (shape_of l.objects)) (flat_map (λ e. flat_map pieces_of (named_macro (e.0, fixed e.1))) (map seen_entry (drop l.id-index l.id-items)))))
